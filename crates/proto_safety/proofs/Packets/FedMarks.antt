-- Each mark is fed at most once.
use Rattle.std.proofs.Common.{◌≡◌, ℕ, ◌+◌, ◌≤◌, ◌≢◌, List, [], ◌∷◌, ◌++◌, arith, Bool, true, false, Some, inl, inr, refl, subst, eqb-true}
use Rattle.std.specs.Prelude.{◌==◌, if◌then◌else◌}
use Rattle.rp_base.specs.declared.node.Packet.{Packet}
use Rattle.rp_base.specs.declared.event.Event.{Event}
use Rattle.rp_app.specs.Application.{Application}
use Rattle.proto_model.specs.Feeds.{Each, Pairwise, fed_at}
use Rattle.proto_safety.specs.Books.{In}
use Rattle.proto_model.specs.World.{World, Setup, opened}
use Rattle.rp_base.specs.declared.legality.Fed.{Fed}
use Rattle.proto_model.specs.WorldStep.{world_after}
use Rattle.proto_safety.proofs.Inductions.Induction.{Keeps, run_kept}
use Rattle.proto_safety.proofs.Basics.Eachs.{each_append, each_weaker}
use Rattle.proto_safety.proofs.Basics.Pairs.{pairwise_push}

abbrev pub OtherMark : Fed → Fed → Type 0
OtherMark a b = a.packet.mark ≢ b.packet.mark

-- marks are at most the number of the last event, and differ
pub record MarksOnce (event : ℕ) (fed : List Fed) : Type 0 where
  pub within : Each (λ (f : Fed). f.packet.mark ≤ event) fed
  pub differ : Pairwise OtherMark fed

abbrev pub FedOnce : World → Type 0
FedOnce w = MarksOnce w.event w.history.fed

counted : (event : ℕ) (fed : List Fed) → MarksOnce event fed → MarksOnce (event + 1) fed
counted event fed h =
    record {
      within = each_weaker (λ (f : Fed). f.packet.mark ≤ event) (λ (f : Fed). f.packet.mark ≤ event + 1) fed (λ f le. omega arith) h.within;
      differ = h.differ;
    }

fed_once : (event : ℕ) (fed : List Fed) (p : Packet) → p.mark ≡ event + 1 → MarksOnce event fed → MarksOnce (event + 1) (fed ++ record { event = event + 1; packet = p } ∷ [])
fed_once event fed p mark h =
    record {
      within = each_append (λ (f : Fed). f.packet.mark ≤ event + 1) fed (record { event = event + 1; packet = p } ∷ []) (counted event fed h).within (omega arith, tt);
      differ = pairwise_push OtherMark fed (record { event = event + 1; packet = p }) h.differ
          (each_weaker (λ (f : Fed). f.packet.mark ≤ event) (λ (f : Fed). f.packet.mark ≢ p.mark) fed (λ f le e. omega arith) h.within);
    }

pub once_kept : (app : Application) → Keeps app FedOnce
once_kept app =
    record {
      counts = λ w h. counted w.event w.history.fed h;
      passes = λ w i h. h;
      feeds = λ w n node p at up mark h. fed_once w.event w.history.fed p mark h;
      switches = λ w n node input at up from h. h;
      replicas = λ w n node input at up from h. h;
      advances = λ w by fits h. h;
      stops_switch = λ w n fits h. h;
      stops_replica = λ w n fits h. h;
      boots = λ w n down h. h;
      detects_switch = λ w n fits h. h;
      detects_replica = λ w n fits h. h;
      announces = λ w h. h;
    }

pub marks_once : (app : Application) (setup : Setup) (es : List Event) → Pairwise OtherMark (world_after app (opened app.cell_count setup) es).history.fed
marks_once app setup es = (run_kept app FedOnce (once_kept app) es (opened app.cell_count setup) (record { within = tt; differ = tt })).differ

-- what fed_at finds
pub fed_found : (feeds : List Fed) (m : ℕ) (f : Fed) → fed_at feeds m ≡ Some f → In feeds f × (f.packet.mark ≡ m)
fed_found [] m f at = cc
fed_found (g ∷ gs) m f at = found_case (g.packet.mark == m) refl at (fed_found gs m f)
  where
    found_case : (b : Bool) → (g.packet.mark == m) ≡ b → (if b then Some g else fed_at gs m) ≡ Some f → (fed_at gs m ≡ Some f → In gs f × (f.packet.mark ≡ m)) → In (g ∷ gs) f × (f.packet.mark ≡ m)
    found_case true is at rest = let e : g ≡ f = cc in (inl e, subst (λ (x : Fed). x.packet.mark ≡ m) e (eqb-true g.packet.mark m is))
    found_case false is at rest = let r = rest at in (inr r.0, r.1)
