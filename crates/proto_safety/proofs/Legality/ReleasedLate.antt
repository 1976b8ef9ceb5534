-- No packet is released before it was fed.
use Rattle.std.proofs.Common.{◌≡◌, ℕ, ◌+◌, ◌≤◌, ◌<◌, List, [], ◌∷◌, ◌++◌, Option, Some, None, arith, sym, ap, map, inl, inr}
use Rattle.rp_base.specs.declared.node.Output.{Output}
use Rattle.rp_base.specs.declared.event.Event.{Event}
use Rattle.proto_data.specs.declared.message.Input.{Input}
use Rattle.rp_app.specs.Application.{Application, IsApplication}
use Rattle.proto_model.specs.Effects.{added, switch_moved}
use Rattle.proto_model.specs.Feeds.{Each}
use Rattle.proto_model.specs.Legal.{ReleasedBefore}
use Rattle.proto_model.specs.SwitchRows.{switch_step}
use Rattle.proto_model.specs.World.{World, Setup, opened}
use Rattle.rp_base.specs.declared.legality.Fed.{Fed}
use Rattle.rp_base.specs.declared.legality.Released.{Released}
use Rattle.proto_model.specs.WorldStep.{world_after}
use Rattle.proto_safety.specs.Books.{In}
use Rattle.proto_safety.proofs.Inductions.Induction.{Keeps, KeepsGiven, with_fed, keeps_both, run_kept}
use Rattle.proto_safety.proofs.Packets.FedMarks.{fed_found}
use Rattle.proto_safety.proofs.Serial.SlotCells.{all_counted}
use Rattle.proto_safety.proofs.Packets.WorldMarks.{MarksOf, HasFed, Given, given_kept, marks_kept, opened_marks}
use Rattle.proto_safety.proofs.Basics.Eachs.{each_append, each_in}
use Rattle.proto_safety.proofs.Basics.Members.{among_in, in_last}

-- feeds have the numbers of their events, and each mark was released at its own event or later
pub record Late (w : World) : Type 0 where
  pub fed : Each (λ (f : Fed). f.event ≡ f.packet.mark) w.history.fed
  pub released : Each (λ (r : Released). r.output.mark ≤ r.event) w.history.released

-- what is known of marks
abbrev pub Marked : Application → World → Type 0
Marked app w = Given app w × MarksOf w

pub marked_kept : (app : Application) → IsApplication app → Keeps app (Marked app)
marked_kept app is = keeps_both app (Given app) MarksOf (given_kept app) (marks_kept app is)

in_released : (rs : List Released) (r : Released) → In rs r → In (map (λ (r : Released). r.output.mark) rs) r.output.mark
in_released [] r i = absurd i
in_released (x ∷ xs) r (inl e) = inl (ap (λ (r : Released). r.output.mark) e)
in_released (x ∷ xs) r (inr i) = inr (in_released xs r i)

-- a released mark is at most the number of the present event
mark_within : (app : Application) (w : World) → Marked app w → (r : Released) → In w.history.released r → r.output.mark ≤ w.event
mark_within app w m r i =
    let f : HasFed w.history.fed r.output.mark = m.1.release_fed r.output.mark (in_released w.history.released r i) in
    omega (arith, each_in (λ (x : Fed). x.packet.mark ≤ w.event) w.history.fed f.0 m.0.1.within f.1, f.2)

-- what is released at the present event
released_now : (event : ℕ) (rs : List Released) (o : Option Output) → ((r : Released) → In (rs ++ added (λ (o : Output). record { event = event; output = o }) o) r → r.output.mark ≤ event) →
    Each (λ (r : Released). r.output.mark ≤ r.event) rs → Each (λ (r : Released). r.output.mark ≤ r.event) (rs ++ added (λ (o : Output). record { event = event; output = o }) o)
released_now event rs None h old = each_append (λ (r : Released). r.output.mark ≤ r.event) rs [] old tt
released_now event rs (Some o) h old =
    each_append (λ (r : Released). r.output.mark ≤ r.event) rs (record { event = event; output = o } ∷ []) old
    (h (record { event = event; output = o }) (in_last rs (record { event = event; output = o })), tt)

pub late_kept : (app : Application) → IsApplication app → KeepsGiven app (Marked app) Late
late_kept app is =
    record {
      counts = λ w i h. record { fed = h.fed; released = h.released };
      passes = λ w n i h. record { fed = h.fed; released = h.released };
      feeds = λ w n node p at up mark i h.
          let step = switch_step app node.state node.clock (Input.Packet p) in
          record {
            fed = each_append (λ (f : Fed). f.event ≡ f.packet.mark) w.history.fed (record { event = w.event + 1; packet = p } ∷ []) h.fed (sym mark, tt);
            released = released_now (w.event + 1) w.history.released step.1.released
                (mark_within app (switch_moved (with_fed w p) n node (switch_step app node.state node.clock (Input.Packet p))) ((marked_kept app is).feeds w n node p at up mark i)) h.released;
          };
      switches = λ w n node input at up from i h.
          record {
            fed = h.fed;
            released = released_now w.event w.history.released (switch_step app node.state node.clock input).1.released
                (mark_within app (switch_moved w n node (switch_step app node.state node.clock input)) ((marked_kept app is).switches w n node input at up from i)) h.released;
          };
      replicas = λ w n node input at up from i h. record { fed = h.fed; released = h.released };
      advances = λ w by fits i h. record { fed = h.fed; released = h.released };
      stops_switch = λ w n fits i h. record { fed = h.fed; released = h.released };
      stops_replica = λ w n fits i h. record { fed = h.fed; released = h.released };
      boots = λ w n fits i h. record { fed = h.fed; released = h.released };
      detects_switch = λ w n fits i h. record { fed = h.fed; released = h.released };
      detects_replica = λ w n fits i h. record { fed = h.fed; released = h.released };
      announces = λ w i h. record { fed = h.fed; released = h.released };
    }

pub late : (app : Application) → IsApplication app → (setup : Setup) (events : List Event) → Late (world_after app (opened app.cell_count setup) events)
late app is setup events =
    (run_kept app (λ w. Marked app w × Late w) (keeps_both app (Marked app) Late (marked_kept app is) (late_kept app is)) events (opened app.cell_count setup)
    (((all_counted app setup [], record { within = tt; differ = tt }), opened_marks app setup), record { fed = tt; released = tt })).1

-- no mark was released before it was fed
pub none_early_in : (w : World) → Late w → (m : ℕ) → ¬ ReleasedBefore w.history.fed w.history.released m m
none_early_in w l m x =
    let g = fed_found w.history.fed m x.1 x.3 in
    let fed : x.1.event ≡ x.1.packet.mark = each_in (λ (f : Fed). f.event ≡ f.packet.mark) w.history.fed x.1 l.fed g.0 in
    let released : x.0.output.mark ≤ x.0.event = each_in (λ (r : Released). r.output.mark ≤ r.event) w.history.released x.0 l.released (among_in w.history.released x.0 x.2) in
    let mark : x.1.packet.mark ≡ m = g.1 in
    let same : x.0.output.mark ≡ m = x.4 in
    let lt : x.0.event < x.1.event = x.5 in absurd (omega arith)

pub none_early : (app : Application) → IsApplication app → (setup : Setup) (events : List Event) (m : ℕ) →
    ¬ ReleasedBefore (world_after app (opened app.cell_count setup) events).history.fed (world_after app (opened app.cell_count setup) events).history.released m m
none_early app is setup events m = none_early_in (world_after app (opened app.cell_count setup) events) (late app is setup events) m
