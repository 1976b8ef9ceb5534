-- What the protocol promises of leases, over every run whose terms hold.
use Rattle.std.proofs.Common.{◌≡◌, ℕ, List, [], sym, ◌∙◌, subst}
use Rattle.rp_base.specs.Clocks.{TermsHold}
use Rattle.rp_base.specs.declared.event.Event.{Event}
use Rattle.rp_app.specs.Application.{Application}
use Rattle.key_table.specs.Table.{Key}
use Rattle.proto_model.specs.World.{World, Setup, opened}
use Rattle.proto_model.specs.WorldStep.{world_after}
use Rattle.proto_safety.specs.Firsts.{firsts_of}
use Rattle.proto_safety.specs.LeaseLaws.{First, AskOf, NumberOf, Leases}
use Rattle.proto_safety.specs.Origins.{AskSent}
use Rattle.proto_safety.specs.Flows.{FitsFrom}
use Rattle.proto_safety.proofs.Store.BookEpochLaws.{is_granted}
use Rattle.proto_safety.proofs.Store.BookEpochs.{granted_before}
use Rattle.proto_data.specs.declared.message.Entry.{Entry}
use Rattle.std.proofs.Common.{◌∷◌, ◌++◌, ◌+◌, None}
use Rattle.proto_safety.proofs.Serial.CellsGround.{OverLate}
use Rattle.proto_safety.proofs.Inductions.FirstsInduction.{firsts_kept}
use Rattle.proto_safety.proofs.Leasing.Ground.{known_of}
use Rattle.proto_safety.proofs.Leasing.GroundsKept.{Standing, standing_kept}
use Rattle.proto_safety.proofs.Leasing.HandedKept.{Ending, ending_kept, opened_ending}
use Rattle.proto_safety.proofs.Inductions.Induction.{run_kept}
use Rattle.proto_safety.proofs.Legality.LegalRun.{opened_standing}
use Rattle.proto_safety.proofs.Leasing.Over.{over_late}
use Rattle.proto_safety.proofs.Leasing.WorldFirsts.{WasSent, by_ask, by_put}
use Rattle.proto_safety.proofs.Messages.WorldNonces.{greatest_ask}

-- a first sending of an Ask was sent in an Ask
ask_sent : (w : World) (f : First) (n inc nonce : ℕ) (key : Key) → f.switch ≡ n → f.key ≡ key → f.request ≡ AskOf inc nonce → WasSent w.frames f → AskSent w.frames n inc nonce key
ask_sent w f n inc nonce key s k r (by_ask {inc = i} {nonce = j} is a) =
    let e : AskOf i j ≡ AskOf inc nonce = sym is ∙ r in
    let inc_is : i ≡ inc = cc in
    let nonce_is : j ≡ nonce = cc in
    subst (λ (x : ℕ). AskSent w.frames x inc nonce key) s (subst (λ (x : Key). AskSent w.frames f.switch inc nonce x) k (subst (λ (x : ℕ). AskSent w.frames f.switch x nonce f.key) inc_is (subst (λ (x : ℕ). AskSent w.frames f.switch i x f.key) nonce_is a)))
ask_sent w f n inc nonce key s k r (by_put {epoch = e} {number = m} is p) = let no : NumberOf e m ≡ AskOf inc nonce = sym is ∙ r in absurd cc

pub leases_now : (app : Application) (w : World) (fs : List First) → Standing app w → Ending fs w → Leases fs w
leases_now app w fs g h =
    let ends : OverLate w = over_late app.cell_count w fs g.0.0 h.1.0 h.0.1 in
    record {
      aged = h.0.0.aged;
      grounded = λ n key node slot s. h.0.1 n node key slot s.at s.found;
      greatest = λ n inc nonce k key node slot f s has i of at request.
          greatest_ask w n inc nonce k key node g.0.0.1.0.1 s.at (record { slot = slot; found = s.found; nonce = has }) (ask_sent w f n inc nonce key of at request (h.0.0.sent f i));
      handed = λ key epoch switch inc nonce before some o.
          let fits : FitsFrom app.cell_count key None (before ++ Entry.Grant key (epoch + 1) switch inc nonce ∷ o.behind) = subst (λ l. FitsFrom app.cell_count key None l) o.book_is ((known_of app.cell_count w g.0.0).fits o.replica o.node key o.at) in
          let old = is_granted before key epoch (granted_before app.cell_count key before o.behind epoch switch inc nonce fits some) in
          (old, h.1.0 o.replica o.node o.at key epoch old.switch old.inc old.nonce switch inc nonce before o.behind o.book_is old.there);
      over = ends.over;
      late = ends.late;
    }

-- ---- every run

module _ (app : Application) (setup : Setup) (hold : TermsHold setup.terms.t_switch setup.terms.t_store setup.terms.ratio) where
  start : Standing app (opened app.cell_count setup)
  start = opened_standing app setup

  -- what ends leases is kept with the first sendings of the run
  ending_after : (events : List Event) → Ending (firsts_of app setup events) (world_after app (opened app.cell_count setup) events)
  ending_after events = firsts_kept app (Standing app) Ending (standing_kept app) (ending_kept app) events (opened app.cell_count setup) [] start (opened_ending app setup hold)

  pub leases_hold : (events : List Event) → Leases (firsts_of app setup events) (world_after app (opened app.cell_count setup) events)
  leases_hold events =
      leases_now app (world_after app (opened app.cell_count setup) events) (firsts_of app setup events) (run_kept app (Standing app) (standing_kept app) events (opened app.cell_count setup) start) (ending_after events)
