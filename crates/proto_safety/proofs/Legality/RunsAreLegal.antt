-- After every list of events the history of a strict run is legal, over a link too: what that rests on is kept, all at once.
use Rattle.std.proofs.Common.{◌≡◌, ℕ, List, []}
use Rattle.rp_base.specs.Clocks.{TermsHold}
use Rattle.rp_base.specs.declared.event.Event.{Event}
use Rattle.proto_data.specs.declared.message.Msg.{Msg}
use Rattle.proto_data.specs.declared.terms.Mode.{Mode}
use Rattle.rp_app.specs.Application.{Application, IsApplication}
use Rattle.proto_model.specs.Legal.{IsLegal}
use Rattle.proto_model.specs.Pumping.{Received, linked_run}
use Rattle.proto_model.specs.World.{World, Setup, opened}
use Rattle.proto_model.specs.WorldStep.{world_after}
use Rattle.proto_safety.specs.LeaseLaws.{First}
use Rattle.proto_safety.proofs.Serial.CellsGround.{OverLate}
use Rattle.proto_safety.proofs.Leasing.HandedKept.{Ending, ending_kept, ends_leases, opened_ending}
use Rattle.proto_safety.proofs.Inductions.Induction.{Keeps, KeepsGiven, keeps_all, keeps_both, run_kept}
use Rattle.proto_safety.proofs.Legality.LegalRun.{Laid, Lawful, lawful_kept, legal_at, some_firsts, firsts_given, laid_stands, opened_laid, opened_cells, opened_shown, opened_order}
use Rattle.proto_safety.proofs.Link.LinkedKept.{linked_kept}
use Rattle.proto_safety.proofs.Legality.ReleasedLate.{Late, Marked, marked_kept, late_kept}
use Rattle.proto_safety.proofs.Serial.SlotCells.{all_counted}
use Rattle.proto_safety.proofs.Packets.WorldMarks.{opened_marks}
use Rattle.proto_safety.proofs.Leasing.GroundsKept.{Standing}

module _ (app : Application) (is : IsApplication app) where
  abbrev pub Ends : World → Type 0
  Ends w = (fs : List First) × Ending fs w

  pub ends_kept : KeepsGiven app (Laid app) Ends
  ends_kept = some_firsts app (Laid app) Ending (firsts_given app (Laid app) (Standing app) Ending (laid_stands app) (ending_kept app))

  pub over : (w : World) → Laid app w → Ends w → OverLate w
  over w l h = ends_leases app w h.0 l h.1

  abbrev pub Whole : World → Type 0
  Whole w = Lawful app is Ends ends_kept over w × (Marked app w × Late w)

  pub whole_kept : Keeps app Whole
  whole_kept = keeps_all app (Lawful app is Ends ends_kept over) (λ w. Marked app w × Late w) (lawful_kept app is Ends ends_kept over) (keeps_both app (Marked app) Late (marked_kept app is) (late_kept app is))

  pub opened_all : (setup : Setup) → setup.terms.mode ≡ Mode.Strict → TermsHold setup.terms.t_switch setup.terms.t_store setup.terms.ratio → Whole (opened app.cell_count setup)
  opened_all setup strict hold = (
    (((((opened_laid app setup strict, ([], opened_ending app setup hold)), opened_cells app setup), opened_shown app setup), opened_order app setup)),
    (((all_counted app setup [], record { within = tt; differ = tt }), opened_marks app setup), record { fed = tt; released = tt }),
  )

  pub whole_legal : (w : World) → Whole w → IsLegal app w
  whole_legal w h = legal_at app is Ends ends_kept over w h.0 h.1.0.1 h.1.1

  pub runs_are_legal : (setup : Setup) → setup.terms.mode ≡ Mode.Strict → TermsHold setup.terms.t_switch setup.terms.t_store setup.terms.ratio → (events : List Event) →
      IsLegal app (world_after app (opened app.cell_count setup) events)
  runs_are_legal setup strict hold events =
      whole_legal (world_after app (opened app.cell_count setup) events) (run_kept app Whole whole_kept events (opened app.cell_count setup) (opened_all setup strict hold))

  pub linked_runs_are_legal : (spelled : Msg → List ℕ) (setup : Setup) → setup.terms.mode ≡ Mode.Strict → TermsHold setup.terms.t_switch setup.terms.t_store setup.terms.ratio → (events : List Event) (received : List Received) →
      IsLegal app (linked_run spelled app setup events received).world
  linked_runs_are_legal spelled setup strict hold events received =
      whole_legal (linked_run spelled app setup events received).world (linked_kept spelled app Whole whole_kept setup events received (opened_all setup strict hold))
