-- What the histories of snapshot runs keep to, after every list of events.
use Rattle.std.proofs.Common.{◌≡◌, ◌≢◌, ℕ, List, []}
use Rattle.rp_base.specs.Clocks.{TermsHold}
use Rattle.rp_base.specs.declared.event.Event.{Event}
use Rattle.proto_data.specs.declared.terms.Mode.{Mode}
use Rattle.rp_app.specs.Application.{Application, IsApplication}
use Rattle.proto_model.specs.World.{World, Setup, Journaled, opened}
use Rattle.rp_base.specs.declared.legality.Released.{Released}
use Rattle.proto_model.specs.WorldStep.{world_after}
use Rattle.proto_safety.specs.LossLaws.{HistoryStands}
use Rattle.proto_safety.proofs.Serial.SlotCells.{AllCounted, counted_kept, all_counted}
use Rattle.proto_safety.proofs.Snapshots.LossNow.{history_stands}
use Rattle.proto_safety.proofs.Packets.MarksStand.{marks_stand, released_once}
use Rattle.proto_safety.proofs.Snapshots.SnapRun.{Celled, celled_kept, celled_after}
use Rattle.proto_safety.proofs.Snapshots.SnapShown.{Shows, shows_kept}
use Rattle.proto_safety.proofs.Inductions.Induction.{Keeps, keeps_all, keeps_both, run_kept}
use Rattle.proto_safety.proofs.Basics.Pairs.{pairwise_unmapped}

-- cells, with so many in each slot
abbrev pub Measured : Application → ℕ → World → Type 0
Measured app bound w = Celled app bound w × AllCounted app w

pub measured_kept : (app : Application) (bound : ℕ) → Keeps app (Measured app bound)
measured_kept app bound = keeps_all app (Celled app bound) (AllCounted app) (celled_kept app bound) (counted_kept app)

-- and what was released
abbrev pub Showing : Application → ℕ → World → Type 0
Showing app bound w = Measured app bound w × Shows app w

pub showing_kept : (app : Application) (bound : ℕ) → IsApplication app → Keeps app (Showing app bound)
showing_kept app bound is = keeps_both app (Measured app bound) (Shows app) (measured_kept app bound) (shows_kept app bound is)

module _ (app : Application) (is : IsApplication app) (setup : Setup) (bound : ℕ) (mode : setup.terms.mode ≡ Mode.Snapshot bound) (hold : TermsHold setup.terms.t_switch setup.terms.t_store setup.terms.ratio) where
  pub showing_after : (events : List Event) → Showing app bound (world_after app (opened app.cell_count setup) events)
  showing_after events =
      run_kept app (Showing app bound) (showing_kept app bound is) events (opened app.cell_count setup) (
        (celled_after app setup bound mode hold [], all_counted app setup []),
        record { within = tt; items_within = tt; turns = tt; fed_first = λ j i. absurd i; shown = λ r i. absurd i },
      )

  pub histories_stand : (events : List Event) → HistoryStands app (world_after app (opened app.cell_count setup) events)
  histories_stand events =
      let h = showing_after events in
      history_stands app bound (world_after app (opened app.cell_count setup) events) h.0.0.0 h.0.0.1 h.1
      (pairwise_unmapped (λ a b. a ≢ b) (λ (j : Journaled). j.item.mark) _ (marks_stand app is setup events).once_in_journals)
      (pairwise_unmapped (λ a b. a ≢ b) (λ (r : Released). r.output.mark) _ (released_once app is setup events))
