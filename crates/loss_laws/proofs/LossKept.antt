-- What bounded losses rest on, kept all at once: so it holds after every run, over a link too.
use Rattle.std.proofs.Common.{◌≡◌, ◌≢◌, ℕ, ◌≤◌, List, []}
use Rattle.rp_base.specs.Clocks.{TermsHold}
use Rattle.rp_base.specs.declared.event.Event.{Event}
use Rattle.rp_base.specs.declared.legality.Released.{Released}
use Rattle.proto_data.specs.declared.message.Msg.{Msg}
use Rattle.proto_data.specs.declared.terms.Mode.{Mode}
use Rattle.rp_app.specs.Application.{Application, IsApplication}
use Rattle.proto_model.specs.Loss.{IsBounded}
use Rattle.proto_model.specs.World.{World, Setup, Journaled, opened}
use Rattle.proto_model.specs.Feeds.{Pairwise}
use Rattle.proto_model.specs.Pumping.{Received, linked_run}
use Rattle.proto_model.specs.WorldStep.{world_after}
use Rattle.proto_safety.specs.LossLaws.{HistoryStands, LossesBounded}
use Rattle.proto_safety.proofs.Basics.Pairs.{pairwise_unmapped}
use Rattle.proto_safety.proofs.Inductions.Induction.{Keeps, keeps_all, keeps_both, run_kept}
use Rattle.proto_safety.proofs.Legality.ReleasedLate.{Late, Marked, late_kept, marked_kept}
use Rattle.proto_safety.proofs.Link.LinkedKept.{linked_kept}
use Rattle.proto_safety.proofs.Packets.WorldMarks.{opened_marks}
use Rattle.proto_safety.proofs.Serial.SlotCells.{all_counted}
use Rattle.proto_safety.proofs.Snapshots.LossNow.{history_stands}
use Rattle.proto_safety.proofs.Snapshots.LossRun.{Showing, showing_after, showing_kept}
use Rattle.loss_laws.proofs.RecentRun.{Aged, ages_stand_at, bounded_now, opened_recent, recent_kept}
use Rattle.loss_laws.proofs.RecentStep.{Recents}

module _ (app : Application) (is : IsApplication app) (bound : ℕ) where
  -- ages that cover what no done round has, what was released, and marks that weren't released before they were fed
  abbrev pub Losing : World → Type 0
  Losing w = (Aged app bound w × Recents bound w) × (Showing app bound w × (Marked app w × Late w))

  pub losing_kept : Keeps app Losing
  losing_kept =
      keeps_all app (λ w. Aged app bound w × Recents bound w) (λ w. Showing app bound w × (Marked app w × Late w))
      (recent_kept app bound)
      (keeps_all app (Showing app bound) (λ w. Marked app w × Late w) (showing_kept app bound is) (keeps_both app (Marked app) Late (marked_kept app is) (late_kept app is)))

  pub opened_losing : (setup : Setup) → setup.terms.mode ≡ Mode.Snapshot bound → TermsHold setup.terms.t_switch setup.terms.t_store setup.terms.ratio → Losing (opened app.cell_count setup)
  opened_losing setup mode hold = (
    opened_recent app setup bound mode hold,
    (showing_after app is setup bound mode hold [], (((all_counted app setup [], record { within = tt; differ = tt }), opened_marks app setup), record { fed = tt; released = tt })),
  )

  -- no mark is released twice
  pub released_apart : (w : World) → Losing w → Pairwise (λ (a b : Released). a.output.mark ≢ b.output.mark) w.history.released
  released_apart w h = pairwise_unmapped (λ a b. a ≢ b) (λ (r : Released). r.output.mark) w.history.released h.1.1.0.1.released_once

  pub history_of : (w : World) → Losing w → HistoryStands app w
  history_of w h =
      history_stands app bound w h.1.0.0.0.0 h.1.0.0.0.1 h.1.0.1 (pairwise_unmapped (λ a b. a ≢ b) (λ (j : Journaled). j.item.mark) w.history.items h.1.1.0.1.items_once) (released_apart w h)

  pub losing_bounded : 1 ≤ bound → (w : World) → Losing w → IsBounded app bound w
  losing_bounded some w h = bounded_now app bound some w (history_of w h) (ages_stand_at bound w h.0.0.1 h.0.1)

pub losses_bounded : (app : Application) (setup : Setup) (bound : ℕ) → LossesBounded app setup bound
losses_bounded app setup bound is mode some hold events =
    losing_bounded app is bound some (world_after app (opened app.cell_count setup) events)
    (run_kept app (Losing app is bound) (losing_kept app is bound) events (opened app.cell_count setup) (opened_losing app is bound setup mode hold))

pub linked_losses_bounded : (app : Application) → IsApplication app → (spelled : Msg → List ℕ) (setup : Setup) (bound : ℕ) → setup.terms.mode ≡ Mode.Snapshot bound → 1 ≤ bound → TermsHold setup.terms.t_switch setup.terms.t_store setup.terms.ratio →
    (events : List Event) (received : List Received) → IsBounded app bound (linked_run spelled app setup events received).world
linked_losses_bounded app is spelled setup bound mode some hold events received =
    losing_bounded app is bound some (linked_run spelled app setup events received).world
    (linked_kept spelled app (Losing app is bound) (losing_kept app is bound) setup events received (opened_losing app is bound setup mode hold))
