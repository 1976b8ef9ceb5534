-- The cells of every snapshot run whose terms hold: slots, rounds, chunks, the committed book, and the output of each item.
use Rattle.std.proofs.Common.{◌≡◌, ℕ, ◌≤◌, List, [], ◌∙◌, ap, subst}
use Rattle.rp_base.specs.Clocks.{TermsHold}
use Rattle.rp_base.specs.declared.event.Event.{Event}
use Rattle.proto_data.specs.declared.message.Msg.{Msg}
use Rattle.proto_data.specs.declared.message.Body.{Body}
use Rattle.proto_data.specs.declared.message.Entry.{Entry}
use Rattle.proto_data.specs.declared.terms.Mode.{Mode}
use Rattle.proto_data.specs.declared.terms.Terms.{Terms}
use Rattle.rp_app.specs.Application.{Application}
use Rattle.proto_model.specs.World.{World, Setup, SwitchNode, RoundBegun, opened}
use Rattle.proto_model.specs.WorldStep.{world_after}
use Rattle.proto_safety.specs.Books.{committed_of}
use Rattle.proto_safety.specs.LeaseLaws.{First}
use Rattle.proto_safety.specs.LossLaws.{SnapCells}
use Rattle.proto_safety.proofs.Serial.CellsGround.{entry_origin}
use Rattle.proto_safety.proofs.Packets.FedMarks.{FedOnce, once_kept}
use Rattle.proto_safety.proofs.Messages.FramesCarry.{FramesCarry, carry_kept}
use Rattle.proto_safety.proofs.Leasing.GroundsKept.{Standing, standing_kept}
use Rattle.proto_safety.proofs.Leasing.HandedKept.{Ending, ending_kept, opened_ending}
use Rattle.proto_safety.proofs.Legality.LegalRun.{some_firsts, firsts_given, opened_standing}
use Rattle.proto_safety.proofs.Leasing.NoCopies.{AllCopyless, copyless_kept, all_copyless}
use Rattle.proto_safety.proofs.Leasing.Over.{over_late}
use Rattle.proto_safety.proofs.Snapshots.SnapRounds.{snap_round}
use Rattle.proto_safety.proofs.Snapshots.SnapSlots.{SnapTable, SnapSays}
use Rattle.proto_safety.proofs.Nodes.SwitchNodes.{all_opened}
use Rattle.proto_safety.proofs.Snapshots.WorldSnaps.{SnapFacts, Snaps, snaps_kept}
use Rattle.proto_safety.proofs.Inductions.Induction.{Keeps, keeps_all, keeps_both, run_kept}
use Rattle.proto_safety.proofs.Basics.Eachs.{each_all, each_in}
use Rattle.proto_safety.proofs.Basics.Lists.{none_before}

-- the world's mode
abbrev pub IsMode : Mode → World → Type 0
IsMode mode w = w.terms.mode ≡ mode

mode_kept : (app : Application) (mode : Mode) → Keeps app (IsMode mode)
mode_kept app mode =
    record {
      counts = λ w h. h;
      passes = λ w i h. h;
      feeds = λ w n node p at up mark h. h;
      switches = λ w n node input at up from h. h;
      replicas = λ w n node input at up from h. h;
      advances = λ w by fits h. h;
      stops_switch = λ w n fits h. h;
      stops_replica = λ w n fits h. h;
      boots = λ w n fits h. h;
      detects_switch = λ w n fits h. h;
      detects_replica = λ w n fits h. h;
      announces = λ w h. h;
    }

-- all but the ends of leases
abbrev pub Based : Application → ℕ → World → Type 0
Based app bound w = Standing app w × ((FedOnce w × FramesCarry app w) × (AllCopyless app w × IsMode (Mode.Snapshot bound) w))

based_kept : (app : Application) (bound : ℕ) → Keeps app (Based app bound)
based_kept app bound =
    keeps_all app (Standing app) (λ w. (FedOnce w × FramesCarry app w) × (AllCopyless app w × IsMode (Mode.Snapshot bound) w)) (standing_kept app)
    (keeps_all app (λ w. FedOnce w × FramesCarry app w) (λ w. AllCopyless app w × IsMode (Mode.Snapshot bound) w) (keeps_both app FedOnce (FramesCarry app) (once_kept app) (carry_kept app))
    (keeps_all app (AllCopyless app) (IsMode (Mode.Snapshot bound)) (copyless_kept app) (mode_kept app (Mode.Snapshot bound))))

-- with the first sendings on which the ends of leases rest
abbrev pub Ended : Application → ℕ → World → Type 0
Ended app bound w = Based app bound w × ((fs : List First) × Ending fs w)

ended_kept : (app : Application) (bound : ℕ) → Keeps app (Ended app bound)
ended_kept app bound =
    keeps_both app (Based app bound) (λ w. (fs : List First) × Ending fs w) (based_kept app bound) (some_firsts app (Based app bound) Ending (firsts_given app (Based app bound) (Standing app) Ending (λ w h. h.0) (ending_kept app)))

pub snap_facts : (app : Application) (bound : ℕ) (w : World) → Ended app bound w → SnapFacts app bound w
snap_facts app bound w h =
    record {
      settled = h.0.0.0;
      ends = over_late app.cell_count w h.1.0 h.0.0.0.0 h.1.1.1.0 h.1.1.0.1;
      copyless = h.0.1.1.0;
      modes = λ n node at. ap (λ (t : Terms). t.mode) (h.0.0.0.0.1.1.switches n node at) ∙ h.0.1.1.1;
      once = h.0.1.0.0;
      carried = h.0.1.0.1;
    }

-- with the cells
abbrev pub Celled : Application → ℕ → World → Type 0
Celled app bound w = Ended app bound w × Snaps app w

pub celled_kept : (app : Application) (bound : ℕ) → Keeps app (Celled app bound)
celled_kept app bound = keeps_both app (Ended app bound) (Snaps app) (ended_kept app bound) (snaps_kept app bound (Ended app bound) (ended_kept app bound) (snap_facts app bound))

opened_snaps : (app : Application) (setup : Setup) → Snaps app (opened app.cell_count setup)
opened_snaps app setup =
    record {
      slots = all_opened (λ n (node : SwitchNode). SnapTable app [] (committed_of (opened app.cell_count setup).replicas) [] [] node.state.slots) setup (λ n key slot e found leased. cc);
      says = tt;
      made = λ key e. record { at = λ pre j post is. absurd (none_before pre post j is) };
      turns = tt;
      within = tt;
      begun = λ q i. absurd i;
    }

-- what is kept, as it is stated
pub cells_of_snaps : (app : Application) (bound : ℕ) (w : World) → Ended app bound w → Snaps app w → SnapCells app w
cells_of_snaps app bound w e h =
    let f = snap_facts app bound w e in
    record {
      slots = λ n epoch key node slot l. h.slots n node l.slot_is.at key slot epoch l.slot_is.found l.leased;
      frames = λ m inc epoch number chunk chunks key part i is.
          (subst (λ (b : Body). SnapSays app w.history.fed (committed_of w.replicas) w.history.items w.history.rounds b) is (each_in (λ (m : Msg). SnapSays app w.history.fed (committed_of w.replicas) w.history.items w.history.rounds m.body) w.frames m h.says i)).0;
      entries = λ key epoch number cells i.
          snap_round app w.history.fed (committed_of w.replicas) w.history.items w.history.rounds w.frames h.says key epoch number cells (entry_origin app w f.settled f.ends (Entry.Snap key epoch number cells) i);
      begun = each_all (λ (b : RoundBegun). 1 ≤ b.begun.round) w.history.rounds (λ b i. (h.begun b i).0);
      turns = h.turns;
      within = h.within;
    }

module _ (app : Application) (setup : Setup) (bound : ℕ) (mode : setup.terms.mode ≡ Mode.Snapshot bound) (hold : TermsHold setup.terms.t_switch setup.terms.t_store setup.terms.ratio) where
  start : Ended app bound (opened app.cell_count setup)
  start = ((opened_standing app setup, ((record { within = tt; differ = tt }, tt), (all_copyless app setup [], mode))), ([], opened_ending app setup hold))

  pub celled_after : (events : List Event) → Celled app bound (world_after app (opened app.cell_count setup) events)
  celled_after events = run_kept app (Celled app bound) (celled_kept app bound) events (opened app.cell_count setup) (start, opened_snaps app setup)

  pub snapshot_cells : (events : List Event) → SnapCells app (world_after app (opened app.cell_count setup) events)
  snapshot_cells events = let h = celled_after events in cells_of_snaps app bound (world_after app (opened app.cell_count setup) events) h.0 h.1
