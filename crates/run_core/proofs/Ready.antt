-- The cells and the events of a schedule that is read fit its run.
use Rattle.std.proofs.Common.{◌≡◌, ◌≤◌, ℕ, Bool, true, false, Option, Some, None, nat_lt, arith}
use Rattle.std.proofs.lemmas.Bool.{ltb-false}
use Rattle.std.specs.Prelude.{All, if◌then◌else◌}
use Rattle.rp_base.specs.declared.event.Event.{Event}
use Rattle.proto_model.specs.World.{Setup}
use Rattle.rp_world.specs.AppWorld.{CellsFit, IsEventOf}
use Rattle.sched_lang.specs.declared.schedule.Schedule.{Schedule}
use Rattle.sched_lang.specs.declared.schedule.SchedWhy.{SchedWhy}
use Rattle.sched_lang.specs.declared.schedule.SchedWhy.TheVariants as why
use Rattle.sched_lang.specs.Ready.{IsReady, IsEventOf as IsEventIn}
use Rattle.run_core.specs.declared.loading.Machine.{Machine}
use Rattle.run_core.specs.Outcomes.{mode_fault, mode_of, setup_of}

room : (b : Bool) (cause : SchedWhy) → (if b then Some cause else None) ≡ None → b ≡ false
room true cause e = absurd cc
room false cause e = refl_false
  where
    refl_false : false ≡ false
    refl_false = λ i. false

-- as many cells as a machine takes fit the mode
pub cells_fit : (snapshot : Option ℕ) (cells : ℕ) → cells ≤ 256 → mode_fault Machine.World cells snapshot ≡ None → CellsFit (mode_of snapshot) cells
cells_fit None cells all e = ltb-false 32 cells (room (nat_lt 32 cells) why.Cells e)
cells_fit (Some bound) cells all e = all

event_ready : (setup : Setup) (e : Event) → IsEventIn setup.switches setup.replicas e → IsEventOf setup e
event_ready setup (Event.Feed port bytes) h = h
event_ready setup (Event.FeedAt n port bytes) h = h.1
event_ready setup (Event.Deliver i) h = tt
event_ready setup Event.Next h = tt
event_ready setup (Event.Drop i) h = tt
event_ready setup (Event.Time by) h = h
event_ready setup (Event.Alarm node) h = tt
event_ready setup (Event.Fail node) h = tt
event_ready setup (Event.Boot n) h = tt
event_ready setup (Event.Detect node) h = tt
event_ready setup Event.Announce h = tt
event_ready setup Event.Pump h = tt

pub events_ready : (s : Schedule) → IsReady s → All (IsEventOf (setup_of s)) s.events
events_ready s h i d lt = event_ready (setup_of s) _ (h.events i d lt)
