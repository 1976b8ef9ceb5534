-- A world whose cursors went on is the same world, and is kept to.
use Rattle.std.proofs.Common.{◌≡◌, ◌<◌, ◌+◌, List, ap, sym, ◌∙◌, subst, Result, Ok, Err, IfOk, OnOk}
use Rattle.rp_base.specs.declared.error.NoMemory.{NoMemory}
use Rattle.rp_base.specs.declared.event.Event.{Event}
use Rattle.rp_base.specs.declared.line.Line.{Line as Shown}
use Rattle.rp_app.specs.Application.{Application}
use Rattle.proto_model.specs.World.{World}
use Rattle.run_history.specs.Shown.{stepped}
use Rattle.world_state.specs.declared.state.WorldState.{WorldState}
use Rattle.world_state.specs.Acts.{IsEventOf}
use Rattle.world_state.specs.Waiting.{AreCursors}
use Rattle.world_state.specs.WorldStates.{world_of, IsRun}

module _ (app : Application) (s t : WorldState) (same : t ≡ record s { cursors = t.cursors }) where
  pub settled_world : world_of t ≡ world_of s
  settled_world = ap world_of same

  pub settled_run : AreCursors s.frames s.passed t.cursors → IsRun app s → IsRun app t
  settled_run waiting run =
      let kept : IsRun app (record s { cursors = t.cursors }) =
      record {
        cells = run.cells;
        few = run.few;
        few_strict = run.few_strict;
        term = run.term;
        ratio = run.ratio;
        routed = run.routed;
        switches = run.switches;
        replicas = run.replicas;
        sized = run.sized;
        waiting = waiting;
      }
      in
      subst (IsRun app) (sym same) kept

  pub settled_calls : s.calls < 1000000000 → t.calls < 1000000000
  settled_calls few = subst (λ (x : WorldState). x.calls < 1000000000) (sym same) few

  pub settled_event : (e : Event) → IsEventOf (world_of s) e → IsEventOf (world_of t) e
  settled_event e h = subst (λ (w : World). IsEventOf w e) (sym settled_world) h

  pub settled_step : (e : Event) (new : WorldState) (result : Result (List Shown) NoMemory) → IfOk result (λ lines. (world_of new, lines) ≡ stepped app (world_of t) e) → IfOk result (λ lines. (world_of new, lines) ≡ stepped app (world_of s) e)
  settled_step e new (Ok lines) step = step ∙ ap (λ w. stepped app w e) settled_world
  settled_step e new (Err x) step = tt

  pub settled_grows : (new : WorldState) (result : Result (List Shown) NoMemory) → OnOk result (new.calls ≡ t.calls + 1) → OnOk result (new.calls ≡ s.calls + 1)
  settled_grows new result grows = subst (λ (x : WorldState). OnOk result (new.calls ≡ x.calls + 1)) same grows
