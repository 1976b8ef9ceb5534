-- A frame that is handed over does what the definitions say, and the world is kept to.
use Rattle.std.proofs.Common.{◌≡◌, ℕ, ◌+◌, ◌<◌, List, Some, refl, ap, sym, ◌∙◌, slice_get, arith, subst, Result, Ok, Err, IfOk, OnOk}
use Rattle.std.specs.List.{AllByRecursion}
use Rattle.rp_base.specs.declared.error.NoMemory.{NoMemory}
use Rattle.rp_base.specs.declared.line.Line.{Line as Shown}
use Rattle.rp_app.specs.Application.{Application, IsApplication}
use Rattle.proto_data.specs.declared.message.Input.{Input}
use Rattle.proto_data.specs.declared.message.Msg.{Msg}
use Rattle.proto_model.specs.Handing.{hand, handed}
use Rattle.proto_model.specs.World.{World}
use Rattle.proto_model.specs.WorldStep.{Delivers}
use Rattle.proto_safety.specs.Sizes.{SizedAt}
use Rattle.proto_safety.proofs.Size.WorldSizes.{hand_sized}
use Rattle.world_state.specs.declared.state.WorldState.{WorldState}
use Rattle.sent_frames.specs.Frames.{IsSendable}
use Rattle.world_state.specs.Steps.{Step, IsAble, goes, passes}
use Rattle.run_history.specs.Shown.{shown_step}
use Rattle.world_state.specs.WorldStates.{world_of, IsRun}
use Rattle.world_state.proofs.RunAfter.{able_with, run_after, sendable_after}
use Rattle.world_state.proofs.RunGoes.{Holds, goes_hold}
use Rattle.world_state.proofs.WaitingKept.{goes_waits}
use Rattle.world_state.proofs.WorldGoes.{seen, node_seen}

-- the world that counts one more call
abbrev pub called : WorldState → WorldState
called s = record s { calls = s.calls + 1 }

module _ (app : Application) (keeps : IsApplication app) (s : WorldState) (run : IsRun app s) (i : ℕ) (m : Msg) (at : slice_get s.frames i ≡ Some m) (count : s.calls < 1000000000) where
  abbrev after : WorldState
  after = (goes app (called s) (Delivers i m)).0

  pub hand_able : IsAble app (called s)
  hand_able = able_with app s run count s.event (s.calls + 1)

  hand_seen : seen (goes app (called s) (Delivers i m)) ≡ shown_step (hand app (world_of s) i)
  hand_seen = node_seen app (passes (called s) i) run.routed m.to (Input.Msg m) ∙ ap (λ o. shown_step (handed app (world_of s) i o)) (sym at)

  sized_after : SizedAt (s.calls + 2) app (world_of after)
  sized_after =
      let is : world_of after ≡ (hand app (world_of s) i).0 = ap (λ (x : World × List Shown). x.0) hand_seen in
      let more : s.calls + 1 + 1 ≡ s.calls + 2 = omega arith in
      subst (λ n. SizedAt n app (world_of after)) more (subst (SizedAt (s.calls + 1 + 1) app) (sym is) (hand_sized app keeps run.few (world_of s) (s.calls + 1) i run.sized))

  holds : Holds s.terms s.cells (s.calls + 1) (s.calls + 1) after
  holds =
      goes_hold app s.terms s.cells (s.calls + 1) s.calls (called s)
      (record { terms_are = refl; cells_are = refl; calls_are = refl; routed = run.routed; switches = run.switches; replicas = run.replicas })
      (Delivers i m) tt

  pub hand_sendable : AllByRecursion IsSendable (goes app (called s) (Delivers i m)).0.frames
  hand_sendable = sendable_after app s run count after holds sized_after

  pub hand_step : (new : WorldState) (result : Result (List Shown) NoMemory) → IfOk result (λ lines. (new, lines) ≡ goes app (called s) (Delivers i m)) →
      IfOk result (λ lines. (world_of new, lines) ≡ shown_step (hand app (world_of s) i))
  hand_step new (Ok lines) step = ap seen step ∙ hand_seen
  hand_step new (Err x) step = tt

  pub hand_run : (new : WorldState) (result : Result (List Shown) NoMemory) → IfOk result (λ lines. (new, lines) ≡ goes app (called s) (Delivers i m)) → OnOk result (IsRun app new)
  hand_run new (Ok lines) step = let same : after ≡ new = sym (ap (λ (x : Step). x.0) step) in subst (IsRun app) same (run_after app s run count after holds sized_after (goes_waits app (called s) (Delivers i m) run.waiting))
  hand_run new (Err x) step = tt

  -- the hand-over is one call more
  pub hand_calls : (new : WorldState) (result : Result (List Shown) NoMemory) → IfOk result (λ lines. (new, lines) ≡ goes app (called s) (Delivers i m)) → OnOk result (new.calls ≡ s.calls + 1)
  hand_calls new (Ok lines) step = ap (λ (x : Step). x.0.calls) step ∙ holds.calls_are
  hand_calls new (Err x) step = tt
