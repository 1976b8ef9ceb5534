-- A world that is kept to before an event is kept to after it, and the event does what it means.
use Rattle.std.proofs.Common.{◌≡◌, ℕ, zero, suc, ◌+◌, ◌<◌, ◌≤◌, List, [], ◌∷◌, ◌++◌, length, Option, Some, None, refl, ap, sym, ◌∙◌, Bool, true, false, arith, subst, Result, Ok, Err, IfOk, OnOk}
use Rattle.std.specs.Prelude.{not, ◌&&◌, nat_lt}
use Rattle.std.specs.List.{AllByRecursion}
use Rattle.std.proofs.lemmas.List.Elements.{All-from_recursion, recursion_from_All}
use Rattle.rp_base.specs.declared.error.NoMemory.{NoMemory}
use Rattle.rp_base.specs.declared.event.Event.{Event}
use Rattle.rp_base.specs.declared.event.Refusal.{Refusal}
use Rattle.rp_base.specs.declared.line.Line.{Line as Shown}
use Rattle.rp_base.specs.declared.node.Node.{Node}
use Rattle.rp_base.specs.declared.node.Packet.{Packet}
use Rattle.rp_app.specs.Application.{Application, IsApplication, zeros}
use Rattle.proto_data.specs.declared.message.Msg.{Msg}
use Rattle.proto_data.specs.declared.terms.Mode.{Mode}
use Rattle.proto_data.specs.declared.terms.Terms.{Terms}
use Rattle.proto_model.specs.Feeds.{Each}
use Rattle.proto_model.specs.Routing.{picked}
use Rattle.proto_model.specs.World.{World, SwitchNode, believed_switches}
use Rattle.proto_model.specs.WorldStep.{Act, Feeds, Delivers, Passes, Advances, Alarms, Stops, Boots, Detects, Announces, Pumps, act_of, refuses_if, feed_picked, event_packet, deliver_act, next_act, numbered_frame, next_from, runs_now, believed_up, frames_full, rates_hold, padded, next_event, world_step}
use Rattle.proto_safety.specs.Changes.{Fits}
use Rattle.proto_safety.specs.Sizes.{EventSized, MsgSized, SizedAt, delta_room}
use Rattle.proto_safety.proofs.Basics.Eachs.{each_append, each_take, each_weaker}
use Rattle.proto_safety.proofs.Basics.Lists.{length_map}
use Rattle.proto_safety.proofs.Inductions.Acts.{act_fits}
use Rattle.proto_safety.proofs.Size.SizesFit.{msg_fits}
use Rattle.proto_safety.proofs.Size.SizesUp.{msg_wider, msg_up}
use Rattle.proto_safety.proofs.Size.WorldSizes.{event_sized_at}
use Rattle.run_history.specs.Shown.{stepped}
use Rattle.world_state.specs.declared.nodes.SwitchNode.{SwitchNode as SwitchSeat}
use Rattle.world_state.specs.declared.nodes.ReplicaNode.{ReplicaNode as ReplicaSeat}
use Rattle.world_state.specs.declared.state.WorldState.{WorldState}
use Rattle.world_state.specs.declared.acts.Act.{Act as KeptAct}
use Rattle.world_state.specs.Acts.{IsEventOf, meant}
use Rattle.sent_frames.specs.Frames.{IsSendable}
use Rattle.world_state.specs.Nodes.{IsSwitchSeat, IsReplicaSeat, replica_node, switch_nodes}
use Rattle.world_state.specs.Steps.{Step, goes, IsAble, CanDo}
use Rattle.world_state.specs.Turns.{CanTakeSwitch, CanTakeReplica}
use Rattle.world_state.specs.Waiting.{AreCursors}
use Rattle.world_state.specs.WorldStates.{world_of, IsRun}
use Rattle.world_state.proofs.FrameLengths.{spelling_long}
use Rattle.world_state.proofs.NodeLists.{length_switches}
use Rattle.world_state.proofs.RunGoes.{Holds, FewAdvances, goes_hold}
use Rattle.world_state.proofs.WaitingKept.{goes_waits}
use Rattle.world_state.proofs.WorldGoes.{seen, goes_seen}

-- the world that counts one more event
abbrev pub counted : WorldState → WorldState
counted s = record s { event = s.event + 1; calls = s.calls + 1 }

-- ---- what the act of an event is given

if_few : (b : Bool) (cause : Refusal) (act : Act) → FewAdvances act → FewAdvances (refuses_if b cause act)
if_few true cause act h = tt
if_few false cause act h = h

picked_few : (w : World) (p : Packet) (o : Option ℕ) → FewAdvances (feed_picked w p o)
picked_few w p None = tt
picked_few w p (Some n) = if_few (not (runs_now w (Node.Switch n))) Refusal.Dead (Feeds n p) tt

deliver_few : (w : World) (o : Option (ℕ × Msg)) → FewAdvances (deliver_act w o)
deliver_few w None = tt
deliver_few w (Some f) = if_few (not (runs_now w f.1.to)) Refusal.Dead (Delivers f.0 f.1) tt

next_few : (o : Option (ℕ × Msg)) → FewAdvances (next_act o)
next_few None = tt
next_few (Some f) = tt

zeros_few : (n : ℕ) → Each (λ d. d ≤ 1000000000) (zeros n)
zeros_few zero = tt
zeros_few (suc n) = (omega arith, zeros_few n)

pub few_acts : (app : Application) (w : World) (e : Event) → IsEventOf w e → FewAdvances (act_of app (next_event w) e)
few_acts app w (Event.Feed port bytes) h = if_few (frames_full w) Refusal.FramesFull _ (picked_few (next_event w) (event_packet (next_event w) port bytes) (picked (believed_switches w) (app.key_of (event_packet (next_event w) port bytes))))
few_acts app w (Event.FeedAt n port bytes) h = if_few (frames_full w) Refusal.FramesFull _ (if_few (not (runs_now w (Node.Switch n))) Refusal.Dead (Feeds n (event_packet (next_event w) port bytes)) tt)
few_acts app w (Event.Deliver i) h = if_few (frames_full w) Refusal.FramesFull _ (if_few w.linked Refusal.Linked _ (deliver_few (next_event w) (numbered_frame w i)))
few_acts app w Event.Next h = if_few (frames_full w) Refusal.FramesFull _ (if_few w.linked Refusal.Linked _ (next_few (next_from (next_event w) 0 w.frames)))
few_acts app w (Event.Drop i) h = if_few w.linked Refusal.Linked _ (if_few (not (nat_lt i (length w.frames))) Refusal.NoFrame (Passes i) tt)
few_acts app w (Event.Time by) h =
    if_few (not (rates_hold (padded w by) w.terms.ratio)) Refusal.Rates (Advances (padded w by))
    (each_take (λ d. d ≤ 1000000000) (length w.switches + length w.replicas) (by ++ zeros (length w.switches + length w.replicas))
    (each_append (λ d. d ≤ 1000000000) by _ (recursion_from_All (λ d. d ≤ 1000000000) by h.1) (zeros_few (length w.switches + length w.replicas))))
few_acts app w (Event.Alarm node) h = if_few (frames_full w) Refusal.FramesFull _ (if_few (not (runs_now w node)) Refusal.Dead (Alarms node) tt)
few_acts app w (Event.Fail node) h = if_few (not (runs_now w node)) Refusal.Dead _ (if_few _ Refusal.LastReplica (Stops node) tt)
few_acts app w (Event.Boot n) h = if_few (runs_now w (Node.Switch n)) Refusal.Alive (Boots n) tt
few_acts app w (Event.Detect node) h = if_few (runs_now w node && believed_up w node) Refusal.Alive _ (if_few _ Refusal.Known (Detects node) tt)
few_acts app w Event.Announce h = if_few (frames_full w) Refusal.FramesFull Announces tt
few_acts app w Event.Pump h = if_few (frames_full w) Refusal.FramesFull _ (if_few (not w.linked) Refusal.NoLink Pumps tt)

pub can_do : (s : WorldState) (act : Act) → length s.router.believed ≡ length s.switches → Fits (world_of s) act → FewAdvances act → CanDo s act
can_do s (Advances by) same fits few =
    let switches : length (world_of s).switches ≡ length s.switches = length_switches s.router.believed s.switches same in
    let replicas : length (world_of s).replicas ≡ length s.replicas = length_map replica_node s.replicas in
    (omega (arith, fits.1, switches, replicas), All-from_recursion (λ d. d ≤ 1000000000) by few)
can_do s _ same fits few = tt

-- ---- nodes that can take an input

seats_inc : (b : ℕ) (bs : List Bool) (ss : List SwitchSeat) → length bs ≡ length ss → Each (λ (n : SwitchNode). n.state.inc ≤ b) (switch_nodes bs ss) → Each (λ (s : SwitchSeat). s.state.state.inc ≤ b) ss
seats_inc b [] [] same h = tt
seats_inc b [] (s ∷ ss) same h = absurd (omega (arith, same))
seats_inc b (x ∷ bs) [] same h = tt
seats_inc b (x ∷ bs) (s ∷ ss) same h = (h.0, seats_inc b bs ss (omega (arith, same)) h.1)

able_switches : (app : Application) (cells k b : ℕ) (ss : List SwitchSeat) → cells ≡ app.cell_count → k < 1000000000 → b ≤ 1000000000 → Each (IsSwitchSeat cells k) ss → Each (λ (s : SwitchSeat). s.state.state.inc ≤ b) ss → Each (CanTakeSwitch app) ss
able_switches app cells k b [] is small few h incs = tt
able_switches app cells k b (s ∷ ss) is small few h incs =
    let one : IsSwitchSeat cells k s = h.0 in
    (record { cells = sym is ∙ sym one.cells_are; turns = omega (arith, one.turns, small); later = one.later; clock = omega (arith, one.clock, small); inc = omega (arith, incs.0, few) }, able_switches app cells k b ss is small few h.1 incs.1)

able_replicas : (k : ℕ) (rs : List ReplicaSeat) → k < 1000000000 → Each (IsReplicaSeat k) rs → Each CanTakeReplica rs
able_replicas k [] small h = tt
able_replicas k (r ∷ rs) small h =
    let one : IsReplicaSeat k r = h.0 in
    (record { turns = omega (arith, one.turns, small); clock = omega (arith, one.clock, small) }, able_replicas k rs small h.1)

-- ---- what is sent

room_short : (m : Mode) (cells : ℕ) → (m ≡ Mode.Strict → cells ≤ 32) → delta_room m cells ≤ 32
room_short Mode.Strict cells h = h refl
room_short (Mode.Snapshot bound) cells h = omega arith

sendable : (m : Msg) → MsgSized 4000000001 32 m → IsSendable m
sendable m h = record { fits = msg_fits 4000000001 (omega arith) 32 m h; short = spelling_long 4000000001 32 (omega arith) m h }

frames_sendable : (app : Application) (w : World) (b : ℕ) → b ≤ 4000000001 → (w.terms.mode ≡ Mode.Strict → app.cell_count ≤ 32) → SizedAt b app w → AllByRecursion IsSendable w.frames
frames_sendable app w b small short h =
    each_weaker _ IsSendable w.frames
    (λ m k.
    sendable m (msg_wider 4000000001 (delta_room w.terms.mode app.cell_count) 32 (room_short w.terms.mode app.cell_count short) m (msg_up b 4000000001 small (delta_room w.terms.mode app.cell_count) m k)))
    h.frames

-- ---- one call

module _ (app : Application) (s : WorldState) (run : IsRun app s) (count : s.calls < 1000000000) where
  -- nodes can take an input, whatever was counted
  pub able_with : (event calls : ℕ) → IsAble app (record s { event = event; calls = calls })
  able_with event calls =
      record {
        term = run.term;
        cells = omega (arith, run.cells, run.few);
        routed = run.routed;
        some = omega (arith, run.sized.switches_few, length_switches s.router.believed s.switches run.routed);
        few = omega (arith, run.sized.replicas_few, length_map replica_node s.replicas);
        switches = able_switches app s.cells s.calls (s.calls + 1) s.switches run.cells count (omega (arith, count)) run.switches
            (seats_inc (s.calls + 1) s.router.believed s.switches run.routed (each_weaker _ (λ (n : SwitchNode). n.state.inc ≤ s.calls + 1) (world_of s).switches (λ n k. k.inc) run.sized.switches));
        replicas = able_replicas s.calls s.replicas count run.replicas;
      }

  module _ (after : WorldState) (holds : Holds s.terms s.cells (s.calls + 1) (s.calls + 1) after) (sized : SizedAt (s.calls + 2) app (world_of after)) where
    strict_after : after.terms.mode ≡ Mode.Strict → app.cell_count ≤ 32
    strict_after is = run.few_strict (sym (ap (λ (t : Terms). t.mode) holds.terms_are) ∙ is)

    -- every frame of the world after the call may be sent
    pub sendable_after : AllByRecursion IsSendable after.frames
    sendable_after = frames_sendable app (world_of after) (s.calls + 2) (omega (arith, count)) strict_after sized

    pub run_after : AreCursors after.frames after.passed after.cursors → IsRun app after
    run_after waiting =
        record {
          cells = holds.cells_are ∙ run.cells;
          few = run.few;
          few_strict = strict_after;
          term = subst (λ (t : Terms). t.t_switch ≤ 1000000) (sym holds.terms_are) run.term;
          ratio = subst (λ (t : Terms). t.ratio ≤ 1000) (sym holds.terms_are) run.ratio;
          routed = holds.routed;
          switches = subst (λ n. AllByRecursion (IsSwitchSeat after.cells n) after.switches) (sym holds.calls_are)
              (subst (λ n. AllByRecursion (IsSwitchSeat n (s.calls + 1)) after.switches) (sym holds.cells_are) holds.switches);
          replicas = subst (λ n. AllByRecursion (IsReplicaSeat n) after.replicas) (sym holds.calls_are) holds.replicas;
          sized = subst (λ n. SizedAt (n + 1) app (world_of after)) (sym holds.calls_are)
              (let more : s.calls + 2 ≡ s.calls + 1 + 1 = omega arith in subst (λ n. SizedAt n app (world_of after)) more sized);
          waiting = waiting;
        }

-- ---- one event

module _ (app : Application) (keeps : IsApplication app) (s : WorldState) (run : IsRun app s) (e : Event) (event : IsEventOf (world_of s) e) (sized : EventSized e) (count : s.calls < 1000000000) where
  abbrev act : Act
  act = act_of app (next_event (world_of s)) e

  abbrev after : WorldState
  after = (goes app (counted s) act).0

  fits : Fits (world_of (counted s)) act
  fits = act_fits app (next_event (world_of s)) e

  pub event_can : CanDo (counted s) act
  event_can = can_do (counted s) act run.routed fits (few_acts app (world_of s) e event)

  pub event_able : IsAble app (counted s)
  event_able = able_with app s run count (s.event + 1) (s.calls + 1)

  -- the event does what it means
  pub event_seen : seen (goes app (counted s) act) ≡ stepped app (world_of s) e
  event_seen = goes_seen app (counted s) run.routed act fits run.sized.present

  sized_after : SizedAt (s.calls + 2) app (world_of after)
  sized_after =
      let is : world_of after ≡ (world_step app (world_of s) e).0 = ap (λ (x : World × List Shown). x.0) event_seen in
      let more : s.calls + 1 + 1 ≡ s.calls + 2 = omega arith in
      subst (λ n. SizedAt n app (world_of after)) more (subst (SizedAt (s.calls + 1 + 1) app) (sym is) (event_sized_at app keeps run.few (world_of s) (s.calls + 1) e sized run.sized))

  holds : Holds s.terms s.cells (s.calls + 1) (s.calls + 1) after
  holds =
      goes_hold app s.terms s.cells (s.calls + 1) s.calls (counted s)
      (record { terms_are = refl; cells_are = refl; calls_are = refl; routed = run.routed; switches = run.switches; replicas = run.replicas })
      act (few_acts app (world_of s) e event)

  pub event_sendable : AllByRecursion IsSendable (goes app (counted s) act).0.frames
  event_sendable = sendable_after app s run count after holds sized_after

  pub event_runs : IsRun app after
  event_runs = run_after app s run count after holds sized_after (goes_waits app (counted s) act run.waiting)

  -- what the code of an event leaves is what it means, and it is kept to
  pub event_step : (kept : KeptAct) → meant kept ≡ act → (new : WorldState) (result : Result (List Shown) NoMemory) → IfOk result (λ lines. (new, lines) ≡ goes app (counted s) (meant kept)) →
      IfOk result (λ lines. (world_of new, lines) ≡ stepped app (world_of s) e)
  event_step kept is new (Ok lines) step = ap seen step ∙ ap (λ a. seen (goes app (counted s) a)) is ∙ event_seen
  event_step kept is new (Err x) step = tt

  pub event_run : (kept : KeptAct) → meant kept ≡ act → (new : WorldState) (result : Result (List Shown) NoMemory) → IfOk result (λ lines. (new, lines) ≡ goes app (counted s) (meant kept)) →
      OnOk result (IsRun app new)
  event_run kept is new (Ok lines) step =
      let same : after ≡ new = sym (ap (λ (x : Step). x.0) step ∙ ap (λ a. (goes app (counted s) a).0) is) in
      subst (IsRun app) same event_runs
  event_run kept is new (Err x) step = tt

  -- the event is one call more
  pub event_calls : (kept : KeptAct) → meant kept ≡ act → (new : WorldState) (result : Result (List Shown) NoMemory) → IfOk result (λ lines. (new, lines) ≡ goes app (counted s) (meant kept)) →
      OnOk result (new.calls ≡ s.calls + 1)
  event_calls kept is new (Ok lines) step = ap (λ (x : Step). x.0.calls) step ∙ ap (λ a. (goes app (counted s) a).0.calls) is ∙ holds.calls_are
  event_calls kept is new (Err x) step = tt
