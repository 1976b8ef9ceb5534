-- After every list of events each output that a frame carries is that of the item with its mark.
use Rattle.std.proofs.Common.{◌≡◌, ℕ, ◌+◌, List, [], ◌∷◌, ◌++◌, map, Option, Some, None, refl, sym, subst, append-nil, length, slice_get}
use Rattle.std.specs.Prelude.{option_map}
use Rattle.rp_base.specs.declared.node.Node.{Node}
use Rattle.rp_base.specs.declared.node.Output.{Output}
use Rattle.rp_base.specs.declared.node.Packet.{Packet}
use Rattle.rp_base.specs.declared.event.Event.{Event}
use Rattle.proto_data.specs.declared.message.Msg.{Msg}
use Rattle.proto_data.specs.declared.message.Body.{Body}
use Rattle.proto_data.specs.declared.message.Input.{Input}
use Rattle.rp_app.specs.Application.{Application, Delta, IsApplication, IsOutputOf}
use Rattle.proto_data.specs.Carrying.{carried_output}
use Rattle.key_table.specs.Table.{Key, Table}
use Rattle.proto_model.specs.Feeds.{Each}
use Rattle.proto_model.specs.Slot.{Slot, Lease, Asking, is_young}
use Rattle.proto_model.specs.SwitchState.{Switch, SwitchDid, Item, lapsed, slot_at, head_node}
use Rattle.proto_model.specs.SwitchRow.{SwitchRow, NewAsk, AskAgain, Mirrored, Late, Resends, switch_row}
use Rattle.proto_model.specs.SwitchOutcomes.{perform, item_of}
use Rattle.proto_model.specs.SwitchAlarm.{alarm, resent_put, repeated_ask, repeated_asks, walk_order}
use Rattle.proto_model.specs.SwitchRows.{switch_step}
use Rattle.proto_model.specs.ReplicaRows.{store_step}
use Rattle.proto_model.specs.Effects.{added, made_output}
use Rattle.proto_model.specs.World.{World, Setup, SwitchNode, ReplicaNode, Journaled, opened, running_switches, running_replicas}
use Rattle.proto_model.specs.WorldStep.{world_after, announcements, config_msg}
use Rattle.proto_safety.specs.Loads.{IsItemOutput, OnOutput}
use Rattle.proto_safety.proofs.Inductions.AlarmInduction.{WalkKeeps, walk_kept}
use Rattle.proto_safety.proofs.Messages.StoreOutputs.{message_output, alarm_output, output_weaker}
use Rattle.proto_safety.proofs.Nodes.SwitchTable.{RowTaken, mirrored, row_taken}
use Rattle.proto_safety.proofs.Inductions.FlowInduction.{Holds}
use Rattle.proto_safety.proofs.Serial.SlotCells.{CellsCounted, Counted, SwitchCounted, AllCounted, cells_keep, counted_kept, all_counted, ready_counted, lapsed_switch_counted}
use Rattle.proto_safety.proofs.Inductions.Induction.{KeepsGiven, keeps_both, run_kept, Comes}
use Rattle.proto_safety.proofs.Basics.Eachs.{each_append, each_at, each_if, each_map, each_take, each_weaker}
use Rattle.proto_safety.proofs.Basics.Members.{in_front, in_last}

abbrev HasItem : List Journaled → Msg → Type 0
HasItem items m = OnOutput (IsItemOutput items) m.body

abbrev pub OutputsRide : World → Type 0
OutputsRide w = Each (λ (m : Msg). OnOutput (IsItemOutput w.history.items) m.body) w.frames

-- the items after a switch's step
abbrev items_after : ℕ → List Journaled → SwitchDid → List Journaled
items_after event items did = items ++ added (λ (i : Item). record { event = event; item = i; output = made_output did.released did.sent }) did.item

more_items : (items new : List Journaled) (ms : List Msg) → Each (HasItem items) ms → Each (HasItem (items ++ new)) ms
more_items items new ms h =
    each_weaker (HasItem items) (HasItem (items ++ new)) ms
    (λ m k.
    output_weaker (IsItemOutput items) (IsItemOutput (items ++ new)) m.body
    (λ key epoch number c i.
    record {
      item = i.item;
      there = in_front items new i.item i.there;
      key_is = i.key_is;
      epoch_is = i.epoch_is;
      number_is = i.number_is;
      mark_is = i.mark_is;
      output_is = i.output_is;
    }) k) h

-- ---- an Alarm carries no outputs

module _ (items : List Journaled) where
  ask_carries : (s : Switch) (now : ℕ) (key : Key) (lease : Lease) → Each (HasItem items) (repeated_ask s now key lease)
  ask_carries s now key (Asking nonce first) = each_if (HasItem items) (is_young s.terms.t_switch first now) _ [] (tt, tt) tt
  ask_carries s now key _ = tt

  asks_carry : (s : Switch) (now : ℕ) (slots : Table Slot) → Each (HasItem items) (repeated_asks s now slots)
  asks_carry s now [] = tt
  asks_carry s now (e ∷ es) = each_append (HasItem items) (repeated_ask s now e.0 e.1.lease) _ (ask_carries s now e.0 e.1.lease) (asks_carry s now es)

  walk_carries : (now : ℕ) → WalkKeeps now (λ w. Each (HasItem items) w.sent)
  walk_carries now =
      record {
        puts = λ w key slot nonce epoch expiry at is mode none h. each_append (HasItem items) w.sent _ h (tt, tt);
        goes_on = λ w key slot nonce epoch expiry r at is bound mode o h. each_append (HasItem items) w.sent _ h (tt, tt);
        begins = λ w key slot nonce epoch expiry at is bound mode o h. each_append (HasItem items) w.sent _ h (tt, tt);
      }

  alarm_carries : (s : Switch) (now : ℕ) → Each (HasItem items) (alarm s now).1.sent
  alarm_carries s now =
      walk_kept now (λ w. Each (HasItem items) w.sent) (walk_carries now) (walk_order s.walked (map (λ (e : Key × Slot). e.0) s.slots)) _
      (each_take (HasItem items) 64 _
      (each_append (HasItem items) _ (repeated_asks s now s.slots) (each_map (HasItem items) (resent_put s) _ (λ c. tt)) (asks_carry s now s.slots)))

-- ---- a row

-- a Put's output is its item's
put_carries : (event now : ℕ) (items : List Journaled) (key : Key) (epoch mark number : ℕ) (delta : Delta) (inc : ℕ) (out : Option Output) (from to : Node) → ((o : Output) → out ≡ Some o → o.mark ≡ mark) →
    Each (HasItem (items ++ record { event = event; item = item_of key epoch mark number now delta; output = made_output None (record { from = from; to = to; body = Body.Put inc epoch number key delta (option_map carried_output out) } ∷ []) } ∷ []))
    (record { from = from; to = to; body = Body.Put inc epoch number key delta (option_map carried_output out) } ∷ [])
put_carries event now items key epoch mark number delta inc None from to of = (tt, tt)
put_carries event now items key epoch mark number delta inc (Some o) from to of = (
  record { item = _; there = in_last items _; key_is = refl; epoch_is = refl; number_is = refl; mark_is = sym (of o refl); output_is = refl },
  tt,
)

-- an output has its packet's mark
pub output_mark : (app : Application) (cells : List ℕ) (p : Packet) (made : Delta × Option Output) → IsApplication app → length cells ≡ app.cell_count → app.plain cells p ≡ made → (o : Output) → made.1 ≡ Some o → o.mark ≡ p.mark
output_mark app cells p made is size e o at =
    let h : IsOutputOf p made.1 = subst (λ (m : Delta × Option Output). IsOutputOf p m.1) e (is.outputs cells p size) in
    let k : IsOutputOf p (Some o) = subst (λ (m : Option Output). IsOutputOf p m) at h in k.0

row_carries : (app : Application) (event : ℕ) (items : List Journaled) (s : Switch) (now : ℕ) (input : Input) (row : SwitchRow) → IsApplication app → ((k : Key) → CellsCounted app.cell_count (slot_at s k)) → RowTaken app s now input row →
    Each (HasItem (items_after event items (perform s now row).1)) (perform s now row).1.sent
row_carries app event items s now input (Mirrored key slot epoch mark delta out) is counted (mirrored {p = p} {made = made} r mode e room t) =
    put_carries event now items key epoch p.mark (slot.last + 1) made.0 s.inc made.1 (Node.Switch s.me) (head_node s.config.chain)
    (output_mark app slot.cells p made is (ready_counted r counted) e)
row_carries app event items s now input (NewAsk key slot packet) is counted a = (tt, tt)
row_carries app event items s now input (AskAgain key slot nonce packet) is counted a = (tt, tt)
row_carries app event items s now input (Late key slot None) is counted a = tt
row_carries app event items s now input (Late key slot (Some m)) is counted a = tt
row_carries app event items s now input Resends is counted a = rw (append-nil items) (alarm_carries items s now)
row_carries app event items s now input _ is counted a = tt

step_carries : (app : Application) (event : ℕ) (items : List Journaled) (node : SwitchNode) (input : Input) → IsApplication app → SwitchCounted app node →
    Each (HasItem (items_after event items (switch_step app node.state node.clock input).1)) (switch_step app node.state node.clock input).1.sent
step_carries app event items node input is counted =
    row_carries app event items (lapsed node.clock node.state) node.clock input (switch_row app (lapsed node.clock node.state) node.clock input) is (lapsed_switch_counted app node.state node.clock counted)
    (row_taken app (lapsed node.clock node.state) node.clock input)

-- ---- the world

switch_rides : (app : Application) (event : ℕ) (items : List Journaled) (frames : List Msg) (node : SwitchNode) (input : Input) → IsApplication app → SwitchCounted app node → Each (HasItem items) frames →
    Each (HasItem (items_after event items (switch_step app node.state node.clock input).1)) (frames ++ (switch_step app node.state node.clock input).1.sent)
switch_rides app event items frames node input is counted h =
    each_append (HasItem (items_after event items (switch_step app node.state node.clock input).1)) frames _ (more_items items _ frames h) (step_carries app event items node input is counted)

input_rides : (w : World) (n : ℕ) (node : ReplicaNode) (input : Input) → Comes w (Node.Replica n) input → OutputsRide w → Each (HasItem w.history.items) (store_step node.state node.clock input).1.sent
input_rides w n node (Input.Msg m) from h = message_output (IsItemOutput w.history.items) node.state node.clock m (each_at (HasItem w.history.items) w.frames from.1.0 m h from.1.1)
input_rides w n node Input.Alarm from h = alarm_output (IsItemOutput w.history.items) node.state node.clock
input_rides w n node (Input.Packet p) from h = absurd from

announced_ride : (w : World) → Each (HasItem w.history.items) (announcements w)
announced_ride w =
    each_append (HasItem w.history.items) (map (λ n. config_msg w (Node.Switch n)) (running_switches w)) _
    (each_map (HasItem w.history.items) (λ n. config_msg w (Node.Switch n)) (running_switches w) (λ n. tt))
    (each_map (HasItem w.history.items) (λ n. config_msg w (Node.Replica n)) (running_replicas w) (λ n. tt))

pub counted_of : (app : Application) (w : World) (n : ℕ) (node : SwitchNode) → AllCounted app w → slice_get w.switches n ≡ Some node → SwitchCounted app node
counted_of app w n node h at = each_at (Holds app (Counted app) (cells_keep app)) w.switches n node h at

pub outputs_kept : (app : Application) → IsApplication app → KeepsGiven app (AllCounted app) OutputsRide
outputs_kept app is =
    record {
      counts = λ w g h. h;
      passes = λ w i g h. h;
      feeds = λ w n node p at up mark g h. switch_rides app (w.event + 1) w.history.items w.frames node (Input.Packet p) is (counted_of app w n node g at) h;
      switches = λ w n node input at up from g h. switch_rides app w.event w.history.items w.frames node input is (counted_of app w n node g at) h;
      replicas = λ w n node input at up from g h. each_append (HasItem w.history.items) w.frames _ h (input_rides w n node input from h);
      advances = λ w by fits g h. h;
      stops_switch = λ w n fits g h. h;
      stops_replica = λ w n fits g h. h;
      boots = λ w n down g h. h;
      detects_switch = λ w n fits g h. h;
      detects_replica = λ w n fits g h. h;
      announces = λ w g h. each_append (HasItem w.history.items) w.frames _ h (announced_ride w);
    }

pub outputs_ride : (app : Application) (setup : Setup) (es : List Event) → IsApplication app → OutputsRide (world_after app (opened app.cell_count setup) es)
outputs_ride app setup es is =
    (run_kept app (λ w. AllCounted app w × OutputsRide w) (keeps_both app (AllCounted app) OutputsRide (counted_kept app) (outputs_kept app is)) es (opened app.cell_count setup)
    (all_counted app setup [], tt)).1
