-- A switch sends requests alone.
use Rattle.std.proofs.Common.{ℕ, List, [], ◌∷◌, ◌++◌, map}
use Rattle.proto_data.specs.declared.message.Msg.{Msg}
use Rattle.proto_data.specs.declared.message.Body.{Body}
use Rattle.rp_base.specs.declared.node.Node.{Node}
use Rattle.proto_data.specs.declared.message.Input.{Input}
use Rattle.rp_app.specs.Application.{Application}
use Rattle.key_table.specs.Table.{Key, Table}
use Rattle.proto_model.specs.Slot.{Slot, Lease, Asking, is_young}
use Rattle.proto_model.specs.Feeds.{Each}
use Rattle.proto_model.specs.SwitchState.{Switch, lapsed}
use Rattle.proto_model.specs.SwitchAlarm.{alarm, repeated_ask, repeated_asks, resent_put, walk_order}
use Rattle.proto_model.specs.SwitchRow.{SwitchRow, NewAsk, AskAgain, Mirrored, Late, Resends, switch_row}
use Rattle.std.proofs.Common.{Some, None}
use Rattle.proto_model.specs.SwitchOutcomes.{perform}
use Rattle.proto_model.specs.SwitchRows.{switch_step}
use Rattle.proto_safety.proofs.Inductions.AlarmInduction.{WalkKeeps, walk_kept}
use Rattle.proto_safety.proofs.Basics.Eachs.{each_append, each_if, each_map, each_take}

abbrev pub IsRequest : Body → Type 0
IsRequest (Body.Ask inc nonce key load) = Unit {0}
IsRequest (Body.Put inc epoch number key delta load) = Unit {0}
IsRequest (Body.Snap inc epoch round key chunk chunks cells) = Unit {0}
IsRequest _ = ⊥

abbrev pub FromSwitch : Node → Type 0
FromSwitch (Node.Switch s) = Unit {0}
FromSwitch _ = ⊥

abbrev pub RequestMsg : Msg → Type 0
RequestMsg m = IsRequest m.body × FromSwitch m.from

abbrev pub Requests : List Msg → Type 0
Requests ms = Each RequestMsg ms

ask_sent : (s : Switch) (now : ℕ) (key : Key) (lease : Lease) → Requests (repeated_ask s now key lease)
ask_sent s now key (Asking nonce first) = each_if RequestMsg (is_young s.terms.t_switch first now) _ [] ((tt, tt), tt) tt
ask_sent s now key _ = tt

asks_sent : (s : Switch) (now : ℕ) (slots : Table Slot) → Requests (repeated_asks s now slots)
asks_sent s now [] = tt
asks_sent s now (e ∷ es) = each_append RequestMsg (repeated_ask s now e.0 e.1.lease) _ (ask_sent s now e.0 e.1.lease) (asks_sent s now es)

one_more_sent : (ms : List Msg) (m : Msg) → Requests ms → RequestMsg m → Requests (ms ++ m ∷ [])
one_more_sent ms m h k = each_append RequestMsg ms (m ∷ []) h (k, tt)

walk_sent : (now : ℕ) → WalkKeeps now (λ w. Requests w.sent)
walk_sent now =
    record {
      puts = λ w key slot nonce epoch expiry at is mode none h. one_more_sent w.sent _ h (tt, tt);
      goes_on = λ w key slot nonce epoch expiry r at is bound mode o h. one_more_sent w.sent _ h (tt, tt);
      begins = λ w key slot nonce epoch expiry at is bound mode o h. one_more_sent w.sent _ h (tt, tt);
    }

alarm_sent : (s : Switch) (now : ℕ) → Requests (alarm s now).1.sent
alarm_sent s now =
    walk_kept now (λ w. Requests w.sent) (walk_sent now) (walk_order s.walked (map (λ (e : Key × Slot). e.0) s.slots)) _
    (each_take RequestMsg 64 _
    (each_append RequestMsg _ (repeated_asks s now s.slots) (each_map RequestMsg (resent_put s) _ (λ c. (tt, tt))) (asks_sent s now s.slots)))

row_sent : (s : Switch) (now : ℕ) (row : SwitchRow) → Requests (perform s now row).1.sent
row_sent s now (NewAsk key slot packet) = ((tt, tt), tt)
row_sent s now (AskAgain key slot nonce packet) = ((tt, tt), tt)
row_sent s now (Mirrored key slot epoch mark delta out) = ((tt, tt), tt)
row_sent s now (Late key slot None) = tt
row_sent s now (Late key slot (Some m)) = tt
row_sent s now Resends = alarm_sent s now
row_sent s now _ = tt

pub switch_requests : (app : Application) (s : Switch) (now : ℕ) (input : Input) → Requests (switch_step app s now input).1.sent
switch_requests app s now input = row_sent (lapsed now s) now (switch_row app (lapsed now s) now input)
