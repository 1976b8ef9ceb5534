-- A switch sends no packet on an Ask but the one that it was fed, under its key.
use Rattle.std.proofs.Common.{◌≡◌, ℕ, List, [], ◌∷◌, ◌++◌, Some, None, map}
use Rattle.proto_data.specs.declared.message.Msg.{Msg}
use Rattle.proto_data.specs.declared.message.Carried.{Carried}
use Rattle.proto_data.specs.declared.message.Input.{Input}
use Rattle.rp_app.specs.Application.{Application}
use Rattle.proto_data.specs.Carrying.{carried_packet}
use Rattle.key_table.specs.Table.{Key, Table}
use Rattle.proto_model.specs.Slot.{Slot, Lease, Asking, is_young}
use Rattle.proto_model.specs.Feeds.{Each}
use Rattle.proto_safety.specs.Loads.{OnPacket}
use Rattle.proto_model.specs.SwitchState.{Switch, lapsed}
use Rattle.proto_model.specs.SwitchAlarm.{alarm, repeated_ask, repeated_asks, resent_put, walk_order}
use Rattle.proto_model.specs.SwitchRow.{SwitchRow, NewAsk, AskAgain, Mirrored, Late, Resends, switch_row}
use Rattle.proto_model.specs.SwitchOutcomes.{perform}
use Rattle.proto_model.specs.SwitchRows.{switch_step}
use Rattle.proto_safety.proofs.Nodes.SwitchTable.{RowTaken, first_ask, ask_idle, ask_anew, ask_lapsed, ask_again, row_taken}
use Rattle.proto_safety.proofs.Inductions.AlarmInduction.{WalkKeeps, walk_kept}
use Rattle.proto_safety.proofs.Basics.Eachs.{each_append, each_if, each_map, each_take}

module _ (P : Key → Carried → Type 0) where
  abbrev Sends : List Msg → Type 0
  Sends ms = Each (λ (m : Msg). OnPacket P m.body) ms

  ask_sent : (s : Switch) (now : ℕ) (key : Key) (lease : Lease) → Sends (repeated_ask s now key lease)
  ask_sent s now key (Asking nonce first) = each_if (λ (m : Msg). OnPacket P m.body) (is_young s.terms.t_switch first now) _ [] (tt, tt) tt
  ask_sent s now key _ = tt

  asks_sent : (s : Switch) (now : ℕ) (slots : Table Slot) → Sends (repeated_asks s now slots)
  asks_sent s now [] = tt
  asks_sent s now (e ∷ es) = each_append (λ (m : Msg). OnPacket P m.body) (repeated_ask s now e.0 e.1.lease) _ (ask_sent s now e.0 e.1.lease) (asks_sent s now es)

  one_more_sent : (ms : List Msg) (m : Msg) → Sends ms → OnPacket P m.body → Sends (ms ++ m ∷ [])
  one_more_sent ms m h k = each_append (λ (m : Msg). OnPacket P m.body) ms (m ∷ []) h (k, tt)

  walk_sent : (now : ℕ) → WalkKeeps now (λ w. Sends w.sent)
  walk_sent now =
      record {
        puts = λ w key slot nonce epoch expiry at is mode none h. one_more_sent w.sent _ h tt;
        goes_on = λ w key slot nonce epoch expiry r at is bound mode o h. one_more_sent w.sent _ h tt;
        begins = λ w key slot nonce epoch expiry at is bound mode o h. one_more_sent w.sent _ h tt;
      }

  alarm_sent : (s : Switch) (now : ℕ) → Sends (alarm s now).1.sent
  alarm_sent s now =
      walk_kept now (λ w. Sends w.sent) (walk_sent now) (walk_order s.walked (map (λ (e : Key × Slot). e.0) s.slots)) _
      (each_take (λ (m : Msg). OnPacket P m.body) 64 _
      (each_append (λ (m : Msg). OnPacket P m.body) _ (repeated_asks s now s.slots) (each_map (λ (m : Msg). OnPacket P m.body) (resent_put s) _ (λ c. tt)) (asks_sent s now s.slots)))

  -- what is known of a packet that comes
  abbrev OnInput : Application → Input → Type 0
  OnInput app (Input.Packet p) = (key : Key) → app.key_of p ≡ Some key → P key (carried_packet p)
  OnInput app (Input.Msg m) = Unit {0}
  OnInput app Input.Alarm = Unit {0}

  row_sent : (app : Application) (s : Switch) (now : ℕ) (input : Input) (row : SwitchRow) → RowTaken app s now input row → OnInput app input → Sends (perform s now row).1.sent
  row_sent app s now input (NewAsk key slot packet) (first_ask of at room) h = (h key of, tt)
  row_sent app s now input (NewAsk key slot packet) (ask_idle of at is) h = (h key of, tt)
  row_sent app s now input (NewAsk key slot packet) (ask_anew of at is old) h = (h key of, tt)
  row_sent app s now input (NewAsk key slot packet) (ask_lapsed of at is) h = (h key of, tt)
  row_sent app s now input (AskAgain key slot nonce packet) (ask_again of at is young) h = (h key of, tt)
  row_sent app s now input (Mirrored key slot epoch mark delta out) f h = (tt, tt)
  row_sent app s now input (Late key slot None) f h = tt
  row_sent app s now input (Late key slot (Some m)) f h = tt
  row_sent app s now input Resends f h = alarm_sent s now
  row_sent app s now input _ f h = tt

  pub switch_sent : (app : Application) (s : Switch) (now : ℕ) (input : Input) → OnInput app input → Sends (switch_step app s now input).1.sent
  switch_sent app s now input h = row_sent app (lapsed now s) now input (switch_row app (lapsed now s) now input) (row_taken app (lapsed now s) now input) h
