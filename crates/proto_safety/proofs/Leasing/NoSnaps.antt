-- In strict mode no Snap is ever sent.
use Rattle.std.proofs.Common.{◌≡◌, ℕ, [], ◌∷◌, map, Some, None}
use Rattle.proto_data.specs.declared.message.Msg.{Msg}
use Rattle.proto_data.specs.declared.message.Body.{Body}
use Rattle.proto_data.specs.declared.message.Input.{Input}
use Rattle.proto_data.specs.declared.terms.Mode.{Mode}
use Rattle.rp_app.specs.Application.{Application}
use Rattle.key_table.specs.Table.{Key, Table}
use Rattle.proto_model.specs.Feeds.{Each}
use Rattle.proto_model.specs.Slot.{Slot, Lease, Asking, is_young}
use Rattle.proto_model.specs.SwitchState.{Switch, lapsed}
use Rattle.proto_model.specs.SwitchRow.{SwitchRow, NewAsk, AskAgain, Mirrored, Late, Resends, switch_row}
use Rattle.proto_model.specs.SwitchOutcomes.{perform}
use Rattle.proto_model.specs.SwitchAlarm.{Walk, alarm, resent_put, repeated_ask, repeated_asks, walk_order}
use Rattle.proto_model.specs.SwitchRows.{switch_step}
use Rattle.proto_safety.proofs.Inductions.AlarmInduction.{WalkKeeps, walk_kept}
use Rattle.proto_safety.proofs.Leasing.FlowCopies.{not_strict}
use Rattle.proto_safety.proofs.Basics.Eachs.{each_append, each_if, each_map, each_take}

abbrev pub NoSnap : Body → Type 0
NoSnap (Body.Snap inc epoch round key chunk chunks cells) = ⊥
NoSnap _ = Unit {0}

abbrev Snapless : Msg → Type 0
Snapless m = NoSnap m.body

ask_snapless : (s : Switch) (now : ℕ) (key : Key) (lease : Lease) → Each Snapless (repeated_ask s now key lease)
ask_snapless s now key (Asking nonce first) = each_if Snapless (is_young s.terms.t_switch first now) _ [] (tt, tt) tt
ask_snapless s now key _ = tt

asks_snapless : (s : Switch) (now : ℕ) (slots : Table Slot) → Each Snapless (repeated_asks s now slots)
asks_snapless s now [] = tt
asks_snapless s now (e ∷ es) = each_append Snapless (repeated_ask s now e.0 e.1.lease) _ (ask_snapless s now e.0 e.1.lease) (asks_snapless s now es)

abbrev SnaplessWalk : Walk → Type 0
SnaplessWalk w = (w.state.terms.mode ≡ Mode.Strict) × Each Snapless w.sent

walk_snapless : (now : ℕ) → WalkKeeps now SnaplessWalk
walk_snapless now =
    record {
      puts = λ w key slot nonce epoch expiry at is mode none h. (h.0, each_append Snapless w.sent _ h.1 (tt, tt));
      goes_on = λ w key slot nonce epoch expiry r at is bound mode o h. absurd (not_strict w.state.terms.mode bound h.0 mode);
      begins = λ w key slot nonce epoch expiry at is bound mode o h. absurd (not_strict w.state.terms.mode bound h.0 mode);
    }

alarm_snapless : (s : Switch) (now : ℕ) → s.terms.mode ≡ Mode.Strict → Each Snapless (alarm s now).1.sent
alarm_snapless s now mode =
    (walk_kept now SnaplessWalk (walk_snapless now) (walk_order s.walked (map (λ (e : Key × Slot). e.0) s.slots)) _ (
      mode,
      each_take Snapless 64 _ (each_append Snapless _ (repeated_asks s now s.slots) (each_map Snapless (resent_put s) _ (λ c. tt)) (asks_snapless s now s.slots)),
    )).1

row_snapless : (s : Switch) (now : ℕ) (row : SwitchRow) → s.terms.mode ≡ Mode.Strict → Each Snapless (perform s now row).1.sent
row_snapless s now (NewAsk key slot packet) mode = (tt, tt)
row_snapless s now (AskAgain key slot nonce packet) mode = (tt, tt)
row_snapless s now (Mirrored key slot epoch mark delta out) mode = (tt, tt)
row_snapless s now (Late key slot None) mode = tt
row_snapless s now (Late key slot (Some m)) mode = tt
row_snapless s now Resends mode = alarm_snapless s now mode
row_snapless s now _ mode = tt

pub step_snapless : (app : Application) (s : Switch) (now : ℕ) (input : Input) → s.terms.mode ≡ Mode.Strict → Each (λ (m : Msg). NoSnap m.body) (switch_step app s now input).1.sent
step_snapless app s now input mode = row_snapless (lapsed now s) now (switch_row app (lapsed now s) now input) mode
