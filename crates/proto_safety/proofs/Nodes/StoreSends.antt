-- No step of a replica sends more than 64 messages.
use Rattle.std.proofs.Common.{ℕ, ◌+◌, ◌≤◌, List, [], ◌∷◌, length, Option, Some, None, arith, length-append, take}
use Rattle.std.proofs.lemmas.Grind.{common_steps}
use Rattle.proto_data.specs.declared.message.Msg.{Msg}
use Rattle.proto_data.specs.declared.message.Body.{Body}
use Rattle.proto_data.specs.declared.message.Entry.{Entry}
use Rattle.proto_data.specs.declared.message.Carried.{Carried}
use Rattle.proto_data.specs.declared.message.Record.{Record}
use Rattle.key_table.specs.Table.{put}
use Rattle.proto_model.specs.ReplicaState.{Replica, to_replica, successor_of, predecessor_of, last_of}
use Rattle.proto_model.specs.ReplicaRows.{StoreRow, Echoes, Appends, AppendsSnap, Commits, Adopts, Resends, store_perform, forwards, owner_answer, appended, after_config}
use Rattle.proto_safety.proofs.Basics.Lists.{length_take_le}

one_to : (r : Replica) (o : Option ℕ) (body : Body) → length (to_replica r o body) ≤ 1
one_to r None body = omega arith
one_to r (Some n) body = omega arith

one_answer : (r : Replica) (e : Entry) (load : Option Carried) (o : Option Record) → length (owner_answer r e load o) ≤ 1
one_answer r e load None = omega arith
one_answer r (Entry.Grant key epoch switch inc nonce) load (Some x) = omega arith
one_answer r (Entry.Put key epoch number delta) load (Some x) = omega arith
one_answer r (Entry.Snap key epoch round cells) load (Some x) = omega arith

forwards_few : (r : Replica) (index : ℕ) (es : List Entry) → length (forwards r index es) ≤ length es
forwards_few r index [] = omega arith
forwards_few r index (e ∷ es) =
    omega (
      arith,
      length-append {A = Msg},
      one_to r (successor_of r.config.chain r.me) (Body.Forward r.config.number index e None),
      forwards_few r (index + 1) es,
    )

appended_few : (s : Replica) (now : ℕ) (e : Entry) (load : Option Carried) → length (appended s now e load).1.sent ≤ 2
appended_few s now e load =
    grind (
      arith,
      common_steps,
      length-append {A = Msg},
      one_to,
      one_answer,
    )

config_few : (s : Replica) → length (after_config s).1.sent ≤ 1
config_few s = grind (arith, common_steps, one_to)

pub store_row_sends : (s : Replica) (now : ℕ) (row : StoreRow) → length (store_perform s now row).1.sent ≤ 64
store_row_sends s now (Appends e load) = omega (arith, appended_few s now e load)
store_row_sends s now (AppendsSnap key g e) = omega (arith, appended_few (record s { gathered = put s.gathered key g }) now e None)
store_row_sends s now (Adopts config) = omega (arith, config_few (record s { config = config }))
store_row_sends s now Resends = omega (arith, forwards_few s (s.known + 1) (take 64 s.pending), length_take_le 64 s.pending)
store_row_sends s now (Echoes of load) = omega (arith, one_to s (last_of s.config.chain) (Body.Echo of load))
store_row_sends s now (Commits index) = omega (arith, one_to s (predecessor_of s.config.chain s.me) (Body.Have index))
store_row_sends s now _ = omega arith
