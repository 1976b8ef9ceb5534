-- A replica sends no packet but the one that came, under the same key.
use Rattle.std.proofs.Common.{ℕ, ◌+◌, List, [], ◌∷◌, Option, Some, None, take, true, false, Bool}
use Rattle.proto_data.specs.declared.message.Msg.{Msg}
use Rattle.rp_base.specs.declared.node.Node.{Node}
use Rattle.proto_data.specs.declared.message.Body.{Body}
use Rattle.proto_data.specs.declared.message.Entry.{Entry}
use Rattle.proto_data.specs.declared.message.Record.{Record}
use Rattle.proto_data.specs.declared.message.Carried.{Carried}
use Rattle.proto_data.specs.declared.message.Input.{Input}
use Rattle.key_table.specs.Table.{Key, put}
use Rattle.proto_model.specs.Feeds.{Each}
use Rattle.proto_safety.specs.Loads.{OnLoad, OnEntry, OnEcho, OnPacket}
use Rattle.proto_model.specs.ReplicaState.{Replica, to_replica, successor_of, predecessor_of, last_of, is_member, is_tail, record_at}
use Rattle.proto_model.specs.ReplicaRows.{StoreRow, Answers, Echoes, Appends, AppendsSnap, Commits, Adopts, Resends, store_perform, store_row, store_step, appended_as, configured_as, owner_answer, forwards, with_entry, entry_key}
use Rattle.proto_safety.proofs.Nodes.StoreTable.{Taken, Asked, itself, echo, first_grant, own_grant, other_grant, echoed_ask, granted_again, forwarded, message_taken}
use Rattle.proto_safety.proofs.Basics.Eachs.{each_append, each_if}

module _ (P : Key → Carried → Type 0) where
  abbrev Sends : List Msg → Type 0
  Sends ms = Each (λ (m : Msg). OnPacket P m.body) ms

  -- what a row carries
  abbrev RowLoad : StoreRow → Type 0
  RowLoad (Answers to body) = OnPacket P body
  RowLoad (Echoes of load) = OnEcho P of load
  RowLoad (Appends entry load) = OnEntry P entry load
  RowLoad _ = Unit {0}

  asked_load : {from : Node} {body : Body} {switch inc nonce : ℕ} {key : Key} {load : Option Carried} → Asked from body switch inc nonce key load → OnPacket P body → OnLoad P key load
  asked_load itself h = h
  asked_load echo h = h

  taken_load : {s : Replica} {now : ℕ} {from : Node} {body : Body} {row : StoreRow} → Taken s now from body row → OnPacket P body → RowLoad row
  taken_load (first_grant head at) h = h
  taken_load (own_grant head at own later) h = h
  taken_load (other_grant head at other old) h = h
  taken_load echoed_ask h = h
  taken_load (granted_again a at tail own) h = asked_load a h
  taken_load (forwarded c i f) h = h
  taken_load _ h = tt

  to_load : (s : Replica) (o : Option ℕ) (body : Body) → OnPacket P body → Sends (to_replica s o body)
  to_load s None body h = tt
  to_load s (Some n) body h = (h, tt)

  unloaded : (e : Entry) → OnEntry P e None
  unloaded (Entry.Grant key epoch switch inc nonce) = tt
  unloaded (Entry.Put key epoch number delta) = tt
  unloaded (Entry.Snap key epoch round cells) = tt

  forwards_load : (s : Replica) (index : ℕ) (es : List Entry) → Sends (forwards s index es)
  forwards_load s index [] = tt
  forwards_load s index (e ∷ es) =
      each_append (λ (m : Msg). OnPacket P m.body) (to_replica s (successor_of s.config.chain s.me) (Body.Forward s.config.number index e None)) _
      (to_load s (successor_of s.config.chain s.me) (Body.Forward s.config.number index e None) (unloaded e)) (forwards_load s (index + 1) es)

  answer_load : (s : Replica) (e : Entry) (load : Option Carried) (o : Option Record) → OnEntry P e load → Sends (owner_answer s e load o)
  answer_load s e load None h = tt
  answer_load s (Entry.Grant key epoch switch inc nonce) load (Some r) h = (h, tt)
  answer_load s (Entry.Put key epoch number delta) load (Some r) h = (tt, tt)
  answer_load s (Entry.Snap key epoch round cells) load (Some r) h = (tt, tt)

  appended_load : (member tail full : Bool) (s : Replica) (now : ℕ) (e : Entry) (load : Option Carried) → OnEntry P e load → Sends (appended_as member tail full s now e load).1.sent
  appended_load false tail full s now e load h = tt
  appended_load true true full s now e load h =
      each_append (λ (m : Msg). OnPacket P m.body) (owner_answer (with_entry s e now) e load (record_at (with_entry s e now) (entry_key e))) _
      (answer_load (with_entry s e now) e load (record_at (with_entry s e now) (entry_key e)) h)
      (to_load (with_entry s e now) (predecessor_of s.config.chain s.me) (Body.Have (s.applied + 1)) tt)
  appended_load true false true s now e load h = tt
  appended_load true false false s now e load h = to_load (with_entry s e now) (successor_of s.config.chain s.me) (Body.Forward s.config.number (s.applied + 1) e load) h

  configured_load : (tail : Bool) (s : Replica) → Sends (configured_as tail s).1.sent
  configured_load true s = each_if (λ (m : Msg). OnPacket P m.body) _ _ [] (to_load s (predecessor_of s.config.chain s.me) (Body.Have s.applied) tt) tt
  configured_load false s = tt

  row_load : (s : Replica) (now : ℕ) (row : StoreRow) → RowLoad row → Sends (store_perform s now row).1.sent
  row_load s now (Answers to body) h = (h, tt)
  row_load s now (Echoes of load) h = to_load s (last_of s.config.chain) (Body.Echo of load) h
  row_load s now (Appends e load) h = appended_load (is_member s) (is_tail s) _ s now e load h
  row_load s now (AppendsSnap key g e) h = appended_load (is_member s) (is_tail s) _ (record s { gathered = put s.gathered key g }) now e None (unloaded e)
  row_load s now (Commits index) h = to_load (record s { known = index }) (predecessor_of s.config.chain s.me) (Body.Have index) tt
  row_load s now (Adopts config) h = configured_load (is_tail (record s { config = config })) (record s { config = config })
  row_load s now Resends h = forwards_load s (s.known + 1) (take 64 s.pending)
  row_load s now _ h = tt

  -- one message
  pub message_load : (s : Replica) (now : ℕ) (m : Msg) → OnPacket P m.body → Sends (store_step s now (Input.Msg m)).1.sent
  message_load s now m h = row_load s now (store_row s now (Input.Msg m)) (taken_load (message_taken s now m.from m.body) h)

  pub alarm_load : (s : Replica) (now : ℕ) → Sends (store_step s now Input.Alarm).1.sent
  alarm_load s now = row_load s now Resends tt
