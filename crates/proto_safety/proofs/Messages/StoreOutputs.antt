-- A replica sends no output but the one that came, under the same key, epoch and number; in an Ack up to a number that covers it.
use Rattle.std.proofs.Common.{ℕ, ◌+◌, ◌≤◌, List, [], ◌∷◌, take, arith, Option, Some, None, true, false, Bool}
use Rattle.std.proofs.lemmas.Bool.{and_parts, leb-true}
use Rattle.rp_base.specs.declared.node.Node.{Node}
use Rattle.proto_data.specs.declared.message.Msg.{Msg}
use Rattle.proto_data.specs.declared.message.Body.{Body}
use Rattle.proto_data.specs.declared.message.Entry.{Entry}
use Rattle.proto_data.specs.declared.message.Echoed.{Echoed}
use Rattle.proto_data.specs.declared.message.Input.{Input}
use Rattle.proto_data.specs.declared.message.Record.{Record}
use Rattle.proto_data.specs.declared.message.Carried.{Carried}
use Rattle.key_table.specs.Table.{Key, put}
use Rattle.proto_model.specs.Feeds.{Each}
use Rattle.proto_model.specs.ReplicaState.{Replica, is_member, is_tail, record_at, last_of, successor_of, predecessor_of, to_replica}
use Rattle.proto_model.specs.ReplicaRows.{StoreRow, Answers, Echoes, Appends, AppendsSnap, Commits, Adopts, Resends, appended_as, configured_as, entry_key, forwards, owner_answer, store_perform, store_row, store_step, with_entry}
use Rattle.proto_safety.specs.Loads.{WithOutput, OnEntryOutput, OnEchoOutput, OnOutput}
use Rattle.proto_safety.proofs.Nodes.StoreTable.{Taken, WasPut, itself_put, itself_snap, echo_put, next_put, echoed_put, acked_again, forwarded, message_taken}
use Rattle.proto_safety.proofs.Basics.Eachs.{each_append, each_if}

module _ (P : Key → ℕ → ℕ → Carried → Type 0) where
  abbrev Sends : List Msg → Type 0
  Sends ms = Each (λ (m : Msg). OnOutput P m.body) ms

  -- what a row carries
  abbrev RowOutput : StoreRow → Type 0
  RowOutput (Answers to body) = OnOutput P body
  RowOutput (Echoes of load) = OnEchoOutput P of load
  RowOutput (Appends entry load) = OnEntryOutput P entry load
  RowOutput _ = Unit {0}

  ack_output : (key : Key) (epoch number upto : ℕ) (load : Option Carried) → number ≤ upto → WithOutput (P key epoch number) load → OnOutput P (Body.Ack 0 epoch upto key load)
  ack_output key epoch number upto None le h = tt
  ack_output key epoch number upto (Some c) le h = (number, (le, h))

  was_output : {from : Node} {body : Body} {switch epoch number : ℕ} {key : Key} {load : Option Carried} → WasPut from body switch epoch number key load → OnOutput P body → WithOutput (P key epoch number) load
  was_output itself_put h = h
  was_output itself_snap h = tt
  was_output echo_put h = h

  taken_output : {s : Replica} {now : ℕ} {from : Node} {body : Body} {row : StoreRow} → Taken s now from body row → OnOutput P body → RowOutput row
  taken_output (next_put head at e n d) h = h
  taken_output echoed_put h = h
  taken_output (acked_again {switch = switch} {epoch = epoch} {key = key} {load = load} {r = r} number a at tail c) h =
      ack_output key epoch number r.last load (leb-true number r.last (and_parts _ _ (and_parts _ _ c).1).1) (was_output a h)
  taken_output (forwarded c i f) h = h
  taken_output _ h = tt

  to_output : (s : Replica) (o : Option ℕ) (body : Body) → OnOutput P body → Sends (to_replica s o body)
  to_output s None body h = tt
  to_output s (Some n) body h = (h, tt)

  unloaded : (e : Entry) → OnEntryOutput P e None
  unloaded (Entry.Grant key epoch switch inc nonce) = tt
  unloaded (Entry.Put key epoch number delta) = tt
  unloaded (Entry.Snap key epoch round cells) = tt

  forwards_output : (s : Replica) (index : ℕ) (es : List Entry) → Sends (forwards s index es)
  forwards_output s index [] = tt
  forwards_output s index (e ∷ es) =
      each_append (λ (m : Msg). OnOutput P m.body) (to_replica s (successor_of s.config.chain s.me) (Body.Forward s.config.number index e None)) _
      (to_output s (successor_of s.config.chain s.me) (Body.Forward s.config.number index e None) (unloaded e)) (forwards_output s (index + 1) es)

  answer_output : (s : Replica) (e : Entry) (load : Option Carried) (o : Option Record) → OnEntryOutput P e load → Sends (owner_answer s e load o)
  answer_output s e load None h = tt
  answer_output s (Entry.Grant key epoch switch inc nonce) load (Some r) h = (tt, tt)
  answer_output s (Entry.Put key epoch number delta) load (Some r) h = (ack_output key epoch number number load (omega arith) h, tt)
  answer_output s (Entry.Snap key epoch round cells) load (Some r) h = (ack_output key epoch round round load (omega arith) h, tt)

  appended_output : (member tail full : Bool) (s : Replica) (now : ℕ) (e : Entry) (load : Option Carried) → OnEntryOutput P e load → Sends (appended_as member tail full s now e load).1.sent
  appended_output false tail full s now e load h = tt
  appended_output true true full s now e load h =
      each_append (λ (m : Msg). OnOutput P m.body) (owner_answer (with_entry s e now) e load (record_at (with_entry s e now) (entry_key e))) _
      (answer_output (with_entry s e now) e load (record_at (with_entry s e now) (entry_key e)) h)
      (to_output (with_entry s e now) (predecessor_of s.config.chain s.me) (Body.Have (s.applied + 1)) tt)
  appended_output true false true s now e load h = tt
  appended_output true false false s now e load h = to_output (with_entry s e now) (successor_of s.config.chain s.me) (Body.Forward s.config.number (s.applied + 1) e load) h

  configured_output : (tail : Bool) (s : Replica) → Sends (configured_as tail s).1.sent
  configured_output true s = each_if (λ (m : Msg). OnOutput P m.body) _ _ [] (to_output s (predecessor_of s.config.chain s.me) (Body.Have s.applied) tt) tt
  configured_output false s = tt

  row_output : (s : Replica) (now : ℕ) (row : StoreRow) → RowOutput row → Sends (store_perform s now row).1.sent
  row_output s now (Answers to body) h = (h, tt)
  row_output s now (Echoes of load) h = to_output s (last_of s.config.chain) (Body.Echo of load) h
  row_output s now (Appends e load) h = appended_output (is_member s) (is_tail s) _ s now e load h
  row_output s now (AppendsSnap key g e) h = appended_output (is_member s) (is_tail s) _ (record s { gathered = put s.gathered key g }) now e None (unloaded e)
  row_output s now (Commits index) h = to_output (record s { known = index }) (predecessor_of s.config.chain s.me) (Body.Have index) tt
  row_output s now (Adopts config) h = configured_output (is_tail (record s { config = config })) (record s { config = config })
  row_output s now Resends h = forwards_output s (s.known + 1) (take 64 s.pending)
  row_output s now _ h = tt

  -- one message
  pub message_output : (s : Replica) (now : ℕ) (m : Msg) → OnOutput P m.body → Sends (store_step s now (Input.Msg m)).1.sent
  message_output s now m h = row_output s now (store_row s now (Input.Msg m)) (taken_output (message_taken s now m.from m.body) h)

  pub alarm_output : (s : Replica) (now : ℕ) → Sends (store_step s now Input.Alarm).1.sent
  alarm_output s now = row_output s now Resends tt

-- the facts may be others
pub output_weaker : (P Q : Key → ℕ → ℕ → Carried → Type 0) (body : Body) → ((key : Key) (epoch number : ℕ) (c : Carried) → P key epoch number c → Q key epoch number c) → OnOutput P body → OnOutput Q body
output_weaker P Q (Body.Put inc epoch number key delta None) k h = tt
output_weaker P Q (Body.Put inc epoch number key delta (Some c)) k h = k key epoch number c h
output_weaker P Q (Body.Ack inc epoch upto key None) k h = tt
output_weaker P Q (Body.Ack inc epoch upto key (Some c)) k h = (h.0, (h.1.0, k key epoch h.0 c h.1.1))
output_weaker P Q (Body.Forward config index (Entry.Grant key epoch switch inc nonce) load) k h = tt
output_weaker P Q (Body.Forward config index (Entry.Put key epoch number delta) None) k h = tt
output_weaker P Q (Body.Forward config index (Entry.Put key epoch number delta) (Some c)) k h = k key epoch number c h
output_weaker P Q (Body.Forward config index (Entry.Snap key epoch round cells) None) k h = tt
output_weaker P Q (Body.Forward config index (Entry.Snap key epoch round cells) (Some c)) k h = k key epoch round c h
output_weaker P Q (Body.Echo (Echoed.Ask switch inc nonce key) load) k h = tt
output_weaker P Q (Body.Echo (Echoed.Put switch epoch number key) None) k h = tt
output_weaker P Q (Body.Echo (Echoed.Put switch epoch number key) (Some c)) k h = k key epoch number c h
output_weaker P Q _ k h = tt
