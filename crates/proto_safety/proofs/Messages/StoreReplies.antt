-- A replica answers a switch as the tail of its configuration alone, with what its own book says.
pub use Rattle.proto_safety.specs.StoreSent.{SentReply}
use Rattle.std.proofs.Common.{◌≡◌, ℕ, ◌-◌, drop, ◌+◌, List, [], ◌∷◌, ◌++◌, length, Option, Some, None, arith, refl, sym, ap, ◌∙◌, take, true, false, Bool, append-nil, nat_le, eqb-true}
use Rattle.std.specs.Prelude.{nat_lt, option_map}
use Rattle.std.proofs.lemmas.Bool.{and_parts}
use Rattle.proto_data.specs.declared.message.Msg.{Msg}
use Rattle.rp_base.specs.declared.node.Node.{Node}
use Rattle.proto_data.specs.declared.message.Body.{Body}
use Rattle.proto_data.specs.declared.message.Entry.{Entry}
use Rattle.proto_data.specs.declared.message.Input.{Input}
use Rattle.proto_data.specs.declared.message.Record.{Record}
use Rattle.proto_data.specs.declared.message.Carried.{Carried}
use Rattle.key_table.specs.Table.{Key, get, put}
use Rattle.proto_model.specs.Feeds.{Each}
use Rattle.proto_model.specs.Records.{Booked, cells_of}
use Rattle.proto_model.specs.ReplicaState.{Replica, StoreStep, record_at, is_tail, is_member, to_replica, successor_of, predecessor_of, last_of}
use Rattle.proto_model.specs.ReplicaRows.{StoreRow, Loses, Answers, Echoes, Appends, Gathers, AppendsSnap, Commits, Adopts, Resends, store_perform, store_row, store_step, appended_as, configured_as, owner_answer, forwards, with_entry, entry_key}
use Rattle.proto_model.specs.Stands.{entries_of, Stands}
use Rattle.proto_safety.specs.Books.{In}
use Rattle.proto_safety.specs.Flows.{flow_in, flow_of, FitsFrom, GrantedNow, AckedIn}
use Rattle.proto_safety.proofs.Nodes.StoreTable.{Taken, busied, denied, denied_snap, granted_again, acked_again, had, is_owner, covers, message_taken}
use Rattle.proto_model.proofs.StoreStands.{book_after, StepStands, step_stands, entries_of-push}
use Rattle.proto_safety.proofs.Store.FlowBooks.{stands_flow, last_numbered, numbered_put, numbered_snap}
use Rattle.key_table.proofs.Tables.{get-put_same, same_some, same_key-refl}
use Rattle.proto_safety.proofs.Basics.Eachs.{each_append, each_if}
use Rattle.proto_safety.proofs.Basics.Members.{in_last}

abbrev pub Replies : Replica → List Entry → List Msg → Type 0
Replies r es ms = Each (λ (m : Msg). SentReply r es m.to m.body) ms

abbrev pub StepReplies : List Booked → ℕ → ℕ → StoreStep → Type 0
StepReplies book now event step = Replies step.0 (entries_of (book_after now event book step.1.applied)) step.1.sent

-- ---- what a record says

grant_reply : (n : ℕ) (es : List Entry) (key : Key) (r : Record) (epoch switch inc nonce : ℕ) → flow_of n key es ≡ Some (flow_in r) → r.epoch ≡ epoch → r.switch ≡ switch → r.inc ≡ inc → r.nonce ≡ nonce → GrantedNow n es switch inc nonce epoch key r.cells
grant_reply n es key r epoch switch inc nonce flow e s i k = record { last = r.last; flow_is = rw (← e, ← s, ← i, ← k) flow }

owner_is : (r : Record) (switch inc nonce : ℕ) → is_owner r switch inc nonce ≡ true → (r.switch ≡ switch) × (r.inc ≡ inc) × (r.nonce ≡ nonce)
owner_is r switch inc nonce h =
    let t = and_parts _ _ h in let u = and_parts _ _ t.1 in (eqb-true r.switch switch t.0, eqb-true r.inc inc u.0, eqb-true r.nonce nonce u.1)

-- the flow of a record that stands
pub record_flow : (s : Replica) (book : List Booked) (key : Key) (r : Record) → Stands s book → record_at s key ≡ Some r → flow_of s.cell_count key (entries_of book) ≡ Some (flow_in r)
record_flow s book key r st at = sym (stands_flow s book key st) ∙ ap (λ o. option_map flow_in o) at

acked_reply : (s : Replica) (book : List Booked) (key : Key) (r : Record) (switch epoch number : ℕ) → Stands s book → FitsFrom s.cell_count key None (entries_of book) → record_at s key ≡ Some r → covers r switch epoch number ≡ true →
    AckedIn (entries_of book) epoch r.last key
acked_reply s book key r switch epoch number st fits at c =
    let n = last_numbered s.cell_count key (entries_of book) (flow_in r) fits (record_flow s book key r st at) in
    let same : r.epoch ≡ epoch = eqb-true r.epoch epoch (and_parts _ _ (and_parts _ _ c).1).0 in
    record { entry = n.entry; there = n.there; number = r.last; number_is = rw (← same) n.number_is; reaches = omega arith }

-- ---- what a tail answers to an owner

-- the record of a Grant that was applied
abbrev Stored : Replica → Entry → Type 0
Stored s (Entry.Grant key epoch switch inc nonce) = (r : Record) × ((record_at s key ≡ Some r) × ((r.epoch ≡ epoch) × (r.switch ≡ switch) × (r.inc ≡ inc) × (r.nonce ≡ nonce)))
Stored s _ = Unit {0}

stored : (s : Replica) (e : Entry) (now : ℕ) → Stored (with_entry s e now) e
stored s (Entry.Grant key epoch switch inc nonce) now = (
  record { epoch = epoch; switch = switch; inc = inc; nonce = nonce; last = 0; cells = cells_of s.cell_count (get s.records key); moment = now },
  (get-put_same s.records key _, (refl, refl, refl, refl)),
)
stored s (Entry.Put key epoch number delta) now = tt
stored s (Entry.Snap key epoch round values) now = tt

answer_replies : (s r : Replica) (book : List Booked) (e : Entry) (load : Option Carried) (o : Option Record) → record_at s (entry_key e) ≡ o → Stored s e → (es : List Entry) →
    ((key : Key) (x : Record) → record_at s key ≡ Some x → flow_of r.cell_count key es ≡ Some (flow_in x)) → In es e → is_tail r ≡ true → Replies r es (owner_answer s e load o)
answer_replies s r book e load None at st es flow there tail = tt
answer_replies s r book (Entry.Grant key epoch switch inc nonce) load (Some x) at st es flow there tail =
    let same : st.0 ≡ x = same_some (record_at s key) st.0 x st.1.0 at in (
      (
        tail,
        grant_reply r.cell_count es key x epoch switch inc nonce (flow key x at) (ap (λ (y : Record). y.epoch) (sym same) ∙ st.1.1.0) (ap (λ (y : Record). y.switch) (sym same) ∙ st.1.1.1)
            (ap (λ (y : Record). y.inc) (sym same) ∙ st.1.1.2) (ap (λ (y : Record). y.nonce) (sym same) ∙ st.1.1.3),
      ),
      tt,
    )
answer_replies s r book (Entry.Put key epoch number delta) load (Some x) at st es flow there tail =
    ((tail, record { entry = Entry.Put key epoch number delta; there = there; number = number; number_is = numbered_put key key epoch number delta (same_key-refl key); reaches = omega arith }), tt)
answer_replies s r book (Entry.Snap key epoch round values) load (Some x) at st es flow there tail =
    ((tail, record { entry = Entry.Snap key epoch round values; there = there; number = round; number_is = numbered_snap key key epoch round values (same_key-refl key); reaches = omega arith }), tt)

quiet : (r s : Replica) (es : List Entry) (o : Option ℕ) (body : Body) → ((n : ℕ) → SentReply r es (Node.Replica n) body) → Replies r es (to_replica s o body)
quiet r s es None body h = tt
quiet r s es (Some n) body h = (h n, tt)

appended_replies : (member tail full : Bool) (s : Replica) (book : List Booked) (now event : ℕ) (e : Entry) (load : Option Carried) → is_tail s ≡ tail → StepStands book now event (appended_as member tail full s now e load) →
    StepReplies book now event (appended_as member tail full s now e load)
appended_replies false tail full s book now event e load is st = tt
appended_replies true false true s book now event e load is st = tt
appended_replies true false false s book now event e load is st =
    quiet (record (with_entry s e now) { pending = s.pending ++ e ∷ [] }) (with_entry s e now) (entries_of (book ++ record { entry = e; moment = now; event = event } ∷ [])) (successor_of s.config.chain s.me) (Body.Forward s.config.number (s.applied + 1) e load) (λ n. tt)
appended_replies true true full s book now event e load is st =
    let after : Replica = record (with_entry s e now) { known = s.applied + 1 } in
    let es : List Entry = entries_of (book ++ record { entry = e; moment = now; event = event } ∷ []) in
    each_append (λ (m : Msg). SentReply after es m.to m.body) (owner_answer (with_entry s e now) e load (record_at (with_entry s e now) (entry_key e))) _
    (answer_replies (with_entry s e now) after book e load (record_at (with_entry s e now) (entry_key e)) refl (stored s e now) es
    (λ key x at. record_flow after (book ++ record { entry = e; moment = now; event = event } ∷ []) key x st at)
    (rw (entries_of-push book (record { entry = e; moment = now; event = event })) (in_last (entries_of book) e)) is)
    (quiet after (record (with_entry s e now) { known = s.applied + 1 }) es (predecessor_of s.config.chain s.me) (Body.Have (s.applied + 1)) (λ n. tt))

configured_replies : (tail : Bool) (s : Replica) (book : List Booked) (now event : ℕ) → StepReplies book now event (configured_as tail s)
configured_replies true s book now event =
    each_if (λ (m : Msg). SentReply (record s { known = s.applied; pending = [] }) (entries_of (book ++ [])) m.to m.body) (nat_lt 0 s.applied) _ []
    (quiet (record s { known = s.applied; pending = [] }) (record s { known = s.applied; pending = [] }) (entries_of (book ++ [])) (predecessor_of s.config.chain s.me) (Body.Have s.applied) (λ n. tt)) tt
configured_replies false s book now event = tt

forwards_replies : (r s : Replica) (es : List Entry) (index : ℕ) (ps : List Entry) → Replies r es (forwards s index ps)
forwards_replies r s es index [] = tt
forwards_replies r s es index (p ∷ ps) =
    each_append (λ (m : Msg). SentReply r es m.to m.body) _ (forwards s (index + 1) ps)
    (quiet r s es (successor_of s.config.chain s.me) (Body.Forward s.config.number index p None) (λ n. tt)) (forwards_replies r s es (index + 1) ps)

-- a direct answer
answers_replies : {s : Replica} {now : ℕ} {from to : Node} {body answer : Body} (book : List Booked) → Taken s now from body (Answers to answer) → Stands s book → ((key : Key) → FitsFrom s.cell_count key None (entries_of book)) → SentReply s (entries_of book) to answer
answers_replies book busied st fits = tt
answers_replies book denied st fits = tt
answers_replies book denied_snap st fits = tt
answers_replies book had st fits = tt
answers_replies {s = s} book (granted_again {switch = switch} {inc = inc} {nonce = nonce} {key = key} {r = r} a at tail o) st fits =
    let own = owner_is r switch inc nonce o in
    (tail, grant_reply s.cell_count (entries_of book) key r r.epoch switch inc nonce (record_flow s book key r st at) refl own.0 own.1 own.2)
answers_replies {s = s} book (acked_again {switch = switch} {epoch = epoch} {key = key} {r = r} number a at tail c) st fits = (tail, acked_reply s book key r switch epoch number st (fits key) at c)

pub taken_replies : (s : Replica) (now event : ℕ) (from : Node) (body : Body) (row : StoreRow) (book : List Booked) → Taken s now from body row → Stands s book → ((key : Key) → FitsFrom s.cell_count key None (entries_of book)) →
    StepStands book now event (store_perform s now row) → StepReplies book now event (store_perform s now row)
taken_replies s now event from body (Answers to answer) book t st fits after = (rw (append-nil book) (answers_replies book t st fits), tt)
taken_replies s now event from body (Appends e load) book t st fits after = appended_replies (is_member s) (is_tail s) (nat_le 256 (length s.pending)) s book now event e load refl after
taken_replies s now event from body (AppendsSnap key g e) book t st fits after =
    appended_replies (is_member s) (is_tail s) (nat_le 256 (length s.pending)) (record s { gathered = put s.gathered key g }) book now event e None refl after
taken_replies s now event from body (Adopts config) book t st fits after = configured_replies (is_tail (record s { config = config })) (record s { config = config }) book now event
taken_replies s now event from body (Loses cause) book t st fits after = tt
taken_replies s now event from body (Echoes of load) book t st fits after = quiet s s (entries_of (book ++ [])) (last_of s.config.chain) (Body.Echo of load) (λ n. tt)
taken_replies s now event from body (Gathers key g) book t st fits after = tt
taken_replies s now event from body (Commits index) book t st fits after = quiet (record s { known = index; pending = drop (index - s.known) s.pending }) s (entries_of (book ++ [])) (predecessor_of s.config.chain s.me) (Body.Have index) (λ n. tt)
taken_replies s now event from body Resends book t st fits after = forwards_replies s s (entries_of (book ++ [])) (s.known + 1) (take 64 s.pending)

pub step_replies : (s : Replica) (book : List Booked) (now event : ℕ) (input : Input) → Stands s book → ((key : Key) → FitsFrom s.cell_count key None (entries_of book)) → StepReplies book now event (store_step s now input)
step_replies s book now event (Input.Msg m) st fits = taken_replies s now event m.from m.body (store_row s now (Input.Msg m)) book (message_taken s now m.from m.body) st fits (step_stands s book now event (Input.Msg m) st)
step_replies s book now event Input.Alarm st fits = forwards_replies s s (entries_of (book ++ [])) (s.known + 1) (take 64 s.pending)
step_replies s book now event (Input.Packet p) st fits = tt
