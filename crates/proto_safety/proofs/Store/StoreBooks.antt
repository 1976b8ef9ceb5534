-- What a replica's step does to its configuration, its book, its known commit and what it sends.
pub use Rattle.proto_safety.specs.StoreSent.{SentBooks}
use Rattle.std.proofs.Common.{◌≡◌, ℕ, ◌+◌, ◌-◌, ◌<◌, List, [], ◌∷◌, ◌++◌, length, Option, Some, None, arith, refl, sym, ap, ◌∙◌, subst, eqb-true, append-nil, take, drop, true, false, Bool, append_assoc, length-append, length-take, nat_le}
use Rattle.std.proofs.lemmas.List.{take-append-drop}
use Rattle.std.specs.Prelude.{nat_lt}
use Rattle.proto_data.specs.declared.message.Msg.{Msg}
use Rattle.rp_base.specs.declared.node.Node.{Node}
use Rattle.proto_data.specs.declared.message.Body.{Body}
use Rattle.proto_data.specs.declared.message.Entry.{Entry}
use Rattle.proto_data.specs.declared.message.Input.{Input}
use Rattle.proto_data.specs.declared.message.Config.{Config}
use Rattle.proto_data.specs.declared.message.Record.{Record}
use Rattle.proto_data.specs.declared.message.Carried.{Carried}
use Rattle.key_table.specs.Table.{put}
use Rattle.proto_model.specs.Feeds.{Each}
use Rattle.proto_model.specs.Records.{Booked}
use Rattle.proto_model.specs.ReplicaState.{Replica, StoreStep, is_tail, is_head, is_member, to_replica, successor_of, predecessor_of, last_of, record_at}
use Rattle.proto_model.specs.ReplicaRows.{StoreRow, Loses, Answers, Echoes, Appends, Gathers, AppendsSnap, Commits, Adopts, Resends, store_perform, store_step, appended_as, configured_as, owner_answer, forwards, with_entry, entry_key}
use Rattle.proto_model.specs.Stands.{Stands, entries_of}
use Rattle.proto_safety.specs.Books.{EntryAt}
use Rattle.proto_safety.proofs.Basics.Places.{entry_pushed}
use Rattle.proto_model.proofs.StoreStands.{book_after, entries_of-push, length-entries_of}
use Rattle.proto_safety.proofs.Nodes.StoreTable.{Taken, lost, first_grant, own_grant, other_grant, busied, echoed_ask, denied, denied_snap, next_put, echoed_put, echoed_snap, gathered, next_snap, granted_again, acked_again, had, forwarded, committed, adopted}
use Rattle.proto_safety.proofs.Basics.Eachs.{each_append, each_if}

-- ---- its number and its configuration

abbrev pub config_after : Replica → StoreRow → Config
config_after s (Adopts c) = c
config_after s _ = s.config

record Same (s : Replica) (config : Config) (step : StoreStep) : Type 0 where
  me : step.0.me ≡ s.me
  config_is : step.0.config ≡ config
  cells_is : step.0.cell_count ≡ s.cell_count
  terms_is : step.0.terms ≡ s.terms

appended_same : (member tail full : Bool) (s : Replica) (now : ℕ) (e : Entry) (load : Option Carried) → Same s s.config (appended_as member tail full s now e load)
appended_same false tail full s now e load = record { me = refl; config_is = refl; cells_is = refl; terms_is = refl }
appended_same true true full s now e load = record { me = refl; config_is = refl; cells_is = refl; terms_is = refl }
appended_same true false true s now e load = record { me = refl; config_is = refl; cells_is = refl; terms_is = refl }
appended_same true false false s now e load = record { me = refl; config_is = refl; cells_is = refl; terms_is = refl }

configured_same : (tail : Bool) (s : Replica) → Same s s.config (configured_as tail s)
configured_same true s = record { me = refl; config_is = refl; cells_is = refl; terms_is = refl }
configured_same false s = record { me = refl; config_is = refl; cells_is = refl; terms_is = refl }

row_same : (s : Replica) (now : ℕ) (row : StoreRow) → Same s (config_after s row) (store_perform s now row)
row_same s now (Appends e load) = appended_same (is_member s) (is_tail s) (nat_le 256 (length s.pending)) s now e load
row_same s now (AppendsSnap key g e) =
    let h = appended_same (is_member s) (is_tail s) (nat_le 256 (length s.pending)) (record s { gathered = put s.gathered key g }) now e None in
    record { me = h.me; config_is = h.config_is; cells_is = h.cells_is; terms_is = h.terms_is }
row_same s now (Adopts config) =
    let h = configured_same (is_tail (record s { config = config })) (record s { config = config }) in
    record { me = h.me; config_is = h.config_is; cells_is = h.cells_is; terms_is = h.terms_is }
row_same s now _ = record { me = refl; config_is = refl; cells_is = refl; terms_is = refl }

pub row_me : (s : Replica) (now : ℕ) (row : StoreRow) → (store_perform s now row).0.me ≡ s.me
row_me s now row = (row_same s now row).me

pub row_config : (s : Replica) (now : ℕ) (row : StoreRow) → (store_perform s now row).0.config ≡ config_after s row
row_config s now row = (row_same s now row).config_is

pub row_cells : (s : Replica) (now : ℕ) (row : StoreRow) → (store_perform s now row).0.cell_count ≡ s.cell_count
row_cells s now row = (row_same s now row).cells_is

pub row_terms : (s : Replica) (now : ℕ) (row : StoreRow) → (store_perform s now row).0.terms ≡ s.terms
row_terms s now row = (row_same s now row).terms_is

-- ---- what it applies

-- the entry of a row
abbrev pub Has : StoreRow → Entry → Type 0
Has (Appends e load) x = e ≡ x
Has (AppendsSnap key g e) x = e ≡ x
Has _ x = ⊥

appended_applies : (member tail full : Bool) (s : Replica) (now : ℕ) (e x : Entry) (load : Option Carried) → (appended_as member tail full s now e load).1.applied ≡ Some x → e ≡ x
appended_applies false tail full s now e x load h = cc
appended_applies true true full s now e x load h = cc
appended_applies true false true s now e x load h = cc
appended_applies true false false s now e x load h = cc

configured_applies : (tail : Bool) (s : Replica) (x : Entry) → (configured_as tail s).1.applied ≡ Some x → ⊥
configured_applies true s x h = cc
configured_applies false s x h = cc

pub row_applies : (s : Replica) (now : ℕ) (row : StoreRow) (x : Entry) → (store_perform s now row).1.applied ≡ Some x → Has row x
row_applies s now (Appends e load) x h = appended_applies (is_member s) (is_tail s) (nat_le 256 (length s.pending)) s now e x load h
row_applies s now (AppendsSnap key g e) x h = appended_applies (is_member s) (is_tail s) (nat_le 256 (length s.pending)) (record s { gathered = put s.gathered key g }) now e x None h
row_applies s now (Adopts config) x h = configured_applies (is_tail (record s { config = config })) (record s { config = config }) x h
row_applies s now (Loses cause) x h = cc
row_applies s now (Answers to body) x h = cc
row_applies s now (Echoes of load) x h = cc
row_applies s now (Gathers key g) x h = cc
row_applies s now (Commits index) x h = cc
row_applies s now Resends x h = cc

-- where an applied entry comes from: the replica is the head, or it is the next entry of a Forward of its configuration
pub data ComesBy (s : Replica) (x : Entry) : Body → Type 0 where
  at_head : {body : Body} → is_head s ≡ true → ComesBy s x body
  by_forward : {number index : ℕ} {load : Option Carried} → number ≡ s.config.number → index ≡ s.applied + 1 → ComesBy s x (Body.Forward number index x load)

pub taken_comes : {s : Replica} {now : ℕ} {from : Node} {body : Body} {row : StoreRow} (x : Entry) → Taken s now from body row → Has row x → ComesBy s x body
taken_comes x (first_grant head at) e = at_head head
taken_comes x (own_grant head at own later) e = at_head head
taken_comes x (other_grant head at other old) e = at_head head
taken_comes x (next_put head at e n d) is = at_head head
taken_comes x (next_snap head at e n w f) is = at_head head
taken_comes {s = s} x (forwarded {config = config} {index = index} {load = load} c i f) is = subst (λ y. ComesBy s x (Body.Forward config index y load)) (sym is) (by_forward (eqb-true _ _ c) (eqb-true _ _ i))
taken_comes x lost e = absurd e
taken_comes x busied e = absurd e
taken_comes x echoed_ask e = absurd e
taken_comes x denied e = absurd e
taken_comes x denied_snap e = absurd e
taken_comes x echoed_put e = absurd e
taken_comes x echoed_snap e = absurd e
taken_comes x (gathered f) e = absurd e
taken_comes x (granted_again a at tail o) e = absurd e
taken_comes x (acked_again n a at tail o) e = absurd e
taken_comes x had e = absurd e
taken_comes x (committed above within) e = absurd e
taken_comes x (adopted later) e = absurd e

-- a row that adopts comes of a newer configuration
pub taken_adopts : {s : Replica} {now : ℕ} {from : Node} {body : Body} {config : Config} → Taken s now from body (Adopts config) → (body ≡ Body.Config config) × (s.config.number < config.number)
taken_adopts (adopted later) = (refl, later)

pub taken_commits : {s : Replica} {now : ℕ} {from : Node} {body : Body} {index : ℕ} → Taken s now from body (Commits index) → body ≡ Body.Have index
taken_commits (committed above within) = refl

-- ---- its known commit

pub data KnownFrom (s : Replica) : StoreRow → Replica → Type 0 where
  at_tail : {row : StoreRow} {r : Replica} → is_tail r ≡ true → KnownFrom s row r
  as_before : {row : StoreRow} {r : Replica} → r.known ≡ s.known → KnownFrom s row r
  told : {index : ℕ} {r : Replica} → r.known ≡ index → KnownFrom s (Commits index) r

appended_known : (row : StoreRow) (member tail full : Bool) (s r : Replica) (now : ℕ) (e : Entry) (load : Option Carried) → is_tail r ≡ tail → r.known ≡ s.known → KnownFrom s row (appended_as member tail full r now e load).0
appended_known row false tail full s r now e load is k = as_before k
appended_known row true true full s r now e load is k = at_tail is
appended_known row true false true s r now e load is k = as_before k
appended_known row true false false s r now e load is k = as_before k

configured_known : (row : StoreRow) (tail : Bool) (s r : Replica) → is_tail r ≡ tail → r.known ≡ s.known → KnownFrom s row (configured_as tail r).0
configured_known row true s r is k = at_tail is
configured_known row false s r is k = as_before k

pub row_known : (s : Replica) (now : ℕ) (row : StoreRow) → KnownFrom s row (store_perform s now row).0
row_known s now (Appends e load) = appended_known _ (is_member s) (is_tail s) (nat_le 256 (length s.pending)) s s now e load refl refl
row_known s now (AppendsSnap key g e) = appended_known _ (is_member s) (is_tail s) (nat_le 256 (length s.pending)) s (record s { gathered = put s.gathered key g }) now e None refl refl
row_known s now (Adopts config) = configured_known _ (is_tail (record s { config = config })) s (record s { config = config }) refl refl
row_known s now (Commits index) = told refl
row_known s now _ = as_before refl

-- ---- what it sends

abbrev pub Sent : Replica → List Entry → List Msg → Type 0
Sent r entries ms = Each (λ (m : Msg). SentBooks r entries m.from m.to m.body) ms

to_one : (r s : Replica) (entries : List Entry) (o : Option ℕ) (body : Body) → ((n : ℕ) → o ≡ Some n → SentBooks r entries (Node.Replica s.me) (Node.Replica n) body) → Sent r entries (to_replica s o body)
to_one r s entries None body h = tt
to_one r s entries (Some n) body h = (h n refl, tt)

answer_sent : (r s : Replica) (entries : List Entry) (e : Entry) (load : Option Carried) (o : Option Record) → Sent r entries (owner_answer s e load o)
answer_sent r s entries e load None = tt
answer_sent r s entries (Entry.Grant key epoch switch inc nonce) load (Some x) = (tt, tt)
answer_sent r s entries (Entry.Put key epoch number delta) load (Some x) = (tt, tt)
answer_sent r s entries (Entry.Snap key epoch round cells) load (Some x) = (tt, tt)

-- the step's messages, over the book that it leaves
abbrev pub StepSent : List Booked → ℕ → ℕ → StoreStep → Type 0
StepSent book now event step = Sent step.0 (entries_of (book_after now event book step.1.applied)) step.1.sent

pushed_at : (book : List Booked) (b : Booked) (place : ℕ) → place ≡ length book + 1 → EntryAt (entries_of (book ++ b ∷ [])) place b.entry
pushed_at book b place at = rw (entries_of-push book b) (entry_pushed (entries_of book) b.entry place (omega (arith, length-entries_of book)))

appended_sent : (member tail full : Bool) (s : Replica) (book : List Booked) (now event : ℕ) (e : Entry) (load : Option Carried) → s.applied ≡ length book → StepSent book now event (appended_as member tail full s now e load)
appended_sent false tail full s book now event e load count = tt
appended_sent true true full s book now event e load count =
    each_append (λ (m : Msg). SentBooks (record (with_entry s e now) { known = s.applied + 1 }) (entries_of (book ++ record { entry = e; moment = now; event = event } ∷ [])) m.from m.to m.body)
    (owner_answer (with_entry s e now) e load (record_at (with_entry s e now) (entry_key e))) _
    (answer_sent (record (with_entry s e now) { known = s.applied + 1 }) (with_entry s e now) (entries_of (book ++ record { entry = e; moment = now; event = event } ∷ [])) e load (record_at (with_entry s e now) (entry_key e)))
    (to_one (record (with_entry s e now) { known = s.applied + 1 }) (with_entry s e now) (entries_of (book ++ record { entry = e; moment = now; event = event } ∷ [])) (predecessor_of s.config.chain s.me) (Body.Have (s.applied + 1)) (λ n is. omega arith))
appended_sent true false true s book now event e load count = tt
appended_sent true false false s book now event e load count =
    to_one (record (with_entry s e now) { pending = s.pending ++ e ∷ [] }) (with_entry s e now) (entries_of (book ++ record { entry = e; moment = now; event = event } ∷ [])) (successor_of s.config.chain s.me) (Body.Forward s.config.number (s.applied + 1) e load)
    (λ n is. (refl, refl, is, pushed_at book (record { entry = e; moment = now; event = event }) (s.applied + 1) (omega (arith, count))))

configured_sent : (tail : Bool) (s : Replica) (book : List Booked) (now event : ℕ) → StepSent book now event (configured_as tail s)
configured_sent true s book now event =
    each_if (λ (m : Msg). SentBooks (record s { known = s.applied; pending = [] }) (entries_of (book ++ [])) m.from m.to m.body) (nat_lt 0 s.applied) _ []
    (to_one (record s { known = s.applied; pending = [] }) (record s { known = s.applied; pending = [] }) (entries_of (book ++ [])) (predecessor_of s.config.chain s.me) (Body.Have s.applied) (λ n is. omega arith)) tt
configured_sent false s book now event = tt

-- pending entries from a place on
forwards_sent : (s : Replica) (entries before es behind : List Entry) (index : ℕ) → entries ≡ before ++ (es ++ behind) → index ≡ length before + 1 → Sent s entries (forwards s index es)
forwards_sent s entries before [] behind index is at = tt
forwards_sent s entries before (e ∷ es) behind index is at =
    each_append _ _ (forwards s (index + 1) es)
    (to_one s s entries (successor_of s.config.chain s.me) (Body.Forward s.config.number index e None)
    (λ n next. (refl, refl, next, record { before = before; behind = es ++ behind; is = is; place_is = at })))
    (forwards_sent s entries (before ++ e ∷ []) es behind (index + 1) (is ∙ sym (append_assoc before (e ∷ []) (es ++ behind))) (omega (arith, at, length-append before (e ∷ []))))

resent_sent : (s : Replica) (book : List Booked) → Stands s book → Sent s (entries_of book) (forwards s (s.known + 1) (take 64 s.pending))
resent_sent s book h =
    forwards_sent s (entries_of book) (take s.known (entries_of book)) (take 64 s.pending) (drop 64 s.pending) (s.known + 1)
    (sym (take-append-drop s.known (entries_of book)) ∙ ap (λ es. take s.known (entries_of book) ++ es) (sym h.pending_past ∙ sym (take-append-drop 64 s.pending)))
    (omega (arith, length-take s.known (entries_of book), length-entries_of book, h.known_within))

pub alarm_sent : (s : Replica) (book : List Booked) (now event : ℕ) → Stands s book → StepSent book now event (store_step s now Input.Alarm)
alarm_sent s book now event h = rw append-nil (resent_sent s book h)

pub taken_sent : {s : Replica} {now : ℕ} {from : Node} {body : Body} {row : StoreRow} (book : List Booked) (event : ℕ) → s.applied ≡ length book → Taken s now from body row → StepSent book now event (store_perform s now row)
taken_sent book event count lost = tt
taken_sent book event count busied = (tt, tt)
taken_sent book event count denied = (tt, tt)
taken_sent book event count denied_snap = (tt, tt)
taken_sent book event count (granted_again a at tail o) = (tt, tt)
taken_sent book event count (acked_again n a at tail o) = (tt, tt)
taken_sent book event count had = (omega arith, tt)
taken_sent book event count (gathered f) = tt
taken_sent {s = s} book event count echoed_ask = to_one s s (entries_of (book ++ [])) (last_of s.config.chain) _ (λ n is. tt)
taken_sent {s = s} book event count echoed_put = to_one s s (entries_of (book ++ [])) (last_of s.config.chain) _ (λ n is. tt)
taken_sent {s = s} book event count echoed_snap = to_one s s (entries_of (book ++ [])) (last_of s.config.chain) _ (λ n is. tt)
taken_sent {s = s} book event count (committed {index = index} above within) = to_one (record s { known = index; pending = drop (index - s.known) s.pending }) s (entries_of (book ++ [])) (predecessor_of s.config.chain s.me) (Body.Have index) (λ n is. omega arith)
taken_sent {s = s} {now = now} book event count (adopted {config = config} later) = configured_sent (is_tail (record s { config = config })) (record s { config = config }) book now event
taken_sent {s = s} {now = now} book event count (next_snap {key = key} {g = g} head at e n w f) =
    appended_sent (is_member s) (is_tail s) (nat_le 256 (length s.pending)) (record s { gathered = put s.gathered key g }) book now event _ None count
taken_sent {s = s} {now = now} book event count (first_grant head at) = appended_sent (is_member s) (is_tail s) (nat_le 256 (length s.pending)) s book now event _ _ count
taken_sent {s = s} {now = now} book event count (own_grant head at own later) = appended_sent (is_member s) (is_tail s) (nat_le 256 (length s.pending)) s book now event _ _ count
taken_sent {s = s} {now = now} book event count (other_grant head at other old) = appended_sent (is_member s) (is_tail s) (nat_le 256 (length s.pending)) s book now event _ _ count
taken_sent {s = s} {now = now} book event count (next_put head at e n d) = appended_sent (is_member s) (is_tail s) (nat_le 256 (length s.pending)) s book now event _ _ count
taken_sent {s = s} {now = now} book event count (forwarded c i f) = appended_sent (is_member s) (is_tail s) (nat_le 256 (length s.pending)) s book now event _ _ count
