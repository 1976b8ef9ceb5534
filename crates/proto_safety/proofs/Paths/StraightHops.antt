-- A straight path hop by hop: each replica appends the entry and hands it on with what it carries, until the tail answers.
use Rattle.std.proofs.Common.{◌≡◌, ◌⊎◌, inl, inr, ℕ, ◌+◌, ◌<◌, List, [], ◌∷◌, length, Option, Some, None, refl, sym, ap, ◌∙◌, subst, true, false, Bool, slice_get, nat_le}
use Rattle.std.specs.Prelude.{◌==◌, if◌then◌else◌}
use Rattle.std.proofs.lemmas.Bool.{and_parts, false≢true}
use Rattle.rp_base.specs.declared.node.Node.{Node}
use Rattle.rp_base.specs.declared.event.Lost.{Lost}
use Rattle.proto_data.specs.declared.message.Msg.{Msg}
use Rattle.proto_data.specs.declared.message.Body.{Body}
use Rattle.proto_data.specs.declared.message.Entry.{Entry}
use Rattle.proto_data.specs.declared.message.Input.{Input}
use Rattle.proto_data.specs.declared.message.Record.{Record}
use Rattle.proto_data.specs.declared.message.Carried.{Carried}
use Rattle.rp_app.specs.Application.{Delta}
use Rattle.proto_model.specs.Effects.{replica_moved, frame_passed}
use Rattle.proto_model.specs.Feeds.{Each}
use Rattle.proto_model.specs.Records.{entry_fits, delta_within}
use Rattle.proto_model.specs.ReplicaRows.{StoreRow, Loses, Answers, Appends, store_row, store_step, store_perform, store_message_row, put_row, covered, appended_as, appended, tail_appended, owner_answer, with_entry, entry_key}
use Rattle.proto_model.specs.ReplicaState.{Replica, StoreStep, record_at, is_head, is_tail, is_member, to_replica, to_node, successor_of, predecessor_of}
use Rattle.proto_model.specs.Runs.{Run, before, act_at}
use Rattle.proto_model.specs.Straight.{Hop, Hops, SentAt, load_of, replica_at, reached, comes_next, put_next}
use Rattle.key_table.specs.Table.{Key}
use Rattle.proto_model.specs.World.{World, ReplicaNode}
use Rattle.proto_model.specs.WorldStep.{Delivers, node_takes, replica_takes, runs_now, runs_at_replica, next_event}
use Rattle.proto_safety.specs.Books.{In}
use Rattle.proto_safety.proofs.Inductions.RunSteps.{event_at}
use Rattle.proto_safety.proofs.Paths.StraightStart.{frame_there}
use Rattle.proto_safety.proofs.Basics.Members.{at_behind, in_append}

-- ---- what an append sends

-- a message that carries on what the entry's request carried
pub data CarriedOn (s : Replica) (now : ℕ) (e : Entry) (c : Carried) (m : Msg) : Type 0 where
  goes_on : (n config index : ℕ) → m.body ≡ Body.Forward config index e (Some c) → m.to ≡ Node.Replica n → CarriedOn s now e c m
  answers :
      is_tail s ≡ true → appended s now e (Some c) ≡ tail_appended (with_entry s e now) e (Some c) → In (owner_answer (with_entry s e now) e (Some c) (record_at (with_entry s e now) (entry_key e))) m → CarriedOn s now e c m

no_have : (s : Replica) (o : Option ℕ) (index : ℕ) (c : Carried) (m : Msg) → In (to_replica s o (Body.Have index)) m → load_of m.body ≡ Some c → ⊥
no_have s None index c m i carries = i
no_have s (Some n) index c m (inl e) carries = let no : None ≡ Some c = ap (λ (x : Msg). load_of x.body) e ∙ carries in cc
no_have s (Some n) index c m (inr i) carries = i

forwarded_on : (s r : Replica) (now : ℕ) (e : Entry) (c : Carried) (m : Msg) (o : Option ℕ) (config index : ℕ) → In (to_replica r o (Body.Forward config index e (Some c))) m → CarriedOn s now e c m
forwarded_on s r now e c m None config index i = absurd i
forwarded_on s r now e c m (Some n) config index (inl is) = goes_on n config index (ap (λ (x : Msg). x.body) (sym is)) (ap (λ (x : Msg). x.to) (sym is))
forwarded_on s r now e c m (Some n) config index (inr i) = absurd i

carried_as : (member tail full : Bool) (s : Replica) (now : ℕ) (e : Entry) (c : Carried) (m : Msg) → is_tail s ≡ tail → appended s now e (Some c) ≡ appended_as member tail full s now e (Some c) →
    In (appended_as member tail full s now e (Some c)).1.sent m → load_of m.body ≡ Some c → CarriedOn s now e c m
carried_as false tail full s now e c m is same i carries = absurd i
carried_as true true full s now e c m is same i carries = part_case (in_append (owner_answer (with_entry s e now) e (Some c) (record_at (with_entry s e now) (entry_key e))) _ m i)
  where
    part_case : In (owner_answer (with_entry s e now) e (Some c) (record_at (with_entry s e now) (entry_key e))) m ⊎ In (to_replica (with_entry s e now) (predecessor_of s.config.chain s.me) (Body.Have (s.applied + 1))) m → CarriedOn s now e c m
    part_case (inl j) = answers is same j
    part_case (inr j) = absurd (no_have (with_entry s e now) (predecessor_of s.config.chain s.me) (s.applied + 1) c m j carries)
carried_as true false true s now e c m is same i carries = absurd i
carried_as true false false s now e c m is same i carries = forwarded_on s (with_entry s e now) now e c m (successor_of s.config.chain s.me) s.config.number (s.applied + 1) i

carried_on : (s : Replica) (now : ℕ) (e : Entry) (c : Carried) (m : Msg) → In (appended s now e (Some c)).1.sent m → load_of m.body ≡ Some c → CarriedOn s now e c m
carried_on s now e c m i carries = carried_as (is_member s) (is_tail s) (nat_le 256 (length s.pending)) s now e c m refl refl i carries

-- ---- which rows carry on

-- a row that appends the entry, or whose messages don't carry this
abbrev pub OnlyAppends : Replica → ℕ → Entry → Carried → StoreRow → Type 0
OnlyAppends s now e c row = (row ≡ Appends e (Some c)) ⊎ ((m : Msg) → In (store_perform s now row).1.sent m → load_of m.body ≡ Some c → ⊥)

put_only_as : (s : Replica) (now : ℕ) (from : Node) (inc epoch number : ℕ) (key : Key) (delta : Delta) (c : Carried) (o : Option Record) → put_next epoch number o ≡ true → (head within : Bool) →
    OnlyAppends s now (Entry.Put key epoch number delta) c (if head then covered s (if within then put_row s from inc epoch number key delta (Some c) o else Loses Lost.Stale) else Loses Lost.Role)
put_only_as s now from inc epoch number key delta c o next false within = inr (λ m i carries. i)
put_only_as s now from inc epoch number key delta c o next true false = inr (λ m i carries. i)
put_only_as s now from inc epoch number key delta c None next true true = absurd (false≢true next)
put_only_as s now from inc epoch number key delta c (Some r) next true true = let p = and_parts (r.epoch == epoch) (number == r.last + 1) next in inl (rw (p.0, p.1) refl)

pub put_only : (s : Replica) (now : ℕ) (from : Node) (inc epoch number : ℕ) (key : Key) (delta : Delta) (c : Carried) → put_next epoch number (record_at s key) ≡ true →
    OnlyAppends s now (Entry.Put key epoch number delta) c (store_message_row s now from (Body.Put inc epoch number key delta (Some c)))
put_only s now from inc epoch number key delta c next = put_only_as s now from inc epoch number key delta c (record_at s key) next (is_head s) (delta_within s.cell_count delta)

forward_only_as : (s : Replica) (now : ℕ) (from : Node) (e : Entry) (c : Carried) (a b d f : Bool) →
    OnlyAppends s now e c (if a then (if b then Answers from (Body.Have s.known) else (if d then (if f then Appends e (Some c) else Loses Lost.Stale) else Loses Lost.Order)) else Loses Lost.Config)
forward_only_as s now from e c false b d f = inr (λ m i carries. i)
forward_only_as s now from e c true true d f = inr (λ m i carries. have_case m i carries)
  where
    have_case : (m : Msg) → In (to_node s from (Body.Have s.known) ∷ []) m → load_of m.body ≡ Some c → ⊥
    have_case m (inl is) carries = let no : None ≡ Some c = ap (λ (x : Msg). load_of x.body) is ∙ carries in cc
    have_case m (inr i) carries = i
forward_only_as s now from e c true false false f = inr (λ m i carries. i)
forward_only_as s now from e c true false true false = inr (λ m i carries. i)
forward_only_as s now from e c true false true true = inl refl

pub forward_only : (s : Replica) (now : ℕ) (from : Node) (config index : ℕ) (e : Entry) (c : Carried) → OnlyAppends s now e c (store_message_row s now from (Body.Forward config index e (Some c)))
forward_only s now from config index e c = forward_only_as s now from e c (config == s.config.number) (nat_le index s.applied) (index == s.applied + 1) (entry_fits s.cell_count s.records e)

-- ---- a hop to a replica

-- at its hop the replica appends the entry
pub record Appending (r : Run) (h : Hop) (e : Entry) (c : Carried) : Type 0 where
  pub n : ℕ
  pub node : ReplicaNode
  pub at : slice_get (before r h.place).replicas n ≡ Some node
  pub up : node.runs ≡ true
  pub to_is : h.msg.to ≡ Node.Replica n
  pub sent : slice_get (before r h.place).frames h.frame ≡ Some h.msg
  pub step_is : store_step node.state node.clock (Input.Msg h.msg) ≡ appended node.state node.clock e (Some c)
  pub after : before r (h.place + 1) ≡ replica_moved (frame_passed (next_event (before r h.place)) h.frame) n node (store_step node.state node.clock (Input.Msg h.msg))

record Reached (r : Run) (h : Hop) (node : ReplicaNode) : Type 0 where
  n : ℕ
  to_is : h.msg.to ≡ Node.Replica n
  at : slice_get (before r h.place).replicas n ≡ Some node
  up : node.runs ≡ true
  sent : slice_get (before r h.place).frames h.frame ≡ Some h.msg
  after : before r (h.place + 1) ≡ replica_moved (frame_passed (next_event (before r h.place)) h.frame) n node (store_step node.state node.clock (Input.Msg h.msg))

reached_at : (r : Run) (h : Hop) (node : ReplicaNode) → act_at r h.place ≡ Some (Delivers h.frame h.msg) → reached r h ≡ Some node → Reached r h node
reached_at r h node delivered is = to_case h.msg.to refl is
  where
    to_case : (to : Node) → h.msg.to ≡ to → replica_at (before r h.place) to ≡ Some node → Reached r h node
    to_case (Node.Switch n) to at = cc
    to_case Node.Master to at = cc
    to_case (Node.Replica n) to at =
        let e = event_at r h.place (Delivers h.frame h.msg) delivered in
        let up : runs_now (next_event (before r h.place)) (Node.Replica n) ≡ true = subst (λ (k : Node). runs_now (next_event (before r h.place)) k ≡ true) to e.fits.1 in
        record {
          n = n;
          to_is = to;
          at = at;
          up = ap runs_at_replica (sym at) ∙ up;
          sent = e.fits.0;
          after = e.then ∙ (ap (λ (k : Node). (node_takes r.app (frame_passed (next_event (before r h.place)) h.frame) k (Input.Msg h.msg)).0) to ∙ ap (λ o. (replica_takes (frame_passed (next_event (before r h.place)) h.frame) n (Input.Msg h.msg) o).0) at);
        }

-- the message of the next hop is among what the replica sent
sent_on : (r : Run) (c : Carried) (h next : Hop) (node : ReplicaNode) → Reached r h node → SentAt r c h.place next → In (store_step node.state node.clock (Input.Msg h.msg)).1.sent next.msg
sent_on r c h next node q s =
    at_behind (before r h.place).frames (store_step node.state node.clock (Input.Msg h.msg)).1.sent next.frame next.msg
    (subst (λ (w : World). slice_get w.frames next.frame ≡ Some next.msg) q.after (frame_there r c h.place next s)) s.not_before

pub appending : (r : Run) (c : Carried) (h next : Hop) (node : ReplicaNode) (e : Entry) → act_at r h.place ≡ Some (Delivers h.frame h.msg) → reached r h ≡ Some node → SentAt r c h.place next →
    OnlyAppends node.state node.clock e c (store_row node.state node.clock (Input.Msg h.msg)) → Appending r h e c
appending r c h next node e delivered is s only = only_case only
  where
    q : Reached r h node
    q = reached_at r h node delivered is

    only_case : OnlyAppends node.state node.clock e c (store_row node.state node.clock (Input.Msg h.msg)) → Appending r h e c
    only_case (inl row) = record { n = q.n; node = node; at = q.at; up = q.up; to_is = q.to_is; sent = q.sent; step_is = ap (λ x. store_perform node.state node.clock x) row; after = q.after }
    only_case (inr none) = absurd (none next.msg (sent_on r c h next node q s) s.carries)

appended_on : (r : Run) (c : Carried) (h next : Hop) (e : Entry) (a : Appending r h e c) → SentAt r c h.place next → CarriedOn a.node.state a.node.clock e c next.msg
appended_on r c h next e a s =
    carried_on a.node.state a.node.clock e c next.msg
    (subst (λ (x : StoreStep). In x.1.sent next.msg) a.step_is
    (sent_on r c h next a.node (record { n = a.n; to_is = a.to_is; at = a.at; up = a.up; sent = a.sent; after = a.after }) s)) s.carries

-- ---- to the tail

-- the tail appends the entry at its hop, and answers by the last one
pub record Answered (r : Run) (c : Carried) (e : Entry) (last : Hop) : Type 0 where
  pub hop : Hop
  pub here : Appending r hop e c
  pub tail : is_tail here.node.state ≡ true
  pub step_is : store_step here.node.state here.node.clock (Input.Msg hop.msg) ≡ tail_appended (with_entry here.node.state e here.node.clock) e (Some c)
  pub there : In (owner_answer (with_entry here.node.state e here.node.clock) e (Some c) (record_at (with_entry here.node.state e here.node.clock) (entry_key e))) last.msg
  pub later : hop.place < last.place

pub next_hop : (r : Run) (c : Carried) (place : ℕ) (hs : List Hop) (last : Hop) → Hops r c place hs last → (next : Hop) × SentAt r c place next
next_hop r c place [] last h = (last, h)
next_hop r c place (x ∷ hs) last h = (x, h.0)

-- what comes next is a Forward to a replica
comes_where : (o : Option ReplicaNode) (body : Body) → comes_next o body ≡ true → (node : ReplicaNode) × (o ≡ Some node)
comes_where None body is = absurd (none_case body is)
  where
    none_case : (b : Body) → comes_next None b ≡ true → ⊥
    none_case (Body.Forward config index entry load) h = false≢true h
    none_case _ h = false≢true h
comes_where (Some node) body is = (node, refl)

no_answer : (s : Replica) (e : Entry) (load : Option Carried) (o : Option Record) (m : Msg) (node : ReplicaNode) → In (owner_answer s e load o) m → comes_next (Some node) m.body ≡ true → ⊥
no_answer s e load None m node i is = i
no_answer s (Entry.Grant key epoch switch inc nonce) load (Some r) m node (inl q) is = false≢true (ap (λ (x : Msg). comes_next (Some node) x.body) q ∙ is)
no_answer s (Entry.Put key epoch number delta) load (Some r) m node (inl q) is = false≢true (ap (λ (x : Msg). comes_next (Some node) x.body) q ∙ is)
no_answer s (Entry.Snap key epoch round cells) load (Some r) m node (inl q) is = false≢true (ap (λ (x : Msg). comes_next (Some node) x.body) q ∙ is)
no_answer s (Entry.Grant key epoch switch inc nonce) load (Some r) m node (inr i) is = i
no_answer s (Entry.Put key epoch number delta) load (Some r) m node (inr i) is = i
no_answer s (Entry.Snap key epoch round cells) load (Some r) m node (inr i) is = i

pub reaches_tail : (r : Run) (c : Carried) (e : Entry) (s : ℕ) (h : Hop) (hs : List Hop) (last : Hop) → Hops r c h.place hs last → Appending r h e c → last.msg.to ≡ Node.Switch s → Each (λ x. comes_next (reached r x) x.msg.body ≡ true) hs → Answered r c e last
reaches_tail r c e s h [] last sent a to comes = last_case (appended_on r c h last e a sent)
  where
    last_case : CarriedOn a.node.state a.node.clock e c last.msg → Answered r c e last
    last_case (goes_on n config index body replica) = let no : Node.Replica n ≡ Node.Switch s = sym replica ∙ to in cc
    last_case (answers tail step there) = record { hop = h; here = a; tail = tail; step_is = a.step_is ∙ step; there = there; later = sent.later }
reaches_tail r c e s h (x ∷ hs) last hops a to comes = next_case (λ b. reaches_tail r c e s x hs last hops.1 b to comes.1) (appended_on r c h x e a hops.0)
  where
    node_at : (node : ReplicaNode) × (reached r x ≡ Some node)
    node_at = comes_where (reached r x) x.msg.body comes.0

    next_case : (Appending r x e c → Answered r c e last) → CarriedOn a.node.state a.node.clock e c x.msg → Answered r c e last
    next_case rest (goes_on n config index body replica) =
        let next = next_hop r c x.place hs last hops.1 in
        rest
        (appending r c x next.0 node_at.0 e hops.0.delivered node_at.1 next.1
        (subst (λ (b : Body). OnlyAppends node_at.0.state node_at.0.clock e c (store_message_row node_at.0.state node_at.0.clock x.msg.from b)) (sym body) (forward_only node_at.0.state node_at.0.clock x.msg.from config index e c)))
    next_case rest (answers tail step there) =
        absurd (no_answer (with_entry a.node.state e a.node.clock) e (Some c) _ x.msg node_at.0 there (ap (λ o. comes_next o x.msg.body) (sym node_at.1) ∙ comes.0))
