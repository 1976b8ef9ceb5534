-- What each Grant of a next epoch rests on, where a replica applies one.
use Rattle.std.proofs.Common.{◌≡◌, ◌≢◌, ◌⊎◌, inl, inr, ℕ, ◌+◌, ◌-◌, ◌*◌, ◌≤◌, List, [], ◌∷◌, ◌++◌, map, Option, Some, None, refl, sym, ap, ◌∙◌, subst, arith, slice_get, append_assoc, append-nil, true}
use Rattle.std.specs.Prelude.{option_map}
use Rattle.std.proofs.lemmas.List.{map-append}
use Rattle.rp_base.specs.declared.node.Node.{Node}
use Rattle.proto_data.specs.declared.message.Msg.{Msg}
use Rattle.proto_data.specs.declared.message.Body.{Body}
use Rattle.proto_data.specs.declared.message.Entry.{Entry}
use Rattle.proto_data.specs.declared.message.Record.{Record}
use Rattle.proto_data.specs.declared.message.Input.{Input}
use Rattle.proto_data.specs.declared.message.Carried.{Carried}
use Rattle.proto_data.specs.declared.message.Config.{Config}
use Rattle.rp_app.specs.Application.{Application}
use Rattle.key_table.specs.Table.{Key, get}
use Rattle.proto_model.specs.Records.{Booked, records_of}
use Rattle.proto_model.specs.ReplicaState.{record_at}
use Rattle.proto_model.specs.ReplicaRows.{store_step, store_row, entry_key, StoreRow}
use Rattle.proto_model.specs.Effects.{replica_moved}
use Rattle.proto_model.specs.Stands.{entries_of}
use Rattle.proto_model.specs.World.{World, ReplicaNode}
use Rattle.proto_model.specs.Clocks.{replica_clock}
use Rattle.proto_safety.specs.Books.{In, IsPrefix, Books, NodeBooks, Forwarded, FrameBooks, ToReplica, book_of, entries_at}
use Rattle.proto_safety.specs.Flows.{FitsFrom, flow_in, flow_of}
use Rattle.proto_safety.specs.LeaseLaws.{First, IsEntryOf, IsLater}
use Rattle.proto_safety.proofs.Store.BookEpochs.{SameOwner, one_grant, grant_above, key_of_epoch}
use Rattle.proto_safety.proofs.Store.BookMoments.{AllMoments, NodeMoments, last_in_book}
use Rattle.proto_safety.proofs.Store.BooksStep.{RowOf, of_message, of_alarm, of_packet, row_of, comes_prefix}
use Rattle.proto_safety.proofs.Leasing.FirstsKept.{clock_of_switch, clock_of_replica}
use Rattle.proto_safety.proofs.Store.FlowBooks.{stands_flow, granted_in}
use Rattle.proto_safety.proofs.Leasing.Ground.{Ground, known_of}
use Rattle.proto_safety.proofs.Leasing.Handed.{GrantBy, as_first, as_own, as_other, as_sent, granted_by, Passed, RunOut, BookHanded, HandedHold, term_passed}
use Rattle.proto_safety.proofs.Store.StoreBooks.{Has, row_applies, by_forward}
use Rattle.proto_model.proofs.StoreStands.{book_after}
use Rattle.key_table.proofs.Tables.{same_key-true}
use Rattle.proto_safety.proofs.Store.Timed.{Timed}
use Rattle.proto_safety.proofs.Store.WorldBooks.{known_input}
use Rattle.proto_safety.proofs.Leasing.WorldFirsts.{FirstsHold}
use Rattle.proto_safety.proofs.Store.WorldFits.{NodeFits}
use Rattle.proto_safety.proofs.Leasing.WorldPuts.{Known}
use Rattle.proto_safety.proofs.Inductions.Induction.{Comes}
use Rattle.proto_safety.proofs.Basics.Eachs.{each_at, each_in}
use Rattle.proto_safety.proofs.Basics.Lists.{at_set, none_before}
use Rattle.proto_safety.proofs.Basics.Members.{in_map}

-- a member of a list with one more at its end is that one, or stood before
abbrev LastOrFront : Entry → Entry → List Entry → List Entry → List Entry → Type 0
LastOrFront x y old before behind = ((rest : List Entry) × (old ≡ before ++ y ∷ rest)) ⊎ ((before ≡ old) × (x ≡ y))

last_or_front : (old : List Entry) (x y : Entry) (before behind : List Entry) → old ++ x ∷ [] ≡ before ++ y ∷ behind → LastOrFront x y old before behind
last_or_front [] x y [] behind is = let same : x ≡ y = cc in inr (refl, same)
last_or_front [] x y (b ∷ bs) behind is = let rest : [] ≡ bs ++ y ∷ behind = cc in absurd (none_before bs behind y rest)
last_or_front (o ∷ os) x y [] behind is = let same : o ≡ y = cc in inl (os, ap (λ z. z ∷ os) same)
last_or_front (o ∷ os) x y (b ∷ bs) behind is =
    let head : o ≡ b = cc in
    let tail : os ++ x ∷ [] ≡ bs ++ y ∷ behind = cc in more_case head (last_or_front os x y bs behind tail)
  where
    more_case : o ≡ b → LastOrFront x y os bs behind → LastOrFront x y (o ∷ os) (b ∷ bs) behind
    more_case head (inl p) = inl (p.0, λ i. head i ∷ p.1 i)
    more_case head (inr p) = inr ((λ i. sym head i ∷ p.0 i), p.1)

module _ (app : Application) (w : World) (fs : List First) (n : ℕ) (node : ReplicaNode) (input : Input) (at : slice_get w.replicas n ≡ Some node) (up : node.runs ≡ true) (from : Comes w (Node.Replica n) input) (g : Ground app.cell_count w)
    (moments : AllMoments w) (timed : Timed w) (firsts : FirstsHold fs w) (h : HandedHold fs w) where
  known : Known app.cell_count w.frames w.switches w.replicas
  known = known_of app.cell_count w g

  abbrev confs : List Config
  confs = g.0.0.0.0.0.0

  books : Books confs w
  books = g.0.0.0.0.0.1

  mine : NodeBooks confs w.replicas n node
  mine = books.nodes n node at

  fits : (key : Key) → FitsFrom app.cell_count key None (entries_of node.book)
  fits key = known.fits n node key at

  size : node.state.cell_count ≡ app.cell_count
  size = (each_at (NodeFits app.cell_count) w.replicas n node g.0.0.0.0.1 at).cells_are

  terms : node.state.terms ≡ w.terms
  terms = each_at _ w.replicas n node timed.replicas at

  module _ (key : Key) (epoch s i m n' inc nonce : ℕ) (granted : In (entries_of node.book) (Entry.Grant key epoch s i m)) where
    abbrev x : Entry
    x = Entry.Grant key (epoch + 1) n' inc nonce

    abbrev Rests : Type 0
    Rests = Passed fs w key epoch s i m n' inc nonce (entries_of node.book)

    -- the owner of the record is the owner of its epoch
    owner : (r : Record) → record_at node.state key ≡ Some r → epoch + 1 ≡ r.epoch + 1 → SameOwner s i m r.switch r.inc r.nonce
    owner r has e =
        let same : epoch ≡ r.epoch = omega (arith, e) in
        let flow : flow_of app.cell_count key (entries_of node.book) ≡ Some (flow_in r) =
        subst (λ (k : ℕ). flow_of k key (entries_of node.book) ≡ Some (flow_in r)) size (sym (stands_flow node.state node.book key mine.stands) ∙ ap (option_map flow_in) has) in
        one_grant app.cell_count key None (entries_of node.book) epoch s i m r.switch r.inc r.nonce (fits key) granted
        (subst (λ (k : ℕ). In (entries_of node.book) (Entry.Grant key k r.switch r.inc r.nonce)) (sym same) (granted_in app.cell_count key (entries_of node.book) (flow_in r) flow))

    own_case : (r : Record) → record_at node.state key ≡ Some r → epoch + 1 ≡ r.epoch + 1 → n' ≡ r.switch → IsLater inc nonce r.inc r.nonce → Rests
    own_case r has e own later =
        let o = owner r has e in inl (own ∙ sym o.switch, subst (λ (k : ℕ). IsLater inc nonce i k) (sym o.nonce) (subst (λ (k : ℕ). IsLater inc nonce k r.nonce) (sym o.inc) later))

    -- the store waited for its term since the flow's last entry
    run_out : (r : Record) → record_at node.state key ≡ Some r → node.state.terms.t_store ≤ node.clock - r.moment → RunOut fs w key epoch (entries_of node.book)
    run_out r has waited f e fi ei he of other there =
        let b = in_map (λ (b : Booked). b.entry) node.book e ei in
        let aged = firsts.aged f n node b.0 fi at b.1.0 (subst (λ (y : Entry). IsEntryOf f y) (sym b.1.1) of) in
        let bound : 1000 * node.clock + (1000 + w.terms.ratio) * f.moment ≤ (1000 + w.terms.ratio) * other.clock + 1000 * b.0.moment =
        aged.bound other.clock node.clock (clock_of_switch w.switches (map replica_clock w.replicas) f.switch other there) (clock_of_replica w.switches w.replicas n node at) in
        let records : get (records_of node.state.cell_count node.book) key ≡ Some r = subst (λ rs. get rs key ≡ Some r) mine.stands.records_along has in
        let same : entry_key b.0.entry ≡ key = ap entry_key b.1.1 ∙ same_key-true (entry_key e) key (key_of_epoch key epoch e he) in
        let last : b.0.moment ≤ r.moment = last_in_book node.state.cell_count node.book (each_at NodeMoments w.replicas n node moments at).rise key r b.0 records b.1.0 same in
        let until : b.0.moment ≤ node.clock = each_in (λ (c : Booked). c.moment ≤ node.clock) node.book b.0 (each_at NodeMoments w.replicas n node moments at).until b.1.0 in
        let store : w.terms.t_store ≤ node.clock - r.moment = subst (λ t. t ≤ node.clock - r.moment) (ap (λ t. t.t_store) terms) waited in
        let some : 1 ≤ 1000 + w.terms.ratio = omega arith in
        term_passed (1000 + w.terms.ratio) w.terms.t_switch w.terms.t_store node.clock r.moment b.0.moment f.moment other.clock some timed.hold store until last bound

    first_case : epoch + 1 ≡ 1 → Rests
    first_case e = let above : 1 ≤ epoch = grant_above app.cell_count key None (entries_of node.book) epoch s i m (fits key) granted in absurd (omega (arith, e, above))

    -- the sender of a Forward has the entry behind the same book
    sent_case : (a : Msg) (number index : ℕ) (load : Option Carried) → a.to ≡ Node.Replica n → FrameBooks confs w.replicas a.from a.to a.body → a.body ≡ Body.Forward number index x load → number ≡ node.state.config.number → index ≡ node.state.applied + 1 → Rests
    sent_case a number index load to frame body num ind = sender_case (slice_get w.replicas f.sender) refl whole
      where
        k : FrameBooks confs w.replicas a.from a.to (Body.Forward number index x load)
        k = subst (λ (b : Body). FrameBooks confs w.replicas a.from a.to b) body frame

        f : Forwarded confs w.replicas a.from number n index x
        f = subst (λ (t : Node). ToReplica (λ b. Forwarded confs w.replicas a.from number b index x) t) to k

        there : In node.state.config.chain f.sender
        there = books.configs.later node.state.config f.config mine.config f.was (omega (arith, f.number_is, num)) f.sender n (books.configs.members node.state.config mine.config n node at up) f.sender_in f.sender_before

        whole : IsPrefix (entries_of node.book ++ x ∷ []) (book_of w.replicas f.sender)
        whole =
            comes_prefix confs w.config w.replicas node.state node.book n f.sender node x a.from a.to (Body.Forward number index x load) books.configs mine.config mine.me at up mine.stands.count there f.sender_before
            (mine.behind up f.sender there f.sender_before) to k (by_forward num ind)

        sender_case : (o : Option ReplicaNode) → slice_get w.replicas f.sender ≡ o → IsPrefix (entries_of node.book ++ x ∷ []) (entries_at o) → Rests
        sender_case None is p = absurd (none_before (entries_of node.book) p.rest x (sym p.is ∙ append_assoc (entries_of node.book) (x ∷ []) p.rest))
        sender_case (Some sender) is p = h f.sender sender is key epoch s i m n' inc nonce (entries_of node.book) p.rest (sym p.is ∙ append_assoc (entries_of node.book) (x ∷ []) p.rest) granted

    by_case : (a : Msg) → a.to ≡ Node.Replica n → FrameBooks confs w.replicas a.from a.to a.body → GrantBy node.state node.clock a.body key (epoch + 1) n' inc nonce → Rests
    by_case a to frame (as_first has e) = first_case e
    by_case a to frame (as_own r has e own later) = own_case r has e own later
    by_case a to frame (as_other r has e waited) = inr (run_out r has waited)
    by_case a to frame (as_sent number index load body num ind) = sent_case a number index load to frame body num ind

    applied_case : (y : Input) (row : StoreRow) → RowOf node.state node.clock y row → Comes w (Node.Replica n) y → Has row x → Rests
    applied_case (Input.Msg a) row (of_message t) come has = let k = known_input confs w n (Input.Msg a) come books in by_case a k.0 k.1 (granted_by key (epoch + 1) n' inc nonce t has)
    applied_case y row of_alarm come has = absurd has
    applied_case y row of_packet come has = absurd has

  -- one more entry
  pushed : (y : Entry) → (store_step node.state node.clock input).1.applied ≡ Some y → BookHanded fs w (entries_of node.book ++ y ∷ [])
  pushed y is key epoch s i m n' inc nonce before behind at_end granted = end_case (last_or_front (entries_of node.book) y (Entry.Grant key (epoch + 1) n' inc nonce) before behind at_end)
    where
      end_case : LastOrFront y (Entry.Grant key (epoch + 1) n' inc nonce) (entries_of node.book) before behind → Passed fs w key epoch s i m n' inc nonce before
      end_case (inl p) = h n node at key epoch s i m n' inc nonce before p.0 p.1 granted
      end_case (inr p) =
          let has : Has (store_row node.state node.clock input) (Entry.Grant key (epoch + 1) n' inc nonce) =
          subst (λ (z : Entry). Has (store_row node.state node.clock input) z) p.1 (row_applies node.state node.clock (store_row node.state node.clock input) y is) in
          subst (λ (l : List Entry). Passed fs w key epoch s i m n' inc nonce l) (sym p.0)
          (applied_case key epoch s i m n' inc nonce (subst (λ (l : List Entry). In l (Entry.Grant key epoch s i m)) p.0 granted) input (store_row node.state node.clock input) (row_of node.state node.clock input) from has)

  book_now : (o : Option Entry) → (store_step node.state node.clock input).1.applied ≡ o → BookHanded fs w (entries_of (book_after node.clock w.event node.book o))
  book_now None is = subst (λ (l : List Booked). BookHanded fs w (entries_of l)) (sym (append-nil node.book)) (h n node at)
  book_now (Some y) is =
      subst (λ (l : List Entry). BookHanded fs w l) (sym (map-append (λ (b : Booked). b.entry) node.book (record { entry = y; moment = node.clock; event = w.event } ∷ []))) (pushed y is)

  abbrev new : ReplicaNode
  new = record { runs = node.runs; clock = node.clock; state = (store_step node.state node.clock input).0; book = book_after node.clock w.event node.book (store_step node.state node.clock input).1.applied }

  pub stored_handed : HandedHold fs (replica_moved w n node (store_step node.state node.clock input))
  stored_handed r replica there = node_case (at_set w.replicas n r _ replica there)
    where
      node_case : ((r ≡ n) × (replica ≡ new)) ⊎ ((r ≢ n) × (slice_get w.replicas r ≡ Some replica)) → BookHanded fs w (entries_of replica.book)
      node_case (inl same) = subst (λ (x : ReplicaNode). BookHanded fs w (entries_of x.book)) (sym same.1) (book_now (store_step node.state node.clock input).1.applied refl)
      node_case (inr p) = h r replica p.1
