-- Each lease ends one term after the first sending of a request of its epoch whose entry is committed.
use Rattle.std.proofs.Common.{◌≡◌, ◌⊎◌, inl, inr, ℕ, ◌+◌, ◌≤◌, List, [], ◌∷◌, Option, Some, None, refl, sym, ap, ◌∙◌, subst, true, false, Bool, arith}
use Rattle.std.specs.Prelude.{fold, filter, nat_lt, nat_le, max, if◌then◌else◌}
use Rattle.std.proofs.lemmas.Bool.{and_parts, leb-true, leb-false}
use Rattle.rp_base.specs.declared.node.Node.{Node}
use Rattle.proto_data.specs.declared.message.Body.{Body}
use Rattle.proto_data.specs.declared.message.Entry.{Entry}
use Rattle.proto_data.specs.declared.message.Input.{Input}
use Rattle.proto_data.specs.declared.message.Carried.{Carried}
use Rattle.rp_app.specs.Application.{Application}
use Rattle.key_table.specs.Table.{Key}
use Rattle.proto_model.specs.Slot.{Slot, Lease, Round, Idle, Asking, Held, Lapsed, epoch_of, lapsed_lease, extended}
use Rattle.proto_model.specs.SwitchState.{Copy, slot_at, is_covered, greatest_first}
use Rattle.proto_model.specs.SwitchOutcomes.{acked_lease}
use Rattle.proto_model.specs.Committed.{number_in}
use Rattle.proto_model.specs.World.{World, SwitchNode}
use Rattle.proto_safety.specs.Books.{In, IsPrefix, committed_of}
use Rattle.proto_safety.specs.Flows.{FitsFrom, AckedIn}
use Rattle.proto_safety.specs.LeaseLaws.{AskOf, NumberOf, First, IsEntryOf, Grounded, LeaseGrounded}
use Rattle.proto_safety.proofs.Leasing.FirstSendings.{sending}
use Rattle.proto_safety.proofs.Leasing.SlotFirsts.{NodeFirsts, lapsed_epoch}
use Rattle.proto_safety.proofs.Leasing.SwitchSince.{Since, NotLeased, idle, kept, took, kept_by, kept_by_round}
use Rattle.proto_safety.proofs.Nodes.SwitchTable.{msg}
use Rattle.proto_safety.proofs.Store.EpochNumbers.{numbers_below, number_epoch, number_value}
use Rattle.proto_safety.proofs.Basics.Members.{in_filter}
use Rattle.proto_safety.proofs.Basics.Prefixes.{in_prefix}

-- ---- the list goes on, and so does the committed book

pub lease_later : (fs gs : List First) (w x : World) (n inc : ℕ) (key : Key) (l : Lease) → ((f : First) → In fs f → In gs f) → x.terms ≡ w.terms → IsPrefix (committed_of w.replicas) (committed_of x.replicas) → LeaseGrounded fs w n inc key l → LeaseGrounded gs x n inc key l
lease_later fs gs w x n inc key Idle more terms grows h = tt
lease_later fs gs w x n inc key (Asking nonce first) more terms grows h = more _ h
lease_later fs gs w x n inc key (Held nonce epoch expiry) more terms grows h =
    record { first = h.first; was = more h.first h.was; switch_is = h.switch_is; key_is = h.key_is; request_of = h.request_of; expiry_is = h.expiry_is ∙ ap (λ t. h.first.moment + t.t_switch) (sym terms); entry = h.entry; committed = in_prefix (committed_of w.replicas) (committed_of x.replicas) h.entry grows h.committed; entry_of = h.entry_of; in_epoch = h.in_epoch }
lease_later fs gs w x n inc key (Lapsed nonce epoch expiry) more terms grows h =
    record { first = h.first; was = more h.first h.was; switch_is = h.switch_is; key_is = h.key_is; request_of = h.request_of; expiry_is = h.expiry_is ∙ ap (λ t. h.first.moment + t.t_switch) (sym terms); entry = h.entry; committed = in_prefix (committed_of w.replicas) (committed_of x.replicas) h.entry grows h.committed; entry_of = h.entry_of; in_epoch = h.in_epoch }

-- a lease that has lapsed ends when it ended
lapsed_grounded : (fs : List First) (w : World) (n inc now : ℕ) (key : Key) (l : Lease) → LeaseGrounded fs w n inc key l → LeaseGrounded fs w n inc key (lapsed_lease now l)
lapsed_grounded fs w n inc now key (Held nonce epoch expiry) h = held_case (nat_le expiry now)
  where
    held_case : (b : Bool) → LeaseGrounded fs w n inc key (if b then Lapsed nonce epoch expiry else Held nonce epoch expiry)
    held_case true = h
    held_case false = h
lapsed_grounded fs w n inc now key Idle h = h
lapsed_grounded fs w n inc now key (Asking nonce first) h = h
lapsed_grounded fs w n inc now key (Lapsed nonce epoch expiry) h = h

-- ---- the greatest copy that an Ack covers

pub record BestCopy (cs : List Copy) (best : ℕ × ℕ) : Type 0 where
  pub copy : Copy
  pub there : In cs copy
  pub number : copy.number ≡ best.0
  pub first : copy.first ≡ best.1

best_from : (o : Option (ℕ × ℕ)) (cs : List Copy) (best : ℕ × ℕ) → fold greatest_first o cs ≡ Some best → BestCopy cs best ⊎ (o ≡ Some best)
best_from o [] best is = inr is
best_from o (c ∷ cs) best is = later_case (best_from (greatest_first o c) cs best is)
  where
    here_case : (o : Option (ℕ × ℕ)) → greatest_first o c ≡ Some best → BestCopy (c ∷ cs) best ⊎ (o ≡ Some best)
    here_case None e = let same : (c.number, c.first) ≡ best = cc in inl (record { copy = c; there = inl refl; number = ap (λ p. p.0) same; first = ap (λ p. p.1) same })
    here_case (Some b) e = test_case (nat_le c.number b.0) e
      where
        test_case : (t : Bool) → (if t then Some b else Some (c.number, c.first)) ≡ Some best → BestCopy (c ∷ cs) best ⊎ (Some b ≡ Some best)
        test_case true e = inr e
        test_case false e = let same : (c.number, c.first) ≡ best = cc in inl (record { copy = c; there = inl refl; number = ap (λ p. p.0) same; first = ap (λ p. p.1) same })

    later_case : BestCopy cs best ⊎ (greatest_first o c ≡ Some best) → BestCopy (c ∷ cs) best ⊎ (o ≡ Some best)
    later_case (inl b) = inl (record { copy = b.copy; there = inr b.there; number = b.number; first = b.first })
    later_case (inr e) = here_case o e

best_copy : (cs : List Copy) (best : ℕ × ℕ) → fold greatest_first None cs ≡ Some best → BestCopy cs best
best_copy cs best is = none_case (best_from None cs best is)
  where
    none_case : BestCopy cs best ⊎ (None ≡ Some best) → BestCopy cs best
    none_case (inl b) = b
    none_case (inr e) = let no : None ≡ Some best = e in absurd cc

-- a number that isn't 0 is a Put's or a Snap's
numbered_entry : (n m : ℕ) (key : Key) (epoch number : ℕ) (e : Entry) → 1 ≤ number → number_in key epoch e ≡ Some number → IsEntryOf (sending n m key (NumberOf epoch number)) e
numbered_entry n m key epoch number (Entry.Grant k x switch inc nonce) some is =
    let v : number ≡ 0 = number_value key epoch number (Entry.Grant k x switch inc nonce) is in absurd (omega (arith, v, some))
numbered_entry n m key epoch number (Entry.Put k x j delta) some is =
    let p = number_epoch key epoch number (Entry.Put k x j delta) is in
    let v : number ≡ j = number_value key epoch number (Entry.Put k x j delta) is in
    (p.0, rw (p.1, v) refl)
numbered_entry n m key epoch number (Entry.Snap k x j cells) some is =
    let p = number_epoch key epoch number (Entry.Snap k x j cells) is in
    let v : number ≡ j = number_value key epoch number (Entry.Snap k x j cells) is in
    (p.0, rw (p.1, v) refl)

-- ---- one step of a switch

module _ (app : Application) (fs gs : List First) (w x : World) (n : ℕ) (node : SwitchNode) (input : Input) (terms : x.terms ≡ w.terms) (own_terms : node.state.terms ≡ w.terms) (grows : IsPrefix (committed_of w.replicas) (committed_of x.replicas))
    (more : (f : First) → In fs f → In gs f) (firsts : NodeFirsts fs n node.state.inc node.state.slots node.state.copies) (fits : (key : Key) → FitsFrom app.cell_count key None (committed_of w.replicas)) (positive : (c : Copy) → In node.state.copies c → 1 ≤ c.number)
    (numbered : (key : Key) (slot : Slot) (r : Round) → slot_at node.state key ≡ Some slot → slot.round ≡ Some r → 1 ≤ r.number)
    (told : (from to : Node) (nonce e : ℕ) (key : Key) (values : List ℕ) (load : Option Carried) → input ≡ msg from to (Body.Grant node.state.inc nonce e key values load) → In (committed_of w.replicas) (Entry.Grant key e n node.state.inc nonce))
    (acked : (from to : Node) (epoch upto : ℕ) (key : Key) (load : Option Carried) → input ≡ msg from to (Body.Ack node.state.inc epoch upto key load) → AckedIn (committed_of w.replicas) epoch upto key)
    (h : (key : Key) (slot : Slot) → slot_at node.state key ≡ Some slot → LeaseGrounded fs w n node.state.inc key slot.lease) where
  abbrev Now : Key → Lease → Type 0
  Now key l = LeaseGrounded gs x n node.state.inc key l

  before : (key : Key) (slot : Slot) → slot_at node.state key ≡ Some slot → Now key slot.lease
  before key slot at = lease_later fs gs w x n node.state.inc key slot.lease more terms grows (h key slot at)

  -- a lease by a number of its epoch that is committed
  by_number : (key : Key) (nonce epoch upto first number : ℕ) → In fs (sending n first key (NumberOf epoch number)) → 1 ≤ number → number ≤ upto → AckedIn (committed_of w.replicas) epoch upto key →
      Grounded gs x n node.state.inc key nonce epoch (first + node.state.terms.t_switch)
  by_number key nonce epoch upto first number i some le a =
      let m = numbers_below app.cell_count key (committed_of w.replicas) a.entry epoch a.number number (fits key) a.there a.number_is (omega (arith, le, a.reaches)) in
      record {
        first = sending n first key (NumberOf epoch number);
        was = more _ i;
        switch_is = refl;
        key_is = refl;
        request_of = refl;
        expiry_is = ap (λ t. first + t.t_switch) (own_terms ∙ sym terms);
        entry = m.entry;
        committed = in_prefix (committed_of w.replicas) (committed_of x.replicas) m.entry grows m.there;
        entry_of = numbered_entry n first key epoch number m.entry some m.number_is;
        in_epoch = number_epoch key epoch number m.entry m.number_is;
      }

  by_copy : (key : Key) (nonce epoch upto : ℕ) (old : Slot) (c : Copy) → slot_at node.state key ≡ Some old → epoch_of old.lease ≡ Some epoch → AckedIn (committed_of w.replicas) epoch upto key → In node.state.copies c → is_covered key upto c ≡ true →
      Grounded gs x n node.state.inc key nonce epoch (c.first + node.state.terms.t_switch)
  by_copy key nonce epoch upto old c at leased a i covered =
      by_number key nonce epoch upto c.first c.number (firsts.copied key old epoch c at leased i (and_parts _ _ covered).0) (positive c i) (leb-true c.number upto (and_parts _ _ covered).1) a

  -- a lease that is extended or renewed from a moment of which one term is grounded
  extended_from : (key : Key) (l : Lease) (epoch begun : ℕ) → ((nonce : ℕ) → Grounded gs x n node.state.inc key nonce epoch (begun + node.state.terms.t_switch)) → epoch_of l ≡ Some epoch → Now key l → Now key (extended node.state.terms.t_switch node.clock begun l)
  extended_from key l epoch begun new of k = lease_case l of k
    where
      held_case : (nonce e expiry : ℕ) → e ≡ epoch → Grounded gs x n node.state.inc key nonce e expiry → (b : Bool) → nat_le expiry (begun + node.state.terms.t_switch) ≡ b → Grounded gs x n node.state.inc key nonce e (max expiry (begun + node.state.terms.t_switch))
      held_case nonce e expiry same k true le =
          let m : max expiry (begun + node.state.terms.t_switch) ≡ begun + node.state.terms.t_switch = omega (arith, leb-true expiry (begun + node.state.terms.t_switch) le) in
          rw (m, same) (new nonce)
      held_case nonce e expiry same k false le =
          let m : max expiry (begun + node.state.terms.t_switch) ≡ expiry = omega (arith, leb-false expiry (begun + node.state.terms.t_switch) le) in
          rw m k

      renew_case : (nonce e expiry : ℕ) → e ≡ epoch → Grounded gs x n node.state.inc key nonce e expiry → (b : Bool) → LeaseGrounded gs x n node.state.inc key (if b then Held nonce e (begun + node.state.terms.t_switch) else Lapsed nonce e expiry)
      renew_case nonce e expiry same k true = rw same (new nonce)
      renew_case nonce e expiry same k false = k

      lease_case : (l : Lease) → epoch_of l ≡ Some epoch → Now key l → Now key (extended node.state.terms.t_switch node.clock begun l)
      lease_case Idle of k = absurd cc
      lease_case (Asking nonce first) of k = absurd cc
      lease_case (Held nonce e expiry) of k = let same : e ≡ epoch = cc in held_case nonce e expiry same k (nat_le expiry (begun + node.state.terms.t_switch)) refl
      lease_case (Lapsed nonce e expiry) of k = let same : e ≡ epoch = cc in renew_case nonce e expiry same k (nat_lt node.clock (begun + node.state.terms.t_switch))

  -- the lease after an Ack
  extended_by : (key : Key) (l : Lease) (epoch upto : ℕ) (old : Slot) → slot_at node.state key ≡ Some old → epoch_of old.lease ≡ Some epoch → AckedIn (committed_of w.replicas) epoch upto key → epoch_of l ≡ Some epoch → Now key l →
      (o : Option (ℕ × ℕ)) → fold greatest_first None (filter (is_covered key upto) node.state.copies) ≡ o → Now key (acked_lease node.state.terms.t_switch node.clock l o)
  extended_by key l epoch upto old at leased a of k None is = k
  extended_by key l epoch upto old at leased a of k (Some best) is = extended_from key l epoch best.1 new of k
    where
      found : BestCopy (filter (is_covered key upto) node.state.copies) best
      found = best_copy (filter (is_covered key upto) node.state.copies) best is

      new : (nonce : ℕ) → Grounded gs x n node.state.inc key nonce epoch (best.1 + node.state.terms.t_switch)
      new nonce =
          let f = in_filter (is_covered key upto) node.state.copies found.copy found.there in
          subst (λ (m : ℕ). Grounded gs x n node.state.inc key nonce epoch (m + node.state.terms.t_switch)) found.first (by_copy key nonce epoch upto old found.copy at leased a f.0 f.1)

  pub lease_now : (key : Key) (l : Lease) → ((nonce first : ℕ) → l ≡ Asking nonce first → In gs (sending n first key (AskOf node.state.inc nonce))) → Since node.state.inc node.state.terms.t_switch node.clock node.state.slots node.state.copies input key l → Now key l
  lease_now key l asking (idle none) = idle_case l none asking
    where
      idle_case : (l : Lease) → NotLeased l → ((nonce first : ℕ) → l ≡ Asking nonce first → In gs (sending n first key (AskOf node.state.inc nonce))) → Now key l
      idle_case Idle none asking = tt
      idle_case (Asking nonce first) none asking = asking nonce first refl
      idle_case (Held nonce epoch expiry) none asking = absurd cc
      idle_case (Lapsed nonce epoch expiry) none asking = absurd cc
  lease_now key l asking (kept old at (inl is)) = subst (λ (y : Lease). Now key y) (sym is) (before key old at)
  lease_now key l asking (kept old at (inr is)) = subst (λ (y : Lease). Now key y) (sym is) (lapsed_grounded gs x n node.state.inc node.clock key old.lease (before key old at))
  lease_now key l asking (took {from = from} {to = to} {nonce = nonce} {first = first} {epoch = epoch} {cells = cells} {load = load} old at is came lease) =
      subst (λ (y : Lease). Now key y) (sym lease)
      (record {
        first = sending n first key (AskOf node.state.inc nonce);
        was = more _ (firsts.asking key old nonce first at is);
        switch_is = refl;
        key_is = refl;
        request_of = (refl, refl);
        expiry_is = ap (λ t. first + t.t_switch) (own_terms ∙ sym terms);
        entry = Entry.Grant key epoch n node.state.inc nonce;
        committed = in_prefix (committed_of w.replicas) (committed_of x.replicas) _ grows (told from to nonce epoch key cells load came);
        entry_of = (refl, refl, refl);
        in_epoch = (refl, refl);
      })
  lease_now key l asking (kept_by {from = from} {to = to} {epoch = epoch} {upto = upto} {load = load} old at leased came (inl is)) =
      subst (λ (y : Lease). Now key y) (sym is) (extended_by key old.lease epoch upto old at leased (acked from to epoch upto key load came) leased (before key old at) _ refl)
  lease_now key l asking (kept_by {from = from} {to = to} {epoch = epoch} {upto = upto} {load = load} old at leased came (inr is)) =
      subst (λ (y : Lease). Now key y) (sym is)
      (extended_by key (lapsed_lease node.clock old.lease) epoch upto old at leased (acked from to epoch upto key load came) (lapsed_epoch node.clock old.lease ∙ leased)
      (lapsed_grounded gs x n node.state.inc node.clock key old.lease (before key old at)) _ refl)
  lease_now key l asking (kept_by_round {from = from} {to = to} {epoch = epoch} {upto = upto} {load = load} old r at leased runs number came is) = lease_case is
    where
      new : (nonce : ℕ) → Grounded gs x n node.state.inc key nonce epoch (r.begun + node.state.terms.t_switch)
      new nonce = by_number key nonce epoch upto r.begun r.number (firsts.rounds key old epoch r at leased runs) (numbered key old r at runs) (omega (arith, number)) (acked from to epoch upto key load came)

      lease_case : (l ≡ extended node.state.terms.t_switch node.clock r.begun old.lease) ⊎ (l ≡ extended node.state.terms.t_switch node.clock r.begun (lapsed_lease node.clock old.lease)) → Now key l
      lease_case (inl same) = subst (λ (y : Lease). Now key y) (sym same) (extended_from key old.lease epoch r.begun new leased (before key old at))
      lease_case (inr same) =
          subst (λ (y : Lease). Now key y) (sym same)
          (extended_from key (lapsed_lease node.clock old.lease) epoch r.begun new (lapsed_epoch node.clock old.lease ∙ leased) (lapsed_grounded gs x n node.state.inc node.clock key old.lease (before key old at)))
