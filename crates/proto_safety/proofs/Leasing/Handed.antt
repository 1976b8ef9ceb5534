-- When a flow's next epoch is granted, in any book: to the same switch by a later Ask, or once each request of the epoch before it has run out at its switch.
use Rattle.std.proofs.Common.{◌≡◌, ◌⊎◌, inl, inr, ℕ, ◌+◌, ◌-◌, ◌*◌, ◌≤◌, List, ◌∷◌, ◌++◌, Option, Some, None, refl, sym, ap, ◌∙◌, subst, true, false, Bool, slice_get, arith, eqb-true}
use Rattle.std.specs.Prelude.{◌==◌, ◌&&◌, ◌||◌, nat_lt, nat_le}
use Rattle.std.proofs.lemmas.Bool.{and_parts, leb-true, leb-false, ltb-true}
use Rattle.std.proofs.Math.Nat.{mul-le-mul_left}
use Rattle.rp_base.specs.declared.node.Node.{Node}
use Rattle.proto_data.specs.declared.message.Body.{Body}
use Rattle.proto_data.specs.declared.message.Entry.{Entry}
use Rattle.proto_data.specs.declared.message.Record.{Record}
use Rattle.proto_data.specs.declared.message.Carried.{Carried}
use Rattle.key_table.specs.Table.{Key}
use Rattle.proto_model.specs.ReplicaState.{Replica, record_at}
use Rattle.proto_model.specs.ReplicaRows.{StoreRow, switch_of, is_later}
use Rattle.proto_model.specs.World.{World, ReplicaNode}
use Rattle.proto_model.specs.Stands.{entries_of}
use Rattle.proto_safety.specs.Books.{In}
use Rattle.proto_safety.specs.LeaseLaws.{First, IsEntryOf, HasEpoch, IsLater, ClockPast}
use Rattle.proto_safety.proofs.Nodes.StoreTable.{Taken, lost, first_grant, own_grant, other_grant, next_put, next_snap, forwarded, busied, echoed_ask, denied, denied_snap, echoed_put, echoed_snap, gathered, granted_again, acked_again, had, committed, adopted}
use Rattle.proto_safety.proofs.Store.StoreBooks.{Has}

-- ---- how a Grant is applied

later_is : (a b c d : ℕ) → is_later a b c d ≡ true → IsLater a b c d
later_is a b c d h = test_case (nat_lt c a) refl h
  where
    test_case : (t : Bool) → nat_lt c a ≡ t → (t || ((a == c) && nat_lt d b)) ≡ true → IsLater a b c d
    test_case true is h = inl (ltb-true c a is)
    test_case false is h = let p = and_parts _ _ h in inr (eqb-true a c p.0, ltb-true d b p.1)

-- a Grant of a flow's first epoch, of its owner's next Ask, of another switch's after the term, or of the replica before in the chain
pub data GrantBy (s : Replica) (now : ℕ) (body : Body) (key : Key) (e n inc nonce : ℕ) : Type 0 where
  as_first : record_at s key ≡ None → e ≡ 1 → GrantBy s now body key e n inc nonce
  as_own : (r : Record) → record_at s key ≡ Some r → e ≡ r.epoch + 1 → n ≡ r.switch → IsLater inc nonce r.inc r.nonce → GrantBy s now body key e n inc nonce
  as_other : (r : Record) → record_at s key ≡ Some r → e ≡ r.epoch + 1 → s.terms.t_store ≤ now - r.moment → GrantBy s now body key e n inc nonce
  as_sent :
      (number index : ℕ) (load : Option Carried) → body ≡ Body.Forward number index (Entry.Grant key e n inc nonce) load → number ≡ s.config.number → index ≡ s.applied + 1 → GrantBy s now body key e n inc nonce

record SameGrant (k : Key) (a b c d : ℕ) (key : Key) (e n inc nonce : ℕ) : Type 0 where
  key_is : k ≡ key
  epoch_is : a ≡ e
  switch_is : b ≡ n
  inc_is : c ≡ inc
  nonce_is : d ≡ nonce

same_grant : (k key : Key) (a b c d e n inc nonce : ℕ) → Entry.Grant k a b c d ≡ Entry.Grant key e n inc nonce → SameGrant k a b c d key e n inc nonce
same_grant k key a b c d e n inc nonce is = record { key_is = cc; epoch_is = cc; switch_is = cc; inc_is = cc; nonce_is = cc }

pub granted_by : {s : Replica} {now : ℕ} {from : Node} {body : Body} {row : StoreRow} (key : Key) (e n inc nonce : ℕ) → Taken s now from body row → Has row (Entry.Grant key e n inc nonce) → GrantBy s now body key e n inc nonce
granted_by {s = s} {from = from} key e n inc nonce (first_grant {inc = i} {nonce = c} {key = k} head at) is =
    let g = same_grant k key 1 (switch_of from) i c e n inc nonce is in as_first (subst (λ (x : Key). record_at s x ≡ None) g.key_is at) (sym g.epoch_is)
granted_by {s = s} {from = from} key e n inc nonce (own_grant {inc = i} {nonce = c} {key = k} {r = r} head at own later) is =
    let g = same_grant k key (r.epoch + 1) (switch_of from) i c e n inc nonce is in
    as_own r (subst (λ (x : Key). record_at s x ≡ Some r) g.key_is at) (sym g.epoch_is) (sym g.switch_is ∙ sym (eqb-true r.switch (switch_of from) own)) (rw (← g.inc_is, ← g.nonce_is) (later_is i c r.inc r.nonce later))
granted_by {s = s} {from = from} key e n inc nonce (other_grant {inc = i} {nonce = c} {key = k} {r = r} head at other old) is =
    let g = same_grant k key (r.epoch + 1) (switch_of from) i c e n inc nonce is in as_other r (subst (λ (x : Key). record_at s x ≡ Some r) g.key_is at) (sym g.epoch_is) (leb-true _ _ old)
granted_by {s = s} key e n inc nonce (forwarded {config = config} {index = index} {entry = entry} {load = load} c i f) is =
    as_sent config index load (ap (λ (x : Entry). Body.Forward config index x load) is) (eqb-true _ _ c) (eqb-true _ _ i)
granted_by key e n inc nonce (next_put head at x y d) is = absurd cc
granted_by key e n inc nonce (next_snap head at x y w f) is = absurd cc
granted_by key e n inc nonce lost is = absurd is
granted_by key e n inc nonce busied is = absurd is
granted_by key e n inc nonce echoed_ask is = absurd is
granted_by key e n inc nonce denied is = absurd is
granted_by key e n inc nonce denied_snap is = absurd is
granted_by key e n inc nonce echoed_put is = absurd is
granted_by key e n inc nonce echoed_snap is = absurd is
granted_by key e n inc nonce (gathered f) is = absurd is
granted_by key e n inc nonce (granted_again a at tail o) is = absurd is
granted_by key e n inc nonce (acked_again m a at tail o) is = absurd is
granted_by key e n inc nonce had is = absurd is
granted_by key e n inc nonce (committed above within) is = absurd is
granted_by key e n inc nonce (adopted later) is = absurd is

-- ---- what is over

-- each request of an epoch before a Grant of the next one has run out at its switch
abbrev pub RunOut : List First → World → Key → ℕ → List Entry → Type 0
RunOut fs w key epoch before = (f : First) (e : Entry) → In fs f → In before e → HasEpoch key epoch e → IsEntryOf f e → ClockPast w f.switch (f.moment + w.terms.t_switch)

-- what a Grant of the next epoch rests on
abbrev pub Passed : List First → World → Key → ℕ → ℕ → ℕ → ℕ → ℕ → ℕ → ℕ → List Entry → Type 0
Passed fs w key epoch s i m n inc nonce before = ((n ≡ s) × IsLater inc nonce i m) ⊎ RunOut fs w key epoch before

-- in every book, running or not
abbrev pub BookHanded : List First → World → List Entry → Type 0
BookHanded fs w es =
    (key : Key) (epoch s i m n inc nonce : ℕ) (before behind : List Entry) → es ≡ before ++ Entry.Grant key (epoch + 1) n inc nonce ∷ behind → In before (Entry.Grant key epoch s i m) → Passed fs w key epoch s i m n inc nonce before

abbrev pub HandedHold : List First → World → Type 0
HandedHold fs w = (r : ℕ) (replica : ReplicaNode) → slice_get w.replicas r ≡ Some replica → BookHanded fs w (entries_of replica.book)

-- the terms are such that a store that has waited for its term has waited longer than a switch's, within the ratio
pub term_passed : (k t_switch t_store now moment b a x : ℕ) → 1 ≤ k → k * t_switch ≤ 1000 * t_store → t_store ≤ now - moment → b ≤ now → b ≤ moment → 1000 * now + k * a ≤ k * x + 1000 * b → a + t_switch ≤ x
term_passed k t_switch t_store now moment b a x some hold waited until le aged = test_case (nat_le (a + t_switch) x) refl
  where
    test_case : (t : Bool) → nat_le (a + t_switch) x ≡ t → a + t_switch ≤ x
    test_case true t = leb-true (a + t_switch) x t
    test_case false t =
        let below : x + 1 ≤ a + t_switch = omega (arith, leb-false (a + t_switch) x t) in
        let scaled : k * (x + 1) ≤ k * (a + t_switch) = mul-le-mul_left k below in
        absurd (omega (arith, scaled, some, hold, waited, until, le, aged))
