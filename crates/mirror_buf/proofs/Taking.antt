-- Taking off the first copy of a slot.
use Rattle.std.proofs.Common.{◌≡◌, ◌≢◌, ℕ, ◌+◌, ◌<◌, Bool, true, false, List, [], ◌∷◌, length, Option, Some, None, refl, sym, ap, ◌∙◌, inl, inr, subst, arith, map, filter, eq-eqb, eqb-true}
use Rattle.std.specs.Prelude.{◌==◌, ◌&&◌, not, if◌then◌else◌}
use Rattle.std.proofs.lemmas.Bool.{cases_eq, ne_eqb}
use Rattle.std.proofs.lemmas.List.{length-map}
use Rattle.std.proofs.Math.ListN.{get_or-map}
use Rattle.link_arena.specs.Lists.{Lists, find, find_in, without, without_node, first_id, or_else}
use Rattle.mirror_buf.specs.declared.kept.Kept.{Kept}
use Rattle.mirror_buf.specs.Copies.{Copies, Named, is_of, first_of_greatest}
use Rattle.mirror_buf.specs.Places.{Each, Ordered, Apart, Before, IsBuffer, TookFirst, list_at, if_of, all, seen, within, is_taken}
use Rattle.mirror_buf.proofs.Listing.{each_weaker, each_found, found_each, ordered_filter, filter_none, filter_skip, filter_both, find_filter, if_pass, shorter, same_length}
use Rattle.mirror_buf.proofs.Standing.{of_slot, is_of_slot, found_in, found_all}
use Rattle.mirror_buf.proofs.Greatest.{without_least}

pub past : (limit : Option ℕ) (n m : ℕ) → n < m → within limit n ≡ false → within limit m ≡ false
past None n m lt is = cc
past (Some u) n m lt is = grind (arith)

not_within : (b t : Bool) → b ≡ false → (b && t) ≡ false
not_within b t is = rw is refl

not_slot : (b t : Bool) → t ≡ false → (b && t) ≡ false
not_slot true t is = is
not_slot false t is = refl

pub taken_slot : (slot : ℕ) (limit : Option ℕ) (c : Named) → is_taken slot limit c ≡ true → c.1.slot ≡ slot
taken_slot slot limit c is = test_case (within limit c.1.number) is
  where
    test_case : (b : Bool) → (b && (c.1.slot == slot)) ≡ true → c.1.slot ≡ slot
    test_case true e = eqb-true c.1.slot slot e
    test_case false e = cc

-- none passes, so all fail
pub none_pass : (p : Named → Bool) (cs : List Named) → filter p cs ≡ [] → filter (λ c. not (p c)) cs ≡ cs
none_pass p [] e = refl
none_pass p (c ∷ cs) e = test_case (p c) refl e (none_pass p cs)
  where
    test_case : (b : Bool) → p c ≡ b → (if b then c ∷ filter p cs else filter p cs) ≡ [] → (filter p cs ≡ [] → filter (λ d. not (p d)) cs ≡ cs) → filter (λ d. not (p d)) (c ∷ cs) ≡ c ∷ cs
    test_case true is e2 rest = cc
    test_case false is e2 rest = rw (is, rest e2) refl

module _ (s : Lists Kept) (h : IsBuffer s) (slot : ℕ) (limit : Option ℕ) where
  in_list : (id : ℕ) (k : Kept) → find id (all s) ≡ Some k → k.slot ≡ slot → find id (list_at s.a slot) ≡ Some k
  in_list id k is at = h.stands.same slot id ∙ (ap (if_of slot) is ∙ is_of_slot slot k at)

  none_taken : ((id : ℕ) (k : Kept) → find id (list_at s.a slot) ≡ Some k → within limit k.number ≡ false) → filter (is_taken slot limit) (all s) ≡ []
  none_taken none = filter_none (is_taken slot limit) (all s) (each_found (λ c. is_taken slot limit c ≡ false) (all s) h.stands.apart fails)
    where
      fails : (id : ℕ) (k : Kept) → find id (all s) ≡ Some k → is_taken slot limit (id, k) ≡ false
      fails id k is = elim (cases_eq k.slot slot) [
        | inl at ↦ not_within (within limit k.number) (k.slot == slot) (none id k (in_list id k is at))
        | inr ne ↦ not_slot (within limit k.number) (k.slot == slot) (ne_eqb k.slot slot ne)
      ]

  -- no copy of the slot is there
  pub took_none : first_id (list_at s.a slot) ≡ None → filter (is_taken slot limit) (all s) ≡ []
  took_none e = none_taken (λ id k is. absurd (empty (list_at s.a slot) e k id is))
    where
      empty : (xs : List Named) → first_id xs ≡ None → (k : Kept) (id : ℕ) → find id xs ≡ Some k → ⊥
      empty [] e2 k id is = cc
      empty (c ∷ xs) e2 k id is = cc

  -- the first one of the slot
  record IsHead (id : ℕ) (k : Kept) : Type 0 where
    found : find id (all s) ≡ Some k
    own : k.slot ≡ slot
    least : Each (λ d. d.0 ≢ id → k.number < d.1.number) (list_at s.a slot)

  head_of : (id : ℕ) (k : Kept) → first_id (list_at s.a slot) ≡ Some id → find id (all s) ≡ Some k → IsHead id k
  head_of id k first is = list_case (list_at s.a slot) refl first
    where
      list_case : (xs : List Named) → list_at s.a slot ≡ xs → first_id xs ≡ Some id → IsHead id k
      list_case [] at e = cc
      list_case (c ∷ xs) at e = record { found = is; own = ap (λ (x : Kept). x.slot) (sym value) ∙ own.1; least = subst (Each (λ d. d.0 ≢ id → k.number < d.1.number)) (sym at) ((λ ne. absurd (ne name)), others) }
        where
          name : c.0 ≡ id
          name = cc

          here : find id (list_at s.a slot) ≡ Some c.1
          here = let test : (c.0 == id) ≡ true = eq-eqb c.0 id name in ap (find id) at ∙ rw test refl

          own : (find id (all s) ≡ Some c.1) × (c.1.slot ≡ slot)
          own = of_slot slot (find id (all s)) c.1 (sym (h.stands.same slot id) ∙ here)

          value : c.1 ≡ k
          value = some_same (sym own.0 ∙ is)
            where
              some_same : Some c.1 ≡ Some k → c.1 ≡ k
              some_same e2 = cc

          others : Each (λ d. d.0 ≢ id → k.number < d.1.number) xs
          others = each_weaker (Before c) (λ d. d.0 ≢ id → k.number < d.1.number) xs (λ d lt ne. omega (arith, lt, ap (λ (x : Kept). x.number) value)) (subst (Ordered Before) at (h.stands.before slot)).0

  -- no copy of the slot is within the limit
  pub took_past : (id : ℕ) (k : Kept) → first_id (list_at s.a slot) ≡ Some id → find id (all s) ≡ Some k → within limit k.number ≡ false → filter (is_taken slot limit) (all s) ≡ []
  took_past id k first is far = none_taken fails
    where
      head : IsHead id k
      head = head_of id k first is

      fails : (x : ℕ) (j : Kept) → find x (list_at s.a slot) ≡ Some j → within limit j.number ≡ false
      fails x j at = elim (cases_eq x id) [
        | inl e ↦ ap (λ (y : Kept). within limit y.number) (some_same (sym (of_slot slot (find x (all s)) j (sym (h.stands.same slot x) ∙ at)).0 ∙ (ap (λ y. find y (all s)) e ∙ is))) ∙ far
        | inr ne ↦ past limit k.number j.number (found_each (λ d. d.0 ≢ id → k.number < d.1.number) x j (list_at s.a slot) head.least at ne) far
      ]
        where
          some_same : Some j ≡ Some k → j ≡ k
          some_same e2 = cc

  -- the first copy goes
  pub took_some : (id : ℕ) (k : Kept) → first_id (list_at s.a slot) ≡ Some id → find id (all s) ≡ Some k → within limit k.number ≡ true → TookFirst slot limit (seen s) (seen (without_node s id)) (Some k.first)
  took_some id k first is near = (slots, fewer, others, best)
    where
      head : IsHead id k
      head = head_of id k first is

      passes : is_taken slot limit (id, k) ≡ true
      passes = let test : (k.slot == slot) ≡ true = eq-eqb k.slot slot head.own in rw (near, test) refl

      left : all (without_node s id) ≡ without id (all s)
      left = get_or-map (without id) s.b 0 []

      slots : length (map (without id) s.a) ≡ length s.a
      slots = length-map s.a (without id)

      fewer : length (all s) ≡ length (all (without_node s id)) + 1
      fewer = shorter id k (all s) h.stands.apart is ∙ ap (λ xs. length xs + 1) (sym left)

      same_value : (j : Kept) → Some k ≡ Some j → k ≡ j
      same_value j e = cc

      kept : Each (λ c. c.0 ≡ id → not (is_taken slot limit c) ≡ false) (all s)
      kept = each_found (λ c. c.0 ≡ id → not (is_taken slot limit c) ≡ false) (all s) h.stands.apart
          (λ x j f e. ap not (ap (λ y. is_taken slot limit (x, y)) (sym (same_value j (sym is ∙ (ap (λ y. find y (all s)) (sym e) ∙ f)))) ∙ (ap (λ y. is_taken slot limit (y, k)) e ∙ passes)))

      others : filter (λ c. not (is_taken slot limit c)) (all (without_node s id)) ≡ filter (λ c. not (is_taken slot limit c)) (all s)
      others = ap (filter (λ c. not (is_taken slot limit c))) left ∙ filter_skip (λ c. not (is_taken slot limit c)) id (all s) kept

      there : find id (filter (is_taken slot limit) (all s)) ≡ Some k
      there = find_filter (is_taken slot limit) id (all s) h.stands.apart ∙ (ap (if_pass (is_taken slot limit) id) is ∙ rw passes refl)

      passed : (x : ℕ) (j : Kept) (o : Option Kept) → if_pass (is_taken slot limit) x o ≡ Some j → (o ≡ Some j) × (is_taken slot limit (x, j) ≡ true)
      passed x j None e = cc
      passed x j (Some i) e = test_case (is_taken slot limit (x, i)) refl e
        where
          test_case : (b : Bool) → is_taken slot limit (x, i) ≡ b → (if b then Some i else None) ≡ Some j → (Some i ≡ Some j) × (is_taken slot limit (x, j) ≡ true)
          test_case true t e2 = let same : i ≡ j = cc in (e2, ap (λ y. is_taken slot limit (x, y)) (sym same) ∙ t)
          test_case false t e2 = cc

      higher : Each (λ d. d.0 ≢ id → k.number < d.1.number) (filter (is_taken slot limit) (all s))
      higher = each_found (λ d. d.0 ≢ id → k.number < d.1.number) (filter (is_taken slot limit) (all s)) (ordered_filter Apart (is_taken slot limit) (all s) h.stands.apart) above
        where
          above : (x : ℕ) (j : Kept) → find x (filter (is_taken slot limit) (all s)) ≡ Some j → x ≢ id → k.number < j.number
          above x j f ne =
              let p = passed x j (find x (all s)) (sym (find_filter (is_taken slot limit) x (all s) h.stands.apart) ∙ f) in
              found_each (λ d. d.0 ≢ id → k.number < d.1.number) x j (list_at s.a slot) head.least (in_list x j p.0 (taken_slot slot limit (x, j) p.1)) ne

      best : first_of_greatest (filter (is_taken slot limit) (all s)) ≡ or_else (first_of_greatest (filter (is_taken slot limit) (all (without_node s id)))) (Some k.first)
      best =
          without_least k id (filter (is_taken slot limit) (all s)) (ordered_filter Apart (is_taken slot limit) (all s) h.stands.apart) there higher
          ∙ ap (λ xs. or_else (first_of_greatest xs) (Some k.first)) (filter_both (λ c. not (c.0 == id)) (is_taken slot limit) (all s) ∙ ap (filter (is_taken slot limit)) (sym left))

-- how many a slot has
pub slot_counted : (s : Lists Kept) → IsBuffer s → (slot : ℕ) → length (list_at s.a slot) ≡ length (filter (is_of slot) (all s))
slot_counted s h slot =
    same_length (list_at s.a slot) (filter (is_of slot) (all s)) (h.stands.apart_in slot) (ordered_filter Apart (is_of slot) (all s) h.stands.apart)
    (λ id. h.stands.same slot id ∙ (alike id (find id (all s)) ∙ sym (find_filter (is_of slot) id (all s) h.stands.apart)))
  where
    alike : (id : ℕ) (o : Option Kept) → if_of slot o ≡ if_pass (is_of slot) id o
    alike id None = refl
    alike id (Some k) = refl

-- the same, of what is seen
module _ (s : Lists Kept) (h : IsBuffer s) (slot : ℕ) (limit : Option ℕ) (v : Copies) (is : seen s ≡ v) where
  pub none_seen : first_id (list_at s.a slot) ≡ None → TookFirst slot limit v v None
  none_seen e = subst (λ w. TookFirst slot limit w w None) is (refl, took_none s h slot limit e)

  far : (b : Bool) → not b ≡ true → b ≡ false
  far true e = cc
  far false e = refl

  near : (b : Bool) → not b ≡ false → b ≡ true
  near true e = refl
  near false e = cc

  pub past_seen : (id : ℕ) (k : Kept) → first_id (list_at s.a slot) ≡ Some id → find_in id s.b ≡ Some k → not (within limit k.number) ≡ true → TookFirst slot limit v v None
  past_seen id k first there e =
      subst (λ w. TookFirst slot limit w w None) is (refl, took_past s h slot limit id k first (sym (found_in s id h) ∙ there) (far (within limit k.number) e))

  pub some_seen : (id : ℕ) (j k : Kept) → first_id (list_at s.a slot) ≡ Some id → find_in id s.b ≡ Some j → find_in id s.a ≡ Some k → not (within limit j.number) ≡ false → (t : Lists Kept) → t ≡ without_node s id → TookFirst slot limit v (seen t) (Some k.first)
  some_seen id j k first there taken e t after =
      subst (λ w. TookFirst slot limit w (seen t) (Some k.first)) is
      (subst (λ (u : Lists Kept). TookFirst slot limit (seen s) (seen u) (Some k.first)) (sym after)
      (took_some s h slot limit id k first found (ap (λ (x : Kept). within limit x.number) (sym same) ∙ near (within limit j.number) e)))
    where
      found : find id (all s) ≡ Some k
      found = found_all s id k h taken

      some_same : Some j ≡ Some k → j ≡ k
      some_same e2 = cc

      same : j ≡ k
      same = some_same (sym there ∙ (found_in s id h ∙ found))

-- what is left once no copy is taken
pub left_over : (slot : ℕ) (limit : Option ℕ) (old mid new : Copies) (taken : Option ℕ) → taken ≡ None → TookFirst slot limit mid new taken → mid.slots ≡ old.slots → filter (λ c. not (is_taken slot limit c)) mid.copies ≡ filter (λ c. not (is_taken slot limit c)) old.copies → new ≡ record old { copies = filter (λ c. not (is_taken slot limit c)) old.copies }
left_over slot limit old mid new None e took slots rest = took.0 ∙ (λ i. record { copies = copies i; slots = slots i })
  where
    copies : mid.copies ≡ filter (λ c. not (is_taken slot limit c)) old.copies
    copies = sym (none_pass (is_taken slot limit) mid.copies took.1) ∙ rest
left_over slot limit old mid new (Some first) e took slots rest = cc
