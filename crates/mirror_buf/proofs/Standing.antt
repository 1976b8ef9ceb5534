-- How copies stand after one is added, taken off or sent again.
use Rattle.std.proofs.Common.{◌≡◌, ◌≢◌, ℕ, zero, suc, ◌<◌, Bool, true, false, List, [], ◌∷◌, ◌++◌, length, Option, Some, None, IsSome, refl, sym, ap, ◌∙◌, inl, inr, subst, arith, map, filter, set, eq-eqb, eqb-true, length-set}
use Rattle.std.specs.Prelude.{◌==◌, not, if◌then◌else◌, option_map, sum_by, All, Result, Ok, Err, IfOk, IfErr}
use Rattle.std.proofs.lemmas.Bool.{cases_eq, ne_eqb}
use Rattle.std.proofs.lemmas.List.{get_or-set_other, length-map}
use Rattle.std.proofs.lemmas.List.Sums.{sum_by-cons}
use Rattle.std.proofs.lemmas.Grind.{get_or-set_at}
use Rattle.std.proofs.Math.ListN.{get_or-map}
use Rattle.link_arena.specs.Lists.{Lists, find, without, revalued, moved, appended, or_else, find_in, IsLive, IsFree, without_node, with_node, with_moved, with_value}
use Rattle.link_arena.specs.declared.node.Which.{Which}
use Rattle.mirror_buf.specs.declared.kept.Kept.{Kept}
use Rattle.mirror_buf.specs.Copies.{Named, numbered_below, Copies, sent_by, sent_at, resent, with_copy}
use Rattle.mirror_buf.specs.Places.{Each, Ordered, Apart, Before, Sooner, IsStanding, IsBuffer, list_at, if_of, all, seen}
use Rattle.mirror_buf.proofs.Listing.{each_of_all, each_weaker, each_filter, each_found, found_each, ordered_filter, ordered_last, ordered_map, or_none, find_append, find_gone, find_others, gone, not_there, filter_none}

-- what is found of a slot is a copy of it
pub of_slot : (slot : ℕ) (o : Option Kept) (k : Kept) → if_of slot o ≡ Some k → (o ≡ Some k) × (k.slot ≡ slot)
of_slot slot None k is = cc
of_slot slot (Some j) k is = test_case (j.slot == slot) refl is
  where
    test_case : (b : Bool) → (j.slot == slot) ≡ b → (if b then Some j else None) ≡ Some k → (Some j ≡ Some k) × (k.slot ≡ slot)
    test_case true at e = let same : j ≡ k = cc in (e, ap (λ (x : Kept). x.slot) (sym same) ∙ eqb-true j.slot slot at)
    test_case false at e = cc

pub is_of_slot : (slot : ℕ) (k : Kept) → k.slot ≡ slot → if_of slot (Some k) ≡ Some k
is_of_slot slot k same = let test : (k.slot == slot) ≡ true = eq-eqb k.slot slot same in rw test refl

pub not_of_slot : (slot : ℕ) (k : Kept) → k.slot ≢ slot → if_of slot (Some k) ≡ None
not_of_slot slot k ne = let test : (k.slot == slot) ≡ false = ne_eqb k.slot slot ne in rw test refl

none_some : (k : Kept) → None ≡ Some k → ⊥
none_some k e = cc

-- ---- one is added

-- the list that has it, and the others
at_added : (lists : List (List Named)) (slot l : ℕ) (c : Named) (P : List Named → Type 0) → slot < length lists → (l ≡ slot → P (list_at lists slot ++ c ∷ [])) → (l ≢ slot → P (list_at lists l)) → P (list_at (appended lists slot c) l)
at_added lists slot l c P lt here there = elim (cases_eq l slot) [
  | inl same ↦ subst P (sym (get_or-set_at lists slot l (list_at lists slot ++ c ∷ []) [] same lt)) (here same)
  | inr differs ↦ subst P (sym (get_or-set_other lists slot l (list_at lists slot ++ c ∷ []) [] differs)) (there differs)
]

module _ (lists : List (List Named)) (cs : List Named) (h : IsStanding lists cs) where
  pub stands_added : (id : ℕ) (k : Kept) → k.slot < length lists → find id cs ≡ None → Each (numbered_below k.slot k.number) cs → Each (sent_by k.sent) cs → IsStanding (appended lists k.slot (id, k)) (cs ++ (id, k) ∷ [])
  stands_added id k lt free below sent =
      record {
        apart = ordered_last Apart cs (id, k) h.apart (not_there id cs free);
        sooner = ordered_last Sooner cs (id, k) h.sooner sent;
        same = λ l x. at_added lists k.slot l (id, k) (λ xs. find x xs ≡ if_of l (find x (cs ++ (id, k) ∷ []))) lt (own l x) (other l x);
        apart_in = λ l. at_added lists k.slot l (id, k) (Ordered Apart) lt (λ e. ordered_last Apart (list_at lists k.slot) (id, k) (h.apart_in k.slot) (not_there id (list_at lists k.slot) (h.same k.slot id ∙ ap (if_of k.slot) free))) (λ ne. h.apart_in l);
        before = λ l. at_added lists k.slot l (id, k) (Ordered Before) lt (λ e. ordered_last Before (list_at lists k.slot) (id, k) (h.before k.slot) lower) (λ ne. h.before l);
      }
    where
      lower : Each (λ c. c.1.number < k.number) (list_at lists k.slot)
      lower = each_found (λ c. c.1.number < k.number) (list_at lists k.slot) (h.apart_in k.slot)
          (λ x j is. let f = of_slot k.slot (find x cs) j (sym (h.same k.slot x) ∙ is) in found_each (numbered_below k.slot k.number) x j cs below f.0 f.1)

      one : (x : ℕ) → Option Kept
      one x = find x ((id, k) ∷ [])

      one_here : (x : ℕ) → id ≡ x → find x ((id, k) ∷ []) ≡ Some k
      one_here x e = let test : (id == x) ≡ true = eq-eqb id x e in rw test refl

      one_there : (x : ℕ) → id ≢ x → find x ((id, k) ∷ []) ≡ None
      one_there x ne = let test : (id == x) ≡ false = ne_eqb id x ne in rw test refl

      all_here : (x : ℕ) → id ≡ x → find x (cs ++ (id, k) ∷ []) ≡ Some k
      all_here x e = find_append x cs ((id, k) ∷ []) ∙ (ap (λ o. or_else o (find x ((id, k) ∷ []))) (ap (λ y. find y cs) (sym e) ∙ free) ∙ one_here x e)

      all_there : (x : ℕ) → id ≢ x → find x (cs ++ (id, k) ∷ []) ≡ find x cs
      all_there x ne = find_append x cs ((id, k) ∷ []) ∙ (ap (or_else (find x cs)) (one_there x ne) ∙ or_none (find x cs))

      own : (l x : ℕ) → l ≡ k.slot → find x (list_at lists k.slot ++ (id, k) ∷ []) ≡ if_of l (find x (cs ++ (id, k) ∷ []))
      own l x at = find_append x (list_at lists k.slot) ((id, k) ∷ []) ∙ elim (cases_eq id x) [
        | inl e ↦
            ap (λ o. or_else o (find x ((id, k) ∷ []))) (h.same k.slot x ∙ ap (if_of k.slot) (ap (λ y. find y cs) (sym e) ∙ free))
            ∙ (one_here x e ∙ (sym (is_of_slot l k (sym at)) ∙ ap (if_of l) (sym (all_here x e))))
        | inr ne ↦
            ap (or_else (find x (list_at lists k.slot))) (one_there x ne)
            ∙ (or_none (find x (list_at lists k.slot)) ∙ (h.same k.slot x ∙ (ap (λ m. if_of m (find x cs)) (sym at) ∙ ap (if_of l) (sym (all_there x ne)))))
      ]

      other : (l x : ℕ) → l ≢ k.slot → find x (list_at lists l) ≡ if_of l (find x (cs ++ (id, k) ∷ []))
      other l x away = h.same l x ∙ elim (cases_eq id x) [
        | inl e ↦ ap (if_of l) (ap (λ y. find y cs) (sym e) ∙ free) ∙ (sym (not_of_slot l k (λ s. away (sym s))) ∙ ap (if_of l) (sym (all_here x e)))
        | inr ne ↦ ap (if_of l) (sym (all_there x ne))
      ]

  -- ---- one is taken off

  pub stands_off : (id : ℕ) → IsStanding (map (without id) lists) (without id cs)
  stands_off id =
      record {
        apart = ordered_filter Apart (λ d. not (d.0 == id)) cs h.apart;
        sooner = ordered_filter Sooner (λ d. not (d.0 == id)) cs h.sooner;
        same = λ l x. ap (find x) (get_or-map (without id) lists l []) ∙ found l x;
        apart_in = λ l. subst (Ordered Apart) (sym (get_or-map (without id) lists l [])) (ordered_filter Apart (λ d. not (d.0 == id)) (list_at lists l) (h.apart_in l));
        before = λ l. subst (Ordered Before) (sym (get_or-map (without id) lists l [])) (ordered_filter Before (λ d. not (d.0 == id)) (list_at lists l) (h.before l));
      }
    where
      found : (l x : ℕ) → find x (without id (list_at lists l)) ≡ if_of l (find x (without id cs))
      found l x = elim (cases_eq x id) [
        | inl e ↦ subst (λ y. find y (without id (list_at lists l)) ≡ if_of l (find y (without id cs))) (sym e) (find_gone id (list_at lists l) ∙ ap (if_of l) (sym (find_gone id cs)))
        | inr ne ↦ find_others id x (list_at lists l) ne ∙ (h.same l x ∙ ap (if_of l) (sym (find_others id x cs ne)))
      ]

-- ---- one is sent again

abbrev restamp : Bool → ℕ → Kept → Kept
restamp true now k = record k { sent = now }
restamp false now k = k

abbrev stamped : ℕ → ℕ → Named → Named
stamped id now c = (c.0, restamp (c.0 == id) now c.1)

number_kept : (b : Bool) (now : ℕ) (k : Kept) → (restamp b now k).number ≡ k.number
number_kept true now k = refl
number_kept false now k = refl

-- only one copy changes
revalued_stamped : (id now : ℕ) (k : Kept) (cs : List Named) → Each (λ c. c.0 ≡ id → c.1 ≡ k) cs → revalued id (record k { sent = now }) cs ≡ map (stamped id now) cs
revalued_stamped id now k [] h = refl
revalued_stamped id now k (c ∷ cs) h = elim (cases_eq c.0 id) [
  | inl same ↦
      let test : (c.0 == id) ≡ true = eq-eqb c.0 id same in
      let value : c.1 ≡ k = h.0 same in
      rw (test, revalued_stamped id now k cs h.1) (ap (λ n. n ∷ map (stamped id now) cs) (pair same value))
  | inr differs ↦
      let test : (c.0 == id) ≡ false = ne_eqb c.0 id differs in
      rw (test, revalued_stamped id now k cs h.1) refl
]
  where
    pair : c.0 ≡ id → c.1 ≡ k → ◌≡◌ {A = Named} (id, record k { sent = now }) (c.0, record c.1 { sent = now })
    pair same value = λ i. (sym same i, record (sym value i) { sent = now })

find_stamped : (id now x : ℕ) (cs : List Named) → find x (map (stamped id now) cs) ≡ option_map (restamp (x == id) now) (find x cs)
find_stamped id now x [] = refl
find_stamped id now x (c ∷ cs) = elim (cases_eq c.0 x) [
  | inl same ↦ let test : (c.0 == x) ≡ true = eq-eqb c.0 x same in rw test (ap (λ y. Some (restamp (y == id) now c.1)) same)
  | inr differs ↦ let test : (c.0 == x) ≡ false = ne_eqb c.0 x differs in rw test (find_stamped id now x cs)
]

without_stamped : (id now : ℕ) (cs : List Named) → without id (map (stamped id now) cs) ≡ without id cs
without_stamped id now [] = refl
without_stamped id now (c ∷ cs) = elim (cases_eq c.0 id) [
  | inl same ↦ let test : (c.0 == id) ≡ true = eq-eqb c.0 id same in rw test (without_stamped id now cs)
  | inr differs ↦ let test : (c.0 == id) ≡ false = ne_eqb c.0 id differs in rw (test, without_stamped id now cs) refl
]

filter_stamped : (id now : ℕ) (cs : List Named) → filter (λ c. c.0 == id) (map (stamped id now) cs) ≡ map (sent_at now) (filter (λ c. c.0 == id) cs)
filter_stamped id now [] = refl
filter_stamped id now (c ∷ cs) = elim (cases_eq c.0 id) [
  | inl same ↦ let test : (c.0 == id) ≡ true = eq-eqb c.0 id same in rw (test, filter_stamped id now cs) refl
  | inr differs ↦ let test : (c.0 == id) ≡ false = ne_eqb c.0 id differs in rw test (filter_stamped id now cs)
]

only : (id : ℕ) (k : Kept) (cs : List Named) → Ordered Apart cs → find id cs ≡ Some k → filter (λ c. c.0 == id) cs ≡ (id, k) ∷ []
only id k [] h is = cc
only id k (c ∷ cs) h is = elim (cases_eq c.0 id) [
  | inl same ↦
      let test : (c.0 == id) ≡ true = eq-eqb c.0 id same in
      let rest : filter (λ d. d.0 == id) cs ≡ [] = filter_none (λ d. d.0 == id) cs (each_weaker (Apart c) (λ d. (d.0 == id) ≡ false) cs (λ d ne. ne_eqb d.0 id (λ e. ne (same ∙ sym e))) h.0) in
      rw (test, rest) (ap (λ d. d ∷ []) (pair same (value (subst (λ b. (if b then Some c.1 else find id cs) ≡ Some k) test is))))
  | inr differs ↦
      let test : (c.0 == id) ≡ false = ne_eqb c.0 id differs in
      rw test (only id k cs h.1 (subst (λ b. (if b then Some c.1 else find id cs) ≡ Some k) test is))
]
  where
    value : Some c.1 ≡ Some k → c.1 ≡ k
    value e = cc

    pair : c.0 ≡ id → c.1 ≡ k → c ≡ (id, k)
    pair same is_k = λ i. (same i, is_k i)

module _ (lists : List (List Named)) (cs : List Named) (h : IsStanding lists cs) (id now : ℕ) (k : Kept) (is : find id cs ≡ Some k) where
  again : Kept
  again = record k { sent = now }

  value_in : (xs : List Named) → Ordered Apart xs → ((j : Kept) → find id xs ≡ Some j → j ≡ k) → Each (λ c. c.0 ≡ id → c.1 ≡ k) xs
  value_in xs apart at = each_found (λ c. c.0 ≡ id → c.1 ≡ k) xs apart (λ x j f e. at j (ap (λ y. find y xs) (sym e) ∙ f))

  some_same : (j : Kept) → Some k ≡ Some j → j ≡ k
  some_same j e = cc

  all_stamped : revalued id (record k { sent = now }) cs ≡ map (stamped id now) cs
  all_stamped = revalued_stamped id now k cs (value_in cs h.apart (λ j f. some_same j (sym is ∙ f)))

  list_stamped : (l : ℕ) → list_at (map (revalued id (record k { sent = now })) lists) l ≡ map (stamped id now) (list_at lists l)
  list_stamped l =
      get_or-map (revalued id (record k { sent = now })) lists l []
      ∙ revalued_stamped id now k (list_at lists l)
      (value_in (list_at lists l) (h.apart_in l) (λ j f. some_same j (sym is ∙ (of_slot l (find id cs) j (sym (h.same l id) ∙ f)).0)))

  -- what is seen
  pub seen_again : moved id (revalued id (record k { sent = now }) cs) ≡ without id cs ++ map (sent_at now) (filter (λ c. c.0 == id) cs)
  seen_again =
      ap (moved id) all_stamped
      ∙ (ap (λ xs. xs ++ filter (λ (c : Named). c.0 == id) (map (stamped id now) cs)) (without_stamped id now cs) ∙ ap (λ xs. without id cs ++ xs) (filter_stamped id now cs))

  last_again : moved id (revalued id (record k { sent = now }) cs) ≡ without id cs ++ (id, record k { sent = now }) ∷ []
  last_again = seen_again ∙ ap (λ xs. without id cs ++ map (sent_at now) xs) (only id k cs h.apart is)

  found_again : (l x : ℕ) → option_map (restamp (x == id) now) (if_of l (find x cs)) ≡ if_of l (find x (without id cs ++ (id, record k { sent = now }) ∷ []))
  found_again l x = elim (cases_eq x id) [
    | inl e ↦
        let test : (x == id) ≡ true = eq-eqb x id e in
        let back : (id == x) ≡ true = eq-eqb id x (sym e) in
        let here : find x cs ≡ Some k = ap (λ y. find y cs) e ∙ is in
        let away : find x (without id cs) ≡ None = ap (λ y. find y (without id cs)) e ∙ find_gone id cs in
        rw (find_append x (without id cs) ((id, record k { sent = now }) ∷ []), test, back, here, away) (slot_case (k.slot == l))
    | inr ne ↦
        let test : (x == id) ≡ false = ne_eqb x id ne in
        let back : (id == x) ≡ false = ne_eqb id x (λ e. ne (sym e)) in
        rw (find_append x (without id cs) ((id, record k { sent = now }) ∷ []), test, back, or_none (find x (without id cs)), find_others id x cs ne) (unchanged (find x cs))
  ]
    where
      slot_case : (b : Bool) → option_map (restamp true now) (if b then Some k else None) ≡ (if b then Some (record k { sent = now }) else None)
      slot_case true = refl
      slot_case false = refl

      unchanged_at : (j : Kept) (b : Bool) → option_map (restamp false now) (if b then Some j else None) ≡ (if b then Some j else None)
      unchanged_at j true = refl
      unchanged_at j false = refl

      unchanged : (o : Option Kept) → option_map (restamp false now) (if_of l o) ≡ if_of l o
      unchanged None = refl
      unchanged (Some j) = unchanged_at j (j.slot == l)

  pub stands_again : Each (sent_by now) cs → IsStanding (map (revalued id (record k { sent = now })) lists) (moved id (revalued id (record k { sent = now }) cs))
  stands_again sent =
      record {
        apart = subst (Ordered Apart) (sym last_again) (ordered_last Apart (without id cs) (id, record k { sent = now }) (ordered_filter Apart (λ d. not (d.0 == id)) cs h.apart) (gone id cs));
        sooner = subst (Ordered Sooner) (sym last_again) (ordered_last Sooner (without id cs) (id, record k { sent = now }) (ordered_filter Sooner (λ d. not (d.0 == id)) cs h.sooner) (each_filter (sent_by now) (λ d. not (d.0 == id)) cs sent));
        same = λ l x. ap (find x) (list_stamped l) ∙ (find_stamped id now x (list_at lists l) ∙ (ap (option_map (restamp (x == id) now)) (h.same l x) ∙ (found_again l x ∙ ap (λ xs. if_of l (find x xs)) (sym last_again))));
        apart_in = λ l. subst (Ordered Apart) (sym (list_stamped l)) (ordered_map Apart (stamped id now) (list_at lists l) (λ c d ne. ne) (h.apart_in l));
        before = λ l. subst (Ordered Before) (sym (list_stamped l)) (ordered_map Before (stamped id now) (list_at lists l) (λ c d lt. omega (arith, lt, number_kept (c.0 == id) now c.1, number_kept (d.0 == id) now d.1)) (h.before l));
      }

-- ---- the arena

pub buffer_of_lists : (s : Lists Kept) (cs : List Named) → s.b ≡ cs ∷ [] → s.room ≡ 1024 → IsStanding s.a cs → IsBuffer s
buffer_of_lists s cs one room stands =
    let at : all s ≡ cs = ap (λ ls. list_at ls 0) one in
    record { one = one ∙ ap (λ xs. xs ∷ []) (sym at); room = room; stands = subst (IsStanding s.a) (sym at) stands }

module _ (s : Lists Kept) where
  pub found_in : (id : ℕ) → IsBuffer s → find_in id s.b ≡ find id (all s)
  found_in id h = ap (find_in id) h.one ∙ or_none (find id (all s))

  pub live_in : (id : ℕ) → IsBuffer s → IsSome (find id (all s)) → IsLive s id
  live_in id h there = inr (subst IsSome (sym (found_in id h)) there)

  pub buffer_off : (id : ℕ) → IsBuffer s → IsBuffer (without_node s id)
  buffer_off id h = buffer_of_lists (without_node s id) (without id (all s)) (ap (map (without id)) h.one) h.room (stands_off s.a (all s) h.stands id)

  -- a copy that some slot's list has
  pub found_all : (id : ℕ) (k : Kept) → IsBuffer s → find_in id s.a ≡ Some k → find id (all s) ≡ Some k
  found_all id k h is = let at = in_some s.a is in (of_slot at.0 (find id (all s)) k (sym (h.stands.same at.0 id) ∙ at.1)).0
    where
      in_some : (lists : List (List Named)) → find_in id lists ≡ Some k → (l : ℕ) × (find id (list_at lists l) ≡ Some k)
      in_some [] e = cc
      in_some (xs ∷ rest) e = first_case (find id xs) refl e (in_some rest)
        where
          first_case : (o : Option Kept) → find id xs ≡ o → or_else o (find_in id rest) ≡ Some k → (find_in id rest ≡ Some k → (l : ℕ) × (find id (list_at rest l) ≡ Some k)) → (l : ℕ) × (find id (list_at (xs ∷ rest) l) ≡ Some k)
          first_case None at e2 later = let more = later e2 in (suc more.0, more.1)
          first_case (Some j) at e2 later = (zero, at ∙ e2)

  pub buffer_again : (id now : ℕ) (k : Kept) → IsBuffer s → find id (all s) ≡ Some k → Each (sent_by now) (all s) → IsBuffer (with_moved Which.B (with_value s id (record k { sent = now })) id)
  buffer_again id now k h is sent =
      buffer_of_lists (with_moved Which.B (with_value s id (record k { sent = now })) id) (moved id (revalued id (record k { sent = now }) (all s)))
      (ap (λ ls. map (moved id) (map (revalued id (record k { sent = now })) ls)) h.one) h.room (stands_again s.a (all s) h.stands id now k is sent)

  pub again_seen : (id now : ℕ) (k : Kept) → IsBuffer s → find id (all s) ≡ Some k → seen (with_moved Which.B (with_value s id (record k { sent = now })) id) ≡ resent (seen s) id now
  again_seen id now k h is = λ i. record { copies = copies i; slots = slots i }
    where
      copies : all (with_moved Which.B (with_value s id (record k { sent = now })) id) ≡ without id (all s) ++ map (sent_at now) (filter (λ c. c.0 == id) (all s))
      copies = ap (λ ls. list_at (map (moved id) (map (revalued id (record k { sent = now })) ls)) 0) h.one ∙ seen_again s.a (all s) h.stands id now k is

      slots : length (map (revalued id (record k { sent = now })) s.a) ≡ length s.a
      slots = length-map s.a (revalued id (record k { sent = now }))

  pub buffer_added : (id : ℕ) (k : Kept) → IsBuffer s → k.slot < length s.a → find_in id s.b ≡ None → Each (numbered_below k.slot k.number) (all s) → Each (sent_by k.sent) (all s) → IsBuffer (with_node s k.slot 0 id k)
  buffer_added id k h lt free below sent =
      buffer_of_lists (with_node s k.slot 0 id k) (all s ++ (id, k) ∷ [])
      (ap (λ ls. set ls 0 (list_at ls 0 ++ (id, k) ∷ [])) h.one) h.room
      (stands_added s.a (all s) h.stands id k lt (sym (found_in id h) ∙ free) below sent)

  pub added_seen : (id : ℕ) (k : Kept) → IsBuffer s → seen (with_node s k.slot 0 id k) ≡ with_copy (seen s) id k
  added_seen id k h = λ i. record { copies = copies i; slots = slots i }
    where
      copies : all (with_node s k.slot 0 id k) ≡ all s ++ (id, k) ∷ []
      copies = ap (λ ls. list_at (set ls 0 (list_at ls 0 ++ (id, k) ∷ [])) 0) h.one

      slots : length (set s.a k.slot (list_at s.a k.slot ++ (id, k) ∷ [])) ≡ length s.a
      slots = length-set s.a k.slot (list_at s.a k.slot ++ (id, k) ∷ [])

  -- how many there are
  pub all_counted : IsBuffer s → sum_by length s.b ≡ length (all s)
  all_counted h = ap (sum_by length) h.one ∙ omega (arith, sum_by-cons length (all s) [])

pub buffer_put : {F : Type 0} (s t : Lists Kept) (k : Kept) (r : Result ℕ (F × Kept)) → IsBuffer s → (v : Copies) → seen s ≡ v → k.slot < v.slots → All (numbered_below k.slot k.number) v.copies → All (sent_by k.sent) v.copies → IfOk r (λ id. IsFree s id) → IfOk r (λ id. t ≡ with_node s k.slot 0 id k) → IfErr r (λ back. (back.1 ≡ k) × (t ≡ s)) → IsBuffer t
buffer_put s t k (Ok id) h v is lt below sent free after back =
    let below_all : Each (numbered_below k.slot k.number) (all s) = each_of_all (numbered_below k.slot k.number) (all s) (subst (λ (w : Copies). All (numbered_below k.slot k.number) w.copies) (sym is) below) in
    let sent_all : Each (sent_by k.sent) (all s) = each_of_all (sent_by k.sent) (all s) (subst (λ (w : Copies). All (sent_by k.sent) w.copies) (sym is) sent) in
    subst IsBuffer (sym after) (buffer_added s id k h (subst (λ (w : Copies). k.slot < w.slots) (sym is) lt) free.1 below_all sent_all)
buffer_put s t k (Err e) h v is lt below sent free after back = subst IsBuffer (sym back.1) h

find_revalued : (id : ℕ) (v : Kept) (cs : List Named) → find id (revalued id v cs) ≡ option_map (λ _. v) (find id cs)
find_revalued id v [] = refl
find_revalued id v (c ∷ cs) = elim (cases_eq c.0 id) [
  | inl same ↦ let test : (c.0 == id) ≡ true = eq-eqb c.0 id same in let again : (id == id) ≡ true = eq-eqb id id refl in rw (test, again) refl
  | inr differs ↦ let test : (c.0 == id) ≡ false = ne_eqb c.0 id differs in rw (test, test) (find_revalued id v cs)
]

pub live_stays : (s : Lists Kept) (id now : ℕ) (k : Kept) → find_in id s.a ≡ Some k → IsLive (with_value s id (record k { sent = now })) id
live_stays s id now k is = inl (subst IsSome (sym (in_lists s.a is)) refl)
  where
    in_lists : (lists : List (List Named)) → find_in id lists ≡ Some k → find_in id (map (revalued id (record k { sent = now })) lists) ≡ Some (record k { sent = now })
    in_lists [] e = cc
    in_lists (xs ∷ rest) e = rw (find_revalued id (record k { sent = now }) xs) (first_case (find id xs) e (in_lists rest))
      where
        first_case : (o : Option Kept) → or_else o (find_in id rest) ≡ Some k → (find_in id rest ≡ Some k → find_in id (map (revalued id (record k { sent = now })) rest) ≡ Some (record k { sent = now })) → or_else (option_map (λ _. record k { sent = now }) o) (find_in id (map (revalued id (record k { sent = now })) rest)) ≡ Some (record k { sent = now })
        first_case None e2 later = later e2
        first_case (Some j) e2 later = refl
