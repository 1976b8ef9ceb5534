-- Naming the copies that are due, from the front.
use Rattle.std.proofs.Common.{◌≡◌, ◌≢◌, ℕ, zero, suc, ◌-◌, ◌<◌, ◌≤◌, true, false, List, [], ◌∷◌, ◌++◌, length, Option, Some, None, refl, sym, ap, ◌∙◌, subst, arith, map, filter, take, drop, eq-eqb, append-nil, append_assoc, length-append}
use Rattle.std.specs.Prelude.{All, IsSome, ◌==◌, nat_le}
use Rattle.std.proofs.lemmas.Bool.{ne_eqb}
use Rattle.std.proofs.lemmas.List.{take-append-drop, length-take, take_all, length-map, map-append}
use Rattle.std.proofs.lemmas.List.Elements.{filter-append}
use Rattle.std.proofs.Math.Seq.{take-append_seam}
use Rattle.link_arena.specs.Lists.{Lists, find, find_in, next_in, first_id, id_behind, or_else, IsLive}
use Rattle.mirror_buf.specs.declared.kept.Kept.{Kept}
use Rattle.mirror_buf.specs.Copies.{Named, Copies, sent_by, is_due, due_ids}
use Rattle.mirror_buf.specs.Places.{Each, Ordered, Apart, Sooner, IsBuffer, all, seen}
use Rattle.mirror_buf.proofs.Listing.{each_of_all, found_each, each_weaker, each_last, filter_none, filter_all, once}
use Rattle.mirror_buf.proofs.Standing.{found_in, live_in}

-- the copy at a place
pub record Here (cs : List Named) (n id : ℕ) : Type 0 where
  pub copy : Named
  pub name : copy.0 ≡ id
  pub found : find id cs ≡ Some copy.1
  pub taken : take (suc n) cs ≡ take n cs ++ copy ∷ []
  pub rest : drop n cs ≡ copy ∷ drop (suc n) cs
  pub next : id_behind id cs ≡ first_id (drop (suc n) cs)

pub here : (cs : List Named) → Ordered Apart cs → (n id : ℕ) → first_id (drop n cs) ≡ Some id → Here cs n id
here [] h zero id e = cc
here [] h (suc n) id e = cc
here (c ∷ cs) h zero id e =
    let name : c.0 ≡ id = cc in
    let test : (c.0 == id) ≡ true = eq-eqb c.0 id name in
    record { copy = c; name = name; found = rw test refl; taken = refl; rest = refl; next = rw test refl }
here (c ∷ cs) h (suc n) id e =
    let later : Here cs n id = here cs h.1 n id e in
    let differs : c.0 ≢ id = λ same. none_some later.copy.1 (sym (once c cs h.0) ∙ (ap (λ x. find x cs) same ∙ later.found)) in
    let test : (c.0 == id) ≡ false = ne_eqb c.0 id differs in
    record { copy = later.copy; name = later.name; found = rw test later.found; taken = ap (λ ds. c ∷ ds) later.taken; rest = later.rest; next = rw test later.next }
  where
    none_some : (k : Kept) → None ≡ Some k → ⊥
    none_some k is = cc

pub ordered_drop : (R : Named → Named → Type 0) (n : ℕ) (cs : List Named) → Ordered R cs → Ordered R (drop n cs)
ordered_drop R zero cs h = h
ordered_drop R (suc n) [] h = h
ordered_drop R (suc n) (c ∷ cs) h = ordered_drop R n cs h.1

abbrev pub name_of : Named → ℕ
name_of c = c.0

pub front_is_due : (now age n : ℕ) (cs : List Named) → Each (λ c. is_due now age c ≡ true) (take n cs) → filter (is_due now age) cs ≡ take n cs ++ filter (is_due now age) (drop n cs)
front_is_due now age n cs h =
    ap (filter (is_due now age)) (sym (take-append-drop n cs))
    ∙ (filter-append (is_due now age) (take n cs) (drop n cs) ∙ ap (λ xs. xs ++ filter (is_due now age) (drop n cs)) (filter_all (is_due now age) (take n cs) h))

-- nothing that is due is behind the front
pub named_all : (now age room n : ℕ) (cs : List Named) → Each (λ c. is_due now age c ≡ true) (take n cs) → filter (is_due now age) (drop n cs) ≡ [] → n ≤ room → map name_of (take n cs) ≡ due_ids now age room cs
named_all now age room n cs h none fits =
    sym (take_all room (map name_of (take n cs)) (omega (arith, length-map (take n cs) name_of, length-take n cs, fits)))
    ∙ ap (λ xs. take room (map name_of xs)) (sym (front_is_due now age n cs h ∙ (ap (λ xs. take n cs ++ xs) none ∙ append-nil (take n cs))))

-- the room is used up
pub named_some : (now age n : ℕ) (cs : List Named) → Each (λ c. is_due now age c ≡ true) (take n cs) → n ≤ length cs → map name_of (take n cs) ≡ due_ids now age n cs
named_some now age n cs h within =
    sym
    (ap (λ xs. take n (map name_of xs)) (front_is_due now age n cs h)
    ∙ (ap (take n) (map-append name_of (take n cs) (filter (is_due now age) (drop n cs)))
    ∙ (ap (λ m. take m (map name_of (take n cs) ++ map name_of (filter (is_due now age) (drop n cs)))) (omega (arith, length-map (take n cs) name_of, length-take n cs, within))
    ∙ take-append_seam (map name_of (take n cs)) (map name_of (filter (is_due now age) (drop n cs))))))

-- behind a copy that isn't due there is none
pub none_due : (now age : ℕ) (c : Named) (cs : List Named) → Ordered Sooner (c ∷ cs) → now - c.1.sent < age → filter (is_due now age) (c ∷ cs) ≡ []
none_due now age c cs h early = filter_none (is_due now age) (c ∷ cs) (not_due c.1.sent early, each_weaker (Sooner c) (λ d. is_due now age d ≡ false) cs (λ d le. not_due d.1.sent (omega (arith, le, early))) h.0)
  where
    not_due : (sent : ℕ) → now - sent < age → nat_le age (now - sent) ≡ false
    not_due sent lt = grind (arith)

-- ---- one more is named

module _ (cs : List Named) (apart : Ordered Apart cs) (n id m : ℕ) (first : first_id (drop n cs) ≡ Some id) (more : m ≡ suc n) where
  pub one_there : n < length cs
  one_there = omega (arith, ap length (take-append-drop n cs), length-append (take n cs) (drop n cs), length-take n cs, ap length (here cs apart n id first).rest)

  pub more_items : (old mid new : List ℕ) → mid ≡ old ++ map name_of (take n cs) → new ≡ mid ++ id ∷ [] → new ≡ old ++ map name_of (take m cs)
  more_items old mid new was is =
      let at = here cs apart n id first in
      let names : map name_of (take m cs) ≡ map name_of (take n cs) ++ id ∷ [] =
      ap (λ x. map name_of (take x cs)) more ∙ (ap (map name_of) at.taken ∙ (map-append name_of (take n cs) (at.copy ∷ []) ∙ ap (λ x. map name_of (take n cs) ++ x ∷ []) at.name)) in
      is ∙ (ap (λ xs. xs ++ id ∷ []) was ∙ (append_assoc old (map name_of (take n cs)) (id ∷ []) ∙ ap (λ xs. old ++ xs) (sym names)))

  pub more_due : (now age : ℕ) (k : Kept) → Each (λ c. is_due now age c ≡ true) (take n cs) → find id cs ≡ Some k → is_due now age (id, k) ≡ true → Each (λ c. is_due now age c ≡ true) (take m cs)
  more_due now age k h found due =
      let at = here cs apart n id first in
      let value : k ≡ at.copy.1 = some_same at.copy.1 (sym found ∙ at.found) in
      subst (Each (λ c. is_due now age c ≡ true)) (sym (ap (λ x. take x cs) more ∙ at.taken))
      (each_last (λ c. is_due now age c ≡ true) (take n cs) at.copy h (ap (λ (x : Kept). nat_le age (now - x.sent)) (sym value) ∙ due))
    where
      some_same : (j : Kept) → Some k ≡ Some j → k ≡ j
      some_same j e = cc

  pub none_more : (now age : ℕ) (k : Kept) → Ordered Sooner cs → find id cs ≡ Some k → now - k.sent < age → filter (is_due now age) (drop n cs) ≡ []
  none_more now age k sooner found early =
      let at = here cs apart n id first in
      let value : k ≡ at.copy.1 = some_same at.copy.1 (sym found ∙ at.found) in
      ap (filter (is_due now age)) at.rest
      ∙ none_due now age at.copy (drop (suc n) cs) (subst (Ordered Sooner) at.rest (ordered_drop Sooner n cs sooner)) (subst (λ (x : Kept). now - x.sent < age) value early)
    where
      some_same : (j : Kept) → Some k ≡ Some j → k ≡ j
      some_same j e = cc

-- ---- what is seen of the arena

or_nothing : (o : Option ℕ) → or_else o None ≡ o
or_nothing None = refl
or_nothing (Some x) = refl

module _ (s : Lists Kept) (h : IsBuffer s) (v : Copies) (is : seen s ≡ v) where
  pub apart_seen : Ordered Apart v.copies
  apart_seen = subst (λ (w : Copies). Ordered Apart w.copies) is h.stands.apart

  pub sooner_seen : Ordered Sooner v.copies
  sooner_seen = subst (λ (w : Copies). Ordered Sooner w.copies) is h.stands.sooner

  pub found_seen : (id : ℕ) (k : Kept) → find_in id s.b ≡ Some k → find id v.copies ≡ Some k
  found_seen id k at = subst (λ (w : Copies). find id w.copies ≡ Some k) is (sym (found_in s id h) ∙ at)

  pub sent_seen : (now id : ℕ) (k : Kept) → All (sent_by now) v.copies → find_in id s.b ≡ Some k → k.sent ≤ now
  sent_seen now id k sent at = found_each (sent_by now) id k v.copies (each_of_all (sent_by now) v.copies sent) (found_seen id k at)

  pub first_seen : (id : ℕ) → first_id (all s) ≡ first_id v.copies
  first_seen id = ap (λ (w : Copies). first_id w.copies) is

  pub live_seen : (n id : ℕ) → first_id (drop n v.copies) ≡ Some id → IsLive s id
  live_seen n id first =
      let found : find id (all s) ≡ Some (here v.copies apart_seen n id first).copy.1 = ap (λ (w : Copies). find id w.copies) is ∙ (here v.copies apart_seen n id first).found in
      live_in s id h (subst IsSome (sym found) refl)

  pub next_seen : (n id m : ℕ) → first_id (drop n v.copies) ≡ Some id → m ≡ suc n → next_in id s.b ≡ first_id (drop m v.copies)
  next_seen n id m first more =
      ap (next_in id) h.one
      ∙ (or_nothing (id_behind id (all s)) ∙ (ap (λ (w : Copies). id_behind id w.copies) is ∙ ((here v.copies apart_seen n id first).next ∙ ap (λ x. first_id (drop x v.copies)) (sym more))))

-- at least so long ago
pub is_due_of : (now age sent : ℕ) → age ≤ now - sent → nat_le age (now - sent) ≡ true
is_due_of now age sent h = grind (arith)

-- how many were named
pub within_all : (old new : List ℕ) (cs : List Named) → new ≡ old ++ map name_of (take (length new - length old) cs) → length new - length old ≤ length cs
within_all old new cs is =
    let n = length new - length old in
    omega (arith, ap length is, length-append old (map name_of (take n cs)), length-map (take n cs) name_of, length-take n cs)

pub none_left : (now age n : ℕ) (cs : List Named) → first_id (drop n cs) ≡ None → filter (is_due now age) (drop n cs) ≡ []
none_left now age n cs e = empty_case (drop n cs) e
  where
    empty_case : (ds : List Named) → first_id ds ≡ None → filter (is_due now age) ds ≡ []
    empty_case [] e2 = refl
    empty_case (d ∷ ds) e2 = cc
