use Rattle.std.proofs.Common.{◌≡◌, ℕ, suc, ◌≤◌, ◌<◌, ◌-◌, ◌^◌, ◌∷◌, Bool, true, false, cond, List, length, Some, sym, ap, ◌∙◌, subst, refl, nat_lt, arith, Vec, Global}
use Rattle.std.specs.Prelude.{drop, slice_get}
use Rattle.std.proofs.Math.Seq.{drop-length}
use Rattle.std.proofs.lemmas.Grind.{common_steps}
use Rattle.std.proofs.lemmas.Bool.{ltb-true, ltb-false}
use Rattle.std.proofs.lemmas.Option.{slice_get_within, slice_get-get_or}
use Rattle.std.specs.List.{AllByRecursion, list_any}
use Rattle.std.specs.Map.{lookup, keys_of}
use Rattle.match_tables.specs.declared.entries.MatchCond.{MatchCond}
use Rattle.match_tables.specs.Winning.{masks_of, prefix_of}
use Rattle.match_tables.specs.Placing.{first_at, ranked, spelled, Rising}
use Rattle.match_tables.specs.Standing.{is_same, IsOfRow}
use Rattle.match_tables.proofs.Winners.{some_is}
use Rattle.match_tables.proofs.Found.{same_refl}
use Rattle.match_tables.proofs.Inserted.{inserted, lookup_map, keys_map, length_map, rising_map, any_map, all_map, has_new, has_old, all_inserted, drop_from}
use Rattle.match_tables.proofs.places.Places.of.Goals as goal

abbrev Keyed : Type 0
Keyed = Vec ℕ Global

abbrev list_of : Keyed → List ℕ
list_of k = k.items

past : {Y : Type 0} (rows : List (List MatchCond)) (j : ℕ) (r : List MatchCond) → length rows ≤ j → slice_get rows j ≡ Some r → Y
past rows j r l e = let k : j < length rows = slice_get_within rows j r e in absurd (omega (arith, k, l))

pub loop-i-init : goal.loop-i-init
loop-i-init c =
    let rows = c.args.rows.now in
    record {
      within = omega arith;
      finds = λ x. ap (lookup (λ (k : Keyed). is_same x k.items)) c.new-places.ensures.empty ∙ sym (ap (first_at x (length rows)) (drop-length rows));
      rises = c.new-places.ensures.ordered;
      ordered = c.new-masks.ensures.ordered;
      few = omega (arith, c.new-places.ensures.len);
      every = λ j r l e. past rows j r l e;
      bounded = λ j r l e. past rows j r l e;
      only = subst (AllByRecursion (λ (k : Keyed). IsOfRow c.args.lpm rows k.items)) (sym c.new-masks.ensures.empty) tt;
    }

-- what holds of a row, and of the rows behind it
from_here : (P : List MatchCond → Type 0) (rows : List (List MatchCond)) (i : ℕ) (row : List MatchCond) → slice_get rows i ≡ Some row → P row → ((j : ℕ) (r : List MatchCond) → suc i ≤ j → slice_get rows j ≡ Some r → P r) → (j : ℕ) (r : List MatchCond) → i ≤ j → slice_get rows j ≡ Some r → P r
from_here P rows i row there p more j r l e = by (nat_lt i j) refl
  where
    by : (b : Bool) → nat_lt i j ≡ b → P r
    by true t = let k : i < j = ltb-true i j t in more j r (omega (arith, k)) e
    by false f =
        let k : j ≤ i = ltb-false i j f in
        let is : i ≡ j = omega (arith, k, l) in
        subst P (some_is row r (sym there ∙ ap (slice_get rows) is ∙ e)) p

pub loop-i-preserved : goal.loop-i-preserved
loop-i-preserved c =
    let was = c.loop-i.invariant in
    let rows = c.args.rows.now in
    let lpm = c.args.lpm in
    let i : ℕ = c.loop-i.i - 1 in
    let row = c.as_slice-row.result.now in
    let one : suc i ≡ c.loop-i.i = omega (arith, c.loop-i-test.true) in
    let there : slice_get rows i ≡ Some row = grind (arith, common_steps, slice_get-get_or) in
    let rest : drop i rows ≡ row ∷ drop c.loop-i.i rows = drop_from rows i row there ∙ ap (λ (n : ℕ). row ∷ drop n rows) one in
    let key = c.in_ok-spelled.field-0 in
    let mask = c.in_ok-ranked.field-0 in
    let spelt : key.items ≡ spelled row = c.in_ok-spelled.ensures in
    let made : mask.items ≡ ranked lpm (masks_of row) = c.in_ok-ranked.ensures.made in
    let new_keys = c.in_ok-insert.ensures.keys in
    record {
      within = omega (arith, was.within);
      finds = λ x.
          ap (lookup (λ (k : Keyed). is_same x k.items)) c.in_ok-insert-2.ensures.entries
          ∙ inserted list_of c.loop-i.places.entries key i x
          ∙ ap (λ (ks : List ℕ). cond (is_same x ks) (Some i) (lookup (λ (k : Keyed). is_same x k.items) c.loop-i.places.entries)) spelt
          ∙ ap (cond (is_same x (spelled row)) (Some i)) (was.finds x)
          ∙ ap (λ (n : ℕ). cond (is_same x (spelled row)) (Some i) (first_at x n (drop c.loop-i.i rows))) (sym one)
          ∙ sym (ap (first_at x i) rest);
      rises = c.in_ok-insert-2.ensures.ordered;
      ordered = c.in_ok-insert.ensures.ordered;
      few = grind (arith, common_steps, was.few);
      every = from_here (λ (r : List MatchCond). list_any (λ (k : Keyed). is_same (ranked lpm (masks_of r)) k.items) c.insert.new.self.keys ≡ true) rows i row there
          (ap (list_any (λ (k : Keyed). is_same (ranked lpm (masks_of row)) k.items)) new_keys ∙ has_new list_of c.loop-i.masks.keys mask (ranked lpm (masks_of row)) (ap (is_same (ranked lpm (masks_of row))) made ∙ same_refl (ranked lpm (masks_of row))))
          (λ j r l e. ap (list_any (λ (k : Keyed). is_same (ranked lpm (masks_of r)) k.items)) new_keys ∙ has_old list_of c.loop-i.masks.keys mask (ranked lpm (masks_of r)) (was.every j r (omega (arith, one, l)) e));
      bounded = from_here (λ (r : List MatchCond). prefix_of lpm (masks_of r) < 2 ^ 128) rows i row there c.ranked.ensures.bounded (λ j r l e. was.bounded j r (omega (arith, one, l)) e);
      only = subst (AllByRecursion (λ (k : Keyed). IsOfRow lpm rows k.items)) (sym new_keys)
          (all_inserted list_of (λ (k : Keyed). IsOfRow lpm rows k.items) c.loop-i.masks.keys mask was.only (record { row = row; number = i; there = there; same = made }));
    }

pub returns : goal.returns
returns c =
    let was = c.loop-i.invariant in
    let rows = c.args.rows.now in
    let lpm = c.args.lpm in
    let end : c.loop-i.i ≡ 0 = omega (arith, c.loop-i-test.false) in
    let sorted = c.in_ok-sorted.ensures in
    let masks = c.in_ok-listed.ensures in
    record {
      finds = λ x. ap (lookup (is_same x)) sorted ∙ lookup_map list_of c.loop-i.places.entries x ∙ was.finds x ∙ ap (λ (n : ℕ). first_at x n (drop n rows)) end;
      rises = subst Rising (sym (ap keys_of sorted ∙ keys_map list_of c.loop-i.places.entries)) (rising_map list_of (keys_of c.loop-i.places.entries) was.rises);
      few = let size : length c.in_ok-sorted.field-0 ≡ length c.loop-i.places.entries = ap length sorted ∙ length_map list_of c.loop-i.places.entries in omega (arith, size, was.few);
      ordered = subst Rising (sym masks) (rising_map list_of c.loop-i.masks.keys was.ordered);
      every = λ j r e. ap (list_any (is_same (ranked lpm (masks_of r)))) masks ∙ any_map list_of (is_same (ranked lpm (masks_of r))) c.loop-i.masks.keys ∙ was.every j r (omega (arith, end)) e;
      bounded = λ j r e. was.bounded j r (omega (arith, end)) e;
      only = subst (AllByRecursion (IsOfRow lpm rows)) (sym masks) (all_map list_of (IsOfRow lpm rows) c.loop-i.masks.keys was.only);
    }
