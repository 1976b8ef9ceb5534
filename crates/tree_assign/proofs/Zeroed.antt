-- Fields that are made 0, one after the other, and what lies past the end.
use Rattle.std.proofs.Common.{◌≡◌, ℕ, zero, suc, ◌+◌, ◌-◌, ◌<◌, ◌≤◌, ◌==◌, true, false, List, [], ◌∷◌, length, map, take, set, Option, None, refl, ap, ◌∙◌, arith, if◌then◌else◌, add-one}
use Rattle.std.proofs.lemmas.List.{set_past}
use Rattle.app_data.specs.declared.value.Value.{Value}
use Rattle.p4_ast.specs.declared.name.P4Name.{P4Name}
use Rattle.app_meaning.specs.Values.{cut}
use Rattle.app_meaning.specs.Slots.{Scope, Path, place, value_in, text}
use Rattle.app_meaning.specs.Assigning.{header_of, zeroed}

pub put_past : (values : List Value) (i : ℕ) (v : Value) → length values ≤ i → set values i v ≡ values
put_past = set_past

pub zeroed_past : (k i : ℕ) (values : List Value) → length values ≤ i → zeroed k i values ≡ values
zeroed_past zero i values past = refl
zeroed_past (suc k) i values past =
    ap (zeroed k (suc i)) (set_past values i (cut (value_in values i).width 0) past) ∙ zeroed_past k (suc i) values (omega (arith, past))

pub zeroed_more : (k i : ℕ) (values : List Value) → 0 < k → zeroed (k - 1) (i + 1) (set values i (cut (value_in values i).width 0)) ≡ zeroed k i values
zeroed_more zero i values some = absurd (omega (arith, some))
zeroed_more (suc k) i values some = let less : suc k - 1 ≡ k = omega arith in rw (less, add-one) refl

pub renewed_past : (k h : ℕ) (values : List Value) (v : Value) → length values ≤ h → set (zeroed k (suc h) values) h v ≡ values
renewed_past k h values v past = ap (λ (xs : List Value). set xs h v) (zeroed_past k (suc h) values (omega (arith, past))) ∙ set_past values h v past

pub header_is : (sc : Scope) (names : List P4Name) → length names ≡ 3 → header_of sc (map text names) ≡ place sc.slots (map text (take 2 names))
header_is sc [] e = absurd (omega (arith, e))
header_is sc (n ∷ []) e = absurd (omega (arith, e))
header_is sc (n ∷ m ∷ []) e = absurd (omega (arith, e))
header_is sc (n ∷ m ∷ k ∷ []) e = refl
header_is sc (n ∷ m ∷ k ∷ j ∷ ns) e = absurd (omega (arith, e))

pub header_none : (sc : Scope) (names : List P4Name) → (length names ≡ 3 → ⊥) → header_of sc (map text names) ≡ None
header_none sc [] e = refl
header_none sc (n ∷ []) e = refl
header_none sc (n ∷ m ∷ []) e = refl
header_none sc (n ∷ m ∷ k ∷ []) e = absurd (e refl)
header_none sc (n ∷ m ∷ k ∷ j ∷ ns) e = refl
