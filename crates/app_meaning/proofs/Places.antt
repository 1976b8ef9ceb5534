-- The number of a slot is its place in the list.
use Rattle.std.proofs.Common.{◌≡◌, ℕ, suc, ◌+◌, ◌<◌, Bool, true, false, not, List, [], ◌∷◌, length, Option, Some, None, refl, ap, ◌∙◌, if◌then◌else◌, nat_lt, option_map, position, arith}
use Rattle.std.specs.List.{position_or_len}
use Rattle.std.proofs.lemmas.Bool.{ltb-true, ltb-false, lt-ltb, le-ltb}
use Rattle.app_data.specs.declared.scope.Slot.{Slot}
use Rattle.app_meaning.specs.Slots.{Path, path_eq, place}

-- one more in front
one_more : (k len : ℕ) (b : Bool) → nat_lt k len ≡ b → (if nat_lt (1 + k) (suc len) then Some (1 + k) else None) ≡ option_map suc (if b then Some k else None)
one_more k len true e =
    let l : k < len = ltb-true k len e in
    let t : nat_lt (1 + k) (suc len) ≡ true = lt-ltb (1 + k) (suc len) (omega (arith, l)) in
    let s : 1 + k ≡ suc k = omega arith in
    rw (t, s) refl
one_more k len false e =
    let t : nat_lt (1 + k) (suc len) ≡ false = le-ltb (1 + k) (suc len) (omega (arith, ltb-false k len e)) in
    rw (t) refl

at_head : (b : Bool) (k len : ℕ) → (if nat_lt (if not b then 1 + k else 0) (suc len) then Some (if not b then 1 + k else 0) else None) ≡ (if b then Some 0 else option_map suc (if nat_lt k len then Some k else None))
at_head true k len = rw (lt-ltb 0 (suc len) (omega arith)) refl
at_head false k len = one_more k len (nat_lt k len) refl

pub place_is_position : (slots : List Slot) (path : Path) → position (λ s. path_eq s.path path) slots ≡ place slots path
place_is_position [] path = refl
place_is_position (s ∷ ss) path =
    at_head (path_eq s.path path) (position_or_len (λ (x : Slot). path_eq x.path path) ss) (length ss)
    ∙ ap (λ (o : Option ℕ). if path_eq s.path path then Some 0 else option_map suc o) (place_is_position ss path)
