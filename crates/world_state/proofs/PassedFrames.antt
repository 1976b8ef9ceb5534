-- Flags of passed frames, and the frame that `next` takes.
use Rattle.std.proofs.Common.{◌≡◌, ℕ, zero, suc, ◌+◌, ◌<◌, ◌≤◌, ◌≢◌, List, [], ◌∷◌, ◌++◌, length, Option, Some, None, refl, ap, sym, ◌∙◌, Bool, true, false, slice_get, set, drop, arith, eqb-true, subst}
use Rattle.std.proofs.lemmas.Bool.{eqb-false}
use Rattle.std.proofs.lemmas.List.{reverse-append}
use Rattle.std.specs.Prelude.{◌==◌, ◌||◌, ◌&&◌, not, reverse, option_map, if◌then◌else◌}
use Rattle.std.specs.List.{list_any}
use Rattle.proto_safety.proofs.Basics.Lists.{set_other}
use Rattle.proto_data.specs.declared.message.Msg.{Msg}
use Rattle.proto_model.specs.World.{World}
use Rattle.proto_model.specs.WorldStep.{next_from, is_next, runs_now}
use Rattle.world_state.specs.Passing.{is_passed, flag_at, flagged, IsPassing}

-- ---- flags

-- one more flag that is off
pub flag_off : (flags : List Bool) (i : ℕ) → flagged (flags ++ false ∷ []) i ≡ flagged flags i
flag_off [] zero = refl
flag_off [] (suc i) = refl
flag_off (b ∷ bs) zero = refl
flag_off (b ∷ bs) (suc i) = flag_off bs i

-- a flag that goes on
on_here : (flags : List Bool) (n : ℕ) → n < length flags → flagged (set flags n true) n ≡ true
on_here [] n less = absurd (omega (arith, less))
on_here (b ∷ bs) zero less = refl
on_here (b ∷ bs) (suc n) less = on_here bs n (omega (arith, less))

pub flag_on : (flags : List Bool) (n i : ℕ) → n < length flags → flagged (set flags n true) i ≡ ((n == i) || flagged flags i)
flag_on flags n i less = by (n == i) refl
  where
    by : (b : Bool) → (n == i) ≡ b → flagged (set flags n true) i ≡ (b || flagged flags i)
    by true is = let same : n ≡ i = eqb-true n i is in ap (λ k. flagged (set flags n true) k) (sym same) ∙ on_here flags n less
    by false is = let other : n ≢ i = eqb-false n i is in ap flag_at (set_other flags n i true (λ e. other (sym e)))

pub or_true : (b : Bool) → (b || true) ≡ true
or_true true = refl
or_true false = refl

-- the flags with one more passed frame
pub passed_more : (order : List ℕ) (flags : List Bool) (n i : ℕ) → n < length flags → flagged flags i ≡ is_passed (reverse order) i → flagged (set flags n true) i ≡ is_passed (reverse (order ++ n ∷ [])) i
passed_more order flags n i less is =
    flag_on flags n i less ∙ ap (λ b. (n == i) || b) is ∙ ap (λ (ps : List ℕ). is_passed ps i) (sym (reverse-append order (n ∷ [])))

pub flag_there : (flags : List Bool) (i : ℕ) (b : Bool) → slice_get flags i ≡ Some b → flagged flags i ≡ b
flag_there flags i b is = ap flag_at is

-- ---- the next frame

-- the frame at a place is taken, or the search goes on behind it
pub next_at : (w : World) (i : ℕ) (ms : List Msg) (m : Msg) → slice_get ms i ≡ Some m → (j : ℕ) → next_from w j (drop i ms) ≡ (if is_next w j m then Some (j, m) else next_from w (j + 1) (drop (suc i) ms))
next_at w i [] m is j = cc
next_at w zero (x ∷ xs) m is j =
    let same : x ≡ m = cc in
    rw same refl
next_at w (suc i) (x ∷ xs) m is j = next_at w i xs m is j

-- no frame is left
pub next_past : (w : World) (i j : ℕ) (ms : List Msg) → length ms ≤ i → next_from w j (drop i ms) ≡ None
next_past w zero j [] le = refl
next_past w (suc i) j [] le = refl
next_past w zero j (x ∷ xs) le = absurd (omega (arith, le))
next_past w (suc i) j (x ∷ xs) le = next_past w i j xs (omega (arith, le))
