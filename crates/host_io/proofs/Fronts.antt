-- Fronts of lists that a loop or a reader has reached.
use Rattle.std.proofs.Common.{◌≡◌, ◌∙◌, sym, ap, subst, ℕ, ◌+◌, ◌-◌, ◌^◌, ◌≤◌, ◌<◌, min, List, [], ◌∷◌, ◌++◌, length, length-take, length-drop, get_or, take, drop, slice_get, Option, Some, None, IfSome, option_map, arith, refl, ◌⊎◌, inl, inr}
use Rattle.std.proofs.lemmas.List.{take_more, take_all, get_or-drop}
use Rattle.std.proofs.lemmas.Bool.{cases_lt}
use Rattle.std.proofs.lemmas.Option.{get_or_from_slice_get, slice_get_within}

-- one more of the words behind the first
one_word_more : (all : List (List ℕ)) (i : ℕ) (word : List ℕ) → 1 ≤ i → slice_get all i ≡ Some word → take (i + 1 - 1) (drop 1 all) ≡ take (i - 1) (drop 1 all) ++ word ∷ []
one_word_more all i word from there =
    let within : i < length all = slice_get_within all i word there in
    let more : take (i - 1 + 1) (drop 1 all) ≡ take (i - 1) (drop 1 all) ++ get_or (drop 1 all) (i - 1) word ∷ [] = take_more (drop 1 all) (i - 1) word (omega (arith, length-drop 1 all)) in
    let place : 1 + (i - 1) ≡ i = omega arith in
    let same : get_or (drop 1 all) (i - 1) word ≡ word = rw (get_or-drop 1 all (i - 1) word, place) (get_or_from_slice_get all i word word there) in
    let next : i + 1 - 1 ≡ i - 1 + 1 = omega arith in
    rw (next, more, same) refl

pub word_more : (told : Option (List (List ℕ))) (i : ℕ) (words : List (List ℕ)) (found : Option (List ℕ)) (word : List ℕ) → 1 ≤ i →
    IfSome told (λ all. words ≡ take (i - 1) (drop 1 all)) → IfSome told (λ all. found ≡ slice_get all i) → found ≡ Some word →
    IfSome told (λ all. words ++ word ∷ [] ≡ take (i + 1 - 1) (drop 1 all))
word_more None i words found word from before there is = tt
word_more (Some all) i words found word from before there is =
    let at_i : slice_get all i ≡ Some word = sym there ∙ is in
    rw (before) (sym (one_word_more all i word from at_i))

-- a list within a limit is its own front at a higher one too
whole_front : (limit most : ℕ) (left : List ℕ) → most ≤ limit + 1 → length left ≤ most → take most (take most left) ≡ take (limit + 1) left
whole_front limit most left below within =
    let here : take most left ≡ left = take_all most left within in
    let there : take (limit + 1) left ≡ left = take_all (limit + 1) left (omega arith) in
    rw (here, here, there) refl

-- a front that fills its limit, where the limit didn't stop at the greatest number
full_front : (limit most : ℕ) (left : List ℕ) → most ≡ limit + 1 → take most (take most left) ≡ take (limit + 1) left
full_front limit most left same =
    let again : take most (take most left) ≡ take most left = take_all most (take most left) (omega (arith, length-take most left)) in
    again ∙ ap (λ n. take n left) same

cut : (limit most : ℕ) (left : List ℕ) → most ≡ min (limit + 1) (2 ^ 64 - 1) → length (take most left) < 2 ^ 64 - 1 → (most < length left) ⊎ (length left ≤ most) →
    take most (take most left) ≡ take (limit + 1) left
cut limit most left stops small (inl over) = full_front limit most left (omega (arith, length-take most left))
cut limit most left stops small (inr within) = whole_front limit most left (omega arith) within

-- What was read up to a limit that stops at the greatest number, cut at it and put behind what was there, is the front up to
-- the limit.
pub cut_front : (known : Option (List ℕ)) (limit most : ℕ) (before read after : List ℕ) → most ≡ min (limit + 1) (2 ^ 64 - 1) → length read < 2 ^ 64 - 1 →
    IfSome (option_map (take most) known) (λ xs. read ≡ xs) → after ≡ before ++ take most read → IfSome known (λ left. after ≡ before ++ take (limit + 1) left)
cut_front None limit most before read after stops small same grown = tt
cut_front (Some left) limit most before read after stops small same grown =
    let short : length (take most left) < 2 ^ 64 - 1 = subst (λ xs. length xs < 2 ^ 64 - 1) same small in
    let cut_here : take most read ≡ take (limit + 1) left = rw same (cut limit most left stops short (cases_lt most (length left))) in
    rw (grown, cut_here) refl
