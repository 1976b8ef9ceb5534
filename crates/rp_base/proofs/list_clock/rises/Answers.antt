use Rattle.std.proofs.Common.{◌+◌, ◌<◌, ℕ, Bool, true, false, List, length, get_or, IsTrue, ◌↔◌, arith, refl}
use Rattle.std.specs.Bool.{MatchBool}
use Rattle.std.specs.List.Sorted.{IsNonDecreasing}
use Rattle.std.proofs.lemmas.Bool.{false≢true}
use Rattle.std.proofs.lemmas.List.Sorted.{non_decreasing_from_is_sorted}
use Rattle.rp_base.proofs.list_clock.rises.Goals as goal

exactly : (xs : List ℕ) (r : Bool) → MatchBool r (IsNonDecreasing xs) ((k : ℕ) × (k + 1 < length xs) × ((d : ℕ) → get_or xs (k + 1) d < get_or xs k d)) → IsTrue r ↔ IsNonDecreasing xs
exactly xs true h = (λ _. h, λ _. refl)
exactly xs false h = (λ e. absurd (false≢true e), λ all. absurd (let up = all h.0 (h.0 + 1) 0 (omega arith) h.1 in let down = h.2 0 in omega arith))

pub returns : goal.returns
returns c = exactly c.args.coming.now c.is_sorted.result (non_decreasing_from_is_sorted c.args.coming.now c.is_sorted.result c.is_sorted.ensures.cases)
