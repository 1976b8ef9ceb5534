-- Members read one after the other, as a loop does.
use Rattle.std.proofs.Common.{◌≡◌, ℕ, suc, ◌-◌, ◌+◌, ◌≤◌, ◌<◌, List, [], ◌∷◌, ◌++◌, Result, Ok, Err, refl, sym, ap, subst, ◌∙◌, append_assoc, arith, All}
use Rattle.std.proofs.lemmas.Grind.{common_steps}
use Rattle.std.proofs.lemmas.List.{append-nil, map-append}
use Rattle.std.proofs.lemmas.List.Elements.{All-head, All-tail, All-nil, All-cons, All-append, All-weaker}
use Rattle.rp_app.specs.Application.{Delta, with_cell, cells_named}
use Rattle.rp_frame.specs.declared.frame_end.FrameEnd.{FrameEnd}
use Rattle.rp_frame.specs.declared.frame_end.FrameEnd.TheVariants as errors
use Rattle.rp_frame.specs.Reading.{Reader, and_then, Fails, members}

-- what was read before, and what is still read
abbrev pub with_front : {A : Type 0} → List A → Result (List A × ℕ) ℕ → Result (List A × ℕ) ℕ
with_front front read = and_then read (λ x. Ok (front ++ x.0, x.1))

regroup : {A : Type 0} (front : List A) (x : A) (read : Result (List A × ℕ) ℕ) → with_front front (and_then read (λ xs. Ok (x ∷ xs.0, xs.1))) ≡ with_front (front ++ x ∷ []) read
regroup {A} front x (Ok xs) = ap (λ (l : List A). Ok (l, xs.1)) (sym (append_assoc front (x ∷ []) xs.0))
regroup front x (Err e) = refl

pub goes_on : {A : Type 0} (r : ℕ → Reader A) (above : A → ℕ) (low : ℕ) (front : List A) (count i place next : ℕ) (bytes : List ℕ) (x : A) (total : Result (List A × ℕ) ℕ) → i < count → r low place bytes ≡ Ok (x, next)
    → with_front front (members r above low (count - i) place bytes) ≡ total → with_front (front ++ x ∷ []) (members r above (above x) (count - (i + 1)) next bytes) ≡ total
unfolding members
goes_on r above low front count i place next bytes x total lt h so_far =
    let k : count - i ≡ suc (count - (i + 1)) = omega arith in
    let one : with_front front (members r above low (count - i) place bytes) ≡ with_front (front ++ x ∷ []) (members r above (above x) (count - (i + 1)) next bytes) = rw (k, h) (regroup front x (members r above (above x) (count - (i + 1)) next bytes)) in
    sym one ∙ so_far

pub ends : {A : Type 0} (e : FrameEnd) (r : ℕ → Reader A) (above : A → ℕ) (low : ℕ) (front : List A) (count i place : ℕ) (bytes : List ℕ) (total : Result (List A × ℕ) ℕ) → i < count → Fails e (r low place bytes)
    → with_front front (members r above low (count - i) place bytes) ≡ total → Fails e total
unfolding members
ends errors.NoMemory r above low front count i place bytes total lt h so_far = tt
ends (errors.BadFrame at) r above low front count i place bytes total lt h so_far =
    let k : count - i ≡ suc (count - (i + 1)) = omega arith in
    let one : with_front front (members r above low (count - i) place bytes) ≡ Err at = rw (k, h) refl in
    sym so_far ∙ one

pub is_done : {A : Type 0} (r : ℕ → Reader A) (above : A → ℕ) (low : ℕ) (front : List A) (count i place : ℕ) (bytes : List ℕ) (total : Result (List A × ℕ) ℕ) → count ≤ i → with_front front (members r above low (count - i) place bytes) ≡ total → total ≡ Ok (front, place)
unfolding members
is_done {A} r above low front count i place bytes total le so_far =
    let k : count - i ≡ 0 = omega arith in
    let one : with_front front (members r above low (count - i) place bytes) ≡ Ok (front, place) = rw k (ap (λ (l : List A). Ok (l, place)) (append-nil front)) in
    sym so_far ∙ one

-- a cell above all others goes to the end
pub with_cell-above : (ds : Delta) (cell v : ℕ) → All (λ c. c < cell) (cells_named ds) → with_cell ds cell v ≡ ds ++ (cell, v) ∷ []
with_cell-above [] cell v h = refl
with_cell-above (d ∷ ds) cell v h =
    let low : d.0 < cell = All-head (λ c. c < cell) d.0 (cells_named ds) h in
    let rest = with_cell-above ds cell v (All-tail (λ c. c < cell) d.0 (cells_named ds) h) in
    grind (arith, common_steps, rest)

-- what is below a number is below a higher one
pub all_above : (ds : Delta) (low cell : ℕ) → All (λ c. c < low) (cells_named ds) → low ≤ cell → All (λ c. c < cell) (cells_named ds)
all_above ds low cell h le = All-weaker (λ c. c < low) (λ c. c < cell) (λ x lt. omega arith) (cells_named ds) h

-- after one more cell all are below the next number
pub below_more : (ds : Delta) (low cell v : ℕ) → All (λ c. c < low) (cells_named ds) → low ≤ cell → All (λ c. c < cell + 1) (cells_named (ds ++ (cell, v) ∷ []))
below_more ds low cell v h le =
    subst (λ (l : List ℕ). All (λ c. c < cell + 1) l) (sym (map-append (λ (d : ℕ × ℕ). d.0) ds ((cell, v) ∷ [])))
    (All-append (λ c. c < cell + 1) (cells_named ds) (cell ∷ []) (All-weaker (λ c. c < low) (λ c. c < cell + 1) (λ x lt. omega arith) (cells_named ds) h)
    (All-cons (λ c. c < cell + 1) cell [] (omega arith) (All-nil (λ (c : ℕ). c < cell + 1))))
