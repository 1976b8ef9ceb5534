-- What holds of what is read, and is read next.
use Rattle.std.proofs.Common.{◌≡◌, ℕ, ◌≤◌, Bool, true, false, not, ◌&&◌, cond, nat_le, List, Result, Ok, Err, arith, refl, subst}
use Rattle.std.specs.Prelude.{IfOk, if◌then◌else◌}
use Rattle.sched_lang.specs.declared.schedule.Schedule.{Schedule}
use Rattle.sched_lang.specs.declared.schedule.SchedWhy.{SchedWhy}
use Rattle.sched_lang.specs.declared.schedule.SchedWhy.TheVariants as why
use Rattle.sched_lang.specs.declared.schedule.SchedEnd.{SchedEnd}
use Rattle.sched_lang.specs.declared.schedule.SchedEnd.TheVariants as end
use Rattle.sched_lang.specs.Causes.{◌>>=◌, both}
use Rattle.sched_lang.specs.Words.{is_decimal, value_of, number}
use Rattle.sched_lang.specs.Reading.{Fault, Gives, at_line}

-- what is read next, with a fact of what was read before
pub next : {A B E : Type 0} (P : A → Type 0) (Q : B → Type 0) (r : Result A E) (f : A → Result B E) → IfOk r P → ((x : A) → P x → IfOk (f x) Q) → IfOk (r >>= f) Q
next P Q (Ok x) f h k = k x h
next P Q (Err e) f h k = tt

-- what is read next, whatever was read before
pub behind_any : {A B E : Type 0} (Q : B → Type 0) (r : Result A E) (f : A → Result B E) → ((x : A) → IfOk (f x) Q) → IfOk (r >>= f) Q
behind_any Q (Ok x) f k = k x
behind_any Q (Err e) f k = tt

pub at_its_line : {A : Type 0} (P : A → Type 0) (n : ℕ) (r : Result A SchedWhy) → IfOk r P → IfOk (at_line n r) P
at_its_line P n (Ok x) h = h
at_its_line P n (Err e) h = tt

pub of_both : {A B : Type 0} (P : A → Type 0) (Q : B → Type 0) (r : Result A SchedWhy) (s : Result B SchedWhy) → IfOk r P → IfOk s Q → IfOk (both r s) (λ x. P x.0 × Q x.1)
of_both P Q (Ok x) (Ok y) h k = (h, k)
of_both P Q (Ok x) (Err e) h k = tt
of_both P Q (Err d) (Ok y) h k = tt
of_both P Q (Err d) (Err e) h k = tt

-- what passes a test, and is refused otherwise
pub tested : {A E : Type 0} (P : A → Type 0) (b : Bool) (r : Result A E) (e : E) → (b ≡ true → IfOk r P) → IfOk (cond b r (Err e)) P
tested P true r e h = h refl
tested P false r e h = tt

-- what is refused by a test, and read otherwise
pub unless : {A E : Type 0} (P : A → Type 0) (b : Bool) (r : Result A E) (e : E) → IfOk r P → IfOk (cond b (Err e) r) P
unless P true r e h = tt
unless P false r e h = h

-- what a reader returned, where this holds of what the lines read
pub of_given : {A : Type 0} (view : A → Schedule) (P : Schedule → Type 0) (r : Result A SchedEnd) (read : Result Schedule Fault) → Gives view r read → IfOk read P → IfOk r (λ x. P (view x))
of_given view P (Ok x) read h k = subst (λ (y : Result Schedule Fault). IfOk y P) h k
of_given view P (Err (end.Refused line cause)) read h k = tt
of_given view P (Err end.NoMemory) read h k = tt

-- ---- numbers

-- a number in its range
abbrev pub Within : ℕ → ℕ → ℕ → Type 0
Within least most n = (least ≤ n) × (n ≤ most)

ranged : (least most n : ℕ) (form : Bool) → IfOk (if not form then Err why.Form else if nat_le least n && nat_le n most then Ok n else Err why.Number) (Within least most)
ranged least most n false = tt
ranged least most n true = grind arith

pub number-within : (least most : ℕ) (word : List ℕ) → IfOk (number least most word) (Within least most)
number-within least most word = ranged least most (value_of word) (is_decimal word)
