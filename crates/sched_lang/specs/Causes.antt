-- Why a line is refused, and which of two causes is named.
use Rattle.std.specs.Prelude.{Result, Ok, Err}
use Rattle.sched_lang.specs.declared.schedule.SchedWhy.{SchedWhy}
use Rattle.sched_lang.specs.declared.schedule.SchedWhy.TheVariants as why

-- what is read next, where nothing failed before
infixl 10 ◌>>=◌
abbrev pub ◌>>=◌ : {A B E : Type 0} → Result A E → (A → Result B E) → Result B E
(Ok x) >>= f = f x
(Err e) >>= f = Err e

-- Where two words of a line fail, a word without form comes first, then a number out of range, then a node outside the run.
abbrev pub first_cause : SchedWhy → SchedWhy → SchedWhy
first_cause why.Form other = why.Form
first_cause why.Number why.Form = why.Form
first_cause why.Number other = why.Number
first_cause one other = other

-- two words of a line
abbrev pub both : {A B : Type 0} → Result A SchedWhy → Result B SchedWhy → Result (A × B) SchedWhy
both (Ok x) (Ok y) = Ok (x, y)
both (Ok x) (Err e) = Err e
both (Err d) (Ok y) = Err d
both (Err d) (Err e) = Err (first_cause d e)

-- what is read, seen without where it lies in memory
abbrev pub seen : {A B E : Type 0} → (A → B) → Result A E → Result B E
seen view (Ok x) = Ok (view x)
seen view (Err e) = Err e
