-- The lines of a text and the words of a line, and what is read next.
use Rattle.std.specs.Prelude.{◌≡◌, ℕ, Bool, true, false, ◌==◌, if◌then◌else◌, List, [], ◌∷◌, Option, Some, None, Result, Ok, Err}
use Rattle.std.specs.List.{slice_split}
use Rattle.report_read.specs.declared.report.ReportWhy.{ReportWhy}
use Rattle.report_read.specs.declared.report.ReportWhy.TheVariants as why
use Rattle.report_read.specs.declared.report.LineEnd.{LineEnd}
use Rattle.report_read.specs.declared.report.LineEnd.TheVariants as end

-- what is read next, where nothing failed before
infixl 10 ◌>>=◌
abbrev pub ◌>>=◌ : {A B E : Type 0} → Result A E → (A → Result B E) → Result B E
(Ok x) >>= f = f x
(Err e) >>= f = Err e

-- a line without its line feed, and whether it has one
abbrev pub RawLine : Type 0
RawLine = List ℕ × Bool

-- a further byte at the front of the first line
abbrev pub onto_line : ℕ → List RawLine → List RawLine
onto_line b [] = (b ∷ [], false) ∷ []
onto_line b (line ∷ ls) = (b ∷ line.0, line.1) ∷ ls

-- the lines of a text: each ends with a line feed, which the last may lack
abbrev pub lines : List ℕ → List RawLine
lines [] = []
lines (b ∷ bs) = if b == 10 then ([], true) ∷ lines bs else onto_line b (lines bs)

-- the words of a line, with one space between each two
abbrev pub words : List ℕ → List (List ℕ)
words line = slice_split (λ b. b == 32) line

-- the words of what stands behind a space, where there is one
abbrev pub words_behind : Option (List ℕ) → List (List ℕ)
words_behind None = []
words_behind (Some rest) = words rest

-- the next word, and the words behind it
abbrev pub next_word : List (List ℕ) → Result (List ℕ × List (List ℕ)) ReportWhy
next_word [] = Err why.Form
next_word (word ∷ ws) = Ok (word, ws)

-- no more words
abbrev pub no_more : List (List ℕ) → Result (Unit {0}) ReportWhy
no_more [] = Ok tt
no_more (word ∷ ws) = Err why.Form

-- What a reader returned, by what is seen of it, is what the words read, unless memory ran out.
abbrev pub Reads : {X Y : Type 0} → (X → Y) → Result X LineEnd → Result Y ReportWhy → Type 0
Reads view (Ok x) read = read ≡ Ok (view x)
Reads view (Err (end.Refused cause)) read = read ≡ Err cause
Reads view (Err end.NoMemory) read = Unit {0}
