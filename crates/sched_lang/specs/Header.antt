-- The six lines of a header.
use Rattle.std.specs.Prelude.{ℕ, ◌+◌, ◌*◌, Bool, if◌then◌else◌, nat_le, List, [], ◌∷◌, Option, Some, None, Result, Ok, Err, codes, bytes_eq}
use Rattle.sched_lang.specs.declared.schedule.SchedWhy.{SchedWhy}
use Rattle.sched_lang.specs.declared.schedule.SchedWhy.TheVariants as why
use Rattle.sched_lang.specs.Causes.{◌>>=◌, both}
use Rattle.sched_lang.specs.Words.{words, behind, none, one, two, number}

-- `rp-schedule 1`
abbrev pub first_line : List ℕ → Result (Unit {0}) SchedWhy
first_line line = if bytes_eq line (codes "rp-schedule 1") then Ok tt else Err why.Form

-- a line of this name, with a number in its range
abbrev pub named : List ℕ → ℕ → ℕ → List ℕ → Result ℕ SchedWhy
named name least most line = do
  args ← behind name (words line)
  word ← one args
  number least most word

-- `switches S`
abbrev pub switches_line : List ℕ → Result ℕ SchedWhy
switches_line line = named (codes "switches") 1 8 line

-- `chain C`
abbrev pub chain_line : List ℕ → Result ℕ SchedWhy
chain_line line = named (codes "chain") 1 5 line

-- `lease T_SWITCH T_STORE`
abbrev pub lease_line : List ℕ → Result (ℕ × ℕ) SchedWhy
lease_line line = do
  args ← behind (codes "lease") (words line)
  ws ← two args
  both (number 1 1000000 ws.0) (number 1 1000000 ws.1)

-- By these terms the store waits longer than a lease lasts on any clock within the ratio.
abbrev pub terms_fit : ℕ → ℕ → ℕ → Bool
terms_fit t_switch t_store ratio = nat_le ((1000 + ratio) * t_switch) (1000 * t_store)

-- `ratio Q`, where the terms hold
abbrev pub ratio_line : ℕ → ℕ → List ℕ → Result ℕ SchedWhy
ratio_line t_switch t_store line = do
  ratio ← named (codes "ratio") 0 1000 line
  if terms_fit t_switch t_store ratio then Ok ratio else Err why.Terms

-- what stands behind `mode`
abbrev pub mode : List (List ℕ) → Result (Option ℕ) SchedWhy
mode [] = Err why.Form
mode (kind ∷ args) =
    if bytes_eq kind (codes "strict") then (do
      end ← none args
      Ok None)
    else if bytes_eq kind (codes "snapshot") then (do
      word ← one args
      bound ← number 1 1000000 word
      Ok (Some bound))
    else Err why.Form

-- `mode strict` or `mode snapshot BOUND`
abbrev pub mode_line : List ℕ → Result (Option ℕ) SchedWhy
mode_line line = do
  args ← behind (codes "mode") (words line)
  mode args
