use Rattle.std.proofs.Common.{◌≡◌, ◌≤◌, ◌-◌, length, drop, true}
use Rattle.p4_lex.specs.Lexing.{tokens_from}
use Rattle.p4_lex.proofs.Steps.{behind}
use Rattle.p4_lex.proofs.tokens.tokens_of.Given as goal

-- what was read, and what is read from here on, are the tokens
abbrev pub invariant-loop-at : goal.invariant-loop-at
invariant-loop-at l = record { within : l.at ≤ length l.text; rest : behind l.tokens (tokens_from 0 l.at l.fresh (drop l.at l.text)) ≡ tokens_from 0 0 true l.text }

abbrev pub decreases-loop-at : goal.decreases-loop-at
decreases-loop-at l = length l.text - l.at
