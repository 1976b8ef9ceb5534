use Rattle.std.proofs.Common.{◌≡◌, ◌≤◌, ◌+◌, ◌-◌, length, drop}
use Rattle.std.specs.Prelude.{option_map}
use Rattle.p4_lex.specs.Lexing.{comment_len}
use Rattle.p4_lex.proofs.front.comment_len.Given as goal

abbrev pub invariant-loop-at : goal.invariant-loop-at
invariant-loop-at l = record { within : l.at ≤ length l.bytes; rest : option_map (λ n. n + l.at) (comment_len (drop l.at l.bytes)) ≡ comment_len l.bytes }

abbrev pub decreases-loop-at : goal.decreases-loop-at
decreases-loop-at l = length l.bytes - l.at
