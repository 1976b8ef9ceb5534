use Rattle.std.proofs.Common.{◌≡◌, [], ◌∷◌, ◌++◌, take}
use Rattle.p4_print.specs.Text.{text}
use Rattle.p4_print.specs.Shared.{all}
use Rattle.p4_print.specs.Statements.{stmt_tokens}
use Rattle.p4_print.proofs.statement.+statements.Given as goal

abbrev pub invariant-write_block-loop-s : goal.invariant-write_block-loop-s
invariant-write_block-loop-s l = l.out ≡ (l.fn.out ++ (123 ∷ 10 ∷ [])) ++ text (all stmt_tokens (take l.s-index l.s-items))
