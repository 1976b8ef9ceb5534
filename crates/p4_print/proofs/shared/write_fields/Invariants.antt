use Rattle.std.proofs.Common.{◌≡◌, ◌∷◌, ◌++◌, take}
use Rattle.p4_lex.specs.declared.token.Sign.TheVariants.{Dot}
use Rattle.p4_print.specs.Text.{text}
use Rattle.p4_print.specs.Shared.{all, the, name_tokens}
use Rattle.p4_print.proofs.shared.write_fields.Given as goal

abbrev pub invariant-loop-name : goal.invariant-loop-name
invariant-loop-name l = l.out ≡ l.fn.out ++ text (all (λ n. the Dot ∷ name_tokens n) (take l.name-index l.names))
