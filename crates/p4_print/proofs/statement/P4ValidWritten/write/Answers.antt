use Rattle.std.specs.Prelude.{codes}
use Rattle.p4_print.specs.Text.{text}
use Rattle.p4_print.specs.Statements.{valid_tokens}
use Rattle.p4_print.proofs.Steps.{last, texts}
use Rattle.p4_print.proofs.statement.P4ValidWritten.write.Goals as goal

pub returns : goal.returns
unfolding valid_tokens
returns c = last c.append-2.result c.args.out.now c.write_validity.new.out (codes "( ) ;\n") (text (valid_tokens c.args.self.now)) c.append-2.new.self c.append-2.ensures.ok (rw (c.in_ok-write_validity.ensures, c.in_ok-append.ensures.ok, c.in_ok-write.ensures) (simp texts))
