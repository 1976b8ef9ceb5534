use Rattle.std.specs.Prelude.{codes}
use Rattle.p4_print.specs.Text.{text}
use Rattle.p4_print.specs.Statements.{apply_tokens}
use Rattle.p4_print.proofs.Steps.{last, texts}
use Rattle.p4_print.proofs.statement.P4ApplyWritten.write.Goals as goal

pub returns : goal.returns
unfolding apply_tokens
returns c = last c.append.result c.args.out.now c.write.new.out (codes ". apply ( ) ;\n") (text (apply_tokens c.args.self.now)) c.append.new.self c.append.ensures.ok (rw (c.in_ok-write.ensures) (simp texts))
