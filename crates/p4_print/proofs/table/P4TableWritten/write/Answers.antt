use Rattle.std.specs.Prelude.{codes}
use Rattle.p4_print.specs.Text.{text}
use Rattle.p4_print.specs.Tables.{table_tokens}
use Rattle.p4_print.proofs.Steps.{last, texts}
use Rattle.p4_print.proofs.table.P4TableWritten.write.Goals as goal

pub returns : goal.returns
unfolding table_tokens
returns c = last c.append-3.result c.args.out.now c.write_maybe-3.new.out (codes "}\n") (text (table_tokens c.args.self.now)) c.append-3.new.self c.append-3.ensures.ok (rw (c.in_ok-write_maybe-3.ensures, c.in_ok-write_maybe-2.ensures, c.in_ok-write_maybe.ensures, c.in_ok-write-3.ensures, c.in_ok-write-2.ensures, c.in_ok-append-2.ensures.ok, c.in_ok-write.ensures, c.in_ok-append.ensures.ok) (simp texts))
