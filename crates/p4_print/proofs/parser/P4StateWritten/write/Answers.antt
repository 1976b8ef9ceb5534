use Rattle.std.specs.Prelude.{codes}
use Rattle.p4_print.specs.Text.{text}
use Rattle.p4_print.specs.Programs.{state_tokens}
use Rattle.p4_print.proofs.Steps.{last, texts}
use Rattle.p4_print.proofs.parser.P4StateWritten.write.Goals as goal

pub returns : goal.returns
unfolding state_tokens
returns c = last c.append-4.result c.args.out.now c.write-2.new.out (codes "}\n") (text (state_tokens c.args.self.now)) c.append-4.new.self c.append-4.ensures.ok (rw (c.in_ok-write-2.ensures, c.in_ok-append-3.ensures.ok, c.in_ok-write_all.ensures, c.as_slice.ensures, c.in_ok-append-2.ensures.ok, c.in_ok-write.ensures, c.in_ok-append.ensures.ok) (simp texts))
