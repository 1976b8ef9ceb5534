use Rattle.std.specs.Prelude.{codes}
use Rattle.p4_print.specs.Text.{text}
use Rattle.p4_print.specs.Programs.{deparser_tokens}
use Rattle.p4_print.proofs.Steps.{last, texts}
use Rattle.p4_print.proofs.program.P4DeparserWritten.write.Goals as goal

pub returns : goal.returns
unfolding deparser_tokens
returns c = last c.append-5.result c.args.out.now c.write_all.new.out (codes "}\n}\n") (text (deparser_tokens c.args.self.now)) c.append-5.new.self c.append-5.ensures.ok (rw (c.in_ok-write_all.ensures, c.as_slice.ensures, c.in_ok-append-4.ensures.ok, c.in_ok-write_param.ensures, c.in_ok-append-3.ensures.ok, c.in_ok-write-2.ensures, c.in_ok-append-2.ensures.ok, c.in_ok-write.ensures, c.in_ok-append.ensures.ok) (simp texts))
