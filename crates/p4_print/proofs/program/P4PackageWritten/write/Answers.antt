use Rattle.std.specs.Prelude.{codes}
use Rattle.p4_print.specs.Text.{text}
use Rattle.p4_print.specs.Programs.{package_tokens}
use Rattle.p4_print.proofs.Steps.{last, texts}
use Rattle.p4_print.proofs.program.P4PackageWritten.write.Goals as goal

pub returns : goal.returns
unfolding package_tokens
returns c = last c.append-4.result c.args.out.now c.write_part-3.new.out (codes ") main ;\n") (text (package_tokens c.args.self.now)) c.append-4.new.self c.append-4.ensures.ok (rw (c.in_ok-write_part-3.ensures, c.in_ok-append-3.ensures.ok, c.in_ok-write_part-2.ensures, c.in_ok-append-2.ensures.ok, c.in_ok-write_part.ensures, c.in_ok-append.ensures.ok) (simp texts))
