use Rattle.std.specs.Prelude.{codes}
use Rattle.p4_print.specs.Text.{text}
use Rattle.p4_print.specs.Programs.{parser_tokens}
use Rattle.p4_print.proofs.Steps.{last, texts}
use Rattle.p4_print.proofs.parser.P4ParserWritten.write.Goals as goal

pub returns : goal.returns
unfolding parser_tokens
returns c = last c.append-3.result c.args.out.now c.write_all.new.out (codes "}\n") (text (parser_tokens c.args.self.now)) c.append-3.new.self c.append-3.ensures.ok (rw (c.in_ok-write_all.ensures, c.as_slice.ensures, c.in_ok-append-2.ensures.ok, c.in_ok-write_parameters.ensures, c.in_ok-write.ensures, c.in_ok-append.ensures.ok) (simp texts))
