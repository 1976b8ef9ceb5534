use Rattle.std.specs.Prelude.{codes}
use Rattle.p4_print.specs.Text.{text}
use Rattle.p4_print.specs.Programs.{inputs_tokens}
use Rattle.p4_print.proofs.Steps.{last, texts}
use Rattle.p4_print.proofs.control.write_inputs.Goals as goal

pub returns : goal.returns
unfolding inputs_tokens
returns c = last c.append-4.result c.args.out.now c.write_rp.new.out (codes ") ") (text (inputs_tokens c.args.c.now)) c.append-4.new.self c.append-4.ensures.ok (rw (c.in_ok-write_rp.ensures, c.in_ok-write.ensures, c.in_ok-append-3.ensures.ok, c.in_ok-write_param-2.ensures, c.in_ok-append-2.ensures.ok, c.in_ok-write_param.ensures, c.in_ok-append.ensures.ok) (simp texts))
