use Rattle.std.proofs.Common.{◌≤◌, length, arith}
use Rattle.std.proofs.lemmas.Grind.{common_steps}
use Rattle.p4_program.proofs.Wholes.{left_over}
use Rattle.p4_program.proofs.program.program.Goals as goal

pub returns-then-not-is_empty : goal.returns-then-not-is_empty
returns-then-not-is_empty c =
    let some : 1 ≤ length c.in_ok-program.rest.now = grind (arith, common_steps) in
    left_over c.args.tokens.now c.in_ok-program.rest.now c.in_ok-program.program c.in_ok-program.ensures some
