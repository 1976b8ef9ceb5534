use Rattle.std.proofs.Common.{◌≡◌, true, Ok, refl, arith}
use Rattle.std.proofs.lemmas.Grind.{common_steps}
use Rattle.p4_grammar.specs.Forms.{hand}
use Rattle.p4_grammar.specs.Reading.{begins_declaration, declaration_at, declared_more}
use Rattle.p4_program.specs.Declarations.{next_declaration_at}
use Rattle.p4_part.proofs.Loops.{steps_more}
use Rattle.p4_program.proofs.program.declarations_of.Goals as goal

pub loop-left-preserved : goal.loop-left-preserved
loop-left-preserved c =
    let next : hand begins_declaration c.loop-left.rest.now ≡ true = grind (arith, common_steps) in
    let read : declaration_at c.args.fuel c.loop-left.env c.loop-left.rest.now ≡ Ok (c.in_ok-declaration.declaration, c.in_ok-declaration.after.now) = c.in_ok-declaration.ensures in
    let step : next_declaration_at c.args.fuel (c.loop-left.env, c.loop-left.declarations) c.loop-left.rest.now ≡ Ok (declared_more (c.loop-left.env, c.loop-left.declarations) c.in_ok-declaration.declaration, c.in_ok-declaration.after.now) = rw read refl in
    let whole = steps_more begins_declaration (next_declaration_at c.args.fuel) c.loop-left.left (c.loop-left.env, c.loop-left.declarations) _ c.loop-left.rest.now c.in_ok-declaration.after.now _ c.loop-left-test.true next step c.loop-left.invariant in
    grind (arith, common_steps, whole)
