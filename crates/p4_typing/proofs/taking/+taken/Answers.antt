use Rattle.std.proofs.Common.{arith}
use Rattle.std.proofs.lemmas.Grind.{common_steps}
use Rattle.p4_typing.proofs.Equations.{taken-Choice, taken-Binary, taken-Unary, taken-Number, taken-Cast, taken-Slice, taken-True, taken-False, taken-Path, taken-IsValid}
use Rattle.p4_typing.proofs.taking.+taken.Goals as goal

pub returns-in_ok-e-in-Choice : goal.returns-in_ok-e-in-Choice
returns-in_ok-e-in-Choice t c = grind (arith, common_steps, taken-Choice)

pub returns-in_ok-new-in-Binary : goal.returns-in_ok-new-in-Binary
returns-in_ok-new-in-Binary t c = grind (arith, common_steps, taken-Binary)

pub returns-in_ok-e-in-Unary : goal.returns-in_ok-e-in-Unary
returns-in_ok-e-in-Unary t c = grind (arith, common_steps, taken-Unary)

pub returns-in_ok-new-in-Number : goal.returns-in_ok-new-in-Number
returns-in_ok-new-in-Number t c = grind (arith, common_steps, taken-Number)

pub returns-in_ok-new-in-Cast : goal.returns-in_ok-new-in-Cast
returns-in_ok-new-in-Cast t c = grind (arith, common_steps, taken-Cast)

pub returns-in_ok-new-in-Slice : goal.returns-in_ok-new-in-Slice
returns-in_ok-new-in-Slice t c = grind (arith, common_steps, taken-Slice)

pub returns-in_ok-new-in-True : goal.returns-in_ok-new-in-True
returns-in_ok-new-in-True t c = grind (arith, common_steps, taken-True)

pub returns-in_ok-new-in-False : goal.returns-in_ok-new-in-False
returns-in_ok-new-in-False t c = grind (arith, common_steps, taken-False)

pub returns-in_ok-new-in-Path : goal.returns-in_ok-new-in-Path
returns-in_ok-new-in-Path t c = grind (arith, common_steps, taken-Path)

pub returns-in_ok-new-in-IsValid : goal.returns-in_ok-new-in-IsValid
returns-in_ok-new-in-IsValid t c = grind (arith, common_steps, taken-IsValid)
