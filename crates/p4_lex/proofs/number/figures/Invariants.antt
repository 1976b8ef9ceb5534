use Rattle.std.proofs.Common.{◌≡◌, ◌<◌, ◌^◌, false, drop}
use Rattle.p4_lex.specs.Numbers.{figures}
use Rattle.p4_lex.proofs.number.figures.Given as goal

-- what is left, behind what was read, writes what the whole writes
abbrev pub invariant-loop-c : goal.invariant-loop-c
invariant-loop-c l = record { rest : figures l.base l.behind l.value (drop l.c-index l.digits) ≡ figures l.base false 0 l.digits; fits : l.value < 2 ^ 128 }
