use Rattle.std.proofs.Common.{◌≡◌, ◌++◌, drop}
use Rattle.p4_check.specs.Rewriting.{rewrite_locals}
use Rattle.rp_rewrite.specs.Sources.{source_in}
use Rattle.rp_rewrite.proofs.program.locals.Given as goal

abbrev pub invariant-loop-l : goal.invariant-loop-l
invariant-loop-l l = l.made ++ rewrite_locals (source_in l.sc) (drop l.l-index l.ls) ≡ rewrite_locals (source_in l.sc) l.ls
