use Rattle.std.proofs.Common.{◌≡◌, drop, []}
use Rattle.p4_typing.specs.Calls.{args_for}
use Rattle.p4_typing.proofs.call.args_for.Given as goal

abbrev pub invariant-loop-e : goal.invariant-loop-e
invariant-loop-e l = args_for l.left (drop l.e-index l.es) l.s (l.f, l.done) ≡ args_for l.ks l.es l.s (l.fn.f, [])
