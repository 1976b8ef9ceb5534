use Rattle.std.proofs.Common.{◌≡◌, drop}
use Rattle.p4_scope.specs.Paths.{behind}
use Rattle.p4_scope.proofs.scope.Scope.behind.Given as goal

abbrev pub invariant-loop-x : goal.invariant-loop-x
invariant-loop-x l = behind (l.f, l.k) (drop l.x-index l.names) l.self ≡ behind (l.fn.f, l.fn.k) l.names l.self
