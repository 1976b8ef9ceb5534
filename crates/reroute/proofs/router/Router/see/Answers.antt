use Rattle.std.proofs.Common.{arith, ◌≡◌, ◌==◌, not, filter, true, length, ap}
use Rattle.std.proofs.lemmas.Grind.{common_steps}
use Rattle.std.specs.List.{list_any}
use Rattle.reroute.proofs.Lists.{fewer}
use Rattle.reroute.proofs.router.Router.see.Goals as goal

pub invariant_of-self-then-not-runs : goal.invariant_of-self-then-not-runs
invariant_of-self-then-not-runs c =
    let there : list_any (λ m. m == c.in-Replica.n) c.self.inside.config.chain ≡ true = grind (arith, common_steps, c.requires, c.in-Replica.is, c.if-not-runs.true, c.self.view_is) in
    let shorter = fewer c.in-Replica.n c.self.inside.config.chain there in
    let is : c.without.result ≡ filter (λ m. not (m == c.in-Replica.n)) c.self.inside.config.chain = grind (arith, common_steps) in
    record {
      counts = omega (arith, shorter, c.self.invariant.counts, ap length is);
      few = c.self.invariant.few;
    }
