use Rattle.std.proofs.Common.{◌≡◌, rules}
use Rattle.app_meaning.specs.Programs.{control_scope}
use Rattle.tree_eval.specs.Seen.{seen}
use Rattle.tree_app.proofs.Fits.{control_fits}
use Rattle.tree_app.proofs.run.control_of.Goals as goal

-- src/run.rt:30:1
pub returns-clause-fit : goal.returns-clause-fit
returns-clause-fit c =
    let same : seen c.control.result ≡ control_scope c.args.p.now c.args.n = search rules in
    control_fits c.args.p.now c.args.n (seen c.control.result) same c.requires.few c.requires.all
