use Rattle.proto_safety.proofs.Inductions.Induction.{run_kept}
use Rattle.proto_safety.proofs.changes.kept_facts_hold.Goals as goal

pub returns : goal.returns
returns g c = λ app k events w h. run_kept app g.I.Fact.holds k events w h
