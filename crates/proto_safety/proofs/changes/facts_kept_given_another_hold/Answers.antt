use Rattle.proto_safety.proofs.Inductions.Induction.{run_kept, keeps_both}
use Rattle.proto_safety.proofs.changes.facts_kept_given_another_hold.Goals as goal

pub returns : goal.returns
returns g c = λ app k j events w h i. run_kept app (λ x. g.I.Fact.holds x × g.J.Fact.holds x) (keeps_both app g.I.Fact.holds g.J.Fact.holds k j) events w (h, i)
