use Rattle.proto_safety.proofs.Time.Clocks.{aged_later}
use Rattle.proto_safety.proofs.first_facts.clocks_keep_the_ratio.Goals as goal

pub returns : goal.returns
returns c = λ app i j a b events w h. aged_later app i a j b events w h
