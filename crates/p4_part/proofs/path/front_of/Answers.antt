use Rattle.p4_part.proofs.Paths.{front_popped, popped_front}
use Rattle.p4_part.proofs.path.front_of.Goals as goal

pub returns-clause-front : goal.returns-clause-front
returns-clause-front c = popped_front c.pop.result c.args.names c.pop.new.self c.pop.ensures

pub returns-clause-called : goal.returns-clause-called
returns-clause-called c = front_popped c.pop.result c.args.names c.pop.new.self c.pop.ensures
