use Rattle.proto_safety.proofs.Legality.RunsAreLegal as legal
use Rattle.proto_safety.proofs.linked.linked_runs_are_legal.Goals as goal

pub returns : goal.returns
returns c = legal.linked_runs_are_legal
