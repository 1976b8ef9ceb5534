use Rattle.proto_safety.proofs.Legality.RunsAreLegal as legal
use Rattle.proto_safety.proofs.legal.runs_are_legal.Goals as goal

pub returns : goal.returns
returns c = legal.runs_are_legal
