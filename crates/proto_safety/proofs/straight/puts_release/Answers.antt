use Rattle.proto_safety.proofs.Paths.StraightPuts as puts
use Rattle.proto_safety.proofs.straight.puts_release.Goals as goal

pub returns : goal.returns
returns c = puts.puts_release
