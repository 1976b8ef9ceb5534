use Rattle.proto_safety.proofs.Paths.StraightAsks as asks
use Rattle.proto_safety.proofs.straight.asks_are_answered.Goals as goal

pub returns : goal.returns
returns c = asks.asks_answered
