use Rattle.proto_model.specs.World.{opened}
use Rattle.proto_model.specs.WorldStep.{world_after}
use Rattle.proto_safety.proofs.Messages.WorldNonces.{all_nonces, greatest_ask}
use Rattle.proto_safety.proofs.requests.slots_have_the_greatest_ask.Goals as goal

pub returns : goal.returns
returns c = λ app setup events n inc nonce k key node at slot ask. greatest_ask (world_after app (opened app.cell_count setup) events) n inc nonce k key node (all_nonces app setup events) at slot ask
