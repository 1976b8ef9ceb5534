use Rattle.proto_safety.proofs.Serial.CellsStand as stand
use Rattle.proto_safety.proofs.cells.cells_stand.Goals as goal

pub returns : goal.returns
returns c = stand.cells_stand
