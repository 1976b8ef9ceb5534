use Rattle.proto_safety.proofs.Serial.CellsStand as stand
use Rattle.proto_safety.proofs.cells.serial_lists_stay.Goals as goal

pub returns : goal.returns
returns c = stand.lists_stay
