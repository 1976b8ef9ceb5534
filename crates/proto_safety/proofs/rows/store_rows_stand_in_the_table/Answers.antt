use Rattle.std.proofs.Common.{refl}
use Rattle.proto_safety.proofs.Nodes.StoreTable.{message_taken}
use Rattle.proto_safety.proofs.rows.store_rows_stand_in_the_table.Goals as goal

pub returns : goal.returns
returns c = record { messages = λ s now m. message_taken s now m.from m.body; packets = λ s now p. refl; alarms = λ s now. refl }
