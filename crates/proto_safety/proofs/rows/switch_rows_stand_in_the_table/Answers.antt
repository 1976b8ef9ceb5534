use Rattle.proto_safety.proofs.Nodes.SwitchTable.{row_taken}
use Rattle.proto_safety.proofs.rows.switch_rows_stand_in_the_table.Goals as goal

pub returns : goal.returns
returns c = row_taken
