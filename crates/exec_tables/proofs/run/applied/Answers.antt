use Rattle.std.proofs.Common.{◌≡◌, sym, subst, length}
use Rattle.exec_tables.specs.declared.local.Table.{Table}
use Rattle.exec_tables.specs.Ready.{IsReady}
use Rattle.exec_tables.proofs.run.applied.Goals as goal

pub run_table-requires : goal.run_table-requires
run_table-requires c =
    let own = subst IsReady c.in-Table.is c.requires in
    subst (λ (t : Table). length t.keys ≡ length t.rows.keys) (sym c.get.ensures) own
