use Rattle.std.proofs.Common.{ap, length, ◌∙◌}
use Rattle.rp_app.proofs.Deltas.{length-written}
use Rattle.lease_table.proofs.Cells.{cells-written, on_some, is_put}
use Rattle.lease_table.proofs.records.LeaseTable.put.Goals as goal

pub invariant_of-self-2 : goal.invariant_of-self-2
invariant_of-self-2 c =
    cells-written c.self.inside.cells c.self.inside.rows _ c.args.key.now c.get_mut.result c.in-Some.record _ c.in-Some.is (c.get_mut.follows.holds _) c.in-Some.ensures.value c.self.invariant
    (ap length c.write.ensures ∙ length-written c.in-Some.record.now.cells c.args.delta.now)

pub returns : goal.returns
returns c =
    is_put c.self.inside.cells c.self.inside.rows _ c.args.self.now c.args.key.now c.in-Some.record.now c.self.view_is c.in-Some.ensures.value c.args.number c.args.delta.now c.args.now c.write.new.cells c.write.ensures
    (on_some c.get_mut.result c.in-Some.record c.in-Some.is (c.get_mut.follows.holds _))
