use Rattle.std.proofs.Common.{◌≡◌, length, ap, sym, ◌∙◌}
use Rattle.lease_table.specs.Leases.{Leases}
use Rattle.lease_table.proofs.Cells.{cells-written, on_some, is_snapped}
use Rattle.lease_table.proofs.records.LeaseTable.snap.Goals as goal

pub invariant_of-self-2 : goal.invariant_of-self-2
invariant_of-self-2 c =
    let long : length c.in_ok-cells.cells ≡ c.self.inside.cells = ap length c.in_ok-cells.ensures ∙ c.requires ∙ ap (λ (s : Leases). s.cell_count) (sym c.self.view_is) in
    cells-written c.self.inside.cells c.self.inside.rows _ c.args.key.now c.get_mut.result c.in-Some.record _ c.in-Some.is (c.get_mut.follows.holds _) c.in-Some.ensures.value c.self.invariant
    (long ∙ sym (c.self.invariant c.args.key.now c.in-Some.record.now (sym c.in-Some.ensures.value)))

pub returns-clause-ok : goal.returns-clause-ok
returns-clause-ok c =
    is_snapped c.self.inside.cells c.self.inside.rows _ c.args.self.now c.args.key.now c.in-Some.record.now c.self.view_is c.in-Some.ensures.value c.args.round c.args.cells.now c.args.now c.in_ok-cells.cells c.in_ok-cells.ensures
    (on_some c.get_mut.result c.in-Some.record c.in-Some.is (c.get_mut.follows.holds _))
