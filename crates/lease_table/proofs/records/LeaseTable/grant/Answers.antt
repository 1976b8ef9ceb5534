use Rattle.std.proofs.Common.{◌≡◌, ℕ, length, refl, sym, ◌∙◌, ap, subst}
use Rattle.std.proofs.lemmas.List.{length-replicate}
use Rattle.lease_table.specs.Leases.{HaveCells}
use Rattle.lease_table.proofs.Cells.{cells-put, cells-written, on_some, is_granted}
use Rattle.lease_table.proofs.records.LeaseTable.grant.Goals as goal

pub invariant_of-self : goal.invariant_of-self
invariant_of-self c =
    cells-written c.self.inside.cells c.self.inside.rows _ c.args.key.now c.get_mut.result c.in-Some.record _ c.in-Some.is (c.get_mut.follows.holds _) c.in-Some.ensures.value c.self.invariant refl

pub invariant_of-self-in_ok-put-in-None-2 : goal.invariant_of-self-in_ok-put-in-None-2
invariant_of-self-in_ok-put-in-None-2 c =
    let long : length c.in_ok-zeros-in-None.field-0 ≡ c.self.inside.cells = ap length c.in_ok-zeros-in-None.ensures ∙ length-replicate {A = ℕ} c.self.inside.cells 0 in
    subst (HaveCells c.self.inside.cells) (sym c.in_ok-put-in-None.ensures.ok)
    (cells-put c.self.inside.cells c.get_mut.follows.lender-at-none c.args.key.now _ (subst (HaveCells c.self.inside.cells) (sym (c.get_mut.follows.holds-at-none)) c.self.invariant) long)

pub returns-in-Some-clause-ok : goal.returns-in-Some-clause-ok
returns-in-Some-clause-ok c =
    is_granted c.self.inside.cells c.self.inside.rows _ c.args.self.now c.args.key.now c.in-Some.record.now c.self.view_is c.in-Some.ensures.value c.args.epoch c.args.switch c.args.inc c.args.nonce c.args.now
    (on_some c.get_mut.result c.in-Some.record c.in-Some.is (c.get_mut.follows.holds _))
