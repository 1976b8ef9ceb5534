use Rattle.std.proofs.Common.{◌≡◌, ◌∙◌, ap, subst, sym}
use Rattle.key_table.specs.Table.{put}
use Rattle.store_replica.specs.Gatherings.{AreGatherings, Gatherings, IsPart, gathered_with}
use Rattle.store_replica.proofs.Gathered.{after_is, all_kept, kept_there, told_long, with_new, with_there}
use Rattle.store_replica.proofs.gatherings.GatheringTable.keep.Goals as goal

pub invariant_of-self : goal.invariant_of-self
invariant_of-self c =
    let is : IsPart c.self.inside.cells c.args.part = subst (λ (g : Gatherings). IsPart g.cell_count c.args.part) (sym c.self.view_is) c.requires in (
      c.self.invariant.0,
      all_kept c.self.inside.cells c.self.inside.rows c.args.part is c.self.invariant.1 _
          (kept_there c.self.inside.cells c.self.inside.rows c.args.part is c.self.invariant.1 _ c.get_mut.result c.in-Some.gather c.take.new.self c.in-Some.is (c.get_mut.follows.holds _) c.in-Some.ensures.value c.take.ensures.kept),
    )

pub invariant_of-self-in_err-gather-in-None : goal.invariant_of-self-in_err-gather-in-None
invariant_of-self-in_err-gather-in-None c = (c.self.invariant.0, subst (AreGatherings c.self.inside.cells) (sym c.get_mut.follows.holds-at-none) c.self.invariant.1)

pub invariant_of-self-in_err-put-in-None : goal.invariant_of-self-in_err-put-in-None
invariant_of-self-in_err-put-in-None c =
    (c.self.invariant.0, subst (AreGatherings c.self.inside.cells) (sym (c.in_err-put-in-None.ensures.err ∙ c.get_mut.follows.holds-at-none)) c.self.invariant.1)

pub invariant_of-self-in-None : goal.invariant_of-self-in-None
invariant_of-self-in-None c =
    let is : IsPart c.self.inside.cells c.args.part = subst (λ (g : Gatherings). IsPart g.cell_count c.args.part) (sym c.self.view_is) c.requires in
    let new : c.take-got.new.self ≡ gathered_with c.self.inside.rows c.args.part =
    with_new c.self.inside.cells c.self.inside.rows c.args.part is c.self.invariant.1 c.in_ok-gather-in-None.gather c.take-got.new.self c.in-None.ensures.value c.in_ok-gather-in-None.ensures c.take-got.ensures.kept in (
      c.self.invariant.0,
      all_kept c.self.inside.cells c.self.inside.rows c.args.part is c.self.invariant.1 _
          (c.in_ok-put-in-None.ensures.ok
          ∙ ap (λ t. put t c.args.part.key c.take-got.new.self) c.get_mut.follows.holds-at-none
          ∙ ap (λ g. put c.self.inside.rows c.args.part.key g) new),
    )

pub returns-in-Some-clause-ok : goal.returns-in-Some-clause-ok
returns-in-Some-clause-ok c =
    let is : IsPart c.self.inside.cells c.args.part = subst (λ (g : Gatherings). IsPart g.cell_count c.args.part) (sym c.self.view_is) c.requires in
    after_is c.self.inside.cells c.self.inside.rows _ c.args.self.now c.args.part c.self.view_is
    (kept_there c.self.inside.cells c.self.inside.rows c.args.part is c.self.invariant.1 _ c.get_mut.result c.in-Some.gather c.take.new.self c.in-Some.is (c.get_mut.follows.holds _) c.in-Some.ensures.value c.take.ensures.kept)

pub returns-in-Some-clause-long : goal.returns-in-Some-clause-long
returns-in-Some-clause-long c =
    let is : IsPart c.self.inside.cells c.args.part = subst (λ (g : Gatherings). IsPart g.cell_count c.args.part) (sym c.self.view_is) c.requires in
    told_long c.self.inside.cells c.self.inside.rows c.args.part is c.self.invariant.1 c.take.new.self c.take.result c.args.self.now.cell_count
    (with_there c.self.inside.cells c.self.inside.rows c.args.part is c.self.invariant.1 c.in-Some.gather.now c.take.new.self c.in-Some.ensures.value c.take.ensures.kept)
    c.take.ensures.whole (ap (λ (g : Gatherings). g.cell_count) c.self.view_is)

pub returns-in_ok-put-in-None-clause-long : goal.returns-in_ok-put-in-None-clause-long
returns-in_ok-put-in-None-clause-long c =
    let is : IsPart c.self.inside.cells c.args.part = subst (λ (g : Gatherings). IsPart g.cell_count c.args.part) (sym c.self.view_is) c.requires in
    told_long c.self.inside.cells c.self.inside.rows c.args.part is c.self.invariant.1 c.take-got.new.self c.take-got.result c.args.self.now.cell_count
    (with_new c.self.inside.cells c.self.inside.rows c.args.part is c.self.invariant.1 c.in_ok-gather-in-None.gather c.take-got.new.self c.in-None.ensures.value c.in_ok-gather-in-None.ensures c.take-got.ensures.kept)
    c.take-got.ensures.whole (ap (λ (g : Gatherings). g.cell_count) c.self.view_is)
