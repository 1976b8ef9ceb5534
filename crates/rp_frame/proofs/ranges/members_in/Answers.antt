use Rattle.std.proofs.Common.{ℕ, ◌^◌, take, get_or, ◌∙◌}
use Rattle.std.specs.List.{list_all}
use Rattle.std.proofs.lemmas.Bool.{lt-ltb, and_from}
use Rattle.std.proofs.lemmas.List.Folds.{list_all_more}
use Rattle.std.specs.Prelude.{nat_lt}
use Rattle.rp_frame.proofs.ranges.members_in.Goals as goal

pub loop-pair-preserved : goal.loop-pair-preserved
loop-pair-preserved c =
    list_all_more (λ (d : ℕ × ℕ). nat_lt d.1 (2 ^ 64)) c.args.pairs.now c.loop-pair.pair-index (0, 0) c.loop-pair-test.true
    ∙ and_from (list_all (λ (d : ℕ × ℕ). nat_lt d.1 (2 ^ 64)) (take c.loop-pair.pair-index c.args.pairs.now)) (nat_lt (get_or c.args.pairs.now c.loop-pair.pair-index (0, 0)).1 (2 ^ 64))
    c.loop-pair.invariant (lt-ltb (get_or c.args.pairs.now c.loop-pair.pair-index (0, 0)).1 (2 ^ 64) c.value_in.ensures)
