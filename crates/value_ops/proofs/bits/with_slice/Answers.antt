use Rattle.std.proofs.Common.{◌∙◌}
use Rattle.value_ops.proofs.Wraps.{slice_is}
use Rattle.value_ops.proofs.bits.with_slice.Goals as goal

pub returns : goal.returns
returns c =
    c.cut-3.ensures
    ∙ slice_is c.args.old c.args.high c.args.low c.args.n c.saturating_sub.result c.cut.result c.cut-2.result c.requires.high c.requires.low c.saturating_sub.ensures c.cut.ensures c.cut-2.ensures
