use Rattle.std.proofs.Common.{◌≡◌, ◌+◌, ◌<◌, ◌++◌, length, drop, sym, ap, ◌∙◌, arith}
use Rattle.std.proofs.lemmas.Grind.{common_steps}
use Rattle.p4_tables.specs.Entries.{any_row, row_of, anything}
use Rattle.p4_tables.proofs.Rows.{any_row_more}
use Rattle.p4_tables.proofs.keyset.any_row.Goals as goal

pub loop-key-preserved : goal.loop-key-preserved
loop-key-preserved c =
    let ks = c.args.ks.now in
    let i = c.loop-key.key-index in
    let less : i < length ks = grind (arith, common_steps) in
    let grew : c.append_row.new.row ≡ c.loop-key.row ++ row_of anything = c.in_ok-append_row.ensures in
    ap (any_row (drop (i + 1) ks)) grew ∙ (sym (any_row_more ks i c.loop-key.row less) ∙ c.loop-key.invariant)
