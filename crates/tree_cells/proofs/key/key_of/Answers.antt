use Rattle.std.proofs.Common.{◌≡◌, ◌∙◌, ℕ, ap, min, max, ◌+◌, ◌/◌}
use Rattle.tree_cells.proofs.Cells.{key_found}
use Rattle.tree_cells.proofs.key.key_of.Goals as goal

pub returns : goal.returns
returns c =
    let most : c.min-len.result ≡ min (max ((c.args.v.width + 7) / 8) 1) 16 = c.min-len.ensures ∙ ap (λ (n : ℕ). min n 16) c.max.ensures in
    key_found c.args.v c.min-len.result c.to_be_bytes-bytes.result c.split_at.result.1.now c.of.result most c.to_be_bytes-bytes.ensures c.split_at.ensures.back c.of.ensures.none c.of.ensures.value
