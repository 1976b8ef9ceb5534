use Rattle.std.proofs.Common.{◌∙◌, ℕ, Some, ap}
use Rattle.app_data.specs.declared.value.Value.{Value}
use Rattle.tree_parser.specs.Parsed.{next_bits}
use Rattle.tree_parser.proofs.Taken.{field_taken}
use Rattle.tree_parser.proofs.field.field.Goals as goal

pub returns : goal.returns
returns c =
    ap (λ (v : Value). Some (v, c.next_bits-2.new.left)) c.cut.ensures
    ∙ field_taken c.args.width c.args.left.now c.next_bits.new.left c.next_bits-2.new.left c.next_bits.result c.next_bits-2.result c.in_ok-next_bits.field-0 c.in_ok-n.n
    c.in_ok-next_bits.was
    (c.next_bits.ensures ∙ ap (λ (w : ℕ). next_bits w c.args.left.now) c.saturating_sub.ensures)
    c.in_ok-n.was
    (c.next_bits-2.ensures ∙ ap (λ (w : ℕ). next_bits w c.next_bits.new.left) c.min.ensures)
