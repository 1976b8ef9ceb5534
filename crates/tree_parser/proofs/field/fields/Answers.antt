use Rattle.std.proofs.Common.{◌≡◌, ◌∙◌, ◌+◌, ◌-◌, List, Option, Some, sym, ap, arith}
use Rattle.app_data.specs.declared.value.Value.{Value}
use Rattle.app_meaning.specs.Slots.{value_in}
use Rattle.tree_parser.specs.Parsed.{field, taken_field, fields}
use Rattle.tree_parser.proofs.Fields.{fields_more}
use Rattle.tree_parser.proofs.field.fields.Goals as goal

pub loop-more-preserved : goal.loop-more-preserved
loop-more-preserved c =
    let is : Some (c.in-Some.v, c.field.new.left) ≡ field (value_in c.loop-more.values c.loop-more.i).width c.loop-more.left =
    ap (λ (o : Option Value). taken_field o c.field.new.left) (sym c.in-Some.is)
    ∙ c.field.ensures
    ∙ ap (λ (v : Value). field v.width c.loop-more.left) (c.value_in-width.ensures ∙ ap (λ (vs : List Value). value_in vs c.loop-more.i) c.as_slice.ensures) in
    ap (λ (vs : List Value). fields (c.loop-more.more - 1) (c.loop-more.i + 1) (record { values = vs; left = c.field.new.left })) c.set.ensures
    ∙ fields_more c.loop-more.more c.loop-more.i c.loop-more.values c.loop-more.left c.in-Some.v c.field.new.left (omega (arith, c.loop-more-test.true)) is
    ∙ c.loop-more.invariant
