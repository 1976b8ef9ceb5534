use Rattle.std.proofs.Common.{◌∙◌, ◌++◌, ◌+◌, ◌-◌, ℕ, List, ap, sym, arith, append-nil}
use Rattle.std.proofs.lemmas.List.{append_assoc}
use Rattle.rp_bits.specs.Bits.{digits}
use Rattle.app_data.specs.declared.value.Value.{Value}
use Rattle.app_meaning.specs.Packets.{field_bits}
use Rattle.tree_deparser.proofs.Digits.{fields_past, fields_more}
use Rattle.tree_deparser.proofs.field.put_fields.Goals as goal

pub loop-left-preserved : goal.loop-left-preserved
loop-left-preserved c =
    let more : List ℕ = field_bits (c.loop-left.left - 1) (c.loop-left.i + 1) c.args.values.now in
    ap (λ (xs : List ℕ). xs ++ more) c.in_ok-put_number.ensures
    ∙ append_assoc c.loop-left.out _ more
    ∙ ap (λ (xs : List ℕ). c.loop-left.out ++ xs) (ap (λ (v : Value). digits v.width v.number ++ more) c.value_in-v.ensures ∙ fields_more c.loop-left.left c.loop-left.i c.args.values.now (omega (arith, c.loop-left-test.true)))
    ∙ c.loop-left.invariant

pub returns-else-i-values : goal.returns-else-i-values
returns-else-i-values c =
    sym (append-nil c.loop-left.out)
    ∙ ap (λ (xs : List ℕ). c.loop-left.out ++ xs) (sym (fields_past c.loop-left.left c.loop-left.i c.args.values.now (omega (arith, c.if-i-values.false))))
    ∙ c.loop-left.invariant
