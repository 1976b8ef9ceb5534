use Rattle.std.proofs.Common.{◌∙◌, ◌++◌, min, ℕ, List, ap}
use Rattle.std.proofs.lemmas.List.{append_assoc}
use Rattle.rp_bits.specs.Bits.{digits}
use Rattle.tree_deparser.proofs.Digits.{digits_wide}
use Rattle.tree_deparser.proofs.field.put_number.Goals as goal

pub returns : goal.returns
returns c =
    c.in_ok-put_lowest.ensures
    ∙ ap (λ (k : ℕ). c.put_above.new.out ++ digits k c.args.n) c.min.ensures
    ∙ ap (λ (xs : List ℕ). xs ++ digits (min c.args.width 128) c.args.n) c.in_ok-put_above.ensures
    ∙ append_assoc c.args.out.now _ _
    ∙ ap (λ (xs : List ℕ). c.args.out.now ++ xs) (digits_wide c.args.width c.args.n c.ranges.n.fits)
