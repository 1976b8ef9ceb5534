use Rattle.std.proofs.Common.{◌∙◌, ◌<◌, ℕ, List, get_or, sym, ap, subst}
use Rattle.rp_bits.specs.Bits.{bytes_of}
use Rattle.rp_bits.proofs.Bits.{bytes-again}
use Rattle.rp_bits.proofs.writer.BitWriter.finish.Goals as goal

pub returns : goal.returns
returns c =
    let fit : (i : ℕ) → get_or c.self.inside.bytes i 0 < 256 = λ i. subst (λ (xs : List ℕ). get_or xs i 0 < 256) c.as_slice.ensures (c.fit.ensures i) in
    sym (bytes-again c.self.inside.bytes c.self.inside.used c.self.inside.part c.self.invariant.few fit) ∙ ap bytes_of c.self.view_is
