use Rattle.std.proofs.Common.{◌≡◌, ◌∙◌, ◌*◌, ◌-◌, ℕ, List, length, drop, refl, sym, ap, arith}
use Rattle.std.proofs.lemmas.List.{length-drop}
use Rattle.std.proofs.lemmas.Bool.{true≢false}
use Rattle.rp_bits.specs.Bits.{bits_of}
use Rattle.rp_bits.proofs.Bits.{length-bits}
use Rattle.rp_bits.proofs.reader.BitReader.whole_bytes.Goals as goal

pub returns-then-self-eq0-clause-none : goal.returns-then-self-eq0-clause-none
returns-then-self-eq0-clause-none c =
    let size : length (drop c.self.inside.used (bits_of c.self.inside.bytes.now)) ≡ 8 * length c.self.inside.bytes.now - c.self.inside.used = omega (arith, length-drop c.self.inside.used (bits_of c.self.inside.bytes.now), length-bits c.self.inside.bytes.now) in
    let here : length c.args.self.now ≡ 8 * length c.self.inside.bytes.now - c.self.inside.used = ap (λ (xs : List ℕ). length xs) (sym c.self.view_is) ∙ size in
    (λ e. absurd (true≢false e), λ lt. absurd (omega (arith, here, c.if-self-eq0.true, lt)))

pub returns-else-self-eq0-clause-none : goal.returns-else-self-eq0-clause-none
returns-else-self-eq0-clause-none c =
    let size : length (drop c.self.inside.used (bits_of c.self.inside.bytes.now)) ≡ 8 * length c.self.inside.bytes.now - c.self.inside.used = omega (arith, length-drop c.self.inside.used (bits_of c.self.inside.bytes.now), length-bits c.self.inside.bytes.now) in
    let here : length c.args.self.now ≡ 8 * length c.self.inside.bytes.now - c.self.inside.used = ap (λ (xs : List ℕ). length xs) (sym c.self.view_is) ∙ size in
    (λ e. omega (arith, here, c.if-self-eq0.false, c.self.invariant.few, c.self.invariant.there), λ lt. refl)
