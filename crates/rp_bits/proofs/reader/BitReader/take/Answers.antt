use Rattle.std.proofs.Common.{◌≡◌, ◌≤◌, ◌∙◌, ◌*◌, ◌-◌, ◌+◌, ◌%◌, ℕ, List, Ok, length, drop, sym, ap, arith}
use Rattle.std.proofs.lemmas.List.{length-drop}
use Rattle.rp_bits.specs.Bits.{bits_of, taken}
use Rattle.rp_bits.proofs.Bits.{length-bits, short_is, enough_is, moved}
use Rattle.rp_bits.proofs.reader.BitReader.take.Goals as goal
use Rattle.rp_bits.proofs.reader.BitReader.take.Goals.{then-self-lt17+else-left-w, else-self-lt17}

pub returns-then-left-w-clause-taken : goal.returns-then-left-w-clause-taken
returns-then-left-w-clause-taken c =
    let size : length (drop c.self.inside.used (bits_of c.self.inside.bytes.now)) ≡ length c.self.inside.bytes.now * 8 - c.self.inside.used = omega (arith, length-drop c.self.inside.used (bits_of c.self.inside.bytes.now), length-bits c.self.inside.bytes.now) in
    let here : length c.args.self.now ≡ length c.self.inside.bytes.now * 8 - c.self.inside.used = ap (λ (xs : List ℕ). length xs) (sym c.self.view_is) ∙ size in
    sym (short_is c.args.w c.args.self.now _ here c.if-left-w.true)

pub returns-clause-taken : goal.returns-clause-taken
returns-clause-taken c =
    let bits : List ℕ = drop c.self.inside.used (bits_of c.self.inside.bytes.now) in
    let bytes : List ℕ = c.self.inside.bytes.now in
    let end : ℕ = c.self.inside.used + c.args.w in
    let size : length bits ≡ 8 * length bytes - c.self.inside.used = omega (arith, length-drop c.self.inside.used (bits_of bytes), length-bits bytes) in
    let enough : c.args.w ≤ length bits = elim c.if-self-lt17.branch [
      | then-self-lt17+else-left-w h ↦ omega (arith, size, h.if-left-w.false, c.self.invariant.there)
      | else-self-lt17 h ↦ omega (arith, size, h.if-self-lt17.false, c.self.invariant.few, c.requires.fits)
    ] in
    let rest : drop (end % 8) (bits_of c.split_at.result.1.now) ≡ drop c.args.w bits = ap (λ (xs : List ℕ). drop (end % 8) (bits_of xs)) c.split_at.ensures.back ∙ moved bytes c.self.inside.used c.args.w in
    ap (λ (xs : List ℕ). (xs, Ok c.number_at-n.result)) rest
    ∙ ap (λ (n : ℕ). (drop c.args.w bits, Ok n)) c.number_at-n.ensures.value
    ∙ sym (enough_is c.args.w bits enough)
    ∙ ap (taken c.args.w) c.self.view_is
