use Rattle.std.proofs.Common.{◌∙◌, ◌++◌, ℕ, List, ap}
use Rattle.rp_bits.specs.Bits.{digits, bits_of}
use Rattle.rp_bits.proofs.Bits.{bits-append, no_part}
use Rattle.rp_bits.proofs.writer.BitWriter.put_bytes.Goals as goal

pub returns-then-self-eq0 : goal.returns-then-self-eq0
returns-then-self-eq0 c =
    let used : ℕ = c.self.inside.used in
    let part : ℕ = c.self.inside.part in
    ap (λ (xs : List ℕ). bits_of xs ++ digits used part) c.in_ok-append.ensures.ok
    ∙ ap (λ (xs : List ℕ). xs ++ digits used part) (bits-append c.self.inside.bytes c.args.bytes.now)
    ∙ no_part used part (bits_of c.self.inside.bytes) (bits_of c.args.bytes.now) c.if-self-eq0.true
    ∙ ap (λ (xs : List ℕ). xs ++ bits_of c.args.bytes.now) c.self.view_is
