use Rattle.std.proofs.Common.{◌≡◌, ◌∙◌, ◌++◌, ℕ, List, ap}
use Rattle.rp_bits.specs.Bits.{digits}
use Rattle.rp_bits.proofs.Bits.{put_is}
use Rattle.rp_bits.proofs.writer.BitWriter.put.Goals as goal

pub returns-clause-ok : goal.returns-clause-ok
returns-clause-ok c =
    let more : c.append.new.self ≡ c.self.inside.bytes ++ c.joined-whole.result.0.items = c.in_ok-append.ensures.ok ∙ ap (λ (xs : List ℕ). c.self.inside.bytes ++ xs) c.as_slice.ensures.value in
    put_is c.self.inside.bytes c.joined-whole.result.0.items c.append.new.self c.self.inside.used c.self.inside.part c.joined-whole.result.2 c.joined-whole.result.1 c.args.w c.args.v more c.joined-whole.ensures.bits
    ∙ ap (λ (xs : List ℕ). xs ++ digits c.args.w c.args.v) c.self.view_is
