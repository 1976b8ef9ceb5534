-- The counting application over more flows: a flow is a packet's first four bytes, or all of them where there are fewer.
use Rattle.std.proofs.Common.{◌≡◌, ℕ, ◌≤◌, List, [], ◌∷◌, length, length-take, take, Option, Some, None, sym, subst, ap, ◌∙◌, arith, ◌⊎◌}
use Rattle.std.proofs.lemmas.Option.{none-some}
use Rattle.rp_base.specs.declared.node.Packet.{Packet}
use Rattle.rp_base.specs.declared.node.Output.{Output}
use Rattle.rp_app.specs.Application.{Application, Delta, IsApplication, counting, counting_key, counting_plain_of}
use Rattle.rp_app.specs.Counting.{counting_promised}

-- the key of these bytes: an empty packet has none
abbrev pub wide_key : List ℕ → Option (List ℕ)
wide_key [] = None
wide_key (b ∷ bs) = Some (take 4 (b ∷ bs))

-- packets are counted by their wide keys
abbrev pub counting_wide : Application
counting_wide =
    record {
      cell_count = counting.cell_count;
      key_of = λ p. wide_key p.bytes;
      plain = counting.plain;
    }

-- a key, if there is one, has 1 to 16 bytes
abbrev IsShort : Option (List ℕ) → Type 0
IsShort None = Unit {0}
IsShort (Some key) = (1 ≤ length key) × (length key ≤ 16)

-- a key has 1 to 4 bytes
key_short : (bytes key : List ℕ) → wide_key bytes ≡ Some key → (1 ≤ length key) × (length key ≤ 16)
key_short [] key e = absurd (none-some key e)
key_short (b ∷ bs) key e = subst IsShort e (omega (arith, length-take 4 (b ∷ bs)), omega (arith, length-take 4 (b ∷ bs)))

-- a packet without a wide key is empty: it has none of the narrow ones
key_none : (bytes : List ℕ) → wide_key bytes ≡ None → counting_key bytes ≡ None
key_none [] e = e
key_none (b ∷ bs) e = absurd (none-some _ (sym e))

-- what is promised of every application holds of it
pub wide_promised : IsApplication counting_wide
wide_promised = record {
  keys = λ p key e. key_short p.bytes key e;
  deltas = λ cells p h. counting_promised.deltas cells p h;
  cells = λ cells p h. counting_promised.cells cells p h;
  outputs = λ cells p h. counting_promised.outputs cells p h;
  keyless = λ cells p h e. counting_promised.keyless cells p h (key_none p.bytes e);
  blind = λ cells others p h k e. counting_promised.blind cells others p h k (key_none p.bytes e);
}
