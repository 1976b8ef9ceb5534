-- The counting application keeps what is promised of every application.
use Rattle.std.proofs.Common.{◌≡◌, ℕ, ◌≤◌, ◌<◌, List, [], ◌∷◌, ◌++◌, length, Option, Some, None, refl, sym, ap, ◌∙◌, subst, All, leb, lit<, lit≤}
use Rattle.std.proofs.lemmas.Option.{none-some}
use Rattle.std.proofs.lemmas.Bool.{leb-true, cond_both}
use Rattle.std.proofs.lemmas.List.Elements.{All-nil, All-cons}
use Rattle.rp_base.specs.declared.node.Packet.{Packet}
use Rattle.rp_base.specs.declared.node.Output.{Output}
use Rattle.rp_app.specs.Application.{Delta, IsApplication, IsDelta, IsOutputOf, cells_named, counting, counting_key, counting_plain_of, counted, big_endian, reads_only}

-- a key, if there is one, has 1 to 16 bytes
abbrev IsShort : Option (List ℕ) → Type 0
IsShort None = Unit {0}
IsShort (Some key) = (1 ≤ length key) × (length key ≤ 16)

-- a key is one byte
key_short : (bytes key : List ℕ) → counting_key bytes ≡ Some key → (1 ≤ length key) × (length key ≤ 16)
key_short [] key e = absurd (none-some key e)
key_short (b ∷ bs) key e = subst IsShort e (lit≤ tt, lit≤ tt)

-- the count in front of a packet is its output
counted_is : (p : Packet) (n : ℕ) → IsOutputOf p (counted p n)
counted_is p n = cond_both (leb (length (big_endian n ++ p.bytes)) 1500) _ None (IsOutputOf p) (λ e. (refl, leb-true _ _ e, λ h. h)) (λ e. tt)

-- a delta with no cell but 0
abbrev OnlyFirst : Delta → Type 0
OnlyFirst delta = IsDelta delta × All (λ c. c < 1) (cells_named delta)

-- no cell is written
no_cell : OnlyFirst []
no_cell = (record { rises = refl; within = All-nil (λ (c : ℕ). c < 256); short = lit≤ tt }, All-nil (λ (c : ℕ). c < 1))

-- the one cell is written
one_cell : (n : ℕ) → OnlyFirst ((0, n) ∷ [])
one_cell n = (
  record { rises = refl; within = All-cons (λ (c : ℕ). c < 256) 0 [] (lit< tt) (All-nil (λ (c : ℕ). c < 256)); short = lit≤ tt },
  All-cons (λ (c : ℕ). c < 1) 0 [] (lit< tt) (All-nil (λ (c : ℕ). c < 1)),
)

-- every packet writes no cell or the one
delta_is : (count : ℕ) (p : Packet) (bytes : List ℕ) → OnlyFirst (counting_plain_of count p bytes).0
delta_is count p [] = no_cell
delta_is count p (b ∷ bs) = cond_both (reads_only (b ∷ bs)) _ _ (λ (r : Delta × Option Output). OnlyFirst r.0) (λ _. no_cell) (λ _. one_cell _)

-- every output is a count in front of its packet
output_is : (count : ℕ) (p : Packet) (bytes : List ℕ) → IsOutputOf p (counting_plain_of count p bytes).1
output_is count p [] = tt
output_is count p (b ∷ bs) = cond_both (reads_only (b ∷ bs)) _ _ (λ (r : Delta × Option Output). IsOutputOf p r.1) (λ _. counted_is p count) (λ _. counted_is p _)

-- a packet without a key is empty, writes nothing and has no output
keyless_is : (count : ℕ) (p : Packet) (bytes : List ℕ) → counting_key bytes ≡ None → counting_plain_of count p bytes ≡ ([], None)
keyless_is count p [] e = refl
keyless_is count p (b ∷ bs) e = absurd (none-some _ (sym e))

-- what is promised of every application holds of it
pub counting_promised : IsApplication counting
counting_promised = record {
  keys = λ p key e. key_short p.bytes key e;
  deltas = λ cells p h. (delta_is _ p p.bytes).0;
  cells = λ cells p h. (delta_is _ p p.bytes).1;
  outputs = λ cells p h. output_is _ p p.bytes;
  keyless = λ cells p h e. ap (λ (r : Delta × Option Output). r.0) (keyless_is _ p p.bytes e);
  blind = λ cells others p h k e. ap (λ (r : Delta × Option Output). r.1) (keyless_is _ p p.bytes e ∙ sym (keyless_is _ p p.bytes e));
}
