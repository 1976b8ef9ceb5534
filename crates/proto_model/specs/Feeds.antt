-- What was fed, by its mark.
use Rattle.std.specs.Prelude.{ℕ, ◌==◌, List, [], ◌∷◌, Option, find, option_map, option_and_then, filter_map}
-- each element of a list meets a predicate
pub use Rattle.std.specs.List.{AllByRecursion as Each}
use Rattle.rp_base.specs.declared.node.Packet.{Packet}
use Rattle.key_table.specs.Table.{Key}
use Rattle.rp_app.specs.Application.{Application}
use Rattle.rp_base.specs.declared.legality.Fed.{Fed}

-- the packet that was fed at a mark
abbrev pub fed_at : List Fed → ℕ → Option Fed
fed_at fed mark = find (λ (f : Fed). f.packet.mark == mark) fed

abbrev pub packet_at : List Fed → ℕ → Option Packet
packet_at fed mark = option_map (λ (f : Fed). f.packet) (fed_at fed mark)

-- the key of a mark; one that wasn't fed has none
abbrev pub key_at : Application → List Fed → ℕ → Option Key
key_at app fed mark = option_and_then app.key_of (packet_at fed mark)

-- the packets of marks
abbrev pub packets_at : List Fed → List ℕ → List Packet
packets_at fed marks = filter_map (packet_at fed) marks

-- R holds for each two elements, the one that stands first coming first
abbrev pub Pairwise : {A : Type 0} → (A → A → Type 0) → List A → Type 0
Pairwise R [] = Unit {0}
Pairwise R (x ∷ xs) = Each (R x) xs × Pairwise R xs
