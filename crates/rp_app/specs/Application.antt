-- What the protocol asks of an application, and the application that counts packets.
use Rattle.std.specs.Prelude.{ℕ, ◌+◌, ◌/◌, ◌%◌, ◌^◌, ◌<◌, ◌≤◌, ◌≡◌, Bool, true, ◌&&◌, ◌==◌, List, [], ◌∷◌, ◌++◌, Option, Some, None, if◌then◌else◌, nat_le, nat_lt, length, slice_index, set, replicate, map, All, fold}
use Rattle.rp_base.specs.declared.node.Packet.{Packet}
use Rattle.rp_base.specs.declared.node.Output.{Output}

-- the cells that a packet wrote, each with its last value
abbrev pub Delta : Type 0
Delta = List (ℕ × ℕ)

-- An application: how many cells a flow has, the flow of a packet, if it has one, by its key,
-- and what a packet makes of the cells of its flow: the cells that it wrote, and its output, if there is one.
pub record Application : Type 0 where
  pub cell_count : ℕ
  pub key_of : Packet → Option (List ℕ)
  pub plain : List ℕ → Packet → Delta × Option Output

-- the cells after a delta
abbrev pub written : List ℕ → Delta → List ℕ
written cells delta = fold (λ cs d. set cs d.0 d.1) cells delta

-- the cells after a packet
abbrev pub after_one : Application → List ℕ → Packet → List ℕ
after_one app cells p = written cells (app.plain cells p).0

-- the cells after packets, one after the other
abbrev pub after : Application → List ℕ → List Packet → List ℕ
after app cells ps = fold (after_one app) cells ps

-- n zeros
abbrev pub zeros : ℕ → List ℕ
zeros n = replicate n 0

-- the cells of a flow after all its packets: each cell is 0 at first
abbrev pub fold_from_zeros : Application → List Packet → List ℕ
fold_from_zeros app ps = after app (zeros app.cell_count) ps

-- ---- deltas

-- the cell numbers of a delta
abbrev pub cells_named : Delta → List ℕ
cells_named delta = map (λ d. d.0) delta

-- each number is above the one before it
abbrev pub rising : List ℕ → Bool
rising [] = true
rising (x ∷ []) = true
rising (x ∷ y ∷ ys) = nat_lt x y && rising (y ∷ ys)

-- rising cell numbers below 256, so at most 256 of them
pub record IsDelta (delta : Delta) : Type 0 where
  pub rises : rising (cells_named delta) ≡ true
  pub within : All (λ c. c < 256) (cells_named delta)
  pub short : length delta ≤ 256

-- the delta in which a cell has this value, in its place of the rising list
abbrev pub with_cell : Delta → ℕ → ℕ → Delta
with_cell [] cell v = (cell, v) ∷ []
with_cell (d ∷ ds) cell v =
    if d.0 == cell then (cell, v) ∷ ds else (if nat_lt cell d.0 then (cell, v) ∷ d ∷ ds else d ∷ with_cell ds cell v)

-- ---- what is promised of every application

-- an output has its packet's mark, at most 1,500 bytes, and a port of two bytes where the packet's is one
abbrev pub IsOutputOf : Packet → Option Output → Type 0
IsOutputOf p None = Unit {0}
IsOutputOf p (Some o) = (o.mark ≡ p.mark) × (length o.bytes ≤ 1500) × (p.port < 65536 → o.port < 65536)

-- What every application keeps to, for every packet and all lists of as many cells as its flows have:
-- a key has 1 to 16 bytes, a delta names cells that there are, an output is the packet's own,
-- and a packet without a key writes nothing and has one output whatever the cells are.
pub record IsApplication (app : Application) : Type 0 where
  pub keys : (p : Packet) (key : List ℕ) → app.key_of p ≡ Some key → (1 ≤ length key) × (length key ≤ 16)
  pub deltas : (cells : List ℕ) (p : Packet) → length cells ≡ app.cell_count → IsDelta (app.plain cells p).0
  pub cells : (cells : List ℕ) (p : Packet) → length cells ≡ app.cell_count → All (λ c. c < app.cell_count) (cells_named (app.plain cells p).0)
  pub outputs : (cells : List ℕ) (p : Packet) → length cells ≡ app.cell_count → IsOutputOf p (app.plain cells p).1
  pub keyless : (cells : List ℕ) (p : Packet) → length cells ≡ app.cell_count → app.key_of p ≡ None → (app.plain cells p).0 ≡ []
  pub blind : (cells others : List ℕ) (p : Packet) → length cells ≡ app.cell_count → length others ≡ app.cell_count → app.key_of p ≡ None → (app.plain cells p).1 ≡ (app.plain others p).1

-- ---- the application that counts packets

-- eight bytes, the highest first
abbrev pub big_endian : ℕ → List ℕ
big_endian n =
    n / 2 ^ 56 % 256 ∷ n / 2 ^ 48 % 256 ∷ n / 2 ^ 40 % 256 ∷ n / 2 ^ 32 % 256
    ∷ n / 2 ^ 24 % 256 ∷ n / 2 ^ 16 % 256 ∷ n / 2 ^ 8 % 256 ∷ n % 256 ∷ []

-- the count in front of the packet, on the packet's port; none past 1,500 bytes
abbrev pub counted : Packet → ℕ → Option Output
counted p count =
    let bytes = big_endian count ++ p.bytes in
    if nat_le (length bytes) 1500
    then Some (record { mark = p.mark; port = p.port; bytes = bytes })
    else None

-- a packet whose second byte is `?` only reads the count
abbrev pub reads_only : List ℕ → Bool
reads_only bytes = slice_index bytes 1 == 63

-- what a packet of these bytes makes of its flow's count: an empty one nothing, any but a reader the next count
abbrev pub counting_plain_of : ℕ → Packet → List ℕ → Delta × Option Output
counting_plain_of count p [] = ([], None)
counting_plain_of count p (b ∷ bs) =
    if reads_only (b ∷ bs)
    then ([], counted p count)
    else ((0, (count + 1) % 2 ^ 64) ∷ [], counted p ((count + 1) % 2 ^ 64))

-- a flow is the first byte
abbrev pub counting_key : List ℕ → Option (List ℕ)
counting_key [] = None
counting_key (b ∷ bs) = Some (b ∷ [])

-- the packets of each flow are counted in one cell
abbrev pub counting : Application
counting =
    record {
      cell_count = 1;
      key_of = λ p. counting_key p.bytes;
      plain = λ cells p. counting_plain_of (slice_index cells 0) p p.bytes;
    }
