-- What a switch's messages say of the switch that sends them, as its step leaves it.
use Rattle.std.specs.Prelude.{ℕ, ◌≡◌, List, Some, length}
use Rattle.proto_data.specs.declared.message.Msg.{Msg}
use Rattle.proto_data.specs.declared.message.Body.{Body}
use Rattle.rp_base.specs.declared.node.Node.{Node}
use Rattle.rp_app.specs.Application.{Delta}
use Rattle.key_table.specs.Table.{Key}
use Rattle.proto_model.specs.Slot.{Slot, Round, Asking, epoch_of, chunk_count, chunk_of}
use Rattle.proto_model.specs.SwitchState.{Switch, Copy, slot_at}
use Rattle.proto_safety.specs.Books.{In}

-- an Ask is of this incarnation, and has the nonce of its slot
pub record AsksNow (s : Switch) (inc nonce : ℕ) (key : Key) : Type 0 where
  pub here : inc ≡ s.inc
  pub slot : Slot
  pub found : slot_at s key ≡ Some slot
  pub first : ℕ
  pub asking : slot.lease ≡ Asking nonce first

-- a Put is of this incarnation and of its slot's epoch, and a copy has its number and delta
pub record PutsNow (s : Switch) (inc epoch number : ℕ) (key : Key) (delta : Delta) : Type 0 where
  pub here : inc ≡ s.inc
  pub slot : Slot
  pub found : slot_at s key ≡ Some slot
  pub leased : epoch_of slot.lease ≡ Some epoch
  pub copy : Copy
  pub there : In s.copies copy
  pub key_is : copy.key ≡ key
  pub number_is : copy.number ≡ number
  pub delta_is : copy.delta ≡ delta

-- a Snap is of this incarnation and of its slot's epoch, and is a chunk of the slot's running round
pub record SnapsNow (s : Switch) (inc epoch round : ℕ) (key : Key) (chunk chunks : ℕ) (cells : List ℕ) : Type 0 where
  pub here : inc ≡ s.inc
  pub slot : Slot
  pub found : slot_at s key ≡ Some slot
  pub leased : epoch_of slot.lease ≡ Some epoch
  pub running : Round
  pub round_is : slot.round ≡ Some running
  pub number_is : running.number ≡ round
  pub chunks_are : chunks ≡ chunk_count (length running.cells)
  pub cells_are : cells ≡ chunk_of chunk running.cells

abbrev pub SaysNow : Switch → Body → Type 0
SaysNow s (Body.Ask inc nonce key load) = AsksNow s inc nonce key
SaysNow s (Body.Put inc epoch number key delta load) = PutsNow s inc epoch number key delta
SaysNow s (Body.Snap inc epoch round key chunk chunks cells) = SnapsNow s inc epoch round key chunk chunks cells
SaysNow s _ = ⊥

-- the message is this switch's, and is a request that says this
abbrev pub SentNow : Switch → Msg → Type 0
SentNow s m = (m.from ≡ Node.Switch s.me) × SaysNow s m.body
