-- The table of a replica's rows: for each message and each case the row that is taken, with all that is known there.
use Rattle.std.specs.Prelude.{ℕ, ◌+◌, ◌-◌, ◌≡◌, ◌≤◌, ◌<◌, List, Option, Some, None, true, false, Bool, ◌==◌, ◌&&◌, nat_le}
use Rattle.rp_base.specs.declared.node.Node.{Node}
use Rattle.proto_data.specs.declared.message.Body.{Body}
use Rattle.proto_data.specs.declared.message.Entry.{Entry}
use Rattle.proto_data.specs.declared.message.Echoed.{Echoed}
use Rattle.proto_data.specs.declared.message.Record.{Record}
use Rattle.proto_data.specs.declared.message.Carried.{Carried}
use Rattle.proto_data.specs.declared.message.Config.{Config}
use Rattle.rp_base.specs.declared.event.Lost.{Lost}
use Rattle.rp_app.specs.Application.{Delta}
use Rattle.key_table.specs.Table.{Key, get}
use Rattle.proto_model.specs.Records.{entry_fits, delta_within}
use Rattle.proto_model.specs.ReplicaState.{Replica, record_at, is_head, is_tail, Gathered, whole_cells, gathering_of, with_part}
use Rattle.proto_model.specs.ReplicaRows.{StoreRow, Loses, Answers, Echoes, Appends, Gathers, AppendsSnap, Commits, Adopts, switch_of, is_later, chunk_fits, carried_mark}

-- whether the record's owner is this Ask's
abbrev pub is_owner : Record → ℕ → ℕ → ℕ → Bool
is_owner r switch inc nonce = (r.switch == switch) && ((r.inc == inc) && (r.nonce == nonce))

-- whether the record covers this number
abbrev pub covers : Record → ℕ → ℕ → ℕ → Bool
covers r switch epoch number = (r.switch == switch) && ((r.epoch == epoch) && nat_le number r.last)

-- the Ask that a message stands for at the tail: an Echo of it, or itself where the head is the tail
pub data Asked (from : Node) : Body → ℕ → ℕ → ℕ → Key → Option Carried → Type 0 where
  itself : {inc nonce : ℕ} {key : Key} {load : Option Carried} → Asked from (Body.Ask inc nonce key load) (switch_of from) inc nonce key load
  echo : {switch inc nonce : ℕ} {key : Key} {load : Option Carried} → Asked from (Body.Echo (Echoed.Ask switch inc nonce key) load) switch inc nonce key load

-- likewise for a Put, or a Snap with its round as number
pub data WasPut (from : Node) : Body → ℕ → ℕ → ℕ → Key → Option Carried → Type 0 where
  itself_put :
      {inc epoch number : ℕ} {key : Key} {delta : Delta} {load : Option Carried} → WasPut from (Body.Put inc epoch number key delta load) (switch_of from) epoch number key load
  itself_snap :
      {inc epoch round chunk chunks : ℕ} {key : Key} {cells : List ℕ} → WasPut from (Body.Snap inc epoch round key chunk chunks cells) (switch_of from) epoch round key None
  echo_put : {switch epoch number : ℕ} {key : Key} {load : Option Carried} → WasPut from (Body.Echo (Echoed.Put switch epoch number key) load) switch epoch number key load

-- what is gathered of a round once this chunk of the right size came
pub record IsGathered (s : Replica) (epoch round : ℕ) (key : Key) (chunk chunks : ℕ) (cells : List ℕ) (g : Gathered) : Type 0 where
  pub fits : chunk_fits s.cell_count chunk chunks cells ≡ true
  pub is : g ≡ with_part (gathering_of epoch round chunks (get s.gathered key)) chunk cells

pub data Taken (s : Replica) (now : ℕ) (from : Node) : Body → StoreRow → Type 0 where
  lost : {body : Body} {cause : Lost} → Taken s now from body (Loses cause)
  -- Asks
  first_grant :
      {inc nonce : ℕ} {key : Key} {load : Option Carried} → is_head s ≡ true → record_at s key ≡ None →
      Taken s now from (Body.Ask inc nonce key load) (Appends (Entry.Grant key 1 (switch_of from) inc nonce) load)
  own_grant :
      {inc nonce : ℕ} {key : Key} {load : Option Carried} {r : Record} → is_head s ≡ true → record_at s key ≡ Some r → (r.switch == switch_of from) ≡ true →
      is_later inc nonce r.inc r.nonce ≡ true →
      Taken s now from (Body.Ask inc nonce key load) (Appends (Entry.Grant key (r.epoch + 1) (switch_of from) inc nonce) load)
  other_grant :
      {inc nonce : ℕ} {key : Key} {load : Option Carried} {r : Record} → is_head s ≡ true → record_at s key ≡ Some r → (r.switch == switch_of from) ≡ false →
      nat_le s.terms.t_store (now - r.moment) ≡ true →
      Taken s now from (Body.Ask inc nonce key load) (Appends (Entry.Grant key (r.epoch + 1) (switch_of from) inc nonce) load)
  busied : {inc nonce : ℕ} {key : Key} {load : Option Carried} → Taken s now from (Body.Ask inc nonce key load) (Answers from (Body.Busy inc nonce key (carried_mark load)))
  echoed_ask :
      {inc nonce : ℕ} {key : Key} {load : Option Carried} →
      Taken s now from (Body.Ask inc nonce key load) (Echoes (Echoed.Ask (switch_of from) inc nonce key) load)
  -- Puts and Snaps
  denied : {inc epoch number : ℕ} {key : Key} {delta : Delta} {load : Option Carried} → Taken s now from (Body.Put inc epoch number key delta load) (Answers from (Body.Deny inc epoch key))
  denied_snap :
      {inc epoch round chunk chunks : ℕ} {key : Key} {cells : List ℕ} → Taken s now from (Body.Snap inc epoch round key chunk chunks cells) (Answers from (Body.Deny inc epoch key))
  next_put :
      {inc epoch number : ℕ} {key : Key} {delta : Delta} {load : Option Carried} {r : Record} → is_head s ≡ true → record_at s key ≡ Some r → (r.epoch == epoch) ≡ true →
      (number == r.last + 1) ≡ true → delta_within s.cell_count delta ≡ true →
      Taken s now from (Body.Put inc epoch number key delta load) (Appends (Entry.Put key epoch number delta) load)
  echoed_put :
      {inc epoch number : ℕ} {key : Key} {delta : Delta} {load : Option Carried} →
      Taken s now from (Body.Put inc epoch number key delta load) (Echoes (Echoed.Put (switch_of from) epoch number key) load)
  echoed_snap :
      {inc epoch round chunk chunks : ℕ} {key : Key} {cells : List ℕ} →
      Taken s now from (Body.Snap inc epoch round key chunk chunks cells) (Echoes (Echoed.Put (switch_of from) epoch round key) None)
  gathered :
      {inc epoch round chunk chunks : ℕ} {key : Key} {cells : List ℕ} {g : Gathered} → IsGathered s epoch round key chunk chunks cells g →
      Taken s now from (Body.Snap inc epoch round key chunk chunks cells) (Gathers key g)
  next_snap :
      {inc epoch round chunk chunks : ℕ} {key : Key} {cells whole : List ℕ} {g : Gathered} {r : Record} → is_head s ≡ true → record_at s key ≡ Some r → (r.epoch == epoch) ≡ true →
      (round == r.last + 1) ≡ true → whole_cells g ≡ Some whole → IsGathered s epoch round key chunk chunks cells g →
      Taken s now from (Body.Snap inc epoch round key chunk chunks cells) (AppendsSnap key g (Entry.Snap key epoch round whole))
  -- what the tail answers, to an Echo or in its place
  granted_again :
      {body : Body} {switch inc nonce : ℕ} {key : Key} {load : Option Carried} {r : Record} → Asked from body switch inc nonce key load → record_at s key ≡ Some r → is_tail s ≡ true →
      is_owner r switch inc nonce ≡ true → Taken s now from body (Answers (Node.Switch switch) (Body.Grant inc nonce r.epoch key r.cells load))
  acked_again :
      {body : Body} {switch epoch : ℕ} {key : Key} {load : Option Carried} {r : Record} (number : ℕ) → WasPut from body switch epoch number key load → record_at s key ≡ Some r → is_tail s ≡ true →
      covers r switch epoch number ≡ true → Taken s now from body (Answers (Node.Switch switch) (Body.Ack r.inc epoch r.last key load))
  -- the chain
  had : {config index : ℕ} {entry : Entry} {load : Option Carried} → Taken s now from (Body.Forward config index entry load) (Answers from (Body.Have s.known))
  forwarded :
      {config index : ℕ} {entry : Entry} {load : Option Carried} → (config == s.config.number) ≡ true → (index == s.applied + 1) ≡ true → entry_fits s.cell_count s.records entry ≡ true →
      Taken s now from (Body.Forward config index entry load) (Appends entry load)
  committed : {index : ℕ} → s.known < index → index ≤ s.applied → Taken s now from (Body.Have index) (Commits index)
  adopted : {config : Config} → s.config.number < config.number → Taken s now from (Body.Config config) (Adopts config)
