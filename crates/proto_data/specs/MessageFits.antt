-- Which messages have a spelling. Bytes, cells and values are within their fields by their types.
use Rattle.std.specs.Prelude.{ℕ, ◌^◌, Bool, true, false, ◌&&◌, List, Option, Some, None, nat_le, nat_lt, length}
use Rattle.std.specs.List.{list_all}
use Rattle.proto_data.specs.declared.message.Msg.{Msg}
use Rattle.proto_data.specs.declared.message.Body.{Body}
use Rattle.rp_base.specs.declared.node.Node.{Node}
use Rattle.proto_data.specs.declared.message.Entry.{Entry}
use Rattle.proto_data.specs.declared.message.Echoed.{Echoed}
use Rattle.proto_data.specs.declared.message.Carried.{Carried}
use Rattle.proto_data.specs.declared.message.Config.{Config}
use Rattle.rp_app.specs.Application.{Delta, rising, cells_named}
use Rattle.proto_data.specs.declared.limits.TheConstants.{SWITCHES, REPLICAS}

-- a number of four bytes
abbrev pub is_u32 : ℕ → Bool
is_u32 n = nat_lt n (2 ^ 32)

-- three numbers of four bytes
abbrev pub are_u32 : ℕ → ℕ → ℕ → Bool
are_u32 a b c = is_u32 a && (is_u32 b && is_u32 c)

abbrev pub key_fits : List ℕ → Bool
key_fits key = nat_le 1 (length key) && nat_le (length key) 16

abbrev pub cells_fit : List ℕ → Bool
cells_fit cells = nat_le (length cells) 256

abbrev pub delta_fits : Delta → Bool
delta_fits delta = nat_le (length delta) 256 && (rising (cells_named delta) && list_all (λ c. nat_lt c 256) (cells_named delta))

abbrev pub load_fits : Option Carried → Bool
load_fits None = true
load_fits (Some c) = is_u32 c.mark && (nat_lt c.port 65536 && nat_le (length c.bytes) 1500)

abbrev pub mark_fits : Option ℕ → Bool
mark_fits None = true
mark_fits (Some m) = is_u32 m

abbrev pub switch_fits : ℕ → Bool
switch_fits n = nat_lt n SWITCHES

abbrev pub entry_spelled : Entry → Bool
entry_spelled (Entry.Grant key epoch switch inc nonce) = key_fits key && (are_u32 epoch inc nonce && switch_fits switch)
entry_spelled (Entry.Put key epoch number delta) = key_fits key && (are_u32 epoch number 0 && delta_fits delta)
entry_spelled (Entry.Snap key epoch round cells) = key_fits key && (are_u32 epoch round 0 && cells_fit cells)

abbrev pub echoed_fits : Echoed → Bool
echoed_fits (Echoed.Ask switch inc nonce key) = switch_fits switch && (are_u32 inc nonce 0 && key_fits key)
echoed_fits (Echoed.Put switch epoch number key) = switch_fits switch && (are_u32 epoch number 0 && key_fits key)

abbrev pub config_fits : Config → Bool
config_fits c =
    is_u32 c.number
    && (nat_le 1 (length c.chain)
    && (nat_le (length c.chain) REPLICAS && (rising c.chain && list_all (λ n. nat_lt n REPLICAS) c.chain)))

-- what a switch asks of the store
abbrev pub is_request : Body → Bool
is_request (Body.Ask inc nonce key load) = true
is_request (Body.Put inc epoch number key delta load) = true
is_request (Body.Snap inc epoch round key chunk chunks cells) = true
is_request _ = false

-- what the store answers a switch
abbrev pub is_answer : Body → Bool
is_answer (Body.Grant inc nonce epoch key cells load) = true
is_answer (Body.Busy inc nonce key mark) = true
is_answer (Body.Ack inc epoch upto key load) = true
is_answer (Body.Deny inc epoch key) = true
is_answer _ = false

abbrev pub body_fits : Body → Bool
body_fits (Body.Ask inc nonce key load) = are_u32 inc nonce 0 && (key_fits key && load_fits load)
body_fits (Body.Grant inc nonce epoch key cells load) =
    are_u32 inc nonce epoch && (key_fits key && (cells_fit cells && load_fits load))
body_fits (Body.Busy inc nonce key mark) = are_u32 inc nonce 0 && (key_fits key && mark_fits mark)
body_fits (Body.Put inc epoch number key delta load) =
    are_u32 inc epoch number && (key_fits key && (delta_fits delta && load_fits load))
body_fits (Body.Ack inc epoch upto key load) = are_u32 inc epoch upto && (key_fits key && load_fits load)
body_fits (Body.Deny inc epoch key) = are_u32 inc epoch 0 && key_fits key
body_fits (Body.Forward config index entry load) = are_u32 config index 0 && (entry_spelled entry && load_fits load)
body_fits (Body.Have index) = is_u32 index
body_fits (Body.Echo of load) = echoed_fits of && load_fits load
body_fits (Body.Config config) = config_fits config
body_fits (Body.Snap inc epoch round key chunk chunks cells) =
    are_u32 inc epoch round
    && (key_fits key && (nat_lt chunk chunks && (nat_le chunks 8 && nat_le (length cells) 32)))

-- ---- from and to

abbrev pub is_switch : Node → Bool
is_switch (Node.Switch n) = switch_fits n
is_switch _ = false

abbrev pub is_store : Node → Bool
is_store (Node.Replica n) = nat_lt n REPLICAS
is_store _ = false

abbrev pub from_master : Node → Node → Bool
from_master Node.Master (Node.Switch n) = switch_fits n
from_master Node.Master (Node.Replica n) = nat_lt n REPLICAS
from_master _ _ = false

-- the sorts of nodes between which a kind goes
abbrev pub nodes_fit : Node → Node → Body → Bool
nodes_fit from to (Body.Ask inc nonce key load) = is_switch from && is_store to
nodes_fit from to (Body.Grant inc nonce epoch key cells load) = is_store from && is_switch to
nodes_fit from to (Body.Busy inc nonce key mark) = is_store from && is_switch to
nodes_fit from to (Body.Put inc epoch number key delta load) = is_switch from && is_store to
nodes_fit from to (Body.Ack inc epoch upto key load) = is_store from && is_switch to
nodes_fit from to (Body.Deny inc epoch key) = is_store from && is_switch to
nodes_fit from to (Body.Forward config index entry load) = is_store from && is_store to
nodes_fit from to (Body.Have index) = is_store from && is_store to
nodes_fit from to (Body.Echo of load) = is_store from && is_store to
nodes_fit from to (Body.Config config) = from_master from to
nodes_fit from to (Body.Snap inc epoch round key chunk chunks cells) = is_switch from && is_store to

abbrev pub message_fits : Msg → Bool
message_fits m = nodes_fit m.from m.to m.body && body_fits m.body
