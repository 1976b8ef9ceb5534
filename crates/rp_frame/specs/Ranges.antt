-- What every message keeps to that the types of a program give: bytes are below 256, values of cells below 2^64.
use Rattle.std.specs.Prelude.{ℕ, ◌^◌, Bool, true, ◌&&◌, List, Option, Some, None, nat_lt}
use Rattle.std.specs.List.{list_all}
use Rattle.rp_app.specs.Application.{Delta}
use Rattle.proto_data.specs.declared.message.Body.{Body}
use Rattle.proto_data.specs.declared.message.Entry.{Entry}
use Rattle.proto_data.specs.declared.message.Echoed.{Echoed}
use Rattle.proto_data.specs.declared.message.Carried.{Carried}

-- each is a byte
abbrev pub all_bytes : List ℕ → Bool
all_bytes bytes = list_all (λ b. nat_lt b 256) bytes

-- each is a number of 64 bits
abbrev pub all_values : List ℕ → Bool
all_values cells = list_all (λ v. nat_lt v (2 ^ 64)) cells

-- each value is a number of 64 bits
abbrev pub delta_in : Delta → Bool
delta_in delta = list_all (λ d. nat_lt d.1 (2 ^ 64)) delta

-- carried bytes are bytes
abbrev pub load_in : Option Carried → Bool
load_in None = true
load_in (Some c) = all_bytes c.bytes

-- the bytes and values of an entry
abbrev pub entry_in : Entry → Bool
entry_in (Entry.Grant key epoch switch inc nonce) = all_bytes key
entry_in (Entry.Put key epoch number delta) = all_bytes key && delta_in delta
entry_in (Entry.Snap key epoch round cells) = all_bytes key && all_values cells

-- the key of what is echoed
abbrev pub echoed_in : Echoed → Bool
echoed_in (Echoed.Ask switch inc nonce key) = all_bytes key
echoed_in (Echoed.Put switch epoch number key) = all_bytes key

-- the bytes and values of a message's fields
abbrev pub body_in : Body → Bool
body_in (Body.Ask inc nonce key load) = all_bytes key && load_in load
body_in (Body.Grant inc nonce epoch key cells load) = all_bytes key && (all_values cells && load_in load)
body_in (Body.Busy inc nonce key mark) = all_bytes key
body_in (Body.Put inc epoch number key delta load) = all_bytes key && (delta_in delta && load_in load)
body_in (Body.Ack inc epoch upto key load) = all_bytes key && load_in load
body_in (Body.Deny inc epoch key) = all_bytes key
body_in (Body.Forward config index entry load) = entry_in entry && load_in load
body_in (Body.Have index) = true
body_in (Body.Echo of load) = echoed_in of && load_in load
body_in (Body.Config config) = true
body_in (Body.Snap inc epoch round key chunk chunks cells) = all_bytes key && all_values cells
