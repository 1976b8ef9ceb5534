-- The bytes of each message. Numbers are big endian.
use Rattle.std.specs.Prelude.{ℕ, ◌+◌, List, [], ◌∷◌, ◌++◌, length, Option, Some, None}
use Rattle.std.specs.List.{flat_map}
use Rattle.std.specs.Int.{Width, w16, w32, w64, to_be_bytes}
use Rattle.rp_base.specs.declared.node.Node.{Node}
use Rattle.rp_app.specs.Application.{Delta}
use Rattle.proto_data.specs.declared.message.Msg.{Msg}
use Rattle.proto_data.specs.declared.message.Body.{Body}
use Rattle.proto_data.specs.declared.message.Entry.{Entry}
use Rattle.proto_data.specs.declared.message.Echoed.{Echoed}
use Rattle.proto_data.specs.declared.message.Carried.{Carried}
use Rattle.proto_data.specs.declared.message.Config.{Config}

-- how wide the numbers of the protocol are: marks, incarnations, nonces, epochs, numbers of updates, rounds, indexes
abbrev pub number_width : Width
number_width = w32

-- how wide ports, lengths, counts and cell numbers are
abbrev pub short_width : Width
short_width = w16

-- how wide the values of cells are
abbrev pub value_width : Width
value_width = w64

-- a number of the protocol
abbrev pub number_bytes : ℕ → List ℕ
number_bytes n = to_be_bytes number_width n

-- a port, a length, a count or the number of a cell
abbrev pub short_bytes : ℕ → List ℕ
short_bytes n = to_be_bytes short_width n

-- the value of a cell
abbrev pub value_bytes : ℕ → List ℕ
value_bytes v = to_be_bytes value_width v

-- a key behind its length
abbrev pub key_bytes : List ℕ → List ℕ
key_bytes key = length key ∷ key

-- cells behind their count
abbrev pub cells_bytes : List ℕ → List ℕ
cells_bytes cells = short_bytes (length cells) ++ flat_map value_bytes cells

-- a written cell: its number and its value
abbrev pub member_bytes : ℕ × ℕ → List ℕ
member_bytes d = short_bytes d.0 ++ value_bytes d.1

-- written cells behind their count
abbrev pub delta_bytes : Delta → List ℕ
delta_bytes delta = short_bytes (length delta) ++ flat_map member_bytes delta

-- what rides on a message: mark, port and length, and the bytes
abbrev pub carried_bytes : Carried → List ℕ
carried_bytes c = number_bytes c.mark ++ short_bytes c.port ++ short_bytes (length c.bytes) ++ c.bytes

-- whether something rides on a message, and what
abbrev pub load_bytes : Option Carried → List ℕ
load_bytes None = 0 ∷ []
load_bytes (Some c) = 1 ∷ carried_bytes c

-- whether there is a mark, and which
abbrev pub mark_bytes : Option ℕ → List ℕ
mark_bytes None = 0 ∷ []
mark_bytes (Some mark) = 1 ∷ number_bytes mark

-- an entry of the book behind the byte of its sort
abbrev pub entry_bytes : Entry → List ℕ
entry_bytes (Entry.Grant key epoch switch inc nonce) = 1 ∷ key_bytes key ++ number_bytes epoch ++ switch ∷ number_bytes inc ++ number_bytes nonce
entry_bytes (Entry.Put key epoch number delta) = 2 ∷ key_bytes key ++ number_bytes epoch ++ number_bytes number ++ delta_bytes delta
entry_bytes (Entry.Snap key epoch round cells) = 3 ∷ key_bytes key ++ number_bytes epoch ++ number_bytes round ++ cells_bytes cells

-- what an echo stands for behind the byte of its sort
abbrev pub echoed_bytes : Echoed → List ℕ
echoed_bytes (Echoed.Ask switch inc nonce key) = 1 ∷ switch ∷ number_bytes inc ++ number_bytes nonce ++ key_bytes key
echoed_bytes (Echoed.Put switch epoch number key) = 2 ∷ switch ∷ number_bytes epoch ++ number_bytes number ++ key_bytes key

-- a configuration: its number, and its members behind their count
abbrev pub config_bytes : Config → List ℕ
config_bytes c = number_bytes c.number ++ length c.chain ∷ c.chain

-- the fields of each kind
abbrev pub body_bytes : Body → List ℕ
body_bytes (Body.Ask inc nonce key load) = number_bytes inc ++ number_bytes nonce ++ key_bytes key ++ load_bytes load
body_bytes (Body.Grant inc nonce epoch key cells load) =
    number_bytes inc ++ number_bytes nonce ++ number_bytes epoch ++ key_bytes key ++ cells_bytes cells ++ load_bytes load
body_bytes (Body.Busy inc nonce key mark) = number_bytes inc ++ number_bytes nonce ++ key_bytes key ++ mark_bytes mark
body_bytes (Body.Put inc epoch number key delta load) =
    number_bytes inc ++ number_bytes epoch ++ number_bytes number ++ key_bytes key ++ delta_bytes delta ++ load_bytes load
body_bytes (Body.Ack inc epoch upto key load) =
    number_bytes inc ++ number_bytes epoch ++ number_bytes upto ++ key_bytes key ++ load_bytes load
body_bytes (Body.Deny inc epoch key) = number_bytes inc ++ number_bytes epoch ++ key_bytes key
body_bytes (Body.Forward config index entry load) =
    number_bytes config ++ number_bytes index ++ entry_bytes entry ++ load_bytes load
body_bytes (Body.Have index) = number_bytes index
body_bytes (Body.Echo of load) = echoed_bytes of ++ load_bytes load
body_bytes (Body.Config config) = config_bytes config
body_bytes (Body.Snap inc epoch round key chunk chunks cells) =
    number_bytes inc ++ number_bytes epoch ++ number_bytes round ++ key_bytes key ++ chunk ∷ chunks ∷ cells_bytes cells

-- the byte of each kind
abbrev pub kind : Body → ℕ
kind (Body.Ask inc nonce key load) = 1
kind (Body.Grant inc nonce epoch key cells load) = 2
kind (Body.Busy inc nonce key mark) = 3
kind (Body.Put inc epoch number key delta load) = 4
kind (Body.Ack inc epoch upto key load) = 5
kind (Body.Deny inc epoch key) = 6
kind (Body.Forward config index entry load) = 7
kind (Body.Have index) = 8
kind (Body.Echo of load) = 9
kind (Body.Config config) = 10
kind (Body.Snap inc epoch round key chunk chunks cells) = 11

-- the byte of a sender or an addressee
abbrev pub node_byte : Node → ℕ
node_byte (Node.Switch n) = n
node_byte (Node.Replica n) = 16 + n
node_byte Node.Master = 32

-- the two letters of the format, its version, the kind, the sender and the addressee, and then the fields of the kind
abbrev pub spelling : Msg → List ℕ
spelling m = 82 ∷ 80 ∷ 1 ∷ kind m.body ∷ node_byte m.from ∷ node_byte m.to ∷ body_bytes m.body
