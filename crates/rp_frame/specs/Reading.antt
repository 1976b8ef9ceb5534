-- Bytes read field by field, from left to right: a field that isn't whole, or whose value isn't allowed after the fields before it, is the fault, by its place.
use Rattle.std.specs.Prelude.{◌≡◌, ℕ, zero, suc, ◌+◌, ◌-◌, List, [], ◌∷◌, length, take, drop, slice_index, Option, Some, None, Result, Ok, Err, nat_lt, nat_le, ◌==◌, ◌||◌, ◌&&◌, Bool, if◌then◌else◌}
use Rattle.std.specs.Int.{byte_len, from_be_bytes}
use Rattle.std.specs.Str.{bytes_eq}
use Rattle.rp_base.specs.declared.node.Node.{Node}
use Rattle.rp_app.specs.Application.{Delta}
use Rattle.proto_data.specs.declared.message.Msg.{Msg}
use Rattle.proto_data.specs.declared.message.Body.{Body}
use Rattle.proto_data.specs.declared.message.Entry.{Entry}
use Rattle.proto_data.specs.declared.message.Echoed.{Echoed}
use Rattle.proto_data.specs.declared.message.Carried.{Carried}
use Rattle.rp_frame.specs.declared.frame_end.FrameEnd.{FrameEnd}
use Rattle.rp_frame.specs.declared.frame_end.FrameEnd.TheVariants as ends
use Rattle.rp_frame.specs.Spelling.{number_width, short_width, value_width}

-- From a place in some bytes: a value and the place behind it, or the place of the first bad field.
abbrev pub Reader : Type 0 → Type 0
Reader A = ℕ → List ℕ → Result (A × ℕ) ℕ

abbrev pub and_then : {A B : Type 0} → Result A ℕ → (A → Result B ℕ) → Result B ℕ
and_then (Ok x) f = f x
and_then (Err e) f = Err e

-- one reader, and then one that may depend on its value
infixl 10 ◌>>=◌
abbrev pub ◌>>=◌ : {A B : Type 0} → Reader A → (A → Reader B) → Reader B
(r >>= g) at bytes = and_then (r at bytes) (λ x. g x.0 x.1 bytes)

-- nothing more is read
abbrev pub done : {A : Type 0} → A → Reader A
done x at bytes = Ok (x, at)

-- What a function returned is what reading gives, unless memory ran out.
abbrev pub Fails : {A : Type 0} → FrameEnd → Result A ℕ → Type 0
Fails ends.NoMemory read = Unit {0}
Fails (ends.BadFrame at) read = read ≡ Err at

abbrev pub Gives : {A B : Type 0} → (A → B) → Result A FrameEnd → Result B ℕ → Type 0
Gives view (Ok x) read = read ≡ Ok (view x)
Gives view (Err e) read = Fails e read

-- ---- fields

-- so many bytes
unfoldable pub whole : ℕ → Reader (List ℕ)
whole n at bytes = if nat_lt (length bytes - at) n then Err at else Ok (take n (drop at bytes), at + n)

-- a number of the protocol
unfoldable pub number : Reader ℕ
number at bytes = (do
  b ← whole (byte_len number_width)
  done (from_be_bytes number_width b)) at bytes

-- the value of a cell
unfoldable pub value : Reader ℕ
value at bytes = (do
  b ← whole (byte_len value_width)
  done (from_be_bytes value_width b)) at bytes

-- a value from one to another, both allowed; another one is a fault where it begins
abbrev pub between : ℕ → ℕ → Reader ℕ → Reader ℕ
between low high r at bytes =
    and_then (r at bytes) (λ x. if nat_le low x.0 && nat_le x.0 high then Ok x else Err at)

-- a port, a length, a count or the number of a cell
unfoldable pub short : ℕ → ℕ → Reader ℕ
short low high at bytes = between low high (do
  b ← whole (byte_len short_width)
  done (from_be_bytes short_width b)) at bytes

-- a byte
unfoldable pub byte : ℕ → ℕ → Reader ℕ
byte low high at bytes = between low high (do
  b ← whole 1
  done (slice_index b 0)) at bytes

-- So many members, one after the other. Each is read with the least that it may be: what `above` gives of the member before it, and `low` at first.
unfoldable pub members : {A : Type 0} → (ℕ → Reader A) → (A → ℕ) → ℕ → ℕ → Reader (List A)
members r above low zero at bytes = Ok ([], at)
members r above low (suc n) at bytes = (do
  x ← r low
  xs ← members r above (above x) n
  done (x ∷ xs)) at bytes

-- ---- parts

-- a key of 1 to 16 bytes behind its length
unfoldable pub key : Reader (List ℕ)
key at bytes = (do
  n ← byte 1 16
  whole n) at bytes

-- cells behind their count, which is at most this
unfoldable pub cells : ℕ → Reader (List ℕ)
cells most at bytes = (do
  n ← short 0 most
  members (λ low. value) (λ v. 0) 0 n) at bytes

-- a written cell
unfoldable pub member : ℕ → Reader (ℕ × ℕ)
member low at bytes = (do
  cell ← short low 255
  v ← value
  done (cell, v)) at bytes

-- written cells, which rise, behind their count
unfoldable pub delta : Reader Delta
delta at bytes = (do
  n ← short 0 256
  members member (λ d. d.0 + 1) 0 n) at bytes

-- what rides on a message
unfoldable pub carried : Reader Carried
carried at bytes = (do
  mark ← number
  port ← short 0 65535
  n ← short 0 1500
  text ← whole n
  done (record { mark = mark; port = port; bytes = text })) at bytes

-- whether something rides on a message, and what
unfoldable pub load : Reader (Option Carried)
load at bytes = (do
  flag ← byte 0 1
  if flag == 0 then done None else (do
    c ← carried
    done (Some c))) at bytes

-- whether there is a mark, and which
unfoldable pub mark : Reader (Option ℕ)
mark at bytes = (do
  flag ← byte 0 1
  if flag == 0 then done None else (do
    n ← number
    done (Some n))) at bytes

-- an entry that grants a flow
unfoldable pub grant_entry : Reader Entry
grant_entry at bytes = (do
  k ← key
  epoch ← number
  switch ← byte 0 7
  inc ← number
  nonce ← number
  done (Entry.Grant k epoch switch inc nonce)) at bytes

-- an entry of an update
unfoldable pub put_entry : Reader Entry
put_entry at bytes = (do
  k ← key
  epoch ← number
  n ← number
  d ← delta
  done (Entry.Put k epoch n d)) at bytes

-- an entry of a snapshot
unfoldable pub snap_entry : Reader Entry
snap_entry at bytes = (do
  k ← key
  epoch ← number
  round ← number
  cs ← cells 256
  done (Entry.Snap k epoch round cs)) at bytes

-- an entry of the book
unfoldable pub entry : Reader Entry
entry at bytes = (do
  sort ← byte 1 3
  if sort == 1 then grant_entry else (if sort == 2 then put_entry else snap_entry)) at bytes

-- an echo of an Ask
unfoldable pub ask_echo : Reader Echoed
ask_echo at bytes = (do
  switch ← byte 0 7
  inc ← number
  nonce ← number
  k ← key
  done (Echoed.Ask switch inc nonce k)) at bytes

-- an echo of a Put
unfoldable pub put_echo : Reader Echoed
put_echo at bytes = (do
  switch ← byte 0 7
  epoch ← number
  n ← number
  k ← key
  done (Echoed.Put switch epoch n k)) at bytes

-- what an echo stands for
unfoldable pub echoed : Reader Echoed
echoed at bytes = (do
  sort ← byte 1 2
  if sort == 1 then ask_echo else put_echo) at bytes

-- the members of a chain, which rise, behind their count
unfoldable pub chain : Reader (List ℕ)
chain at bytes = (do
  n ← byte 1 5
  members (λ low. byte low 4) (λ b. b + 1) 0 n) at bytes

-- ---- kinds

unfoldable pub ask : Reader Body
ask at bytes = (do
  inc ← number
  nonce ← number
  k ← key
  l ← load
  done (Body.Ask inc nonce k l)) at bytes

unfoldable pub grant : Reader Body
grant at bytes = (do
  inc ← number
  nonce ← number
  epoch ← number
  k ← key
  cs ← cells 256
  l ← load
  done (Body.Grant inc nonce epoch k cs l)) at bytes

unfoldable pub busy : Reader Body
busy at bytes = (do
  inc ← number
  nonce ← number
  k ← key
  m ← mark
  done (Body.Busy inc nonce k m)) at bytes

unfoldable pub put : Reader Body
put at bytes = (do
  inc ← number
  epoch ← number
  n ← number
  k ← key
  d ← delta
  l ← load
  done (Body.Put inc epoch n k d l)) at bytes

unfoldable pub ack : Reader Body
ack at bytes = (do
  inc ← number
  epoch ← number
  upto ← number
  k ← key
  l ← load
  done (Body.Ack inc epoch upto k l)) at bytes

unfoldable pub deny : Reader Body
deny at bytes = (do
  inc ← number
  epoch ← number
  k ← key
  done (Body.Deny inc epoch k)) at bytes

unfoldable pub forward : Reader Body
forward at bytes = (do
  config ← number
  index ← number
  e ← entry
  l ← load
  done (Body.Forward config index e l)) at bytes

unfoldable pub have : Reader Body
have at bytes = (do
  index ← number
  done (Body.Have index)) at bytes

unfoldable pub echo : Reader Body
echo at bytes = (do
  of ← echoed
  l ← load
  done (Body.Echo of l)) at bytes

unfoldable pub config : Reader Body
config at bytes = (do
  n ← number
  members ← chain
  done (Body.Config (record { number = n; chain = members }))) at bytes

unfoldable pub snap : Reader Body
snap at bytes = (do
  inc ← number
  epoch ← number
  round ← number
  k ← key
  chunk ← byte 0 7
  chunks ← byte (chunk + 1) 8
  cs ← cells 32
  done (Body.Snap inc epoch round k chunk chunks cs)) at bytes

-- the fields of a kind
unfoldable pub body : ℕ → Reader Body
body kind at bytes =
    (if kind == 1 then ask
    else (if kind == 2 then grant
    else (if kind == 3 then busy
    else (if kind == 4 then put
    else (if kind == 5 then ack
    else (if kind == 6 then deny
    else (if kind == 7 then forward
    else (if kind == 8 then have
    else (if kind == 9 then echo
    else (if kind == 10 then config
    else snap)))))))))) at bytes

-- ---- senders and addressees

-- a switch by its number
unfoldable pub switch : Reader Node
switch at bytes = (do
  b ← byte 0 7
  done (Node.Switch b)) at bytes

-- a replica by 16 and its number
unfoldable pub replica : Reader Node
replica at bytes = (do
  b ← byte 16 20
  done (Node.Replica (b - 16))) at bytes

unfoldable pub master : Reader Node
master at bytes = (do
  b ← byte 32 32
  done Node.Master) at bytes

-- a switch or a replica
unfoldable pub runner : Reader Node
runner at bytes =
    (if nat_lt 15 (slice_index bytes at) then replica else switch) at bytes

-- Ask, Put and Snap go from switches to the store.
abbrev pub goes_up : ℕ → Bool
goes_up kind = kind == 1 || (kind == 4 || kind == 11)

-- Grant, Busy, Ack and Deny go from the store to switches.
abbrev pub goes_down : ℕ → Bool
goes_down kind = kind == 2 || (kind == 3 || (kind == 5 || kind == 6))

-- who sends messages of this kind
unfoldable pub sender : ℕ → Reader Node
sender kind at bytes = (if goes_up kind then switch else (if kind == 10 then master else replica)) at bytes

-- to whom messages of this kind go
unfoldable pub addressee : ℕ → Reader Node
addressee kind at bytes = (if goes_down kind then switch else (if kind == 10 then runner else replica)) at bytes

-- ---- messages

-- the two letters of the format
unfoldable pub letters : Reader (List ℕ)
letters at bytes =
    and_then (whole 2 at bytes) (λ b. if bytes_eq b.0 (82 ∷ 80 ∷ []) then Ok b else Err at)

-- a message at the front of the bytes
unfoldable pub message : List ℕ → Result (Msg × ℕ) ℕ
message bytes = (do
  format ← letters
  version ← byte 1 1
  kind ← byte 1 11
  from ← sender kind
  to ← addressee kind
  fields ← body kind
  done (record { from = from; to = to; body = fields })) 0 bytes

-- the message that all of the bytes spell, or the place of the first bad field; where bytes are left over, their place
unfoldable pub all_of : List ℕ → Result Msg ℕ
all_of bytes = and_then (message bytes) (λ m. if m.1 == length bytes then Ok m.0 else Err m.1)
