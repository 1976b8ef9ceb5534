-- What a word says: a number, bytes, a node or a cause.
use Rattle.std.specs.Prelude.{ℕ, ◌+◌, ◌-◌, ◌*◌, Bool, false, not, ◌&&◌, ◌||◌, ◌==◌, if◌then◌else◌, nat_le, nat_lt, List, [], ◌∷◌, ◌++◌, length, fold, Result, Ok, Err, codes, bytes_eq}
use Rattle.std.specs.List.{list_all}
use Rattle.hex.specs.Hex.{decode_of}
use Rattle.hex.specs.declared.error.FromHexError.{FromHexError}
use Rattle.rp_base.specs.declared.event.DropCause.{DropCause}
use Rattle.rp_base.specs.declared.event.Lost.{Lost}
use Rattle.rp_base.specs.declared.event.Refusal.{Refusal}
use Rattle.rp_base.specs.declared.node.Node.{Node}
use Rattle.report_read.specs.declared.report.ReportWhy.{ReportWhy}
use Rattle.report_read.specs.declared.report.ReportWhy.TheVariants as why
use Rattle.report_read.specs.Words.{◌>>=◌}

-- ---- numbers

-- `0` to `9`
abbrev pub is_digit : ℕ → Bool
is_digit b = nat_le 48 b && nat_le b 57

-- decimal digits, of which the first isn't 0 where there are more
abbrev pub is_decimal : List ℕ → Bool
is_decimal [] = false
is_decimal (b ∷ []) = is_digit b
is_decimal (b ∷ c ∷ bs) = not (b == 48) && list_all is_digit (b ∷ c ∷ bs)

-- the number that decimal digits spell
abbrev pub value_of : List ℕ → ℕ
value_of digits = fold (λ n b. n * 10 + (b - 48)) 0 digits

-- a number below this one
abbrev pub number_below : ℕ → List ℕ → Result ℕ ReportWhy
number_below end word = if is_decimal word && nat_lt (value_of word) end then Ok (value_of word) else Err why.Form

-- a number of 64 bits
abbrev pub number : List ℕ → Result ℕ ReportWhy
number word = number_below 18446744073709551616 word

-- a port
abbrev pub port : List ℕ → Result ℕ ReportWhy
port word = number_below 65536 word

-- the numbers of these words, behind those that stand before
abbrev pub numbers_after : List ℕ → List (List ℕ) → Result (List ℕ) ReportWhy
numbers_after front [] = Ok front
numbers_after front (word ∷ ws) = do
  n ← number word
  numbers_after (front ++ n ∷ []) ws

-- ---- bytes

-- a hex digit in lower case
abbrev pub is_lower_digit : ℕ → Bool
is_lower_digit b = is_digit b || (nat_le 97 b && nat_le b 102)

-- bytes, at least one and at most so many
abbrev pub sized : ℕ → Result (List ℕ) FromHexError → Result (List ℕ) ReportWhy
sized most (Ok bytes) = if nat_le 1 (length bytes) && nat_le (length bytes) most then Ok bytes else Err why.Form
sized most (Err e) = Err why.Form

-- one to so many bytes in lower-case hex
abbrev pub some_bytes : ℕ → List ℕ → Result (List ℕ) ReportWhy
some_bytes most word = if list_all is_lower_digit word then sized most (decode_of word) else Err why.Form

-- the key of a flow
abbrev pub key : List ℕ → Result (List ℕ) ReportWhy
key word = some_bytes 16 word

-- the bytes of an output, or `-` where it has none
abbrev pub output : List ℕ → Result (List ℕ) ReportWhy
output word = if bytes_eq word (codes "-") then Ok [] else some_bytes 1500 word

-- ---- names

-- a node that takes datagrams: `s0` to `s7` and `r0` to `r4`
abbrev pub node : List ℕ → Result Node ReportWhy
node (letter ∷ digit ∷ []) =
    if letter == 115 && (nat_le 48 digit && nat_le digit 55) then Ok (Node.Switch (digit - 48))
    else if letter == 114 && (nat_le 48 digit && nat_le digit 52) then Ok (Node.Replica (digit - 48))
    else Err why.Form
node word = Err why.Form

-- why a packet was dropped in strict mode
abbrev pub drop_cause : List ℕ → Result DropCause ReportWhy
drop_cause word =
    if bytes_eq word (codes "full") then Ok DropCause.Full
    else if bytes_eq word (codes "mirror") then Ok DropCause.Mirror
    else if bytes_eq word (codes "late") then Ok DropCause.Late
    else if bytes_eq word (codes "busy") then Ok DropCause.Busy
    else Err why.Form

-- why a message was lost
abbrev pub lost_cause : List ℕ → Result Lost ReportWhy
lost_cause word =
    if bytes_eq word (codes "stale") then Ok Lost.Stale
    else if bytes_eq word (codes "role") then Ok Lost.Role
    else if bytes_eq word (codes "gap") then Ok Lost.Gap
    else if bytes_eq word (codes "pending") then Ok Lost.Pending
    else if bytes_eq word (codes "config") then Ok Lost.Config
    else if bytes_eq word (codes "order") then Ok Lost.Order
    else Err why.Form

-- why an event was refused
abbrev pub refusal : List ℕ → Result Refusal ReportWhy
refusal word =
    if bytes_eq word (codes "FramesFull") then Ok Refusal.FramesFull
    else if bytes_eq word (codes "Nowhere") then Ok Refusal.Nowhere
    else if bytes_eq word (codes "Dead") then Ok Refusal.Dead
    else if bytes_eq word (codes "NoFrame") then Ok Refusal.NoFrame
    else if bytes_eq word (codes "NoneLeft") then Ok Refusal.NoneLeft
    else if bytes_eq word (codes "Rates") then Ok Refusal.Rates
    else if bytes_eq word (codes "LastReplica") then Ok Refusal.LastReplica
    else if bytes_eq word (codes "Alive") then Ok Refusal.Alive
    else if bytes_eq word (codes "Known") then Ok Refusal.Known
    else if bytes_eq word (codes "Linked") then Ok Refusal.Linked
    else if bytes_eq word (codes "NoLink") then Ok Refusal.NoLink
    else Err why.Form
