-- The lines of a run, the kinds of frames that they name, and how a report prints them.
use Rattle.std.specs.Prelude.{ℕ, ◌+◌, List, [], ◌∷◌, map}
use Rattle.proto_data.specs.declared.message.Msg.{Msg}
use Rattle.proto_data.specs.declared.message.Body.{Body}
use Rattle.rp_base.specs.declared.node.Node.{Node}
use Rattle.rp_base.specs.declared.line.Line.{Line as Printed}
use Rattle.rp_base.specs.declared.event.DropCause.{DropCause}
use Rattle.rp_base.specs.declared.event.Lost.{Lost}
use Rattle.rp_base.specs.declared.event.Refusal.{Refusal}
use Rattle.key_table.specs.Table.{Key}

-- the kind of a message
pub data Kind : Type 0 where
  AskKind : Kind
  GrantKind : Kind
  BusyKind : Kind
  PutKind : Kind
  AckKind : Kind
  DenyKind : Kind
  ForwardKind : Kind
  HaveKind : Kind
  EchoKind : Kind
  ConfigKind : Kind
  SnapKind : Kind

abbrev pub kind_of : Body → Kind
kind_of (Body.Ask inc nonce key load) = AskKind
kind_of (Body.Grant inc nonce epoch key cells load) = GrantKind
kind_of (Body.Busy inc nonce key mark) = BusyKind
kind_of (Body.Put inc epoch number key delta load) = PutKind
kind_of (Body.Ack inc epoch upto key load) = AckKind
kind_of (Body.Deny inc epoch key) = DenyKind
kind_of (Body.Forward config index entry load) = ForwardKind
kind_of (Body.Have index) = HaveKind
kind_of (Body.Echo of load) = EchoKind
kind_of (Body.Config config) = ConfigKind
kind_of (Body.Snap inc epoch round key chunk chunks cells) = SnapKind

-- One line of a run. A sent frame's line holds the message that its bytes spell.
pub data Line : Type 0 where
  Release : (event mark port : ℕ) (bytes : List ℕ) → Line
  Dropped : (event mark : ℕ) (cause : DropCause) → Line
  LostLine : (event : ℕ) (cause : Lost) → Line
  Refused : (event : ℕ) (cause : Refusal) → Line
  Stranger : (event : ℕ) (node : Node) → Line
  Send : (event frame : ℕ) (from to : Node) (kind : Kind) (msg : Msg) → Line
  Serial : (key : Key) (marks : List ℕ) → Line
  Epoch : (key : Key) (epoch kept : ℕ) (marks : List ℕ) → Line
  CellsLine : (key : Key) (cells : List ℕ) → Line
  End : Line

abbrev pub send_line : ℕ → ℕ → Msg → Line
send_line event frame m = Send event frame m.from m.to (kind_of m.body) m

-- the lines of messages sent at one event, the first of them being this frame
abbrev pub send_lines : ℕ → ℕ → List Msg → List Line
send_lines event frame [] = []
send_lines event frame (m ∷ ms) = send_line event frame m ∷ send_lines event (frame + 1) ms

-- what is written without `--frames`
abbrev pub without_sends : List Line → List Line
without_sends [] = []
without_sends (Send event frame from to kind m ∷ ls) = without_sends ls
without_sends (l ∷ ls) = l ∷ without_sends ls

-- a line as a report prints it: that of a sent frame has the byte of its message's kind and the bytes that spell the message
abbrev pub printed_line : (Body → ℕ) → (Msg → List ℕ) → Line → Printed
printed_line kind spelled (Release event mark port bytes) = Printed.Release event mark port bytes
printed_line kind spelled (Dropped event mark cause) = Printed.Drop event mark cause
printed_line kind spelled (LostLine event cause) = Printed.Lost event cause
printed_line kind spelled (Refused event cause) = Printed.Refused event cause
printed_line kind spelled (Stranger event node) = Printed.Stranger event node
printed_line kind spelled (Send event frame from to named msg) = Printed.Send event frame from to (kind msg.body) (spelled msg)
printed_line kind spelled (Serial key marks) = Printed.Serial key marks
printed_line kind spelled (Epoch key epoch kept marks) = Printed.Epoch key epoch kept marks
printed_line kind spelled (CellsLine key cells) = Printed.Cells key cells
printed_line kind spelled End = Printed.End

abbrev pub printed : (Body → ℕ) → (Msg → List ℕ) → List Line → List Printed
printed kind spelled lines = map (printed_line kind spelled) lines
