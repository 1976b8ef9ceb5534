-- What an accepted packet ends with.
use Rattle.std.proofs.Common.{◌≡◌, ℕ, List, Option, Some, length, ap}
use Rattle.rp_base.specs.declared.node.Packet.{Packet}
use Rattle.rp_bits.specs.Bits.{bits_of}
use Rattle.p4_ast.specs.declared.program.P4Program.{P4Program}
use Rattle.app_meaning.specs.Packets.{Parsing, parse}
use Rattle.app_meaning.specs.Programs.{parser_scope, control_scope, first_values, run_control, deparsed, after_parser, outcome}
use Rattle.tree_app.specs.Ended.{ended}

pub accepted_ends :
    (p : P4Program) (held : ℕ) (cells : List ℕ) (packet : Packet) (parsed : Parsing)
    → parse (parser_scope p) p.parser.states (record { values = first_values p (control_scope p (length cells)) held packet; left = bits_of packet.bytes }) ≡ Some parsed
    → ended (outcome p held cells packet) ≡ ended (deparsed p (control_scope p (length cells)) packet parsed.left (run_control p (control_scope p (length cells)) cells parsed))
accepted_ends p held cells packet parsed e =
    ap (λ (o : Option Parsing). ended (after_parser p (control_scope p (length cells)) cells packet (first_values p (control_scope p (length cells)) held packet) o)) e
