-- One switch that never fails: each packet is processed at once, in the order fed, on the cells of its flow.
use Rattle.std.specs.Prelude.{ℕ, ◌+◌, ◌≡◌, List, [], ◌∷◌, ◌++◌, Option, Some, None, length, flat_map}
use Rattle.std.specs.List.{AllByRecursion}
use Rattle.rp_base.specs.declared.event.Event.{Event}
use Rattle.rp_base.specs.declared.line.Line.{Line}
use Rattle.rp_base.specs.declared.node.Output.{Output}
use Rattle.rp_base.specs.declared.node.Packet.{Packet}
use Rattle.rp_app.specs.Application.{Application, after_one, zeros}
use Rattle.key_table.specs.Table.{Key, Table, get, put}

-- a flow: the marks of its packets, in order, and its cells
pub record PlainFlow : Type 0 where
  pub marks : List ℕ
  pub cells : List ℕ

-- the switch: the number of the last event, and its flows in the order of their first packets
pub record PlainSwitch : Type 0 where
  pub event : ℕ
  pub flows : Table PlainFlow

-- before the first event
abbrev pub begun : PlainSwitch
begun = record { event = 0; flows = [] }

-- the packet that an event feeds, at whichever switch; its mark is the event's number
abbrev pub fed : ℕ → Event → Option Packet
fed n (Event.Feed port bytes) = Some (record { mark = n; port = port; bytes = bytes })
fed n (Event.FeedAt at port bytes) = Some (record { mark = n; port = port; bytes = bytes })
fed n e = None

-- a flow before its first packet has zeros in its cells
abbrev pub flow_or_new : Application → Option PlainFlow → PlainFlow
flow_or_new app None = record { marks = []; cells = zeros app.cell_count }
flow_or_new app (Some flow) = flow

-- the flow after a packet
abbrev pub processed : Application → PlainFlow → Packet → PlainFlow
processed app flow p = record { marks = flow.marks ++ p.mark ∷ []; cells = after_one app flow.cells p }

-- the line of an output, if there is one
abbrev pub released : ℕ → Option Output → List Line
released event None = []
released event (Some o) = Line.Release event o.mark o.port o.bytes ∷ []

-- a packet of a flow is processed; its output, if there is one
abbrev pub flow_turn : Application → PlainFlow → Packet → PlainFlow × Option Output
flow_turn app flow p = (processed app flow p, (app.plain flow.cells p).1)

-- the same where the flow stands among others
abbrev pub keyed : Application → PlainSwitch → Packet → Key → PlainSwitch × Option Output
keyed app s p key =
    let turn = flow_turn app (flow_or_new app (get s.flows key)) p in
    (record s { flows = put s.flows key turn.0 }, turn.1)

-- a packet is processed; of one without a key nothing is kept
abbrev pub taken : Application → PlainSwitch → Packet → Option Key → PlainSwitch × List Line
taken app s p None = (s, released s.event (app.plain (zeros app.cell_count) p).1)
taken app s p (Some key) = ((keyed app s p key).0, released s.event (keyed app s p key).1)

-- the packet of an event is processed, if it has one
abbrev pub takes : Application → PlainSwitch → Option Packet → PlainSwitch × List Line
takes app s None = (s, [])
takes app s (Some p) = taken app s p (app.key_of p)

-- one event; all but those that feed a packet are passed over
abbrev pub plain_step : Application → PlainSwitch → Event → PlainSwitch × List Line
plain_step app s e = takes app (record s { event = s.event + 1 }) (fed (s.event + 1) e)

-- the lines of a flow at the end: its serial list and its cells
abbrev pub flow_lines : Key × PlainFlow → List Line
flow_lines e = Line.Serial e.0 e.1.marks ∷ Line.Cells e.0 e.1.cells ∷ []

-- the lines at the end, each flow in the order of its first packet
abbrev pub end_lines : PlainSwitch → List Line
end_lines s = flat_map flow_lines s.flows ++ Line.End ∷ []

-- the lines of these events, and those at the end
abbrev pub plain_lines : Application → PlainSwitch → List Event → List Line
plain_lines app s [] = end_lines s
plain_lines app s (e ∷ es) = (plain_step app s e).1 ++ plain_lines app (plain_step app s e).0 es

-- the report of one switch that never fails
abbrev pub plain_report : Application → List Event → List Line
plain_report app events = plain_lines app begun events

-- each flow has as many cells as its application says
abbrev pub HaveCells : ℕ → Table PlainFlow → Type 0
HaveCells count flows = AllByRecursion (λ (e : Key × PlainFlow). length e.1.cells ≡ count) flows
