-- When each request was sent for the first time. A request is an Ask's nonce, a Put's number or a round.
use Rattle.std.specs.Prelude.{ℕ, Bool, false, ◌&&◌, ◌==◌, List, [], ◌∷◌, ◌++◌, Option, Some, None, if◌then◌else◌, slice_get, fold}
use Rattle.std.specs.List.{list_any}
use Rattle.proto_data.specs.declared.message.Msg.{Msg}
use Rattle.proto_data.specs.declared.message.Body.{Body}
use Rattle.rp_base.specs.declared.node.Node.{Node}
use Rattle.proto_data.specs.declared.message.Input.{Input}
use Rattle.rp_base.specs.declared.event.Event.{Event}
use Rattle.rp_app.specs.Application.{Application}
use Rattle.key_table.specs.Table.{Key, same_key}
use Rattle.proto_model.specs.SwitchRows.{switch_step}
use Rattle.proto_model.specs.World.{World, Setup, SwitchNode, opened}
use Rattle.proto_model.specs.Effects.{packet_fed, frame_passed}
use Rattle.proto_model.specs.WorldStep.{Act, Feeds, Delivers, Alarms, act_of, next_event, world_step}
use Rattle.proto_safety.specs.LeaseLaws.{Request, AskOf, NumberOf, First}

-- the request that a message makes, if it makes one
abbrev pub request_of : Body → Option (Key × Request)
request_of (Body.Ask inc nonce key load) = Some (key, AskOf inc nonce)
request_of (Body.Put inc epoch number key delta load) = Some (key, NumberOf epoch number)
request_of (Body.Snap inc epoch round key chunk chunks cells) = Some (key, NumberOf epoch round)
request_of _ = None

abbrev pub same_request : Request → Request → Bool
same_request (AskOf i k) (AskOf j l) = (i == j) && (k == l)
same_request (NumberOf e n) (NumberOf f m) = (e == f) && (n == m)
same_request _ _ = false

-- whether switch s has made this request before
abbrev pub is_made : ℕ → Key → Request → First → Bool
is_made s key request f = (f.switch == s) && (same_key f.key key && same_request f.request request)

-- a request of switch s, whose clock reads `now`
abbrev pub with_request : ℕ → ℕ → List First → Option (Key × Request) → List First
with_request s now firsts None = firsts
with_request s now firsts (Some r) =
    if list_any (is_made s r.0 r.1) firsts
    then firsts
    else firsts ++ record { switch = s; key = r.0; request = r.1; moment = now } ∷ []

-- the messages that switch s sends in one step
abbrev pub with_sent : ℕ → ℕ → List First → List Msg → List First
with_sent s now firsts ms = fold (λ fs (m : Msg). with_request s now fs (request_of m.body)) firsts ms

abbrev pub switch_firsts : Application → ℕ → Input → List First → Option SwitchNode → List First
switch_firsts app n input firsts None = firsts
switch_firsts app n input firsts (Some node) =
    with_sent n node.clock firsts (switch_step app node.state node.clock input).1.sent

abbrev pub node_firsts : Application → World → Node → Input → List First → List First
node_firsts app w (Node.Switch n) input firsts = switch_firsts app n input firsts (slice_get w.switches n)
node_firsts app w _ input firsts = firsts

-- the first sendings after an act
abbrev pub act_firsts : Application → World → List First → Act → List First
act_firsts app w firsts (Feeds n p) = node_firsts app (packet_fed w p) (Node.Switch n) (Input.Packet p) firsts
act_firsts app w firsts (Delivers i m) = node_firsts app (frame_passed w i) m.to (Input.Msg m) firsts
act_firsts app w firsts (Alarms node) = node_firsts app w node Input.Alarm firsts
act_firsts app w firsts _ = firsts

-- after one event
abbrev pub event_firsts : Application → World → List First → Event → List First
event_firsts app w firsts e = act_firsts app (next_event w) firsts (act_of app (next_event w) e)

-- after every event
abbrev pub firsts_after : Application → World → List First → List Event → List First
firsts_after app w firsts [] = firsts
firsts_after app w firsts (e ∷ es) = firsts_after app (world_step app w e).0 (event_firsts app w firsts e) es

-- the first sendings of a run
abbrev pub firsts_of : Application → Setup → List Event → List First
firsts_of app setup es = firsts_after app (opened app.cell_count setup) [] es
