-- The limits at which a packet is dropped, a flow isn't granted, or an event is refused, computed.
use Rattle.std.specs.Prelude.{ℕ, ◌/◌, ◌%◌, false, true, List, [], ◌∷◌, ◌≡◌, refl, Some, None, replicate, map, length}
use Rattle.proto_data.specs.declared.message.Msg.{Msg}
use Rattle.proto_data.specs.declared.message.Body.{Body}
use Rattle.rp_base.specs.declared.node.Node.{Node}
use Rattle.proto_data.specs.declared.terms.Mode.{Mode}
use Rattle.proto_data.specs.declared.terms.Terms.{Terms}
use Rattle.proto_data.specs.declared.message.Input.{Input}
use Rattle.rp_base.specs.declared.node.Packet.{Packet}
use Rattle.proto_data.specs.declared.message.Record.{Record}
use Rattle.rp_base.specs.declared.event.Event.{Event}
use Rattle.rp_base.specs.declared.event.DropCause.{DropCause}
use Rattle.rp_base.specs.declared.event.Refusal.{Refusal}
use Rattle.rp_app.specs.Application.{counting}
use Rattle.proto_model.specs.Slot.{Slot, Asking, Held, fresh_slot}
use Rattle.proto_model.specs.SwitchState.{Switch, SwitchDid, open_switch, only_dropped}
use Rattle.proto_model.specs.SwitchRows.{switch_step}
use Rattle.proto_model.specs.Lines.{Line, Refused, without_sends}
use Rattle.proto_model.specs.ReplicaState.{Replica, open_replica, store_sent}
use Rattle.proto_model.specs.ReplicaRows.{store_step}
use Rattle.proto_model.specs.World.{World, below, first_config, opened}
use Rattle.proto_model.specs.WorldStep.{world_step}
use Rattle.proto_model.specs.Pumping.{Received, Pumped, linked_event}

abbrev terms : Terms
terms = record { t_switch = 1000; t_store = 1100; ratio = 50; mode = Mode.Strict }

abbrev packet : List ℕ → Packet
packet bytes = record { mark = 9; port = 7; bytes = bytes }

abbrev a_slot : Slot
a_slot = record fresh_slot { lease = Held 1 1 1000; cells = 5 ∷ []; asked = Some 4 ∷ [] }

abbrev asking_slot : Slot
asking_slot = record fresh_slot { lease = Asking 1 0; asked = Some 4 ∷ [] }

-- so many copies of another flow
abbrev with_copies : ℕ → Slot → Switch
with_copies n slot =
    record (open_switch 0 1 terms (first_config 1)) {
      slots = (97 ∷ [], slot) ∷ [];
      copies = replicate n (record { key = 98 ∷ []; number = 1; delta = []; first = 0; sent = 0 });
    }

abbrev did_of : Switch → Input → SwitchDid
did_of s input = (switch_step counting s 0 input).1

abbrev grant : Msg
grant =
    record {
      from = Node.Replica 0;
      to = Node.Switch 0;
      body = Body.Grant 1 1 1 (97 ∷ []) (5 ∷ []) (Some (record { mark = 4; port = 7; bytes = 97 ∷ 33 ∷ [] }));
    }

-- Process 1: dropped, clean or not, and also where a Grant carries the packet
mirror_dirty : did_of (with_copies 1024 a_slot) (Input.Packet (packet (97 ∷ 33 ∷ []))) ≡ only_dropped 9 DropCause.Mirror
mirror_dirty = refl

mirror_clean : did_of (with_copies 1024 a_slot) (Input.Packet (packet (97 ∷ 63 ∷ []))) ≡ only_dropped 9 DropCause.Mirror
mirror_clean = refl

mirror_held : did_of (with_copies 1024 a_slot) (Input.Msg grant) ≡ only_dropped 4 DropCause.Mirror
mirror_held = refl

mirror_asking : did_of (with_copies 1024 asking_slot) (Input.Msg grant) ≡ only_dropped 4 DropCause.Mirror
mirror_asking = refl

mirror_room : (did_of (with_copies 1023 a_slot) (Input.Packet (packet (97 ∷ 33 ∷ [])))).dropped ≡ None
mirror_room = refl

-- an Alarm keeps no lease while there are 1,024 copies
abbrev used_slot : Slot
used_slot = record fresh_slot { lease = Held 1 1 500; cells = 5 ∷ []; used = true }

keeps_none : length (did_of (with_copies 1024 used_slot) Input.Alarm).sent ≡ 0
keeps_none = refl

keeps_one : length (did_of (with_copies 1023 used_slot) Input.Alarm).sent ≡ 1
keeps_one = refl

-- S2
abbrev with_slots : ℕ → Switch
with_slots n = record (open_switch 0 1 terms (first_config 1)) { slots = map (λ i. (i / 256 ∷ i % 256 ∷ [], asking_slot)) (below n) }

full : did_of (with_slots 1024) (Input.Packet (packet (97 ∷ 33 ∷ []))) ≡ only_dropped 9 DropCause.Full
full = refl

full_room : (did_of (with_slots 1023) (Input.Packet (packet (97 ∷ 33 ∷ [])))).dropped ≡ None
full_room = refl

-- C2
abbrev a_record : Record
a_record = record { epoch = 1; switch = 0; inc = 1; nonce = 1; last = 0; cells = 0 ∷ []; moment = 0 }

abbrev with_records : ℕ → Replica
with_records n = record (open_replica 0 1 terms (first_config 1)) { records = replicate n (98 ∷ [], a_record) }

abbrev an_ask : Msg
an_ask =
    record {
      from = Node.Switch 0;
      to = Node.Replica 0;
      body = Body.Ask 1 1 (97 ∷ []) (Some (record { mark = 4; port = 7; bytes = 97 ∷ [] }));
    }

records_full : (store_step (with_records 65536) 0 (Input.Msg an_ask)).1 ≡ store_sent (record { from = Node.Replica 0; to = Node.Switch 0; body = Body.Busy 1 1 (97 ∷ []) (Some 4) } ∷ [])
records_full = refl

-- FramesFull
abbrev with_frames : ℕ → World
with_frames n =
    record (opened 1 (record { switches = 1; replicas = 2; terms = terms; linked = false })) { frames = replicate n an_ask }

abbrev first_line : World → Event → List Line
first_line w e = without_sends (world_step counting w e).1

full_feed : first_line (with_frames 65473) (Event.Feed 7 (97 ∷ [])) ≡ Refused 1 Refusal.FramesFull ∷ []
full_feed = refl

full_deliver : first_line (with_frames 65473) (Event.Deliver 3) ≡ Refused 1 Refusal.FramesFull ∷ []
full_deliver = refl

full_pump : first_line (with_frames 65473) Event.Pump ≡ Refused 1 Refusal.FramesFull ∷ []
full_pump = refl

full_drop : first_line (with_frames 65473) (Event.Drop 3) ≡ []
full_drop = refl

room_feed : first_line (with_frames 65472) (Event.Feed 7 (97 ∷ [])) ≡ []
room_feed = refl

-- a pump ends before the hand-over that would find no room
abbrev silent : Received
silent = record { node = Node.Switch 0; bytes = None }

abbrev told : Received
told = record { node = Node.Replica 0; bytes = Some [] }

abbrev pumped_full : Pumped
pumped_full =
    linked_event (λ m. []) counting
    (record { world = record (with_frames 65472) { linked = true }; lines = []; rest = silent ∷ told ∷ told ∷ told ∷ []; ended = false })
    Event.Pump

full_hand : without_sends pumped_full.lines ≡ Refused 1 Refusal.FramesFull ∷ []
full_hand = refl

full_rest : pumped_full.rest ≡ told ∷ []
full_rest = refl
