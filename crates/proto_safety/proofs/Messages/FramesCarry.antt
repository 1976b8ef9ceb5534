-- Each packet that a frame carries was fed, and the frame's key is its key.
use Rattle.std.proofs.Common.{◌≡◌, ℕ, ◌+◌, ◌≤◌, List, [], ◌∷◌, ◌++◌, Option, Some, None, refl, true, false, Bool, arith, map, eq-eqb, ne_eqb}
use Rattle.std.specs.Prelude.{find, option_map, ◌==◌, if◌then◌else◌}
use Rattle.proto_data.specs.declared.message.Msg.{Msg}
use Rattle.rp_base.specs.declared.node.Node.{Node}
use Rattle.proto_data.specs.declared.message.Body.{Body}
use Rattle.proto_data.specs.declared.message.Entry.{Entry}
use Rattle.proto_data.specs.declared.message.Echoed.{Echoed}
use Rattle.rp_base.specs.declared.node.Packet.{Packet}
use Rattle.proto_data.specs.declared.message.Carried.{Carried}
use Rattle.proto_data.specs.declared.message.Input.{Input}
use Rattle.rp_base.specs.declared.event.Event.{Event}
use Rattle.rp_app.specs.Application.{Application}
use Rattle.proto_data.specs.Carrying.{packet_of}
use Rattle.key_table.specs.Table.{Key}
use Rattle.proto_model.specs.Feeds.{Each, packet_at}
use Rattle.proto_safety.specs.Loads.{OnLoad, OnPacket, WasFed}
use Rattle.proto_model.specs.SwitchRows.{switch_step}
use Rattle.proto_model.specs.ReplicaRows.{store_step}
use Rattle.proto_model.specs.World.{World, Setup, SwitchNode, ReplicaNode, opened, running_switches, running_replicas}
use Rattle.rp_base.specs.declared.legality.Fed.{Fed}
use Rattle.proto_model.specs.WorldStep.{world_after, announcements, config_msg}
use Rattle.proto_safety.proofs.Inductions.Induction.{KeepsGiven, keeps_both, run_kept, Comes}
use Rattle.proto_safety.proofs.Packets.FedMarks.{FedOnce, once_kept}
use Rattle.proto_safety.proofs.Messages.SwitchLoads.{switch_sent}
use Rattle.proto_safety.proofs.Messages.StoreLoads.{message_load, alarm_load}
use Rattle.proto_safety.proofs.Basics.Eachs.{each_append, each_at, each_map, each_weaker}

abbrev Carries : Application → List Fed → Msg → Type 0
Carries app fed m = OnPacket (WasFed app fed) m.body

abbrev pub FramesCarry : Application → World → Type 0
FramesCarry app w = Each (Carries app w.history.fed) w.frames

-- ---- one more packet

abbrev has_mark : ℕ → Fed → Bool
has_mark m f = f.packet.mark == m

-- what was found is found still
pub found_still : (fed : List Fed) (f : Fed) (m : ℕ) (p : Packet) → packet_at fed m ≡ Some p → packet_at (fed ++ f ∷ []) m ≡ Some p
found_still [] f m p h = cc
found_still (g ∷ gs) f m p h = still_case g gs f m p (has_mark m g) h (found_still gs f m p)
  where
    still_case : (g : Fed) (gs : List Fed) (f : Fed) (m : ℕ) (p : Packet) (b : Bool) → option_map (λ (f : Fed). f.packet) (if b then Some g else find (has_mark m) gs) ≡ Some p →
        (packet_at gs m ≡ Some p → packet_at (gs ++ f ∷ []) m ≡ Some p) → option_map (λ (f : Fed). f.packet) (if b then Some g else find (has_mark m) (gs ++ f ∷ [])) ≡ Some p
    still_case g gs f m p true h rest = h
    still_case g gs f m p false h rest = rest h

-- a new mark is found
pub found_new : (fed : List Fed) (f : Fed) (event : ℕ) → f.packet.mark ≡ event + 1 → Each (λ (g : Fed). g.packet.mark ≤ event) fed → packet_at (fed ++ f ∷ []) f.packet.mark ≡ Some f.packet
found_new [] f event mark h = rw (eq-eqb f.packet.mark f.packet.mark refl)
found_new (g ∷ gs) f event mark h =
    let ne : (g.packet.mark ≡ f.packet.mark → ⊥) = λ e. omega (arith, h.0) in
    rw (ne_eqb g.packet.mark f.packet.mark ne) (found_new gs f event mark h.1)

load_still : (app : Application) (fed : List Fed) (f : Fed) (key : Key) (load : Option Carried) → OnLoad (WasFed app fed) key load → OnLoad (WasFed app (fed ++ f ∷ [])) key load
load_still app fed f key None h = tt
load_still app fed f key (Some c) h = (found_still fed f c.mark (packet_of c) h.0, h.1)

carries_still : (app : Application) (fed : List Fed) (f : Fed) (b : Body) → OnPacket (WasFed app fed) b → OnPacket (WasFed app (fed ++ f ∷ [])) b
carries_still app fed f (Body.Ask inc nonce key load) h = load_still app fed f key load h
carries_still app fed f (Body.Grant inc nonce epoch key cells load) h = load_still app fed f key load h
carries_still app fed f (Body.Forward config index (Entry.Grant key epoch switch inc nonce) load) h = load_still app fed f key load h
carries_still app fed f (Body.Forward config index (Entry.Put key epoch number delta) load) h = tt
carries_still app fed f (Body.Forward config index (Entry.Snap key epoch round cells) load) h = tt
carries_still app fed f (Body.Echo (Echoed.Ask switch inc nonce key) load) h = load_still app fed f key load h
carries_still app fed f (Body.Echo (Echoed.Put switch epoch number key) load) h = tt
carries_still app fed f _ h = tt

-- ---- steps

input_carries : (app : Application) (w : World) (n : ℕ) (node : ReplicaNode) (input : Input) → Comes w (Node.Replica n) input → FramesCarry app w →
    Each (Carries app w.history.fed) (store_step node.state node.clock input).1.sent
input_carries app w n node (Input.Msg m) from h = message_load (WasFed app w.history.fed) node.state node.clock m (each_at (Carries app w.history.fed) w.frames from.1.0 m h from.1.1)
input_carries app w n node Input.Alarm from h = alarm_load (WasFed app w.history.fed) node.state node.clock
input_carries app w n node (Input.Packet p) from h = absurd from

switch_carries : (app : Application) (w : World) (n : ℕ) (node : SwitchNode) (input : Input) → Comes w (Node.Switch n) input →
    Each (Carries app w.history.fed) (switch_step app node.state node.clock input).1.sent
switch_carries app w n node (Input.Msg m) from = switch_sent (WasFed app w.history.fed) app node.state node.clock (Input.Msg m) tt
switch_carries app w n node Input.Alarm from = switch_sent (WasFed app w.history.fed) app node.state node.clock Input.Alarm tt
switch_carries app w n node (Input.Packet p) from = absurd from

fed_carries : (app : Application) (w : World) (n : ℕ) (node : SwitchNode) (p : Packet) → p.mark ≡ w.event + 1 → FedOnce w → FramesCarry app w →
    Each (Carries app (w.history.fed ++ record { event = w.event + 1; packet = p } ∷ [])) (w.frames ++ (switch_step app node.state node.clock (Input.Packet p)).1.sent)
fed_carries app w n node p mark once h =
    let fed = w.history.fed ++ record { event = w.event + 1; packet = p } ∷ [] in
    each_append (Carries app fed) w.frames _
    (each_weaker (Carries app w.history.fed) (Carries app fed) w.frames (λ m k. carries_still app w.history.fed (record { event = w.event + 1; packet = p }) m.body k) h)
    (switch_sent (WasFed app fed) app node.state node.clock (Input.Packet p)
    (λ key of. (found_new w.history.fed (record { event = w.event + 1; packet = p }) w.event mark once.within, of)))

announced_carry : (app : Application) (w : World) → Each (Carries app w.history.fed) (announcements w)
announced_carry app w =
    each_append (Carries app w.history.fed) (map (λ n. config_msg w (Node.Switch n)) (running_switches w)) _
    (each_map (Carries app w.history.fed) (λ n. config_msg w (Node.Switch n)) (running_switches w) (λ n. tt))
    (each_map (Carries app w.history.fed) (λ n. config_msg w (Node.Replica n)) (running_replicas w) (λ n. tt))

pub carry_kept : (app : Application) → KeepsGiven app FedOnce (FramesCarry app)
carry_kept app =
    record {
      counts = λ w once h. h;
      passes = λ w i once h. h;
      feeds = λ w n node p at up mark once h. fed_carries app w n node p mark once h;
      switches = λ w n node input at up from once h. each_append (Carries app w.history.fed) w.frames _ h (switch_carries app w n node input from);
      replicas = λ w n node input at up from once h. each_append (Carries app w.history.fed) w.frames _ h (input_carries app w n node input from h);
      advances = λ w by fits once h. h;
      stops_switch = λ w n fits once h. h;
      stops_replica = λ w n fits once h. h;
      boots = λ w n fits once h. h;
      detects_switch = λ w n fits once h. h;
      detects_replica = λ w n fits once h. h;
      announces = λ w once h. each_append (Carries app w.history.fed) w.frames _ h (announced_carry app w);
    }

pub frames_carry : (app : Application) (setup : Setup) (es : List Event) → FramesCarry app (world_after app (opened app.cell_count setup) es)
frames_carry app setup es =
    (run_kept app (λ w. FedOnce w × FramesCarry app w) (keeps_both app FedOnce (FramesCarry app) (once_kept app) (carry_kept app)) es (opened app.cell_count setup)
    (record { within = tt; differ = tt }, tt)).1
