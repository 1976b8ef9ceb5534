-- Under what an event comes to an act.
pub use Rattle.proto_safety.specs.Changes.{Fits}
use Rattle.std.proofs.Common.{◌≡◌, ℕ, ◌+◌, List, [], ◌∷◌, ◌++◌, length, Option, Some, None, arith, refl, slice_get, true, false, Bool, not, ◌&&◌, nat_le, option_map, append_assoc, length-append, length-take, ◌∙◌}
use Rattle.std.proofs.lemmas.List.{length-replicate}
use Rattle.std.proofs.lemmas.Bool.{not-false, and_parts}
use Rattle.std.specs.Prelude.{if◌then◌else◌, nat_lt}
use Rattle.proto_data.specs.declared.message.Msg.{Msg}
use Rattle.rp_base.specs.declared.node.Node.{Node}
use Rattle.rp_base.specs.declared.node.Packet.{Packet}
use Rattle.rp_base.specs.declared.event.Event.{Event}
use Rattle.rp_base.specs.declared.event.Refusal.{Refusal}
use Rattle.rp_app.specs.Application.{Application, zeros}
use Rattle.proto_model.specs.Routing.{picked}
use Rattle.proto_model.specs.World.{World, believed_switches, running_replicas}
use Rattle.proto_model.specs.WorldStep.{Act, Feeds, Delivers, Passes, Advances, Alarms, Stops, Boots, Detects, Announces, Pumps, act_of, refuses_if, feed_at, feed_picked, event_packet, deliver_act, next_act, numbered_frame, next_from, is_next, runs_now, believed_up, frames_full, rates_hold, padded, is_replica}

-- an act behind a test: the test failed
passed_test : (w : World) (b : Bool) (cause : Refusal) (act : Act) → (b ≡ false → Fits w act) → Fits w (refuses_if b cause act)
passed_test w true cause act fits = tt
passed_test w false cause act fits = fits refl

feed_fits : (w : World) (n : ℕ) (p : Packet) → p.mark ≡ w.event → Fits w (feed_at w n p)
feed_fits w n p e = passed_test w (not (runs_now w (Node.Switch n))) Refusal.Dead (Feeds n p) (λ up. (e, not-false _ up))

picked_fits : (w : World) (p : Packet) (o : Option ℕ) → p.mark ≡ w.event → Fits w (feed_picked w p o)
picked_fits w p None e = tt
picked_fits w p (Some n) e = feed_fits w n p e

deliver_fits : (w : World) (i : ℕ) (o : Option Msg) → slice_get w.frames i ≡ o → Fits w (deliver_act w (option_map (λ (m : Msg). (i, m)) o))
deliver_fits w i None e = tt
deliver_fits w i (Some m) e = passed_test w (not (runs_now w m.to)) Refusal.Dead (Delivers i m) (λ up. (e, not-false _ up))

-- the element behind a front stands at the front's length
at_length : (before ms : List Msg) (m : Msg) → slice_get (before ++ m ∷ ms) (length before) ≡ Some m
at_length [] ms m = refl
at_length (x ∷ before) ms m = at_length before ms m

-- what `next` finds stands among the frames, from place i on
next_case : (w : World) (i : ℕ) (m : Msg) (later : Option (ℕ × Msg)) → slice_get w.frames i ≡ Some m → Fits w (next_act later) → (b : Bool) → is_next w i m ≡ b →
    Fits w (next_act (if b then Some (i, m) else later))
next_case w i m later there rest true b = (there, (and_parts _ _ b).1)
next_case w i m later there rest false b = rest

next_fits : (w : World) (i : ℕ) (ms before : List Msg) → before ++ ms ≡ w.frames → length before ≡ i → Fits w (next_act (next_from w i ms))
next_fits w i [] before e l = tt
next_fits w i (m ∷ ms) before e l =
    next_case w i m (next_from w (i + 1) ms)
    (rw (← e, ← l) (at_length before ms m))
    (next_fits w (i + 1) ms (before ++ m ∷ []) (append_assoc before (m ∷ []) ms ∙ e) (omega (arith, length-append before (m ∷ []))))
    (is_next w i m) refl

length_padded : (w : World) (by : List ℕ) → length (padded w by) ≡ length w.switches + length w.replicas
length_padded w by =
    omega (
      arith,
      length-take (length w.switches + length w.replicas) (by ++ zeros (length w.switches + length w.replicas)),
      length-append by (zeros (length w.switches + length w.replicas)),
      length-replicate {A = ℕ} (length w.switches + length w.replicas) 0,
    )

pub act_fits : (app : Application) (w : World) (e : Event) → Fits w (act_of app w e)
act_fits app w (Event.Feed port bytes) =
    passed_test w (frames_full w) Refusal.FramesFull
    (feed_picked w (event_packet w port bytes) (picked (believed_switches w) (app.key_of (event_packet w port bytes))))
    (λ room. picked_fits w (event_packet w port bytes) (picked (believed_switches w) (app.key_of (event_packet w port bytes))) refl)
act_fits app w (Event.FeedAt n port bytes) =
    passed_test w (frames_full w) Refusal.FramesFull (feed_at w n (event_packet w port bytes))
    (λ room. feed_fits w n (event_packet w port bytes) refl)
act_fits app w (Event.Deliver i) =
    passed_test w (frames_full w) Refusal.FramesFull (refuses_if w.linked Refusal.Linked (deliver_act w (numbered_frame w i)))
    (λ room. passed_test w w.linked Refusal.Linked (deliver_act w (numbered_frame w i)) (λ here. deliver_fits w i (slice_get w.frames i) refl))
act_fits app w Event.Next =
    passed_test w (frames_full w) Refusal.FramesFull (refuses_if w.linked Refusal.Linked (next_act (next_from w 0 w.frames)))
    (λ room. passed_test w w.linked Refusal.Linked (next_act (next_from w 0 w.frames)) (λ here. next_fits w 0 w.frames [] refl refl))
act_fits app w (Event.Drop i) =
    passed_test w w.linked Refusal.Linked (refuses_if (not (nat_lt i (length w.frames))) Refusal.NoFrame (Passes i))
    (λ here. passed_test w (not (nat_lt i (length w.frames))) Refusal.NoFrame (Passes i) (λ _. tt))
act_fits app w (Event.Time by) =
    passed_test w (not (rates_hold (padded w by) w.terms.ratio)) Refusal.Rates (Advances (padded w by)) (λ ok. (not-false _ ok, length_padded w by))
act_fits app w (Event.Alarm node) =
    passed_test w (frames_full w) Refusal.FramesFull (refuses_if (not (runs_now w node)) Refusal.Dead (Alarms node))
    (λ room. passed_test w (not (runs_now w node)) Refusal.Dead (Alarms node) (λ up. not-false _ up))
act_fits app w (Event.Fail node) =
    passed_test w (not (runs_now w node)) Refusal.Dead
    (refuses_if (is_replica node && nat_le (length (running_replicas w)) 1) Refusal.LastReplica (Stops node))
    (λ up.
    passed_test w (is_replica node && nat_le (length (running_replicas w)) 1) Refusal.LastReplica (Stops node)
    (λ other. (not-false _ up, other)))
act_fits app w (Event.Boot n) = passed_test w (runs_now w (Node.Switch n)) Refusal.Alive (Boots n) (λ down. down)
act_fits app w (Event.Detect node) =
    passed_test w (runs_now w node && believed_up w node) Refusal.Alive
    (refuses_if (not (runs_now w node) && not (believed_up w node)) Refusal.Known (Detects node))
    (λ alive.
    passed_test w (not (runs_now w node) && not (believed_up w node)) Refusal.Known (Detects node)
    (λ known. (alive, known)))
act_fits app w Event.Announce = passed_test w (frames_full w) Refusal.FramesFull Announces (λ _. tt)
act_fits app w Event.Pump =
    passed_test w (frames_full w) Refusal.FramesFull (refuses_if (not w.linked) Refusal.NoLink Pumps)
    (λ room. passed_test w (not w.linked) Refusal.NoLink Pumps (λ _. tt))
