-- Where a straight path begins: the switch's step that sent a request with what it carries.
use Rattle.std.proofs.Common.{◌≡◌, ℕ, ◌+◌, ◌≤◌, List, [], ◌∷◌, ◌++◌, length, map, Option, Some, None, arith, refl, sym, ap, ◌∙◌, subst, inl, inr, slice_get, set, take}
use Rattle.rp_base.specs.declared.node.Node.{Node}
use Rattle.proto_data.specs.declared.message.Msg.{Msg}
use Rattle.proto_data.specs.declared.message.Body.{Body}
use Rattle.proto_data.specs.declared.message.Config.{Config}
use Rattle.proto_data.specs.declared.message.Entry.{Entry}
use Rattle.proto_data.specs.declared.message.Input.{Input}
use Rattle.proto_data.specs.declared.message.Carried.{Carried}
use Rattle.rp_app.specs.Application.{Application, Delta}
use Rattle.proto_data.specs.Carrying.{carried_output}
use Rattle.proto_model.specs.Feeds.{Each}
use Rattle.proto_model.specs.ReplicaRows.{store_step}
use Rattle.proto_model.specs.ReplicaState.{Replica}
use Rattle.proto_model.specs.Ring.{Ring, remember}
use Rattle.proto_model.specs.Runs.{Run, before, act_at}
use Rattle.proto_model.specs.Slot.{Slot, Lease, Asking, is_young}
use Rattle.proto_model.specs.Stands.{entries_of}
use Rattle.proto_model.specs.Straight.{Hop, SentAt, load_of}
use Rattle.proto_model.specs.SwitchOutcomes.{perform}
use Rattle.proto_model.specs.SwitchAlarm.{alarm, repeated_ask, repeated_asks, resent_put, walk_order}
use Rattle.proto_model.specs.SwitchRow.{SwitchRow, NewAsk, AskAgain, Mirrored, Late, Resends, switch_row}
use Rattle.proto_model.specs.SwitchRows.{switch_step}
use Rattle.proto_model.specs.SwitchState.{Switch, SwitchStep, slot_at, lapsed}
use Rattle.key_table.specs.Table.{Key, Table}
use Rattle.proto_model.specs.World.{World, SwitchNode}
use Rattle.proto_model.specs.WorldStep.{Act, Delivers, announcements}
use Rattle.proto_safety.specs.Books.{In, BooksHold}
use Rattle.proto_safety.specs.SwitchSent.{SentNow}
use Rattle.proto_safety.proofs.Inductions.AlarmInduction.{WalkKeeps, walk_kept}
use Rattle.proto_safety.proofs.Store.BooksStep.{step_sent}
use Rattle.proto_safety.proofs.Messages.EventFrames.{EventDid, by_switch, by_replica, by_master, no_frames, event_did}
use Rattle.proto_safety.proofs.Inductions.FlowInduction.{step_same}
use Rattle.proto_safety.proofs.Inductions.RunSteps.{event_at, ended, one_later, onward}
use Rattle.proto_safety.proofs.Store.StoreBooks.{SentBooks}
use Rattle.proto_model.proofs.StoreStands.{book_after}
use Rattle.proto_safety.proofs.Nodes.SwitchSays.{step_says}
use Rattle.proto_safety.proofs.Nodes.SwitchSends.{IsRequest}
use Rattle.key_table.proofs.Tables.{get-put_same}
use Rattle.proto_safety.proofs.Store.WorldBooks.{books_hold}
use Rattle.proto_safety.proofs.Messages.WorldNonces.{config_msgs}
use Rattle.proto_safety.proofs.Nodes.WorldSays.{AllSay, all_say}
use Rattle.proto_safety.proofs.Basics.Eachs.{each_append, each_if, each_in, each_map, each_take}
use Rattle.proto_safety.proofs.Basics.Lists.{at_past, get-set_same, prefix_at}
use Rattle.proto_safety.proofs.Basics.Members.{at_behind}

-- ---- an Alarm's messages carry nothing

abbrev Empty : Msg → Type 0
Empty m = load_of m.body ≡ None

ask_empty : (s : Switch) (now : ℕ) (key : Key) (lease : Lease) → Each Empty (repeated_ask s now key lease)
ask_empty s now key (Asking nonce first) = each_if Empty (is_young s.terms.t_switch first now) _ [] (refl, tt) tt
ask_empty s now key _ = tt

asks_empty : (s : Switch) (now : ℕ) (slots : Table Slot) → Each Empty (repeated_asks s now slots)
asks_empty s now [] = tt
asks_empty s now (e ∷ es) = each_append Empty (repeated_ask s now e.0 e.1.lease) _ (ask_empty s now e.0 e.1.lease) (asks_empty s now es)

walk_empty : (now : ℕ) → WalkKeeps now (λ w. Each Empty w.sent)
walk_empty now =
    record {
      puts = λ w key slot nonce epoch expiry at is mode none h. each_append Empty w.sent _ h (refl, tt);
      goes_on = λ w key slot nonce epoch expiry r at is bound mode o h. each_append Empty w.sent _ h (refl, tt);
      begins = λ w key slot nonce epoch expiry at is bound mode o h. each_append Empty w.sent _ h (refl, tt);
    }

alarm_empty : (s : Switch) (now : ℕ) → Each Empty (alarm s now).1.sent
alarm_empty s now =
    walk_kept now (λ w. Each Empty w.sent) (walk_empty now) (walk_order s.walked (map (λ (e : Key × Slot). e.0) s.slots)) _
    (each_take Empty 64 _ (each_append Empty _ (repeated_asks s now s.slots) (each_map Empty (resent_put s) _ (λ c. refl)) (asks_empty s now s.slots)))

-- ---- a Put with an output

-- the step sent this Put alone, and the output's mark came last into the flow's `held` ring
pub record PutWaits (step : SwitchStep) (m : Msg) (key : Key) (mark : ℕ) : Type 0 where
  pub slot : Slot
  pub found : slot_at step.0 key ≡ Some slot
  pub ring : Ring
  pub held : slot.held ≡ remember ring mark
  pub only : step.1.sent ≡ m ∷ []

no_late : (s : Switch) (now : ℕ) (key : Key) (slot : Slot) (mark : Option ℕ) (m : Msg) → In (perform s now (Late key slot mark)).1.sent m → ⊥
no_late s now key slot None m i = i
no_late s now key slot (Some n) m i = i

row_waits : (s : Switch) (now : ℕ) (row : SwitchRow) (m : Msg) (inc epoch number : ℕ) (key : Key) (delta : Delta) (c : Carried) → In (perform s now row).1.sent m → m.body ≡ Body.Put inc epoch number key delta (Some c) → PutWaits (perform s now row) m key c.mark
row_waits s now (NewAsk k slot packet) m inc epoch number key delta c (inl e) is = let no : Body.Ask s.inc (s.nonces + 1) k (Some (record { mark = packet.mark; port = packet.port; bytes = packet.bytes })) ≡ Body.Put inc epoch number key delta (Some c) = ap (λ (x : Msg). x.body) e ∙ is in cc
row_waits s now (AskAgain k slot nonce packet) m inc epoch number key delta c (inl e) is = let no : Body.Ask s.inc nonce k (Some (record { mark = packet.mark; port = packet.port; bytes = packet.bytes })) ≡ Body.Put inc epoch number key delta (Some c) = ap (λ (x : Msg). x.body) e ∙ is in cc
row_waits s now (Mirrored k slot e mark d None) m inc epoch number key delta c (inl q) is = let no : Body.Put s.inc e (slot.last + 1) k d None ≡ Body.Put inc epoch number key delta (Some c) = ap (λ (x : Msg). x.body) q ∙ is in cc
row_waits s now (Mirrored k slot e mark d (Some out)) m inc epoch number key delta c (inl q) is =
    let same : Body.Put s.inc e (slot.last + 1) k d (Some (carried_output out)) ≡ Body.Put inc epoch number key delta (Some c) = ap (λ (x : Msg). x.body) q ∙ is in
    let of : k ≡ key = cc in
    let load : carried_output out ≡ c = cc in
    subst (λ (x : Key). PutWaits (perform s now (Mirrored k slot e mark d (Some out))) m x c.mark) of
    (record { slot = _; found = get-put_same s.slots k _; ring = slot.held; held = ap (λ (x : Carried). remember slot.held x.mark) load; only = ap (λ x. x ∷ []) q })
row_waits s now (Late k slot mark) m inc epoch number key delta c i is = absurd (no_late s now k slot mark m i)
row_waits s now Resends m inc epoch number key delta c i is =
    let none : load_of m.body ≡ None = each_in Empty (alarm s now).1.sent m (alarm_empty s now) i in
    let no : None ≡ Some c = sym none ∙ ap load_of is in cc
row_waits s now (NewAsk k slot packet) m inc epoch number key delta c (inr i) is = absurd i
row_waits s now (AskAgain k slot nonce packet) m inc epoch number key delta c (inr i) is = absurd i
row_waits s now (Mirrored k slot e mark d out) m inc epoch number key delta c (inr i) is = absurd i
row_waits s now _ m inc epoch number key delta c i is = absurd i

pub put_waits : (app : Application) (s : Switch) (now : ℕ) (input : Input) (m : Msg) (inc epoch number : ℕ) (key : Key) (delta : Delta) (c : Carried) → In (switch_step app s now input).1.sent m → m.body ≡ Body.Put inc epoch number key delta (Some c) →
    PutWaits (switch_step app s now input) m key c.mark
put_waits app s now input m inc epoch number key delta c i is = row_waits (lapsed now s) now (switch_row app (lapsed now s) now input) m inc epoch number key delta c i is

-- ---- the step that sent it

-- switch s sent the message in the one step between these worlds
pub record Requested (app : Application) (w x : World) (s : ℕ) (m : Msg) : Type 0 where
  pub node : SwitchNode
  pub input : Input
  pub at : slice_get w.switches s ≡ Some node
  pub there : In (switch_step app node.state node.clock input).1.sent m
  pub says : SentNow (switch_step app node.state node.clock input).0 m
  pub me : node.state.me ≡ s
  pub frames_are : x.frames ≡ w.frames ++ (switch_step app node.state node.clock input).1.sent
  pub switch_is : slice_get x.switches s ≡ Some (record node { state = (switch_step app node.state node.clock input).0 })

no_forward : (m : Msg) → IsRequest m.body → (c : Config) × (m.body ≡ Body.Config c) → ⊥
no_forward m req c = subst (λ (b : Body). IsRequest b) c.1 req

no_request : (r : Replica) (es : List Entry) (from to : Node) (body : Body) → IsRequest body → SentBooks r es from to body → ⊥
no_request r es from to (Body.Ask inc nonce key load) req sent = sent
no_request r es from to (Body.Put inc epoch number key delta load) req sent = sent
no_request r es from to (Body.Snap inc epoch round key chunk chunks cells) req sent = sent
no_request r es from to _ req sent = req

did_request : (app : Application) (w x : World) (i s : ℕ) (m : Msg) → EventDid app w x → BooksHold w → AllSay w → slice_get x.frames i ≡ Some m → length w.frames ≤ i → m.from ≡ Node.Switch s → IsRequest m.body → Requested app w x s m
did_request app w x i s m (no_frames same) b h at le from req = absurd (at_past w.frames i m (subst (λ l. slice_get l i ≡ Some m) same at) le)
did_request app w x i s m (by_master v same) b h at le from req =
    let there : In (announcements v) m = at_behind v.frames (announcements v) i m at (omega (arith, ap length same.frames, le)) in
    absurd (no_forward m req (each_in (λ (x : Msg). (c : Config) × (x.body ≡ Body.Config c)) (announcements v) m (config_msgs v) there))
did_request app w x i s m (by_replica v n node input same is up comes) b h at le from req =
    let there : In (store_step node.state node.clock input).1.sent m = at_behind v.frames (store_step node.state node.clock input).1.sent i m at (omega (arith, ap length same.frames, le)) in
    let es : List Entry = entries_of (book_after node.clock v.event node.book (store_step node.state node.clock input).1.applied) in
    absurd
    (no_request (store_step node.state node.clock input).0 es m.from m.to m.body req
    (each_in (λ (x : Msg). SentBooks (store_step node.state node.clock input).0 es x.from x.to x.body) (store_step node.state node.clock input).1.sent m
    (step_sent node.state node.book node.clock v.event input (b.1.nodes n node is).stands) there))
did_request app w x i s m (by_switch v n node input same is) b h at le from req =
    let there : In (switch_step app node.state node.clock input).1.sent m = at_behind v.frames (switch_step app node.state node.clock input).1.sent i m at (omega (arith, ap length same.frames, le)) in
    let says : SentNow (switch_step app node.state node.clock input).0 m = each_in (SentNow (switch_step app node.state node.clock input).0) (switch_step app node.state node.clock input).1.sent m (step_says app node.state node.clock input (h n node is).tidy) there in
    let mine : Node.Switch (switch_step app node.state node.clock input).0.me ≡ Node.Switch s = sym says.0 ∙ from in
    let named : (switch_step app node.state node.clock input).0.me ≡ s = cc in
    let here : n ≡ s = sym (h n node is).me ∙ (sym (step_same app node.state node.clock input).me ∙ named) in
    record {
      node = node;
      input = input;
      at = ap (λ k. slice_get w.switches k) (sym here) ∙ is;
      there = there;
      says = says;
      me = (h n node is).me ∙ here;
      frames_are = ap (λ l. l ++ (switch_step app node.state node.clock input).1.sent) same.frames;
      switch_is =
          subst (λ k. slice_get (set v.switches n (record node { state = (switch_step app node.state node.clock input).0 })) k ≡ Some (record node { state = (switch_step app node.state node.clock input).0 })) here
          (get-set_same v.switches n node (record node { state = (switch_step app node.state node.clock input).0 }) (ap (λ l. slice_get l n) same.switches ∙ is));
    }

-- ---- frames of a run

-- the frame of a hop stands there once it is sent
pub frame_there : (r : Run) (c : Carried) (place : ℕ) (h : Hop) → SentAt r c place h → slice_get (before r (place + 1)).frames h.frame ≡ Some h.msg
frame_there r c place h s =
    let e = event_at r h.place (Delivers h.frame h.msg) s.delivered in
    let on = onward r (place + 1) h.place (omega (arith, s.later)) in
    prefix_at (before r (place + 1)).frames on.frames_on.rest h.frame h.msg s.sent (subst (λ l. slice_get l h.frame ≡ Some h.msg) (sym on.frames_on.is) e.fits.0)

-- a request of switch s was sent in its step
pub requested : (r : Run) (c : Carried) (place s : ℕ) (h : Hop) → SentAt r c place h → h.msg.from ≡ Node.Switch s → IsRequest h.msg.body → Requested r.app (before r place) (before r (place + 1)) s h.msg
requested r c place s h sent from req = act_case (act_at r place) refl
  where
    act_case : (o : Option Act) → act_at r place ≡ o → Requested r.app (before r place) (before r (place + 1)) s h.msg
    act_case None is = absurd (omega (arith, sent.not_before, sent.sent, ap (λ (w : World). length w.frames) (ended r place is)))
    act_case (Some act) is =
        let e = event_at r place act is in
        did_request r.app (before r place) (before r (place + 1)) h.frame s h.msg (subst (λ x. EventDid r.app (before r place) x) (sym (one_later r place e.event e.at)) (event_did r.app (before r place) e.event)) (books_hold r.app r.setup (take place r.events)) (all_say r.app r.setup (take place r.events))
        (frame_there r c place h sent) sent.not_before from req
