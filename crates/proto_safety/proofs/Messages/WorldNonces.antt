-- After every list of events: a slot's nonce was counted, and no Ask of its switch for its flow has a later incarnation and nonce.
use Rattle.std.proofs.Common.{◌≡◌, ◌≢◌, ◌⊎◌, ℕ, ◌+◌, ◌≤◌, List, [], ◌∷◌, ◌++◌, Option, Some, None, arith, refl, sym, ◌∙◌, ap, subst, true, false, Bool, inl, inr, map, set, slice_get, eq-eqb, eqb-true}
use Rattle.std.specs.Prelude.{◌==◌, if◌then◌else◌, nat_le, nat_lt, option_map}
use Rattle.std.proofs.lemmas.Bool.{both_ways}
use Rattle.rp_base.specs.declared.node.Node.{Node}
use Rattle.proto_data.specs.declared.message.Msg.{Msg}
use Rattle.proto_data.specs.declared.message.Body.{Body}
use Rattle.proto_data.specs.declared.message.Input.{Input}
use Rattle.proto_data.specs.declared.terms.Terms.{Terms}
use Rattle.rp_base.specs.declared.event.Event.{Event}
use Rattle.rp_app.specs.Application.{Application}
use Rattle.proto_model.specs.Feeds.{Each}
use Rattle.key_table.specs.Table.{Key}
use Rattle.proto_model.specs.Slot.{Slot, Lease, Idle, Asking, Held, Lapsed, lapsed_lease, lapsed_slot, extended, emptied}
use Rattle.proto_model.specs.SwitchState.{Switch, Item, slot_at, open_switch}
use Rattle.proto_model.specs.ReplicaState.{Replica}
use Rattle.proto_data.specs.declared.message.Entry.{Entry}
use Rattle.proto_data.specs.declared.message.Config.{Config}
use Rattle.proto_model.specs.SwitchOutcomes.{acked_lease}
use Rattle.proto_model.specs.SwitchRows.{switch_step}
use Rattle.proto_model.specs.ReplicaRows.{store_step}
use Rattle.proto_model.specs.World.{World, Setup, SwitchNode, opened, open_switch_node, below, running_switches, running_replicas}
use Rattle.proto_model.specs.WorldStep.{announcements, config_msg, world_after}
use Rattle.proto_safety.specs.Books.{In}
use Rattle.proto_safety.specs.LeaseLaws.{HasNonce, NonceAt, NotLater}
use Rattle.proto_safety.specs.Origins.{AskSent}
use Rattle.proto_safety.specs.SwitchSent.{SentNow, AsksNow, SaysNow}
use Rattle.proto_safety.proofs.Inductions.FlowMoves.{View, view, Move, Moves, none, more, elsewhere, lapses, asks, asks_again, takes_grant, forgets, direct, mirrored, acked, idles, resends, keeps_lease, snapped, round_done, sends_chunk, begins_round}
use Rattle.proto_safety.proofs.Inductions.FlowAlarm.{step_moves}
use Rattle.proto_safety.proofs.Inductions.FlowInduction.{step_same}
use Rattle.key_table.proofs.Tables.{same_some}
use Rattle.proto_safety.proofs.Nodes.SwitchSays.{step_says}
use Rattle.proto_safety.proofs.Nodes.SwitchNodes.{AllAt, all_changed, all_advanced, all_opened, all_weaker}
use Rattle.proto_safety.proofs.Nodes.WorldSays.{AllSay, says_kept, opened_say}
use Rattle.proto_safety.proofs.Store.StoreBooks.{SentBooks, Sent}
use Rattle.proto_safety.proofs.Store.BooksStep.{step_sent}
use Rattle.proto_safety.proofs.Store.WorldBooks.{books_kept, books_hold}
use Rattle.proto_safety.specs.Books.{BooksHold}
use Rattle.proto_safety.proofs.Inductions.Induction.{Keeps, KeepsGiven, keeps_all, keeps_both, run_kept}
use Rattle.proto_safety.proofs.Basics.Eachs.{each_append, each_in, each_map, each_weaker}
use Rattle.proto_safety.proofs.Basics.Lists.{at_set}
use Rattle.proto_safety.proofs.Basics.Members.{in_append}

-- the Asks of this incarnation for the flow
pub record FlowNonces (frames : List Msg) (n inc : ℕ) (key : Key) (v : View) : Type 0 where
  pub counted : (k : ℕ) → NonceAt v.slot k → k ≤ v.nonces
  pub sent : (nonce : ℕ) → AskSent frames n inc nonce key → nonce ≤ v.nonces
  pub greatest : (nonce k : ℕ) → AskSent frames n inc nonce key → NonceAt v.slot k → nonce ≤ k

-- ---- moves

-- a move that brings no nonce
quiet : (frames : List Msg) (n inc : ℕ) (key : Key) (v u : View) → v.nonces ≤ u.nonces → ((k : ℕ) → NonceAt u.slot k → NonceAt v.slot k) → FlowNonces frames n inc key v → FlowNonces frames n inc key u
quiet frames n inc key v u le old h =
    record {
      counted = λ k a. omega (arith, h.counted k (old k a));
      sent = λ nonce a. omega (arith, h.sent nonce a);
      greatest = λ nonce k a b. h.greatest nonce k a (old k b);
    }

same_slot : (o : Option Slot) (old new : Slot) (k : ℕ) → o ≡ Some old → (HasNonce new.lease k → HasNonce old.lease k) → NonceAt (Some new) k → NonceAt o k
same_slot o old new k at f a =
    let same : new ≡ a.slot = cc a.found in record { slot = old; found = at; nonce = f (subst (λ (s : Slot). HasNonce s.lease k) (sym same) a.nonce) }

lapsed_nonce : (now : ℕ) (l : Lease) (k : ℕ) → HasNonce (lapsed_lease now l) k → HasNonce l k
lapsed_nonce now (Held nonce epoch expiry) k h = held_case (nat_le expiry now) h
  where
    held_case : (b : Bool) → HasNonce (if b then Lapsed nonce epoch expiry else Held nonce epoch expiry) k → nonce ≡ k
    held_case true h = h
    held_case false h = h
lapsed_nonce now Idle k h = h
lapsed_nonce now (Asking nonce first) k h = h
lapsed_nonce now (Lapsed nonce epoch expiry) k h = h

extended_nonce : (t now at : ℕ) (l : Lease) (k : ℕ) → HasNonce (extended t now at l) k → HasNonce l k
extended_nonce t now at (Lapsed nonce epoch expiry) k h = renew_case (nat_lt now (at + t)) h
  where
    renew_case : (b : Bool) → HasNonce (if b then Held nonce epoch (at + t) else Lapsed nonce epoch expiry) k → nonce ≡ k
    renew_case true h = h
    renew_case false h = h
extended_nonce t now at Idle k h = h
extended_nonce t now at (Asking nonce first) k h = h
extended_nonce t now at (Held nonce epoch expiry) k h = h

acked_nonce : (t now : ℕ) (l : Lease) (o : Option (ℕ × ℕ)) (k : ℕ) → HasNonce (acked_lease t now l o) k → HasNonce l k
acked_nonce t now l None k h = h
acked_nonce t now l (Some best) k h = extended_nonce t now best.1 l k h

lapsed_slots : (now : ℕ) (o : Option Slot) (k : ℕ) → NonceAt (option_map (lapsed_slot now) o) k → NonceAt o k
lapsed_slots now None k a = let no : None ≡ Some a.slot = a.found in cc
lapsed_slots now (Some slot) k a = same_slot (Some slot) slot (lapsed_slot now slot) k refl (lapsed_nonce now slot.lease k) a

nonces_move : (app : Application) (frames : List Msg) (n inc : ℕ) (terms : Terms) (now : ℕ) (input : Input) (key : Key) (v u : View) (items : List Item) → Move app inc terms now input key v items u → FlowNonces frames n inc key v → FlowNonces frames n inc key u
nonces_move app frames n inc terms now input key v u items (elsewhere le) h = quiet frames n inc key v _ le (λ k a. a) h
nonces_move app frames n inc terms now input key v u items lapses h = quiet frames n inc key v _ (omega arith) (λ k a. lapsed_slots now v.slot k a) h
nonces_move app frames n inc terms now input key v u items (asks {p = p} slot came of) h =
    record {
      counted = λ k a. let e : v.nonces + 1 ≡ k = own k a in omega arith;
      sent = λ nonce a. omega (arith, h.sent nonce a);
      greatest = λ nonce k a b. let e : v.nonces + 1 ≡ k = own k b in omega (arith, h.sent nonce a);
    }
  where
    own_lease : (s x : Slot) (first k : ℕ) → s.lease ≡ Asking (v.nonces + 1) first → s ≡ x → HasNonce x.lease k → v.nonces + 1 ≡ k
    own_lease s x first k l same a = subst (λ (y : Lease). HasNonce y k) l (subst (λ (y : Slot). HasNonce y.lease k) (sym same) a)

    own : (k : ℕ) → NonceAt u.slot k → v.nonces + 1 ≡ k
    own k a = own_lease (record (emptied slot (Asking (v.nonces + 1) now)) { asked = Some p.mark ∷ [] }) a.slot now k refl (cc a.found) a.nonce
nonces_move app frames n inc terms now input key v u items (asks_again {slot = slot} came of at is young) h = quiet frames n inc key v _ (omega arith) (λ k a. same_slot v.slot slot _ k at (λ b. b) a) h
nonces_move app frames n inc terms now input key v u items (takes_grant {slot = slot} came whole at is young) h = quiet frames n inc key v _ (omega arith) (λ k a. same_slot v.slot slot _ k at (λ b. rw is b) a) h
nonces_move app frames n inc terms now input key v u items (forgets {slot = slot} mark at) h = quiet frames n inc key v _ (omega arith) (λ k a. same_slot v.slot slot _ k at (λ b. b) a) h
nonces_move app frames n inc terms now input key v u items (direct {slot = slot} b at is mode e clean alone) h = quiet frames n inc key v _ (omega arith) (λ k a. same_slot v.slot slot _ k at (λ b. b) a) h
nonces_move app frames n inc terms now input key v u items (mirrored {slot = slot} b at is mode e) h = quiet frames n inc key v _ (omega arith) (λ k a. same_slot v.slot slot _ k at (λ b. b) a) h
nonces_move app frames n inc terms now input key v u items (acked {slot = slot} came mode at of) h = quiet frames n inc key v _ (omega arith) (λ k a. same_slot v.slot slot _ k at (λ b. acked_nonce terms.t_switch now slot.lease _ k b) a) h
nonces_move app frames n inc terms now input key v u items (idles {slot = slot} at) h = quiet frames n inc key v _ (omega arith) (λ k a. same_slot v.slot slot _ k at (λ b. absurd b) a) h
nonces_move app frames n inc terms now input key v u items (resends same) h = quiet frames n inc key v _ (omega arith) (λ k a. a) h
nonces_move app frames n inc terms now input key v u items (keeps_lease {slot = slot} mode at is alone) h = quiet frames n inc key v _ (omega arith) (λ k a. same_slot v.slot slot _ k at (λ b. b) a) h
nonces_move app frames n inc terms now input key v u items (snapped {slot = slot} b at is mode e young) h = quiet frames n inc key v _ (omega arith) (λ k a. same_slot v.slot slot _ k at (λ b. b) a) h
nonces_move app frames n inc terms now input key v u items (round_done {slot = slot} {r = r} came mode at of is m) h = quiet frames n inc key v _ (omega arith) (λ k a. same_slot v.slot slot _ k at (λ b. extended_nonce terms.t_switch now r.begun slot.lease k b) a) h
nonces_move app frames n inc terms now input key v u items (sends_chunk {slot = slot} at is r) h = quiet frames n inc key v _ (omega arith) (λ k a. same_slot v.slot slot _ k at (λ b. b) a) h
nonces_move app frames n inc terms now input key v u items (begins_round {slot = slot} at is mode r) h = quiet frames n inc key v _ (omega arith) (λ k a. same_slot v.slot slot _ k at (λ b. b) a) h

moves_nonces : (app : Application) (frames : List Msg) (n inc : ℕ) (terms : Terms) (now : ℕ) (input : Input) (key : Key) (v u : View) (items : List Item) → Moves app inc terms now input key v items u → FlowNonces frames n inc key v → FlowNonces frames n inc key u
moves_nonces app frames n inc terms now input key v _ _ none h = h
moves_nonces app frames n inc terms now input key v u _ (more {js = js} {ks = ks} {w = w} ms m) h = nonces_move app frames n inc terms now input key w u ks m (moves_nonces app frames n inc terms now input key v w js ms h)

-- ---- more frames

-- the Asks of a switch among more frames
ask_parts : (frames ms : List Msg) (n inc nonce : ℕ) (key : Key) → AskSent (frames ++ ms) n inc nonce key → AskSent frames n inc nonce key ⊎ AskSent ms n inc nonce key
ask_parts frames ms n inc nonce key a = parts_case (in_append frames ms a.msg a.there)
  where
    parts_case : In frames a.msg ⊎ In ms a.msg → AskSent frames n inc nonce key ⊎ AskSent ms n inc nonce key
    parts_case (inl i) = inl (record { msg = a.msg; there = i; from_is = a.from_is; load = a.load; body_is = a.body_is })
    parts_case (inr i) = inr (record { msg = a.msg; there = i; from_is = a.from_is; load = a.load; body_is = a.body_is })

pub record NodeNonces (frames : List Msg) (n : ℕ) (node : SwitchNode) : Type 0 where
  pub incs : (inc nonce : ℕ) (key : Key) → AskSent frames n inc nonce key → inc ≤ node.state.inc
  pub flows : (key : Key) → FlowNonces frames n node.state.inc key (view key node.state)

-- messages among which there are no Asks of this switch
no_asks : (frames ms : List Msg) (n : ℕ) (node : SwitchNode) → ((inc nonce : ℕ) (key : Key) → AskSent ms n inc nonce key → ⊥) → NodeNonces frames n node → NodeNonces (frames ++ ms) n node
no_asks frames ms n node not h =
    record {
      incs = λ inc nonce key a. incs_case inc nonce key (ask_parts frames ms n inc nonce key a);
      flows = λ key.
          record {
            counted = (h.flows key).counted;
            sent = λ nonce a. sent_case key nonce (ask_parts frames ms n node.state.inc nonce key a);
            greatest = λ nonce k a b. greatest_case key nonce k b (ask_parts frames ms n node.state.inc nonce key a);
          };
    }
  where
    incs_case : (inc nonce : ℕ) (key : Key) → AskSent frames n inc nonce key ⊎ AskSent ms n inc nonce key → inc ≤ node.state.inc
    incs_case inc nonce key (inl a) = h.incs inc nonce key a
    incs_case inc nonce key (inr a) = absurd (not inc nonce key a)

    sent_case : (key : Key) (nonce : ℕ) → AskSent frames n node.state.inc nonce key ⊎ AskSent ms n node.state.inc nonce key → nonce ≤ node.state.nonces
    sent_case key nonce (inl a) = (h.flows key).sent nonce a
    sent_case key nonce (inr a) = absurd (not node.state.inc nonce key a)

    greatest_case : (key : Key) (nonce k : ℕ) → NonceAt (slot_at node.state key) k → AskSent frames n node.state.inc nonce key ⊎ AskSent ms n node.state.inc nonce key → nonce ≤ k
    greatest_case key nonce k b (inl a) = (h.flows key).greatest nonce k a b
    greatest_case key nonce k b (inr a) = absurd (not node.state.inc nonce key a)

-- messages of another switch
of_other : (ms : List Msg) (m n inc nonce : ℕ) (key : Key) → Each (λ (x : Msg). x.from ≡ Node.Switch m) ms → m ≢ n → AskSent ms n inc nonce key → ⊥
of_other ms m n inc nonce key h ne a = let f : a.msg.from ≡ Node.Switch m = each_in (λ (x : Msg). x.from ≡ Node.Switch m) ms a.msg h a.there in ne (cc (sym f ∙ a.from_is))

-- an Ask that the switch just sent has its slot's nonce
asked_now : (ms : List Msg) (node : SwitchNode) (n inc nonce : ℕ) (key : Key) → Each (SentNow node.state) ms → AskSent ms n inc nonce key → AsksNow node.state inc nonce key
asked_now ms node n inc nonce key h a =
    let s : SentNow node.state a.msg = each_in (SentNow node.state) ms a.msg h a.there in
    subst (λ (b : Body). SaysNow node.state b) a.body_is s.1

nonce_is : (s : Switch) (inc nonce k : ℕ) (key : Key) → AsksNow s inc nonce key → NonceAt (slot_at s key) k → nonce ≡ k
nonce_is s inc nonce k key a b =
    let same : a.slot ≡ b.slot = same_some (slot_at s key) a.slot b.slot a.found b.found in
    subst (λ (l : Lease). HasNonce l k) a.asking (subst (λ (x : Slot). HasNonce x.lease k) (sym same) b.nonce)

own_asks : (frames ms : List Msg) (n : ℕ) (node : SwitchNode) → Each (SentNow node.state) ms → NodeNonces frames n node → NodeNonces (frames ++ ms) n node
own_asks frames ms n node says h =
    record {
      incs = λ inc nonce key a. incs_case inc nonce key (ask_parts frames ms n inc nonce key a);
      flows = λ key.
          record {
            counted = (h.flows key).counted;
            sent = λ nonce a. sent_case key nonce (ask_parts frames ms n node.state.inc nonce key a);
            greatest = λ nonce k a b. greatest_case key nonce k b (ask_parts frames ms n node.state.inc nonce key a);
          };
    }
  where
    incs_case : (inc nonce : ℕ) (key : Key) → AskSent frames n inc nonce key ⊎ AskSent ms n inc nonce key → inc ≤ node.state.inc
    incs_case inc nonce key (inl a) = h.incs inc nonce key a
    incs_case inc nonce key (inr a) = omega (arith, (asked_now ms node n inc nonce key says a).here)

    sent_case : (key : Key) (nonce : ℕ) → AskSent frames n node.state.inc nonce key ⊎ AskSent ms n node.state.inc nonce key → nonce ≤ node.state.nonces
    sent_case key nonce (inl a) = (h.flows key).sent nonce a
    sent_case key nonce (inr a) =
        let k = asked_now ms node n node.state.inc nonce key says a in
        (h.flows key).counted nonce (record { slot = k.slot; found = k.found; nonce = rw k.asking refl })

    greatest_case : (key : Key) (nonce k : ℕ) → NonceAt (slot_at node.state key) k → AskSent frames n node.state.inc nonce key ⊎ AskSent ms n node.state.inc nonce key → nonce ≤ k
    greatest_case key nonce k b (inl a) = (h.flows key).greatest nonce k a b
    greatest_case key nonce k b (inr a) = let e : nonce ≡ k = nonce_is node.state node.state.inc nonce k key (asked_now ms node n node.state.inc nonce key says a) b in omega arith

-- ---- the world

abbrev pub AllNonces : World → Type 0
AllNonces w = AllAt (NodeNonces w.frames) w.switches

step_nonces : (app : Application) (frames : List Msg) (n : ℕ) (node : SwitchNode) (input : Input) → NodeNonces frames n node → NodeNonces frames n (record node { state = (switch_step app node.state node.clock input).0 })
step_nonces app frames n node input h =
    let same = step_same app node.state node.clock input in
    record {
      incs = λ inc nonce key a. omega (arith, h.incs inc nonce key a, same.inc);
      flows = λ key.
          subst (λ i. FlowNonces frames n i key (view key (switch_step app node.state node.clock input).0)) (sym same.inc)
          (moves_nonces app frames n node.state.inc node.state.terms node.clock input key (view key node.state) (view key (switch_step app node.state node.clock input).0) _ (step_moves app node.state node.clock input key) (h.flows key));
    }

-- one switch's step, with its messages
set_nonces : (frames ms : List Msg) (nodes : List SwitchNode) (n : ℕ) (new : SwitchNode) → new.state.me ≡ n → Each (SentNow new.state) ms → NodeNonces frames n new → AllAt (NodeNonces frames) nodes → AllAt (NodeNonces (frames ++ ms)) (set nodes n new)
set_nonces frames ms nodes n new me says own h m other is = node_case (at_set nodes n m new other is)
  where
    node_case : ((m ≡ n) × (other ≡ new)) ⊎ ((m ≢ n) × (slice_get nodes m ≡ Some other)) → NodeNonces (frames ++ ms) m other
    node_case (inl p) = rw (p.0, p.1) (own_asks frames ms n new says own)
    node_case (inr p) =
        no_asks frames ms m other
        (λ inc nonce key a.
        of_other ms n m inc nonce key (each_weaker (SentNow new.state) (λ (x : Msg). x.from ≡ Node.Switch n) ms (λ x k. k.0 ∙ ap Node.Switch me) says) (λ e. p.0 (sym e)) a)
        (h m other p.1)

switch_nonces : (app : Application) (w : World) (n : ℕ) (node : SwitchNode) (input : Input) → slice_get w.switches n ≡ Some node → AllSay w → AllNonces w →
    AllAt (NodeNonces (w.frames ++ (switch_step app node.state node.clock input).1.sent)) (set w.switches n (record node { state = (switch_step app node.state node.clock input).0 }))
switch_nonces app w n node input at say h =
    set_nonces w.frames (switch_step app node.state node.clock input).1.sent w.switches n (record node { state = (switch_step app node.state node.clock input).0 })
    ((step_same app node.state node.clock input).me ∙ (say n node at).me)
    (step_says app node.state node.clock input (say n node at).tidy)
    (step_nonces app w.frames n node input (h n node at)) h

-- a message that a replica sent is no Ask
no_ask_sent : (r : Replica) (es : List Entry) (ms : List Msg) (n inc nonce : ℕ) (key : Key) → Sent r es ms → AskSent ms n inc nonce key → ⊥
no_ask_sent r es ms n inc nonce key h a =
    subst (λ (b : Body). SentBooks r es a.msg.from a.msg.to b) a.body_is (each_in (λ (m : Msg). SentBooks r es m.from m.to m.body) ms a.msg h a.there)

pub config_msgs : (w : World) → Each (λ (m : Msg). (c : Config) × (m.body ≡ Body.Config c)) (announcements w)
config_msgs w =
    each_append (λ (m : Msg). (c : Config) × (m.body ≡ Body.Config c)) (map (λ n. config_msg w (Node.Switch n)) (running_switches w)) _
    (each_map (λ (m : Msg). (c : Config) × (m.body ≡ Body.Config c)) (λ n. config_msg w (Node.Switch n)) (running_switches w) (λ n. (w.config, refl)))
    (each_map (λ (m : Msg). (c : Config) × (m.body ≡ Body.Config c)) (λ n. config_msg w (Node.Replica n)) (running_replicas w) (λ n. (w.config, refl)))

no_ask_announced : (w : World) (n inc nonce : ℕ) (key : Key) → AskSent (announcements w) n inc nonce key → ⊥
no_ask_announced w n inc nonce key a =
    let c : (c : Config) × (a.msg.body ≡ Body.Config c) = each_in (λ (m : Msg). (c : Config) × (m.body ≡ Body.Config c)) (announcements w) a.msg (config_msgs w) a.there in cc (sym c.1 ∙ a.body_is)

booted_nonces : (frames : List Msg) (n : ℕ) (node : SwitchNode) (terms : Terms) (config : Config) → NodeNonces frames n node → NodeNonces frames n (record node { runs = true; state = open_switch node.state.me (node.state.inc + 1) terms config })
booted_nonces frames n node terms config h =
    record {
      incs = λ inc nonce key a. omega (arith, h.incs inc nonce key a);
      flows = λ key.
          record {
            counted = λ k a. let no : None ≡ Some a.slot = a.found in cc;
            sent = λ nonce a. let old : node.state.inc + 1 ≤ node.state.inc = h.incs (node.state.inc + 1) nonce key a in absurd (omega arith);
            greatest = λ nonce k a b. let no : None ≡ Some b.slot = b.found in cc;
          };
    }

abbrev pub Spoken : World → Type 0
Spoken w = BooksHold w × AllSay w

pub spoken_kept : (app : Application) → Keeps app Spoken
spoken_kept app = keeps_all app BooksHold AllSay (books_kept app) (says_kept app)

pub nonces_kept : (app : Application) → KeepsGiven app Spoken AllNonces
nonces_kept app =
    record {
      counts = λ w g h. h;
      passes = λ w i g h. h;
      feeds = λ w n node p at up mark g h. switch_nonces app w n node (Input.Packet p) at g.1 h;
      switches = λ w n node input at up from g h. switch_nonces app w n node input at g.1 h;
      replicas = λ w n node input at up from g h.
          all_weaker (NodeNonces w.frames) (NodeNonces (w.frames ++ (store_step node.state node.clock input).1.sent)) w.switches
          (λ m x k.
          no_asks w.frames (store_step node.state node.clock input).1.sent m x
          (λ inc nonce key a.
          no_ask_sent (store_step node.state node.clock input).0 _ (store_step node.state node.clock input).1.sent m inc nonce key (step_sent node.state node.book node.clock w.event input (g.0.1.nodes n node at).stands) a) k) h;
      advances = λ w by fits g h. all_advanced (NodeNonces w.frames) w.switches by (λ m d x k. record { incs = k.incs; flows = k.flows }) h;
      stops_switch = λ w n fits g h. all_changed (NodeNonces w.frames) w.switches n _ (λ m x k. record { incs = k.incs; flows = k.flows }) h;
      stops_replica = λ w n fits g h. h;
      boots = λ w n down g h. all_changed (NodeNonces w.frames) w.switches n _ (λ m x k. booted_nonces w.frames m x w.terms w.config k) h;
      detects_switch = λ w n fits g h. all_changed (NodeNonces w.frames) w.switches n _ (λ m x k. record { incs = k.incs; flows = k.flows }) h;
      detects_replica = λ w n fits g h. h;
      announces = λ w g h.
          all_weaker (NodeNonces w.frames) (NodeNonces (w.frames ++ announcements w)) w.switches
          (λ m x k. no_asks w.frames (announcements w) m x (λ inc nonce key a. no_ask_announced w m inc nonce key a) k) h;
    }

opened_nonces : (setup : Setup) → AllAt (NodeNonces []) (map (open_switch_node setup) (below setup.switches))
opened_nonces setup =
    all_opened (NodeNonces []) setup
    (λ n.
    record {
      incs = λ inc nonce key a. absurd a.there;
      flows = λ key.
          record {
            counted = λ k a. let no : None ≡ Some a.slot = a.found in cc;
            sent = λ nonce a. absurd a.there;
            greatest = λ nonce k a b. absurd a.there;
          };
    })

pub all_nonces : (app : Application) (setup : Setup) (es : List Event) → AllNonces (world_after app (opened app.cell_count setup) es)
all_nonces app setup es =
    (run_kept app (λ w. Spoken w × AllNonces w) (keeps_both app Spoken AllNonces (spoken_kept app) (nonces_kept app)) es (opened app.cell_count setup)
    ((books_hold app setup [], opened_say app.cell_count setup), opened_nonces setup)).1

-- a slot has the greatest (incarnation, nonce) of its switch's Asks for the flow
pub greatest_ask : (w : World) (n inc nonce k : ℕ) (key : Key) (node : SwitchNode) → AllNonces w → slice_get w.switches n ≡ Some node → NonceAt (slot_at node.state key) k → AskSent w.frames n inc nonce key → NotLater inc nonce node.state.inc k
greatest_ask w n inc nonce k key node h at b a = inc_case (inc == node.state.inc) refl
  where
    inc_case : (t : Bool) → (inc == node.state.inc) ≡ t → NotLater inc nonce node.state.inc k
    inc_case true is =
        let same : inc ≡ node.state.inc = eqb-true inc node.state.inc is in
        inr (same, ((h n node at).flows key).greatest nonce k (subst (λ i. AskSent w.frames n i nonce key) same a) b)
    inc_case false is =
        let ne : (inc ≡ node.state.inc → ⊥) = λ q. both_ways _ is (eq-eqb inc node.state.inc q) in
        inl (omega (arith, (h n node at).incs inc nonce key a))
