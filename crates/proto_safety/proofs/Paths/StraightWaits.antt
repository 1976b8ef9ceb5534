-- While a straight path goes on, the mark of its Put waits in the slot's `held` ring.
use Rattle.std.proofs.Common.{◌≡◌, ◌≢◌, ℕ, ◌+◌, ◌-◌, ◌≤◌, ◌<◌, List, [], ◌∷◌, ◌++◌, length, drop, filter, Option, Some, None, arith, refl, sym, ap, ◌∙◌, subst, inl, inr, true, false, Bool, slice_get, zero, suc, length-append, eqb-true}
use Rattle.std.specs.Prelude.{◌==◌, ◌&&◌, option_and_then}
use Rattle.std.proofs.lemmas.Bool.{false≢true}
use Rattle.std.proofs.lemmas.List.{drop-append-le}
use Rattle.std.proofs.lemmas.List.Elements.{filter-append}
use Rattle.rp_base.specs.declared.node.Output.{Output}
use Rattle.proto_data.specs.declared.message.Msg.{Msg}
use Rattle.proto_data.specs.declared.message.Body.{Body}
use Rattle.proto_data.specs.declared.message.Input.{Input}
use Rattle.proto_data.specs.declared.message.Carried.{Carried}
use Rattle.rp_app.specs.Application.{Application, Delta}
use Rattle.proto_data.specs.Carrying.{carried_output, output_of}
use Rattle.proto_model.specs.Effects.{added}
use Rattle.proto_model.specs.Feeds.{Each}
use Rattle.proto_model.specs.Ring.{remembers}
use Rattle.proto_model.specs.Runs.{Run, before, act_at}
use Rattle.proto_model.specs.Slot.{Slot}
use Rattle.proto_model.specs.Straight.{Hop, Hops, StraightPut, is_calm, slot_of, owns, later_marks, enters_held, from_switch}
use Rattle.proto_model.specs.SwitchRow.{has_epoch}
use Rattle.proto_model.specs.SwitchRows.{switch_step}
use Rattle.proto_model.specs.SwitchState.{slot_at}
use Rattle.key_table.specs.Table.{Key}
use Rattle.proto_model.specs.World.{World, SwitchNode}
use Rattle.rp_base.specs.declared.legality.Released.{Released}
use Rattle.proto_model.specs.WorldStep.{Act}
use Rattle.proto_safety.specs.Books.{In, IsPrefix}
use Rattle.proto_safety.proofs.Inductions.FlowInduction.{step_same}
use Rattle.proto_safety.proofs.Packets.HeldRings.{Waits, waits_there, waits_longer, waits_last, waits_pushed, waits_forgotten, entered, HeldWas, stays, gains, loses, given_up, step_held}
use Rattle.proto_safety.proofs.Inductions.RunSteps.{event_at, ended, Onward, onward, at_between, CameTo, rests, steps, came_to}
use Rattle.proto_safety.proofs.Leasing.SlotFirsts.{has_leased}
use Rattle.proto_safety.proofs.Paths.StraightStart.{requested, put_waits}
use Rattle.proto_safety.proofs.Nodes.SwitchSends.{IsRequest}
use Rattle.key_table.proofs.Tables.{same_some}
use Rattle.proto_safety.proofs.Basics.Eachs.{each_front, each_in}
use Rattle.proto_safety.proofs.Basics.Members.{to_append}

-- ---- lists

entered_more : (s : ℕ) (key : Key) (xs ys : List Msg) → entered s key (xs ++ ys) ≡ entered s key xs + entered s key ys
entered_more s key xs ys =
    ap length (filter-append (λ (m : Msg). from_switch s m.from && enters_held key m.from m.body) xs ys)
    ∙ length-append (filter (λ (m : Msg). from_switch s m.from && enters_held key m.from m.body) xs) (filter (λ (m : Msg). from_switch s m.from && enters_held key m.from m.body) ys)

-- later marks, with more frames
marks_more : (s : ℕ) (key : Key) (frame : ℕ) (xs ys : List Msg) → frame < length xs → entered s key (drop (frame + 1) (xs ++ ys)) ≡ entered s key (drop (frame + 1) xs) + entered s key ys
marks_more s key frame xs ys lt = ap (entered s key) (drop-append-le (frame + 1) xs ys (omega (arith, lt))) ∙ entered_more s key (drop (frame + 1) xs) ys

-- ---- one event

-- the mark waits in the slot, with no more places behind it than later marks entered
pub record MarkWaits (w : World) (s : ℕ) (key : Key) (frame mark : ℕ) : Type 0 where
  pub node : SwitchNode
  pub at : slice_get w.switches s ≡ Some node
  pub me : node.state.me ≡ s
  pub slot : Slot
  pub found : slot_at node.state key ≡ Some slot
  pub waits : Waits slot.held mark (later_marks w s key frame)
  pub sent : frame < length w.frames

-- a slot that owns an epoch
pub owner_slot : (epoch : ℕ) (o : Option Slot) → owns epoch o ≡ true → (v : Slot) × ((o ≡ Some v) × (has_epoch v.lease epoch ≡ true))
owner_slot epoch None h = absurd (false≢true h)
owner_slot epoch (Some v) h = (v, (refl, h))

-- the slot of a switch that stands there
pub slot_there : (w : World) (s : ℕ) (key : Key) (node : SwitchNode) → slice_get w.switches s ≡ Some node → slot_of w s key ≡ slot_at node.state key
slot_there w s key node at = ap (λ o. option_and_then (λ (x : SwitchNode). slot_at x.state key) o) at

module _ (app : Application) (w x : World) (s : ℕ) (key : Key) (frame mark epoch : ℕ) (h : MarkWaits w s key frame mark) (owned : owns epoch (slot_of x s key) ≡ true) (few : later_marks x s key frame < 64)
    (waits : Each (λ (y : Released). y.output.mark ≢ mark) x.history.released) where
  rested : (other : SwitchNode) → slice_get x.switches s ≡ Some other → other.state ≡ h.node.state → IsPrefix w.frames x.frames → MarkWaits x s key frame mark
  rested other at same on =
      let more : later_marks x s key frame ≡ later_marks w s key frame + entered s key on.rest = ap (λ l. entered s key (drop (frame + 1) l)) (sym on.is) ∙ marks_more s key frame w.frames on.rest h.sent in
      record {
        node = other;
        at = at;
        me = ap (λ t. t.me) same ∙ h.me;
        slot = h.slot;
        found = ap (λ t. slot_at t key) same ∙ h.found;
        waits = waits_longer (omega (arith, more)) h.waits;
        sent = omega (arith, h.sent, ap length (sym on.is), length-append w.frames on.rest);
      }

  module _ (input : Input) (at : slice_get x.switches s ≡ Some (record h.node { state = (switch_step app h.node.state h.node.clock input).0 })) (frames : x.frames ≡ w.frames ++ (switch_step app h.node.state h.node.clock input).1.sent)
      (released : x.history.released ≡ w.history.released ++ added (λ (o : Output). record { event = x.event; output = o }) (switch_step app h.node.state h.node.clock input).1.released) where
    more : later_marks x s key frame ≡ later_marks w s key frame + entered s key (switch_step app h.node.state h.node.clock input).1.sent
    more = ap (λ l. entered s key (drop (frame + 1) l)) frames ∙ marks_more s key frame w.frames (switch_step app h.node.state h.node.clock input).1.sent h.sent

    with_ring : (v : Slot) → slot_at (switch_step app h.node.state h.node.clock input).0 key ≡ Some v → Waits v.held mark (later_marks x s key frame) → MarkWaits x s key frame mark
    with_ring v found ring =
        record {
          node = record h.node { state = (switch_step app h.node.state h.node.clock input).0 };
          at = at;
          me = (step_same app h.node.state h.node.clock input).me ∙ h.me;
          slot = v;
          found = found;
          waits = ring;
          sent = omega (arith, h.sent, ap length frames, length-append w.frames (switch_step app h.node.state h.node.clock input).1.sent);
        }

    same_slot : (old : Slot) → slot_at h.node.state key ≡ Some old → h.slot ≡ old
    same_slot old is = same_some (slot_at h.node.state key) h.slot old h.found is

    not_out : (c : Carried) → c.mark ≡ mark → (switch_step app h.node.state h.node.clock input).1.released ≡ Some (output_of c) → ⊥
    not_out c is out =
        let there : In x.history.released (record { event = x.event; output = output_of c }) =
        subst (λ l. In l (record { event = x.event; output = output_of c })) (sym (released ∙ ap (λ o. w.history.released ++ added (λ (y : Output). record { event = x.event; output = y }) o) out))
        (to_append w.history.released (record { event = x.event; output = output_of c } ∷ []) _ (inr (inl refl))) in
        each_in (λ (y : Released). y.output.mark ≢ mark) x.history.released _ waits there is

    ring_case : (v : Slot) → slot_at (switch_step app h.node.state h.node.clock input).0 key ≡ Some v → has_epoch v.lease epoch ≡ true → HeldWas h.node.state.me h.node.state.slots (switch_step app h.node.state h.node.clock input).1 key v → MarkWaits x s key frame mark
    ring_case v found leased (stays old is held) =
        with_ring v found (waits_longer (omega (arith, more)) (subst (λ ring. Waits ring mark (later_marks w s key frame)) (ap (λ (y : Slot). y.held) (same_slot old is) ∙ sym held) h.waits))
    ring_case v found leased (gains old n is held some) =
        let some_s : 1 ≤ entered s key (switch_step app h.node.state h.node.clock input).1.sent = subst (λ (k : ℕ). 1 ≤ entered k key (switch_step app h.node.state h.node.clock input).1.sent) h.me some in
        let ring : Waits old.held mark (later_marks w s key frame) = subst (λ (y : Slot). Waits y.held mark (later_marks w s key frame)) (same_slot old is) h.waits in
        with_ring v found
        (waits_longer (omega (arith, more, some_s)) (subst (λ l. Waits l mark (later_marks w s key frame + 1)) (sym held) (waits_pushed old.held mark n (later_marks w s key frame) (omega (arith, more, some_s, few)) ring)))
    ring_case v found leased (loses old c is held out) =
        let ring : Waits old.held mark (later_marks w s key frame) = subst (λ (y : Slot). Waits y.held mark (later_marks w s key frame)) (same_slot old is) h.waits in
        mark_case ring (mark == c.mark) refl
      where
        mark_case : Waits old.held mark (later_marks w s key frame) → (b : Bool) → (mark == c.mark) ≡ b → MarkWaits x s key frame mark
        mark_case ring true e =
            let same : mark ≡ c.mark = eqb-true mark c.mark e in
            absurd (not_out c (sym same) (out (ap (λ k. remembers old.held k) (sym same) ∙ waits_there ring)))
        mark_case ring false ne = with_ring v found (waits_longer (omega (arith, more)) (subst (λ l. Waits l mark (later_marks w s key frame)) (sym held) (waits_forgotten old.held mark c.mark (later_marks w s key frame) ne ring)))
    ring_case v found leased (given_up none) = let no : None ≡ Some epoch = sym none ∙ has_leased v.lease epoch leased in cc

    stepped : MarkWaits x s key frame mark
    stepped =
        let v = owner_slot epoch (slot_of x s key) owned in
        let found : slot_at (switch_step app h.node.state h.node.clock input).0 key ≡ Some v.0 = sym (slot_there x s key _ at) ∙ v.1.0 in
        ring_case v.0 found v.1.1 (step_held app h.node.state h.node.clock input key v.0 found)

  pub waits_on : CameTo app w x s h.node → MarkWaits x s key frame mark
  waits_on (rests other at same on) = rested other at same on
  waits_on (steps input at frames released) = stepped input at frames released

-- ---- the path

pub hops_later : (r : Run) (c : Carried) (place : ℕ) (hs : List Hop) (last : Hop) → Hops r c place hs last → place < last.place
hops_later r c place [] last h = h.later
hops_later r c place (x ∷ hs) last h = omega (arith, h.0.later, hops_later r c x.place hs last h.1)

module _ (r : Run) (place s : ℕ) (key : Key) (inc epoch number : ℕ) (delta : Delta) (out : Output) (first : Hop) (forwards : List Hop) (last : Hop) (p : StraightPut r place s key inc epoch number delta out first forwards last) where
  later : place < last.place
  later = hops_later r (carried_output out) place (first ∷ forwards) last p.goes.hops

  begins : MarkWaits (before r (place + 1)) s key first.frame out.mark
  begins =
      let q = requested r (carried_output out) place s first p.goes.hops.0 p.goes.asked_by (subst (λ (b : Body). IsRequest b) (sym p.put) tt) in
      let h = put_waits r.app q.node.state q.node.clock q.input first.msg inc epoch number key delta (carried_output out) q.there p.put in
      record {
        node = record q.node { state = (switch_step r.app q.node.state q.node.clock q.input).0 };
        at = q.switch_is;
        me = (step_same r.app q.node.state q.node.clock q.input).me ∙ q.me;
        slot = h.slot;
        found = h.found;
        waits = waits_longer (omega arith) (subst (λ ring. Waits ring out.mark 0) (sym h.held) (waits_last h.ring out.mark));
        sent = p.goes.hops.0.sent;
      }

  goes_on : (i : ℕ) → place < i → i < last.place → MarkWaits (before r i) s key first.frame out.mark → MarkWaits (before r (i + 1)) s key first.frame out.mark
  goes_on i lo hi h = act_case (act_at r i) refl
    where
      on : Onward (before r (i + 1)).frames (before r (i + 1)).history.released (before r last.place)
      on = onward r (i + 1) last.place (omega (arith, hi))

      -- more marks are there at the end of the path
      more : first.frame < length (before r (i + 1)).frames → later_marks (before r last.place) s key first.frame ≡ later_marks (before r (i + 1)) s key first.frame + entered s key on.frames_on.rest
      more lt = ap (λ l. entered s key (drop (first.frame + 1) l)) (sym on.frames_on.is) ∙ marks_more s key first.frame (before r (i + 1)).frames on.frames_on.rest lt

      act_case : (o : Option Act) → act_at r i ≡ o → MarkWaits (before r (i + 1)) s key first.frame out.mark
      act_case None is = subst (λ w. MarkWaits w s key first.frame out.mark) (sym (ended r i is)) h
      act_case (Some act) is =
          let e = event_at r i act is in
          let calm : is_calm (Some act) ≡ true = subst (λ o. is_calm o ≡ true) is (at_between (λ j. is_calm (act_at r j) ≡ true) place last.place i p.goes.calm lo hi) in
          let was = onward r i (i + 1) (omega arith) in
          waits_on r.app (before r i) (before r (i + 1)) s key first.frame out.mark epoch h
          (at_between (λ j. owns epoch (slot_of (before r j) s key) ≡ true) place (last.place + 1) (i + 1) p.owned (omega (arith, lo)) (omega (arith, hi)))
          (omega (arith, p.few, more (omega (arith, h.sent, ap length (sym was.frames_on.is), length-append (before r i).frames was.frames_on.rest))))
          (each_front (λ (y : Released). y.output.mark ≢ out.mark) (before r (i + 1)).history.released on.released_on.rest (subst (λ l. Each (λ (y : Released). y.output.mark ≢ out.mark) l) (sym on.released_on.is) p.waits))
          (subst (λ x. CameTo r.app (before r i) x s h.node) (sym e.then) (came_to r.app (before r i) s h.node h.at act calm))

  along : (d : ℕ) → place + 1 + d ≤ last.place → MarkWaits (before r (place + 1 + d)) s key first.frame out.mark
  along zero le = let same : place + 1 ≡ place + 1 + 0 = omega arith in subst (λ i. MarkWaits (before r i) s key first.frame out.mark) same begins
  along (suc d) le = let same : place + 1 + d + 1 ≡ place + 1 + suc d = omega arith in subst (λ i. MarkWaits (before r i) s key first.frame out.mark) same (goes_on (place + 1 + d) (omega arith) (omega (arith, le)) (along d (omega (arith, le))))

  pub still_waits : MarkWaits (before r last.place) s key first.frame out.mark
  still_waits = let same : place + 1 + (last.place - (place + 1)) ≡ last.place = omega (arith, later) in subst (λ i. MarkWaits (before r i) s key first.frame out.mark) same (along (last.place - (place + 1)) (omega (arith, later)))
