-- A run, place by place: the world behind an event, what only grows, and what a switch comes to while no node fails, boots or is detected.
use Rattle.std.proofs.Common.{◌≡◌, ◌≢◌, ℕ, ◌+◌, ◌-◌, ◌≤◌, ◌<◌, List, [], ◌∷◌, ◌++◌, Option, Some, None, arith, refl, sym, ap, ◌∙◌, subst, true, false, Bool, slice_get, zero, suc, take, eqb-true, eq-eqb, set}
use Rattle.std.specs.Prelude.{option_map, ◌==◌}
use Rattle.std.specs.List.{range_with_len}
use Rattle.std.proofs.lemmas.Bool.{false≢true, both_ways}
use Rattle.rp_base.specs.declared.node.Node.{Node}
use Rattle.rp_base.specs.declared.node.Output.{Output}
use Rattle.rp_base.specs.declared.event.Event.{Event}
use Rattle.proto_data.specs.declared.message.Msg.{Msg}
use Rattle.proto_data.specs.declared.message.Input.{Input}
use Rattle.rp_app.specs.Application.{Application}
use Rattle.proto_model.specs.Effects.{added, packet_fed, frame_passed}
use Rattle.proto_model.specs.Feeds.{Each}
use Rattle.proto_model.specs.ReplicaRows.{store_step}
use Rattle.proto_model.specs.Runs.{Run, before, act_at, between}
use Rattle.proto_model.specs.Straight.{is_calm}
use Rattle.proto_model.specs.SwitchRows.{switch_step}
use Rattle.proto_model.specs.World.{World, SwitchNode, ReplicaNode, opened}
use Rattle.rp_base.specs.declared.legality.Released.{Released}
use Rattle.proto_model.specs.WorldStep.{Act, Refuses, Feeds, Delivers, Passes, Advances, Alarms, Stops, Boots, Detects, Announces, Pumps, act_of, perform_act, node_takes, switch_takes, replica_takes, advanced_switches, announcements, next_event, world_step, world_after}
use Rattle.proto_safety.specs.Books.{IsPrefix}
use Rattle.proto_safety.proofs.Inductions.Acts.{Fits, act_fits}
use Rattle.proto_safety.proofs.Time.ClockSums.{after_one_more}
use Rattle.proto_safety.proofs.Inductions.Induction.{Keeps, event_kept}
use Rattle.proto_safety.proofs.Inductions.EventCounts.{event_counts}
use Rattle.proto_safety.proofs.Basics.Lists.{get-set_same, set_other, take_all_there, take_one_more, there_before}
use Rattle.proto_safety.proofs.Basics.Prefixes.{prefix_push, prefix_same, prefix_trans}

-- ---- one event

-- the event at a place, and the world behind it
pub record EventAt (r : Run) (i : ℕ) (act : Act) : Type 0 where
  pub event : Event
  pub at : slice_get r.events i ≡ Some event
  pub act_is : act_of r.app (next_event (before r i)) event ≡ act
  pub fits : Fits (next_event (before r i)) act
  pub then : before r (i + 1) ≡ (perform_act r.app (next_event (before r i)) act).0

pub one_later : (r : Run) (i : ℕ) (e : Event) → slice_get r.events i ≡ Some e → before r (i + 1) ≡ (world_step r.app (before r i) e).0
one_later r i e at =
    let next : i + 1 ≡ suc i = omega arith in
    ap (λ k. world_after r.app (opened r.app.cell_count r.setup) (take k r.events)) next
    ∙ (ap (λ es. world_after r.app (opened r.app.cell_count r.setup) es) (take_one_more i r.events e at) ∙ after_one_more r.app (take i r.events) (opened r.app.cell_count r.setup) e)

pub event_at : (r : Run) (i : ℕ) (act : Act) → act_at r i ≡ Some act → EventAt r i act
event_at r i act is = at_case (slice_get r.events i) refl is
  where
    at_case : (o : Option Event) → slice_get r.events i ≡ o → option_map (λ e. act_of r.app (next_event (before r i)) e) o ≡ Some act → EventAt r i act
    at_case None at is = cc
    at_case (Some e) at is =
        let same : act_of r.app (next_event (before r i)) e ≡ act = cc in
        record {
          event = e;
          at = at;
          act_is = same;
          fits = subst (λ a. Fits (next_event (before r i)) a) same (act_fits r.app (next_event (before r i)) e);
          then = one_later r i e at ∙ ap (λ a. (perform_act r.app (next_event (before r i)) a).0) same;
        }

-- behind the last event nothing changes
pub ended : (r : Run) (i : ℕ) → act_at r i ≡ None → before r (i + 1) ≡ before r i
ended r i none = at_case (slice_get r.events i) refl none
  where
    at_case : (o : Option Event) → slice_get r.events i ≡ o → option_map (λ e. act_of r.app (next_event (before r i)) e) o ≡ None → before r (i + 1) ≡ before r i
    at_case (Some e) at is = cc
    at_case None at is =
        let next : i + 1 ≡ suc i = omega arith in
        ap (λ k. world_after r.app (opened r.app.cell_count r.setup) (take k r.events)) next ∙ ap (λ es. world_after r.app (opened r.app.cell_count r.setup) es) (take_all_there i r.events at)

-- ---- what each event keeps

pub kept_once : (r : Run) (I : World → Type 0) → Keeps r.app I → (i : ℕ) → I (before r i) → I (before r (i + 1))
kept_once r I k i h = act_case (act_at r i) refl
  where
    act_case : (o : Option Act) → act_at r i ≡ o → I (before r (i + 1))
    act_case None is = subst I (sym (ended r i is)) h
    act_case (Some act) is = let e = event_at r i act is in subst I (sym (one_later r i e.event e.at)) (event_kept r.app I k (before r i) e.event h)

kept_for : (r : Run) (I : World → Type 0) → Keeps r.app I → (i d : ℕ) → I (before r i) → I (before r (i + d))
kept_for r I k i zero h = let same : i + 0 ≡ i = omega arith in subst (λ j. I (before r j)) (sym same) h
kept_for r I k i (suc d) h = let same : i + d + 1 ≡ i + suc d = omega arith in subst (λ j. I (before r j)) same (kept_once r I k (i + d) (kept_for r I k i d h))

pub kept_between : (r : Run) (I : World → Type 0) → Keeps r.app I → (i j : ℕ) → i ≤ j → I (before r i) → I (before r j)
kept_between r I k i j le h = let same : i + (j - i) ≡ j = omega (arith, le) in subst (λ n. I (before r n)) same (kept_for r I k i (j - i) h)

-- frames and releases go on at their ends
pub record Onward (frames : List Msg) (released : List Released) (w : World) : Type 0 where
  pub frames_on : IsPrefix frames w.frames
  pub released_on : IsPrefix released w.history.released

pub onward_kept : (app : Application) (frames : List Msg) (released : List Released) → Keeps app (Onward frames released)
onward_kept app frames released =
    record {
      counts = λ w h. record { frames_on = h.frames_on; released_on = h.released_on };
      passes = λ w i h. record { frames_on = h.frames_on; released_on = h.released_on };
      feeds = λ w n node p at up mark h. record { frames_on = prefix_trans h.frames_on (prefix_push w.frames _); released_on = prefix_trans h.released_on (prefix_push w.history.released _) };
      switches = λ w n node input at up from h. record { frames_on = prefix_trans h.frames_on (prefix_push w.frames _); released_on = prefix_trans h.released_on (prefix_push w.history.released _) };
      replicas = λ w n node input at up from h. record { frames_on = prefix_trans h.frames_on (prefix_push w.frames _); released_on = h.released_on };
      advances = λ w by fits h. record { frames_on = h.frames_on; released_on = h.released_on };
      stops_switch = λ w n fits h. record { frames_on = h.frames_on; released_on = h.released_on };
      stops_replica = λ w n fits h. record { frames_on = h.frames_on; released_on = h.released_on };
      boots = λ w n fits h. record { frames_on = h.frames_on; released_on = h.released_on };
      detects_switch = λ w n fits h. record { frames_on = h.frames_on; released_on = h.released_on };
      detects_replica = λ w n fits h. record { frames_on = h.frames_on; released_on = h.released_on };
      announces = λ w h. record { frames_on = prefix_trans h.frames_on (prefix_push w.frames _); released_on = h.released_on };
    }

pub onward : (r : Run) (i j : ℕ) → i ≤ j → Onward (before r i).frames (before r i).history.released (before r j)
onward r i j le =
    kept_between r (Onward (before r i).frames (before r i).history.released) (onward_kept r.app (before r i).frames (before r i).history.released) i j le
    (record { frames_on = prefix_same (before r i).frames; released_on = prefix_same (before r i).history.released })

-- ---- the number of an event

-- the events before a place are counted
pub event_number : (r : Run) (i : ℕ) (e : Event) → slice_get r.events i ≡ Some e → (before r i).event ≡ i
event_number r zero e at = refl
event_number r (suc i) e at =
    let p = there_before r.events i e at in
    let next : i + 1 ≡ suc i = omega arith in
    let step : (before r (i + 1)).event ≡ (before r i).event + 1 = ap (λ (w : World). w.event) (one_later r i p.0 p.1) ∙ event_counts r.app (before r i) p.0 in
    let rest : (before r i).event ≡ i = event_number r i p.0 p.1 in
    let same : (before r (suc i)).event ≡ (before r (i + 1)).event = ap (λ k. (before r k).event) (sym next) in omega (arith, same, step, rest)

-- ---- places

each_in_range : (P : ℕ → Type 0) (a n i : ℕ) → Each P (range_with_len a n) → a ≤ i → i < a + n → P i
each_in_range P a zero i h le lt = absurd (omega (arith, le, lt))
each_in_range P a (suc n) i h le lt = here_case (λ lo hi. each_in_range P (a + 1) n i h.1 lo hi) (i == a) refl
  where
    here_case : (a + 1 ≤ i → i < a + 1 + n → P i) → (b : Bool) → (i == a) ≡ b → P i
    here_case rest true is = subst P (sym (eqb-true i a is)) h.0
    here_case rest false is = let ne : i ≢ a = λ e. both_ways _ is (eq-eqb i a e) in rest (omega (arith, le, ne)) (omega (arith, lt))

-- what holds at each place behind one and before another
pub at_between : (P : ℕ → Type 0) (a b i : ℕ) → Each P (between a b) → a < i → i < b → P i
at_between P a b i h lo hi = each_in_range P (a + 1) (b - (a + 1)) i h (omega (arith, lo)) (omega (arith, lo, hi))

-- ---- one switch, in an event without failures

-- switch s stands with this state, or took an input; frames and releases went on
pub data CameTo (app : Application) (w x : World) (s : ℕ) (node : SwitchNode) : Type 0 where
  rests : (other : SwitchNode) → slice_get x.switches s ≡ Some other → other.state ≡ node.state → IsPrefix w.frames x.frames → CameTo app w x s node
  steps :
      (input : Input) → slice_get x.switches s ≡ Some (record node { state = (switch_step app node.state node.clock input).0 }) → x.frames ≡ w.frames ++ (switch_step app node.state node.clock input).1.sent →
      x.history.released ≡ w.history.released ++ added (λ (o : Output). record { event = x.event; output = o }) (switch_step app node.state node.clock input).1.released → CameTo app w x s node

advanced_there : (ss : List SwitchNode) (by : List ℕ) (s : ℕ) (node : SwitchNode) → slice_get ss s ≡ Some node → (other : SwitchNode) × ((slice_get (advanced_switches ss by) s ≡ Some other) × (other.state ≡ node.state))
advanced_there [] by s node at = cc
advanced_there (x ∷ xs) [] s node at = (node, (at, refl))
advanced_there (x ∷ xs) (d ∷ ds) zero node at = let e : x ≡ node = cc in (record x { clock = x.clock + d }, (refl, ap (λ (y : SwitchNode). y.state) e))
advanced_there (x ∷ xs) (d ∷ ds) (suc s) node at = advanced_there xs ds s node at

module _ (app : Application) (w : World) (s : ℕ) (node : SwitchNode) (at : slice_get w.switches s ≡ Some node) where
  stands : (x : World) → x.switches ≡ w.switches → IsPrefix w.frames x.frames → CameTo app w x s node
  stands x switches frames = rests node (ap (λ l. slice_get l s) switches ∙ at) refl frames

  -- a switch takes an input, in a world that differs in its event and in what was passed or fed
  took : (v : World) (n : ℕ) (input : Input) (o : Option SwitchNode) → slice_get w.switches n ≡ o → v.switches ≡ w.switches → v.frames ≡ w.frames → v.history.released ≡ w.history.released → CameTo app w (switch_takes app v n input o).0 s node
  took v n input None is switches frames released = rests node (ap (λ l. slice_get l s) switches ∙ at) refl (rw frames (prefix_same w.frames))
  took v n input (Some other) is switches frames released = own_case (n == s) refl
    where
      own_case : (b : Bool) → (n == s) ≡ b → CameTo app w (switch_takes app v n input (Some other)).0 s node
      own_case true e =
          let same : n ≡ s = eqb-true n s e in
          let mine : other ≡ node = let two : Some other ≡ Some node = sym is ∙ (ap (λ k. slice_get w.switches k) same ∙ at) in cc in
          subst (λ (y : SwitchNode). CameTo app w (switch_takes app v n input (Some y)).0 s node) (sym mine)
          (steps input
          (subst (λ k. slice_get (set v.switches k (record node { state = (switch_step app node.state node.clock input).0 })) s ≡ Some (record node { state = (switch_step app node.state node.clock input).0 })) (sym same)
          (get-set_same v.switches s node (record node { state = (switch_step app node.state node.clock input).0 }) (ap (λ l. slice_get l s) switches ∙ at)))
          (ap (λ l. l ++ (switch_step app node.state node.clock input).1.sent) frames)
          (ap (λ l. l ++ added (λ (o : Output). record { event = v.event; output = o }) (switch_step app node.state node.clock input).1.released) released))
      own_case false ne =
          rests node (set_other v.switches n s _ (λ e. both_ways _ ne (eq-eqb n s (sym e))) ∙ (ap (λ l. slice_get l s) switches ∙ at)) refl (subst (λ l. IsPrefix w.frames (l ++ (switch_step app other.state other.clock input).1.sent)) (sym frames) (prefix_push w.frames _))

  stored : (v : World) (n : ℕ) (input : Input) (o : Option ReplicaNode) → v.switches ≡ w.switches → v.frames ≡ w.frames → CameTo app w (replica_takes v n input o).0 s node
  stored v n input None switches frames = rests node (ap (λ l. slice_get l s) switches ∙ at) refl (rw frames (prefix_same w.frames))
  stored v n input (Some other) switches frames =
      rests node (ap (λ l. slice_get l s) switches ∙ at) refl (subst (λ l. IsPrefix w.frames (l ++ (store_step other.state other.clock input).1.sent)) (sym frames) (prefix_push w.frames _))

  taken : (v : World) (to : Node) (input : Input) → v.switches ≡ w.switches → v.replicas ≡ w.replicas → v.frames ≡ w.frames → v.history.released ≡ w.history.released → CameTo app w (node_takes app v to input).0 s node
  taken v (Node.Switch n) input switches replicas frames released = took v n input (slice_get v.switches n) (ap (λ l. slice_get l n) (sym switches)) switches frames released
  taken v (Node.Replica n) input switches replicas frames released = stored v n input (slice_get v.replicas n) switches frames
  taken v Node.Master input switches replicas frames released = rests node (ap (λ l. slice_get l s) switches ∙ at) refl (rw frames (prefix_same w.frames))

  pub came_to : (act : Act) → is_calm (Some act) ≡ true → CameTo app w (perform_act app (next_event w) act).0 s node
  came_to (Refuses cause) calm = stands (next_event w) refl (prefix_same w.frames)
  came_to (Feeds n p) calm = taken (packet_fed (next_event w) p) (Node.Switch n) (Input.Packet p) refl refl refl refl
  came_to (Delivers i m) calm = taken (frame_passed (next_event w) i) m.to (Input.Msg m) refl refl refl refl
  came_to (Passes i) calm = stands (frame_passed (next_event w) i) refl (prefix_same w.frames)
  came_to (Advances by) calm = let o = advanced_there w.switches by s node at in rests o.0 o.1.0 o.1.1 (prefix_same w.frames)
  came_to (Alarms to) calm = taken (next_event w) to Input.Alarm refl refl refl refl
  came_to (Stops to) calm = absurd (false≢true calm)
  came_to (Boots n) calm = absurd (false≢true calm)
  came_to (Detects to) calm = absurd (false≢true calm)
  came_to Announces calm = rests node at refl (prefix_push w.frames (announcements (next_event w)))
  came_to Pumps calm = stands (next_event w) refl (prefix_same w.frames)
