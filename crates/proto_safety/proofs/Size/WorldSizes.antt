-- Every world of a run is sized.
use Rattle.std.proofs.Common.{◌≡◌, ℕ, ◌+◌, ◌≤◌, ◌<◌, List, [], ◌∷◌, length, map, Option, Some, None, arith, refl, true, false, Bool, subst, sym, zero, suc, slice_get, length-set, drop, inl, inr, eqb-true}
use Rattle.std.specs.Prelude.{not, ◌&&◌, ◌==◌}
use Rattle.std.specs.List.{range_with_len}
use Rattle.std.proofs.lemmas.Bool.{and_from, lt-ltb, both_ways}
use Rattle.std.proofs.lemmas.List.FromFn.{length-range_with_len}
use Rattle.std.proofs.lemmas.Option.{slice_get_within}
use Rattle.rp_base.specs.declared.node.Node.{Node}
use Rattle.rp_base.specs.declared.event.Event.{Event}
use Rattle.proto_data.specs.declared.message.Msg.{Msg}
use Rattle.proto_data.specs.declared.message.Input.{Input}
use Rattle.proto_data.specs.declared.terms.Mode.{Mode}
use Rattle.proto_data.specs.MessageFits.{message_fits}
use Rattle.rp_app.specs.Application.{Application, IsApplication}
use Rattle.proto_model.specs.Effects.{switch_moved, replica_moved, packet_fed, master_sent}
use Rattle.proto_model.specs.Feeds.{Each}
use Rattle.proto_model.specs.SwitchState.{Switch}
use Rattle.proto_model.specs.SwitchRows.{switch_step}
use Rattle.proto_model.specs.ReplicaState.{Replica}
use Rattle.proto_model.specs.ReplicaRows.{store_step}
use Rattle.proto_model.specs.World.{World, Setup, History, SwitchNode, ReplicaNode, opened, below, open_switch_node, open_replica_node, first_config, running_switches, running_replicas}
use Rattle.proto_model.specs.WorldStep.{Act, Refuses, Feeds, Delivers, Passes, Advances, Alarms, Stops, Boots, Detects, Announces, Pumps, act_of, perform_act, node_takes, switch_takes, replica_takes, runs_now, believed_up, changed_at, stopped, booted, detected, advanced, advanced_switches, advanced_replicas, announcements, config_msg, next_event, world_step, world_after}
use Rattle.proto_model.specs.Handing.{hand, handed}
use Rattle.proto_safety.specs.Books.{In}
use Rattle.proto_safety.specs.Sizes.{EventSized, MsgSized, ConfigSized, SwitchSized, ReplicaSized, Running, SizedAt, Sized, delta_room}
use Rattle.proto_safety.proofs.Inductions.Acts.{Fits, act_fits}
use Rattle.proto_safety.proofs.Store.Chains.{without, stays_in, rising_without, rising_from, in_from, in_any}
use Rattle.proto_safety.proofs.Store.LastBook.{Found, find_last}
use Rattle.proto_safety.proofs.Size.SizesUp.{msg_wider, msg_up, config_up, switch_up, replica_up}
use Rattle.proto_safety.proofs.Size.SizesFit.{msg_fits}
use Rattle.proto_safety.proofs.Size.SwitchSizes.{InputSized, switch_sized}
use Rattle.proto_safety.proofs.Size.StoreSizes.{message_sized, alarm_sized}
use Rattle.proto_safety.proofs.Store.WorldBooks.{some_left, still}
use Rattle.proto_safety.proofs.Inductions.EventCounts.{event_counts, events_count}
use Rattle.proto_safety.proofs.Messages.FramesGrow.{length_advanced_switches, length_advanced_replicas}
use Rattle.proto_safety.proofs.Size.NodeSizes.{RunningIn, which_run, same_running, advanced_which, each_range, below_each, numbers_below, advanced_each, advanced_stores, length_without, some_in, ActSized, act_sized}
use Rattle.proto_safety.proofs.Basics.Eachs.{each_append, each_at, each_becomes, each_changed, each_filter, each_in, each_made, each_set, each_weaker}
use Rattle.proto_safety.proofs.Basics.Lists.{length_changed_at, length_map, map-set_same}

-- ---- one event

module _ (app : Application) (is : IsApplication app) (few : app.cell_count ≤ 256) (w : World) (b : ℕ) (h : SizedAt b app w) where
  abbrev room : ℕ
  room = delta_room w.terms.mode app.cell_count

  next : w.event + 1 ≤ b
  next = omega (arith, h.event)

  up_config : ConfigSized (b + 1) w.config
  up_config = config_up b (b + 1) (omega arith) w.config h.config

  abbrev SwitchUp : Switch → Type 0
  SwitchUp s = SwitchSized (b + 1) app.cell_count w.terms s

  abbrev ReplicaUp : Replica → Type 0
  ReplicaUp r = ReplicaSized (b + 1) room app.cell_count r

  abbrev MsgUp : Msg → Type 0
  MsgUp m = MsgSized (b + 1) room m

  up_switch : (s : SwitchNode) → SwitchSized b app.cell_count w.terms s.state → SwitchUp s.state
  up_switch s k = switch_up b (b + 1) (omega arith) app.cell_count w.terms s.state k

  up_replica : (r : ReplicaNode) → ReplicaSized b room app.cell_count r.state → ReplicaUp r.state
  up_replica r k = replica_up b (b + 1) (omega arith) room app.cell_count r.state k

  up_switches : Each (λ (s : SwitchNode). SwitchUp s.state) w.switches
  up_switches = each_weaker _ _ w.switches (λ s k. up_switch s k) h.switches

  up_replicas : Each (λ (r : ReplicaNode). ReplicaUp r.state) w.replicas
  up_replicas = each_weaker _ _ w.replicas (λ r k. up_replica r k) h.replicas

  up_msg : (m : Msg) → MsgSized b room m → MsgUp m
  up_msg m k = msg_up b (b + 1) (omega arith) room m k

  up_frames : Each MsgUp w.frames
  up_frames = each_weaker _ _ w.frames (λ m k. up_msg m k) h.frames

  -- the world at this event or the next one, with more that passed and was fed
  abbrev at : ℕ → List ℕ → History → World
  at e passed history = record w { event = e; passed = passed; history = history }

  counted : (e : ℕ) → e ≤ b → (passed : List ℕ) (history : History) → SizedAt (b + 1) app (at e passed history)
  counted e le passed history =
      record {
        event = omega (arith, le);
        switches_few = h.switches_few;
        replicas_few = h.replicas_few;
        config = up_config;
        runs = h.runs;
        present = λ a r. h.present a r;
        switches = up_switches;
        replicas = up_replicas;
        frames = up_frames;
      }

  switch_moves : (e : ℕ) → e ≤ b → (passed : List ℕ) (history : History) (n : ℕ) (node : SwitchNode) (input : Input) → slice_get w.switches n ≡ Some node → InputSized (b + 1) room input →
      SizedAt (b + 1) app (switch_moved (at e passed history) n node (switch_step app node.state node.clock input))
  switch_moves e le passed history n node input found i =
      let k = switch_sized app is few b w.terms node.clock node.state input (each_at _ w.switches n node h.switches found) i in
      record {
        event = omega (arith, le);
        switches_few = omega (arith, h.switches_few, length-set w.switches n (record node { state = (switch_step app node.state node.clock input).0 }));
        replicas_few = h.replicas_few;
        config = up_config;
        runs = h.runs;
        present = λ a r. h.present a r;
        switches = each_set (λ (s : SwitchNode). SwitchUp s.state) w.switches n _ up_switches k.0;
        replicas = up_replicas;
        frames = each_append MsgUp w.frames _ up_frames k.1;
      }

  switch_case : (e : ℕ) → e ≤ b → (passed : List ℕ) (history : History) (n : ℕ) (input : Input) (o : Option SwitchNode) → slice_get w.switches n ≡ o → InputSized (b + 1) room input → SizedAt (b + 1) app (switch_takes app (at e passed history) n input o).0
  switch_case e le passed history n input None found i = counted e le passed history
  switch_case e le passed history n input (Some node) found i = switch_moves e le passed history n node input found i

  -- what a replica takes
  abbrev StoreInput : Input → Type 0
  StoreInput (Input.Packet p) = ⊥
  StoreInput (Input.Msg m) = MsgUp m
  StoreInput Input.Alarm = Unit {0}

  store_sized : (r : ReplicaNode) (input : Input) → ReplicaSized b room app.cell_count r.state → StoreInput input → ReplicaUp (store_step r.state r.clock input).0 × Each MsgUp (store_step r.state r.clock input).1.sent
  store_sized r (Input.Packet p) k i = absurd i
  store_sized r (Input.Msg m) k i = message_sized app.cell_count few b room r.clock r.state m k i
  store_sized r Input.Alarm k i = alarm_sized app.cell_count few b room r.clock r.state k

  replica_moves : (e : ℕ) → e ≤ b → (passed : List ℕ) (history : History) (n : ℕ) (node : ReplicaNode) (input : Input) → slice_get w.replicas n ≡ Some node → StoreInput input →
      SizedAt (b + 1) app (replica_moved (at e passed history) n node (store_step node.state node.clock input))
  replica_moves e le passed history n node input found i =
      let k = store_sized node input (each_at _ w.replicas n node h.replicas found) i in
      let v : World = replica_moved (at e passed history) n node (store_step node.state node.clock input) in
      let same : which_run v.replicas ≡ which_run w.replicas = map-set_same (λ (x : ReplicaNode). x.runs) w.replicas n node _ found refl in
      record {
        event = omega (arith, le);
        switches_few = h.switches_few;
        replicas_few = subst (λ x. x ≤ 5) (sym (length-set w.replicas n _)) h.replicas_few;
        config = up_config;
        runs = (h.runs.0, same_running w.replicas v.replicas h.runs.0 (sym same) h.runs.1);
        present = λ a r. h.present a (same_running v.replicas w.replicas a same r);
        switches = up_switches;
        replicas = each_set (λ (r : ReplicaNode). ReplicaUp r.state) w.replicas n _ up_replicas k.0;
        frames = each_append MsgUp w.frames _ up_frames k.1;
      }

  replica_case : (e : ℕ) → e ≤ b → (passed : List ℕ) (history : History) (n : ℕ) (input : Input) (o : Option ReplicaNode) → slice_get w.replicas n ≡ o → StoreInput input → SizedAt (b + 1) app (replica_takes (at e passed history) n input o).0
  replica_case e le passed history n input None found i = counted e le passed history
  replica_case e le passed history n input (Some node) found i = replica_moves e le passed history n node input found i

  delivered : (e : ℕ) → e ≤ b → (passed : List ℕ) (history : History) (to : Node) (m : Msg) → MsgUp m → SizedAt (b + 1) app (node_takes app (at e passed history) to (Input.Msg m)).0
  delivered e le passed history (Node.Switch n) m i = switch_case e le passed history n (Input.Msg m) (slice_get w.switches n) refl i.1
  delivered e le passed history (Node.Replica n) m i = replica_case e le passed history n (Input.Msg m) (slice_get w.replicas n) refl i
  delivered e le passed history Node.Master m i = counted e le passed history

  alarmed : (e : ℕ) → e ≤ b → (passed : List ℕ) (history : History) (to : Node) → SizedAt (b + 1) app (node_takes app (at e passed history) to Input.Alarm).0
  alarmed e le passed history (Node.Switch n) = switch_case e le passed history n Input.Alarm (slice_get w.switches n) refl tt
  alarmed e le passed history (Node.Replica n) = replica_case e le passed history n Input.Alarm (slice_get w.replicas n) refl tt
  alarmed e le passed history Node.Master = counted e le passed history

  -- other switches, of this many, and other replicas of which the same run
  others : (switches : List SwitchNode) (replicas : List ReplicaNode) → length switches ≡ length w.switches → length replicas ≡ length w.replicas → which_run replicas ≡ which_run w.replicas →
      Each (λ (s : SwitchNode). SwitchUp s.state) switches → Each (λ (r : ReplicaNode). ReplicaUp r.state) replicas → SizedAt (b + 1) app (record w { event = w.event + 1; switches = switches; replicas = replicas })
  others switches replicas s r same ss rs =
      record {
        event = omega (arith, h.event);
        switches_few = omega (arith, h.switches_few);
        replicas_few = omega (arith, h.replicas_few);
        config = up_config;
        runs = (h.runs.0, same_running w.replicas replicas h.runs.0 (sym same) h.runs.1);
        present = λ a x. h.present a (same_running replicas w.replicas a same x);
        switches = ss;
        replicas = rs;
        frames = up_frames;
      }

  switch_stops : (n : ℕ) → SizedAt (b + 1) app (stopped (next_event w) (Node.Switch n))
  switch_stops n =
      others (changed_at w.switches n (λ (s : SwitchNode). record s { runs = false })) w.replicas (length_changed_at w.switches n _) refl refl
      (each_changed (λ (s : SwitchNode). SwitchUp s.state) w.switches n _ (λ x k. k) up_switches) up_replicas

  switch_boots : (n : ℕ) → SizedAt (b + 1) app (booted (next_event w) n)
  switch_boots n =
      others (booted (next_event w) n).switches w.replicas (length_changed_at w.switches n _) refl refl
      (each_becomes (λ (s : SwitchNode). SwitchSized b app.cell_count w.terms s.state) (λ (s : SwitchNode). SwitchUp s.state) w.switches n _ (λ s k. up_switch s k)
      (λ s k. record { me = k.me; terms_are = refl; inc = omega (arith, k.inc); nonces = omega arith; config = up_config; slots = tt; copies = tt }) h.switches)
      up_replicas

  switch_detected : (n : ℕ) → SizedAt (b + 1) app (detected (next_event w) (Node.Switch n))
  switch_detected n =
      others (changed_at w.switches n (λ (s : SwitchNode). record s { believed = s.runs })) w.replicas (length_changed_at w.switches n _) refl refl
      (each_changed (λ (s : SwitchNode). SwitchUp s.state) w.switches n _ (λ x k. k) up_switches) up_replicas

  clocks_go : (by : List ℕ) → SizedAt (b + 1) app (advanced (next_event w) by)
  clocks_go by =
      others (advanced_switches w.switches by) (advanced_replicas w.replicas (drop (length w.switches) by)) (length_advanced_switches w.switches by) (length_advanced_replicas w.replicas (drop (length w.switches) by))
      (advanced_which w.replicas (drop (length w.switches) by))
      (advanced_each SwitchUp w.switches by up_switches) (advanced_stores ReplicaUp w.replicas (drop (length w.switches) by) up_replicas)

  -- the replicas once one has stopped
  abbrev left : ℕ → List ReplicaNode
  left n = changed_at w.replicas n (λ (r : ReplicaNode). record r { runs = false })

  replica_stops : (n : ℕ) → Fits (next_event w) (Stops (Node.Replica n)) → SizedAt (b + 1) app (stopped (next_event w) (Node.Replica n))
  replica_stops n fits =
      record {
        event = omega (arith, h.event);
        switches_few = h.switches_few;
        replicas_few = omega (arith, h.replicas_few, length_changed_at w.replicas n (λ (r : ReplicaNode). record r { runs = false }));
        config = up_config;
        runs = left_case (find_last (left n));
        present = λ a r. let s = still w.replicas n a r.0 r.1.0 r.1.1 in h.present a (r.0, (s.1, r.1.1));
        switches = up_switches;
        replicas = each_changed (λ (r : ReplicaNode). ReplicaUp r.state) w.replicas n _ (λ x k. k) up_replicas;
        frames = up_frames;
      }
    where
      left_case : Found (left n) → (a : ℕ) × RunningIn (left n) a
      left_case (inl j) = (j.0, (j.1.0, (j.1.1.at, j.1.1.up)))
      left_case (inr none) = absurd (some_left (next_event w) n fits none)

  replica_detected : (n : ℕ) → Fits (next_event w) (Detects (Node.Replica n)) → SizedAt (b + 1) app (detected (next_event w) (Node.Replica n))
  replica_detected n fits =
      record {
        event = omega (arith, h.event);
        switches_few = h.switches_few;
        replicas_few = h.replicas_few;
        config = record {
          number = omega (arith, h.config.number);
          some = some_in (without w.config.chain n) h.runs.0 (stays h.runs.0 h.runs.1);
          few = omega (arith, h.config.few, length_without w.config.chain n);
          rises = rising_without w.config.chain n h.config.rises;
          replicas = each_filter (λ r. r < 5) (λ m. not (m == n)) w.config.chain h.config.replicas;
        };
        runs = h.runs;
        present = stays;
        switches = up_switches;
        replicas = up_replicas;
        frames = up_frames;
      }
    where
      -- a running replica isn't detected
      stays : (a : ℕ) → Running w a → In (without w.config.chain n) a
      stays a r = other_case (a == n) refl
        where
          other_case : (b : Bool) → (a == n) ≡ b → In (without w.config.chain n) a
          other_case false ne = stays_in w.config.chain n a (h.present a r) ne
          other_case true e =
              let same : a ≡ n = eqb-true a n e in
              let up : runs_now (next_event w) (Node.Replica n) ≡ true = subst (λ m. runs_now (next_event w) (Node.Replica m) ≡ true) same (rw (r.1.0, r.1.1) refl) in
              let believed : believed_up (next_event w) (Node.Replica n) ≡ true = in_any w.config.chain n (subst (λ m. In w.config.chain m) same (h.present a r)) in
              absurd (both_ways (runs_now (next_event w) (Node.Replica n) && believed_up (next_event w) (Node.Replica n)) fits.0 (and_from _ _ up believed))

  announced : SizedAt (b + 1) app (master_sent (next_event w) (announcements (next_event w)))
  announced =
      record {
        event = omega (arith, h.event);
        switches_few = h.switches_few;
        replicas_few = h.replicas_few;
        config = up_config;
        runs = h.runs;
        present = λ a r. h.present a r;
        switches = up_switches;
        replicas = up_replicas;
        frames = each_append MsgUp w.frames _ up_frames
            (each_append MsgUp (map (λ n. config_msg (next_event w) (Node.Switch n)) (running_switches w)) _
            (each_made MsgUp (λ n. config_msg (next_event w) (Node.Switch n)) (running_switches w)
            (λ n i. (lt-ltb n 8 (each_in (λ r. r < 8) (running_switches w) n (numbers_below _ 0 8 w.switches (omega (arith, h.switches_few))) i), up_config)))
            (each_made MsgUp (λ n. config_msg (next_event w) (Node.Replica n)) (running_replicas w)
            (λ n i. (lt-ltb n 5 (each_in (λ r. r < 5) (running_replicas w) n (numbers_below _ 0 5 w.replicas (omega (arith, h.replicas_few))) i), up_config))));
      }

  acted : (act : Act) → Fits (next_event w) act → ActSized act → SizedAt (b + 1) app (perform_act app (next_event w) act).0
  acted (Refuses cause) fits k = counted (w.event + 1) next w.passed w.history
  acted (Feeds n p) fits k = switch_case (w.event + 1) next w.passed (packet_fed (next_event w) p).history n (Input.Packet p) (slice_get w.switches n) refl (omega (arith, fits.0), k.0, k.1)
  acted (Delivers i m) fits k = delivered (w.event + 1) next (i ∷ w.passed) w.history m.to m (up_msg m (each_at _ w.frames i m h.frames fits.0))
  acted (Passes i) fits k = counted (w.event + 1) next (i ∷ w.passed) w.history
  acted (Advances by) fits k = clocks_go by
  acted (Alarms node) fits k = alarmed (w.event + 1) next w.passed w.history node
  acted (Stops (Node.Switch n)) fits k = switch_stops n
  acted (Stops (Node.Replica n)) fits k = replica_stops n fits
  acted (Stops Node.Master) fits k = counted (w.event + 1) next w.passed w.history
  acted (Boots n) fits k = switch_boots n
  acted (Detects (Node.Switch n)) fits k = switch_detected n
  acted (Detects (Node.Replica n)) fits k = replica_detected n fits
  acted (Detects Node.Master) fits k = counted (w.event + 1) next w.passed w.history
  acted Announces fits k = announced
  acted Pumps fits k = counted (w.event + 1) next w.passed w.history

  -- a frame is handed over within the event
  handed_over : (i : ℕ) (o : Option Msg) → slice_get w.frames i ≡ o → SizedAt (b + 1) app (handed app w i o).0
  handed_over i None found = counted w.event (omega (arith, h.event)) w.passed w.history
  handed_over i (Some m) found = delivered w.event (omega (arith, h.event)) (i ∷ w.passed) w.history m.to m (up_msg m (each_at _ w.frames i m h.frames found))

-- one event
pub event_sized_at : (app : Application) → IsApplication app → app.cell_count ≤ 256 → (w : World) (b : ℕ) (e : Event) → EventSized e → SizedAt b app w → SizedAt (b + 1) app (world_step app w e).0
event_sized_at app is few w b e k h = acted app is few w b h (act_of app (next_event w) e) (act_fits app (next_event w) e) (act_sized app (next_event w) e k)

pub event_sized : (app : Application) → IsApplication app → app.cell_count ≤ 256 → (w : World) (e : Event) → EventSized e → Sized app w → Sized app (world_step app w e).0
event_sized app is few w e k h = subst (λ n. SizedAt (n + 1) app (world_step app w e).0) (sym (event_counts app w e)) (event_sized_at app is few w (w.event + 1) e k h)

-- a frame that is handed over
pub hand_sized : (app : Application) → IsApplication app → app.cell_count ≤ 256 → (w : World) (b i : ℕ) → SizedAt b app w → SizedAt (b + 1) app (hand app w i).0
hand_sized app is few w b i h = handed_over app is few w b h i (slice_get w.frames i) refl

-- ---- every run

pub opened_sized : (app : Application) (setup : Setup) → setup.switches ≤ 8 → 1 ≤ setup.replicas → setup.replicas ≤ 5 → Sized app (opened app.cell_count setup)
opened_sized app setup switches some replicas =
    record {
      event = omega arith;
      switches_few = omega (arith, length_map (open_switch_node setup) (below setup.switches), length-range_with_len 0 setup.switches);
      replicas_few = omega (arith, length_map (open_replica_node app.cell_count setup) (below setup.replicas), length-range_with_len 0 setup.replicas);
      config = first_sized;
      runs = (0, first_runs setup.replicas some);
      present = λ a r. in_from setup.replicas 0 a (omega arith)
          (let within = slice_get_within _ a r.0 r.1.0 in omega (arith, within, length_map (open_replica_node app.cell_count setup) (below setup.replicas), length-range_with_len 0 setup.replicas));
      switches = each_range (λ (s : SwitchNode). SwitchSized 1 app.cell_count setup.terms s.state) (open_switch_node setup) 0 setup.switches
          (λ n small. record { me = omega (arith, small); terms_are = refl; inc = omega arith; nonces = omega arith; config = first_sized; slots = tt; copies = tt });
      replicas = each_range (λ (r : ReplicaNode). ReplicaSized 1 (delta_room setup.terms.mode app.cell_count) app.cell_count r.state) (open_replica_node app.cell_count setup) 0 setup.replicas
          (λ n small.
          record {
            me = omega (arith, small);
            cells_are = refl;
            config = first_sized;
            applied = omega arith;
            pending_behind = omega arith;
            none_at_tail = λ _. refl;
            pending = tt;
            records = tt;
            gathered = tt;
          });
      frames = tt;
    }
  where
    first_sized : ConfigSized 1 (first_config setup.replicas)
    first_sized =
        record {
          number = omega arith;
          some = omega (arith, length-range_with_len 0 setup.replicas);
          few = omega (arith, length-range_with_len 0 setup.replicas);
          rises = rising_from setup.replicas 0;
          replicas = below_each 0 setup.replicas 5 (omega arith);
        }

    first_runs : (k : ℕ) → 1 ≤ k → RunningIn (map (open_replica_node app.cell_count setup) (range_with_len 0 k)) 0
    first_runs zero le = absurd (omega arith)
    first_runs (suc k) le = (open_replica_node app.cell_count setup 0, (refl, refl))

pub events_sized : (app : Application) → IsApplication app → app.cell_count ≤ 256 → (w : World) (es : List Event) → Each EventSized es → Sized app w → Sized app (world_after app w es)
events_sized app is few w [] k h = h
events_sized app is few w (e ∷ es) k h = events_sized app is few (world_step app w e).0 es k.1 (event_sized app is few w e k.0 h)

-- a frame of a sized world has a spelling, before the number of events passes four bytes
pub sized_fits_at : (app : Application) (w : World) (b : ℕ) → b ≤ 4000000001 → SizedAt b app w → Each (λ (m : Msg). message_fits m ≡ true) w.frames
sized_fits_at app w b small h = each_weaker _ _ w.frames (λ m k. msg_fits b small (delta_room w.terms.mode app.cell_count) m k) h.frames

pub sized_fits : (app : Application) (w : World) → w.event ≤ 4000000000 → Sized app w → Each (λ (m : Msg). message_fits m ≡ true) w.frames
sized_fits app w small h = sized_fits_at app w (w.event + 1) (omega arith) h

-- each frame of a run has a spelling
pub run_fits : (app : Application) → IsApplication app → app.cell_count ≤ 256 → (setup : Setup) → setup.switches ≤ 8 → 1 ≤ setup.replicas → setup.replicas ≤ 5 → (es : List Event) → Each EventSized es → length es ≤ 4000000000 →
    Each (λ (m : Msg). message_fits m ≡ true) (world_after app (opened app.cell_count setup) es).frames
run_fits app is few setup switches some replicas es k small =
    sized_fits app (world_after app (opened app.cell_count setup) es) (omega (arith, events_count app (opened app.cell_count setup) es))
    (events_sized app is few (opened app.cell_count setup) es k (opened_sized app setup switches some replicas))

-- ---- how short frames are

room_short : (m : Mode) (cells : ℕ) → (m ≡ Mode.Strict → cells ≤ 32) → delta_room m cells ≤ 32
room_short Mode.Strict cells h = h refl
room_short (Mode.Snapshot bound) cells h = omega arith

pub sized_short : (app : Application) (w : World) → w.event ≤ 4000000000 → (w.terms.mode ≡ Mode.Strict → app.cell_count ≤ 32) → Sized app w → Each (MsgSized 4000000001 32) w.frames
sized_short app w small short h =
    each_weaker _ _ w.frames
    (λ m k.
    msg_wider 4000000001 (delta_room w.terms.mode app.cell_count) 32 (room_short w.terms.mode app.cell_count short) m
    (msg_up (w.event + 1) 4000000001 (omega arith) (delta_room w.terms.mode app.cell_count) m k))
    h.frames
