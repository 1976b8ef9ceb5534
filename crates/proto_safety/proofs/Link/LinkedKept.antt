-- What is kept of a run whose frames go over a link: a pump hands over frames that were sent, to nodes that run.
use Rattle.std.proofs.Common.{◌≡◌, ◌⊎◌, inl, inr, ℕ, ◌+◌, List, [], ◌∷◌, ◌++◌, length, Option, Some, None, arith, refl, sym, ap, subst, ◌∙◌, true, false, Bool, ◌&&◌, zero, suc, map, fold, set, slice_get, eqb-true, append_assoc, length-append}
use Rattle.std.specs.Prelude.{if◌then◌else◌}
use Rattle.std.specs.Str.{bytes_eq}
use Rattle.std.proofs.lemmas.Bool.{and_parts, false≢true}
use Rattle.rp_base.specs.declared.node.Node.{Node}
use Rattle.rp_base.specs.declared.event.Event.{Event}
use Rattle.rp_base.specs.declared.event.Refusal.{Refusal}
use Rattle.proto_data.specs.declared.message.Msg.{Msg}
use Rattle.proto_data.specs.declared.message.Input.{Input}
use Rattle.rp_app.specs.Application.{Application}
use Rattle.proto_model.specs.Effects.{frame_passed}
use Rattle.proto_model.specs.Handing.{hand, handed, found, found_from}
use Rattle.rp_base.specs.Nodes.{same_node}
use Rattle.proto_model.specs.Lines.{Refused, Stranger}
use Rattle.proto_model.specs.Pumping.{Received, Pumped, goes_on, datagram, answered, asked, pumped, pumped_node, pumped_unless, running_nodes, acted, linked_event, linked_run}
use Rattle.proto_model.specs.SwitchRows.{switch_step}
use Rattle.proto_model.specs.World.{World, Setup, SwitchNode, ReplicaNode, numbers_from, running_switches, running_replicas, opened}
use Rattle.proto_model.specs.WorldStep.{Act, Refuses, Feeds, Delivers, Passes, Advances, Alarms, Stops, Boots, Detects, Announces, Pumps, act_of, perform_act, node_takes, switch_takes, replica_takes, runs_now, runs_at_switch, runs_at_replica, next_event, frames_full}
use Rattle.proto_safety.specs.Books.{In}
use Rattle.proto_safety.proofs.Inductions.Induction.{Keeps, node_kept, event_kept, running_after}
use Rattle.proto_safety.proofs.Basics.Members.{in_append, in_map}

-- ---- who runs

switch_set : (xs : List SwitchNode) (n q : ℕ) (x y : SwitchNode) → slice_get xs n ≡ Some x → y.runs ≡ x.runs → runs_at_switch (slice_get (set xs n y) q) ≡ runs_at_switch (slice_get xs q)
switch_set [] n q x y at same = cc
switch_set (z ∷ zs) zero zero x y at same = let e : z ≡ x = cc in same ∙ ap (λ (s : SwitchNode). s.runs) (sym e)
switch_set (z ∷ zs) zero (suc q) x y at same = refl
switch_set (z ∷ zs) (suc n) zero x y at same = refl
switch_set (z ∷ zs) (suc n) (suc q) x y at same = switch_set zs n q x y at same

replica_set : (xs : List ReplicaNode) (n q : ℕ) (x y : ReplicaNode) → slice_get xs n ≡ Some x → y.runs ≡ x.runs → runs_at_replica (slice_get (set xs n y) q) ≡ runs_at_replica (slice_get xs q)
replica_set [] n q x y at same = cc
replica_set (z ∷ zs) zero zero x y at same = let e : z ≡ x = cc in same ∙ ap (λ (s : ReplicaNode). s.runs) (sym e)
replica_set (z ∷ zs) zero (suc q) x y at same = refl
replica_set (z ∷ zs) (suc n) zero x y at same = refl
replica_set (z ∷ zs) (suc n) (suc q) x y at same = replica_set zs n q x y at same

switch_runs : (app : Application) (w : World) (n : ℕ) (input : Input) (o : Option SwitchNode) → slice_get w.switches n ≡ o → (x : Node) → runs_now (switch_takes app w n input o).0 x ≡ runs_now w x
switch_runs app w n input None at x = refl
switch_runs app w n input (Some node) at (Node.Switch q) = switch_set w.switches n q node (record node { state = (switch_step app node.state node.clock input).0 }) at refl
switch_runs app w n input (Some node) at (Node.Replica q) = refl
switch_runs app w n input (Some node) at Node.Master = refl

replica_runs : (w : World) (n : ℕ) (input : Input) (o : Option ReplicaNode) → slice_get w.replicas n ≡ o → (x : Node) → runs_now (replica_takes w n input o).0 x ≡ runs_now w x
replica_runs w n input None at x = refl
replica_runs w n input (Some node) at (Node.Switch q) = refl
replica_runs w n input (Some node) at (Node.Replica q) = replica_set w.replicas n q node _ at refl
replica_runs w n input (Some node) at Node.Master = refl

node_runs : (app : Application) (w : World) (to : Node) (input : Input) (x : Node) → runs_now (node_takes app w to input).0 x ≡ runs_now w x
node_runs app w (Node.Switch n) input x = switch_runs app w n input (slice_get w.switches n) refl x
node_runs app w (Node.Replica n) input x = replica_runs w n input (slice_get w.replicas n) refl x
node_runs app w Node.Master input x = refl

-- who runs still runs after a frame was handed over
hand_runs : (app : Application) (w : World) (i : ℕ) (o : Option Msg) (x : Node) → runs_now w x ≡ true → runs_now (handed app w i o).0 x ≡ true
hand_runs app w i None x up = up
hand_runs app w i (Some m) x up = node_runs app (frame_passed w i) m.to (Input.Msg m) x ∙ running_after w i x up

switch_numbers : (xs : List SwitchNode) (k n : ℕ) → In (numbers_from (λ (s : SwitchNode). s.runs) k xs) n → (i : ℕ) × ((n ≡ k + i) × (runs_at_switch (slice_get xs i) ≡ true))
switch_numbers [] k n i = absurd i
switch_numbers (x ∷ xs) k n i = run_case x.runs refl i (switch_numbers xs (k + 1) n)
  where
    later : (i : ℕ) × ((n ≡ k + 1 + i) × (runs_at_switch (slice_get xs i) ≡ true)) → (i : ℕ) × ((n ≡ k + i) × (runs_at_switch (slice_get (x ∷ xs) i) ≡ true))
    later h = (suc h.0, (omega (arith, h.1.0), h.1.1))

    run_case : (b : Bool) → x.runs ≡ b → In (if b then k ∷ numbers_from (λ (s : SwitchNode). s.runs) (k + 1) xs else numbers_from (λ (s : SwitchNode). s.runs) (k + 1) xs) n →
        (In (numbers_from (λ (s : SwitchNode). s.runs) (k + 1) xs) n → (i : ℕ) × ((n ≡ k + 1 + i) × (runs_at_switch (slice_get xs i) ≡ true))) → (i : ℕ) × ((n ≡ k + i) × (runs_at_switch (slice_get (x ∷ xs) i) ≡ true))
    run_case true is (inl e) rest = (0, (omega (arith, e), is))
    run_case true is (inr j) rest = later (rest j)
    run_case false is j rest = later (rest j)

replica_numbers : (xs : List ReplicaNode) (k n : ℕ) → In (numbers_from (λ (s : ReplicaNode). s.runs) k xs) n → (i : ℕ) × ((n ≡ k + i) × (runs_at_replica (slice_get xs i) ≡ true))
replica_numbers [] k n i = absurd i
replica_numbers (x ∷ xs) k n i = run_case x.runs refl i (replica_numbers xs (k + 1) n)
  where
    later : (i : ℕ) × ((n ≡ k + 1 + i) × (runs_at_replica (slice_get xs i) ≡ true)) → (i : ℕ) × ((n ≡ k + i) × (runs_at_replica (slice_get (x ∷ xs) i) ≡ true))
    later h = (suc h.0, (omega (arith, h.1.0), h.1.1))

    run_case : (b : Bool) → x.runs ≡ b → In (if b then k ∷ numbers_from (λ (s : ReplicaNode). s.runs) (k + 1) xs else numbers_from (λ (s : ReplicaNode). s.runs) (k + 1) xs) n →
        (In (numbers_from (λ (s : ReplicaNode). s.runs) (k + 1) xs) n → (i : ℕ) × ((n ≡ k + 1 + i) × (runs_at_replica (slice_get xs i) ≡ true))) → (i : ℕ) × ((n ≡ k + i) × (runs_at_replica (slice_get (x ∷ xs) i) ≡ true))
    run_case true is (inl e) rest = (0, (omega (arith, e), is))
    run_case true is (inr j) rest = later (rest j)
    run_case false is j rest = later (rest j)

-- the nodes that a pump asks run
nodes_run : (w : World) (x : Node) → In (running_nodes w) x → runs_now w x ≡ true
nodes_run w x i = side (in_append (map (λ n. Node.Switch n) (running_switches w)) (map (λ n. Node.Replica n) (running_replicas w)) x i)
  where
    side : In (map (λ n. Node.Switch n) (running_switches w)) x ⊎ In (map (λ n. Node.Replica n) (running_replicas w)) x → runs_now w x ≡ true
    side (inl j) =
        let m = in_map (λ n. Node.Switch n) (running_switches w) x j in
        let r = switch_numbers w.switches 0 m.0 m.1.0 in
        let same : m.0 ≡ r.0 = omega (arith, r.1.0) in
        subst (λ y. runs_now w y ≡ true) m.1.1 (subst (λ n. runs_at_switch (slice_get w.switches n) ≡ true) (sym same) r.1.1)
    side (inr j) =
        let m = in_map (λ n. Node.Replica n) (running_replicas w) x j in
        let r = replica_numbers w.replicas 0 m.0 m.1.0 in
        let same : m.0 ≡ r.0 = omega (arith, r.1.0) in
        subst (λ y. runs_now w y ≡ true) m.1.1 (subst (λ n. runs_at_replica (slice_get w.replicas n) ≡ true) (sym same) r.1.1)

-- ---- what is found

same_node-true : (a b : Node) → same_node a b ≡ true → a ≡ b
same_node-true (Node.Switch n) (Node.Switch m) e = ap (λ k. Node.Switch k) (eqb-true n m e)
same_node-true (Node.Replica n) (Node.Replica m) e = ap (λ k. Node.Replica k) (eqb-true n m e)
same_node-true Node.Master Node.Master e = refl
same_node-true (Node.Switch n) (Node.Replica m) e = absurd (false≢true e)
same_node-true (Node.Switch n) Node.Master e = absurd (false≢true e)
same_node-true (Node.Replica n) (Node.Switch m) e = absurd (false≢true e)
same_node-true (Node.Replica n) Node.Master e = absurd (false≢true e)
same_node-true Node.Master (Node.Switch m) e = absurd (false≢true e)
same_node-true Node.Master (Node.Replica m) e = absurd (false≢true e)

-- a frame for this node
pub record FrameFor (frames : List Msg) (to : Node) (i : ℕ) : Type 0 where
  pub msg : Msg
  pub at : slice_get frames i ≡ Some msg
  pub to_is : msg.to ≡ to

at_length : (before ms : List Msg) (m : Msg) → slice_get (before ++ m ∷ ms) (length before) ≡ Some m
at_length [] ms m = refl
at_length (x ∷ before) ms m = at_length before ms m

found_in : (spelled : Msg → List ℕ) (to : Node) (bytes : List ℕ) (frames before ms : List Msg) (k i : ℕ) → before ++ ms ≡ frames → length before ≡ k → found_from spelled to bytes k ms ≡ Some i → FrameFor frames to i
found_in spelled to bytes frames before [] k i whole l e = cc
found_in spelled to bytes frames before (m ∷ ms) k i whole l e =
    test_case (same_node m.to to && bytes_eq (spelled m) bytes) refl e
    (λ e. found_in spelled to bytes frames (before ++ m ∷ []) ms (k + 1) i (append_assoc before (m ∷ []) ms ∙ whole) (omega (arith, l, length-append before (m ∷ []))) e)
  where
    test_case : (b : Bool) → (same_node m.to to && bytes_eq (spelled m) bytes) ≡ b → (if b then Some k else found_from spelled to bytes (k + 1) ms) ≡ Some i → (found_from spelled to bytes (k + 1) ms ≡ Some i → FrameFor frames to i) → FrameFor frames to i
    test_case true is e rest =
        let same : k ≡ i = cc in
        record { msg = m; at = subst (λ n. slice_get frames n ≡ Some m) (l ∙ same) (subst (λ fs. slice_get fs (length before) ≡ Some m) whole (at_length before ms m)); to_is = same_node-true m.to to (and_parts _ _ is).0 }
    test_case false is e rest = rest e

-- ---- a pump

-- what each step of a pump keeps
pub record PumpKeeps (app : Application) (P : Pumped → Type 0) : Type 0 where
  pub takes : (p : Pumped) (xs : List Received) → P p → P (record p { rest = xs })
  pub begins : (p : Pumped) → P p → P (record p { ended = false })
  pub stranger : (p : Pumped) (node : Node) → P p → P (record p { lines = p.lines ++ Stranger p.world.event node ∷ [] })
  pub full : (p : Pumped) → P p → P (record p { lines = p.lines ++ Refused p.world.event Refusal.FramesFull ∷ []; ended = true })
  pub hands : (p : Pumped) (i : ℕ) (m : Msg) → slice_get p.world.frames i ≡ Some m → runs_now p.world m.to ≡ true → P p → P (goes_on p (handed app p.world i (Some m)))

module _ (spelled : Msg → List ℕ) (app : Application) (P : Pumped → Type 0) (k : PumpKeeps app P) (nodes : List Node) where
  abbrev Up : Pumped → Type 0
  Up p = P p × ((x : Node) → In nodes x → runs_now p.world x ≡ true)

  datagram_up : (node : Node) → In nodes node → (p : Pumped) (o : Option ℕ) → ((i : ℕ) → o ≡ Some i → FrameFor p.world.frames node i) → Up p → Up (datagram app node p o)
  datagram_up node there p None f h = (k.stranger p node h.0, h.1)
  datagram_up node there p (Some i) f h = full_case (frames_full p.world) (f i refl)
    where
      full_case : (full : Bool) → FrameFor p.world.frames node i → Up (if full then record p { lines = p.lines ++ Refused p.world.event Refusal.FramesFull ∷ []; ended = true } else goes_on p (hand app p.world i))
      full_case true g = (k.full p h.0, h.1)
      full_case false g =
          let up : runs_now p.world g.msg.to ≡ true = subst (λ x. runs_now p.world x ≡ true) (sym g.to_is) (h.1 node there) in
          (subst (λ o. P (goes_on p (handed app p.world i o))) (sym g.at) (k.hands p i g.msg g.at up h.0), λ x j. hand_runs app p.world i (slice_get p.world.frames i) x (h.1 x j))

  answered_up : (node : Node) → In nodes node → (p : Pumped) (o : Option (List ℕ)) → Up p → Up (answered spelled app node p o).0
  answered_up node there p None h = h
  answered_up node there p (Some bytes) h = datagram_up node there p (found spelled p.world node bytes) (λ i e. found_in spelled node bytes p.world.frames [] p.world.frames 0 i refl refl e) h

  asked_up : (node : Node) → In nodes node → (p : Pumped) (rest : List Received) → Up p → Up (asked spelled app node p rest).0
  asked_up node there p [] h = h
  asked_up node there p (x ∷ xs) h = answered_up node there (record p { rest = xs }) x.bytes (k.takes p xs h.0, h.1)

  node_up : (node : Node) → In nodes node → (n : ℕ) (p : Pumped) → Up p → Up (pumped_node spelled app node n p)
  node_up node there zero p h = h
  node_up node there (suc n) p h =
      let x = asked_up node there p p.rest h in
      more_case (asked spelled app node p p.rest).1 (node_up node there n (asked spelled app node p p.rest).0 x) x
    where
      more_case : (more : Bool) → Up (pumped_node spelled app node n (asked spelled app node p p.rest).0) → Up (asked spelled app node p p.rest).0 →
          Up (elim more [ true ↦ pumped_node spelled app node n (asked spelled app node p p.rest).0 | false ↦ (asked spelled app node p p.rest).0 ])
      more_case true a b = a
      more_case false a b = b

  unless_up : (ended : Bool) (node : Node) → In nodes node → (p : Pumped) → Up p → Up (pumped_unless ended spelled app node p)
  unless_up true node there p h = h
  unless_up false node there p h = node_up node there 64 p h

  nodes_up : (some : List Node) → ((x : Node) → In some x → In nodes x) → (p : Pumped) → Up p → Up (fold (λ (q : Pumped) node. pumped_unless q.ended spelled app node q) p some)
  nodes_up [] there p h = h
  nodes_up (node ∷ more) there p h = nodes_up more (λ x i. there x (inr i)) (pumped_unless p.ended spelled app node p) (unless_up p.ended node (there node (inl refl)) p h)

pub pump_kept : (spelled : Msg → List ℕ) (app : Application) (P : Pumped → Type 0) → PumpKeeps app P → (p : Pumped) → P p → P (pumped spelled app p)
pump_kept spelled app P k p h =
    (nodes_up spelled app P k (running_nodes p.world) (running_nodes p.world) (λ x i. i) (record p { ended = false }) (k.begins p h, λ x i. nodes_run p.world x i)).0

-- an act is a pump, or acts as without a link
pub acted_by : (spelled : Msg → List ℕ) (app : Application) (P : Pumped → Type 0) (p : Pumped) (act : Act) → (act ≡ Pumps → P (pumped spelled app p)) → P (goes_on p (perform_act app p.world act)) → P (acted spelled app p act)
acted_by spelled app P p Pumps pump h = pump refl
acted_by spelled app P p (Refuses cause) pump h = h
acted_by spelled app P p (Feeds n x) pump h = h
acted_by spelled app P p (Delivers i m) pump h = h
acted_by spelled app P p (Passes i) pump h = h
acted_by spelled app P p (Advances by) pump h = h
acted_by spelled app P p (Alarms node) pump h = h
acted_by spelled app P p (Stops node) pump h = h
acted_by spelled app P p (Boots n) pump h = h
acted_by spelled app P p (Detects node) pump h = h
acted_by spelled app P p Announces pump h = h

-- ---- what worlds keep

module _ (spelled : Msg → List ℕ) (app : Application) (I : World → Type 0) (k : Keeps app I) where
  pumps_keep : PumpKeeps app (λ (p : Pumped). I p.world)
  pumps_keep =
      record {
        takes = λ p xs h. h;
        begins = λ p h. h;
        stranger = λ p node h. h;
        full = λ p h. h;
        hands = λ p i m at up h. node_kept app I k (frame_passed p.world i) m.to (Input.Msg m) (running_after p.world i m.to up) (refl, (i, at)) (k.passes p.world i h);
      }

  linked_event_kept : (p : Pumped) (e : Event) → I p.world → I (linked_event spelled app p e).world
  linked_event_kept p e h =
      acted_by spelled app (λ (q : Pumped). I q.world) (record p { world = next_event p.world }) (act_of app (next_event p.world) e)
      (λ is. pump_kept spelled app (λ (q : Pumped). I q.world) pumps_keep (record p { world = next_event p.world }) (k.counts p.world h))
      (event_kept app I k p.world e h)

  linked_from : (es : List Event) (p : Pumped) → I p.world → I (fold (linked_event spelled app) p es).world
  linked_from [] p h = h
  linked_from (e ∷ es) p h = linked_from es (linked_event spelled app p e) (linked_event_kept p e h)

  -- what is kept holds after every run over a link
  pub linked_kept : (setup : Setup) (events : List Event) (received : List Received) → I (opened app.cell_count setup) → I (linked_run spelled app setup events received).world
  linked_kept setup events received h = linked_from events (record { world = opened app.cell_count setup; lines = []; rest = received; ended = false }) h
