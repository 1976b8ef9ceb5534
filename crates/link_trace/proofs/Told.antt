-- What a run over a link does outside is its lines, its frames and the answers that it takes.
use Rattle.std.proofs.Common.{◌≡◌, ℕ, ◌≤◌, zero, suc, Bool, true, false, List, [], ◌∷◌, ◌++◌, Option, Some, None, drop, fold, length, map, slice_get, refl, sym, ap, ◌∙◌, arith, append-nil, append_assoc, length-append}
use Rattle.std.specs.Prelude.{if◌then◌else◌}
use Rattle.rp_base.specs.declared.event.Event.{Event}
use Rattle.rp_base.specs.declared.event.Refusal.{Refusal}
use Rattle.rp_base.specs.declared.node.Node.{Node}
use Rattle.rp_app.specs.Application.{Application}
use Rattle.proto_data.specs.declared.message.Input.{Input}
use Rattle.proto_data.specs.declared.message.Msg.{Msg}
use Rattle.proto_model.specs.Effects.{frame_passed, packet_fed}
use Rattle.proto_model.specs.Handing.{found, hand, handed}
use Rattle.proto_model.specs.Lines.{Line, Refused}
use Rattle.proto_model.specs.Pumping.{Pumped, Received, acted, answered, asked, datagram, goes_on, linked_event, linked_run, pumped, pumped_node, pumped_unless, running_nodes}
use Rattle.proto_model.specs.SwitchRows.{switch_step}
use Rattle.proto_model.specs.ReplicaRows.{store_step}
use Rattle.proto_model.specs.World.{ReplicaNode, Setup, SwitchNode, World}
use Rattle.proto_model.specs.WorldStep.{Act, Refuses, Feeds, Delivers, Passes, Advances, Alarms, Stops, Boots, Detects, Announces, Pumps, WorldStep, act_of, announcements, frames_full, next_event, node_takes, perform_act, replica_takes, switch_takes}
use Rattle.link_trace.specs.Doings.{Doing, Says, Sends, Hears, act_did, answer_did, answers_of, call_did, datagram_did, event_did, events_did, frames_of, lines_of, node_did, nodes_did, pump_did, run_did, step_did, unless_did, unpumped}

-- ---- parts of doings

pub lines_append : (ds es : List Doing) → lines_of (ds ++ es) ≡ lines_of ds ++ lines_of es
lines_append [] es = refl
lines_append (Says l ∷ ds) es = ap (λ x. l ∷ x) (lines_append ds es)
lines_append (Sends m ∷ ds) es = lines_append ds es
lines_append (Hears x ∷ ds) es = lines_append ds es

frames_append : (ds es : List Doing) → frames_of (ds ++ es) ≡ frames_of ds ++ frames_of es
frames_append [] es = refl
frames_append (Says l ∷ ds) es = frames_append ds es
frames_append (Sends m ∷ ds) es = ap (λ x. m ∷ x) (frames_append ds es)
frames_append (Hears x ∷ ds) es = frames_append ds es

answers_append : (ds es : List Doing) → answers_of (ds ++ es) ≡ answers_of ds ++ answers_of es
answers_append [] es = refl
answers_append (Says l ∷ ds) es = answers_append ds es
answers_append (Sends m ∷ ds) es = answers_append ds es
answers_append (Hears x ∷ ds) es = ap (λ y. x ∷ y) (answers_append ds es)

step_lines : (ls : List Line) (ms : List Msg) → lines_of (map (λ l. Says l) ls ++ map (λ m. Sends m) ms) ≡ ls
step_lines [] [] = refl
step_lines [] (m ∷ ms) = step_lines [] ms
step_lines (l ∷ ls) ms = ap (λ x. l ∷ x) (step_lines ls ms)

step_frames : (ls : List Line) (ms : List Msg) → frames_of (map (λ l. Says l) ls ++ map (λ m. Sends m) ms) ≡ ms
step_frames [] [] = refl
step_frames [] (m ∷ ms) = ap (λ x. m ∷ x) (step_frames [] ms)
step_frames (l ∷ ls) ms = step_frames ls ms

step_answers : (ls : List Line) (ms : List Msg) → answers_of (map (λ l. Says l) ls ++ map (λ m. Sends m) ms) ≡ []
step_answers [] [] = refl
step_answers [] (m ∷ ms) = step_answers [] ms
step_answers (l ∷ ls) ms = step_answers ls ms

-- ---- frames only grow

abbrev Extends : List Msg → List Msg → Type 0
Extends before after = (more : List Msg) × (after ≡ before ++ more)

switch_more : (app : Application) (w : World) (n : ℕ) (input : Input) (o : Option SwitchNode) → Extends w.frames (switch_takes app w n input o).0.frames
switch_more app w n input None = ([], sym (append-nil w.frames))
switch_more app w n input (Some node) = ((switch_step app node.state node.clock input).1.sent, refl)

replica_more : (w : World) (n : ℕ) (input : Input) (o : Option ReplicaNode) → Extends w.frames (replica_takes w n input o).0.frames
replica_more w n input None = ([], sym (append-nil w.frames))
replica_more w n input (Some node) = ((store_step node.state node.clock input).1.sent, refl)

node_more : (app : Application) (w : World) (to : Node) (input : Input) → Extends w.frames (node_takes app w to input).0.frames
node_more app w (Node.Switch n) input = switch_more app w n input (slice_get w.switches n)
node_more app w (Node.Replica n) input = replica_more w n input (slice_get w.replicas n)
node_more app w Node.Master input = ([], sym (append-nil w.frames))

handed_more : (app : Application) (w : World) (i : ℕ) (o : Option Msg) → Extends w.frames (handed app w i o).0.frames
handed_more app w i None = ([], sym (append-nil w.frames))
handed_more app w i (Some m) = node_more app (frame_passed w i) m.to (Input.Msg m)

act_more : (app : Application) (w : World) (act : Act) → Extends w.frames (perform_act app w act).0.frames
act_more app w (Refuses cause) = ([], sym (append-nil w.frames))
act_more app w (Feeds n p) = node_more app (packet_fed w p) (Node.Switch n) (Input.Packet p)
act_more app w (Delivers i m) = node_more app (frame_passed w i) m.to (Input.Msg m)
act_more app w (Passes i) = ([], sym (append-nil w.frames))
act_more app w (Advances by) = ([], sym (append-nil w.frames))
act_more app w (Alarms node) = node_more app w node Input.Alarm
act_more app w (Stops (Node.Switch n)) = ([], sym (append-nil w.frames))
act_more app w (Stops (Node.Replica n)) = ([], sym (append-nil w.frames))
act_more app w (Stops Node.Master) = ([], sym (append-nil w.frames))
act_more app w (Boots n) = ([], sym (append-nil w.frames))
act_more app w (Detects (Node.Switch n)) = ([], sym (append-nil w.frames))
act_more app w (Detects (Node.Replica n)) = ([], sym (append-nil w.frames))
act_more app w (Detects Node.Master) = ([], sym (append-nil w.frames))
act_more app w Announces = (announcements w, refl)
act_more app w Pumps = ([], sym (append-nil w.frames))

pub behind_all : (xs ys : List Msg) → drop (length xs) (xs ++ ys) ≡ ys
behind_all [] ys = refl
behind_all (x ∷ xs) ys = behind_all xs ys

rejoined : (xs ys : List Msg) → Extends xs ys → ys ≡ xs ++ drop (length xs) ys
rejoined xs ys e = e.1 ∙ (ap (λ l. xs ++ l) (sym (behind_all xs e.0)) ∙ ap (λ l. xs ++ drop (length xs) l) (sym e.1))

-- ---- from one state of a run to another

record Did (p q : Pumped) (ds : List Doing) : Type 0 where
  lines : q.lines ≡ p.lines ++ lines_of ds
  frames : q.world.frames ≡ p.world.frames ++ frames_of ds
  answers : p.rest ≡ answers_of ds ++ q.rest

none : (p : Pumped) → Did p p []
none p = record { lines = sym (append-nil p.lines); frames = sym (append-nil p.world.frames); answers = refl }

joined : (p q r : Pumped) (ds es : List Doing) → Did p q ds → Did q r es → Did p r (ds ++ es)
joined p q r ds es a b =
    record {
      lines = b.lines ∙ (ap (λ l. l ++ lines_of es) a.lines ∙ (append_assoc p.lines (lines_of ds) (lines_of es) ∙ ap (λ l. p.lines ++ l) (sym (lines_append ds es))));
      frames = b.frames
          ∙ (ap (λ l. l ++ frames_of es) a.frames ∙ (append_assoc p.world.frames (frames_of ds) (frames_of es) ∙ ap (λ l. p.world.frames ++ l) (sym (frames_append ds es))));
      answers = a.answers
          ∙ (ap (λ l. answers_of ds ++ l) b.answers ∙ (sym (append_assoc (answers_of ds) (answers_of es) r.rest) ∙ ap (λ l. l ++ r.rest) (sym (answers_append ds es))));
    }

-- a step of the world
stepped : (p : Pumped) (step : WorldStep) → Extends p.world.frames step.0.frames → Did p (goes_on p step) (step_did p.world step)
stepped p step more =
    let new : List Msg = drop (length p.world.frames) step.0.frames in
    record {
      lines = ap (λ l. p.lines ++ l) (sym (step_lines step.1 new));
      frames = rejoined p.world.frames step.0.frames more ∙ ap (λ l. p.world.frames ++ l) (sym (step_frames step.1 new));
      answers = ap (λ l. l ++ p.rest) (sym (step_answers step.1 new));
    }

module _ (spelled : Msg → List ℕ) (app : Application) where
  datagram_told : (node : Node) (p : Pumped) (o : Option ℕ) → Did p (datagram app node p o) (datagram_did app node p.world o)
  datagram_told node p None = record { lines = refl; frames = sym (append-nil p.world.frames); answers = refl }
  datagram_told node p (Some i) = full_case (frames_full p.world)
    where
      full_case : (full : Bool) →
          Did p (if full then record p { lines = p.lines ++ Refused p.world.event Refusal.FramesFull ∷ []; ended = true } else goes_on p (hand app p.world i))
          (if full then Says (Refused p.world.event Refusal.FramesFull) ∷ [] else step_did p.world (hand app p.world i))
      full_case true = record { lines = refl; frames = sym (append-nil p.world.frames); answers = refl }
      full_case false = stepped p (hand app p.world i) (handed_more app p.world i (slice_get p.world.frames i))

  answer_told : (node : Node) (p : Pumped) (o : Option (List ℕ)) → Did p (answered spelled app node p o).0 (answer_did spelled app node p.world o)
  answer_told node p None = none p
  answer_told node p (Some bytes) = datagram_told node p (found spelled p.world node bytes)

  call_told : (node : Node) (p : Pumped) (rest : List Received) → p.rest ≡ rest → Did p (asked spelled app node p rest).0 (call_did spelled app node p rest)
  call_told node p [] e = none p
  call_told node p (x ∷ xs) e =
      let d = answer_told node (record p { rest = xs }) x.bytes in
      record { lines = d.lines; frames = d.frames; answers = e ∙ ap (λ l. x ∷ l) d.answers }

  node_told : (node : Node) (n : ℕ) (p : Pumped) → Did p (pumped_node spelled app node n p) (node_did spelled app node n p)
  node_told node zero p = none p
  node_told node (suc n) p =
      more_case (asked spelled app node p p.rest).1 (call_told node p p.rest refl) (node_told node n (asked spelled app node p p.rest).0)
    where
      more_case : (more : Bool) → Did p (asked spelled app node p p.rest).0 (call_did spelled app node p p.rest) →
          Did (asked spelled app node p p.rest).0 (pumped_node spelled app node n (asked spelled app node p p.rest).0) (node_did spelled app node n (asked spelled app node p p.rest).0) →
          Did p (elim more [ true ↦ pumped_node spelled app node n (asked spelled app node p p.rest).0 | false ↦ (asked spelled app node p p.rest).0 ])
          (call_did spelled app node p p.rest ++ elim more [ true ↦ node_did spelled app node n (asked spelled app node p p.rest).0 | false ↦ [] ])
      more_case true a b = joined p _ _ _ _ a b
      more_case false a b = joined p _ _ _ _ a (none (asked spelled app node p p.rest).0)

  unless_told : (ended : Bool) (node : Node) (p : Pumped) → Did p (pumped_unless ended spelled app node p) (unless_did ended spelled app node p)
  unless_told true node p = none p
  unless_told false node p = node_told node 64 p

  nodes_told : (nodes : List Node) (p : Pumped) → Did p (fold (λ (q : Pumped) node. pumped_unless q.ended spelled app node q) p nodes) (nodes_did spelled app p nodes)
  nodes_told [] p = none p
  nodes_told (node ∷ nodes) p = joined p _ _ _ _ (unless_told p.ended node p) (nodes_told nodes (pumped_unless p.ended spelled app node p))

  pump_told : (p : Pumped) → Did p (pumped spelled app p) (pump_did spelled app p)
  pump_told p =
      let d = nodes_told (running_nodes p.world) (record p { ended = false }) in record { lines = d.lines; frames = d.frames; answers = d.answers }

  act_told : (p : Pumped) (act : Act) → Did p (acted spelled app p act) (act_did spelled app p act)
  act_told p Pumps = pump_told p
  act_told p (Refuses cause) = stepped p (perform_act app p.world (Refuses cause)) (act_more app p.world (Refuses cause))
  act_told p (Feeds n x) = stepped p (perform_act app p.world (Feeds n x)) (act_more app p.world (Feeds n x))
  act_told p (Delivers i m) = stepped p (perform_act app p.world (Delivers i m)) (act_more app p.world (Delivers i m))
  act_told p (Passes i) = stepped p (perform_act app p.world (Passes i)) (act_more app p.world (Passes i))
  act_told p (Advances by) = stepped p (perform_act app p.world (Advances by)) (act_more app p.world (Advances by))
  act_told p (Alarms node) = stepped p (perform_act app p.world (Alarms node)) (act_more app p.world (Alarms node))
  act_told p (Stops node) = stepped p (perform_act app p.world (Stops node)) (act_more app p.world (Stops node))
  act_told p (Boots n) = stepped p (perform_act app p.world (Boots n)) (act_more app p.world (Boots n))
  act_told p (Detects node) = stepped p (perform_act app p.world (Detects node)) (act_more app p.world (Detects node))
  act_told p Announces = stepped p (perform_act app p.world Announces) (act_more app p.world Announces)

  event_told : (p : Pumped) (e : Event) → Did p (linked_event spelled app p e) (event_did spelled app p e)
  event_told p e =
      let d = act_told (record p { world = next_event p.world }) (act_of app (next_event p.world) e) in record { lines = d.lines; frames = d.frames; answers = d.answers }

  events_told : (es : List Event) (p : Pumped) → Did p (fold (linked_event spelled app) p es) (events_did spelled app p es)
  events_told [] p = none p
  events_told (e ∷ es) p = joined p _ _ _ _ (event_told p e) (events_told es (linked_event spelled app p e))

  pub run_lines : (setup : Setup) (events : List Event) (received : List Received) → lines_of (run_did spelled app setup events received) ≡ (linked_run spelled app setup events received).lines
  run_lines setup events received = sym (events_told events (unpumped app setup received)).lines

  pub run_frames : (setup : Setup) (events : List Event) (received : List Received) → frames_of (run_did spelled app setup events received) ≡ (linked_run spelled app setup events received).world.frames
  run_frames setup events received = sym (events_told events (unpumped app setup received)).frames

  pub run_answers : (setup : Setup) (events : List Event) (received : List Received) → received ≡ answers_of (run_did spelled app setup events received) ++ (linked_run spelled app setup events received).rest
  run_answers setup events received = (events_told events (unpumped app setup received)).answers

  -- more events do what they do from where the others end
  pub goes_behind : (es fs : List Event) (p : Pumped) → events_did spelled app p (es ++ fs) ≡ events_did spelled app p es ++ events_did spelled app (fold (linked_event spelled app) p es) fs
  goes_behind [] fs p = refl
  goes_behind (e ∷ es) fs p =
      ap (λ l. event_did spelled app p e ++ l) (goes_behind es fs (linked_event spelled app p e))
      ∙ sym (append_assoc (event_did spelled app p e) (events_did spelled app (linked_event spelled app p e) es) _)

  -- ---- how often a node is asked

  datagram_hears : (node : Node) (w : World) (o : Option ℕ) → answers_of (datagram_did app node w o) ≡ []
  datagram_hears node w None = refl
  datagram_hears node w (Some i) = full_case (frames_full w)
    where
      full_case : (full : Bool) → answers_of (if full then Says (Refused w.event Refusal.FramesFull) ∷ [] else step_did w (hand app w i)) ≡ []
      full_case true = refl
      full_case false = step_answers (hand app w i).1 (drop (length w.frames) (hand app w i).0.frames)

  answer_hears : (node : Node) (w : World) (o : Option (List ℕ)) → answers_of (answer_did spelled app node w o) ≡ []
  answer_hears node w None = refl
  answer_hears node w (Some bytes) = datagram_hears node w (found spelled w node bytes)

  call_hears : (node : Node) (p : Pumped) (rest : List Received) → length (answers_of (call_did spelled app node p rest)) ≤ 1
  call_hears node p [] = omega arith
  call_hears node p (x ∷ xs) = let one : length (answers_of (answer_did spelled app node p.world x.bytes)) ≡ 0 = ap length (answer_hears node p.world x.bytes) in omega (arith, one)

  pub node_hears : (node : Node) (n : ℕ) (p : Pumped) → length (answers_of (node_did spelled app node n p)) ≤ n
  node_hears node zero p = omega arith
  node_hears node (suc n) p = more_case (asked spelled app node p p.rest).1 (call_hears node p p.rest) (node_hears node n (asked spelled app node p p.rest).0)
    where
      more_case : (more : Bool) → length (answers_of (call_did spelled app node p p.rest)) ≤ 1 → length (answers_of (node_did spelled app node n (asked spelled app node p p.rest).0)) ≤ n →
          length (answers_of (call_did spelled app node p p.rest ++ elim more [ true ↦ node_did spelled app node n (asked spelled app node p p.rest).0 | false ↦ [] ])) ≤ suc n
      more_case true one few =
          let parts = ap length (answers_append (call_did spelled app node p p.rest) (node_did spelled app node n (asked spelled app node p p.rest).0)) in
          omega (arith, one, few, parts, length-append (answers_of (call_did spelled app node p p.rest)) (answers_of (node_did spelled app node n (asked spelled app node p p.rest).0)))
      more_case false one few =
          let parts = ap length (answers_append (call_did spelled app node p p.rest) []) in
          omega (arith, one, parts, length-append (answers_of (call_did spelled app node p p.rest)) [])
