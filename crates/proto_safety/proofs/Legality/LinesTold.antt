-- What the lines of a run say of its history: the outputs that were released, the events that were refused, the packets that were fed.
use Rattle.std.proofs.Common.{◌≡◌, ℕ, ◌+◌, ◌≤◌, ◌⊎◌, inl, inr, List, [], ◌∷◌, ◌++◌, Option, Some, None, zero, suc, take, length, slice_get, arith, refl, sym, ap, subst, ◌∙◌, true, false, Bool, ◌&&◌, ◌||◌, append_assoc, eqb-true, eq-eqb}
use Rattle.std.specs.Prelude.{◌==◌, option_map, if◌then◌else◌, not, nat_le, nat_lt}
use Rattle.std.proofs.lemmas.List.{append-nil}
use Rattle.std.proofs.lemmas.List.Folds.{list_any-append}
use Rattle.rp_base.specs.declared.node.Node.{Node}
use Rattle.rp_base.specs.declared.node.Output.{Output}
use Rattle.rp_base.specs.declared.node.Packet.{Packet}
use Rattle.rp_base.specs.declared.event.Event.{Event}
use Rattle.rp_base.specs.declared.event.DropCause.{DropCause}
use Rattle.rp_base.specs.declared.event.Lost.{Lost}
use Rattle.rp_base.specs.declared.event.Refusal.{Refusal}
use Rattle.proto_data.specs.declared.message.Msg.{Msg}
use Rattle.proto_data.specs.declared.message.Input.{Input}
use Rattle.rp_app.specs.Application.{Application}
use Rattle.proto_model.specs.Routing.{picked}
use Rattle.proto_model.specs.SwitchState.{SwitchDid}
use Rattle.proto_model.specs.ReplicaState.{StoreDid}
use Rattle.proto_model.specs.SwitchRows.{switch_step}
use Rattle.proto_model.specs.ReplicaRows.{store_step}
use Rattle.proto_model.specs.World.{World, SwitchNode, ReplicaNode, believed_switches, running_replicas}
use Rattle.rp_base.specs.declared.legality.Fed.{Fed}
use Rattle.rp_base.specs.declared.legality.Released.{Released}
use Rattle.proto_model.specs.Feeds.{Each}
use Rattle.proto_model.specs.Lines.{Line, Release, Dropped, LostLine, Refused, send_lines}
use Rattle.proto_model.specs.Effects.{added, packet_fed, frame_passed, release_line, switch_lines, store_lines}
use Rattle.proto_model.specs.WorldStep.{WorldStep, Act, Refuses, Feeds, Delivers, Passes, Advances, Alarms, Stops, Boots, Detects, Announces, Pumps, act_of, perform_act, node_takes, switch_takes, replica_takes, refuses_if, feed_picked, event_packet, deliver_act, next_act, numbered_frame, next_from, is_replica, runs_now, believed_up, frames_full, rates_hold, padded, announcements, next_event, world_step, world_after, run_on}
use Rattle.proto_safety.specs.Books.{In}
use Rattle.proto_safety.specs.LegalLines.{feed_of, feeds_from}
use Rattle.proto_safety.proofs.Inductions.EventCounts.{event_counts}
use Rattle.proto_safety.proofs.Legality.RunLines.{refusal_said, refused_said, release_said, releases_said, flow_said, flows_said, feeds_same}
use Rattle.proto_safety.proofs.Basics.Eachs.{each_append, each_in}
use Rattle.proto_safety.proofs.Basics.Members.{in_append, in_front, to_append}

-- ---- releases

pub releases_append : (xs ys : List Line) → releases_said (xs ++ ys) ≡ releases_said xs ++ releases_said ys
releases_append [] ys = refl
releases_append (x ∷ xs) ys = ap (λ l. release_said x ++ l) (releases_append xs ys) ∙ sym (append_assoc (release_said x) (releases_said xs) (releases_said ys))

send_releases : (event frame : ℕ) (ms : List Msg) → releases_said (send_lines event frame ms) ≡ []
send_releases event frame [] = refl
send_releases event frame (m ∷ ms) = send_releases event (frame + 1) ms

lost_releases : (event : ℕ) (o : Option Lost) (rest : List Line) → releases_said (added (LostLine event) o ++ rest) ≡ releases_said rest
lost_releases event None rest = refl
lost_releases event (Some l) rest = refl

dropped_releases : (event : ℕ) (o : Option (ℕ × DropCause)) (rest : List Line) → releases_said (added (λ (d : ℕ × DropCause). Dropped event d.0 d.1) o ++ rest) ≡ releases_said rest
dropped_releases event None rest = refl
dropped_releases event (Some d) rest = refl

abbrev released_of : ℕ → Option Output → List Released
released_of event o = added (λ (o : Output). record { event = event; output = o }) o

released_releases : (event : ℕ) (o : Option Output) (rest : List Line) → releases_said (added (release_line event) o ++ rest) ≡ released_of event o ++ releases_said rest
released_releases event None rest = refl
released_releases event (Some o) rest = refl

switch_releases : (event frame : ℕ) (did : SwitchDid) → releases_said (switch_lines event frame did) ≡ released_of event did.released
switch_releases event frame did =
    released_releases event did.released _
    ∙ (ap (λ l. released_of event did.released ++ l) (dropped_releases event did.dropped _ ∙ (lost_releases event did.lost _ ∙ send_releases event frame did.sent))
    ∙ append-nil _)

store_releases : (event frame : ℕ) (did : StoreDid) → releases_said (store_lines event frame did) ≡ []
store_releases event frame did = lost_releases event did.lost _ ∙ send_releases event frame did.sent

-- what a step released, its lines say
abbrev pub Releases : World → WorldStep → Type 0
Releases w step = step.0.history.released ≡ w.history.released ++ releases_said step.1

none_released : (xs : List Released) (ls : List Line) → releases_said ls ≡ [] → xs ≡ xs ++ releases_said ls
none_released xs ls is = sym (append-nil xs) ∙ ap (λ l. xs ++ l) (sym is)

switch_told : (app : Application) (w : World) (n : ℕ) (input : Input) (o : Option SwitchNode) → Releases w (switch_takes app w n input o)
switch_told app w n input None = sym (append-nil w.history.released)
switch_told app w n input (Some node) = ap (λ l. w.history.released ++ l) (sym (switch_releases w.event _ (switch_step app node.state node.clock input).1))

replica_told : (w : World) (n : ℕ) (input : Input) (o : Option ReplicaNode) → Releases w (replica_takes w n input o)
replica_told w n input None = sym (append-nil w.history.released)
replica_told w n input (Some node) = none_released w.history.released (store_lines w.event (length w.frames) (store_step node.state node.clock input).1) (store_releases w.event (length w.frames) (store_step node.state node.clock input).1)

pub node_told : (app : Application) (w : World) (to : Node) (input : Input) → Releases w (node_takes app w to input)
node_told app w (Node.Switch n) input = switch_told app w n input (slice_get w.switches n)
node_told app w (Node.Replica n) input = replica_told w n input (slice_get w.replicas n)
node_told app w Node.Master input = sym (append-nil w.history.released)

pub act_told : (app : Application) (w : World) (act : Act) → Releases w (perform_act app w act)
act_told app w (Refuses cause) = sym (append-nil w.history.released)
act_told app w (Feeds n p) = switch_told app (packet_fed w p) n (Input.Packet p) (slice_get w.switches n)
act_told app w (Delivers i m) = node_told app (frame_passed w i) m.to (Input.Msg m)
act_told app w (Passes i) = sym (append-nil w.history.released)
act_told app w (Advances by) = sym (append-nil w.history.released)
act_told app w (Alarms node) = node_told app w node Input.Alarm
act_told app w (Stops (Node.Switch n)) = sym (append-nil w.history.released)
act_told app w (Stops (Node.Replica n)) = sym (append-nil w.history.released)
act_told app w (Stops Node.Master) = sym (append-nil w.history.released)
act_told app w (Boots n) = sym (append-nil w.history.released)
act_told app w (Detects (Node.Switch n)) = sym (append-nil w.history.released)
act_told app w (Detects (Node.Replica n)) = sym (append-nil w.history.released)
act_told app w (Detects Node.Master) = sym (append-nil w.history.released)
act_told app w Announces = none_released w.history.released (send_lines w.event (length w.frames) (announcements w)) (send_releases w.event (length w.frames) (announcements w))
act_told app w Pumps = sym (append-nil w.history.released)

-- the release lines of events are what they released
pub releases_told : (app : Application) (w : World) (es : List Event) → (run_on app w es).0.history.released ≡ w.history.released ++ releases_said (run_on app w es).1
releases_told app w [] = sym (append-nil w.history.released)
releases_told app w (e ∷ es) =
    let first : (world_step app w e).0.history.released ≡ w.history.released ++ releases_said (world_step app w e).1 = act_told app (next_event w) (act_of app (next_event w) e) in
    let later = (run_on app (world_step app w e).0 es).1 in
    releases_told app (world_step app w e).0 es
    ∙ (ap (λ l. l ++ releases_said later) first
    ∙ (append_assoc w.history.released (releases_said (world_step app w e).1) (releases_said later)
    ∙ ap (λ l. w.history.released ++ l) (sym (releases_append (world_step app w e).1 later))))

-- ---- lines that aren't of a kind

-- a line that refusal_said nothing
abbrev pub NoRefusal : Line → Type 0
NoRefusal l = (n : ℕ) → refusal_said n l ≡ false

pub none_refused : (ls : List Line) (n : ℕ) → Each NoRefusal ls → refused_said ls n ≡ false
none_refused [] n h = refl
none_refused (l ∷ ls) n h = rw (h.0 n) (none_refused ls n h.1)

-- a line that is no flow's serial line
abbrev pub NoSerial : Line → Type 0
NoSerial l = (behind : List Line) → flow_said l behind ≡ []

pub no_flows : (xs ys : List Line) → Each NoSerial xs → flows_said (xs ++ ys) ≡ flows_said ys
no_flows [] ys h = refl
no_flows (x ∷ xs) ys h = ap (λ l. l ++ flows_said (xs ++ ys)) (h.0 (xs ++ ys)) ∙ no_flows xs ys h.1

module _ (P : Line → Type 0) (release : (event mark port : ℕ) (bytes : List ℕ) → P (Release event mark port bytes)) (dropped : (event mark : ℕ) (cause : DropCause) → P (Dropped event mark cause)) (lost : (event : ℕ) (cause : Lost) → P (LostLine event cause)) (send : (event frame : ℕ) (m : Msg) → Each P (send_lines event frame (m ∷ []))) where
  each_send : (event frame : ℕ) (ms : List Msg) → Each P (send_lines event frame ms)
  each_send event frame [] = tt
  each_send event frame (m ∷ ms) = ((send event frame m).0, each_send event (frame + 1) ms)

  each_added : {A : Type 0} (f : A → Line) (o : Option A) → ((x : A) → P (f x)) → Each P (added f o)
  each_added f None h = tt
  each_added f (Some x) h = (h x, tt)

  each_switch : (event frame : ℕ) (did : SwitchDid) → Each P (switch_lines event frame did)
  each_switch event frame did =
      each_append P (added (release_line event) did.released) _ (each_added (release_line event) did.released (λ o. release event o.mark o.port o.bytes))
      (each_append P (added (λ (d : ℕ × DropCause). Dropped event d.0 d.1) did.dropped) _ (each_added (λ (d : ℕ × DropCause). Dropped event d.0 d.1) did.dropped (λ d. dropped event d.0 d.1))
      (each_append P (added (LostLine event) did.lost) _ (each_added (LostLine event) did.lost (λ l. lost event l))
      (each_send event frame did.sent)))

  each_store : (event frame : ℕ) (did : StoreDid) → Each P (store_lines event frame did)
  each_store event frame did = each_append P (added (LostLine event) did.lost) _ (each_added (LostLine event) did.lost (λ l. lost event l)) (each_send event frame did.sent)

  each_switch_takes : (app : Application) (w : World) (n : ℕ) (input : Input) (o : Option SwitchNode) → Each P (switch_takes app w n input o).1
  each_switch_takes app w n input None = tt
  each_switch_takes app w n input (Some node) = each_switch w.event _ (switch_step app node.state node.clock input).1

  each_replica_takes : (w : World) (n : ℕ) (input : Input) (o : Option ReplicaNode) → Each P (replica_takes w n input o).1
  each_replica_takes w n input None = tt
  each_replica_takes w n input (Some node) = each_store w.event _ (store_step node.state node.clock input).1

  pub each_node_takes : (app : Application) (w : World) (to : Node) (input : Input) → Each P (node_takes app w to input).1
  each_node_takes app w (Node.Switch n) input = each_switch_takes app w n input (slice_get w.switches n)
  each_node_takes app w (Node.Replica n) input = each_replica_takes w n input (slice_get w.replicas n)
  each_node_takes app w Node.Master input = tt

  -- the lines of an act, if those of a refusal too are so
  each_act : (app : Application) (w : World) (act : Act) → ((cause : Refusal) → act ≡ Refuses cause → P (Refused w.event cause)) → Each P (perform_act app w act).1
  each_act app w (Refuses cause) h = (h cause refl, tt)
  each_act app w (Feeds n p) h = each_switch_takes app (packet_fed w p) n (Input.Packet p) (slice_get w.switches n)
  each_act app w (Delivers i m) h = each_node_takes app (frame_passed w i) m.to (Input.Msg m)
  each_act app w (Passes i) h = tt
  each_act app w (Advances by) h = tt
  each_act app w (Alarms node) h = each_node_takes app w node Input.Alarm
  each_act app w (Stops node) h = tt
  each_act app w (Boots n) h = tt
  each_act app w (Detects node) h = tt
  each_act app w Announces h = each_send w.event _ (announcements w)
  each_act app w Pumps h = tt

-- lines of a run are no serial lines
pub act_no_serial : (app : Application) (w : World) (act : Act) → Each NoSerial (perform_act app w act).1
act_no_serial app w act =
    each_act NoSerial (λ event mark port bytes behind. refl) (λ event mark cause behind. refl) (λ event cause behind. refl) (λ event frame m. (λ behind. refl, tt)) app w act (λ cause is behind. refl)

pub run_no_serial : (app : Application) (w : World) (es : List Event) → Each NoSerial (run_on app w es).1
run_no_serial app w [] = tt
run_no_serial app w (e ∷ es) = each_append NoSerial (world_step app w e).1 _ (act_no_serial app (next_event w) (act_of app (next_event w) e)) (run_no_serial app (world_step app w e).0 es)

-- ---- refusals

abbrev pub is_refusal : Act → Bool
is_refusal (Refuses cause) = true
is_refusal _ = false

not_same : (a b : ℕ) → (a ≡ b → ⊥) → (a == b) ≡ false
not_same a b ne = same_case (a == b) refl
  where
    same_case : (x : Bool) → (a == b) ≡ x → x ≡ false
    same_case true is = absurd (ne (eqb-true a b is))
    same_case false is = refl

-- an act that isn't a refusal refusal_said no event
pub act_no_refusal : (app : Application) (w : World) (act : Act) → is_refusal act ≡ false → Each NoRefusal (perform_act app w act).1
act_no_refusal app w act is =
    each_act NoRefusal (λ event mark port bytes n. refl) (λ event mark cause n. refl) (λ event cause n. refl) (λ event frame m. (λ n. refl, tt)) app w act
    (λ cause same n. let no : true ≡ false = ap is_refusal (sym same) ∙ is in absurd cc)

-- an event's lines refuse no other event
pub act_no_other : (app : Application) (w : World) (act : Act) (n : ℕ) → (w.event ≡ n → ⊥) → refused_said (perform_act app w act).1 n ≡ false
act_no_other app w act n ne =
    none_at (perform_act app w act).1 (each_act (λ l. refusal_said n l ≡ false) (λ event mark port bytes. refl) (λ event mark cause. refl) (λ event cause. refl) (λ event frame m. (refl, tt)) app w act (λ cause is. not_same w.event n ne))
  where
    none_at : (ls : List Line) → Each (λ l. refusal_said n l ≡ false) ls → refused_said ls n ≡ false
    none_at [] h = refl
    none_at (l ∷ ls) h = rw (h.0) (none_at ls h.1)

-- an event's lines refuse it where its act is a refusal
pub act_refused : (app : Application) (w : World) (act : Act) → refused_said (perform_act app w act).1 w.event ≡ is_refusal act
act_refused app w act = refusal_case (is_refusal act) refl
  where
    refused : (act : Act) → is_refusal act ≡ true → refused_said (perform_act app w act).1 w.event ≡ true
    refused (Refuses cause) is = rw (eq-eqb w.event w.event refl) refl
    refused (Feeds n p) is = absurd cc
    refused (Delivers i m) is = absurd cc
    refused (Passes i) is = absurd cc
    refused (Advances by) is = absurd cc
    refused (Alarms node) is = absurd cc
    refused (Stops node) is = absurd cc
    refused (Boots n) is = absurd cc
    refused (Detects node) is = absurd cc
    refused Announces is = absurd cc
    refused Pumps is = absurd cc

    refusal_case : (b : Bool) → is_refusal act ≡ b → refused_said (perform_act app w act).1 w.event ≡ b
    refusal_case true is = refused act is
    refusal_case false is = none_refused (perform_act app w act).1 w.event (act_no_refusal app w act is)

-- no event up to the present one is refused later
run_no_earlier : (app : Application) (w : World) (es : List Event) (n : ℕ) → n ≤ w.event → refused_said (run_on app w es).1 n ≡ false
run_no_earlier app w [] n le = refl
run_no_earlier app w (e ∷ es) n le =
    let now : refused_said (world_step app w e).1 n ≡ false = act_no_other app (next_event w) (act_of app (next_event w) e) n (λ same. omega (arith, le, same)) in
    let later : refused_said (run_on app (world_step app w e).0 es).1 n ≡ false = run_no_earlier app (world_step app w e).0 es n (omega (arith, le, event_counts app w e)) in
    list_any-append (refusal_said n) (world_step app w e).1 (run_on app (world_step app w e).0 es).1 ∙ rw (now, later) refl

-- ---- feeds

abbrev pub fed_by : ℕ → Act → List Fed
fed_by event (Feeds n p) = record { event = event; packet = p } ∷ []
fed_by event _ = []

none_if : (event : ℕ) (b : Bool) (cause : Refusal) (act : Act) → fed_by event act ≡ [] → fed_by event (refuses_if b cause act) ≡ []
none_if event true cause act h = refl
none_if event false cause act h = h

deliver_none : (w : World) (event : ℕ) (o : Option (ℕ × Msg)) → fed_by event (deliver_act w o) ≡ []
deliver_none w event None = refl
deliver_none w event (Some f) = none_if event (not (runs_now w f.1.to)) Refusal.Dead (Delivers f.0 f.1) refl

next_none : (event : ℕ) (o : Option (ℕ × Msg)) → fed_by event (next_act o) ≡ []
next_none event None = refl
next_none event (Some f) = refl

-- an act feeds this packet, or refusal_said to
abbrev FeedsOr : ℕ → Packet → Act → Type 0
FeedsOr event p act = fed_by event act ≡ (if is_refusal act then [] else record { event = event; packet = p } ∷ [])

feed_if : (event : ℕ) (p : Packet) (b : Bool) (cause : Refusal) (act : Act) → FeedsOr event p act → FeedsOr event p (refuses_if b cause act)
feed_if event p true cause act h = refl
feed_if event p false cause act h = h

picked_feeds : (w : World) (p : Packet) (o : Option ℕ) → FeedsOr w.event p (feed_picked w p o)
picked_feeds w p None = refl
picked_feeds w p (Some n) = feed_if w.event p (not (runs_now w (Node.Switch n))) Refusal.Dead (Feeds n p) refl

-- what an act feeds is what its event feeds, unless it is refused
pub event_feeds : (app : Application) (w : World) (e : Event) → fed_by w.event (act_of app w e) ≡ feed_of (is_refusal (act_of app w e)) w.event e
event_feeds app w (Event.Feed port bytes) =
    feed_if w.event (event_packet w port bytes) (frames_full w) Refusal.FramesFull _ (picked_feeds w (event_packet w port bytes) (picked (believed_switches w) (app.key_of (event_packet w port bytes))))
event_feeds app w (Event.FeedAt n port bytes) =
    feed_if w.event (event_packet w port bytes) (frames_full w) Refusal.FramesFull _ (feed_if w.event (event_packet w port bytes) (not (runs_now w (Node.Switch n))) Refusal.Dead (Feeds n (event_packet w port bytes)) refl)
event_feeds app w (Event.Deliver i) = none_if w.event (frames_full w) Refusal.FramesFull _ (none_if w.event w.linked Refusal.Linked _ (deliver_none w w.event (numbered_frame w i)))
event_feeds app w Event.Next = none_if w.event (frames_full w) Refusal.FramesFull _ (none_if w.event w.linked Refusal.Linked _ (next_none w.event (next_from w 0 w.frames)))
event_feeds app w (Event.Drop i) = none_if w.event w.linked Refusal.Linked _ (none_if w.event (not (nat_lt i (length w.frames))) Refusal.NoFrame (Passes i) refl)
event_feeds app w (Event.Time advances) = none_if w.event (not (rates_hold (padded w advances) w.terms.ratio)) Refusal.Rates (Advances (padded w advances)) refl
event_feeds app w (Event.Alarm node) = none_if w.event (frames_full w) Refusal.FramesFull _ (none_if w.event (not (runs_now w node)) Refusal.Dead (Alarms node) refl)
event_feeds app w (Event.Fail node) = none_if w.event (not (runs_now w node)) Refusal.Dead _ (none_if w.event (is_replica node && nat_le (length (running_replicas w)) 1) Refusal.LastReplica (Stops node) refl)
event_feeds app w (Event.Boot n) = none_if w.event (runs_now w (Node.Switch n)) Refusal.Alive (Boots n) refl
event_feeds app w (Event.Detect node) = none_if w.event (runs_now w node && believed_up w node) Refusal.Alive _ (none_if w.event (not (runs_now w node) && not (believed_up w node)) Refusal.Known (Detects node) refl)
event_feeds app w Event.Announce = none_if w.event (frames_full w) Refusal.FramesFull Announces refl
event_feeds app w Event.Pump = none_if w.event (frames_full w) Refusal.FramesFull _ (none_if w.event (not w.linked) Refusal.NoLink Pumps refl)

-- what is fed after an act
abbrev FedAfter : World → WorldStep → List Fed → Type 0
FedAfter w step more = step.0.history.fed ≡ w.history.fed ++ more

switch_fed : (app : Application) (w : World) (n : ℕ) (input : Input) (o : Option SwitchNode) → (switch_takes app w n input o).0.history.fed ≡ w.history.fed
switch_fed app w n input None = refl
switch_fed app w n input (Some node) = refl

replica_fed : (w : World) (n : ℕ) (input : Input) (o : Option ReplicaNode) → (replica_takes w n input o).0.history.fed ≡ w.history.fed
replica_fed w n input None = refl
replica_fed w n input (Some node) = refl

pub node_fed : (app : Application) (w : World) (to : Node) (input : Input) → (node_takes app w to input).0.history.fed ≡ w.history.fed
node_fed app w (Node.Switch n) input = switch_fed app w n input (slice_get w.switches n)
node_fed app w (Node.Replica n) input = replica_fed w n input (slice_get w.replicas n)
node_fed app w Node.Master input = refl

pub act_fed : (app : Application) (w : World) (act : Act) → FedAfter w (perform_act app w act) (fed_by w.event act)
act_fed app w (Refuses cause) = sym (append-nil w.history.fed)
act_fed app w (Feeds n p) = switch_fed app (packet_fed w p) n (Input.Packet p) (slice_get w.switches n)
act_fed app w (Delivers i m) = node_fed app (frame_passed w i) m.to (Input.Msg m) ∙ sym (append-nil w.history.fed)
act_fed app w (Passes i) = sym (append-nil w.history.fed)
act_fed app w (Advances by) = sym (append-nil w.history.fed)
act_fed app w (Alarms node) = node_fed app w node Input.Alarm ∙ sym (append-nil w.history.fed)
act_fed app w (Stops (Node.Switch n)) = sym (append-nil w.history.fed)
act_fed app w (Stops (Node.Replica n)) = sym (append-nil w.history.fed)
act_fed app w (Stops Node.Master) = sym (append-nil w.history.fed)
act_fed app w (Boots n) = sym (append-nil w.history.fed)
act_fed app w (Detects (Node.Switch n)) = sym (append-nil w.history.fed)
act_fed app w (Detects (Node.Replica n)) = sym (append-nil w.history.fed)
act_fed app w (Detects Node.Master) = sym (append-nil w.history.fed)
act_fed app w Announces = sym (append-nil w.history.fed)
act_fed app w Pumps = sym (append-nil w.history.fed)

-- what was fed is what the events feed that no line refusal_said
pub feeds_told : (app : Application) (w : World) (es : List Event) → (run_on app w es).0.history.fed ≡ w.history.fed ++ feeds_from (refused_said (run_on app w es).1) (w.event + 1) es
feeds_told app w [] = sym (append-nil w.history.fed)
feeds_told app w (e ∷ es) =
    let now = (world_step app w e).1 in
    let next = (world_step app w e).0 in
    let later = (run_on app (world_step app w e).0 es).1 in
    let count : (world_step app w e).0.event ≡ w.event + 1 = event_counts app w e in
    let of_now : refused_said (world_step app w e).1 (w.event + 1) ≡ is_refusal (act_of app (next_event w) e) = act_refused app (next_event w) (act_of app (next_event w) e) in
    let not_later : refused_said (run_on app (world_step app w e).0 es).1 (w.event + 1) ≡ false = run_no_earlier app (world_step app w e).0 es (w.event + 1) (omega (arith, count)) in
    let both : refused_said ((world_step app w e).1 ++ (run_on app (world_step app w e).0 es).1) (w.event + 1) ≡ is_refusal (act_of app (next_event w) e) =
    list_any-append (refusal_said (w.event + 1)) now later ∙ (ap (λ b. refused_said (world_step app w e).1 (w.event + 1) || b) not_later ∙ (or_false (refused_said (world_step app w e).1 (w.event + 1)) ∙ of_now)) in
    let first : (world_step app w e).0.history.fed ≡ w.history.fed ++ feed_of (refused_said ((world_step app w e).1 ++ (run_on app (world_step app w e).0 es).1) (w.event + 1)) (w.event + 1) e =
    act_fed app (next_event w) (act_of app (next_event w) e) ∙ ap (λ l. w.history.fed ++ l) (event_feeds app (next_event w) e ∙ ap (λ b. feed_of b (w.event + 1) e) (sym both)) in
    let rest : feeds_from (refused_said (run_on app (world_step app w e).0 es).1) ((world_step app w e).0.event + 1) es ≡ feeds_from (refused_said ((world_step app w e).1 ++ (run_on app (world_step app w e).0 es).1)) (w.event + 1 + 1) es =
    ap (λ k. feeds_from (refused_said (run_on app (world_step app w e).0 es).1) (k + 1) es) count
    ∙ feeds_same (refused_said later) (refused_said (now ++ later)) (w.event + 1 + 1) es
    (λ k le.
    let no : refused_said (world_step app w e).1 k ≡ false = act_no_other app (next_event w) (act_of app (next_event w) e) k (λ same. omega (arith, le, same)) in
    sym (list_any-append (refusal_said k) now later ∙ ap (λ b. b || refused_said (run_on app (world_step app w e).0 es).1 k) no)) in
    feeds_told app next es
    ∙ (ap (λ l. l ++ feeds_from (refused_said later) ((world_step app w e).0.event + 1) es) first
    ∙ (ap (λ l. (w.history.fed ++ feed_of (refused_said (now ++ later) (w.event + 1)) (w.event + 1) e) ++ l) rest
    ∙ append_assoc w.history.fed (feed_of (refused_said (now ++ later) (w.event + 1)) (w.event + 1) e) (feeds_from (refused_said (now ++ later)) (w.event + 1 + 1) es)))
  where
    or_false : (b : Bool) → (b || false) ≡ b
    or_false true = refl
    or_false false = refl

-- ---- where a refusal is told

-- a line that refusal_said an event is that of an act which does
pub act_where : (app : Application) (w : World) (act : Act) (n : ℕ) (cause : Refusal) → In (perform_act app w act).1 (Refused n cause) → (n ≡ w.event) × (act ≡ Refuses cause)
act_where app w act n cause i =
    each_in Says (perform_act app w act).1 (Refused n cause)
    (each_act Says (λ event mark port bytes same. absurd cc) (λ event mark c same. absurd cc) (λ event c same. absurd cc) (λ event frame m. (λ same. absurd cc, tt)) app w act
    (λ c is same. let e : w.event ≡ n = cc in let d : c ≡ cause = cc in (sym e, is ∙ ap Refuses d))) i refl
  where
    Says : Line → Type 0
    Says l = l ≡ Refused n cause → (n ≡ w.event) × (act ≡ Refuses cause)

pub act_tells : (app : Application) (w : World) (act : Act) (cause : Refusal) → act ≡ Refuses cause → In (perform_act app w act).1 (Refused w.event cause)
act_tells app w act cause is = subst (λ a. In (perform_act app w a).1 (Refused w.event cause)) (sym is) (inl refl)

-- the act of the event at a place
abbrev pub act_on : Application → World → List Event → ℕ → Option Act
act_on app w es i = option_map (λ e. act_of app (next_event (world_after app w (take i es))) e) (slice_get es i)

pub record RefusedAt (app : Application) (w : World) (es : List Event) (n : ℕ) (cause : Refusal) : Type 0 where
  pub place : ℕ
  pub number : n ≡ w.event + (place + 1)
  pub refused : act_on app w es place ≡ Some (Refuses cause)

pub refusals_only : (app : Application) (w : World) (es : List Event) (n : ℕ) (cause : Refusal) → In (run_on app w es).1 (Refused n cause) → RefusedAt app w es n cause
refusals_only app w [] n cause i = absurd i
refusals_only app w (e ∷ es) n cause i =
    either (in_append (world_step app w e).1 (run_on app (world_step app w e).0 es).1 (Refused n cause) i) (λ j. refusals_only app (world_step app w e).0 es n cause j)
  where
    either : In (world_step app w e).1 (Refused n cause) ⊎ In (run_on app (world_step app w e).0 es).1 (Refused n cause) →
        (In (run_on app (world_step app w e).0 es).1 (Refused n cause) → RefusedAt app (world_step app w e).0 es n cause) → RefusedAt app w (e ∷ es) n cause
    either (inl j) rest =
        let a = act_where app (next_event w) (act_of app (next_event w) e) n cause j in
        record { place = 0; number = omega (arith, a.0); refused = ap Some a.1 }
    either (inr j) rest =
        let r = rest j in
        record { place = suc r.place; number = omega (arith, r.number, event_counts app w e); refused = r.refused }

pub refusals_told : (app : Application) (w : World) (es : List Event) (i : ℕ) (cause : Refusal) → act_on app w es i ≡ Some (Refuses cause) → In (run_on app w es).1 (Refused (w.event + (i + 1)) cause)
refusals_told app w [] i cause is = absurd cc
refusals_told app w (e ∷ es) zero cause is =
    let same : act_of app (next_event w) e ≡ Refuses cause = cc in
    let number : w.event + (0 + 1) ≡ w.event + 1 = omega arith in
    subst (λ n. In ((world_step app w e).1 ++ (run_on app (world_step app w e).0 es).1) (Refused n cause)) (sym number)
    (in_front (world_step app w e).1 (run_on app (world_step app w e).0 es).1 (Refused (w.event + 1) cause) (act_tells app (next_event w) (act_of app (next_event w) e) cause same))
refusals_told app w (e ∷ es) (suc i) cause is =
    let number : (world_step app w e).0.event + (i + 1) ≡ w.event + (suc i + 1) = omega (arith, event_counts app w e) in
    to_append (world_step app w e).1 (run_on app (world_step app w e).0 es).1 (Refused (w.event + (suc i + 1)) cause)
    (inr (subst (λ n. In (run_on app (world_step app w e).0 es).1 (Refused n cause)) number (refusals_told app (world_step app w e).0 es i cause is)))
