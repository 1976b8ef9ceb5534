-- After every list of events of a strict run: what is known of Puts and items.
use Rattle.std.proofs.Common.{◌≡◌, ◌≢◌, ◌⊎◌, inl, inr, ℕ, ◌+◌, List, [], ◌∷◌, ◌++◌, drop, length, map, Option, Some, None, refl, sym, ap, ◌∙◌, subst, true, false, set, slice_get, append-nil}
use Rattle.std.proofs.lemmas.Bool.{false≢true}
use Rattle.rp_base.specs.declared.node.Node.{Node}
use Rattle.proto_data.specs.declared.message.Msg.{Msg}
use Rattle.proto_data.specs.declared.message.Body.{Body}
use Rattle.proto_data.specs.declared.message.Entry.{Entry}
use Rattle.proto_data.specs.declared.message.Input.{Input}
use Rattle.proto_data.specs.declared.message.Carried.{Carried}
use Rattle.rp_base.specs.declared.node.Packet.{Packet}
use Rattle.rp_app.specs.Application.{Application}
use Rattle.key_table.specs.Table.{Key}
use Rattle.proto_model.specs.Slot.{Slot}
use Rattle.proto_model.specs.SwitchState.{slot_at, open_switch}
use Rattle.proto_model.specs.SwitchRows.{switch_step}
use Rattle.proto_model.specs.ReplicaRows.{store_step}
use Rattle.proto_model.specs.Effects.{switch_moved, replica_moved, made_output}
use Rattle.proto_model.specs.ReplicaState.{Replica}
use Rattle.proto_model.specs.Records.{Booked}
use Rattle.proto_safety.specs.Flows.{FitsFrom}
use Rattle.proto_model.specs.Feeds.{Each}
use Rattle.proto_model.specs.Stands.{entries_of}
use Rattle.proto_model.specs.World.{World, Setup, Journaled, SwitchNode, ReplicaNode, opened, running_switches, running_replicas}
use Rattle.proto_model.specs.WorldStep.{advanced_switches, advanced_replicas, changed_at, announcements, config_msg}
use Rattle.proto_safety.specs.Books.{In, IsPrefix, lives, committed_of}
use Rattle.proto_safety.proofs.Nodes.SwitchNodes.{AllAt, all_changed, all_advanced}
use Rattle.proto_safety.proofs.Messages.FlowReplies.{granted_rests}
use Rattle.proto_safety.proofs.Nodes.SwitchTable.{msg}
use Rattle.proto_safety.proofs.Store.LastBook.{advanced_at}
use Rattle.proto_model.proofs.StoreStands.{book_after, entries_of-push}
use Rattle.proto_safety.proofs.Store.StoreBooks.{SentBooks}
use Rattle.proto_safety.proofs.Store.BooksStep.{step_sent, moved_committed}
use Rattle.proto_safety.proofs.Store.WorldBooks.{known_input, advanced_committed, stopped_grows}
use Rattle.proto_safety.proofs.Leasing.WorldFlows.{told_input}
use Rattle.proto_safety.proofs.Leasing.WorldPuts.{NumberIn, Known, Owned, NumberFramesFit, moved_puts}
use Rattle.proto_safety.proofs.Leasing.PutsKept.{Unnumbered, SlotWas, GrantWas, not_again, changed_puts}
use Rattle.proto_safety.proofs.Leasing.Ground.{Ground, ground_kept, known_of}
use Rattle.proto_safety.proofs.Inductions.Induction.{KeepsGiven, Comes, with_fed}
use Rattle.proto_safety.proofs.Basics.Eachs.{each_append, each_map, each_weaker}
use Rattle.proto_safety.proofs.Basics.Lists.{at_changed, at_set, get-set_same}
use Rattle.proto_safety.proofs.Basics.Members.{in_append}
use Rattle.proto_safety.proofs.Basics.Prefixes.{in_prefix}

abbrev pub PutsOf : World → Type 0
PutsOf w = NumberFramesFit w.frames w.switches w.replicas w.history.items

-- ---- switches and replicas that were there before

abbrev pub SlotsWere : List SwitchNode → ℕ → SwitchNode → Type 0
SlotsWere old n node = (key : Key) (slot : Slot) → slot_at node.state key ≡ Some slot → SlotWas old n node key slot

pub as_they_were : (nodes : List SwitchNode) → AllAt (SlotsWere nodes) nodes
as_they_were nodes n node at key slot found = record { node_was = node; at = at; found = found; inc = refl }

abbrev GrantsWere : List ReplicaNode → List ReplicaNode → Type 0
GrantsWere old new =
    (r : ℕ) (replica : ReplicaNode) (key : Key) (e s i m : ℕ) → slice_get new r ≡ Some replica → lives replica ≡ true → In (entries_of replica.book) (Entry.Grant key e s i m) →
    GrantWas old r key e s i m ⊎ (Owned (committed_of old) key e → ⊥)

books_as_they_were : (nodes : List ReplicaNode) → GrantsWere nodes nodes
books_as_they_were nodes r replica key e s i m at up there = inl (record { node_was = replica; at = at; up = up; there = there })

-- no frame is sent
quietly : (frames : List Msg) (switches after : List SwitchNode) (replicas later : List ReplicaNode) (items : List Journaled) → IsPrefix (committed_of replicas) (committed_of later) →
    AllAt (SlotsWere switches) after → GrantsWere replicas later → NumberFramesFit frames switches replicas items → NumberFramesFit frames after later items
quietly frames switches after replicas later items grows slots grants h =
    subst (λ (fs : List Msg). NumberFramesFit fs after later items) (append-nil frames)
    (changed_puts frames [] switches after replicas later items tt grows (λ n node key slot at found. slots n node at key slot found) grants h)

pub same_prefix : (es : List Entry) → IsPrefix es es
same_prefix es = record { rest = []; is = append-nil es }

-- ---- a replica's step

no_put : (r : Replica) (es : List Entry) (m : Msg) → SentBooks r es m.from m.to m.body → Unnumbered m
no_put r es m s inc e k key is = body_case m.body s is
  where
    body_case : (b : Body) → SentBooks r es m.from m.to b → NumberIn inc e k key b → ⊥
    body_case (Body.Put i f n q delta load) s is = absurd s
    body_case (Body.Snap i f n q chunk chunks cells) s is = absurd s
    body_case (Body.Ask i n q load) s is = absurd is
    body_case (Body.Grant i n f q cells load) s is = absurd is
    body_case (Body.Busy i n q mark) s is = absurd is
    body_case (Body.Ack i f u q load) s is = absurd is
    body_case (Body.Deny i f q) s is = absurd is
    body_case (Body.Forward c i entry load) s is = absurd is
    body_case (Body.Have i) s is = absurd is
    body_case (Body.Echo of load) s is = absurd is
    body_case (Body.Config c) s is = absurd is

applied_grants : (app : Application) (w : World) (n : ℕ) (node : ReplicaNode) (input : Input) (book : List Booked) → slice_get w.replicas n ≡ Some node → lives node ≡ true → Known app.cell_count w.frames w.switches w.replicas →
    (new : ReplicaNode) → new.book ≡ book_after node.clock w.event node.book (store_step node.state node.clock input).1.applied →
    ((key : Key) → FitsFrom app.cell_count key None (entries_of new.book)) → GrantsWere w.replicas (set w.replicas n new)
applied_grants app w n node input book at up k new is fits r replica key e s i m there lived granted = node_case (at_set w.replicas n r new replica there)
  where
    grant_case : In (entries_of node.book) (Entry.Grant key e s i m) → GrantWas w.replicas n key e s i m
    grant_case g = record { node_was = node; at = at; up = up; there = g }

    new_case : (x : Entry) → entries_of new.book ≡ entries_of node.book ++ x ∷ [] → In (entries_of node.book) (Entry.Grant key e s i m) ⊎ In (x ∷ []) (Entry.Grant key e s i m) → GrantWas w.replicas n key e s i m ⊎ (Owned (committed_of w.replicas) key e → ⊥)
    new_case x whole (inl g) = inl (grant_case g)
    new_case x whole (inr (inl same)) =
        inr (λ o.
        not_again app.cell_count key (entries_of node.book) e s i m o.n o.inc o.grant.nonce
        (subst (λ (l : List Entry). FitsFrom app.cell_count key None l) (whole ∙ ap (λ (y : Entry). entries_of node.book ++ y ∷ []) same) (fits key))
        (in_prefix (committed_of w.replicas) (entries_of node.book) _ (k.within n node at up) o.grant.there))
    new_case x whole (inr (inr j)) = absurd j

    applied_case : (o : Option Entry) → (store_step node.state node.clock input).1.applied ≡ o → In (entries_of new.book) (Entry.Grant key e s i m) → GrantWas w.replicas n key e s i m ⊎ (Owned (committed_of w.replicas) key e → ⊥)
    applied_case None a g =
        inl (grant_case (subst (λ (b : List Booked). In (entries_of b) (Entry.Grant key e s i m)) (is ∙ ap (λ (o : Option Entry). book_after node.clock w.event node.book o) a ∙ append-nil node.book) g))
    applied_case (Some x) a g =
        let whole : entries_of new.book ≡ entries_of node.book ++ x ∷ [] =
        ap entries_of (is ∙ ap (λ (o : Option Entry). book_after node.clock w.event node.book o) a) ∙ entries_of-push node.book (record { entry = x; moment = node.clock; event = w.event }) in
        new_case x whole (in_append (entries_of node.book) (x ∷ []) (Entry.Grant key e s i m) (subst (λ (l : List Entry). In l (Entry.Grant key e s i m)) whole g))

    node_case : ((r ≡ n) × (replica ≡ new)) ⊎ ((r ≢ n) × (slice_get w.replicas r ≡ Some replica)) → GrantWas w.replicas r key e s i m ⊎ (Owned (committed_of w.replicas) key e → ⊥)
    node_case (inl same) =
        subst (λ (x : ℕ). GrantWas w.replicas x key e s i m ⊎ (Owned (committed_of w.replicas) key e → ⊥)) (sym same.0)
        (applied_case (store_step node.state node.clock input).1.applied refl (subst (λ (x : ReplicaNode). In (entries_of x.book) (Entry.Grant key e s i m)) same.1 granted))
    node_case (inr p) = inl (record { node_was = replica; at = p.1; up = lived; there = granted })

advanced_grants : (nodes : List ReplicaNode) (by : List ℕ) → GrantsWere nodes (advanced_replicas nodes by)
advanced_grants nodes by r replica key e s i m at up there =
    let a = advanced_at nodes by r replica at in
    inl (record { node_was = a.0; at = a.1.0; up = sym (ap (λ (x : ReplicaNode). x.runs) a.1.1) ∙ up; there = subst (λ (x : ReplicaNode). In (entries_of x.book) (Entry.Grant key e s i m)) a.1.1 there })

stopped_grants : (nodes : List ReplicaNode) (n : ℕ) → GrantsWere nodes (changed_at nodes n (λ (r : ReplicaNode). record r { runs = false }))
stopped_grants nodes n r replica key e s i m at up there = node_case (at_changed nodes n r (λ (r : ReplicaNode). record r { runs = false }) replica at)
  where
    node_case : ((r ≡ n) × ((x : ReplicaNode) × ((slice_get nodes r ≡ Some x) × (replica ≡ record x { runs = false })))) ⊎ ((r ≢ n) × (slice_get nodes r ≡ Some replica)) → GrantWas nodes r key e s i m ⊎ (Owned (committed_of nodes) key e → ⊥)
    node_case (inl p) = absurd (false≢true (sym (ap (λ (x : ReplicaNode). x.runs) p.1.1.1) ∙ up))
    node_case (inr p) = inl (record { node_was = replica; at = p.1; up = up; there = there })

announced_no_puts : (w : World) → Each Unnumbered (announcements w)
announced_no_puts w =
    each_append Unnumbered (map (λ n. config_msg w (Node.Switch n)) (running_switches w)) _
    (each_map Unnumbered (λ n. config_msg w (Node.Switch n)) (running_switches w) (λ n inc e k key is. absurd is))
    (each_map Unnumbered (λ n. config_msg w (Node.Replica n)) (running_replicas w) (λ n inc e k key is. absurd is))

-- ---- every change

-- a Grant that comes is committed
pub told_grant : (app : Application) (w : World) (n : ℕ) (node : SwitchNode) (input : Input) → Comes w (Node.Switch n) input → Ground app.cell_count w →
    (from to : Node) (nonce e : ℕ) (key : Key) (cells : List ℕ) (load : Option Carried) → input ≡ msg from to (Body.Grant node.state.inc nonce e key cells load) → In (committed_of w.replicas) (Entry.Grant key e n node.state.inc nonce)
told_grant app w n node input from g a b nonce e key cells load came =
    granted_rests app.cell_count (committed_of w.replicas) n node.state.inc nonce e a b key cells load input came (told_input app.cell_count w n input from g.0.0.0.1)

pub fed_grant : (es : List Entry) (n inc : ℕ) (p : Packet) (from to : Node) (nonce e : ℕ) (key : Key) (cells : List ℕ) (load : Option Carried) → Input.Packet p ≡ msg from to (Body.Grant inc nonce e key cells load) → In es (Entry.Grant key e n inc nonce)
fed_grant es n inc p from to nonce e key cells load came = absurd cc

pub no_slots : (old : List SwitchNode) (w : World) (m : ℕ) (x : SwitchNode) → SlotsWere old m x → SlotsWere old m (record x { runs = true; state = open_switch x.state.me (x.state.inc + 1) w.terms w.config })
no_slots old w m x h key slot found = let no : None ≡ Some slot = found in absurd cc

pub puts_kept : (app : Application) → KeepsGiven app (Ground app.cell_count) PutsOf
puts_kept app =
    record {
      counts = λ w g h. h;
      passes = λ w i g h. h;
      feeds = λ w n node p at up mark g h.
          let step = switch_step app node.state node.clock (Input.Packet p) in
          let later = (ground_kept app).feeds w n node p at up mark g in
          moved_puts app w.frames w.switches w.replicas w.history.items n node (Input.Packet p) at (known_of app.cell_count w g) (known_of app.cell_count (switch_moved (with_fed w p) n node step) later)
          (fed_grant (committed_of w.replicas) n node.state.inc p) h (w.event + 1) (made_output step.1.released step.1.sent);
      switches = λ w n node input at up from g h.
          let step = switch_step app node.state node.clock input in
          let later = (ground_kept app).switches w n node input at up from g in
          moved_puts app w.frames w.switches w.replicas w.history.items n node input at (known_of app.cell_count w g) (known_of app.cell_count (switch_moved w n node step) later)
          (told_grant app w n node input from g) h w.event (made_output step.1.released step.1.sent);
      replicas = λ w n node input at up from g h.
          let step = store_step node.state node.clock input in
          let later = known_of app.cell_count (replica_moved w n node step) ((ground_kept app).replicas w n node input at up from g) in
          let new : ReplicaNode = record { runs = node.runs; clock = node.clock; state = step.0; book = book_after node.clock w.event node.book step.1.applied } in
          let stands = (g.0.0.0.0.0.1.nodes n node at).stands in
          changed_puts w.frames step.1.sent w.switches w.switches w.replicas (set w.replicas n new) w.history.items
          (each_weaker (λ (m : Msg). SentBooks step.0 (entries_of new.book) m.from m.to m.body) Unnumbered step.1.sent (λ m s. no_put step.0 (entries_of new.book) m s) (step_sent node.state node.book node.clock w.event input stands))
          (moved_committed g.0.0.0.0.0.0 w.config w.replicas n node w.event input at up g.0.0.0.0.0.1.configs g.0.0.0.0.0.1.nodes (known_input g.0.0.0.0.0.0 w n input from g.0.0.0.0.0.1))
          (λ m x key slot there found. as_they_were w.switches m x there key slot found)
          (applied_grants app w n node input node.book at up (known_of app.cell_count w g) new refl (λ key. later.fits n new key (get-set_same w.replicas n node new at))) h;
      advances = λ w by fits g h.
          quietly w.frames w.switches (advanced_switches w.switches by) w.replicas (advanced_replicas w.replicas (drop (length w.switches) by)) w.history.items (advanced_committed w.replicas (drop (length w.switches) by))
          (all_advanced (SlotsWere w.switches) w.switches by (λ m d x k key slot found. let s = k key slot found in record { node_was = s.node_was; at = s.at; found = s.found; inc = s.inc }) (as_they_were w.switches))
          (advanced_grants w.replicas (drop (length w.switches) by)) h;
      stops_switch = λ w n fits g h.
          quietly w.frames w.switches _ w.replicas w.replicas w.history.items (same_prefix (committed_of w.replicas))
          (all_changed (SlotsWere w.switches) w.switches n (λ (s : SwitchNode). record s { runs = false }) (λ m x k key slot found. let s = k key slot found in record { node_was = s.node_was; at = s.at; found = s.found; inc = s.inc }) (as_they_were w.switches))
          (books_as_they_were w.replicas) h;
      stops_replica = λ w n fits g h.
          quietly w.frames w.switches w.switches w.replicas _ w.history.items (stopped_grows g.0.0.0.0.0.0 w n fits g.0.0.0.0.0.1) (as_they_were w.switches) (stopped_grants w.replicas n) h;
      boots = λ w n fits g h.
          quietly w.frames w.switches _ w.replicas w.replicas w.history.items (same_prefix (committed_of w.replicas))
          (all_changed (SlotsWere w.switches) w.switches n (λ (s : SwitchNode). record s { runs = true; state = open_switch s.state.me (s.state.inc + 1) w.terms w.config }) (no_slots w.switches w) (as_they_were w.switches))
          (books_as_they_were w.replicas) h;
      detects_switch = λ w n fits g h.
          quietly w.frames w.switches _ w.replicas w.replicas w.history.items (same_prefix (committed_of w.replicas))
          (all_changed (SlotsWere w.switches) w.switches n (λ (s : SwitchNode). record s { believed = s.runs }) (λ m x k key slot found. let s = k key slot found in record { node_was = s.node_was; at = s.at; found = s.found; inc = s.inc }) (as_they_were w.switches))
          (books_as_they_were w.replicas) h;
      detects_replica = λ w n fits g h. h;
      announces = λ w g h.
          changed_puts w.frames (announcements w) w.switches w.switches w.replicas w.replicas w.history.items (announced_no_puts w) (same_prefix (committed_of w.replicas)) (λ m x key slot there found. as_they_were w.switches m x there key slot found) (books_as_they_were w.replicas) h;
    }

pub opened_puts : (cells : ℕ) (setup : Setup) → PutsOf (opened cells setup)
opened_puts cells setup =
    record {
      granted = λ n inc e k key p. absurd p.there;
      numbers = λ n inc e k key p. absurd p.there;
      item_granted = λ j i. absurd i;
      item_numbers = λ j i. absurd i;
      in_turn = tt;
    }
