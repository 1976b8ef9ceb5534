-- First sendings over every run.
use Rattle.std.proofs.Common.{◌≡◌, ◌≢◌, ◌⊎◌, inl, inr, ℕ, ◌+◌, List, [], ◌∷◌, ◌++◌, drop, length, map, Option, Some, None, refl, sym, ap, subst, true, slice_get, arith, append-nil, zero, suc, false}
use Rattle.rp_base.specs.declared.node.Node.{Node}
use Rattle.proto_data.specs.declared.message.Msg.{Msg}
use Rattle.proto_data.specs.declared.message.Body.{Body}
use Rattle.proto_data.specs.declared.message.Entry.{Entry}
use Rattle.proto_data.specs.declared.message.Input.{Input}
use Rattle.rp_base.specs.declared.node.Packet.{Packet}
use Rattle.rp_app.specs.Application.{Application}
use Rattle.proto_model.specs.Clocks.{clocks, switch_clock, replica_clock}
use Rattle.key_table.specs.Table.{Key}
use Rattle.proto_model.specs.SwitchState.{open_switch}
use Rattle.proto_model.specs.SwitchRows.{switch_step}
use Rattle.proto_model.specs.ReplicaState.{Replica}
use Rattle.proto_model.specs.ReplicaRows.{store_step, switch_of}
use Rattle.proto_model.specs.Records.{Booked}
use Rattle.proto_model.specs.Feeds.{Each}
use Rattle.proto_model.specs.Stands.{entries_of}
use Rattle.proto_model.specs.Effects.{switch_moved, replica_moved}
use Rattle.proto_model.specs.World.{World, SwitchNode, ReplicaNode, running_switches, running_replicas}
use Rattle.proto_model.specs.WorldStep.{Advances, advanced, advanced_switches, changed_at, announcements, config_msg}
use Rattle.proto_safety.specs.Books.{In, committed_of}
use Rattle.proto_safety.specs.LeaseLaws.{Request, First, IsEntryOf}
use Rattle.proto_safety.specs.Firsts.{request_of}
use Rattle.proto_safety.proofs.Leasing.FirstSendings.{Made}
use Rattle.proto_safety.proofs.Leasing.SlotFirsts.{NodeFirsts}
use Rattle.proto_safety.proofs.Nodes.SwitchNodes.{all_changed, all_advanced}
use Rattle.proto_safety.proofs.Store.LastBook.{advanced_at}
use Rattle.key_table.proofs.Tables.{same_some}
use Rattle.proto_model.proofs.StoreStands.{book_after}
use Rattle.proto_safety.proofs.Store.StoreBooks.{SentBooks}
use Rattle.proto_safety.proofs.Store.BooksStep.{step_sent}
use Rattle.proto_safety.proofs.Nodes.SwitchSends.{IsRequest}
use Rattle.proto_safety.proofs.Messages.WorldOrigins.{NodeOrigins, FrameOrigin, from_is_switch}
use Rattle.proto_safety.proofs.Leasing.Ground.{Ground, ground_kept, known_of}
use Rattle.proto_safety.proofs.Leasing.WorldPutsKept.{PutsOf, puts_kept, told_grant, fed_grant}
use Rattle.proto_safety.proofs.Time.Clocks.{AgedIn, aged_kept, aged_now, replica_clocks, one_switch, one_replica}
use Rattle.proto_safety.proofs.Leasing.WorldFirsts.{WasSent, by_ask, by_put, Before, FirstsHold, Sources, moved_firsts}
use Rattle.proto_safety.proofs.Inductions.Acts.{Fits}
use Rattle.proto_safety.proofs.Inductions.FirstsInduction.{KeepsFirsts}
use Rattle.proto_safety.proofs.Inductions.Induction.{Keeps, keeps_both, with_fed}
use Rattle.proto_safety.proofs.Messages.FramesGrow.{length_advanced_switches}
use Rattle.proto_safety.proofs.Basics.Eachs.{each_append, each_at, each_in, each_map, each_weaker}
use Rattle.proto_safety.proofs.Basics.Lists.{at_changed, at_set, length_changed_at}
use Rattle.proto_safety.proofs.Basics.Members.{in_append, in_front, to_map}

-- ---- clocks by number

pub clock_of_switch : (ss : List SwitchNode) (rest : List ℕ) (n : ℕ) (node : SwitchNode) → slice_get ss n ≡ Some node → slice_get (map switch_clock ss ++ rest) n ≡ Some node.clock
clock_of_switch [] rest n node at = absurd cc
clock_of_switch (s ∷ ss) rest zero node at = let same : s ≡ node = cc in ap (λ (x : SwitchNode). Some x.clock) same
clock_of_switch (s ∷ ss) rest (suc n) node at = clock_of_switch ss rest n node at

replica_clock_at : (rs : List ReplicaNode) (n : ℕ) (node : ReplicaNode) → slice_get rs n ≡ Some node → slice_get (map replica_clock rs) n ≡ Some node.clock
replica_clock_at [] n node at = absurd cc
replica_clock_at (r ∷ rs) zero node at = let same : r ≡ node = cc in ap (λ (x : ReplicaNode). Some x.clock) same
replica_clock_at (r ∷ rs) (suc n) node at = replica_clock_at rs n node at

pub clock_of_replica : (ss : List SwitchNode) (rs : List ReplicaNode) (n : ℕ) (node : ReplicaNode) → slice_get rs n ≡ Some node → slice_get (map switch_clock ss ++ map replica_clock rs) (length ss + n) ≡ Some node.clock
clock_of_replica [] rs n node at = let e : 0 + n ≡ n = omega arith in subst (λ i. slice_get (map replica_clock rs) i ≡ Some node.clock) (sym e) (replica_clock_at rs n node at)
clock_of_replica (s ∷ ss) rs n node at =
    let e : length (s ∷ ss) + n ≡ suc (length ss + n) = omega arith in
    subst (λ i. slice_get (map switch_clock (s ∷ ss) ++ map replica_clock rs) i ≡ Some node.clock) (sym e) (clock_of_replica ss rs n node at)

before_advanced : (ss : List SwitchNode) (by : List ℕ) (k moment : ℕ) → Before ss k moment → Before (advanced_switches ss by) k moment
before_advanced [] by k moment b = b
before_advanced (s ∷ ss) [] k moment b = b
before_advanced (s ∷ ss) (d ∷ ds) zero moment b =
    let same : s ≡ b.node = cc b.at in
    record { node = record s { clock = s.clock + d }; at = refl; past = omega (arith, ap (λ (x : SwitchNode). x.clock) same, b.past) }
before_advanced (s ∷ ss) (d ∷ ds) (suc k) moment b =
    let c = before_advanced ss ds k moment (record { node = b.node; at = b.at; past = b.past }) in record { node = c.node; at = c.at; past = c.past }

before_changed : (ss : List SwitchNode) (n : ℕ) (f : SwitchNode → SwitchNode) → ((x : SwitchNode) → (f x).clock ≡ x.clock) → (k moment : ℕ) → Before ss k moment → Before (changed_at ss n f) k moment
before_changed [] n f same k moment b = b
before_changed (s ∷ ss) zero f same zero moment b =
    let e : s ≡ b.node = cc b.at in record { node = f s; at = refl; past = omega (arith, same s, ap (λ (x : SwitchNode). x.clock) e, b.past) }
before_changed (s ∷ ss) zero f same (suc k) moment b = record { node = b.node; at = b.at; past = b.past }
before_changed (s ∷ ss) (suc n) f same zero moment b = record { node = b.node; at = b.at; past = b.past }
before_changed (s ∷ ss) (suc n) f same (suc k) moment b =
    let c = before_changed ss n f same k moment (record { node = b.node; at = b.at; past = b.past }) in record { node = c.node; at = c.at; past = c.past }

-- ---- frames that make no request

-- a message that no switch sends as a request
abbrev pub NoRequest : Msg → Type 0
NoRequest m = (n : ℕ) (r : Key × Request) → m.from ≡ Node.Switch n → request_of m.body ≡ Some r → ⊥

more_was : (frames ms : List Msg) (f : First) → WasSent frames f → WasSent (frames ++ ms) f
more_was frames ms f (by_ask is a) = by_ask is (record { msg = a.msg; there = in_front frames ms a.msg a.there; from_is = a.from_is; load = a.load; body_is = a.body_is })
more_was frames ms f (by_put is a) = by_put is (record { msg = a.msg; there = in_front frames ms a.msg a.there; from_is = a.from_is; number_in = a.number_in })

asked_more : (fs : List First) (frames ms : List Msg) → Each NoRequest ms → ((m : Msg) (n : ℕ) (r : Key × Request) → In frames m → m.from ≡ Node.Switch n → request_of m.body ≡ Some r → Made fs n r.0 r.1) →
    (m : Msg) (n : ℕ) (r : Key × Request) → In (frames ++ ms) m → m.from ≡ Node.Switch n → request_of m.body ≡ Some r → Made fs n r.0 r.1
asked_more fs frames ms none h m n r i from is = frame_case (in_append frames ms m i)
  where
    frame_case : In frames m ⊎ In ms m → Made fs n r.0 r.1
    frame_case (inl j) = h m n r j from is
    frame_case (inr j) = absurd (each_in NoRequest ms m none j n r from is)

-- a replica's message makes none
stored_none : (r : Replica) (es : List Entry) (from to : Node) (body : Body) → SentBooks r es from to body → request_of body ≡ None
stored_none r es from to (Body.Ask inc nonce key load) s = absurd s
stored_none r es from to (Body.Put inc epoch number key delta load) s = absurd s
stored_none r es from to (Body.Snap inc epoch round key chunk chunks cells) s = absurd s
stored_none r es from to (Body.Grant inc nonce epoch key cells load) s = refl
stored_none r es from to (Body.Busy inc nonce key mark) s = refl
stored_none r es from to (Body.Ack inc epoch upto key load) s = refl
stored_none r es from to (Body.Deny inc epoch key) s = refl
stored_none r es from to (Body.Forward config index entry load) s = refl
stored_none r es from to (Body.Have index) s = refl
stored_none r es from to (Body.Echo of load) s = refl
stored_none r es from to (Body.Config config) s = absurd s

never_some : (m : Msg) → request_of m.body ≡ None → NoRequest m
never_some m none n r from is = absurd cc

-- ---- a replica's step

module _ (app : Application) (w : World) (fs : List First) (n : ℕ) (node : ReplicaNode) (input : Input) (at : slice_get w.replicas n ≡ Some node) (sent : Each (λ (m : Msg). request_of m.body ≡ None) (store_step node.state node.clock input).1.sent) (h : FirstsHold fs w) where
  abbrev after : World
  after = replica_moved w n node (store_step node.state node.clock input)

  abbrev new : ReplicaNode
  new = record { runs = node.runs; clock = node.clock; state = (store_step node.state node.clock input).0; book = book_after node.clock w.event node.book (store_step node.state node.clock input).1.applied }

  same_clocks : clocks after ≡ clocks w
  same_clocks = replica_clocks w n node (store_step node.state node.clock input) at

  later : (f : First) (j b : ℕ) → AgedIn f.switch f.moment j b w → AgedIn f.switch f.moment j b after
  later f j b a = rw same_clocks a

  -- an entry that is applied now
  aged_at_once : (f : First) → In fs f → AgedIn f.switch f.moment (length w.switches + n) node.clock after
  aged_at_once f i =
      aged_now after f.switch f.moment (length w.switches + n) node.clock (rw same_clocks (clock_of_replica w.switches w.replicas n node at))
      (λ x is.
      let b = h.past f i in
      let there : slice_get (clocks after) f.switch ≡ Some b.node.clock = rw same_clocks (clock_of_switch w.switches (map replica_clock w.replicas) f.switch b.node b.at) in
      let same : x ≡ b.node.clock = same_some (slice_get (clocks after) f.switch) x b.node.clock is there in
      omega (arith, same, b.past))

  aged_book : (f : First) (b : Booked) → In fs f → IsEntryOf f b.entry → (o : Option Entry) → In (book_after node.clock w.event node.book o) b → AgedIn f.switch f.moment (length w.switches + n) b.moment after
  aged_book f b i is None j = later f (length w.switches + n) b.moment (h.aged f n node b i at (subst (λ (l : List Booked). In l b) (append-nil node.book) j) is)
  aged_book f b i is (Some e) j = book_case (in_append node.book (record { entry = e; moment = node.clock; event = w.event } ∷ []) b j)
    where
      book_case : In node.book b ⊎ In (record { entry = e; moment = node.clock; event = w.event } ∷ []) b → AgedIn f.switch f.moment (length w.switches + n) b.moment after
      book_case (inl k) = later f (length w.switches + n) b.moment (h.aged f n node b i at k is)
      book_case (inr (inl same)) = subst (λ (x : Booked). AgedIn f.switch f.moment (length w.switches + n) x.moment after) same (aged_at_once f i)
      book_case (inr (inr k)) = absurd k

  aged_after : (f : First) (r : ℕ) (replica : ReplicaNode) (b : Booked) → In fs f → slice_get after.replicas r ≡ Some replica → In replica.book b → IsEntryOf f b.entry → AgedIn f.switch f.moment (length after.switches + r) b.moment after
  aged_after f r replica b i there j is = node_case (at_set w.replicas n r new replica there)
    where
      node_case : ((r ≡ n) × (replica ≡ new)) ⊎ ((r ≢ n) × (slice_get w.replicas r ≡ Some replica)) → AgedIn f.switch f.moment (length w.switches + r) b.moment after
      node_case (inl same) = subst (λ (x : ℕ). AgedIn f.switch f.moment (length w.switches + x) b.moment after) (sym same.0) (aged_book f b i is (store_step node.state node.clock input).1.applied (subst (λ (x : ReplicaNode). In x.book b) same.1 j))
      node_case (inr p) = later f (length w.switches + r) b.moment (h.aged f r replica b i p.1 j is)

  stored_firsts : FirstsHold fs after
  stored_firsts =
      record {
        nodes = h.nodes;
        past = h.past;
        sent = λ f i. more_was w.frames (store_step node.state node.clock input).1.sent f (h.sent f i);
        asked = asked_more fs w.frames (store_step node.state node.clock input).1.sent
            (each_weaker (λ (m : Msg). request_of m.body ≡ None) NoRequest (store_step node.state node.clock input).1.sent (λ m k. never_some m k) sent) h.asked;
        aged = aged_after;
      }

-- ---- other changes

abbrev FirstsAt : List First → ℕ → SwitchNode → Type 0
FirstsAt fs n node = NodeFirsts fs n node.state.inc node.state.slots node.state.copies

booted_firsts : (fs : List First) (w : World) (n : ℕ) (s : SwitchNode) → FirstsAt fs n s → FirstsAt fs n (record s { runs = true; state = open_switch s.state.me (s.state.inc + 1) w.terms w.config })
booted_firsts fs w n s h = record { asking = λ key slot nonce first at is. absurd cc; copied = λ key slot epoch c at is i of. absurd cc; rounds = λ key slot epoch r at is runs. absurd cc }

announced_none : (w : World) → Each NoRequest (announcements w)
announced_none w =
    each_append NoRequest (map (λ n. config_msg w (Node.Switch n)) (running_switches w)) _
    (each_map NoRequest (λ n. config_msg w (Node.Switch n)) (running_switches w) (λ n k r from is. let no : None ≡ Some r = is in cc))
    (each_map NoRequest (λ n. config_msg w (Node.Replica n)) (running_replicas w) (λ n k r from is. let no : None ≡ Some r = is in cc))

advanced_firsts : (app : Application) (w : World) (fs : List First) (by : List ℕ) → Fits w (Advances by) → FirstsHold fs w → FirstsHold fs (advanced w by)
advanced_firsts app w fs by fits h =
    record {
      nodes = all_advanced (FirstsAt fs) w.switches by (λ m d x k. k) h.nodes;
      past = λ f i. before_advanced w.switches by f.switch f.moment (h.past f i);
      sent = h.sent;
      asked = h.asked;
      aged = λ f r node b i at j is.
          let old = advanced_at w.replicas (drop (length w.switches) by) r node at in
          let e : length (advanced_switches w.switches by) ≡ length w.switches = length_advanced_switches w.switches by in
          rw e ((aged_kept app f.switch f.moment (length w.switches + r) b.moment).advances w by fits (h.aged f r old.0 b i old.1.0 (subst (λ (x : ReplicaNode). In x.book b) old.1.1 j) is));
    }

changed_firsts : (w : World) (fs : List First) (n : ℕ) (g : SwitchNode → SwitchNode) → ((x : SwitchNode) → (g x).clock ≡ x.clock) → ((m : ℕ) (x : SwitchNode) → FirstsAt fs m x → FirstsAt fs m (g x)) → FirstsHold fs w → FirstsHold fs (record w { switches = changed_at w.switches n g })
changed_firsts w fs n g same keeps h =
    record {
      nodes = all_changed (FirstsAt fs) w.switches n g keeps h.nodes;
      past = λ f i. before_changed w.switches n g same f.switch f.moment (h.past f i);
      sent = h.sent;
      asked = h.asked;
      aged = λ f r node b i at j is.
          let e : length (changed_at w.switches n g) ≡ length w.switches = length_changed_at w.switches n g in
          rw (e, one_switch w n g same) (h.aged f r node b i at j is);
    }

stopped_firsts : (w : World) (fs : List First) (n : ℕ) → FirstsHold fs w → FirstsHold fs (record w { replicas = changed_at w.replicas n (λ (r : ReplicaNode). record r { runs = false }) })
stopped_firsts w fs n h =
    record {
      nodes = h.nodes;
      past = h.past;
      sent = h.sent;
      asked = h.asked;
      aged = λ f r node b i at j is.
          let old = was r node b at j in
          rw (one_replica w n (λ (r : ReplicaNode). record r { runs = false }) (λ x. refl)) (h.aged f r old.0 b i old.1 old.2 is);
    }
  where
    was : (r : ℕ) (node : ReplicaNode) (b : Booked) → slice_get (changed_at w.replicas n (λ (r : ReplicaNode). record r { runs = false })) r ≡ Some node → In node.book b → (old : ReplicaNode) × (slice_get w.replicas r ≡ Some old) × In old.book b
    was r node b at j = was_case (at_changed w.replicas n r (λ (r : ReplicaNode). record r { runs = false }) node at)
      where
        was_case : ((r ≡ n) × ((x : ReplicaNode) × ((slice_get w.replicas r ≡ Some x) × (node ≡ record x { runs = false })))) ⊎ ((r ≢ n) × (slice_get w.replicas r ≡ Some node)) → (old : ReplicaNode) × (slice_get w.replicas r ≡ Some old) × In old.book b
        was_case (inl p) = (p.1.0, p.1.1.0, subst (λ (x : ReplicaNode). In x.book b) p.1.1.1 j)
        was_case (inr p) = (node, p.1, j)

-- ---- every change

abbrev pub Settled : ℕ → World → Type 0
Settled cells w = Ground cells w × PutsOf w

pub settled_kept : (app : Application) → Keeps app (Settled app.cell_count)
settled_kept app = keeps_both app (Ground app.cell_count) PutsOf (ground_kept app) (puts_kept app)

is_request : (b : Body) (r : Key × Request) → request_of b ≡ Some r → IsRequest b
is_request (Body.Ask inc nonce key load) r is = tt
is_request (Body.Put inc epoch number key delta load) r is = tt
is_request (Body.Snap inc epoch round key chunk chunks cells) r is = tt
is_request (Body.Grant inc nonce epoch key cells load) r is = absurd cc
is_request (Body.Busy inc nonce key mark) r is = absurd cc
is_request (Body.Ack inc epoch upto key load) r is = absurd cc
is_request (Body.Deny inc epoch key) r is = absurd cc
is_request (Body.Forward config index entry load) r is = absurd cc
is_request (Body.Have index) r is = absurd cc
is_request (Body.Echo of load) r is = absurd cc
is_request (Body.Config config) r is = absurd cc

-- where frames and entries come from
pub sources_of : (cells : ℕ) (w : World) → Ground cells w → Sources w
sources_of cells w g =
    record {
      origin = λ r node b at i. each_at (NodeOrigins w.frames) w.replicas r node g.0.1.1.books at b.entry (to_map (λ (x : Booked). x.entry) node.book b i);
      sender = λ m r i is. (switch_of m.from, from_is_switch m.from ((each_in (FrameOrigin w.frames) w.frames m g.0.1.1.frames i).from (is_request m.body r is)));
    }

-- the same facts of a world that differs in its event and its history
refed : (fs : List First) (w : World) (p : Packet) → FirstsHold fs w → FirstsHold fs (with_fed w p)
refed fs w p h = record { nodes = h.nodes; past = h.past; sent = h.sent; asked = h.asked; aged = h.aged }

pub firsts_kept_by : (app : Application) → KeepsFirsts app (Settled app.cell_count) FirstsHold
firsts_kept_by app =
    record {
      counts = λ w fs g h. record { nodes = h.nodes; past = h.past; sent = h.sent; asked = h.asked; aged = h.aged };
      passes = λ w fs i g h. record { nodes = h.nodes; past = h.past; sent = h.sent; asked = h.asked; aged = h.aged };
      feeds = λ w fs n node p at up mark g h.
          let step = switch_step app node.state node.clock (Input.Packet p) in
          let later = (settled_kept app).feeds w n node p at up mark g in
          moved_firsts app w fs n node (Input.Packet p) at (known_of app.cell_count w g.0) (known_of app.cell_count (switch_moved (with_fed w p) n node step) later.0)
          (fed_grant (committed_of w.replicas) n node.state.inc p) (λ key j a. ((g.0.1.0.1 n node at).flows key).sent j a) (sources_of app.cell_count w g.0) g.1 _ later.1 h
          (switch_moved (with_fed w p) n node step) refl refl refl refl;
      switches = λ w fs n node input at up from g h.
          let step = switch_step app node.state node.clock input in
          let later = (settled_kept app).switches w n node input at up from g in
          moved_firsts app w fs n node input at (known_of app.cell_count w g.0) (known_of app.cell_count (switch_moved w n node step) later.0)
          (told_grant app w n node input from g.0) (λ key j a. ((g.0.1.0.1 n node at).flows key).sent j a) (sources_of app.cell_count w g.0) g.1 _ later.1 h
          (switch_moved w n node step) refl refl refl refl;
      replicas = λ w fs n node input at up from g h.
          let step = store_step node.state node.clock input in
          let stands = (g.0.0.0.0.0.0.1.nodes n node at).stands in
          stored_firsts app w fs n node input at
          (each_weaker (λ (m : Msg). SentBooks step.0 (entries_of (book_after node.clock w.event node.book step.1.applied)) m.from m.to m.body) (λ (m : Msg). request_of m.body ≡ None) step.1.sent
          (λ m s. stored_none step.0 (entries_of (book_after node.clock w.event node.book step.1.applied)) m.from m.to m.body s) (step_sent node.state node.book node.clock w.event input stands)) h;
      advances = λ w fs by fits g h. advanced_firsts app w fs by fits h;
      stops_switch = λ w fs n fits g h. changed_firsts w fs n (λ (s : SwitchNode). record s { runs = false }) (λ x. refl) (λ m x k. k) h;
      stops_replica = λ w fs n fits g h. stopped_firsts w fs n h;
      boots = λ w fs n fits g h. changed_firsts w fs n (λ (s : SwitchNode). record s { runs = true; state = open_switch s.state.me (s.state.inc + 1) w.terms w.config }) (λ x. refl) (booted_firsts fs w) h;
      detects_switch = λ w fs n fits g h. changed_firsts w fs n (λ (s : SwitchNode). record s { believed = s.runs }) (λ x. refl) (λ m x k. k) h;
      detects_replica = λ w fs n fits g h. record { nodes = h.nodes; past = h.past; sent = h.sent; asked = h.asked; aged = h.aged };
      announces = λ w fs g h.
          record {
            nodes = h.nodes;
            past = h.past;
            sent = λ f i. more_was w.frames (announcements w) f (h.sent f i);
            asked = asked_more fs w.frames (announcements w) (announced_none w) h.asked;
            aged = h.aged;
          };
    }
