-- What the cells rest on, from what is known of books, replies, requests, Puts and leases.
use Rattle.std.proofs.Common.{◌≡◌, ℕ, ◌+◌, ◌≤◌, ◌<◌, List, [], ◌∷◌, ◌++◌, map, length, Option, Some, None, arith, refl, sym, ◌∙◌, ap, subst, true, false, Bool, inl, inr, slice_get, eqb-true}
use Rattle.std.specs.Prelude.{if◌then◌else◌}
use Rattle.std.proofs.lemmas.Bool.{and_parts, both_ways, cases_lt}
use Rattle.std.proofs.lemmas.Grind.{fold-append}
use Rattle.rp_base.specs.declared.node.Node.{Node}
use Rattle.proto_data.specs.declared.message.Msg.{Msg}
use Rattle.proto_data.specs.declared.message.Body.{Body}
use Rattle.proto_data.specs.declared.message.Entry.{Entry}
use Rattle.proto_data.specs.declared.message.Input.{Input}
use Rattle.proto_data.specs.declared.message.Carried.{Carried}
use Rattle.proto_data.specs.declared.terms.Mode.{Mode}
use Rattle.rp_app.specs.Application.{Application, Delta}
use Rattle.key_table.specs.Table.{Key, same_key}
use Rattle.proto_model.specs.Feeds.{Each, Pairwise}
use Rattle.proto_model.specs.Stands.{entries_of}
use Rattle.proto_model.specs.Committed.{is_in}
use Rattle.proto_model.specs.ReplicaRows.{entry_key, store_step, switch_of}
use Rattle.proto_model.specs.ReplicaState.{Replica}
use Rattle.proto_model.specs.Slot.{Slot, Lease, Idle, Asking, Held, Lapsed, epoch_of, is_young}
use Rattle.proto_model.specs.SwitchState.{Copy, slot_at}
use Rattle.proto_model.specs.World.{World, SwitchNode, ReplicaNode, Journaled, running_switches, running_replicas}
use Rattle.proto_model.specs.WorldStep.{config_msg}
use Rattle.proto_safety.specs.Books.{In, Runs, committed_of}
use Rattle.proto_safety.specs.Flows.{FlowRecord, FitsFrom, GrantedIn, AckedIn, Reply, ToSwitch, flow_step, flow_from, flow_of}
use Rattle.proto_safety.specs.LeaseLaws.{HasEpoch, SlotAt}
use Rattle.proto_safety.specs.Origins.{Origin, PutSent, SnapSent, ChunkSent}
use Rattle.proto_safety.specs.CellLaws.{Rests, SlotRests, copies_of}
use Rattle.proto_safety.proofs.Store.BookEpochs.{Stepped, other, first, next, put, snap, stepped, fits_parts, entry_from, grant_above, was_granted, WasGranted, flow_later_from}
use Rattle.proto_safety.proofs.Store.BooksStep.{step_sent}
use Rattle.proto_safety.proofs.Serial.CellFacts.{CellFacts, GrantedTo, SentPut, GrantSaid}
use Rattle.proto_safety.proofs.Store.EpochNumbers.{IsNumber, number_epoch, number_value}
use Rattle.proto_safety.proofs.Packets.FedMarks.{FedOnce, once_kept}
use Rattle.proto_safety.proofs.Leasing.FirstsKept.{Settled, settled_kept}
use Rattle.proto_safety.proofs.Store.FlowBooks.{Numbered, last_numbered, granted_in}
use Rattle.proto_safety.proofs.Serial.FlowCells.{ItemsKnown}
use Rattle.proto_safety.proofs.Messages.FramesCarry.{FramesCarry, carry_kept}
use Rattle.proto_safety.proofs.Leasing.Ground.{Ground, IsStrict, strict_kept, ground_kept, known_of}
use Rattle.proto_safety.proofs.Leasing.NoSnaps.{NoSnap, step_snapless}
use Rattle.proto_safety.proofs.Basics.NumberSplits.{NumbersRise}
use Rattle.proto_safety.proofs.Serial.SerialLists.{journal_in}
use Rattle.proto_safety.proofs.Store.StoreBooks.{SentBooks}
use Rattle.proto_safety.proofs.Nodes.SwitchSends.{IsRequest}
use Rattle.proto_safety.proofs.Nodes.SwitchTable.{msg}
use Rattle.key_table.proofs.Tables.{same_key-refl, same_key-true}
use Rattle.proto_safety.proofs.Messages.WorldOrigins.{FrameOrigin, NodeOrigins, from_is_switch}
use Rattle.proto_safety.proofs.Leasing.WorldPuts.{NumberFrame, is_put, is_snap, Known, InTurn, Awaited}
use Rattle.proto_safety.proofs.Inductions.Induction.{Keeps, KeepsGiven, keeps_all, keeps_both, Comes}
use Rattle.proto_safety.proofs.Basics.Eachs.{each_append, each_at, each_in, each_map, each_weaker}
use Rattle.proto_safety.proofs.Basics.Members.{in_filter}
use Rattle.proto_safety.proofs.Basics.Prefixes.{in_prefix}

-- ---- a Grant in a book

grant_step : {n : ℕ} {key : Key} {o u : Option FlowRecord} {x : Entry} (k s i m : ℕ) → Stepped n key o x u → x ≡ Entry.Grant key k s i m → (g : FlowRecord) × ((u ≡ Some g) × (k ≤ g.epoch))
grant_step {key = key} k s i m (other ne) is = absurd (both_ways _ ne (rw is (same_key-refl key)))
grant_step k s i m first is = let e : 1 ≡ k = cc in (_, (refl, omega arith))
grant_step k s i m (next {f = g}) is = let e : g.epoch + 1 ≡ k = cc in (_, (refl, omega arith))
grant_step k s i m put is = cc
grant_step k s i m snap is = cc

granted_from : (n : ℕ) (key : Key) (o : Option FlowRecord) (es : List Entry) (k s i m : ℕ) → FitsFrom n key o es → In es (Entry.Grant key k s i m) → (g : FlowRecord) × ((flow_from n key o es ≡ Some g) × (k ≤ g.epoch))
granted_from n key o [] k s i m fits j = absurd j
granted_from n key o (x ∷ xs) k s i m fits (inl is) =
    let a = grant_step k s i m (stepped n key o x fits.0) is in
    let b = flow_later_from n key (flow_step n key o x) a.0 xs fits.1 a.1.0 in (b.0, (b.1.0, omega (arith, a.1.1, b.1.1)))
granted_from n key o (x ∷ xs) k s i m fits (inr j) = granted_from n key (flow_step n key o x) xs k s i m fits.1 j

pub granted_to : (n : ℕ) (key : Key) (es : List Entry) (k s i m : ℕ) → FitsFrom n key None es → In es (Entry.Grant key k s i m) → GrantedTo n es key k
granted_to n key es k s i m fits j = let g = granted_from n key None es k s i m fits j in record { flow = g.0; flow_is = g.1.0; reached = g.1.1 }

-- each entry's epoch was granted, so it is at most the flow's
entry_to : (n : ℕ) (key : Key) (es : List Entry) (x : Entry) (k : ℕ) → FitsFrom n key None es → In es x → HasEpoch key k x → GrantedTo n es key k
entry_to n key es x k fits i h = granted_case (was_granted n key None es x k fits i h)
  where
    granted_case : WasGranted key None es k → GrantedTo n es key k
    granted_case (inl g) = granted_to n key es k g.0 g.1.0 g.1.1.0 fits g.1.1.1
    granted_case (inr f) = let no : None ≡ Some f.0 = f.1.0 in cc

-- a flow of which no entries come stays
flow_stays : (n : ℕ) (key : Key) (o : Option FlowRecord) (es : List Entry) → FitsFrom n key o es → ((x : Entry) → In es x → same_key (entry_key x) key ≡ false) → flow_from n key o es ≡ o
flow_stays n key o [] fits none = refl
flow_stays n key o (x ∷ xs) fits none =
    let same : flow_step n key o x ≡ o = other_step (stepped n key o x fits.0) (none x (inl refl)) in
    subst (λ u. flow_from n key u xs ≡ o) (sym same) (flow_stays n key o xs (subst (λ u. FitsFrom n key u xs) same fits.1) (λ y i. none y (inr i)))
  where
    other_step : {o u : Option FlowRecord} {x : Entry} → Stepped n key o x u → same_key (entry_key x) key ≡ false → u ≡ o
    other_step (other ne) h = refl
    other_step first h = absurd (both_ways _ h (same_key-refl key))
    other_step next h = absurd (both_ways _ h (same_key-refl key))
    other_step put h = absurd (both_ways _ h (same_key-refl key))
    other_step snap h = absurd (both_ways _ h (same_key-refl key))

-- ---- items

rise_of : (items : List Journaled) (key : Key) (e : ℕ) → Pairwise InTurn items → NumbersRise (journal_in key items e)
rise_of [] key e h = tt
rise_of (j ∷ js) key e h = rise_case (is_in key e j) refl (rise_of js key e h.1)
  where
    of_key : (x : Journaled) → is_in key e x ≡ true → (x.item.key ≡ key) × (x.item.epoch ≡ e)
    of_key x is = let p = and_parts _ _ is in (same_key-true x.item.key key p.0, eqb-true x.item.epoch e p.1)

    all_later : is_in key e j ≡ true → (xs : List Journaled) → Each (InTurn j) xs → Each (λ (x : Journaled). j.item.number ≤ x.item.number) (journal_in key xs e)
    all_later own [] t = tt
    all_later own (x ∷ xs) t = later_case (is_in key e x) refl (all_later own xs t.1)
      where
        later_case : (b : Bool) → is_in key e x ≡ b → Each (λ (x : Journaled). j.item.number ≤ x.item.number) (journal_in key xs e) → Each (λ (x : Journaled). j.item.number ≤ x.item.number) (if b then x ∷ journal_in key xs e else journal_in key xs e)
        later_case true is rest = (t.0 ((of_key j own).0 ∙ sym (of_key x is).0) ((of_key j own).1 ∙ sym (of_key x is).1), rest)
        later_case false is rest = rest

    rise_case : (b : Bool) → is_in key e j ≡ b → NumbersRise (journal_in key js e) → NumbersRise (if b then j ∷ journal_in key js e else journal_in key js e)
    rise_case true is rest = (all_later is js h.0, rest)
    rise_case false is rest = rest

-- ---- no Snaps

snaps_kept : (app : Application) → KeepsGiven app (λ w. Ground app.cell_count w × IsStrict w) (λ w. Each (λ (m : Msg). NoSnap m.body) w.frames)
snaps_kept app =
    record {
      counts = λ w g h. h;
      passes = λ w i g h. h;
      feeds = λ w n node p at up mark g h. each_append (λ (m : Msg). NoSnap m.body) w.frames _ h (step_snapless app node.state node.clock (Input.Packet p) (ap (λ t. t.mode) (g.0.1.1.switches n node at) ∙ g.1));
      switches = λ w n node input at up from g h. each_append (λ (m : Msg). NoSnap m.body) w.frames _ h (step_snapless app node.state node.clock input (ap (λ t. t.mode) (g.0.1.1.switches n node at) ∙ g.1));
      replicas = λ w n node input at up from g h.
          each_append (λ (m : Msg). NoSnap m.body) w.frames _ h
          (each_weaker _ (λ (m : Msg). NoSnap m.body) (store_step node.state node.clock input).1.sent (λ m s. store_snapless (store_step node.state node.clock input).0 _ m.from m.to m.body s) (step_sent node.state node.book node.clock w.event input (g.0.0.0.0.0.0.1.nodes n node at).stands));
      advances = λ w by fits g h. h;
      stops_switch = λ w n fits g h. h;
      stops_replica = λ w n fits g h. h;
      boots = λ w n fits g h. h;
      detects_switch = λ w n fits g h. h;
      detects_replica = λ w n fits g h. h;
      announces = λ w g h.
          each_append (λ (m : Msg). NoSnap m.body) w.frames _ h
          (each_append (λ (m : Msg). NoSnap m.body) (map (λ n. config_msg w (Node.Switch n)) (running_switches w)) _ (each_map (λ (m : Msg). NoSnap m.body) (λ n. config_msg w (Node.Switch n)) (running_switches w) (λ n. tt))
          (each_map (λ (m : Msg). NoSnap m.body) (λ n. config_msg w (Node.Replica n)) (running_replicas w) (λ n. tt)));
    }
  where
    store_snapless : (r : Replica) (es : List Entry) (from to : Node) (body : Body) → SentBooks r es from to body → NoSnap body
    store_snapless r es from to (Body.Snap inc epoch round key chunk chunks cells) s = absurd s
    store_snapless r es from to _ s = tt

-- ---- what is based on what

-- in strict mode: no live slot, and no young Asking whose Grant stands, where a running book has a later epoch
pub record OverLate (w : World) : Type 0 where
  pub over :
      (r n epoch later : ℕ) (key : Key) (replica : ReplicaNode) (node : SwitchNode) (slot : Slot) (e : Entry) (nonce expiry : ℕ) → Runs w r replica → In (entries_of replica.book) e → HasEpoch key later e → epoch < later →
      SlotAt w n key node slot → slot.lease ≡ Held nonce epoch expiry → expiry ≤ node.clock
  pub late :
      (r n epoch later : ℕ) (key : Key) (replica : ReplicaNode) (node : SwitchNode) (slot : Slot) (e : Entry) (nonce first : ℕ) → Runs w r replica → In (entries_of replica.book) e → HasEpoch key later e → epoch < later →
      SlotAt w n key node slot → slot.lease ≡ Asking nonce first → In (entries_of replica.book) (Entry.Grant key epoch n node.state.inc nonce) → is_young w.terms.t_switch first node.clock ≡ false

abbrev pub Packets : Application → World → Type 0
Packets app w = FedOnce w × FramesCarry app w

abbrev pub Snapless : Application → World → Type 0
Snapless app w = (Ground app.cell_count w × IsStrict w) × Each (λ (m : Msg). NoSnap m.body) w.frames

-- all but the ends of leases
abbrev pub Based : Application → World → Type 0
Based app w = Settled app.cell_count w × (Packets app w × Snapless app w)

pub based_kept : (app : Application) → Keeps app (Based app)
based_kept app =
    keeps_all app (Settled app.cell_count) (λ w. Packets app w × Snapless app w) (settled_kept app)
    (keeps_all app (Packets app) (Snapless app) (keeps_both app FedOnce (FramesCarry app) (once_kept app) (carry_kept app))
    (keeps_both app (λ w. Ground app.cell_count w × IsStrict w) (λ w. Each (λ (m : Msg). NoSnap m.body) w.frames) (keeps_all app (Ground app.cell_count) IsStrict (ground_kept app) (strict_kept app)) (snaps_kept app)))

module _ (app : Application) (w : World) (b : Settled app.cell_count w) (o : OverLate w) where
  abbrev es : List Entry
  es = committed_of w.replicas

  pub known : Known app.cell_count w.frames w.switches w.replicas
  known = known_of app.cell_count w b.0

  pub from_switch : (m : Msg) → In w.frames m → IsRequest m.body → (n : ℕ) × (m.from ≡ Node.Switch n)
  from_switch m i r = (switch_of m.from, from_is_switch m.from ((each_in (FrameOrigin w.frames) w.frames m b.0.0.1.1.frames i).from r))

  pub put_frame : (e k : ℕ) (key : Key) (delta : Delta) → SentPut w.frames key e k delta → (n : ℕ) × ((inc : ℕ) × NumberFrame w.frames n inc key e k)
  put_frame e k key delta q =
      let n = from_switch q.msg q.there (rw q.body_is tt) in
      (n.0, (q.inc, record { msg = q.msg; there = q.there; from_is = n.1; number_in = is_put q.msg q.inc e k key delta q.load q.body_is }))

  -- a round that became an entry was sent with its number
  snap_frame : (e k : ℕ) (key : Key) (cells : List ℕ) → SnapSent w.frames key e k cells → (n : ℕ) × ((inc : ℕ) × NumberFrame w.frames n inc key e k)
  snap_frame e k key cells q = parts_case q.parts q.some q.sent
    where
      parts_case : (parts : List (List ℕ)) → 1 ≤ length parts → ((i : ℕ) (part : List ℕ) → slice_get parts i ≡ Some part → ChunkSent w.frames key e k i (length q.parts) part) → (n : ℕ) × ((inc : ℕ) × NumberFrame w.frames n inc key e k)
      parts_case [] some sent = absurd (omega (arith, some))
      parts_case (x ∷ xs) some sent =
          let c = sent 0 x refl in
          let n = from_switch c.msg c.there (rw c.body_is tt) in
          (n.0, (c.inc, record { msg = c.msg; there = c.there; from_is = n.1; number_in = is_snap c.msg c.inc e k 0 (length q.parts) key x c.body_is }))

  pub items_known : (key : Key) → ItemsKnown app.cell_count es w.history.items key
  items_known key =
      record {
        granted = λ j i of.
            let g = b.1.item_granted j i in
            let t : GrantedTo app.cell_count es key j.item.epoch =
            granted_to app.cell_count key es j.item.epoch g.n g.inc g.grant.nonce (known.committed_fits key) (subst (λ y. In es (Entry.Grant y j.item.epoch g.n g.inc g.grant.nonce)) of g.grant.there) in
            (t.flow, (t.flow_is, t.reached));
        rise = λ e. rise_of w.history.items key e b.1.in_turn;
      }

  pub entry_origin : (x : Entry) → In es x → Origin w.frames x
  entry_origin x i = let r = known.runner x i in each_at (NodeOrigins w.frames) w.replicas r.0 r.1 b.0.0.1.1.books r.2 x r.4

  -- an epoch past a live slot's, or past that of a Grant that is taken in time, isn't committed
  pub live_epoch : (n nonce e expiry : ℕ) (key : Key) (node : SwitchNode) (slot : Slot) (f : FlowRecord) → slice_get w.switches n ≡ Some node → node.runs ≡ true → slot_at node.state key ≡ Some slot → slot.lease ≡ Held nonce e expiry → node.clock < expiry →
      flow_of app.cell_count key es ≡ Some f → f.epoch ≤ e
  live_epoch n nonce e expiry key node slot f at up found is live flow =
      elim (cases_lt e f.epoch) [
        | inl above ↦
            let grant : In es (Entry.Grant key f.epoch f.switch f.inc f.nonce) = granted_in app.cell_count key es f flow in
            let r = known.runner (Entry.Grant key f.epoch f.switch f.inc f.nonce) grant in
            let ends : expiry ≤ node.clock = o.over r.0 n e f.epoch key r.1 node slot (Entry.Grant key f.epoch f.switch f.inc f.nonce) nonce expiry (record { at = r.2; up = r.3 }) r.4 (refl, refl) above (record { at = at; found = found }) is in
            absurd (omega arith)
        | inr le ↦ le
      ]

  asking_epoch : (n nonce since e : ℕ) (key : Key) (node : SwitchNode) (slot : Slot) (f : FlowRecord) → slice_get w.switches n ≡ Some node → node.runs ≡ true → slot_at node.state key ≡ Some slot → slot.lease ≡ Asking nonce since → is_young node.state.terms.t_switch since node.clock ≡ true →
      In es (Entry.Grant key e n node.state.inc nonce) → flow_of app.cell_count key es ≡ Some f → f.epoch ≤ e
  asking_epoch n nonce since e key node slot f at up found is young own flow =
      elim (cases_lt e f.epoch) [
        | inl above ↦
            let grant : In es (Entry.Grant key f.epoch f.switch f.inc f.nonce) = granted_in app.cell_count key es f flow in
            let r = known.runner (Entry.Grant key f.epoch f.switch f.inc f.nonce) grant in
            let there : In (entries_of r.1.book) (Entry.Grant key e n node.state.inc nonce) = in_prefix es (entries_of r.1.book) _ (known.within r.0 r.1 r.2 r.3) own in
            let old : is_young w.terms.t_switch since node.clock ≡ false =
            o.late r.0 n e f.epoch key r.1 node slot (Entry.Grant key f.epoch f.switch f.inc f.nonce) nonce since (record { at = r.2; up = r.3 }) r.4 (refl, refl) above (record { at = at; found = found }) is there in
            absurd (both_ways _ old (subst (λ x. is_young x.t_switch since node.clock ≡ true) (b.0.1.1.switches n node at) young))
        | inr le ↦ le
      ]

  -- ---- a Grant that is taken in time

  pub told_grant : (n inc nonce epoch : ℕ) (from to : Node) (key : Key) (cells : List ℕ) (load : Option Carried) → Comes w (Node.Switch n) (msg from to (Body.Grant inc nonce epoch key cells load)) → GrantedIn app.cell_count es n inc nonce epoch key cells
  told_grant n inc nonce epoch from to key cells load comes =
      let r : Reply app.cell_count es to (Body.Grant inc nonce epoch key cells load) = each_at (λ (m : Msg). Reply app.cell_count es m.to m.body) w.frames comes.1.0 _ b.0.0.0.0.1 comes.1.1 in
      subst (λ (x : Node). ToSwitch (λ s. GrantedIn app.cell_count es s inc nonce epoch key cells) x) comes.0 r

  module _ (n nonce since epoch : ℕ) (key : Key) (cells : List ℕ) (node : SwitchNode) (slot : Slot) (at : slice_get w.switches n ≡ Some node) (up : node.runs ≡ true) (found : slot_at node.state key ≡ Some slot) (is : slot.lease ≡ Asking nonce since)
      (young : is_young node.state.terms.t_switch since node.clock ≡ true) (told : GrantedIn app.cell_count es n node.state.inc nonce epoch key cells) where
    owner : In es (Entry.Grant key epoch n node.state.inc nonce)
    owner = in_prefix told.front es _ told.prefix (granted_in app.cell_count key told.front _ told.flow_is)

    granted : GrantedTo app.cell_count es key epoch
    granted = granted_to app.cell_count key es epoch n node.state.inc nonce (known.committed_fits key) owner

    same_epoch : granted.flow.epoch ≡ epoch
    same_epoch = omega (arith, granted.reached, asking_epoch n nonce since epoch key node slot granted.flow at up found is young owner granted.flow_is)

    awaited : Awaited w.switches w.replicas key epoch
    awaited =
        let r = known.runner _ owner in
        record { n = n; node = node; slot = slot; nonce = nonce; first = since; r = r.0; replica = r.1; at = at; found = found; asking = is; here = r.2; up = r.3; granted = r.4 }

    -- no number of the epoch was sent
    pub no_numbers : (m inc k : ℕ) → NumberFrame w.frames m inc key epoch k → ⊥
    no_numbers m inc k p = (b.1.numbers m inc epoch k key p).awaited awaited

    no_puts : (k : ℕ) (delta : Delta) → SentPut w.frames key epoch k delta → ⊥
    no_puts k delta q = let p = put_frame epoch k key delta q in (b.1.numbers p.0 p.1.0 epoch k key p.1.1).awaited awaited

    no_item : (j : Journaled) → In w.history.items j → j.item.key ≡ key → j.item.epoch ≡ epoch → ⊥
    no_item j i of present =
        (b.1.item_numbers j i).awaited (subst (λ x. Awaited w.switches w.replicas x j.item.epoch) (sym of) (subst (λ x. Awaited w.switches w.replicas key x) (sym present) awaited))

    no_items : journal_in key w.history.items epoch ≡ []
    no_items = none_case (journal_in key w.history.items epoch) (λ j i. i)
      where
        none_case : (js : List Journaled) → ((j : Journaled) → In js j → In (journal_in key w.history.items epoch) j) → js ≡ []
        none_case [] sub = refl
        none_case (j ∷ js) sub =
            let f = in_filter (is_in key epoch) w.history.items j (sub j (inl refl)) in
            let p = and_parts _ _ f.1 in absurd (no_item j f.0 (same_key-true j.item.key key p.0) (eqb-true j.item.epoch epoch p.1))

    same_put : (inc e number : ℕ) (k : Key) (delta : Delta) (load : Option Carried) → k ≡ key → e ≡ epoch → Body.Put inc e number k delta load ≡ Body.Put inc epoch number key delta load
    same_put inc e number k delta load of present = rw (of, present) refl

    -- an entry of the flow in this epoch is its Grant
    only_grant : (x : Entry) → In es x → HasEpoch key epoch x → (switch : ℕ) × ((inc : ℕ) × ((m : ℕ) × (x ≡ Entry.Grant key epoch switch inc m)))
    only_grant (Entry.Grant k e switch inc m) i h = (switch, (inc, (m, rw (h.0, h.1) refl)))
    only_grant (Entry.Put k e number delta) i h =
        let p : PutSent w.frames k e number delta = entry_origin (Entry.Put k e number delta) i in
        absurd (no_puts number delta (record { msg = p.msg; there = p.there; inc = p.inc; load = p.load; body_is = p.body_is ∙ same_put p.inc e number k delta p.load h.0 h.1 }))
    only_grant (Entry.Snap k e round values) i h =
        let p = snap_frame e round k values (entry_origin (Entry.Snap k e round values) i) in
        absurd (no_numbers p.0 p.1.0 round (subst (λ (x : Key). NumberFrame w.frames p.0 p.1.0 x epoch round) h.0 (subst (λ x. NumberFrame w.frames p.0 p.1.0 k x round) h.1 p.1.1)))

    last_is : granted.flow.last ≡ 0
    last_is =
        let x : Numbered key granted.flow.epoch granted.flow.last es = last_numbered app.cell_count key es granted.flow (known.committed_fits key) granted.flow_is in
        let h : HasEpoch key epoch x.entry = subst (λ e. HasEpoch key e x.entry) same_epoch (number_epoch key granted.flow.epoch granted.flow.last x.entry x.number_is) in
        let g = only_grant x.entry x.there h in
        let v : IsNumber x.entry granted.flow.last = number_value key granted.flow.epoch granted.flow.last x.entry x.number_is in
        subst (λ y. IsNumber y granted.flow.last) g.1.1.1 v

    -- behind the book that the Grant came from, the flow has no entries
    abbrev sent_flow : FlowRecord
    sent_flow = record { epoch = epoch; switch = n; inc = node.state.inc; nonce = nonce; last = told.last; cells = cells }

    rest_fits : FitsFrom app.cell_count key (Some sent_flow) told.prefix.rest
    rest_fits =
        subst (λ u. FitsFrom app.cell_count key u told.prefix.rest) told.flow_is
        (fits_parts app.cell_count key None told.front told.prefix.rest (subst (λ l. FitsFrom app.cell_count key None l) (sym told.prefix.is) (known.committed_fits key))).1

    behind : (x : Entry) → In told.prefix.rest x → In es x
    behind x i = subst (λ l. In l x) told.prefix.is (in_behind told.front told.prefix.rest x i)
      where
        in_behind : (xs ys : List Entry) (x : Entry) → In ys x → In (xs ++ ys) x
        in_behind [] ys x i = i
        in_behind (y ∷ xs) ys x i = inr (in_behind xs ys x i)

    none_behind : (x : Entry) (e : ℕ) → In told.prefix.rest x → HasEpoch key e x → ⊥
    none_behind x e i h =
        let low : epoch ≤ e = entry_from app.cell_count key (Some sent_flow) told.prefix.rest x e rest_fits i h in
        let t : GrantedTo app.cell_count es key e = entry_to app.cell_count key es x e (known.committed_fits key) (behind x i) h in
        let flow : t.flow ≡ granted.flow = cc (sym t.flow_is ∙ granted.flow_is) in
        let here : e ≡ epoch = omega (arith, t.reached, same_epoch, ap (λ (f : FlowRecord). f.epoch) flow) in
        let g = only_grant x (behind x i) (subst (λ y. HasEpoch key y x) here h) in
        let above : epoch + 1 ≤ epoch = grant_above app.cell_count key (Some sent_flow) told.prefix.rest epoch g.0 g.1.0 g.1.1.0 rest_fits (subst (λ y. In told.prefix.rest y) g.1.1.1 i) in
        absurd (omega arith)

    other_key : (x : Entry) → In told.prefix.rest x → same_key (entry_key x) key ≡ false
    other_key x i = key_case x i (same_key (entry_key x) key) refl
      where
        key_case : (x : Entry) → In told.prefix.rest x → (t : Bool) → same_key (entry_key x) key ≡ t → t ≡ false
        key_case x i false t = refl
        key_case (Entry.Grant k e switch inc m) i true t = absurd (none_behind (Entry.Grant k e switch inc m) e i (same_key-true k key t, refl))
        key_case (Entry.Put k e number delta) i true t = absurd (none_behind (Entry.Put k e number delta) e i (same_key-true k key t, refl))
        key_case (Entry.Snap k e round values) i true t = absurd (none_behind (Entry.Snap k e round values) e i (same_key-true k key t, refl))

    flow_now : flow_of app.cell_count key es ≡ Some sent_flow
    flow_now =
        ap (λ l. flow_of app.cell_count key l) (sym told.prefix.is)
        ∙ (fold-append (flow_step app.cell_count key) None told.front told.prefix.rest
        ∙ (ap (λ u. flow_from app.cell_count key u told.prefix.rest) told.flow_is ∙ flow_stays app.cell_count key (Some sent_flow) told.prefix.rest rest_fits other_key))

    pub grant_said : GrantSaid app w n node.state.inc key epoch cells
    grant_said =
        record {
          flow = granted.flow;
          flow_is = granted.flow_is;
          epoch_is = same_epoch;
          last_is = last_is;
          cells_are = let same : granted.flow ≡ sent_flow = cc (sym granted.flow_is ∙ flow_now) in ap (λ (f : FlowRecord). f.cells) same;
          no_items = no_items;
          no_puts = no_puts;
          owner = record { nonce = nonce; there = owner };
        }

-- ---- in strict mode

module _ (app : Application) (w : World) (b : Based app w) (o : OverLate w) where
  abbrev committed : List Entry
  committed = committed_of w.replicas

  strict_at : (n : ℕ) (node : SwitchNode) → slice_get w.switches n ≡ Some node → node.state.terms.mode ≡ Mode.Strict
  strict_at n node at = ap (λ t. t.mode) (b.0.0.1.1.switches n node at) ∙ b.1.1.0.1

  reached_last : (n inc e last : ℕ) (key : Key) (l : Lease) (cs : List Copy) → Rests committed n inc key l last cs → epoch_of l ≡ Some e → cs ≡ [] → AckedIn committed e last key
  reached_last n inc e last key (Held nonce epoch expiry) cs h is none = let same : epoch ≡ e = cc in subst (λ x. AckedIn committed x last key) same (h.1 none)
  reached_last n inc e last key (Lapsed nonce epoch expiry) cs h is none = let same : epoch ≡ e = cc in subst (λ x. AckedIn committed x last key) same (h.1 none)
  reached_last n inc e last key Idle cs h is none = cc
  reached_last n inc e last key (Asking nonce since) cs h is none = cc

  pub cell_facts : CellFacts app w
  cell_facts =
      record {
        books = b.0.0.0.0.0.0.0;
        fits = (known app w b.0 o).committed_fits;
        known = items_known app w b.0 o;
        puts_granted = λ e k key delta q.
            let p = put_frame app w b.0 o e k key delta q in
            let g = b.0.1.granted p.0 p.1.0 e k key p.1.1 in granted_to app.cell_count key committed e p.0 p.1.0 g.nonce ((known app w b.0 o).committed_fits key) g.there;
        puts_reached = λ n e k key node slot delta at found leased q. let p = put_frame app w b.0 o e k key delta q in (b.0.1.numbers p.0 p.1.0 e k key p.1.1).reached n node slot at found leased;
        slots_granted = λ n e key node slot at found leased.
            let g = (known app w b.0 o).leased n node key slot e at found leased in (granted_to app.cell_count key committed e n node.state.inc g.nonce ((known app w b.0 o).committed_fits key) g.there, record { nonce = g.nonce; there = g.there });
        says = b.0.0.1.0.0.1;
        strict = strict_at;
        live = λ n nonce e expiry key node slot f at up found is live flow. live_epoch app w b.0 o n nonce e expiry key node slot f at up found is live flow;
        grants = λ n nonce since epoch from to key cells load node slot at up found is young comes.
            grant_said app w b.0 o n nonce since epoch key cells node slot at up found is young (told_grant app w b.0 o n node.state.inc nonce epoch from to key cells load comes);
        acked = λ n e key node slot at found leased none.
            reached_last n node.state.inc e slot.last key slot.lease (copies_of node key) (subst (λ x. SlotRests committed n node.state.inc key x (copies_of node key)) found ((b.0.0.0.0.1.0 n node at key).rests (strict_at n node at))) leased none;
        carried = b.1.0.1;
        once = b.1.0.0;
        entries = entry_origin app w b.0 o;
        snapless = b.1.1.1;
      }
