-- With the list of first sendings: each request of a switch is there, its entry is no older at a store than within the ratio of its first sending.
use Rattle.std.proofs.Common.{◌≡◌, ◌≢◌, ◌⊎◌, inl, inr, ℕ, ◌+◌, ◌≤◌, List, [], ◌∷◌, ◌++◌, length, map, Option, Some, None, refl, sym, ap, ◌∙◌, subst, true, set, slice_get, arith, Bool, false, eqb-true, eq-eqb}
use Rattle.std.specs.Prelude.{◌==◌}
use Rattle.std.proofs.lemmas.Bool.{false≢true}
use Rattle.rp_base.specs.declared.node.Node.{Node}
use Rattle.proto_data.specs.declared.message.Msg.{Msg}
use Rattle.proto_data.specs.declared.message.Body.{Body}
use Rattle.proto_data.specs.declared.message.Entry.{Entry}
use Rattle.proto_data.specs.declared.message.Input.{Input}
use Rattle.proto_data.specs.declared.message.Carried.{Carried}
use Rattle.rp_app.specs.Application.{Application}
use Rattle.proto_model.specs.Clocks.{Aged, clocks, switch_clock, replica_clock}
use Rattle.key_table.specs.Table.{Key}
use Rattle.proto_model.specs.SwitchState.{Switch}
use Rattle.proto_model.specs.SwitchRows.{switch_step}
use Rattle.proto_model.specs.Records.{Booked}
use Rattle.proto_model.specs.Feeds.{Each}
use Rattle.proto_model.specs.World.{World, Journaled, SwitchNode, ReplicaNode}
use Rattle.proto_safety.specs.Books.{In, committed_of}
use Rattle.proto_safety.specs.Origins.{AskSent, ChunkSent, Origin}
use Rattle.proto_safety.specs.LeaseLaws.{Request, AskOf, NumberOf, First, IsEntryOf}
use Rattle.proto_safety.specs.Firsts.{request_of, with_sent}
use Rattle.proto_safety.specs.SwitchSent.{SentNow as SaidNow}
use Rattle.proto_safety.proofs.Leasing.FirstSendings.{Made, SentNow, sent_keeps, sent_was, sent_made}
use Rattle.proto_safety.proofs.Leasing.SlotFirsts.{NodeFirsts, Counted, Untouched}
use Rattle.proto_safety.proofs.Leasing.SwitchFirsts.{step_firsts}
use Rattle.proto_safety.proofs.Nodes.SwitchSays.{step_says}
use Rattle.proto_safety.proofs.Nodes.SwitchTable.{msg}
use Rattle.std.proofs.lemmas.List.{length-set}
use Rattle.proto_safety.proofs.Store.BookEpochs.{one_grant}
use Rattle.proto_safety.proofs.Leasing.WorldPuts.{NumberIn, is_put, is_snap, number_request, NumberFrame, Known, NumberFramesFit}
use Rattle.proto_safety.proofs.Time.Clocks.{AgedIn}
use Rattle.key_table.proofs.Tables.{same_some}
use Rattle.proto_safety.proofs.Basics.Eachs.{each_in}
use Rattle.proto_safety.proofs.Basics.Lists.{at_set, get-set_same, map-set_same, set_other}
use Rattle.proto_safety.proofs.Basics.Members.{in_append, in_front, to_append}

-- a request that was sent in an Ask, or in a Put or a Snap
pub data WasSent (frames : List Msg) (f : First) : Type 0 where
  by_ask : {inc nonce : ℕ} → f.request ≡ AskOf inc nonce → AskSent frames f.switch inc nonce f.key → WasSent frames f
  by_put : {inc epoch number : ℕ} → f.request ≡ NumberOf epoch number → NumberFrame frames f.switch inc f.key epoch number → WasSent frames f

-- a switch's clock has read this moment
pub record Before (switches : List SwitchNode) (n moment : ℕ) : Type 0 where
  pub node : SwitchNode
  pub at : slice_get switches n ≡ Some node
  pub past : moment ≤ node.clock

pub record FirstsHold (fs : List First) (w : World) : Type 0 where
  pub nodes : (n : ℕ) (node : SwitchNode) → slice_get w.switches n ≡ Some node → NodeFirsts fs n node.state.inc node.state.slots node.state.copies
  pub past : (f : First) → In fs f → Before w.switches f.switch f.moment
  pub sent : (f : First) → In fs f → WasSent w.frames f
  pub asked : (m : Msg) (n : ℕ) (r : Key × Request) → In w.frames m → m.from ≡ Node.Switch n → request_of m.body ≡ Some r → Made fs n r.0 r.1
  pub aged : (f : First) (r : ℕ) (node : ReplicaNode) (b : Booked) → In fs f → slice_get w.replicas r ≡ Some node → In node.book b → IsEntryOf f b.entry → AgedIn f.switch f.moment (length w.switches + r) b.moment w

-- ---- what is counted

asked_count : (frames : List Msg) (n inc nonces : ℕ) (key : Key) (k : ℕ) (f : First) → ((j : ℕ) → AskSent frames n inc j key → j ≤ nonces) → f.switch ≡ n → f.key ≡ key → f.request ≡ AskOf inc k → WasSent frames f → k ≤ nonces
asked_count frames n inc nonces key k f count s q r (by_ask {inc = i} {nonce = j} is a) =
    let e : AskOf i j ≡ AskOf inc k = sym is ∙ r in
    let inc_is : i ≡ inc = cc in
    let nonce_is : j ≡ k = cc in
    count k (subst (λ (x : ℕ). AskSent frames x inc k key) s (subst (λ (x : Key). AskSent frames f.switch inc k x) q (subst (λ (x : ℕ). AskSent frames f.switch x k f.key) inc_is (subst (λ (x : ℕ). AskSent frames f.switch i x f.key) nonce_is a))))
asked_count frames n inc nonces key k f count s q r (by_put {epoch = e} {number = m} is p) = let no : NumberOf e m ≡ AskOf inc k = sym is ∙ r in absurd cc

numbered_count : (frames : List Msg) (n : ℕ) (key : Key) (e k : ℕ) (f : First) → f.switch ≡ n → f.key ≡ key → f.request ≡ NumberOf e k → WasSent frames f → (inc : ℕ) × NumberFrame frames n inc key e k
numbered_count frames n key e k f s q r (by_ask {inc = i} {nonce = j} is a) = let no : AskOf i j ≡ NumberOf e k = sym is ∙ r in absurd cc
numbered_count frames n key e k f s q r (by_put {inc = inc} {epoch = x} {number = m} is p) =
    let same : NumberOf x m ≡ NumberOf e k = sym is ∙ r in
    let epoch_is : x ≡ e = cc in
    let number_is : m ≡ k = cc in
    (inc, subst (λ (y : ℕ). NumberFrame frames y inc key e k) s (subst (λ (y : Key). NumberFrame frames f.switch inc y e k) q (subst (λ (y : ℕ). NumberFrame frames f.switch inc f.key y k) epoch_is (subst (λ (y : ℕ). NumberFrame frames f.switch inc f.key x y) number_is p))))

module _ (cells : ℕ) (w : World) (fs : List First) (h : FirstsHold fs w) (p : NumberFramesFit w.frames w.switches w.replicas w.history.items) where
  pub made_put : (n : ℕ) (key : Key) (e k : ℕ) → Made fs n key (NumberOf e k) → (inc : ℕ) × NumberFrame w.frames n inc key e k
  made_put n key e k m = numbered_count w.frames n key e k m.first m.switch_is m.key_is m.request_is (h.sent m.first m.there)

  pub counted_at : (n : ℕ) (node : SwitchNode) → slice_get w.switches n ≡ Some node → ((key : Key) (j : ℕ) → AskSent w.frames n node.state.inc j key → j ≤ node.state.nonces) → Counted fs n node.state.inc node.state.nonces node.state.slots
  counted_at n node at asks =
      record {
        asks = λ key k m. asked_count w.frames n node.state.inc node.state.nonces key k m.first (asks key) m.switch_is m.key_is m.request_is (h.sent m.first m.there);
        numbers = λ key slot e k found leased m. let f = made_put n key e k m in (p.numbers n f.0 e k key f.1).reached n node slot at found leased;
      }

  pub untouched_at : (n : ℕ) (node : SwitchNode) (input : Input) → slice_get w.switches n ≡ Some node → Known cells w.frames w.switches w.replicas →
      ((from to : Node) (nonce e : ℕ) (key : Key) (values : List ℕ) (load : Option Carried) → input ≡ msg from to (Body.Grant node.state.inc nonce e key values load) → In (committed_of w.replicas) (Entry.Grant key e n node.state.inc nonce)) →
      Untouched fs n node.state.inc node.state.slots input
  untouched_at n node input at known told from to nonce e first k key values load slot came found is m =
      let f = made_put n key e k m in
      let r = known.runner (Entry.Grant key e n node.state.inc nonce) (told from to nonce e key values load came) in
      (p.numbers n f.0 e k key f.1).awaited (record { n = n; node = node; slot = slot; nonce = nonce; first = first; r = r.0; replica = r.1; at = at; found = found; asking = is; here = r.2; up = r.3; granted = r.4 })

-- ---- a switch takes an input

pair_of : {a b : Key × Request} → Some a ≡ Some b → a ≡ b
pair_of e = cc

same_or : (a b : ℕ) → (a ≡ b) ⊎ (a ≢ b)
same_or a b = or_case (a == b) refl
  where
    or_case : (t : Bool) → (a == b) ≡ t → (a ≡ b) ⊎ (a ≢ b)
    or_case true t = inl (eqb-true a b t)
    or_case false t = inr (λ e. false≢true (sym t ∙ eq-eqb a b e))

-- what is known of the frames and the books
pub record Sources (w : World) : Type 0 where
  pub origin : (r : ℕ) (node : ReplicaNode) (b : Booked) → slice_get w.replicas r ≡ Some node → In node.book b → Origin w.frames b.entry
  pub sender : (m : Msg) (r : Key × Request) → In w.frames m → request_of m.body ≡ Some r → (n : ℕ) × (m.from ≡ Node.Switch n)

module _ (app : Application) (w : World) (fs : List First) (n : ℕ) (node : SwitchNode) (input : Input) (at : slice_get w.switches n ≡ Some node) where
  abbrev state : Switch
  state = (switch_step app node.state node.clock input).0

  abbrev sent : List Msg
  sent = (switch_step app node.state node.clock input).1.sent

  abbrev moved : SwitchNode
  moved = record node { state = state }

  abbrev after : List SwitchNode
  after = set w.switches n moved

  abbrev now : List First
  now = with_sent n node.clock fs sent

  module _ (known : Known app.cell_count w.frames w.switches w.replicas) (later : Known app.cell_count (w.frames ++ sent) after w.replicas)
      (told : (from to : Node) (nonce e : ℕ) (key : Key) (values : List ℕ) (load : Option Carried) → input ≡ msg from to (Body.Grant node.state.inc nonce e key values load) → In (committed_of w.replicas) (Entry.Grant key e n node.state.inc nonce))
      (asks : (key : Key) (j : ℕ) → AskSent w.frames n node.state.inc j key → j ≤ node.state.nonces) (sources : Sources w)
      (p : NumberFramesFit w.frames w.switches w.replicas w.history.items) (items : List Journaled) (q : NumberFramesFit (w.frames ++ sent) after w.replicas items) (h : FirstsHold fs w) where
    says : Each (SaidNow state) sent
    says = step_says app node.state node.clock input (known.tidy n node at)

    own : state.me ≡ n
    own = later.me n moved (get-set_same w.switches n node moved at)

    sent_from : (m : Msg) → In sent m → m.from ≡ Node.Switch n
    sent_from m i = (each_in (SaidNow state) sent m says i).0 ∙ ap (λ (x : ℕ). Node.Switch x) own

    -- the slots and copies
    nodes_now : (m : ℕ) (other : SwitchNode) → slice_get after m ≡ Some other → NodeFirsts now m other.state.inc other.state.slots other.state.copies
    nodes_now m other there = node_case (at_set w.switches n m moved other there)
      where
        mine : NodeFirsts now n state.inc state.slots state.copies
        mine =
            step_firsts app fs n node.state node.clock input (known.tidy n node at) (counted_at app.cell_count w fs h p n node at asks) (untouched_at app.cell_count w fs h p n node input at known told) (h.nodes n node at)

        theirs : NodeFirsts fs m other.state.inc other.state.slots other.state.copies → NodeFirsts now m other.state.inc other.state.slots other.state.copies
        theirs k =
            record {
              asking = λ key slot nonce first found is. sent_keeps n node.clock fs sent _ (k.asking key slot nonce first found is);
              copied = λ key slot epoch c found is i of. sent_keeps n node.clock fs sent _ (k.copied key slot epoch c found is i of);
              rounds = λ key slot epoch r found is runs. sent_keeps n node.clock fs sent _ (k.rounds key slot epoch r found is runs);
            }

        node_case : ((m ≡ n) × (other ≡ moved)) ⊎ ((m ≢ n) × (slice_get w.switches m ≡ Some other)) → NodeFirsts now m other.state.inc other.state.slots other.state.copies
        node_case (inl same) = rw (same.0, same.1) mine
        node_case (inr there) = theirs (h.nodes m other there.1)

    -- clocks
    before_after : (k moment : ℕ) → Before w.switches k moment → Before after k moment
    before_after k moment b = before_case (same_or k n)
      where
        before_case : (k ≡ n) ⊎ (k ≢ n) → Before after k moment
        before_case (inl e) =
            let there : slice_get w.switches k ≡ Some node = subst (λ (x : ℕ). slice_get w.switches x ≡ Some node) (sym e) at in
            let same : b.node ≡ node = same_some (slice_get w.switches k) b.node node b.at there in
            record { node = moved; at = subst (λ (x : ℕ). slice_get after x ≡ Some moved) (sym e) (get-set_same w.switches n node moved at); past = subst (λ (x : SwitchNode). moment ≤ x.clock) same b.past }
        before_case (inr ne) = record { node = b.node; at = set_other w.switches n k moved ne ∙ b.at; past = b.past }

    past_now : (f : First) → In fs f ⊎ SentNow n node.clock fs sent f → Before after f.switch f.moment
    past_now f (inl i) = before_after f.switch f.moment (h.past f i)
    past_now f (inr s) =
        subst (λ (x : ℕ). Before after x f.moment) (sym s.switch_is)
        (subst (λ (x : ℕ). Before after n x) (sym s.moment_is) (record { node = moved; at = get-set_same w.switches n node moved at; past = omega arith }))

    -- ---- frames

    body_sent : (m : Msg) (f : First) → In sent m → m.from ≡ Node.Switch n → f.switch ≡ n → (b : Body) → m.body ≡ b → request_of b ≡ Some (f.key, f.request) → WasSent (w.frames ++ sent) f
    body_sent m f i from s (Body.Ask inc nonce key load) is r =
        let e : (key, AskOf inc nonce) ≡ (f.key, f.request) = pair_of r in
        let k : key ≡ f.key = ap (λ x. x.0) e in
        let q : AskOf inc nonce ≡ f.request = ap (λ x. x.1) e in
        by_ask (sym q)
        (subst (λ (x : ℕ). AskSent (w.frames ++ sent) x inc nonce f.key) (sym s)
        (subst (λ (x : Key). AskSent (w.frames ++ sent) n inc nonce x) k (record { msg = m; there = to_append w.frames sent m (inr i); from_is = from; load = load; body_is = is })))
    body_sent m f i from s (Body.Put inc epoch number key delta load) is r =
        let e : (key, NumberOf epoch number) ≡ (f.key, f.request) = pair_of r in
        let k : key ≡ f.key = ap (λ x. x.0) e in
        let q : NumberOf epoch number ≡ f.request = ap (λ x. x.1) e in
        by_put (sym q)
        (subst (λ (x : ℕ). NumberFrame (w.frames ++ sent) x inc f.key epoch number) (sym s)
        (subst (λ (x : Key). NumberFrame (w.frames ++ sent) n inc x epoch number) k (record { msg = m; there = to_append w.frames sent m (inr i); from_is = from; number_in = is_put m inc epoch number key delta load is })))
    body_sent m f i from s (Body.Snap inc epoch round key chunk chunks cells) is r =
        let e : (key, NumberOf epoch round) ≡ (f.key, f.request) = pair_of r in
        let k : key ≡ f.key = ap (λ x. x.0) e in
        let q : NumberOf epoch round ≡ f.request = ap (λ x. x.1) e in
        by_put (sym q)
        (subst (λ (x : ℕ). NumberFrame (w.frames ++ sent) x inc f.key epoch round) (sym s)
        (subst (λ (x : Key). NumberFrame (w.frames ++ sent) n inc x epoch round) k (record { msg = m; there = to_append w.frames sent m (inr i); from_is = from; number_in = is_snap m inc epoch round chunk chunks key cells is })))
    body_sent m f i from s (Body.Grant inc nonce epoch key cells load) is r = absurd cc
    body_sent m f i from s (Body.Busy inc nonce key mark) is r = absurd cc
    body_sent m f i from s (Body.Ack inc epoch upto key load) is r = absurd cc
    body_sent m f i from s (Body.Deny inc epoch key) is r = absurd cc
    body_sent m f i from s (Body.Forward config index entry load) is r = absurd cc
    body_sent m f i from s (Body.Have index) is r = absurd cc
    body_sent m f i from s (Body.Echo of load) is r = absurd cc
    body_sent m f i from s (Body.Config config) is r = absurd cc

    sent_now : (f : First) → In fs f ⊎ SentNow n node.clock fs sent f → WasSent (w.frames ++ sent) f
    sent_now f (inl i) = more_sent f (h.sent f i)
      where
        more_sent : (f : First) → WasSent w.frames f → WasSent (w.frames ++ sent) f
        more_sent f (by_ask is a) = by_ask is (record { msg = a.msg; there = in_front w.frames sent a.msg a.there; from_is = a.from_is; load = a.load; body_is = a.body_is })
        more_sent f (by_put is a) = by_put is (record { msg = a.msg; there = in_front w.frames sent a.msg a.there; from_is = a.from_is; number_in = a.number_in })
    sent_now f (inr s) =
        body_sent s.msg f s.there (sent_from s.msg s.there) s.switch_is s.msg.body refl s.request_is

    asked_now : (m : Msg) (k : ℕ) (r : Key × Request) → m.from ≡ Node.Switch k → request_of m.body ≡ Some r → In w.frames m ⊎ In sent m → Made now k r.0 r.1
    asked_now m k r from is (inl i) =
        let d = h.asked m k r i from is in record { first = d.first; there = sent_keeps n node.clock fs sent d.first d.there; switch_is = d.switch_is; key_is = d.key_is; request_is = d.request_is }
    asked_now m k r from is (inr i) =
        let e : Node.Switch n ≡ Node.Switch k = sym (sent_from m i) ∙ from in
        let same : n ≡ k = cc in
        subst (λ (x : ℕ). Made now x r.0 r.1) same (sent_made n node.clock fs sent m r i is)

    -- ---- a request that is new has no entry

    number_entry : (f : First) → SentNow n node.clock fs sent f → (m : Msg) (inc epoch number : ℕ) (key : Key) → In w.frames m → NumberIn inc epoch number key m.body → key ≡ f.key → f.request ≡ NumberOf epoch number → ⊥
    number_entry f s m inc epoch number key there is same_key request =
        let by = sources.sender m (key, NumberOf epoch number) there (number_request m.body inc epoch number key is) in
        let mine = numbered_count (w.frames ++ sent) n f.key epoch number f s.switch_is refl request (sent_now f (inr s)) in
        let g = q.granted n mine.0 epoch number f.key mine.1 in
        let theirs : NumberFrame w.frames by.0 inc f.key epoch number = subst (λ (x : Key). NumberFrame w.frames by.0 inc x epoch number) same_key (record { msg = m; there = there; from_is = by.1; number_in = is }) in
        let k = p.granted by.0 inc epoch number f.key theirs in
        let same : by.0 ≡ n = (one_grant app.cell_count f.key None (committed_of w.replicas) epoch by.0 inc k.nonce n mine.0 g.nonce (known.committed_fits f.key) k.there g.there).switch in
        let d : Made fs n key (NumberOf epoch number) = h.asked m n (key, NumberOf epoch number) there (by.1 ∙ ap (λ (x : ℕ). Node.Switch x) same) (number_request m.body inc epoch number key is) in
        s.new (subst (λ (x : Request). Made fs n f.key x) (sym request) (subst (λ (x : Key). Made fs n x (NumberOf epoch number)) same_key d))

    pub new_entry : (f : First) → SentNow n node.clock fs sent f → (e : Entry) → Origin w.frames e → IsEntryOf f e → ⊥
    new_entry f s (Entry.Grant key epoch switch inc nonce) o is =
        let from : o.msg.from ≡ Node.Switch n = o.from_is ∙ ap (λ (x : ℕ). Node.Switch x) (is.1 ∙ s.switch_is) in
        let d : Made fs n key (AskOf inc nonce) = h.asked o.msg n (key, AskOf inc nonce) o.there from (ap request_of o.body_is) in
        s.new (subst (λ (x : Request). Made fs n f.key x) (sym is.2) (subst (λ (x : Key). Made fs n x (AskOf inc nonce)) is.0 d))
    new_entry f s (Entry.Put key epoch number delta) o is =
        number_entry f s o.msg o.inc epoch number key o.there (is_put o.msg o.inc epoch number key delta o.load o.body_is) is.0 is.1
    new_entry f s (Entry.Snap key epoch round cells) o is = snap_case o.parts o.some o.sent
      where
        snap_case : (parts : List (List ℕ)) → 1 ≤ length parts → ((i : ℕ) (part : List ℕ) → slice_get parts i ≡ Some part → ChunkSent w.frames key epoch round i (length o.parts) part) → ⊥
        snap_case [] some sent = absurd (omega (arith, some))
        snap_case (x ∷ xs) some sent =
            let c = sent 0 x refl in
            number_entry f s c.msg c.inc epoch round key c.there (is_snap c.msg c.inc epoch round 0 (length o.parts) key x c.body_is) is.0 is.1

    aged_after : (f : First) (r : ℕ) (replica : ReplicaNode) (b : Booked) → slice_get w.replicas r ≡ Some replica → In replica.book b → IsEntryOf f b.entry → In fs f ⊎ SentNow n node.clock fs sent f →
        Aged w.terms.ratio (clocks w) f.switch f.moment (length w.switches + r) b.moment
    aged_after f r replica b there i is (inl k) = h.aged f r replica b k there i is
    aged_after f r replica b there i is (inr s) = absurd (new_entry f s b.entry (sources.origin r replica b there i) is)

    pub moved_firsts : (x : World) → x.terms ≡ w.terms → x.switches ≡ after → x.replicas ≡ w.replicas → x.frames ≡ w.frames ++ sent → FirstsHold now x
    moved_firsts x terms switches replicas frames =
        record {
          nodes = λ m other there. nodes_now m other (subst (λ (l : List SwitchNode). slice_get l m ≡ Some other) switches there);
          past = λ f i. subst (λ (l : List SwitchNode). Before l f.switch f.moment) (sym switches) (past_now f (sent_was n node.clock fs sent f i));
          sent = λ f i. subst (λ (l : List Msg). WasSent l f) (sym frames) (sent_now f (sent_was n node.clock fs sent f i));
          asked = λ m k r i from is. asked_now m k r from is (in_append w.frames sent m (subst (λ (l : List Msg). In l m) frames i));
          aged = λ f r replica b i there j is.
              let c : clocks x ≡ clocks w = rw (switches, replicas) (ap (λ cs. cs ++ map replica_clock w.replicas) (map-set_same switch_clock w.switches n node moved at refl)) in
              let l : length x.switches ≡ length w.switches = ap length switches ∙ length-set w.switches n moved in
              let a = aged_after f r replica b (subst (λ (y : List ReplicaNode). slice_get y r ≡ Some replica) replicas there) j is (sent_was n node.clock fs sent f i) in
              rw (terms, c, l) a;
        }
