-- The cells go on while the committed book does.
use Rattle.std.proofs.Common.{◌≡◌, ℕ, ◌+◌, ◌≤◌, List, [], ◌∷◌, ◌++◌, Some, None, arith, refl, sym, ◌∙◌, ap, subst, append-nil, append_assoc, slice_get}
use Rattle.std.proofs.lemmas.Grind.{fold-append}
use Rattle.proto_data.specs.declared.message.Msg.{Msg}
use Rattle.proto_data.specs.declared.message.Entry.{Entry}
use Rattle.rp_app.specs.Application.{Application, Delta}
use Rattle.key_table.specs.Table.{Key}
use Rattle.proto_model.specs.Feeds.{Each}
use Rattle.proto_model.specs.Slot.{Slot, epoch_of}
use Rattle.proto_model.specs.SwitchState.{slot_at}
use Rattle.proto_model.specs.World.{SwitchNode, Journaled}
use Rattle.rp_base.specs.declared.legality.Fed.{Fed}
use Rattle.proto_safety.specs.Books.{In, IsPrefix}
use Rattle.proto_safety.specs.Flows.{FlowRecord, FitsFrom, flow_step, flow_of}
use Rattle.proto_safety.specs.Origins.{Origin, PutSent}
use Rattle.proto_safety.proofs.Store.BookEpochs.{fits_parts, flow_later_from}
use Rattle.proto_safety.proofs.Serial.CellFacts.{GrantedTo, SentPut}
use Rattle.proto_safety.proofs.Serial.CellsStep.{no_snap}
use Rattle.proto_safety.proofs.Serial.FlowCells.{ItemsKnown, CellsOf, entry_cells}
use Rattle.proto_safety.proofs.Serial.FlowSerial.{PutIs}
use Rattle.proto_safety.proofs.Leasing.NoSnaps.{NoSnap}
use Rattle.proto_safety.proofs.Serial.SerialLists.{journal_in, front_in}
use Rattle.proto_safety.proofs.Serial.SerialFronts.{front_stays}
use Rattle.proto_safety.proofs.Serial.SwitchCells.{SwitchStands}
use Rattle.proto_safety.proofs.Nodes.SwitchNodes.{AllAt}
use Rattle.proto_safety.proofs.Basics.Members.{in_middle}

pub flow_later : (n : ℕ) (key : Key) (es more : List Entry) (f : FlowRecord) → FitsFrom n key None (es ++ more) → flow_of n key es ≡ Some f → (g : FlowRecord) × ((flow_of n key (es ++ more) ≡ Some g) × (f.epoch ≤ g.epoch))
flow_later n key es more f fits flow =
    let r = flow_later_from n key (flow_of n key es) f more (fits_parts n key None es more fits).1 flow in
    (r.0, (fold-append (flow_step n key) None es more ∙ r.1.0, r.1.1))

module _ (app : Application) (feeds : List Fed) (items : List Journaled) (frames : List Msg) (es later : List Entry) (prefix : IsPrefix es later) (fits : (key : Key) → FitsFrom app.cell_count key None later)
    (granted : (e k : ℕ) (key : Key) (delta : Delta) → SentPut frames key e k delta → GrantedTo app.cell_count es key e)
    (puts : (e k : ℕ) (key : Key) (delta : Delta) → SentPut frames key e k delta → PutIs app feeds (front_in key es items e) (journal_in key items e) k delta)
    (entries : (x : Entry) → In later x → Origin frames x) (snapless : Each (λ (m : Msg). NoSnap m.body) frames) where
  -- entries so far, one more, and the rest
  record Parts (done : List Entry) (x : Entry) (todo : List Entry) : Type 0 where
    is : (es ++ done) ++ (x ∷ todo) ≡ later

  fits_to : (key : Key) (front rest : List Entry) → front ++ rest ≡ later → FitsFrom app.cell_count key None front
  fits_to key front rest is = (fits_parts app.cell_count key None front rest (subst (λ l. FitsFrom app.cell_count key None l) (sym is) (fits key))).0

  known_later : (key : Key) (done rest : List Entry) → (es ++ done) ++ rest ≡ later → ItemsKnown app.cell_count es items key → ItemsKnown app.cell_count (es ++ done) items key
  known_later key done rest is k =
      record {
        granted = λ j i of.
            let g = k.granted j i of in
            let l = flow_later app.cell_count key es done g.0 (fits_to key (es ++ done) rest is) g.1.0 in (l.0, (l.1.0, omega (arith, g.1.1, l.1.1)));
        rise = k.rise;
      }

  put_there : (key : Key) (done rest : List Entry) (x : Entry) (f : FlowRecord) (delta : Delta) → (es ++ done) ++ rest ≡ later → In later x → x ≡ Entry.Put key f.epoch (f.last + 1) delta →
      PutIs app feeds (front_in key (es ++ done) items f.epoch) (journal_in key items f.epoch) (f.last + 1) delta
  put_there key done rest x f delta is i e =
      let o : PutSent frames key f.epoch (f.last + 1) delta = subst (λ y. Origin frames y) e (entries x i) in
      let sent : SentPut frames key f.epoch (f.last + 1) delta = record { msg = o.msg; there = o.there; inc = o.inc; load = o.load; body_is = o.body_is } in
      let g = granted f.epoch (f.last + 1) key delta sent in
      subst (λ l. PutIs app feeds l (journal_in key items f.epoch) (f.last + 1) delta) (sym (front_stays app.cell_count key es done (fits_to key (es ++ done) rest is) g.flow g.flow_is items f.epoch g.reached)) (puts f.epoch (f.last + 1) key delta sent)

  snap_never : (key : Key) (x : Entry) (epoch round : ℕ) (values : List ℕ) → In later x → x ≡ Entry.Snap key epoch round values → ⊥
  snap_never key x epoch round values i e = no_snap frames key epoch round values snapless (subst (λ y. Origin frames y) e (entries x i))

  grow_from : (key : Key) (todo done : List Entry) → (es ++ done) ++ todo ≡ later → ItemsKnown app.cell_count es items key → CellsOf app feeds (es ++ done) items key → CellsOf app feeds later items key
  grow_from key [] done is k h = subst (λ l. CellsOf app feeds l items key) (sym (append-nil (es ++ done)) ∙ is) h
  grow_from key (x ∷ xs) done is k h =
      let there : In later x = subst (λ l. In l x) is (in_middle (es ++ done) xs x) in
      let next : (es ++ (done ++ x ∷ [])) ++ xs ≡ later = ap (λ l. l ++ xs) (sym (append_assoc es done (x ∷ []))) ∙ (append_assoc (es ++ done) (x ∷ []) xs ∙ is) in
      let fit : FitsFrom app.cell_count key None ((es ++ done) ++ x ∷ []) = fits_to key ((es ++ done) ++ x ∷ []) xs (append_assoc (es ++ done) (x ∷ []) xs ∙ is) in
      let one : CellsOf app feeds ((es ++ done) ++ x ∷ []) items key =
      entry_cells app feeds (es ++ done) items key x fit (known_later key done (x ∷ xs) is k) h (λ f delta flow e. put_there key done (x ∷ xs) x f delta is there e) (λ epoch round values e. snap_never key x epoch round values there e) in
      grow_from key xs (done ++ x ∷ []) next k (subst (λ l. CellsOf app feeds l items key) (append_assoc es done (x ∷ [])) one)

  pub grow_flow : (key : Key) → ItemsKnown app.cell_count es items key → CellsOf app feeds es items key → CellsOf app feeds later items key
  grow_flow key k h = grow_from key prefix.rest [] (ap (λ l. l ++ prefix.rest) (append-nil es) ∙ prefix.is) k (subst (λ l. CellsOf app feeds l items key) (sym (append-nil es)) h)

  -- fronts of granted epochs
  pub same_front : (key : Key) (e : ℕ) → GrantedTo app.cell_count es key e → front_in key later items e ≡ front_in key es items e
  same_front key e g =
      ap (λ l. front_in key l items e) (sym prefix.is)
      ∙ front_stays app.cell_count key es prefix.rest (subst (λ l. FitsFrom app.cell_count key None l) (sym prefix.is) (fits key)) g.flow g.flow_is items e g.reached

  pub grow_puts : (e k : ℕ) (key : Key) (delta : Delta) → SentPut frames key e k delta → PutIs app feeds (front_in key later items e) (journal_in key items e) k delta
  grow_puts e k key delta q = subst (λ l. PutIs app feeds l (journal_in key items e) k delta) (sym (same_front key e (granted e k key delta q))) (puts e k key delta q)

  pub grow_slots : (nodes : List SwitchNode) → ((n e : ℕ) (key : Key) (node : SwitchNode) (slot : Slot) → slice_get nodes n ≡ Some node → slot_at node.state key ≡ Some slot → epoch_of slot.lease ≡ Some e → GrantedTo app.cell_count es key e) →
      AllAt (λ n (node : SwitchNode). SwitchStands app feeds es items node.state) nodes → AllAt (λ n (node : SwitchNode). SwitchStands app feeds later items node.state) nodes
  grow_slots nodes owned h n node at =
      record {
        at = λ key slot e found leased.
            let st = (h n node at).at key slot e found leased in
            let same : front_in key later items e ≡ front_in key es items e = same_front key e (owned n e key node slot at found leased) in
            record { cells = st.cells ∙ sym (rw same refl); copies = λ c i of. rw same (st.copies c i of); numbers = st.numbers };
      }
