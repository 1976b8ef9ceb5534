-- In snapshot mode: a packet is processed only where each update behind the closing is less than the bound before now.
use Rattle.std.proofs.Common.{◌≡◌, inl, inr, ℕ, ◌+◌, ◌-◌, ◌≤◌, ◌<◌, List, [], ◌∷◌, ◌++◌, Option, Some, None, arith, refl, sym, ◌∙◌, ap, subst, true, false, Bool, slice_get, filter, length, append-nil, eqb-true}
use Rattle.std.proofs.lemmas.Bool.{and_parts}
use Rattle.rp_base.specs.declared.node.Node.{Node}
use Rattle.rp_base.specs.declared.node.Packet.{Packet}
use Rattle.proto_data.specs.declared.message.Msg.{Msg}
use Rattle.proto_data.specs.declared.message.Body.{Body}
use Rattle.proto_data.specs.declared.message.Entry.{Entry}
use Rattle.proto_data.specs.declared.message.Input.{Input}
use Rattle.proto_data.specs.declared.message.Carried.{Carried}
use Rattle.proto_data.specs.declared.terms.Mode.{Mode}
use Rattle.rp_app.specs.Application.{Application}
use Rattle.key_table.specs.Table.{Key}
use Rattle.key_table.proofs.Tables.{same_key-true}
use Rattle.proto_model.specs.Effects.{added}
use Rattle.proto_model.specs.Feeds.{Each}
use Rattle.proto_model.specs.Committed.{is_in, closing, closing_of, committed_book, number_in}
use Rattle.proto_model.specs.Kept.{is_round}
use Rattle.proto_model.specs.Records.{Booked}
use Rattle.proto_model.specs.Slot.{Slot, Lease, Round, Ages, Idle, Asking, Held, Lapsed, epoch_of, first_of_two, may}
use Rattle.proto_model.specs.Stands.{entries_of}
use Rattle.proto_model.specs.SwitchState.{Switch, Item, slot_at, lapsed}
use Rattle.proto_model.specs.SwitchRow.{SwitchRow, asked_mark, switch_row}
use Rattle.proto_model.specs.SwitchOutcomes.{perform, item_of, late_did}
use Rattle.proto_model.specs.SwitchRows.{switch_step}
use Rattle.proto_model.specs.World.{World, SwitchNode, Journaled, RoundBegun}
use Rattle.proto_safety.specs.Books.{In, IsPrefix, committed_of}
use Rattle.proto_safety.specs.CellLaws.{RoundRests, SlotRounds}
use Rattle.proto_safety.specs.Flows.{AckedIn}
use Rattle.proto_safety.specs.LossLaws.{SnapCells, Covers, AgesCover, Recent, round_at, items_behind, kept_round}
use Rattle.proto_safety.specs.Origins.{PutSent}
use Rattle.proto_safety.proofs.Basics.Eachs.{each_in, each_weaker}
use Rattle.proto_safety.proofs.Basics.Pairs.{pairwise_push}
use Rattle.proto_safety.proofs.Basics.Prefixes.{in_prefix}
use Rattle.proto_safety.proofs.Inductions.Induction.{Comes}
use Rattle.proto_safety.proofs.Leasing.FlowCopies.{not_strict}
use Rattle.proto_safety.proofs.Leasing.SlotFirsts.{lapsed_asking, lapsed_epoch}
use Rattle.proto_safety.proofs.Nodes.SwitchTable.{RowTaken, Ready, Timely, msg, fed, at_grant, at_grant_again, direct, mirrored, snapped, late, row_taken}
use Rattle.proto_safety.proofs.Serial.CellFacts.{was_slot}
use Rattle.proto_safety.proofs.Serial.CellsGround.{entry_origin, grant_said, told_grant}
use Rattle.proto_safety.proofs.Snapshots.AgesRun.{AgesHold}
use Rattle.proto_safety.proofs.Snapshots.KeptFronts.{find_in, found_more}
use Rattle.proto_safety.proofs.Snapshots.SnapAges.{AgesAt, behind_other, behind_own, may_recent}
use Rattle.proto_safety.proofs.Snapshots.SnapRun.{Celled, cells_of_snaps, snap_facts}
use Rattle.proto_safety.proofs.Snapshots.SnapSlots.{SnapSays}
use Rattle.proto_safety.proofs.Snapshots.WorldSnaps.{SnapFacts}
use Rattle.proto_safety.proofs.Store.EpochNumbers.{closing_numbered, closing_reaches, number_epoch, number_value}
use Rattle.proto_safety.proofs.Store.FlowBooks.{Numbered}
use Rattle.loss_laws.proofs.Behind.{IsEnd, HasRound, all_end, each_end, no_zero, round_end}

-- of each flow's epoch the items behind its closing are recent
abbrev pub Recents : ℕ → World → Type 0
Recents bound w = (epoch : ℕ) (key : Key) → Recent bound (items_behind key epoch w.history.items (kept_round key epoch w.history.rounds (closing w key epoch)))

-- ---- closings

module _ (app : Application) (bound : ℕ) (w : World) (c : Celled app bound w) where
  abbrev f : SnapFacts app bound w
  f = snap_facts app bound w c.0

  abbrev es : List Entry
  es = committed_of w.replicas

  abbrev items : List Journaled
  items = w.history.items

  abbrev rounds : List RoundBegun
  rounds = w.history.rounds

  cells : SnapCells app w
  cells = cells_of_snaps app bound w c.0 c.1

  -- each number of the committed book is 0, or that of a begun round
  has_round : (key : Key) (e m : ℕ) → Numbered key e m es → HasRound key e rounds m
  has_round key e m n = entry_case n.entry n.there n.number_is
    where
      entry_case : (x : Entry) → In es x → number_in key e x ≡ Some m → HasRound key e rounds m
      entry_case (Entry.Grant k d s i nonce) there is = inl (number_value key e m (Entry.Grant k d s i nonce) is)
      entry_case (Entry.Put k d number delta) there is =
          let p : PutSent w.frames k d number delta = entry_origin app w f.settled f.ends (Entry.Put k d number delta) there in
          absurd (subst (λ (x : Body). SnapSays app w.history.fed es items rounds x) p.body_is (each_in (λ (m : Msg). SnapSays app w.history.fed es items rounds m.body) w.frames p.msg c.1.says p.there))
      entry_case (Entry.Snap k d number values) there is =
          let r = cells.entries k d number values there in
          let at = number_epoch key e m (Entry.Snap k d number values) is in
          let value : m ≡ number = number_value key e m (Entry.Snap k d number values) is in
          let found : round_at key e m rounds ≡ Some r.begun = rw (value, ← at.0, ← at.1) r.found in
          inr (r.begun, found)

  closing_round : (key : Key) (e m : ℕ) → closing w key e ≡ Some m → HasRound key e rounds m
  closing_round key e m is = has_round key e m (closing_numbered key e m (committed_book w) is)

  -- behind the closing stands an end of what stands behind a committed number
  pub reached_end : (key : Key) (e k : ℕ) → AckedIn es e k key → IsEnd (items_behind key e items (round_at key e k rounds)) (items_behind key e items (kept_round key e rounds (closing w key e)))
  reached_end key e k a =
      let r = closing_reaches key e a.number (committed_book w) a.entry a.there a.number_is in
      subst (λ o. IsEnd (items_behind key e items (round_at key e k rounds)) (items_behind key e items (kept_round key e rounds o))) (sym r.1.0)
      (round_end key e rounds cells.turns items k r.0 (omega (arith, r.1.1, a.reaches)) (closing_round key e r.0 r.1.0))

  -- a book that went on
  pub later_end : (book : List Booked) → IsPrefix (entries_of book) es → (key : Key) (e : ℕ) →
      IsEnd (items_behind key e items (kept_round key e rounds (closing_of key e book))) (items_behind key e items (kept_round key e rounds (closing w key e)))
  later_end book prefix key e = closing_case (closing_of key e book) refl
    where
      closing_case : (o : Option ℕ) → closing_of key e book ≡ o → IsEnd (items_behind key e items (kept_round key e rounds o)) (items_behind key e items (kept_round key e rounds (closing w key e)))
      closing_case None is = all_end key e items (kept_round key e rounds (closing w key e))
      closing_case (Some m) is =
          let n = closing_numbered key e m book is in
          reached_end key e m (record { entry = n.entry; there = in_prefix (entries_of book) es n.entry prefix n.there; number = m; number_is = n.number_is; reaches = omega arith })

  kept_within : (key : Key) (e : ℕ) (o : Option ℕ) (b : RoundBegun) → kept_round key e rounds o ≡ Some b → b.items_before ≤ length items
  kept_within key e None b is = cc
  kept_within key e (Some m) b is = each_in (λ (b : RoundBegun). b.items_before ≤ length items) rounds b c.1.within (find_in (is_round key e m) rounds b is)

  -- the closing's round is the same among more rounds
  same_round : (more : List RoundBegun) → Each (λ (b : RoundBegun). 1 ≤ b.begun.round) (rounds ++ more) → (key : Key) (e : ℕ) → kept_round key e (rounds ++ more) (closing w key e) ≡ kept_round key e rounds (closing w key e)
  same_round more begun key e = closing_case (closing w key e) refl
    where
      round_case : (m : ℕ) → HasRound key e rounds m → round_at key e m (rounds ++ more) ≡ round_at key e m rounds
      round_case m (inl none) = subst (λ k. round_at key e k (rounds ++ more) ≡ round_at key e k rounds) (sym none) (no_zero key e (rounds ++ more) begun ∙ sym (no_zero key e rounds cells.begun))
      round_case m (inr b) = found_more (is_round key e m) rounds more b.0 b.1 ∙ sym b.1

      closing_case : (o : Option ℕ) → closing w key e ≡ o → kept_round key e (rounds ++ more) o ≡ kept_round key e rounds o
      closing_case None is = refl
      closing_case (Some m) is = round_case m (closing_round key e m is)

  -- ---- a switch's step

  module _ (ages : AgesHold w) (recent : Recents bound w) (n : ℕ) (node : SwitchNode) (input : Input) (at : slice_get w.switches n ≡ Some node) (up : node.runs ≡ true)
      (comes : (from to : Node) (body : Body) → input ≡ msg from to body → Comes w (Node.Switch n) (msg from to body)) where
    abbrev s : Switch
    s = lapsed node.clock node.state

    mode : node.state.terms.mode ≡ Mode.Snapshot bound
    mode = f.modes n node at

    abbrev behind : Key → ℕ → List Journaled
    behind key e = items_behind key e items (kept_round key e rounds (closing w key e))

    -- each update behind the closing is less than the bound before now
    abbrev Young : Key → ℕ → Type 0
    Young key e = Each (λ (a : Journaled). a.item.dirty ≡ true → node.clock < a.item.moment + bound) (behind key e)

    -- the age that a leased slot goes by covers what stands behind the closing
    covered : (key : Key) (e inc last : ℕ) (lease : Lease) (a : Ages) (round : Option Round) → epoch_of lease ≡ Some e → RoundRests es n inc key lease last round → AgesCover items rounds key e last a round →
        Covers (first_of_two a.pre a.post) (behind key e)
    covered key e inc last lease a round leased r cover = lease_case lease round leased r cover
      where
        number_case : (d k : ℕ) → Some d ≡ Some e → AckedIn es d k key → Covers (first_of_two a.pre a.post) (items_behind key e items (round_at key e k rounds)) → Covers (first_of_two a.pre a.post) (behind key e)
        number_case d k of acked h =
            let same : d ≡ e = cc in
            each_end _ (items_behind key e items (round_at key e k rounds)) (behind key e) (reached_end key e k (subst (λ x. AckedIn es x k key) same acked)) h

        lease_case : (l : Lease) (q : Option Round) → epoch_of l ≡ Some e → RoundRests es n inc key l last q → AgesCover items rounds key e last a q → Covers (first_of_two a.pre a.post) (behind key e)
        lease_case Idle q of r h = absurd cc
        lease_case (Asking nonce first) q of r h = absurd cc
        lease_case (Held nonce d expiry) None of r h = number_case d last of r.1 h.0
        lease_case (Held nonce d expiry) (Some q) of r h = number_case d (last - 1) of r.2 h.0
        lease_case (Lapsed nonce d expiry) None of r h = number_case d last of r.1 h.0
        lease_case (Lapsed nonce d expiry) (Some q) of r h = number_case d (last - 1) of r.2 h.0

    held_young : (key : Key) (slot : Slot) (e : ℕ) → slot_at s key ≡ Some slot → epoch_of slot.lease ≡ Some e → may bound node.clock slot.ages ≡ true → Young key e
    held_young key slot e found leased young =
        let x = was_slot node.state node.clock key slot found in
        let was : epoch_of x.old.lease ≡ Some e = sym (lapsed_epoch node.clock x.old.lease) ∙ (ap (λ (y : Slot). epoch_of y.lease) x.is ∙ leased) in
        let a : AgesAt items rounds node.clock key e x.old.last x.old.ages x.old.round = ages n node at key x.old e x.found was in
        let r : RoundRests es n node.state.inc key x.old.lease x.old.last x.old.round = subst (λ o. SlotRounds es n node.state.inc key o) x.found (f.settled.0.0.0.1.1.0 n node at bound mode key) in
        may_recent bound node.clock x.old.ages (behind key e) (ap (λ (y : Slot). may bound node.clock y.ages) x.is ∙ young) a.1 (covered key e node.state.inc x.old.last x.old.lease x.old.ages x.old.round was r a.0)

    -- a flow's epoch that begins now has no items
    granted_young : (from to : Node) (inc nonce epoch first : ℕ) (key : Key) (cells : List ℕ) (load : Option Carried) (slot : Slot) → input ≡ msg from to (Body.Grant inc nonce epoch key cells load) →
        Timely app s node.clock inc nonce key cells slot first → Young key epoch
    granted_young from to inc nonce epoch first key cells load slot is t =
        let x = was_slot node.state node.clock key slot t.at in
        let own : inc ≡ node.state.inc = eqb-true inc node.state.inc t.here in
        let asking : x.old.lease ≡ Asking nonce first = lapsed_asking node.clock nonce first x.old.lease (ap (λ (y : Slot). y.lease) x.is ∙ t.asking) in
        let told : Comes w (Node.Switch n) (msg from to (Body.Grant node.state.inc nonce epoch key cells load)) =
        subst (λ i. Comes w (Node.Switch n) (msg from to (Body.Grant i nonce epoch key cells load))) own (comes from to (Body.Grant inc nonce epoch key cells load) is) in
        let none : filter (is_in key epoch) items ≡ [] =
        (grant_said app w f.settled f.ends n nonce first epoch key cells node x.old at up x.found asking t.young (told_grant app w f.settled f.ends n node.state.inc nonce epoch from to key cells load told)).no_items in
        each_end _ [] (behind key epoch) (subst (λ l. IsEnd l (behind key epoch)) none (all_end key epoch items (kept_round key epoch rounds (closing w key epoch)))) tt

    ready_young : (i : Input) (key : Key) (slot : Slot) (epoch : ℕ) (p : Packet) → Ready app s node.clock i key slot epoch p → input ≡ i → may bound node.clock slot.ages ≡ true → Young key epoch
    ready_young i key slot epoch p (fed of found is) came young = held_young key slot epoch found (ap epoch_of is) young
    ready_young i key slot epoch p (at_grant {from = from} {to = to} {inc = inc} {nonce = nonce} {first = first} {cells = cells} {c = c} {slot = old} t m) came young =
        granted_young from to inc nonce epoch first key cells (Some c) old came t
    ready_young i key slot epoch p (at_grant_again {slot = old} here found is m) came young = held_young key old epoch found (ap epoch_of is) young

    -- a processed item is of now, and comes soon enough
    record Timed (x : Item) : Type 0 where
      moment : x.moment ≡ node.clock
      young : Young x.key x.epoch

    row_timed : (i : Input) (row : SwitchRow) → RowTaken app s node.clock i row → input ≡ i → (x : Item) → (perform s node.clock row).1.item ≡ Some x → Timed x
    row_timed i row (direct r m e clean alone) came x out = absurd (not_strict s.terms.mode bound m mode)
    row_timed i row (mirrored r m e room dirty) came x out = absurd (not_strict s.terms.mode bound m mode)
    row_timed i row (snapped {key = key} {slot = slot} {epoch = epoch} {bound = limit} {p = p} {made = made} r m e young) came x out =
        let same : item_of key epoch p.mark slot.last node.clock made.0 ≡ x = cc in
        let one : limit ≡ bound = cc (sym m ∙ mode) in
        subst (λ (y : Item). Timed y) same (record { moment = refl; young = ready_young i key slot epoch p r came (subst (λ b. may b node.clock slot.ages ≡ true) one young) })
    row_timed i row (late {load = load} {slot = slot} here found is old) came x out = absurd (none_some (asked_mark slot load) x out)
      where
        none_some : (m : Option ℕ) (x : Item) → (late_did m).item ≡ Some x → ⊥
        none_some None x out = cc
        none_some (Some m) x out = cc
    row_timed i row a came x out = cc

    -- one item more, or none
    item_recent : (g : Item → Journaled) → ((x : Item) → (g x).item ≡ x) → (o : Option Item) → (switch_step app node.state node.clock input).1.item ≡ o → (e : ℕ) (key : Key) →
        Recent bound (items_behind key e (items ++ added g o) (kept_round key e rounds (closing w key e)))
    item_recent g is None out e key = subst (λ l. Recent bound (items_behind key e l (kept_round key e rounds (closing w key e)))) (sym (append-nil items)) (recent e key)
    item_recent g is (Some x) out e key = own_case (is_in key e (g x)) refl
      where
        timed : Timed x
        timed = row_timed input (switch_row app s node.clock input) (row_taken app s node.clock input) refl x out

        own_case : (t : Bool) → is_in key e (g x) ≡ t → Recent bound (items_behind key e (items ++ g x ∷ []) (kept_round key e rounds (closing w key e)))
        own_case false other = subst (Recent bound) (sym (behind_other key e items (g x) (kept_round key e rounds (closing w key e)) other)) (recent e key)
        own_case true own =
            let p = and_parts _ _ own in
            let key_is : x.key ≡ key = ap (λ (y : Item). y.key) (sym (is x)) ∙ same_key-true (g x).item.key key p.0 in
            let epoch_is : x.epoch ≡ e = ap (λ (y : Item). y.epoch) (sym (is x)) ∙ eqb-true (g x).item.epoch e p.1 in
            let young : Young key e = subst (λ k. Young k e) key_is (subst (λ d. Young x.key d) epoch_is timed.young) in
            let now : (g x).item.moment ≡ node.clock = ap (λ (y : Item). y.moment) (is x) ∙ timed.moment in
            subst (Recent bound) (sym (behind_own key e items (g x) (kept_round key e rounds (closing w key e)) own (λ b found. kept_within key e (closing w key e) b found)))
            (pairwise_push _ (behind key e) (g x) (recent e key) (each_weaker _ _ (behind key e) (λ (a : Journaled) near dirty late. let lt : node.clock < a.item.moment + bound = near dirty in omega (arith, lt, now)) young))

    -- what the step leaves
    pub step_recent : (g : Item → Journaled) → ((x : Item) → (g x).item ≡ x) → (more : List RoundBegun) → Each (λ (b : RoundBegun). 1 ≤ b.begun.round) (rounds ++ more) → (e : ℕ) (key : Key) →
        Recent bound (items_behind key e (items ++ added g (switch_step app node.state node.clock input).1.item) (kept_round key e (rounds ++ more) (closing w key e)))
    step_recent g is more begun e key =
        subst (λ o. Recent bound (items_behind key e (items ++ added g (switch_step app node.state node.clock input).1.item) o)) (sym (same_round more begun key e))
        (item_recent g is (switch_step app node.state node.clock input).1.item refl e key)
