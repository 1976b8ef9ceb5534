-- A packet that is processed: its flow, its slot and its copies stand for one more item.
use Rattle.std.proofs.Common.{◌≡◌, ◌≢◌, ◌⊎◌, ℕ, ◌+◌, ◌≤◌, ◌<◌, List, [], ◌∷◌, ◌++◌, Option, Some, None, arith, refl, sym, ◌∙◌, ap, subst, append_assoc, true, false, Bool, inl, inr, eq-eqb, eqb-true}
use Rattle.std.specs.Prelude.{◌==◌, not, nat_le}
use Rattle.std.proofs.lemmas.Bool.{both_ways, leb-true, leb-false}
use Rattle.rp_base.specs.declared.node.Packet.{Packet}
use Rattle.rp_base.specs.declared.node.Output.{Output}
use Rattle.proto_data.specs.declared.message.Entry.{Entry}
use Rattle.rp_app.specs.Application.{Application, Delta, written}
use Rattle.key_table.specs.Table.{Key, same_key, put}
use Rattle.proto_model.specs.Feeds.{Each, packet_at}
use Rattle.proto_model.specs.Slot.{Slot, Held, epoch_of}
use Rattle.proto_model.specs.SwitchState.{Switch, Copy, slot_at, has_copies, is_of}
use Rattle.proto_model.specs.SwitchRow.{is_clean}
use Rattle.proto_model.specs.SwitchOutcomes.{item_of, remember_output, after_direct, after_mirrored}
use Rattle.proto_model.specs.World.{Journaled}
use Rattle.rp_base.specs.declared.legality.Fed.{Fed}
use Rattle.proto_safety.specs.Books.{In, IsPrefix}
use Rattle.proto_safety.specs.Flows.{FlowRecord, FitsFrom, flow_of}
use Rattle.key_table.proofs.Tables.{same_key-refl, same_key-true}
use Rattle.proto_safety.proofs.Inductions.FlowMoves.{none_of}
use Rattle.proto_safety.proofs.Serial.SerialLists.{journal_in, front_in, serial_in}
use Rattle.proto_safety.proofs.Serial.FlowSerial.{ran, ran-push, MadeIn, PutIs}
use Rattle.proto_safety.proofs.Serial.FlowCells.{ItemsKnown, CellsOf, item_cells, other_journal, front_same, not_in_key, front_kept, journal_grows, journal_kept, serial_closed, serial_open}
use Rattle.proto_safety.proofs.Paths.PutGoesOn.{put_later_item, put_clean_item, put_of_item}
use Rattle.proto_safety.proofs.Serial.SwitchCells.{SlotStands, SwitchStands, SameItems, ReadyFacts, cells_in, put_stands}
use Rattle.proto_safety.proofs.Basics.Eachs.{each_append}
use Rattle.proto_safety.proofs.Basics.Members.{in_append, to_filter}
use Rattle.proto_safety.proofs.Basics.Prefixes.{prefix_same}

-- what is known of the flow of a packet that is processed in a live slot
pub record ItemFacts (app : Application) (feeds : List Fed) (es : List Entry) (s : Switch) (key : Key) (slot : Slot) (epoch : ℕ) (p : Packet) : Type 0 where
  pub flow : FlowRecord
  pub flow_is : flow_of app.cell_count key es ≡ Some flow
  pub epoch_is : flow.epoch ≡ epoch
  pub fed_at : packet_at feeds p.mark ≡ Some p
  pub key_is : app.key_of p ≡ Some key
  -- what is committed of the epoch is at most the slot's last number, and without copies all of it is
  pub low : flow.last ≤ slot.last
  pub acked : has_copies s key ≡ false → slot.last ≤ flow.last

pub clean_delta : (d : Delta) → is_clean d ≡ true → d ≡ []
clean_delta [] h = refl
clean_delta (x ∷ xs) h = absurd (both_ways (is_clean (x ∷ xs)) refl h)

not_same : (j k : Key) → k ≢ j → same_key j k ≡ false
not_same j k ne = same_case (same_key j k) refl
  where
    same_case : (b : Bool) → same_key j k ≡ b → b ≡ false
    same_case true is = absurd (ne (sym (same_key-true j k is)))
    same_case false is = refl

module _ (app : Application) (feeds : List Fed) (es : List Entry) (items : List Journaled) (s : Switch) (now : ℕ) (key : Key) (slot : Slot) (nonce epoch expiry : ℕ) (p : Packet) (made : Delta × Option Output) (j : Journaled) (number : ℕ)
    (fits : FitsFrom app.cell_count key None es) (k : ItemsKnown app.cell_count es items key) (h : CellsOf app feeds es items key) (ready : ReadyFacts app feeds es items s key slot epoch p) (facts : ItemFacts app feeds es s key slot epoch p)
    (held : slot.lease ≡ Held nonce epoch expiry) (plain : app.plain slot.cells p ≡ made) (item : j.item ≡ item_of key epoch p.mark number now made.0) (output : j.output ≡ made.1) (next : slot.last ≤ number) where
  abbrev f : FlowRecord
  f = facts.flow

  abbrev front : List Journaled
  front = front_in key es items f.epoch

  abbrev js : List Journaled
  js = journal_in key items f.epoch

  own_key : j.item.key ≡ key
  own_key = ap (λ i. i.key) item

  own_epoch : j.item.epoch ≡ f.epoch
  own_epoch = ap (λ i. i.epoch) item ∙ sym facts.epoch_is

  own_number : j.item.number ≡ number
  own_number = ap (λ i. i.number) item

  own_mark : j.item.mark ≡ p.mark
  own_mark = ap (λ i. i.mark) item

  stands : SlotStands app feeds es items key slot s.copies f.epoch
  stands = subst (λ e. SlotStands app feeds es items key slot s.copies e) (sym facts.epoch_is) ready.stands

  made_is : app.plain (ran app feeds (front ++ js)) p ≡ made
  made_is = ap (λ c. app.plain c p) (sym stands.cells) ∙ plain

  fed_at : packet_at feeds j.item.mark ≡ Some p
  fed_at = ap (λ m. packet_at feeds m) own_mark ∙ facts.fed_at

  abbrev made_in : MadeIn app feeds key (front ++ js) j
  made_in =
      record {
        packet = p;
        fed_at = fed_at;
        key_is = facts.key_is;
        output_is = output ∙ ap (λ m. m.1) (sym made_is);
        dirty_is = ap (λ i. i.dirty) item ∙ ap (λ (m : Delta × Option Output). not (is_clean m.0)) (sym made_is);
      }

  raised : (a b : ℕ) (l : List Journaled) → a ≤ b → Each (λ (i : Journaled). i.item.number ≤ a) l → Each (λ (i : Journaled). i.item.number ≤ b) l
  raised a b [] le e = tt
  raised a b (i ∷ l) le e = (omega (arith, e.0), raised a b l le e.1)

  above : Each (λ (i : Journaled). i.item.number ≤ j.item.number) js
  above = raised slot.last j.item.number js (omega (arith, own_number)) stands.numbers

  -- where the item is committed at once it is clean
  abbrev pub Clean : Type 0
  Clean = number ≤ f.last → made.0 ≡ []

  pub own_flow : Clean → CellsOf app feeds es (items ++ j ∷ []) key
  own_flow clean =
      item_cells app feeds es items j key f fits facts.flow_is k h own_key own_epoch made_in above (λ le. ap (λ m. m.0) made_is ∙ clean (omega (arith, own_number)))

  pub others_same : (x : Key) → x ≢ key → SameItems es items (items ++ j ∷ []) x
  others_same x ne =
      let other : same_key j.item.key x ≡ false = ap (λ y. same_key y x) own_key ∙ not_same key x ne in
      record {
        fronts = λ e. front_same app feeds es items j x e (λ d lt. not_in_key app feeds es items j x d other);
        journals = λ e. other_journal app feeds es items j x e (not_in_key app feeds es items j x e other);
      }

  front_now : front_in key es (items ++ j ∷ []) f.epoch ≡ front
  front_now = front_kept app feeds es items j key f fits facts.flow_is k h own_key own_epoch made_in above f.epoch (omega arith)

  journal_now : journal_in key (items ++ j ∷ []) f.epoch ≡ js ++ j ∷ []
  journal_now = journal_grows app feeds es items j key f fits facts.flow_is k h own_key own_epoch made_in above

  cells_now : written slot.cells made.0 ≡ cells_in app feeds es (items ++ j ∷ []) key f.epoch
  cells_now =
      ap (λ c. written c made.0) stands.cells
      ∙ (ap (λ d. written (ran app feeds (front ++ js)) d) (ap (λ m. m.0) (sym made_is))
      ∙ (sym (ran-push app feeds (front ++ js) j p fed_at) ∙ (ap (λ l. ran app feeds l) (append_assoc front js (j ∷ [])) ∙ sym (rw (front_now, journal_now) refl))))

  -- a Put up to the slot's last number
  pub put_kept : Clean → (number ≡ slot.last → has_copies s key ≡ false × (made.0 ≡ [])) → (x : Key) (e m : ℕ) (delta : Delta) → (x ≡ key → e ≡ f.epoch → m ≤ slot.last) → (x ≡ key → e ≤ f.epoch) → PutIs app feeds (front_in x es items e) (journal_in x items e) m delta →
      PutIs app feeds (front_in x es (items ++ j ∷ []) e) (journal_in x (items ++ j ∷ []) e) m delta
  put_kept clean last x e m delta reached granted put = key_case (same_key key x) refl
    where
      number_case : (b : Bool) → (m == j.item.number) ≡ b → m ≤ slot.last → PutIs app feeds front js m delta → PutIs app feeds front (js ++ j ∷ []) m delta
      number_case true is le q =
          let same : m ≡ j.item.number = eqb-true m j.item.number is in
          let at_last : number ≡ slot.last = omega (arith, own_number) in
          let l = last at_last in
          put_clean_item app feeds front js j p m delta (sym same) (ap (λ i. i.dirty) item ∙ ap (λ d. not (is_clean d)) l.1) fed_at (ap (λ y. y.0) made_is ∙ l.1)
          (raised j.item.number m js (omega arith) above) q
      number_case false is le q =
          let ne : (m ≡ j.item.number → ⊥) = λ e. both_ways _ is (eq-eqb m j.item.number e) in
          put_later_item app feeds front js j m delta (omega (arith, own_number)) q

      own_case : e ≡ f.epoch → PutIs app feeds (front_in key es items e) (journal_in key items e) m delta → m ≤ slot.last → PutIs app feeds (front_in key es (items ++ j ∷ []) e) (journal_in key (items ++ j ∷ []) e) m delta
      own_case same q le =
          rw same
          (rw (front_now, journal_now) (number_case (m == j.item.number) refl le (subst (λ d. PutIs app feeds (front_in key es items d) (journal_in key items d) m delta) same q)))

      epoch_case : (b : Bool) → (e == f.epoch) ≡ b → (same : x ≡ key) → PutIs app feeds (front_in key es items e) (journal_in key items e) m delta → PutIs app feeds (front_in key es (items ++ j ∷ []) e) (journal_in key (items ++ j ∷ []) e) m delta
      epoch_case true is same q = own_case (eqb-true e f.epoch is) q (reached same (eqb-true e f.epoch is))
      epoch_case false is same q =
          let ne : e ≢ f.epoch = λ y. both_ways _ is (eq-eqb e f.epoch y) in
          let a : front_in key es (items ++ j ∷ []) e ≡ front_in key es items e = front_kept app feeds es items j key f fits facts.flow_is k h own_key own_epoch made_in above e (granted same) in
          let b : journal_in key (items ++ j ∷ []) e ≡ journal_in key items e = journal_kept app feeds es items j key f fits facts.flow_is k h own_key own_epoch made_in above e ne in
          rw (a, b) q

      key_case : (b : Bool) → same_key key x ≡ b → PutIs app feeds (front_in x es (items ++ j ∷ []) e) (journal_in x (items ++ j ∷ []) e) m delta
      key_case true is =
          let same : key ≡ x = same_key-true key x is in
          subst (λ y. PutIs app feeds (front_in y es (items ++ j ∷ []) e) (journal_in y (items ++ j ∷ []) e) m delta) same
          (epoch_case (e == f.epoch) refl (sym same) (subst (λ y. PutIs app feeds (front_in y es items e) (journal_in y items e) m delta) (sym same) put))
      key_case false ne =
          let other : x ≢ key = λ q. both_ways _ ne (rw q (same_key-refl key)) in
          let o = others_same x other in rw (o.fronts e, o.journals e) put

  -- the serial list grows at its end
  pub own_serial : IsPrefix (serial_in key es items) (serial_in key es (items ++ j ∷ []))
  own_serial = closed_case (nat_le j.item.number f.last) refl
    where
      closed_case : (b : Bool) → nat_le j.item.number f.last ≡ b → IsPrefix (serial_in key es items) (serial_in key es (items ++ j ∷ []))
      closed_case true le =
          let c = serial_closed app feeds es items j key f fits facts.flow_is k h own_key own_epoch made_in above (leb-true j.item.number f.last le) in record { rest = j ∷ []; is = sym c.1 }
      closed_case false gt = subst (λ l. IsPrefix (serial_in key es items) l) (sym (serial_open app feeds es items j key f fits facts.flow_is k h own_key own_epoch made_in above (leb-false j.item.number f.last gt))) (prefix_same (serial_in key es items))

  -- ---- the slot and its copies

  epoch_of_slot : (e : ℕ) → epoch_of slot.lease ≡ Some e → f.epoch ≡ e
  epoch_of_slot e of = facts.epoch_is ∙ cc (ap epoch_of (sym held) ∙ of)

  pub direct_stands : number ≡ slot.last → is_clean made.0 ≡ true → has_copies s key ≡ false → SwitchStands app feeds es items s → SwitchStands app feeds es (items ++ j ∷ []) (after_direct s now key slot epoch p.mark made.0 made.1).0
  direct_stands at_last clean alone all =
      put_stands app feeds es items (items ++ j ∷ []) s (after_direct s now key slot epoch p.mark made.0 made.1).0 key (record slot { cells = written slot.cells made.0; used = true }) refl (λ c i ne. i) others_same
      (λ e of.
      subst (λ x. SlotStands app feeds es (items ++ j ∷ []) key (record slot { cells = written slot.cells made.0; used = true }) s.copies x) (epoch_of_slot e of)
      (record {
        cells = cells_now;
        copies = λ c i of_key. absurd (subst (λ l. In l c) (none_of key s.copies alone) (to_filter (is_of key) s.copies c i (rw of_key (same_key-refl key))));
        numbers = rw journal_now (each_append (λ (i : Journaled). i.item.number ≤ slot.last) js (j ∷ []) stands.numbers (omega (arith, own_number), tt));
      })) all

  pub mirrored_stands : number ≡ slot.last + 1 → SwitchStands app feeds es items s → SwitchStands app feeds es (items ++ j ∷ []) (after_mirrored s now key slot epoch p.mark made.0 made.1).0
  mirrored_stands at_next all =
      put_stands app feeds es items (items ++ j ∷ []) s (after_mirrored s now key slot epoch p.mark made.0 made.1).0 key
      (record slot { cells = written slot.cells made.0; last = slot.last + 1; used = true; held = remember_output slot.held made.1 }) refl
      (λ c i ne. old_case c ne (in_append s.copies _ c i)) others_same
      (λ e of.
      subst (λ x. SlotStands app feeds es (items ++ j ∷ []) key (record slot { cells = written slot.cells made.0; last = slot.last + 1; used = true; held = remember_output slot.held made.1 }) (s.copies ++ copy ∷ []) x) (epoch_of_slot e of)
      (record {
        cells = cells_now;
        copies = λ c i of_key. rw (front_now, journal_now) (copy_case c of_key (in_append s.copies (copy ∷ []) c i));
        numbers = rw journal_now (each_append (λ (i : Journaled). i.item.number ≤ slot.last + 1) js (j ∷ []) (raised slot.last (slot.last + 1) js (omega arith) stands.numbers) (omega (arith, own_number), tt));
      })) all
    where
      copy : Copy
      copy = record { key = key; number = slot.last + 1; delta = made.0; first = now; sent = now }

      old_case : (c : Copy) → c.key ≢ key → In s.copies c ⊎ In (copy ∷ []) c → In s.copies c
      old_case c ne (inl i) = i
      old_case c ne (inr (inl e)) = absurd (ne (ap (λ (x : Copy). x.key) (sym e)))
      old_case c ne (inr (inr i)) = absurd i

      copy_case : (c : Copy) → c.key ≡ key → In s.copies c ⊎ In (copy ∷ []) c → PutIs app feeds front (js ++ j ∷ []) c.number c.delta
      copy_case c of_key (inl i) = put_later_item app feeds front js j c.number c.delta (omega (arith, own_number, ready.lower c i of_key)) (stands.copies c i of_key)
      copy_case c of_key (inr (inl e)) =
          let lower : Each (λ (i : Journaled). i.item.number < j.item.number) js = strict slot.last j.item.number js (omega (arith, own_number)) stands.numbers in
          let q : PutIs app feeds front (js ++ j ∷ []) j.item.number (app.plain (ran app feeds (front ++ js)) p).0 = put_of_item app feeds front js j p fed_at lower in
          subst (λ (x : Copy). PutIs app feeds front (js ++ j ∷ []) x.number x.delta) e
          (subst (λ d. PutIs app feeds front (js ++ j ∷ []) (slot.last + 1) d) (ap (λ m. m.0) made_is) (subst (λ m. PutIs app feeds front (js ++ j ∷ []) m (app.plain (ran app feeds (front ++ js)) p).0) (own_number ∙ at_next) q))
        where
          strict : (a b : ℕ) (l : List Journaled) → a < b → Each (λ (i : Journaled). i.item.number ≤ a) l → Each (λ (i : Journaled). i.item.number < b) l
          strict a b [] lt e = tt
          strict a b (i ∷ l) lt e = (omega (arith, e.0), strict a b l lt e.1)
      copy_case c of_key (inr (inr i)) = absurd i

  -- ---- other switches

  -- a switch that has no slot of this flow in this epoch
  pub elsewhere_stands : (t : Switch) → ((sl : Slot) (e : ℕ) → slot_at t key ≡ Some sl → epoch_of sl.lease ≡ Some e → (e ≢ f.epoch) × (e ≤ f.epoch)) → SwitchStands app feeds es items t → SwitchStands app feeds es (items ++ j ∷ []) t
  elsewhere_stands t out all = record { at = λ x sl e found leased. key_case x sl e found leased (same_key key x) refl }
    where
      own_case : (sl : Slot) (e : ℕ) → slot_at t key ≡ Some sl → epoch_of sl.lease ≡ Some e → SlotStands app feeds es (items ++ j ∷ []) key sl t.copies e
      own_case sl e found leased =
          let o = out sl e found leased in
          let a : front_in key es (items ++ j ∷ []) e ≡ front_in key es items e = front_kept app feeds es items j key f fits facts.flow_is k h own_key own_epoch made_in above e o.1 in
          let b : journal_in key (items ++ j ∷ []) e ≡ journal_in key items e = journal_kept app feeds es items j key f fits facts.flow_is k h own_key own_epoch made_in above e o.0 in
          let st = all.at key sl e found leased in
          record { cells = st.cells ∙ sym (rw (a, b) refl); copies = λ c i of. rw (a, b) (st.copies c i of); numbers = rw b st.numbers }

      key_case : (x : Key) (sl : Slot) (e : ℕ) → slot_at t x ≡ Some sl → epoch_of sl.lease ≡ Some e → (b : Bool) → same_key key x ≡ b → SlotStands app feeds es (items ++ j ∷ []) x sl t.copies e
      key_case x sl e found leased true is =
          let same : key ≡ x = same_key-true key x is in
          subst (λ y. SlotStands app feeds es (items ++ j ∷ []) y sl t.copies e) same (own_case sl e (ap (λ y. slot_at t y) same ∙ found) leased)
      key_case x sl e found leased false ne =
          let other : x ≢ key = λ q. both_ways _ ne (rw q (same_key-refl key)) in
          let o = others_same x other in
          let st = all.at x sl e found leased in
          record { cells = st.cells ∙ sym (rw (o.fronts e, o.journals e) refl); copies = λ c i of. rw (o.fronts e, o.journals e) (st.copies c i of); numbers = rw (o.journals e) st.numbers }
