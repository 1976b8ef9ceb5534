-- A switch's slots and copies stand for the items of their epochs, and do so after each row.
use Rattle.std.proofs.Common.{◌≡◌, ◌≢◌, ◌⊎◌, ℕ, ◌+◌, ◌≤◌, ◌<◌, List, [], ◌∷◌, ◌++◌, Option, Some, None, arith, refl, sym, ◌∙◌, ap, subst, true, false, Bool, inl, inr, filter, map}
use Rattle.std.specs.Prelude.{not, option_map, fold, ◌/◌}
use Rattle.std.proofs.lemmas.Bool.{both_ways}
use Rattle.rp_base.specs.declared.node.Node.{Node}
use Rattle.rp_base.specs.declared.node.Packet.{Packet}
use Rattle.proto_data.specs.declared.message.Body.{Body}
use Rattle.proto_data.specs.declared.message.Entry.{Entry}
use Rattle.proto_data.specs.declared.message.Input.{Input}
use Rattle.proto_data.specs.declared.message.Carried.{Carried}
use Rattle.proto_data.specs.declared.terms.Mode.{Mode}
use Rattle.rp_base.specs.declared.event.DropCause.{DropCause}
use Rattle.rp_app.specs.Application.{Application}
use Rattle.key_table.specs.Table.{Key, same_key, get, put}
use Rattle.proto_model.specs.Feeds.{Each}
use Rattle.proto_model.specs.Slot.{Slot, epoch_of, lapsed_slot}
use Rattle.proto_model.specs.SwitchState.{Switch, Copy, slot_at, lapsed, is_of, is_covered, greatest_first}
use Rattle.proto_model.specs.SwitchRow.{SwitchRow, Keyless, NoRoom, NewAsk, AskAgain, Drops, Direct, Mirrored, Granted, Late, Acked, RoundDone, Denied, Busied, Adopts, Resends, Stale}
use Rattle.proto_model.specs.SwitchOutcomes.{perform}
use Rattle.proto_model.specs.SwitchAlarm.{Walk, alarm, resent, due_copies, other_copies, walk_order}
use Rattle.proto_model.specs.World.{Journaled}
use Rattle.rp_base.specs.declared.legality.Fed.{Fed}
use Rattle.proto_safety.specs.Books.{In}
use Rattle.key_table.proofs.Tables.{same_key-true, same_key-refl, get-put_same, get-put_other, get-map_values, same_some}
use Rattle.proto_safety.proofs.Inductions.FlowAlarm.{in_due, in_other}
use Rattle.proto_safety.proofs.Nodes.SwitchTable.{RowTaken, Ready, Timely, msg, fed, at_grant, at_grant_again, ask_again, no_copy_room, too_old, granted_only, acked, round_done, busied}
use Rattle.proto_safety.proofs.Inductions.AlarmInduction.{WalkKeeps, walk_kept}
use Rattle.proto_safety.proofs.Leasing.FlowCopies.{not_strict}
use Rattle.proto_safety.proofs.Inductions.FlowMoves.{ready_held}
use Rattle.proto_safety.proofs.Serial.SerialLists.{journal_in, front_in}
use Rattle.proto_safety.proofs.Serial.FlowSerial.{ran, PutIs}
use Rattle.proto_safety.proofs.Paths.PutGoesOn.{empty_put_is}
use Rattle.proto_safety.proofs.Leasing.SlotFirsts.{acked_epoch, lapsed_epoch}
use Rattle.proto_safety.proofs.Basics.Members.{in_append, in_filter, in_map}

-- the cells of an epoch: those after the committed items of earlier epochs and its own items
abbrev pub cells_in : Application → List Fed → List Entry → List Journaled → Key → ℕ → List ℕ
cells_in app feeds es items key e = ran app feeds (front_in key es items e ++ journal_in key items e)

-- a leased slot of this flow, and the copies of it among these
pub record SlotStands (app : Application) (feeds : List Fed) (es : List Entry) (items : List Journaled) (key : Key) (slot : Slot) (cs : List Copy) (e : ℕ) : Type 0 where
  pub cells : slot.cells ≡ cells_in app feeds es items key e
  pub copies : (c : Copy) → In cs c → c.key ≡ key → PutIs app feeds (front_in key es items e) (journal_in key items e) c.number c.delta
  pub numbers : Each (λ (i : Journaled). i.item.number ≤ slot.last) (journal_in key items e)

pub record SwitchStands (app : Application) (feeds : List Fed) (es : List Entry) (items : List Journaled) (s : Switch) : Type 0 where
  pub at : (key : Key) (slot : Slot) (e : ℕ) → slot_at s key ≡ Some slot → epoch_of slot.lease ≡ Some e → SlotStands app feeds es items key slot s.copies e

-- the flow has the same fronts and journals
pub record SameItems (es : List Entry) (old new : List Journaled) (key : Key) : Type 0 where
  pub fronts : (e : ℕ) → front_in key es new e ≡ front_in key es old e
  pub journals : (e : ℕ) → journal_in key new e ≡ journal_in key old e

stands_same : (app : Application) (feeds : List Fed) (es : List Entry) (old new : List Journaled) (key : Key) (slot : Slot) (cs ds : List Copy) (e : ℕ) → SameItems es old new key → ((c : Copy) → In ds c → c.key ≡ key → In cs c) →
    SlotStands app feeds es old key slot cs e → SlotStands app feeds es new key slot ds e
stands_same app feeds es old new key slot cs ds e same sub h =
    record {
      cells = h.cells ∙ sym (rw (same.fronts e, same.journals e) refl);
      copies = λ c i of. rw (same.fronts e, same.journals e) (h.copies c (sub c i of) of);
      numbers = rw (same.journals e) h.numbers;
    }

pub unchanged : (es : List Entry) (items : List Journaled) (key : Key) → SameItems es items items key
unchanged es items key = record { fronts = λ e. refl; journals = λ e. refl }

module _ (app : Application) (feeds : List Fed) (es : List Entry) where
  -- a slot is stored; other flows stand as they did
  pub put_stands : (old items : List Journaled) (s t : Switch) (key : Key) (new : Slot) → t.slots ≡ put s.slots key new → ((c : Copy) → In t.copies c → c.key ≢ key → In s.copies c) → ((k : Key) → k ≢ key → SameItems es old items k) →
      ((e : ℕ) → epoch_of new.lease ≡ Some e → SlotStands app feeds es items key new t.copies e) → SwitchStands app feeds es old s → SwitchStands app feeds es items t
  put_stands old items s t key new slots copies others own h = record { at = λ k slot e found leased. key_case k slot e found leased (same_key key k) refl }
    where
      key_case : (k : Key) (slot : Slot) (e : ℕ) → slot_at t k ≡ Some slot → epoch_of slot.lease ≡ Some e → (b : Bool) → same_key key k ≡ b → SlotStands app feeds es items k slot t.copies e
      key_case k slot e found leased true is =
          let same : key ≡ k = same_key-true key k is in
          let at : new ≡ slot = same_some (get t.slots k) new slot (rw (slots, same) (get-put_same s.slots k new)) found in
          subst (λ j. SlotStands app feeds es items j slot t.copies e) same (subst (λ (x : Slot). SlotStands app feeds es items key x t.copies e) at (own e (ap (λ (x : Slot). epoch_of x.lease) at ∙ leased)))
      key_case k slot e found leased false ne =
          let other : k ≢ key = λ q. both_ways _ ne (rw q (same_key-refl key)) in
          stands_same app feeds es old items k slot s.copies t.copies e (others k other) (λ c i of. copies c i (λ q. other (sym of ∙ q)))
          (h.at k slot e (sym (get-put_other s.slots k key new ne) ∙ (ap (λ l. get l k) (sym slots) ∙ found)) leased)

  -- a slot that isn't leased
  unleased : (items : List Journaled) (s t : Switch) (key : Key) (new : Slot) → t.slots ≡ put s.slots key new → ((c : Copy) → In t.copies c → c.key ≢ key → In s.copies c) → epoch_of new.lease ≡ None → SwitchStands app feeds es items s → SwitchStands app feeds es items t
  unleased items s t key new slots copies none h = put_stands items items s t key new slots copies (λ k ne. unchanged es items k) (λ e of. absurd (never (epoch_of new.lease) e none of)) h
    where
      never : (o : Option ℕ) (e : ℕ) → o ≡ None → o ≡ Some e → ⊥
      never o e a b = cc

  -- a slot with the same cells, epoch and last number, and copies that were there
  kept : (items : List Journaled) (s t : Switch) (key : Key) (old new : Slot) → slot_at s key ≡ Some old → t.slots ≡ put s.slots key new → ((c : Copy) → In t.copies c → In s.copies c) → new.cells ≡ old.cells → new.last ≡ old.last →
      ((e : ℕ) → epoch_of new.lease ≡ Some e → epoch_of old.lease ≡ Some e) → SwitchStands app feeds es items s → SwitchStands app feeds es items t
  kept items s t key old new at slots copies cells last leased h =
      put_stands items items s t key new slots (λ c i ne. copies c i) (λ k ne. unchanged es items k)
      (λ e of.
      let k = h.at key old e at (leased e of) in
      record { cells = cells ∙ k.cells; copies = λ c i c_of. k.copies c (copies c i) c_of; numbers = subst (λ m. Each (λ (i : Journaled). i.item.number ≤ m) (journal_in key items e)) (sym last) k.numbers }) h

  -- leases that ended lapse first
  pub lapsed_stands : (items : List Journaled) (s : Switch) (now : ℕ) → SwitchStands app feeds es items s → SwitchStands app feeds es items (lapsed now s)
  lapsed_stands items s now h = record { at = λ key slot e found leased. slot_case key slot e found leased (slot_at s key) refl }
    where
      slot_case : (key : Key) (slot : Slot) (e : ℕ) → slot_at (lapsed now s) key ≡ Some slot → epoch_of slot.lease ≡ Some e → (o : Option Slot) → slot_at s key ≡ o → SlotStands app feeds es items key slot s.copies e
      slot_case key slot e found leased None at = let no : None ≡ Some slot = ap (λ o. option_map (lapsed_slot now) o) (sym at) ∙ (sym (get-map_values (lapsed_slot now) s.slots key) ∙ found) in cc
      slot_case key slot e found leased (Some old) at =
          let same : lapsed_slot now old ≡ slot = cc (ap (λ o. option_map (lapsed_slot now) o) (sym at) ∙ (sym (get-map_values (lapsed_slot now) s.slots key) ∙ found)) in
          let was : epoch_of old.lease ≡ Some e = sym (lapsed_epoch now old.lease) ∙ (ap (λ (x : Slot). epoch_of x.lease) same ∙ leased) in
          let k = h.at key old e at was in
          record {
            cells = ap (λ (x : Slot). x.cells) (sym same) ∙ k.cells;
            copies = k.copies;
            numbers = subst (λ m. Each (λ (i : Journaled). i.item.number ≤ m) (journal_in key items e)) (ap (λ (x : Slot). x.last) same) k.numbers;
          }

-- ---- an Alarm

lower : (m : ℕ) (js : List Journaled) → Each (λ (i : Journaled). i.item.number ≤ m) js → Each (λ (i : Journaled). i.item.number < m + 1) js
lower m [] h = tt
lower m (j ∷ js) h = (omega (arith, h.0), lower m js h.1)

higher : (m : ℕ) (js : List Journaled) → Each (λ (i : Journaled). i.item.number ≤ m) js → Each (λ (i : Journaled). i.item.number ≤ m + 1) js
higher m [] h = tt
higher m (j ∷ js) h = (omega (arith, h.0), higher m js h.1)

module _ (app : Application) (feeds : List Fed) (es : List Entry) (items : List Journaled) where
  abbrev WalkStands : Walk → Type 0
  WalkStands w = (w.state.terms.mode ≡ Mode.Strict) × SwitchStands app feeds es items w.state

  walk_stands : (now : ℕ) → WalkKeeps now WalkStands
  walk_stands now =
      record {
        puts = λ w key slot nonce epoch expiry at is mode none h. (
          h.0,
          put_stands app feeds es items items w.state _ key (record slot { last = slot.last + 1; used = false }) refl
              (λ c i ne. old_copy w.state.copies (record { key = key; number = slot.last + 1; delta = []; first = now; sent = now }) key c ne refl (in_append w.state.copies _ c i))
              (λ k ne. unchanged es items k)
              (λ e of.
              let k = h.1.at key slot e at of in
              record {
                cells = k.cells;
                copies = λ c i of_key.
                    new_copy key e slot.last w.state.copies (record { key = key; number = slot.last + 1; delta = []; first = now; sent = now }) c of_key refl refl k.copies k.numbers (in_append w.state.copies _ c i);
                numbers = higher slot.last (journal_in key items e) k.numbers;
              })
              h.1,
        );
        goes_on = λ w key slot nonce epoch expiry r at is bound mode o h. absurd (not_strict w.state.terms.mode bound h.0 mode);
        begins = λ w key slot nonce epoch expiry at is bound mode o h. absurd (not_strict w.state.terms.mode bound h.0 mode);
      }
    where
      old_copy : (cs : List Copy) (new : Copy) (key : Key) (c : Copy) → c.key ≢ key → new.key ≡ key → In cs c ⊎ In (new ∷ []) c → In cs c
      old_copy cs new key c ne of (inl i) = i
      old_copy cs new key c ne of (inr (inl e)) = absurd (ne (ap (λ (x : Copy). x.key) (sym e) ∙ of))
      old_copy cs new key c ne of (inr (inr i)) = absurd i

      new_copy : (key : Key) (e last : ℕ) (cs : List Copy) (new c : Copy) → c.key ≡ key → new.number ≡ last + 1 → new.delta ≡ [] → ((c : Copy) → In cs c → c.key ≡ key → PutIs app feeds (front_in key es items e) (journal_in key items e) c.number c.delta) →
          Each (λ (i : Journaled). i.item.number ≤ last) (journal_in key items e) → In cs c ⊎ In (new ∷ []) c → PutIs app feeds (front_in key es items e) (journal_in key items e) c.number c.delta
      new_copy key e last cs new c of number delta old numbers (inl i) = old c i of
      new_copy key e last cs new c of number delta old numbers (inr (inl same)) =
          subst (λ (x : Copy). PutIs app feeds (front_in key es items e) (journal_in key items e) x.number x.delta) same
          (rw (number, delta) (empty_put_is app feeds (front_in key es items e) (journal_in key items e) (last + 1) (lower last (journal_in key items e) numbers)))
      new_copy key e last cs new c of number delta old numbers (inr (inr i)) = absurd i

  -- copies that went again
  again_stands : (s : Switch) (t : Switch) → t.slots ≡ s.slots → ((c : Copy) → In t.copies c → (d : Copy) × (In s.copies d × ((d.key ≡ c.key) × ((d.number ≡ c.number) × (d.delta ≡ c.delta))))) → SwitchStands app feeds es items s → SwitchStands app feeds es items t
  again_stands s t slots was h =
      record {
        at = λ key slot e found leased.
            let k = h.at key slot e (ap (λ l. get l key) (sym slots) ∙ found) leased in
            record {
              cells = k.cells;
              copies = λ c i of.
                  let d = was c i in
                  let p : PutIs app feeds (front_in key es items e) (journal_in key items e) d.0.number d.0.delta = k.copies d.0 d.1.0 (d.1.1.0 ∙ of) in
                  subst (λ m. PutIs app feeds (front_in key es items e) (journal_in key items e) m c.delta) d.1.1.1.0
                  (subst (λ x. PutIs app feeds (front_in key es items e) (journal_in key items e) d.0.number x) d.1.1.1.1 p);
              numbers = k.numbers;
            };
      }

  alarm_stands : (s : Switch) (now : ℕ) → s.terms.mode ≡ Mode.Strict → SwitchStands app feeds es items s → SwitchStands app feeds es items (alarm s now).0
  alarm_stands s now mode h =
      (walk_kept now WalkStands (walk_stands now) (walk_order s.walked (map (λ (e : Key × Slot). e.0) s.slots)) _ (
        mode,
        again_stands s (resent s now (due_copies now (s.terms.t_switch / 4) 64 s.copies) (other_copies now (s.terms.t_switch / 4) 64 s.copies)).state refl
            (λ c i. was_case c (in_append (other_copies now (s.terms.t_switch / 4) 64 s.copies) _ c i)) h,
      )).1
    where
      was_case : (c : Copy) → In (other_copies now (s.terms.t_switch / 4) 64 s.copies) c ⊎ In (map (λ (c : Copy). record c { sent = now }) (due_copies now (s.terms.t_switch / 4) 64 s.copies)) c →
          (d : Copy) × (In s.copies d × ((d.key ≡ c.key) × ((d.number ≡ c.number) × (d.delta ≡ c.delta))))
      was_case c (inl i) = (c, (in_other now (s.terms.t_switch / 4) 64 s.copies c i, (refl, (refl, refl))))
      was_case c (inr i) =
          let m = in_map (λ (c : Copy). record c { sent = now }) (due_copies now (s.terms.t_switch / 4) 64 s.copies) c i in
          (m.0, (in_due now (s.terms.t_switch / 4) 64 s.copies m.0 m.1.0, (ap (λ (x : Copy). x.key) m.1.1, (ap (λ (x : Copy). x.number) m.1.1, ap (λ (x : Copy). x.delta) m.1.1))))

-- ---- rows

-- what is known where a packet is about to be processed
pub record ReadyFacts (app : Application) (feeds : List Fed) (es : List Entry) (items : List Journaled) (s : Switch) (key : Key) (slot : Slot) (epoch : ℕ) (p : Packet) : Type 0 where
  pub stands : SlotStands app feeds es items key slot s.copies epoch
  pub lower : (c : Copy) → In s.copies c → c.key ≡ key → c.number ≤ slot.last

-- what is known where a Grant alone is taken
pub record GrantFacts (app : Application) (feeds : List Fed) (es : List Entry) (items : List Journaled) (s : Switch) (key : Key) (cells : List ℕ) (epoch : ℕ) : Type 0 where
  pub cells_are : cells ≡ cells_in app feeds es items key epoch
  pub no_items : journal_in key items epoch ≡ []
  pub no_copies : (c : Copy) → In s.copies c → c.key ≡ key → ⊥

-- where a row processes nothing
pub record RowFacts (app : Application) (feeds : List Fed) (es : List Entry) (items : List Journaled) (s : Switch) (now : ℕ) (input : Input) : Type 0 where
  pub strict : s.terms.mode ≡ Mode.Strict
  pub granted :
      (from to : Node) (inc nonce epoch first : ℕ) (key : Key) (cells : List ℕ) (load : Option Carried) (slot : Slot) → input ≡ msg from to (Body.Grant inc nonce epoch key cells load) → Timely app s now inc nonce key cells slot first →
      GrantFacts app feeds es items s key cells epoch
  pub copies_low : (key : Key) (slot : Slot) (c : Copy) → slot_at s key ≡ Some slot → In s.copies c → c.key ≡ key → c.number ≤ slot.last

module _ (app : Application) (feeds : List Fed) (es : List Entry) (items : List Journaled) (s : Switch) (now : ℕ) (input : Input) (r : RowFacts app feeds es items s now input) (h : SwitchStands app feeds es items s) where
  -- a slot that a Grant makes
  fresh_stands : (key : Key) (slot : Slot) (epoch : ℕ) → GrantFacts app feeds es items s key slot.cells epoch → (cs : List Copy) → ((c : Copy) → In cs c → c.key ≡ key → In s.copies c) → SlotStands app feeds es items key slot cs epoch
  fresh_stands key slot epoch g cs sub =
      record { cells = g.cells_are; copies = λ c i of. absurd (g.no_copies c (sub c i of) of); numbers = subst (λ l. Each (λ (i : Journaled). i.item.number ≤ slot.last) l) (sym g.no_items) tt }

  pub ready_from : (i : Input) (key : Key) (slot : Slot) (epoch : ℕ) (p : Packet) → Ready app s now i key slot epoch p → input ≡ i → ReadyFacts app feeds es items s key slot epoch p
  ready_from i key slot epoch p (fed of at is) came = record { stands = h.at key slot epoch at (rw is refl); lower = λ c j of_key. r.copies_low key slot c at j of_key }
  ready_from i key slot epoch p (at_grant {from = from} {to = to} {inc = inc} {nonce = nonce} {first = first} {cells = cells} {c = c} {slot = old} t m) came =
      let g = r.granted from to inc nonce epoch first key cells (Some c) old came t in
      record { stands = fresh_stands key slot epoch g s.copies (λ d j of. j); lower = λ d j of. absurd (g.no_copies d j of) }
  ready_from i key slot epoch p (at_grant_again {slot = old} here at is m) came =
      let k = h.at key old epoch at (rw is refl) in
      record { stands = record { cells = k.cells; copies = k.copies; numbers = k.numbers }; lower = λ c j of_key. r.copies_low key old c at j of_key }

  given_up : (key : Key) (c : Copy) → In (filter (λ c. not (is_of key c)) s.copies) c → In s.copies c
  given_up key c i = (in_filter (λ c. not (is_of key c)) s.copies c i).0

  abbrev after : SwitchRow → Switch
  after row = (perform s now row).0

  pub row_from : (i : Input) (row : SwitchRow) → RowTaken app s now i row → input ≡ i → ((perform s now row).1.item ≡ None) → SwitchStands app feeds es items (perform s now row).0
  row_from j (Keyless out) a came none = h
  row_from j (NoRoom mark) a came none = h
  row_from j (NewAsk key slot packet) a came none = unleased app feeds es items s (after (NewAsk key slot packet)) key _ refl (λ c i ne. given_up key c i) refl h
  row_from j (AskAgain key slot nonce packet) (ask_again of at is young) came none = unleased app feeds es items s (after (AskAgain key slot nonce packet)) key _ refl (λ c i ne. i) (rw is refl) h
  row_from j (Drops key slot mark cause) a came none = dropped_case j key slot mark cause a came
    where
      ready_stands : (i : Input) (key : Key) (slot : Slot) (epoch : ℕ) (p : Packet) → Ready app s now i key slot epoch p → input ≡ i → SwitchStands app feeds es items (after (Drops key slot p.mark DropCause.Mirror))
      ready_stands i key slot epoch p ready came =
          let held = ready_held ready in
          put_stands app feeds es items items s (after (Drops key slot p.mark DropCause.Mirror)) key slot refl (λ c i ne. i) (λ k ne. unchanged es items k)
          (λ e of.
          let same : epoch ≡ e = cc (ap epoch_of (sym held.1.1) ∙ of) in
          subst (λ x. SlotStands app feeds es items key slot s.copies x) same (ready_from i key slot epoch p ready came).stands) h

      dropped_case : (i : Input) (key : Key) (slot : Slot) (mark : ℕ) (cause : DropCause) → RowTaken app s now i (Drops key slot mark cause) → input ≡ i → SwitchStands app feeds es items (after (Drops key slot mark cause))
      dropped_case i key slot mark cause (no_copy_room {epoch = epoch} {p = p} ready m full) came = let k = ready_stands i key slot epoch p ready came in record { at = k.at }
      dropped_case i key slot mark cause (too_old {bound = bound} ready m old) came = absurd (not_strict s.terms.mode bound r.strict m)
  row_from j (Direct key slot epoch mark delta out) a came none = cc
  row_from j (Mirrored key slot epoch mark delta out) a came none = cc
  row_from j (Granted key slot) a came none = granted_case j key slot a came
    where
      granted_case : (i : Input) (key : Key) (slot : Slot) → RowTaken app s now i (Granted key slot) → input ≡ i → SwitchStands app feeds es items (after (Granted key slot))
      granted_case i key slot (granted_only {from = from} {to = to} {inc = inc} {nonce = nonce} {epoch = epoch} {first = first} {cells = cells} {load = load} {slot = old} t asked) came =
          let g = r.granted from to inc nonce epoch first key cells load old came t in
          put_stands app feeds es items items s (after (Granted key slot)) key slot refl (λ c i ne. i) (λ k ne. unchanged es items k)
          (λ e of.
          let same : epoch ≡ e = cc in
          subst (λ x. SlotStands app feeds es items key slot s.copies x) same (fresh_stands key slot epoch g s.copies (λ c i of. i))) h
  row_from j (Late key slot mark) a came none = unleased app feeds es items s (after (Late key slot mark)) key _ refl (λ c i ne. given_up key c i) refl h
  row_from j (Acked key slot upto load) (acked m i at of) came none =
      kept app feeds es items s (after (Acked key slot upto load)) key slot _ at refl (λ c j. (in_filter (λ c. not (is_covered key upto c)) s.copies c j).0) refl refl
      (λ e leased. sym (acked_epoch s.terms.t_switch now slot.lease (fold greatest_first None (filter (is_covered key upto) s.copies))) ∙ leased) h
  row_from j (RoundDone key slot round) (round_done {bound = bound} m i at of is n) came none = absurd (not_strict s.terms.mode bound r.strict m)
  row_from j (Denied key slot) a came none = unleased app feeds es items s (after (Denied key slot)) key _ refl (λ c i ne. given_up key c i) refl h
  row_from j (Busied key slot mark) (busied i at is m) came none = kept app feeds es items s (after (Busied key slot mark)) key slot _ at refl (λ c j. j) refl refl (λ e leased. leased) h
  row_from j (Adopts config) a came none = again_stands app feeds es items s (after (Adopts config)) refl (λ c i. (c, (i, (refl, (refl, refl))))) h
  row_from j Resends a came none = alarm_stands app feeds es items s now r.strict h
  row_from j Stale a came none = h

  pub row_stands : (row : SwitchRow) → RowTaken app s now input row → ((perform s now row).1.item ≡ None) → SwitchStands app feeds es items (perform s now row).0
  row_stands row a none = row_from input row a refl none
