-- In strict mode copies stand in leased slots alone, none has a number above the slot's last, and one has the last where there is any. A slot's nonce was counted.
use Rattle.std.proofs.Common.{◌≡◌, ◌≢◌, ◌⊎◌, ℕ, ◌+◌, ◌≤◌, List, [], ◌∷◌, ◌++◌, Option, Some, None, arith, refl, sym, ap, subst, ◌∙◌, inl, inr, true, false, Bool}
use Rattle.std.specs.Prelude.{filter, not, option_map, nat_le}
use Rattle.std.proofs.lemmas.Bool.{false≢true, both_ways, leb-true, le-leb, and_from, and_parts, not-true}
use Rattle.proto_data.specs.declared.terms.Mode.{Mode}
use Rattle.proto_data.specs.declared.message.Input.{Input}
use Rattle.proto_data.specs.declared.terms.Terms.{Terms}
use Rattle.rp_app.specs.Application.{Application}
use Rattle.key_table.specs.Table.{Key, same_key}
use Rattle.proto_model.specs.Slot.{epoch_of, Slot, Lease, Idle, Asking, Held, Lapsed, lapsed_slot}
use Rattle.proto_model.specs.SwitchState.{slot_at, Copy, Item, is_of, is_covered}
use Rattle.proto_safety.specs.Books.{In}
use Rattle.proto_safety.specs.Sizes.{is_leased}
use Rattle.proto_safety.proofs.Leasing.Copies.{still_leased, acked_leased}
use Rattle.proto_safety.proofs.Inductions.FlowMoves.{View, Move, elsewhere, lapses, asks, asks_again, takes_grant, forgets, direct, mirrored, acked, idles, resends, keeps_lease, snapped, round_done, sends_chunk, begins_round, SameCopies}
use Rattle.proto_safety.proofs.Inductions.FlowInduction.{FlowKeeps, Holds, flows_hold}
use Rattle.rp_base.specs.declared.event.Event.{Event}
use Rattle.proto_model.specs.Feeds.{Each}
use Rattle.proto_model.specs.World.{Setup, SwitchNode, opened}
use Rattle.proto_model.specs.WorldStep.{world_after}
use Rattle.proto_safety.specs.CellLaws.{CopiesHaveLast, CopiesHaveLastAt}
use Rattle.key_table.proofs.Tables.{same_key-refl}
use Rattle.proto_safety.proofs.Basics.Eachs.{each_weaker}
use Rattle.proto_safety.proofs.Basics.Members.{in_append, in_filter, nobody, to_append, to_filter}

-- a copy with the slot's last number
pub record LastCopied (slot : Slot) (cs : List Copy) : Type 0 where
  pub leased : is_leased slot.lease ≡ true
  pub copy : Copy
  pub there : In cs copy
  pub number_is : copy.number ≡ slot.last

pub record CopiesAt (slot : Slot) (cs : List Copy) : Type 0 where
  pub within : (c : Copy) → In cs c → c.number ≤ slot.last
  pub last : (cs ≡ []) ⊎ LastCopied slot cs

abbrev pub CopiesOf : Option Slot → List Copy → Type 0
CopiesOf None cs = cs ≡ []
CopiesOf (Some slot) cs = CopiesAt slot cs

-- no copies
no_copies : (slot : Slot) → CopiesAt slot []
no_copies slot = record { within = λ c i. absurd i; last = inl refl }

-- a slot with the same last number that is leased where the old one was
kept_slot : (old new : Slot) (cs : List Copy) → new.last ≡ old.last → (is_leased old.lease ≡ true → is_leased new.lease ≡ true) → CopiesAt old cs → CopiesAt new cs
kept_slot old new cs last leased h = record { within = λ c i. omega (arith, h.within c i); last = last_case h.last }
  where
    last_case : (cs ≡ []) ⊎ LastCopied old cs → (cs ≡ []) ⊎ LastCopied new cs
    last_case (inl e) = inl e
    last_case (inr k) = inr (record { leased = leased k.leased; copy = k.copy; there = k.there; number_is = k.number_is ∙ sym last })

-- a slot that isn't leased has none
unleased : (slot : Slot) (cs : List Copy) → is_leased slot.lease ≡ false → CopiesAt slot cs → cs ≡ []
unleased slot cs is h = last_case h.last
  where
    last_case : (cs ≡ []) ⊎ LastCopied slot cs → cs ≡ []
    last_case (inl e) = e
    last_case (inr k) = absurd (both_ways (is_leased slot.lease) is k.leased)

-- one more copy, with the next number
pushed : (old new : Slot) (cs : List Copy) (c : Copy) → CopiesAt old cs → new.last ≡ old.last + 1 → c.number ≡ old.last + 1 → is_leased new.lease ≡ true → CopiesAt new (cs ++ c ∷ [])
pushed old new cs c h last number leased =
    record {
      within = λ d i. within_case d (in_append cs (c ∷ []) d i);
      last = inr (record { leased = leased; copy = c; there = to_append cs (c ∷ []) c (inr (inl refl)); number_is = number ∙ sym last });
    }
  where
    within_case : (d : Copy) → In cs d ⊎ In (c ∷ []) d → d.number ≤ new.last
    within_case d (inl i) = omega (arith, h.within d i)
    within_case d (inr (inl e)) = let same : c.number ≡ d.number = ap (λ (x : Copy). x.number) e in omega arith
    within_case d (inr (inr i)) = absurd i

-- copies are acknowledged: where the last is covered, all are
covered_all : (key : Key) (upto : ℕ) (slot new : Slot) (cs : List Copy) → ((c : Copy) → In cs c → is_of key c ≡ true) → new.last ≡ slot.last → (is_leased slot.lease ≡ true → is_leased new.lease ≡ true) → CopiesAt slot cs →
    CopiesAt new (filter (λ c. not (is_covered key upto c)) cs)
covered_all key upto slot new cs of last leased h =
    record { within = λ c i. let f = in_filter (λ c. not (is_covered key upto c)) cs c i in omega (arith, h.within c f.0); last = last_case h.last }
  where
    left : (c : Copy) → In (filter (λ c. not (is_covered key upto c)) cs) c → slot.last ≤ upto → ⊥
    left c i le =
        let f = in_filter (λ c. not (is_covered key upto c)) cs c i in
        let small : nat_le c.number upto ≡ true = le-leb c.number upto (omega (arith, h.within c f.0)) in
        let covered : is_covered key upto c ≡ true = and_from _ _ (of c f.0) small in
        both_ways (is_covered key upto c) (not-true _ f.1) covered

    reach_case : (k : LastCopied slot cs) → (b : Bool) → is_covered key upto k.copy ≡ b → (filter (λ c. not (is_covered key upto c)) cs ≡ []) ⊎ LastCopied new (filter (λ c. not (is_covered key upto c)) cs)
    reach_case k true is = inl (nobody _ (λ c i. left c i (omega (arith, k.number_is, leb-true k.copy.number upto (and_parts _ _ is).1))))
    reach_case k false is =
        inr (record { leased = leased k.leased; copy = k.copy; there = to_filter (λ c. not (is_covered key upto c)) cs k.copy k.there (rw is refl); number_is = k.number_is ∙ sym last })

    last_case : (cs ≡ []) ⊎ LastCopied slot cs → (filter (λ c. not (is_covered key upto c)) cs ≡ []) ⊎ LastCopied new (filter (λ c. not (is_covered key upto c)) cs)
    last_case (inl e) = inl (rw e refl)
    last_case (inr k) = reach_case k (is_covered key upto k.copy) refl

-- the same copies, sent again
sent_again : (slot : Slot) (old new : List Copy) → SameCopies old new → CopiesAt slot old → CopiesAt slot new
sent_again slot old new same h =
    record { within = λ c i. let d = same.were c i in omega (arith, d.1.1.number, h.within d.0 d.1.0); last = last_case h.last }
  where
    last_case : (old ≡ []) ⊎ LastCopied slot old → (new ≡ []) ⊎ LastCopied slot new
    last_case (inl e) = inl (nobody new (λ c i. let d = same.were c i in subst (λ cs. In cs d.0) e d.1.0))
    last_case (inr k) = let c = same.are k.copy k.there in inr (record { leased = k.leased; copy = c.0; there = c.1.0; number_is = c.1.1.number ∙ k.number_is })

-- ---- leases

lapsed_copies : (now : ℕ) (o : Option Slot) (cs : List Copy) → CopiesOf o cs → CopiesOf (option_map (lapsed_slot now) o) cs
lapsed_copies now None cs h = h
lapsed_copies now (Some slot) cs h = kept_slot slot (lapsed_slot now slot) cs refl (still_leased now slot.lease) h

-- ---- moves

pub record CopiesStand (terms : Terms) (key : Key) (v : View) : Type 0 where
  pub of : (c : Copy) → In v.copies c → is_of key c ≡ true
  pub stand : terms.mode ≡ Mode.Strict → CopiesOf v.slot v.copies

pub copies_of_slot : (v : View) (slot : Slot) → v.slot ≡ Some slot → CopiesOf v.slot v.copies → CopiesAt slot v.copies
copies_of_slot v slot at h = subst (λ o. CopiesOf o v.copies) at h

one_more_of : (key : Key) (cs : List Copy) (c : Copy) → ((d : Copy) → In cs d → is_of key d ≡ true) → is_of key c ≡ true → (d : Copy) → In (cs ++ c ∷ []) d → is_of key d ≡ true
one_more_of key cs c h is d i = more_case (in_append cs (c ∷ []) d i)
  where
    more_case : In cs d ⊎ In (c ∷ []) d → is_of key d ≡ true
    more_case (inl j) = h d j
    more_case (inr (inl e)) = subst (λ (x : Copy). is_of key x ≡ true) e is
    more_case (inr (inr j)) = absurd j

same_of : (key : Key) (old new : List Copy) → SameCopies old new → ((d : Copy) → In old d → is_of key d ≡ true) → (c : Copy) → In new c → is_of key c ≡ true
same_of key old new same h c i = let d = same.were c i in ap (λ k. same_key k key) d.1.1.key ∙ h d.0 d.1.0

pub not_strict : (m : Mode) (bound : ℕ) → m ≡ Mode.Strict → m ≡ Mode.Snapshot bound → ⊥
not_strict m bound e f = cc

pub copies_move : (app : Application) (inc : ℕ) (terms : Terms) (now : ℕ) (input : Input) (key : Key) (v u : View) (items : List Item) → Move app inc terms now input key v items u → CopiesStand terms key v → CopiesStand terms key u
copies_move app inc terms now input key v u items (elsewhere le) h = record { of = h.of; stand = h.stand }
copies_move app inc terms now input key v u items lapses h = record { of = h.of; stand = λ m. lapsed_copies now v.slot v.copies (h.stand m) }
copies_move app inc terms now input key v u items (asks slot came of) h = record { of = λ c i. absurd i; stand = λ m. no_copies _ }
copies_move app inc terms now input key v u items (asks_again {slot = slot} came of at is young) h = record { of = h.of; stand = λ m. kept_slot slot _ v.copies refl (λ l. l) (copies_of_slot v slot at (h.stand m)) }
copies_move app inc terms now input key v u items (takes_grant {slot = slot} came whole at is young) h =
    record { of = h.of; stand = λ m. let e : v.copies ≡ [] = unleased slot v.copies (rw is refl) (copies_of_slot v slot at (h.stand m)) in rw e (no_copies _) }
copies_move app inc terms now input key v u items (forgets {slot = slot} mark at) h = record { of = h.of; stand = λ m. kept_slot slot _ v.copies refl (λ l. l) (copies_of_slot v slot at (h.stand m)) }
copies_move app inc terms now input key v u items (direct {slot = slot} b at is mode e clean none) h = record { of = h.of; stand = λ m. kept_slot slot _ v.copies refl (λ l. l) (copies_of_slot v slot at (h.stand m)) }
copies_move app inc terms now input key v u items (mirrored {slot = slot} b at is mode e) h =
    record {
      of = one_more_of key v.copies _ h.of (same_key-refl key);
      stand = λ m. pushed slot _ v.copies _ (copies_of_slot v slot at (h.stand m)) refl refl (rw is refl);
    }
copies_move app inc terms now input key v u items (acked {upto = upto} {slot = slot} came mode at e) h =
    record {
      of = λ c i. h.of c (in_filter (λ c. not (is_covered key upto c)) v.copies c i).0;
      stand = λ m. covered_all key upto slot _ v.copies h.of refl (acked_leased terms.t_switch now slot.lease _) (copies_of_slot v slot at (h.stand m));
    }
copies_move app inc terms now input key v u items (idles at) h = record { of = λ c i. absurd i; stand = λ m. no_copies _ }
copies_move app inc terms now input key v u items (resends {cs = cs} same) h =
    record { of = same_of key v.copies cs same h.of; stand = λ m. resent_case v.slot (h.stand m) }
  where
    resent_case : (o : Option Slot) → CopiesOf o v.copies → CopiesOf o cs
    resent_case None e = nobody cs (λ c i. let d = same.were c i in subst (λ ds. In ds d.0) e d.1.0)
    resent_case (Some slot) k = sent_again slot v.copies cs same k
copies_move app inc terms now input key v u items (keeps_lease {slot = slot} mode at is none) h =
    record {
      of = one_more_of key v.copies _ h.of (same_key-refl key);
      stand = λ m. pushed slot _ v.copies _ (copies_of_slot v slot at (h.stand m)) refl refl (rw is refl);
    }
copies_move app inc terms now input key v u items (snapped {bound = bound} b at is mode e young) h = record { of = h.of; stand = λ m. absurd (not_strict terms.mode bound m mode) }
copies_move app inc terms now input key v u items (round_done {bound = bound} came mode at e is n) h = record { of = h.of; stand = λ m. absurd (not_strict terms.mode bound m mode) }
copies_move app inc terms now input key v u items (sends_chunk {slot = slot} at is r) h = record { of = h.of; stand = λ m. kept_slot slot _ v.copies refl (λ l. l) (copies_of_slot v slot at (h.stand m)) }
copies_move app inc terms now input key v u items (begins_round {bound = bound} at is mode r) h = record { of = h.of; stand = λ m. absurd (not_strict terms.mode bound m mode) }

pub copies_keep : (app : Application) → FlowKeeps app (λ inc terms key v. CopiesStand terms key v)
copies_keep app = record { starts = λ inc terms key. record { of = λ c i. absurd i; stand = λ m. refl }; moves = λ inc terms now input key v u items m h. copies_move app inc terms now input key v u items m h }

-- ---- for every run

leased_epoch : (l : Lease) → is_leased l ≡ true → epoch_of l ≢ None
leased_epoch Idle h = absurd (false≢true h)
leased_epoch (Asking nonce first) h = absurd (false≢true h)
leased_epoch (Held nonce epoch expiry) h = λ e. cc
leased_epoch (Lapsed nonce epoch expiry) h = λ e. cc

have_last : (o : Option Slot) (cs : List Copy) → CopiesOf o cs → CopiesHaveLastAt o cs
have_last None cs h = h
have_last (Some slot) cs h = last_case h.last
  where
    last_case : (cs ≡ []) ⊎ LastCopied slot cs → CopiesHaveLastAt (Some slot) cs
    last_case (inl e) = inl e
    last_case (inr k) = inr (h.within, (leased_epoch slot.lease k.leased, (k.copy, (k.there, k.number_is))))

pub copies_have_last : (app : Application) (setup : Setup) (es : List Event) →
    Each (λ (n : SwitchNode). (key : Key) → n.state.terms.mode ≡ Mode.Strict → CopiesHaveLast n key) (world_after app (opened app.cell_count setup) es).switches
copies_have_last app setup es =
    each_weaker (Holds app (λ inc terms key v. CopiesStand terms key v) (copies_keep app)) (λ (n : SwitchNode). (key : Key) → n.state.terms.mode ≡ Mode.Strict → CopiesHaveLast n key) _
    (λ n h key mode. have_last (slot_at n.state key) _ ((h key).stand mode))
    (flows_hold app (λ inc terms key v. CopiesStand terms key v) (copies_keep app) setup es)
