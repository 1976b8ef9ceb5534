-- Flows as they are seen, after each change.
use Rattle.std.proofs.Common.{◌≡◌, ℕ, ◌<◌, ◌≤◌, true, false, [], ◌∷◌, ◌++◌, length, Option, Some, None, refl, sym, ap, ◌∙◌, subst, arith, map, filter, slice_get, is_some}
use Rattle.std.specs.Prelude.{not, nat_eq, All, fold, option_map, option_and_then, unwrap_or, Result, Ok, Err, IfOk, IfErr, OnOk, take, drop}
use Rattle.std.specs.List.{list_any}
use Rattle.std.specs.Map.{values_of, lookup}
use Rattle.std.proofs.lemmas.List.{map-append}
use Rattle.indexmap.specs.IndexMap.{set_value_at}
use Rattle.link_arena.specs.Lists.{find}
use Rattle.rp_app.specs.Application.{Delta}
use Rattle.key_table.specs.Table.{Key, Table, get, put, keys, map_values}
use Rattle.key_table.proofs.Tables.{get-map_values}
use Rattle.key_table.proofs.KeyMaps.{key_eq}
use Rattle.key_table.proofs.KeyPlaces.{no_place}
use Rattle.mirror_buf.specs.declared.kept.Kept.{Kept}
use Rattle.mirror_buf.specs.Copies.{Named, Copies, with_copy, without_covered, without_slot, is_of as of_slot, is_covered as covered_slot, first_of_greatest, numbered_below, sent_at}
use Rattle.proto_model.specs.Slot.{Slot, lapsed_slot, fresh_slot, epoch_of}
use Rattle.proto_model.specs.SwitchState.{Copy, is_of, is_covered, greatest_first}
use Rattle.proto_model.specs.SwitchAlarm.{due_copies, other_copies}
use Rattle.switch_slot.specs.Leases.{IsSeenAt}
use Rattle.switch_flows.specs.Places.{IsPlaceOf, IsAt}
use Rattle.switch_flows.specs.States.{FlowsAt}
use Rattle.switch_flows.specs.Fronts.{due_count}
use Rattle.switch_flows.specs.Kept.{AreFlows, copy_of, copies_of, seen}
use Rattle.switch_flows.proofs.Rows.{at_of_place, place_mapped, place_before, within, length_keys, length_mapped, get_at, set_at, keys_put, place_put, map_put, none_before, keys_new, place_new, distinct_new, seen_later, slot_seen, epoch_seen}
use Rattle.switch_flows.proofs.Tied as tied
use Rattle.switch_flows.proofs.Steady.{one_key_more, one_more}
use Rattle.switch_flows.proofs.Leading.{leads_all, stamped, stamped_last}

module _ (rows : Table Slot) (b : Copies) (latest : ℕ) (s : FlowsAt) (view : seen rows b latest ≡ s) where
  pub place_in : (k : Key) (i : ℕ) → IsPlaceOf s.slots k i → IsPlaceOf rows k i
  place_in k i at = place_before (lapsed_slot latest) rows k i (subst (λ (t : FlowsAt). IsPlaceOf t.slots k i) (sym view) at)

  pub place_out : (k : Key) (i : ℕ) → IsPlaceOf rows k i → IsPlaceOf s.slots k i
  place_out k i at = subst (λ (t : FlowsAt). IsPlaceOf t.slots k i) view (place_mapped (lapsed_slot latest) rows k i at)

  pub here : (k : Key) (i : ℕ) → IsPlaceOf s.slots k i → i < length rows
  here k i at = within rows k i (place_in k i at)

  pub none_seen : (k : Key) → false ≡ is_some (lookup (key_eq k) rows) → get s.slots k ≡ None
  none_seen k found =
      subst (λ (t : FlowsAt). get t.slots k ≡ None) view (get-map_values (lapsed_slot latest) rows k ∙ ap (option_map (lapsed_slot latest)) (no_place rows rows k refl found))

  pub epoch_in : (k : Key) → unwrap_or (option_and_then (λ (slot : Slot). epoch_of slot.lease) (get rows k)) 0 ≡ unwrap_or (option_and_then (λ (slot : Slot). epoch_of slot.lease) (get s.slots k)) 0
  epoch_in k =
      subst (λ (t : FlowsAt). unwrap_or (option_and_then (λ (slot : Slot). epoch_of slot.lease) (get rows k)) 0 ≡ unwrap_or (option_and_then (λ (slot : Slot). epoch_of slot.lease) (get t.slots k)) 0) view
      (by (get rows k) ∙ ap (λ o. unwrap_or (option_and_then (λ (slot : Slot). epoch_of slot.lease) o) 0) (sym (get-map_values (lapsed_slot latest) rows k)))
    where
      by : (o : Option Slot) → unwrap_or (option_and_then (λ (slot : Slot). epoch_of slot.lease) o) 0 ≡ unwrap_or (option_and_then (λ (slot : Slot). epoch_of slot.lease) (option_map (lapsed_slot latest) o)) 0
      by None = refl
      by (Some slot) = ap (λ o. unwrap_or o 0) (sym (epoch_seen latest slot.lease))

  -- ---- the moment

  pub see_seen : (now : ℕ) → s.latest ≤ now → seen rows b now ≡ record { slots = map_values (lapsed_slot now) s.slots; copies = s.copies; latest = now }
  see_seen now le =
      let past : latest ≤ now = subst (λ (t : FlowsAt). t.latest ≤ now) (sym view) le in
      subst (λ (t : FlowsAt). seen rows b now ≡ record { slots = map_values (lapsed_slot now) t.slots; copies = t.copies; latest = now }) view
      (λ j. record { slots = sym (seen_later latest now rows past) j; copies = copies_of (keys rows) b.copies; latest = now })

  -- ---- slots

  pub put_seen : (k : Key) (i : ℕ) (slot : Slot) → IsPlaceOf s.slots k i → IsSeenAt s.latest slot.lease → seen (set_value_at rows i slot) b latest ≡ record s { slots = put s.slots k slot }
  put_seen k i slot at lasts =
      let seen_then : lapsed_slot latest slot ≡ slot = slot_seen latest slot (subst (λ (t : FlowsAt). IsSeenAt t.latest slot.lease) (sym view) lasts) in
      let set : set_value_at rows i slot ≡ put rows k slot = set_at rows k i slot (place_in k i at) in
      let slots : map_values (lapsed_slot latest) (set_value_at rows i slot) ≡ put (map_values (lapsed_slot latest) rows) k slot =
      ap (map_values (lapsed_slot latest)) set ∙ (map_put (lapsed_slot latest) rows k slot ∙ ap (put (map_values (lapsed_slot latest) rows) k) seen_then) in
      let copies : copies_of (keys (set_value_at rows i slot)) b.copies ≡ copies_of (keys rows) b.copies =
      ap (λ ks. copies_of ks b.copies) (ap keys set ∙ keys_put rows k i slot (place_in k i at)) in
      subst (λ (t : FlowsAt). seen (set_value_at rows i slot) b latest ≡ record t { slots = put t.slots k slot }) view
      (λ j. record { slots = slots j; copies = copies j; latest = latest })

  pub put_keeps : (k : Key) (i : ℕ) (slot : Slot) → IsPlaceOf s.slots k i → AreFlows (keys rows) b latest → AreFlows (keys (set_value_at rows i slot)) b latest
  put_keeps k i slot at h =
      let same : keys (set_value_at rows i slot) ≡ keys rows = ap keys (set_at rows k i slot (place_in k i at)) ∙ keys_put rows k i slot (place_in k i at) in
      subst (λ ks. AreFlows ks b latest) (sym same) h

  pub put_place : (k : Key) (i : ℕ) (slot : Slot) → IsPlaceOf s.slots k i → IsPlaceOf (map_values (lapsed_slot latest) (set_value_at rows i slot)) k i
  put_place k i slot at =
      subst (λ (t : Table Slot). IsPlaceOf (map_values (lapsed_slot latest) t) k i) (sym (set_at rows k i slot (place_in k i at)))
      (place_mapped (lapsed_slot latest) (put rows k slot) k i (place_put rows k i slot (place_in k i at)))

  pub got_seen : (k : Key) (i : ℕ) (slot : Slot) → IsPlaceOf s.slots k i → slice_get (values_of rows) i ≡ Some slot → get s.slots k ≡ Some (lapsed_slot latest slot)
  got_seen k i slot at value =
      subst (λ (t : FlowsAt). get t.slots k ≡ Some (lapsed_slot latest slot)) view
      (get-map_values (lapsed_slot latest) rows k ∙ ap (option_map (lapsed_slot latest)) (get_at rows k i slot (place_in k i at) value))

  none_in : (k : Key) → get s.slots k ≡ None → get rows k ≡ None
  none_in k none = none_before (lapsed_slot latest) rows k (subst (λ (t : FlowsAt). get t.slots k ≡ None) (sym view) none)

  pub made_keeps : (k : Key) (new : Table Slot) → get s.slots k ≡ None → length s.slots < 1024 → new ≡ put rows k fresh_slot → AreFlows (keys rows) b latest → AreFlows (keys new) b latest
  made_keeps k new none room is h =
      let lt : length (keys rows) < 1024 = omega (arith, length_keys rows, length_mapped (lapsed_slot latest) rows, subst (λ (t : FlowsAt). length t.slots < 1024) (sym view) room) in
      subst (λ ks. AreFlows ks b latest) (sym (ap keys is ∙ keys_new rows k fresh_slot (none_in k none)))
      (one_key_more (keys rows) b latest h k lt (distinct_new rows k h.distinct (none_in k none)))

  pub made_seen : (k : Key) (new : Table Slot) → get s.slots k ≡ None → new ≡ put rows k fresh_slot → AreFlows (keys rows) b latest → seen new b latest ≡ record s { slots = put s.slots k fresh_slot }
  made_seen k new none is h =
      let slots : map_values (lapsed_slot latest) new ≡ put (map_values (lapsed_slot latest) rows) k fresh_slot = ap (map_values (lapsed_slot latest)) is ∙ map_put (lapsed_slot latest) rows k fresh_slot in
      let copies : copies_of (keys new) b.copies ≡ copies_of (keys rows) b.copies =
      ap (λ t. copies_of (keys t) b.copies) is ∙ (ap (λ ks. copies_of ks b.copies) (keys_new rows k fresh_slot (none_in k none)) ∙ tied.copies_before (keys rows) k b.copies h.there) in
      subst (λ (t : FlowsAt). seen new b latest ≡ record t { slots = put t.slots k fresh_slot }) view
      (λ j. record { slots = slots j; copies = copies j; latest = latest })

  pub made_place : (k : Key) (new : Table Slot) → get s.slots k ≡ None → new ≡ put rows k fresh_slot → IsPlaceOf (map_values (lapsed_slot latest) new) k (length rows)
  made_place k new none is =
      subst (λ (t : Table Slot). IsPlaceOf (map_values (lapsed_slot latest) t) k (length rows)) (sym is)
      (place_mapped (lapsed_slot latest) (put rows k fresh_slot) k (length rows) (place_new rows k fresh_slot (none_in k none)))

  -- ---- copies

  module _ (h : AreFlows (keys rows) b latest) (k : Key) (i : ℕ) (at : IsPlaceOf s.slots k i) where
    at_key : IsAt (keys rows) k i
    at_key = at_of_place rows k i (place_in k i at)

    pub small : i < 1024
    small = omega (arith, here k i at, length_keys rows, h.few)

    pub has_room : i < b.slots
    has_room = omega (arith, small, h.room)

    pub any_seen : (n : ℕ) → n ≡ length (filter (of_slot i) b.copies) → not (nat_eq n 0) ≡ list_any (is_of k) s.copies
    any_seen n count =
        subst (λ (t : FlowsAt). not (nat_eq n 0) ≡ list_any (is_of k) t.copies) view
        (ap (λ m. not (nat_eq m 0)) count ∙ sym (tied.any_of (keys rows) h.distinct k i at_key b.copies h.there))

    pub without_seen : (w : Copies) → w ≡ without_slot b i → seen rows w latest ≡ record s { copies = filter (λ c. not (is_of k c)) s.copies }
    without_seen w is =
        let copies : copies_of (keys rows) w.copies ≡ filter (λ c. not (is_of k c)) (copies_of (keys rows) b.copies) =
        ap (λ (v : Copies). copies_of (keys rows) v.copies) is ∙ sym (tied.without_of (keys rows) h.distinct k i at_key b.copies h.there) in
        subst (λ (t : FlowsAt). seen rows w latest ≡ record t { copies = filter (λ c. not (is_of k c)) t.copies }) view
        (λ j. record { slots = map_values (lapsed_slot latest) rows; copies = copies j; latest = latest })

    pub acked_seen : (upto : ℕ) (w : Copies) → w ≡ without_covered b i upto → seen rows w latest ≡ record s { copies = filter (λ c. not (is_covered k upto c)) s.copies }
    acked_seen upto w is =
        let copies : copies_of (keys rows) w.copies ≡ filter (λ c. not (is_covered k upto c)) (copies_of (keys rows) b.copies) =
        ap (λ (v : Copies). copies_of (keys rows) v.copies) is ∙ sym (tied.without_covered (keys rows) h.distinct k i at_key b.copies h.there upto) in
        subst (λ (t : FlowsAt). seen rows w latest ≡ record t { copies = filter (λ c. not (is_covered k upto c)) t.copies }) view
        (λ j. record { slots = map_values (lapsed_slot latest) rows; copies = copies j; latest = latest })

    pub greatest_seen : (upto : ℕ) → first_of_greatest (filter (covered_slot i upto) b.copies) ≡ option_map (λ g. g.1) (fold greatest_first None (filter (is_covered k upto) s.copies))
    greatest_seen upto =
        subst (λ (t : FlowsAt). first_of_greatest (filter (covered_slot i upto) b.copies) ≡ option_map (λ (g : ℕ × ℕ). g.1) (fold greatest_first None (filter (is_covered k upto) t.copies))) view
        (sym (tied.greatest_of (keys rows) h.distinct k i at_key b.copies h.there upto))

    pub below_seen : (number : ℕ) → All (λ (c : Copy). is_of k c ≡ true → c.number < number) s.copies → All (numbered_below i number) b.copies
    below_seen number below =
        tied.below_of (keys rows) k i number at_key b.copies (subst (λ (t : FlowsAt). All (λ (c : Copy). is_of k c ≡ true → c.number < number) t.copies) (sym view) below)

    pub kept_seen : (number : ℕ) (delta : Delta) (id : ℕ) (w : Copies) → w ≡ with_copy b id (record { slot = i; number = number; delta = delta; first = latest; sent = latest }) →
        seen rows w latest ≡ record s { copies = s.copies ++ record { key = k; number = number; delta = delta; first = s.latest; sent = s.latest } ∷ [] }
    kept_seen number delta id w is =
        let kept : Kept = record { slot = i; number = number; delta = delta; first = latest; sent = latest } in
        let copies : copies_of (keys rows) w.copies ≡ copies_of (keys rows) b.copies ++ record { key = k; number = number; delta = delta; first = latest; sent = latest } ∷ [] =
        ap (λ (v : Copies). copies_of (keys rows) v.copies) is
        ∙ (map-append (λ (c : Named). copy_of (keys rows) c.1) b.copies ((id, kept) ∷ [])
        ∙ ap (λ c. copies_of (keys rows) b.copies ++ c ∷ []) (tied.copy_at (keys rows) k i at_key kept refl)) in
        subst (λ (t : FlowsAt). seen rows w latest ≡ record t { copies = t.copies ++ record { key = k; number = number; delta = delta; first = t.latest; sent = t.latest } ∷ [] }) view
        (λ j. record { slots = map_values (lapsed_slot latest) rows; copies = copies j; latest = latest })

    pub kept_keeps : {F : Type 0} (number : ℕ) (delta : Delta) (w : Copies) (r : Result ℕ (F × Kept)) → IfOk r (λ id. find id b.copies ≡ None) →
        IfOk r (λ id. w ≡ with_copy b id (record { slot = i; number = number; delta = delta; first = latest; sent = latest })) →
        IfErr r (λ back. (back.1 ≡ record { slot = i; number = number; delta = delta; first = latest; sent = latest }) × (w ≡ b)) → AreFlows (keys rows) w latest
    kept_keeps number delta w (Ok id) free ok err =
        one_more (keys rows) b latest h id (record { slot = i; number = number; delta = delta; first = latest; sent = latest }) w free (omega (arith, here k i at, length_keys rows)) (omega arith) refl ok
    kept_keeps number delta w (Err e) free ok err = subst (λ (v : Copies). AreFlows (keys rows) v latest) (sym err.1) h

  -- ---- what is resent

  module _ (age : ℕ) (h : AreFlows (keys rows) b latest) where
    pub due_seen : copies_of (keys rows) (take (due_count latest age b.copies) b.copies) ≡ due_copies s.latest age 64 s.copies
    due_seen = subst (λ (t : FlowsAt). copies_of (keys rows) (take (due_count latest age b.copies) b.copies) ≡ due_copies t.latest age 64 t.copies) view
        (sym (leads_all latest age (keys rows) b.copies h.sooner).due)

    pub resent_seen : (w : Copies) → w.copies ≡ drop (due_count latest age b.copies) b.copies ++ map (sent_at latest) (take (due_count latest age b.copies) b.copies) →
        seen rows w latest ≡ record s { copies = other_copies s.latest age 64 s.copies ++ map (stamped s.latest) (due_copies s.latest age 64 s.copies) }
    resent_seen w is =
        let l = leads_all latest age (keys rows) b.copies h.sooner in
        let n = due_count latest age b.copies in
        let copies : copies_of (keys rows) w.copies ≡ other_copies latest age 64 (copies_of (keys rows) b.copies) ++ map (stamped latest) (due_copies latest age 64 (copies_of (keys rows) b.copies)) =
        ap (copies_of (keys rows)) is
        ∙ (map-append (λ (c : Named). copy_of (keys rows) c.1) (drop n b.copies) (map (sent_at latest) (take n b.copies))
        ∙ (ap (λ xs. xs ++ copies_of (keys rows) (map (sent_at latest) (take n b.copies))) (sym l.others)
        ∙ ap (λ xs. other_copies latest age 64 (copies_of (keys rows) b.copies) ++ xs) (stamped_last latest (keys rows) (take n b.copies) ∙ ap (map (stamped latest)) (sym l.due)))) in
        subst (λ (t : FlowsAt). seen rows w latest ≡ record t { copies = other_copies t.latest age 64 t.copies ++ map (stamped t.latest) (due_copies t.latest age 64 t.copies) }) view
        (λ j. record { slots = map_values (lapsed_slot latest) rows; copies = copies j; latest = latest })

-- what follows where a call succeeds
pub on_ok : {A E P Q : Type 0} (r : Result A E) → (P → Q) → OnOk r P → OnOk r Q
on_ok (Ok x) f h = f h
on_ok (Err e) f h = tt
