-- The serial list grows at its end: with an entry, and with an item.
use Rattle.std.proofs.Common.{◌≡◌, ℕ, zero, suc, ◌+◌, ◌<◌, List, [], ◌∷◌, ◌++◌, Option, Some, None, arith, refl, sym, ◌∙◌, ap, subst, append-nil, append_assoc, filter}
use Rattle.std.specs.Prelude.{◌-◌, flat_map, fold}
use Rattle.std.proofs.lemmas.List.Concat.{flat_map-cons}
use Rattle.std.proofs.lemmas.List.Elements.{filter_map-append}
use Rattle.std.proofs.lemmas.Grind.{fold-append, flat_map-append}
use Rattle.proto_data.specs.declared.message.Entry.{Entry}
use Rattle.key_table.specs.Table.{Key}
use Rattle.proto_model.specs.Committed.{is_closed, greater, number_in, epoch_granted}
use Rattle.proto_model.specs.Feeds.{Each}
use Rattle.proto_model.specs.World.{Journaled}
use Rattle.proto_safety.specs.Books.{IsPrefix}
use Rattle.proto_safety.specs.Flows.{FlowRecord, FitsFrom, flow_of}
use Rattle.proto_safety.proofs.Store.BookEpochs.{fits_parts}
use Rattle.proto_safety.proofs.Serial.FlowCells.{ItemsKnown}
use Rattle.proto_safety.proofs.Serial.SerialLists.{closing_in, epochs_in, journal_in, closed_in, serial_in, closes}
use Rattle.proto_safety.proofs.Store.EpochNumbers.{Reaches, greater_left}
use Rattle.proto_safety.proofs.Serial.SerialFronts.{earlier_closing, serial_none}
use Rattle.proto_safety.proofs.Basics.NumberSplits.{NumbersRise, up_to, at_number, up_to_next}
use Rattle.proto_safety.proofs.Basics.Eachs.{each_in}
use Rattle.proto_safety.proofs.Basics.Members.{flat_map_same}
use Rattle.proto_safety.proofs.Basics.Prefixes.{prefix_push, prefix_same, prefix_trans}

more_numbers : (n a : ℕ) (js : List Journaled) → NumbersRise js → (d : ℕ) → n ≡ a + d → IsPrefix (up_to a js) (up_to n js)
more_numbers n a js rise zero is = let e : n ≡ a = omega arith in rw e (prefix_same (up_to a js))
more_numbers n a js rise (suc d) is =
    let e : n ≡ a + d + 1 = omega arith in
    let p : IsPrefix (up_to a js) (up_to (a + d) js) = more_numbers (a + d) a js rise d refl in
    let q : IsPrefix (up_to (a + d) js) (up_to (a + d + 1) js) = subst (λ l. IsPrefix (up_to (a + d) js) l) (sym (up_to_next (a + d) js rise)) (prefix_push (up_to (a + d) js) (at_number (a + d + 1) js)) in
    rw e (prefix_trans p q)

prefix_behind : (xs ys zs : List Journaled) → IsPrefix ys zs → IsPrefix (xs ++ ys) (xs ++ zs)
prefix_behind xs ys zs p = record { rest = p.rest; is = append_assoc xs ys p.rest ∙ ap (λ l. xs ++ l) p.is }

-- ---- committed_flows only rise

closing_reach : (key : Key) (e m : ℕ) (c : Option ℕ) (more : List Entry) → Reaches c m → Reaches (fold (λ o x. greater o (number_in key e x)) c more) m
closing_reach key e m c [] h = h
closing_reach key e m c (x ∷ xs) h = closing_reach key e m (greater c (number_in key e x)) xs (greater_left c (number_in key e x) m h)

-- ---- a book goes on

module _ (n : ℕ) (key : Key) (es more : List Entry) (items : List Journaled) (fits : FitsFrom n key None (es ++ more)) (k : ItemsKnown n es items key) where
  before : FitsFrom n key None es
  before = (fits_parts n key None es more fits).0

  abbrev later : List Entry
  later = es ++ more

  last_grows : (f : FlowRecord) → flow_of n key es ≡ Some f → IsPrefix (closed_in key es items f.epoch) (closed_in key later items f.epoch)
  last_grows f flow =
      let old : closing_in key f.epoch es ≡ Some f.last = (closes n key es before).last f flow in
      let now : closing_in key f.epoch later ≡ fold (λ o x. greater o (number_in key f.epoch x)) (Some f.last) more =
      fold-append (λ o x. greater o (number_in key f.epoch x)) None es more ∙ ap (λ c. fold (λ o x. greater o (number_in key f.epoch x)) c more) old in
      let r : Reaches (fold (λ o x. greater o (number_in key f.epoch x)) (Some f.last) more) f.last = closing_reach key f.epoch f.last (Some f.last) more (f.last, (refl, omega arith)) in
      let p : IsPrefix (up_to f.last (journal_in key items f.epoch)) (up_to r.0 (journal_in key items f.epoch)) = more_numbers r.0 f.last (journal_in key items f.epoch) (k.rise f.epoch) (r.0 - f.last) (omega (arith, r.1.1)) in
      subst (λ l. IsPrefix l (closed_in key later items f.epoch)) (sym (ap (λ c. filter (is_closed c) (journal_in key items f.epoch)) old))
      (subst (λ l. IsPrefix (up_to f.last (journal_in key items f.epoch)) l) (sym (ap (λ c. filter (is_closed c) (journal_in key items f.epoch)) (now ∙ r.1.0))) p)

  some_grows : (f : FlowRecord) → flow_of n key es ≡ Some f → IsPrefix (serial_in key es items) (serial_in key later items)
  some_grows f flow =
      let d = (closes n key es before).epochs f flow in
      let now : serial_in key later items ≡ (flat_map (closed_in key later items) d.0 ++ closed_in key later items f.epoch) ++ flat_map (closed_in key later items) (epochs_in key more) =
      ap (λ l. flat_map (closed_in key later items) l) (filter_map-append (epoch_granted key) es more)
      ∙ (flat_map-append (closed_in key later items) (epochs_in key es) (epochs_in key more) ∙ ap (λ l. l ++ flat_map (closed_in key later items) (epochs_in key more)) (split d.0 d.1.0)) in
      let was : serial_in key es items ≡ flat_map (closed_in key later items) d.0 ++ closed_in key es items f.epoch =
      ap (λ l. flat_map (closed_in key es items) l) d.1.0 ∙ (two d.0 ∙ ap (λ l. l ++ closed_in key es items f.epoch) (same_front d.0 d.1.1)) in
      let p : IsPrefix (flat_map (closed_in key later items) d.0 ++ closed_in key es items f.epoch) (flat_map (closed_in key later items) d.0 ++ closed_in key later items f.epoch) =
      prefix_behind (flat_map (closed_in key later items) d.0) (closed_in key es items f.epoch) (closed_in key later items f.epoch) (last_grows f flow) in
      subst (λ l. IsPrefix l (serial_in key later items)) (sym was)
      (subst (λ l. IsPrefix (flat_map (closed_in key later items) d.0 ++ closed_in key es items f.epoch) l) (sym now) (prefix_trans p (prefix_push _ (flat_map (closed_in key later items) (epochs_in key more)))))
    where
      one : (es : List Entry) → flat_map (closed_in key es items) (f.epoch ∷ []) ≡ closed_in key es items f.epoch
      one es = flat_map-cons (closed_in key es items) f.epoch [] ∙ append-nil (closed_in key es items f.epoch)

      two : (ds : List ℕ) → flat_map (closed_in key es items) (ds ++ f.epoch ∷ []) ≡ flat_map (closed_in key es items) ds ++ closed_in key es items f.epoch
      two ds = flat_map-append (closed_in key es items) ds (f.epoch ∷ []) ∙ ap (λ l. flat_map (closed_in key es items) ds ++ l) (one es)

      split : (ds : List ℕ) → epochs_in key es ≡ ds ++ f.epoch ∷ [] → flat_map (closed_in key later items) (epochs_in key es) ≡ flat_map (closed_in key later items) ds ++ closed_in key later items f.epoch
      split ds is = ap (λ l. flat_map (closed_in key later items) l) is ∙ (flat_map-append (closed_in key later items) ds (f.epoch ∷ []) ∙ ap (λ l. flat_map (closed_in key later items) ds ++ l) (one later))

      same_front : (ds : List ℕ) → Each (λ d. d < f.epoch) ds → flat_map (closed_in key es items) ds ≡ flat_map (closed_in key later items) ds
      same_front ds below =
          sym
          (flat_map_same (closed_in key later items) (closed_in key es items) ds
          (λ d i. ap (λ c. filter (is_closed c) (journal_in key items d)) (earlier_closing n key es more fits f flow d (each_in (λ d. d < f.epoch) ds d below i))))

  pub serial_book_grows : IsPrefix (serial_in key es items) (serial_in key later items)
  serial_book_grows = flow_case (flow_of n key es) refl
    where
      flow_case : (o : Option FlowRecord) → flow_of n key es ≡ o → IsPrefix (serial_in key es items) (serial_in key later items)
      flow_case None flow = subst (λ l. IsPrefix l (serial_in key later items)) (sym (serial_none n key es items before flow)) (record { rest = serial_in key later items; is = refl })
      flow_case (Some f) flow = some_grows f flow
