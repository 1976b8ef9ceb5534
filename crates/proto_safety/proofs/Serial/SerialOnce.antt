-- The serial list of a flow has each item once, and each with the output of one switch after those before it.
use Rattle.std.proofs.Common.{◌≡◌, ◌≢◌, ℕ, ◌+◌, ◌≤◌, ◌<◌, List, [], ◌∷◌, ◌++◌, Option, Some, None, arith, refl, sym, ◌∙◌, ap, subst, append_assoc, true, inl, inr, filter}
use Rattle.std.specs.Prelude.{nat_lt, flat_map}
use Rattle.std.proofs.lemmas.Bool.{and_parts, leb-true, le-leb, lt-ltb}
use Rattle.std.proofs.Common.{eqb-true}
use Rattle.std.proofs.lemmas.Grind.{flat_map-append}
use Rattle.std.proofs.lemmas.List.Concat.{flat_map-cons}
use Rattle.std.proofs.lemmas.List.Elements.{filter-append, filter_map-append}
use Rattle.proto_data.specs.declared.message.Entry.{Entry}
use Rattle.rp_app.specs.Application.{Application}
use Rattle.key_table.specs.Table.{Key}
use Rattle.proto_model.specs.Feeds.{Each, Pairwise}
use Rattle.proto_model.specs.Committed.{epoch_granted, is_in, is_closed}
use Rattle.proto_model.specs.World.{Journaled}
use Rattle.rp_base.specs.declared.legality.Fed.{Fed}
use Rattle.proto_safety.specs.Books.{In}
use Rattle.proto_safety.specs.Flows.{FlowRecord, FitsFrom, flow_step}
use Rattle.proto_safety.proofs.Store.BookEpochs.{Stepped, other, first, next, put, snap, stepped, Above}
use Rattle.proto_safety.proofs.Serial.FlowCells.{CellsOf}
use Rattle.proto_safety.proofs.Serial.FlowSerial.{MadeIn}
use Rattle.proto_safety.proofs.Basics.NumberSplits.{NumbersRise, lt_not}
use Rattle.proto_safety.proofs.Serial.SerialLists.{closing_in, epochs_in, journal_in, closed_in, serial_in, front_in, no_grant}
use Rattle.proto_safety.proofs.Serial.SerialFronts.{epochs_above}
use Rattle.key_table.proofs.Tables.{same_key-refl, same_key-true}
use Rattle.proto_safety.proofs.Basics.Eachs.{each_in}
use Rattle.proto_safety.proofs.Basics.Members.{decomposed, filter_no, in_filter, in_flat_parts, in_middle}
use Rattle.proto_safety.proofs.Basics.Pairs.{pairwise_filter, pairwise_flat}

-- ---- pairs

-- ---- items with one mark are one item

abbrev pub OtherItem : Journaled → Journaled → Type 0
OtherItem a b = a.item.mark ≢ b.item.mark

pub one_item : (items : List Journaled) (a b : Journaled) → Pairwise OtherItem items → In items a → In items b → a.item.mark ≡ b.item.mark → a ≡ b
one_item [] a b h i j e = absurd i
one_item (x ∷ xs) a b h (inl p) (inl q) e = sym p ∙ q
one_item (x ∷ xs) a b h (inl p) (inr j) e = absurd (each_in (OtherItem x) xs b h.0 j (ap (λ (y : Journaled). y.item.mark) p ∙ e))
one_item (x ∷ xs) a b h (inr i) (inl q) e = absurd (each_in (OtherItem x) xs a h.0 i (ap (λ (y : Journaled). y.item.mark) q ∙ sym e))
one_item (x ∷ xs) a b h (inr i) (inr j) e = one_item xs a b h.1 i j e

-- ---- epochs rise

pub epochs_rise : (n : ℕ) (key : Key) (o : Option FlowRecord) (es : List Entry) → FitsFrom n key o es → Pairwise (λ a b. a < b) (epochs_in key es)
epochs_rise n key o [] fits = tt
epochs_rise n key o (x ∷ xs) fits =
    subst (λ l. Pairwise (λ a b. a < b) l) (sym (filter_map-append (epoch_granted key) (x ∷ []) xs))
    (step_case (stepped n key o x fits.0) (epochs_above n key (flow_step n key o x) xs fits.1) (epochs_rise n key (flow_step n key o x) xs fits.1))
  where
    above_one : (e : ℕ) (ds : List ℕ) → Each (λ d. e + 1 ≤ d) ds → Each (λ d. e < d) ds
    above_one e [] h = tt
    above_one e (d ∷ ds) h = (omega (arith, h.0), above_one e ds h.1)

    step_case : {o u : Option FlowRecord} {x : Entry} → Stepped n key o x u → Each (λ d. Above u d) (epochs_in key xs) → Pairwise (λ a b. a < b) (epochs_in key xs) → Pairwise (λ a b. a < b) (epochs_in key (x ∷ []) ++ epochs_in key xs)
    step_case {x = x} (other ne) above rest = let e : epochs_in key (x ∷ []) ≡ [] = rw (no_grant key x ne) refl in subst (λ l. Pairwise (λ a b. a < b) (l ++ epochs_in key xs)) (sym e) rest
    step_case (first {switch = s} {inc = i} {nonce = m}) above rest =
        let e : epochs_in key (Entry.Grant key 1 s i m ∷ []) ≡ 1 ∷ [] = rw (same_key-refl key) refl in
        subst (λ l. Pairwise (λ a b. a < b) (l ++ epochs_in key xs)) (sym e) (above_one 1 (epochs_in key xs) above, rest)
    step_case (next {f = f} {switch = s} {inc = i} {nonce = m}) above rest =
        let e : epochs_in key (Entry.Grant key (f.epoch + 1) s i m ∷ []) ≡ (f.epoch + 1) ∷ [] = rw (same_key-refl key) refl in
        subst (λ l. Pairwise (λ a b. a < b) (l ++ epochs_in key xs)) (sym e) (above_one (f.epoch + 1) (epochs_in key xs) above, rest)
    step_case put above rest = rest
    step_case snap above rest = rest

-- ---- each item once

pub closed_of : (key : Key) (es : List Entry) (items : List Journaled) (e : ℕ) (j : Journaled) → In (closed_in key es items e) j → In items j × ((j.item.key ≡ key) × (j.item.epoch ≡ e))
closed_of key es items e j i =
    let a = in_filter (is_closed (closing_in key e es)) (journal_in key items e) j i in
    let b = in_filter (is_in key e) items j a.0 in
    let p = and_parts _ _ b.1 in (b.0, (same_key-true j.item.key key p.0, eqb-true j.item.epoch e p.1))

pub serial_of : (key : Key) (es : List Entry) (items : List Journaled) (j : Journaled) → In (serial_in key es items) j → In items j × (j.item.key ≡ key)
serial_of key es items j i = let d = in_flat_parts (closed_in key es items) (epochs_in key es) j i in let c = closed_of key es items d.0 j d.1.1 in (c.0, c.1.0)

pub serial_once : (n : ℕ) (key : Key) (es : List Entry) (items : List Journaled) → FitsFrom n key None es → Pairwise OtherItem items → Pairwise OtherItem (serial_in key es items)
serial_once n key es items fits once =
    pairwise_flat (λ a b. a < b) OtherItem (closed_in key es items) (epochs_in key es) (epochs_rise n key None es fits)
    (λ e i. pairwise_filter OtherItem (is_closed (closing_in key e es)) (journal_in key items e) (pairwise_filter OtherItem (is_in key e) items once))
    (λ d e a b lt i j same.
    let p = closed_of key es items d a i in
    let q = closed_of key es items e b j in
    let eq : a ≡ b = one_item items a b once p.0 q.0 same in
    absurd (omega (arith, p.1.1, q.1.1, ap (λ (x : Journaled). x.item.epoch) eq)))

-- ---- each item's place

-- an item of the serial list with what stands before it there
pub record PlaceIn (app : Application) (feeds : List Fed) (key : Key) (serial : List Journaled) (j : Journaled) : Type 0 where
  pub pre : List Journaled
  pub post : List Journaled
  pub is : serial ≡ pre ++ j ∷ post
  pub made : MadeIn app feeds key pre j

-- the epochs before one of a rising list
front_epochs : (ds es : List ℕ) (e : ℕ) → Pairwise (λ a b. a < b) (ds ++ e ∷ es) → filter (λ d. nat_lt d e) (ds ++ e ∷ es) ≡ ds
front_epochs [] es e h = rw (lt_not e e (omega arith)) (filter_no (λ d. nat_lt d e) es (λ d i. lt_not d e (let lt : e < d = each_in (λ b. e < b) es d h.0 i in omega arith)))
front_epochs (d ∷ ds) es e h = rw (lt-ltb d e (each_in (λ b. d < b) (ds ++ e ∷ es) e h.0 (in_middle ds es e))) (ap (λ l. d ∷ l) (front_epochs ds es e h.1))

-- what stands before a closed item in its journal is closed
closed_front : (o : Option ℕ) (pre post : List Journaled) (j : Journaled) → NumbersRise (pre ++ j ∷ post) → is_closed o j ≡ true → filter (is_closed o) pre ≡ pre
closed_front o [] post j rise closed = refl
closed_front o (x ∷ pre) post j rise closed =
    let le : x.item.number ≤ j.item.number = each_in (λ (y : Journaled). x.item.number ≤ y.item.number) (pre ++ j ∷ post) j rise.0 (in_middle pre post j) in
    rw (lower_closed o x j le closed) (ap (λ l. x ∷ l) (closed_front o pre post j rise.1 closed))
  where
    lower_closed : (o : Option ℕ) (x j : Journaled) → x.item.number ≤ j.item.number → is_closed o j ≡ true → is_closed o x ≡ true
    lower_closed None x j le c = c
    lower_closed (Some n) x j le c = le-leb x.item.number n (omega (arith, leb-true j.item.number n c))

pub serial_place : (app : Application) (feeds : List Fed) (key : Key) (es : List Entry) (items : List Journaled) (j : Journaled) → FitsFrom app.cell_count key None es → ((e : ℕ) → NumbersRise (journal_in key items e)) → CellsOf app feeds es items key →
    In (serial_in key es items) j → PlaceIn app feeds key (serial_in key es items) j
serial_place app feeds key es items j fits rise h i =
    let d = in_flat_parts (closed_in key es items) (epochs_in key es) j i in
    let e = decomposed (epochs_in key es) d.0 d.1.0 in
    let c = in_filter (is_closed (closing_in key d.0 es)) (journal_in key items d.0) j d.1.1 in
    let b = decomposed (journal_in key items d.0) j c.0 in
    let front : front_in key es items d.0 ≡ flat_map (closed_in key es items) e.0 =
    ap (λ l. flat_map (closed_in key es items) l) (ap (λ l. filter (λ x. nat_lt x d.0) l) e.2 ∙ front_epochs e.0 e.1 d.0 (subst (λ l. Pairwise (λ a b. a < b) l) e.2 (epochs_rise app.cell_count key None es fits))) in
    let closed : closed_in key es items d.0 ≡ b.0 ++ j ∷ filter (is_closed (closing_in key d.0 es)) b.1 =
    ap (λ l. filter (is_closed (closing_in key d.0 es)) l) b.2
    ∙ (filter-append (is_closed (closing_in key d.0 es)) b.0 (j ∷ b.1)
    ∙ (rw c.1 (ap (λ l. l ++ j ∷ filter (is_closed (closing_in key d.0 es)) b.1) (closed_front (closing_in key d.0 es) b.0 b.1 j (subst NumbersRise b.2 (rise d.0)) c.1)))) in
    record {
      pre = front_in key es items d.0 ++ b.0;
      post = filter (is_closed (closing_in key d.0 es)) b.1 ++ flat_map (closed_in key es items) e.1;
      is =
          ap (λ l. flat_map (closed_in key es items) l) e.2
          ∙ (flat_map-append (closed_in key es items) e.0 (d.0 ∷ e.1)
          ∙ (ap (λ l. flat_map (closed_in key es items) e.0 ++ l) (flat_map-cons (closed_in key es items) d.0 e.1 ∙ ap (λ l. l ++ flat_map (closed_in key es items) e.1) closed)
          ∙ (ap (λ l. l ++ ((b.0 ++ j ∷ filter (is_closed (closing_in key d.0 es)) b.1) ++ flat_map (closed_in key es items) e.1)) (sym front)
          ∙ (ap (λ l. front_in key es items d.0 ++ l) (append_assoc b.0 (j ∷ filter (is_closed (closing_in key d.0 es)) b.1) (flat_map (closed_in key es items) e.1)) ∙ sym (append_assoc (front_in key es items d.0) b.0 _)))));
      made = (h.made d.0).at b.0 j b.1 b.2;
    }
