-- Fronts of granted epochs stand still while a book goes on, and the serial list grows at its end.
use Rattle.std.proofs.Common.{◌≡◌, ℕ, ◌+◌, ◌≤◌, ◌<◌, List, [], ◌∷◌, ◌++◌, Option, Some, None, arith, refl, sym, ◌∙◌, ap, subst, append-nil, true, false, Bool, inl, inr, filter}
use Rattle.std.specs.Prelude.{nat_lt, fold, flat_map}
use Rattle.std.proofs.lemmas.Bool.{lt-ltb, ltb-true}
use Rattle.std.proofs.lemmas.Grind.{fold-append, flat_map-append}
use Rattle.std.proofs.lemmas.List.Concat.{flat_map-cons}
use Rattle.std.proofs.lemmas.List.Elements.{filter-append, filter_map-append}
use Rattle.proto_data.specs.declared.message.Entry.{Entry}
use Rattle.key_table.specs.Table.{Key}
use Rattle.proto_model.specs.Feeds.{Each}
use Rattle.proto_model.specs.Committed.{number_in, greater, epoch_granted, is_closed}
use Rattle.proto_model.specs.World.{Journaled}
use Rattle.proto_safety.specs.Books.{In}
use Rattle.proto_safety.specs.Flows.{FlowRecord, FitsFrom, flow_step, flow_of}
use Rattle.proto_safety.specs.LeaseLaws.{HasEpoch}
use Rattle.key_table.proofs.Tables.{same_key-refl}
use Rattle.proto_safety.proofs.Store.BookEpochs.{Stepped, other, first, next, put, snap, stepped, Above, step_above, fits_parts, entry_from}
use Rattle.proto_safety.proofs.Serial.SerialLists.{closing_in, epochs_in, journal_in, closed_in, serial_in, front_in, closes, no_number, no_grant}
use Rattle.proto_safety.proofs.Store.EpochNumbers.{greater-None}
use Rattle.proto_safety.proofs.Basics.Eachs.{each_append, each_in, each_weaker, filter_all}
use Rattle.proto_safety.proofs.Basics.Members.{filter_no, flat_map_same, in_filter}

-- ---- a closing stands where no entry of its epoch comes

closing_stays_from : (key : Key) (e : ℕ) (c : Option ℕ) (more : List Entry) → ((x : Entry) → In more x → HasEpoch key e x → ⊥) → fold (λ c x. greater c (number_in key e x)) c more ≡ c
closing_stays_from key e c [] h = refl
closing_stays_from key e c (x ∷ xs) h =
    let same : greater c (number_in key e x) ≡ c = ap (λ o. greater c o) (no_number key e x (h x (inl refl))) ∙ greater-None c in
    ap (λ o. fold (λ c y. greater c (number_in key e y)) o xs) same ∙ closing_stays_from key e c xs (λ y i. h y (inr i))

pub closing_stays : (key : Key) (e : ℕ) (es more : List Entry) → ((x : Entry) → In more x → HasEpoch key e x → ⊥) → closing_in key e (es ++ more) ≡ closing_in key e es
closing_stays key e es more h = fold-append (λ c x. greater c (number_in key e x)) None es more ∙ closing_stays_from key e (closing_in key e es) more h

-- the epochs that entries grant come later than what was reached before them
pub one_epoch : {n : ℕ} {key : Key} {o u : Option FlowRecord} {x : Entry} → Stepped n key o x u → Each (λ d. Above o d) (epochs_in key (x ∷ []))
one_epoch {key = key} {o = o} {x = x} (other ne) = let e : epochs_in key (x ∷ []) ≡ [] = rw (no_grant key x ne) refl in subst (λ l. Each (λ d. Above o d) l) (sym e) tt
one_epoch {key = key} {o = o} (first {switch = s} {inc = i} {nonce = m}) =
    let e : epochs_in key (Entry.Grant key 1 s i m ∷ []) ≡ 1 ∷ [] = rw (same_key-refl key) refl in subst (λ l. Each (λ d. Above o d) l) (sym e) (omega arith, tt)
one_epoch {key = key} {o = o} (next {f = f} {switch = s} {inc = i} {nonce = m}) =
    let e : epochs_in key (Entry.Grant key (f.epoch + 1) s i m ∷ []) ≡ (f.epoch + 1) ∷ [] = rw (same_key-refl key) refl in subst (λ l. Each (λ d. Above o d) l) (sym e) (omega arith, tt)
one_epoch put = tt
one_epoch snap = tt

pub epochs_above : (n : ℕ) (key : Key) (o : Option FlowRecord) (more : List Entry) → FitsFrom n key o more → Each (λ d. Above o d) (epochs_in key more)
epochs_above n key o [] fits = tt
epochs_above n key o (x ∷ xs) fits =
    subst (λ l. Each (λ d. Above o d) l) (sym (filter_map-append (epoch_granted key) (x ∷ []) xs))
    (each_append (λ d. Above o d) (epochs_in key (x ∷ [])) (epochs_in key xs) (one_epoch (stepped n key o x fits.0))
    (each_weaker (λ d. Above (flow_step n key o x) d) (λ d. Above o d) (epochs_in key xs) (λ d a. step_above d (stepped n key o x fits.0) a) (epochs_above n key (flow_step n key o x) xs fits.1)))

-- ---- fronts

below_all : (e : ℕ) (ds : List ℕ) → Each (λ d. d < e) ds → filter (λ d. nat_lt d e) ds ≡ ds
below_all e ds h = filter_all (λ d. nat_lt d e) ds (each_weaker (λ d. d < e) (λ d. nat_lt d e ≡ true) ds (λ d lt. lt-ltb d e lt) h)

-- none of these epochs comes before this one
none_below : (e : ℕ) (f : FlowRecord) (ds : List ℕ) → e ≤ f.epoch + 1 → Each (λ d. Above (Some f) d) ds → filter (λ d. nat_lt d e) ds ≡ []
none_below e f ds le h = filter_no (λ d. nat_lt d e) ds (λ d i. none_case d (each_in (λ d. Above (Some f) d) ds d h i) (nat_lt d e) refl)
  where
    none_case : (d : ℕ) → f.epoch + 1 ≤ d → (b : Bool) → nat_lt d e ≡ b → b ≡ false
    none_case d a true is = let lt : d < e = ltb-true d e is in absurd (omega arith)
    none_case d a false is = refl

-- the front of an epoch that is granted stands still, and so does that of the next one as long as the last has no more entries
module _ (n : ℕ) (key : Key) (es more : List Entry) (fits : FitsFrom n key None (es ++ more)) (f : FlowRecord) (flow : flow_of n key es ≡ Some f) where
  parts : FitsFrom n key None es × FitsFrom n key (Some f) more
  parts = let p = fits_parts n key None es more fits in (p.0, subst (λ o. FitsFrom n key o more) flow p.1)

  pub earlier_closing : (d : ℕ) → d < f.epoch → closing_in key d (es ++ more) ≡ closing_in key d es
  earlier_closing d lt = closing_stays key d es more (λ x i h. absurd (omega (arith, entry_from n key (Some f) more x d parts.1 i h)))

  pub front_stays : (items : List Journaled) (e : ℕ) → e ≤ f.epoch → front_in key (es ++ more) items e ≡ front_in key es items e
  front_stays items e le =
      ap (λ l. flat_map (closed_in key (es ++ more) items) l) epochs
      ∙ flat_map_same (closed_in key (es ++ more) items) (closed_in key es items) (filter (λ d. nat_lt d e) (epochs_in key es))
      (λ d i. let lt : d < e = ltb-true d e (in_filter (λ d. nat_lt d e) (epochs_in key es) d i).1 in ap (λ c. filter (is_closed c) (journal_in key items d)) (earlier_closing d (omega arith)))
    where
      epochs : filter (λ d. nat_lt d e) (epochs_in key (es ++ more)) ≡ filter (λ d. nat_lt d e) (epochs_in key es)
      epochs =
          ap (λ l. filter (λ d. nat_lt d e) l) (filter_map-append (epoch_granted key) es more)
          ∙ (filter-append (λ d. nat_lt d e) (epochs_in key es) (epochs_in key more)
          ∙ (ap (λ l. filter (λ d. nat_lt d e) (epochs_in key es) ++ l) (none_below e f (epochs_in key more) (omega arith) (epochs_above n key (Some f) more parts.1)) ∙ append-nil (filter (λ d. nat_lt d e) (epochs_in key es))))

not_below : (e : ℕ) → nat_lt e e ≡ false
not_below e = lt_case (nat_lt e e) refl
  where
    lt_case : (b : Bool) → nat_lt e e ≡ b → b ≡ false
    lt_case true is = let lt : e < e = ltb-true e e is in absurd (omega arith)
    lt_case false is = refl

-- the serial list is the front of the last epoch and that epoch's closed items
pub serial_parts : (n : ℕ) (key : Key) (es : List Entry) (items : List Journaled) (f : FlowRecord) → FitsFrom n key None es → flow_of n key es ≡ Some f → serial_in key es items ≡ front_in key es items f.epoch ++ closed_in key es items f.epoch
serial_parts n key es items f fits flow =
    let k = (closes n key es fits).epochs f flow in
    ap (λ l. flat_map (closed_in key es items) l) k.1.0
    ∙ (flat_map-append (closed_in key es items) k.0 (f.epoch ∷ [])
    ∙ ap2 (sym (ap (λ l. flat_map (closed_in key es items) l) (front_epochs k.0 k.1.0 k.1.1))) (flat_map-cons (closed_in key es items) f.epoch [] ∙ append-nil (closed_in key es items f.epoch)))
  where
    ap2 : {a b c d : List Journaled} → a ≡ c → b ≡ d → a ++ b ≡ c ++ d
    ap2 p q = rw (p, q) refl

    front_epochs : (ds : List ℕ) → epochs_in key es ≡ ds ++ f.epoch ∷ [] → Each (λ d. d < f.epoch) ds → filter (λ d. nat_lt d f.epoch) (epochs_in key es) ≡ ds
    front_epochs ds is below =
        ap (λ l. filter (λ d. nat_lt d f.epoch) l) is
        ∙ (filter-append (λ d. nat_lt d f.epoch) ds (f.epoch ∷ []) ∙ (rw (not_below f.epoch) (append-nil (filter (λ d. nat_lt d f.epoch) ds)) ∙ below_all f.epoch ds below))

-- of a flow that was never granted there is nothing
pub serial_none : (n : ℕ) (key : Key) (es : List Entry) (items : List Journaled) → FitsFrom n key None es → flow_of n key es ≡ None → serial_in key es items ≡ []
serial_none n key es items fits flow = ap (λ l. flat_map (closed_in key es items) l) ((closes n key es fits).none flow).0
