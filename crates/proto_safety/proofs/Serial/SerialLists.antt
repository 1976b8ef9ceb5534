-- The serial list of a flow, over the entries of the committed book and the items alone: fronts of granted epochs stand still, and the list grows at its end.
use Rattle.std.proofs.Common.{◌≡◌, ℕ, ◌+◌, ◌<◌, List, [], ◌∷◌, ◌++◌, Option, Some, None, arith, refl, ◌∙◌, ap, subst, append-nil, append_assoc, false, filter, eq-eqb}
use Rattle.std.specs.Prelude.{nat_lt, max, fold, filter_map, flat_map}
use Rattle.std.proofs.lemmas.Bool.{both_ways}
use Rattle.std.proofs.lemmas.Grind.{fold-append}
use Rattle.std.proofs.lemmas.List.Elements.{filter_map-append}
use Rattle.proto_data.specs.declared.message.Entry.{Entry}
use Rattle.key_table.specs.Table.{Key, same_key}
use Rattle.proto_model.specs.Feeds.{Each}
use Rattle.proto_model.specs.Committed.{number_in, greater, epoch_granted, is_in, is_closed}
use Rattle.proto_model.specs.ReplicaRows.{entry_key}
use Rattle.proto_model.specs.World.{Journaled}
use Rattle.proto_safety.specs.Flows.{FlowRecord, FitsFrom, flow_step, flow_from, flow_of}
use Rattle.proto_safety.specs.LeaseLaws.{HasEpoch}
use Rattle.key_table.proofs.Tables.{same_key-refl}
use Rattle.proto_safety.proofs.Store.BookEpochs.{Stepped, other, first, next, put, snap, stepped, key_of_epoch}
use Rattle.proto_safety.proofs.Store.EpochNumbers.{number_epoch, greater-None}
use Rattle.proto_safety.proofs.Basics.Eachs.{each_append}

-- ---- over entries and items alone

abbrev pub closing_in : Key → ℕ → List Entry → Option ℕ
closing_in key e es = fold (λ c x. greater c (number_in key e x)) None es

abbrev pub epochs_in : Key → List Entry → List ℕ
epochs_in key es = filter_map (epoch_granted key) es

abbrev pub journal_in : Key → List Journaled → ℕ → List Journaled
journal_in key items e = filter (is_in key e) items

abbrev pub closed_in : Key → List Entry → List Journaled → ℕ → List Journaled
closed_in key es items e = filter (is_closed (closing_in key e es)) (journal_in key items e)

abbrev pub serial_in : Key → List Entry → List Journaled → List Journaled
serial_in key es items = flat_map (closed_in key es items) (epochs_in key es)

abbrev pub front_in : Key → List Entry → List Journaled → ℕ → List Journaled
front_in key es items e = flat_map (closed_in key es items) (filter (λ d. nat_lt d e) (epochs_in key es))

-- ---- lists

-- ---- one more entry

closing-push : (key : Key) (e : ℕ) (es : List Entry) (x : Entry) → closing_in key e (es ++ x ∷ []) ≡ greater (closing_in key e es) (number_in key e x)
closing-push key e es x = fold-append (λ c y. greater c (number_in key e y)) None es (x ∷ [])

-- an entry of another flow or epoch has no number there
pub no_number : (key : Key) (e : ℕ) (x : Entry) → (HasEpoch key e x → ⊥) → number_in key e x ≡ None
no_number key e x h = number_case (number_in key e x) refl
  where
    number_case : (o : Option ℕ) → number_in key e x ≡ o → o ≡ None
    number_case None is = refl
    number_case (Some m) is = absurd (h (number_epoch key e m x is))

pub no_grant : (key : Key) (x : Entry) → same_key (entry_key x) key ≡ false → epoch_granted key x ≡ None
no_grant key (Entry.Grant k y switch inc nonce) h = rw h refl
no_grant key (Entry.Put k y number delta) h = refl
no_grant key (Entry.Snap k y round values) h = refl

-- what the entries so far say, by the flow that they leave
pub record ClosedAt (key : Key) (es : List Entry) (o : Option FlowRecord) : Type 0 where
  pub none : o ≡ None → (epochs_in key es ≡ []) × ((e : ℕ) → closing_in key e es ≡ None)
  pub epochs : (f : FlowRecord) → o ≡ Some f → (ds : List ℕ) × ((epochs_in key es ≡ ds ++ f.epoch ∷ []) × Each (λ d. d < f.epoch) ds)
  pub last : (f : FlowRecord) → o ≡ Some f → closing_in key f.epoch es ≡ Some f.last
  pub later : (f : FlowRecord) (e : ℕ) → o ≡ Some f → f.epoch < e → closing_in key e es ≡ None

-- a closing after an entry without a number there
pub same_closing : (key : Key) (e : ℕ) (es : List Entry) (x : Entry) → number_in key e x ≡ None → closing_in key e (es ++ x ∷ []) ≡ closing_in key e es
same_closing key e es x h = closing-push key e es x ∙ (ap (λ o. greater (closing_in key e es) o) h ∙ greater-None (closing_in key e es))

pub same_epochs : (key : Key) (es : List Entry) (x : Entry) → epoch_granted key x ≡ None → epochs_in key (es ++ x ∷ []) ≡ epochs_in key es
same_epochs key es x h = filter_map-append (epoch_granted key) es (x ∷ []) ∙ rw h (append-nil (epochs_in key es))

pub more_epochs : (key : Key) (es : List Entry) (e switch inc nonce : ℕ) → epochs_in key (es ++ Entry.Grant key e switch inc nonce ∷ []) ≡ epochs_in key es ++ e ∷ []
more_epochs key es e switch inc nonce = filter_map-append (epoch_granted key) es (Entry.Grant key e switch inc nonce ∷ []) ∙ rw (same_key-refl key) refl

grant_number : (key : Key) (e switch inc nonce : ℕ) → number_in key e (Entry.Grant key e switch inc nonce) ≡ Some 0
grant_number key e switch inc nonce = rw (same_key-refl key, eq-eqb e e refl) refl

other_grant_number : (key : Key) (e d switch inc nonce : ℕ) → e < d → number_in key d (Entry.Grant key e switch inc nonce) ≡ None
other_grant_number key e d switch inc nonce lt = no_number key d (Entry.Grant key e switch inc nonce) (λ h. absurd (omega (arith, h.1)))

-- the next number closes
next_closing : (key : Key) (e l : ℕ) (x : Entry) (c : Option ℕ) → c ≡ Some l → number_in key e x ≡ Some (l + 1) → greater c (number_in key e x) ≡ Some (l + 1)
next_closing key e l x c is k = let m : max l (l + 1) ≡ l + 1 = omega arith in rw (is, k) (ap Some m)

closed_push : {n : ℕ} {key : Key} {o u : Option FlowRecord} {x : Entry} (es : List Entry) → Stepped n key o x u → ClosedAt key es o → ClosedAt key (es ++ x ∷ []) u
closed_push {key = key} {x = x} es (other ne) h =
    let number : (e : ℕ) → number_in key e x ≡ None = λ e. no_number key e x (λ k. both_ways _ ne (key_of_epoch key e x k)) in
    record {
      none = λ is. let k = h.none is in (same_epochs key es x (no_grant key x ne) ∙ k.0, λ e. same_closing key e es x (number e) ∙ k.1 e);
      epochs = λ f is. let k = h.epochs f is in (k.0, (same_epochs key es x (no_grant key x ne) ∙ k.1.0, k.1.1));
      last = λ f is. same_closing key f.epoch es x (number f.epoch) ∙ h.last f is;
      later = λ f e is lt. same_closing key e es x (number e) ∙ h.later f e is lt;
    }
closed_push {key = key} es (first {switch = s} {inc = i} {nonce = m}) h =
    let k = h.none refl in
    record {
      none = λ is. cc;
      epochs = λ f is. let e : 1 ≡ f.epoch = cc in ([], (more_epochs key es 1 s i m ∙ rw (k.0, e) refl, tt));
      last = λ f is. let e : 1 ≡ f.epoch = cc in let l : 0 ≡ f.last = cc in rw (← e, ← l) (closing-push key 1 es (Entry.Grant key 1 s i m) ∙ rw (k.1 1, grant_number key 1 s i m) refl);
      later = λ f e is lt. let o : 1 ≡ f.epoch = cc in same_closing key e es (Entry.Grant key 1 s i m) (other_grant_number key 1 e s i m (omega arith)) ∙ k.1 e;
    }
closed_push {key = key} es (next {f = g} {switch = s} {inc = i} {nonce = m}) h =
    let k = h.epochs g refl in
    record {
      none = λ is. cc;
      epochs = λ f is.
          let e : g.epoch + 1 ≡ f.epoch = cc in
          (k.0 ++ g.epoch ∷ [], (more_epochs key es (g.epoch + 1) s i m ∙ rw (k.1.0, e) refl, each_append (λ d. d < f.epoch) k.0 (g.epoch ∷ []) (below g.epoch f.epoch k.0 (omega arith) k.1.1) (omega arith, tt)));
      last = λ f is.
          let e : g.epoch + 1 ≡ f.epoch = cc in
          let l : 0 ≡ f.last = cc in
          rw (← e, ← l) (closing-push key (g.epoch + 1) es (Entry.Grant key (g.epoch + 1) s i m) ∙ rw (h.later g (g.epoch + 1) refl (omega arith), grant_number key (g.epoch + 1) s i m) refl);
      later = λ f e is lt.
          let o : g.epoch + 1 ≡ f.epoch = cc in
          same_closing key e es (Entry.Grant key (g.epoch + 1) s i m) (other_grant_number key (g.epoch + 1) e s i m (omega arith)) ∙ h.later g e refl (omega arith);
    }
  where
    below : (a b : ℕ) (ds : List ℕ) → a < b → Each (λ d. d < a) ds → Each (λ d. d < b) ds
    below a b [] lt h = tt
    below a b (d ∷ ds) lt h = (omega (arith, h.0), below a b ds lt h.1)
closed_push {key = key} es (put {f = g} {delta = d}) h =
    let x : Entry = Entry.Put key g.epoch (g.last + 1) d in
    record {
      none = λ is. cc;
      epochs = λ f is. let e : g.epoch ≡ f.epoch = cc in let k = h.epochs g refl in (k.0, (same_epochs key es x refl ∙ (k.1.0 ∙ ap (λ a. k.0 ++ a ∷ []) e), subst (λ a. Each (λ d. d < a) k.0) e k.1.1));
      last = λ f is.
          let e : g.epoch ≡ f.epoch = cc in
          let l : g.last + 1 ≡ f.last = cc in
          rw (← e, ← l) (closing-push key g.epoch es x ∙ next_closing key g.epoch g.last x (closing_in key g.epoch es) (h.last g refl) (rw (same_key-refl key, eq-eqb g.epoch g.epoch refl) refl));
      later = λ f e is lt. let o : g.epoch ≡ f.epoch = cc in same_closing key e es x (no_number key e x (λ k. absurd (omega (arith, k.1)))) ∙ h.later g e refl (omega arith);
    }
closed_push {key = key} es (snap {f = g} {values = v}) h =
    let x : Entry = Entry.Snap key g.epoch (g.last + 1) v in
    record {
      none = λ is. cc;
      epochs = λ f is. let e : g.epoch ≡ f.epoch = cc in let k = h.epochs g refl in (k.0, (same_epochs key es x refl ∙ (k.1.0 ∙ ap (λ a. k.0 ++ a ∷ []) e), subst (λ a. Each (λ d. d < a) k.0) e k.1.1));
      last = λ f is.
          let e : g.epoch ≡ f.epoch = cc in
          let l : g.last + 1 ≡ f.last = cc in
          rw (← e, ← l) (closing-push key g.epoch es x ∙ next_closing key g.epoch g.last x (closing_in key g.epoch es) (h.last g refl) (rw (same_key-refl key, eq-eqb g.epoch g.epoch refl) refl));
      later = λ f e is lt. let o : g.epoch ≡ f.epoch = cc in same_closing key e es x (no_number key e x (λ k. absurd (omega (arith, k.1)))) ∙ h.later g e refl (omega arith);
    }

closed_from : (n : ℕ) (key : Key) (o : Option FlowRecord) (es more : List Entry) → FitsFrom n key o more → ClosedAt key es o → ClosedAt key (es ++ more) (flow_from n key o more)
closed_from n key o es [] fits h = rw (append-nil es) h
closed_from n key o es (x ∷ xs) fits h =
    subst (λ l. ClosedAt key l (flow_from n key (flow_step n key o x) xs)) (append_assoc es (x ∷ []) xs)
    (closed_from n key (flow_step n key o x) (es ++ x ∷ []) xs fits.1 (closed_push es (stepped n key o x fits.0) h))

-- ---- what a book says of its flow

pub closes : (n : ℕ) (key : Key) (es : List Entry) → FitsFrom n key None es → ClosedAt key es (flow_of n key es)
closes n key es fits =
    closed_from n key None [] es fits (record { none = λ is. (refl, λ e. refl); epochs = λ f is. cc; last = λ f is. cc; later = λ f e is lt. cc })
