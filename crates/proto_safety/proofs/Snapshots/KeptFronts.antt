-- The kept items of a flow's earlier epochs: they stand still while books, items and rounds go on, and give the base of an epoch.
use Rattle.std.proofs.Common.{◌≡◌, ℕ, ◌+◌, ◌≤◌, ◌<◌, zero, suc, List, [], ◌∷◌, ◌++◌, Option, Some, None, arith, refl, sym, ◌∙◌, ap, subst, append-nil, append_assoc, true, false, Bool, inl, inr, ◌⊎◌, map, length, eqb-true}
use Rattle.std.specs.Prelude.{find, filter, take, drop, if◌then◌else◌}
use Rattle.std.specs.Option.{option_or}
use Rattle.std.proofs.lemmas.Bool.{and_parts, both_ways}
use Rattle.std.proofs.lemmas.List.{take-append-drop, take-append-le, take-map}
use Rattle.std.proofs.lemmas.List.Folds.{find-append}
use Rattle.std.proofs.lemmas.List.Elements.{filter-append}
use Rattle.std.proofs.Math.Seq.{take-append_seam}
use Rattle.std.proofs.lemmas.Grind.{fold-append}
use Rattle.proto_data.specs.declared.message.Entry.{Entry}
use Rattle.rp_app.specs.Application.{Application, after, zeros}
use Rattle.key_table.specs.Table.{Key, same_key}
use Rattle.proto_model.specs.Feeds.{Each, packets_at}
use Rattle.proto_model.specs.Committed.{is_in, journal, committed_book}
use Rattle.proto_model.specs.Kept.{is_round, items_before, kept_at, marks_in, kept_marks, after_marks, base}
use Rattle.proto_model.specs.ReplicaRows.{entry_key}
use Rattle.proto_model.specs.World.{World, Journaled, RoundBegun}
use Rattle.rp_base.specs.declared.legality.Fed.{Fed}
use Rattle.proto_safety.specs.Books.{In, committed_of}
use Rattle.proto_safety.specs.Flows.{FlowRecord, FitsFrom, flow_of, flow_step}
use Rattle.proto_safety.specs.LeaseLaws.{HasEpoch}
use Rattle.proto_safety.specs.LossLaws.{round_at, items_at, kept_items, kept_front, cells_over, RoundIs}
use Rattle.proto_safety.proofs.Store.BookEpochs.{Stepped, other, first, next, put, snap, stepped, fits_parts}
use Rattle.proto_safety.proofs.Serial.CellFacts.{closing_entries}
use Rattle.proto_safety.proofs.Serial.FlowSerial.{ran-append}
use Rattle.key_table.proofs.Tables.{same_key-refl}
use Rattle.proto_safety.proofs.Serial.SerialFronts.{earlier_closing, closing_stays}
use Rattle.proto_safety.proofs.Serial.SerialLists.{closing_in, same_closing, no_number, closes}
use Rattle.proto_safety.proofs.Basics.Eachs.{each_in}
use Rattle.proto_safety.proofs.Basics.Members.{in_append, in_filter, in_middle}

-- ---- lists

-- what was found is found in a longer list
pub found_more : (p : RoundBegun → Bool) (xs ys : List RoundBegun) (b : RoundBegun) → find p xs ≡ Some b → find p (xs ++ ys) ≡ Some b
found_more p xs ys b is = find-append p xs ys ∙ ap (λ o. option_or o (find p ys)) is

pub find_in : (p : RoundBegun → Bool) (xs : List RoundBegun) (b : RoundBegun) → find p xs ≡ Some b → In xs b
find_in p [] b is = cc
find_in p (x ∷ xs) b is = in_case (p x) is (find_in p xs b)
  where
    in_case : (t : Bool) → (if t then Some x else find p xs) ≡ Some b → (find p xs ≡ Some b → In xs b) → In (x ∷ xs) b
    in_case true is rest = inl cc
    in_case false is rest = inr (rest is)

pub find_none : (p : RoundBegun → Bool) (xs : List RoundBegun) → ((b : RoundBegun) → In xs b → p b ≡ false) → find p xs ≡ None
find_none p [] h = refl
find_none p (x ∷ xs) h = rw (h x (inl refl)) (find_none p xs (λ b i. h b (inr i)))

or_none : (o : Option RoundBegun) → option_or o None ≡ o
or_none None = refl
or_none (Some b) = refl

-- a look-up that no more element meets
pub found_same : (p : RoundBegun → Bool) (xs ys : List RoundBegun) → ((b : RoundBegun) → In ys b → p b ≡ false) → find p (xs ++ ys) ≡ find p xs
found_same p xs ys h = find-append p xs ys ∙ (ap (λ o. option_or (find p xs) o) (find_none p ys h) ∙ or_none (find p xs))

-- one more element that no filter takes
filter_take_other : (p : Journaled → Bool) (k : ℕ) (xs : List Journaled) (j : Journaled) → p j ≡ false → filter p (take k (xs ++ j ∷ [])) ≡ filter p (take k xs)
filter_take_other p zero xs j out = refl
filter_take_other p (suc k) [] j out = nil_case k
  where
    nil_case : (k : ℕ) → filter p (j ∷ take k []) ≡ []
    nil_case zero = rw out refl
    nil_case (suc k) = rw out refl
filter_take_other p (suc k) (x ∷ xs) j out = ap (λ l. if p x then x ∷ l else l) (filter_take_other p k xs j out)

-- the filtered front of a list is a front of the filtered list
pub take_filter : (p : Journaled → Bool) (k : ℕ) (xs : List Journaled) → take (length (filter p (take k xs))) (filter p xs) ≡ filter p (take k xs)
take_filter p k xs =
    ap (λ l. take (length (filter p (take k xs))) l) (ap (filter p) (sym (take-append-drop k xs)) ∙ filter-append p (take k xs) (drop k xs))
    ∙ take-append_seam (filter p (take k xs)) (filter p (drop k xs))

in_take : (k : ℕ) (xs : List Journaled) (j : Journaled) → In (take k xs) j → In xs j
in_take zero xs j i = absurd i
in_take (suc k) [] j i = absurd i
in_take (suc k) (x ∷ xs) j (inl e) = inl e
in_take (suc k) (x ∷ xs) j (inr i) = inr (in_take k xs j i)

-- ---- what a round has

pub at_item : (key : Key) (e : ℕ) (items : List Journaled) (j : Journaled) (o : Option RoundBegun) → is_in key e j ≡ false → items_at key e (items ++ j ∷ []) o ≡ items_at key e items o
at_item key e items j None out = refl
at_item key e items j (Some b) out = filter_take_other (is_in key e) b.items_before items j out

pub at_more : (key : Key) (e : ℕ) (items more : List Journaled) (b : RoundBegun) → b.items_before ≤ length items → items_at key e (items ++ more) (Some b) ≡ items_at key e items (Some b)
at_more key e items more b le = ap (filter (is_in key e)) (take-append-le b.items_before items more le)

-- ---- fronts

module _ (key : Key) where
  -- the same committed_flows
  pub front_closings : (es later : List Entry) (items : List Journaled) (rounds : List RoundBegun) (e : ℕ) → ((d : ℕ) → d < e → closing_in key d later ≡ closing_in key d es) → kept_front key later items rounds e ≡ kept_front key es items rounds e
  front_closings es later items rounds zero h = refl
  front_closings es later items rounds (suc e) h =
      let f : kept_front key later items rounds e ≡ kept_front key es items rounds e = front_closings es later items rounds e (λ d lt. h d (omega arith)) in
      let c : closing_in key e later ≡ closing_in key e es = h e (omega arith) in
      ap (λ l. l ++ kept_items key e items rounds (closing_in key e later)) f ∙ ap (λ o. kept_front key es items rounds e ++ kept_items key e items rounds o) c

  -- a book that goes on behind the grant of the epoch
  pub front_entries : (n : ℕ) (es more : List Entry) (items : List Journaled) (rounds : List RoundBegun) (f : FlowRecord) (e : ℕ) → FitsFrom n key None (es ++ more) → flow_of n key es ≡ Some f → e ≤ f.epoch →
      kept_front key (es ++ more) items rounds e ≡ kept_front key es items rounds e
  front_entries n es more items rounds f e fits flow le = front_closings es (es ++ more) items rounds e (λ d lt. earlier_closing n key es more fits f flow d (omega arith))

  -- one more item, of another flow or of no earlier epoch
  pub front_item : (es : List Entry) (items : List Journaled) (rounds : List RoundBegun) (j : Journaled) (e : ℕ) → ((d : ℕ) → d < e → is_in key d j ≡ false) → kept_front key es (items ++ j ∷ []) rounds e ≡ kept_front key es items rounds e
  front_item es items rounds j zero h = refl
  front_item es items rounds j (suc e) h =
      ap (λ l. l ++ kept_items key e (items ++ j ∷ []) rounds (closing_in key e es)) (front_item es items rounds j e (λ d lt. h d (omega arith)))
      ∙ ap (λ l. kept_front key es items rounds e ++ l) (kept_case (closing_in key e es))
    where
      kept_case : (o : Option ℕ) → kept_items key e (items ++ j ∷ []) rounds o ≡ kept_items key e items rounds o
      kept_case None = refl
      kept_case (Some m) = at_item key e items j (round_at key e m rounds) (h e (omega arith))

  -- more rounds, of other flows or of no earlier epoch
  pub front_rounds : (es : List Entry) (items : List Journaled) (rounds more : List RoundBegun) (e : ℕ) → ((d m : ℕ) (b : RoundBegun) → d < e → In more b → is_round key d m b ≡ false) → kept_front key es items (rounds ++ more) e ≡ kept_front key es items rounds e
  front_rounds es items rounds more zero h = refl
  front_rounds es items rounds more (suc e) h =
      ap (λ l. l ++ kept_items key e items (rounds ++ more) (closing_in key e es)) (front_rounds es items rounds more e (λ d m b lt i. h d m b (omega arith) i))
      ∙ ap (λ l. kept_front key es items rounds e ++ l) (kept_case (closing_in key e es))
    where
      kept_case : (o : Option ℕ) → kept_items key e items (rounds ++ more) o ≡ kept_items key e items rounds o
      kept_case None = refl
      kept_case (Some m) = ap (items_at key e items) (found_same (is_round key e m) rounds more (λ b i. h e m b (omega arith) i))

  -- a front has items alone
  pub front_in_items : (es : List Entry) (items : List Journaled) (rounds : List RoundBegun) (e : ℕ) (j : Journaled) → In (kept_front key es items rounds e) j → In items j
  front_in_items es items rounds zero j i = absurd i
  front_in_items es items rounds (suc e) j i = part_case (front_in_items es items rounds e j) (in_append (kept_front key es items rounds e) _ j i)
    where
      kept_case : (o : Option ℕ) → In (kept_items key e items rounds o) j → In items j
      kept_case None k = absurd k
      kept_case (Some m) k = at_case (round_at key e m rounds) k
        where
          at_case : (o : Option RoundBegun) → In (items_at key e items o) j → In items j
          at_case None k = absurd k
          at_case (Some b) k = in_take b.items_before items j (in_filter (is_in key e) (take b.items_before items) j k).0

      part_case : (In (kept_front key es items rounds e) j → In items j) → In (kept_front key es items rounds e) j ⊎ In (kept_items key e items rounds (closing_in key e es)) j → In items j
      part_case before (inl k) = before k
      part_case before (inr k) = kept_case (closing_in key e es) k

-- ---- epochs begin at 1

abbrev FromOne : Option FlowRecord → Type 0
FromOne None = Unit {0}
FromOne (Some f) = 1 ≤ f.epoch

one_step : {n : ℕ} {key : Key} {o u : Option FlowRecord} {x : Entry} → Stepped n key o x u → FromOne o → FromOne u × (HasEpoch key 0 x → ⊥)
one_step {key = key} {x = x} (other ne) h = (h, λ q. absurd (other_epoch x q ne))
  where
    other_epoch : (x : Entry) → HasEpoch key 0 x → same_key (entry_key x) key ≡ false → ⊥
    other_epoch (Entry.Grant k e s i m) q ne = both_ways _ ne (rw q.0 (same_key-refl key))
    other_epoch (Entry.Put k e m d) q ne = both_ways _ ne (rw q.0 (same_key-refl key))
    other_epoch (Entry.Snap k e m v) q ne = both_ways _ ne (rw q.0 (same_key-refl key))
one_step first h = (omega arith, λ q. absurd (omega (arith, q.1)))
one_step next h = (omega arith, λ q. absurd (omega (arith, q.1)))
one_step put h = (h, λ q. absurd (omega (arith, q.1, h)))
one_step snap h = (h, λ q. absurd (omega (arith, q.1, h)))

none_at_zero : (n : ℕ) (key : Key) (o : Option FlowRecord) (es : List Entry) → FitsFrom n key o es → FromOne o → (x : Entry) → In es x → HasEpoch key 0 x → ⊥
none_at_zero n key o [] fits h x i q = absurd i
none_at_zero n key o (y ∷ ys) fits h x (inl e) q = (one_step (stepped n key o y fits.0) h).1 (subst (HasEpoch key 0) (sym e) q)
none_at_zero n key o (y ∷ ys) fits h x (inr i) q = none_at_zero n key (flow_step n key o y) ys fits.1 (one_step (stepped n key o y fits.0) h).0 x i q

-- epoch 0 is never closed
pub closing_zero : (n : ℕ) (key : Key) (es : List Entry) → FitsFrom n key None es → closing_in key 0 es ≡ None
closing_zero n key es fits = closing_stays key 0 [] es (λ x i h. absurd (none_at_zero n key None es fits tt x i h))

-- ---- the base

kept_here : (w : World) (key : Key) (e : ℕ) → kept_marks w key e ≡ map (λ (j : Journaled). j.item.mark) (kept_items key e w.history.items w.history.rounds (closing_in key e (committed_of w.replicas)))
kept_here w key e = ap (λ o. take (kept_at w key e o) (marks_in (journal w key e))) (closing_entries key e (committed_book w)) ∙ closing_case (closing_in key e (committed_of w.replicas))
  where
    round_case : (o : Option RoundBegun) → take (items_before w key e o) (marks_in (journal w key e)) ≡ map (λ (j : Journaled). j.item.mark) (items_at key e w.history.items o)
    round_case None = refl
    round_case (Some b) =
        take-map (λ (j : Journaled). j.item.mark) (length (filter (is_in key e) (take b.items_before w.history.items))) (journal w key e)
        ∙ ap (map (λ (j : Journaled). j.item.mark)) (take_filter (is_in key e) b.items_before w.history.items)

    closing_case : (o : Option ℕ) → take (kept_at w key e o) (marks_in (journal w key e)) ≡ map (λ (j : Journaled). j.item.mark) (kept_items key e w.history.items w.history.rounds o)
    closing_case None = refl
    closing_case (Some m) = round_case (round_at key e m w.history.rounds)

-- the base of an epoch has the cells over the kept items of all earlier ones
pub base_is : (app : Application) (n : ℕ) (w : World) (key : Key) → FitsFrom n key None (committed_of w.replicas) → (e : ℕ) → base app w key e ≡ cells_over app w.history.fed (kept_front key (committed_of w.replicas) w.history.items w.history.rounds (suc e))
base_is app n w key fits zero = sym (ap (λ o. cells_over app w.history.fed (kept_items key 0 w.history.items w.history.rounds o)) (closing_zero n key (committed_of w.replicas) fits))
base_is app n w key fits (suc e) =
    let es : List Entry = committed_of w.replicas in
    let front : List Journaled = kept_front key (committed_of w.replicas) w.history.items w.history.rounds (suc e) in
    let more : List Journaled = kept_items key (suc e) w.history.items w.history.rounds (closing_in key (suc e) (committed_of w.replicas)) in
    ap (λ l. after_marks app w l (kept_marks w key (suc e))) (base_is app n w key fits e)
    ∙ (ap (λ l. after app (cells_over app w.history.fed (kept_front key (committed_of w.replicas) w.history.items w.history.rounds (suc e))) (packets_at w.history.fed l)) (kept_here w key (suc e))
    ∙ sym (ran-append app w.history.fed front more))

-- ---- the committed cells

-- what the book's Snaps rest on, and no Puts
pub record BookRounds (app : Application) (feeds : List Fed) (es : List Entry) (items : List Journaled) (rounds : List RoundBegun) (key : Key) : Type 0 where
  pub snaps : (epoch number : ℕ) (cells : List ℕ) → In es (Entry.Snap key epoch number cells) → RoundIs app feeds es items rounds key epoch number cells
  pub puts : (epoch number : ℕ) (delta : List (ℕ × ℕ)) → In es (Entry.Put key epoch number delta) → ⊥
  pub begun : Each (λ (b : RoundBegun). 1 ≤ b.begun.round) rounds

module _ (app : Application) (feeds : List Fed) (es : List Entry) (items : List Journaled) (rounds : List RoundBegun) (key : Key) (fits : FitsFrom app.cell_count key None es) (h : BookRounds app feeds es items rounds key) where
  abbrev Fine : List Entry → Option FlowRecord → Type 0
  Fine p o = (f : FlowRecord) → o ≡ Some f → f.cells ≡ cells_over app feeds (kept_front key p items rounds (suc f.epoch))

  -- no round has the number 0
  zero_round : (e : ℕ) → round_at key e 0 rounds ≡ None
  zero_round e = find_none (is_round key e 0) rounds (λ b i. number_case b (each_in (λ (b : RoundBegun). 1 ≤ b.begun.round) rounds b h.begun i) (is_round key e 0 b) refl)
    where
      number_case : (b : RoundBegun) → 1 ≤ b.begun.round → (t : Bool) → is_round key e 0 b ≡ t → t ≡ false
      number_case b some true is = absurd (omega (arith, some, eqb-true b.begun.round 0 (and_parts _ _ (and_parts _ _ is).1).1))
      number_case b some false is = refl

  pub kept_zero : (e : ℕ) (o : Option ℕ) → o ≡ Some 0 → kept_items key e items rounds o ≡ []
  kept_zero e o is = ap (kept_items key e items rounds) is ∙ ap (items_at key e items) (zero_round e)

  last_same : (p : List Entry) (x : Entry) (e : ℕ) → ((d : ℕ) → d ≤ e → HasEpoch key d x → ⊥) → kept_front key (p ++ x ∷ []) items rounds (suc e) ≡ kept_front key p items rounds (suc e)
  last_same p x e none = front_closings key p (p ++ x ∷ []) items rounds (suc e) (λ d lt. same_closing key d p x (no_number key d x (none d (omega arith))))

  -- one more entry
  fine_step : {o u : Option FlowRecord} {x : Entry} (p rest : List Entry) → es ≡ p ++ x ∷ rest → flow_of app.cell_count key p ≡ o → flow_of app.cell_count key (p ++ x ∷ []) ≡ u → FitsFrom app.cell_count key None p → FitsFrom app.cell_count key None (p ++ x ∷ []) → Stepped app.cell_count key o x u → Fine p o → Fine (p ++ x ∷ []) u
  fine_step {x = x} p rest whole flow later old new (other ne) k f is =
      k f is ∙ ap (cells_over app feeds) (sym (last_same p x f.epoch (λ d le q. absurd (other_epoch d x q ne))))
    where
      other_epoch : (d : ℕ) (x : Entry) → HasEpoch key d x → same_key (entry_key x) key ≡ false → ⊥
      other_epoch d (Entry.Grant j e s i m) q ne = both_ways _ ne (rw q.0 (same_key-refl key))
      other_epoch d (Entry.Put j e m delta) q ne = both_ways _ ne (rw q.0 (same_key-refl key))
      other_epoch d (Entry.Snap j e m v) q ne = both_ways _ ne (rw q.0 (same_key-refl key))
  fine_step p rest whole flow later old new (first {switch = s} {inc = i} {nonce = m}) k f is =
      let g : FlowRecord = record { epoch = 1; switch = s; inc = i; nonce = m; last = 0; cells = zeros app.cell_count } in
      let e : List Entry = p ++ Entry.Grant key 1 s i m ∷ [] in
      let c : closing_in key 1 (p ++ Entry.Grant key 1 s i m ∷ []) ≡ Some 0 = (closes app.cell_count key (p ++ Entry.Grant key 1 s i m ∷ []) new).last g later in
      let same : g ≡ f = cc in
      subst (λ (y : FlowRecord). y.cells ≡ cells_over app feeds (kept_front key (p ++ Entry.Grant key 1 s i m ∷ []) items rounds (suc y.epoch))) same
      (ap (cells_over app feeds) (sym (front_one (p ++ Entry.Grant key 1 s i m ∷ []) new c)))
    where
      front_one : (q : List Entry) → FitsFrom app.cell_count key None q → closing_in key 1 q ≡ Some 0 → kept_front key q items rounds 2 ≡ []
      front_one q fit c =
          ap (λ o. ([] ++ kept_items key 0 items rounds o) ++ kept_items key 1 items rounds (closing_in key 1 q)) (closing_zero app.cell_count key q fit) ∙ kept_zero 1 (closing_in key 1 q) c
  fine_step p rest whole flow later old new (next {f = g} {switch = s} {inc = i} {nonce = m}) k f is =
      let n : FlowRecord = record { epoch = g.epoch + 1; switch = s; inc = i; nonce = m; last = 0; cells = g.cells } in
      let c : closing_in key (g.epoch + 1) (p ++ Entry.Grant key (g.epoch + 1) s i m ∷ []) ≡ Some 0 = (closes app.cell_count key (p ++ Entry.Grant key (g.epoch + 1) s i m ∷ []) new).last n later in
      let same : n ≡ f = cc in
      let e : g.epoch + 1 ≡ suc g.epoch = omega arith in
      subst (λ (y : FlowRecord). y.cells ≡ cells_over app feeds (kept_front key (p ++ Entry.Grant key (g.epoch + 1) s i m ∷ []) items rounds (suc y.epoch))) same
      (k g refl
      ∙ ap (cells_over app feeds)
      (sym
      (subst (λ d. kept_front key (p ++ Entry.Grant key (g.epoch + 1) s i m ∷ []) items rounds (suc d) ≡ kept_front key p items rounds (suc g.epoch)) (sym e)
      (next_front (p ++ Entry.Grant key (g.epoch + 1) s i m ∷ []) g.epoch (last_same p (Entry.Grant key (g.epoch + 1) s i m) g.epoch (λ d le q. absurd (omega (arith, le, q.1))))
      (subst (λ d. closing_in key d (p ++ Entry.Grant key (g.epoch + 1) s i m ∷ []) ≡ Some 0) e c)))))
    where
      next_front : (q : List Entry) (d : ℕ) → kept_front key q items rounds (suc d) ≡ kept_front key p items rounds (suc d) → closing_in key (suc d) q ≡ Some 0 → kept_front key q items rounds (suc (suc d)) ≡ kept_front key p items rounds (suc d)
      next_front q d same c = ap (λ l. kept_front key q items rounds (suc d) ++ l) (kept_zero (suc d) (closing_in key (suc d) q) c) ∙ (append-nil (kept_front key q items rounds (suc d)) ∙ same)
  fine_step p rest whole flow later old new (put {f = g} {delta = d}) k f is = absurd (h.puts g.epoch (g.last + 1) d (subst (λ l. In l (Entry.Put key g.epoch (g.last + 1) d)) (sym whole) (in_middle p rest (Entry.Put key g.epoch (g.last + 1) d))))
  fine_step p rest whole flow later old new (snap {f = g} {values = v}) k f is =
      let n : FlowRecord = record g { last = g.last + 1; cells = v } in
      let x : Entry = Entry.Snap key g.epoch (g.last + 1) v in
      let r = h.snaps g.epoch (g.last + 1) v (subst (λ l. In l (Entry.Snap key g.epoch (g.last + 1) v)) (sym whole) (in_middle p rest (Entry.Snap key g.epoch (g.last + 1) v))) in
      let c : closing_in key g.epoch (p ++ Entry.Snap key g.epoch (g.last + 1) v ∷ []) ≡ Some (g.last + 1) = (closes app.cell_count key (p ++ Entry.Snap key g.epoch (g.last + 1) v ∷ []) new).last n later in
      let same : n ≡ f = cc in
      let split : es ≡ (p ++ Entry.Snap key g.epoch (g.last + 1) v ∷ []) ++ rest = whole ∙ sym (append_assoc p (Entry.Snap key g.epoch (g.last + 1) v ∷ []) rest) in
      let front : kept_front key es items rounds g.epoch ≡ kept_front key (p ++ Entry.Snap key g.epoch (g.last + 1) v ∷ []) items rounds g.epoch =
      ap (λ l. kept_front key l items rounds g.epoch) split
      ∙ front_entries key app.cell_count (p ++ Entry.Snap key g.epoch (g.last + 1) v ∷ []) rest items rounds n g.epoch (subst (λ l. FitsFrom app.cell_count key None l) split fits) later (omega arith) in
      subst (λ (y : FlowRecord). y.cells ≡ cells_over app feeds (kept_front key (p ++ Entry.Snap key g.epoch (g.last + 1) v ∷ []) items rounds (suc y.epoch))) same
      (r.cells_are
      ∙ (ap (λ l. cells_over app feeds (l ++ items_at key g.epoch items (Some r.begun))) front
      ∙ (ap (λ o. cells_over app feeds (kept_front key (p ++ Entry.Snap key g.epoch (g.last + 1) v ∷ []) items rounds g.epoch ++ items_at key g.epoch items o)) (sym r.found)
      ∙ ap (λ o. cells_over app feeds (kept_front key (p ++ Entry.Snap key g.epoch (g.last + 1) v ∷ []) items rounds g.epoch ++ kept_items key g.epoch items rounds o)) (sym c))))

  fine_all : (p more : List Entry) → es ≡ p ++ more → Fine p (flow_of app.cell_count key p) → Fine es (flow_of app.cell_count key es)
  fine_all p [] whole k = subst (λ l. Fine l (flow_of app.cell_count key l)) (sym (whole ∙ append-nil p)) k
  fine_all p (x ∷ xs) whole k =
      let split : es ≡ (p ++ x ∷ []) ++ xs = whole ∙ sym (append_assoc p (x ∷ []) xs) in
      let old = fits_parts app.cell_count key None p (x ∷ xs) (subst (λ l. FitsFrom app.cell_count key None l) whole fits) in
      let new = fits_parts app.cell_count key None (p ++ x ∷ []) xs (subst (λ l. FitsFrom app.cell_count key None l) split fits) in
      let later : flow_of app.cell_count key (p ++ x ∷ []) ≡ flow_step app.cell_count key (flow_of app.cell_count key p) x = fold-append (flow_step app.cell_count key) None p (x ∷ []) in
      fine_all (p ++ x ∷ []) xs split
      (subst (λ o. Fine (p ++ x ∷ []) o) (sym later) (fine_step p xs whole refl later old.0 new.0 (stepped app.cell_count key (flow_of app.cell_count key p) x old.1.0) k))

  -- the committed cells are those over the kept items of all epochs
  pub committed_cells_are : (f : FlowRecord) → flow_of app.cell_count key es ≡ Some f → f.cells ≡ cells_over app feeds (kept_front key es items rounds (suc f.epoch))
  committed_cells_are f flow = fine_all [] es refl (λ g is. let no_flow : None ≡ Some g = is in cc) f flow
