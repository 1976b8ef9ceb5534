-- How the cells of one flow go on: with an entry of the committed book, and with an item.
use Rattle.std.proofs.Common.{◌≡◌, ◌≢◌, ◌⊎◌, ℕ, ◌+◌, ◌≤◌, ◌<◌, List, [], ◌∷◌, ◌++◌, Option, Some, None, arith, refl, sym, ◌∙◌, ap, subst, append-nil, append_assoc, true, false, Bool, inl, inr, filter, eq-eqb, eqb-true}
use Rattle.std.specs.Prelude.{◌==◌, nat_le, nat_lt, flat_map}
use Rattle.std.proofs.lemmas.Bool.{both_ways, and_parts, and_from, leb-true, leb-false, ltb-true}
use Rattle.std.proofs.lemmas.Grind.{fold-append, flat_map-append}
use Rattle.std.proofs.lemmas.List.Elements.{filter-append}
use Rattle.proto_data.specs.declared.message.Entry.{Entry}
use Rattle.rp_app.specs.Application.{Application, Delta, written, zeros}
use Rattle.key_table.specs.Table.{Key, same_key}
use Rattle.proto_model.specs.Feeds.{Each}
use Rattle.proto_model.specs.Committed.{is_in, is_closed}
use Rattle.proto_model.specs.ReplicaRows.{entry_key}
use Rattle.proto_model.specs.World.{Journaled}
use Rattle.rp_base.specs.declared.legality.Fed.{Fed}
use Rattle.proto_safety.specs.Books.{In}
use Rattle.proto_safety.specs.Flows.{FlowRecord, FitsFrom, flow_step, flow_of}
use Rattle.proto_safety.specs.LeaseLaws.{HasEpoch}
use Rattle.key_table.proofs.Tables.{same_key-refl, same_key-true}
use Rattle.proto_safety.proofs.Store.BookEpochs.{Stepped, other, first, next, put, snap, stepped, fits_parts}
use Rattle.proto_safety.proofs.Serial.SerialLists.{closing_in, epochs_in, journal_in, closed_in, serial_in, front_in, ClosedAt, closes, no_number, no_grant, same_epochs, more_epochs, same_closing}
use Rattle.proto_safety.proofs.Serial.SerialFronts.{front_stays, serial_parts}
use Rattle.proto_safety.proofs.Basics.NumberSplits.{NumbersRise, up_to, below, at_number, past, below_next, split_at_number, up_to_next, number_of_all, up_to-push}
use Rattle.proto_safety.proofs.Serial.FlowSerial.{ran, ran-push, MadeIn, EachMade, PutIs, put_writes, made-push}
use Rattle.proto_safety.proofs.Basics.Eachs.{each_in}
use Rattle.proto_safety.proofs.Basics.Lists.{none_before}
use Rattle.proto_safety.proofs.Basics.Members.{flat_map_nil, flat_map_same, in_append, in_filter, nobody}

-- ---- what is known of the items

pub record ItemsKnown (n : ℕ) (es : List Entry) (items : List Journaled) (key : Key) : Type 0 where
  -- each is of an epoch that is granted
  pub granted : (j : Journaled) → In items j → j.item.key ≡ key → (f : FlowRecord) × ((flow_of n key es ≡ Some f) × (j.item.epoch ≤ f.epoch))
  -- numbers of an epoch rise
  pub rise : (e : ℕ) → NumbersRise (journal_in key items e)

pub record CellsOf (app : Application) (fed : List Fed) (es : List Entry) (items : List Journaled) (key : Key) : Type 0 where
  -- the committed cells are the fold of the serial list
  pub committed : (f : FlowRecord) → flow_of app.cell_count key es ≡ Some f → f.cells ≡ ran app fed (serial_in key es items)
  -- each item saw the committed items of earlier epochs and those before it in its own
  pub made : (e : ℕ) → EachMade app fed key (front_in key es items e) (journal_in key items e)

is_of_key : (key : Key) (e : ℕ) (j : Journaled) → is_in key e j ≡ true → (j.item.key ≡ key) × (j.item.epoch ≡ e)
is_of_key key e j is = let p = and_parts _ _ is in (same_key-true j.item.key key p.0, eqb-true j.item.epoch e p.1)

-- no items of an epoch that isn't granted
pub journal_later : (n : ℕ) (es : List Entry) (items : List Journaled) (key : Key) (f : FlowRecord) (e : ℕ) → ItemsKnown n es items key → flow_of n key es ≡ Some f → f.epoch < e → journal_in key items e ≡ []
journal_later n es items key f e k flow lt =
    nobody (journal_in key items e)
    (λ j i.
    let p = in_filter (is_in key e) items j i in
    let of = is_of_key key e j p.1 in
    let g = k.granted j p.0 of.0 in
    let same : g.0 ≡ f = cc (sym g.1.0 ∙ flow) in
    absurd (omega (arith, g.1.1, of.1, ap (λ (x : FlowRecord). x.epoch) same)))

pub journal_never : (n : ℕ) (es : List Entry) (items : List Journaled) (key : Key) (e : ℕ) → ItemsKnown n es items key → flow_of n key es ≡ None → journal_in key items e ≡ []
journal_never n es items key e k flow =
    nobody (journal_in key items e)
    (λ j i. let p = in_filter (is_in key e) items j i in let g = k.granted j p.0 (is_of_key key e j p.1).0 in let no : None ≡ Some g.0 = sym flow ∙ g.1.0 in cc)

no_journal_made : (app : Application) (fed : List Fed) (key : Key) (front js : List Journaled) → js ≡ [] → EachMade app fed key front js
no_journal_made app fed key front js none = record { at = λ pre j post is. absurd (none_before pre post j (sym none ∙ is)) }

-- ---- one more entry

module _ (app : Application) (fed : List Fed) (es : List Entry) (items : List Journaled) (key : Key) (x : Entry) (fits : FitsFrom app.cell_count key None (es ++ x ∷ [])) (k : ItemsKnown app.cell_count es items key) (h : CellsOf app fed es items key) where
  before : FitsFrom app.cell_count key None es
  before = (fits_parts app.cell_count key None es (x ∷ []) fits).0

  -- what the entry must be, where it is a Put: that of the items with its number
  abbrev pub IsPutOf : Type 0
  IsPutOf = (f : FlowRecord) (delta : Delta) → flow_of app.cell_count key es ≡ Some f → x ≡ Entry.Put key f.epoch (f.last + 1) delta → PutIs app fed (front_in key es items f.epoch) (journal_in key items f.epoch) (f.last + 1) delta

  abbrev pub IsNoSnap : Type 0
  IsNoSnap = (epoch round : ℕ) (values : List ℕ) → x ≡ Entry.Snap key epoch round values → ⊥

  -- the serial list where no closing changes
  same_serial : epochs_in key (es ++ x ∷ []) ≡ epochs_in key es → ((d : ℕ) → closing_in key d (es ++ x ∷ []) ≡ closing_in key d es) → serial_in key (es ++ x ∷ []) items ≡ serial_in key es items
  same_serial same closing =
      ap (λ l. flat_map (closed_in key (es ++ x ∷ []) items) l) same
      ∙ flat_map_same (closed_in key (es ++ x ∷ []) items) (closed_in key es items) (epochs_in key es) (λ d i. ap (λ c. filter (is_closed c) (journal_in key items d)) (closing d))

  other_epoch : (d : ℕ) → same_key (entry_key x) key ≡ false → HasEpoch key d x → ⊥
  other_epoch d ne q = key_case x ne q
    where
      key_case : (y : Entry) → same_key (entry_key y) key ≡ false → HasEpoch key d y → ⊥
      key_case (Entry.Grant j e switch inc nonce) ne q = both_ways _ ne (rw q.0 (same_key-refl key))
      key_case (Entry.Put j e number delta) ne q = both_ways _ ne (rw q.0 (same_key-refl key))
      key_case (Entry.Snap j e round values) ne q = both_ways _ ne (rw q.0 (same_key-refl key))

  grant_serial : (g : FlowRecord) (switch inc nonce : ℕ) → flow_of app.cell_count key es ≡ Some g → x ≡ Entry.Grant key (g.epoch + 1) switch inc nonce → serial_in key (es ++ x ∷ []) items ≡ serial_in key es items
  grant_serial g switch inc nonce flow is =
      let c : ClosedAt key es (flow_of app.cell_count key es) = closes app.cell_count key es before in
      let d = c.epochs g flow in
      let epochs : epochs_in key (es ++ x ∷ []) ≡ epochs_in key es ++ (g.epoch + 1) ∷ [] = ap (λ y. epochs_in key (es ++ y ∷ [])) is ∙ more_epochs key es (g.epoch + 1) switch inc nonce in
      ap (λ l. flat_map (closed_in key (es ++ x ∷ []) items) l) epochs
      ∙ (flat_map-append (closed_in key (es ++ x ∷ []) items) (epochs_in key es) ((g.epoch + 1) ∷ [])
      ∙ (rw (last_none, old d.0 d.1.0 d.1.1) (append-nil (serial_in key es items))))
    where
      last_none : flat_map (closed_in key (es ++ x ∷ []) items) ((g.epoch + 1) ∷ []) ≡ []
      last_none = flat_map_nil (closed_in key (es ++ x ∷ []) items) ((g.epoch + 1) ∷ []) (λ e i. one_case e i)
        where
          empty : (e : ℕ) → g.epoch + 1 ≡ e → closed_in key (es ++ x ∷ []) items e ≡ []
          empty e same = ap (λ l. filter (is_closed (closing_in key e (es ++ x ∷ []))) l) (journal_later app.cell_count es items key g e k flow (omega arith))

          one_case : (e : ℕ) → In ((g.epoch + 1) ∷ []) e → closed_in key (es ++ x ∷ []) items e ≡ []
          one_case e (inl same) = empty e same
          one_case e (inr i) = absurd i

      old : (ds : List ℕ) → epochs_in key es ≡ ds ++ g.epoch ∷ [] → Each (λ d. d < g.epoch) ds → flat_map (closed_in key (es ++ x ∷ []) items) (epochs_in key es) ≡ serial_in key es items
      old ds at under =
          flat_map_same (closed_in key (es ++ x ∷ []) items) (closed_in key es items) (epochs_in key es)
          (λ e i.
          ap (λ c. filter (is_closed c) (journal_in key items e))
          (same_closing key e es x
          (no_number key e x (λ q. absurd (omega (arith, (subst (λ y. HasEpoch key e y) is q).1, up_case e (in_append ds (g.epoch ∷ []) e (subst (λ l. In l e) at i))))))))
        where
          up_case : (e : ℕ) → In ds e ⊎ In (g.epoch ∷ []) e → e ≤ g.epoch
          up_case e (inl i) = let lt : e < g.epoch = each_in (λ d. d < g.epoch) ds e under i in omega arith
          up_case e (inr (inl same)) = omega arith
          up_case e (inr (inr i)) = absurd i

  put_serial : (g : FlowRecord) (delta : Delta) → flow_of app.cell_count key es ≡ Some g → flow_of app.cell_count key (es ++ x ∷ []) ≡ Some (record g { last = g.last + 1; cells = written g.cells delta }) →
      PutIs app fed (front_in key es items g.epoch) (journal_in key items g.epoch) (g.last + 1) delta → written g.cells delta ≡ ran app fed (serial_in key (es ++ x ∷ []) items)
  put_serial g delta flow later is =
      ap (λ l. written l delta) old_cells
      ∙ (sym (put_writes app fed key front js (past (g.last + 1) js) (g.last + 1) delta (h.made g.epoch) whole is)
      ∙ ap (λ l. ran app fed l) (sym new_serial))
    where
      js : List Journaled
      js = journal_in key items g.epoch

      front : List Journaled
      front = front_in key es items g.epoch

      old_closing : closing_in key g.epoch es ≡ Some g.last
      old_closing = (closes app.cell_count key es before).last g flow

      new_closing : closing_in key g.epoch (es ++ x ∷ []) ≡ Some (g.last + 1)
      new_closing = (closes app.cell_count key (es ++ x ∷ []) fits).last (record g { last = g.last + 1; cells = written g.cells delta }) later

      old_cells : g.cells ≡ ran app fed (front ++ below (g.last + 1) js)
      old_cells =
          h.committed g flow
          ∙ ap (λ l. ran app fed l) (serial_parts app.cell_count key es items g before flow ∙ ap (λ l. front ++ l) (ap (λ c. filter (is_closed c) js) old_closing ∙ sym (below_next g.last js)))

      two : up_to (g.last + 1) js ≡ below (g.last + 1) js ++ at_number (g.last + 1) js
      two = up_to_next g.last js (k.rise g.epoch) ∙ ap (λ l. l ++ at_number (g.last + 1) js) (sym (below_next g.last js))

      whole : js ≡ below (g.last + 1) js ++ (at_number (g.last + 1) js ++ past (g.last + 1) js)
      whole = sym (split_at_number (g.last + 1) js (k.rise g.epoch)) ∙ (ap (λ l. l ++ past (g.last + 1) js) two ∙ append_assoc (below (g.last + 1) js) (at_number (g.last + 1) js) (past (g.last + 1) js))

      new_serial : serial_in key (es ++ x ∷ []) items ≡ front ++ (below (g.last + 1) js ++ at_number (g.last + 1) js)
      new_serial =
          serial_parts app.cell_count key (es ++ x ∷ []) items (record g { last = g.last + 1; cells = written g.cells delta }) fits later
          ∙ (ap (λ l. l ++ closed_in key (es ++ x ∷ []) items g.epoch) (front_stays app.cell_count key es (x ∷ []) fits g flow items g.epoch (omega arith))
          ∙ ap (λ l. front ++ l) (ap (λ c. filter (is_closed c) js) new_closing ∙ two))

  next_committed : {o u : Option FlowRecord} {y : Entry} → Stepped app.cell_count key o y u → x ≡ y → flow_of app.cell_count key es ≡ o → flow_of app.cell_count key (es ++ x ∷ []) ≡ u → IsPutOf → IsNoSnap → (f : FlowRecord) → u ≡ Some f → f.cells ≡ ran app fed (serial_in key (es ++ x ∷ []) items)
  next_committed (other ne) e flow later is snapless f at =
      let other_key : same_key (entry_key x) key ≡ false = subst (λ z. same_key (entry_key z) key ≡ false) (sym e) ne in
      h.committed f (flow ∙ at)
      ∙ ap (λ l. ran app fed l) (sym (same_serial (same_epochs key es x (no_grant key x other_key)) (λ d. same_closing key d es x (no_number key d x (λ q. other_epoch d other_key q)))))
  next_committed first e flow later is snapless f at =
      let cells : zeros app.cell_count ≡ f.cells = cc in
      let none : serial_in key (es ++ x ∷ []) items ≡ [] =
      flat_map_nil (closed_in key (es ++ x ∷ []) items) (epochs_in key (es ++ x ∷ [])) (λ d i. ap (λ l. filter (is_closed (closing_in key d (es ++ x ∷ []))) l) (journal_never app.cell_count es items key d k flow)) in
      sym cells ∙ ap (λ l. ran app fed l) (sym none)
  next_committed (next {f = g} {switch = s} {inc = i} {nonce = m}) e flow later is snapless f at =
      let cells : g.cells ≡ f.cells = cc in
      sym cells ∙ (h.committed g flow ∙ ap (λ l. ran app fed l) (sym (grant_serial g s i m flow e)))
  next_committed (put {f = g} {delta = d}) e flow later is snapless f at =
      let cells : written g.cells d ≡ f.cells = cc in
      sym cells ∙ put_serial g d flow later (is g d flow e)
  next_committed (snap {f = g} {values = v}) e flow later is snapless f at = absurd (snapless g.epoch (g.last + 1) v e)

  next_made : IsPutOf → IsNoSnap → (e : ℕ) → EachMade app fed key (front_in key (es ++ x ∷ []) items e) (journal_in key items e)
  next_made is snapless e = flow_case (flow_of app.cell_count key es) refl
    where
      epoch_case : (f : FlowRecord) → flow_of app.cell_count key es ≡ Some f → (b : Bool) → nat_le e f.epoch ≡ b → EachMade app fed key (front_in key (es ++ x ∷ []) items e) (journal_in key items e)
      epoch_case f flow true le =
          subst (λ l. EachMade app fed key l (journal_in key items e)) (sym (front_stays app.cell_count key es (x ∷ []) fits f flow items e (leb-true e f.epoch le))) (h.made e)
      epoch_case f flow false gt = no_journal_made app fed key _ (journal_in key items e) (journal_later app.cell_count es items key f e k flow (leb-false e f.epoch gt))

      flow_case : (o : Option FlowRecord) → flow_of app.cell_count key es ≡ o → EachMade app fed key (front_in key (es ++ x ∷ []) items e) (journal_in key items e)
      flow_case None flow = no_journal_made app fed key _ (journal_in key items e) (journal_never app.cell_count es items key e k flow)
      flow_case (Some f) flow = epoch_case f flow (nat_le e f.epoch) refl

  pub entry_cells : IsPutOf → IsNoSnap → CellsOf app fed (es ++ x ∷ []) items key
  entry_cells is snapless =
      let step : flow_of app.cell_count key (es ++ x ∷ []) ≡ flow_step app.cell_count key (flow_of app.cell_count key es) x = fold-append (flow_step app.cell_count key) None es (x ∷ []) in
      let fit : FitsFrom app.cell_count key (flow_of app.cell_count key es) (x ∷ []) = (fits_parts app.cell_count key None es (x ∷ []) fits).1 in
      record {
        committed = λ f at. next_committed (stepped app.cell_count key (flow_of app.cell_count key es) x fit.0) refl refl step is snapless f (sym step ∙ at);
        made = λ e. next_made is snapless e;
      }

-- ---- one more item

module _ (app : Application) (fed : List Fed) (es : List Entry) (items : List Journaled) (j : Journaled) where
  abbrev pub more : List Journaled
  more = items ++ j ∷ []

  pub other_journal : (key : Key) (e : ℕ) → is_in key e j ≡ false → journal_in key more e ≡ journal_in key items e
  other_journal key e ne = filter-append (is_in key e) items (j ∷ []) ∙ rw ne (append-nil (journal_in key items e))

  own_journal : (key : Key) (e : ℕ) → is_in key e j ≡ true → journal_in key more e ≡ journal_in key items e ++ j ∷ []
  own_journal key e is = filter-append (is_in key e) items (j ∷ []) ∙ rw is refl

  pub not_in_key : (key : Key) (e : ℕ) → same_key j.item.key key ≡ false → is_in key e j ≡ false
  not_in_key key e ne = rw ne refl

  pub not_in_epoch : (key : Key) (e : ℕ) → j.item.epoch ≢ e → is_in key e j ≡ false
  not_in_epoch key e ne = in_case (is_in key e j) refl
    where
      in_case : (b : Bool) → is_in key e j ≡ b → b ≡ false
      in_case true is = absurd (ne (eqb-true j.item.epoch e (and_parts _ _ is).1))
      in_case false is = refl

  -- a front without the item's epoch
  pub front_same : (key : Key) (e : ℕ) → ((d : ℕ) → d < e → is_in key d j ≡ false) → front_in key es more e ≡ front_in key es items e
  front_same key e h =
      flat_map_same (closed_in key es more) (closed_in key es items) (filter (λ d. nat_lt d e) (epochs_in key es))
      (λ d i. ap (λ l. filter (is_closed (closing_in key d es)) l) (other_journal key d (h d (ltb-true d e (in_filter (λ d. nat_lt d e) (epochs_in key es) d i).1))))

  -- an item of another flow changes nothing
  pub other_flow_item : (key : Key) → same_key j.item.key key ≡ false → CellsOf app fed es items key → CellsOf app fed es more key
  other_flow_item key ne h =
      record {
        committed = λ f at.
            h.committed f at
            ∙ ap (λ l. ran app fed l)
            (sym
            (flat_map_same (closed_in key es more) (closed_in key es items) (epochs_in key es)
            (λ d i. ap (λ l. filter (is_closed (closing_in key d es)) l) (other_journal key d (not_in_key key d ne)))));
        made = λ e.
            subst (λ l. EachMade app fed key l (journal_in key more e)) (sym (front_same key e (λ d lt. not_in_key key d ne)))
            (subst (λ l. EachMade app fed key (front_in key es items e) l) (sym (other_journal key e (not_in_key key e ne))) (h.made e));
      }

  module _ (key : Key) (f : FlowRecord) (fits : FitsFrom app.cell_count key None es) (flow : flow_of app.cell_count key es ≡ Some f) (k : ItemsKnown app.cell_count es items key) (h : CellsOf app fed es items key)
      (same : j.item.key ≡ key) (present : j.item.epoch ≡ f.epoch) (m : MadeIn app fed key (front_in key es items f.epoch ++ journal_in key items f.epoch) j)
      (above : Each (λ (i : Journaled). i.item.number ≤ j.item.number) (journal_in key items f.epoch)) where
    own : is_in key f.epoch j ≡ true
    own = rw (same, present) (and_from _ _ (same_key-refl key) (eq-eqb f.epoch f.epoch refl))

    pub front_kept : (e : ℕ) → e ≤ f.epoch → front_in key es more e ≡ front_in key es items e
    front_kept e le = front_same key e (λ d lt. not_in_epoch key d (λ q. absurd (omega arith)))

    pub journal_grows : journal_in key more f.epoch ≡ journal_in key items f.epoch ++ j ∷ []
    journal_grows = own_journal key f.epoch own

    pub journal_kept : (e : ℕ) → e ≢ f.epoch → journal_in key more e ≡ journal_in key items e
    journal_kept e ne = other_journal key e (not_in_epoch key e (λ q. ne (sym q ∙ present)))

    made_more : (e : ℕ) (b : Bool) → (e == f.epoch) ≡ b → (c : Bool) → nat_le e f.epoch ≡ c → EachMade app fed key (front_in key es more e) (journal_in key more e)
    made_more e true is c le =
        let own_epoch : e ≡ f.epoch = eqb-true e f.epoch is in
        rw own_epoch
        (subst (λ l. EachMade app fed key l (journal_in key more f.epoch)) (sym (front_kept f.epoch (omega arith)))
        (subst (λ l. EachMade app fed key (front_in key es items f.epoch) l) (sym journal_grows) (made-push app fed key (front_in key es items f.epoch) (journal_in key items f.epoch) j (h.made f.epoch) m)))
    made_more e false ne true le =
        let other_epoch : e ≢ f.epoch = λ q. both_ways _ ne (eq-eqb e f.epoch q) in
        subst (λ l. EachMade app fed key l (journal_in key more e)) (sym (front_kept e (leb-true e f.epoch le)))
        (subst (λ l. EachMade app fed key (front_in key es items e) l) (sym (journal_kept e other_epoch)) (h.made e))
    made_more e false ne false gt =
        let other_epoch : e ≢ f.epoch = λ q. both_ways _ ne (eq-eqb e f.epoch q) in
        no_journal_made app fed key _ (journal_in key more e) (journal_kept e other_epoch ∙ journal_later app.cell_count es items key f e k flow (leb-false e f.epoch gt))

    closing : closing_in key f.epoch es ≡ Some f.last
    closing = (closes app.cell_count key es fits).last f flow

    -- the serial list and what it comes to with the item
    serial_more : serial_in key es more ≡ front_in key es items f.epoch ++ up_to f.last (journal_in key items f.epoch ++ j ∷ [])
    serial_more =
        serial_parts app.cell_count key es more f fits flow
        ∙ (ap (λ l. l ++ closed_in key es more f.epoch) (front_kept f.epoch (omega arith))
        ∙ ap (λ l. front_in key es items f.epoch ++ l) (ap (λ c. filter (is_closed c) (journal_in key more f.epoch)) closing ∙ ap (λ l. up_to f.last l) journal_grows))

    serial_now : serial_in key es items ≡ front_in key es items f.epoch ++ up_to f.last (journal_in key items f.epoch)
    serial_now = serial_parts app.cell_count key es items f fits flow ∙ ap (λ l. front_in key es items f.epoch ++ l) (ap (λ c. filter (is_closed c) (journal_in key items f.epoch)) closing)

    -- a committed item is clean, so the cells stay
    abbrev pub CleanIfClosed : Type 0
    CleanIfClosed = j.item.number ≤ f.last → (app.plain (ran app fed (front_in key es items f.epoch ++ journal_in key items f.epoch)) m.packet).0 ≡ []

    -- where the item is committed at once, the list is whole; where it isn't, the list is as it was
    pub serial_closed : j.item.number ≤ f.last → (serial_in key es items ≡ front_in key es items f.epoch ++ journal_in key items f.epoch) × (serial_in key es more ≡ serial_in key es items ++ j ∷ [])
    serial_closed le =
        let all : up_to f.last (journal_in key items f.epoch) ≡ journal_in key items f.epoch = number_of_all f.last (journal_in key items f.epoch) (lower f.last (journal_in key items f.epoch) above) in
        let one : up_to f.last (journal_in key items f.epoch ++ j ∷ []) ≡ journal_in key items f.epoch ++ j ∷ [] =
        number_of_all f.last (journal_in key items f.epoch ++ j ∷ []) (lower_push f.last (journal_in key items f.epoch) above) in
        let now : serial_in key es items ≡ front_in key es items f.epoch ++ journal_in key items f.epoch = serial_now ∙ ap (λ l. front_in key es items f.epoch ++ l) all in
        (now, serial_more ∙ (ap (λ l. front_in key es items f.epoch ++ l) one ∙ (sym (append_assoc (front_in key es items f.epoch) (journal_in key items f.epoch) (j ∷ [])) ∙ ap (λ l. l ++ j ∷ []) (sym now))))
      where
        lower : (b : ℕ) (js : List Journaled) → Each (λ (i : Journaled). i.item.number ≤ j.item.number) js → Each (λ (i : Journaled). i.item.number ≤ f.last) js
        lower b [] a = tt
        lower b (i ∷ js) a = (omega (arith, a.0), lower b js a.1)

        lower_push : (b : ℕ) (js : List Journaled) → Each (λ (i : Journaled). i.item.number ≤ j.item.number) js → Each (λ (i : Journaled). i.item.number ≤ f.last) (js ++ j ∷ [])
        lower_push b [] a = (le, tt)
        lower_push b (i ∷ js) a = (omega (arith, a.0), lower_push b js a.1)

    pub serial_open : f.last < j.item.number → serial_in key es more ≡ serial_in key es items
    serial_open lt = serial_more ∙ (ap (λ l. front_in key es items f.epoch ++ l) (up_to-push f.last (journal_in key items f.epoch) j lt) ∙ sym serial_now)

    committed_more : CleanIfClosed → (b : Bool) → nat_le j.item.number f.last ≡ b → f.cells ≡ ran app fed (serial_in key es more)
    committed_more clean true le =
        let s = serial_closed (leb-true j.item.number f.last le) in
        let cells : f.cells ≡ ran app fed (front_in key es items f.epoch ++ journal_in key items f.epoch) = h.committed f flow ∙ ap (λ l. ran app fed l) s.0 in
        cells
        ∙ (sym
        (ap (λ l. ran app fed l) (s.1 ∙ ap (λ l. l ++ j ∷ []) s.0)
        ∙ (ran-push app fed (front_in key es items f.epoch ++ journal_in key items f.epoch) j m.packet m.fed_at
        ∙ ap (λ d. written (ran app fed (front_in key es items f.epoch ++ journal_in key items f.epoch)) d) (clean (leb-true j.item.number f.last le)))))
    committed_more clean false gt = h.committed f flow ∙ ap (λ l. ran app fed l) (sym (serial_open (leb-false j.item.number f.last gt)))

    pub item_cells : CleanIfClosed → CellsOf app fed es more key
    item_cells clean =
        record {
          committed = λ g at. let e : f ≡ g = cc (sym flow ∙ at) in subst (λ (x : FlowRecord). x.cells ≡ ran app fed (serial_in key es more)) e (committed_more clean (nat_le j.item.number f.last) refl);
          made = λ e. made_more e (e == f.epoch) refl (nat_le e f.epoch) refl;
        }
