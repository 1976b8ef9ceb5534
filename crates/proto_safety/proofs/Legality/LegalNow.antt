-- The history of one world is legal, given what is known of its cells and its releases.
use Rattle.std.proofs.Common.{◌≡◌, ◌≢◌, ℕ, ◌≤◌, ◌<◌, List, [], ◌∷◌, ◌++◌, map, Option, Some, None, arith, refl, sym, ◌∙◌, ap, subst, true, false, Bool, inl, inr, eqb-true, eq-eqb, filter}
use Rattle.std.specs.Prelude.{option_and_then, option_map, unwrap_or, find, if◌then◌else◌, ◌==◌, not, flat_map, fold}
use Rattle.std.specs.List.{cons_option}
use Rattle.std.proofs.lemmas.Bool.{both_ways}
use Rattle.std.proofs.lemmas.List.{map-append}
use Rattle.proto_data.specs.declared.message.Entry.{Entry}
use Rattle.proto_data.specs.declared.message.Record.{Record}
use Rattle.rp_app.specs.Application.{Application, zeros}
use Rattle.key_table.specs.Table.{Key, Table, same_key, get}
use Rattle.proto_model.specs.Feeds.{Each, Pairwise, packet_at, key_at}
use Rattle.proto_model.specs.Records.{Booked, Records, applied, put_applied, snap_applied}
use Rattle.proto_model.specs.Committed.{committed_flow, committed_flows, closing_of, epochs_of, epoch_granted, is_in, is_closed, committed_book, committed_records, serial, serial_marks}
use Rattle.rp_base.specs.declared.legality.Flow.{Flow}
use Rattle.proto_model.specs.Stands.{entries_of}
use Rattle.proto_model.specs.Legal.{IsLegal, IsOutputIn, StandsIn, ReleasedBefore, marks_of, marks_before, all_marks, folded}
use Rattle.proto_model.specs.World.{World, Journaled}
use Rattle.rp_base.specs.declared.legality.Fed.{Fed}
use Rattle.rp_base.specs.declared.legality.Released.{Released}
use Rattle.proto_safety.specs.Books.{In, committed_of}
use Rattle.proto_safety.specs.Flows.{FlowRecord, FitsFrom, flow_in, flow_of}
use Rattle.proto_safety.proofs.Serial.CellFacts.{closing_entries}
use Rattle.proto_safety.proofs.Serial.CellsFed.{items_found}
use Rattle.proto_safety.proofs.Packets.FedMarks.{fed_found}
use Rattle.proto_safety.proofs.Store.FlowBooks.{book_flow}
use Rattle.proto_safety.proofs.Serial.FlowCells.{CellsOf, ItemsKnown}
use Rattle.proto_safety.proofs.Legality.ReleasesStep.{Shown, keyless, of_item}
use Rattle.proto_safety.proofs.Serial.SerialLists.{epochs_in, journal_in, closed_in, serial_in}
use Rattle.proto_safety.proofs.Serial.SerialOnce.{OtherItem, PlaceIn, serial_of, serial_once, serial_place}
use Rattle.proto_safety.proofs.Basics.TableKeys.{KeysDiffer, differ_put, member_found}
use Rattle.key_table.proofs.Tables.{same_key-refl, same_key-true}
use Rattle.proto_safety.proofs.Legality.WorldOrder.{Placed, Ordered, unkeyed, placed, OrderIn}
use Rattle.proto_safety.proofs.Legality.WorldShown.{ShownIn}
use Rattle.proto_safety.proofs.Basics.Eachs.{each_all, each_in, each_mapped}
use Rattle.proto_safety.proofs.Basics.Lists.{while_off, while_on}
use Rattle.proto_safety.proofs.Basics.Members.{among_in, flat_map_same, in_middle}
use Rattle.proto_safety.proofs.Basics.Pairs.{pairwise_all, pairwise_flat, pairwise_in, pairwise_mapped, pairwise_with}

-- ---- lists

-- what stands before an item's place, of the items with its mark
before_place : (xs pre post : List Journaled) (i : Journaled) → Pairwise OtherItem xs → xs ≡ pre ++ i ∷ post → Pairwise (λ (a b : Journaled). i.item.mark ≡ b.item.mark → In pre a) xs
before_place [] pre post i once is = tt
before_place (x ∷ xs) [] post i once is =
    let e : x ≡ i = cc in
    let other : (b : Journaled) → In xs b → i.item.mark ≡ b.item.mark → ⊥ = λ b j same. each_in (OtherItem x) xs b once.0 j (ap (λ (y : Journaled). y.item.mark) e ∙ same) in
    (each_all (λ (b : Journaled). i.item.mark ≡ b.item.mark → In [] x) xs (λ b j same. other b j same), pairwise_in (λ (a b : Journaled). i.item.mark ≡ b.item.mark → In [] a) xs (λ a b k j same. other b j same))
before_place (x ∷ xs) (p ∷ ps) post i once is =
    let e : x ≡ p = cc in
    let tail : xs ≡ ps ++ i ∷ post = cc in (
      each_all (λ (b : Journaled). i.item.mark ≡ b.item.mark → In (p ∷ ps) x) xs (λ b j same. inl (sym e)),
      pairwise_with (λ (a b : Journaled). i.item.mark ≡ b.item.mark → In ps a) (λ (a b : Journaled). i.item.mark ≡ b.item.mark → In (p ∷ ps) a) xs (before_place xs ps post i once.1 tail) (λ a b k j s same. inr (s same)),
    )

-- the marks before an item's
before_marks : (pre post : List Journaled) (j : Journaled) (m : ℕ) → j.item.mark ≡ m → Pairwise OtherItem (pre ++ j ∷ post) → marks_before (map (λ (x : Journaled). x.item.mark) (pre ++ j ∷ post)) m ≡ map (λ (x : Journaled). x.item.mark) pre
before_marks [] post j m is once = while_off (λ n. not (n == m)) j.item.mark (map (λ (x : Journaled). x.item.mark) post) (ap not (eq-eqb j.item.mark m is))
before_marks (x ∷ pre) post j m is once =
    while_on (λ n. not (n == m)) x.item.mark (map (λ (x : Journaled). x.item.mark) (pre ++ j ∷ post)) (ap not (not_same (x.item.mark == m) refl)) ∙ ap (λ l. x.item.mark ∷ l) (before_marks pre post j m is once.1)
  where
    not_same : (b : Bool) → (x.item.mark == m) ≡ b → b ≡ false
    not_same true e = absurd (each_in (OtherItem x) (pre ++ j ∷ post) j once.0 (in_middle pre post j) (eqb-true x.item.mark m e ∙ sym is))
    not_same false e = refl

-- ---- the serial lists of books

pub epochs_same : (key : Key) (book : List Booked) → epochs_of key book ≡ epochs_in key (entries_of book)
epochs_same key [] = refl
epochs_same key (b ∷ bs) = same_case (epoch_granted key b.entry) (epochs_same key bs)
  where
    same_case : (o : Option ℕ) → epochs_of key bs ≡ epochs_in key (entries_of bs) → cons_option o (epochs_of key bs) ≡ cons_option o (epochs_in key (entries_of bs))
    same_case None e = e
    same_case (Some x) e = ap (λ l. x ∷ l) e

pub serial_same : (w : World) (key : Key) → serial w key ≡ serial_in key (committed_of w.replicas) w.history.items
serial_same w key =
    ap (λ l. flat_map (λ e. filter (is_closed (closing_of key e (committed_book w))) (filter (is_in key e) w.history.items)) l) (epochs_same key (committed_book w))
    ∙ flat_map_same (λ e. filter (is_closed (closing_of key e (committed_book w))) (filter (is_in key e) w.history.items)) (closed_in key (committed_of w.replicas) w.history.items) (epochs_in key (committed_of w.replicas))
    (λ e i. ap (λ c. filter (is_closed c) (journal_in key w.history.items e)) (closing_entries key e (committed_book w)))

-- ---- records

pub records_differ : (n : ℕ) (book : List Booked) (records : Records) → KeysDiffer records → KeysDiffer (fold (λ rs (b : Booked). applied n rs b.entry b.moment) records book)
records_differ n [] records h = h
records_differ n (b ∷ bs) records h = records_differ n bs (applied n records b.entry b.moment) (applied_differ records b.entry b.moment h)
  where
    put_differ : (records : Records) (key : Key) (number : ℕ) (delta : _) (now : ℕ) (o : Option Record) → KeysDiffer records → KeysDiffer (put_applied records key number delta now o)
    put_differ records key number delta now None h = h
    put_differ records key number delta now (Some r) h = differ_put records key _ h

    snap_differ : (records : Records) (key : Key) (round : ℕ) (values : List ℕ) (now : ℕ) (o : Option Record) → KeysDiffer records → KeysDiffer (snap_applied records key round values now o)
    snap_differ records key round values now None h = h
    snap_differ records key round values now (Some r) h = differ_put records key _ h

    applied_differ : (records : Records) (x : Entry) (now : ℕ) → KeysDiffer records → KeysDiffer (applied n records x now)
    applied_differ records (Entry.Grant key epoch switch inc nonce) now h = differ_put records key _ h
    applied_differ records (Entry.Put key epoch number delta) now h = put_differ records key number delta now (get records key) h
    applied_differ records (Entry.Snap key epoch round values) now h = snap_differ records key round values now (get records key) h

-- the marks of a key with a record
marks_found : (f : Key → List ℕ) (t : Table Record) (key : Key) (r : Record) → get t key ≡ Some r → marks_of (map (λ (e : Key × Record). record { key = e.0; marks = f e.0; cells = e.1.cells }) t) key ≡ f key
marks_found f [] key r at = cc
marks_found f (e ∷ es) key r at = found_case (same_key e.0 key) refl at (marks_found f es key r)
  where
    found_case : (b : Bool) → same_key e.0 key ≡ b → (if b then Some e.1 else get es key) ≡ Some r → (get es key ≡ Some r → marks_of (map (λ (x : Key × Record). record { key = x.0; marks = f x.0; cells = x.1.cells }) es) key ≡ f key) →
        unwrap_or (option_map (λ (c : Flow). c.marks) (if b then Some (record { key = e.0; marks = f e.0; cells = e.1.cells }) else find (λ (c : Flow). same_key c.key key) (map (λ (x : Key × Record). record { key = x.0; marks = f x.0; cells = x.1.cells }) es))) [] ≡ f key
    found_case true is at rest = ap f (same_key-true e.0 key is)
    found_case false is at rest = rest at

-- ---- the world

-- what is known of a world whose history is legal
pub record LegalFacts (app : Application) (w : World) : Type 0 where
  pub fits : (key : Key) → FitsFrom app.cell_count key None (committed_of w.replicas)
  pub known : (key : Key) → ItemsKnown app.cell_count (committed_of w.replicas) w.history.items key
  pub flows : (key : Key) → CellsOf app w.history.fed (committed_of w.replicas) w.history.items key
  pub once : Pairwise OtherItem w.history.items
  pub released_once : Pairwise (λ (a b : Released). a.output.mark ≢ b.output.mark) w.history.released
  pub shown : ShownIn app w
  pub order : OrderIn app w
  pub none_early : (m : ℕ) → ¬ ReleasedBefore w.history.fed w.history.released m m

module _ (app : Application) (w : World) (f : LegalFacts app w) where
  abbrev es : List Entry
  es = committed_of w.replicas

  abbrev items : List Journaled
  items = w.history.items

  abbrev fed : List Fed
  fed = w.history.fed

  abbrev released : List Released
  released = w.history.released

  abbrev mark : Journaled → ℕ
  mark j = j.item.mark

  abbrev flows : List Flow
  flows = committed_flows app.cell_count w

  marks_same : (key : Key) → serial_marks w key ≡ map mark (serial_in key es items)
  marks_same key = ap (λ l. map mark l) (serial_same w key)

  keyed : (key : Key) (j : Journaled) → In (serial_in key es items) j → key_at app fed j.item.mark ≡ Some key
  keyed key j i =
      let s = serial_of key es items j i in
      let p = items_found app fed es items f.flows j s.0 in
      ap (λ o. option_and_then app.key_of o) p.1.0 ∙ (p.1.1 ∙ ap Some s.1)

  once_in : (key : Key) → Pairwise OtherItem (serial_in key es items)
  once_in key = serial_once app.cell_count key es items (f.fits key) f.once

  record_flow : (key : Key) → option_map flow_in (get (committed_records app.cell_count w) key) ≡ flow_of app.cell_count key es
  record_flow key = book_flow app.cell_count key (committed_book w) []

  -- of the flows with a record
  flow_each : (P : Flow → Type 0) → ((key : Key) (r : Record) → get (committed_records app.cell_count w) key ≡ Some r → P (committed_flow w (key, r))) → Each P flows
  flow_each P h =
      each_mapped P (committed_flow w) (committed_records app.cell_count w)
      (each_all (λ (e : Key × Record). P (committed_flow w e)) (committed_records app.cell_count w)
      (λ e i. h e.0 e.1 (member_found (committed_records app.cell_count w) e (records_differ app.cell_count (committed_book w) [] tt) i)))

  -- the cells of a record
  cells_are : (key : Key) (r : Record) → get (committed_records app.cell_count w) key ≡ Some r → r.cells ≡ folded app fed (serial_marks w key)
  cells_are key r at =
      let flow : flow_of app.cell_count key es ≡ Some (flow_in r) = sym (record_flow key) ∙ ap (λ o. option_map flow_in o) at in
      (f.flows key).committed (flow_in r) flow ∙ ap (λ l. folded app fed l) (sym (marks_same key))

  with_key : (key : Key) → Each (λ m. key_at app fed m ≡ Some key) (serial_marks w key)
  with_key key =
      subst (λ l. Each (λ m. key_at app fed m ≡ Some key) l) (sym (marks_same key))
      (each_mapped (λ m. key_at app fed m ≡ Some key) mark (serial_in key es items) (each_all (λ (j : Journaled). key_at app fed j.item.mark ≡ Some key) (serial_in key es items) (λ j i. keyed key j i)))

  -- the marks of a key that has an item
  marks_are : (key : Key) (j : Journaled) → In (serial_in key es items) j → marks_of flows key ≡ map mark (serial_in key es items)
  marks_are key j i =
      let s = serial_of key es items j i in
      let g = (f.known key).granted j s.0 s.1 in
      record_case g.0 g.1.0 (get (committed_records app.cell_count w) key) refl
    where
      record_case : (g : FlowRecord) → flow_of app.cell_count key es ≡ Some g → (o : Option Record) → get (committed_records app.cell_count w) key ≡ o → marks_of flows key ≡ map mark (serial_in key es items)
      record_case g is None at = let no : None ≡ Some g = ap (λ o. option_map flow_in o) (sym at) ∙ (record_flow key ∙ is) in cc
      record_case g is (Some r) at = marks_found (serial_marks w) (committed_records app.cell_count w) key r at ∙ marks_same key

  -- ---- releases

  from_item : (r : Released) (key : Key) (j : Journaled) → In (serial_in key es items) j → j.item.mark ≡ r.output.mark → j.output ≡ Some r.output →
      StandsIn (marks_of flows key) r.output.mark × IsOutputIn app fed (folded app fed (marks_before (marks_of flows key) r.output.mark)) r.output
  from_item r key j i is out =
      let p : PlaceIn app fed key (serial_in key es items) j = serial_place app fed key es items j (f.fits key) (f.known key).rise (f.flows key) i in
      let all : marks_of flows key ≡ map mark (p.pre ++ j ∷ p.post) = marks_are key j i ∙ ap (λ l. map mark l) p.is in
      let front : marks_before (marks_of flows key) r.output.mark ≡ map mark p.pre =
      ap (λ l. marks_before l r.output.mark) all ∙ before_marks p.pre p.post j r.output.mark is (subst (λ l. Pairwise OtherItem l) p.is (once_in key)) in (
        (map mark p.pre, (map mark p.post, ap (λ m. map mark p.pre ++ m ∷ map mark p.post) (sym is) ∙ (sym (map-append mark p.pre (j ∷ p.post)) ∙ sym all))),
        (p.made.packet, ap (λ m. packet_at fed m) (sym is) ∙ p.made.fed_at, subst (λ l. (app.plain (folded app fed l) p.made.packet).1 ≡ Some r.output) (sym front) (sym p.made.output_is ∙ out)),
      )

  from_list : (r : Released) (key : Key) → key_at app fed r.output.mark ≡ Some key → Shown app fed es items r.output →
      StandsIn (marks_of flows key) r.output.mark × IsOutputIn app fed (folded app fed (marks_before (marks_of flows key) r.output.mark)) r.output
  from_list r key is (keyless p at of out) = let no : None ≡ Some key = sym of ∙ (ap (λ o. option_and_then app.key_of o) (sym at) ∙ is) in cc
  from_list r key is (of_item k j i m out at) =
      let same : Some k ≡ Some key = sym at ∙ is in
      let e : k ≡ key = cc in
      from_item r key j (subst (λ x. In (serial_in x es items) j) e i) m out

  without_key : (r : Released) → key_at app fed r.output.mark ≡ None → Shown app fed es items r.output → IsOutputIn app fed (zeros app.cell_count) r.output
  without_key r is (keyless p at of out) = (p, at, out)
  without_key r is (of_item k j i m out at) = let no : None ≡ Some k = sym is ∙ at in cc

  -- ---- the order

  abbrev FedBy : Released → Journaled → Journaled → Type 0
  FedBy r a b = r.output.mark ≡ b.item.mark → (x : Fed) → In fed x → x.packet.mark ≡ a.item.mark → x.event ≤ r.event

  abbrev InReleased : Type 0
  InReleased = (r : Released) × In released r

  release_order : (key : Key) (r : Released) → Ordered app fed es items r → Pairwise (FedBy r) (serial_in key es items)
  release_order key r (unkeyed p at of) =
      pairwise_in (FedBy r) (serial_in key es items)
      (λ a b i j same x k is. let no : None ≡ Some key = sym of ∙ (ap (λ o. option_and_then app.key_of o) (sym at) ∙ (ap (λ m. key_at app fed m) same ∙ keyed key b j)) in cc)
  release_order key r (placed k at p) = key_case (same_key k key) refl
    where
      key_case : (b : Bool) → same_key k key ≡ b → Pairwise (FedBy r) (serial_in key es items)
      key_case false ne =
          pairwise_in (FedBy r) (serial_in key es items)
          (λ a b i j same x l is.
          let both : Some k ≡ Some key = sym at ∙ (ap (λ m. key_at app fed m) same ∙ keyed key b j) in
          let e : k ≡ key = cc in absurd (both_ways _ ne (rw e (same_key-refl key))))
      key_case true same =
          let q : Placed fed (serial_in key es items) r.event r.output.mark = subst (λ x. Placed fed (serial_in x es items) r.event r.output.mark) (same_key-true k key same) p in
          pairwise_with (λ (a b : Journaled). q.item.item.mark ≡ b.item.mark → In q.pre a) (FedBy r) (serial_in key es items) (before_place (serial_in key es items) q.pre q.post q.item (once_in key) q.is)
          (λ a b i j s one x l is. q.earlier a (s (q.mark_is ∙ one)) x l is)

  order_in : (key : Key) → Pairwise (λ q m. ¬ ReleasedBefore fed released m q) (serial_marks w key)
  order_in key =
      subst (λ l. Pairwise (λ q m. ¬ ReleasedBefore fed released m q) l) (sym (marks_same key))
      (pairwise_mapped (λ q m. ¬ ReleasedBefore fed released m q) mark (serial_in key es items)
      (pairwise_with (λ (a b : Journaled). (r : InReleased) → FedBy r.0 a b) (λ (a b : Journaled). ¬ ReleasedBefore fed released b.item.mark a.item.mark) (serial_in key es items)
      (pairwise_all (λ (r : InReleased) a b. FedBy r.0 a b) (serial_in key es items) (λ r. release_order key r.0 (f.order.at r.0 r.1)))
      (λ a b i j h. not_before a b h)))
    where
      not_before : (a b : Journaled) → ((r : InReleased) → FedBy r.0 a b) → ¬ ReleasedBefore fed released b.item.mark a.item.mark
      not_before a b h x =
          let g = fed_found fed a.item.mark x.1 x.3 in
          let le : x.1.event ≤ x.0.event = h (x.0, among_in released x.0 x.2) x.4 x.1 g.0 g.1 in
          let lt : x.0.event < x.1.event = x.5 in absurd (omega arith)

  -- ---- marks differ

  each_mark_once : Pairwise (λ a b. a ≢ b) (all_marks flows)
  each_mark_once =
      pairwise_flat (λ (a b : Flow). (a.key ≢ b.key) × (In flows a × In flows b)) (λ (a b : ℕ). a ≢ b) (λ (c : Flow). c.marks) flows
      (pairwise_with (λ (a b : Flow). a.key ≢ b.key) (λ (a b : Flow). (a.key ≢ b.key) × (In flows a × In flows b)) flows
      (pairwise_mapped (λ (a b : Flow). a.key ≢ b.key) (committed_flow w) (committed_records app.cell_count w) (records_differ app.cell_count (committed_book w) [] tt))
      (λ a b i j ne. (ne, (i, j))))
      (λ c i. each_in (λ (c : Flow). Pairwise (λ a b. a ≢ b) c.marks) flows c once_each i)
      (λ c d a b s i j same.
      let x : key_at app fed a ≡ Some c.key = each_in (λ m. key_at app fed m ≡ Some c.key) c.marks a (each_in (λ (c : Flow). Each (λ m. key_at app fed m ≡ Some c.key) c.marks) flows c keyed_each s.1.0) i in
      let y : key_at app fed b ≡ Some d.key = each_in (λ m. key_at app fed m ≡ Some d.key) d.marks b (each_in (λ (c : Flow). Each (λ m. key_at app fed m ≡ Some c.key) c.marks) flows d keyed_each s.1.1) j in
      let z : Some c.key ≡ Some d.key = sym x ∙ (ap (λ m. key_at app fed m) same ∙ y) in
      let e : c.key ≡ d.key = cc in s.0 e)
    where
      keyed_each : Each (λ (c : Flow). Each (λ m. key_at app fed m ≡ Some c.key) c.marks) flows
      keyed_each = flow_each (λ (c : Flow). Each (λ m. key_at app fed m ≡ Some c.key) c.marks) (λ key r at. with_key key)

      once_each : Each (λ (c : Flow). Pairwise (λ a b. a ≢ b) c.marks) flows
      once_each =
          flow_each (λ (c : Flow). Pairwise (λ a b. a ≢ b) c.marks)
          (λ key r at. subst (λ l. Pairwise (λ a b. a ≢ b) l) (sym (marks_same key)) (pairwise_mapped (λ a b. a ≢ b) mark (serial_in key es items) (once_in key)))

  pub legal_now : IsLegal app w
  legal_now =
      record {
        fed_with_key = flow_each (λ (c : Flow). Each (λ m. key_at app fed m ≡ Some c.key) c.marks) (λ key r at. with_key key);
        each_once = each_mark_once;
        released_from_list = each_all (λ (r : Released). (key : Key) → key_at app fed r.output.mark ≡ Some key → StandsIn (marks_of flows key) r.output.mark × IsOutputIn app fed (folded app fed (marks_before (marks_of flows key) r.output.mark)) r.output) released (λ r i key is. from_list r key is (f.shown.at r i));
        released_once = f.released_once;
        in_order = flow_each (λ (c : Flow). Pairwise (λ q m. ¬ ReleasedBefore fed released m q) c.marks) (λ key r at. order_in key);
        none_early = each_all (λ (c : Flow). Each (λ m. ¬ ReleasedBefore fed released m m) c.marks) flows (λ c i. each_all (λ m. ¬ ReleasedBefore fed released m m) c.marks (λ m j. f.none_early m));
        cells_folded = flow_each (λ (c : Flow). c.cells ≡ folded app fed c.marks) (λ key r at. cells_are key r at);
        released_without_key = each_all (λ (r : Released). key_at app fed r.output.mark ≡ None → IsOutputIn app fed (zeros app.cell_count) r.output) released (λ r i is. without_key r is (f.shown.at r i));
      }
