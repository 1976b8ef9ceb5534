-- What is promised of marks, from how often they stand in the rings.
use Rattle.std.proofs.Common.{◌≡◌, ◌≢◌, ◌⊎◌, inl, inr, ℕ, ◌+◌, ◌≤◌, List, [], ◌∷◌, ◌++◌, Option, Some, None, refl, sym, arith}
use Rattle.std.specs.Prelude.{◌==◌, flat_map}
use Rattle.rp_base.specs.declared.event.Event.{Event}
use Rattle.rp_app.specs.Application.{Application, IsApplication}
use Rattle.key_table.specs.Table.{Key, Table}
use Rattle.proto_model.specs.Ring.{Ring}
use Rattle.proto_model.specs.Slot.{Slot}
use Rattle.proto_model.specs.Feeds.{Each, Pairwise}
use Rattle.proto_model.specs.World.{World, Setup, SwitchNode, opened}
use Rattle.proto_model.specs.WorldStep.{world_after}
use Rattle.proto_safety.specs.Books.{In}
use Rattle.proto_safety.specs.CellLaws.{MarksStand, ring_marks, slot_marks, table_marks, all_ring_marks, asked_marks, journal_marks, released_marks}
use Rattle.proto_safety.proofs.Packets.RingMarks.{one, count_in, total}
use Rattle.proto_safety.proofs.Packets.SwitchMarks.{asked_in, rings_in, own_mark}
use Rattle.proto_safety.proofs.Packets.WorldMarks.{HasFed, MarksOf, asked_all, rings_all, marks_hold}

-- how often a mark stands in a list
abbrev count : ℕ → List ℕ → ℕ
count m [] = 0
count m (x ∷ xs) = one (x == m) + count m xs

counts_add : (m : ℕ) (xs ys : List ℕ) → count m (xs ++ ys) ≡ count m xs + count m ys
counts_add m [] ys = omega arith
counts_add m (x ∷ xs) ys = omega (arith, counts_add m xs ys)

is_counted : (m : ℕ) (xs : List ℕ) → In xs m → 1 ≤ count m xs
is_counted m [] i = absurd i
is_counted m (x ∷ xs) (inl e) = rw e (omega (arith, own_mark m))
is_counted m (x ∷ xs) (inr i) = omega (arith, is_counted m xs i)

all_differ : (x : ℕ) (ys : List ℕ) → count x ys ≡ 0 → Each (λ y. x ≢ y) ys
all_differ x [] none = tt
all_differ x (y ∷ ys) none = (λ e. absurd (omega (arith, none, is_counted x (y ∷ ys) (inl (sym e)))), all_differ x ys (omega (arith, none)))

-- a list in which each number stands at most once
differ_by_counts : (xs : List ℕ) → ((m : ℕ) → count m xs ≤ 1) → Pairwise (λ a b. a ≢ b) xs
differ_by_counts [] most = tt
differ_by_counts (x ∷ xs) most =
    (all_differ x xs (omega (arith, most x, own_mark x)), differ_by_counts xs (λ m. omega (arith, most m)))

ring_counts : (m : ℕ) (ring : Ring) → count m (ring_marks ring) ≡ count_in m ring
ring_counts m [] = refl
ring_counts m (place ∷ places) = place_case place (ring_counts m places)
  where
    place_case : (place : Option ℕ) → count m (ring_marks places) ≡ count_in m places → count m (ring_marks (place ∷ places)) ≡ count_in m (place ∷ places)
    place_case None rest = omega (arith, rest)
    place_case (Some n) rest = omega (arith, rest)

asked_counts : (m : ℕ) (slots : Table Slot) → count m (flat_map (λ (e : Key × Slot). ring_marks e.1.asked) slots) ≡ total (asked_in m) slots
asked_counts m [] = refl
asked_counts m (e ∷ es) = omega (arith, counts_add m (ring_marks e.1.asked) (flat_map (λ (e : Key × Slot). ring_marks e.1.asked) es), ring_counts m e.1.asked, asked_counts m es)

slot_counts : (m : ℕ) (slot : Slot) → count m (slot_marks slot) ≡ rings_in m slot
slot_counts m slot = omega (arith, counts_add m (ring_marks slot.asked) (ring_marks slot.held), ring_counts m slot.asked, ring_counts m slot.held)

table_counts : (m : ℕ) (slots : Table Slot) → count m (table_marks slots) ≡ total (rings_in m) slots
table_counts m [] = refl
table_counts m (e ∷ es) = omega (arith, counts_add m (slot_marks e.1) (table_marks es), slot_counts m e.1, table_counts m es)

all_counts : (m : ℕ) (nodes : List SwitchNode) → count m (flat_map (λ (n : SwitchNode). table_marks n.state.slots) nodes) ≡ rings_all m nodes
all_counts m [] = refl
all_counts m (n ∷ ns) = omega (arith, counts_add m (table_marks n.state.slots) (flat_map (λ (n : SwitchNode). table_marks n.state.slots) ns), table_counts m n.state.slots, all_counts m ns)

all_asked_counts : (m : ℕ) (nodes : List SwitchNode) → count m (flat_map (λ (n : SwitchNode). flat_map (λ (e : Key × Slot). ring_marks e.1.asked) n.state.slots) nodes) ≡ asked_all m nodes
all_asked_counts m [] = refl
all_asked_counts m (n ∷ ns) =
    omega (
      arith,
      counts_add m (flat_map (λ (e : Key × Slot). ring_marks e.1.asked) n.state.slots) (flat_map (λ (n : SwitchNode). flat_map (λ (e : Key × Slot). ring_marks e.1.asked) n.state.slots) ns),
      asked_counts m n.state.slots,
      all_asked_counts m ns,
    )

waits_in : (w : World) (m : ℕ) → In (all_ring_marks w) m → 1 ≤ rings_all m w.switches
waits_in w m i = omega (arith, is_counted m (all_ring_marks w) i, all_counts m w.switches)

was_fed : (w : World) (m : ℕ) → MarksOf w → In (all_ring_marks w) m ⊎ (In (journal_marks w) m ⊎ In (released_marks w) m) → HasFed w.history.fed m
was_fed w m h (inl i) = h.ring_fed m (waits_in w m i)
was_fed w m h (inr (inl i)) = h.item_fed m i
was_fed w m h (inr (inr i)) = h.release_fed m i

stand : (w : World) → MarksOf w → MarksStand w
stand w h =
    record {
      once_in_journals = h.items_once;
      once_in_rings = differ_by_counts (all_ring_marks w) (λ m. omega (arith, all_counts m w.switches, h.one m));
      asked_in_none = λ m i j. h.asked m (omega (arith, is_counted m (asked_marks w) i, all_asked_counts m w.switches)) j;
      not_released = λ m i r. h.unreleased m (waits_in w m i) r;
      were_fed = λ m i. let f = was_fed w m h i in (f.0, (f.1, f.2));
    }

pub marks_stand : (app : Application) → IsApplication app → (setup : Setup) (es : List Event) → MarksStand (world_after app (opened app.cell_count setup) es)
marks_stand app is_app setup es = stand _ (marks_hold app is_app setup es)

-- a mark is released at most once
pub released_once : (app : Application) → IsApplication app → (setup : Setup) (es : List Event) → Pairwise (λ (a b : ℕ). a ≢ b) (released_marks (world_after app (opened app.cell_count setup) es))
released_once app is_app setup es = (marks_hold app is_app setup es).released_once
