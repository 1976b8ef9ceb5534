-- The end lines of a world, from what is noted of each epoch of each flow.
use Rattle.std.proofs.Common.{◌≡◌, ℕ, [], ◌∷◌, ◌++◌, List, Result, Ok, Err, refl, sym, ap, ◌∙◌, map}
use Rattle.std.specs.Prelude.{flat_map, IfOk}
use Rattle.std.proofs.lemmas.List.{map-append}
use Rattle.rp_base.specs.declared.line.Line.{Line as Shown}
use Rattle.proto_data.specs.declared.message.Record.{Record}
use Rattle.proto_data.specs.declared.terms.Mode.{Mode}
use Rattle.key_table.specs.Table.{Key}
use Rattle.proto_model.specs.Records.{Booked, Records}
use Rattle.proto_model.specs.World.{World, Journaled, RoundBegun}
use Rattle.proto_model.specs.Committed.{closing, closed_items, committed_book, committed_records, epochs_of, journal, serial_marks}
use Rattle.proto_model.specs.EndLines.{item_lines, flow_lines, end_lines}
use Rattle.proto_model.specs.Kept.{kept, marks_in}
use Rattle.proto_model.specs.Lines.{Epoch, CellsLine, End}
use Rattle.proto_safety.proofs.Basics.Members.{flat_map_same}
use Rattle.run_history.specs.Shown.{shown}
use Rattle.run_history.proofs.ShownLines.{shown-both}
use Rattle.run_ending.specs.EpochNotes.{EpochNotes, all_marks, closed_marks, kept_in}
use Rattle.run_ending.specs.EpochTable.{Epochs, notes_at}
use Rattle.run_ending.specs.Endings.{epoch_at, epoch_line, flow_shown, closing_shown, grants_of, item_lines_in, noted, serial_in, IsEnd}
use Rattle.run_ending.proofs.GrantsOf.{granted-same}
use Rattle.run_ending.proofs.EpochsNoted.{noted_of}
use Rattle.run_ending.proofs.EpochLines.{all_same, closed_same, kept_same}

-- the notes of a world
abbrev notes_of : World → Epochs
notes_of w = noted (committed_book w) w.history.items w.history.rounds

closed_at : (w : World) (k : Key) (e : ℕ) → closed_marks (notes_at (notes_of w) (epoch_at k e)) ≡ map (λ (j : Journaled). j.item.mark) (closed_items w k e)
closed_at w k e = ap closed_marks (noted_of (committed_book w) w.history.items w.history.rounds k e) ∙ closed_same (closing w k e) k e 0 w.history.items

line_at : (w : World) (k : Key) (e : ℕ) → epoch_line (notes_of w) k e ∷ [] ≡ shown (Epoch k e (kept w k e) (marks_in (journal w k e)) ∷ [])
line_at w k e =
    ap (λ (n : EpochNotes). Shown.Epoch k e (kept_in n) (all_marks n) ∷ []) (noted_of (committed_book w) w.history.items w.history.rounds k e)
    ∙ (λ i. Shown.Epoch k e (kept_same w k e i) (all_same k e 0 w.history.items i) ∷ [])

lines_at : (w : World) (k : Key) (es : List ℕ) → map (epoch_line (notes_of w) k) es ≡ shown (map (λ e. Epoch k e (kept w k e) (marks_in (journal w k e))) es)
lines_at w k [] = refl
lines_at w k (e ∷ es) = λ i. line_at w k e i ++ lines_at w k es i

-- marks epoch by epoch
map_flat : (f : ℕ → List Journaled) (es : List ℕ) → map (λ (j : Journaled). j.item.mark) (flat_map f es) ≡ flat_map (λ e. map (λ (j : Journaled). j.item.mark) (f e)) es
map_flat f [] = refl
map_flat f (e ∷ es) = map-append (λ (j : Journaled). j.item.mark) (f e) (flat_map f es) ∙ ap (λ ms. map (λ (j : Journaled). j.item.mark) (f e) ++ ms) (map_flat f es)

serial_same : (w : World) (k : Key) → serial_in (notes_of w) k (epochs_of k (committed_book w)) ≡ serial_marks w k
serial_same w k =
    flat_map_same _ _ (epochs_of k (committed_book w)) (λ e _. closed_at w k e)
    ∙ sym (map_flat (closed_items w k) (epochs_of k (committed_book w)))

items_same : (m : Mode) (w : World) (k : Key) → item_lines_in m (notes_of w) k (epochs_of k (committed_book w)) ≡ shown (item_lines m w k)
items_same Mode.Strict w k = ap (λ ms. Shown.Serial k ms ∷ []) (serial_same w k)
items_same (Mode.Snapshot bound) w k = lines_at w k (epochs_of k (committed_book w))

flow_same : (w : World) (e : Key × Record) → flow_shown w.terms.mode (grants_of (committed_book w)) (notes_of w) e ≡ shown (flow_lines w e)
flow_same w e =
    ap (λ es. item_lines_in w.terms.mode (notes_of w) e.0 es ++ Shown.Cells e.0 e.1.cells ∷ []) (granted-same (committed_book w) e.0)
    ∙ ap (λ ls. ls ++ Shown.Cells e.0 e.1.cells ∷ []) (items_same w.terms.mode w e.0)
    ∙ sym (shown-both (item_lines w.terms.mode w e.0) (CellsLine e.0 e.1.cells ∷ []))

flows_same : (w : World) (es : List (Key × Record)) → flat_map (flow_shown w.terms.mode (grants_of (committed_book w)) (notes_of w)) es ≡ shown (flat_map (flow_lines w) es)
flows_same w [] = refl
flows_same w (e ∷ es) = (λ i. flow_same w e i ++ flows_same w es i) ∙ sym (shown-both (flow_lines w e) (flat_map (flow_lines w) es))

closing_of_world : (cells : ℕ) (w : World) → closing_shown w.terms.mode (grants_of (committed_book w)) (notes_of w) (committed_records cells w) ≡ shown (end_lines cells w)
closing_of_world cells w =
    ap (λ ls. ls ++ Shown.End ∷ []) (flows_same w (committed_records cells w))
    ∙ sym (shown-both (flat_map (flow_lines w) (committed_records cells w)) (End ∷ []))

-- the end lines, where these are the mode, the records, the book and the history of the world
pub closing_same : (cells : ℕ) (w : World) (m : Mode) (rs : Records) (bs : List Booked) (js : List Journaled) (rounds : List RoundBegun) → IsEnd cells w m rs bs js rounds →
    closing_shown m (grants_of bs) (noted bs js rounds) rs ≡ shown (end_lines cells w)
closing_same cells w m rs bs js rounds end =
    (λ i. closing_shown (sym end.mode i) (grants_of (sym end.book i)) (noted (sym end.book i) (sym end.items i) (sym end.rounds i)) (end.records i))
    ∙ closing_of_world cells w

-- what holds of an answer, and what follows
pub on_ok : {T E : Type 0} {P Q : T → Type 0} (r : Result T E) → IfOk r P → ((x : T) → P x → Q x) → IfOk r Q
on_ok (Ok x) h f = f x h
on_ok (Err e) h f = tt
