-- The cells and the notes after one mark more, and after one list more.
use Rattle.std.proofs.Common.{◌≡◌, ◌∙◌, ℕ, ◌+◌, ◌<◌, List, [], ◌∷◌, ◌++◌, Option, Some, None, refl, sym, ap, subst, length, take, drop, get_or, All}
use Rattle.std.specs.Prelude.{max, nat_eq}
use Rattle.std.specs.List.{cons_option}
use Rattle.std.proofs.lemmas.List.{take_more, flat_map_more}
use Rattle.std.proofs.lemmas.List.Elements.{filter_map-append}
use Rattle.std.proofs.lemmas.List.Sums.{fold-append}
use Rattle.std.proofs.Math.Seq.{drop-cons}
use Rattle.std.proofs.Math.Numerals.{add-one}
use Rattle.indexmap.specs.IndexMap.{insert_entry}
use Rattle.rp_base.specs.declared.legality.Fed.{Fed}
use Rattle.rp_base.specs.declared.legality.Flow.{Flow}
use Rattle.rp_base.specs.declared.node.Output.{Output}
use Rattle.rp_base.specs.declared.node.Packet.{Packet}
use Rattle.rp_app.specs.Application.{Application, Delta, IsApplication, after, after_one, zeros}
use Rattle.rp_app.proofs.Deltas.{each_below}
use Rattle.proto_model.specs.Feeds.{packet_at, packets_at}
use Rattle.proto_model.specs.Legal.{folded}
use Rattle.report_audit.specs.declared.notes.Note.{Note}
use Rattle.report_audit.specs.Rising.{processed}
use Rattle.report_audit.specs.Notes.{Noted, notes_from, notes_of, notes_along, all_noted}

-- a packet writes cells that there are
pub writes_within : (app : Application) → IsApplication app → (cells : List ℕ) (p : Packet) (delta : Delta) (out : Option Output) → length cells ≡ app.cell_count → (delta, out) ≡ app.plain cells p →
    All (λ (d : ℕ × ℕ). d.0 < length cells) delta
writes_within app keeps cells p delta out many is =
    let wrote : (app.plain cells p).0 ≡ delta = sym (ap (λ (x : Delta × Option Output). x.0) is) in
    subst (λ n. All (λ (d : ℕ × ℕ). d.0 < n) delta) (sym many)
    (subst (All (λ (d : ℕ × ℕ). d.0 < app.cell_count)) wrote (each_below app.cell_count (app.plain cells p).0 (keeps.cells cells p many)))

module _ (app : Application) (feeds : List Fed) where
  fold_step : (marks : List ℕ) (m : ℕ) → folded app feeds (marks ++ m ∷ []) ≡ (processed app (folded app feeds marks) (packet_at feeds m)).0
  fold_step marks m =
      ap (after app (zeros app.cell_count)) (filter_map-append (packet_at feeds) marks (m ∷ []))
      ∙ fold-append (after_one app) (zeros app.cell_count) (packets_at feeds marks) (packets_at feeds (m ∷ []))
      ∙ by (packet_at feeds m)
    where
      by : (o : Option Packet) → after app (folded app feeds marks) (cons_option o []) ≡ (processed app (folded app feeds marks) o).0
      by None = refl
      by (Some p) = refl

  -- the cells after one mark more of a list
  module _ (marks : List ℕ) (n : ℕ) (lt : n < length marks) (cells new_cells : List ℕ) (out : Option Output) (step : (new_cells, out) ≡ processed app cells (packet_at feeds (get_or marks n 0))) where
    abbrev m : ℕ
    m = get_or marks n 0

    pub cells_turn : cells ≡ folded app feeds (take n marks) → new_cells ≡ folded app feeds (take (n + 1) marks)
    cells_turn is =
        ap (λ (x : List ℕ × Option Output). x.0) step
        ∙ ap (λ cs. (processed app cs (packet_at feeds m)).0) is
        ∙ sym (fold_step (take n marks) m)
        ∙ ap (folded app feeds) (sym (take_more marks n 0 lt))

    -- and its notes
    pub notes_turn : (entries new whole : Noted) (g top : ℕ) → top ≡ max g m → new ≡ insert_entry nat_eq entries m (record { greatest = top; output = out }) →
        all_noted entries (notes_from app feeds cells g (drop n marks)) ≡ whole → all_noted new (notes_from app feeds new_cells top (drop (n + 1) marks)) ≡ whole
    notes_turn entries new whole g top t is h =
        let c : new_cells ≡ (processed app cells (packet_at feeds m)).0 = ap (λ (x : List ℕ × Option Output). x.0) step in
        let o : out ≡ (processed app cells (packet_at feeds m)).1 = ap (λ (x : List ℕ × Option Output). x.1) step in
        let e : new ≡ insert_entry nat_eq entries m (record { greatest = max g m; output = (processed app cells (packet_at feeds m)).1 }) =
        is ∙ (λ i. insert_entry nat_eq entries m (record { greatest = t i; output = o i })) in
        let front : drop n marks ≡ m ∷ drop (n + 1) marks = drop-cons marks n 0 lt ∙ ap (λ k. m ∷ drop k marks) (sym (add-one n)) in
        (λ i. all_noted (e i) (notes_from app feeds (c i) (t i) (drop (n + 1) marks)))
        ∙ ap (λ l. all_noted entries (notes_from app feeds cells g l)) (sym front)
        ∙ h

  -- the notes after one list more
  pub notes_more : (done : List Flow) (f : Flow) (old entries new : Noted) → entries ≡ all_noted old (notes_along app feeds done) → new ≡ all_noted entries (notes_of app feeds f.marks) →
      new ≡ all_noted old (notes_along app feeds (done ++ f ∷ []))
  notes_more done f old entries new had is =
      is ∙ ap (λ e. all_noted e (notes_of app feeds f.marks)) had ∙ sym (fold-append (λ (done : Noted) (p : ℕ × Note). insert_entry nat_eq done p.0 p.1) old (notes_along app feeds done) (notes_of app feeds f.marks))
      ∙ ap (all_noted old) (flat_map_more (λ (x : Flow). notes_of app feeds x.marks) [] done f)
