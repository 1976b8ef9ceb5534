-- What is found among the notes of serial lists.
use Rattle.std.proofs.Common.{◌≡◌, ◌≢◌, ◌∙◌, ℕ, ◌≤◌, List, [], ◌∷◌, ◌++◌, Option, Some, None, Bool, true, false, map, refl, sym, ap, subst, inl, inr, arith, eq-eqb, eqb-true, append-nil}
use Rattle.std.specs.Prelude.{if◌then◌else◌, nat_eq, max}
use Rattle.std.specs.List.{cons_option}
use Rattle.std.proofs.lemmas.Bool.{ne_eqb}
use Rattle.std.proofs.lemmas.List.{append_assoc, map-append}
use Rattle.std.proofs.lemmas.List.Concat.{flat_map-cons}
use Rattle.indexmap.specs.IndexMap.{insert_entry}
use Rattle.rp_base.specs.declared.legality.Fed.{Fed}
use Rattle.rp_base.specs.declared.legality.Flow.{Flow}
use Rattle.rp_base.specs.declared.node.Packet.{Packet}
use Rattle.rp_app.specs.Application.{Application, after, zeros}
use Rattle.proto_model.specs.Feeds.{Each, Pairwise, packet_at, packets_at}
use Rattle.proto_model.specs.Legal.{all_marks}
use Rattle.proto_safety.specs.Books.{In}
use Rattle.proto_safety.proofs.Basics.Eachs.{each_in}
use Rattle.report_audit.specs.declared.notes.Note.{Note}
use Rattle.report_audit.specs.Rising.{processed}
use Rattle.report_audit.specs.Notes.{Noted, notes_from, notes_of, notes_along, all_noted, note_at}
use Rattle.report_audit.proofs.Parts.{each_before}

-- ---- any notes, their marks differing

abbrev pub Differ : ℕ × Note → ℕ × Note → Type 0
Differ a b = a.0 ≢ b.0

fresh_last : (es : Noted) (k : ℕ) (v : Note) → Each (λ (e : ℕ × Note). e.0 ≢ k) es → insert_entry nat_eq es k v ≡ es ++ (k, v) ∷ []
fresh_last [] k v h = refl
fresh_last (e ∷ es) k v h = let no : nat_eq k e.0 ≡ false = ne_eqb k e.0 (λ s. h.0 (sym s)) in rw no (ap (λ l. e ∷ l) (fresh_last es k v h.1))

-- where no mark comes twice, more notes come behind
pub all_fresh : (es xs : Noted) → Pairwise Differ (es ++ xs) → all_noted es xs ≡ es ++ xs
all_fresh es [] h = sym (append-nil es)
all_fresh es (x ∷ xs) h =
    let one : insert_entry nat_eq es x.0 x.1 ≡ es ++ x ∷ [] = fresh_last es x.0 x.1 (each_before Differ es x xs h) in
    let whole : (es ++ x ∷ []) ++ xs ≡ es ++ x ∷ xs = append_assoc es (x ∷ []) xs in
    ap (λ l. all_noted l xs) one ∙ all_fresh (es ++ x ∷ []) xs (subst (Pairwise Differ) (sym whole) h) ∙ whole

pub found_in : (es : Noted) (m : ℕ) (n : Note) → note_at es m ≡ Some n → In es (m, n)
found_in [] m n h = absurd cc
found_in (e ∷ es) m n h = by (nat_eq m e.0) refl h (found_in es m n)
  where
    by : (b : Bool) → nat_eq m e.0 ≡ b → (if b then Some e.1 else note_at es m) ≡ Some n → (note_at es m ≡ Some n → In es (m, n)) → In (e ∷ es) (m, n)
    by true is h rest =
        let mark : e.0 ≡ m = sym (eqb-true m e.0 is) in
        let note : e.1 ≡ n = cc in
        inl (λ i. (mark i, note i))
    by false is h rest = inr (rest h)

pub in_found : (es : Noted) (m : ℕ) (n : Note) → Pairwise Differ es → In es (m, n) → note_at es m ≡ Some n
in_found [] m n h i = absurd i
in_found (e ∷ es) m n h (inl s) =
    let mark : m ≡ e.0 = sym (ap (λ (x : ℕ × Note). x.0) s) in
    let yes : nat_eq m e.0 ≡ true = eq-eqb m e.0 mark in
    rw yes (ap (λ (x : ℕ × Note). Some x.1) s)
in_found (e ∷ es) m n h (inr i) =
    let no : nat_eq m e.0 ≡ false = ne_eqb m e.0 (λ s. each_in (Differ e) es (m, n) h.0 i (sym s)) in
    rw no (in_found es m n h.1 i)

-- ---- the notes of one list

module _ (app : Application) (feeds : List Fed) where
  -- the note of a mark behind these marks
  abbrev pub note_after : List ℕ → ℕ → List ℕ → ℕ → Note
  note_after cells g [] m = record { greatest = max g m; output = (processed app cells (packet_at feeds m)).1 }
  note_after cells g (b ∷ bs) m = note_after (processed app cells (packet_at feeds b)).0 (max g b) bs m

  pub keys_noted : (cells : List ℕ) (g : ℕ) (ms : List ℕ) → map (λ (e : ℕ × Note). e.0) (notes_from app feeds cells g ms) ≡ ms
  keys_noted cells g [] = refl
  keys_noted cells g (m ∷ ms) = ap (λ l. m ∷ l) (keys_noted (processed app cells (packet_at feeds m)).0 (max g m) ms)

  pub in_notes : (cells : List ℕ) (g : ℕ) (ms : List ℕ) (m : ℕ) (n : Note) → In (notes_from app feeds cells g ms) (m, n) →
      (before : List ℕ) × (behind : List ℕ) × (ms ≡ before ++ m ∷ behind) × (n ≡ note_after cells g before m)
  in_notes cells g [] m n i = absurd i
  in_notes cells g (x ∷ xs) m n (inl e) =
      let mark : x ≡ m = ap (λ (y : ℕ × Note). y.0) e in
      let note : note_after cells g [] x ≡ n = ap (λ (y : ℕ × Note). y.1) e in
      ([], xs, ap (λ y. y ∷ xs) mark, sym note ∙ ap (note_after cells g []) mark)
  in_notes cells g (x ∷ xs) m n (inr i) =
      let r = in_notes (processed app cells (packet_at feeds x)).0 (max g x) xs m n i in
      (x ∷ r.0, r.1, ap (λ l. x ∷ l) r.2, r.3)

  pub notes_in : (cells : List ℕ) (g : ℕ) (before : List ℕ) (m : ℕ) (behind : List ℕ) → In (notes_from app feeds cells g (before ++ m ∷ behind)) (m, note_after cells g before m)
  notes_in cells g [] m behind = inl refl
  notes_in cells g (b ∷ bs) m behind = inr (notes_in (processed app cells (packet_at feeds b)).0 (max g b) bs m behind)

  pub cells_step : (cells : List ℕ) (b : ℕ) (bs : List ℕ) → after app (processed app cells (packet_at feeds b)).0 (packets_at feeds bs) ≡ after app cells (packets_at feeds (b ∷ bs))
  cells_step cells b bs = by (packet_at feeds b)
    where
      by : (o : Option Packet) → after app (processed app cells o).0 (packets_at feeds bs) ≡ after app cells (cons_option o (packets_at feeds bs))
      by None = refl
      by (Some p) = refl

  pub output_after : (cells : List ℕ) (g : ℕ) (before : List ℕ) (m : ℕ) → (note_after cells g before m).output ≡ (processed app (after app cells (packets_at feeds before)) (packet_at feeds m)).1
  output_after cells g [] m = refl
  output_after cells g (b ∷ bs) m =
      output_after (processed app cells (packet_at feeds b)).0 (max g b) bs m ∙ ap (λ cs. (processed app cs (packet_at feeds m)).1) (cells_step cells b bs)

  -- no mark up to one is above the greatest that is noted of it
  pub greatest_from : (cells : List ℕ) (g : ℕ) (before : List ℕ) (m : ℕ) → g ≤ (note_after cells g before m).greatest
  greatest_from cells g [] m = omega arith
  greatest_from cells g (b ∷ bs) m =
      let a : g ≤ max g b = omega arith in
      let r : max g b ≤ (note_after (processed app cells (packet_at feeds b)).0 (max g b) bs m).greatest = greatest_from (processed app cells (packet_at feeds b)).0 (max g b) bs m in
      omega (arith, a, r)

  pub greatest_above : (cells : List ℕ) (g : ℕ) (before : List ℕ) (m : ℕ) → Each (λ q. q ≤ (note_after cells g before m).greatest) (before ++ m ∷ [])
  greatest_above cells g [] m = (omega arith, tt)
  greatest_above cells g (b ∷ bs) m =
      let a : b ≤ max g b = omega arith in
      let r : max g b ≤ (note_after (processed app cells (packet_at feeds b)).0 (max g b) bs m).greatest = greatest_from (processed app cells (packet_at feeds b)).0 (max g b) bs m in
      (omega (arith, a, r), greatest_above (processed app cells (packet_at feeds b)).0 (max g b) bs m)

  -- and it is one of them
  pub greatest_within : (cells : List ℕ) (g : ℕ) (before : List ℕ) (m e : ℕ) → g ≤ e → Each (λ q. q ≤ e) (before ++ m ∷ []) → (note_after cells g before m).greatest ≤ e
  greatest_within cells g [] m e le h = let q : m ≤ e = h.0 in omega arith
  greatest_within cells g (b ∷ bs) m e le h = greatest_within (processed app cells (packet_at feeds b)).0 (max g b) bs m e (let q : b ≤ e = h.0 in omega arith) h.1

  -- ---- the notes of all lists

  pub keys_along : (flows : List Flow) → map (λ (e : ℕ × Note). e.0) (notes_along app feeds flows) ≡ all_marks flows
  keys_along [] = refl
  keys_along (f ∷ fs) =
      ap (map (λ (e : ℕ × Note). e.0)) (flat_map-cons (λ (x : Flow). notes_of app feeds x.marks) f fs)
      ∙ map-append (λ (e : ℕ × Note). e.0) (notes_of app feeds f.marks) (notes_along app feeds fs)
      ∙ (λ i. keys_noted (zeros app.cell_count) 0 f.marks i ++ keys_along fs i)
      ∙ sym (flat_map-cons (λ (x : Flow). x.marks) f fs)
