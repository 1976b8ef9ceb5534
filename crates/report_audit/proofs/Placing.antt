-- Where a noted mark stands, and which list a key has.
use Rattle.std.proofs.Common.{◌≡◌, ◌≢◌, ◌∙◌, ℕ, List, [], ◌∷◌, ◌++◌, Some, Bool, true, false, refl, sym, ap, subst, inl, inr, eq-eqb}
use Rattle.std.specs.Prelude.{◌==◌, not, find, option_map, unwrap_or, if◌then◌else◌}
use Rattle.std.proofs.lemmas.Bool.{ne_eqb}
use Rattle.rp_base.specs.declared.legality.Fed.{Fed}
use Rattle.rp_base.specs.declared.legality.Flow.{Flow}
use Rattle.rp_app.specs.Application.{Application, zeros}
use Rattle.key_table.specs.Table.{Key, same_key}
use Rattle.key_table.proofs.Tables.{same_key-refl, same_key-true}
use Rattle.proto_model.specs.Feeds.{Pairwise}
use Rattle.proto_model.specs.Legal.{StandsIn, all_marks, marks_before, marks_of}
use Rattle.proto_safety.specs.Books.{In}
use Rattle.proto_safety.proofs.Basics.Eachs.{each_in}
use Rattle.proto_safety.proofs.Basics.Lists.{while_off, while_on}
use Rattle.proto_safety.proofs.Basics.Members.{in_flat, in_flat_parts, in_middle}
use Rattle.proto_safety.proofs.Basics.Pairs.{pairwise_unmapped}
use Rattle.std.proofs.lemmas.List.Concat.{flat_map-cons}
use Rattle.report_audit.specs.declared.notes.Note.{Note}
use Rattle.report_audit.specs.Rising.{KeysDiffer}
use Rattle.report_audit.specs.Notes.{notes_of, notes_along, note_at}
use Rattle.report_audit.proofs.Noting.{Differ, found_in, in_found, in_notes, notes_in, note_after, keys_along}
use Rattle.report_audit.proofs.Parts.{Apart, pairs_front, pairs_behind}

-- ---- marks that come once

-- a list whose marks are apart with all others has its own apart
pub list_apart : (flows : List Flow) (f : Flow) → Apart (all_marks flows) → In flows f → Apart f.marks
list_apart [] f h i = absurd i
list_apart (x ∷ xs) f h (inl e) = subst (λ (y : Flow). Apart y.marks) e (pairs_front (λ (a b : ℕ). a ≢ b) x.marks (all_marks xs) (subst Apart (flat_map-cons (λ (y : Flow). y.marks) x xs) h))
list_apart (x ∷ xs) f h (inr i) = list_apart xs f (pairs_behind (λ (a b : ℕ). a ≢ b) x.marks (all_marks xs) (subst Apart (flat_map-cons (λ (y : Flow). y.marks) x xs) h)) i

-- the marks before one that stands once
pub before_one : (before : List ℕ) (m : ℕ) (behind : List ℕ) → Apart (before ++ m ∷ behind) → marks_before (before ++ m ∷ behind) m ≡ before
before_one [] m behind h = while_off (λ n. not (n == m)) m behind (ap not (eq-eqb m m refl))
before_one (b ∷ bs) m behind h =
    let other : b ≢ m = each_in (λ y. b ≢ y) (bs ++ m ∷ behind) m h.0 (in_middle bs behind m) in
    while_on (λ n. not (n == m)) b (bs ++ m ∷ behind) (ap not (ne_eqb b m other)) ∙ ap (λ l. b ∷ l) (before_one bs m behind h.1)

-- ---- the list of a key

pub marks_here : (flows : List Flow) (f : Flow) → KeysDiffer flows → In flows f → marks_of flows f.key ≡ f.marks
marks_here [] f h i = absurd i
marks_here (x ∷ xs) f h (inl e) =
    let yes : same_key x.key f.key ≡ true = subst (λ (y : Flow). same_key x.key y.key ≡ true) e (same_key-refl x.key) in
    rw yes (ap (λ (y : Flow). y.marks) e)
marks_here (x ∷ xs) f h (inr i) = by (same_key x.key f.key) refl (marks_here xs f h.1 i)
  where
    by : (b : Bool) → same_key x.key f.key ≡ b → marks_of xs f.key ≡ f.marks →
        unwrap_or (option_map (λ (y : Flow). y.marks) (if b then Some x else find (λ (y : Flow). same_key y.key f.key) xs)) [] ≡ f.marks
    by true is rest = absurd (each_in (λ (y : Flow). x.key ≢ y.key) xs f h.0 i (same_key-true x.key f.key is))
    by false is rest = rest

-- a flow with this list of this key
pub record HasList (flows : List Flow) (key : Key) : Type 0 where
  pub flow : Flow
  pub listed : In flows flow
  pub key_is : flow.key ≡ key
  pub marks_are : marks_of flows key ≡ flow.marks

none_stands : (before : List ℕ) (m : ℕ) (behind : List ℕ) → before ++ m ∷ behind ≡ [] → ⊥
none_stands [] m behind e = cc
none_stands (b ∷ bs) m behind e = cc

pub list_of : (flows : List Flow) (key : Key) (m : ℕ) → StandsIn (marks_of flows key) m → HasList flows key
list_of [] key m s = absurd (none_stands s.0 m s.1.0 s.1.1)
list_of (x ∷ xs) key m s = by (same_key x.key key) refl s (list_of xs key m)
  where
    by : (b : Bool) → same_key x.key key ≡ b →
        StandsIn (unwrap_or (option_map (λ (y : Flow). y.marks) (if b then Some x else find (λ (y : Flow). same_key y.key key) xs)) []) m →
        (StandsIn (marks_of xs key) m → HasList xs key) → HasList (x ∷ xs) key
    by true is s rest = record { flow = x; listed = inl refl; key_is = same_key-true x.key key is; marks_are = rw is refl }
    by false is s rest =
        let r = rest s in
        record { flow = r.flow; listed = inr r.listed; key_is = r.key_is; marks_are = rw is r.marks_are }

-- ---- the place of a noted mark

module _ (app : Application) (feeds : List Fed) (flows : List Flow) where
  pub record Placed (m : ℕ) (n : Note) : Type 0 where
    pub flow : Flow
    pub listed : In flows flow
    pub before : List ℕ
    pub behind : List ℕ
    pub marks_are : flow.marks ≡ before ++ m ∷ behind
    pub note_is : n ≡ note_after app feeds (zeros app.cell_count) 0 before m

  pub placed : (m : ℕ) (n : Note) → note_at (notes_along app feeds flows) m ≡ Some n → Placed m n
  placed m n h =
      let f = in_flat_parts (λ (f : Flow). notes_of app feeds f.marks) flows (m, n) (found_in (notes_along app feeds flows) m n h) in
      let p = in_notes app feeds (zeros app.cell_count) 0 f.0.marks m n f.1.1 in
      record { flow = f.0; listed = f.1.0; before = p.0; behind = p.1; marks_are = p.2; note_is = p.3 }

  pub noted_there : Apart (all_marks flows) → (f : Flow) → In flows f → (before : List ℕ) (m : ℕ) (behind : List ℕ) → f.marks ≡ before ++ m ∷ behind →
      note_at (notes_along app feeds flows) m ≡ Some (note_after app feeds (zeros app.cell_count) 0 before m)
  noted_there once f i before m behind is =
      let note : Note = note_after app feeds (zeros app.cell_count) 0 before m in
      let here : In (notes_of app feeds f.marks) (m, note) = subst (λ ms. In (notes_of app feeds ms) (m, note)) (sym is) (notes_in app feeds (zeros app.cell_count) 0 before m behind) in
      let differ : Pairwise Differ (notes_along app feeds flows) = pairwise_unmapped (λ (a b : ℕ). a ≢ b) (λ (e : ℕ × Note). e.0) (notes_along app feeds flows) (subst Apart (sym (keys_along app feeds flows)) once) in
      in_found (notes_along app feeds flows) m note differ (in_flat (λ (x : Flow). notes_of app feeds x.marks) flows f (m, note) i here)
