-- One element more of a list that is walked.
use Rattle.std.proofs.Common.{◌≡◌, ◌≢◌, ◌∙◌, ◌+◌, ℕ, ◌<◌, List, [], ◌∷◌, ◌++◌, Bool, true, false, ◌&&◌, ◌||◌, IsTrue, ◌↔◌, refl, sym, ap, subst, inl, inr, length, take, drop, get_or, suc, eqb-true, eq-eqb}
use Rattle.std.specs.Prelude.{nat_eq, IfOk}
use Rattle.std.proofs.Common.{Result, Ok, Err}
use Rattle.std.specs.List.{list_any}
use Rattle.std.specs.Str.{bytes_eq}
use Rattle.std.proofs.lemmas.Bool.{false≢true, and_parts, and_from}
use Rattle.std.proofs.lemmas.List.{take_more, take-append-drop}
use Rattle.std.proofs.Math.Seq.{drop-cons}
use Rattle.key_table.proofs.Tables.{same_key-refl, same_key-true}
use Rattle.proto_model.specs.Feeds.{Each}
use Rattle.proto_safety.specs.Books.{In}
use Rattle.proto_safety.proofs.Basics.Eachs.{each_in, each_all, each_append, each_front}
use Rattle.proto_safety.proofs.Basics.Members.{in_last}
use Rattle.proto_safety.proofs.Basics.Pairs.{pairwise_push}
use Rattle.report_audit.proofs.Parts.{Apart, each_before}

-- what holds of a value holds of what follows from it
pub if_ok : {T E : Type 0} (r : Result T E) (P Q : T → Type 0) → ((x : T) → P x → Q x) → IfOk r P → IfOk r Q
if_ok (Ok x) P Q f h = f x h
if_ok (Err e) P Q f h = h

-- one way and the other
pub iff_also : {A B C : Type 0} → (A ↔ B) → (B ↔ C) → A ↔ C
iff_also h k = (λ a. k.0 (h.0 a), λ c. h.1 (k.1 c))

any_in : (m : ℕ) (ys : List ℕ) → list_any (nat_eq m) ys ≡ true → In ys m
any_in m [] h = absurd (false≢true h)
any_in m (y ∷ ys) h = by (nat_eq m y) refl h (any_in m ys)
  where
    by : (b : Bool) → nat_eq m y ≡ b → (b || list_any (nat_eq m) ys) ≡ true → (list_any (nat_eq m) ys ≡ true → In ys m) → In (y ∷ ys) m
    by true is h rest = inl (sym (eqb-true m y is))
    by false is h rest = inr (rest h)

any_of : (m : ℕ) (ys : List ℕ) (y : ℕ) → In ys y → y ≡ m → list_any (nat_eq m) ys ≡ true
any_of m [] y i e = absurd i
any_of m (z ∷ zs) y (inl s) e = let yes : nat_eq m z ≡ true = eq-eqb m z (sym e ∙ sym s) in rw yes refl
any_of m (z ∷ zs) y (inr i) e = by (nat_eq m z) (any_of m zs y i e)
  where
    by : (b : Bool) → list_any (nat_eq m) zs ≡ true → (b || list_any (nat_eq m) zs) ≡ true
    by true h = refl
    by false h = h

none_in : (m : ℕ) (ys : List ℕ) → list_any (nat_eq m) ys ≡ false → Each (λ y. y ≢ m) ys
none_in m ys none = each_all (λ y. y ≢ m) ys (λ y i e. false≢true (sym none ∙ any_of m ys y i e))

module _ (marks : List ℕ) (n : ℕ) (seen : List ℕ) (is : seen ≡ take n marks) (lt : n < length marks) where
  abbrev pub mark : ℕ
  mark = get_or marks n 0

  -- a mark that was seen comes twice
  pub twice : list_any (nat_eq mark) seen ≡ true → ¬ Apart marks
  twice h apart =
      let i : In (take n marks) mark = subst (λ l. In l mark) is (any_in mark seen h) in
      let whole : marks ≡ take n marks ++ mark ∷ drop (suc n) marks = sym (take-append-drop n marks) ∙ ap (λ l. take n marks ++ l) (drop-cons marks n 0 lt) in
      each_in (λ y. y ≢ mark) (take n marks) mark (each_before (λ (a b : ℕ). a ≢ b) (take n marks) mark (drop (suc n) marks) (subst Apart whole apart)) i refl

  -- and one that wasn't stays apart
  pub still_apart : list_any (nat_eq mark) seen ≡ false → Apart (take n marks) → Apart (take (n + 1) marks)
  still_apart h apart =
      subst Apart (sym (take_more marks n 0 lt)) (pairwise_push (λ (a b : ℕ). a ≢ b) (take n marks) mark apart (none_in mark (take n marks) (subst (λ l. list_any (nat_eq mark) l ≡ false) is h)))

-- ---- a test that is met so far

module _ {A : Type 0} (P : A → Type 0) (done : List A) (x : A) (met same : Bool) where
  pub met_more : (IsTrue met ↔ Each P done) → (IsTrue same ↔ P x) → IsTrue (met && same) ↔ Each P (done ++ x ∷ [])
  met_more h k = (
    λ e. each_append P done (x ∷ []) (h.0 (and_parts met same e).0) (k.0 (and_parts met same e).1, tt),
    λ all. and_from met same (h.1 (each_front P done (x ∷ []) all)) (k.1 (each_in P (done ++ x ∷ []) x all (in_last done x))),
  )

pub same_lists : (a b : List ℕ) → IsTrue (bytes_eq a b) ↔ (b ≡ a)
same_lists a b = (λ e. sym (same_key-true a b e), λ e. subst (λ x. bytes_eq a x ≡ true) (sym e) (same_key-refl a))
