-- A text is cut at the first place of a byte.
use Rattle.std.proofs.Common.{◌≡◌, ℕ, ◌+◌, ◌<◌, ◌≤◌, List, [], ◌∷◌, ◌++◌, Bool, true, false, length, length-take, take, drop, get_or, eqb, ltb, cond, not, Some, None, refl, sym, ◌∙◌, arith, ap, All}
use Rattle.std.specs.List.{position_or_len, position}
use Rattle.std.proofs.lemmas.Bool.{eqb-true}
use Rattle.std.proofs.lemmas.List.{take-append-drop, drop_more, get_or-take}
use Rattle.std.proofs.lemmas.List.Elements.{All-head, All-tail}
use Rattle.std.proofs.lemmas.List.Quantifiers.{position-Some}
use Rattle.std.proofs.lemmas.List.Splits.{slice_split_none, slice_split_at, length-slice_split}
use Rattle.std.proofs.lemmas.List.Sums.{prefix_len_passes}
use Rattle.std.specs.Prelude.{Err, count_by}
use Rattle.report_read.specs.declared.report.ReportWhy.TheVariants.{Form}
use Rattle.report_read.specs.Words.{lines, words, no_more}

-- this byte doesn't stand in the text
abbrev pub Lacks : ℕ → List ℕ → Type 0
Lacks mark text = All (λ b. eqb b mark ≡ false) text

-- the text before the first place k of this byte, the byte, and the text behind it
pub record IsCut (mark : ℕ) (text : List ℕ) (k : ℕ) : Type 0 where
  pub same : text ≡ take k text ++ mark ∷ drop 1 (drop k text)
  pub lacks : Lacks mark (take k text)

pub IsCut-from : (mark : ℕ) (text : List ℕ) (k : ℕ) → position (λ b. eqb b mark) text ≡ Some k → IsCut mark text k
IsCut-from mark text k h =
    let p = position-Some (λ b. eqb b mark) text k 0 h in
    let there : get_or text k 0 ≡ mark = eqb-true _ _ p.1 in
    let split : drop k text ≡ mark ∷ drop (k + 1) text = drop_more text k 0 p.0 ∙ ap (λ (b : ℕ). b ∷ drop (k + 1) text) there in
    record {
      same = sym (take-append-drop k text) ∙ ap (λ (bs : List ℕ). take k text ++ bs) (split ∙ ap (λ (bs : List ℕ). mark ∷ bs) (sym (ap (λ (bs : List ℕ). drop 1 bs) split)));
      lacks = λ i d below. before i d below (omega (arith, length-take k text));
    }
  where
    before : (i d : ℕ) → i < length (take k text) → i < k → eqb (get_or (take k text) i d) mark ≡ false
    before i d below lt = rw (get_or-take k text i d lt) ((position-Some (λ b. eqb b mark) text k d h).2 i lt)

none-at_end : (a b : ℕ) → cond (ltb a b) (Some a) None ≡ None → b ≤ a
none-at_end a b h = grind arith

not-true : (b : Bool) → not b ≡ true → b ≡ false
not-true false h = refl
not-true true h = sym h

pub Lacks-from : (mark : ℕ) (text : List ℕ) → position (λ b. eqb b mark) text ≡ None → Lacks mark text
Lacks-from mark text h j d below =
    let past : length text ≤ position_or_len (λ b. eqb b mark) text = none-at_end _ _ h in
    not-true _ (prefix_len_passes (λ b. not (eqb b mark)) text j d (omega arith))

-- ---- lines

-- a line, and the text behind its line feed
pub lines_at : (xs ys : List ℕ) → Lacks 10 xs → lines (xs ++ 10 ∷ ys) ≡ (xs, true) ∷ lines ys
lines_at [] ys h = refl
lines_at (x ∷ xs) ys h =
    let t : eqb x 10 ≡ false = All-head (λ b. eqb b 10 ≡ false) x xs h in
    let r : lines (xs ++ 10 ∷ ys) ≡ (xs, true) ∷ lines ys = lines_at xs ys (All-tail (λ b. eqb b 10 ≡ false) x xs h) in
    rw (t, r) refl

-- a line that lacks its line feed
pub lines_last : (x : ℕ) (xs : List ℕ) → Lacks 10 (x ∷ xs) → lines (x ∷ xs) ≡ (x ∷ xs, false) ∷ []
lines_last x [] h = let t : eqb x 10 ≡ false = All-head (λ b. eqb b 10 ≡ false) x [] h in rw t refl
lines_last x (y ∷ xs) h =
    let t : eqb x 10 ≡ false = All-head (λ b. eqb b 10 ≡ false) x (y ∷ xs) h in
    let r : lines (y ∷ xs) ≡ (y ∷ xs, false) ∷ [] = lines_last y xs (All-tail (λ b. eqb b 10 ≡ false) x (y ∷ xs) h) in
    rw (t, r) refl

pub lines-cut : (text : List ℕ) (k : ℕ) → IsCut 10 text k → lines text ≡ (take k text, true) ∷ lines (drop 1 (drop k text))
lines-cut text k h = ap lines h.same ∙ lines_at (take k text) (drop 1 (drop k text)) h.lacks

pub lines-whole : (text : List ℕ) → 0 < length text → Lacks 10 text → lines text ≡ (text, false) ∷ []
lines-whole [] some h = absurd (omega arith)
lines-whole (b ∷ bs) some h = lines_last b bs h

-- ---- words

pub words-cut : (text : List ℕ) (k : ℕ) → IsCut 32 text k → words text ≡ take k text ∷ words (drop 1 (drop k text))
words-cut text k h = ap words h.same ∙ slice_split_at (λ b. eqb b 32) (take k text) 32 (drop 1 (drop k text)) h.lacks refl

pub words-last : (text : List ℕ) → Lacks 32 text → words text ≡ text ∷ []
words-last text h = slice_split_none (λ b. eqb b 32) text h

some-words : (n : ℕ) (ws : List (List ℕ)) → length ws ≡ n + 1 → no_more ws ≡ Err Form
some-words n [] h = absurd (omega (arith, h))
some-words n (w ∷ ws) h = refl

-- each text has a word, though it may be empty
pub words-some : (text : List ℕ) → no_more (words text) ≡ Err Form
words-some text = some-words (count_by (λ b. eqb b 32) text) (words text) (length-slice_split (λ b. eqb b 32) text)
