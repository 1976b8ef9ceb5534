-- The first line of a text, and the first word of a line.
use Rattle.std.proofs.Common.{◌≡◌, ℕ, ◌<◌, zero, suc, List, [], ◌∷◌, Bool, true, false, length, take, drop, get_or, eqb, ltb, cond, not, ◌≤◌, Some, None, refl, sym, arith}
use Rattle.std.specs.List.{onto_first, position_or_len, position}
use Rattle.std.proofs.lemmas.List.Quantifiers.{position-Some}
use Rattle.std.proofs.lemmas.List.Sums.{prefix_len_passes}
use Rattle.std.specs.Prelude.{Err}
use Rattle.sched_lang.specs.declared.schedule.SchedWhy.TheVariants.{Form}
use Rattle.sched_lang.specs.Words.{lines, words, none, one}

-- what is known of the first place k at which this byte stands
pub record IsFirst (mark : ℕ) (text : List ℕ) (k : ℕ) : Type 0 where
  pub within : k < length text
  pub there : eqb (get_or text k 0) mark ≡ true
  pub before : (j : ℕ) → j < k → eqb (get_or text j 0) mark ≡ false

pub IsFirst-from : (mark : ℕ) (text : List ℕ) (k : ℕ) → position (λ b. eqb b mark) text ≡ Some k → IsFirst mark text k
IsFirst-from mark text k h =
    let p = position-Some (λ b. eqb b mark) text k 0 h in
    record { within = p.0; there = p.1; before = p.2 }

-- this byte doesn't stand in the text
abbrev pub Lacks : ℕ → List ℕ → Type 0
Lacks mark text = (j : ℕ) → j < length text → eqb (get_or text j 0) mark ≡ false

none-at_end : (a b : ℕ) → cond (ltb a b) (Some a) None ≡ None → b ≤ a
none-at_end a b h = grind arith

not-true : (b : Bool) → not b ≡ true → b ≡ false
not-true false h = refl
not-true true h = sym h

pub Lacks-from : (mark : ℕ) (text : List ℕ) → position (λ b. eqb b mark) text ≡ None → Lacks mark text
Lacks-from mark text h j below =
    let past : length text ≤ position_or_len (λ b. eqb b mark) text = none-at_end _ _ h in
    not-true _ (prefix_len_passes (λ b. not (eqb b mark)) text j 0 (omega arith))

pub IsFirst-tail : (mark b : ℕ) (bs : List ℕ) (k : ℕ) → IsFirst mark (b ∷ bs) (suc k) → IsFirst mark bs k
IsFirst-tail mark b bs k h = record {
  within = let w = h.within in omega arith;
  there = h.there;
  before = λ j below. h.before (suc j) (omega arith);
}

pub lines-cut : (text : List ℕ) (k : ℕ) → IsFirst 10 text k → lines text ≡ take k text ∷ lines (drop 1 (drop k text))
lines-cut [] k h = let w = h.within in absurd (omega arith)
lines-cut (b ∷ bs) zero h = let t = h.there in rw t refl
lines-cut (b ∷ bs) (suc k) h =
    let t : eqb b 10 ≡ false = h.before 0 (omega arith) in
    rw (t, lines-cut bs k (IsFirst-tail 10 b bs k h)) refl

pub lines-last : (b : ℕ) (bs : List ℕ) → Lacks 10 (b ∷ bs) → lines (b ∷ bs) ≡ (b ∷ bs) ∷ []
lines-last b [] h = let t : eqb b 10 ≡ false = h 0 (omega arith) in rw t refl
lines-last b (c ∷ bs) h =
    let t : eqb b 10 ≡ false = h 0 (omega arith) in
    rw (t, lines-last c bs (λ j below. h (suc j) (omega arith))) refl

pub words-cut : (text : List ℕ) (k : ℕ) → IsFirst 32 text k → words text ≡ take k text ∷ words (drop 1 (drop k text))
words-cut [] k h = let w = h.within in absurd (omega arith)
words-cut (b ∷ bs) zero h = let t = h.there in rw t refl
words-cut (b ∷ bs) (suc k) h =
    let t : eqb b 32 ≡ false = h.before 0 (omega arith) in
    rw (t, words-cut bs k (IsFirst-tail 32 b bs k h)) refl

pub words-last : (text : List ℕ) → Lacks 32 text → words text ≡ text ∷ []
words-last [] h = refl
words-last (b ∷ bs) h =
    let t : eqb b 32 ≡ false = h 0 (omega arith) in
    rw (t, words-last bs (λ j below. h (suc j) (omega arith))) refl

pub lines-whole : (text : List ℕ) → 0 < length text → Lacks 10 text → lines text ≡ text ∷ []
lines-whole [] some h = absurd (omega arith)
lines-whole (b ∷ bs) some h = lines-last b bs h

-- a text with words
pub record HasWord (text : List ℕ) : Type 0 where
  pub word : List ℕ
  pub more : List (List ℕ)
  pub are : words text ≡ word ∷ more

onto-first-some : (b : ℕ) (ws : List (List ℕ)) → (word : List ℕ) × (more : List (List ℕ)) × (onto_first b ws ≡ word ∷ more)
onto-first-some b [] = (b ∷ [], [], refl)
onto-first-some b (w ∷ ws) = (b ∷ w, ws, refl)

cut-some : (test : Bool) (b : ℕ) (ws : List (List ℕ)) → (word : List ℕ) × (more : List (List ℕ)) × (cond test ([] ∷ ws) (onto_first b ws) ≡ word ∷ more)
cut-some true b ws = ([], ws, refl)
cut-some false b ws = onto-first-some b ws

-- each text has a word, though it may be empty
pub words-some : (text : List ℕ) → HasWord text
words-some [] = record { word = []; more = []; are = refl }
words-some (b ∷ bs) =
    let h = cut-some (eqb b 32) b (words bs) in
    record { word = h.0; more = h.1; are = h.2 }

pub one-more : (word text : List ℕ) → one (word ∷ words text) ≡ Err Form
one-more word text = let h = words-some text in rw h.are refl

pub none-some : (text : List ℕ) → none (words text) ≡ Err Form
none-some text = let h = words-some text in rw h.are refl
