-- The entry that an indexed table finds is the one that wins among the entries of the program.
use Rattle.std.proofs.Common.{◌≡◌, ℕ, zero, suc, ◌-◌, ◌+◌, ◌<◌, ◌≤◌, Bool, true, false, List, [], ◌∷◌, map, length, Option, Some, None, refl, sym, ap, ◌∙◌, subst, if◌then◌else◌, nat_lt, arith, ◌==◌, ◌&&◌}
use Rattle.std.specs.Prelude.{slice_get, bit_and, All, cond, not, ⊤}
use Rattle.std.specs.List.{position_or_len}
use Rattle.std.specs.Int.Bits.{and_zero_r}
use Rattle.std.proofs.lemmas.Bool.{ltb-true, eq-eqb}
use Rattle.p4_ast.specs.declared.table.P4Key.{P4Key}
use Rattle.p4_ast.specs.declared.table.P4Match.{P4Match}
use Rattle.p4_ast.specs.declared.table.P4Match.TheVariants as matching
use Rattle.p4_ast.specs.declared.table.P4Entry.{P4Entry}
use Rattle.p4_ast.specs.declared.table.P4Call.{P4Call}
use Rattle.app_data.specs.declared.value.Value.{Value}
use Rattle.app_data.specs.declared.value.Match.{Match}
use Rattle.app_meaning.specs.Slots.{Scope}
use Rattle.app_meaning.specs.Matches as tree
use Rattle.app_meaning.specs.Matches.{keyset_row, mask_of}
use Rattle.app_meaning.specs.Actions as actions
use Rattle.app_meaning.specs.Actions.{rows}
use Rattle.match_tables.specs.declared.entries.MatchCond.{MatchCond}
use Rattle.match_tables.specs.declared.entries.MatchKind.{MatchKind}
use Rattle.match_tables.specs.declared.entries.MatchKind.TheVariants as kind
use Rattle.match_tables.specs.Winning as table
use Rattle.match_tables.specs.Winning.{masks_of, prefix_of, or_zero, numbered, number_of, look}
use Rattle.table_rows.specs.Rows.{kind_of, conds, rows_of, row_at, numbers, IsTableOf}
pub use Rattle.std.proofs.lemmas.List.{append_assoc}

-- ---- one row

zero_fits : (n : ℕ) → (bit_and n 0 == 0) ≡ true
zero_fits n = eq-eqb (bit_and n 0) 0 (and_zero_r n)

fits_conds : (row : List Match) (keys : List Value) → table.fits (conds (length keys) row) (numbers keys) ≡ tree.fits row keys
fits_conds [] [] = refl
fits_conds [] (k ∷ ks) = λ i. zero_fits k.number i && fits_conds [] ks i
fits_conds (m ∷ ms) [] = refl
fits_conds (m ∷ ms) (k ∷ ks) = ap (λ (b : Bool). (bit_and k.number m.mask == m.value) && b) (fits_conds ms ks)

place_conds : (n i : ℕ) (row : List Match) → i < n → or_zero (slice_get (masks_of (conds n row)) i) ≡ mask_of (slice_get row i)
place_conds zero i row l = absurd (omega (arith, l))
place_conds (suc n) zero [] l = refl
place_conds (suc n) zero (m ∷ ms) l = refl
place_conds (suc n) (suc i) [] l = place_conds n i [] (omega (arith, l))
place_conds (suc n) (suc i) (m ∷ ms) l = place_conds n i ms (omega (arith, l))

-- the lpm key is one of the keys
abbrev Within : Option ℕ → ℕ → Type 0
Within None n = ⊤
Within (Some i) n = i < n

prefix_conds : (lpm : Option ℕ) (n : ℕ) (row : List Match) → Within lpm n → table.prefix lpm (conds n row) ≡ tree.prefix lpm row
prefix_conds None n row w = refl
prefix_conds (Some i) n row w = place_conds n i row w

-- ---- all rows

module _ (lpm : Option ℕ) (keys : List Value) (within : Within lpm (length keys)) where
  abbrev Row : Type 0
  Row = List Match × P4Call

  abbrev plain : Row → List MatchCond
  plain r = conds (length keys) r.0

  record Stands (i : ℕ) (rs : List Row) (m : Row) (w : List MatchCond × ℕ) : Type 0 where
    pub from : i ≤ w.1
    pub there : slice_get rs (w.1 - i) ≡ Some m
    pub same : w.0 ≡ plain m

  abbrev Same : ℕ → List Row → Option Row → Option (List MatchCond × ℕ) → Type 0
  Same i rs None None = ⊤
  Same i rs None (Some w) = ⊥
  Same i rs (Some m) None = ⊥
  Same i rs (Some m) (Some w) = Stands i rs m w

  later : (i : ℕ) (r : Row) (rs : List Row) (o : Option Row) (w : Option (List MatchCond × ℕ)) → Same (suc i) rs o w → Same i (r ∷ rs) o w
  later i r rs None None h = tt
  later i r rs None (Some w) h = absurd h
  later i r rs (Some m) None h = absurd h
  later i r rs (Some m) (Some w) h =
      let one : w.1 - i ≡ suc (w.1 - suc i) = omega (arith, h.from) in
      record { from = omega (arith, h.from); there = ap (slice_get (r ∷ rs)) one ∙ h.there; same = h.same }

  first : (i : ℕ) (r : Row) (rs : List Row) → Same i (r ∷ rs) (Some r) (Some (plain r, i))
  first i r rs = let none : i - i ≡ 0 = omega arith in record { from = omega arith; there = ap (slice_get (r ∷ rs)) none; same = refl }

  chosen : (i : ℕ) (r : Row) (rs : List Row) (m : Row) (w : List MatchCond × ℕ) → Same (suc i) rs (Some m) (Some w) → (b : Bool) → Same i (r ∷ rs) (if b then Some m else Some r) (if b then Some w else Some (plain r, i))
  chosen i r rs m w h true = later i r rs (Some m) (Some w) h
  chosen i r rs m w h false = first i r rs

  better : (i : ℕ) (r : Row) (rs : List Row) (o : Option Row) (w : Option (List MatchCond × ℕ)) → Same (suc i) rs o w → Same i (r ∷ rs) (tree.better lpm r o) (table.better lpm (plain r, i) w)
  better i r rs None None h = first i r rs
  better i r rs None (Some w) h = absurd h
  better i r rs (Some m) None h = absurd h
  better i r rs (Some m) (Some w) h =
      let own : table.prefix lpm (plain r) ≡ tree.prefix lpm r.0 = prefix_conds lpm (length keys) r.0 within in
      let other : table.prefix lpm w.0 ≡ tree.prefix lpm m.0 = ap (table.prefix lpm) h.same ∙ prefix_conds lpm (length keys) m.0 within in
      let test : nat_lt (table.prefix lpm (plain r)) (table.prefix lpm w.0) ≡ nat_lt (tree.prefix lpm r.0) (tree.prefix lpm m.0) = λ j. nat_lt (own j) (other j) in
      subst (λ (b : Bool). Same i (r ∷ rs) (if nat_lt (tree.prefix lpm r.0) (tree.prefix lpm m.0) then Some m else Some r) (if b then Some w else Some (plain r, i))) (sym test)
      (chosen i r rs m w h (nat_lt (tree.prefix lpm r.0) (tree.prefix lpm m.0)))

  one_more : (i : ℕ) (r : Row) (rs : List Row) (o : Option Row) (w : Option (List MatchCond × ℕ)) → Same (suc i) rs o w → (b : Bool) → Same i (r ∷ rs) (if b then tree.better lpm r o else o) (if b then table.better lpm (plain r, i) w else w)
  one_more i r rs o w h true = better i r rs o w h
  one_more i r rs o w h false = later i r rs o w h

  joined : (i : ℕ) (rs : List Row) → Same i rs (tree.winner lpm keys rs) (table.winner lpm (numbers keys) (numbered i (map plain rs)))
  joined i [] = tt
  joined i (r ∷ rs) =
      let o = tree.winner lpm keys rs in
      let w = table.winner lpm (numbers keys) (numbered (suc i) (map plain rs)) in
      subst (λ (b : Bool). Same i (r ∷ rs) (if tree.fits r.0 keys then tree.better lpm r o else o) (if b then table.better lpm (plain r, i) w else w)) (sym (fits_conds r.0 keys))
      (one_more i r rs o w (joined (suc i) rs) (tree.fits r.0 keys))

  rows_at : (rs : List Row) (o : Option Row) (w : Option (List MatchCond × ℕ)) → Same 0 rs o w → row_at rs (number_of w) ≡ o
  rows_at rs None None h = refl
  rows_at rs None (Some w) h = absurd h
  rows_at rs (Some m) None h = absurd h
  rows_at rs (Some m) (Some w) h = let none : w.1 - 0 ≡ w.1 = omega arith in ap (slice_get rs) (sym none) ∙ h.there

  pub found : (rs : List Row) → row_at rs (number_of (table.winner lpm (numbers keys) (numbered 0 (map plain rs)))) ≡ tree.winner lpm keys rs
  found rs = rows_at rs (tree.winner lpm keys rs) (table.winner lpm (numbers keys) (numbered 0 (map plain rs))) (joined 0 rs)

-- ---- keys

kind_is : (m : P4Match) → table.is_lpm (kind_of m) ≡ actions.is_lpm m
kind_is matching.Exact = refl
kind_is matching.Lpm = refl
kind_is matching.Ternary = refl

abbrev head_kind : List MatchKind → MatchKind
head_kind [] = kind.Exact
head_kind (k ∷ ks) = k

abbrev tail_kinds : List MatchKind → List MatchKind
tail_kinds [] = []
tail_kinds (k ∷ ks) = ks

lens : (keys : List P4Key) (made : List (MatchKind × ℕ)) → map (λ (k : MatchKind × ℕ). k.0) made ≡ map (λ (k : P4Key). kind_of k.matching) keys
    → position_or_len (λ (k : MatchKind × ℕ). table.is_lpm k.0) made ≡ position_or_len (λ (k : P4Key). actions.is_lpm k.matching) keys
lens [] [] e = refl
lens [] (m ∷ ms) e = absurd (let l : suc (length (map (λ (k : MatchKind × ℕ). k.0) ms)) ≡ 0 = ap length e in omega (arith, l))
lens (k ∷ ks) [] e = absurd (let l : 0 ≡ suc (length (map (λ (k : P4Key). kind_of k.matching) ks)) = ap length e in omega (arith, l))
lens (k ∷ ks) (m ∷ ms) e =
    let head : table.is_lpm m.0 ≡ actions.is_lpm k.matching = ap (λ (x : List MatchKind). table.is_lpm (head_kind x)) e ∙ kind_is k.matching in
    λ j. cond (not (head j)) (1 + lens ks ms (ap tail_kinds e) j) 0

pub length_kinds : (keys : List P4Key) (made : List (MatchKind × ℕ)) → map (λ (k : MatchKind × ℕ). k.0) made ≡ map (λ (k : P4Key). kind_of k.matching) keys → length made ≡ length keys
length_kinds [] [] e = refl
length_kinds [] (m ∷ ms) e = absurd (let l : suc (length (map (λ (k : MatchKind × ℕ). k.0) ms)) ≡ 0 = ap length e in omega (arith, l))
length_kinds (k ∷ ks) [] e = absurd (let l : 0 ≡ suc (length (map (λ (k : P4Key). kind_of k.matching) ks)) = ap length e in omega (arith, l))
length_kinds (k ∷ ks) (m ∷ ms) e = ap suc (length_kinds ks ms (ap tail_kinds e))

lpm_is : (keys : List P4Key) (made : List (MatchKind × ℕ)) → map (λ (k : MatchKind × ℕ). k.0) made ≡ map (λ (k : P4Key). kind_of k.matching) keys → table.lpm_place made ≡ actions.lpm_place keys
lpm_is keys made e = λ j. if nat_lt (lens keys made e j) (length_kinds keys made e j) then Some (lens keys made e j) else None

lpm_within : (keys : List P4Key) → Within (actions.lpm_place keys) (length keys)
lpm_within keys = by (position_or_len (λ (k : P4Key). actions.is_lpm k.matching) keys) (nat_lt (position_or_len (λ (k : P4Key). actions.is_lpm k.matching) keys) (length keys)) refl
  where
    by : (n : ℕ) (b : Bool) → nat_lt n (length keys) ≡ b → Within (if b then Some n else None) (length keys)
    by n true e = ltb-true n (length keys) e
    by n false e = tt

-- ---- tables

length_conds : (n : ℕ) (row : List Match) → length (conds n row) ≡ n
length_conds zero row = refl
length_conds (suc n) [] = ap suc (length_conds n [])
length_conds (suc n) (m ∷ ms) = ap suc (length_conds n ms)

pub rows_long : (sc : Scope) (n : ℕ) (es : List P4Entry) → All (λ (r : List MatchCond). length r ≡ n) (rows_of sc n es)
rows_long sc n [] = λ k d l. absurd (omega (arith, l))
rows_long sc n (e ∷ es) = by (rows_long sc n es)
  where
    by : All (λ (r : List MatchCond). length r ≡ n) (rows_of sc n es) → All (λ (r : List MatchCond). length r ≡ n) (rows_of sc n (e ∷ es))
    by rest zero d l = length_conds n (keyset_row sc e.keyset)
    by rest (suc k) d l = rest k d (omega (arith, l))

plain_rows : (sc : Scope) (n : ℕ) (es : List P4Entry) → map (λ (r : List Match × P4Call). conds n r.0) (rows sc es) ≡ rows_of sc n es
plain_rows sc n [] = refl
plain_rows sc n (e ∷ es) = ap (λ (rs : List (List MatchCond)). conds n (keyset_row sc e.keyset) ∷ rs) (plain_rows sc n es)

-- the table of a program's keys and entries
pub is_table : (sc : Scope) (keys : List P4Key) (es : List P4Entry) (made : List (MatchKind × ℕ)) (rs : List (List MatchCond)) → map (λ (k : MatchKind × ℕ). k.0) made ≡ map (λ (k : P4Key). kind_of k.matching) keys
    → rs ≡ rows_of sc (length keys) es → IsTableOf sc keys es (record { keys = made; rows = rs })
is_table sc keys es made rs kinds is = record {
  long = length_kinds keys made kinds;
  finds = λ values n.
      let lpm : table.lpm_place made ≡ actions.lpm_place keys = lpm_is keys made kinds in
      let within : Within (actions.lpm_place keys) (length values) = subst (Within (actions.lpm_place keys)) (sym n) (lpm_within keys) in
      let same : rs ≡ map (λ (r : List Match × P4Call). conds (length values) r.0) (rows sc es) = is ∙ ap (λ (k : ℕ). rows_of sc k es) (sym n) ∙ sym (plain_rows sc (length values) es) in
      ap (λ (o : Option ℕ). row_at (rows sc es) (number_of (table.winner o (numbers values) (numbered 0 rs)))) lpm
      ∙ ap (λ (xs : List (List MatchCond)). row_at (rows sc es) (number_of (table.winner (actions.lpm_place keys) (numbers values) (numbered 0 xs)))) same
      ∙ found (actions.lpm_place keys) values within (rows sc es);
}
