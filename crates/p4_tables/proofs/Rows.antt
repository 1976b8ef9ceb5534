-- The row of a keyset that matches all grows by one key.
use Rattle.std.proofs.Common.{◌≡◌, ℕ, suc, ◌+◌, ◌<◌, List, ◌++◌, length, drop, ap, ◌∙◌, arith}
use Rattle.std.proofs.Math.Seq.{drop-cons}
use Rattle.p4_tables.specs.declared.part.Key.{Key}
use Rattle.p4_tables.specs.Entries.{no_key, any_row, row_of, anything}

pub any_row_more : (ks : List Key) (i : ℕ) (r : List ℕ) → i < length ks → any_row (drop i ks) r ≡ any_row (drop (i + 1) ks) (r ++ row_of anything)
any_row_more ks i r h =
    let e : suc i ≡ i + 1 = omega arith in
    ap (λ (l : List Key). any_row l r) (drop-cons ks i no_key h) ∙ ap (λ (n : ℕ). any_row (drop n ks) (r ++ row_of anything)) e
