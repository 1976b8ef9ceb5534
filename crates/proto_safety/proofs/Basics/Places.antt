-- What stands at a place of a list after a change, and prefixes.
use Rattle.std.proofs.Common.{◌≡◌, ℕ, ◌+◌, List, [], ◌∷◌, ◌++◌, length, arith, refl, sym, ap, ◌∙◌, append_assoc}
use Rattle.proto_safety.specs.Books.{IsPrefix, EntryAt}
use Rattle.proto_data.specs.declared.message.Entry.{Entry}

-- ---- prefixes

-- ---- entries at places

pub entry_later : {xs ys : List Entry} {place : ℕ} {e : Entry} → IsPrefix xs ys → EntryAt xs place e → EntryAt ys place e
entry_later {e = e} p a =
    record {
      before = a.before;
      behind = a.behind ++ p.rest;
      is = sym p.is ∙ ap (λ l. l ++ p.rest) a.is ∙ append_assoc a.before (e ∷ a.behind) p.rest;
      place_is = a.place_is;
    }

-- what stands behind a prefix of the same length is the rest
same_rest : (xs before rest behind : List Entry) (e : Entry) → length xs ≡ length before → xs ++ rest ≡ before ++ e ∷ behind → rest ≡ e ∷ behind
same_rest [] [] rest behind e l is = is
same_rest (x ∷ xs) (y ∷ ys) rest behind e l is = same_rest xs ys rest behind e (omega arith) cc
same_rest [] (y ∷ ys) rest behind e l is = absurd (omega arith)
same_rest (x ∷ xs) [] rest behind e l is = absurd (omega arith)

-- a prefix goes on by the entry that stands behind it
pub prefix_more : {xs ys : List Entry} {place : ℕ} {e : Entry} → IsPrefix xs ys → EntryAt ys place e → place ≡ length xs + 1 → IsPrefix (xs ++ e ∷ []) ys
prefix_more {xs = xs} {e = e} p a at =
    let l : length xs ≡ length a.before = omega (arith, a.place_is) in
    let r : p.rest ≡ e ∷ a.behind = same_rest xs a.before p.rest a.behind e l (p.is ∙ a.is) in
    record { rest = a.behind; is = append_assoc xs (e ∷ []) a.behind ∙ ap (λ l. xs ++ l) (sym r) ∙ p.is }

pub entry_pushed : (xs : List Entry) (e : Entry) (place : ℕ) → place ≡ length xs + 1 → EntryAt (xs ++ e ∷ []) place e
entry_pushed xs e place at = record { before = xs; behind = []; is = refl; place_is = at }
