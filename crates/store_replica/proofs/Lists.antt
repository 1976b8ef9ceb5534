-- Lists that are cut to their end, and gone through.
use Rattle.std.proofs.Common.{◌≡◌, ℕ, zero, suc, ◌+◌, ◌-◌, List, [], ◌∷◌, ◌++◌, length, refl, sym, ◌∙◌, ap, arith, take, drop, slice_get, Some, None, ◌≤◌}
use Rattle.std.proofs.lemmas.List.{append-nil, append_assoc, drop_min, length-take}
use Rattle.std.proofs.Math.Seq.{take-add}
use Rattle.proto_data.specs.declared.message.Body.{Body}
use Rattle.proto_data.specs.declared.message.Entry.{Entry}
use Rattle.proto_data.specs.declared.message.Msg.{Msg}
use Rattle.proto_model.specs.ReplicaState.{Replica, to_successor}
use Rattle.proto_model.specs.ReplicaRows.{forwards}

-- all but the first n, by what is kept
pub kept_past : {A : Type 0} (n : ℕ) (xs : List A) → drop (length xs - (length xs - n)) xs ≡ drop n xs
kept_past n xs = ap (λ k. drop k xs) (omega arith) ∙ drop_min n xs

-- the one item at a place
pub one_at : {A : Type 0} (xs : List A) (i : ℕ) (x : A) → slice_get xs i ≡ Some x → take 1 (drop i xs) ≡ x ∷ []
one_at [] i x is = absurd cc
one_at (y ∷ ys) zero x is = let same : y ≡ x = cc in ap (λ z. z ∷ []) same
one_at (y ∷ ys) (suc i) x is = one_at ys i x is

-- none past the end
pub none_at : {A : Type 0} (xs : List A) (i : ℕ) → slice_get xs i ≡ None → take 1 (drop i xs) ≡ []
none_at [] zero is = refl
none_at [] (suc i) is = refl
none_at (y ∷ ys) zero is = absurd cc
none_at (y ∷ ys) (suc i) is = none_at ys i is

forwards-append : (s : Replica) (index : ℕ) (xs ys : List Entry) → forwards s index (xs ++ ys) ≡ forwards s index xs ++ forwards s (index + length xs) ys
forwards-append s index [] ys = ap (λ n. forwards s n ys) (omega arith)
forwards-append s index (x ∷ xs) ys =
    let one : List Msg = to_successor s (Body.Forward s.config.number index x None) in
    let count : index + 1 + length xs ≡ index + length (x ∷ xs) = omega arith in
    ap (λ ms. one ++ ms) (forwards-append s (index + 1) xs ys)
    ∙ (sym (append_assoc one (forwards s (index + 1) xs) (forwards s (index + 1 + length xs) ys))
    ∙ ap (λ n. (one ++ forwards s (index + 1) xs) ++ forwards s n ys) count)

-- the Forwards of one more entry
pub forwards_next : (s : Replica) (index i : ℕ) (xs : List Entry) → i ≤ length xs → forwards s index (take i xs) ++ forwards s (index + i) (take 1 (drop i xs)) ≡ forwards s index (take (i + 1) xs)
forwards_next s index i xs low =
    let long : length (take i xs) ≡ i = length-take i xs ∙ omega (arith, low) in
    sym (ap (λ es. forwards s index es) (take-add i 1 xs) ∙ forwards-append s index (take i xs) (take 1 (drop i xs)) ∙ ap (λ n. forwards s index (take i xs) ++ forwards s (index + n) (take 1 (drop i xs))) long)

-- the Forward of one pending entry
pub forward_one : (s : Replica) (index i : ℕ) (e : Entry) → Some e ≡ slice_get s.pending i → forwards s index (take 1 (drop i s.pending)) ≡ to_successor s (Body.Forward s.config.number index e None)
forward_one s index i e at = ap (λ es. forwards s index es) (one_at s.pending i e (sym at)) ∙ append-nil (to_successor s (Body.Forward s.config.number index e None))

pub forward_none : (s : Replica) (index i : ℕ) (sent : List Msg) → None ≡ slice_get s.pending i → sent ≡ sent ++ forwards s index (take 1 (drop i s.pending))
forward_none s index i sent at = sym (ap (λ es. sent ++ forwards s index es) (none_at s.pending i (sym at)) ∙ append-nil sent)
