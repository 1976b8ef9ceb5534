-- A text that is written piece by piece.
use Rattle.std.proofs.Common.{◌≡◌, ◌≤◌, List, ℕ, [], ◌++◌, Option, refl, sym, ap, subst, ◌∙◌, length, take, drop, append_assoc, arith, Result, Ok, Err, OnErr, OnOk}
use Rattle.std.specs.Prelude.{IsErrAnd}
use Rattle.std.proofs.Math.Seq.{take-append_seam}
use Rattle.std.proofs.lemmas.List.{append-nil, take-append-drop}
use Rattle.rp_base.specs.Outside.{Grows, GrowsByFront, HasCause}
use Rattle.rp_base.proofs.Growth.{Grows-nothing, Grows-join}

-- a front of a text is written, and this rest is left
pub record Midway (old now : Option (List ℕ)) (whole rest : List ℕ) : Type 0 where
  pub front : List ℕ
  pub grown : Grows old now front
  pub joined : front ++ rest ≡ whole

pub Midway-begun : (old : Option (List ℕ)) (whole : List ℕ) → Midway old old whole whole
Midway-begun old whole = record { front = []; grown = Grows-nothing old; joined = refl }

-- the next piece is written
pub Midway-more : (old mid now : Option (List ℕ)) (whole piece rest : List ℕ) → Midway old mid whole (piece ++ rest) → Grows mid now piece → Midway old now whole rest
Midway-more old mid now whole piece rest h k =
    record { front = h.front ++ piece; grown = Grows-join old mid now h.front piece h.grown k; joined = append_assoc h.front piece rest ∙ h.joined }

-- nothing is left
pub Midway-whole : (old now : Option (List ℕ)) (whole : List ℕ) → Midway old now whole [] → Grows old now whole
Midway-whole old now whole h = let P : List ℕ → Type 0 = λ text. Grows old now text in subst P (sym (append-nil h.front) ∙ h.joined) h.grown

-- what is written is a front
pub Midway-front : (old now : Option (List ℕ)) (whole rest : List ℕ) → Midway old now whole rest → GrowsByFront old now whole
Midway-front old now whole rest h =
    let P : List ℕ → Type 0 = λ text. Grows old now text in
    let e : take (length h.front) whole ≡ h.front = ap (take (length h.front)) (sym h.joined) ∙ take-append_seam h.front rest in
    (length h.front, subst P (sym e) h.grown)

-- the next piece is written in part
pub Midway-part : (old mid now : Option (List ℕ)) (whole piece rest : List ℕ) → Midway old mid whole (piece ++ rest) → GrowsByFront mid now piece → GrowsByFront old now whole
Midway-part old mid now whole piece rest h k =
    let P : List ℕ → Type 0 = λ text. Midway old mid whole text in
    let cut : piece ++ rest ≡ take k.0 piece ++ (drop k.0 piece ++ rest) =
    ap (λ text. text ++ rest) (sym (take-append-drop k.0 piece)) ∙ append_assoc (take k.0 piece) (drop k.0 piece) rest in
    Midway-front old now whole _ (Midway-more old mid now whole (take k.0 piece) (drop k.0 piece ++ rest) (subst P cut h) k.1)

-- a fact holds under an error
pub on_err : {T E : Type 0} {P : Type 0} (r : Result T E) → P → OnErr r P
on_err (Ok x) h = tt
on_err (Err e) h = h

-- what follows from a fact under an error holds under it
pub on_err-map : {T E : Type 0} {P Q : Type 0} (r : Result T E) → (P → Q) → OnErr r P → OnErr r Q
on_err-map (Ok x) f h = tt
on_err-map (Err e) f h = f h

-- the same under an answer
pub on_ok-map : {T E : Type 0} {P Q : Type 0} (r : Result T E) → (P → Q) → OnOk r P → OnOk r Q
on_ok-map (Ok x) f h = f h
on_ok-map (Err e) f h = tt

-- an error has its cause, though the count rose before it was met too
pub HasCause-later : {T E : Type 0} (before mid now : ℕ) (r : Result T E) (e : E) → before ≤ mid → HasCause mid now r e → HasCause before now r e
HasCause-later before mid now r e le h = record { later = omega (arith, le, h.later); failed = λ is. omega (arith, le, h.failed is) }

-- the same of an error that is handed on
pub HasCause-on : {T E : Type 0} (before mid now : ℕ) (r : Result T E) (x e : E) → before ≤ mid → IsErrAnd r (λ y. y ≡ x) → HasCause {T = T} mid now (Err x) e → HasCause before now r e
HasCause-on before mid now (Ok v) x e le h k = absurd h
HasCause-on before mid now (Err y) x e le h k =
    record { later = omega (arith, le, k.later); failed = λ is. omega (arith, le, k.failed (ap Err (sym h) ∙ is)) }
