-- The front of a path that ends in a word.
use Rattle.std.proofs.Common.{◌≡◌, ℕ, ◌+◌, ◌-◌, take, sym, Bool, true, false, cond, List, [], ◌∷◌, ◌++◌, Option, Some, None, MatchOption, ◌≤◌, length, arith, refl, ap, ◌∙◌, subst}
use Rattle.std.specs.Str.{bytes_eq}
use Rattle.std.proofs.Math.Seq.{take-append_seam}
use Rattle.std.proofs.lemmas.List.{length-append}
use Rattle.p4_ast.specs.declared.name.P4Name.{P4Name}
use Rattle.p4_grammar.specs.Tokens.{before, called}
use Rattle.p4_grammar.specs.Trees.{alone}
use Rattle.p4_part.specs.Made.{called_in}

cond_some : (b : Bool) (x f : List P4Name) → cond b (Some x) None ≡ Some f → x ≡ f
cond_some true x f h = cc
cond_some false x f h = absurd cc

before_some : (x : P4Name) (o : Option (List P4Name)) (f : List P4Name) → before x o ≡ Some f → (g : List P4Name) × (o ≡ Some g) × (x ∷ g ≡ f)
before_some x None f h = absurd cc
before_some x (Some g) f h = (g, refl, cc)

front_is : (text : List ℕ) (r : List P4Name) (l : P4Name) (f : List P4Name) → called_in text (r ++ l ∷ []) ≡ Some f → r ≡ f
front_is text [] l f h = absurd cc
front_is text (x ∷ []) l f h = cond_some (bytes_eq l.text text) (x ∷ []) f h
front_is text (x ∷ y ∷ []) l f h =
    let s = before_some x (called text y (l ∷ [])) f h in
    ap (λ (q : List P4Name). x ∷ q) (front_is text (y ∷ []) l s.0 s.1) ∙ s.2
front_is text (x ∷ y ∷ z ∷ r) l f h =
    let s = before_some x (called text y (z ∷ r ++ l ∷ [])) f h in
    ap (λ (q : List P4Name). x ∷ q) (front_is text (y ∷ z ∷ r) l s.0 s.1) ∙ s.2

pub front_popped : (result : Option P4Name) (old new : List P4Name) → MatchOption result ((old ≡ []) × (new ≡ [])) (λ last. old ≡ new ++ last ∷ []) → (text : List ℕ) (front : List P4Name) → called_in text old ≡ Some front → new ≡ front
front_popped None old new m text front h =
    let none : called_in text [] ≡ Some front = subst (λ (q : List P4Name). called_in text q ≡ Some front) m.0 h in
    absurd cc
front_popped (Some l) old new m text front h = front_is text new l front (subst (λ (q : List P4Name). called_in text q ≡ Some front) m h)

-- without its last name, whatever that is, a path is its front
pub popped_front : (result : Option P4Name) (old new : List P4Name) → MatchOption result ((old ≡ []) × (new ≡ [])) (λ last. old ≡ new ++ last ∷ []) → new ≡ take (length old - 1) old
popped_front None old new m = rw (m.0, m.1) refl
popped_front (Some l) old new m =
    let size : length old ≡ length new + 1 = ap length m ∙ length-append new (l ∷ []) in
    let less : length old - 1 ≡ length new = omega (arith, size) in
    sym (ap (λ n. take n old) less ∙ ap (λ q. take (length new) q) m ∙ take-append_seam new (l ∷ []))

cond_long : (x y : P4Name) (b : Bool) → alone (before x (cond b (Some (y ∷ [])) None)) ≡ None
cond_long x y true = refl
cond_long x y false = refl

behind_before : (x y : P4Name) (o : Option (List P4Name)) → alone (before x (before y o)) ≡ None
behind_before x y None = refl
behind_before x y (Some g) = refl

-- a path of three names or more isn't a call of its first
pub long_alone : (text : List ℕ) (x : P4Name) (more : List P4Name) → 2 ≤ length more → alone (called text x more) ≡ None
long_alone text x [] long = absurd (omega arith)
long_alone text x (y ∷ []) long = absurd (omega arith)
long_alone text x (y ∷ z ∷ []) long = cond_long x y (bytes_eq z.text text)
long_alone text x (y ∷ z ∷ w ∷ ws) long = behind_before x y (called text z (w ∷ ws))
