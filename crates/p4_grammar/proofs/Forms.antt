-- Readers that fit their languages, and how they are put together.
use Rattle.std.proofs.Common.{◌≡◌, ℕ, zero, suc, ◌+◌, ◌<◌, ◌≤◌, Bool, true, false, cond, List, [], ◌∷◌, ◌++◌, length, Result, Ok, Err, refl, sym, ap, subst, ◌∙◌, append_assoc, append-nil, arith, inl, inr, ◌⊎◌}
use Rattle.std.proofs.lemmas.List.{length-append, append_cancel_left, append_cancel_right}
use Rattle.p4_lex.specs.declared.token.Token.{Token}
use Rattle.p4_lex.specs.declared.token.Lexeme.TheVariants as lexeme
use Rattle.p4_grammar.specs.Forms.{Lang, none, only, bind, either, taken, Reader, ◌>>=◌, done_at, bind_at, given, taken_at, hand, either_at, many, chain, many_at, is_given, chain_at, Refused, IsFault, ended, all_at}

-- no token of the test stands in front
abbrev pub IsEnd : (Token → Bool) → List Token → Type 0
IsEnd stops [] = Unit {0}
IsEnd stops (a ∷ m) = stops a ≡ false

abbrev pub SameHead : List Token → List Token → Type 0
SameHead [] [] = Unit {0}
SameHead [] (b ∷ s) = ⊥
SameHead (a ∷ r) [] = ⊥
SameHead (a ∷ r) (b ∷ s) = a ≡ b

-- The reader p fits the languages D and U. What is read, U spells. Where it stops, the tokens before can go on to a word of U.
-- Whatever stands behind the token in hand: where it read a value, D spells no other word and value there, of those behind which
-- no token stands that might go on (E); where it stops, D spells none. All this for up to n tokens before the token in hand.
pub record Reads {A : Type 0} (n : ℕ) (D U : Lang A) (E : A → Token → Bool) (p : Reader A) : Type 0 where
  pub got : (w m : List Token) (x : A) → p w ≡ Ok (x, m) → (u : List Token) × (w ≡ u ++ m) × U x u
  pub stopped : (w r : List Token) → p w ≡ Err r → (u : List Token) × (w ≡ u ++ r)
  pub viable : (u r : List Token) → p (u ++ r) ≡ Err r → length u < n → (x : A) × (v : List Token) × U x (u ++ v)
  pub unique : (u r : List Token) (x : A) → p (u ++ r) ≡ Ok (x, r) → length u < n → (y : A) (w m s : List Token) → D y w → IsEnd (E y) m → w ++ m ≡ u ++ s → SameHead r s → (y ≡ x) × (w ≡ u)
  pub dead : (u r : List Token) → p (u ++ r) ≡ Err r → length u < n → (y : A) (w m s : List Token) → D y w → IsEnd (E y) m → w ++ m ≡ u ++ s → SameHead r s → ⊥
  pub some : (x : A) × (u : List Token) × U x u

-- ---- lists

pub same_head : (u r s : List Token) → SameHead r s → SameHead (u ++ r) (u ++ s)
same_head [] r s h = h
same_head (a ∷ u) r s h = refl

-- ---- results

bind_ok : {A B : Type 0} (r : Result A (List Token)) (f : A → Result B (List Token)) (y : B) → (r >>= f) ≡ Ok y → (x : A) × (r ≡ Ok x) × (f x ≡ Ok y)
bind_ok (Ok x) f y e = (x, refl, e)
bind_ok (Err d) f y e = absurd cc

bind_err : {A B : Type 0} (r : Result A (List Token)) (f : A → Result B (List Token)) (d : List Token) → (r >>= f) ≡ Err d → (r ≡ Err d) ⊎ ((x : A) × (r ≡ Ok x) × (f x ≡ Err d))
bind_err (Ok x) f d e = inr (x, refl, e)
bind_err (Err c) f d e = inl cc

-- ---- the forms

abbrev done_pair : {A : Type 0} → A × List Token → Result (A × List Token) (List Token)
done_pair x = Ok x

ok_is : {A : Type 0} (x y : A × List Token) → done_pair x ≡ done_pair y → x ≡ y
ok_is x y e = cc

ok_parts : {A : Type 0} (x y : A) (w m : List Token) → done_at x w ≡ Ok (y, m) → (x ≡ y) × (w ≡ m)
ok_parts {A = A} x y w m e =
    let pair : (x, w) ≡ (y, m) = ok_is (x, w) (y, m) e in
    (ap (λ (q : A × List Token). q.0) pair, ap (λ (q : A × List Token). q.1) pair)

pub done-reads : {A : Type 0} (n : ℕ) (E : A → Token → Bool) (x : A) → Reads n (only x) (only x) E (done_at x)
done-reads n E x = record {
  got = λ w m y e. let h = ok_parts x y w m e in ([], h.1, (sym h.0, refl));
  stopped = λ w r e. absurd cc;
  viable = λ u r e short. absurd cc;
  unique = λ u r y e short z w m s d end eq same. let h = ok_parts x y (u ++ r) r e in (d.0 ∙ h.0, d.1 ∙ sym (append_cancel_right u [] r h.1));
  dead = λ u r e short z w m s d end eq same. absurd cc;
  some = (x, [], (refl, refl));
}

-- the fronts of a front and of what follows it are one front
pub fronts : (u v w m r : List Token) → w ≡ u ++ m → m ≡ v ++ r → w ≡ (u ++ v) ++ r
fronts u v w m r e h = rw (e, h, append_assoc) refl

pub fronts_of : (u1 u2 u m r : List Token) → u ++ r ≡ u1 ++ m → m ≡ u2 ++ r → u ≡ u1 ++ u2
fronts_of u1 u2 u m r e h = append_cancel_right u (u1 ++ u2) r (fronts u1 u2 (u ++ r) m r e h)

-- Behind a front that takes n - n2 tokens at least, what follows may have a smaller bound.
module _ {A B : Type 0} (n n2 : ℕ) (D U : Lang A) (E : A → Token → Bool) (p : Reader A) (D2 U2 : A → Lang B) (E2 : B → Token → Bool) (f : A → Reader B)
    (h : Reads n D U E p) (k : (x : A) → Reads n2 (D2 x) (U2 x) E2 (f x))
    (shift : (x : A) (u : List Token) → U x u → n ≤ length u + n2)
    (apart : (x : A) (y : B) (v m : List Token) → D2 x y v → IsEnd (E2 y) m → IsEnd (E x) (v ++ m)) where
  got : (w m : List Token) (y : B) → bind_at p f w ≡ Ok (y, m) → (u : List Token) × (w ≡ u ++ m) × bind U U2 y u
  got w m y e =
      let s = bind_ok (p w) (λ x. f x.0 x.1) (y, m) e in
      let g = h.got w s.0.1 s.0.0 s.1 in
      let g2 = (k s.0.0).got s.0.1 m y s.2 in
      (g.0 ++ g2.0, fronts g.0 g2.0 w s.0.1 m g.1 g2.1, (s.0.0, g.0, g2.0, refl, g.2, g2.2))

  stopped : (w r : List Token) → bind_at p f w ≡ Err r → (u : List Token) × (w ≡ u ++ r)
  stopped w r e = elim (bind_err (p w) (λ x. f x.0 x.1) r e) [
    | inl a ↦ h.stopped w r a
    | inr s ↦
        let g = h.got w s.0.1 s.0.0 s.1 in
        let g2 = (k s.0.0).stopped s.0.1 r s.2 in
        (g.0 ++ g2.0, fronts g.0 g2.0 w s.0.1 r g.1 g2.1)
  ]

  viable : (u r : List Token) → bind_at p f (u ++ r) ≡ Err r → length u < n → (y : B) × (v : List Token) × bind U U2 y (u ++ v)
  viable u r e short = elim (bind_err (p (u ++ r)) (λ x. f x.0 x.1) r e) [
    | inl a ↦
        let c = h.viable u r a short in
        let c2 = (k c.0).some in
        (c2.0, c.1 ++ c2.1, (c.0, u ++ c.1, c2.1, sym (append_assoc u c.1 c2.1), c.2, c2.2))
    | inr s ↦
        let g = h.got (u ++ r) s.0.1 s.0.0 s.1 in
        let g2 = (k s.0.0).stopped s.0.1 r s.2 in
        let u-is : u ≡ g.0 ++ g2.0 = fronts_of g.0 g2.0 u s.0.1 r g.1 g2.1 in
        let len : length u ≡ length g.0 + length g2.0 = ap length u-is ∙ length-append g.0 g2.0 in
        let c = (k s.0.0).viable g2.0 r (subst (λ (m : List Token). f s.0.0 m ≡ Err r) g2.1 s.2) (omega (arith, shift s.0.0 g.0 g.2)) in
        (c.0, c.1, (s.0.0, g.0, g2.0 ++ c.1, ap (λ (t : List Token). t ++ c.1) u-is ∙ append_assoc g.0 g2.0 c.1, g.2, c.2))
  ]

  unique : (u r : List Token) (y : B) → bind_at p f (u ++ r) ≡ Ok (y, r) → length u < n → (z : B) (w m t : List Token) → bind D D2 z w → IsEnd (E2 z) m → w ++ m ≡ u ++ t → SameHead r t → (z ≡ y) × (w ≡ u)
  unique u r y e short z w m t (x1, u1, v1, e1, d1, d2) end eq same =
      let s = bind_ok (p (u ++ r)) (λ x. f x.0 x.1) (y, r) e in
      let g = h.got (u ++ r) s.0.1 s.0.0 s.1 in
      let g2 = (k s.0.0).got s.0.1 r y s.2 in
      let u-is : u ≡ g.0 ++ g2.0 = fronts_of g.0 g2.0 u s.0.1 r g.1 g2.1 in
      let len : length u ≡ length g.0 + length g2.0 = ap length u-is ∙ length-append g.0 g2.0 in
      let eq1 : u1 ++ (v1 ++ m) ≡ g.0 ++ (g2.0 ++ t) = sym (append_assoc u1 v1 m) ∙ ap (λ (q : List Token). q ++ m) (sym e1) ∙ eq ∙ ap (λ (q : List Token). q ++ t) u-is ∙ append_assoc g.0 g2.0 t in
      let ran : p (g.0 ++ (g2.0 ++ r)) ≡ Ok (s.0.0, g2.0 ++ r) = rw (← append_assoc g.0 g2.0 r, ← u-is, ← g2.1) s.1 in
      let first : (x1 ≡ s.0.0) × (u1 ≡ g.0) = h.unique g.0 (g2.0 ++ r) s.0.0 ran (omega arith) x1 u1 (v1 ++ m) (g2.0 ++ t) d1 (apart x1 z v1 m d2 end) eq1 (same_head g2.0 r t same) in
      let eq2 : v1 ++ m ≡ g2.0 ++ t = append_cancel_left g.0 (v1 ++ m) (g2.0 ++ t) (ap (λ (q : List Token). q ++ (v1 ++ m)) (sym first.1) ∙ eq1) in
      let second : (z ≡ y) × (v1 ≡ g2.0) = (k s.0.0).unique g2.0 r y (subst (λ (q : List Token). f s.0.0 q ≡ Ok (y, r)) g2.1 s.2) (omega (arith, shift s.0.0 g.0 g.2)) z v1 m t (subst (λ (q : A). D2 q z v1) first.0 d2) end eq2 same in
      (second.0, e1 ∙ ap (λ (q : List Token). q ++ v1) first.1 ∙ ap (λ (q : List Token). g.0 ++ q) second.1 ∙ sym u-is)

  dead : (u r : List Token) → bind_at p f (u ++ r) ≡ Err r → length u < n → (z : B) (w m t : List Token) → bind D D2 z w → IsEnd (E2 z) m → w ++ m ≡ u ++ t → SameHead r t → ⊥
  dead u r e short z w m t (x1, u1, v1, e1, d1, d2) end eq same = elim (bind_err (p (u ++ r)) (λ x. f x.0 x.1) r e) [
    | inl a ↦ h.dead u r a short x1 u1 (v1 ++ m) t d1 (apart x1 z v1 m d2 end) (sym (append_assoc u1 v1 m) ∙ ap (λ (q : List Token). q ++ m) (sym e1) ∙ eq) same
    | inr s ↦
        let g = h.got (u ++ r) s.0.1 s.0.0 s.1 in
        let g2 = (k s.0.0).stopped s.0.1 r s.2 in
        let u-is : u ≡ g.0 ++ g2.0 = fronts_of g.0 g2.0 u s.0.1 r g.1 g2.1 in
        let len : length u ≡ length g.0 + length g2.0 = ap length u-is ∙ length-append g.0 g2.0 in
        let eq1 : u1 ++ (v1 ++ m) ≡ g.0 ++ (g2.0 ++ t) = sym (append_assoc u1 v1 m) ∙ ap (λ (q : List Token). q ++ m) (sym e1) ∙ eq ∙ ap (λ (q : List Token). q ++ t) u-is ∙ append_assoc g.0 g2.0 t in
        let ran : p (g.0 ++ (g2.0 ++ r)) ≡ Ok (s.0.0, g2.0 ++ r) = rw (← append_assoc g.0 g2.0 r, ← u-is, ← g2.1) s.1 in
        let first : (x1 ≡ s.0.0) × (u1 ≡ g.0) = h.unique g.0 (g2.0 ++ r) s.0.0 ran (omega arith) x1 u1 (v1 ++ m) (g2.0 ++ t) d1 (apart x1 z v1 m d2 end) eq1 (same_head g2.0 r t same) in
        let eq2 : v1 ++ m ≡ g2.0 ++ t = append_cancel_left g.0 (v1 ++ m) (g2.0 ++ t) (ap (λ (q : List Token). q ++ (v1 ++ m)) (sym first.1) ∙ eq1) in
        (k s.0.0).dead g2.0 r (subst (λ (q : List Token). f s.0.0 q ≡ Err r) g2.1 s.2) (omega (arith, shift s.0.0 g.0 g.2)) z v1 m t (subst (λ (q : A). D2 q z v1) first.0 d2) end eq2 same
  ]

  some : (y : B) × (w : List Token) × bind U U2 y w
  some =
      let c = h.some in
      let c2 = (k c.0).some in
      (c2.0, c.1 ++ c2.1, (c.0, c.1, c2.1, refl, c.2, c2.2))

  pub shifted-reads : Reads n (bind D D2) (bind U U2) E2 (bind_at p f)
  shifted-reads = record { got = got; stopped = stopped; viable = viable; unique = unique; dead = dead; some = some }

-- ---- one token

given_ok : {A : Type 0} (o : Result A (Unit {0})) (a : Token) (w m : List Token) (x : A) → given o a w ≡ Ok (x, m) → (o ≡ Ok x) × (w ≡ m)
given_ok (Ok y) a w m x e = let h = ok_parts y x w m e in (rw (h.0) refl, h.1)
given_ok (Err d) a w m x e = absurd cc

given_err : {A : Type 0} (o : Result A (Unit {0})) (a : Token) (w r : List Token) → given o a w ≡ Err r → (a ∷ w ≡ r) × (o ≡ Err tt)
given_err (Ok y) a w r e = absurd cc
given_err (Err d) a w r e = (cc, refl)

taken-got : {A : Type 0} (f : Token → Result A (Unit {0})) (w m : List Token) (x : A) → taken_at f w ≡ Ok (x, m) → (u : List Token) × (w ≡ u ++ m) × taken f x u
taken-got f [] m x e = absurd cc
taken-got f (a ∷ w) m x e = let h = given_ok (f a) a w m x e in (a ∷ [], ap (λ (t : List Token). a ∷ t) h.1, (a, refl, h.0))

taken-stopped : {A : Type 0} (f : Token → Result A (Unit {0})) (w r : List Token) → taken_at f w ≡ Err r → w ≡ r
taken-stopped f [] r e = cc
taken-stopped f (a ∷ w) r e = (given_err (f a) a w r e).0

heads : (a b : Token) (m s : List Token) → a ∷ m ≡ b ∷ s → a ≡ b
heads a b m s e = cc

no_token : Token
no_token = record { at = 0; end = 0; lexeme = lexeme.Name [] }

result_is : {A : Type 0} (x y : A) → given (Ok x) no_token [] ≡ given (Ok y) no_token [] → x ≡ y
result_is x y e = (ok_parts x y [] [] e).0

taken-unique : {A : Type 0} (f : Token → Result A (Unit {0})) (u r : List Token) (x : A) → taken_at f (u ++ r) ≡ Ok (x, r) → (y : A) (w m s : List Token) → taken f y w → w ++ m ≡ u ++ s → (y ≡ x) × (w ≡ u)
taken-unique {A = A} f u r x e y w m s (b, is, gives) eq =
    let g = taken-got f (u ++ r) r x e in
    let u-is : u ≡ g.2.0 ∷ [] = append_cancel_right u g.0 r g.1 ∙ g.2.1 in
    let same : b ≡ g.2.0 = heads b g.2.0 m s (ap (λ (q : List Token). q ++ m) (sym is) ∙ eq ∙ ap (λ (q : List Token). q ++ s) u-is) in
    let both : f b ≡ Ok x = ap f same ∙ g.2.2 in
    let value : y ≡ x = result_is y x (ap (λ (q : Result A (Unit {0})). given q no_token []) (sym gives ∙ both)) in
    (value, is ∙ ap (λ (q : Token). q ∷ []) same ∙ sym u-is)

taken-dead : {A : Type 0} (f : Token → Result A (Unit {0})) (u r : List Token) → taken_at f (u ++ r) ≡ Err r → (y : A) (w m s : List Token) → taken f y w → w ++ m ≡ u ++ s → SameHead r s → ⊥
taken-dead f [] [] e y w m [] (b, is, gives) eq same = let q : b ∷ m ≡ [] = ap (λ (q : List Token). q ++ m) (sym is) ∙ eq in absurd cc
taken-dead f [] [] e y w m (c ∷ s) (b, is, gives) eq same = same
taken-dead f [] (a ∷ r) e y w m [] (b, is, gives) eq same = same
taken-dead f [] (a ∷ r) e y w m (c ∷ s) (b, is, gives) eq same =
    let there : b ≡ c = heads b c m s (ap (λ (q : List Token). q ++ m) (sym is) ∙ eq) in
    let no : f a ≡ Err tt = (given_err (f a) a r (a ∷ r) e).1 in
    let yes : f a ≡ Ok y = ap f (same ∙ sym there) ∙ gives in
    absurd cc
taken-dead f (c ∷ u) r e y w m s d eq same = absurd (omega (arith, ap length (given_err (f c) c (u ++ r) r e).0, length-append {A = Token}))

pub taken-reads : {A : Type 0} (n : ℕ) (f : Token → Result A (Unit {0})) (E : A → Token → Bool) (a : Token) (x : A) → f a ≡ Ok x → Reads n (taken f) (taken f) E (taken_at f)
taken-reads n f E a x is = record {
  got = λ w m y e. taken-got f w m y e;
  stopped = λ w r e. ([], taken-stopped f w r e);
  viable = λ u r e short.
      let none-is : u ≡ [] = append_cancel_right u [] r (taken-stopped f (u ++ r) r e) in
      (x, a ∷ [], (a, ap (λ (t : List Token). t ++ a ∷ []) none-is, is));
  unique = λ u r y e short z w m s d end eq same. taken-unique f u r y e z w m s d eq;
  dead = λ u r e short z w m s d end eq same. taken-dead f u r e z w m s d eq same;
  some = (x, a ∷ [], (a, refl, is));
}

-- ---- a choice by the token in hand

hand_front : (test : Token → Bool) (u r s : List Token) → SameHead r s → hand test (u ++ r) ≡ hand test (u ++ s)
hand_front test [] [] [] h = refl
hand_front test [] [] (b ∷ s) h = absurd h
hand_front test [] (a ∷ r) [] h = absurd h
hand_front test [] (a ∷ r) (b ∷ s) h = ap test h
hand_front test (a ∷ u) r s h = refl

chosen : {A : Type 0} (b : Bool) (x y z : A) → cond b x y ≡ z → ((b ≡ true) × (x ≡ z)) ⊎ ((b ≡ false) × (y ≡ z))
chosen true x y z e = inl (refl, e)
chosen false x y z e = inr (refl, e)

module _ {A : Type 0} (n : ℕ) (test : Token → Bool) (D U : Lang A) (E : A → Token → Bool) (p : Reader A) (D2 U2 : Lang A) (q : Reader A)
    (h : Reads n D U E p) (k : Reads n D2 U2 E q)
    (first : (x : A) (u m : List Token) → D x u → hand test (u ++ m) ≡ true)
    (other : (x : A) (u m : List Token) → D2 x u → IsEnd (E x) m → hand test (u ++ m) ≡ false) where
  one-got : (w m : List Token) (x : A) → either_at test p q w ≡ Ok (x, m) → (u : List Token) × (w ≡ u ++ m) × either U U2 x u
  one-got w m x e = elim (chosen (hand test w) (p w) (q w) (Ok (x, m)) e) [
    | inl c ↦ let g = h.got w m x c.1 in (g.0, g.1, inl g.2)
    | inr c ↦ let g = k.got w m x c.1 in (g.0, g.1, inr g.2)
  ]

  one-stopped : (w r : List Token) → either_at test p q w ≡ Err r → (u : List Token) × (w ≡ u ++ r)
  one-stopped w r e = elim (chosen (hand test w) (p w) (q w) (Err r) e) [
    | inl c ↦ h.stopped w r c.1
    | inr c ↦ k.stopped w r c.1
  ]

  one-viable : (u r : List Token) → either_at test p q (u ++ r) ≡ Err r → length u < n → (x : A) × (v : List Token) × either U U2 x (u ++ v)
  one-viable u r e short = elim (chosen (hand test (u ++ r)) (p (u ++ r)) (q (u ++ r)) (Err r) e) [
    | inl c ↦ let g = h.viable u r c.1 short in (g.0, g.1, inl g.2)
    | inr c ↦ let g = k.viable u r c.1 short in (g.0, g.1, inr g.2)
  ]

  one-unique : (u r : List Token) (x : A) → either_at test p q (u ++ r) ≡ Ok (x, r) → length u < n → (y : A) (w m s : List Token) → D y w ⊎ D2 y w → IsEnd (E y) m → w ++ m ≡ u ++ s → SameHead r s → (y ≡ x) × (w ≡ u)
  one-unique u r x e short y w m s (inl d) end eq same = elim (chosen (hand test (u ++ r)) (p (u ++ r)) (q (u ++ r)) (Ok (x, r)) e) [
    | inl c ↦ h.unique u r x c.1 short y w m s d end eq same
    | inr c ↦ let b : true ≡ false = sym (first y w m d) ∙ ap (hand test) eq ∙ sym (hand_front test u r s same) ∙ c.0 in absurd cc
  ]
  one-unique u r x e short y w m s (inr d) end eq same = elim (chosen (hand test (u ++ r)) (p (u ++ r)) (q (u ++ r)) (Ok (x, r)) e) [
    | inl c ↦ let b : false ≡ true = sym (other y w m d end) ∙ ap (hand test) eq ∙ sym (hand_front test u r s same) ∙ c.0 in absurd cc
    | inr c ↦ k.unique u r x c.1 short y w m s d end eq same
  ]

  one-dead : (u r : List Token) → either_at test p q (u ++ r) ≡ Err r → length u < n → (y : A) (w m s : List Token) → D y w ⊎ D2 y w → IsEnd (E y) m → w ++ m ≡ u ++ s → SameHead r s → ⊥
  one-dead u r e short y w m s (inl d) end eq same = elim (chosen (hand test (u ++ r)) (p (u ++ r)) (q (u ++ r)) (Err r) e) [
    | inl c ↦ h.dead u r c.1 short y w m s d end eq same
    | inr c ↦ let b : true ≡ false = sym (first y w m d) ∙ ap (hand test) eq ∙ sym (hand_front test u r s same) ∙ c.0 in absurd cc
  ]
  one-dead u r e short y w m s (inr d) end eq same = elim (chosen (hand test (u ++ r)) (p (u ++ r)) (q (u ++ r)) (Err r) e) [
    | inl c ↦ let b : false ≡ true = sym (other y w m d end) ∙ ap (hand test) eq ∙ sym (hand_front test u r s same) ∙ c.0 in absurd cc
    | inr c ↦ k.dead u r c.1 short y w m s d end eq same
  ]

  pub either-reads : Reads n (either D D2) (either U U2) E (either_at test p q)
  either-reads = record { got = one-got; stopped = one-stopped; viable = one-viable; unique = one-unique; dead = one-dead; some = (h.some.0, h.some.1, inl h.some.2) }

-- ---- what is made of these

-- the same language said otherwise, and more tokens that might go on
pub fits : {A : Type 0} (n : ℕ) (D U D2 U2 : Lang A) (E E2 : A → Token → Bool) (p : Reader A) → Reads n D U E p → ((x : A) (u : List Token) → D2 x u → D x u) → ((x : A) (u : List Token) → U x u → U2 x u) → ((x : A) (m : List Token) → IsEnd (E2 x) m → IsEnd (E x) m) → Reads n D2 U2 E2 p
fits n D U D2 U2 E E2 p h down up ends = record {
  got = λ w m x e. let g = h.got w m x e in (g.0, g.1, up x g.0 g.2);
  stopped = h.stopped;
  viable = λ u r e short. let g = h.viable u r e short in (g.0, g.1, up g.0 (u ++ g.1) g.2);
  unique = λ u r x e short y w m s d end eq same. h.unique u r x e short y w m s (down y w d) (ends y m end) eq same;
  dead = λ u r e short y w m s d end eq same. h.dead u r e short y w m s (down y w d) (ends y m end) eq same;
  some = (h.some.0, h.some.1, up h.some.0 h.some.1 h.some.2);
}

-- the same reader said otherwise
pub same-reads : {A : Type 0} (n : ℕ) (D U : Lang A) (E : A → Token → Bool) (p q : Reader A) → ((w : List Token) → p w ≡ q w) → Reads n D U E p → Reads n D U E q
same-reads n D U E p q same h = subst (λ (r : Reader _). Reads n D U E r) (λ i w. same w i) h

pub bind-reads : {A B : Type 0} (n : ℕ) (D U : Lang A) (E : A → Token → Bool) (p : Reader A) (D2 U2 : A → Lang B) (E2 : B → Token → Bool) (f : A → Reader B) → Reads n D U E p → ((x : A) → Reads n (D2 x) (U2 x) E2 (f x)) → ((x : A) (y : B) (v m : List Token) → D2 x y v → IsEnd (E2 y) m → IsEnd (E x) (v ++ m)) → Reads n (bind D D2) (bind U U2) E2 (bind_at p f)
bind-reads n D U E p D2 U2 E2 f h k apart = shifted-reads n n D U E p D2 U2 E2 f h k (λ x u d. omega arith) apart

none_end : (m : List Token) → IsEnd (λ a. false) m
none_end [] = tt
none_end (a ∷ m) = refl

-- behind one token
pub after-reads : {A B : Type 0} (n : ℕ) (f : Token → Result A (Unit {0})) (a : Token) (x : A) → f a ≡ Ok x → (D2 U2 : A → Lang B) (E2 : B → Token → Bool) (q : A → Reader B) → ((y : A) → Reads n (D2 y) (U2 y) E2 (q y)) → Reads (suc n) (bind (taken f) D2) (bind (taken f) U2) E2 (bind_at (taken_at f) q)
after-reads n f a x is D2 U2 E2 q k =
    shifted-reads (suc n) n (taken f) (taken f) (λ y b. false) (taken_at f) D2 U2 E2 q (taken-reads (suc n) f (λ y b. false) a x is) k
    (λ y u d. rw d.1 (omega arith)) (λ y z v m d end. none_end (v ++ m))

pub fewer : {A : Type 0} (n n2 : ℕ) (D U : Lang A) (E : A → Token → Bool) (p : Reader A) → n ≤ n2 → Reads n2 D U E p → Reads n D U E p
fewer n n2 D U E p le h = record {
  got = h.got;
  stopped = h.stopped;
  viable = λ u r e short. h.viable u r e (omega arith);
  unique = λ u r x e short. h.unique u r x e (omega arith);
  dead = λ u r e short. h.dead u r e (omega arith);
  some = h.some;
}

pub stuck-reads : {A : Type 0} (D U : Lang A) (E : A → Token → Bool) (x : A) (w : List Token) → U x w → Reads zero D U E (λ w. Err w)
stuck-reads D U E x w u = record {
  got = λ w m x e. absurd cc;
  stopped = λ w r e. ([], (cc));
  viable = λ u r e short. absurd (omega arith);
  unique = λ u r x e short. absurd (omega arith);
  dead = λ u r e short. absurd (omega arith);
  some = (x, w, u);
}

hand_end : (test : Token → Bool) (m : List Token) → IsEnd test m → hand test m ≡ false
hand_end test [] end = refl
hand_end test (a ∷ m) end = end

module _ {A : Type 0} (n : ℕ) (test : Token → Bool) (D U : Lang A) (E : A → Token → Bool) (p : Reader A) (h : Reads n D U E p)
    (begins : (x : A) (u m : List Token) → D x u → hand test (u ++ m) ≡ true)
    (some_U : (x : A) (u : List Token) → U x u → 1 ≤ length u)
    (goes_on : (x y : A) (u m : List Token) → D y u → IsEnd (E x) (u ++ m))
    (E2 : Token → Bool) (ends : (x : A) (m : List Token) → IsEnd E2 m → IsEnd (E x) m) (stop : (m : List Token) → IsEnd E2 m → IsEnd test m) where
  many_apart : (x : A) (xs : List A) (u m : List Token) → many D xs u → IsEnd E2 m → IsEnd (E x) (u ++ m)
  many_apart x [] u m d end = subst (λ (t : List Token). IsEnd (E x) (t ++ m)) (sym d) (ends x m end)
  many_apart x (y ∷ ys) w m (u, v, e, d, ds) end = subst (λ (t : List Token). IsEnd (E x) t) (rw (e, append_assoc) refl) (goes_on x y u (v ++ m) d)

  many_down : (xs : List A) (u : List Token) → many D xs u → either (bind D λ x. bind (many D) λ ys. only (x ∷ ys)) (only []) xs u
  many_down [] u d = inr (refl, d)
  many_down (x ∷ xs) w (u, v, e, d, ds) = inl (x, u, v, e, d, (xs, v, [], rw append-nil refl, ds, (refl, refl)))

  many_up : (xs : List A) (u : List Token) → either (bind U λ x. bind (many U) λ ys. only (x ∷ ys)) (only []) xs u → many U xs u
  many_up xs u (inr d) = subst (λ (ys : List A). many U ys u) (sym d.0) d.1
  many_up xs w (inl (x, u, v, e, d, (ys, v1, v2, e2, ds, (is, none_is)))) = subst (λ (zs : List A). many U zs w) (sym is) (u, v, e, d, subst (λ (t : List Token). many U ys t) (sym (rw (e2, none_is, append-nil) refl)) ds)

  pub many-reads : (c : ℕ) → c ≤ n → Reads c (many D) (many U) (λ xs. E2) (many_at c test p)
  many-reads zero le = stuck-reads (many D) (many U) (λ xs. E2) [] [] refl
  many-reads (suc c) le =
      fits (suc c) (either (bind D λ x. bind (many D) λ ys. only (x ∷ ys)) (only [])) (either (bind U λ x. bind (many U) λ ys. only (x ∷ ys)) (only [])) (many D) (many U) (λ xs. E2) (λ xs. E2) (many_at (suc c) test p)
      (either-reads (suc c) test (bind D λ x. bind (many D) λ ys. only (x ∷ ys)) (bind U λ x. bind (many U) λ ys. only (x ∷ ys)) (λ xs. E2) (bind_at p λ x. bind_at (many_at c test p) λ xs. done_at (x ∷ xs)) (only []) (only []) (done_at [])
      (shifted-reads (suc c) c D U E p (λ x. bind (many D) λ ys. only (x ∷ ys)) (λ x. bind (many U) λ ys. only (x ∷ ys)) (λ xs. E2) (λ x. bind_at (many_at c test p) λ xs. done_at (x ∷ xs))
      (fewer (suc c) n D U E p le h)
      (λ x. bind-reads c (many D) (many U) (λ xs. E2) (many_at c test p) (λ ys. only (x ∷ ys)) (λ ys. only (x ∷ ys)) (λ xs. E2) (λ xs. done_at (x ∷ xs)) (many-reads c (omega arith)) (λ ys. done-reads c (λ xs. E2) (x ∷ ys))
      (λ ys zs v m d end. subst (λ (t : List Token). IsEnd E2 (t ++ m)) (sym d.1) end))
      (λ x u d. omega (arith, some_U x u d))
      (λ x zs v m d end. many_apart x d.0 v m (subst (λ (t : List Token). many D d.0 t) (sym (rw (d.3, d.5.1, append-nil) refl)) d.4) end))
      (done-reads (suc c) (λ xs. E2) [])
      (λ xs u m d. rw (d.3, append_assoc) (begins d.0 d.1 (d.2 ++ m) d.4))
      (λ xs u m d end. rw d.1 (hand_end test m (stop m end))))
      many_down many_up (λ x m end. end)

module _ {A O : Type 0} (n : ℕ) (op : A → Token → Result O (Unit {0})) (join : O → A → A → A) (D U : Lang A) (E : A → Token → Bool) (p : Reader A) (h : Reads n D U E p) (E2 : A → Token → Bool)
    (sample : (x : A) → (a : Token) × (o : O) × (op x a ≡ Ok o))
    (sign_ends : (o : O) (x y : A) (a : Token) (o2 : O) → op (join o x y) a ≡ Ok o2 → E y a ≡ false)
    (ends : (o : O) (x y : A) (m : List Token) → IsEnd (E2 (join o x y)) m → IsEnd (E y) m)
    (stops : (x : A) (m : List Token) → IsEnd (E2 x) m → hand (λ a. is_given (op x a)) m ≡ false) where
  chain_apart : (k : ℕ) (o : O) (x y z : A) (v m : List Token) → chain k op join D (join o x y) z v → IsEnd (E2 z) m → IsEnd (E y) (v ++ m)
  chain_apart zero o x y z v m d end = absurd d
  chain_apart (suc k) o x y z v m (inr d) end = subst (λ (t : List Token). IsEnd (E y) (t ++ m)) (sym d.1) (ends o x y m (subst (λ (t : A). IsEnd (E2 t) m) d.0 end))
  chain_apart (suc k) o x y z v m (inl (o2, u1, u2, e, (a, is, gives), d)) end =
      let front : v ≡ (a ∷ []) ++ u2 = e ∙ ap (λ (t : List Token). t ++ u2) is in
      subst (λ (t : List Token). IsEnd (E y) (t ++ m)) (sym front) (sign_ends o x y a o2 gives)

  chain_first : (x z : A) (K : O → Lang A) (u m : List Token) → bind (taken (op x)) K z u → hand (λ a. is_given (op x a)) (u ++ m) ≡ true
  chain_first x z K w m (o, u1, u2, e, (a, is, gives), d) =
      let front : w ≡ (a ∷ []) ++ u2 = e ∙ ap (λ (t : List Token). t ++ u2) is in
      rw (front, gives) refl

  chain-step : (c k : ℕ) (x : A) → suc c ≤ n → ((y : A) → Reads c (chain k op join D y) (chain (suc c) op join U y) E2 (chain_at c op join p y)) → Reads (suc c) (chain (suc k) op join D x) (chain (suc (suc c)) op join U x) E2 (chain_at (suc c) op join p x)
  chain-step c k x le ih =
      let s = sample x in
      either-reads (suc c) (λ a. is_given (op x a)) (bind (taken (op x)) λ o. bind D λ y. chain k op join D (join o x y)) (bind (taken (op x)) λ o. bind U λ y. chain (suc c) op join U (join o x y)) E2 (bind_at (taken_at (op x)) λ o. bind_at p λ y. chain_at c op join p (join o x y)) (only x) (only x) (done_at x)
      (after-reads c (op x) s.0 s.1 s.2 (λ o. bind D λ y. chain k op join D (join o x y)) (λ o. bind U λ y. chain (suc c) op join U (join o x y)) E2 (λ o. bind_at p λ y. chain_at c op join p (join o x y))
      (λ o. bind-reads c D U E p (λ y. chain k op join D (join o x y)) (λ y. chain (suc c) op join U (join o x y)) E2 (λ y. chain_at c op join p (join o x y)) (fewer c n D U E p (omega arith) h) (λ y. ih (join o x y)) (λ y z v m d end. chain_apart k o x y z v m d end)))
      (done-reads (suc c) E2 x)
      (λ z u m d. chain_first x z (λ o. bind D λ y. chain k op join D (join o x y)) u m d)
      (λ z u m d end. subst (λ (t : List Token). hand (λ a. is_given (op x a)) (t ++ m) ≡ false) (sym d.1) (stops x m (subst (λ (t : A). IsEnd (E2 t) m) d.0 end)))

  pub chain-reads : (c k : ℕ) (x : A) → c ≤ n → Reads c (chain k op join D x) (chain (suc c) op join U x) E2 (chain_at c op join p x)
  chain-reads zero k x le = stuck-reads (chain k op join D x) (chain 1 op join U x) E2 x [] (inr (refl, refl))
  chain-reads (suc c) zero x le = fits (suc c) (chain 1 op join D x) (chain (suc (suc c)) op join U x) none (chain (suc (suc c)) op join U x) E2 E2 (chain_at (suc c) op join p x) (chain-step c 0 x le (λ y. chain-reads c 0 y (omega arith))) (λ z u d. absurd d) (λ z u d. d) (λ z m end. end)
  chain-reads (suc c) (suc k) x le = chain-step c k x le (λ y. chain-reads c k y (omega arith))

-- ---- the whole text

same_self : (r : List Token) → SameHead r r
same_self [] = tt
same_self (a ∷ r) = refl

ended_ok : {A : Type 0} (x y : A) (r : List Token) → ended x r ≡ Ok y → (x ≡ y) × (r ≡ [])
ended_ok x y [] e = (result_is x y (ap (λ (q : Result _ (List Token)). q >>= λ z. Ok (z, [])) e), refl)
ended_ok x y (a ∷ r) e = absurd cc

ended_err : {A : Type 0} (x : A) (r d : List Token) → ended x r ≡ Err d → (r ≡ d) × ((r ≡ []) → ⊥)
ended_err x [] d e = absurd cc
ended_err x (a ∷ r) d e = (cc, λ no. absurd cc)

refused_by : {A : Type 0} (P : Lang A) (u r : List Token) → ((x : A) (w s : List Token) → P x w → w ≡ u ++ s → SameHead r s → ⊥) → Refused P u r
refused_by P u [] never = tt
refused_by P u (a ∷ r) never = λ b. never b.0 ((u ++ a ∷ []) ++ b.1) (a ∷ b.1) b.2 (append_assoc u (a ∷ []) b.1) refl

nothing_left : (r t : List Token) → SameHead r t → t ≡ [] → ((r ≡ []) → ⊥) → ⊥
nothing_left [] t same e never = never refl
nothing_left (a ∷ r) [] same e never = same
nothing_left (a ∷ r) (b ∷ t) same e never = absurd cc

module _ {A : Type 0} (P : Lang A) (E : A → Token → Bool) (p : Reader A) (w : List Token) (n : ℕ) (long : length w < n) (h : Reads n P P E p) where
  short : (u r : List Token) → w ≡ u ++ r → length u < n
  short u r e = omega (arith, ap length e, length-append u r)

  -- what a value that is read excludes
  one_value : (x : A) (u r : List Token) → p w ≡ Ok (x, r) → w ≡ u ++ r → (y : A) (v s : List Token) → P y v → v ≡ u ++ s → SameHead r s → (y ≡ x) × (v ≡ u)
  one_value x u r e front y v s d is same = h.unique u r x (subst (λ (q : List Token). p q ≡ Ok (x, r)) front e) (short u r front) y v [] s d tt (append-nil v ∙ is) same

  no_value : (u r : List Token) → p w ≡ Err r → w ≡ u ++ r → (y : A) (v s : List Token) → P y v → v ≡ u ++ s → SameHead r s → ⊥
  no_value u r e front y v s d is same = h.dead u r (subst (λ (q : List Token). p q ≡ Err r) front e) (short u r front) y v [] s d tt (append-nil v ∙ is) same

  pub whole_sound : (x : A) → all_at p w ≡ Ok x → P x w
  whole_sound x e =
      let s = bind_ok (p w) (λ q. ended q.0 q.1) x e in
      let d = ended_ok s.0.0 x s.0.1 s.2 in
      let g = h.got w s.0.1 s.0.0 s.1 in
      let all : w ≡ g.0 = g.1 ∙ ap (λ (q : List Token). g.0 ++ q) d.1 ∙ append-nil g.0 in
      subst (λ (q : List Token). P x q) (sym all) (subst (λ (q : A). P q g.0) d.0 g.2)

  complete : (r : Result (A × List Token) (List Token)) → p w ≡ r → (x : A) → P x w → (r >>= λ q. ended q.0 q.1) ≡ Ok x
  complete (Ok q) e x d =
      let g = h.got w q.1 q.0 e in
      let o = one_value q.0 g.0 q.1 e g.1 x w q.1 d g.1 (same_self q.1) in
      let rest : q.1 ≡ [] = append_cancel_left g.0 q.1 [] (sym g.1 ∙ o.1 ∙ sym (append-nil g.0)) in
      rw (rest, o.0) refl
  complete (Err r) e x d =
      let g = h.stopped w r e in
      absurd (no_value g.0 r e g.1 x w r d g.1 (same_self r))

  pub whole_complete : (x : A) → P x w → all_at p w ≡ Ok x
  whole_complete x d = complete (p w) refl x d

  pub whole_fault : (r : List Token) → all_at p w ≡ Err r → IsFault P w r
  whole_fault r e = elim (bind_err (p w) (λ q. ended q.0 q.1) r e) [
    | inl a ↦
        let g = h.stopped w r a in
        let v = h.viable g.0 r (subst (λ (q : List Token). p q ≡ Err r) g.1 a) (short g.0 r g.1) in
        (g.0, g.1, (v.0, v.1, v.2), refused_by P g.0 r (λ x v s. no_value g.0 r a g.1 x v s), λ x d. no_value g.0 r a g.1 x w r d g.1 (same_self r))
    | inr s ↦
        let d = ended_err s.0.0 s.0.1 r s.2 in
        let g = h.got w s.0.1 s.0.0 s.1 in
        let front : w ≡ g.0 ++ r = g.1 ∙ ap (λ (q : List Token). g.0 ++ q) d.0 in
        let ran : p w ≡ Ok (s.0.0, r) = s.1 ∙ ap (λ (q : List Token). done_at s.0.0 q) d.0 in
        let there : (x : A) (v t : List Token) → P x v → v ≡ g.0 ++ t → SameHead r t → ⊥ = λ x v t sp is same.
        let o = one_value s.0.0 g.0 r ran front x v t sp is same in
        let none_left : t ≡ [] = append_cancel_left g.0 t [] (sym is ∙ o.1 ∙ sym (append-nil g.0)) in
        nothing_left r t same none_left (λ z. d.1 (d.0 ∙ z)) in
        (g.0, front, (s.0.0, [], subst (λ (q : List Token). P s.0.0 q) (sym (append-nil g.0)) g.2), refused_by P g.0 r there, λ x sp. there x w r sp front (same_self r))
  ]
