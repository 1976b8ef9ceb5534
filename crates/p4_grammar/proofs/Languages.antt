-- When two languages are the same.
use Rattle.std.proofs.Common.{List, [], ◌∷◌, ◌++◌, refl, sym, ap, subst, ◌∙◌, append_assoc, inl, inr, ◌⊎◌}
use Rattle.p4_lex.specs.declared.token.Token.{Token}
use Rattle.p4_lex.specs.declared.token.Sign.{Sign}
use Rattle.p4_grammar.specs.Forms.{Lang, only, bind, either}
use Rattle.p4_grammar.specs.Tokens.{is, words}

pub record Same {A : Type 0} (L M : Lang A) : Type 0 where
  pub to : (x : A) (u : List Token) → L x u → M x u
  pub back : (x : A) (u : List Token) → M x u → L x u

pub same : {A : Type 0} {L : Lang A} → Same L L
same = record { to = λ x u d. d; back = λ x u d. d }

pub flip : {A : Type 0} {L M : Lang A} → Same L M → Same M L
flip h = record { to = h.back; back = h.to }

infixr 20 ◌then◌
pub ◌then◌ : {A : Type 0} {L M N : Lang A} → Same L M → Same M N → Same L N
h then k = record { to = λ x u d. k.to x u (h.to x u d); back = λ x u d. h.back x u (k.back x u d) }

pub same_bind : {A B : Type 0} {L M : Lang A} {K N : A → Lang B} → Same L M → ((x : A) → Same (K x) (N x)) → Same (bind L K) (bind M N)
same_bind h k = record {
  to = λ y w d. (d.0, d.1, d.2, d.3, h.to d.0 d.1 d.4, (k d.0).to y d.2 d.5);
  back = λ y w d. (d.0, d.1, d.2, d.3, h.back d.0 d.1 d.4, (k d.0).back y d.2 d.5);
}

side : {A B C D : Type 0} → (A → C) → (B → D) → A ⊎ B → C ⊎ D
side f g (inl x) = inl (f x)
side f g (inr x) = inr (g x)

pub same_either : {A : Type 0} {L M N O : Lang A} → Same L M → Same N O → Same (either L N) (either M O)
same_either h k = record { to = λ x u. side (h.to x u) (k.to x u); back = λ x u. side (h.back x u) (k.back x u) }

assoc_to : {A B C : Type 0} (L : Lang A) (K : A → Lang B) (N : B → Lang C) (z : C) (w : List Token) → bind (bind L K) N z w → bind L (λ x. bind (K x) N) z w
assoc_to L K N z w (y, u, v, e, (x, u1, v1, e1, l, k), n) = (x, u1, v1 ++ v, e ∙ ap (λ (q : List Token). q ++ v) e1 ∙ append_assoc u1 v1 v, l, (y, v1, v, refl, k, n))

assoc_back : {A B C : Type 0} (L : Lang A) (K : A → Lang B) (N : B → Lang C) (z : C) (w : List Token) → bind L (λ x. bind (K x) N) z w → bind (bind L K) N z w
assoc_back L K N z w (x, u, v, e, l, (y, u1, v1, e1, k, n)) = (y, u ++ u1, v1, e ∙ ap (λ (q : List Token). u ++ q) e1 ∙ sym (append_assoc u u1 v1), (x, u, u1, refl, l, k), n)

pub assoc : {A B C : Type 0} {L : Lang A} {K : A → Lang B} {N : B → Lang C} → Same (bind (bind L K) N) (bind L (λ x. bind (K x) N))
assoc {L = L} {K = K} {N = N} = record { to = assoc_to L K N; back = assoc_back L K N }

dist_to : {A B : Type 0} (L M : Lang A) (K : A → Lang B) (y : B) (w : List Token) → bind (either L M) K y w → either (bind L K) (bind M K) y w
dist_to L M K y w (x, u, v, e, inl d, k) = inl (x, u, v, e, d, k)
dist_to L M K y w (x, u, v, e, inr d, k) = inr (x, u, v, e, d, k)

dist_back : {A B : Type 0} (L M : Lang A) (K : A → Lang B) (y : B) (w : List Token) → either (bind L K) (bind M K) y w → bind (either L M) K y w
dist_back L M K y w (inl d) = (d.0, d.1, d.2, d.3, inl d.4, d.5)
dist_back L M K y w (inr d) = (d.0, d.1, d.2, d.3, inr d.4, d.5)

-- a choice of fronts
pub dist : {A B : Type 0} {L M : Lang A} {K : A → Lang B} → Same (bind (either L M) K) (either (bind L K) (bind M K))
dist {L = L} {M = M} {K = K} = record { to = dist_to L M K; back = dist_back L M K }

factor_to : {A B : Type 0} (L : Lang A) (K N : A → Lang B) (y : B) (w : List Token) → either (bind L K) (bind L N) y w → bind L (λ x. either (K x) (N x)) y w
factor_to L K N y w (inl d) = (d.0, d.1, d.2, d.3, d.4, inl d.5)
factor_to L K N y w (inr d) = (d.0, d.1, d.2, d.3, d.4, inr d.5)

factor_back : {A B : Type 0} (L : Lang A) (K N : A → Lang B) (y : B) (w : List Token) → bind L (λ x. either (K x) (N x)) y w → either (bind L K) (bind L N) y w
factor_back L K N y w (x, u, v, e, d, inl k) = inl (x, u, v, e, d, k)
factor_back L K N y w (x, u, v, e, d, inr k) = inr (x, u, v, e, d, k)

-- one front of two
pub factor : {A B : Type 0} {L : Lang A} {K N : A → Lang B} → Same (either (bind L K) (bind L N)) (bind L (λ x. either (K x) (N x)))
factor {L = L} {K = K} {N = N} = record { to = factor_to L K N; back = factor_back L K N }

only_to : {A B : Type 0} (x : A) (K : A → Lang B) (y : B) (w : List Token) → bind (only x) K y w → K x y w
only_to x K y w (z, u, v, e, (is, none_is), k) = subst (λ (q : List Token). K x y q) (sym (e ∙ ap (λ (q : List Token). q ++ v) none_is)) (subst (λ (q : _). K q y v) is k)

pub bind_only : {A B : Type 0} {x : A} {K : A → Lang B} → Same (bind (only x) K) (K x)
bind_only {x = x} {K = K} = record { to = only_to x K; back = λ y w d. (x, [], w, refl, (refl, refl), d) }

swap_sides : {A B : Type 0} → A ⊎ B → B ⊎ A
swap_sides (inl x) = inr x
swap_sides (inr x) = inl x

pub swap : {A : Type 0} {L M : Lang A} → Same (either L M) (either M L)
swap = record { to = λ x u. swap_sides; back = λ x u. swap_sides }

turn_to : {A B C : Type 0} → (A ⊎ B) ⊎ C → A ⊎ (B ⊎ C)
turn_to (inl (inl x)) = inl x
turn_to (inl (inr x)) = inr (inl x)
turn_to (inr x) = inr (inr x)

turn_back : {A B C : Type 0} → A ⊎ (B ⊎ C) → (A ⊎ B) ⊎ C
turn_back (inl x) = inl (inl x)
turn_back (inr (inl x)) = inl (inr x)
turn_back (inr (inr x)) = inr x

pub turn : {A : Type 0} {L M N : Lang A} → Same (either (either L M) N) (either L (either M N))
turn = record { to = λ x u. turn_to; back = λ x u. turn_back }

pub same_words : {A : Type 0} {L M : Lang A} (ss : List Sign) → Same L M → Same (words ss L) (words ss M)
same_words [] h = h
same_words (s ∷ ss) h = same_bind same (λ t. same_words ss h)

pub words_bind : {A B : Type 0} (ss : List Sign) (L : Lang A) (K : A → Lang B) → Same (bind (words ss L) K) (words ss (bind L K))
words_bind [] L K = same
words_bind (s ∷ ss) L K = assoc then same_bind same (λ t. words_bind ss L K)

pub factor_words : {A : Type 0} (ss : List Sign) (L M : Lang A) → Same (either (words ss L) (words ss M)) (words ss (either L M))
factor_words [] L M = same
factor_words (s ∷ ss) L M = factor then same_bind same (λ t. factor_words ss L M)
