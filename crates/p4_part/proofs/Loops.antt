-- A loop over a repetition: what stands in the vector, in front of what is still read.
use Rattle.std.proofs.Common.{◌≡◌, ℕ, zero, suc, ◌-◌, ◌<◌, Bool, true, false, List, [], ◌∷◌, ◌++◌, Result, Ok, Err, refl, sym, ap, ◌∙◌, append_assoc, append-nil, arith}
use Rattle.p4_lex.specs.declared.token.Token.{Token}
use Rattle.p4_lex.specs.declared.token.Sign.TheVariants as sign
use Rattle.p4_ast.specs.declared.statement.P4Stmt.{P4Stmt}
use Rattle.p4_ast.specs.declared.statement.P4Block.{P4Block}
use Rattle.p4_grammar.specs.declared.mark.Piece.{Piece}
use Rattle.p4_grammar.specs.Tokens.{words_at}
use Rattle.p4_grammar.specs.Trees.{kept, kept_all, block_of}
use Rattle.p4_grammar.specs.Forms.{Reader, steps_at, ◌>>=◌, done_at, hand, many_at, is_given, chain_at, taken_at}

abbrev pub with_front : {A : Type 0} → List A → Result (List A × List Token) (List Token) → Result (List A × List Token) (List Token)
with_front front read = read >>= λ x. Ok (front ++ x.0, x.1)

front_more : {A : Type 0} (front : List A) (x : A) (read : Result (List A × List Token) (List Token)) → with_front front (read >>= λ xs. Ok (x ∷ xs.0, xs.1)) ≡ with_front (front ++ x ∷ []) read
front_more front x (Ok q) = ap (λ (t : List _). done_at t q.1) (sym (append_assoc front (x ∷ []) q.0))
front_more front x (Err e) = refl

pub many_more : {A : Type 0} (test : Token → Bool) (p : Reader A) (front : List A) (m : ℕ) (w after : List Token) (x : A) (r : Result (List A × List Token) (List Token)) → 0 < m → hand test w ≡ true → p w ≡ Ok (x, after) → with_front front (many_at m test p w) ≡ r → with_front (front ++ x ∷ []) (many_at (m - 1) test p after) ≡ r
many_more test p front zero w after x r pos h e inv = absurd (omega arith)
many_more test p front (suc k) w after x r pos h e inv =
    let fuel : suc k - 1 ≡ k = omega arith in
    let step : with_front front (many_at (suc k) test p w) ≡ with_front front (many_at k test p after >>= λ xs. Ok (x ∷ xs.0, xs.1)) = rw (h, e) refl in
    ap (λ (q : ℕ). with_front (front ++ x ∷ []) (many_at q test p after)) fuel ∙ sym (front_more front x (many_at k test p after)) ∙ sym step ∙ inv

pub many_done : {A : Type 0} (test : Token → Bool) (p : Reader A) (front : List A) (m : ℕ) (w : List Token) (r : Result (List A × List Token) (List Token)) → 0 < m → hand test w ≡ false → with_front front (many_at m test p w) ≡ r → r ≡ Ok (front, w)
many_done test p front zero w r pos h inv = absurd (omega arith)
many_done test p front (suc k) w r pos h inv = sym inv ∙ rw h (ap (λ (t : List _). done_at t w) (append-nil front))

pub many_stops : {A : Type 0} (test : Token → Bool) (p : Reader A) (front : List A) (m : ℕ) (w e : List Token) (r : Result (List A × List Token) (List Token)) → 0 < m → hand test w ≡ true → p w ≡ Err e → with_front front (many_at m test p w) ≡ r → r ≡ Err e
many_stops test p front zero w e r pos h is inv = absurd (omega arith)
many_stops test p front (suc k) w e r pos h is inv = sym inv ∙ rw (h, is) refl

pub many_empty : {A : Type 0} (test : Token → Bool) (p : Reader A) (front : List A) (m : ℕ) (w : List Token) (r : Result (List A × List Token) (List Token)) → m ≡ 0 → with_front front (many_at m test p w) ≡ r → r ≡ Err w
many_empty test p front zero w r z inv = sym inv
many_empty test p front (suc k) w r z inv = absurd (omega arith)

pub chain_more : {A O : Type 0} (op : A → Token → Result O (Unit {0})) (join : O → A → A → A) (p : Reader A) (m : ℕ) (x y : A) (o : O) (w behind after : List Token) (r : Result (A × List Token) (List Token)) → 0 < m → hand (λ a. is_given (op x a)) w ≡ true → taken_at (op x) w ≡ Ok (o, behind) → p behind ≡ Ok (y, after) → chain_at m op join p x w ≡ r → chain_at (m - 1) op join p (join o x y) after ≡ r
chain_more op join p zero x y o w behind after r pos h t e inv = absurd (omega arith)
chain_more op join p (suc k) x y o w behind after r pos h t e inv =
    let fuel : suc k - 1 ≡ k = omega arith in
    let step : chain_at (suc k) op join p x w ≡ chain_at k op join p (join o x y) after = rw (h, t, e) refl in
    ap (λ (q : ℕ). chain_at q op join p (join o x y) after) fuel ∙ sym step ∙ inv

-- a block's end, where these statements stand in front of what is still read
abbrev pub closed_with : ℕ → List P4Stmt → Result (List Piece × List Token) (List Token) → Result (P4Block × List Token) (List Token)
closed_with at front read = read >>= λ x. words_at (sign.CloseBrace ∷ []) (done_at (block_of at (front ++ kept_all x.0))) x.1

kept_front : (at : ℕ) (front : List P4Stmt) (x : Piece) (read : Result (List Piece × List Token) (List Token)) → closed_with at front (read >>= λ xs. Ok (x ∷ xs.0, xs.1)) ≡ closed_with at (front ++ kept x) read
kept_front at front x (Ok q) = ap (λ (t : List P4Stmt). words_at (sign.CloseBrace ∷ []) (done_at (block_of at t)) q.1) (sym (append_assoc front (kept x) (kept_all q.0)))
kept_front at front x (Err e) = refl

pub kept_more : (test : Token → Bool) (p : Reader Piece) (at : ℕ) (front : List P4Stmt) (m : ℕ) (w after : List Token) (x : Piece) (r : Result (P4Block × List Token) (List Token)) → 0 < m → hand test w ≡ true → p w ≡ Ok (x, after) → closed_with at front (many_at m test p w) ≡ r → closed_with at (front ++ kept x) (many_at (m - 1) test p after) ≡ r
kept_more test p at front zero w after x r pos h e inv = absurd (omega arith)
kept_more test p at front (suc k) w after x r pos h e inv =
    let fuel : suc k - 1 ≡ k = omega arith in
    let step : closed_with at front (many_at (suc k) test p w) ≡ closed_with at front (many_at k test p after >>= λ xs. Ok (x ∷ xs.0, xs.1)) = rw (h, e) refl in
    ap (λ (q : ℕ). closed_with at (front ++ kept x) (many_at q test p after)) fuel ∙ sym (kept_front at front x (many_at k test p after)) ∙ sym step ∙ inv

pub kept_done : (test : Token → Bool) (p : Reader Piece) (at : ℕ) (front : List P4Stmt) (m : ℕ) (w : List Token) (r : Result (P4Block × List Token) (List Token)) → 0 < m → hand test w ≡ false → closed_with at front (many_at m test p w) ≡ r → r ≡ words_at (sign.CloseBrace ∷ []) (done_at (block_of at front)) w
kept_done test p at front zero w r pos h inv = absurd (omega arith)
kept_done test p at front (suc k) w r pos h inv = sym inv ∙ rw h (ap (λ (t : List P4Stmt). words_at (sign.CloseBrace ∷ []) (done_at (block_of at t)) w) (append-nil front))

-- a loop that changes a state
pub steps_more : {S : Type 0} (test : Token → Bool) (step : S → Reader S) (m : ℕ) (s next : S) (w after : List Token) (r : Result (S × List Token) (List Token)) → 0 < m → hand test w ≡ true → step s w ≡ Ok (next, after) → steps_at m test step s w ≡ r → steps_at (m - 1) test step next after ≡ r
steps_more test step zero s next w after r pos h e inv = absurd (omega arith)
steps_more test step (suc k) s next w after r pos h e inv =
    let fuel : suc k - 1 ≡ k = omega arith in
    let whole : steps_at (suc k) test step s w ≡ steps_at k test step next after = rw (h, e) refl in
    ap (λ (q : ℕ). steps_at q test step next after) fuel ∙ sym whole ∙ inv
