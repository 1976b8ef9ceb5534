-- Statements that begin with a path.
use Rattle.std.proofs.Common.{◌≡◌, ℕ, Bool, true, false, cond, List, [], ◌∷◌, ◌++◌, Option, Some, None, refl, sym, ap, subst, ◌∙◌, append_assoc, append-nil, inl, inr}
use Rattle.std.specs.Prelude.{codes}
use Rattle.std.specs.Str.{bytes_eq}
use Rattle.p4_lex.specs.declared.token.Token.{Token}
use Rattle.p4_lex.specs.declared.token.Sign.TheVariants as sign
use Rattle.p4_lex.specs.declared.token.Lexeme.TheVariants as lexeme
use Rattle.p4_ast.specs.declared.name.P4Name.{P4Name}
use Rattle.p4_ast.specs.declared.name.P4Slice.{P4Slice}
use Rattle.p4_ast.specs.declared.name.P4Left.{P4Left}
use Rattle.p4_ast.specs.declared.declaration.P4Type.{P4Type}
use Rattle.p4_ast.specs.declared.statement.P4Validity.{P4Validity}
use Rattle.p4_ast.specs.declared.statement.P4Validity.TheVariants as validity
use Rattle.p4_grammar.specs.declared.mark.Mark.{Mark}
use Rattle.p4_grammar.specs.declared.mark.Mark.TheVariants as mark
use Rattle.p4_grammar.specs.declared.mark.Piece.{Piece}
use Rattle.p4_grammar.specs.declared.mark.Spelled.{Spelled}
use Rattle.p4_grammar.specs.Forms.{Lang, only, bind, either, taken, many, hand}
use Rattle.p4_grammar.specs.Tokens.{is, name, the_name, words, in_hand, called, before}
use Rattle.p4_grammar.specs.Values.{Env, is_bare}
use Rattle.p4_grammar.specs.Trees.{alone, left_of, assign_piece, read_piece, write_piece, valid_piece}
use Rattle.p4_grammar.specs.GrammarExpressions.{names, expr, expression}
use Rattle.p4_grammar.specs.GrammarStatements.{slice_or_none}
use Rattle.p4_grammar.specs.ReadingStatements.{read_rest_at, assigned_at, assign_end_at, assign_at, write_rest_at, valid_rest_at, or_valid_at, or_write_at, path_led_at}
use Rattle.p4_grammar.proofs.Languages.{Same}
use Rattle.p4_grammar.proofs.Forms.{Reads, done-reads}
use Rattle.p4_grammar.proofs.Basics.{free, tok, words-reads, Begins, begins_bind, begins_either, choose-reads, sign_begins, behind-reads}
use Rattle.p4_grammar.proofs.Facts.{goes_on, is_read}
use Rattle.p4_grammar.proofs.Expressions.{slice_begins}
use Rattle.p4_grammar.proofs.Operands.{same_bytes}
use Rattle.p4_grammar.proofs.Called.{name_there, name_back}
use Rattle.p4_grammar.proofs.Factored.{expr-reads}
use Rattle.p4_grammar.proofs.Plain.{expression-reads, expression_begins, closed_by-reads, not_close, slice_or_none-reads}

-- ---- a path of a name and a last one

-- what follows a name whose only other name has this text
abbrev pub calls_one : {A : Type 0} → List ℕ → P4Name → List P4Name → (P4Name → Lang A) → Lang A
calls_one text x xs K y w = (c : P4Name) × (alone (called text x xs) ≡ Some c) × K c y w

found : (b : Bool) (x : P4Name) → b ≡ true → cond b (Some (x ∷ [])) None ≡ Some (x ∷ [])
found true x e = refl
found false x e = absurd cc

picked : (b : Bool) (x c : P4Name) → alone (cond b (Some (x ∷ [])) None) ≡ Some c → (b ≡ true) × (c ≡ x)
picked true x c e = (refl, cc)
picked false x c e = absurd cc

picked_some : (b : Bool) (x : P4Name) (p : List P4Name) → cond b (Some (x ∷ [])) None ≡ Some p → b ≡ true
picked_some true x p e = refl
picked_some false x p e = absurd cc

longer : (x : P4Name) (o : Option (List P4Name)) (c : P4Name) → (o ≡ Some [] → ⊥) → alone (before x o) ≡ Some c → ⊥
longer x None c h e = absurd cc
longer x (Some []) c h e = h refl
longer x (Some (y ∷ ys)) c h e = absurd cc

never_empty : (text : List ℕ) (x : P4Name) (xs : List P4Name) → called text x xs ≡ Some [] → ⊥
never_empty text x [] e = absurd cc
never_empty text x (y ∷ []) e = picked_none (bytes_eq y.text text) x e where
  picked_none : (b : Bool) (x : P4Name) → cond b (Some (x ∷ [])) None ≡ Some [] → ⊥
  picked_none true x e = absurd cc
  picked_none false x e = absurd cc
never_empty text x (y ∷ z ∷ zs) e = not_before x (called text y (z ∷ zs)) e where
  not_before : (x : P4Name) (o : Option (List P4Name)) → before x o ≡ Some [] → ⊥
  not_before x None e = absurd cc
  not_before x (Some q) e = absurd cc

module _ {A : Type 0} (text : List ℕ) (K : P4Name → Lang A) where
  one_to : (y : A) (w : List Token) → bind (taken name) (λ c. words (sign.Dot ∷ []) (bind (taken (the_name text)) λ at. K c)) y w → bind (taken name) (λ x. bind names λ xs. calls_one text x xs K) y w
  unfolding names
  one_to y w (x, u1, v1, e, nm, (dot, d1, d2, e2, dt, (at, t1, t2, e3, (t, tis, gives), k))) =
      let there = name_there text t.at at t.lexeme gives in
      let list : many (words (sign.Dot ∷ []) (taken name)) (there.0 ∷ []) (d1 ++ t1) = (d1 ++ t1, [], sym (append-nil (d1 ++ t1)), (dot, d1, t1, refl, dt, (t, tis, there.1)), refl) in
      (x, u1, v1, e, nm, (there.0 ∷ [], d1 ++ t1, t2, e2 ∙ ap (λ (q : List Token). d1 ++ q) e3 ∙ sym (append_assoc d1 t1 t2), list, (x, ap alone (found (bytes_eq there.0.text text) x there.2), k)))

  one_by : (x : P4Name) (xs : List P4Name) (y : A) (u v w : List Token) → w ≡ u ++ v → many (words (sign.Dot ∷ []) (taken name)) xs u → calls_one text x xs K y v → words (sign.Dot ∷ []) (bind (taken (the_name text)) λ at. K x) y w
  one_by x [] y u v w e ms (c, is, k) = absurd cc
  one_by x (z ∷ []) y u v w e (a, b, e2, (dot, d1, d2, e3, dt, (t, tis, nm)), none_left) (c, is, k) =
      let p = picked (bytes_eq z.text text) x c is in
      let whole : w ≡ d1 ++ (d2 ++ v) = e ∙ ap (λ (q : List Token). q ++ v) (e2 ∙ ap (λ (q : List Token). a ++ q) none_left ∙ append-nil a ∙ e3) ∙ append_assoc d1 d2 v in
      (dot, d1, d2 ++ v, whole, dt, (t.at, d2, v, refl, (t, tis, name_back text t.at z t.lexeme nm p.0), subst (λ (q : P4Name). K q y v) p.1 k))
  one_by x (z ∷ z2 ∷ zs) y u v w e ms (c, is, k) = absurd (longer x (called text z (z2 ∷ zs)) c (never_empty text z (z2 ∷ zs)) is)

  one_back : (y : A) (w : List Token) → bind (taken name) (λ x. bind names λ xs. calls_one text x xs K) y w → bind (taken name) (λ c. words (sign.Dot ∷ []) (bind (taken (the_name text)) λ at. K c)) y w
  unfolding names
  one_back y w (x, u1, v1, e, nm, (xs, u2, v2, e2, ms, c)) = (x, u1, v1, e, nm, one_by x xs y u2 v2 v1 e2 ms c)

  pub one-same : Same (bind (taken name) (λ c. words (sign.Dot ∷ []) (bind (taken (the_name text)) λ at. K c))) (bind (taken name) (λ x. bind names λ xs. calls_one text x xs K))
  one-same = record { to = one_to; back = one_back }

-- a path's last name has one text
other_text : (text other : List ℕ) (x : P4Name) (xs p : List P4Name) → bytes_eq text other ≡ false → called text x xs ≡ Some p → called other x xs ≡ None
other_text text other x [] p h e = refl
other_text text other x (y ∷ []) p h e =
    let is : y.text ≡ text = same_bytes y.text text (picked_some (bytes_eq y.text text) x p e) in
    ap (λ (q : List ℕ). cond (bytes_eq q other) (Some (x ∷ [])) None) is ∙ ap (λ (b : Bool). cond b (Some (x ∷ [])) None) h
other_text text other x (y ∷ z ∷ zs) p h e = inner (λ q g. other_text text other y (z ∷ zs) q h g) (called text y (z ∷ zs)) refl e where
  inner : ((q : List P4Name) → called text y (z ∷ zs) ≡ Some q → called other y (z ∷ zs) ≡ None) → (o : Option (List P4Name)) → called text y (z ∷ zs) ≡ o → before x o ≡ Some p → before x (called other y (z ∷ zs)) ≡ None
  inner rec None g e = absurd cc
  inner rec (Some q) g e = ap (before x) (rec q g)

alone_some : (o : Option (List P4Name)) (c : P4Name) → alone o ≡ Some c → (p : List P4Name) × (o ≡ Some p)
alone_some None c e = absurd cc
alone_some (Some p) c e = (p, refl)

-- ---- the reader's languages

unfoldable pub read_rest : Env → P4Left → Option P4Type → P4Name → Lang Piece
read_rest env l t c = words (sign.Open ∷ []) (either (words (sign.Close ∷ sign.Semicolon ∷ []) (only (read_piece l t c None))) (bind (expression env) λ e. words (sign.Close ∷ sign.Semicolon ∷ []) (only (read_piece l t c (Some e)))))

unfoldable pub assigned : P4Left → Spelled → Lang Piece
assigned l x = words (sign.Semicolon ∷ []) (only (assign_piece l x))

unfoldable pub assign_end : Env → P4Left → Spelled → Mark → Lang Piece
assign_end env l x (mark.Read c) = either (read_rest env l None c) (assigned l x)
assign_end env l x (mark.CastRead t c) = either (read_rest env l (Some t) c) (assigned l x)
assign_end env l x (mark.One y) = assigned l x
assign_end env l x mark.Bare = assigned l x
assign_end env l x mark.Plain = assigned l x

unfoldable pub assigns : Env → List P4Name → Lang Piece
assigns env xs = bind slice_or_none λ s. words (sign.Assign ∷ []) (bind (expr env) λ x. assign_end env (left_of xs s) x x.mark)

unfoldable pub write_rest : Env → P4Name → Lang Piece
write_rest env c = words (sign.Open ∷ []) (bind (expression env) λ x. either
    (words (sign.Comma ∷ []) (bind (expression env) λ y. words (sign.Close ∷ sign.Semicolon ∷ []) (only (write_piece c x (Some y)))))
    (words (sign.Close ∷ sign.Semicolon ∷ []) (only (write_piece c x None))))

unfoldable pub valid_rest : List P4Name → P4Validity → Lang Piece
valid_rest xs v = words (sign.Open ∷ sign.Close ∷ sign.Semicolon ∷ []) (only (valid_piece xs v))

unfoldable pub or_valid : P4Validity → Option (List P4Name) → Lang Piece → Lang Piece
or_valid v None P = P
or_valid v (Some front) P = either (valid_rest front v) P

unfoldable pub or_write : Env → Option P4Name → Lang Piece → Lang Piece
or_write env None P = P
or_write env (Some c) P = either (write_rest env c) P

unfoldable pub path_led : Env → P4Name → List P4Name → Lang Piece
path_led env x xs = or_write env (alone (called (codes "write") x xs)) (or_valid validity.SetValid (called (codes "setValid") x xs) (or_valid validity.SetInvalid (called (codes "setInvalid") x xs) (assigns env (x ∷ xs))))

-- ---- their readers

read_rest-reads : {n : ℕ} (env : Env) (l : P4Left) (t : Option P4Type) (c : P4Name) → Reads n (read_rest env l t c) (read_rest env l t c) free (read_rest_at n env l t c)
unfolding read_rest read_rest_at
read_rest-reads {n = n} env l t c = words-reads (sign.Open ∷ []) (choose-reads (in_hand sign.Close) (words-reads (sign.Close ∷ sign.Semicolon ∷ []) (done-reads n free (read_piece l t c None)))
    (closed_by-reads env sign.Close (λ at e. refl) λ e. words-reads (sign.Semicolon ∷ []) (done-reads n free (read_piece l t c (Some e))))
    (sign_begins sign.Close (λ at e. refl)) (begins_bind (not_close (expression_begins env))))

read_rest_begins : {b : Bool} {t : Token → Bool} (env : Env) (l : P4Left) (o : Option P4Type) (c : P4Name) → ((at e : ℕ) → t (tok at e (lexeme.Sign sign.Open)) ≡ b) → Begins b t (read_rest env l o c)
unfolding read_rest
read_rest_begins env l o c h = sign_begins sign.Open h

assigned_begins : {b : Bool} {t : Token → Bool} (l : P4Left) (x : Spelled) → ((at e : ℕ) → t (tok at e (lexeme.Sign sign.Semicolon)) ≡ b) → Begins b t (assigned l x)
unfolding assigned
assigned_begins l x h = sign_begins sign.Semicolon h

assigned-reads : {n : ℕ} (l : P4Left) (x : Spelled) → Reads n (assigned l x) (assigned l x) free (assigned_at l x)
unfolding assigned assigned_at
assigned-reads {n = n} l x = words-reads (sign.Semicolon ∷ []) (done-reads n free (assign_piece l x))

assign_end-reads : {n : ℕ} (env : Env) (l : P4Left) (x : Spelled) (m : Mark) → Reads n (assign_end env l x m) (assign_end env l x m) free (assign_end_at n env l x m)
unfolding assign_end assign_end_at
assign_end-reads env l x (mark.Read c) = choose-reads (in_hand sign.Open) (read_rest-reads env l None c) (assigned-reads l x) (read_rest_begins env l None c (λ at e. refl)) (assigned_begins l x (λ at e. refl))
assign_end-reads env l x (mark.CastRead t c) = choose-reads (in_hand sign.Open) (read_rest-reads env l (Some t) c) (assigned-reads l x) (read_rest_begins env l (Some t) c (λ at e. refl)) (assigned_begins l x (λ at e. refl))
assign_end-reads env l x (mark.One y) = assigned-reads l x
assign_end-reads env l x mark.Bare = assigned-reads l x
assign_end-reads env l x mark.Plain = assigned-reads l x

-- what follows the expression doesn't go on with it
assign_end_apart : (env : Env) (l : P4Left) (x : Spelled) (m : Mark) → Begins false (λ a. goes_on 5 (is_bare m) (is_read m) a.lexeme) (assign_end env l x m)
unfolding assign_end
assign_end_apart env l x (mark.Read c) = begins_either (read_rest_begins env l None c (λ at e. refl)) (assigned_begins l x (λ at e. refl))
assign_end_apart env l x (mark.CastRead t c) = begins_either (read_rest_begins env l (Some t) c (λ at e. refl)) (assigned_begins l x (λ at e. refl))
assign_end_apart env l x (mark.One y) = assigned_begins l x (λ at e. refl)
assign_end_apart env l x mark.Bare = assigned_begins l x (λ at e. refl)
assign_end_apart env l x mark.Plain = assigned_begins l x (λ at e. refl)

assigns-reads : {n : ℕ} (env : Env) (xs : List P4Name) → Reads n (assigns env xs) (assigns env xs) free (assign_at n env xs)
unfolding assigns assign_at
assigns-reads env xs = behind-reads slice_or_none-reads (λ s. sign_begins sign.Assign (λ at e. refl)) λ s. words-reads (sign.Assign ∷ []) (behind-reads (expr-reads env) (λ x. assign_end_apart env (left_of xs s) x x.mark) λ x. assign_end-reads env (left_of xs s) x x.mark)

or_none_at : {B : Type 0} {b : Bool} {t : Token → Bool} {K : Option P4Slice → Lang B} → ((at e : ℕ) → t (tok at e (lexeme.Sign sign.OpenSlice)) ≡ b) → ((s : Option P4Slice) → Begins b t (K s)) → (y : B) (w m : List Token) (s : Option P4Slice) (u v : List Token) → w ≡ u ++ v → slice_or_none s u → K s y v → hand t (w ++ m) ≡ b
unfolding slice_or_none
or_none_at {t = t} h k y w m s u v e (inl d) c = ap (λ (q : List Token). hand t (q ++ m)) e ∙ ap (hand t) (append_assoc u v m) ∙ (begins_bind {K = λ i. only (Some i)} (slice_begins h)).at s u (v ++ m) d
or_none_at {t = t} h k y w m s u v e (inr d) c = ap (λ (q : List Token). hand t (q ++ m)) (e ∙ ap (λ (q : List Token). q ++ v) d.1) ∙ (k s).at y v m c

-- what may follow a path that is given a value
pub begins_or_none : {B : Type 0} {b : Bool} {t : Token → Bool} {K : Option P4Slice → Lang B} → ((at e : ℕ) → t (tok at e (lexeme.Sign sign.OpenSlice)) ≡ b) → ((s : Option P4Slice) → Begins b t (K s)) → Begins b t (bind slice_or_none K)
begins_or_none h k = record { at = λ y w m d. or_none_at h k y w m d.0 d.1 d.2 d.3 d.4 d.5 }

pub assigns_begins : {b : Bool} {t : Token → Bool} (env : Env) (xs : List P4Name) → ((at e : ℕ) → t (tok at e (lexeme.Sign sign.OpenSlice)) ≡ b) → ((at e : ℕ) → t (tok at e (lexeme.Sign sign.Assign)) ≡ b) → Begins b t (assigns env xs)
unfolding assigns
assigns_begins env xs h k = begins_or_none h (λ s. sign_begins sign.Assign k)

write_rest_begins : {b : Bool} {t : Token → Bool} (env : Env) (c : P4Name) → ((at e : ℕ) → t (tok at e (lexeme.Sign sign.Open)) ≡ b) → Begins b t (write_rest env c)
unfolding write_rest
write_rest_begins env c h = sign_begins sign.Open h

valid_rest_begins : {b : Bool} {t : Token → Bool} (xs : List P4Name) (v : P4Validity) → ((at e : ℕ) → t (tok at e (lexeme.Sign sign.Open)) ≡ b) → Begins b t (valid_rest xs v)
unfolding valid_rest
valid_rest_begins xs v h = sign_begins sign.Open h

write_rest-reads : {n : ℕ} (env : Env) (c : P4Name) → Reads n (write_rest env c) (write_rest env c) free (write_rest_at n env c)
unfolding write_rest write_rest_at
write_rest-reads {n = n} env c = words-reads (sign.Open ∷ []) (behind-reads (expression-reads env) (λ x. begins_either (sign_begins sign.Comma (λ at e. refl)) (sign_begins sign.Close (λ at e. refl))) λ x. choose-reads (in_hand sign.Comma)
    (words-reads (sign.Comma ∷ []) (closed_by-reads env sign.Close (λ at e. refl) λ y. words-reads (sign.Semicolon ∷ []) (done-reads n free (write_piece c x (Some y)))))
    (words-reads (sign.Close ∷ sign.Semicolon ∷ []) (done-reads n free (write_piece c x None)))
    (sign_begins sign.Comma (λ at e. refl)) (sign_begins sign.Close (λ at e. refl)))

valid_rest-reads : {n : ℕ} (xs : List P4Name) (v : P4Validity) → Reads n (valid_rest xs v) (valid_rest xs v) free (valid_rest_at xs v)
unfolding valid_rest valid_rest_at
valid_rest-reads {n = n} xs v = words-reads (sign.Open ∷ sign.Close ∷ sign.Semicolon ∷ []) (done-reads n free (valid_piece xs v))

-- at most one of the three is there
abbrev Apart : Option P4Name → Option (List P4Name) → Option (List P4Name) → Type 0
Apart o1 o2 o3 = ((c : P4Name) → o1 ≡ Some c → (o2 ≡ None) × (o3 ≡ None)) × ((p : List P4Name) → o2 ≡ Some p → o3 ≡ None)

led-reads : {n : ℕ} (env : Env) (xs : List P4Name) (o1 : Option P4Name) (o2 o3 : Option (List P4Name)) → Apart o1 o2 o3 → Reads n (or_write env o1 (or_valid validity.SetValid o2 (or_valid validity.SetInvalid o3 (assigns env xs)))) (or_write env o1 (or_valid validity.SetValid o2 (or_valid validity.SetInvalid o3 (assigns env xs)))) free (or_write_at n env o1 (or_valid_at validity.SetValid o2 (or_valid_at validity.SetInvalid o3 (assign_at n env xs))))
unfolding or_write or_write_at or_valid or_valid_at
led-reads env xs None None None h = assigns-reads env xs
led-reads env xs None None (Some r) h = choose-reads (in_hand sign.Open) (valid_rest-reads r validity.SetInvalid) (assigns-reads env xs) (valid_rest_begins r validity.SetInvalid (λ at e. refl)) (assigns_begins env xs (λ at e. refl) (λ at e. refl))
led-reads env xs None (Some q) None h = choose-reads (in_hand sign.Open) (valid_rest-reads q validity.SetValid) (assigns-reads env xs) (valid_rest_begins q validity.SetValid (λ at e. refl)) (assigns_begins env xs (λ at e. refl) (λ at e. refl))
led-reads env xs None (Some q) (Some r) h = let no : Some r ≡ None = h.1 q refl in absurd cc
led-reads env xs (Some c) None None h = choose-reads (in_hand sign.Open) (write_rest-reads env c) (assigns-reads env xs) (write_rest_begins env c (λ at e. refl)) (assigns_begins env xs (λ at e. refl) (λ at e. refl))
led-reads env xs (Some c) None (Some r) h = let no : Some r ≡ None = (h.0 c refl).1 in absurd cc
led-reads env xs (Some c) (Some q) None h = let no : Some q ≡ None = (h.0 c refl).0 in absurd cc
led-reads env xs (Some c) (Some q) (Some r) h = let no : Some q ≡ None = (h.0 c refl).0 in absurd cc

apart_texts : (x : P4Name) (xs : List P4Name) → Apart (alone (called (codes "write") x xs)) (called (codes "setValid") x xs) (called (codes "setInvalid") x xs)
apart_texts x xs = (λ c e. let p = alone_some (called (codes "write") x xs) c e in (other_text (codes "write") (codes "setValid") x xs p.0 refl p.1, other_text (codes "write") (codes "setInvalid") x xs p.0 refl p.1), λ p e. other_text (codes "setValid") (codes "setInvalid") x xs p refl e)

pub path_led-reads : {n : ℕ} (env : Env) (x : P4Name) (xs : List P4Name) → Reads n (path_led env x xs) (path_led env x xs) free (path_led_at n env x xs)
unfolding path_led path_led_at
path_led-reads env x xs = led-reads env (x ∷ xs) (alone (called (codes "write") x xs)) (called (codes "setValid") x xs) (called (codes "setInvalid") x xs) (apart_texts x xs)

-- behind the names of a path stands no dot
pub led_begins : {b : Bool} {t : Token → Bool} (env : Env) (x : P4Name) (xs : List P4Name) → ((at e : ℕ) → t (tok at e (lexeme.Sign sign.Open)) ≡ b) → ((at e : ℕ) → t (tok at e (lexeme.Sign sign.OpenSlice)) ≡ b) → ((at e : ℕ) → t (tok at e (lexeme.Sign sign.Assign)) ≡ b) → Begins b t (path_led env x xs)
unfolding path_led or_valid or_write
led_begins {b = b} {t = t} env x xs h i j = by (alone (called (codes "write") x xs)) (called (codes "setValid") x xs) (called (codes "setInvalid") x xs) where
  valid_by : (v : P4Validity) (o : Option (List P4Name)) (P : Lang Piece) → Begins b t P → Begins b t (or_valid v o P)
  valid_by v None P g = g
  valid_by v (Some q) P g = begins_either (valid_rest_begins q v h) g

  write_by : (o : Option P4Name) (P : Lang Piece) → Begins b t P → Begins b t (or_write env o P)
  write_by None P g = g
  write_by (Some c) P g = begins_either (write_rest_begins env c h) g

  by : (o1 : Option P4Name) (o2 o3 : Option (List P4Name)) → Begins b t (or_write env o1 (or_valid validity.SetValid o2 (or_valid validity.SetInvalid o3 (assigns env (x ∷ xs)))))
  by o1 o2 o3 = write_by o1 _ (valid_by validity.SetValid o2 _ (valid_by validity.SetInvalid o3 _ (assigns_begins env (x ∷ xs) i j)))
