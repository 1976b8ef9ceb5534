-- Assignments, reads, writes and validity statements of the grammar are what the reader of paths follows.
use Rattle.std.proofs.Common.{◌≡◌, ℕ, suc, Bool, true, false, cond, List, [], ◌∷◌, ◌++◌, Option, Some, None, refl, sym, ap, subst, ◌∙◌, append_assoc, append-nil, inl, inr}
use Rattle.std.specs.Prelude.{codes}
use Rattle.std.specs.Str.{bytes_eq}
use Rattle.p4_lex.specs.declared.token.Token.{Token}
use Rattle.p4_lex.specs.declared.token.Sign.TheVariants as sign
use Rattle.p4_ast.specs.declared.name.P4Name.{P4Name}
use Rattle.p4_ast.specs.declared.name.P4Left.{P4Left}
use Rattle.p4_ast.specs.declared.declaration.P4Type.{P4Type}
use Rattle.p4_ast.specs.declared.statement.P4Validity.{P4Validity}
use Rattle.p4_ast.specs.declared.statement.P4Validity.TheVariants as validity
use Rattle.p4_grammar.specs.declared.mark.Mark.{Mark}
use Rattle.p4_grammar.specs.declared.mark.Mark.TheVariants as mark
use Rattle.p4_grammar.specs.declared.mark.Piece.{Piece}
use Rattle.p4_grammar.specs.declared.mark.Spelled.{Spelled}
use Rattle.p4_grammar.specs.Forms.{Lang, none, only, bind, either, taken, many}
use Rattle.p4_grammar.specs.Tokens.{is, name, the_name, words, called}
use Rattle.p4_grammar.specs.Values.{Env, of_cast, path_value, cast_value}
use Rattle.p4_grammar.specs.Trees.{alone, left_of, assign_piece, read_piece, valid_piece}
use Rattle.p4_grammar.specs.GrammarExpressions.{path, names, called_path, cast_front, unary_of, unary, expr}
use Rattle.p4_grammar.specs.GrammarStatements.{slice_or_none, left, assign, cast_or_none, index, read, write}
use Rattle.p4_grammar.proofs.Languages.{Same, same, flip, same_bind, same_either, assoc, dist, factor, bind_only, same_words, words_bind, factor_words, ◌then◌}
use Rattle.p4_grammar.proofs.Called.{calls, dotted-same, name_there}
use Rattle.p4_grammar.proofs.Alone.{So, reading, expr_so}
use Rattle.p4_grammar.proofs.Factored.{path-same, path_unary, up_expr}
use Rattle.p4_grammar.proofs.Paths.{calls_one, one-same, read_rest, assigned, assign_end, assigns, write_rest, valid_rest, or_valid, or_write, path_led}

drop_rest : (w u v : List Token) → w ≡ u ++ v → v ≡ [] → w ≡ u
drop_rest w u v e none_left = e ∙ ap (λ (q : List Token). u ++ q) none_left ∙ append-nil u

-- ---- `c.read` is an operand with its mark

mark_by : (b : Bool) (c : P4Name) → b ≡ true → cond b (mark.Read c) mark.Plain ≡ mark.Read c
mark_by true c e = refl
mark_by false c e = absurd cc

pub record Read (env : Env) (c : P4Name) (u : List Token) : Type 0 where
  pub value : Spelled
  pub spelled : unary 1 env value u
  pub marked : value.mark ≡ mark.Read c

reading_value : (env : Env) (c : P4Name) (u : List Token) → reading c u → Read env c u
unfolding reading unary path names
reading_value env c u (x, u1, v1, e, nm, (dot, d1, d2, e2, dt, (at, t1, t2, e3, (t, tis, gives), (is, no_rest)))) =
    let there = name_there (codes "read") t.at at t.lexeme gives in
    let list : many (words (sign.Dot ∷ []) (taken name)) (there.0 ∷ []) v1 = (v1, [], sym (append-nil v1), (dot, d1, t1, e2 ∙ ap (λ (q : List Token). d1 ++ q) (drop_rest d2 t1 t2 e3 no_rest), dt, (t, tis, there.1)), refl) in
    let whole : path (x ∷ there.0 ∷ []) u = (x, u1, v1, e, nm, (there.0 ∷ [], v1, [], sym (append-nil v1), list, (refl, refl))) in
    record { value = path_value (x ∷ there.0 ∷ []); spelled = path_unary env none none (x ∷ there.0 ∷ []) u whole; marked = mark_by (bytes_eq there.0.text (codes "read")) x there.2 ∙ ap mark.Read (sym is) }

-- an operand is an expression
as_expr : (k : ℕ) (env : Env) (x : Spelled) (u : List Token) → unary (suc k) env x u → expr env x u
unfolding unary
as_expr k env x u d = (suc k, up_expr k env x u d)

cast_unary : (env : Env) (at : ℕ) (t : P4Type) (x : Spelled) (a b : List Token) → cast_front env (at, t) a → unary 1 env x b → unary 2 env (cast_value at t x) (a ++ b)
unfolding unary unary_of
cast_unary env at t x a b f d = inr (inl ((at, t), a, b, refl, f, (x, b, [], sym (append-nil b), d, (refl, refl))))

-- ---- the ends of assignments and reads

abbrev reads_of : Env → P4Left → Lang Piece
reads_of env l = bind (cast_or_none env) λ t. bind reading λ c. read_rest env l t c

assigned_in : (env : Env) (l : P4Left) (x : Spelled) (m : Mark) (y : Piece) (v : List Token) → assigned l x y v → assign_end env l x m y v
unfolding assign_end
assigned_in env l x (mark.Read c) y v d = inr d
assigned_in env l x (mark.CastRead t c) y v d = inr d
assigned_in env l x (mark.One z) y v d = d
assigned_in env l x mark.Bare y v d = d
assigned_in env l x mark.Plain y v d = d

read_in : (env : Env) (l : P4Left) (x : Spelled) (c : P4Name) (m : Mark) (y : Piece) (v : List Token) → m ≡ mark.Read c → read_rest env l None c y v → assign_end env l x m y v
unfolding assign_end
read_in env l x c m y v e d = subst (λ (q : Mark). assign_end env l x q y v) (sym e) (inl d)

cast_read_in : (env : Env) (l : P4Left) (x : Spelled) (t : P4Type) (c : P4Name) (m : Mark) (y : Piece) (v : List Token) → m ≡ mark.Read c → read_rest env l (Some t) c y v → assign_end env l x (of_cast t m) y v
unfolding assign_end
cast_read_in env l x t c m y v e d = subst (λ (q : Mark). assign_end env l x (of_cast t q) y v) (sym e) (inl d)

some_cast : (env : Env) (l : P4Left) (y : Piece) (w u v b e : List Token) (at : ℕ) (t : P4Type) (c : P4Name) → w ≡ u ++ v → v ≡ b ++ e → cast_front env (at, t) u → reading c b → read_rest env l (Some t) c y e → bind (expr env) (λ x. assign_end env l x x.mark) y w
some_cast env l y w u v b e at t c is_w is_v f rd rr =
    let r = reading_value env c b rd in
    let x = cast_value at t r.value in
    (x, u ++ b, e, is_w ∙ ap (λ (q : List Token). u ++ q) is_v ∙ sym (append_assoc u b e), as_expr 1 env x (u ++ b) (cast_unary env at t r.value u b f r.spelled), cast_read_in env l x t c r.value.mark y e r.marked rr)

ends_to : (env : Env) (l : P4Left) (y : Piece) (w : List Token) → either (bind (expr env) λ x. assigned l x) (reads_of env l) y w → bind (expr env) (λ x. assign_end env l x x.mark) y w
unfolding cast_or_none
ends_to env l y w (inl (x, u, v, e, d, a)) = (x, u, v, e, d, assigned_in env l x x.mark y v a)
ends_to env l y w (inr (t, u, v, e, inr (is, none_left), (c, u2, v2, e2, rd, rr))) =
    let r = reading_value env c u2 rd in
    (r.value, u2, v2, e ∙ ap (λ (q : List Token). q ++ v) none_left ∙ e2, as_expr 0 env r.value u2 r.spelled, read_in env l r.value c r.value.mark y v2 r.marked (subst (λ (q : Option P4Type). read_rest env l q c y v2) is rr))
ends_to env l y w (inr (t, u, v, e, inl (f, a, b, e3, cf, (is, none_left)), (c, u2, v2, e2, rd, rr))) =
    some_cast env l y w u v u2 v2 f.0 f.1 c e e2 (subst (λ (q : List Token). cast_front env (f.0, f.1) q) (sym (drop_rest u a b e3 none_left)) cf) rd (subst (λ (q : Option P4Type). read_rest env l q c y v2) is rr)

back_by : (env : Env) (l : P4Left) (x : Spelled) (m : Mark) (y : Piece) (w u v : List Token) → w ≡ u ++ v → expr env x u → So env m u → assign_end env l x m y v → either (bind (expr env) λ x. assigned l x) (reads_of env l) y w
unfolding assign_end So cast_or_none
back_by env l x (mark.Read c) y w u v e d so (inl r) = inr (None, [], w, refl, inr (refl, refl), (c, u, v, e, so, r))
back_by env l x (mark.Read c) y w u v e d so (inr a) = inl (x, u, v, e, d, a)
back_by env l x (mark.CastRead t c) y w u v e d (at, a, b, e2, f, rd) (inl r) = inr (Some t, a, b ++ v, e ∙ ap (λ (q : List Token). q ++ v) e2 ∙ append_assoc a b v, inl ((at, t), a, [], sym (append-nil a), f, (refl, refl)), (c, b, v, refl, rd, r))
back_by env l x (mark.CastRead t c) y w u v e d so (inr a) = inl (x, u, v, e, d, a)
back_by env l x (mark.One z) y w u v e d so a = inl (x, u, v, e, d, a)
back_by env l x mark.Bare y w u v e d so a = inl (x, u, v, e, d, a)
back_by env l x mark.Plain y w u v e d so a = inl (x, u, v, e, d, a)

ends_back : (env : Env) (l : P4Left) (y : Piece) (w : List Token) → bind (expr env) (λ x. assign_end env l x x.mark) y w → either (bind (expr env) λ x. assigned l x) (reads_of env l) y w
ends_back env l y w (x, u, v, e, d, a) = back_by env l x x.mark y w u v e d (expr_so d.0 env x u d.1) a

ends-same : (env : Env) (l : P4Left) → Same (either (bind (expr env) λ x. assigned l x) (reads_of env l)) (bind (expr env) (λ x. assign_end env l x x.mark))
ends-same env l = record { to = ends_to env l; back = ends_back env l }

-- ---- the grammar's forms

index-same : (env : Env) (l : P4Left) (t : Option P4Type) (c : P4Name) → Same (bind (index env) λ i. only (read_piece l t c i)) (read_rest env l t c)
unfolding index read_rest
index-same env l t c = words_bind (sign.Open ∷ []) _ _ then same_words (sign.Open ∷ []) (dist then same_either (words_bind (sign.Close ∷ sign.Semicolon ∷ []) _ _ then same_words (sign.Close ∷ sign.Semicolon ∷ []) bind_only)
    (assoc then same_bind same (λ e. words_bind (sign.Close ∷ sign.Semicolon ∷ []) _ _ then same_words (sign.Close ∷ sign.Semicolon ∷ []) bind_only)))

reading-same : {A : Type 0} {K : P4Name → Lang A} → Same (bind (taken name) λ c. words (sign.Dot ∷ []) (bind (taken (the_name (codes "read"))) λ at. K c)) (bind reading K)
unfolding reading
reading-same = flip (assoc then same_bind same (λ c. words_bind (sign.Dot ∷ []) _ _ then same_words (sign.Dot ∷ []) (assoc then same_bind same (λ at. bind_only))))

reads-same : (env : Env) (l : P4Left) → Same (bind (cast_or_none env) λ t. bind (taken name) λ c. words (sign.Dot ∷ []) (bind (taken (the_name (codes "read"))) λ at. bind (index env) λ i. only (read_piece l t c i))) (reads_of env l)
reads-same env l = same_bind same (λ t. reading-same then same_bind same (λ c. index-same env l t c))

left-same : {A : Type 0} {K : P4Left → Lang A} → Same (bind left K) (bind path λ p. bind slice_or_none λ s. K (left_of p s))
unfolding left
left-same = assoc then same_bind same (λ p. assoc then same_bind same (λ s. bind_only))

assigned-is : (env : Env) (l : P4Left) → Same (bind (expr env) λ x. words (sign.Semicolon ∷ []) (only (assign_piece l x))) (bind (expr env) λ x. assigned l x)
unfolding assigned
assigned-is env l = same

assigns-same : (env : Env) → Same (either (assign env) (read env)) (bind (taken name) λ x. bind names λ xs. assigns env (x ∷ xs))
unfolding assign read assigns
assigns-same env = factor then same_bind same (λ l. factor_words (sign.Assign ∷ []) _ _ then same_words (sign.Assign ∷ []) (same_either (assigned-is env l) (reads-same env l) then ends-same env l)) then left-same then path-same

write-same : (env : Env) → Same (write env) (bind (taken name) λ x. bind names λ xs. calls_one (codes "write") x xs (write_rest env))
unfolding write write_rest
write-same env = one-same (codes "write") (write_rest env)

valid_one-same : (text : List ℕ) (v : P4Validity) → Same (bind (called_path text) λ p. words (sign.Semicolon ∷ []) (only (valid_piece p v))) (bind (taken name) λ x. bind names λ xs. calls text x xs (λ p. valid_rest p v))
unfolding called_path valid_rest
valid_one-same text v = assoc then same_bind same (λ p. words_bind (sign.Dot ∷ []) _ _ then same_words (sign.Dot ∷ []) (assoc then same_bind same (λ at. words_bind (sign.Open ∷ sign.Close ∷ []) _ _ then same_words (sign.Open ∷ sign.Close ∷ []) bind_only)))
    then dotted-same text (λ p. words (sign.Open ∷ sign.Close ∷ sign.Semicolon ∷ []) (only (valid_piece p v)))

-- ---- one path, and what its last name makes of it

some_is : {A : Type 0} (p q : A) → Some p ≡ Some q → p ≡ q
some_is p q e = cc

valid_to : (v : P4Validity) (o : Option (List P4Name)) (P : Lang Piece) (y : Piece) (w : List Token) → either P (λ z u. (p : List P4Name) × (o ≡ Some p) × valid_rest p v z u) y w → or_valid v o P y w
unfolding or_valid
valid_to v None P y w (inl d) = d
valid_to v None P y w (inr (p, e, k)) = absurd cc
valid_to v (Some q) P y w (inl d) = inr d
valid_to v (Some q) P y w (inr (p, e, k)) = inl (subst (λ (r : List P4Name). valid_rest r v y w) (sym (some_is q p e)) k)

valid_back : (v : P4Validity) (o : Option (List P4Name)) (P : Lang Piece) (y : Piece) (w : List Token) → or_valid v o P y w → either P (λ z u. (p : List P4Name) × (o ≡ Some p) × valid_rest p v z u) y w
unfolding or_valid
valid_back v None P y w d = inl d
valid_back v (Some q) P y w (inl k) = inr (q, refl, k)
valid_back v (Some q) P y w (inr d) = inl d

or_valid-same : (v : P4Validity) (o : Option (List P4Name)) (P : Lang Piece) → Same (either P (λ z u. (p : List P4Name) × (o ≡ Some p) × valid_rest p v z u)) (or_valid v o P)
or_valid-same v o P = record { to = valid_to v o P; back = valid_back v o P }

write_to : (env : Env) (o : Option P4Name) (P : Lang Piece) (y : Piece) (w : List Token) → either P (λ z u. (c : P4Name) × (o ≡ Some c) × write_rest env c z u) y w → or_write env o P y w
unfolding or_write
write_to env None P y w (inl d) = d
write_to env None P y w (inr (p, e, k)) = absurd cc
write_to env (Some q) P y w (inl d) = inr d
write_to env (Some q) P y w (inr (p, e, k)) = inl (subst (λ (r : P4Name). write_rest env r y w) (sym (some_is q p e)) k)

write_back : (env : Env) (o : Option P4Name) (P : Lang Piece) (y : Piece) (w : List Token) → or_write env o P y w → either P (λ z u. (c : P4Name) × (o ≡ Some c) × write_rest env c z u) y w
unfolding or_write
write_back env None P y w d = inl d
write_back env (Some q) P y w (inl k) = inr (q, refl, k)
write_back env (Some q) P y w (inr d) = inl d

or_write-same : (env : Env) (o : Option P4Name) (P : Lang Piece) → Same (either P (λ z u. (c : P4Name) × (o ≡ Some c) × write_rest env c z u)) (or_write env o P)
or_write-same env o P = record { to = write_to env o P; back = write_back env o P }

pub both : {A : Type 0} {L M : P4Name → List P4Name → Lang A} → Same (either (bind (taken name) λ x. bind names λ xs. L x xs) (bind (taken name) λ x. bind names λ xs. M x xs)) (bind (taken name) λ x. bind names λ xs. either (L x xs) (M x xs))
both = factor then same_bind same (λ x. factor)

-- the statements that begin with a path
abbrev pub paths : Env → Lang Piece
paths env = either (either (either (either (assign env) (read env)) (bind (called_path (codes "setInvalid")) λ p. words (sign.Semicolon ∷ []) (only (valid_piece p validity.SetInvalid)))) (bind (called_path (codes "setValid")) λ p. words (sign.Semicolon ∷ []) (only (valid_piece p validity.SetValid)))) (write env)

pub paths-same : (env : Env) → Same (paths env) (bind (taken name) λ x. bind names λ xs. path_led env x xs)
unfolding path_led
paths-same env =
    same_either (same_either (same_either (assigns-same env) (valid_one-same (codes "setInvalid") validity.SetInvalid) then both then same_bind same (λ x. same_bind same (λ xs. or_valid-same validity.SetInvalid (called (codes "setInvalid") x xs) _)))
    (valid_one-same (codes "setValid") validity.SetValid) then both then same_bind same (λ x. same_bind same (λ xs. or_valid-same validity.SetValid (called (codes "setValid") x xs) _)))
    (write-same env) then both then same_bind same (λ x. same_bind same (λ xs. or_write-same env (alone (called (codes "write") x xs)) _))
