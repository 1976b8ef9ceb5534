-- The readers of statements fit.
use Rattle.std.proofs.Common.{◌≡◌, ℕ, zero, suc, ◌+◌, ◌≤◌, length, arith, Bool, true, false, cond, List, [], ◌∷◌, ◌++◌, refl, sym, ap, subst, ◌∙◌, inl, inr, ◌⊎◌}
use Rattle.p4_lex.specs.declared.token.Token.{Token}
use Rattle.p4_lex.specs.declared.token.Sign.TheVariants as sign
use Rattle.p4_lex.specs.declared.token.Lexeme.{Lexeme}
use Rattle.p4_lex.specs.declared.token.Lexeme.TheVariants as lexeme
use Rattle.p4_ast.specs.declared.name.P4Name.{P4Name}
use Rattle.p4_ast.specs.declared.statement.P4Cond.{P4Cond}
use Rattle.p4_grammar.specs.declared.mark.Piece.{Piece}
use Rattle.p4_grammar.specs.declared.mark.Piece.TheVariants as piece
use Rattle.p4_grammar.specs.Forms.{Lang, only, bind, either, taken, many, Reader, done_at, bind_at, many_at}
use Rattle.p4_grammar.specs.Tokens.{is, name, words, in_hand, but, is_name}
use Rattle.p4_grammar.specs.Values.{Env, named_type}
use Rattle.p4_grammar.specs.Trees.{kept_all, block_of, is_open, if_piece, if_else_piece, apply_piece, call_piece, key_piece, var_piece}
use Rattle.p4_grammar.specs.GrammarExpressions.{word_type, name_type, type_, names, args}
use Rattle.p4_grammar.specs.GrammarStatements.{var, keystmt, valid, apply, callstmt, block_of_stmts, else_, if_, stmt_of, stmts, stmt, block}
use Rattle.p4_grammar.specs.ReadingExpressions.{word_type_at, word_type as word_test}
use Rattle.p4_grammar.specs.ReadingStatements.{var_at, name_led_at, key_at, block_of_at, else_at, if_at, stmt_of_at, stmt_at, block_at}
use Rattle.p4_grammar.proofs.Languages.{Same, same, flip, same_bind, same_either, assoc, dist, factor, bind_only, turn, factor_words, ◌then◌}
use Rattle.p4_grammar.proofs.Forms.{IsEnd, Reads, bind-reads, done-reads, fits, fewer, stuck-reads, many-reads, shifted-reads}
use Rattle.p4_grammar.proofs.Basics.{free, is_free, tok, then-reads, words-reads, sign-reads, named-reads, Begins, begins_bind, begins_either, begins_any, choose-reads, said, sign_begins, name_begins, behind-reads, some_by, any-reads}
use Rattle.p4_grammar.proofs.Expressions.{names-reads, hand_end, end_end, word_type-reads, word_type_begins, option-reads}
use Rattle.p4_grammar.proofs.Operands.{after_sign, after_name}
use Rattle.p4_grammar.proofs.Plain.{closed_by-reads, args-reads, var_rest, var_rest-reads, var-is}
use Rattle.p4_grammar.proofs.Paths.{or_write, or_valid, assigns_begins, path_led, path_led-reads, led_begins}
use Rattle.p4_grammar.proofs.PathsSame.{paths, paths-same}
use Rattle.p4_grammar.proofs.Conditions.{names-same, cond-reads}

-- an `else` goes on with an open statement
abbrev pub EO : Piece → Token → Bool
EO p a = cond (is_open p) (in_hand sign.Else a) false

pub freed : {A : Type 0} {n : ℕ} {D U : Lang A} {p : Reader A} {E : A → Token → Bool} → Reads n D U free p → Reads n D U E p
freed {n = n} {D = D} {U = U} {p = p} {E = E} h = fits n D U D U free E p h (λ x u d. d) (λ x u d. d) (λ x m end. is_free m)

-- ---- behind a name

unfoldable pub named_stmt : Env → P4Name → Lang Piece
named_stmt env x = either (bind (taken name) λ y. bind (var_rest env (named_type x) y) λ v. only (var_piece v))
    (either (bind (args env) λ xs. words (sign.Semicolon ∷ []) (only (call_piece x xs)))
    (either (words (sign.Dot ∷ []) (either (words (sign.Apply ∷ sign.Open ∷ sign.Close ∷ sign.Semicolon ∷ []) (only (apply_piece x))) (bind (taken name) λ y. bind names λ ys. path_led env x (y ∷ ys))))
    (path_led env x [])))

args_begins : {b : Bool} {t : Token → Bool} (env : Env) → ((at e : ℕ) → t (tok at e (lexeme.Sign sign.Open)) ≡ b) → Begins b t (args env)
unfolding args
args_begins env h = sign_begins sign.Open h

-- without `write` and its kin a path of one name is given a value
one_begins : {b : Bool} {t : Token → Bool} (env : Env) (x : P4Name) → ((at e : ℕ) → t (tok at e (lexeme.Sign sign.OpenSlice)) ≡ b) → ((at e : ℕ) → t (tok at e (lexeme.Sign sign.Assign)) ≡ b) → Begins b t (path_led env x [])
unfolding path_led or_write or_valid
one_begins env x h k = assigns_begins env (x ∷ []) h k

named_stmt-reads : {n : ℕ} (env : Env) (x : P4Name) → Reads n (named_stmt env x) (named_stmt env x) free (name_led_at n env x)
unfolding named_stmt name_led_at
named_stmt-reads {n = n} env x = choose-reads is_name (named-reads λ y. then-reads (var_rest-reads env (named_type x) y) λ v. done-reads n free (var_piece v))
    (choose-reads (in_hand sign.Open) (then-reads (args-reads env) λ xs. words-reads (sign.Semicolon ∷ []) (done-reads n free (call_piece x xs)))
    (choose-reads (in_hand sign.Dot) (words-reads (sign.Dot ∷ []) (choose-reads (in_hand sign.Apply) (words-reads (sign.Apply ∷ sign.Open ∷ sign.Close ∷ sign.Semicolon ∷ []) (done-reads n free (apply_piece x)))
    (named-reads λ y. behind-reads names-reads (λ ys. led_begins env x (y ∷ ys) (λ at e. refl) (λ at e. refl) (λ at e. refl)) λ ys. path_led-reads env x (y ∷ ys))
    (sign_begins sign.Apply (λ at e. refl)) (name_begins (λ at e t. refl))))
    (path_led-reads env x [])
    (sign_begins sign.Dot (λ at e. refl)) (one_begins env x (λ at e. refl) (λ at e. refl)))
    (begins_bind (args_begins env (λ at e. refl))) (begins_either (sign_begins sign.Dot (λ at e. refl)) (one_begins env x (λ at e. refl) (λ at e. refl))))
    (name_begins (λ at e t. refl)) (begins_either (begins_bind (args_begins env (λ at e. refl))) (begins_either (sign_begins sign.Dot (λ at e. refl)) (one_begins env x (λ at e. refl) (λ at e. refl))))

-- a variable whose type begins with a word
abbrev pub word_var : Env → Lang Piece
word_var env = bind (bind word_type λ t. bind (taken name) λ x. var_rest env t x) λ v. only (var_piece v)

-- a variable whose type is a name
abbrev pub name_var : Env → Lang Piece
name_var env = bind (taken name) λ x. bind (taken name) λ y. bind (var_rest env (named_type x) y) λ v. only (var_piece v)

name_var-same : (env : Env) → Same (bind name_type λ t. bind (bind (taken name) λ x. var_rest env t x) λ v. only (var_piece v)) (name_var env)
unfolding name_type
name_var-same env = assoc then same_bind same (λ x. bind_only then assoc)

var-same : (env : Env) → Same (bind (var env) λ v. only (var_piece v)) (either (word_var env) (name_var env))
unfolding type_
var-same env = same_bind (var-is env) (λ v. same) then assoc then dist then same_either (flip assoc) (name_var-same env)

end-same : (env : Env) (x : P4Name) → Same (either (words (sign.Dot ∷ sign.Apply ∷ sign.Open ∷ sign.Close ∷ sign.Semicolon ∷ []) (only (apply_piece x))) (bind names λ xs. path_led env x xs)) (either (words (sign.Dot ∷ []) (either (words (sign.Apply ∷ sign.Open ∷ sign.Close ∷ sign.Semicolon ∷ []) (only (apply_piece x))) (bind (taken name) λ y. bind names λ ys. path_led env x (y ∷ ys)))) (path_led env x []))
end-same env x = same_either same names-same then flip turn then same_either (factor_words (sign.Dot ∷ []) _ _) same

abbrev pub after_a_name : Env → Lang Piece
after_a_name env = either (name_var env) (either (callstmt env) (either apply (paths env)))

named-same : (env : Env) → Same (after_a_name env) (bind (taken name) λ x. named_stmt env x)
unfolding named_stmt callstmt apply
named-same env = same_either same (same_either same (same_either same (paths-same env) then factor then same_bind same (λ x. end-same env x)) then factor) then factor

-- ---- the statement's two forms

unfoldable pub fstmt : Env → Lang Piece → Lang Piece
fstmt env S = either (bind (taken (is sign.Semicolon)) λ at. only (piece.Empty at))
    (either (bind (block_of_stmts S) λ b. only (piece.Block b))
    (either (if_ env S)
    (either (keystmt env)
    (either (word_var env)
    (bind (taken name) λ x. named_stmt env x)))))

in_name : (env : Env) (S : Lang Piece) (y : Piece) (w : List Token) → after_a_name env y w → fstmt env S y w
unfolding fstmt
in_name env S y w d = inr (inr (inr (inr (inr ((named-same env).to y w d)))))

in_path : (env : Env) (S : Lang Piece) (y : Piece) (w : List Token) → paths env y w → fstmt env S y w
in_path env S y w d = in_name env S y w (inr (inr (inr d)))

in_var : (env : Env) (S : Lang Piece) (y : Piece) (w : List Token) → word_var env y w ⊎ name_var env y w → fstmt env S y w
unfolding fstmt
in_var env S y w (inl d) = inr (inr (inr (inr (inl d))))
in_var env S y w (inr d) = in_name env S y w (inl d)

stmt_to : (env : Env) (S : Lang Piece) (y : Piece) (w : List Token) → stmt_of env S y w → fstmt env S y w
unfolding stmt_of fstmt valid
stmt_to env S y w (inl d) = inl d
stmt_to env S y w (inr (inl d)) = inr (inl d)
stmt_to env S y w (inr (inr (inl d))) = in_var env S y w ((var-same env).to y w d)
stmt_to env S y w (inr (inr (inr (inl d)))) = in_path env S y w (inl (inl (inl (inl d))))
stmt_to env S y w (inr (inr (inr (inr (inl d))))) = in_path env S y w (inl (inl (inl (inr d))))
stmt_to env S y w (inr (inr (inr (inr (inr (inl d)))))) = in_path env S y w (inr d)
stmt_to env S y w (inr (inr (inr (inr (inr (inr (inl d))))))) = inr (inr (inr (inl d)))
stmt_to env S y w (inr (inr (inr (inr (inr (inr (inr (inl (inl d))))))))) = in_path env S y w (inl (inr d))
stmt_to env S y w (inr (inr (inr (inr (inr (inr (inr (inl (inr d))))))))) = in_path env S y w (inl (inl (inr d)))
stmt_to env S y w (inr (inr (inr (inr (inr (inr (inr (inr (inl d))))))))) = in_name env S y w (inr (inr (inl d)))
stmt_to env S y w (inr (inr (inr (inr (inr (inr (inr (inr (inr (inl d)))))))))) = in_name env S y w (inr (inl d))
stmt_to env S y w (inr (inr (inr (inr (inr (inr (inr (inr (inr (inr d)))))))))) = inr (inr (inl d))

out_var : (env : Env) (S : Lang Piece) (y : Piece) (w : List Token) → word_var env y w ⊎ name_var env y w → stmt_of env S y w
unfolding stmt_of
out_var env S y w d = inr (inr (inl ((var-same env).back y w d)))

out_path : (env : Env) (S : Lang Piece) (y : Piece) (w : List Token) → paths env y w → stmt_of env S y w
unfolding stmt_of valid
out_path env S y w (inl (inl (inl (inl d)))) = inr (inr (inr (inl d)))
out_path env S y w (inl (inl (inl (inr d)))) = inr (inr (inr (inr (inl d))))
out_path env S y w (inl (inl (inr d))) = inr (inr (inr (inr (inr (inr (inr (inl (inr d))))))))
out_path env S y w (inl (inr d)) = inr (inr (inr (inr (inr (inr (inr (inl (inl d))))))))
out_path env S y w (inr d) = inr (inr (inr (inr (inr (inl d)))))

out_name : (env : Env) (S : Lang Piece) (y : Piece) (w : List Token) → after_a_name env y w → stmt_of env S y w
unfolding stmt_of
out_name env S y w (inl d) = out_var env S y w (inr d)
out_name env S y w (inr (inl d)) = inr (inr (inr (inr (inr (inr (inr (inr (inr (inl d)))))))))
out_name env S y w (inr (inr (inl d))) = inr (inr (inr (inr (inr (inr (inr (inr (inl d))))))))
out_name env S y w (inr (inr (inr d))) = out_path env S y w d

stmt_back : (env : Env) (S : Lang Piece) (y : Piece) (w : List Token) → fstmt env S y w → stmt_of env S y w
unfolding stmt_of fstmt
stmt_back env S y w (inl d) = inl d
stmt_back env S y w (inr (inl d)) = inr (inl d)
stmt_back env S y w (inr (inr (inl d))) = inr (inr (inr (inr (inr (inr (inr (inr (inr (inr d)))))))))
stmt_back env S y w (inr (inr (inr (inl d)))) = inr (inr (inr (inr (inr (inr (inl d))))))
stmt_back env S y w (inr (inr (inr (inr (inl d))))) = out_var env S y w (inl d)
stmt_back env S y w (inr (inr (inr (inr (inr d))))) = out_name env S y w ((named-same env).back y w d)

pub stmt-same : (env : Env) (S : Lang Piece) → Same (stmt_of env S) (fstmt env S)
stmt-same env S = record { to = stmt_to env S; back = stmt_back env S }

-- ---- blocks and branches

else_false : (b : Bool) → cond b false false ≡ false
else_false true = refl
else_false false = refl

closes_no_else : (at e : ℕ) (l : Lexeme) → but sign.CloseBrace (tok at e l) ≡ false → in_hand sign.Else (tok at e l) ≡ false
closes_no_else at e (lexeme.Name t) h = refl
closes_no_else at e (lexeme.Number v w) h = refl
closes_no_else at e (lexeme.Sign sign.Else) h = absurd cc
closes_no_else at e (lexeme.Sign s) h = refl

eo_else : (b c : Bool) → c ≡ false → cond b c false ≡ false
eo_else true c e = e
eo_else false c e = refl

eo_end : (p : Piece) (m : List Token) → IsEnd (in_hand sign.Else) m → IsEnd (EO p) m
eo_end p [] e = tt
eo_end p (a ∷ m) e = eo_else (is_open p) (in_hand sign.Else a) e

-- what a statement begins with
abbrev pub StmtBegins : Bool → (Token → Bool) → Type 0
StmtBegins b t = ((at e : ℕ) → t (tok at e (lexeme.Sign sign.Semicolon)) ≡ b) × ((at e : ℕ) → t (tok at e (lexeme.Sign sign.OpenBrace)) ≡ b) × ((at e : ℕ) → t (tok at e (lexeme.Sign sign.If)) ≡ b) × ((at e : ℕ) → t (tok at e (lexeme.Sign sign.FlowKey)) ≡ b) × ((at e : ℕ) → t (tok at e (lexeme.Sign sign.Bit)) ≡ b) × ((at e : ℕ) → t (tok at e (lexeme.Sign sign.Bool)) ≡ b) × ((at e : ℕ) → t (tok at e (lexeme.Sign sign.StdT)) ≡ b) × ((at e : ℕ) (text : List ℕ) → t (tok at e (lexeme.Name text)) ≡ b)

block_begins : {b : Bool} {t : Token → Bool} (S : Lang Piece) → ((at e : ℕ) → t (tok at e (lexeme.Sign sign.OpenBrace)) ≡ b) → Begins b t (block_of_stmts S)
unfolding block_of_stmts
block_begins S h = sign_begins sign.OpenBrace h

if_begins : {b : Bool} {t : Token → Bool} (env : Env) (S : Lang Piece) → ((at e : ℕ) → t (tok at e (lexeme.Sign sign.If)) ≡ b) → Begins b t (if_ env S)
unfolding if_
if_begins env S h = sign_begins sign.If h

key_begins : {b : Bool} {t : Token → Bool} (env : Env) → ((at e : ℕ) → t (tok at e (lexeme.Sign sign.FlowKey)) ≡ b) → Begins b t (keystmt env)
unfolding keystmt
key_begins env h = sign_begins sign.FlowKey h

fstmt_begins : {b : Bool} {t : Token → Bool} (env : Env) (S : Lang Piece) → StmtBegins b t → Begins b t (fstmt env S)
unfolding fstmt
fstmt_begins env S (h1, h2, h3, h4, h5, h6, h7, h8) = begins_either (sign_begins sign.Semicolon h1) (begins_either (begins_bind (block_begins S h2)) (begins_either (if_begins env S h3) (begins_either (key_begins env h4) (begins_either (begins_bind (begins_bind (word_type_begins h5 h6 h7))) (name_begins h8)))))

pub stmts_begins : {b : Bool} {t : Token → Bool} (k : ℕ) (env : Env) → StmtBegins b t → Begins b t (stmts k env)
unfolding stmts
stmts_begins zero env h = record { at = λ x u m d. absurd d }
stmts_begins (suc k) env h = record { at = λ x u m d. (fstmt_begins env (stmts k env) h).at x u m ((stmt-same env (stmts k env)).to x u d) }

pub begins_no_else : StmtBegins false (in_hand sign.Else)
begins_no_else = (λ i e. refl, λ i e. refl, λ i e. refl, λ i e. refl, λ i e. refl, λ i e. refl, λ i e. refl, λ i e t. refl)

pub begins_in_block : StmtBegins true (but sign.CloseBrace)
begins_in_block = (λ i e. refl, λ i e. refl, λ i e. refl, λ i e. refl, λ i e. refl, λ i e. refl, λ i e. refl, λ i e t. refl)

module _ (n : ℕ) (D U : Lang Piece) (p : Reader Piece) (h : Reads n D U EO p) (no_else : Begins false (in_hand sign.Else) D) (goes : Begins true (but sign.CloseBrace) D) (goes_up : Begins true (but sign.CloseBrace) U) where
  pieces-reads : Reads n (many D) (many U) (λ ps. but sign.CloseBrace) (many_at n (but sign.CloseBrace) p)
  pieces-reads = many-reads n (but sign.CloseBrace) D U EO p h goes.at (λ x u d. some_by (but sign.CloseBrace) u (goes_up.at x u [] d))
      (λ x y u m d. eo_end x (u ++ m) (hand_end (in_hand sign.Else) (u ++ m) (no_else.at y u m d)))
      (but sign.CloseBrace) (λ x m end. eo_end x m (end_end (in_hand sign.Else) (but sign.CloseBrace) (λ a e. closes_no_else a.at a.end a.lexeme e) m end)) (λ m end. end) n (omega arith)

  pub block_of-reads : Reads (suc n) (block_of_stmts D) (block_of_stmts U) free (block_of_at n p)
  unfolding block_of_stmts block_of_at
  block_of-reads = after_sign sign.OpenBrace λ at. behind-reads pieces-reads (λ ps. sign_begins sign.CloseBrace (λ i e. refl)) λ ps. words-reads (sign.CloseBrace ∷ []) (done-reads n free (block_of at (kept_all ps)))

  else_begins : (at : ℕ) (c : P4Cond) (s : Piece) → Begins true (in_hand sign.Else) (words (sign.Else ∷ []) (bind D λ r. only (if_else_piece at c s r)))
  else_begins at c s = sign_begins sign.Else (λ i e. refl)

  opened_end : (at : ℕ) (c : P4Cond) (s r : Piece) (m : List Token) → IsEnd (EO (if_else_piece at c s r)) m → IsEnd (EO r) m
  opened_end at c s (piece.Empty i) m e = eo_same (piece.Empty i) m where
    eo_same : (q : Piece) (m : List Token) → IsEnd (EO (piece.Empty i)) m
    eo_same q [] = tt
    eo_same q (a ∷ m) = refl
  opened_end at c s (piece.Block b) m e = eo_same m where
    eo_same : (m : List Token) → IsEnd (EO (piece.Block b)) m
    eo_same [] = tt
    eo_same (a ∷ m) = refl
  opened_end at c s (piece.Stmt i b) m e = eo_same m where
    eo_same : (m : List Token) → IsEnd (EO (piece.Stmt i b)) m
    eo_same [] = tt
    eo_same (a ∷ m) = refl
  opened_end at c s (piece.Open i b) m e = e

  only_end : (x y : Piece) (v m : List Token) → only x y v → IsEnd (EO y) m → IsEnd (EO x) (v ++ m)
  only_end x y v m d end = subst (λ (q : List Token). IsEnd (EO x) (q ++ m)) (sym d.1) (subst (λ (q : Piece). IsEnd (EO q) m) d.0 end)

  else_-reads : (at : ℕ) (c : P4Cond) (s : Piece) (b : Bool) → Reads n (else_ at c D s b) (else_ at c U s b) EO (else_at at c p s b)
  unfolding else_ else_at
  else_-reads at c s true = done-reads n EO (if_piece at c s)
  else_-reads at c s false = option-reads (in_hand sign.Else) (if_piece at c s)
      (words-reads (sign.Else ∷ []) (bind-reads n D U EO p (λ r. only (if_else_piece at c s r)) (λ r. only (if_else_piece at c s r)) EO (λ r. done_at (if_else_piece at c s r)) h (λ r. done-reads n EO (if_else_piece at c s r))
      (λ r y v m d end. subst (λ (q : List Token). IsEnd (EO r) (q ++ m)) (sym d.1) (opened_end at c s r m (subst (λ (q : Piece). IsEnd (EO q) m) d.0 end)))))
      (else_begins at c s) (λ a e. e)

  eo_closed : (s : Piece) (b : Bool) → is_open s ≡ b → b ≡ false → (m : List Token) → IsEnd (EO s) m
  eo_closed s b e f [] = tt
  eo_closed s b e f (a ∷ m) = ap (λ (q : Bool). cond q (in_hand sign.Else a) false) (e ∙ f)

  else_apart : (at : ℕ) (c : P4Cond) (s : Piece) (b : Bool) → is_open s ≡ b → (y : Piece) (v m : List Token) → else_ at c D s b y v → IsEnd (EO y) m → IsEnd (EO s) (v ++ m)
  unfolding else_
  else_apart at c s true e y v m d end = subst (λ (q : List Token). IsEnd (EO s) (q ++ m)) (sym d.1) (eo_end s m (open_else m (subst (λ (q : Piece). IsEnd (EO q) m) d.0 end))) where
    open_else : (m : List Token) → IsEnd (EO (if_piece at c s)) m → IsEnd (in_hand sign.Else) m
    open_else [] e = tt
    open_else (a ∷ m) e = e
  else_apart at c s false e y v m d end = eo_closed s false e refl (v ++ m)

  pub if_of-reads : (env : Env) → Reads (suc n) (if_ env D) (if_ env U) EO (if_at n env p)
  unfolding if_ if_at
  if_of-reads env = after_sign sign.If λ at. words-reads (sign.Open ∷ []) (behind-reads (cond-reads env) (λ c. sign_begins sign.Close (λ i e. refl)) λ c. words-reads (sign.Close ∷ []) (bind-reads n D U EO p (λ s. else_ at c D s (is_open s)) (λ s. else_ at c U s (is_open s)) EO (λ s. else_at at c p s (is_open s)) h (λ s. else_-reads at c s (is_open s)) (λ s y v m d end. else_apart at c s (is_open s) refl y v m d end)))

-- ---- statements

key-reads : {n : ℕ} (env : Env) → Reads (suc n) (keystmt env) (keystmt env) free (key_at n env)
unfolding keystmt key_at
key-reads {n = n} env = after_sign sign.FlowKey λ at. words-reads (sign.Open ∷ []) (closed_by-reads env sign.Close (λ i e. refl) λ x. words-reads (sign.Semicolon ∷ []) (done-reads n free (key_piece at x)))

word_long : (n : ℕ) (x : _) (u : List Token) → word_type x u → suc n ≤ length u + n
word_long n x u d = let one : 1 ≤ length u = some_by word_test u ((word_type_begins {t = word_test} (λ i e. refl) (λ i e. refl) (λ i e. refl)).at x u [] d) in omega arith

word_var-reads : {n : ℕ} (env : Env) → Reads (suc n) (word_var env) (word_var env) free (bind_at (var_at n env word_type_at) λ v. done_at (var_piece v))
unfolding var_at
word_var-reads {n = n} env = then-reads (shifted-reads (suc n) n word_type word_type free word_type_at (λ t. bind (taken name) λ x. var_rest env t x) (λ t. bind (taken name) λ x. var_rest env t x) free _ word_type-reads (λ t. named-reads λ x. var_rest-reads env t x) (word_long n) (λ x y v m d end. is_free (v ++ m)))
    λ v. done-reads (suc n) free (var_piece v)

module _ (n : ℕ) (env : Env) (D U : Lang Piece) (p : Reader Piece) (h : Reads n D U EO p) (no_else : Begins false (in_hand sign.Else) D) (goes : Begins true (but sign.CloseBrace) D) (goes_up : Begins true (but sign.CloseBrace) U) where
  fstmt-reads : Reads (suc n) (fstmt env D) (fstmt env U) EO (stmt_of_at n env p)
  unfolding fstmt stmt_of_at
  fstmt-reads = choose-reads (in_hand sign.Semicolon) (sign-reads sign.Semicolon λ at. done-reads (suc n) EO (piece.Empty at))
      (choose-reads (in_hand sign.OpenBrace) (then-reads (block_of-reads n D U p h no_else goes goes_up) λ b. done-reads (suc n) EO (piece.Block b))
      (choose-reads (in_hand sign.If) (if_of-reads n D U p h no_else goes goes_up env)
      (choose-reads (in_hand sign.FlowKey) (freed (key-reads env))
      (choose-reads word_test (freed (word_var-reads env)) (freed (after_name λ x. named_stmt-reads env x))
      (begins_bind (begins_bind (word_type_begins (λ i e. refl) (λ i e. refl) (λ i e. refl)))) (name_begins (λ i e t. refl)))
      (key_begins env (λ i e. refl)) (begins_either (begins_bind (begins_bind (word_type_begins (λ i e. refl) (λ i e. refl) (λ i e. refl)))) (name_begins (λ i e t. refl))))
      (if_begins env D (λ i e. refl)) (begins_either (key_begins env (λ i e. refl)) (begins_either (begins_bind (begins_bind (word_type_begins (λ i e. refl) (λ i e. refl) (λ i e. refl)))) (name_begins (λ i e t. refl)))))
      (begins_bind (block_begins D (λ i e. refl))) (begins_either (if_begins env D (λ i e. refl)) (begins_either (key_begins env (λ i e. refl)) (begins_either (begins_bind (begins_bind (word_type_begins (λ i e. refl) (λ i e. refl) (λ i e. refl)))) (name_begins (λ i e t. refl))))))
      (sign_begins sign.Semicolon (λ i e. refl)) (begins_either (begins_bind (block_begins D (λ i e. refl))) (begins_either (if_begins env D (λ i e. refl)) (begins_either (key_begins env (λ i e. refl)) (begins_either (begins_bind (begins_bind (word_type_begins (λ i e. refl) (λ i e. refl) (λ i e. refl)))) (name_begins (λ i e t. refl))))))

  pub stmt_of-reads : Reads (suc n) (stmt_of env D) (stmt_of env U) EO (stmt_of_at n env p)
  stmt_of-reads = said fstmt-reads (stmt-same env D) (stmt-same env U)

-- `;` is a statement
one_stmt : (env : Env) → stmts 1 env (piece.Empty 0) (tok 0 0 (lexeme.Sign sign.Semicolon) ∷ [])
unfolding stmts stmt_of
one_stmt env = inl (0, tok 0 0 (lexeme.Sign sign.Semicolon) ∷ [], [], refl, (tok 0 0 (lexeme.Sign sign.Semicolon), refl, refl), (refl, refl))

stmts_none : (env : Env) (x : Piece) (u : List Token) → stmts 0 env x u → ⊥
unfolding stmts
stmts_none env x u d = d

step : (n k : ℕ) (env : Env) → Reads n (stmts k env) (stmts (suc n) env) EO (stmt_at n env) → Reads (suc n) (stmts (suc k) env) (stmts (suc (suc n)) env) EO (stmt_at (suc n) env)
unfolding stmts stmt_at
step n k env h = stmt_of-reads n env (stmts k env) (stmts (suc n) env) (stmt_at n env) h (stmts_begins k env begins_no_else) (stmts_begins k env begins_in_block) (stmts_begins (suc n) env begins_in_block)

stmts-reads : (n k : ℕ) (env : Env) → Reads n (stmts k env) (stmts (suc n) env) EO (stmt_at n env)
unfolding stmt_at
stmts-reads zero k env = stuck-reads (stmts k env) (stmts 1 env) EO (piece.Empty 0) (tok 0 0 (lexeme.Sign sign.Semicolon) ∷ []) (one_stmt env)
stmts-reads (suc n) zero env = fits (suc n) _ _ (stmts 0 env) _ EO EO _ (step n 0 env (stmts-reads n 0 env)) (λ x u d. absurd (stmts_none env x u d)) (λ x u d. d) (λ x m end. end)
stmts-reads (suc n) (suc k) env = step n k env (stmts-reads n k env)

pub stmt-reads : {n : ℕ} (env : Env) → Reads n (stmt env) (stmt env) EO (stmt_at n env)
stmt-reads {n = n} env = any-reads (suc n) (λ k. stmts-reads n k env)

pub block-reads : {n : ℕ} (env : Env) → Reads n (block env) (block env) free (block_at n env)
unfolding block block_at
block-reads {n = n} env = fewer n (suc n) _ _ free _ (omega arith) (block_of-reads n (stmt env) (stmt env) (stmt_at n env) (stmt-reads env) (begins_any (λ k. stmts_begins k env begins_no_else)) (begins_any (λ k. stmts_begins k env begins_in_block)) (begins_any (λ k. stmts_begins k env begins_in_block)))
