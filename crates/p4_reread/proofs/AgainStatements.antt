-- Statements other than blocks and `if` are spelled again by their canonical tokens.
use Rattle.std.proofs.Common.{◌≡◌, Bool, true, false, List, [], ◌∷◌, ◌++◌, map, Option, Some, None, refl, sym, ap, ◌∙◌, append_assoc}
use Rattle.std.specs.Prelude.{codes, option_map}
use Rattle.p4_lex.specs.declared.token.Sign.TheVariants as sign
use Rattle.p4_lex.specs.declared.token.Lexeme.{Lexeme}
use Rattle.p4_lex.specs.declared.token.Lexeme.TheVariants as lexeme
use Rattle.p4_ast.specs.declared.name.P4Name.{P4Name}
use Rattle.p4_ast.specs.declared.expression.P4Expr.{P4Expr}
use Rattle.p4_ast.specs.declared.control.P4Var.{P4Var}
use Rattle.p4_ast.specs.declared.statement.P4Assign.{P4Assign}
use Rattle.p4_ast.specs.declared.statement.P4Read.{P4Read}
use Rattle.p4_ast.specs.declared.statement.P4Write.{P4Write}
use Rattle.p4_ast.specs.declared.statement.P4Keystmt.{P4Keystmt}
use Rattle.p4_ast.specs.declared.statement.P4Valid.{P4Valid}
use Rattle.p4_ast.specs.declared.statement.P4Validity.{P4Validity}
use Rattle.p4_ast.specs.declared.statement.P4Validity.TheVariants as validity
use Rattle.p4_ast.specs.declared.statement.P4Apply.{P4Apply}
use Rattle.p4_ast.specs.declared.statement.P4Callstmt.{P4Callstmt}
use Rattle.p4_ast.specs.declared.statement.P4Cond.TheVariants as condition
use Rattle.p4_ast.specs.declared.statement.P4Outcome.{P4Outcome}
use Rattle.p4_ast.specs.declared.statement.P4Stmt.{P4Stmt}
use Rattle.p4_ast.specs.declared.statement.P4Stmt.TheVariants as stmt
use Rattle.p4_ast.specs.declared.statement.P4Block.{P4Block}
use Rattle.p4_ast.specs.declared.statement.P4If.{P4If}
use Rattle.p4_ast.specs.Bare.{bare_name, bare_left, bare_type, bare_expr, bare_slice}
use Rattle.p4_ast.specs.BareStatements.{bare_var, bare_assign, bare_read, bare_write, bare_keystmt, bare_valid, bare_apply, bare_callstmt, bare_cond, bare_stmt, bare_stmt_step, bare_block_step, bare_if_step}
use Rattle.p4_ast.proofs.Folds.{fold_stmt-Var, fold_stmt-Assign, fold_stmt-Read, fold_stmt-Write, fold_stmt-Keystmt, fold_stmt-Valid, fold_stmt-Apply, fold_stmt-Callstmt}
use Rattle.p4_print.specs.Shared.{the, maybe, path_tokens, left_tokens, slice_tokens}
use Rattle.p4_print.specs.Expressions.{expr_tokens}
use Rattle.p4_print.specs.Statements.{var_tokens, assign_tokens, cast_tokens, read_tokens, write_tokens, keystmt_tokens, validity_name, valid_tokens, apply_tokens, callstmt_tokens, outcome_name, applied_tokens, cond_tokens, stmt_step, block_step, if_step, stmt_tokens}
use Rattle.p4_grammar.specs.declared.mark.Piece.{Piece}
use Rattle.p4_grammar.specs.declared.mark.Piece.TheVariants as piece
use Rattle.p4_grammar.specs.Forms.{only, bind}
use Rattle.p4_grammar.specs.Values.{Env, first_at, path_of}
use Rattle.p4_grammar.specs.Trees.{var_piece}
use Rattle.p4_grammar.specs.GrammarStatements.{outcome_, table_cond, not_table_cond, cond_, var, slice_or_none, left, assign, cast_or_none, index, read, write, keystmt, valid, apply, callstmt}
use Rattle.p4_reread.proofs.Again.{Again, whole, step, last, fork, done, ends, sign-again, name-again, text-again, words_step, option-again, Says, says_bind, says_only, says_either, says_nothing, says_words}
use Rattle.p4_reread.proofs.AgainPlain.{type-again, path-again, slice-again, called-again, called_tokens, names_tokens}
use Rattle.p4_reread.proofs.AgainExprs.{cast_front-again, expr-again, expression-again, args-again}

-- ---- conditions

outcome-again : Again outcome_ (λ o. lexeme.Name (outcome_name o) ∷ []) (λ o. o)
unfolding outcome_
outcome-again = whole (fork (last (text-again (codes "hit")) λ at other u. ends refl refl) (last (text-again (codes "miss")) λ at other u. ends refl refl))

bare_asked : (b : Bool) (x y : P4Name) (o r : P4Outcome) → bare_name y ≡ bare_name x → r ≡ o → condition.Apply 0 b (bare_name y) r ≡ condition.Apply 0 b (bare_name x) o
bare_asked b x y o r e g = ap (λ (n : P4Name). condition.Apply 0 b n r) e ∙ ap (condition.Apply 0 b (bare_name x)) g

pub cond-again : (env : Env) → Again (cond_ env) cond_tokens bare_cond
unfolding cond_ table_cond not_table_cond cond_tokens applied_tokens
cond-again env = whole (fork (last (expr-again env) λ x y e. ends refl (ap condition.Expr e))
    (fork (step name-again λ x y e. words_step (sign.Dot ∷ sign.Apply ∷ sign.Open ∷ sign.Close ∷ sign.Dot ∷ []) (last outcome-again λ o r g. ends refl (bare_asked false x y o r e g)))
    (step (sign-again sign.Not) λ at other u. step name-again λ x y e. words_step (sign.Dot ∷ sign.Apply ∷ sign.Open ∷ sign.Close ∷ sign.Dot ∷ []) (last outcome-again λ o r g. ends refl (bare_asked true x y o r e g)))))

-- ---- their parts

pub var-again : (env : Env) → Again (var env) var_tokens bare_var
unfolding var var_tokens
var-again env = whole (step type-again λ t v e. step name-again λ x y g. fork
    (words_step (sign.Assign ∷ []) (step (expression-again env) λ a b h. words_step (sign.Semicolon ∷ []) (done refl (λ i. record { at = 0; type_ = e i; name = g i; expr = Some (h i) }))))
    (words_step (sign.Semicolon ∷ []) (done refl (λ i. record { at = 0; type_ = e i; name = g i; expr = None }))))

pub slice_or_none-again : Again slice_or_none (maybe slice_tokens) (option_map bare_slice)
unfolding slice_or_none
slice_or_none-again = option-again slice-again

left-again : Again left left_tokens bare_left
unfolding left left_tokens path_tokens
left-again = whole (step path-again λ p q e. last slice_or_none-again λ s t g. ends refl (λ i. record { at = 0; path = record { at = 0; names = e i }; slice = g i }))

cast_or_none-again : (env : Env) → Again (cast_or_none env) (maybe cast_tokens) (option_map bare_type)
unfolding cast_or_none
cast_or_none-again env = whole (fork (last (cast_front-again env) λ c d e. ends refl (ap Some e)) (done refl refl))

-- an index in parentheses, and the end of a read
index_tokens : Option P4Expr → List Lexeme
index_tokens i = the sign.Open ∷ (maybe expr_tokens i ++ (the sign.Close ∷ the sign.Semicolon ∷ []))

index-again : (env : Env) → Again (index env) index_tokens (option_map bare_expr)
unfolding index index_tokens
index-again env = whole (words_step (sign.Open ∷ []) (fork (words_step (sign.Close ∷ sign.Semicolon ∷ []) (done refl refl)) (step (expression-again env) λ a b e. words_step (sign.Close ∷ sign.Semicolon ∷ []) (done refl (ap Some e)))))

-- ---- statements as pieces

-- the tokens of a statement that is no block and no `if`
abbrev pub simple_tokens : Piece → List Lexeme
simple_tokens (piece.Stmt at s) = stmt_tokens s
simple_tokens (piece.Empty at) = []
simple_tokens (piece.Block b) = []
simple_tokens (piece.Open at s) = []

abbrev pub simple_bare : Piece → Option P4Stmt
simple_bare (piece.Stmt at s) = Some (bare_stmt s)
simple_bare (piece.Empty at) = None
simple_bare (piece.Block b) = None
simple_bare (piece.Open at s) = None

abbrev pub IsSimple : Piece → Type 0
IsSimple (piece.Stmt at s) = Unit {0}
IsSimple (piece.Empty at) = ⊥
IsSimple (piece.Block b) = ⊥
IsSimple (piece.Open at s) = ⊥

abbrev Ls : Type 0
Ls = List Lexeme

tokens-Var : (x : P4Var) → stmt_tokens (stmt.Var x) ≡ var_tokens x
tokens-Var x = fold_stmt-Var Ls Ls Ls stmt_step block_step if_step x

tokens-Assign : (x : P4Assign) → stmt_tokens (stmt.Assign x) ≡ assign_tokens x
tokens-Assign x = fold_stmt-Assign Ls Ls Ls stmt_step block_step if_step x

tokens-Read : (x : P4Read) → stmt_tokens (stmt.Read x) ≡ read_tokens x
tokens-Read x = fold_stmt-Read Ls Ls Ls stmt_step block_step if_step x

tokens-Write : (x : P4Write) → stmt_tokens (stmt.Write x) ≡ write_tokens x
tokens-Write x = fold_stmt-Write Ls Ls Ls stmt_step block_step if_step x

tokens-Keystmt : (x : P4Keystmt) → stmt_tokens (stmt.Keystmt x) ≡ keystmt_tokens x
tokens-Keystmt x = fold_stmt-Keystmt Ls Ls Ls stmt_step block_step if_step x

tokens-Valid : (x : P4Valid) → stmt_tokens (stmt.Valid x) ≡ valid_tokens x
tokens-Valid x = fold_stmt-Valid Ls Ls Ls stmt_step block_step if_step x

tokens-Apply : (x : P4Apply) → stmt_tokens (stmt.Apply x) ≡ apply_tokens x
tokens-Apply x = fold_stmt-Apply Ls Ls Ls stmt_step block_step if_step x

tokens-Callstmt : (x : P4Callstmt) → stmt_tokens (stmt.Callstmt x) ≡ callstmt_tokens x
tokens-Callstmt x = fold_stmt-Callstmt Ls Ls Ls stmt_step block_step if_step x

bare-Var : (x y : P4Var) → bare_var y ≡ bare_var x → bare_stmt (stmt.Var y) ≡ bare_stmt (stmt.Var x)
bare-Var x y e = fold_stmt-Var P4Stmt P4Block P4If bare_stmt_step bare_block_step bare_if_step y ∙ ap stmt.Var e ∙ sym (fold_stmt-Var P4Stmt P4Block P4If bare_stmt_step bare_block_step bare_if_step x)

bare-Assign : (x y : P4Assign) → bare_assign y ≡ bare_assign x → bare_stmt (stmt.Assign y) ≡ bare_stmt (stmt.Assign x)
bare-Assign x y e = fold_stmt-Assign P4Stmt P4Block P4If bare_stmt_step bare_block_step bare_if_step y ∙ ap stmt.Assign e ∙ sym (fold_stmt-Assign P4Stmt P4Block P4If bare_stmt_step bare_block_step bare_if_step x)

bare-Read : (x y : P4Read) → bare_read y ≡ bare_read x → bare_stmt (stmt.Read y) ≡ bare_stmt (stmt.Read x)
bare-Read x y e = fold_stmt-Read P4Stmt P4Block P4If bare_stmt_step bare_block_step bare_if_step y ∙ ap stmt.Read e ∙ sym (fold_stmt-Read P4Stmt P4Block P4If bare_stmt_step bare_block_step bare_if_step x)

bare-Write : (x y : P4Write) → bare_write y ≡ bare_write x → bare_stmt (stmt.Write y) ≡ bare_stmt (stmt.Write x)
bare-Write x y e = fold_stmt-Write P4Stmt P4Block P4If bare_stmt_step bare_block_step bare_if_step y ∙ ap stmt.Write e ∙ sym (fold_stmt-Write P4Stmt P4Block P4If bare_stmt_step bare_block_step bare_if_step x)

bare-Keystmt : (x y : P4Keystmt) → bare_keystmt y ≡ bare_keystmt x → bare_stmt (stmt.Keystmt y) ≡ bare_stmt (stmt.Keystmt x)
bare-Keystmt x y e = fold_stmt-Keystmt P4Stmt P4Block P4If bare_stmt_step bare_block_step bare_if_step y ∙ ap stmt.Keystmt e ∙ sym (fold_stmt-Keystmt P4Stmt P4Block P4If bare_stmt_step bare_block_step bare_if_step x)

bare-Valid : (x y : P4Valid) → bare_valid y ≡ bare_valid x → bare_stmt (stmt.Valid y) ≡ bare_stmt (stmt.Valid x)
bare-Valid x y e = fold_stmt-Valid P4Stmt P4Block P4If bare_stmt_step bare_block_step bare_if_step y ∙ ap stmt.Valid e ∙ sym (fold_stmt-Valid P4Stmt P4Block P4If bare_stmt_step bare_block_step bare_if_step x)

bare-Apply : (x y : P4Apply) → bare_apply y ≡ bare_apply x → bare_stmt (stmt.Apply y) ≡ bare_stmt (stmt.Apply x)
bare-Apply x y e = fold_stmt-Apply P4Stmt P4Block P4If bare_stmt_step bare_block_step bare_if_step y ∙ ap stmt.Apply e ∙ sym (fold_stmt-Apply P4Stmt P4Block P4If bare_stmt_step bare_block_step bare_if_step x)

bare-Callstmt : (x y : P4Callstmt) → bare_callstmt y ≡ bare_callstmt x → bare_stmt (stmt.Callstmt y) ≡ bare_stmt (stmt.Callstmt x)
bare-Callstmt x y e = fold_stmt-Callstmt P4Stmt P4Block P4If bare_stmt_step bare_block_step bare_if_step y ∙ ap stmt.Callstmt e ∙ sym (fold_stmt-Callstmt P4Stmt P4Block P4If bare_stmt_step bare_block_step bare_if_step x)

pub assigned-again : (env : Env) → Again (assign env) simple_tokens simple_bare
unfolding assign assign_tokens
assigned-again env = whole (step left-again λ l m e. words_step (sign.Assign ∷ []) (step (expr-again env) λ x y g. words_step (sign.Semicolon ∷ [])
    (done (tokens-Assign (record { at = l.at; left = l; expr = x.expr })) (ap Some (bare-Assign (record { at = l.at; left = l; expr = x.expr }) (record { at = m.at; left = m; expr = y.expr }) (λ i. record { at = 0; left = e i; expr = g i }))))))

pub read-again : (env : Env) → Again (read env) simple_tokens simple_bare
unfolding read read_tokens index_tokens
read-again env = whole (step left-again λ l m e. words_step (sign.Assign ∷ []) (step (cast_or_none-again env) λ t v g. step name-again λ x y h. words_step (sign.Dot ∷ []) (step (text-again (codes "read")) λ at other u. last (index-again env) λ a b k. ends
    (tokens-Read (record { at = l.at; left = l; type_ = t; name = x; expr = a }))
    (ap Some (bare-Read (record { at = l.at; left = l; type_ = t; name = x; expr = a }) (record { at = m.at; left = m; type_ = v; name = y; expr = b }) (λ i. record { at = 0; left = e i; type_ = g i; name = h i; expr = k i }))))))

pub write-again : (env : Env) → Again (write env) simple_tokens simple_bare
unfolding write write_tokens
write-again env = whole (step name-again λ x y e. words_step (sign.Dot ∷ []) (step (text-again (codes "write")) λ at other u. words_step (sign.Open ∷ []) (step (expression-again env) λ a b g. fork
    (words_step (sign.Comma ∷ []) (step (expression-again env) λ c d h. words_step (sign.Close ∷ sign.Semicolon ∷ [])
    (done (tokens-Write (record { at = x.at; name = x; expr = a; second = Some c })) (ap Some (bare-Write (record { at = x.at; name = x; expr = a; second = Some c }) (record { at = y.at; name = y; expr = b; second = Some d }) (λ i. record { at = 0; name = e i; expr = g i; second = Some (h i) }))))))
    (words_step (sign.Close ∷ sign.Semicolon ∷ [])
    (done (tokens-Write (record { at = x.at; name = x; expr = a; second = None })) (ap Some (bare-Write (record { at = x.at; name = x; expr = a; second = None }) (record { at = y.at; name = y; expr = b; second = None }) (λ i. record { at = 0; name = e i; expr = g i; second = None }))))))))

pub keystmt-again : (env : Env) → Again (keystmt env) simple_tokens simple_bare
unfolding keystmt keystmt_tokens
keystmt-again env = whole (step (sign-again sign.FlowKey) λ at other u. words_step (sign.Open ∷ []) (step (expression-again env) λ a b e. words_step (sign.Close ∷ sign.Semicolon ∷ [])
    (done (tokens-Keystmt (record { at = at; expr = a })) (ap Some (bare-Keystmt (record { at = at; expr = a }) (record { at = other; expr = b }) (λ i. record { at = 0; expr = e i }))))))

valid_of : List P4Name → P4Validity → P4Valid
valid_of p v = record { at = first_at p; path = path_of p; validity = v }

tokens-Valid_of : (p : List P4Name) (v : P4Validity) → stmt_tokens (stmt.Valid (valid_of p v)) ≡ called_tokens (validity_name v) p ++ (the sign.Semicolon ∷ [])
unfolding valid_of valid_tokens path_tokens
tokens-Valid_of p v = tokens-Valid (valid_of p v) ∙ sym (append_assoc (names_tokens p) (the sign.Dot ∷ lexeme.Name (validity_name v) ∷ the sign.Open ∷ the sign.Close ∷ []) (the sign.Semicolon ∷ []))

bare-Valid_of : (p q : List P4Name) (v : P4Validity) → map bare_name q ≡ map bare_name p → bare_stmt (stmt.Valid (valid_of q v)) ≡ bare_stmt (stmt.Valid (valid_of p v))
unfolding valid_of
bare-Valid_of p q v e = bare-Valid (valid_of p v) (valid_of q v) (λ i. record { at = 0; path = record { at = 0; names = e i }; validity = v })

pub valid-again : Again valid simple_tokens simple_bare
unfolding valid valid_of
valid-again = whole (fork
    (step (called-again (codes "setValid")) λ p q e. words_step (sign.Semicolon ∷ []) (done (tokens-Valid_of p validity.SetValid) (ap Some (bare-Valid_of p q validity.SetValid e))))
    (step (called-again (codes "setInvalid")) λ p q e. words_step (sign.Semicolon ∷ []) (done (tokens-Valid_of p validity.SetInvalid) (ap Some (bare-Valid_of p q validity.SetInvalid e)))))

pub apply-again : Again apply simple_tokens simple_bare
unfolding apply apply_tokens
apply-again = whole (step name-again λ x y e. words_step (sign.Dot ∷ sign.Apply ∷ sign.Open ∷ sign.Close ∷ sign.Semicolon ∷ [])
    (done (tokens-Apply (record { at = x.at; name = x })) (ap Some (bare-Apply (record { at = x.at; name = x }) (record { at = y.at; name = y }) (λ i. record { at = 0; name = e i })))))

pub callstmt-again : (env : Env) → Again (callstmt env) simple_tokens simple_bare
unfolding callstmt callstmt_tokens
callstmt-again env = whole (step name-again λ x y e. step (args-again env) λ a b g. words_step (sign.Semicolon ∷ [])
    (done (tokens-Callstmt (record { at = x.at; name = x; args = a })) (ap Some (bare-Callstmt (record { at = x.at; name = x; args = a }) (record { at = y.at; name = y; args = b }) (λ i. record { at = 0; name = e i; args = g i })))))

-- a variable as a statement
pub var_piece-again : (env : Env) → Again (bind (var env) λ v. only (var_piece v)) simple_tokens simple_bare
var_piece-again env = whole (last (var-again env) λ v w e. ends (tokens-Var v) (ap Some (bare-Var v w e)))

-- ---- they are statements

module _ {V : Lexeme → Type 0} (env : Env) where
  pub var_is : Says V (bind (var env) λ v. only (var_piece v)) IsSimple
  var_is = says_bind says_nothing λ v u. says_only (tt {0})

  pub assign_is : Says V (assign env) IsSimple
  unfolding assign
  assign_is = says_bind says_nothing λ l u. says_words (sign.Assign ∷ []) (says_bind says_nothing λ x u. says_words (sign.Semicolon ∷ []) (says_only (tt {0})))

  pub read_is : Says V (read env) IsSimple
  unfolding read
  read_is = says_bind says_nothing λ l u. says_words (sign.Assign ∷ []) (says_bind says_nothing λ t u. says_bind says_nothing λ c u. says_words (sign.Dot ∷ []) (says_bind says_nothing λ at u. says_bind says_nothing λ i u. says_only (tt {0})))

  pub write_is : Says V (write env) IsSimple
  unfolding write
  write_is = says_bind says_nothing λ c u. says_words (sign.Dot ∷ []) (says_bind says_nothing λ at u. says_words (sign.Open ∷ []) (says_bind says_nothing λ x u. says_either
      (says_words (sign.Comma ∷ []) (says_bind says_nothing λ y u. says_words (sign.Close ∷ sign.Semicolon ∷ []) (says_only (tt {0}))))
      (says_words (sign.Close ∷ sign.Semicolon ∷ []) (says_only (tt {0})))))

  pub keystmt_is : Says V (keystmt env) IsSimple
  unfolding keystmt
  keystmt_is = says_bind says_nothing λ at u. says_words (sign.Open ∷ []) (says_bind says_nothing λ x u. says_words (sign.Close ∷ sign.Semicolon ∷ []) (says_only (tt {0})))

  pub callstmt_is : Says V (callstmt env) IsSimple
  unfolding callstmt
  callstmt_is = says_bind says_nothing λ x u. says_bind says_nothing λ xs u. says_words (sign.Semicolon ∷ []) (says_only (tt {0}))

pub valid_is : {V : Lexeme → Type 0} → Says V valid IsSimple
unfolding valid
valid_is = says_either (says_bind says_nothing λ p u. says_words (sign.Semicolon ∷ []) (says_only (tt {0}))) (says_bind says_nothing λ p u. says_words (sign.Semicolon ∷ []) (says_only (tt {0})))

pub apply_is : {V : Lexeme → Type 0} → Says V apply IsSimple
unfolding apply
apply_is = says_bind says_nothing λ x u. says_words (sign.Dot ∷ sign.Apply ∷ sign.Open ∷ sign.Close ∷ sign.Semicolon ∷ []) (says_only (tt {0}))
