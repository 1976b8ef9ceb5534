-- Blocks, `if` and statements of any height are spelled again by their canonical tokens. There every branch is a block, so that an `else` is
-- never given to another `if`.
use Rattle.std.proofs.Common.{◌≡◌, ℕ, zero, suc, ◌+◌, ◌≤◌, Bool, true, false, List, [], ◌∷◌, ◌++◌, map, Ok, Option, Some, None, refl, sym, ap, subst, ◌∙◌, append-nil, arith, inl, inr}
use Rattle.std.specs.Prelude.{option_map}
use Rattle.std.specs.List.{AllByRecursion}
use Rattle.std.proofs.lemmas.List.{map-append}
use Rattle.p4_lex.specs.declared.token.Token.{Token}
use Rattle.p4_lex.specs.declared.token.Sign.TheVariants as sign
use Rattle.p4_lex.specs.declared.token.Lexeme.{Lexeme}
use Rattle.p4_ast.specs.declared.statement.P4Cond.{P4Cond}
use Rattle.p4_ast.specs.declared.statement.P4Stmt.{P4Stmt}
use Rattle.p4_ast.specs.declared.statement.P4Stmt.TheOpen.{P4Block-F, P4If-F}
use Rattle.p4_ast.specs.declared.statement.P4Stmt.TheVariants as stmt
use Rattle.p4_ast.specs.declared.statement.P4Block.{P4Block, roll-P4Block, out-roll-P4Block}
use Rattle.p4_ast.specs.declared.statement.P4If.{P4If, roll-P4If, out-roll-P4If}
use Rattle.p4_ast.specs.BareStatements.{bare_cond, bare_stmt, bare_block, bare_stmt_step, bare_block_step, bare_if_step}
use Rattle.p4_ast.proofs.Folds.{fold_stmt-Block, fold_stmt-If, fold_block, fold_if}
use Rattle.p4_print.specs.Shared.{the, all}
use Rattle.p4_print.specs.Statements.{cond_tokens, else_tokens, stmt_step, block_step, if_step, stmt_tokens, block_tokens}
use Rattle.p4_print.proofs.Trees.{block-is, if-is}
use Rattle.p4_grammar.specs.declared.mark.Piece.{Piece}
use Rattle.p4_grammar.specs.declared.mark.Piece.TheVariants as piece
use Rattle.p4_grammar.specs.Forms.{Lang, only, bind, many}
use Rattle.p4_grammar.specs.Tokens.{is}
use Rattle.p4_grammar.specs.Values.{Env}
use Rattle.p4_grammar.specs.Trees.{kept, kept_all, block_of, branch, is_open, opened, if_stmt, if_piece, if_else_piece, var_piece}
use Rattle.p4_grammar.specs.GrammarStatements.{cond_, var, assign, read, write, keystmt, valid, apply, callstmt, block_of_stmts, else_, if_, stmt_of, stmts, stmt, block}
use Rattle.p4_reread.specs.Again.{lexemes}
use Rattle.p4_reread.proofs.Again.{Parts, parts, Around, around, Leads, leads, sign_at, none_at, All, Signs, all_join, Again, Says, says_bind, says_only, says_either, says_nothing, says_words, says_self, says_many, Spelt, all_true}
use Rattle.p4_reread.proofs.AgainStatements.{cond-again, simple_tokens, simple_bare, IsSimple, var_piece-again, assigned-again, read-again, write-again, keystmt-again, valid-again, apply-again, callstmt-again, var_is, assign_is, read_is, write_is, keystmt_is, valid_is, apply_is, callstmt_is}

abbrev Ls : Type 0
Ls = List Lexeme

-- ---- the tokens of blocks and `if`, and their trees without places

tokens-Block : (b : P4Block) → stmt_tokens (stmt.Block b) ≡ block_tokens b
tokens-Block b = fold_stmt-Block Ls Ls Ls stmt_step block_step if_step b

block_tokens-is : (at : ℕ) (ss : List P4Stmt) → block_tokens (block_of at ss) ≡ the sign.OpenBrace ∷ (all stmt_tokens ss ++ (the sign.CloseBrace ∷ []))
block_tokens-is at ss = block-is (block_of at ss) ∙ ap (λ (b : P4Block-F P4Stmt P4Block P4If). the sign.OpenBrace ∷ (all stmt_tokens b.stmts ++ (the sign.CloseBrace ∷ []))) (out-roll-P4Block (record { at = at; stmts = ss }))

if_tokens-is : (at : ℕ) (c : P4Cond) (then : P4Block) (o : Option P4Block) → stmt_tokens (if_stmt at c then o) ≡ the sign.If ∷ the sign.Open ∷ (cond_tokens c ++ (the sign.Close ∷ (block_tokens then ++ else_tokens (option_map block_tokens o))))
if_tokens-is at c then o =
    let i : P4If = roll-P4If (record { at = at; cond = c; then = then; else_ = o }) in
    fold_stmt-If Ls Ls Ls stmt_step block_step if_step i ∙ if-is i ∙ ap (λ (q : P4If-F P4Stmt P4Block P4If). the sign.If ∷ the sign.Open ∷ (cond_tokens q.cond ++ (the sign.Close ∷ (block_tokens q.then ++ else_tokens (option_map block_tokens q.else_))))) (out-roll-P4If (record { at = at; cond = c; then = then; else_ = o }))

bare-Block : (b : P4Block) → bare_stmt (stmt.Block b) ≡ stmt.Block (bare_block b)
bare-Block b = fold_stmt-Block P4Stmt P4Block P4If bare_stmt_step bare_block_step bare_if_step b

bare_block-is : (at : ℕ) (ss : List P4Stmt) → bare_block (block_of at ss) ≡ roll-P4Block (record { at = 0; stmts = map bare_stmt ss })
bare_block-is at ss = fold_block P4Stmt P4Block P4If bare_stmt_step bare_block_step bare_if_step (block_of at ss) ∙ ap (λ (b : P4Block-F P4Stmt P4Block P4If). roll-P4Block (record { at = 0; stmts = map bare_stmt b.stmts })) (out-roll-P4Block (record { at = at; stmts = ss }))

-- an `if` of parts without places
bare_if_of : P4Cond → P4Block → Option P4Block → P4Stmt
bare_if_of c then o = stmt.If (roll-P4If (record { at = 0; cond = c; then = then; else_ = o }))

bare-If : (at : ℕ) (c : P4Cond) (then : P4Block) (o : Option P4Block) → bare_stmt (if_stmt at c then o) ≡ bare_if_of (bare_cond c) (bare_block then) (option_map bare_block o)
unfolding bare_if_of
bare-If at c then o =
    let i : P4If = roll-P4If (record { at = at; cond = c; then = then; else_ = o }) in
    fold_stmt-If P4Stmt P4Block P4If bare_stmt_step bare_block_step bare_if_step i ∙ ap stmt.If (fold_if P4Stmt P4Block P4If bare_stmt_step bare_block_step bare_if_step i) ∙ ap (λ (q : P4If-F P4Stmt P4Block P4If). bare_if_of (bare_cond q.cond) (bare_block q.then) (option_map bare_block q.else_)) (out-roll-P4If (record { at = at; cond = c; then = then; else_ = o }))

-- ---- statements and blocks that their tokens spell again

pub record StmtAgain (L : Lang Piece) (s : P4Stmt) (v : List Token) : Type 0 where
  pub value : Piece
  pub spelt : L value v
  pub same : map bare_stmt (kept value) ≡ bare_stmt s ∷ []

pub record BlockAgain (L : Lang Piece) (b : P4Block) (v : List Token) : Type 0 where
  pub value : P4Block
  pub spelt : block_of_stmts L value v
  pub same : bare_block value ≡ bare_block b

pub record ListAgain (L : Lang Piece) (ss : List P4Stmt) (v : List Token) : Type 0 where
  pub value : List Piece
  pub spelt : many L value v
  pub same : map bare_stmt (kept_all value) ≡ map bare_stmt ss

-- From some height on the tokens of a statement spell it again; and V holds of them.
pub record FineStmt (env : Env) (V : Lexeme → Type 0) (s : P4Stmt) : Type 0 where
  pub height : ℕ
  pub back : (k : ℕ) → height ≤ k → (v : List Token) → lexemes v ≡ stmt_tokens s → StmtAgain (stmts k env) s v
  pub kept : All V (stmt_tokens s)

pub record FineBlock (env : Env) (V : Lexeme → Type 0) (b : P4Block) : Type 0 where
  pub height : ℕ
  pub back : (k : ℕ) → height ≤ k → (v : List Token) → lexemes v ≡ block_tokens b → BlockAgain (stmts k env) b v
  pub kept : All V (block_tokens b)

pub record FineList (env : Env) (V : Lexeme → Type 0) (ss : List P4Stmt) : Type 0 where
  pub height : ℕ
  pub back : (k : ℕ) → height ≤ k → (v : List Token) → lexemes v ≡ all stmt_tokens ss → ListAgain (stmts k env) ss v
  pub kept : All V (all stmt_tokens ss)

module _ (env : Env) (V : Lexeme → Type 0) (signs : Signs V) where
  abbrev AllFine : List P4Stmt → Type 0
  AllFine ss = AllByRecursion (FineStmt env V) ss

  fine_list : (ss : List P4Stmt) → AllFine ss → FineList env V ss
  fine_list [] h = record { height = 0; back = λ k up v s. record { value = []; spelt = none_at v s; same = refl }; kept = tt }
  fine_list (s ∷ ss) h = record { height = h.0.height + (fine_list ss h.1).height; back = back h.0 (fine_list ss h.1); kept = all_join V (stmt_tokens s) (all stmt_tokens ss) h.0.kept (fine_list ss h.1).kept } where
    back : (f : FineStmt env V s) (g : FineList env V ss) (k : ℕ) → f.height + g.height ≤ k → (v : List Token) → lexemes v ≡ stmt_tokens s ++ all stmt_tokens ss → ListAgain (stmts k env) (s ∷ ss) v
    back f g k up v e =
        let p : Parts (stmt_tokens s) (all stmt_tokens ss) v = parts (stmt_tokens s) (all stmt_tokens ss) v e in
        let x : StmtAgain (stmts k env) s p.front = f.back k (omega (arith, up)) p.front p.fronts in
        let xs : ListAgain (stmts k env) ss p.behind = g.back k (omega (arith, up)) p.behind p.behinds in
        record {
          value = x.value ∷ xs.value;
          spelt = (p.front, p.behind, p.is, x.spelt, xs.spelt);
          same = map-append bare_stmt (kept x.value) (kept_all xs.value) ∙ ap (λ (q : List P4Stmt). q ++ map bare_stmt (kept_all xs.value)) x.same ∙ ap (λ (q : List P4Stmt). bare_stmt s ∷ q) xs.same;
        }

  fine_block : (at : ℕ) (ss : List P4Stmt) → AllFine ss → FineBlock env V (block_of at ss)
  unfolding block_of_stmts
  fine_block at ss h = record { height = (fine_list ss h).height; back = back (fine_list ss h); kept = subst (All V) (sym (block_tokens-is at ss)) (signs sign.OpenBrace, all_join V (all stmt_tokens ss) (the sign.CloseBrace ∷ []) (fine_list ss h).kept (signs sign.CloseBrace, tt)) } where
    closed : (v u r c : List Token) (o t : Token) (L : Lang Piece) (ps : List Piece) → v ≡ u ++ o ∷ r → lexemes u ≡ [] → r ≡ c ++ t ∷ [] → is sign.OpenBrace o ≡ Ok o.at → is sign.CloseBrace t ≡ Ok t.at → many L ps c → block_of_stmts L (block_of o.at (kept_all ps)) v
    closed v [] r c o t L ps e n i opens closes d = (o.at, o ∷ [], r, e, (o, refl, opens), (ps, c, t ∷ [], i, d, (t.at, t ∷ [], [], refl, (t, refl, closes), (refl, refl))))
    closed v (q ∷ u) r c o t L ps e n i opens closes d = absurd cc

    back : (f : FineList env V ss) (k : ℕ) → f.height ≤ k → (v : List Token) → lexemes v ≡ block_tokens (block_of at ss) → BlockAgain (stmts k env) (block_of at ss) v
    back f k up v e =
        let p : Around [] (the sign.OpenBrace) (all stmt_tokens ss ++ (the sign.CloseBrace ∷ [])) v = around [] (the sign.OpenBrace) (all stmt_tokens ss ++ (the sign.CloseBrace ∷ [])) v (e ∙ block_tokens-is at ss) in
        let q : Around (all stmt_tokens ss) (the sign.CloseBrace) [] p.behind = around (all stmt_tokens ss) (the sign.CloseBrace) [] p.behind p.behinds in
        let xs : ListAgain (stmts k env) ss q.front = f.back k up q.front q.fronts in
        let parted : p.behind ≡ q.front ++ q.token ∷ [] = q.parted ∙ ap (λ (r : List Token). q.front ++ q.token ∷ r) (none_at q.behind q.behinds) in
        record {
          value = block_of p.token.at (kept_all xs.value);
          spelt = closed v p.front p.behind q.front p.token q.token (stmts k env) xs.value p.parted p.fronts parted (sign_at sign.OpenBrace p.token p.here) (sign_at sign.CloseBrace q.token q.here) xs.spelt;
          same = bare_block-is p.token.at (kept_all xs.value) ∙ ap (λ (l : List P4Stmt). roll-P4Block (record { at = 0; stmts = l })) xs.same ∙ sym (bare_block-is at ss);
        }

  -- a block as a statement
  block_piece : (k : ℕ) (b : P4Block) (v : List Token) → block_of_stmts (stmts k env) b v → stmts (suc k) env (piece.Block b) v
  unfolding stmts stmt_of
  block_piece k b v d = inr (inl (b, v, [], sym (append-nil v), d, (refl, refl)))

  fine_block_stmt : (b : P4Block) → FineBlock env V b → FineStmt env V (stmt.Block b)
  fine_block_stmt b f = record { height = f.height + 1; back = back; kept = subst (All V) (sym (tokens-Block b)) f.kept } where
    back : (k : ℕ) → f.height + 1 ≤ k → (v : List Token) → lexemes v ≡ stmt_tokens (stmt.Block b) → StmtAgain (stmts k env) (stmt.Block b) v
    back zero up v e = absurd (omega (arith, up))
    back (suc k) up v e =
        let x : BlockAgain (stmts k env) b v = f.back k (omega (arith, up)) v (e ∙ tokens-Block b) in
        record { value = piece.Block x.value; spelt = block_piece k x.value v x.spelt; same = ap (λ (s : P4Stmt). s ∷ []) (bare-Block x.value ∙ ap stmt.Block x.same ∙ sym (bare-Block b)) }

  -- ---- `if`

  abbrev FineElse : Option P4Block → Type 0
  FineElse None = Unit {0}
  FineElse (Some b) = FineBlock env V b

  -- `if`, a condition in parentheses and a block
  record Front (j : ℕ) (c : P4Cond) (then : P4Block) (rest : List Lexeme) (v : List Token) : Type 0 where
    pub at : ℕ
    pub value : P4Cond
    pub first : P4Block
    pub behind : List Token
    pub same : bare_cond value ≡ bare_cond c
    pub same_first : bare_block first ≡ bare_block then
    pub behinds : lexemes behind ≡ rest
    pub spelt : (z : Piece) → else_ at value (stmts (suc j) env) (piece.Block first) false z behind → stmts (suc (suc j)) env z v

  if_front : (j : ℕ) (c x : P4Cond) (b : P4Block) (v u r m n q s : List Token) (i o t : Token) → v ≡ i ∷ u → u ≡ o ∷ r → r ≡ m ++ t ∷ n → n ≡ q ++ s → is sign.If i ≡ Ok i.at → is sign.Open o ≡ Ok o.at → is sign.Close t ≡ Ok t.at → cond_ env x m → block_of_stmts (stmts j env) b q → (z : Piece) → else_ i.at x (stmts (suc j) env) (piece.Block b) false z s → stmts (suc (suc j)) env z v
  unfolding stmts stmt_of if_
  if_front j c x b v u r m n q s i o t e1 e2 e3 e4 is_if opens closes d l z w =
      inr (inr (inr (inr (inr (inr (inr (inr (inr (inr (i.at, i ∷ [], u, e1, (i, refl, is_if), (o.at, o ∷ [], r, e2, (o, refl, opens), (x, m, t ∷ n, e3, d, (t.at, t ∷ [], n, refl, (t, refl, closes), (piece.Block b, q, s, e4, block_piece j b q l, w))))))))))))))

  module _ (at : ℕ) (c : P4Cond) (then : P4Block) (sc : Spelt V (cond_ env) c) (f : FineBlock env V then) where
    front : (j : ℕ) → f.height ≤ j → (rest : List Lexeme) (v : List Token) → lexemes v ≡ the sign.If ∷ the sign.Open ∷ (cond_tokens c ++ (the sign.Close ∷ (block_tokens then ++ rest))) → Front j c then rest v
    front j up rest v e =
        let p : Leads (the sign.If) (the sign.Open ∷ (cond_tokens c ++ (the sign.Close ∷ (block_tokens then ++ rest)))) v = leads (the sign.If) _ v e in
        let o : Leads (the sign.Open) (cond_tokens c ++ (the sign.Close ∷ (block_tokens then ++ rest))) p.behind = leads (the sign.Open) _ p.behind p.behinds in
        let m : Around (cond_tokens c) (the sign.Close) (block_tokens then ++ rest) o.behind = around (cond_tokens c) (the sign.Close) (block_tokens then ++ rest) o.behind o.behinds in
        let q : Parts (block_tokens then) rest m.behind = parts (block_tokens then) rest m.behind m.behinds in
        let x : (x : P4Cond) × cond_ env x m.front × (bare_cond x ≡ bare_cond c) = (cond-again env).back c sc.0 sc.1 m.front m.fronts in
        let b : BlockAgain (stmts j env) then q.front = f.back j up q.front q.fronts in
        record {
          at = p.token.at;
          value = x.0;
          first = b.value;
          behind = q.behind;
          same = x.2;
          same_first = b.same;
          behinds = q.behinds;
          spelt = if_front j c x.0 b.value v p.behind o.behind m.front m.behind q.front q.behind p.token o.token m.token p.parted o.parted m.parted q.is (sign_at sign.If p.token p.here) (sign_at sign.Open o.token o.here) (sign_at sign.Close m.token m.here) x.1 b.spelt;
        }

    kept_if : (o : Option P4Block) → FineElse o → All V (the sign.If ∷ the sign.Open ∷ (cond_tokens c ++ (the sign.Close ∷ (block_tokens then ++ else_tokens (option_map block_tokens o)))))
    kept_if o g = (signs sign.If, (signs sign.Open, all_join V (cond_tokens c) (the sign.Close ∷ (block_tokens then ++ else_tokens (option_map block_tokens o))) ((cond-again env).kept V signs c sc.0 sc.1 sc.2) (signs sign.Close, all_join V (block_tokens then) (else_tokens (option_map block_tokens o)) f.kept (others o g)))) where
      others : (o : Option P4Block) → FineElse o → All V (else_tokens (option_map block_tokens o))
      others None g = tt
      others (Some b) g = (signs sign.Else, g.kept)

    fine_if : (o : Option P4Block) → FineElse o → FineStmt env V (if_stmt at c then o)
    unfolding else_
    fine_if None g = record { height = f.height + 2; back = back; kept = subst (All V) (sym (if_tokens-is at c then None)) (kept_if None g) } where
      back : (k : ℕ) → f.height + 2 ≤ k → (v : List Token) → lexemes v ≡ stmt_tokens (if_stmt at c then None) → StmtAgain (stmts k env) (if_stmt at c then None) v
      back zero up v e = absurd (omega (arith, up))
      back (suc zero) up v e = absurd (omega (arith, up))
      back (suc (suc j)) up v e =
          let w : Front j c then [] v = front j (omega (arith, up)) [] v (e ∙ if_tokens-is at c then None) in
          record {
            value = if_piece w.at w.value (piece.Block w.first);
            spelt = w.spelt (if_piece w.at w.value (piece.Block w.first)) (inr (refl, none_at w.behind w.behinds));
            same = ap (λ (s : P4Stmt). s ∷ []) (bare-If w.at w.value w.first None ∙ ap (λ (q : P4Cond). bare_if_of q (bare_block w.first) None) w.same ∙ ap (λ (q : P4Block). bare_if_of (bare_cond c) q None) w.same_first ∙ sym (bare-If at c then None));
          }
    fine_if (Some b) g = record { height = f.height + g.height + 2; back = back; kept = subst (All V) (sym (if_tokens-is at c then (Some b))) (kept_if (Some b) g) } where
      back : (k : ℕ) → f.height + g.height + 2 ≤ k → (v : List Token) → lexemes v ≡ stmt_tokens (if_stmt at c then (Some b)) → StmtAgain (stmts k env) (if_stmt at c then (Some b)) v
      back zero up v e = absurd (omega (arith, up))
      back (suc zero) up v e = absurd (omega (arith, up))
      back (suc (suc j)) up v e =
          let w : Front j c then (the sign.Else ∷ block_tokens b) v = front j (omega (arith, up)) (the sign.Else ∷ block_tokens b) v (e ∙ if_tokens-is at c then (Some b)) in
          let l : Leads (the sign.Else) (block_tokens b) w.behind = leads (the sign.Else) (block_tokens b) w.behind w.behinds in
          let x : BlockAgain (stmts j env) b l.behind = g.back j (omega (arith, up)) l.behind l.behinds in
          let y : stmts (suc j) env (piece.Block x.value) l.behind = block_piece j x.value l.behind x.spelt in
          record {
            value = if_else_piece w.at w.value (piece.Block w.first) (piece.Block x.value);
            spelt = w.spelt (if_else_piece w.at w.value (piece.Block w.first) (piece.Block x.value)) (inl (l.token.at, l.token ∷ [], l.behind, l.parted, (l.token, refl, sign_at sign.Else l.token l.here), (piece.Block x.value, l.behind, [], sym (append-nil l.behind), y, (refl, refl))));
            same = ap (λ (s : P4Stmt). s ∷ []) (bare-If w.at w.value w.first (Some x.value) ∙ ap (λ (q : P4Cond). bare_if_of q (bare_block w.first) (Some (bare_block x.value))) w.same ∙ ap (λ (q : P4Block). bare_if_of (bare_cond c) q (Some (bare_block x.value))) w.same_first ∙ ap (λ (q : P4Block). bare_if_of (bare_cond c) (bare_block then) (Some q)) x.same ∙ sym (bare-If at c then (Some b)));
          }

  -- ---- every statement that tokens spell

  abbrev FinePiece : Piece → Type 0
  FinePiece p = AllFine (kept p) × FineBlock env V (branch p)

  of_stmt : (at : ℕ) (s : P4Stmt) → FineStmt env V s → FinePiece (piece.Stmt at s)
  of_stmt at s f = ((f, tt), fine_block at (s ∷ []) (f, tt))

  of_open : (at : ℕ) (s : P4Stmt) → FineStmt env V s → FinePiece (piece.Open at s)
  of_open at s f = ((f, tt), fine_block at (s ∷ []) (f, tt))

  of_opened : (b : Bool) (at : ℕ) (s : P4Stmt) → FineStmt env V s → FinePiece (opened b at s)
  of_opened true at s f = of_open at s f
  of_opened false at s f = of_stmt at s f

  simple_kept : (y : Piece) (t : P4Stmt) → simple_bare y ≡ Some t → map bare_stmt (kept y) ≡ t ∷ []
  simple_kept (piece.Stmt at s) t e = let one : bare_stmt s ≡ t = cc in ap (λ (q : P4Stmt). q ∷ []) one
  simple_kept (piece.Empty at) t e = absurd cc
  simple_kept (piece.Block b) t e = absurd cc
  simple_kept (piece.Open at s) t e = absurd cc

  simple_fine : (L : Lang Piece) → ((S : Lang Piece) (p : Piece) (v : List Token) → L p v → stmt_of env S p v) → Again L simple_tokens simple_bare → Says V L IsSimple → Says V L FinePiece
  unfolding stmts
  simple_fine L among h simple = record { at = λ x w d a. go x w d a (simple.at x w d a) } where
    back : (at : ℕ) (s : P4Stmt) (w : List Token) → L (piece.Stmt at s) w → (k : ℕ) → 1 ≤ k → (v : List Token) → lexemes v ≡ stmt_tokens s → StmtAgain (stmts k env) s v
    back at s w d zero up v e = absurd (omega (arith, up))
    back at s w d (suc k) up v e =
        let r : (y : Piece) × L y v × (simple_bare y ≡ Some (bare_stmt s)) = h.back (piece.Stmt at s) w d v e in
        record { value = r.0; spelt = among (stmts k env) r.0 v r.1; same = simple_kept r.0 (bare_stmt s) r.2 }

    go : (x : Piece) (w : List Token) → L x w → All V (lexemes w) → IsSimple x → FinePiece x
    go (piece.Stmt at s) w d a i = of_stmt at s (record { height = 1; back = back at s w d; kept = h.kept V signs (piece.Stmt at s) w d a })
    go (piece.Empty at) w d a i = absurd i
    go (piece.Block b) w d a i = absurd i
    go (piece.Open at s) w d a i = absurd i

  all_kept : (ps : List Piece) → AllByRecursion FinePiece ps → AllFine (kept_all ps)
  all_kept [] h = tt
  all_kept (p ∷ ps) h = joined (kept p) (kept_all ps) h.0.0 (all_kept ps h.1) where
    joined : (xs ys : List P4Stmt) → AllFine xs → AllFine ys → AllFine (xs ++ ys)
    joined [] ys f g = g
    joined (x ∷ xs) ys f g = (f.0, joined xs ys f.1 g)

  pub block_fine : (S : Lang Piece) → Says V S FinePiece → Says V (block_of_stmts S) (FineBlock env V)
  unfolding block_of_stmts
  block_fine S h = says_bind says_nothing λ at u. says_bind (says_many h) λ ps fs. says_words (sign.CloseBrace ∷ []) (says_only (fine_block at (kept_all ps) (all_kept ps fs)))

  else_fine : (S : Lang Piece) → Says V S FinePiece → (at : ℕ) (c : P4Cond) → Spelt V (cond_ env) c → (s : Piece) → FinePiece s → (b : Bool) → Says V (else_ at c S s b) FinePiece
  unfolding else_
  else_fine S h at c sc s f true = says_only (of_open at (if_stmt at c (branch s) None) (fine_if at c (branch s) sc f.1 None (tt {0})))
  else_fine S h at c sc s f false = says_either
      (says_words (sign.Else ∷ []) (says_bind h λ r g. says_only (of_opened (is_open r) at (if_stmt at c (branch s) (Some (branch r))) (fine_if at c (branch s) sc f.1 (Some (branch r)) g.1))))
      (says_only (of_open at (if_stmt at c (branch s) None) (fine_if at c (branch s) sc f.1 None (tt {0}))))

  if_fine : (S : Lang Piece) → Says V S FinePiece → Says V (if_ env S) FinePiece
  unfolding if_
  if_fine S h = says_bind says_nothing λ at u. says_words (sign.Open ∷ []) (says_bind says_self λ c sc. says_words (sign.Close ∷ []) (says_bind h λ s f. else_fine S h at c sc s f (is_open s)))

  stmt_of_fine : (S : Lang Piece) → Says V S FinePiece → Says V (stmt_of env S) FinePiece
  unfolding stmt_of
  stmt_of_fine S h = says_either (says_bind says_nothing λ at u. says_only (tt, fine_block at [] tt))
      (says_either (says_bind (block_fine S h) λ b f. says_only ((fine_block_stmt b f, tt), f))
      (says_either (simple_fine (bind (var env) λ v. only (var_piece v)) (λ S p v d. inr (inr (inl d))) (var_piece-again env) (var_is env))
      (says_either (simple_fine (assign env) (λ S p v d. inr (inr (inr (inl d)))) (assigned-again env) (assign_is env))
      (says_either (simple_fine (read env) (λ S p v d. inr (inr (inr (inr (inl d))))) (read-again env) (read_is env))
      (says_either (simple_fine (write env) (λ S p v d. inr (inr (inr (inr (inr (inl d)))))) (write-again env) (write_is env))
      (says_either (simple_fine (keystmt env) (λ S p v d. inr (inr (inr (inr (inr (inr (inl d))))))) (keystmt-again env) (keystmt_is env))
      (says_either (simple_fine valid (λ S p v d. inr (inr (inr (inr (inr (inr (inr (inl d)))))))) valid-again valid_is)
      (says_either (simple_fine apply (λ S p v d. inr (inr (inr (inr (inr (inr (inr (inr (inl d))))))))) apply-again apply_is)
      (says_either (simple_fine (callstmt env) (λ S p v d. inr (inr (inr (inr (inr (inr (inr (inr (inr (inl d)))))))))) (callstmt-again env) (callstmt_is env))
      (if_fine S h))))))))))

  stmts_fine : (k : ℕ) → Says V (stmts k env) FinePiece
  unfolding stmts
  stmts_fine zero = record { at = λ x w d a. absurd d }
  stmts_fine (suc k) = stmt_of_fine (stmts k env) (stmts_fine k)

  pub stmt_fine : Says V (stmt env) FinePiece
  stmt_fine = record { at = λ x w d a. (stmts_fine d.0).at x w d.1 a }

-- ---- the production

module _ (env : Env) where
  spelt_any : (k : ℕ) (ps : List Piece) (u : List Token) → many (stmts k env) ps u → many (stmt env) ps u
  spelt_any k [] u d = d
  spelt_any k (p ∷ ps) w (u, v, e, d, ds) = (u, v, e, (k, d), spelt_any k ps v ds)

  block_any : (k : ℕ) (b : P4Block) (w : List Token) → block_of_stmts (stmts k env) b w → block env b w
  unfolding block block_of_stmts
  block_any k b w (at, u, v, e, t, (ps, r, s, i, d, l)) = (at, u, v, e, t, (ps, r, s, i, spelt_any k ps r d, l))

  all_fine : (V : Lexeme → Type 0) → Signs V → Says V (block env) (FineBlock env V)
  unfolding block
  all_fine V signs = block_fine env V signs (stmt env) (stmt_fine env V signs)

  block_back : (x : P4Block) (w : List Token) → block env x w → (v : List Token) → lexemes v ≡ block_tokens x → (y : P4Block) × block env y v × (bare_block y ≡ bare_block x)
  block_back x w d v e =
      let f : FineBlock env (λ l. Unit {0}) x = (all_fine (λ l. Unit {0}) (λ s. tt {0})).at x w d (all_true (lexemes w)) in
      let r : BlockAgain (stmts f.height env) x v = f.back f.height (omega arith) v e in
      (r.value, block_any f.height r.value v r.spelt, r.same)

  pub block-again : Again (block env) block_tokens bare_block
  block-again = record { back = block_back; kept = λ V s x w d a. ((all_fine V s).at x w d a).kept }
