-- Under the lease, and without it outside the bodies of `flow_key`, each statement of the rewritten program does what the source's does.
use Rattle.std.proofs.Common.{◌≡◌, ℕ, ◌≤◌, Bool, true, false, ◌&&◌, ◌||◌, List, [], ◌∷◌, map, Option, Some, None, refl, sym, ap, ◌∙◌, if◌then◌else◌, option_map}
use Rattle.std.proofs.lemmas.Bool.{and_parts, false≢true}
use Rattle.std.specs.List.{AllByRecursion}
use Rattle.p4_ast.specs.declared.control.P4Var.{P4Var}
use Rattle.p4_ast.specs.declared.statement.P4Assign.{P4Assign}
use Rattle.p4_ast.specs.declared.statement.P4Read.{P4Read}
use Rattle.p4_ast.specs.declared.statement.P4Write.{P4Write}
use Rattle.p4_ast.specs.declared.statement.P4Keystmt.{P4Keystmt}
use Rattle.p4_ast.specs.declared.statement.P4Valid.{P4Valid}
use Rattle.p4_ast.specs.declared.statement.P4Apply.{P4Apply}
use Rattle.p4_ast.specs.declared.statement.P4Callstmt.{P4Callstmt}
use Rattle.p4_ast.specs.declared.statement.P4Cond.{P4Cond}
use Rattle.p4_ast.specs.declared.statement.P4Cond.TheVariants as p4cond
use Rattle.p4_ast.specs.declared.statement.P4Stmt.{P4Stmt}
use Rattle.p4_ast.specs.declared.statement.P4Stmt.TheVariants as stmt
use Rattle.p4_ast.specs.declared.statement.P4Block.{P4Block, roll-P4Block}
use Rattle.p4_ast.specs.declared.statement.P4If.{P4If, roll-P4If}
use Rattle.p4_ast.proofs.Induction.{StmtCases, OfElse, stmt-ind, block-ind}
use Rattle.app_data.specs.declared.value.Value.{Value}
use Rattle.app_meaning.specs.Values.{truth}
use Rattle.app_data.specs.declared.scope.Register.{Register}
use Rattle.app_meaning.specs.Slots.{Name, Scope, named_register, names, text}
use Rattle.app_meaning.specs.Expressions.{eval}
use Rattle.app_data.specs.declared.run.Run.{Run}
use Rattle.app_meaning.specs.Statements.{Context, test, branch, or_nothing, in_turn, run_stmt, run_block, run_if}
use Rattle.app_meaning.proofs.Equations.{run-Block, run-Var, run-Assign, run-Read, run-Write, run-Keystmt, run-Valid, run-Apply, run-Callstmt, run-If, run-if, run-block}
use Rattle.p4_check.specs.Rewriting.{Source, Piece, held_only, joined, rewrite_stmt, rewrite_block, rewrite_if}
use Rattle.app_meaning.specs.Premises.{path_free, expr_free, option_free, cond_free, Reach, Facts, all_free, all_keyless, or_no_stmts, stmt_facts, block_facts, if_facts}
use Rattle.rewrite_laws.proofs.Lifted.{all_cells, lift, OwnFree, eval3, values_of3}
use Rattle.rewrite_laws.proofs.LiftedValues.{assign3, declare3, valid3}
use Rattle.rewrite_laws.proofs.Pieces.{ext, is_dirty, in_turn-append, run-body_live}
use Rattle.app_meaning.proofs.Cells.{Within}
use Rattle.rewrite_laws.proofs.Cells.{read3, write3}
use Rattle.app_meaning.proofs.Facts.{facts-Block, facts-Var, facts-Assign, facts-Read, facts-Write, facts-Keystmt, facts-Valid, facts-Callstmt, facts-If, facts-block, facts-if}
use Rattle.rewrite_laws.proofs.Rewrites.{rewrite-Block, rewrite-Var, rewrite-Assign, rewrite-Read, rewrite-Write, rewrite-Keystmt, rewrite-Valid, rewrite-Apply, rewrite-Callstmt, rewrite-If, rewrite-block, rewrite-if}

-- what holds of a conjunction or else
left_or : (a b c : Bool) → (a && b || c) ≡ true → (a || c) ≡ true
left_or true b c h = refl
left_or false b c h = h

right_or : (a b c : Bool) → (a && b || c) ≡ true → (b || c) ≡ true
right_or true b c h = h
right_or false true c h = refl
right_or false false c h = h

or_right : (a c : Bool) → a ≡ false → (a || c) ≡ true → c ≡ true
or_right true c e h = absurd (false≢true (sym e))
or_right false c e h = h

module _ (n : ℕ) (few : n ≤ 256) (sc : Scope) (own : OwnFree sc.own) (fits : (name : Name) (g : Register) → named_register name sc.registers ≡ Some g → Within n g.first g.size)
    (live : Bool) (f f' : Name → List Value → Run → Run) (g g' : Name → Run → Run × Bool)
    (called : (name : Name) (args : List Value) (asks : Bool) (r : Run) → f' name args (ext live asks r) ≡ ext live asks (f name args r))
    (applied : (name : Name) (asks : Bool) (r : Run) → g' name (ext live asks r) ≡ (ext live asks (g name r).0, (g name r).1))
    (reach : Reach) where
  abbrev C : Context
  C = record { scope = sc; call = f; apply = g }

  abbrev C' : Context
  C' = record { scope = lift (all_cells n) sc; call = f'; apply = g' }

  abbrev src : Source
  src = record { types = sc.types; registers = sc.registers }

  -- what its new statements do
  abbrev Does : P4Stmt → Type 0
  Does s = (stmt_facts reach s).free ≡ true → ((stmt_facts reach s).keyless || live) ≡ true → (asks : Bool) (r : Run)
      → in_turn (map run_stmt (rewrite_stmt src s).stmts) C' (ext live asks r) ≡ ext live asks (run_stmt s C r)

  -- and a `flow_key` isn't keyless
  abbrev pub SimStmt : P4Stmt → Type 0
  SimStmt s = ((rewrite_stmt src s).is_key ≡ true → (stmt_facts reach s).keyless ≡ false) × Does s

  abbrev pub SimBlock : P4Block → Type 0
  SimBlock b = (block_facts reach b).free ≡ true → ((block_facts reach b).keyless || live) ≡ true → (asks : Bool) (r : Run)
      → run_block (rewrite_block src b) C' (ext live asks r) ≡ ext live asks (run_block b C r)

  abbrev pub SimIf : P4If → Type 0
  SimIf i = (if_facts reach i).free ≡ true → ((if_facts reach i).keyless || live) ≡ true → (asks : Bool) (r : Run)
      → run_if (rewrite_if src i) C' (ext live asks r) ≡ ext live asks (run_if i C r)

  no_key : (p : Piece) (b : Bool) → p.is_key ≡ false → p.is_key ≡ true → b ≡ false
  no_key p b e h = absurd (false≢true (sym e ∙ h))

  free_of : (s : P4Stmt) (x : Facts) → stmt_facts reach s ≡ x → (stmt_facts reach s).free ≡ true → x.free ≡ true
  free_of s x e h = sym (ap (λ (y : Facts). y.free) e) ∙ h

  sim_var : (v : P4Var) → Does (stmt.Var v)
  sim_var v h k asks r =
      rw (rewrite-Var src v, run-Var v, declare3 (all_cells n) sc own v (free_of (stmt.Var v) _ (facts-Var reach v) h) (truth live) (truth (is_dirty r.delta)) (truth asks) r.values) refl

  sim_assign : (a : P4Assign) → Does (stmt.Assign a)
  sim_assign a h k asks r =
      let hs = and_parts (path_free (names a.left.path)) (expr_free a.expr) (free_of (stmt.Assign a) _ (facts-Assign reach a) h) in
      rw (
        rewrite-Assign src a,
        run-Assign a,
        eval3 (all_cells n) sc own a.expr hs.1 (truth live) (truth (is_dirty r.delta)) (truth asks) r.values,
        assign3 (all_cells n) sc own a.left hs.0 (eval a.expr sc r.values).number (truth live) (truth (is_dirty r.delta)) (truth asks) r.values,
      ) refl

  sim_read : (x : P4Read) → Does (stmt.Read x)
  sim_read x h k asks r =
      let hs = and_parts (path_free (names x.left.path)) (option_free x.expr) (free_of (stmt.Read x) _ (facts-Read reach x) h) in
      rw (rewrite-Read src x, run-Read x) (read3 n few sc own live f' g' x hs.0 hs.1 (named_register (text x.name) sc.registers) (fits (text x.name)) asks r)

  sim_write : (x : P4Write) → Does (stmt.Write x)
  sim_write x h k asks r =
      let hs = and_parts (expr_free x.expr) (option_free x.second) (free_of (stmt.Write x) _ (facts-Write reach x) h) in
      rw (rewrite-Write src x, run-Write x) (write3 n few sc own live f' g' x hs.0 hs.1 (named_register (text x.name) sc.registers) (fits (text x.name)) asks r)

  sim_key : (x : P4Keystmt) → Does (stmt.Keystmt x)
  sim_key x h k asks r =
      rw (rewrite-Keystmt src x, run-Keystmt x, eval3 (all_cells n) sc own x.expr (free_of (stmt.Keystmt x) _ (facts-Keystmt reach x) h) (truth live) (truth (is_dirty r.delta)) (truth asks) r.values) refl

  sim_valid : (x : P4Valid) → Does (stmt.Valid x)
  sim_valid x h k asks r =
      rw (rewrite-Valid src x, run-Valid x, valid3 (all_cells n) sc own x.validity (names x.path) (free_of (stmt.Valid x) _ (facts-Valid reach x) h) (truth live) (truth (is_dirty r.delta)) (truth asks) r.values) refl

  sim_apply : (x : P4Apply) → Does (stmt.Apply x)
  sim_apply x h k asks r = rw (rewrite-Apply src x, run-Apply x, applied (text x.name) asks r) refl

  sim_call : (x : P4Callstmt) → Does (stmt.Callstmt x)
  sim_call x h k asks r =
      rw (rewrite-Callstmt src x, run-Callstmt x, values_of3 (all_cells n) sc own x.args (free_of (stmt.Callstmt x) _ (facts-Callstmt reach x) h) (truth live) (truth (is_dirty r.delta)) (truth asks) r.values)
      (called (text x.name) _ asks r)

  sim_block : (b : P4Block) → SimBlock b → Does (stmt.Block b)
  sim_block b p h k asks r =
      rw (rewrite-Block src b, run-Block (rewrite_block src b), run-Block b)
      (p (free_of (stmt.Block b) _ (facts-Block reach b) h) (sym (ap (λ (y : Facts). y.keyless || live) (facts-Block reach b)) ∙ k) asks r)

  sim_branches : (i : P4If) → SimIf i → Does (stmt.If i)
  sim_branches i p h k asks r =
      rw (rewrite-If src i, run-If (rewrite_if src i), run-If i)
      (p (free_of (stmt.If i) _ (facts-If reach i) h) (sym (ap (λ (y : Facts). y.keyless || live) (facts-If reach i)) ∙ k) asks r)

  -- ---- blocks

  -- the rest behind a statement, in the body's branch where it is a `flow_key`
  behind : (s : P4Stmt) (rest : List P4Stmt) (b : Bool) → (b ≡ true → (stmt_facts reach s).keyless ≡ false) → ((stmt_facts reach s).keyless || live) ≡ true → (asks : Bool) (r : Run)
      → in_turn (map run_stmt (if b then held_only rest ∷ [] else rest)) C' (ext live asks r) ≡ in_turn (map run_stmt rest) C' (ext live asks r)
  behind s rest true h k asks r = run-body_live live (or_right (stmt_facts reach s).keyless live (h refl) k) rest n sc f' g' asks r
  behind s rest false h k asks r = refl

  sim_list : (ss : List P4Stmt) → AllByRecursion SimStmt ss → all_free (map (stmt_facts reach) ss) ≡ true → (all_keyless (map (stmt_facts reach) ss) || live) ≡ true → (asks : Bool) (r : Run)
      → in_turn (map run_stmt (joined (map (rewrite_stmt src) ss))) C' (ext live asks r) ≡ ext live asks (in_turn (map run_stmt ss) C r)
  sim_list [] all h k asks r = refl
  sim_list (s ∷ ss) all h k asks r =
      let hs = and_parts (stmt_facts reach s).free (all_free (map (stmt_facts reach) ss)) h in
      let here : ((stmt_facts reach s).keyless || live) ≡ true = left_or (stmt_facts reach s).keyless (all_keyless (map (stmt_facts reach) ss)) live k in
      let there : (all_keyless (map (stmt_facts reach) ss) || live) ≡ true = right_or (stmt_facts reach s).keyless (all_keyless (map (stmt_facts reach) ss)) live k in
      let rest : List P4Stmt = joined (map (rewrite_stmt src) ss) in
      let now : List P4Stmt = (if (rewrite_stmt src s).is_key then held_only rest ∷ [] else rest) in
      in_turn-append (rewrite_stmt src s).stmts now C' (ext live asks r)
      ∙ ap (in_turn (map run_stmt now) C') (all.0.1 hs.0 here asks r)
      ∙ behind s rest (rewrite_stmt src s).is_key all.0.0 here asks (run_stmt s C r)
      ∙ sim_list ss all.1 hs.1 there asks (run_stmt s C r)

  sim_stmts : (at : ℕ) (ss : List P4Stmt) → AllByRecursion SimStmt ss → SimBlock (roll-P4Block (record { at = at; stmts = ss }))
  sim_stmts at ss all h k asks r =
      rw (rewrite-block src at ss, run-block at (joined (map (rewrite_stmt src) ss)), run-block at ss)
      (sim_list ss all (sym (ap (λ (y : Facts). y.free) (facts-block reach at ss)) ∙ h) (sym (ap (λ (y : Facts). y.keyless || live) (facts-block reach at ss)) ∙ k) asks r)

  -- ---- branches

  pub sim_test : (c : P4Cond) → cond_free c ≡ true → (asks : Bool) (r : Run) → test c C' (ext live asks r) ≡ (ext live asks (test c C r).0, (test c C r).1)
  sim_test (p4cond.Expr e) h asks r = rw (eval3 (all_cells n) sc own e h (truth live) (truth (is_dirty r.delta)) (truth asks) r.values) refl
  sim_test (p4cond.Apply at negated name outcome) h asks r = rw (applied (text name) asks r) refl

  sim_else : (o : Option P4Block) → OfElse SimBlock o → (or_no_stmts (option_map (block_facts reach) o)).free ≡ true → ((or_no_stmts (option_map (block_facts reach) o)).keyless || live) ≡ true → (asks : Bool) (r : Run)
      → or_nothing (option_map run_block (option_map (rewrite_block src) o)) C' (ext live asks r) ≡ ext live asks (or_nothing (option_map run_block o) C r)
  sim_else None p h k asks r = refl
  sim_else (Some b) p h k asks r = p h k asks r

  sim_branch : (b : P4Block) (o : Option P4Block) (hit : Bool) (asks : Bool) (r : Run)
      → run_block (rewrite_block src b) C' (ext live asks r) ≡ ext live asks (run_block b C r)
      → or_nothing (option_map run_block (option_map (rewrite_block src) o)) C' (ext live asks r) ≡ ext live asks (or_nothing (option_map run_block o) C r)
      → branch (run_block (rewrite_block src b)) (option_map run_block (option_map (rewrite_block src) o)) C' (ext live asks r, hit) ≡ ext live asks (branch (run_block b) (option_map run_block o) C (r, hit))
  sim_branch b o true asks r p q = p
  sim_branch b o false asks r p q = q

  sim_parts : (at : ℕ) (c : P4Cond) (b : P4Block) (o : Option P4Block) → SimBlock b → OfElse SimBlock o → SimIf (roll-P4If (record { at = at; cond = c; then = b; else_ = o }))
  sim_parts at c b o p q h k asks r =
      let then_facts : Facts = block_facts reach b in
      let else_facts : Facts = or_no_stmts (option_map (block_facts reach) o) in
      let hs = and_parts (cond_free c && then_facts.free) else_facts.free (sym (ap (λ (y : Facts). y.free) (facts-if reach at c b o)) ∙ h) in
      let hs' = and_parts (cond_free c) then_facts.free hs.0 in
      let ks : (then_facts.keyless && else_facts.keyless || live) ≡ true = sym (ap (λ (y : Facts). y.keyless || live) (facts-if reach at c b o)) ∙ k in
      rw (rewrite-if src at c b o, run-if at c (rewrite_block src b) (option_map (rewrite_block src) o), run-if at c b o, sim_test c hs'.0 asks r)
      (sim_branch b o (test c C r).1 asks (test c C r).0
      (p hs'.1 (left_or then_facts.keyless else_facts.keyless live ks) asks (test c C r).0)
      (sim_else o q hs.1 (right_or then_facts.keyless else_facts.keyless live ks) asks (test c C r).0))

  key_of : (s : P4Stmt) (x : Piece) → rewrite_stmt src s ≡ x → x.is_key ≡ false → (rewrite_stmt src s).is_key ≡ true → (stmt_facts reach s).keyless ≡ false
  key_of s x e e' h = absurd (false≢true (sym e' ∙ sym (ap (λ (y : Piece). y.is_key) e) ∙ h))

  cases : StmtCases SimStmt SimBlock SimIf
  cases = record {
    block = λ b p. (key_of (stmt.Block b) _ (rewrite-Block src b) refl, sim_block b p);
    var = λ v. (key_of (stmt.Var v) _ (rewrite-Var src v) refl, sim_var v);
    assign = λ a. (key_of (stmt.Assign a) _ (rewrite-Assign src a) refl, sim_assign a);
    read = λ x. (key_of (stmt.Read x) _ (rewrite-Read src x) refl, sim_read x);
    write = λ x. (key_of (stmt.Write x) _ (rewrite-Write src x) refl, sim_write x);
    keystmt = λ x. (λ h. ap (λ (y : Facts). y.keyless) (facts-Keystmt reach x), sim_key x);
    valid = λ x. (key_of (stmt.Valid x) _ (rewrite-Valid src x) refl, sim_valid x);
    apply = λ x. (key_of (stmt.Apply x) _ (rewrite-Apply src x) refl, sim_apply x);
    callstmt = λ x. (key_of (stmt.Callstmt x) _ (rewrite-Callstmt src x) refl, sim_call x);
    branches = λ i p. (key_of (stmt.If i) _ (rewrite-If src i) refl, sim_branches i p);
    stmts = sim_stmts;
    parts = sim_parts;
  }

  pub sim : (s : P4Stmt) → SimStmt s
  sim = stmt-ind SimStmt SimBlock SimIf cases

  pub block_sim : (b : P4Block) → SimBlock b
  block_sim = block-ind SimStmt SimBlock SimIf cases
