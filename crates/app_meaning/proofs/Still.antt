-- Statements that reach no cell and no `flow_key` change values alone, and as the values are; a keyless statement keeps the key.
use Rattle.std.proofs.Common.{◌≡◌, ℕ, Bool, true, false, ◌&&◌, List, [], ◌∷◌, map, Option, Some, None, refl, sym, ap, ◌∙◌, option_map}
use Rattle.std.proofs.lemmas.Bool.{and_parts, false≢true, not-true}
use Rattle.std.specs.List.{AllByRecursion}
use Rattle.p4_ast.specs.declared.statement.P4Apply.{P4Apply}
use Rattle.p4_ast.specs.declared.statement.P4Callstmt.{P4Callstmt}
use Rattle.p4_ast.specs.declared.statement.P4Cond.{P4Cond}
use Rattle.p4_ast.specs.declared.statement.P4Cond.TheVariants as p4cond
use Rattle.p4_ast.specs.declared.statement.P4Stmt.{P4Stmt}
use Rattle.p4_ast.specs.declared.statement.P4Stmt.TheVariants as stmt
use Rattle.p4_ast.specs.declared.statement.P4Block.{P4Block, roll-P4Block}
use Rattle.p4_ast.specs.declared.statement.P4If.{P4If, roll-P4If}
use Rattle.p4_ast.proofs.Induction.{StmtCases, OfElse, block-ind, stmt-ind}
use Rattle.app_data.specs.declared.value.Value.{Value}
use Rattle.app_data.specs.declared.scope.Register.{Register}
use Rattle.app_meaning.specs.Slots.{Name, Scope, named_register, text}
use Rattle.app_meaning.specs.Expressions.{eval}
use Rattle.app_data.specs.declared.run.Run.{Run}
use Rattle.app_meaning.specs.Statements.{Context, with_values, test, branch, or_nothing, in_turn, run_stmt, run_block, run_if, read_from, write_to, write_cell, store, values_of, member}
use Rattle.app_meaning.proofs.Equations.{run-Block, run-Var, run-Assign, run-Read, run-Write, run-Valid, run-Apply, run-Callstmt, run-If, run-if, run-block}
use Rattle.app_meaning.specs.Premises.{Reach, Facts, all_calm, all_keyless, cond_calm, or_no_stmts, stmt_facts, block_facts, if_facts}
use Rattle.app_meaning.proofs.Facts.{facts-Block, facts-Read, facts-Write, facts-Keystmt, facts-Apply, facts-Callstmt, facts-If, facts-block, facts-if}

-- a run that has only values
abbrev pub bare : List Value → Run
bare values = record { values = values; cells = []; delta = []; key = None }

-- the values alone change, and depend on the values alone
abbrev pub IsStill : (Run → Run) → Type 0
IsStill m = (r : Run) → m r ≡ with_values r (m (bare r.values)).values

-- the same of a table, whose outcome depends on the values alone too
abbrev pub IsStillTest : (Run → Run × Bool) → Type 0
IsStillTest m = (r : Run) → m r ≡ (with_values r (m (bare r.values)).0.values, (m (bare r.values)).1)

module _ (sc : Scope) (f : Name → List Value → Run → Run) (g : Name → Run → Run × Bool) (reach : Reach)
    (called : (name : Name) → reach.calls name ≡ false → (args : List Value) → IsStill (f name args))
    (applied : (name : Name) → reach.applies name ≡ false → IsStillTest (g name)) where
  abbrev C : Context
  C = record { scope = sc; call = f; apply = g }

  abbrev StillStmt : P4Stmt → Type 0
  StillStmt s = (stmt_facts reach s).calm ≡ true → IsStill (run_stmt s C)

  abbrev StillBlock : P4Block → Type 0
  StillBlock b = (block_facts reach b).calm ≡ true → IsStill (run_block b C)

  abbrev StillIf : P4If → Type 0
  StillIf i = (if_facts reach i).calm ≡ true → IsStill (run_if i C)

  calm_of : (s : P4Stmt) (x : Facts) → stmt_facts reach s ≡ x → (stmt_facts reach s).calm ≡ true → x.calm ≡ true
  calm_of s x e h = sym (ap (λ (y : Facts). y.calm) e) ∙ h

  still_apply : (a : P4Apply) → StillStmt (stmt.Apply a)
  still_apply a h r =
      let e : g (text a.name) r ≡ (with_values r (g (text a.name) (bare r.values)).0.values, (g (text a.name) (bare r.values)).1) =
      applied (text a.name) (not-true _ (calm_of (stmt.Apply a) _ (facts-Apply reach a) h)) r in
      rw (run-Apply a) (ap (λ (x : Run × Bool). x.0) e)

  still_call : (c : P4Callstmt) → StillStmt (stmt.Callstmt c)
  still_call c h r = rw (run-Callstmt c) (called (text c.name) (not-true _ (calm_of (stmt.Callstmt c) _ (facts-Callstmt reach c) h)) (values_of c.args sc r.values) r)

  never : (s : P4Stmt) (x : Facts) → stmt_facts reach s ≡ x → x.calm ≡ false → StillStmt s
  never s x e n h = absurd (false≢true (sym n ∙ calm_of s x e h))

  still_list : (ss : List P4Stmt) → AllByRecursion StillStmt ss → all_calm (map (stmt_facts reach) ss) ≡ true → IsStill (in_turn (map run_stmt ss) C)
  still_list [] all h r = refl
  still_list (s ∷ ss) all h r =
      let hs = and_parts (stmt_facts reach s).calm (all_calm (map (stmt_facts reach) ss)) h in
      let v : List Value = (run_stmt s C (bare r.values)).values in
      let here : run_stmt s C r ≡ with_values r v = all.0 hs.0 r in
      let there : run_stmt s C (bare r.values) ≡ bare v = all.0 hs.0 (bare r.values) in
      ap (in_turn (map run_stmt ss) C) here ∙ still_list ss all.1 hs.1 (with_values r v) ∙ ap (λ (x : Run). with_values r (in_turn (map run_stmt ss) C x).values) (sym there)

  still_stmts : (at : ℕ) (ss : List P4Stmt) → AllByRecursion StillStmt ss → StillBlock (roll-P4Block (record { at = at; stmts = ss }))
  still_stmts at ss all h r = rw (run-block at ss) (still_list ss all (sym (ap (λ (y : Facts). y.calm) (facts-block reach at ss)) ∙ h) r)

  pub still_test : (c : P4Cond) → cond_calm reach c ≡ true → IsStillTest (test c C)
  still_test (p4cond.Expr e) h r = refl
  still_test (p4cond.Apply at negated name outcome) h r =
      let e : g (text name) r ≡ (with_values r (g (text name) (bare r.values)).0.values, (g (text name) (bare r.values)).1) = applied (text name) (not-true _ h) r in
      rw (e) refl

  still_else : (o : Option P4Block) → OfElse StillBlock o → (or_no_stmts (option_map (block_facts reach) o)).calm ≡ true → IsStill (or_nothing (option_map run_block o) C)
  still_else None p h r = refl
  still_else (Some b) p h r = p h r

  still_branch : (b : P4Block) (o : Option P4Block) → IsStill (run_block b C) → IsStill (or_nothing (option_map run_block o) C) → (hit : Bool) → IsStill (λ r. branch (run_block b) (option_map run_block o) C (r, hit))
  still_branch b o p q true r = p r
  still_branch b o p q false r = q r

  still_parts : (at : ℕ) (c : P4Cond) (b : P4Block) (o : Option P4Block) → StillBlock b → OfElse StillBlock o → StillIf (roll-P4If (record { at = at; cond = c; then = b; else_ = o }))
  still_parts at c b o p q h r =
      let then_facts : Facts = block_facts reach b in
      let else_facts : Facts = or_no_stmts (option_map (block_facts reach) o) in
      let hs = and_parts (cond_calm reach c && then_facts.calm) else_facts.calm (sym (ap (λ (y : Facts). y.calm) (facts-if reach at c b o)) ∙ h) in
      let hs' = and_parts (cond_calm reach c) then_facts.calm hs.0 in
      let v : List Value = (test c C (bare r.values)).0.values in
      let hit : Bool = (test c C (bare r.values)).1 in
      let here : test c C r ≡ (with_values r v, hit) = still_test c hs'.0 r in
      let there : test c C (bare r.values) ≡ (bare v, hit) = still_test c hs'.0 (bare r.values) in
      let m : Run × Bool → Run = branch (run_block b) (option_map run_block o) C in
      rw (run-if at c b o)
      (ap m here ∙ still_branch b o (p hs'.1) (still_else o q hs.1) hit (with_values r v) ∙ ap (λ (x : Run × Bool). with_values r (m x).values) (sym there))

  still_cases : StmtCases StillStmt StillBlock StillIf
  still_cases = record {
    block = λ b p h r. rw (run-Block b) (p (calm_of (stmt.Block b) _ (facts-Block reach b) h) r);
    var = λ v h r. rw (run-Var v) refl;
    assign = λ a h r. rw (run-Assign a) refl;
    read = λ x. never (stmt.Read x) _ (facts-Read reach x) refl;
    write = λ x. never (stmt.Write x) _ (facts-Write reach x) refl;
    keystmt = λ x. never (stmt.Keystmt x) _ (facts-Keystmt reach x) refl;
    valid = λ x h r. rw (run-Valid x) refl;
    apply = still_apply;
    callstmt = still_call;
    branches = λ i p h r. rw (run-If i) (p (calm_of (stmt.If i) _ (facts-If reach i) h) r);
    stmts = still_stmts;
    parts = still_parts;
  }

  pub still_stmt : (s : P4Stmt) → StillStmt s
  still_stmt = stmt-ind StillStmt StillBlock StillIf still_cases

  pub still_block : (b : P4Block) → StillBlock b
  still_block = block-ind StillStmt StillBlock StillIf still_cases

-- ---- the key is kept

abbrev pub KeepsKey : (Run → Run) → Type 0
KeepsKey m = (r : Run) → (m r).key ≡ r.key

module _ (sc : Scope) (f : Name → List Value → Run → Run) (g : Name → Run → Run × Bool) (reach : Reach)
    (called : (name : Name) (args : List Value) → KeepsKey (f name args))
    (applied : (name : Name) → KeepsKey (λ r. (g name r).0)) where
  abbrev D : Context
  D = record { scope = sc; call = f; apply = g }

  abbrev KeptStmt : P4Stmt → Type 0
  KeptStmt s = (stmt_facts reach s).keyless ≡ true → KeepsKey (run_stmt s D)

  abbrev KeptBlock : P4Block → Type 0
  KeptBlock b = (block_facts reach b).keyless ≡ true → KeepsKey (run_block b D)

  abbrev KeptIf : P4If → Type 0
  KeptIf i = (if_facts reach i).keyless ≡ true → KeepsKey (run_if i D)

  keyless_of : (s : P4Stmt) (x : Facts) → stmt_facts reach s ≡ x → (stmt_facts reach s).keyless ≡ true → x.keyless ≡ true
  keyless_of s x e h = sym (ap (λ (y : Facts). y.keyless) e) ∙ h

  kept_read : (o : Option Register) (x : _) (r : Run) → (read_from sc x o r).key ≡ r.key
  kept_read None x r = refl
  kept_read (Some k) x r = refl

  kept_store : (o : Option ℕ) (k : ℕ) (r : Run) → (store o k r).key ≡ r.key
  kept_store None k r = refl
  kept_store (Some i) k r = refl

  kept_cell : (first : ℕ) (size : Option ℕ) (e : _) (second : Option _) (r : Run) → (write_cell sc first size e second r).key ≡ r.key
  kept_cell first None e second r = refl
  kept_cell first (Some k) e None r = refl
  kept_cell first (Some k) e (Some v) r = kept_store (member first k (eval e sc r.values).number) _ r

  kept_write : (o : Option Register) (x : _) (r : Run) → (write_to sc x o r).key ≡ r.key
  kept_write None x r = refl
  kept_write (Some k) x r = kept_cell k.first k.size x.expr x.second r

  pub kept_list : (ss : List P4Stmt) → AllByRecursion KeptStmt ss → all_keyless (map (stmt_facts reach) ss) ≡ true → KeepsKey (in_turn (map run_stmt ss) D)
  kept_list [] all h r = refl
  kept_list (s ∷ ss) all h r =
      let hs = and_parts (stmt_facts reach s).keyless (all_keyless (map (stmt_facts reach) ss)) h in
      kept_list ss all.1 hs.1 (run_stmt s D r) ∙ all.0 hs.0 r

  kept_test : (c : P4Cond) → KeepsKey (λ r. (test c D r).0)
  kept_test (p4cond.Expr e) r = refl
  kept_test (p4cond.Apply at negated name outcome) r = applied (text name) r

  kept_else : (o : Option P4Block) → OfElse KeptBlock o → (or_no_stmts (option_map (block_facts reach) o)).keyless ≡ true → KeepsKey (or_nothing (option_map run_block o) D)
  kept_else None p h r = refl
  kept_else (Some b) p h r = p h r

  kept_branch : (b : P4Block) (o : Option P4Block) → KeepsKey (run_block b D) → KeepsKey (or_nothing (option_map run_block o) D) → (hit : Bool) → KeepsKey (λ r. branch (run_block b) (option_map run_block o) D (r, hit))
  kept_branch b o p q true r = p r
  kept_branch b o p q false r = q r

  kept_parts : (at : ℕ) (c : P4Cond) (b : P4Block) (o : Option P4Block) → KeptBlock b → OfElse KeptBlock o → KeptIf (roll-P4If (record { at = at; cond = c; then = b; else_ = o }))
  kept_parts at c b o p q h r =
      let then_facts : Facts = block_facts reach b in
      let else_facts : Facts = or_no_stmts (option_map (block_facts reach) o) in
      let hs = and_parts then_facts.keyless else_facts.keyless (sym (ap (λ (y : Facts). y.keyless) (facts-if reach at c b o)) ∙ h) in
      rw (run-if at c b o) (kept_branch b o (p hs.0) (kept_else o q hs.1) (test c D r).1 (test c D r).0 ∙ kept_test c r)

  kept_cases : StmtCases KeptStmt KeptBlock KeptIf
  kept_cases = record {
    block = λ b p h r. rw (run-Block b) (p (keyless_of (stmt.Block b) _ (facts-Block reach b) h) r);
    var = λ v h r. rw (run-Var v) refl;
    assign = λ a h r. rw (run-Assign a) refl;
    read = λ x h r. rw (run-Read x) (kept_read (named_register (text x.name) sc.registers) x r);
    write = λ x h r. rw (run-Write x) (kept_write (named_register (text x.name) sc.registers) x r);
    keystmt = λ x h r. absurd (false≢true (keyless_of (stmt.Keystmt x) _ (facts-Keystmt reach x) h));
    valid = λ x h r. rw (run-Valid x) refl;
    apply = λ x h r. rw (run-Apply x) (applied (text x.name) r);
    callstmt = λ x h r. rw (run-Callstmt x) (called (text x.name) (values_of x.args sc r.values) r);
    branches = λ i p h r. rw (run-If i) (p (keyless_of (stmt.If i) _ (facts-If reach i) h) r);
    stmts = λ at ss all h r. rw (run-block at ss) (kept_list ss all (sym (ap (λ (y : Facts). y.keyless) (facts-block reach at ss)) ∙ h) r);
    parts = kept_parts;
  }

  pub kept_stmt : (s : P4Stmt) → KeptStmt s
  kept_stmt = stmt-ind KeptStmt KeptBlock KeptIf kept_cases

  pub kept_block : (b : P4Block) → KeptBlock b
  kept_block = block-ind KeptStmt KeptBlock KeptIf kept_cases
