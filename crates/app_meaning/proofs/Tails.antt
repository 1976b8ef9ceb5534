-- How a tail block ends: no `flow_key` runs and the values alone change, or one runs, whatever the cells are.
use Rattle.std.proofs.Common.{◌≡◌, ℕ, Bool, true, false, ◌&&◌, List, [], ◌∷◌, map, Option, Some, None, refl, sym, ap, ◌∙◌, if◌then◌else◌, option_map}
use Rattle.std.proofs.lemmas.Bool.{and_parts, false≢true}
use Rattle.std.specs.List.{AllByRecursion}
use Rattle.rp_app.specs.Application.{Delta}
use Rattle.p4_ast.specs.declared.statement.P4Keystmt.{P4Keystmt}
use Rattle.p4_ast.specs.declared.statement.P4Cond.{P4Cond}
use Rattle.p4_ast.specs.declared.statement.P4Stmt.{P4Stmt}
use Rattle.p4_ast.specs.declared.statement.P4Stmt.TheVariants as stmt
use Rattle.p4_ast.specs.declared.statement.P4Block.{P4Block, roll-P4Block}
use Rattle.p4_ast.specs.declared.statement.P4If.{P4If, roll-P4If}
use Rattle.p4_ast.proofs.Induction.{StmtCases, OfElse, block-ind}
use Rattle.app_data.specs.declared.run.Run.{Run}
use Rattle.app_data.specs.declared.value.Value.{Value}
use Rattle.app_meaning.specs.Slots.{Name, Scope}
use Rattle.app_meaning.specs.Expressions.{eval}
use Rattle.app_meaning.specs.Statements.{Context, key_bytes, test, branch, or_nothing, in_turn, run_stmt, run_block, run_if}
use Rattle.app_meaning.specs.Premises.{Reach, Facts, all_keyless, all_tail, cond_calm, or_no_stmts, stmt_facts, block_facts, if_facts}
use Rattle.app_meaning.proofs.Equations.{run-Keystmt, run-If, run-if, run-block}
use Rattle.app_meaning.proofs.Facts.{facts-Block, facts-Var, facts-Assign, facts-Read, facts-Write, facts-Keystmt, facts-Valid, facts-Apply, facts-Callstmt, facts-If, facts-block, facts-if}
use Rattle.app_meaning.proofs.Still.{bare, IsStill, IsStillTest, KeepsKey, still_stmt, still_test, kept_stmt}

-- a run of these values
abbrev pub run_of : List Value → List ℕ → Delta → Option (List ℕ) → Run
run_of vs cells delta key = record { values = vs; cells = cells; delta = delta; key = key }

-- from the values `vs` to the values `after`, whatever the rest of the run is
abbrev pub PassesTo : (Run → Run) → List Value → List Value → Type 0
PassesTo m vs after = (cells : List ℕ) (delta : Delta) (key : Option (List ℕ)) → m (run_of vs cells delta key) ≡ run_of after cells delta key

-- from the values `vs` to the key `k`, whatever the rest of the run is
abbrev pub AsksFor : (Run → Run) → List Value → List ℕ → Type 0
AsksFor m vs k = (cells : List ℕ) (delta : Delta) (key : Option (List ℕ)) → (m (run_of vs cells delta key)).key ≡ Some k

-- how a part ends from these values
pub data Ends (m : Run → Run) (vs : List Value) : Type 0 where
  Passes : (after : List Value) → PassesTo m vs after → Ends m vs
  Asks : (k : List ℕ) → AsksFor m vs k → Ends m vs

-- first a part that passes, and then the end
then_ends : (m l : Run → Run) (vs after : List Value) → PassesTo m vs after → Ends l after → Ends (λ r. l (m r)) vs
then_ends m l vs after p (Passes last s) = Passes last (λ cells delta key. ap l (p cells delta key) ∙ s cells delta key)
then_ends m l vs after p (Asks k s) = Asks k (λ cells delta key. ap (λ r. (l r).key) (p cells delta key) ∙ s cells delta key)

-- the same for another function that is equal
ends_as : (m n : Run → Run) (vs : List Value) → ((r : Run) → n r ≡ m r) → Ends m vs → Ends n vs
ends_as m n vs e (Passes last s) = Passes last (λ cells delta key. e (run_of vs cells delta key) ∙ s cells delta key)
ends_as m n vs e (Asks k s) = Asks k (λ cells delta key. ap (λ (r : Run). r.key) (e (run_of vs cells delta key)) ∙ s cells delta key)

module _ (sc : Scope) (f : Name → List Value → Run → Run) (g : Name → Run → Run × Bool) (reach : Reach)
    (calm_call : (name : Name) → reach.calls name ≡ false → (args : List Value) → IsStill (f name args))
    (calm_apply : (name : Name) → reach.applies name ≡ false → IsStillTest (g name))
    (kept_call : (name : Name) (args : List Value) → KeepsKey (f name args))
    (kept_apply : (name : Name) → KeepsKey (λ r. (g name r).0)) where
  abbrev C : Context
  C = record { scope = sc; call = f; apply = g }

  abbrev does : P4Stmt → Run → Run
  does s = run_stmt s C

  -- a calm statement passes
  still_passes : (s : P4Stmt) → (stmt_facts reach s).calm ≡ true → (vs : List Value) → PassesTo (does s) vs (does s (bare vs)).values
  still_passes s c vs cells delta key = still_stmt sc f g reach calm_call calm_apply s c (run_of vs cells delta key)

  record TailStmt (s : P4Stmt) : Type 0 where
    at_key : (stmt_facts reach s).is_key ≡ true → (vs : List Value) → (k : List ℕ) × AsksFor (does s) vs k
    ends : (stmt_facts reach s).tail ≡ true → (vs : List Value) → Ends (does s) vs

  abbrev TailBlock : P4Block → Type 0
  TailBlock b = (block_facts reach b).tail ≡ true → (vs : List Value) → Ends (run_block b C) vs

  abbrev TailIf : P4If → Type 0
  TailIf i = ((if_facts reach i).is_key ≡ false) × ((if_facts reach i).tail ≡ true → (vs : List Value) → Ends (run_if i C) vs)

  -- a statement without statements in it
  simple_tail : (s : P4Stmt) (x : Facts) → stmt_facts reach s ≡ x → x.is_key ≡ false → x.tail ≡ x.calm → TailStmt s
  simple_tail s x e h t = record {
    at_key = λ y. absurd (false≢true (sym (ap (λ (z : Facts). z.is_key) e ∙ h) ∙ y));
    ends = λ z vs. Passes _ (still_passes s (ap (λ (w : Facts). w.calm) e ∙ sym t ∙ sym (ap (λ (w : Facts). w.tail) e) ∙ z) vs);
  }

  block_tail : (b : P4Block) → TailStmt (stmt.Block b)
  block_tail b = record {
    at_key = λ y. absurd (false≢true (sym (ap (λ (z : Facts). z.is_key) (facts-Block reach b)) ∙ y));
    ends = λ z vs.
        let hs = and_parts (block_facts reach b).calm (block_facts reach b).keyless (sym (ap (λ (w : Facts). w.tail) (facts-Block reach b)) ∙ z) in
        Passes _ (still_passes (stmt.Block b) (ap (λ (w : Facts). w.calm) (facts-Block reach b) ∙ hs.0) vs);
  }

  if_tail : (i : P4If) → TailIf i → TailStmt (stmt.If i)
  if_tail i p = record {
    at_key = λ y. absurd (false≢true (sym (ap (λ (z : Facts). z.is_key) (facts-If reach i) ∙ p.0) ∙ y));
    ends = λ z vs. ends_as (run_if i C) (does (stmt.If i)) vs (λ r. ap (λ (m : Context → Run → Run). m C r) (run-If i)) (p.1 (sym (ap (λ (w : Facts). w.tail) (facts-If reach i)) ∙ z) vs);
  }

  key_tail : (x : P4Keystmt) → TailStmt (stmt.Keystmt x)
  key_tail x = record {
    at_key = λ y vs. (key_bytes (eval x.expr sc vs), λ cells delta key. rw (run-Keystmt x) refl);
    ends = λ z vs. absurd (false≢true (sym (ap (λ (w : Facts). w.tail) (facts-Keystmt reach x)) ∙ z));
  }

  -- ---- blocks

  kept_all : (ss : List P4Stmt) → all_keyless (map (stmt_facts reach) ss) ≡ true → KeepsKey (in_turn (map run_stmt ss) C)
  kept_all [] h r = refl
  kept_all (s ∷ ss) h r =
      let hs = and_parts (stmt_facts reach s).keyless (all_keyless (map (stmt_facts reach) ss)) h in
      kept_all ss hs.1 (does s r) ∙ kept_stmt sc f g reach kept_call kept_apply s hs.0 r

  abbrev all_do : List P4Stmt → Run → Run
  all_do ss = in_turn (map run_stmt ss) C

  -- a `flow_key`, and behind it none
  at_flow_key : (s : P4Stmt) (ss : List P4Stmt) (vs : List Value) → (k : List ℕ) × AsksFor (does s) vs k → all_keyless (map (stmt_facts reach) ss) ≡ true → Ends (all_do (s ∷ ss)) vs
  at_flow_key s ss vs asks h = Asks asks.0 (λ cells delta key. kept_all ss h (does s (run_of vs cells delta key)) ∙ asks.1 cells delta key)

  tail_list : (ss : List P4Stmt) → AllByRecursion TailStmt ss → all_tail (map (stmt_facts reach) ss) ≡ true → (vs : List Value) → Ends (all_do ss) vs
  tail_list [] all t vs = Passes vs (λ cells delta key. refl)
  tail_list (s ∷ []) all t vs = last (stmt_facts reach s).is_key refl where
    last : (b : Bool) → (stmt_facts reach s).is_key ≡ b → Ends (all_do (s ∷ [])) vs
    last true e = at_flow_key s [] vs (all.0.at_key e vs) refl
    last false e =
        let t' : ((stmt_facts reach s).tail && true) ≡ true = sym (ap (λ (b : Bool). if b then true else (stmt_facts reach s).tail && true) e) ∙ t in
        all.0.ends (and_parts (stmt_facts reach s).tail true t').0 vs
  tail_list (s ∷ s' ∷ ss) all t vs = more (stmt_facts reach s).is_key refl (tail_list (s' ∷ ss) all.1) where
    more : (b : Bool) → (stmt_facts reach s).is_key ≡ b → (all_tail (map (stmt_facts reach) (s' ∷ ss)) ≡ true → (us : List Value) → Ends (all_do (s' ∷ ss)) us) → Ends (all_do (s ∷ s' ∷ ss)) vs
    more true e again =
        at_flow_key s (s' ∷ ss) vs (all.0.at_key e vs)
        (sym (ap (λ (b : Bool). if b then all_keyless (map (stmt_facts reach) (s' ∷ ss)) else (stmt_facts reach s).calm && (stmt_facts reach s).keyless && all_tail (map (stmt_facts reach) (s' ∷ ss))) e) ∙ t)
    more false e again =
        let t' : ((stmt_facts reach s).calm && (stmt_facts reach s).keyless && all_tail (map (stmt_facts reach) (s' ∷ ss))) ≡ true =
        sym (ap (λ (b : Bool). if b then all_keyless (map (stmt_facts reach) (s' ∷ ss)) else (stmt_facts reach s).calm && (stmt_facts reach s).keyless && all_tail (map (stmt_facts reach) (s' ∷ ss))) e) ∙ t in
        let ts = and_parts ((stmt_facts reach s).calm && (stmt_facts reach s).keyless) (all_tail (map (stmt_facts reach) (s' ∷ ss))) t' in
        let ts' = and_parts (stmt_facts reach s).calm (stmt_facts reach s).keyless ts.0 in
        then_ends (does s) (all_do (s' ∷ ss)) vs (does s (bare vs)).values (still_passes s ts'.0 vs) (again ts.1 (does s (bare vs)).values)

  tail_stmts : (at : ℕ) (ss : List P4Stmt) → AllByRecursion TailStmt ss → TailBlock (roll-P4Block (record { at = at; stmts = ss }))
  tail_stmts at ss all t vs =
      ends_as (all_do ss) (run_block (roll-P4Block (record { at = at; stmts = ss })) C) vs
      (λ r. ap (λ (m : Context → Run → Run). m C r) (run-block at ss))
      (tail_list ss all (sym (ap (λ (y : Facts). y.tail) (facts-block reach at ss)) ∙ t) vs)

  -- ---- branches

  tail_else : (o : Option P4Block) → OfElse TailBlock o → (or_no_stmts (option_map (block_facts reach) o)).tail ≡ true → (vs : List Value) → Ends (or_nothing (option_map run_block o) C) vs
  tail_else None p t vs = Passes vs (λ cells delta key. refl)
  tail_else (Some b) p t vs = p t vs

  abbrev branches : P4Block → Option P4Block → Run × Bool → Run
  branches b o = branch (run_block b) (option_map run_block o) C

  tail_branch : (b : P4Block) (o : Option P4Block) (vs : List Value) → Ends (run_block b C) vs → Ends (or_nothing (option_map run_block o) C) vs → (hit : Bool) → Ends (λ r. branches b o (r, hit)) vs
  tail_branch b o vs p q true = p
  tail_branch b o vs p q false = q

  -- the end of a branch behind its condition
  behind_test : (c : P4Cond) (b : P4Block) (o : Option P4Block) (vs after : List Value) (hit : Bool)
      → ((cells : List ℕ) (delta : Delta) (key : Option (List ℕ)) → test c C (run_of vs cells delta key) ≡ (run_of after cells delta key, hit))
      → Ends (λ r. branches b o (r, hit)) after → Ends (λ r. branches b o (test c C r)) vs
  behind_test c b o vs after hit s (Passes last u) = Passes last (λ cells delta key. ap (branches b o) (s cells delta key) ∙ u cells delta key)
  behind_test c b o vs after hit s (Asks k u) = Asks k (λ cells delta key. ap (λ (x : Run × Bool). (branches b o x).key) (s cells delta key) ∙ u cells delta key)

  tail_parts : (at : ℕ) (c : P4Cond) (b : P4Block) (o : Option P4Block) → TailBlock b → OfElse TailBlock o → TailIf (roll-P4If (record { at = at; cond = c; then = b; else_ = o }))
  tail_parts at c b o p q = (ap (λ (y : Facts). y.is_key) (facts-if reach at c b o), λ t vs. ends t vs) where
    ends : (if_facts reach (roll-P4If (record { at = at; cond = c; then = b; else_ = o }))).tail ≡ true → (vs : List Value) → Ends (run_if (roll-P4If (record { at = at; cond = c; then = b; else_ = o })) C) vs
    ends t vs =
        let then_facts : Facts = block_facts reach b in
        let else_facts : Facts = or_no_stmts (option_map (block_facts reach) o) in
        let ts = and_parts (cond_calm reach c && then_facts.tail) else_facts.tail (sym (ap (λ (y : Facts). y.tail) (facts-if reach at c b o)) ∙ t) in
        let ts' = and_parts (cond_calm reach c) then_facts.tail ts.0 in
        let after : List Value = (test c C (bare vs)).0.values in
        let hit : Bool = (test c C (bare vs)).1 in
        let still : IsStillTest (test c C) = still_test sc f g reach calm_call calm_apply c ts'.0 in
        ends_as (λ r. branches b o (test c C r)) (run_if (roll-P4If (record { at = at; cond = c; then = b; else_ = o })) C) vs
        (λ r. ap (λ (m : Context → Run → Run). m C r) (run-if at c b o))
        (behind_test c b o vs after hit
        (λ cells delta key. still (run_of vs cells delta key))
        (tail_branch b o after (p ts'.1 after) (tail_else o q ts.1 after) hit))

  tail_cases : StmtCases TailStmt TailBlock TailIf
  tail_cases = record {
    block = λ b p. block_tail b;
    var = λ v. simple_tail (stmt.Var v) _ (facts-Var reach v) refl refl;
    assign = λ a. simple_tail (stmt.Assign a) _ (facts-Assign reach a) refl refl;
    read = λ x. simple_tail (stmt.Read x) _ (facts-Read reach x) refl refl;
    write = λ x. simple_tail (stmt.Write x) _ (facts-Write reach x) refl refl;
    keystmt = key_tail;
    valid = λ x. simple_tail (stmt.Valid x) _ (facts-Valid reach x) refl refl;
    apply = λ x. simple_tail (stmt.Apply x) _ (facts-Apply reach x) refl refl;
    callstmt = λ x. simple_tail (stmt.Callstmt x) _ (facts-Callstmt reach x) refl refl;
    branches = if_tail;
    stmts = tail_stmts;
    parts = tail_parts;
  }

  pub block_ends : (b : P4Block) → TailBlock b
  block_ends = block-ind TailStmt TailBlock TailIf tail_cases
