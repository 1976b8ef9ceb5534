-- How a tail block ends without the lease: it runs no `flow_key` and does what the source's does, or it runs one and asks.
use Rattle.std.proofs.Common.{◌≡◌, ℕ, ◌≤◌, Bool, true, false, ◌&&◌, ◌||◌, List, [], ◌∷◌, map, Option, Some, None, refl, sym, ap, ◌∙◌, if◌then◌else◌, option_map}
use Rattle.std.proofs.lemmas.Bool.{and_parts, false≢true}
use Rattle.std.specs.List.{AllByRecursion}
use Rattle.rp_app.specs.Application.{Delta}
use Rattle.p4_ast.specs.declared.statement.P4Keystmt.{P4Keystmt}
use Rattle.p4_ast.specs.declared.statement.P4Cond.{P4Cond}
use Rattle.p4_ast.specs.declared.statement.P4Stmt.{P4Stmt}
use Rattle.p4_ast.specs.declared.statement.P4Stmt.TheVariants as stmt
use Rattle.p4_ast.specs.declared.statement.P4Block.{P4Block, roll-P4Block}
use Rattle.p4_ast.specs.declared.statement.P4If.{P4If, roll-P4If}
use Rattle.p4_ast.proofs.Induction.{StmtCases, OfElse, block-ind}
use Rattle.app_data.specs.declared.value.Value.{Value}
use Rattle.app_meaning.specs.Values.{truth}
use Rattle.app_data.specs.declared.scope.Register.{Register}
use Rattle.app_meaning.specs.Slots.{Name, Scope, named_register}
use Rattle.app_meaning.specs.Expressions.{eval}
use Rattle.app_data.specs.declared.run.Run.{Run}
use Rattle.app_meaning.specs.Statements.{Context, key_bytes, test, branch, or_nothing, in_turn, run_stmt, run_block, run_if}
use Rattle.app_meaning.proofs.Equations.{run-Keystmt, run-If, run-if, run-block}
use Rattle.p4_check.specs.Rewriting.{Source, Piece, held_only, joined, rewrite_stmt, rewrite_block, rewrite_if}
use Rattle.app_meaning.specs.Premises.{Reach, Facts, all_free, all_keyless, all_tail, cond_free, cond_calm, or_no_stmts, stmt_facts, block_facts, if_facts}
use Rattle.app_meaning.proofs.Facts.{facts-Block, facts-Var, facts-Assign, facts-Read, facts-Write, facts-Keystmt, facts-Valid, facts-Apply, facts-Callstmt, facts-If, facts-block, facts-if}
use Rattle.rewrite_laws.proofs.Rewrites.{rewrite-Block, rewrite-Var, rewrite-Assign, rewrite-Read, rewrite-Write, rewrite-Keystmt, rewrite-Valid, rewrite-Apply, rewrite-Callstmt, rewrite-If, rewrite-block, rewrite-if}
use Rattle.rewrite_laws.proofs.Lifted.{all_cells, lift, OwnFree, eval3}
use Rattle.rewrite_laws.proofs.Pieces.{ext, is_dirty, in_turn-append, run-body_asks}
use Rattle.app_meaning.proofs.Cells.{Within}
use Rattle.rewrite_laws.proofs.Simulated.{sim, sim_test}
use Rattle.app_meaning.proofs.Tails.{run_of}
use Rattle.app_meaning.proofs.Still.{bare, IsStill, IsStillTest, KeepsKey, still_stmt, still_test, kept_stmt}

-- How the source's `m` and the rewritten `m'` end from these values, whatever the cells are:
-- no `flow_key` runs, and both end with the same values, or one runs, and the rewritten one asks with its key.
pub data Ends (m m' : Run → Run) (vs : List Value) : Type 0 where
  Passes : (after : List Value)
      → ((cells : List ℕ) (delta : Delta) (key : Option (List ℕ)) → m (run_of vs cells delta key) ≡ run_of after cells delta key)
      → ((cells : List ℕ) (delta : Delta) (key : Option (List ℕ)) (asks : Bool) → m' (ext false asks (run_of vs cells delta key)) ≡ ext false asks (run_of after cells delta key))
      → Ends m m' vs
  Asks : (k : List ℕ) (after : List Value)
      → ((cells : List ℕ) (delta : Delta) (key : Option (List ℕ)) → (m (run_of vs cells delta key)).key ≡ Some k)
      → ((cells : List ℕ) (delta : Delta) (key : Option (List ℕ)) (asks : Bool) → m' (ext false asks (run_of vs cells delta key)) ≡ ext false true (run_of after cells delta (Some k)))
      → Ends m m' vs

-- what `first` does when it passes
pub record PassesTo (m m' : Run → Run) (vs after : List Value) : Type 0 where
  pub source : (cells : List ℕ) (delta : Delta) (key : Option (List ℕ)) → m (run_of vs cells delta key) ≡ run_of after cells delta key
  pub new : (cells : List ℕ) (delta : Delta) (key : Option (List ℕ)) (asks : Bool) → m' (ext false asks (run_of vs cells delta key)) ≡ ext false asks (run_of after cells delta key)

-- first a part that passes, and then the end
pub then_ends : (m m' l l' : Run → Run) (vs after : List Value) → PassesTo m m' vs after → Ends l l' after → Ends (λ r. l (m r)) (λ r. l' (m' r)) vs
then_ends m m' l l' vs after p (Passes last s t) =
    Passes last (λ cells delta key. ap l (p.source cells delta key) ∙ s cells delta key) (λ cells delta key asks. ap l' (p.new cells delta key asks) ∙ t cells delta key asks)
then_ends m m' l l' vs after p (Asks k last s t) =
    Asks k last (λ cells delta key. ap (λ r. (l r).key) (p.source cells delta key) ∙ s cells delta key) (λ cells delta key asks. ap l' (p.new cells delta key asks) ∙ t cells delta key asks)

-- the same for other functions that are equal
pub ends_as : (m n m' n' : Run → Run) (vs : List Value) → ((r : Run) → n r ≡ m r) → ((r : Run) → n' r ≡ m' r) → Ends m m' vs → Ends n n' vs
ends_as m n m' n' vs e e' (Passes last s t) =
    Passes last (λ cells delta key. e (run_of vs cells delta key) ∙ s cells delta key) (λ cells delta key asks. e' (ext false asks (run_of vs cells delta key)) ∙ t cells delta key asks)
ends_as m n m' n' vs e e' (Asks k last s t) =
    Asks k last (λ cells delta key. ap (λ (r : Run). r.key) (e (run_of vs cells delta key)) ∙ s cells delta key) (λ cells delta key asks. e' (ext false asks (run_of vs cells delta key)) ∙ t cells delta key asks)

pub passes_ends : (m m' : Run → Run) (vs after : List Value) → PassesTo m m' vs after → Ends m m' vs
passes_ends m m' vs after p = Passes after p.source p.new

module _ (n : ℕ) (few : n ≤ 256) (sc : Scope) (own : OwnFree sc.own) (fits : (name : Name) (g : Register) → named_register name sc.registers ≡ Some g → Within n g.first g.size)
    (f f' : Name → List Value → Run → Run) (g g' : Name → Run → Run × Bool)
    (called : (name : Name) (args : List Value) (asks : Bool) (r : Run) → f' name args (ext false asks r) ≡ ext false asks (f name args r))
    (applied : (name : Name) (asks : Bool) (r : Run) → g' name (ext false asks r) ≡ (ext false asks (g name r).0, (g name r).1))
    (reach : Reach)
    (calm_call : (name : Name) → reach.calls name ≡ false → (args : List Value) → IsStill (f name args))
    (calm_apply : (name : Name) → reach.applies name ≡ false → IsStillTest (g name))
    (kept_call : (name : Name) (args : List Value) → KeepsKey (f name args))
    (kept_apply : (name : Name) → KeepsKey (λ r. (g name r).0)) where
  abbrev C : Context
  C = record { scope = sc; call = f; apply = g }

  abbrev C' : Context
  C' = record { scope = lift (all_cells n) sc; call = f'; apply = g' }

  abbrev src : Source
  src = record { types = sc.types; registers = sc.registers }

  -- the source's statement, and what it becomes
  abbrev old : P4Stmt → Run → Run
  old s = run_stmt s C

  abbrev new : P4Stmt → Run → Run
  new s = in_turn (map run_stmt (rewrite_stmt src s).stmts) C'

  -- a calm statement passes
  still_passes : (s : P4Stmt) → (stmt_facts reach s).free ≡ true → (stmt_facts reach s).calm ≡ true → (stmt_facts reach s).keyless ≡ true → (vs : List Value) → PassesTo (old s) (new s) vs (old s (bare vs)).values
  still_passes s h c k vs =
      let still : IsStill (old s) = still_stmt sc f g reach calm_call calm_apply s c in
      let live : ((stmt_facts reach s).keyless || false) ≡ true = ap (λ (b : Bool). b || false) k in
      let simulated = (sim n few sc own fits false f f' g g' called applied reach s).1 h live in
      record {
        source = λ cells delta key. still (run_of vs cells delta key);
        new = λ cells delta key asks. simulated asks (run_of vs cells delta key) ∙ ap (ext false asks) (still (run_of vs cells delta key));
      }

  -- a `flow_key` sets the key
  record IsKeyStmt (s : P4Stmt) : Type 0 where
    is_key : (rewrite_stmt src s).is_key ≡ true
    key : List Value → List ℕ
    source : (vs : List Value) (cells : List ℕ) (delta : Delta) (k : Option (List ℕ)) → old s (run_of vs cells delta k) ≡ run_of vs cells delta (Some (key vs))
    rewritten : (vs : List Value) (cells : List ℕ) (delta : Delta) (k : Option (List ℕ)) (asks : Bool) → new s (ext false asks (run_of vs cells delta k)) ≡ ext false asks (run_of vs cells delta (Some (key vs)))

  record TailStmt (s : P4Stmt) : Type 0 where
    at_key : (stmt_facts reach s).is_key ≡ true → (stmt_facts reach s).free ≡ true → IsKeyStmt s
    no_key : (stmt_facts reach s).is_key ≡ false → (rewrite_stmt src s).is_key ≡ false
    ends : (stmt_facts reach s).free ≡ true → (stmt_facts reach s).tail ≡ true → (vs : List Value) → Ends (old s) (new s) vs

  abbrev TailBlock : P4Block → Type 0
  TailBlock b = (block_facts reach b).free ≡ true → (block_facts reach b).tail ≡ true → (vs : List Value) → Ends (run_block b C) (run_block (rewrite_block src b) C') vs

  abbrev TailIf : P4If → Type 0
  TailIf i = ((if_facts reach i).is_key ≡ false) × ((if_facts reach i).free ≡ true → (if_facts reach i).tail ≡ true → (vs : List Value) → Ends (run_if i C) (run_if (rewrite_if src i) C') vs)

  -- a statement without statements in it
  simple_tail : (s : P4Stmt) (x : Facts) (p : Piece) → stmt_facts reach s ≡ x → rewrite_stmt src s ≡ p → x.is_key ≡ false → p.is_key ≡ false → x.keyless ≡ true → x.tail ≡ x.calm → TailStmt s
  simple_tail s x p e e' h h' k t = record {
    at_key = λ y. absurd (false≢true (sym (ap (λ (z : Facts). z.is_key) e ∙ h) ∙ y));
    no_key = λ y. ap (λ (z : Piece). z.is_key) e' ∙ h';
    ends = λ y z vs.
        passes_ends (old s) (new s) vs _ (still_passes s y (ap (λ (w : Facts). w.calm) e ∙ sym t ∙ sym (ap (λ (w : Facts). w.tail) e) ∙ z) (ap (λ (w : Facts). w.keyless) e ∙ k) vs);
  }

  block_tail : (b : P4Block) → TailStmt (stmt.Block b)
  block_tail b =
      let e = facts-Block reach b in
      record {
        at_key = λ y. absurd (false≢true (sym (ap (λ (z : Facts). z.is_key) (facts-Block reach b)) ∙ y));
        no_key = λ y. ap (λ (z : Piece). z.is_key) (rewrite-Block src b);
        ends = λ y z vs.
            let hs = and_parts (block_facts reach b).calm (block_facts reach b).keyless (sym (ap (λ (w : Facts). w.tail) (facts-Block reach b)) ∙ z) in
            passes_ends (old (stmt.Block b)) (new (stmt.Block b)) vs _
            (still_passes (stmt.Block b) y (ap (λ (w : Facts). w.calm) (facts-Block reach b) ∙ hs.0) (ap (λ (w : Facts). w.keyless) (facts-Block reach b) ∙ hs.1) vs);
      }

  if_tail : (i : P4If) → TailIf i → TailStmt (stmt.If i)
  if_tail i p = record {
    at_key = λ y. absurd (false≢true (sym (ap (λ (z : Facts). z.is_key) (facts-If reach i) ∙ p.0) ∙ y));
    no_key = λ y. ap (λ (z : Piece). z.is_key) (rewrite-If src i);
    ends = λ y z vs.
        ends_as (run_if i C) (old (stmt.If i)) (run_if (rewrite_if src i) C') (new (stmt.If i)) vs
        (λ r. ap (λ (m : Context → Run → Run). m C r) (run-If i))
        (λ r. ap (λ (q : Piece). in_turn (map run_stmt q.stmts) C' r) (rewrite-If src i) ∙ ap (λ (m : Context → Run → Run). m C' r) (run-If (rewrite_if src i)))
        (p.1 (sym (ap (λ (w : Facts). w.free) (facts-If reach i)) ∙ y) (sym (ap (λ (w : Facts). w.tail) (facts-If reach i)) ∙ z) vs);
  }

  key_tail : (x : P4Keystmt) → TailStmt (stmt.Keystmt x)
  key_tail x = record {
    at_key = λ y free. record {
      is_key = ap (λ (z : Piece). z.is_key) (rewrite-Keystmt src x);
      key = λ vs. key_bytes (eval x.expr sc vs);
      source = λ vs cells delta k. rw (run-Keystmt x) refl;
      rewritten = λ vs cells delta k asks.
          rw (rewrite-Keystmt src x, run-Keystmt x, eval3 (all_cells n) sc own x.expr (sym (ap (λ (w : Facts). w.free) (facts-Keystmt reach x)) ∙ free) (truth false) (truth (is_dirty delta)) (truth asks) vs) refl;
    };
    no_key = λ y. absurd (false≢true (sym y ∙ ap (λ (z : Facts). z.is_key) (facts-Keystmt reach x)));
    ends = λ y z vs. absurd (false≢true (sym (ap (λ (w : Facts). w.tail) (facts-Keystmt reach x)) ∙ z));
  }

  -- ---- blocks

  kept_all : (ss : List P4Stmt) → all_keyless (map (stmt_facts reach) ss) ≡ true → KeepsKey (in_turn (map run_stmt ss) C)
  kept_all [] h r = refl
  kept_all (s ∷ ss) h r =
      let hs = and_parts (stmt_facts reach s).keyless (all_keyless (map (stmt_facts reach) ss)) h in
      kept_all ss hs.1 (old s r) ∙ kept_stmt sc f g reach kept_call kept_apply s hs.0 r

  abbrev rest_of : List P4Stmt → List P4Stmt
  rest_of ss = joined (map (rewrite_stmt src) ss)

  abbrev olds : List P4Stmt → Run → Run
  olds ss = in_turn (map run_stmt ss) C

  abbrev news : List P4Stmt → Run → Run
  news ss = in_turn (map run_stmt (rest_of ss)) C'

  -- what follows the new statements of one statement
  abbrev follow : Bool → List P4Stmt → List P4Stmt
  follow b ss = if b then held_only (rest_of ss) ∷ [] else rest_of ss

  news_cons : (s : P4Stmt) (ss : List P4Stmt) (b : Bool) → (rewrite_stmt src s).is_key ≡ b → (r : Run) → news (s ∷ ss) r ≡ in_turn (map run_stmt (follow b ss)) C' (new s r)
  news_cons s ss b e r =
      in_turn-append (rewrite_stmt src s).stmts (follow (rewrite_stmt src s).is_key ss) C' r
      ∙ ap (λ (x : Bool). in_turn (map run_stmt (follow x ss)) C' (new s r)) e

  at_flow_key : (s : P4Stmt) (ss : List P4Stmt) → IsKeyStmt s → all_keyless (map (stmt_facts reach) ss) ≡ true → (vs : List Value) → Ends (olds (s ∷ ss)) (news (s ∷ ss)) vs
  at_flow_key s ss k h vs =
      Asks (k.key vs) vs
      (λ cells delta key. kept_all ss h (old s (run_of vs cells delta key)) ∙ ap (λ (r : Run). r.key) (k.source vs cells delta key))
      (λ cells delta key asks.
      news_cons s ss true k.is_key (ext false asks (run_of vs cells delta key))
      ∙ ap (run_stmt (held_only (rest_of ss)) C') (k.rewritten vs cells delta key asks)
      ∙ run-body_asks (rest_of ss) n sc f' g' asks (run_of vs cells delta (Some (k.key vs))))

  tail_list : (ss : List P4Stmt) → AllByRecursion TailStmt ss → all_free (map (stmt_facts reach) ss) ≡ true → all_tail (map (stmt_facts reach) ss) ≡ true → (vs : List Value) → Ends (olds ss) (news ss) vs
  tail_list [] all h t vs = Passes vs (λ cells delta key. refl) (λ cells delta key asks. refl)
  tail_list (s ∷ []) all h t vs = last (stmt_facts reach s).is_key refl where
    hs : ((stmt_facts reach s).free ≡ true) × (true ≡ true)
    hs = and_parts (stmt_facts reach s).free true h

    last : (b : Bool) → (stmt_facts reach s).is_key ≡ b → Ends (olds (s ∷ [])) (news (s ∷ [])) vs
    last true e = at_flow_key s [] (all.0.at_key e hs.0) refl vs
    last false e =
        let t' : ((stmt_facts reach s).tail && true) ≡ true = sym (ap (λ (b : Bool). if b then true else (stmt_facts reach s).tail && true) e) ∙ t in
        ends_as (old s) (olds (s ∷ [])) (new s) (news (s ∷ [])) vs (λ r. refl) (news_cons s [] false (all.0.no_key e))
        (all.0.ends hs.0 (and_parts (stmt_facts reach s).tail true t').0 vs)
  tail_list (s ∷ s' ∷ ss) all h t vs = more (stmt_facts reach s).is_key refl (tail_list (s' ∷ ss) all.1 hs.1) where
    hs : ((stmt_facts reach s).free ≡ true) × (all_free (map (stmt_facts reach) (s' ∷ ss)) ≡ true)
    hs = and_parts (stmt_facts reach s).free (all_free (map (stmt_facts reach) (s' ∷ ss))) h

    more : (b : Bool) → (stmt_facts reach s).is_key ≡ b → (all_tail (map (stmt_facts reach) (s' ∷ ss)) ≡ true → (us : List Value) → Ends (olds (s' ∷ ss)) (news (s' ∷ ss)) us) → Ends (olds (s ∷ s' ∷ ss)) (news (s ∷ s' ∷ ss)) vs
    more true e again =
        at_flow_key s (s' ∷ ss) (all.0.at_key e hs.0)
        (sym (ap (λ (b : Bool). if b then all_keyless (map (stmt_facts reach) (s' ∷ ss)) else (stmt_facts reach s).calm && (stmt_facts reach s).keyless && all_tail (map (stmt_facts reach) (s' ∷ ss))) e) ∙ t) vs
    more false e again =
        let t' : ((stmt_facts reach s).calm && (stmt_facts reach s).keyless && all_tail (map (stmt_facts reach) (s' ∷ ss))) ≡ true =
        sym (ap (λ (b : Bool). if b then all_keyless (map (stmt_facts reach) (s' ∷ ss)) else (stmt_facts reach s).calm && (stmt_facts reach s).keyless && all_tail (map (stmt_facts reach) (s' ∷ ss))) e) ∙ t in
        let ts = and_parts ((stmt_facts reach s).calm && (stmt_facts reach s).keyless) (all_tail (map (stmt_facts reach) (s' ∷ ss))) t' in
        let ts' = and_parts (stmt_facts reach s).calm (stmt_facts reach s).keyless ts.0 in
        ends_as (λ r. olds (s' ∷ ss) (old s r)) (olds (s ∷ s' ∷ ss)) (λ r. news (s' ∷ ss) (new s r)) (news (s ∷ s' ∷ ss)) vs (λ r. refl) (news_cons s (s' ∷ ss) false (all.0.no_key e))
        (then_ends (old s) (new s) (olds (s' ∷ ss)) (news (s' ∷ ss)) vs (old s (bare vs)).values (still_passes s hs.0 ts'.0 ts'.1 vs) (again ts.1 (old s (bare vs)).values))

  tail_stmts : (at : ℕ) (ss : List P4Stmt) → AllByRecursion TailStmt ss → TailBlock (roll-P4Block (record { at = at; stmts = ss }))
  tail_stmts at ss all h t vs =
      ends_as (olds ss) (run_block (roll-P4Block (record { at = at; stmts = ss })) C) (news ss) (run_block (rewrite_block src (roll-P4Block (record { at = at; stmts = ss }))) C') vs
      (λ r. ap (λ (m : Context → Run → Run). m C r) (run-block at ss))
      (λ r. ap (λ (b : P4Block). run_block b C' r) (rewrite-block src at ss) ∙ ap (λ (m : Context → Run → Run). m C' r) (run-block at (rest_of ss)))
      (tail_list ss all (sym (ap (λ (y : Facts). y.free) (facts-block reach at ss)) ∙ h) (sym (ap (λ (y : Facts). y.tail) (facts-block reach at ss)) ∙ t) vs)

  -- ---- branches

  tail_else : (o : Option P4Block) → OfElse TailBlock o → (or_no_stmts (option_map (block_facts reach) o)).free ≡ true → (or_no_stmts (option_map (block_facts reach) o)).tail ≡ true → (vs : List Value)
      → Ends (or_nothing (option_map run_block o) C) (or_nothing (option_map run_block (option_map (rewrite_block src) o)) C') vs
  tail_else None p h t vs = Passes vs (λ cells delta key. refl) (λ cells delta key asks. refl)
  tail_else (Some b) p h t vs = p h t vs

  abbrev old_branch : P4Block → Option P4Block → Run × Bool → Run
  old_branch b o = branch (run_block b) (option_map run_block o) C

  abbrev new_branch : P4Block → Option P4Block → Run × Bool → Run
  new_branch b o = branch (run_block (rewrite_block src b)) (option_map run_block (option_map (rewrite_block src) o)) C'

  tail_branch : (b : P4Block) (o : Option P4Block) (vs : List Value) → Ends (run_block b C) (run_block (rewrite_block src b) C') vs
      → Ends (or_nothing (option_map run_block o) C) (or_nothing (option_map run_block (option_map (rewrite_block src) o)) C') vs
      → (hit : Bool) → Ends (λ r. old_branch b o (r, hit)) (λ r. new_branch b o (r, hit)) vs
  tail_branch b o vs p q true = p
  tail_branch b o vs p q false = q

  -- the end of a branch behind its condition
  behind_test : (c : P4Cond) (b : P4Block) (o : Option P4Block) (vs after : List Value) (hit : Bool)
      → ((cells : List ℕ) (delta : Delta) (key : Option (List ℕ)) → test c C (run_of vs cells delta key) ≡ (run_of after cells delta key, hit))
      → ((cells : List ℕ) (delta : Delta) (key : Option (List ℕ)) (asks : Bool) → test c C' (ext false asks (run_of vs cells delta key)) ≡ (ext false asks (run_of after cells delta key), hit))
      → Ends (λ r. old_branch b o (r, hit)) (λ r. new_branch b o (r, hit)) after
      → Ends (λ r. old_branch b o (test c C r)) (λ r. new_branch b o (test c C' r)) vs
  behind_test c b o vs after hit s t (Passes last u v) =
      Passes last (λ cells delta key. ap (old_branch b o) (s cells delta key) ∙ u cells delta key) (λ cells delta key asks. ap (new_branch b o) (t cells delta key asks) ∙ v cells delta key asks)
  behind_test c b o vs after hit s t (Asks k last u v) =
      Asks k last (λ cells delta key. ap (λ (x : Run × Bool). (old_branch b o x).key) (s cells delta key) ∙ u cells delta key) (λ cells delta key asks. ap (new_branch b o) (t cells delta key asks) ∙ v cells delta key asks)

  tail_parts : (at : ℕ) (c : P4Cond) (b : P4Block) (o : Option P4Block) → TailBlock b → OfElse TailBlock o → TailIf (roll-P4If (record { at = at; cond = c; then = b; else_ = o }))
  tail_parts at c b o p q = (ap (λ (y : Facts). y.is_key) (facts-if reach at c b o), λ h t vs. ends h t vs) where
    i : P4If
    i = roll-P4If (record { at = at; cond = c; then = b; else_ = o })

    ends : (if_facts reach (roll-P4If (record { at = at; cond = c; then = b; else_ = o }))).free ≡ true → (if_facts reach (roll-P4If (record { at = at; cond = c; then = b; else_ = o }))).tail ≡ true → (vs : List Value)
        → Ends (run_if (roll-P4If (record { at = at; cond = c; then = b; else_ = o })) C) (run_if (rewrite_if src (roll-P4If (record { at = at; cond = c; then = b; else_ = o }))) C') vs
    ends h t vs =
        let then_facts : Facts = block_facts reach b in
        let else_facts : Facts = or_no_stmts (option_map (block_facts reach) o) in
        let hs = and_parts (cond_free c && then_facts.free) else_facts.free (sym (ap (λ (y : Facts). y.free) (facts-if reach at c b o)) ∙ h) in
        let hs' = and_parts (cond_free c) then_facts.free hs.0 in
        let ts = and_parts (cond_calm reach c && then_facts.tail) else_facts.tail (sym (ap (λ (y : Facts). y.tail) (facts-if reach at c b o)) ∙ t) in
        let ts' = and_parts (cond_calm reach c) then_facts.tail ts.0 in
        let after : List Value = (test c C (bare vs)).0.values in
        let hit : Bool = (test c C (bare vs)).1 in
        let still : IsStillTest (test c C) = still_test sc f g reach calm_call calm_apply c ts'.0 in
        ends_as (λ r. old_branch b o (test c C r)) (run_if (roll-P4If (record { at = at; cond = c; then = b; else_ = o })) C)
        (λ r. new_branch b o (test c C' r)) (run_if (rewrite_if src (roll-P4If (record { at = at; cond = c; then = b; else_ = o }))) C') vs
        (λ r. ap (λ (m : Context → Run → Run). m C r) (run-if at c b o))
        (λ r. ap (λ (x : P4If). run_if x C' r) (rewrite-if src at c b o) ∙ ap (λ (m : Context → Run → Run). m C' r) (run-if at c (rewrite_block src b) (option_map (rewrite_block src) o)))
        (behind_test c b o vs after hit
        (λ cells delta key. still (run_of vs cells delta key))
        (λ cells delta key asks.
        sim_test n few sc own fits false f f' g g' called applied reach c hs'.0 asks (run_of vs cells delta key)
        ∙ ap (λ (x : Run × Bool). (ext false asks x.0, x.1)) (still (run_of vs cells delta key)))
        (tail_branch b o after (p hs'.1 ts'.1 after) (tail_else o q hs.1 ts.1 after) hit))

  tail_cases : StmtCases TailStmt TailBlock TailIf
  tail_cases = record {
    block = λ b p. block_tail b;
    var = λ v. simple_tail (stmt.Var v) _ _ (facts-Var reach v) (rewrite-Var src v) refl refl refl refl;
    assign = λ a. simple_tail (stmt.Assign a) _ _ (facts-Assign reach a) (rewrite-Assign src a) refl refl refl refl;
    read = λ x. simple_tail (stmt.Read x) _ _ (facts-Read reach x) (rewrite-Read src x) refl refl refl refl;
    write = λ x. simple_tail (stmt.Write x) _ _ (facts-Write reach x) (rewrite-Write src x) refl refl refl refl;
    keystmt = key_tail;
    valid = λ x. simple_tail (stmt.Valid x) _ _ (facts-Valid reach x) (rewrite-Valid src x) refl refl refl refl;
    apply = λ x. simple_tail (stmt.Apply x) _ _ (facts-Apply reach x) (rewrite-Apply src x) refl refl refl refl;
    callstmt = λ x. simple_tail (stmt.Callstmt x) _ _ (facts-Callstmt reach x) (rewrite-Callstmt src x) refl refl refl refl;
    branches = if_tail;
    stmts = tail_stmts;
    parts = tail_parts;
  }

  pub block_ends : (b : P4Block) → TailBlock b
  block_ends = block-ind TailStmt TailBlock TailIf tail_cases
