-- A tail block reaches cells only behind a `flow_key`, and behind one there is no other.
use Rattle.std.proofs.Common.{◌≡◌, ℕ, suc, arith, Bool, true, false, ◌&&◌, List, [], ◌∷◌, length, map, option_map, Option, Some, None, refl, sym, ap, ◌∙◌, subst, ◌==◌, if◌then◌else◌}
use Rattle.std.specs.List.{AllByRecursion}
use Rattle.std.proofs.lemmas.Grind.{common_steps}
use Rattle.std.specs.Cmp.Derive.{both_true}
use Rattle.std.proofs.lemmas.Bool.{false≢true}
use Rattle.p4_ast.specs.declared.statement.P4Keystmt.{P4Keystmt}
use Rattle.p4_ast.specs.declared.statement.P4Cond.{P4Cond}
use Rattle.p4_ast.specs.declared.statement.P4Stmt.{P4Stmt}
use Rattle.p4_ast.specs.declared.statement.P4Stmt.TheVariants as stmt
use Rattle.p4_ast.specs.declared.statement.P4Block.{P4Block, roll-P4Block}
use Rattle.p4_ast.specs.declared.statement.P4If.{P4If, roll-P4If}
use Rattle.p4_ast.proofs.Induction.{StmtCases, OfElse, block-ind}
use Rattle.p4_scope.specs.declared.thing.Site.{Site}
use Rattle.p4_scope.specs.declared.thing.Site.TheVariants as site
use Rattle.p4_scope.specs.Scopes.{Scope}
use Rattle.p4_scope.specs.FlowKeys.{behind_key, in_block}
use Rattle.p4_stmts.specs.Statements.{statement, block, if_, within, else_block, stmts, keystmt, cond_}
use Rattle.p4_stmts.proofs.Walks.{statement-Block, statement-Keystmt, statement-If}
use Rattle.app_meaning.specs.Premises.{Reach, Facts, all_keyless, all_tail, tail_or_calm, or_no_stmts, stmt_facts, block_facts, if_facts}
use Rattle.app_meaning.proofs.Facts.{facts-Block, facts-Keystmt, facts-If, facts-block, facts-if}
use Rattle.check_laws.proofs.Onward.{Within, within_then, sited}
use Rattle.check_laws.proofs.Blocks.{block-rolled, if-rolled, cond_within, statement_within, all_within, branch_within, maybe_branch_within}
use Rattle.check_laws.proofs.Lists.{stmts_front}
use Rattle.check_laws.proofs.Plain.{QuietAt, Covers, still_covers, quiet_later, IsPlain, cond_quiet, cond_site, var_plain, assign_plain, read_plain, write_plain, valid_plain, apply_plain, callstmt_plain}
use Rattle.check_laws.proofs.Quiet.{NotTail, not_tail_block, quiet_in_block, block_quiet, else_quiet, all_quiet, of_parts}

not_empty : (n : ℕ) → suc n == 0 ≡ false
not_empty n = grind (arith, common_steps)

module _ (reach : Reach) where
  -- what is known of a statement of a tail block, the last one or not
  pub data TailStmt (last : Bool) (s : Scope) (r : Scope × P4Stmt) : Type 0 where
    Key : (stmt_facts reach r.1).is_key ≡ true → r.0.site ≡ site.Body → TailStmt last s r
    Other : (stmt_facts reach r.1).is_key ≡ false → r.0.site ≡ site.Tail → (last ≡ true → (stmt_facts reach r.1).tail ≡ true)
        → (last ≡ false → ((stmt_facts reach r.1).calm && (stmt_facts reach r.1).keyless) ≡ true) → TailStmt last s r

  -- the same of a branch
  pub record TailIf (last : Bool) (s : Scope) (r : Scope × P4If) : Type 0 where
    pub site : r.0.site ≡ site.Tail
    pub key : (if_facts reach r.1).is_key ≡ false
    pub tail : last ≡ true → (if_facts reach r.1).tail ≡ true
    pub inner : last ≡ false → ((if_facts reach r.1).calm && (if_facts reach r.1).keyless) ≡ true

  abbrev OfStmt : P4Stmt → Type 0
  OfStmt x = (last : Bool) (s : Scope) → (statement x last s).0.fault ≡ None → s.site ≡ site.Tail → Covers reach s → TailStmt last s (statement x last s)

  abbrev OfBlock : P4Block → Type 0
  OfBlock b = (s : Scope) → (block b s).0.fault ≡ None → s.site ≡ site.Tail → Covers reach s → (block_facts reach (block b s).1).tail ≡ true

  abbrev OfIf : P4If → Type 0
  OfIf i = (last : Bool) (s : Scope) → (if_ i last s).0.fault ≡ None → s.site ≡ site.Tail → Covers reach s → TailIf last s (if_ i last s)

  -- in a tail block cells may not be reached
  quiet_tail : (s t : Scope) → s.site ≡ site.Tail → Covers reach s → QuietAt reach s.site s t
  quiet_tail s t e c = subst (λ (p : Site). QuietAt reach p s t) (sym e) c

  -- ---- statements

  of_plain : (last : Bool) (s : Scope) (r : Scope × P4Stmt) → IsPlain reach s r → r.0.fault ≡ None → s.site ≡ site.Tail → Covers reach s → TailStmt last s r
  of_plain last s r p c e k =
      let calm : (stmt_facts reach r.1).calm ≡ true = p.calm c (quiet_tail s r.0 e k) in
      Other p.key (p.site ∙ e) (λ l. p.tail ∙ calm) (λ l. both_true calm p.keyless)

  of_keystmt : (k : P4Keystmt) → OfStmt (stmt.Keystmt k)
  of_keystmt k last s =
      subst (λ (x : Scope × P4Stmt). x.0.fault ≡ None → s.site ≡ site.Tail → Covers reach s → TailStmt last s x) (sym (statement-Keystmt k last s))
      (λ c e q. Key (ap (λ (x : Facts). x.is_key) (facts-Keystmt reach (keystmt k s).1)) (ap behind_key e))

  of_block : (b : P4Block) → OfStmt (stmt.Block b)
  of_block b last s =
      let p : Site = in_block s.site in
      let v : Scope = record s { site = p } in
      let r : Scope × P4Block = block b v in
      let f = facts-Block reach r.1 in
      subst (λ (x : Scope × P4Stmt). x.0.fault ≡ None → s.site ≡ site.Tail → Covers reach s → TailStmt last s x) (sym (statement-Block b last s))
      (λ c e q.
      let g = block_quiet reach b v c (not_tail_block s.site) in
      let calm = g.calm (quiet_later reach p s v r.0 (sited p s).on (quiet_in_block reach s.site s r.0 (quiet_tail s r.0 e q))) in
      let both : ((block_facts reach r.1).calm && (block_facts reach r.1).keyless) ≡ true = both_true calm g.keyless in
      Other (ap (λ (x : Facts). x.is_key) f) e (λ l. ap (λ (x : Facts). x.tail) f ∙ both) (λ l. ap (λ (x : Facts). x.calm && x.keyless) f ∙ both))

  of_if : (i : P4If) → OfIf i → OfStmt (stmt.If i)
  of_if i h last s =
      let f = facts-If reach (if_ i last s).1 in
      subst (λ (x : Scope × P4Stmt). x.0.fault ≡ None → s.site ≡ site.Tail → Covers reach s → TailStmt last s x) (sym (statement-If i last s))
      (λ c e q.
      let g = h last s c e q in
      Other (ap (λ (x : Facts). x.is_key) f ∙ g.key) g.site (λ l. ap (λ (x : Facts). x.tail) f ∙ g.tail l) (λ l. ap (λ (x : Facts). x.calm && x.keyless) f ∙ g.inner l))

  -- ---- blocks

  abbrev Tail : Scope → Scope × List P4Stmt → Type 0
  Tail s y = y.0.fault ≡ None → s.site ≡ site.Tail → Covers reach s → all_tail (map (stmt_facts reach) y.1) ≡ true

  -- the last statement of a list, or one with others behind it
  last_or_calm : (xs : List P4Stmt) (s : Scope) (r : Scope × P4Stmt) → (length (map statement xs) == 0 ≡ true → (stmt_facts reach r.1).tail ≡ true)
      → (length (map statement xs) == 0 ≡ false → ((stmt_facts reach r.1).calm && (stmt_facts reach r.1).keyless) ≡ true)
      → tail_or_calm (stmt_facts reach r.1) (map (stmt_facts reach) (stmts (map statement xs) s []).1) ≡ true
  last_or_calm [] s r t i = t refl
  last_or_calm (x ∷ xs) s r t i =
      ap (λ (y : Scope × List P4Stmt). tail_or_calm (stmt_facts reach r.1) (map (stmt_facts reach) y.1)) (stmts_front (statement x) (map statement xs) s) ∙ i (not_empty (length (map statement xs)))

  of_list : (xs : List P4Stmt) → AllByRecursion OfStmt xs → (s : Scope) → Tail s (stmts (map statement xs) s [])
  of_list [] h s = λ c e q. refl
  of_list (x ∷ xs) h s =
      let last : Bool = length (map statement xs) == 0 in
      let r : Scope × P4Stmt = statement x last s in
      let rest : Scope × List P4Stmt = stmts (map statement xs) r.0 [] in
      let w : Within r.0 rest.0 = all_within xs r.0 [] in
      subst (Tail s) (sym (stmts_front (statement x) (map statement xs) s))
      (λ c e q. by (h.0 last s (w.on.clean c) e q) c (still_covers reach s r.0 (statement_within x last s).on q) (of_list xs h.1 r.0))
    where
      by : TailStmt (length (map statement xs) == 0) s (statement x (length (map statement xs) == 0) s)
          → (stmts (map statement xs) (statement x (length (map statement xs) == 0) s).0 []).0.fault ≡ None
          → Covers reach (statement x (length (map statement xs) == 0) s).0
          → Tail (statement x (length (map statement xs) == 0) s).0 (stmts (map statement xs) (statement x (length (map statement xs) == 0) s).0 [])
          → all_tail (stmt_facts reach (statement x (length (map statement xs) == 0) s).1
          ∷ map (stmt_facts reach) (stmts (map statement xs) (statement x (length (map statement xs) == 0) s).0 []).1) ≡ true
      by (Key k e) c q t =
          let r : Scope × P4Stmt = statement x (length (map statement xs) == 0) s in
          let fs : List Facts = map (stmt_facts reach) (stmts (map statement xs) r.0 []).1 in
          let f : Facts = stmt_facts reach r.1 in
          ap (λ (b : Bool). if b then all_keyless fs else tail_or_calm f fs && all_tail fs) k ∙ (all_quiet reach xs r.0 c (subst NotTail (sym e) tt)).keyless
      by (Other k e l i) c q t =
          let r : Scope × P4Stmt = statement x (length (map statement xs) == 0) s in
          let fs : List Facts = map (stmt_facts reach) (stmts (map statement xs) r.0 []).1 in
          let f : Facts = stmt_facts reach r.1 in
          ap (λ (b : Bool). if b then all_keyless fs else tail_or_calm f fs && all_tail fs) k ∙ both_true (last_or_calm xs r.0 r l i) (t c e q)

  of_stmts : (at : ℕ) (ss : List P4Stmt) → AllByRecursion OfStmt ss → OfBlock (roll-P4Block (record { at = at; stmts = ss }))
  of_stmts at ss h s =
      let r : Scope × List P4Stmt = stmts (map statement ss) s [] in
      subst (λ (y : Scope × P4Block). y.0.fault ≡ None → s.site ≡ site.Tail → Covers reach s → (block_facts reach y.1).tail ≡ true) (sym (block-rolled at ss s))
      (λ c e q. ap (λ (x : Facts). x.tail) (facts-block reach at r.1) ∙ of_list ss h s c e q)

  -- ---- branches

  of_else : (p : Site) (o : Option P4Block) → OfElse OfBlock o → (s : Scope) → (else_block p (option_map block o) s).0.fault ≡ None → p ≡ site.Tail → Covers reach s
      → ((else_block p (option_map block o) s).0.site ≡ s.site) × ((or_no_stmts (option_map (block_facts reach) (else_block p (option_map block o) s).1)).tail ≡ true)
  of_else p None h s c e q = (refl, refl)
  of_else p (Some b) h s c e q = (refl, h (record s { site = p }) c e (still_covers reach s _ (sited p s).on q))

  if_parts : (at : ℕ) (k : P4Cond) (b : P4Block) (o : Option P4Block) → OfBlock b → OfElse OfBlock o → OfIf (roll-P4If (record { at = at; cond = k; then = b; else_ = o }))
  if_parts at k b o h g true s =
      let p : Site = s.site in
      let c : Scope × P4Cond = cond_ at k s in
      let v : Scope = record c.0 { site = p } in
      let t : Scope × P4Block = within p (block b) c.0 in
      let e : Scope × Option P4Block = else_block p (option_map block o) t.0 in
      let f = facts-if reach at c.1 t.1 e.1 in
      let wc : Within s c.0 = cond_within at k s in
      let wt : Within c.0 t.0 = branch_within p b c.0 in
      let we : Within t.0 e.0 = maybe_branch_within p o t.0 in
      subst (λ (y : Scope × P4If). y.0.fault ≡ None → s.site ≡ site.Tail → Covers reach s → TailIf true s y) (sym (if-rolled at k b o true s))
      (λ clean same q.
      let at_then : t.0.fault ≡ None = we.on.clean clean in
      let ht = h v at_then same (still_covers reach s v (within_then s c.0 v wc (sited p c.0)).on q) in
      let he = of_else p o g t.0 clean same (still_covers reach s t.0 (within_then s c.0 t.0 wc wt).on q) in
      record {
        site = he.0 ∙ (cond_site at k s ∙ same);
        key = ap (λ (x : Facts). x.is_key) f;
        tail = λ l. ap (λ (x : Facts). x.tail) f ∙ both_true (both_true (cond_quiet reach at k s c.0 (wt.on.clean at_then) (quiet_tail s c.0 same q)) ht) he.1;
        inner = λ l. absurd (false≢true (sym l));
      })
  if_parts at k b o h g false s = λ c same q.
      let x = of_parts reach at k b o (block_quiet reach b) (else_quiet reach o) false s c (not_tail_block s.site) in
      record {
        site = x.site ∙ same;
        key = x.key;
        tail = λ l. absurd (false≢true l);
        inner = λ l. both_true (x.calm (quiet_in_block reach s.site s _ (quiet_tail s _ same q))) x.keyless;
      }

  tail_cases : StmtCases OfStmt OfBlock OfIf
  tail_cases = record {
    block = λ b h. of_block b;
    var = λ v last s. of_plain last s _ (var_plain reach v last s);
    assign = λ a last s. of_plain last s _ (assign_plain reach a last s);
    read = λ r last s. of_plain last s _ (read_plain reach r last s);
    write = λ w last s. of_plain last s _ (write_plain reach w last s);
    keystmt = of_keystmt;
    valid = λ v last s. of_plain last s _ (valid_plain reach v last s);
    apply = λ a last s. of_plain last s _ (apply_plain reach a last s);
    callstmt = λ k last s. of_plain last s _ (callstmt_plain reach k last s);
    branches = of_if;
    stmts = of_stmts;
    parts = if_parts;
  }

  pub block_tail : (b : P4Block) → OfBlock b
  block_tail = block-ind OfStmt OfBlock OfIf tail_cases
