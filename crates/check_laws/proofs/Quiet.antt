-- Outside of tail blocks there is no `flow_key`, and where cells may not be reached none is.
use Rattle.std.proofs.Common.{◌≡◌, ℕ, Bool, true, false, List, [], ◌∷◌, length, map, option_map, Option, Some, None, refl, sym, ap, ◌∙◌, subst, ◌==◌}
use Rattle.std.specs.List.{AllByRecursion}
use Rattle.std.specs.Cmp.Derive.{both_true}
use Rattle.rp_base.specs.declared.refused.Why.TheVariants as why
use Rattle.p4_ast.specs.declared.statement.P4Keystmt.{P4Keystmt}
use Rattle.p4_ast.specs.declared.statement.P4Cond.{P4Cond}
use Rattle.p4_ast.specs.declared.statement.P4Stmt.{P4Stmt}
use Rattle.p4_ast.specs.declared.statement.P4Stmt.TheVariants as stmt
use Rattle.p4_ast.specs.declared.statement.P4Block.{P4Block, roll-P4Block}
use Rattle.p4_ast.specs.declared.statement.P4If.{P4If, roll-P4If}
use Rattle.p4_ast.proofs.Induction.{StmtCases, OfElse, stmt-ind, block-ind}
use Rattle.p4_scope.specs.declared.thing.Site.{Site}
use Rattle.p4_scope.specs.declared.thing.Site.TheVariants as site
use Rattle.p4_scope.specs.Faults.{Fault, first_of}
use Rattle.p4_scope.specs.Scopes.{Scope}
use Rattle.p4_scope.specs.FlowKeys.{key_fault, in_block, in_branch}
use Rattle.p4_typing.specs.declared.part.Typed.{Typed}
use Rattle.p4_typing.specs.Expressions.{typed, bits_alone}
use Rattle.p4_stmts.specs.Statements.{statement, block, if_, within, else_block, stmts, keystmt, key_width, cond_}
use Rattle.p4_stmts.proofs.Walks.{statement-Block, statement-Keystmt, statement-If}
use Rattle.app_meaning.specs.Premises.{Reach, Facts, all_keyless, all_calm, or_no_stmts, stmt_facts, block_facts, if_facts}
use Rattle.app_meaning.proofs.Facts.{facts-Block, facts-If, facts-block, facts-if}
use Rattle.check_laws.proofs.Clean.{clean_both, not_clean}
use Rattle.check_laws.proofs.Onward.{Within, within_then, sited}
use Rattle.check_laws.proofs.Blocks.{block-rolled, if-rolled, cond_within, statement_within, all_within, branch_within, maybe_branch_within}
use Rattle.check_laws.proofs.Lists.{stmts_front}
use Rattle.check_laws.proofs.Plain.{QuietAt, quiet_sooner, quiet_later, IsPlain, cond_quiet, cond_site, var_plain, assign_plain, read_plain, write_plain, valid_plain, apply_plain, callstmt_plain}

-- not directly in a tail block
abbrev pub NotTail : Site → Type 0
NotTail site.Tail = ⊥
NotTail p = Unit {0}

misplaced : (at : ℕ) (p : Site) → NotTail p → key_fault at p ≡ None → ⊥
misplaced at site.Tail n h = n
misplaced at site.Action n h = not_clean why.Key at h
misplaced at site.Body n h = not_clean why.Key at h
misplaced at site.Other n h = not_clean why.Key at h

pub not_tail_block : (p : Site) → NotTail (in_block p)
not_tail_block site.Tail = tt
not_tail_block site.Action = tt
not_tail_block site.Body = tt
not_tail_block site.Other = tt

not_tail_branch : (last : Bool) (p : Site) → NotTail p → NotTail (in_branch last p)
not_tail_branch true p n = n
not_tail_branch false p n = not_tail_block p

module _ (reach : Reach) where
  pub quiet_in_block : (p : Site) (s t : Scope) → QuietAt reach p s t → QuietAt reach (in_block p) s t
  quiet_in_block site.Tail s t q = q
  quiet_in_block site.Action s t q = q
  quiet_in_block site.Body s t q = q
  quiet_in_block site.Other s t q = q

  quiet_in_branch : (last : Bool) (p : Site) (s t : Scope) → QuietAt reach p s t → QuietAt reach (in_branch last p) s t
  quiet_in_branch true p s t q = q
  quiet_in_branch false p s t q = quiet_in_block p s t q

  quiet_around : (last : Bool) (p : Site) (s t : Scope) → QuietAt reach (in_branch last p) s t → QuietAt reach p s t
  quiet_around true p s t q = q
  quiet_around false site.Tail s t q = q
  quiet_around false site.Action s t q = q
  quiet_around false site.Body s t q = q
  quiet_around false site.Other s t q = q

  -- a part at another site, within a longer walk
  quiet_placed : (p : Site) (s t u v : Scope) → Within s t → (v.uses ≡ None → u.uses ≡ None) → QuietAt reach p s v → QuietAt reach p (record t { site = p }) u
  quiet_placed p s t u v h m q =
      quiet_later reach p s (record t { site = p }) u (within_then s t _ h (sited p t)).on (quiet_sooner reach p s u v m q)

  -- ---- what is known of parts

  pub record StmtQuiet (s : Scope) (r : Scope × P4Stmt) : Type 0 where
    pub site : r.0.site ≡ s.site
    pub key : (stmt_facts reach r.1).is_key ≡ false
    pub keyless : (stmt_facts reach r.1).keyless ≡ true
    pub calm : QuietAt reach s.site s r.0 → (stmt_facts reach r.1).calm ≡ true

  pub record BlockQuiet (s : Scope) (r : Scope × P4Block) : Type 0 where
    pub keyless : (block_facts reach r.1).keyless ≡ true
    pub calm : QuietAt reach s.site s r.0 → (block_facts reach r.1).calm ≡ true

  pub record IfQuiet (p : Site) (s : Scope) (r : Scope × P4If) : Type 0 where
    pub site : r.0.site ≡ s.site
    pub key : (if_facts reach r.1).is_key ≡ false
    pub keyless : (if_facts reach r.1).keyless ≡ true
    pub calm : QuietAt reach p s r.0 → (if_facts reach r.1).calm ≡ true

  pub record AllQuiet (s : Scope) (r : Scope × List P4Stmt) : Type 0 where
    pub keyless : all_keyless (map (stmt_facts reach) r.1) ≡ true
    pub calm : QuietAt reach s.site s r.0 → all_calm (map (stmt_facts reach) r.1) ≡ true

  abbrev OfStmt : P4Stmt → Type 0
  OfStmt x = (last : Bool) (s : Scope) → (statement x last s).0.fault ≡ None → NotTail s.site → StmtQuiet s (statement x last s)

  abbrev OfBlock : P4Block → Type 0
  OfBlock b = (s : Scope) → (block b s).0.fault ≡ None → NotTail s.site → BlockQuiet s (block b s)

  abbrev OfIf : P4If → Type 0
  OfIf i = (last : Bool) (s : Scope) → (if_ i last s).0.fault ≡ None → NotTail (in_branch last s.site) → IfQuiet (in_branch last s.site) s (if_ i last s)

  -- ---- statements

  of_plain : (s : Scope) (r : Scope × P4Stmt) → IsPlain reach s r → r.0.fault ≡ None → StmtQuiet s r
  of_plain s r p c = record { site = p.site; key = p.key; keyless = p.keyless; calm = p.calm c }

  of_keystmt : (k : P4Keystmt) → OfStmt (stmt.Keystmt k)
  of_keystmt k last s c n =
      let t : Typed = bits_alone (typed k.expr s) in
      let rest : Fault = first_of (key_width k.at t.form) (key_fault k.at s.site) in
      let h : (keystmt k s).0.fault ≡ None = sym (ap (λ (r : Scope × P4Stmt). r.0.fault) (statement-Keystmt k last s)) ∙ c in
      let a = clean_both s.fault (first_of t.fault rest) h in
      let b = clean_both t.fault rest a.1 in
      absurd (misplaced k.at s.site n (clean_both (key_width k.at t.form) (key_fault k.at s.site) b.1).1)

  of_block : (b : P4Block) → OfBlock b → OfStmt (stmt.Block b)
  of_block b h last s =
      let p : Site = in_block s.site in
      let v : Scope = record s { site = p } in
      let r : Scope × P4Block = block b v in
      let e = facts-Block reach r.1 in
      subst (λ (x : Scope × P4Stmt). x.0.fault ≡ None → NotTail s.site → StmtQuiet s x) (sym (statement-Block b last s))
      (λ c n.
      let g = h v c (not_tail_block s.site) in
      record {
        site = refl;
        key = ap (λ (x : Facts). x.is_key) e;
        keyless = ap (λ (x : Facts). x.keyless) e ∙ g.keyless;
        calm = λ q.
            ap (λ (x : Facts). x.calm) e
            ∙ g.calm (quiet_later reach p s v r.0 (sited p s).on (quiet_sooner reach p s r.0 _ (λ e. e) (quiet_in_block s.site s _ q)));
      })

  of_if : (i : P4If) → OfIf i → OfStmt (stmt.If i)
  of_if i h last s =
      let r : Scope × P4If = if_ i last s in
      let e = facts-If reach r.1 in
      subst (λ (x : Scope × P4Stmt). x.0.fault ≡ None → NotTail s.site → StmtQuiet s x) (sym (statement-If i last s))
      (λ c n.
      let g = h last s c (not_tail_branch last s.site n) in
      record {
        site = g.site;
        key = ap (λ (x : Facts). x.is_key) e ∙ g.key;
        keyless = ap (λ (x : Facts). x.keyless) e ∙ g.keyless;
        calm = λ q. ap (λ (x : Facts). x.calm) e ∙ g.calm (quiet_in_branch last s.site s r.0 q);
      })

  -- ---- blocks

  of_list : (xs : List P4Stmt) → AllByRecursion OfStmt xs → (s : Scope) → (stmts (map statement xs) s []).0.fault ≡ None → NotTail s.site → AllQuiet s (stmts (map statement xs) s [])
  of_list [] h s = λ c n. record { keyless = refl; calm = λ q. refl }
  of_list (x ∷ xs) h s =
      let last : Bool = length (map statement xs) == 0 in
      let r : Scope × P4Stmt = statement x last s in
      let rest : Scope × List P4Stmt = stmts (map statement xs) r.0 [] in
      let w : Within r.0 rest.0 = all_within xs r.0 [] in
      subst (λ (y : Scope × List P4Stmt). y.0.fault ≡ None → NotTail s.site → AllQuiet s y) (sym (stmts_front (statement x) (map statement xs) s))
      (λ c n.
      let g = h.0 last s (w.on.clean c) n in
      let k = of_list xs h.1 r.0 c (subst NotTail (sym g.site) n) in
      record {
        keyless = both_true g.keyless k.keyless;
        calm = λ q.
            both_true (g.calm (quiet_sooner reach s.site s r.0 rest.0 w.uses q))
            (k.calm (subst (λ (p : Site). QuietAt reach p r.0 rest.0) (sym g.site) (quiet_later reach s.site s r.0 rest.0 (statement_within x last s).on q)));
      })

  of_stmts : (at : ℕ) (ss : List P4Stmt) → AllByRecursion OfStmt ss → OfBlock (roll-P4Block (record { at = at; stmts = ss }))
  of_stmts at ss h s =
      let r : Scope × List P4Stmt = stmts (map statement ss) s [] in
      let e = facts-block reach at r.1 in
      subst (λ (y : Scope × P4Block). y.0.fault ≡ None → NotTail s.site → BlockQuiet s y) (sym (block-rolled at ss s))
      (λ c n.
      let g = of_list ss h s c n in
      record {
        keyless = ap (λ (x : Facts). x.keyless) e ∙ g.keyless;
        calm = λ q. ap (λ (x : Facts). x.calm) e ∙ g.calm (quiet_sooner reach s.site s r.0 _ (λ u. u) q);
      })

  -- ---- branches

  pub record ElseQuiet (p : Site) (s : Scope) (r : Scope × Option P4Block) : Type 0 where
    pub site : r.0.site ≡ s.site
    pub keyless : (or_no_stmts (option_map (block_facts reach) r.1)).keyless ≡ true
    pub calm : QuietAt reach p s r.0 → (or_no_stmts (option_map (block_facts reach) r.1)).calm ≡ true

  of_else : (p : Site) (o : Option P4Block) → OfElse OfBlock o → (s : Scope) → (else_block p (option_map block o) s).0.fault ≡ None → NotTail p → ElseQuiet p s (else_block p (option_map block o) s)
  of_else p None h s c n = record { site = refl; keyless = refl; calm = λ q. refl }
  of_else p (Some b) h s c n =
      let v : Scope = record s { site = p } in
      let r : Scope × P4Block = block b v in
      let g = h v c n in
      record {
        site = refl;
        keyless = g.keyless;
        calm = λ q. g.calm (quiet_later reach p s v r.0 (sited p s).on (quiet_sooner reach p s r.0 _ (λ u. u) q));
      }

  pub of_parts : (at : ℕ) (k : P4Cond) (b : P4Block) (o : Option P4Block) → OfBlock b → OfElse OfBlock o → OfIf (roll-P4If (record { at = at; cond = k; then = b; else_ = o }))
  of_parts at k b o h g last s =
      let p : Site = in_branch last s.site in
      let c : Scope × P4Cond = cond_ at k s in
      let v : Scope = record c.0 { site = p } in
      let r : Scope × P4Block = block b v in
      let t : Scope × P4Block = within p (block b) c.0 in
      let e : Scope × Option P4Block = else_block p (option_map block o) t.0 in
      let f = facts-if reach at c.1 t.1 e.1 in
      let wc : Within s c.0 = cond_within at k s in
      let wt : Within c.0 t.0 = branch_within p b c.0 in
      let we : Within t.0 e.0 = maybe_branch_within p o t.0 in
      subst (λ (y : Scope × P4If). y.0.fault ≡ None → NotTail p → IfQuiet p s y) (sym (if-rolled at k b o last s))
      (λ clean n.
      let at_then : t.0.fault ≡ None = we.on.clean clean in
      let ht = h v at_then n in
      let he = of_else p o g t.0 clean n in
      record {
        site = he.site ∙ cond_site at k s;
        key = ap (λ (x : Facts). x.is_key) f;
        keyless = ap (λ (x : Facts). x.keyless) f ∙ both_true ht.keyless he.keyless;
        calm = λ q.
            let qc = quiet_around last s.site s c.0 (quiet_sooner reach p s c.0 e.0 (λ u. wt.uses (we.uses u)) q) in
            let qt : QuietAt reach p v r.0 = quiet_placed p s c.0 r.0 e.0 wc we.uses q in
            let qe : QuietAt reach p t.0 e.0 = quiet_later reach p s t.0 e.0 (within_then s c.0 t.0 wc wt).on q in
            ap (λ (x : Facts). x.calm) f ∙ both_true (both_true (cond_quiet reach at k s c.0 (wt.on.clean at_then) qc) (ht.calm qt)) (he.calm qe);
      })

  quiet_cases : StmtCases OfStmt OfBlock OfIf
  quiet_cases = record {
    block = of_block;
    var = λ v last s c n. of_plain s _ (var_plain reach v last s) c;
    assign = λ a last s c n. of_plain s _ (assign_plain reach a last s) c;
    read = λ r last s c n. of_plain s _ (read_plain reach r last s) c;
    write = λ w last s c n. of_plain s _ (write_plain reach w last s) c;
    keystmt = of_keystmt;
    valid = λ v last s c n. of_plain s _ (valid_plain reach v last s) c;
    apply = λ a last s c n. of_plain s _ (apply_plain reach a last s) c;
    callstmt = λ k last s c n. of_plain s _ (callstmt_plain reach k last s) c;
    branches = of_if;
    stmts = of_stmts;
    parts = of_parts;
  }

  pub stmt_quiet : (x : P4Stmt) → OfStmt x
  stmt_quiet = stmt-ind OfStmt OfBlock OfIf quiet_cases

  pub block_quiet : (b : P4Block) → OfBlock b
  block_quiet = block-ind OfStmt OfBlock OfIf quiet_cases

  each_quiet : (xs : List P4Stmt) → AllByRecursion OfStmt xs
  each_quiet [] = tt
  each_quiet (x ∷ xs) = (stmt_quiet x, each_quiet xs)

  pub all_quiet : (xs : List P4Stmt) (s : Scope) → (stmts (map statement xs) s []).0.fault ≡ None → NotTail s.site → AllQuiet s (stmts (map statement xs) s [])
  all_quiet xs = of_list xs (each_quiet xs)

  pub else_quiet : (o : Option P4Block) → OfElse OfBlock o
  else_quiet None = tt
  else_quiet (Some b) = block_quiet b
