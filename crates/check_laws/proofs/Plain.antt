-- Statements without statements in them, but for a `flow_key`: where cells may not be reached they reach none.
use Rattle.std.proofs.Common.{◌≡◌, ℕ, Bool, true, false, ◌&&◌, Option, Some, None, is_some, refl, sym, ap, ◌∙◌, subst}
use Rattle.std.proofs.lemmas.Bool.{not_from_false}
use Rattle.std.proofs.lemmas.Option.{none-some}
use Rattle.rp_base.specs.declared.refused.Why.TheVariants as why
use Rattle.p4_ast.specs.declared.name.P4Name.{P4Name}
use Rattle.p4_ast.specs.declared.control.P4Var.{P4Var}
use Rattle.p4_ast.specs.declared.statement.P4Assign.{P4Assign}
use Rattle.p4_ast.specs.declared.statement.P4Read.{P4Read}
use Rattle.p4_ast.specs.declared.statement.P4Write.{P4Write}
use Rattle.p4_ast.specs.declared.statement.P4Valid.{P4Valid}
use Rattle.p4_ast.specs.declared.statement.P4Apply.{P4Apply}
use Rattle.p4_ast.specs.declared.statement.P4Callstmt.{P4Callstmt}
use Rattle.p4_ast.specs.declared.statement.P4Cond.{P4Cond}
use Rattle.p4_ast.specs.declared.statement.P4Cond.TheVariants as condition
use Rattle.p4_ast.specs.declared.statement.P4Stmt.{P4Stmt}
use Rattle.p4_ast.specs.declared.statement.P4Stmt.TheVariants as stmt
use Rattle.p4_scope.specs.declared.thing.Thing.{Thing}
use Rattle.p4_scope.specs.declared.thing.Thing.TheVariants as thing
use Rattle.p4_scope.specs.declared.thing.Site.{Site}
use Rattle.p4_scope.specs.declared.thing.Site.TheVariants as site
use Rattle.p4_scope.specs.Faults.{Fault, first_of, fault, fault_if}
use Rattle.p4_scope.specs.Scopes.{Text, Scope, note, find, must_be}
use Rattle.p4_scope.specs.FlowKeys.{first_at, used_in, cell_used, action_uses, table_uses, called_in, called, applied_in, applied, is_action, is_table, params_of}
use Rattle.p4_typing.specs.declared.form.Form.{Form}
use Rattle.p4_typing.specs.Expressions.{at_place, left_form}
use Rattle.p4_typing.specs.Calls.{assign, maybe_at, args}
use Rattle.p4_stmts.specs.Statements.{statement, var, read, write, callstmt, apply, cond_, is_cell, first_form, second_form, read_form, suits, in_control}
use Rattle.p4_stmts.proofs.Walks.{statement-Var, statement-Assign, statement-Read, statement-Write, statement-Valid, statement-Apply, statement-Callstmt}
use Rattle.app_meaning.specs.Premises.{Reach, Facts, simple, stmt_facts, cond_calm}
use Rattle.app_meaning.proofs.Facts.{facts-Var, facts-Assign, facts-Read, facts-Write, facts-Valid, facts-Apply, facts-Callstmt}
use Rattle.check_laws.proofs.Clean.{clean_both, clean_if, not_clean}
use Rattle.check_laws.proofs.Onward.{Onward, still_found, noted, site_declared}
use Rattle.check_laws.proofs.Blocks.{cell_within}

-- ---- what a scope knows of reaching cells

-- the name stands for an action that reads or writes a cell
pub record IsUsing (s : Scope) (x : Text) : Type 0 where
  pub number : ℕ
  pub found : find x s ≡ Some (thing.Action number)
  pub uses : action_uses s.actions number ≡ true

-- the name stands for a table that lists such an action
pub record ListsUsing (s : Scope) (x : Text) : Type 0 where
  pub number : ℕ
  pub found : find x s ≡ Some (thing.Table number)
  pub uses : table_uses s.tables number ≡ true

-- each action and table that reaches cells is known to
pub record Covers (reach : Reach) (s : Scope) : Type 0 where
  pub calls : (x : Text) → reach.calls x ≡ true → IsUsing s x
  pub applies : (x : Text) → reach.applies x ≡ true → ListsUsing s x

pub still_using : (s t : Scope) → Onward s t → (x : Text) → IsUsing s x → IsUsing t x
still_using s t h x u = record { number = u.number; found = still_found s t h x (thing.Action u.number) u.found; uses = h.actions u.number u.uses }

pub still_listing : (s t : Scope) → Onward s t → (x : Text) → ListsUsing s x → ListsUsing t x
still_listing s t h x u = record { number = u.number; found = still_found s t h x (thing.Table u.number) u.found; uses = h.tables u.number u.uses }

pub still_covers : (reach : Reach) (s t : Scope) → Onward s t → Covers reach s → Covers reach t
still_covers reach s t h c = record { calls = λ x e. still_using s t h x (c.calls x e); applies = λ x e. still_listing s t h x (c.applies x e) }

-- nothing is called or applied
pub record ReachesNone (reach : Reach) : Type 0 where
  pub calls : (x : Text) → reach.calls x ≡ false
  pub applies : (x : Text) → reach.applies x ≡ false

-- What says that no cell is reached from the first scope to the second, by where they stand: in an action, that no use is noted;
-- outside of a flow key's body, that a use would be a fault.
abbrev pub QuietAt : Reach → Site → Scope → Scope → Type 0
QuietAt reach site.Action s t = ReachesNone reach × (t.uses ≡ None)
QuietAt reach site.Body s t = ⊥
QuietAt reach site.Tail s t = Covers reach s
QuietAt reach site.Other s t = Covers reach s

-- what holds up to a scope holds up to an earlier one
pub quiet_sooner : (reach : Reach) (p : Site) (s t u : Scope) → (u.uses ≡ None → t.uses ≡ None) → QuietAt reach p s u → QuietAt reach p s t
quiet_sooner reach site.Action s t u h q = (q.0, h q.1)
quiet_sooner reach site.Body s t u h q = q
quiet_sooner reach site.Tail s t u h q = q
quiet_sooner reach site.Other s t u h q = q

-- what holds from a scope on holds from a later one
pub quiet_later : (reach : Reach) (p : Site) (s t u : Scope) → Onward s t → QuietAt reach p s u → QuietAt reach p t u
quiet_later reach site.Action s t u h q = q
quiet_later reach site.Body s t u h q = q
quiet_later reach site.Tail s t u h q = still_covers reach s t h q
quiet_later reach site.Other s t u h q = still_covers reach s t h q

-- ---- cells, calls and applications

used_some : (q : Option ℕ) (at : ℕ) → first_at q (Some at) ≡ None → ⊥
used_some None at h = none-some _ (sym h)
used_some (Some p) at h = none-some _ (sym h)

module _ (reach : Reach) where
  used_quiet : (p : Site) (at : ℕ) (u : Scope) → (used_in p at u).fault ≡ None → QuietAt reach p u (used_in p at u) → ⊥
  used_quiet site.Action at u h q = used_some u.uses at q.1
  used_quiet site.Body at u h q = q
  used_quiet site.Tail at u h q = not_clean why.Key at (clean_both u.fault (fault why.Key at) h).1
  used_quiet site.Other at u h q = not_clean why.Key at (clean_both u.fault (fault why.Key at) h).1

  -- a read or a write isn't quiet
  cell_quiet : (indexed : Bool) (x : P4Name) (at : ℕ) (t : Option Thing) (u : Scope) → must_be (is_cell indexed t) x t ≡ None → (cell_used at t u).fault ≡ None
      → QuietAt reach u.site u (cell_used at t u) → ⊥
  cell_quiet indexed x at None u h f q = not_clean why.Unknown x.at h
  cell_quiet indexed x at (Some (thing.Cell k)) u h f q = used_quiet u.site at u f q
  cell_quiet indexed x at (Some (thing.Array k)) u h f q = used_quiet u.site at u f q
  cell_quiet indexed x at (Some t) u h f q = not_clean why.Kind x.at h

  -- outside of bodies an action that is called has no use
  call_covered : (p : Site) (at : ℕ) (x : Text) (u : Scope) → u.site ≡ p → ((n : ℕ) → (called_in p at n u).fault ≡ None → action_uses u.actions n ≡ false) → (called at (find x u) u).fault ≡ None → Covers reach u
      → reach.calls x ≡ false
  call_covered p at x u e off h q = by (reach.calls x) refl
    where
      by : (b : Bool) → reach.calls x ≡ b → b ≡ false
      by false r = refl
      by true r =
          let c = q.calls x r in
          sym c.uses ∙ off c.number (sym (ap (λ (o : Option Thing). (called at o u).fault) c.found ∙ ap (λ (y : Site). (called_in y at c.number u).fault) e) ∙ h)

  -- an action that is called reaches no cell
  call_quiet : (p : Site) (at : ℕ) (x : Text) (u t : Scope) → u.site ≡ p → (called at (find x u) u).fault ≡ None → QuietAt reach p u t → reach.calls x ≡ false
  call_quiet site.Action at x u t e h q = q.0.calls x
  call_quiet site.Body at x u t e h q = absurd q
  call_quiet site.Tail at x u t e h q = call_covered site.Tail at x u e (λ n f. clean_if (action_uses u.actions n) why.Key at (clean_both u.fault (fault_if (action_uses u.actions n) why.Key at) f).1) h q
  call_quiet site.Other at x u t e h q = call_covered site.Other at x u e (λ n f. clean_if (action_uses u.actions n) why.Key at (clean_both u.fault (fault_if (action_uses u.actions n) why.Key at) f).1) h q

  -- outside of bodies a table that is applied lists no such action
  applied_covered : (p : Site) (at : ℕ) (x : Text) (u : Scope) → u.site ≡ p → ((n : ℕ) → (applied_in p at n u).fault ≡ None → table_uses u.tables n ≡ false) → (applied at (find x u) u).fault ≡ None → Covers reach u
      → reach.applies x ≡ false
  applied_covered p at x u e off h q = by (reach.applies x) refl
    where
      by : (b : Bool) → reach.applies x ≡ b → b ≡ false
      by false r = refl
      by true r =
          let c = q.applies x r in
          sym c.uses ∙ off c.number (sym (ap (λ (o : Option Thing). (applied at o u).fault) c.found ∙ ap (λ (y : Site). (applied_in y at c.number u).fault) e) ∙ h)

  -- a table that is applied reaches no cell
  applied_quiet : (p : Site) (at : ℕ) (x : Text) (u t : Scope) → u.site ≡ p → (applied at (find x u) u).fault ≡ None → QuietAt reach p u t → reach.applies x ≡ false
  applied_quiet site.Action at x u t e h q = q.0.applies x
  applied_quiet site.Body at x u t e h q = absurd q
  applied_quiet site.Tail at x u t e h q = applied_covered site.Tail at x u e (λ n f. clean_if (table_uses u.tables n) why.Key at (clean_both u.fault (fault_if (table_uses u.tables n) why.Key at) f).1) h q
  applied_quiet site.Other at x u t e h q = applied_covered site.Other at x u e (λ n f. clean_if (table_uses u.tables n) why.Key at (clean_both u.fault (fault_if (table_uses u.tables n) why.Key at) f).1) h q

cell_site : (at : ℕ) (t : Option Thing) (s : Scope) → (cell_used at t s).site ≡ s.site
cell_site at (Some (thing.Cell k)) s = by s.site
  where
    by : (p : Site) → (used_in p at s).site ≡ s.site
    by site.Action = refl
    by site.Body = refl
    by p = refl
cell_site at (Some (thing.Array k)) s = by s.site
  where
    by : (p : Site) → (used_in p at s).site ≡ s.site
    by site.Action = refl
    by site.Body = refl
    by p = refl
cell_site at t s = refl

called_site : (at : ℕ) (t : Option Thing) (s : Scope) → (called at t s).site ≡ s.site
called_site at (Some (thing.Action n)) s = by s.site
  where
    by : (p : Site) → (called_in p at n s).site ≡ s.site
    by site.Body = refl
    by p = refl
called_site at t s = refl

applied_site : (at : ℕ) (t : Option Thing) (s : Scope) → (applied at t s).site ≡ s.site
applied_site at (Some (thing.Table n)) s = by s.site
  where
    by : (p : Site) → (applied_in p at n s).site ≡ s.site
    by site.Body = refl
    by p = refl
applied_site at t s = refl

-- ---- plain statements

apply_site : (at : ℕ) (x : P4Name) (s : Scope) → (apply at x s).site ≡ s.site
apply_site at x s = applied_site at (find x.text s) _

module _ (reach : Reach) where
  apply_quiet : (at : ℕ) (x : P4Name) (s t : Scope) → (apply at x s).fault ≡ None → QuietAt reach s.site s t → reach.applies x.text ≡ false
  apply_quiet at x s t c q =
      let named : Fault = must_be (is_table (find x.text s) && in_control s.site) x (find x.text s) in
      applied_quiet reach s.site at x.text (note named s) t refl c (quiet_later reach s.site s (note named s) t (noted named s).on q)

  -- a condition
  pub cond_quiet : (at : ℕ) (k : P4Cond) (s t : Scope) → (cond_ at k s).0.fault ≡ None → QuietAt reach s.site s t → cond_calm reach (cond_ at k s).1 ≡ true
  cond_quiet at (condition.Expr e) s t c q = refl
  cond_quiet at (condition.Apply a negated x outcome) s t c q = not_from_false (reach.applies x.text) (apply_quiet at x s t c q)

  -- what is known of a plain statement
  pub record IsPlain (s : Scope) (r : Scope × P4Stmt) : Type 0 where
    pub site : r.0.site ≡ s.site
    pub key : (stmt_facts reach r.1).is_key ≡ false
    pub keyless : (stmt_facts reach r.1).keyless ≡ true
    pub tail : (stmt_facts reach r.1).tail ≡ (stmt_facts reach r.1).calm
    pub calm : r.0.fault ≡ None → QuietAt reach s.site s r.0 → (stmt_facts reach r.1).calm ≡ true

  plain_by : (s : Scope) (q r : Scope × P4Stmt) (free calm : Bool) → q ≡ r → stmt_facts reach r.1 ≡ simple free calm → r.0.site ≡ s.site
      → (r.0.fault ≡ None → QuietAt reach s.site s r.0 → calm ≡ true) → IsPlain s q
  plain_by s q r free calm e f g h = subst (IsPlain s) (sym e) (record {
    site = g;
    key = ap (λ (x : Facts). x.is_key) f;
    keyless = ap (λ (x : Facts). x.keyless) f;
    tail = ap (λ (x : Facts). x.tail) f ∙ sym (ap (λ (x : Facts). x.calm) f);
    calm = λ c k. ap (λ (x : Facts). x.calm) f ∙ h c k;
  })

  pub var_plain : (v : P4Var) (last : Bool) (s : Scope) → IsPlain s (statement (stmt.Var v) last s)
  var_plain v last s = plain_by s _ _ _ _ (statement-Var v last s) (facts-Var reach (var v s).1) (site_declared v.name _ _) (λ c q. refl)

  pub assign_plain : (a : P4Assign) (last : Bool) (s : Scope) → IsPlain s (statement (stmt.Assign a) last s)
  assign_plain a last s = plain_by s _ _ _ _ (statement-Assign a last s) (facts-Assign reach (assign a s).1) refl (λ c q. refl)

  pub valid_plain : (v : P4Valid) (last : Bool) (s : Scope) → IsPlain s (statement (stmt.Valid v) last s)
  valid_plain v last s = plain_by s _ _ _ _ (statement-Valid v last s) (facts-Valid reach v) refl (λ c q. refl)

  pub read_plain : (r : P4Read) (last : Bool) (s : Scope) → IsPlain s (statement (stmt.Read r) last s)
  read_plain r last s =
      let t : Option Thing = find r.name.text s in
      let l : Fault × Form = left_form r.left s in
      let k : Fault × Form = read_form r.at r.type_ t s in
      let named : Fault = must_be (is_cell (is_some r.expr) t) r.name t in
      let rest : Fault = first_of (maybe_at (first_form true t) r.expr s).0 (suits r.at l.1 k.1) in
      let found : Fault = first_of l.0 (first_of k.0 (first_of named rest)) in
      let u : Scope = note found s in
      plain_by s _ _ _ _ (statement-Read r last s) (facts-Read reach (read r s).1) (cell_site r.at t u)
      (λ c q.
      let a = clean_both s.fault found ((cell_within r.at t u).on.clean c) in
      let b = clean_both l.0 (first_of k.0 (first_of named rest)) a.1 in
      let d = clean_both k.0 (first_of named rest) b.1 in
      let e = clean_both named rest d.1 in
      absurd (cell_quiet reach (is_some r.expr) r.name r.at t u e.0 c (quiet_later reach s.site s u (cell_used r.at t u) (noted found s).on q)))

  pub write_plain : (w : P4Write) (last : Bool) (s : Scope) → IsPlain s (statement (stmt.Write w) last s)
  write_plain w last s =
      let t : Option Thing = find w.name.text s in
      let named : Fault = must_be (is_cell (is_some w.second) t) w.name t in
      let rest : Fault = first_of (at_place (first_form (is_some w.second) t) w.expr s).fault (maybe_at (second_form t) w.second s).0 in
      let found : Fault = first_of named rest in
      let u : Scope = note found s in
      plain_by s _ _ _ _ (statement-Write w last s) (facts-Write reach (write w s).1) (cell_site w.at t u)
      (λ c q.
      let a = clean_both s.fault found ((cell_within w.at t u).on.clean c) in
      let b = clean_both named rest a.1 in
      absurd (cell_quiet reach (is_some w.second) w.name w.at t u b.0 c (quiet_later reach s.site s u (cell_used w.at t u) (noted found s).on q)))

  pub apply_plain : (a : P4Apply) (last : Bool) (s : Scope) → IsPlain s (statement (stmt.Apply a) last s)
  apply_plain a last s =
      plain_by s _ _ _ _ (statement-Apply a last s) (facts-Apply reach a) (apply_site a.at a.name s)
      (λ c q. not_from_false (reach.applies a.name.text) (apply_quiet a.at a.name s (apply a.at a.name s) c q))

  pub callstmt_plain : (k : P4Callstmt) (last : Bool) (s : Scope) → IsPlain s (statement (stmt.Callstmt k) last s)
  callstmt_plain k last s =
      let t : Option Thing = find k.name.text s in
      let named : Fault = must_be (is_action t && in_control s.site) k.name t in
      let found : Fault = first_of named (args k.name (params_of t s) k.args s).0 in
      let u : Scope = note found s in
      plain_by s _ _ _ _ (statement-Callstmt k last s) (facts-Callstmt reach (callstmt k s).1) (called_site k.at t u)
      (λ c q. not_from_false (reach.calls k.name.text) (call_quiet reach s.site k.at k.name.text u (called k.at t u) refl c (quiet_later reach s.site s u (called k.at t u) (noted found s).on q)))

pub cond_site : (at : ℕ) (k : P4Cond) (s : Scope) → (cond_ at k s).0.site ≡ s.site
cond_site at (condition.Expr e) s = refl
cond_site at (condition.Apply a negated x outcome) s = apply_site at x s
