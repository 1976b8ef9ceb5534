-- Where `rp` isn't visible no statement of a block without a fault names it.
use Rattle.std.proofs.Common.{◌≡◌, ℕ, Bool, true, ◌&&◌, List, [], ◌∷◌, ◌++◌, length, map, option_map, Option, Some, None, is_some, refl, sym, ap, ◌∙◌, subst, ◌==◌}
use Rattle.std.specs.List.{AllByRecursion}
use Rattle.std.specs.Cmp.Derive.{both_true}
use Rattle.std.proofs.lemmas.Bool.{not_from_false}
use Rattle.p4_ast.specs.declared.name.P4Name.{P4Name}
use Rattle.p4_ast.specs.declared.expression.P4Expr.{P4Expr}
use Rattle.p4_ast.specs.declared.control.P4Var.{P4Var}
use Rattle.p4_ast.specs.declared.statement.P4Assign.{P4Assign}
use Rattle.p4_ast.specs.declared.statement.P4Read.{P4Read}
use Rattle.p4_ast.specs.declared.statement.P4Write.{P4Write}
use Rattle.p4_ast.specs.declared.statement.P4Keystmt.{P4Keystmt}
use Rattle.p4_ast.specs.declared.statement.P4Callstmt.{P4Callstmt}
use Rattle.p4_ast.specs.declared.statement.P4Cond.{P4Cond}
use Rattle.p4_ast.specs.declared.statement.P4Cond.TheVariants as condition
use Rattle.p4_ast.specs.declared.statement.P4Stmt.{P4Stmt}
use Rattle.p4_ast.specs.declared.statement.P4Block.{P4Block, roll-P4Block}
use Rattle.p4_ast.specs.declared.statement.P4If.{P4If, roll-P4If}
use Rattle.p4_ast.proofs.Induction.{StmtCases, OfElse, block-ind}
use Rattle.p4_scope.specs.declared.kind.Kind.{Kind}
use Rattle.p4_scope.specs.declared.thing.Thing.{Thing}
use Rattle.p4_scope.specs.declared.thing.Thing.TheVariants as thing
use Rattle.p4_scope.specs.declared.thing.Site.{Site}
use Rattle.p4_scope.specs.Faults.{Fault, first_of, add}
use Rattle.p4_scope.specs.Scopes.{Scope, note, find, must_be}
use Rattle.p4_scope.specs.Types.{plain_kind}
use Rattle.p4_scope.specs.Paths.{header_path}
use Rattle.p4_scope.specs.FlowKeys.{key_fault, in_block, in_branch, is_action, params_of}
use Rattle.p4_typing.specs.declared.form.Form.{Form}
use Rattle.p4_typing.specs.declared.form.Form.TheVariants as form
use Rattle.p4_typing.specs.declared.part.Typed.{Typed}
use Rattle.p4_typing.specs.Expressions.{typed, bits_alone, at_place, form_of, left_form}
use Rattle.p4_typing.specs.Calls.{maybe_at, assign, asked_first, asked_rest, arg, args_for, asked, args}
use Rattle.p4_stmts.specs.Statements.{statement, block, if_, within, else_block, stmts, var, read, write, keystmt, callstmt, cond_, is_cell, first_form, second_form, read_form, suits, key_width, in_control}
use Rattle.p4_stmts.proofs.Walks.{statement-Block, statement-Var, statement-Assign, statement-Keystmt, statement-Read, statement-Write, statement-Valid, statement-Apply, statement-Callstmt, statement-If}
use Rattle.app_meaning.specs.Premises.{Reach, Facts, path_free, option_free, expr_free, exprs_free, cond_free, all_free, or_no_stmts, stmt_facts, block_facts, if_facts}
use Rattle.app_meaning.proofs.Facts.{facts-Block, facts-Var, facts-Assign, facts-Read, facts-Write, facts-Keystmt, facts-Valid, facts-Apply, facts-Callstmt, facts-If, facts-block, facts-if}
use Rattle.check_laws.proofs.Clean.{clean_both}
use Rattle.check_laws.proofs.Onward.{NoRp, Within, declared, new_name}
use Rattle.check_laws.proofs.Blocks.{block-rolled, if-rolled, cell_within, called_within, cond_within, statement_within, all_within, branch_within, maybe_branch_within}
use Rattle.check_laws.proofs.Lists.{stmts_front, all_last}
use Rattle.check_laws.proofs.FreeExprs.{placed_free, bits_free, left_free, header_free}

-- ---- expressions at places

pub maybe_free : (wanted : Form) (o : Option P4Expr) (s : Scope) → NoRp s → (maybe_at wanted o s).0 ≡ None → option_free (maybe_at wanted o s).1 ≡ true
maybe_free wanted None s n h = refl
maybe_free wanted (Some e) s n h = placed_free wanted e s n h

pub exprs_last : (es : List P4Expr) (e : P4Expr) → exprs_free es ≡ true → expr_free e ≡ true → exprs_free (es ++ e ∷ []) ≡ true
exprs_last = all_last expr_free exprs_free refl (λ x xs. refl)

args_behind : (ks : List Kind) (es : List P4Expr) (s : Scope) (done : Fault × List P4Expr) → NoRp s → (args_for ks es s done).0 ≡ None
    → (done.0 ≡ None) × (exprs_free done.1 ≡ true → exprs_free (args_for ks es s done).1 ≡ true)
args_behind ks [] s done n h = (h, λ k. k)
args_behind ks (e ∷ es) s done n h =
    let x : Fault × P4Expr = arg (asked_first ks) e s in
    let rest = args_behind (asked_rest ks) es s (add x done) n h in
    let p = clean_both done.0 x.0 rest.0 in
    (p.0, λ k. rest.1 (exprs_last done.1 x.1 k (placed_free (asked_first ks) e s n p.1)))

pub args_free : (x : P4Name) (ks : Option (List Kind)) (es : List P4Expr) (s : Scope) → NoRp s → (args x ks es s).0 ≡ None → exprs_free (args x ks es s).1 ≡ true
args_free x ks es s n h = (args_behind (asked x ks (length es)).0 es s ((asked x ks (length es)).1, []) n h).1 refl

-- ---- statements without statements in them

pub var_free : (v : P4Var) (s : Scope) → NoRp s → (var v s).0.fault ≡ None → (path_free (v.name.text ∷ []) && option_free (var v s).1.expr) ≡ true
var_free v s n h =
    let k : Fault × Kind = plain_kind v.at v.type_ s in
    let e : Fault × Option P4Expr = maybe_at (form_of k.1) v.expr s in
    let u : Scope = note (first_of k.0 e.0) s in
    let f = clean_both k.0 e.0 (clean_both s.fault (first_of k.0 e.0) ((declared v.name (thing.Var k.1) u).on.clean h)).1 in
    both_true (not_from_false _ (new_name v.name (thing.Var k.1) u h).own) (maybe_free (form_of k.1) v.expr s n f.1)

pub assigned_free : (a : P4Assign) (s : Scope) → NoRp s → (assign a s).0 ≡ None → (path_free (map (λ x. x.text) a.left.path.names) && expr_free (assign a s).1.expr) ≡ true
assigned_free a s n h =
    let l : Fault × Form = left_form a.left s in
    let t : Typed = at_place l.1 a.expr s in
    let f = clean_both l.0 t.fault h in
    both_true (left_free a.left s n f.0) (placed_free l.1 a.expr s n f.1)

read_free : (r : P4Read) (s : Scope) → NoRp s → (read r s).0.fault ≡ None → (path_free (map (λ x. x.text) r.left.path.names) && option_free (read r s).1.expr) ≡ true
read_free r s n h =
    let t : Option Thing = find r.name.text s in
    let l : Fault × Form = left_form r.left s in
    let k : Fault × Form = read_form r.at r.type_ t s in
    let named : Fault = must_be (is_cell (is_some r.expr) t) r.name t in
    let e : Fault × Option P4Expr = maybe_at (first_form true t) r.expr s in
    let rest : Fault = first_of e.0 (suits r.at l.1 k.1) in
    let found : Fault = first_of l.0 (first_of k.0 (first_of named rest)) in
    let a = clean_both s.fault found ((cell_within r.at t (note found s)).on.clean h) in
    let b = clean_both l.0 (first_of k.0 (first_of named rest)) a.1 in
    let c = clean_both named rest (clean_both k.0 (first_of named rest) b.1).1 in
    both_true (left_free r.left s n b.0) (maybe_free (first_form true t) r.expr s n (clean_both e.0 (suits r.at l.1 k.1) c.1).0)

write_free : (w : P4Write) (s : Scope) → NoRp s → (write w s).0.fault ≡ None → (expr_free (write w s).1.expr && option_free (write w s).1.second) ≡ true
write_free w s n h =
    let t : Option Thing = find w.name.text s in
    let named : Fault = must_be (is_cell (is_some w.second) t) w.name t in
    let x : Typed = at_place (first_form (is_some w.second) t) w.expr s in
    let y : Fault × Option P4Expr = maybe_at (second_form t) w.second s in
    let found : Fault = first_of named (first_of x.fault y.0) in
    let a = clean_both s.fault found ((cell_within w.at t (note found s)).on.clean h) in
    let b = clean_both x.fault y.0 (clean_both named (first_of x.fault y.0) a.1).1 in
    both_true (placed_free (first_form (is_some w.second) t) w.expr s n b.0) (maybe_free (second_form t) w.second s n b.1)

keystmt_free : (k : P4Keystmt) (s : Scope) → NoRp s → (keystmt k s).0.fault ≡ None → expr_free (keystmt k s).1.expr ≡ true
keystmt_free k s n h =
    let t : Typed = bits_alone (typed k.expr s) in
    let rest : Fault = first_of (key_width k.at t.form) (key_fault k.at s.site) in
    bits_free k.expr s n (clean_both t.fault rest (clean_both s.fault (first_of t.fault rest) h).1).0

callstmt_free : (k : P4Callstmt) (s : Scope) → NoRp s → (callstmt k s).0.fault ≡ None → exprs_free (callstmt k s).1.args ≡ true
callstmt_free k s n h =
    let t : Option Thing = find k.name.text s in
    let named : Fault = must_be (is_action t && in_control s.site) k.name t in
    let r : Fault × List P4Expr = args k.name (params_of t s) k.args s in
    let found : Fault = first_of named r.0 in
    let a = clean_both s.fault found ((called_within k.at t (note found s)).on.clean h) in
    args_free k.name (params_of t s) k.args s n (clean_both named r.0 a.1).1

condition_free : (at : ℕ) (k : P4Cond) (s : Scope) → NoRp s → (cond_ at k s).0.fault ≡ None → cond_free (cond_ at k s).1 ≡ true
condition_free at (condition.Expr e) s n h = placed_free form.Bool e s n (clean_both s.fault (at_place form.Bool e s).fault h).1
condition_free at (condition.Apply a negated x outcome) s n h = refl

-- ---- blocks

module _ (reach : Reach) where
  abbrev FreeStmt : Scope → Scope × P4Stmt → Type 0
  FreeStmt s r = NoRp s → r.0.fault ≡ None → (stmt_facts reach r.1).free ≡ true

  abbrev FreeBlock : Scope → Scope × P4Block → Type 0
  FreeBlock s r = NoRp s → r.0.fault ≡ None → (block_facts reach r.1).free ≡ true

  abbrev FreeIf : Scope → Scope × P4If → Type 0
  FreeIf s r = NoRp s → r.0.fault ≡ None → (if_facts reach r.1).free ≡ true

  abbrev FreeAll : Scope → Scope × List P4Stmt → Type 0
  FreeAll s r = NoRp s → r.0.fault ≡ None → all_free (map (stmt_facts reach) r.1) ≡ true

  abbrev OfStmt : P4Stmt → Type 0
  OfStmt x = (last : Bool) (s : Scope) → FreeStmt s (statement x last s)

  abbrev OfBlock : P4Block → Type 0
  OfBlock b = (s : Scope) → FreeBlock s (block b s)

  abbrev OfIf : P4If → Type 0
  OfIf i = (last : Bool) (s : Scope) → FreeIf s (if_ i last s)

  free_by : (s : Scope) (q r : Scope × P4Stmt) (f : Facts) → q ≡ r → stmt_facts reach r.1 ≡ f → (NoRp s → r.0.fault ≡ None → f.free ≡ true) → FreeStmt s q
  free_by s q r f e g h = subst (FreeStmt s) (sym e) (λ n c. ap (λ (x : Facts). x.free) g ∙ h n c)

  of_list : (xs : List P4Stmt) → AllByRecursion OfStmt xs → (s : Scope) → FreeAll s (stmts (map statement xs) s [])
  of_list [] h s = λ n c. refl
  of_list (x ∷ xs) h s =
      let last : Bool = length (map statement xs) == 0 in
      let r : Scope × P4Stmt = statement x last s in
      subst (FreeAll s) (sym (stmts_front (statement x) (map statement xs) s))
      (λ n c.
      let at_rest = (all_within xs r.0 []).on.clean c in
      both_true (h.0 last s n at_rest) (of_list xs h.1 r.0 ((statement_within x last s).on.free at_rest n) c))

  of_stmts : (at : ℕ) (ss : List P4Stmt) → AllByRecursion OfStmt ss → OfBlock (roll-P4Block (record { at = at; stmts = ss }))
  of_stmts at ss h s =
      subst (FreeBlock s) (sym (block-rolled at ss s)) (λ n c. ap (λ (x : Facts). x.free) (facts-block reach at (stmts (map statement ss) s []).1) ∙ of_list ss h s n c)

  of_else : (p : Site) (o : Option P4Block) → OfElse OfBlock o → (s : Scope) → NoRp s → (else_block p (option_map block o) s).0.fault ≡ None
      → (or_no_stmts (option_map (block_facts reach) (else_block p (option_map block o) s).1)).free ≡ true
  of_else p None h s n c = refl
  of_else p (Some b) h s n c = h (record s { site = p }) n c

  of_parts : (at : ℕ) (k : P4Cond) (b : P4Block) (o : Option P4Block) → OfBlock b → OfElse OfBlock o → OfIf (roll-P4If (record { at = at; cond = k; then = b; else_ = o }))
  of_parts at k b o h g last s =
      let p : Site = in_branch last s.site in
      let c : Scope × P4Cond = cond_ at k s in
      let t : Scope × P4Block = within p (block b) c.0 in
      let e : Scope × Option P4Block = else_block p (option_map block o) t.0 in
      let wt : Within c.0 t.0 = branch_within p b c.0 in
      subst (FreeIf s) (sym (if-rolled at k b o last s))
      (λ n clean.
      let at_then : t.0.fault ≡ None = (maybe_branch_within p o t.0).on.clean clean in
      let at_cond : c.0.fault ≡ None = wt.on.clean at_then in
      let nc : NoRp c.0 = (cond_within at k s).on.free at_cond n in
      ap (λ (x : Facts). x.free) (facts-if reach at c.1 t.1 e.1)
      ∙ both_true (both_true (condition_free at k s n at_cond) (h (record c.0 { site = p }) nc at_then)) (of_else p o g t.0 (wt.on.free at_then nc) clean))

  free_cases : StmtCases OfStmt OfBlock OfIf
  free_cases = record {
    block = λ b h last s. free_by s _ _ _ (statement-Block b last s) (facts-Block reach _) (λ n c. h (record s { site = in_block s.site }) n c);
    var = λ v last s. free_by s _ _ _ (statement-Var v last s) (facts-Var reach _) (var_free v s);
    assign = λ a last s. free_by s _ _ _ (statement-Assign a last s) (facts-Assign reach _) (λ n c. assigned_free a s n (clean_both s.fault (assign a s).0 c).1);
    read = λ r last s. free_by s _ _ _ (statement-Read r last s) (facts-Read reach _) (read_free r s);
    write = λ w last s. free_by s _ _ _ (statement-Write w last s) (facts-Write reach _) (write_free w s);
    keystmt = λ k last s. free_by s _ _ _ (statement-Keystmt k last s) (facts-Keystmt reach _) (keystmt_free k s);
    valid = λ v last s. free_by s _ _ _ (statement-Valid v last s) (facts-Valid reach _) (λ n c. header_free v.path s n (clean_both s.fault (header_path v.path s) c).1);
    apply = λ a last s. free_by s _ _ _ (statement-Apply a last s) (facts-Apply reach _) (λ n c. refl);
    callstmt = λ k last s. free_by s _ _ _ (statement-Callstmt k last s) (facts-Callstmt reach _) (callstmt_free k s);
    branches = λ i h last s. free_by s _ _ _ (statement-If i last s) (facts-If reach _) (h last s);
    stmts = of_stmts;
    parts = of_parts;
  }

  pub block_free : (b : P4Block) → OfBlock b
  block_free = block-ind OfStmt OfBlock OfIf free_cases
