-- What a statement, a block and an `if` leave behind comes behind what was before.
use Rattle.std.proofs.Common.{◌≡◌, ℕ, zero, suc, Bool, true, false, List, [], ◌∷◌, length, map, Option, Some, None, is_some, option_map, refl, sym, ap, ◌∙◌, subst, ◌==◌}
use Rattle.std.specs.Prelude.{slice_get, slice_set}
use Rattle.std.specs.List.{AllByRecursion}
use Rattle.std.specs.Option.{option_map_or}
use Rattle.std.proofs.lemmas.Option.{none-some}
use Rattle.std.proofs.lemmas.List.{length-set}
use Rattle.rp_base.specs.declared.refused.Why.TheVariants as why
use Rattle.p4_ast.specs.declared.name.P4Name.{P4Name}
use Rattle.p4_ast.specs.declared.control.P4Var.{P4Var}
use Rattle.p4_ast.specs.declared.statement.P4Read.{P4Read}
use Rattle.p4_ast.specs.declared.statement.P4Write.{P4Write}
use Rattle.p4_ast.specs.declared.statement.P4Keystmt.{P4Keystmt}
use Rattle.p4_ast.specs.declared.statement.P4Callstmt.{P4Callstmt}
use Rattle.p4_ast.specs.declared.statement.P4Cond.{P4Cond}
use Rattle.p4_ast.specs.declared.statement.P4Cond.TheVariants as condition
use Rattle.p4_ast.specs.declared.statement.P4Stmt.{P4Stmt}
use Rattle.p4_ast.specs.declared.statement.P4Block.{P4Block, roll-P4Block, fold-roll-P4Block}
use Rattle.p4_ast.specs.declared.statement.P4If.{P4If, roll-P4If, fold-roll-P4If}
use Rattle.p4_ast.proofs.Induction.{StmtCases, OfElse, stmt-ind, block-ind}
use Rattle.p4_scope.specs.declared.thing.Thing.{Thing}
use Rattle.p4_scope.specs.declared.thing.Thing.TheVariants as thing
use Rattle.p4_scope.specs.declared.thing.Site.{Site}
use Rattle.p4_scope.specs.declared.thing.Site.TheVariants as site
use Rattle.p4_scope.specs.declared.thing.Action.{Action}
use Rattle.p4_scope.specs.declared.thing.Table.{Table}
use Rattle.p4_scope.specs.Faults.{fault, fault_if}
use Rattle.p4_scope.specs.Scopes.{Scope, find}
use Rattle.p4_scope.specs.FlowKeys.{in_block, in_branch, first_at, used_in, cell_used, reach_at, reach, apply_at, applying, action_uses, table_uses, called_in, called, applied_in, applied}
use Rattle.p4_stmts.specs.Statements.{WalkStmt, WalkBlock, WalkIf, stmt_step, block_step, if_step, statement, block, if_, within, else_block, stmts, var, read, write, keystmt, callstmt, apply, cond_}
use Rattle.p4_stmts.proofs.Walks.{statement-Block, statement-Var, statement-Assign, statement-Keystmt, statement-Read, statement-Write, statement-Valid, statement-Apply, statement-Callstmt, statement-If}
use Rattle.check_laws.proofs.Onward.{Within, within_then, same_within, itself, noted, sited, left, declared}

-- ---- cells, actions and tables

first_at_none : (q : Option ℕ) (at : ℕ) → first_at q (Some at) ≡ None → q ≡ None
first_at_none None at h = refl
first_at_none (Some p) at h = absurd (none-some _ (sym h))

used_within : (p : Site) (at : ℕ) (s : Scope) → Within s (used_in p at s)
used_within site.Action at s = same_within s (used_in site.Action at s) (λ e. e) refl refl refl refl (first_at_none s.uses at)
used_within site.Body at s = same_within s s (λ e. e) refl refl refl refl (λ e. e)
used_within site.Tail at s = noted (fault why.Key at) s
used_within site.Other at s = noted (fault why.Key at) s

pub cell_within : (at : ℕ) (t : Option Thing) (s : Scope) → Within s (cell_used at t s)
cell_within at (Some (thing.Cell k)) s = used_within s.site at s
cell_within at (Some (thing.Array k)) s = used_within s.site at s
cell_within at t s = itself s

-- an element that is replaced by one of which the same holds
module _ {X : Type 0} (f : X → Bool) where
  replaced : (xs : List X) (n : ℕ) (x y : X) → slice_get xs n ≡ Some x → f y ≡ f x → (k : ℕ) → option_map_or f (slice_get (slice_set xs n y) k) false ≡ option_map_or f (slice_get xs k) false
  replaced [] n x y h e k = refl
  replaced (z ∷ xs) zero x y h e zero = e ∙ ap (λ (o : Option X). option_map_or f o false) (sym h)
  replaced (z ∷ xs) zero x y h e (suc k) = refl
  replaced (z ∷ xs) (suc n) x y h e zero = refl
  replaced (z ∷ xs) (suc n) x y h e (suc k) = replaced xs n x y h e k

reached_uses : (n : ℕ) (xs : List Action) (k : ℕ) → action_uses (reach n xs) k ≡ action_uses xs k
reached_uses n xs k = by (slice_get xs n) refl
  where
    by : (o : Option Action) → slice_get xs n ≡ o → action_uses (reach_at n o xs) k ≡ action_uses xs k
    by None e = refl
    by (Some a) e = replaced (λ (x : Action). is_some x.uses) xs n a (record a { reached = true }) e refl k

reached_count : (n : ℕ) (xs : List Action) → length (reach n xs) ≡ length xs
reached_count n xs = by (slice_get xs n)
  where
    by : (o : Option Action) → length (reach_at n o xs) ≡ length xs
    by None = refl
    by (Some a) = length-set xs n (record a { reached = true })

applying_uses : (n : ℕ) (xs : List Table) (k : ℕ) → table_uses (applying n xs) k ≡ table_uses xs k
applying_uses n xs k = by (slice_get xs n) refl
  where
    by : (o : Option Table) → slice_get xs n ≡ o → table_uses (apply_at n o xs) k ≡ table_uses xs k
    by None e = refl
    by (Some a) e = replaced (λ (x : Table). x.uses) xs n a (record a { applied = true }) e refl k

called_in_within : (p : Site) (at n : ℕ) (s : Scope) → Within s (called_in p at n s)
called_in_within site.Body at n s = record {
  on = record {
    clean = λ e. e;
    names = (itself s).on.names;
    free = λ e r. r;
    actions = λ k e. reached_uses n s.actions k ∙ e;
    tables = λ k e. e;
  };
  cells = refl;
  count = reached_count n s.actions;
  uses = λ e. e;
}
called_in_within p at n s = noted (fault_if (action_uses s.actions n) why.Key at) s

pub called_within : (at : ℕ) (t : Option Thing) (s : Scope) → Within s (called at t s)
called_within at (Some (thing.Action n)) s = called_in_within s.site at n s
called_within at t s = itself s

applied_in_within : (p : Site) (at n : ℕ) (s : Scope) → Within s (applied_in p at n s)
applied_in_within site.Body at n s = record {
  on = record {
    clean = λ e. e;
    names = (itself s).on.names;
    free = λ e r. r;
    actions = λ k e. e;
    tables = λ k e. applying_uses n s.tables k ∙ e;
  };
  cells = refl;
  count = refl;
  uses = λ e. e;
}
applied_in_within p at n s = noted (fault_if (table_uses s.tables n) why.Key at) s

pub applied_within : (at : ℕ) (t : Option Thing) (s : Scope) → Within s (applied at t s)
applied_within at (Some (thing.Table n)) s = applied_in_within s.site at n s
applied_within at t s = itself s

-- ---- statements

pub var_within : (v : P4Var) (s : Scope) → Within s (var v s).0
var_within v s = within_then s _ _ (noted _ s) (declared v.name _ _)

read_within : (r : P4Read) (s : Scope) → Within s (read r s).0
read_within r s = within_then s _ _ (noted _ s) (cell_within r.at (find r.name.text s) _)

write_within : (w : P4Write) (s : Scope) → Within s (write w s).0
write_within w s = within_then s _ _ (noted _ s) (cell_within w.at (find w.name.text s) _)

keystmt_within : (k : P4Keystmt) (s : Scope) → Within s (keystmt k s).0
keystmt_within k s = within_then s _ _ (noted _ s) (sited _ _)

callstmt_within : (c : P4Callstmt) (s : Scope) → Within s (callstmt c s).0
callstmt_within c s = within_then s _ _ (noted _ s) (called_within c.at (find c.name.text s) _)

apply_within : (at : ℕ) (x : P4Name) (s : Scope) → Within s (apply at x s)
apply_within at x s = within_then s _ _ (noted _ s) (applied_within at (find x.text s) _)

pub cond_within : (at : ℕ) (c : P4Cond) (s : Scope) → Within s (cond_ at c s).0
cond_within at (condition.Expr e) s = noted _ s
cond_within at (condition.Apply a negated x outcome) s = apply_within at x s

pub placed_within : {A : Type 0} (p : Site) (walk : Scope → Scope × A) (s : Scope) → ((u : Scope) → Within u (walk u).0) → Within s (within p walk s).0
placed_within p walk s h = within_then s _ _ (sited p s) (within_then _ _ _ (h (record s { site = p })) (sited s.site _))

-- the equations of blocks and branches
pub block-rolled : (at : ℕ) (ss : List P4Stmt) (s : Scope) → block (roll-P4Block (record { at = at; stmts = ss })) s ≡ block_step (record { at = at; stmts = map statement ss }) s
block-rolled at ss s = ap (λ (f : WalkBlock). f s) (fold-roll-P4Block WalkStmt WalkBlock WalkIf stmt_step block_step if_step (record { at = at; stmts = ss }))

pub if-rolled : (at : ℕ) (c : P4Cond) (b : P4Block) (o : Option P4Block) (last : Bool) (s : Scope)
    → if_ (roll-P4If (record { at = at; cond = c; then = b; else_ = o })) last s ≡ if_step (record { at = at; cond = c; then = block b; else_ = option_map block o }) last s
if-rolled at c b None last s = ap (λ (f : WalkIf). f last s) (fold-roll-P4If WalkStmt WalkBlock WalkIf stmt_step block_step if_step (record { at = at; cond = c; then = b; else_ = None }))
if-rolled at c b (Some x) last s = ap (λ (f : WalkIf). f last s) (fold-roll-P4If WalkStmt WalkBlock WalkIf stmt_step block_step if_step (record { at = at; cond = c; then = b; else_ = Some x }))

abbrev StmtWithin : P4Stmt → Type 0
StmtWithin x = (last : Bool) (s : Scope) → Within s (statement x last s).0

abbrev BlockWithin : P4Block → Type 0
BlockWithin b = (s : Scope) → Within s (block b s).0

abbrev IfWithin : P4If → Type 0
IfWithin i = (last : Bool) (s : Scope) → Within s (if_ i last s).0

-- by an equation of the walk
by_equation : {A : Type 0} (s : Scope) (r q : Scope × A) → r ≡ q → Within s q.0 → Within s r.0
by_equation {A = A} s r q e h = subst (λ (x : Scope × A). Within s x.0) (sym e) h

stmts_within : (xs : List P4Stmt) → AllByRecursion StmtWithin xs → (s : Scope) (done : List P4Stmt) → Within s (stmts (map statement xs) s done).0
stmts_within [] h s done = itself s
stmts_within (x ∷ xs) h s done = within_then s _ _ (h.0 (length (map statement xs) == 0) s) (stmts_within xs h.1 _ _)

else_within : (p : Site) (o : Option P4Block) (s : Scope) → OfElse BlockWithin o → Within s (else_block p (option_map block o) s).0
else_within p None s h = itself s
else_within p (Some b) s h = placed_within p (block b) s h

cases : StmtCases StmtWithin BlockWithin IfWithin
cases = record {
  block = λ b h last s. by_equation s _ _ (statement-Block b last s) (placed_within (in_block s.site) (block b) s h);
  var = λ v last s. by_equation s _ _ (statement-Var v last s) (var_within v s);
  assign = λ a last s. by_equation s _ _ (statement-Assign a last s) (noted _ s);
  read = λ r last s. by_equation s _ _ (statement-Read r last s) (read_within r s);
  write = λ w last s. by_equation s _ _ (statement-Write w last s) (write_within w s);
  keystmt = λ k last s. by_equation s _ _ (statement-Keystmt k last s) (keystmt_within k s);
  valid = λ v last s. by_equation s _ _ (statement-Valid v last s) (noted _ s);
  apply = λ a last s. by_equation s _ _ (statement-Apply a last s) (apply_within a.at a.name s);
  callstmt = λ c last s. by_equation s _ _ (statement-Callstmt c last s) (callstmt_within c s);
  branches = λ i h last s. by_equation s _ _ (statement-If i last s) (h last s);
  stmts = λ at ss h s. by_equation s _ _ (block-rolled at ss s) (left s _ (stmts_within ss h s []));
  parts = λ at c b o h g last s.
      by_equation s _ _ (if-rolled at c b o last s)
      (within_then s _ _ (cond_within at c s)
      (within_then _ _ _ (placed_within (in_branch last s.site) (block b) _ h) (else_within (in_branch last s.site) o _ g)));
}

pub statement_within : (x : P4Stmt) (last : Bool) (s : Scope) → Within s (statement x last s).0
statement_within = stmt-ind StmtWithin BlockWithin IfWithin cases

pub block_within : (b : P4Block) (s : Scope) → Within s (block b s).0
block_within = block-ind StmtWithin BlockWithin IfWithin cases

pub all_within : (xs : List P4Stmt) (s : Scope) (done : List P4Stmt) → Within s (stmts (map statement xs) s done).0
all_within [] s done = itself s
all_within (x ∷ xs) s done = within_then s _ _ (statement_within x (length (map statement xs) == 0) s) (all_within xs _ _)

-- a block at a site of its own
pub branch_within : (p : Site) (b : P4Block) (s : Scope) → Within s (within p (block b) s).0
branch_within p b s = placed_within p (block b) s (block_within b)

-- the block behind `else`, if there is one
pub maybe_branch_within : (p : Site) (o : Option P4Block) (s : Scope) → Within s (else_block p (option_map block o) s).0
maybe_branch_within p None s = itself s
maybe_branch_within p (Some b) s = branch_within p b s
