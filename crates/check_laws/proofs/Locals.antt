-- What the declarations of a control leave behind, and how many cells they have.
use Rattle.std.proofs.Common.{◌≡◌, ◌≤◌, ◌+◌, ℕ, min, true, false, ◌||◌, List, [], ◌∷◌, ◌++◌, length, take, Option, Some, None, is_some, refl, sym, ap, ◌∙◌, subst, codes, arith, nat_lt, ◌==◌}
use Rattle.std.specs.Prelude.{slice_get, bytes_eq}
use Rattle.std.specs.Map.{lookup}
use Rattle.std.specs.Option.{option_map_or}
use Rattle.std.proofs.lemmas.List.{append-nil}
use Rattle.std.proofs.lemmas.Bool.{or_parts, ltb-false, false≢true}
use Rattle.std.proofs.Math.Seq.{take-append_seam}
use Rattle.rp_base.specs.declared.refused.Why.TheVariants as why
use Rattle.p4_ast.specs.declared.name.P4Name.{P4Name}
use Rattle.p4_ast.specs.declared.statement.P4Block.{P4Block}
use Rattle.p4_ast.specs.declared.declaration.P4Const.{P4Const}
use Rattle.p4_ast.specs.declared.declaration.P4Field.{P4Field}
use Rattle.p4_ast.specs.declared.control.P4Local.{P4Local}
use Rattle.p4_ast.specs.declared.control.P4Local.TheVariants as local
use Rattle.p4_ast.specs.declared.control.P4Cell.TheVariants as cell
use Rattle.p4_ast.specs.declared.control.P4Action.{P4Action}
use Rattle.p4_ast.specs.declared.table.P4Table.{P4Table}
use Rattle.p4_scope.specs.declared.kind.Kind.{Kind}
use Rattle.p4_scope.specs.declared.thing.Thing.{Thing}
use Rattle.p4_scope.specs.declared.thing.Thing.TheVariants as thing
use Rattle.p4_scope.specs.declared.thing.Site.TheVariants as site
use Rattle.p4_scope.specs.declared.thing.Action.{Action}
use Rattle.p4_scope.specs.declared.thing.Table.{Table}
use Rattle.p4_scope.specs.Faults.{Fault, first_of}
use Rattle.p4_scope.specs.Scopes.{Scope, note, declare, each}
use Rattle.p4_scope.specs.FlowKeys.{action_uses, table_uses}
use Rattle.p4_stmts.specs.Statements.{const_, var, block}
use Rattle.p4_tables.specs.declared.part.Parts.{Parts}
use Rattle.p4_tables.specs.Tables.{table, table_of, parts}
use Rattle.p4_check.specs.Programs.{cell_width, with_cells, cells_fault, cell_counted, cell_kind, action_param, action_left, action, local_}
use Rattle.app_meaning.specs.Programs.{cells_in}
use Rattle.check_laws.proofs.Clean.{clean_both, clean_if, get_front}
use Rattle.check_laws.proofs.Onward.{Within, Onward, within_then, onward_then, itself, noted, declared}
use Rattle.check_laws.proofs.Blocks.{var_within, block_within}
use Rattle.check_laws.proofs.Lists.{each_front, each_within}

pub const_within : (c : P4Const) (s : Scope) → Within s (const_ c s).0
const_within c s = within_then s _ _ (noted _ s) (declared c.name _ _)

-- ---- actions

pub param_within : (f : P4Field) (s : Scope) → Within s (action_param f s).0
param_within f s = within_then s _ _ (noted _ s) (declared f.name _ _)

pub params_within : (fs : List P4Field) (s : Scope) → Within s (each action_param fs s []).0
params_within fs s = each_within action_param param_within fs s []

-- an action's block begins in another place and with no use of a cell
onward_begun : (s : Scope) → Onward s (record s { site = site.Action; uses = None })
onward_begun s = record { clean = λ e. e; names = (itself s).on.names; free = λ e r. r; actions = λ n e. e; tables = λ n e. e }

-- from a scope with an action's name in it to the end of its block
pub action_inner : (a : P4Action) (u : Scope) → Onward u (block a.block (record (each action_param a.params u []).0 { site = site.Action; uses = None })).0
action_inner a u =
    let ks : Scope = (each action_param a.params u []).0 in
    let v : Scope = record ks { site = site.Action; uses = None } in
    onward_then u ks _ (params_within a.params u).on (onward_then ks v _ (onward_begun ks) (block_within a.block v).on)

uses_front : (xs ys : List Action) (n : ℕ) → action_uses xs n ≡ true → action_uses (xs ++ ys) n ≡ true
uses_front xs ys n h = by (slice_get xs n) refl h
  where
    by : (o : Option Action) → slice_get xs n ≡ o → option_map_or (λ (a : Action). is_some a.uses) o false ≡ true → action_uses (xs ++ ys) n ≡ true
    by None e f = absurd (false≢true f)
    by (Some a) e f = ap (λ (o : Option Action). option_map_or (λ (x : Action). is_some x.uses) o false) (get_front xs ys n a e) ∙ f

table_front : (xs ys : List Table) (n : ℕ) → table_uses xs n ≡ true → table_uses (xs ++ ys) n ≡ true
table_front xs ys n h = by (slice_get xs n) refl h
  where
    by : (o : Option Table) → slice_get xs n ≡ o → option_map_or (λ (a : Table). a.uses) o false ≡ true → table_uses (xs ++ ys) n ≡ true
    by None e f = absurd (false≢true f)
    by (Some a) e f = ap (λ (o : Option Table). option_map_or (λ (x : Table). x.uses) o false) (get_front xs ys n a e) ∙ f

left_onward : (u t : Scope) (ks : List Kind) → Onward u t → Onward u (action_left (length u.names) ks t)
left_onward u t ks h = record {
  clean = h.clean;
  names = ([], back ∙ sym (append-nil u.names));
  free = λ e r. ap (lookup (bytes_eq (codes "rp"))) back ∙ r;
  actions = λ n e. uses_front t.actions (record { params = ks; uses = t.uses; reached = false } ∷ []) n (h.actions n e);
  tables = h.tables;
}
  where
    back : take (length u.names) t.names ≡ u.names
    back = ap (take (length u.names)) h.names.1 ∙ take-append_seam u.names h.names.0

-- behind an action's name
abbrev pub named : P4Action → Scope → Scope
named a s = declare a.name (thing.Action (length s.actions)) s

-- where an action's block begins
abbrev pub begun : P4Action → Scope → Scope
begun a s = record (each action_param a.params (named a s) []).0 { site = site.Action; uses = None }

-- an action's block
abbrev pub body : P4Action → Scope → Scope × P4Block
body a s = block a.block (begun a s)

pub named_onward : (a : P4Action) (s : Scope) → Onward (named a s) (action a s).0
named_onward a s = left_onward (named a s) _ _ (action_inner a (named a s))

action_onward : (a : P4Action) (s : Scope) → Onward s (action a s).0
action_onward a s = onward_then s (named a s) _ (declared a.name (thing.Action (length s.actions)) s).on (named_onward a s)

-- behind an action's block there are as many actions as before it
pub body_count : (a : P4Action) (s : Scope) → length (body a s).0.actions ≡ length s.actions
body_count a s = (block_within a.block (begun a s)).count ∙ ((params_within a.params (named a s)).count ∙ (declared a.name (thing.Action (length s.actions)) s).count)

action_cells : (a : P4Action) (s : Scope) → (action a s).0.cells ≡ s.cells
action_cells a s = (block_within a.block (begun a s)).cells ∙ ((params_within a.params (named a s)).cells ∙ (declared a.name (thing.Action (length s.actions)) s).cells)

-- ---- tables

table_onward : (t : P4Table) (s : Scope) → Onward s (table t s).0
table_onward t s =
    let u : Scope = declare t.name (thing.Table (length s.tables)) s in
    let p : Parts = parts t u in
    onward_then s u _ (declared t.name (thing.Table (length s.tables)) s).on
    (record {
      clean = (noted p.fault u).on.clean;
      names = (itself u).on.names;
      free = λ e r. r;
      actions = λ n e. e;
      tables = λ n e. table_front u.tables (table_of p.actions u ∷ []) n e;
    })

table_cells : (t : P4Table) (s : Scope) → (table t s).0.cells ≡ s.cells
table_cells t s = (declared t.name (thing.Table (length s.tables)) s).cells

-- ---- cells

-- a cell or an array of n cells
counted_onward : (at n : ℕ) (k : Fault × Kind) (x : P4Name) (t : Thing) (s : Scope) → Onward s (cell_counted at n k x t (with_cells n s))
counted_onward at n k x t s =
    let u : Scope = with_cells n s in
    onward_then s u _ (record { clean = λ e. e; names = (itself s).on.names; free = λ e r. r; actions = λ n e. e; tables = λ n e. e })
    (within_then u _ _ (noted _ u) (declared x t _)).on

-- without a fault so many cells are counted, and they aren't too many
counted_cells : (at n : ℕ) (k : Fault × Kind) (x : P4Name) (t : Thing) (s : Scope) → (cell_counted at n k x t (with_cells n s)).fault ≡ None
    → ((cell_counted at n k x t (with_cells n s)).cells ≡ s.cells + n) × (s.cells + n ≤ 256)
counted_cells at n k x t s h =
    let u : Scope = with_cells n s in
    let few : Fault = cells_fault at n u in
    let found : Fault = first_of k.0 (first_of (cell_width at k.1) few) in
    let a = clean_both s.fault found ((declared x t (note found u)).on.clean h) in
    let b = clean_both k.0 (first_of (cell_width at k.1) few) a.1 in
    let c = clean_both (cell_width at k.1) few b.1 in
    let d = or_parts (n == 0) (nat_lt 256 u.cells) (clean_if ((n == 0) || nat_lt 256 u.cells) why.Cells at c.1) in
    let e : min 257 (s.cells + n) ≤ 256 = ltb-false 256 u.cells d.1 in
    ((declared x t (note found u)).cells ∙ omega (arith, e), omega (arith, e))

-- ---- all declarations

pub local_onward : (l : P4Local) (s : Scope) → Onward s (local_ l s).0
local_onward (local.Const c) s = (const_within c s).on
local_onward (local.Var v) s = (var_within v s).on
local_onward (local.Cell (cell.Cell at t x)) s = counted_onward at 1 (cell_kind at t s) x (thing.Cell (cell_kind at t s).1) s
local_onward (local.Cell (cell.Array at t n x)) s = counted_onward at n.value (cell_kind at t s) x (thing.Array (cell_kind at t s).1) s
local_onward (local.Action a) s = action_onward a s
local_onward (local.Table t) s = table_onward t s

pub locals_onward : (ls : List P4Local) (s : Scope) → Onward s (each local_ ls s []).0
locals_onward [] s = (itself s).on
locals_onward (l ∷ ls) s =
    subst (λ (x : Scope × List P4Local). Onward s x.0) (sym (each_front local_ l ls s)) (onward_then s _ _ (local_onward l s) (locals_onward ls (local_ l s).0))

-- the cells of a declaration are counted, and are few
abbrev Counted : P4Local → Scope → Scope × P4Local → Type 0
Counted l s r = r.0.fault ≡ None → s.cells ≤ 256 → (r.0.cells ≡ s.cells + cells_in (r.1 ∷ [])) × (r.0.cells ≤ 256)

local_cells : (l : P4Local) (s : Scope) → Counted l s (local_ l s)
local_cells (local.Const c) s h few = let e : (const_ c s).0.cells ≡ s.cells = (const_within c s).cells in (e ∙ omega arith, omega (arith, e, few))
local_cells (local.Var v) s h few = let e : (var v s).0.cells ≡ s.cells = (var_within v s).cells in (e ∙ omega arith, omega (arith, e, few))
local_cells (local.Cell (cell.Cell at t x)) s h few =
    let e = counted_cells at 1 (cell_kind at t s) x (thing.Cell (cell_kind at t s).1) s h in (e.0 ∙ omega arith, omega (arith, e.0, e.1))
local_cells (local.Cell (cell.Array at t n x)) s h few =
    let e = counted_cells at n.value (cell_kind at t s) x (thing.Array (cell_kind at t s).1) s h in (e.0 ∙ omega arith, omega (arith, e.0, e.1))
local_cells (local.Action a) s h few = let e : (action a s).0.cells ≡ s.cells = action_cells a s in (e ∙ omega arith, omega (arith, e, few))
local_cells (local.Table t) s h few = let e : (table t s).0.cells ≡ s.cells = table_cells t s in (e ∙ omega arith, omega (arith, e, few))

cells_front : (l : P4Local) (ls : List P4Local) → cells_in (l ∷ ls) ≡ cells_in (l ∷ []) + cells_in ls
cells_front (local.Const c) ls = omega arith
cells_front (local.Var v) ls = omega arith
cells_front (local.Cell c) ls = omega arith
cells_front (local.Action a) ls = omega arith
cells_front (local.Table t) ls = omega arith

pub locals_cells : (ls : List P4Local) (s : Scope) → (each local_ ls s []).0.fault ≡ None → s.cells ≤ 256
    → ((each local_ ls s []).0.cells ≡ s.cells + cells_in (each local_ ls s []).1) × ((each local_ ls s []).0.cells ≤ 256)
locals_cells [] s = λ h few. (omega arith, few)
locals_cells (l ∷ ls) s =
    let r : Scope × P4Local = local_ l s in
    let rest : Scope × List P4Local = each local_ ls r.0 [] in
    subst (λ (x : Scope × List P4Local). x.0.fault ≡ None → s.cells ≤ 256 → (x.0.cells ≡ s.cells + cells_in x.1) × (x.0.cells ≤ 256)) (sym (each_front local_ l ls s))
    (λ h few.
    let one = local_cells l s ((locals_onward ls r.0).clean h) few in
    let more = locals_cells ls r.0 h one.1 in
    (more.0 ∙ omega (arith, one.0, cells_front r.1 rest.1), more.1))
