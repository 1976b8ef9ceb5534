-- Flow keys: where they may stand, and which reads and writes of cells their bodies reach.
use Rattle.std.specs.Prelude.{ℕ, min, Bool, true, false, if◌then◌else◌, List, [], ◌∷◌, Option, Some, None, is_some, option_map, slice_get, slice_set}
use Rattle.std.specs.Option.{option_map_or}
use Rattle.rp_base.specs.declared.refused.Why.TheVariants as why
use Rattle.p4_scope.specs.declared.thing.Site.{Site}
use Rattle.p4_scope.specs.declared.thing.Site.TheVariants as site
use Rattle.p4_scope.specs.declared.thing.Action.{Action}
use Rattle.p4_scope.specs.declared.thing.Table.{Table}
use Rattle.p4_scope.specs.declared.kind.Kind.{Kind}
use Rattle.p4_scope.specs.declared.thing.Thing.{Thing}
use Rattle.p4_scope.specs.declared.thing.Thing.TheVariants as thing
use Rattle.p4_scope.specs.Faults.{Fault, fault, fault_if, first_in}
use Rattle.p4_scope.specs.Scopes.{Scope, note}

-- ---- places

-- a flow key may stand only directly in a tail block, in no body
abbrev pub key_fault : ℕ → Site → Fault
key_fault at site.Tail = None
key_fault at p = fault why.Key at

-- where the rest of a block stands: a misplaced flow key has no body
abbrev pub behind_key : Site → Site
behind_key site.Tail = site.Body
behind_key p = p

-- in a block that is a statement
abbrev pub in_block : Site → Site
in_block site.Tail = site.Other
in_block p = p

-- in a branch, of the last statement of a block or of another
abbrev pub in_branch : Bool → Site → Site
in_branch true p = p
in_branch false p = in_block p

-- ---- reads and writes of cells

-- the lesser place
abbrev pub first_at : Option ℕ → Option ℕ → Option ℕ
first_at None q = q
first_at (Some p) None = Some p
first_at (Some p) (Some q) = Some (min p q)

-- the statement at this place reads or writes a cell
abbrev pub used_in : Site → ℕ → Scope → Scope
used_in site.Action at s = record s { uses = first_at s.uses (Some at) }
used_in site.Body at s = s
used_in p at s = note (fault why.Key at) s

-- the statement at this place reads or writes what the name stands for
abbrev pub cell_used : ℕ → Option Thing → Scope → Scope
cell_used at (Some (thing.Cell k)) s = used_in s.site at s
cell_used at (Some (thing.Array k)) s = used_in s.site at s
cell_used at t s = s

-- ---- actions and tables

-- the actions, of which the nth, which is this one, is called by a body
abbrev pub reach_at : ℕ → Option Action → List Action → List Action
reach_at n None actions = actions
reach_at n (Some a) actions = slice_set actions n (record a { reached = true })

-- the actions, of which this one is called by a body
abbrev pub reach : ℕ → List Action → List Action
reach n actions = reach_at n (slice_get actions n) actions

-- the tables, of which the nth, which is this one, is applied by a body
abbrev pub apply_at : ℕ → Option Table → List Table → List Table
apply_at n None tables = tables
apply_at n (Some t) tables = slice_set tables n (record t { applied = true })

-- the tables, of which this one is applied by a body
abbrev pub applying : ℕ → List Table → List Table
applying n tables = apply_at n (slice_get tables n) tables

-- whether the action reads or writes a cell
abbrev pub action_uses : List Action → ℕ → Bool
action_uses actions n = option_map_or (λ a. is_some a.uses) (slice_get actions n) false

-- whether it is an action
abbrev pub is_action : Option Thing → Bool
is_action (Some (thing.Action n)) = true
is_action (Some thing.NoAction) = true
is_action t = false

-- whether it is a table
abbrev pub is_table : Option Thing → Bool
is_table (Some (thing.Table n)) = true
is_table t = false

-- the parameters of an action, where they are known
abbrev pub params_of : Option Thing → Scope → Option (List Kind)
params_of (Some (thing.Action n)) s = option_map (λ a. a.params) (slice_get s.actions n)
params_of (Some thing.NoAction) s = Some []
params_of t s = None

-- whether the table lists an action that reads or writes a cell
abbrev pub table_uses : List Table → ℕ → Bool
table_uses tables n = option_map_or (λ t. t.uses) (slice_get tables n) false

-- the statement at this place calls this action
abbrev pub called_in : Site → ℕ → ℕ → Scope → Scope
called_in site.Body at n s = record s { actions = reach n s.actions }
called_in p at n s = note (fault_if (action_uses s.actions n) why.Key at) s

-- the statement at this place calls what the name stands for
abbrev pub called : ℕ → Option Thing → Scope → Scope
called at (Some (thing.Action n)) s = called_in s.site at n s
called at t s = s

-- the statement at this place applies this table
abbrev pub applied_in : Site → ℕ → ℕ → Scope → Scope
applied_in site.Body at n s = record s { tables = applying n s.tables }
applied_in p at n s = note (fault_if (table_uses s.tables n) why.Key at) s

-- the statement at this place applies what the name stands for
abbrev pub applied : ℕ → Option Thing → Scope → Scope
applied at (Some (thing.Table n)) s = applied_in s.site at n s
applied at t s = s

-- ---- behind the control

-- the same of several actions
abbrev pub reach_all : List ℕ → List Action → List Action
reach_all [] actions = actions
reach_all (n ∷ ns) actions = reach_all ns (reach n actions)

-- the actions, with those reached that an applied table lists
abbrev pub reach_listed : List Table → List Action → List Action
reach_listed [] actions = actions
reach_listed (t ∷ ts) actions = reach_listed ts (reach_all (if t.applied then t.actions else []) actions)

-- the first read or write of a cell in an action that no body reaches
abbrev pub unreached : Action → Fault
unreached a = if a.reached then None else option_map_or (fault why.Key) a.uses None

-- behind the control: the reads and writes of cells in actions that no body reaches
abbrev pub closed : Scope → Scope
closed s =
    let actions : List Action = reach_listed s.tables s.actions in
    note (first_in unreached actions None) (record s { actions = actions })
