-- The parser: its parameters, its states and how they lead to one another.
use Rattle.std.specs.Prelude.{ℕ, ◌+◌, Bool, true, false, not, List, [], ◌∷◌, ◌++◌, Option, Some, None, bytes_eq, codes}
use Rattle.std.specs.Map.{lookup}
use Rattle.std.specs.Option.{option_map_or}
use Rattle.rp_base.specs.declared.refused.Why.TheVariants as why
use Rattle.p4_ast.specs.declared.name.P4Name.{P4Name}
use Rattle.p4_ast.specs.declared.expression.P4Expr.{P4Expr}
use Rattle.p4_ast.specs.declared.parser.P4Parser.{P4Parser}
use Rattle.p4_ast.specs.declared.parser.P4State.{P4State}
use Rattle.p4_ast.specs.declared.parser.P4Step.{P4Step}
use Rattle.p4_ast.specs.declared.parser.P4Step.TheVariants as step
use Rattle.p4_ast.specs.declared.parser.P4Target.{P4Target}
use Rattle.p4_ast.specs.declared.parser.P4Target.TheVariants as target
use Rattle.p4_ast.specs.declared.parser.P4Case.{P4Case}
use Rattle.p4_ast.specs.declared.table.P4Match.TheVariants as matching
use Rattle.p4_scope.specs.declared.kind.Kind.TheVariants as kind
use Rattle.p4_scope.specs.declared.thing.Thing.{Thing}
use Rattle.p4_scope.specs.declared.thing.Thing.TheVariants as thing
use Rattle.p4_typing.specs.declared.part.Typed.{Typed}
use Rattle.p4_tables.specs.declared.part.Key.{Key}
use Rattle.p4_tables.specs.declared.part.Matched.{Matched}
use Rattle.p4_check.specs.declared.part.Selected.{Selected}
use Rattle.p4_check.specs.declared.part.States.{States}
use Rattle.p4_scope.specs.Index.{is_there, keeping}
use Rattle.p4_scope.specs.Faults.{Fault, first_of, fault_if, every}
use Rattle.p4_scope.specs.Scopes.{Text, Scope, note, find, declare, leave, must_be}
use Rattle.p4_scope.specs.Paths.{header_path}
use Rattle.p4_scope.specs.Params.{parser_param}
use Rattle.p4_typing.specs.Expressions.{typed, bits_alone}
use Rattle.p4_typing.specs.Calls.{assign}
use Rattle.p4_tables.specs.Entries.{keyset_matched}
use Rattle.p4_cycles.specs.Graphs.{Graph, leads_back}

-- ---- the names of states

-- before the first state: where a parser ends, by number 0
abbrev pub no_states : States
no_states = record { fault = None; names = (codes "accept", 0) ∷ (codes "reject", 0) ∷ []; next = 1 }

-- states with another: of two of one name the first counts, and none is called as an end
abbrev pub with_state : P4Name → States → States
with_state x ts = record {
  fault = first_of ts.fault (fault_if (is_there x.text ts.names) why.Twice x.at);
  names = keeping x.text ts.next ts.names;
  next = ts.next + 1;
}

-- states, behind others
abbrev pub named_states : List P4State → States → States
named_states [] ts = ts
named_states (x ∷ xs) ts = named_states xs (with_state x.name ts)

-- the number of the state of this name; what isn't declared leads nowhere, as an end does
abbrev pub number : List (Text × ℕ) → P4Name → ℕ
number names x = option_map_or (λ n. n) (lookup (bytes_eq x.text) names) 0

-- ---- how states lead to one another

-- the numbers of the targets of cases, behind others
abbrev pub case_numbers : List (Text × ℕ) → List P4Case → List ℕ → List ℕ
case_numbers names [] ns = ns
case_numbers names (c ∷ cs) ns = case_numbers names cs (ns ++ number names c.name ∷ [])

-- the numbers to which a target leads
abbrev pub target_numbers : List (Text × ℕ) → P4Target → List ℕ
target_numbers names (target.Name at x) = number names x ∷ []
target_numbers names (target.Select at es cs) = case_numbers names cs []

-- the graph of states, behind that of others
abbrev pub graph_of : List (Text × ℕ) → List P4State → Graph → Graph
graph_of names [] g = g
graph_of names (t ∷ ts) g = graph_of names ts (g ++ target_numbers names t.target ∷ [])

-- the graph of all states: an end leads nowhere
abbrev pub graph : List (Text × ℕ) → List P4State → Graph
graph names ts = graph_of names ts ([] ∷ [])

-- a name whose state can lead back to itself, behind another fault
abbrev pub cycle_at : Graph → List (Text × ℕ) → P4Name → Fault → Fault
cycle_at g names x found = first_of found (fault_if (leads_back g (number names x)) why.Cycle x.at)

-- the targets of cases whose states can lead back, behind another fault
abbrev pub case_cycles : Graph → List (Text × ℕ) → List P4Case → Fault → Fault
case_cycles g names [] found = found
case_cycles g names (c ∷ cs) found = case_cycles g names cs (cycle_at g names c.name found)

-- the names of a target whose states can lead back, behind another fault
abbrev pub target_cycles : Graph → List (Text × ℕ) → P4Target → Fault → Fault
target_cycles g names (target.Name at x) found = cycle_at g names x found
target_cycles g names (target.Select at es cs) found = case_cycles g names cs found

-- the first name whose state can lead back, behind another fault
abbrev pub cycles : Graph → List (Text × ℕ) → List P4State → Fault → Fault
cycles g names [] found = found
cycles g names (t ∷ ts) found = cycles g names ts (target_cycles g names t.target found)

-- ---- what stands in states

-- a part as one of several kinds
abbrev pub step_as : {A : Type 0} → (A → P4Step) → Fault × A → Fault × P4Step
step_as f r = (r.0, f r.1)

-- whether it is the packet
abbrev pub is_packet : Option Thing → Bool
is_packet (Some thing.Packet) = true
is_packet t = false

-- a statement of a state
abbrev pub state_step : Scope → P4Step → Fault × P4Step
state_step s (step.Extract e) =
    let t : Option Thing = find e.name.text s in
    (first_of (must_be (is_packet t) e.name t) (header_path e.path s), step.Extract e)
state_step s (step.Assign a) = step_as step.Assign (assign a s)

-- before the first value
abbrev pub none_selected : Selected
none_selected = record { fault = None; forms = []; exprs = [] }

-- values with another
abbrev pub with_selected : Selected → Typed → Selected
with_selected done t = record {
  fault = first_of done.fault t.fault;
  forms = done.forms ++ record { matching = matching.Ternary; form = t.form } ∷ [];
  exprs = done.exprs ++ t.expr ∷ [];
}

-- the values that a state chooses by, behind those that are done
abbrev pub selected : List P4Expr → Scope → Selected → Selected
selected [] s done = done
selected (e ∷ es) s done = selected es s (with_selected done (bits_alone (typed e s)))

-- the name of a target, among these states
abbrev pub target_fault : List (Text × ℕ) → P4Name → Fault
target_fault names x = fault_if (not (is_there x.text names)) why.Unknown x.at

-- a case for these keys: equal cases are allowed
abbrev pub case_ : List (Text × ℕ) → List Key → Scope → P4Case → Fault × P4Case
case_ names ks s c =
    let m : Matched = keyset_matched ks c.keyset s in
    (first_of m.fault (target_fault names c.name), record c { keyset = m.keyset })

-- what follows a state
abbrev pub target_ : List (Text × ℕ) → P4Target → Scope → Fault × P4Target
target_ names (target.Name at x) s = (target_fault names x, target.Name at x)
target_ names (target.Select at es cs) s =
    let r : Selected = selected es s none_selected in
    let done : Fault × List P4Case = every (case_ names r.forms s) cs (r.fault, []) in
    (done.0, target.Select at r.exprs done.1)

-- a state among these
abbrev pub state : List (Text × ℕ) → Scope → P4State → Fault × P4State
state names s t =
    let b : Fault × List P4Step = every (state_step s) t.steps (None, []) in
    let g : Fault × P4Target = target_ names t.target s in
    (first_of b.0 g.0, record t { steps = b.1; target = g.1 })

-- ---- the parser

-- the parameters
abbrev pub params : P4Parser → Scope → Scope
params p s = declare p.std (thing.Var kind.Std)
    (parser_param false p.meta (parser_param true p.headers (declare p.packet thing.Packet s)))

-- a parser without a state `start`
abbrev pub start_fault : List (Text × ℕ) → P4Parser → Fault
start_fault names p = fault_if (not (is_there (codes "start") names)) why.Unknown p.name.at

-- the faults of the names of states and of how they lead to one another, behind another fault
abbrev pub states_fault : P4Parser → States → Fault → Fault
states_fault p ts found = first_of (start_fault ts.names p) (first_of ts.fault (first_of found (cycles (graph ts.names p.states) ts.names p.states None)))

-- a parser whose name is declared: the scope behind it, and its states
abbrev pub parser_in : P4Parser → Scope → Scope × List P4State
parser_in p s =
    let ts : States = named_states p.states no_states in
    let t : Scope = params p s in
    let r : Fault × List P4State = every (state ts.names t) p.states (None, []) in
    (note (states_fault p ts r.0) (leave s t), r.1)

-- the parser, in which its name is visible
unfoldable pub parser : P4Parser → Scope → Scope × List P4State
parser p s = parser_in p (declare p.name thing.Parser s)
