-- Names and scopes: what a program has declared so far, and the first fault so far.
use Rattle.std.specs.Prelude.{ℕ, Bool, true, false, not, List, [], ◌∷◌, ◌++◌, length, take, Option, Some, None, is_some, bytes_eq, codes}
use Rattle.std.specs.List.{list_any}
use Rattle.std.specs.Map.{lookup}
use Rattle.rp_base.specs.declared.refused.Why.TheVariants as why
use Rattle.p4_ast.specs.declared.name.P4Name.{P4Name}
use Rattle.p4_scope.specs.declared.kind.Kind.{Kind}
use Rattle.p4_scope.specs.declared.thing.Thing.{Thing}
use Rattle.p4_scope.specs.declared.thing.Thing.TheVariants as thing
use Rattle.p4_scope.specs.declared.thing.Action.{Action}
use Rattle.p4_scope.specs.declared.thing.Table.{Table}
use Rattle.p4_scope.specs.declared.thing.Site.{Site}
use Rattle.p4_scope.specs.declared.thing.Site.TheVariants as site
use Rattle.p4_scope.specs.Faults.{Fault, first_of, fault, fault_if}

-- the text of a name
abbrev pub Text : Type 0
Text = List ℕ

-- a header or a structure: its place, its fields by name, and what it holds
pub record Record : Type 0 where
  pub at : ℕ
  pub fields : List (Text × Kind)
  pub only_headers : Bool
  pub has_header : Bool

-- What is known before a part of a program. `cells` is how many there are, 257 for more than 256; `site` is where the part stands, and
-- `uses` is the place of the first read or write of a cell in the present action.
pub record Scope : Type 0 where
  pub fault : Fault
  pub names : List (Text × Thing)
  pub records : List Record
  pub cells : ℕ
  pub actions : List Action
  pub tables : List Table
  pub site : Site
  pub uses : Option ℕ

-- before the program
abbrev pub outermost : Scope
outermost = record {
  fault = None;
  names = (codes "NoAction", thing.NoAction) ∷ [];
  records = [];
  cells = 0;
  actions = [];
  tables = [];
  site = site.Other;
  uses = None;
}

-- a fault that is found
abbrev pub note : Fault → Scope → Scope
note f s = record s { fault = first_of s.fault f }

-- whether the text is among these
abbrev pub is_in : Text → List Text → Bool
is_in x xs = list_any (bytes_eq x) xs

-- ---- names

-- what is kept for the rewritten program, beside `NoAction`, which is declared
abbrev pub reserved : List Text
reserved = codes "rp" ∷ codes "rp_t" ∷ codes "rp_cells" ∷ []

-- what a name stands for
abbrev pub find : Text → Scope → Option Thing
find x s = lookup (bytes_eq x) s.names

-- a declaration of a name that is visible already, or not
abbrev pub declared_by : Bool → P4Name → Thing → Scope → Scope
declared_by true x t s = note (fault why.Twice x.at) s
declared_by false x t s = note (fault_if (is_in x.text reserved) why.Twice x.at) (record s { names = s.names ++ (x.text, t) ∷ [] })

-- a declaration: a name that is visible keeps its meaning
abbrev pub declare : P4Name → Thing → Scope → Scope
declare x t s = declared_by (is_some (find x.text s)) x t s

-- behind a block: its names are forgotten
abbrev pub leave : Scope → Scope → Scope
leave outer s = record s { names = take (length outer.names) s.names }

-- the fault of a name that stands for this, which must be there and be good
abbrev pub must_be : Bool → P4Name → Option Thing → Fault
must_be good x None = fault why.Unknown x.at
must_be good x (Some t) = fault_if (not good) why.Kind x.at

-- ---- parts that declare something

-- onward from a part
abbrev pub onward : {A R : Type 0} → (Scope → List A → R) → List A → Scope × A → R
onward walk done r = walk r.0 (done ++ r.1 ∷ [])

-- parts one after the other, behind those that are done: the scope behind them, and the parts
abbrev pub each : {A B : Type 0} → (A → Scope → Scope × B) → List A → Scope → List B → Scope × List B
each f [] s done = (s, done)
each f (x ∷ xs) s done = onward (each f xs) done (f x s)
