-- Tables: their keys, actions, default action and entries.
use Rattle.std.specs.Prelude.{ℕ, ◌+◌, Bool, true, false, ◌&&◌, ◌||◌, nat_lt, if◌then◌else◌, List, [], ◌∷◌, ◌++◌, length, Option, Some, None, is_some}
use Rattle.std.specs.List.{list_any}
use Rattle.rp_base.specs.declared.refused.Why.TheVariants as why
use Rattle.p4_ast.specs.declared.name.P4Name.{P4Name}
use Rattle.p4_ast.specs.declared.expression.P4Expr.{P4Expr}
use Rattle.p4_ast.specs.declared.table.P4Table.{P4Table}
use Rattle.p4_ast.specs.declared.table.P4Key.{P4Key}
use Rattle.p4_ast.specs.declared.table.P4Match.{P4Match}
use Rattle.p4_ast.specs.declared.table.P4Match.TheVariants as matching
use Rattle.p4_ast.specs.declared.table.P4Default.{P4Default}
use Rattle.p4_ast.specs.declared.table.P4Entries.{P4Entries}
use Rattle.p4_ast.specs.declared.table.P4Entry.{P4Entry}
use Rattle.p4_ast.specs.declared.table.P4Call.{P4Call}
use Rattle.p4_scope.specs.declared.thing.Thing.{Thing}
use Rattle.p4_scope.specs.declared.thing.Thing.TheVariants as thing
use Rattle.p4_scope.specs.declared.thing.Table.{Table}
use Rattle.p4_typing.specs.declared.part.Typed.{Typed}
use Rattle.p4_tables.specs.declared.part.Key.{Key}
use Rattle.p4_tables.specs.declared.part.Matched.{Matched}
use Rattle.p4_tables.specs.declared.part.Keyed.{Keyed}
use Rattle.p4_tables.specs.declared.part.Listed.{Listed}
use Rattle.p4_tables.specs.declared.part.Parts.{Parts}
use Rattle.p4_scope.specs.Faults.{Fault, first_of, fault_if, first_in, add}
use Rattle.p4_scope.specs.Scopes.{Text, Scope, note, find, declare, must_be}
use Rattle.p4_typing.specs.Values.{strange}
use Rattle.p4_typing.specs.Expressions.{typed, bits_alone}
use Rattle.p4_scope.specs.Index.{is_there, keeping}
use Rattle.p4_scope.specs.FlowKeys.{action_uses, is_action, params_of}
use Rattle.p4_typing.specs.Calls.{args}
use Rattle.p4_tables.specs.Entries.{Row, keyset_matched, is_repeated, with_row}

-- ---- keys

-- before the first key
abbrev pub no_keys : Keyed
no_keys = record { fault = None; forms = []; keys = [] }

-- keys with another
abbrev pub with_key : P4Key → Keyed → Typed → Keyed
with_key k done t = record {
  fault = first_of done.fault t.fault;
  forms = done.forms ++ record { matching = k.matching; form = t.form } ∷ [];
  keys = done.keys ++ record k { expr = t.expr } ∷ [];
}

-- keys, behind those that are done
abbrev pub keyed : List P4Key → Scope → Keyed → Keyed
keyed [] s done = done
keyed (k ∷ ks) s done = keyed ks s (with_key k done (bits_alone (typed k.expr s)))

-- whether it is matched by its longest prefix
abbrev pub is_lpm : P4Match → Bool
is_lpm matching.Lpm = true
is_lpm m = false

-- whether it is matched under a mask
abbrev pub is_ternary : P4Match → Bool
is_ternary matching.Ternary = true
is_ternary m = false

-- how many keys are matched by their longest prefixes, with these before
abbrev pub lpm_keys : List Key → ℕ → ℕ
lpm_keys [] n = n
lpm_keys (k ∷ ks) n = lpm_keys ks (n + (if is_lpm k.matching then 1 else 0))

-- two lpm keys, or one beside a ternary key
abbrev pub is_mixed : List Key → Bool
is_mixed ks = nat_lt 1 (lpm_keys ks 0) || (nat_lt 0 (lpm_keys ks 0) && list_any (λ k. is_ternary k.matching) ks)

-- ---- actions

-- numbers with that of an action
abbrev pub with_number : List ℕ → Option Thing → List ℕ
with_number ns (Some (thing.Action n)) = ns ++ n ∷ []
with_number ns t = ns

-- before the first action
abbrev pub none_listed : Listed
none_listed = record { fault = None; names = []; numbers = [] }

-- listed actions with another, whose name stands for this
abbrev pub with_act : P4Name → Option Thing → Listed → Listed
with_act x t done = record {
  fault = first_of done.fault (first_of (fault_if (is_there x.text done.names) why.Twice x.at) (must_be (is_action t) x t));
  names = keeping x.text x.at done.names;
  numbers = with_number done.numbers t;
}

-- listed actions, behind others
abbrev pub acts : List P4Name → Scope → Listed → Listed
acts [] s done = done
acts (x ∷ xs) s done = acts xs s (with_act x (find x.text s) done)

-- ---- calls

-- a call of one of the listed actions: its fault, and its arguments
abbrev pub listed_call : List (Text × ℕ) → P4Call → Scope → Fault × List P4Expr
listed_call names c s =
    let t : Option Thing = find c.name.text s in
    let r : Fault × List P4Expr = args c.name (params_of t s) c.args s in
    (first_of (must_be (is_action t && is_there c.name.text names) c.name t) r.0, r.1)

-- the default action, which may be left out
abbrev pub default_ : List (Text × ℕ) → Option P4Default → Scope → Fault × Option P4Default
default_ listed None s = (None, None)
default_ listed (Some d) s =
    let c : Fault × List P4Expr = listed_call listed d.call s in
    (c.0, Some (record d { call = record (d.call) { args = c.1 } }))

-- ---- entries

-- an argument of an entry's call is built of literals and constants
abbrev pub arg_fault : Scope → P4Expr → Fault
arg_fault s e = fault_if (is_some (strange e s)) why.Entry (typed e s).at

-- an entry, which repeats an earlier one or not
abbrev pub entry_ : List (Text × ℕ) → P4Entry → Matched → Bool → Scope → Fault × P4Entry
entry_ names e m repeated s =
    let c : Fault × List P4Expr = listed_call names e.call s in
    let found : Fault = first_in (arg_fault s) e.call.args (fault_if repeated why.Entry e.at) in
    (first_of m.fault (first_of found c.0), record e { keyset = m.keyset; call = record (e.call) { args = c.1 } })

-- entries, behind those that match these rows and those that are done
abbrev pub entries : List (Text × ℕ) → List Key → List P4Entry → Scope → List (Row × ℕ) → Fault × List P4Entry → Fault × List P4Entry
entries names ks [] s rows done = done
entries names ks (e ∷ es) s rows done =
    let m : Matched = keyset_matched ks e.keyset s in
    entries names ks es s (with_row m e.at rows) (add (entry_ names e m (is_repeated m rows) s) done)

-- the entries, which may be left out
abbrev pub maybe_entries : List (Text × ℕ) → List Key → Option P4Entries → Scope → Fault × Option P4Entries
maybe_entries names ks None s = (None, None)
maybe_entries names ks (Some e) s =
    let r : Fault × List P4Entry = entries names ks e.entries s [] (None, []) in
    (r.0, Some (record e { entries = r.1 }))

-- ---- the table

-- the parts of a table behind their checks
abbrev pub parts : P4Table → Scope → Parts
parts t s =
    let k : Keyed = keyed t.keys.keys s no_keys in
    let a : Listed = acts t.acts.names s none_listed in
    let d : Fault × Option P4Default = default_ a.names t.default s in
    let e : Fault × Option P4Entries = maybe_entries a.names k.forms t.entries s in
    record {
      fault = first_of (first_of k.fault (fault_if (is_mixed k.forms) why.Kind t.at)) (first_of a.fault (first_of d.0 e.0));
      actions = a.numbers;
      keys = k.keys;
      default = d.1;
      entries = e.1;
    }

-- a table of these actions
abbrev pub table_of : List ℕ → Scope → Table
table_of ns s = record { actions = ns; uses = list_any (action_uses s.actions) ns; applied = false }

-- a table whose parts were checked
abbrev pub table_in : P4Table → Parts → Scope → Scope × P4Table
table_in t p s = (
  record (note p.fault s) { tables = s.tables ++ table_of p.actions s ∷ [] },
  record t { keys = record (t.keys) { keys = p.keys }; default = p.default; entries = p.entries },
)

-- a table, in which its name is visible
abbrev pub table : P4Table → Scope → Scope × P4Table
table t s =
    let u : Scope = declare t.name (thing.Table (length s.tables)) s in
    table_in t (parts t u) u
