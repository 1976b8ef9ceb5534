-- Actions and tables of the rewritten program do what the source's do.
use Rattle.std.proofs.Common.{◌≡◌, ℕ, ◌≤◌, Bool, true, false, not, ◌&&◌, ◌||◌, List, [], ◌∷◌, map, Option, Some, None, refl, sym, ap, ◌∙◌, if◌then◌else◌, bytes_eq}
use Rattle.std.proofs.lemmas.Bool.{and_parts, not-true}
use Rattle.p4_ast.specs.declared.control.P4Local.{P4Local}
use Rattle.p4_ast.specs.declared.control.P4Local.TheVariants as local
use Rattle.p4_ast.specs.declared.control.P4Action.{P4Action}
use Rattle.p4_ast.specs.declared.table.P4Table.{P4Table}
use Rattle.p4_ast.specs.declared.table.P4Key.{P4Key}
use Rattle.p4_ast.specs.declared.table.P4Default.{P4Default}
use Rattle.p4_ast.specs.declared.table.P4Entry.{P4Entry}
use Rattle.p4_ast.specs.declared.table.P4Call.{P4Call}
use Rattle.app_data.specs.declared.value.Value.{Value}
use Rattle.app_meaning.specs.Values.{truth}
use Rattle.app_data.specs.declared.scope.Register.{Register}
use Rattle.app_meaning.specs.Slots.{Name, Scope, named_register, text}
use Rattle.app_data.specs.declared.value.Match.{Match}
use Rattle.app_meaning.specs.Matches.{winner}
use Rattle.app_data.specs.declared.run.Run.{Run}
use Rattle.app_meaning.specs.Statements.{with_values, values_of}
use Rattle.app_meaning.specs.Actions.{inside, pass, run_action, call, lpm_place, entries_of, rows, key_values, run_call, run_default, after_look, run_table, apply}
use Rattle.app_meaning.proofs.Calls.{all_calls, OnRow, on_winner}
use Rattle.p4_check.specs.Rewriting.{Source, rewrite_action, rewrite_locals}
use Rattle.app_meaning.specs.Premises.{is_rp, expr_free, exprs_free, fields_free, keys_free, entries_free, default_free, local_free, locals_free, actions_keyless, no_reach, block_facts}
use Rattle.rewrite_laws.proofs.Lifted.{all_cells, lift, values_of3}
use Rattle.rewrite_laws.proofs.LiftedValues.{pass3}
use Rattle.rewrite_laws.proofs.Pieces.{ext, is_dirty}
use Rattle.app_meaning.proofs.Cells.{Within}
use Rattle.rewrite_laws.proofs.Simulated.{block_sim}

if_both : (live asks : Bool) (b : Bool) (x y : Run) → (if b then ext live asks x else ext live asks y) ≡ ext live asks (if b then x else y)
if_both live asks true x y = refl
if_both live asks false x y = refl

module _ (n : ℕ) (few : n ≤ 256) (sc : Scope) (fits : (name : Name) (g : Register) → named_register name sc.registers ≡ Some g → Within n g.first g.size) (live : Bool) where
  abbrev src : Source
  src = record { types = sc.types; registers = sc.registers }

  action_sim : (a : P4Action) → local_free (local.Action a) ≡ true → ((block_facts no_reach a.block).keyless || live) ≡ true → (args : List Value) (asks : Bool) (r : Run)
      → run_action (lift (all_cells n) sc) (rewrite_action src a) args (ext live asks r) ≡ ext live asks (run_action sc a args r)
  action_sim a h k args asks r =
      let hs = and_parts (not (is_rp (text a.name)) && fields_free a.params) (block_facts no_reach a.block).free h in
      let hs' = and_parts (not (is_rp (text a.name))) (fields_free a.params) hs.0 in
      let own : is_rp (text a.name) ≡ false = not-true (is_rp (text a.name)) hs'.0 in
      rw (pass3 (all_cells n) (inside sc (text a.name)) own a.params hs'.1 args (truth live) (truth (is_dirty r.delta)) (truth asks) r.values)
      (block_sim n few (inside sc (text a.name)) own fits live (λ called args run. run) (λ called args run. run) (λ table run. (run, false)) (λ table run. (run, false))
      (λ name args asks r. refl) (λ name asks r. refl) no_reach a.block hs.1 k asks (with_values r (pass (inside sc (text a.name)) a.params args r.values)))

  first_keyless : (a b l : Bool) → ((a && b) || l) ≡ true → (a || l) ≡ true
  first_keyless true b l h = refl
  first_keyless false b l h = h

  other_keyless : (a b l : Bool) → ((a && b) || l) ≡ true → (b || l) ≡ true
  other_keyless true b l h = h
  other_keyless false true l h = refl
  other_keyless false false l h = h

  pub call_sim : (ls : List P4Local) → locals_free ls ≡ true → (actions_keyless ls || live) ≡ true → (name : Name) (args : List Value) (asks : Bool) (r : Run)
      → call (lift (all_cells n) sc) (rewrite_locals src ls) name args (ext live asks r) ≡ ext live asks (call sc ls name args r)
  call_sim [] h k name args asks r = refl
  call_sim (local.Const c ∷ ls) h k name args asks r = call_sim ls (and_parts true (locals_free ls) h).1 k name args asks r
  call_sim (local.Var v ∷ ls) h k name args asks r = call_sim ls (and_parts (local_free (local.Var v)) (locals_free ls) h).1 k name args asks r
  call_sim (local.Cell c ∷ ls) h k name args asks r = call_sim ls (and_parts true (locals_free ls) h).1 k name args asks r
  call_sim (local.Table t ∷ ls) h k name args asks r = call_sim ls (and_parts (local_free (local.Table t)) (locals_free ls) h).1 k name args asks r
  call_sim (local.Action a ∷ ls) h k name args asks r =
      let hs = and_parts (local_free (local.Action a)) (locals_free ls) h in
      rw (
        action_sim a hs.0 (first_keyless (block_facts no_reach a.block).keyless (actions_keyless ls) live k) args asks r,
        call_sim ls hs.1 (other_keyless (block_facts no_reach a.block).keyless (actions_keyless ls) live k) name args asks r,
      )
      (if_both live asks (bytes_eq (text a.name) name) (run_action sc a args r) (call sc ls name args r))

-- a scope that isn't of an action
abbrev pub outside : Scope → Scope
outside sc = record { types = sc.types; constants = sc.constants; registers = sc.registers; slots = sc.slots; own = None }

module _ (n : ℕ) (few : n ≤ 256) (sc0 : Scope) (fits : (name : Name) (g : Register) → named_register name sc0.registers ≡ Some g → Within n g.first g.size) (live : Bool)
    (actions : List P4Local) (free : locals_free actions ≡ true) (keyless : (actions_keyless actions || live) ≡ true) where
  abbrev sc : Scope
  sc = outside sc0

  abbrev srcs : Source
  srcs = record { types = sc.types; registers = sc.registers }

  abbrev new_actions : List P4Local
  new_actions = rewrite_locals srcs actions

  run_call_sim : (c : P4Call) → exprs_free c.args ≡ true → (asks : Bool) (r : Run) → run_call (lift (all_cells n) sc) new_actions c (ext live asks r) ≡ ext live asks (run_call sc actions c r)
  run_call_sim c h asks r =
      rw (values_of3 (all_cells n) sc tt c.args h (truth live) (truth (is_dirty r.delta)) (truth asks) r.values)
      (call_sim n few sc fits live actions free keyless (text c.name) (values_of c.args sc r.values) asks r)

  run_default_sim : (d : Option P4Default) → default_free d ≡ true → (asks : Bool) (r : Run) → run_default (lift (all_cells n) sc) new_actions d (ext live asks r) ≡ ext live asks (run_default sc actions d r)
  run_default_sim None h asks r = refl
  run_default_sim (Some d) h asks r = run_call_sim d.call h asks r

  after_look_sim : (d : Option P4Default) → default_free d ≡ true → (o : Option (List Match × P4Call)) → OnRow (λ c. exprs_free c.args) o → (asks : Bool) (r : Run)
      → after_look (lift (all_cells n) sc) new_actions d o (ext live asks r) ≡ (ext live asks (after_look sc actions d o r).0, (after_look sc actions d o r).1)
  after_look_sim d h None p asks r = rw (run_default_sim d h asks r) refl
  after_look_sim d h (Some row) p asks r = rw (run_call_sim row.1 p asks r) refl

  keys_exprs : (ks : List P4Key) → keys_free ks ≡ true → exprs_free (map (λ k. k.expr) ks) ≡ true
  keys_exprs [] h = refl
  keys_exprs (k ∷ ks) h = let hs = and_parts (expr_free k.expr) (keys_free ks) h in rw (hs.0, keys_exprs ks hs.1) refl

  entries_calls : (es : List P4Entry) → entries_free es ≡ all_calls (λ c. exprs_free c.args) es
  entries_calls [] = refl
  entries_calls (e ∷ es) = ap (λ (b : Bool). exprs_free e.call.args && b) (entries_calls es)

  table_sim : (t : P4Table) → local_free (local.Table t) ≡ true → (asks : Bool) (r : Run)
      → run_table (lift (all_cells n) sc) new_actions t (ext live asks r) ≡ (ext live asks (run_table sc actions t r).0, (run_table sc actions t r).1)
  table_sim t h asks r =
      let hs = and_parts (keys_free t.keys.keys && entries_free (entries_of t.entries)) (default_free t.default) h in
      let hs' = and_parts (keys_free t.keys.keys) (entries_free (entries_of t.entries)) hs.0 in
      let keys : key_values t.keys.keys (lift (all_cells n) sc) (ext live asks r).values ≡ key_values t.keys.keys sc r.values =
      values_of3 (all_cells n) sc tt (map (λ k. k.expr) t.keys.keys) (keys_exprs t.keys.keys hs'.0) (truth live) (truth (is_dirty r.delta)) (truth asks) r.values in
      let all : all_calls (λ c. exprs_free c.args) (entries_of t.entries) ≡ true = sym (entries_calls (entries_of t.entries)) ∙ hs'.1 in
      rw (keys)
      (after_look_sim t.default hs.1 (winner (lpm_place t.keys.keys) (key_values t.keys.keys sc r.values) (rows sc (entries_of t.entries)))
      (on_winner (λ c. exprs_free c.args) sc (lpm_place t.keys.keys) (key_values t.keys.keys sc r.values) (entries_of t.entries) all) asks r)

  abbrev lifted : Bool → Run × Bool → Run × Bool
  lifted asks x = (ext live asks x.0, x.1)

  pair_both : (asks : Bool) (b : Bool) (x y : Run × Bool) → (if b then lifted asks x else lifted asks y) ≡ lifted asks (if b then x else y)
  pair_both asks true x y = refl
  pair_both asks false x y = refl

  pub apply_sim : (ls : List P4Local) → locals_free ls ≡ true → (name : Name) (asks : Bool) (r : Run)
      → apply (lift (all_cells n) sc) new_actions (rewrite_locals srcs ls) name (ext live asks r) ≡ (ext live asks (apply sc actions ls name r).0, (apply sc actions ls name r).1)
  apply_sim [] h name asks r = refl
  apply_sim (local.Const c ∷ ls) h name asks r = apply_sim ls (and_parts true (locals_free ls) h).1 name asks r
  apply_sim (local.Var v ∷ ls) h name asks r = apply_sim ls (and_parts (local_free (local.Var v)) (locals_free ls) h).1 name asks r
  apply_sim (local.Cell c ∷ ls) h name asks r = apply_sim ls (and_parts true (locals_free ls) h).1 name asks r
  apply_sim (local.Action a ∷ ls) h name asks r = apply_sim ls (and_parts (local_free (local.Action a)) (locals_free ls) h).1 name asks r
  apply_sim (local.Table t ∷ ls) h name asks r =
      let hs = and_parts (local_free (local.Table t)) (locals_free ls) h in
      rw (table_sim t hs.0 asks r, apply_sim ls hs.1 name asks r) (pair_both asks (bytes_eq (text t.name) name) (run_table sc actions t r) (apply sc actions ls name r))
