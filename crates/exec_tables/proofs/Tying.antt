-- Locals by their numbers do what they do by their names.
use Rattle.std.proofs.Common.{◌≡◌, ℕ, zero, suc, ◌+◌, ◌<◌, Bool, true, false, not, List, [], ◌∷◌, length, Option, Some, None, refl, sym, ap, ◌∙◌, if◌then◌else◌, nat_lt, option_map, position, arith}
use Rattle.std.specs.Prelude.{bytes_eq, slice_get}
use Rattle.std.specs.List.{position_or_len}
use Rattle.std.proofs.lemmas.Bool.{ltb-true, ltb-false, lt-ltb, le-ltb}
use Rattle.p4_ast.specs.declared.control.P4Local.{P4Local}
use Rattle.p4_ast.specs.declared.control.P4Local.TheVariants as tree
use Rattle.p4_ast.specs.declared.table.P4Call.{P4Call}
use Rattle.p4_ast.specs.declared.table.P4Default.{P4Default}
use Rattle.p4_ast.specs.declared.table.P4Entry.{P4Entry}
use Rattle.p4_ast.specs.declared.table.P4Key.{P4Key}
use Rattle.p4_ast.specs.declared.table.P4Table.{P4Table}
use Rattle.app_data.specs.declared.run.Run.{Run}
use Rattle.app_data.specs.declared.value.Value.{Value}
use Rattle.app_data.specs.declared.value.Match.{Match}
use Rattle.app_meaning.specs.Slots.{Name, Scope, text}
use Rattle.app_meaning.specs.Statements.{values_of}
use Rattle.app_meaning.specs.Actions.{call, apply, entries_of, key_values, rows, run_action, run_call, run_default, after_look, run_table}
use Rattle.exec_steps.specs.Tied.{is_action, is_table, action_number, table_number, IsTied}
use Rattle.exec_tables.specs.declared.local.Call.{Call}
use Rattle.exec_tables.specs.declared.local.Table.{Table}
use Rattle.exec_tables.specs.declared.local.Local.{Local}
use Rattle.exec_tables.specs.declared.local.Local.TheVariants as local
use Rattle.exec_tables.specs.Applying.{code_values, called_by, call_at, run_call_at, default_at, after_at, table_at, applied_by, numbered_by}
use Rattle.exec_tables.specs.Locals.{IsCall, AreCalls, IsDefault, IsTable, AreLocals}
use Rattle.match_tables.specs.Winning.{look}
use Rattle.table_rows.specs.Rows.{row_at, numbers}

-- ---- numbers of locals

one_more : (k len : ℕ) (b : Bool) → nat_lt k len ≡ b → (if nat_lt (1 + k) (suc len) then Some (1 + k) else None) ≡ option_map suc (if b then Some k else None)
one_more k len true e =
    let l : k < len = ltb-true k len e in
    let t : nat_lt (1 + k) (suc len) ≡ true = lt-ltb (1 + k) (suc len) (omega (arith, l)) in
    let s : 1 + k ≡ suc k = omega arith in
    rw (t, s) refl
one_more k len false e =
    let t : nat_lt (1 + k) (suc len) ≡ false = le-ltb (1 + k) (suc len) (omega (arith, ltb-false k len e)) in
    rw (t) refl

at_head : (b : Bool) (k len : ℕ) → (if nat_lt (if not b then 1 + k else 0) (suc len) then Some (if not b then 1 + k else 0) else None) ≡ (if b then Some 0 else option_map suc (if nat_lt k len then Some k else None))
at_head true k len = rw (lt-ltb 0 (suc len) (omega arith)) refl
at_head false k len = one_more k len (nat_lt k len) refl

position_cons : (p : P4Local → Bool) (l : P4Local) (ls : List P4Local) → position p (l ∷ ls) ≡ (if p l then Some 0 else option_map suc (position p ls))
position_cons p l ls = at_head (p l) (position_or_len p ls) (length ls)

row_suc : (x : Local) (xs : List Local) (o : Option ℕ) → row_at (x ∷ xs) (option_map suc o) ≡ row_at xs o
row_suc x xs None = refl
row_suc x xs (Some n) = refl

row_here : (p : P4Local → Bool) (l : P4Local) (ls : List P4Local) (x : Local) (xs : List Local) (b : Bool) → p l ≡ b → row_at (x ∷ xs) (position p (l ∷ ls)) ≡ (if b then Some x else row_at xs (position p ls))
row_here p l ls x xs true e = ap (row_at (x ∷ xs)) (position_cons p l ls) ∙ ap (λ (b : Bool). row_at (x ∷ xs) (if b then Some 0 else option_map suc (position p ls))) e
row_here p l ls x xs false e = ap (row_at (x ∷ xs)) (position_cons p l ls) ∙ ap (λ (b : Bool). row_at (x ∷ xs) (if b then Some 0 else option_map suc (position p ls))) e ∙ row_suc x xs (position p ls)

-- ---- calls

module _ (sc : Scope) (all : List P4Local) where
  skipped : (l : P4Local) (ls : List P4Local) (x : Local) (xs : List Local) (name : Name) (args : List Value) (run : Run) → is_action name l ≡ false
      → call sc ls name args run ≡ called_by (row_at xs (action_number ls name)) args run → call sc ls name args run ≡ called_by (row_at (x ∷ xs) (action_number (l ∷ ls) name)) args run
  skipped l ls x xs name args run e h = h ∙ sym (ap (λ (r : Option Local). called_by r args run) (row_here (is_action name) l ls x xs false e))

  calls_by : (ls : List P4Local) (xs : List Local) → AreLocals sc all ls xs → (name : Name) (args : List Value) (run : Run) → call sc ls name args run ≡ called_by (row_at xs (action_number ls name)) args run
  calls_by [] [] h name args run = refl
  calls_by [] (x ∷ xs) h name args run = absurd h
  calls_by (l ∷ ls) [] h name args run = absurd h
  calls_by (tree.Const c ∷ ls) (x ∷ xs) h name args run = skipped (tree.Const c) ls x xs name args run refl (calls_by ls xs h.1 name args run)
  calls_by (tree.Var v ∷ ls) (x ∷ xs) h name args run = skipped (tree.Var v) ls x xs name args run refl (calls_by ls xs h.1 name args run)
  calls_by (tree.Cell c ∷ ls) (x ∷ xs) h name args run = skipped (tree.Cell c) ls x xs name args run refl (calls_by ls xs h.1 name args run)
  calls_by (tree.Table t ∷ ls) (x ∷ xs) h name args run = skipped (tree.Table t) ls x xs name args run refl (calls_by ls xs h.1 name args run)
  calls_by (tree.Action a ∷ ls) (local.Table x ∷ xs) h name args run = absurd h.0
  calls_by (tree.Action a ∷ ls) (local.Other ∷ xs) h name args run = absurd h.0
  calls_by (tree.Action a ∷ ls) (local.Action x ∷ xs) h name args run = by (calls_by ls xs h.1 name args run) (bytes_eq (text a.name) name) refl
    where
      by : call sc ls name args run ≡ called_by (row_at xs (action_number ls name)) args run → (b : Bool) → bytes_eq (text a.name) name ≡ b
          → (if b then run_action sc a args run else call sc ls name args run) ≡ called_by (row_at (local.Action x ∷ xs) (action_number (tree.Action a ∷ ls) name)) args run
      by more true e = sym (h.0 args run) ∙ sym (ap (λ (r : Option Local). called_by r args run) (row_here (is_action name) (tree.Action a) ls (local.Action x) xs true e))
      by more false e = more ∙ sym (ap (λ (r : Option Local). called_by r args run) (row_here (is_action name) (tree.Action a) ls (local.Action x) xs false e))

  module _ (codes : List Local) (made : AreLocals sc all all codes) where
    call_is : (c : P4Call) (x : Call) → IsCall sc all c x → (run : Run) → run_call_at codes x run ≡ run_call sc all c run
    call_is c x h run =
        ap (λ (i : Option ℕ). call_at codes i (code_values x.args run.values) run) h.action
        ∙ ap (λ (vs : List Value). call_at codes (action_number all (text c.name)) vs run) (h.args run.values)
        ∙ sym (calls_by all codes made (text c.name) (values_of c.args sc run.values) run)

    default_is : (d : Option P4Default) (x : Option Call) → IsDefault sc all d x → (run : Run) → default_at codes x run ≡ run_default sc all d run
    default_is None None h run = refl
    default_is None (Some x) h run = absurd h
    default_is (Some d) None h run = absurd h
    default_is (Some d) (Some x) h run = call_is d.call x h run

    after_row : (d : Option P4Default) (y : Option Call) → IsDefault sc all d y → (es : List P4Entry) (cs : List Call) → AreCalls sc all es cs → (n : ℕ) (run : Run)
        → after_at codes y (slice_get cs n) run ≡ after_look sc all d (slice_get (rows sc es) n) run
    after_row d y h [] [] k n run = ap (λ (r : Run). (r, false)) (default_is d y h run)
    after_row d y h [] (c ∷ cs) k n run = absurd k
    after_row d y h (e ∷ es) [] k n run = absurd k
    after_row d y h (e ∷ es) (c ∷ cs) k zero run = ap (λ (r : Run). (r, true)) (call_is e.call c k.0 run)
    after_row d y h (e ∷ es) (c ∷ cs) k (suc n) run = after_row d y h es cs k.1 n run

    after_is : (d : Option P4Default) (y : Option Call) → IsDefault sc all d y → (es : List P4Entry) (cs : List Call) → AreCalls sc all es cs → (o : Option ℕ) (run : Run)
        → after_at codes y (row_at cs o) run ≡ after_look sc all d (row_at (rows sc es) o) run
    after_is d y h es cs k None run = ap (λ (r : Run). (r, false)) (default_is d y h run)
    after_is d y h es cs k (Some n) run = after_row d y h es cs k n run

    length_keys : (ks : List P4Key) (values : List Value) → length (key_values ks sc values) ≡ length ks
    length_keys [] values = refl
    length_keys (k ∷ ks) values = ap suc (length_keys ks values)

    table_is : (t : P4Table) (x : Table) → IsTable sc all t x → (run : Run) → table_at codes x run ≡ run_table sc all t run
    table_is t x h run =
        let kv : List Value = key_values t.keys.keys sc run.values in
        ap (λ (vs : List Value). after_at codes x.default (row_at x.calls (look x.rows (numbers vs))) run) (h.keys run.values)
        ∙ after_is t.default x.default h.default (entries_of t.entries) x.calls h.calls (look x.rows (numbers kv)) run
        ∙ ap (λ (r : Option (List Match × P4Call)). after_look sc all t.default r run) (h.rows.finds kv (length_keys t.keys.keys run.values))

    passed_over : (l : P4Local) (ls : List P4Local) (x : Local) (xs : List Local) (name : Name) (run : Run) → is_table name l ≡ false
        → apply sc all ls name run ≡ applied_by codes (row_at xs (table_number ls name)) run → apply sc all ls name run ≡ applied_by codes (row_at (x ∷ xs) (table_number (l ∷ ls) name)) run
    passed_over l ls x xs name run e h = h ∙ sym (ap (λ (r : Option Local). applied_by codes r run) (row_here (is_table name) l ls x xs false e))

    applies_by : (ls : List P4Local) (xs : List Local) → AreLocals sc all ls xs → (name : Name) (run : Run) → apply sc all ls name run ≡ applied_by codes (row_at xs (table_number ls name)) run
    applies_by [] [] h name run = refl
    applies_by [] (x ∷ xs) h name run = absurd h
    applies_by (l ∷ ls) [] h name run = absurd h
    applies_by (tree.Const c ∷ ls) (x ∷ xs) h name run = passed_over (tree.Const c) ls x xs name run refl (applies_by ls xs h.1 name run)
    applies_by (tree.Var v ∷ ls) (x ∷ xs) h name run = passed_over (tree.Var v) ls x xs name run refl (applies_by ls xs h.1 name run)
    applies_by (tree.Cell c ∷ ls) (x ∷ xs) h name run = passed_over (tree.Cell c) ls x xs name run refl (applies_by ls xs h.1 name run)
    applies_by (tree.Action a ∷ ls) (x ∷ xs) h name run = passed_over (tree.Action a) ls x xs name run refl (applies_by ls xs h.1 name run)
    applies_by (tree.Table t ∷ ls) (local.Action x ∷ xs) h name run = absurd h.0
    applies_by (tree.Table t ∷ ls) (local.Other ∷ xs) h name run = absurd h.0
    applies_by (tree.Table t ∷ ls) (local.Table x ∷ xs) h name run = by (applies_by ls xs h.1 name run) (bytes_eq (text t.name) name) refl
      where
        by : apply sc all ls name run ≡ applied_by codes (row_at xs (table_number ls name)) run → (b : Bool) → bytes_eq (text t.name) name ≡ b
            → (if b then run_table sc all t run else apply sc all ls name run) ≡ applied_by codes (row_at (local.Table x ∷ xs) (table_number (tree.Table t ∷ ls) name)) run
        by more true e = sym (table_is t x h.0 run) ∙ sym (ap (λ (r : Option Local). applied_by codes r run) (row_here (is_table name) (tree.Table t) ls (local.Table x) xs true e))
        by more false e = more ∙ sym (ap (λ (r : Option Local). applied_by codes r run) (row_here (is_table name) (tree.Table t) ls (local.Table x) xs false e))

    -- the locals by number are tied to those by name
    pub tied : IsTied all (call sc all) (apply sc all all) (numbered_by codes)
    tied = record { calls = calls_by all codes made; applies = applies_by all codes made }
