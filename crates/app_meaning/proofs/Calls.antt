-- Actions and tables that reach no cell, and those that keep the key.
use Rattle.std.proofs.Common.{◌≡◌, ℕ, Bool, true, false, not, ◌&&◌, ◌||◌, List, [], ◌∷◌, Option, Some, None, refl, ap, if◌then◌else◌, bytes_eq, nat_lt}
use Rattle.std.proofs.lemmas.Bool.{false≢true, true≢false, and_parts, or_parts, not-true, not-false}
use Rattle.p4_ast.specs.declared.control.P4Local.{P4Local}
use Rattle.p4_ast.specs.declared.control.P4Local.TheVariants as local
use Rattle.p4_ast.specs.declared.control.P4Action.{P4Action}
use Rattle.p4_ast.specs.declared.table.P4Table.{P4Table}
use Rattle.p4_ast.specs.declared.table.P4Default.{P4Default}
use Rattle.p4_ast.specs.declared.table.P4Entry.{P4Entry}
use Rattle.p4_ast.specs.declared.table.P4Call.{P4Call}
use Rattle.app_data.specs.declared.value.Value.{Value}
use Rattle.app_meaning.specs.Slots.{Name, Scope, text}
use Rattle.app_data.specs.declared.value.Match.{Match}
use Rattle.app_meaning.specs.Matches.{fits, prefix, better, winner}
use Rattle.app_data.specs.declared.run.Run.{Run}
use Rattle.app_meaning.specs.Statements.{with_values, values_of}
use Rattle.app_meaning.specs.Actions.{inside, pass, run_action, call, lpm_place, entries_of, rows, key_values, run_call, run_default, after_look, run_table, apply}
use Rattle.app_meaning.specs.Premises.{actions_keyless, no_reach, block_facts, calls, entries_call, default_calls, applies}
use Rattle.app_meaning.proofs.Still.{IsStill, IsStillTest, KeepsKey, still_block, kept_block}

-- ---- the call of the row that wins passes what the calls of all rows pass

abbrev pub all_calls : (P4Call → Bool) → List P4Entry → Bool
all_calls t [] = true
all_calls t (e ∷ es) = t e.call && all_calls t es

-- of a row that there may be
abbrev pub OnRow : (P4Call → Bool) → Option (List Match × P4Call) → Type 0
OnRow t None = Unit {0}
OnRow t (Some r) = t r.1 ≡ true

on_if : (t : P4Call → Bool) (b : Bool) (x y : Option (List Match × P4Call)) → OnRow t x → OnRow t y → OnRow t (if b then x else y)
on_if t true x y p q = p
on_if t false x y p q = q

on_better : (t : P4Call → Bool) (lpm : Option ℕ) (r : List Match × P4Call) (o : Option (List Match × P4Call)) → t r.1 ≡ true → OnRow t o → OnRow t (better lpm r o)
on_better t lpm r None p q = p
on_better t lpm r (Some s) p q = on_if t (nat_lt (prefix lpm r.0) (prefix lpm s.0)) (Some s) (Some r) q p

pub on_winner : (t : P4Call → Bool) (sc : Scope) (lpm : Option ℕ) (keys : List Value) (es : List P4Entry) → all_calls t es ≡ true → OnRow t (winner lpm keys (rows sc es))
on_winner t sc lpm keys [] h = tt
on_winner t sc lpm keys (e ∷ es) h =
    let hs = and_parts (t e.call) (all_calls t es) h in
    let rest : OnRow t (winner lpm keys (rows sc es)) = on_winner t sc lpm keys es hs.1 in
    on_if t (fits _ keys) (better lpm _ (winner lpm keys (rows sc es))) (winner lpm keys (rows sc es)) (on_better t lpm _ (winner lpm keys (rows sc es)) hs.0 rest) rest

-- ---- what reaches no cell is still

still_if : (b : Bool) (m l : Run → Run) → (b ≡ true → IsStill m) → (b ≡ false → IsStill l) → IsStill (λ r. if b then m r else l r)
still_if true m l p q r = p refl r
still_if false m l p q r = q refl r

still_action : (sc : Scope) (a : P4Action) → (block_facts no_reach a.block).calm ≡ true → (args : List Value) → IsStill (run_action sc a args)
still_action sc a h args r =
    still_block (inside sc (text a.name)) (λ called args run. run) (λ table run. (run, false)) no_reach (λ name e args r. refl) (λ name e r. refl) a.block h
    (with_values r (pass (inside sc (text a.name)) a.params args r.values))

cond_at : (b c d e : Bool) → (if b then c else d) ≡ e → b ≡ true → c ≡ e
cond_at true c d e h g = h
cond_at false c d e h g = absurd (false≢true g)

cond_off : (b c d e : Bool) → (if b then c else d) ≡ e → b ≡ false → d ≡ e
cond_off true c d e h g = absurd (true≢false g)
cond_off false c d e h g = h

pub calm_call : (sc : Scope) (ls : List P4Local) (name : Name) → calls ls name ≡ false → (args : List Value) → IsStill (call sc ls name args)
calm_call sc [] name h args r = refl
calm_call sc (local.Const c ∷ ls) name h args r = calm_call sc ls name h args r
calm_call sc (local.Var v ∷ ls) name h args r = calm_call sc ls name h args r
calm_call sc (local.Cell c ∷ ls) name h args r = calm_call sc ls name h args r
calm_call sc (local.Table t ∷ ls) name h args r = calm_call sc ls name h args r
calm_call sc (local.Action a ∷ ls) name h args r =
    still_if (bytes_eq (text a.name) name) (run_action sc a args) (call sc ls name args)
    (λ e. still_action sc a (not-false _ (cond_at (bytes_eq (text a.name) name) (not (block_facts no_reach a.block).calm) (calls ls name) false h e)) args)
    (λ e. calm_call sc ls name (cond_off (bytes_eq (text a.name) name) (not (block_facts no_reach a.block).calm) (calls ls name) false h e) args)
    r

still_test_if : (b : Bool) (m l : Run → Run × Bool) → (b ≡ true → IsStillTest m) → (b ≡ false → IsStillTest l) → IsStillTest (λ r. if b then m r else l r)
still_test_if true m l p q r = p refl r
still_test_if false m l p q r = q refl r

calm_run_call : (sc : Scope) (actions : List P4Local) (c : P4Call) → calls actions (text c.name) ≡ false → IsStill (run_call sc actions c)
calm_run_call sc actions c h r = calm_call sc actions (text c.name) h (values_of c.args sc r.values) r

calm_default : (sc : Scope) (actions : List P4Local) (d : Option P4Default) → default_calls actions d ≡ false → IsStill (run_default sc actions d)
calm_default sc actions None h r = refl
calm_default sc actions (Some d) h r = calm_run_call sc actions d.call h r

calm_look : (sc : Scope) (actions : List P4Local) (d : Option P4Default) → default_calls actions d ≡ false → (o : Option (List Match × P4Call)) → OnRow (λ c. not (calls actions (text c.name))) o → IsStillTest (after_look sc actions d o)
calm_look sc actions d h None p r = ap (λ (x : Run). (x, false)) (calm_default sc actions d h r)
calm_look sc actions d h (Some row) p r = ap (λ (x : Run). (x, true)) (calm_run_call sc actions row.1 (not-true (calls actions (text row.1.name)) p) r)

calm_entries : (actions : List P4Local) (es : List P4Entry) → entries_call actions es ≡ false → all_calls (λ c. not (calls actions (text c.name))) es ≡ true
calm_entries actions [] h = refl
calm_entries actions (e ∷ es) h =
    let hs = or_parts (calls actions (text e.call.name)) (entries_call actions es) h in
    rw (hs.0, calm_entries actions es hs.1) refl

calm_table : (sc : Scope) (actions : List P4Local) (t : P4Table) → (entries_call actions (entries_of t.entries) || default_calls actions t.default) ≡ false → IsStillTest (run_table sc actions t)
calm_table sc actions t h r =
    let hs = or_parts (entries_call actions (entries_of t.entries)) (default_calls actions t.default) h in
    calm_look sc actions t.default hs.1 (winner (lpm_place t.keys.keys) (key_values t.keys.keys sc r.values) (rows sc (entries_of t.entries)))
    (on_winner (λ c. not (calls actions (text c.name))) sc (lpm_place t.keys.keys) (key_values t.keys.keys sc r.values) (entries_of t.entries) (calm_entries actions (entries_of t.entries) hs.0)) r

pub calm_apply : (sc : Scope) (actions : List P4Local) (ls : List P4Local) (name : Name) → applies actions ls name ≡ false → IsStillTest (apply sc actions ls name)
calm_apply sc actions [] name h r = refl
calm_apply sc actions (local.Const c ∷ ls) name h r = calm_apply sc actions ls name h r
calm_apply sc actions (local.Var v ∷ ls) name h r = calm_apply sc actions ls name h r
calm_apply sc actions (local.Cell c ∷ ls) name h r = calm_apply sc actions ls name h r
calm_apply sc actions (local.Action a ∷ ls) name h r = calm_apply sc actions ls name h r
calm_apply sc actions (local.Table t ∷ ls) name h r =
    still_test_if (bytes_eq (text t.name) name) (run_table sc actions t) (apply sc actions ls name)
    (λ e. calm_table sc actions t (cond_at (bytes_eq (text t.name) name) (entries_call actions (entries_of t.entries) || default_calls actions t.default) (applies actions ls name) false h e))
    (λ e. calm_apply sc actions ls name (cond_off (bytes_eq (text t.name) name) (entries_call actions (entries_of t.entries) || default_calls actions t.default) (applies actions ls name) false h e))
    r

-- ---- actions and tables keep the key

kept_if : (b : Bool) (m l : Run → Run) → KeepsKey m → KeepsKey l → KeepsKey (λ r. if b then m r else l r)
kept_if true m l p q r = p r
kept_if false m l p q r = q r

kept_action : (sc : Scope) (a : P4Action) → (block_facts no_reach a.block).keyless ≡ true → (args : List Value) → KeepsKey (run_action sc a args)
kept_action sc a h args r =
    kept_block (inside sc (text a.name)) (λ called args run. run) (λ table run. (run, false)) no_reach (λ name args r. refl) (λ name r. refl) a.block h
    (with_values r (pass (inside sc (text a.name)) a.params args r.values))

pub kept_call : (sc : Scope) (ls : List P4Local) → actions_keyless ls ≡ true → (name : Name) (args : List Value) → KeepsKey (call sc ls name args)
kept_call sc [] h name args r = refl
kept_call sc (local.Const c ∷ ls) h name args r = kept_call sc ls h name args r
kept_call sc (local.Var v ∷ ls) h name args r = kept_call sc ls h name args r
kept_call sc (local.Cell c ∷ ls) h name args r = kept_call sc ls h name args r
kept_call sc (local.Table t ∷ ls) h name args r = kept_call sc ls h name args r
kept_call sc (local.Action a ∷ ls) h name args r =
    let hs = and_parts (block_facts no_reach a.block).keyless (actions_keyless ls) h in
    kept_if (bytes_eq (text a.name) name) (run_action sc a args) (call sc ls name args) (kept_action sc a hs.0 args) (kept_call sc ls hs.1 name args) r

kept_default : (sc : Scope) (actions : List P4Local) → actions_keyless actions ≡ true → (d : Option P4Default) → KeepsKey (run_default sc actions d)
kept_default sc actions h None r = refl
kept_default sc actions h (Some d) r = kept_call sc actions h (text d.call.name) (values_of d.call.args sc r.values) r

kept_look : (sc : Scope) (actions : List P4Local) → actions_keyless actions ≡ true → (d : Option P4Default) (o : Option (List Match × P4Call)) → KeepsKey (λ r. (after_look sc actions d o r).0)
kept_look sc actions h d None r = kept_default sc actions h d r
kept_look sc actions h d (Some row) r = kept_call sc actions h (text row.1.name) (values_of row.1.args sc r.values) r

kept_test_if : (b : Bool) (m l : Run → Run × Bool) → KeepsKey (λ r. (m r).0) → KeepsKey (λ r. (l r).0) → KeepsKey (λ r. (if b then m r else l r).0)
kept_test_if true m l p q r = p r
kept_test_if false m l p q r = q r

pub kept_apply : (sc : Scope) (actions : List P4Local) → actions_keyless actions ≡ true → (ls : List P4Local) (name : Name) → KeepsKey (λ r. (apply sc actions ls name r).0)
kept_apply sc actions h [] name r = refl
kept_apply sc actions h (local.Const c ∷ ls) name r = kept_apply sc actions h ls name r
kept_apply sc actions h (local.Var v ∷ ls) name r = kept_apply sc actions h ls name r
kept_apply sc actions h (local.Cell c ∷ ls) name r = kept_apply sc actions h ls name r
kept_apply sc actions h (local.Action a ∷ ls) name r = kept_apply sc actions h ls name r
kept_apply sc actions h (local.Table t ∷ ls) name r =
    kept_test_if (bytes_eq (text t.name) name) (run_table sc actions t) (apply sc actions ls name)
    (λ r. kept_look sc actions h t.default (winner (lpm_place t.keys.keys) (key_values t.keys.keys sc r.values) (rows sc (entries_of t.entries))) r)
    (kept_apply sc actions h ls name) r
