-- Where `rp` isn't visible no declaration of a control without a fault names it.
use Rattle.std.proofs.Common.{◌≡◌, ℕ, true, ◌&&◌, List, [], ◌∷◌, length, Option, Some, None, refl, sym, subst}
use Rattle.std.specs.Cmp.Derive.{both_true}
use Rattle.std.proofs.lemmas.Bool.{not_from_false}
use Rattle.rp_base.specs.declared.refused.Why.TheVariants as why
use Rattle.p4_ast.specs.declared.declaration.P4Field.{P4Field}
use Rattle.p4_ast.specs.declared.control.P4Local.{P4Local}
use Rattle.p4_ast.specs.declared.control.P4Local.TheVariants as local
use Rattle.p4_ast.specs.declared.control.P4Action.{P4Action}
use Rattle.p4_ast.specs.declared.table.P4Table.{P4Table}
use Rattle.p4_ast.specs.declared.table.P4Key.{P4Key}
use Rattle.p4_ast.specs.declared.table.P4Default.{P4Default}
use Rattle.p4_ast.specs.declared.table.P4Entries.{P4Entries}
use Rattle.p4_ast.specs.declared.table.P4Entry.{P4Entry}
use Rattle.p4_ast.specs.declared.table.P4Call.{P4Call}
use Rattle.p4_scope.specs.declared.kind.Kind.{Kind}
use Rattle.p4_scope.specs.declared.thing.Thing.{Thing}
use Rattle.p4_scope.specs.declared.thing.Thing.TheVariants as thing
use Rattle.p4_scope.specs.Faults.{Fault, first_of, fault_if, first_in, add}
use Rattle.p4_scope.specs.Index.{is_there}
use Rattle.p4_scope.specs.Scopes.{Text, Scope, note, find, declare, must_be, each}
use Rattle.p4_scope.specs.Types.{plain_kind}
use Rattle.p4_scope.specs.FlowKeys.{is_action, params_of}
use Rattle.p4_typing.specs.declared.part.Typed.{Typed}
use Rattle.p4_typing.specs.Expressions.{typed, bits_alone}
use Rattle.p4_typing.specs.Calls.{args}
use Rattle.p4_tables.specs.declared.part.Key.{Key}
use Rattle.p4_tables.specs.declared.part.Keyed.{Keyed}
use Rattle.p4_tables.specs.declared.part.Listed.{Listed}
use Rattle.p4_tables.specs.declared.part.Matched.{Matched}
use Rattle.p4_tables.specs.Entries.{Row, keyset_matched, is_repeated, with_row}
use Rattle.p4_tables.specs.Tables.{no_keys, with_key, keyed, is_mixed, none_listed, acts, listed_call, default_, arg_fault, entry_, entries, maybe_entries, parts, table}
use Rattle.p4_check.specs.Programs.{action_param, action, local_}
use Rattle.app_meaning.specs.Actions.{entries_of}
use Rattle.app_meaning.specs.Premises.{is_rp, expr_free, exprs_free, no_reach, fields_free, keys_free, entries_free, default_free, local_free, locals_free}
use Rattle.check_laws.proofs.Clean.{clean_both}
use Rattle.check_laws.proofs.Onward.{NoRp, declared, new_name}
use Rattle.check_laws.proofs.Blocks.{block_within}
use Rattle.check_laws.proofs.Lists.{each_front, all_last}
use Rattle.check_laws.proofs.Locals.{params_within, named, begun, local_onward, locals_onward}
use Rattle.check_laws.proofs.FreeExprs.{bits_free}
use Rattle.check_laws.proofs.FreeBlocks.{args_free, var_free, block_free}

-- ---- tables

module _ (s : Scope) (n : NoRp s) where
  keys_behind : (ks : List P4Key) (done : Keyed) → (keyed ks s done).fault ≡ None → (done.fault ≡ None) × (keys_free done.keys ≡ true → keys_free (keyed ks s done).keys ≡ true)
  keys_behind [] done h = (h, λ k. k)
  keys_behind (k ∷ ks) done h =
      let t : Typed = bits_alone (typed k.expr s) in
      let rest = keys_behind ks (with_key k done t) h in
      let p = clean_both done.fault t.fault rest.0 in
      (p.0, λ g. rest.1 (all_last (λ (x : P4Key). expr_free x.expr) keys_free refl (λ x xs. refl) done.keys (record k { expr = t.expr }) g (bits_free k.expr s n p.1)))

  module _ (names : List (Text × ℕ)) where
    call_free : (c : P4Call) → (listed_call names c s).0 ≡ None → exprs_free (listed_call names c s).1 ≡ true
    call_free c h =
        let t : Option Thing = find c.name.text s in
        args_free c.name (params_of t s) c.args s n
        (clean_both (must_be (is_action t && is_there c.name.text names) c.name t) (args c.name (params_of t s) c.args s).0 h).1

    maybe_default_free : (d : Option P4Default) → (default_ names d s).0 ≡ None → default_free (default_ names d s).1 ≡ true
    maybe_default_free None h = refl
    maybe_default_free (Some d) h = call_free d.call h

    entries_behind : (ks : List Key) (es : List P4Entry) (rows : List (Row × ℕ)) (done : Fault × List P4Entry) → (entries names ks es s rows done).0 ≡ None
        → (done.0 ≡ None) × (entries_free done.1 ≡ true → entries_free (entries names ks es s rows done).1 ≡ true)
    entries_behind ks [] rows done h = (h, λ k. k)
    entries_behind ks (e ∷ es) rows done h =
        let m : Matched = keyset_matched ks e.keyset s in
        let x : Fault × P4Entry = entry_ names e m (is_repeated m rows) s in
        let rest = entries_behind ks es (with_row m e.at rows) (add x done) h in
        let p = clean_both done.0 x.0 rest.0 in
        let found : Fault = first_in (arg_fault s) e.call.args (fault_if (is_repeated m rows) why.Entry e.at) in
        let c = clean_both found (listed_call names e.call s).0 (clean_both m.fault (first_of found (listed_call names e.call s).0) p.1).1 in
        (p.0, λ g. rest.1 (all_last (λ (y : P4Entry). exprs_free y.call.args) entries_free refl (λ y ys. refl) done.1 x.1 g (call_free e.call c.1)))

    maybe_entries_free : (ks : List Key) (es : Option P4Entries) → (maybe_entries names ks es s).0 ≡ None → entries_free (entries_of (maybe_entries names ks es s).1) ≡ true
    maybe_entries_free ks None h = refl
    maybe_entries_free ks (Some es) h = (entries_behind ks es.entries [] (None, []) h).1 refl

  parts_free : (t : P4Table) → (parts t s).fault ≡ None → (keys_free (parts t s).keys && entries_free (entries_of (parts t s).entries) && default_free (parts t s).default) ≡ true
  parts_free t h =
      let k : Keyed = keyed t.keys.keys s no_keys in
      let a : Listed = acts t.acts.names s none_listed in
      let d : Fault × Option P4Default = default_ a.names t.default s in
      let es : Fault × Option P4Entries = maybe_entries a.names k.forms t.entries s in
      let f = clean_both (first_of k.fault (fault_if (is_mixed k.forms) why.Kind t.at)) (first_of a.fault (first_of d.0 es.0)) h in
      let g = clean_both d.0 es.0 (clean_both a.fault (first_of d.0 es.0) f.1).1 in
      let keys = keys_behind t.keys.keys no_keys (clean_both k.fault (fault_if (is_mixed k.forms) why.Kind t.at) f.0).0 in
      both_true (both_true (keys.1 refl) (maybe_entries_free a.names k.forms t.entries g.1)) (maybe_default_free a.names t.default g.0)

table_free : (t : P4Table) (s : Scope) → NoRp s → (table t s).0.fault ≡ None → local_free (local.Table (table t s).1) ≡ true
table_free t s n h =
    let u : Scope = declare t.name (thing.Table (length s.tables)) s in
    let f = clean_both u.fault (parts t u).fault h in
    parts_free u ((declared t.name (thing.Table (length s.tables)) s).on.free f.0 n) t f.1

-- ---- actions

params_free : (fs : List P4Field) (s : Scope) → (each action_param fs s []).0.fault ≡ None → fields_free fs ≡ true
params_free [] s = λ h. refl
params_free (f ∷ fs) s =
    let r : Scope × Kind = action_param f s in
    subst (λ (y : Scope × List Kind). y.0.fault ≡ None → fields_free (f ∷ fs) ≡ true) (sym (each_front action_param f fs s))
    (λ h.
    let k : Fault × Kind = plain_kind f.at f.type_ s in
    both_true (not_from_false (is_rp f.name.text) (new_name f.name (thing.Param k.1) (note k.0 s) ((params_within fs r.0).on.clean h)).own) (params_free fs r.0 h))

action_free : (a : P4Action) (s : Scope) → NoRp s → (action a s).0.fault ≡ None → local_free (local.Action (action a s).1) ≡ true
action_free a s n h =
    let u : Scope = named a s in
    let ks : Scope = (each action_param a.params u []).0 in
    let at_params : ks.fault ≡ None = (block_within a.block (begun a s)).on.clean h in
    let at_name : u.fault ≡ None = (params_within a.params u).on.clean at_params in
    let nu : NoRp u = (declared a.name (thing.Action (length s.actions)) s).on.free at_name n in
    both_true
    (both_true (not_from_false (is_rp a.name.text) (new_name a.name (thing.Action (length s.actions)) s at_name).own) (params_free a.params u at_params))
    (block_free no_reach a.block (begun a s) ((params_within a.params u).on.free at_params nu) h)

-- ---- all declarations

one_free : (l : P4Local) (s : Scope) → NoRp s → (local_ l s).0.fault ≡ None → local_free (local_ l s).1 ≡ true
one_free (local.Const c) s n h = refl
one_free (local.Var v) s n h = var_free v s n h
one_free (local.Cell c) s n h = refl
one_free (local.Action a) s n h = action_free a s n h
one_free (local.Table t) s n h = table_free t s n h

pub all_locals_free : (ls : List P4Local) (s : Scope) → NoRp s → (each local_ ls s []).0.fault ≡ None → locals_free (each local_ ls s []).1 ≡ true
all_locals_free [] s = λ n h. refl
all_locals_free (l ∷ ls) s =
    let r : Scope × P4Local = local_ l s in
    subst (λ (y : Scope × List P4Local). NoRp s → y.0.fault ≡ None → locals_free y.1 ≡ true) (sym (each_front local_ l ls s))
    (λ n h.
    let c = (locals_onward ls r.0).clean h in
    both_true (one_free l s n c) (all_locals_free ls r.0 ((local_onward l s).free c n) h))
