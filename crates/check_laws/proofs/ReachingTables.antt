-- A table whose entries or default action reach cells is one that lists an action that does.
use Rattle.std.proofs.Common.{◌≡◌, ◌⊎◌, inl, inr, ℕ, Bool, true, false, ◌&&◌, ◌||◌, List, [], ◌∷◌, ◌++◌, length, append_assoc, Option, Some, None, is_some, cond, refl, sym, ap, ◌∙◌, subst, if◌then◌else◌}
use Rattle.std.specs.Prelude.{bytes_eq}
use Rattle.std.specs.Map.{lookup}
use Rattle.std.specs.List.{list_any}
use Rattle.std.specs.Option.{option_map_or}
use Rattle.std.proofs.lemmas.Bool.{false≢true, or_cases, and_parts, or_right}
use Rattle.std.proofs.lemmas.List.Folds.{list_any-append}
use Rattle.rp_base.specs.declared.refused.Why.TheVariants as why
use Rattle.p4_ast.specs.declared.name.P4Name.{P4Name}
use Rattle.p4_ast.specs.declared.control.P4Local.{P4Local}
use Rattle.p4_ast.specs.declared.control.P4Local.TheVariants as local
use Rattle.p4_ast.specs.declared.table.P4Table.{P4Table}
use Rattle.p4_ast.specs.declared.table.P4Default.{P4Default}
use Rattle.p4_ast.specs.declared.table.P4Entries.{P4Entries}
use Rattle.p4_ast.specs.declared.table.P4Entry.{P4Entry}
use Rattle.p4_ast.specs.declared.table.P4Call.{P4Call}
use Rattle.p4_scope.specs.declared.thing.Thing.{Thing}
use Rattle.p4_scope.specs.declared.thing.Thing.TheVariants as thing
use Rattle.p4_scope.specs.declared.thing.Table.{Table}
use Rattle.p4_scope.specs.Faults.{Fault, first_of, fault_if, first_in, add}
use Rattle.p4_scope.specs.Index.{is_there, keeping}
use Rattle.p4_scope.specs.Scopes.{Text, Scope, find, declare, must_be, each}
use Rattle.p4_scope.specs.FlowKeys.{action_uses, table_uses, is_action, params_of}
use Rattle.p4_typing.specs.Calls.{args}
use Rattle.p4_tables.specs.declared.part.Key.{Key}
use Rattle.p4_tables.specs.declared.part.Keyed.{Keyed}
use Rattle.p4_tables.specs.declared.part.Listed.{Listed}
use Rattle.p4_tables.specs.declared.part.Matched.{Matched}
use Rattle.p4_tables.specs.declared.part.Parts.{Parts}
use Rattle.p4_tables.specs.Entries.{Row, keyset_matched, is_repeated, with_row}
use Rattle.p4_tables.specs.Tables.{no_keys, keyed, is_mixed, none_listed, with_number, with_act, acts, listed_call, default_, arg_fault, entry_, entries, maybe_entries, parts, table_of, table}
use Rattle.p4_check.specs.Programs.{local_}
use Rattle.app_meaning.specs.Actions.{entries_of}
use Rattle.app_meaning.specs.Premises.{calls, entries_call, default_calls, applies}
use Rattle.check_laws.proofs.Clean.{clean_both, not_clean, found_last, get_last, same_text}
use Rattle.check_laws.proofs.Onward.{declared, new_name, tables_declared}
use Rattle.check_laws.proofs.Lists.{each_front}
use Rattle.check_laws.proofs.Locals.{locals_onward}
use Rattle.check_laws.proofs.Plain.{ListsUsing, still_using, still_listing}
use Rattle.check_laws.proofs.Reaching.{Known, known_more, calls_either, no_later}

-- what must be good is so, where there is no fault
pub must_good : (good : Bool) (x : P4Name) (t : Option Thing) → must_be good x t ≡ None → good ≡ true
must_good good x None h = absurd (not_clean why.Unknown x.at h)
must_good true x (Some t) h = refl
must_good false x (Some t) h = absurd (not_clean why.Kind x.at h)

pub found_action : (o : Option Thing) → is_action o ≡ true → (v : Thing) × (o ≡ Some v)
found_action None h = absurd (false≢true h)
found_action (Some v) h = (v, refl)

-- ---- which actions a table lists

any_front : (f : ℕ → Bool) (xs ys : List ℕ) → list_any f xs ≡ true → list_any f (xs ++ ys) ≡ true
any_front f xs ys h = list_any-append f xs ys ∙ ap (λ (b : Bool). b || list_any f ys) h

any_last : (f : ℕ → Bool) (xs : List ℕ) (n : ℕ) → f n ≡ true → list_any f (xs ++ n ∷ []) ≡ true
any_last f [] n h = ap (λ (b : Bool). b || false) h
any_last f (x ∷ xs) n h = or_right (f x) (list_any f (xs ++ n ∷ [])) (any_last f xs n h)

-- whether the number of each listed action with a use is among these
abbrev Has : Scope → Listed → Type 0
Has s l = (y : Text) (n : ℕ) → is_there y l.names ≡ true → find y s ≡ Some (thing.Action n) → action_uses s.actions n ≡ true → list_any (action_uses s.actions) l.numbers ≡ true

number_front : (f : ℕ → Bool) (ns : List ℕ) (t : Option Thing) → list_any f ns ≡ true → list_any f (with_number ns t) ≡ true
number_front f ns (Some (thing.Action n)) h = any_front f ns (n ∷ []) h
number_front f ns t h = h

-- a name that is kept is that of before or the new one
kept_name : (x y : Text) (at : ℕ) (names : List (Text × ℕ)) → is_there y (keeping x at names) ≡ true → (is_there y names ≡ true) ⊎ (bytes_eq y x ≡ true)
kept_name x y at names h = by (is_there x names) (lookup (bytes_eq y) names) refl h
  where
    by : (b : Bool) (o : Option ℕ) → lookup (bytes_eq y) names ≡ o → is_there y (if b then names else names ++ (x, at) ∷ []) ≡ true → (is_there y names ≡ true) ⊎ (bytes_eq y x ≡ true)
    by b (Some n) e h = inl (ap is_some e)
    by true None e h = inl h
    by false None e h = inr (new (bytes_eq y x) (sym (ap is_some (found_last (bytes_eq y) names x at e)) ∙ h))
      where
        new : (c : Bool) → is_some (cond c (Some at) None) ≡ true → c ≡ true
        new true h = refl
        new false h = absurd (false≢true h)

has_more : (s : Scope) (x : P4Name) (l : Listed) → Has s l → Has s (with_act x (find x.text s) l)
has_more s x l h y n there found uses = by (kept_name x.text y x.at l.names there)
  where
    by : (is_there y l.names ≡ true) ⊎ (bytes_eq y x.text ≡ true) → list_any (action_uses s.actions) (with_number l.numbers (find x.text s)) ≡ true
    by (inl e) = number_front (action_uses s.actions) l.numbers (find x.text s) (h y n e found uses)
    by (inr e) =
        let same : find x.text s ≡ Some (thing.Action n) = ap (λ (z : Text). find z s) (sym (same_text y x.text e)) ∙ found in
        ap (λ (o : Option Thing). list_any (action_uses s.actions) (with_number l.numbers o)) same ∙ any_last (action_uses s.actions) l.numbers n uses

has_all : (xs : List P4Name) (s : Scope) (l : Listed) → Has s l → Has s (acts xs s l)
has_all [] s l h = h
has_all (x ∷ xs) s l h = has_all xs s (with_act x (find x.text s) l) (has_more s x l h)

-- ---- which actions a table calls

module _ (actions : List P4Local) (names : List (Text × ℕ)) (s : Scope) (Q : Type 0)
    (known : (y : Text) → is_action (find y s) ≡ true → is_there y names ≡ true → calls actions y ≡ true → Q) where
  call_known : (c : P4Call) → (listed_call names c s).0 ≡ None → calls actions c.name.text ≡ true → Q
  call_known c h e =
      let good : Bool = is_action (find c.name.text s) && is_there c.name.text names in
      let t : Option Thing = find c.name.text s in
      let f = clean_both (must_be good c.name t) (args c.name (params_of t s) c.args s).0 h in
      let g = and_parts (is_action (find c.name.text s)) (is_there c.name.text names) (must_good good c.name t f.0) in
      known c.name.text g.0 g.1 e

  default_known : (d : Option P4Default) → (default_ names d s).0 ≡ None → default_calls actions (default_ names d s).1 ≡ true → Q
  default_known None h e = absurd (false≢true e)
  default_known (Some d) h e = call_known d.call h e

  entries_last : (es : List P4Entry) (e : P4Entry) → entries_call actions (es ++ e ∷ []) ≡ true → (entries_call actions es ≡ true) ⊎ (calls actions e.call.name.text ≡ true)
  entries_last [] e h = inr (by (calls actions e.call.name.text) h)
    where
      by : (b : Bool) → (b || false) ≡ true → b ≡ true
      by true h = refl
      by false h = h
  entries_last (x ∷ es) e h = by (calls actions x.call.name.text) h (entries_last es e)
    where
      by : (b : Bool) → (b || entries_call actions (es ++ e ∷ [])) ≡ true → (entries_call actions (es ++ e ∷ []) ≡ true → (entries_call actions es ≡ true) ⊎ (calls actions e.call.name.text ≡ true))
          → ((b || entries_call actions es) ≡ true) ⊎ (calls actions e.call.name.text ≡ true)
      by true h rest = inl refl
      by false h rest = rest h

  entries_known : (ks : List Key) (es : List P4Entry) (rows : List (Row × ℕ)) (done : Fault × List P4Entry) → (entries names ks es s rows done).0 ≡ None
      → (done.0 ≡ None) × ((entries_call actions done.1 ≡ true → Q) → entries_call actions (entries names ks es s rows done).1 ≡ true → Q)
  entries_known ks [] rows done h = (h, λ k. k)
  entries_known ks (e ∷ es) rows done h =
      let m : Matched = keyset_matched ks e.keyset s in
      let x : Fault × P4Entry = entry_ names e m (is_repeated m rows) s in
      let rest = entries_known ks es (with_row m e.at rows) (add x done) h in
      let parts = clean_both done.0 x.0 rest.0 in
      let found : Fault = first_in (arg_fault s) e.call.args (fault_if (is_repeated m rows) why.Entry e.at) in
      let c = clean_both found (listed_call names e.call s).0 (clean_both m.fault (first_of found (listed_call names e.call s).0) parts.1).1 in
      (parts.0, λ k. rest.1 (λ g. by c.1 k (entries_last done.1 x.1 g)))
    where
      by : (listed_call names e.call s).0 ≡ None → (entries_call actions done.1 ≡ true → Q) → (entries_call actions done.1 ≡ true) ⊎ (calls actions e.call.name.text ≡ true) → Q
      by c k (inl g) = k g
      by c k (inr g) = call_known e.call c g

  maybe_known : (ks : List Key) (es : Option P4Entries) → (maybe_entries names ks es s).0 ≡ None → entries_call actions (entries_of (maybe_entries names ks es s).1) ≡ true → Q
  maybe_known ks None h e = absurd (false≢true e)
  maybe_known ks (Some es) h e = (entries_known ks es.entries [] (None, []) h).1 (λ g. absurd (false≢true g)) e

-- ---- a table

-- behind a table's name
abbrev titled : P4Table → Scope → Scope
titled t s = declare t.name (thing.Table (length s.tables)) s

-- where the calls of a table are good
table_known : (actions : List P4Local) (t : P4Table) (u : Scope) (Q : Type 0)
    → ((y : Text) → is_action (find y u) ≡ true → is_there y (acts t.acts.names u none_listed).names ≡ true → calls actions y ≡ true → Q)
    → (parts t u).fault ≡ None → (entries_call actions (entries_of (parts t u).entries) || default_calls actions (parts t u).default) ≡ true → Q
table_known actions t u Q known h e =
    let k : Keyed = keyed t.keys.keys u no_keys in
    let a : Listed = acts t.acts.names u none_listed in
    let d : Fault × Option P4Default = default_ a.names t.default u in
    let es : Fault × Option P4Entries = maybe_entries a.names k.forms t.entries u in
    let f = clean_both (first_of k.fault (fault_if (is_mixed k.forms) why.Kind t.at)) (first_of a.fault (first_of d.0 es.0)) h in
    let g = clean_both d.0 es.0 (clean_both a.fault (first_of d.0 es.0) f.1).1 in
    by g.0 g.1 (or_cases (entries_call actions (entries_of es.1)) (default_calls actions d.1) e)
  where
    by : (default_ (acts t.acts.names u none_listed).names t.default u).0 ≡ None
        → (maybe_entries (acts t.acts.names u none_listed).names (keyed t.keys.keys u no_keys).forms t.entries u).0 ≡ None
        → (entries_call actions (entries_of (parts t u).entries) ≡ true) ⊎ (default_calls actions (parts t u).default ≡ true) → Q
    by d es (inl x) = maybe_known actions (acts t.acts.names u none_listed).names u Q known (keyed t.keys.keys u no_keys).forms t.entries es x
    by d es (inr x) = default_known actions (acts t.acts.names u none_listed).names u Q known t.default d x

-- a table that lists an action with a use
table_listing : (t : P4Table) (s : Scope) → (table t s).0.fault ≡ None → list_any (action_uses (titled t s).actions) (parts t (titled t s)).actions ≡ true → ListsUsing (table t s).0 t.name.text
table_listing t s c h =
    let u : Scope = titled t s in
    let p : Parts = parts t u in
    let new : Table = table_of p.actions u in
    record {
      number = length s.tables;
      found = (new_name t.name (thing.Table (length s.tables)) s (clean_both u.fault p.fault c).0).found;
      uses =
          ap (λ (n : ℕ). table_uses (u.tables ++ new ∷ []) n) (sym (ap (length {A = Table}) (tables_declared t.name (thing.Table (length s.tables)) s)))
          ∙ (ap (λ (o : Option Table). option_map_or (λ (x : Table). x.uses) o false) (get_last u.tables new) ∙ h);
    }

-- a table whose calls reach cells, among declarations of which those before are known
table_applied : (t : P4Table) (s : Scope) (done rest : List P4Local) → Known done s → (table t s).0.fault ≡ None
    → ((y : Text) (v : Thing) → find y (table t s).0 ≡ Some v → calls rest y ≡ false)
    → (entries_call (done ++ local.Table (table t s).1 ∷ rest) (entries_of (table t s).1.entries) || default_calls (done ++ local.Table (table t s).1 ∷ rest) (table t s).1.default) ≡ true
    → ListsUsing (table t s).0 t.name.text
table_applied t s done rest known c later h =
    table_listing t s c
    (table_known (done ++ local.Table (table t s).1 ∷ rest) t (titled t s) (list_any (action_uses (titled t s).actions) (parts t (titled t s)).actions ≡ true) listed
    (clean_both (titled t s).fault (parts t (titled t s)).fault c).1 h)
  where
    listed : (y : Text) → is_action (find y (titled t s)) ≡ true → is_there y (acts t.acts.names (titled t s) none_listed).names ≡ true → calls (done ++ local.Table (table t s).1 ∷ rest) y ≡ true
        → list_any (action_uses (titled t s).actions) (parts t (titled t s)).actions ≡ true
    listed y is there e = by (calls_either done (local.Table (table t s).1 ∷ rest) y e)
      where
        by : (calls done y ≡ true) ⊎ (calls rest y ≡ true) → list_any (action_uses (titled t s).actions) (parts t (titled t s)).actions ≡ true
        by (inl k) =
            let w = still_using s (titled t s) (declared t.name (thing.Table (length s.tables)) s).on y (known y k) in
            has_all t.acts.names (titled t s) none_listed (λ z n there found uses. absurd (false≢true there)) y w.number there w.found w.uses
        by (inr k) = let v = found_action (find y (titled t s)) is in absurd (false≢true (sym (later y v.0 v.1) ∙ k))

-- ---- all declarations

-- each of these tables whose calls reach cells is known to
abbrev Listing : List P4Local → Scope × List P4Local → Type 0
Listing actions y = (x : Text) → applies actions y.1 x ≡ true → ListsUsing y.0 x

pub listing_all : (ls : List P4Local) (s : Scope) (done : List P4Local) → Known done s → (each local_ ls s []).0.fault ≡ None → Listing (done ++ (each local_ ls s []).1) (each local_ ls s [])
listing_all [] s done k = λ c x h. absurd (false≢true h)
listing_all (l ∷ ls) s done k =
    let r : Scope × P4Local = local_ l s in
    let rest : Scope × List P4Local = each local_ ls r.0 [] in
    subst (λ (y : Scope × List P4Local). y.0.fault ≡ None → Listing (done ++ y.1) y) (sym (each_front local_ l ls s))
    (λ c. by l ((locals_onward ls r.0).clean c) c
    (subst (λ (f : List P4Local). Listing f rest) (append_assoc done (r.1 ∷ []) rest.1) (listing_all ls r.0 (done ++ r.1 ∷ []) (known_more done l s k ((locals_onward ls r.0).clean c)) c)))
  where
    by : (m : P4Local) → (local_ m s).0.fault ≡ None → (each local_ ls (local_ m s).0 []).0.fault ≡ None
        → Listing (done ++ (local_ m s).1 ∷ (each local_ ls (local_ m s).0 []).1) (each local_ ls (local_ m s).0 [])
        → Listing (done ++ (local_ m s).1 ∷ (each local_ ls (local_ m s).0 []).1) ((each local_ ls (local_ m s).0 []).0, (local_ m s).1 ∷ (each local_ ls (local_ m s).0 []).1)
    by (local.Table t) c end more x h = at (bytes_eq t.name.text x) refl h
      where
        at : (b : Bool) → bytes_eq t.name.text x ≡ b
            → (if b then entries_call (done ++ (local_ (local.Table t) s).1 ∷ (each local_ ls (table t s).0 []).1) (entries_of (table t s).1.entries)
            || default_calls (done ++ (local_ (local.Table t) s).1 ∷ (each local_ ls (table t s).0 []).1) (table t s).1.default
            else applies (done ++ (local_ (local.Table t) s).1 ∷ (each local_ ls (table t s).0 []).1) (each local_ ls (table t s).0 []).1 x) ≡ true
            → ListsUsing (each local_ ls (table t s).0 []).0 x
        at false e h = more x h
        at true e h =
            subst (ListsUsing (each local_ ls (table t s).0 []).0) (same_text t.name.text x e)
            (still_listing (table t s).0 _ (locals_onward ls (table t s).0) t.name.text
            (table_applied t s done (each local_ ls (table t s).0 []).1 k c (no_later ls (table t s).0 end) h))
    by (local.Const a) c end more x h = more x h
    by (local.Var a) c end more x h = more x h
    by (local.Cell a) c end more x h = more x h
    by (local.Action a) c end more x h = more x h
