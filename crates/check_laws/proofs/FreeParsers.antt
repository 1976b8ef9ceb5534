-- Where `rp` isn't visible no state of a parser without a fault names it, and no header that is emitted is of it.
use Rattle.std.proofs.Common.{◌≡◌, ℕ, true, ◌&&◌, List, [], ◌∷◌, Option, None, refl}
use Rattle.std.specs.Cmp.Derive.{both_true}
use Rattle.p4_ast.specs.declared.expression.P4Expr.{P4Expr}
use Rattle.p4_ast.specs.declared.parser.P4Parser.{P4Parser}
use Rattle.p4_ast.specs.declared.parser.P4State.{P4State}
use Rattle.p4_ast.specs.declared.parser.P4Step.{P4Step}
use Rattle.p4_ast.specs.declared.parser.P4Step.TheVariants as step
use Rattle.p4_ast.specs.declared.parser.P4Target.{P4Target}
use Rattle.p4_ast.specs.declared.parser.P4Target.TheVariants as target
use Rattle.p4_ast.specs.declared.parser.P4Case.{P4Case}
use Rattle.p4_ast.specs.declared.program.P4Emit.{P4Emit}
use Rattle.p4_ast.specs.declared.program.P4Deparser.{P4Deparser}
use Rattle.p4_scope.specs.declared.kind.Kind.{Kind}
use Rattle.p4_scope.specs.declared.thing.Thing.{Thing}
use Rattle.p4_scope.specs.declared.thing.Thing.TheVariants as thing
use Rattle.p4_scope.specs.Faults.{Fault, first_of, first_in, every}
use Rattle.p4_scope.specs.Scopes.{Text, Scope, find, declare, must_be}
use Rattle.p4_scope.specs.Paths.{header_path}
use Rattle.p4_scope.specs.Params.{same_param}
use Rattle.p4_typing.specs.declared.part.Typed.{Typed}
use Rattle.p4_typing.specs.Expressions.{typed, bits_alone}
use Rattle.p4_check.specs.declared.part.Selected.{Selected}
use Rattle.p4_check.specs.declared.part.States.{States}
use Rattle.p4_check.specs.Parsers.{no_states, named_states, is_packet, state_step, none_selected, with_selected, selected, case_, target_, state, params, start_fault, graph, cycles, parser}
use Rattle.p4_check.specs.Programs.{emit, deparser}
use Rattle.app_meaning.specs.Premises.{exprs_free, step_free, steps_free, target_free, states_free, emits_free}
use Rattle.check_laws.proofs.Clean.{clean_both}
use Rattle.check_laws.proofs.Onward.{NoRp, Within, within_then, declared}
use Rattle.check_laws.proofs.Lists.{every_passes}
use Rattle.check_laws.proofs.ProgramWalk.{params_within, with_params}
use Rattle.check_laws.proofs.FreeExprs.{bits_free, header_free}
use Rattle.check_laws.proofs.FreeBlocks.{exprs_last, assigned_free}

-- ---- states

module _ (s : Scope) (n : NoRp s) where
  one_step_free : (x : P4Step) → (state_step s x).0 ≡ None → step_free (state_step s x).1 ≡ true
  one_step_free (step.Extract e) h =
      let t : Option Thing = find e.name.text s in
      header_free e.path s n (clean_both (must_be (is_packet t) e.name t) (header_path e.path s) h).1
  one_step_free (step.Assign a) h = assigned_free a s n h

  all_steps_free : (xs : List P4Step) → (every (state_step s) xs (None, [])).0 ≡ None → steps_free (every (state_step s) xs (None, [])).1 ≡ true
  all_steps_free xs h = (every_passes step_free steps_free refl (λ x xs. refl) (state_step s) one_step_free xs None h).1

  selected_behind : (es : List P4Expr) (done : Selected) → (selected es s done).fault ≡ None → (done.fault ≡ None) × (exprs_free done.exprs ≡ true → exprs_free (selected es s done).exprs ≡ true)
  selected_behind [] done h = (h, λ k. k)
  selected_behind (e ∷ es) done h =
      let t : Typed = bits_alone (typed e s) in
      let rest = selected_behind es (with_selected done t) h in
      let p = clean_both done.fault t.fault rest.0 in
      (p.0, λ k. rest.1 (exprs_last done.exprs t.expr k (bits_free e s n p.1)))

  -- a fault before cases stays
  cases_clean : (f : P4Case → Fault × P4Case) (cs : List P4Case) (found : Fault) → (every f cs (found, [])).0 ≡ None → found ≡ None
  cases_clean f cs found h = (every_passes (λ c. true) (λ cs. true) refl (λ c cs. refl) f (λ c e. refl) cs found h).0

  goes_free : (names : List (Text × ℕ)) (t : P4Target) → (target_ names t s).0 ≡ None → target_free (target_ names t s).1 ≡ true
  goes_free names (target.Name at x) h = refl
  goes_free names (target.Select at es cs) h =
      let r : Selected = selected es s none_selected in
      (selected_behind es none_selected (cases_clean (case_ names r.forms s) cs r.fault h)).1 refl

  state_free : (names : List (Text × ℕ)) (t : P4State) → (state names s t).0 ≡ None → (steps_free (state names s t).1.steps && target_free (state names s t).1.target) ≡ true
  state_free names t h =
      let p = clean_both (every (state_step s) t.steps (None, [])).0 (target_ names t.target s).0 h in
      both_true (all_steps_free t.steps p.0) (goes_free names t.target p.1)

  all_states_free : (names : List (Text × ℕ)) (ts : List P4State) → (every (state names s) ts (None, [])).0 ≡ None → states_free (every (state names s) ts (None, [])).1 ≡ true
  all_states_free names ts h =
      (every_passes (λ (t : P4State). steps_free t.steps && target_free t.target) states_free refl (λ x xs. refl) (state names s) (state_free names) ts None h).1

-- ---- parsers

pub parser_free : (p : P4Parser) (s : Scope) → NoRp s → (parser p s).0.fault ≡ None → states_free (parser p s).1 ≡ true
unfolding parser
parser_free p s n h =
    let u : Scope = declare p.name thing.Parser s in
    let ts : States = named_states p.states no_states in
    let t : Scope = params p u in
    let r : Fault × List P4State = every (state ts.names t) p.states (None, []) in
    let loops : Fault = cycles (graph ts.names p.states) ts.names p.states None in
    let a = clean_both t.fault (first_of (start_fault ts.names p) (first_of ts.fault (first_of r.0 loops))) h in
    let b = clean_both (start_fault ts.names p) (first_of ts.fault (first_of r.0 loops)) a.1 in
    let c = clean_both r.0 loops (clean_both ts.fault (first_of r.0 loops) b.1).1 in
    all_states_free t ((within_then s u t (declared p.name thing.Parser s) (params_within p u)).on.free a.0 n) ts.names p.states c.0

-- ---- deparsers

emitted : (s : Scope) (n : NoRp s) (es : List P4Emit) (found : Fault) → first_in (emit s) es found ≡ None → (found ≡ None) × (emits_free es ≡ true)
emitted s n [] found h = (h, refl)
emitted s n (e ∷ es) found h =
    let rest = emitted s n es (first_of found (emit s e)) h in
    let p = clean_both found (emit s e) rest.0 in
    let t : Option Thing = find e.name.text s in
    (p.0, both_true (header_free e.path s n (clean_both (must_be (is_packet t) e.name t) (header_path e.path s) p.1).1) rest.1)

pub deparser_free : (k : Kind) (d : P4Deparser) (s : Scope) → NoRp s → (deparser k d s).fault ≡ None → emits_free d.emits ≡ true
unfolding deparser
deparser_free k d s n h =
    let u : Scope = declare d.name thing.Deparser s in
    let v : Scope = declare d.packet thing.Packet u in
    let t : Scope = same_param k d.headers v in
    let a = clean_both t.fault (first_in (emit t) d.emits None) h in
    let w : Within s t = within_then s u t (declared d.name thing.Deparser s) (within_then u v t (declared d.packet thing.Packet u) (with_params k d.headers v)) in
    (emitted t (w.on.free a.0 n) d.emits None a.1).1
