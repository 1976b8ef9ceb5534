-- The parser and the deparser of the rewritten program are the source's.
use Rattle.std.proofs.Common.{◌≡◌, ℕ, zero, suc, ◌+◌, Bool, true, false, ◌&&◌, List, [], ◌∷◌, ◌++◌, Option, Some, None, refl, ap, if◌then◌else◌, take, drop, length, nat_le, set, bytes_eq, codes, option_map}
use Rattle.std.proofs.lemmas.Bool.{and_parts}
use Rattle.p4_ast.specs.declared.parser.P4State.{P4State}
use Rattle.p4_ast.specs.declared.parser.P4Step.{P4Step}
use Rattle.p4_ast.specs.declared.parser.P4Step.TheVariants as step
use Rattle.p4_ast.specs.declared.parser.P4Target.{P4Target}
use Rattle.p4_ast.specs.declared.parser.P4Target.TheVariants as target
use Rattle.p4_ast.specs.declared.program.P4Emit.{P4Emit}
use Rattle.app_data.specs.declared.value.Value.{Value}
use Rattle.app_meaning.specs.Values.{cut, holds}
use Rattle.app_data.specs.declared.scope.Register.{Register}
use Rattle.app_meaning.specs.Slots.{Name, Scope, names, text, slot_of, value_in}
use Rattle.app_meaning.specs.Matches.{winner}
use Rattle.app_meaning.specs.Expressions.{eval}
use Rattle.app_meaning.specs.Assigning.{field_count}
use Rattle.rp_bits.specs.Bits.{digits, number_of}
use Rattle.app_meaning.specs.Packets.{Parsing, total_width, filled, valid_at, extract, parser_step, then_steps, parser_steps, cases, row_name, next, with_next, run_state, is_accept, go_on, parse_from, parse, field_bits, header_bits, emitted}
use Rattle.app_meaning.specs.Premises.{path_free, expr_free, step_free, steps_free, target_free, states_free, emits_free}
use Rattle.rewrite_laws.proofs.Lifted.{lift, add3, OwnFree, slot_of3, eval3, values_of3}
use Rattle.rewrite_laws.proofs.LiftedValues.{assign3}

module _ (rs : List Register) (sc : Scope) (own : OwnFree sc.own) (a b c : Value) where
  -- the same values behind the three of `rp`
  abbrev pub behind : Parsing → Parsing
  behind p = record { values = a ∷ b ∷ c ∷ p.values; left = p.left }

  total3 : (k i : ℕ) (vs : List Value) → total_width k (add3 i) (a ∷ b ∷ c ∷ vs) ≡ total_width k i vs
  total3 zero i vs = refl
  total3 (suc k) i vs = ap (λ (w : ℕ). (value_in vs i).width + w) (total3 k (suc i) vs)

  filled3 : (k i : ℕ) (p : Parsing) → filled k (add3 i) (behind p) ≡ behind (filled k i p)
  filled3 zero i p = refl
  filled3 (suc k) i p =
      filled3 k (suc i) (record { values = set p.values i (cut (value_in p.values i).width (number_of (take (value_in p.values i).width p.left))); left = drop (value_in p.values i).width p.left })

  enough : (t : Bool) (x y : Parsing) → x ≡ behind y → (if t then Some x else None) ≡ option_map behind (if t then Some y else None)
  enough true x y e = ap (λ (p : Parsing). Some p) e
  enough false x y e = refl

  extract3 : (o : Option ℕ) (p : Parsing) → extract (lift rs sc) (option_map add3 o) (behind p) ≡ option_map behind (extract sc o p)
  extract3 None p = refl
  extract3 (Some h) p =
      rw (total3 (field_count sc h) (suc h) p.values)
      (enough (nat_le (total_width (field_count sc h) (suc h) p.values) (length p.left)) _ _ (ap (valid_at (add3 h)) (filled3 (field_count sc h) (suc h) p)))

  step3 : (s : P4Step) → step_free s ≡ true → (p : Parsing) → parser_step (lift rs sc) s (behind p) ≡ option_map behind (parser_step sc s p)
  step3 (step.Extract e) h p = rw (slot_of3 rs sc own (names e.path) h) (extract3 (slot_of sc (names e.path)) p)
  step3 (step.Assign x) h p =
      let hs = and_parts (path_free (names x.left.path)) (expr_free x.expr) h in
      rw (eval3 rs sc own x.expr hs.1 a b c p.values, assign3 rs sc own x.left hs.0 (eval x.expr sc p.values).number a b c p.values) refl

  then3 : (m m' : Parsing → Option Parsing) → ((p : Parsing) → m' (behind p) ≡ option_map behind (m p)) → (o : Option Parsing) → then_steps m' (option_map behind o) ≡ option_map behind (then_steps m o)
  then3 m m' e None = refl
  then3 m m' e (Some p) = e p

  steps3 : (ss : List P4Step) → steps_free ss ≡ true → (p : Parsing) → parser_steps (lift rs sc) ss (behind p) ≡ option_map behind (parser_steps sc ss p)
  steps3 [] h p = refl
  steps3 (s ∷ ss) h p =
      let hs = and_parts (step_free s) (steps_free ss) h in
      rw (step3 s hs.0 p) (then3 (parser_steps sc ss) (parser_steps (lift rs sc) ss) (steps3 ss hs.1) (parser_step sc s p))

  next3 : (t : P4Target) → target_free t ≡ true → (vs : List Value) → next (lift rs sc) t (a ∷ b ∷ c ∷ vs) ≡ next sc t vs
  next3 (target.Name at name) h vs = refl
  next3 (target.Select at es cs) h vs =
      ap (λ (keys : List Value). row_name (winner None keys (cases sc cs))) (values_of3 rs sc own es h a b c vs)

  abbrev behind_next : Option Name × Parsing → Option Name × Parsing
  behind_next x = (x.0, behind x.1)

  with_next3 : (t : P4Target) → target_free t ≡ true → (o : Option Parsing) → with_next (lift rs sc) t (option_map behind o) ≡ option_map behind_next (with_next sc t o)
  with_next3 t h None = refl
  with_next3 t h (Some p) = ap (λ (x : Option Name). Some (x, behind p)) (next3 t h p.values)

  either : (t : Bool) (x y : Option (Option Name × Parsing)) → (if t then option_map behind_next x else option_map behind_next y) ≡ option_map behind_next (if t then x else y)
  either true x y = refl
  either false x y = refl

  run_state3 : (ss : List P4State) → states_free ss ≡ true → (name : Name) (p : Parsing) → run_state (lift rs sc) ss name (behind p) ≡ option_map behind_next (run_state sc ss name p)
  run_state3 [] h name p = refl
  run_state3 (s ∷ ss) h name p =
      let hs = and_parts (steps_free s.steps && target_free s.target) (states_free ss) h in
      let hs' = and_parts (steps_free s.steps) (target_free s.target) hs.0 in
      rw (steps3 s.steps hs'.0 p, with_next3 s.target hs'.1 (parser_steps sc s.steps p), run_state3 ss hs.1 name p)
      (either (bytes_eq (text s.name) name) (with_next sc s.target (parser_steps sc s.steps p)) (run_state sc ss name p))

  go_on3 : (m m' : Name → Parsing → Option Parsing) → ((name : Name) (p : Parsing) → m' name (behind p) ≡ option_map behind (m name p)) → (o : Option (Option Name × Parsing)) → go_on m' (option_map behind_next o) ≡ option_map behind (go_on m o)
  go_on3 m m' e None = refl
  go_on3 m m' e (Some (None, p)) = refl
  go_on3 m m' e (Some (Some name, p)) = e name p

  accepted : (t : Bool) (p : Parsing) (o : Option Parsing) → (if t then Some (behind p) else option_map behind o) ≡ option_map behind (if t then Some p else o)
  accepted true p o = refl
  accepted false p o = refl

  parse_from3 : (fuel : ℕ) (ss : List P4State) → states_free ss ≡ true → (name : Name) (p : Parsing) → parse_from fuel (lift rs sc) ss name (behind p) ≡ option_map behind (parse_from fuel sc ss name p)
  parse_from3 zero ss h name p = refl
  parse_from3 (suc fuel) ss h name p =
      rw (run_state3 ss h name p, go_on3 (parse_from fuel sc ss) (parse_from fuel (lift rs sc) ss) (parse_from3 fuel ss h) (run_state sc ss name p))
      (accepted (is_accept name) p (go_on (parse_from fuel sc ss) (run_state sc ss name p)))

  pub parse3 : (ss : List P4State) → states_free ss ≡ true → (p : Parsing) → parse (lift rs sc) ss (behind p) ≡ option_map behind (parse sc ss p)
  parse3 ss h p = parse_from3 (suc (length ss)) ss h (codes "start") p

  field_bits3 : (k i : ℕ) (vs : List Value) → field_bits k (add3 i) (a ∷ b ∷ c ∷ vs) ≡ field_bits k i vs
  field_bits3 zero i vs = refl
  field_bits3 (suc k) i vs = ap (λ (bits : List ℕ). digits (value_in vs i).width (value_in vs i).number ++ bits) (field_bits3 k (suc i) vs)

  header_bits3 : (o : Option ℕ) (vs : List Value) → header_bits (lift rs sc) (a ∷ b ∷ c ∷ vs) (option_map add3 o) ≡ header_bits sc vs o
  header_bits3 None vs = refl
  header_bits3 (Some h) vs = ap (λ (bits : List ℕ). if holds (value_in vs h) then bits else []) (field_bits3 (field_count sc h) (suc h) vs)

  pub emitted3 : (es : List P4Emit) → emits_free es ≡ true → (vs : List Value) → emitted (lift rs sc) es (a ∷ b ∷ c ∷ vs) ≡ emitted sc es vs
  emitted3 [] h vs = refl
  emitted3 (e ∷ es) h vs =
      let hs = and_parts (path_free (names e.path)) (emits_free es) h in
      rw (slot_of3 rs sc own (names e.path) hs.0, header_bits3 (slot_of sc (names e.path)) vs, emitted3 es hs.1 vs) refl
