-- The rewritten program keeps the meaning of its source.
use Rattle.std.proofs.Common.{◌≡◌, ℕ, ◌≤◌, Bool, true, false, not, ◌&&◌, ◌||◌, List, [], ◌∷◌, map, length, Option, Some, None, refl, sym, ap, ◌∙◌, subst, option_map, codes, arith}
use Rattle.std.proofs.lemmas.Bool.{and_parts, not-true, not_from_false, or_left, or_right}
use Rattle.std.proofs.lemmas.Option.{none-some}
use Rattle.std.proofs.lemmas.List.{length-replicate}
use Rattle.rp_base.specs.declared.node.Packet.{Packet}
use Rattle.rp_app.specs.Application.{Delta, zeros}
use Rattle.p4_ast.specs.declared.control.P4Local.{P4Local}
use Rattle.p4_ast.specs.declared.control.P4Local.TheVariants as local
use Rattle.p4_ast.specs.declared.program.P4Program.{P4Program}
use Rattle.app_data.specs.declared.value.Value.{Value}
use Rattle.app_meaning.specs.Values.{cut, truth, bit_of}
use Rattle.app_data.specs.declared.scope.Register.{Register}
use Rattle.app_meaning.specs.Slots.{Name, Scope, named_register, text, path_value}
use Rattle.app_data.specs.declared.run.Run.{Run}
use Rattle.app_meaning.specs.Statements.{Context, declare, run_block}
use Rattle.app_meaning.specs.Actions.{call, apply, control_context}
use Rattle.rp_bits.specs.Bits.{bits_of}
use Rattle.app_meaning.specs.Packets.{Parsing, parse, emitted}
use Rattle.app_meaning.specs.Programs.{Outcome, globals, locals, cell_count, parser_scope, control_scope, deparser_scope, run_locals, std_path, first_values, run_control, deparsed, after_parser, outcome_in, outcome, key}
use Rattle.app_meaning.proofs.Outcomes.{with_rp}
use Rattle.p4_check.specs.Rewriting.{Source, source_of, rewrite_locals, rewrite_block, rewritten}
use Rattle.rewrite_laws.specs.Leases.{dirty, verdict, dirty_bit, RunsHeld, AsksLease, PassesBy, KeepsMeaning}
use Rattle.app_meaning.specs.Premises.{is_rp, path_free, local_free, locals_free, actions_keyless, states_free, emits_free, reach_of, block_facts, program_free, program_keyed, IsSound}
use Rattle.rewrite_laws.proofs.Lifted.{all_cells, lift, OwnFree, path_value3}
use Rattle.rewrite_laws.proofs.LiftedValues.{put3, declare3}
use Rattle.rewrite_laws.proofs.Pieces.{ext, is_dirty}
use Rattle.app_meaning.proofs.Cells.{Within}
use Rattle.rewrite_laws.proofs.Simulated.{block_sim}
use Rattle.app_meaning.proofs.Tails.{run_of}
use Rattle.rewrite_laws.proofs.Tails.{Ends, Passes, Asks, block_ends}
use Rattle.app_meaning.proofs.Calls.{calm_call, calm_apply, kept_call, kept_apply}
use Rattle.rewrite_laws.proofs.Controls.{call_sim, apply_sim}
use Rattle.rewrite_laws.proofs.Parsed.{behind, parse3, emitted3}
use Rattle.app_meaning.proofs.Cells.{cells_within}
use Rattle.rewrite_laws.proofs.Declared.{same_variables, same_slots, same_constants}

-- the variables of the control get their values
locals3 : (src : Source) (ls : List P4Local) → locals_free ls ≡ true → (n : ℕ) (sc : Scope) → (own : sc.own ≡ None) → (a b c : Value) (vs : List Value)
    → ((o : OwnFree sc.own) → run_locals (rewrite_locals src ls) (lift (all_cells n) sc) (a ∷ b ∷ c ∷ vs) ≡ (a ∷ b ∷ c ∷ run_locals ls sc vs))
locals3 src [] h n sc own a b c vs o = refl
locals3 src (local.Const x ∷ ls) h n sc own a b c vs o = locals3 src ls (and_parts true (locals_free ls) h).1 n sc own a b c vs o
locals3 src (local.Cell x ∷ ls) h n sc own a b c vs o = locals3 src ls (and_parts true (locals_free ls) h).1 n sc own a b c vs o
locals3 src (local.Action x ∷ ls) h n sc own a b c vs o = locals3 src ls (and_parts (local_free (local.Action x)) (locals_free ls) h).1 n sc own a b c vs o
locals3 src (local.Table x ∷ ls) h n sc own a b c vs o = locals3 src ls (and_parts (local_free (local.Table x)) (locals_free ls) h).1 n sc own a b c vs o
locals3 src (local.Var v ∷ ls) h n sc own a b c vs o =
    let hs = and_parts (local_free (local.Var v)) (locals_free ls) h in
    ap (run_locals (rewrite_locals src ls) (lift (all_cells n) sc)) (declare3 (all_cells n) sc o v hs.0 a b c vs) ∙ locals3 src ls hs.1 n sc own a b c (declare sc v vs) o

-- the outcome behind the fields of `rp`
abbrev pub lifted : Bool → Bool → Outcome → Outcome
lifted live asks o = record { values = truth live ∷ truth (is_dirty o.delta) ∷ truth asks ∷ o.values; delta = o.delta; key = o.key; output = o.output }

cut-held : (live : Bool) → cut 1 (bit_of live) ≡ truth live
cut-held true = refl
cut-held false = refl

module _ (p0 : P4Program) (few : cell_count p0 ≤ 256) (free : program_free p0 ≡ true) (keyed : program_keyed p0 ≡ true) where
  abbrev p : P4Program
  p = with_rp p0 None

  abbrev q : P4Program
  q = rewritten p

  abbrev n : ℕ
  n = cell_count p

  abbrev sc : Scope
  sc = control_scope p n

  abbrev src : Source
  src = source_of p

  free_parts : (states_free p.parser.states ≡ true) × (is_rp (text p.ingress.std) ≡ false) × (locals_free p.ingress.locals ≡ true) × ((block_facts (reach_of p.ingress.locals) p.ingress.block).free ≡ true) × (emits_free p.deparser.emits ≡ true)
  free_parts =
      let a = and_parts (states_free p.parser.states && not (is_rp (text p.ingress.std)) && locals_free p.ingress.locals && (block_facts (reach_of p.ingress.locals) p.ingress.block).free) (emits_free p.deparser.emits) free in
      let b = and_parts (states_free p.parser.states && not (is_rp (text p.ingress.std)) && locals_free p.ingress.locals) ((block_facts (reach_of p.ingress.locals) p.ingress.block).free) a.0 in
      let c = and_parts (states_free p.parser.states && not (is_rp (text p.ingress.std))) (locals_free p.ingress.locals) b.0 in
      let d = and_parts (states_free p.parser.states) (not (is_rp (text p.ingress.std))) c.0 in
      (d.0, not-true (is_rp (text p.ingress.std)) d.1, c.1, b.1, a.1)

  keyed_parts : (actions_keyless p.ingress.locals ≡ true) × ((block_facts (reach_of p.ingress.locals) p.ingress.block).tail ≡ true)
  keyed_parts = and_parts (actions_keyless p.ingress.locals) (block_facts (reach_of p.ingress.locals) p.ingress.block).tail keyed

  pub fits : (name : Name) (g : Register) → named_register name sc.registers ≡ Some g → Within n g.first g.size
  fits name g e = subst (λ (k : ℕ). Within k g.first g.size) (omega arith) (cells_within (locals p).types 0 p.ingress.locals name g e)

  -- ---- scopes

  control_lifted : (m : ℕ) → control_scope q m ≡ lift (all_cells m) (control_scope p m)
  control_lifted m = rw (same_constants src (globals p) p.ingress.locals, same_slots src (locals p).types p.ingress.locals, same_variables src p.ingress.block) refl

  parser_lifted : parser_scope q ≡ lift [] (parser_scope p)
  parser_lifted = refl

  deparser_lifted : deparser_scope q ≡ lift [] (deparser_scope p)
  deparser_lifted = refl

  abbrev S : Scope
  S = lift (all_cells n) sc

  abbrev ls : List P4Local
  ls = p.ingress.locals

  abbrev ls' : List P4Local
  ls' = rewrite_locals src ls

  abbrev C : Context
  C = control_context sc ls

  abbrev C' : Context
  C' = control_context S ls'

  std_free : (field : Name) → path_free (std_path p.ingress.std field) ≡ true
  std_free field = not_from_false (is_rp (text p.ingress.std)) free_parts.1

  first3 : (live : Bool) (packet : Packet) → first_values q S (bit_of live) packet ≡ (truth live ∷ truth false ∷ truth false ∷ first_values p sc 0 packet)
  first3 live packet =
      rw (put3 (all_cells n) sc tt (std_path p.ingress.std (codes "in_port")) (std_free (codes "in_port")) (cut 1 0) (cut 1 0) (cut 1 0) (map (λ s. cut s.width 0) sc.slots) (cut 16 packet.port), sym (cut-held live)) refl

  -- ---- the end of a run

  deparsed3 : (live asks : Bool) (packet : Packet) (left : List ℕ) (r : Run) → deparsed q S packet left (ext live asks r) ≡ lifted live asks (deparsed p sc packet left r)
  deparsed3 live asks packet left r =
      let bits : emitted (deparser_scope q) p.deparser.emits (ext live asks r).values ≡ emitted (deparser_scope p) p.deparser.emits r.values =
      ap (λ (s : Scope). emitted s p.deparser.emits (ext live asks r).values) deparser_lifted
      ∙ emitted3 [] (deparser_scope p) tt (truth live) (truth (is_dirty r.delta)) (truth asks) p.deparser.emits free_parts.4 r.values in
      let drop : path_value S (ext live asks r).values (std_path p.ingress.std (codes "drop")) ≡ path_value sc r.values (std_path p.ingress.std (codes "drop")) =
      path_value3 (all_cells n) sc tt (std_path p.ingress.std (codes "drop")) (std_free (codes "drop")) (truth live) (truth (is_dirty r.delta)) (truth asks) r.values in
      let port : path_value S (ext live asks r).values (std_path p.ingress.std (codes "out_port")) ≡ path_value sc r.values (std_path p.ingress.std (codes "out_port")) =
      path_value3 (all_cells n) sc tt (std_path p.ingress.std (codes "out_port")) (std_free (codes "out_port")) (truth live) (truth (is_dirty r.delta)) (truth asks) r.values in
      rw (bits, drop, port) refl

  -- where the control begins
  begun : List ℕ → List Value → Run
  begun cells vs = record { values = run_locals ls sc vs; cells = cells; delta = []; key = None }

  start3 : (live : Bool) (cells : List ℕ) (parsed : Parsing)
      → run_control q S cells (behind [] (parser_scope p) tt (truth live) (truth false) (truth false) parsed) ≡ run_block (rewrite_block src p.ingress.block) C' (ext live false (begun cells parsed.values))
  unfolding begun
  start3 live cells parsed = rw (locals3 src ls free_parts.2 n sc refl (truth live) (truth false) (truth false) parsed.values tt) refl

  parsed_of : Packet → Option Parsing
  parsed_of packet = parse (parser_scope p) p.parser.states (record { values = first_values p sc 0 packet; left = bits_of packet.bytes })

  abbrev three : Bool → Parsing → Parsing
  three live = behind [] (parser_scope p) tt (truth live) (truth false) (truth false)

  -- the outcomes by what was parsed
  source_is : (cells : List ℕ) → length cells ≡ n → (packet : Packet) → outcome p 0 cells packet ≡ after_parser p sc cells packet (first_values p sc 0 packet) (parsed_of packet)
  unfolding parsed_of
  source_is cells l packet = ap (λ (m : ℕ). outcome_in p (control_scope p m) 0 cells packet) l

  new_is : (live : Bool) (cells : List ℕ) → length cells ≡ n → (packet : Packet)
      → outcome q (bit_of live) cells packet ≡ after_parser q S cells packet (truth live ∷ truth false ∷ truth false ∷ first_values p sc 0 packet) (option_map (three live) (parsed_of packet))
  unfolding parsed_of
  new_is live cells l packet =
      ap (λ (m : ℕ). outcome_in q (control_scope q m) (bit_of live) cells packet) l
      ∙ ap (λ (s : Scope). outcome_in q s (bit_of live) cells packet) (control_lifted n)
      ∙ ap (λ (vs : List Value). after_parser q S cells packet vs (parse (parser_scope q) p.parser.states (record { values = vs; left = bits_of packet.bytes }))) (first3 live packet)
      ∙ ap (λ (o : Option Parsing). after_parser q S cells packet (truth live ∷ truth false ∷ truth false ∷ first_values p sc 0 packet) o)
      (parse3 [] (parser_scope p) tt (truth live) (truth false) (truth false) p.parser.states free_parts.0 (record { values = first_values p sc 0 packet; left = bits_of packet.bytes }))

  -- ---- under the lease

  keyless_or : (live : Bool) → (actions_keyless ls || live) ≡ true
  keyless_or live = or_left (actions_keyless ls) live keyed_parts.0

  held_block : (asks : Bool) (r : Run) → run_block (rewrite_block src p.ingress.block) C' (ext true asks r) ≡ ext true asks (run_block p.ingress.block C r)
  held_block asks r =
      block_sim n few sc tt fits true (call sc ls) (call S ls') (apply sc ls ls) (apply S ls' ls')
      (call_sim n few sc fits true ls free_parts.2 (keyless_or true)) (apply_sim n few sc fits true ls free_parts.2 (keyless_or true) ls free_parts.2)
      (reach_of ls) p.ingress.block free_parts.3 (or_right (block_facts (reach_of ls) p.ingress.block).keyless true refl) asks r

  held_after : (cells : List ℕ) (packet : Packet) (vs : List Value) (o : Option Parsing)
      → after_parser q S cells packet (truth true ∷ truth false ∷ truth false ∷ vs) (option_map (three true) o) ≡ lifted true false (after_parser p sc cells packet vs o)
  unfolding begun
  held_after cells packet vs None = refl
  held_after cells packet vs (Some parsed) =
      ap (deparsed q S packet parsed.left) (start3 true cells parsed ∙ held_block false (begun cells parsed.values))
      ∙ deparsed3 true false packet parsed.left (run_block p.ingress.block C (begun cells parsed.values))

  pub held_outcome : (cells : List ℕ) → length cells ≡ n → (packet : Packet) → outcome q 1 cells packet ≡ lifted true false (outcome p 0 cells packet)
  held_outcome cells l packet = new_is true cells l packet ∙ held_after cells packet (first_values p sc 0 packet) (parsed_of packet) ∙ sym (ap (lifted true false) (source_is cells l packet))

  -- ---- without the lease

  ends : (vs : List Value) → Ends (run_block p.ingress.block C) (run_block (rewrite_block src p.ingress.block) C') vs
  ends vs =
      block_ends n few sc tt fits (call sc ls) (call S ls') (apply sc ls ls) (apply S ls' ls')
      (call_sim n few sc fits false ls free_parts.2 (keyless_or false)) (apply_sim n few sc fits false ls free_parts.2 (keyless_or false) ls free_parts.2)
      (reach_of ls) (calm_call sc ls) (calm_apply sc ls ls) (kept_call sc ls keyed_parts.0) (kept_apply sc ls keyed_parts.0 ls)
      p.ingress.block free_parts.3 keyed_parts.1 vs

  -- an outcome of the rewritten program that asks for the lease
  pub record IsAsking (k : List ℕ) (o : Outcome) : Type 0 where
    pub delta : o.delta ≡ []
    pub key : o.key ≡ Some k
    pub values : (after : List Value) × (o.values ≡ (truth false ∷ truth false ∷ truth true ∷ after))

  -- What becomes of a packet: it has no key, and one outcome whatever the cells are, or it has a key.
  pub data Fate (packet : Packet) : Type 0 where
    Keyless : (o : Outcome) → o.delta ≡ [] → o.key ≡ None
        → ((cells : List ℕ) → length cells ≡ n → outcome p 0 cells packet ≡ o)
        → ((cells : List ℕ) → length cells ≡ n → outcome q 0 cells packet ≡ lifted false false o) → Fate packet
    Keyed : (k : List ℕ) → ((cells : List ℕ) → length cells ≡ n → (outcome p 0 cells packet).key ≡ Some k)
        → ((cells : List ℕ) → length cells ≡ n → IsAsking k (outcome q 0 cells packet)) → Fate packet

  after_ends : (packet : Packet) (left : List ℕ) (vs vs0 : List Value) → parsed_of packet ≡ Some (record { values = vs; left = left })
      → Ends (run_block p.ingress.block C) (run_block (rewrite_block src p.ingress.block) C') (run_locals ls sc vs) → Fate packet
  unfolding begun
  after_ends packet left vs vs0 e (Passes after s t) =
      Keyless (deparsed p sc packet left (run_of after [] [] None)) refl refl
      (λ cells l. source_is cells l packet ∙ ap (after_parser p sc cells packet (first_values p sc 0 packet)) e ∙ ap (deparsed p sc packet left) (s cells [] None))
      (λ cells l.
      new_is false cells l packet
      ∙ ap (λ (o : Option Parsing). after_parser q S cells packet (truth false ∷ truth false ∷ truth false ∷ first_values p sc 0 packet) (option_map (three false) o)) e
      ∙ ap (deparsed q S packet left) (start3 false cells (record { values = vs; left = left }) ∙ t cells [] None false)
      ∙ deparsed3 false false packet left (run_of after cells [] None))
  after_ends packet left vs vs0 e (Asks k after s t) =
      Keyed k
      (λ cells l. ap (λ (o : Outcome). o.key) (source_is cells l packet ∙ ap (after_parser p sc cells packet (first_values p sc 0 packet)) e) ∙ s cells [] None)
      (λ cells l.
      let same : outcome q 0 cells packet ≡ lifted false true (deparsed p sc packet left (run_of after cells [] (Some k))) =
      new_is false cells l packet
      ∙ ap (λ (o : Option Parsing). after_parser q S cells packet (truth false ∷ truth false ∷ truth false ∷ first_values p sc 0 packet) (option_map (three false) o)) e
      ∙ ap (deparsed q S packet left) (start3 false cells (record { values = vs; left = left }) ∙ t cells [] None false)
      ∙ deparsed3 false true packet left (run_of after cells [] (Some k)) in
      record {
        delta = ap (λ (o : Outcome). o.delta) same;
        key = ap (λ (o : Outcome). o.key) same;
        values = (after, ap (λ (o : Outcome). o.values) same);
      })

  fate_of : (packet : Packet) (o : Option Parsing) → parsed_of packet ≡ o → Fate packet
  fate_of packet None e =
      Keyless (record { values = first_values p sc 0 packet; delta = []; key = None; output = None }) refl refl
      (λ cells l. source_is cells l packet ∙ ap (after_parser p sc cells packet (first_values p sc 0 packet)) e)
      (λ cells l.
      new_is false cells l packet
      ∙ ap (λ (x : Option Parsing). after_parser q S cells packet (truth false ∷ truth false ∷ truth false ∷ first_values p sc 0 packet) (option_map (three false) x)) e)
  fate_of packet (Some parsed) e = after_ends packet parsed.left parsed.values parsed.values e (ends (run_locals ls sc parsed.values))

  pub fate : (packet : Packet) → Fate packet
  fate packet = fate_of packet (parsed_of packet) refl

  -- ---- the law

  pub zeros_many : length (zeros n) ≡ n
  zeros_many = length-replicate n 0

  -- the fields of `rp` in a list of values
  rp_values : (cells : List ℕ) (o : Outcome) (a b c : Bool) (vs : List Value) → o.values ≡ (truth a ∷ truth b ∷ truth c ∷ vs) → (dirty p cells o ≡ bit_of b) × (verdict p cells o ≡ bit_of c)
  rp_values cells o a b c vs e = (
    ap (λ (us : List Value). (path_value (control_scope q (length cells)) us (codes "rp" ∷ codes "dirty" ∷ [])).number) e,
    ap (λ (us : List Value). (path_value (control_scope q (length cells)) us (codes "rp" ∷ codes "verdict" ∷ [])).number) e,
  )

  dirty_is : (d : Delta) → bit_of (is_dirty d) ≡ dirty_bit d
  dirty_is [] = refl
  dirty_is (x ∷ xs) = refl

  one_key : (cells : List ℕ) (packet : Packet) → length cells ≡ n → Fate packet → (outcome p 0 cells packet).key ≡ key p packet
  one_key cells packet l (Keyless o d ke s t) = ap (λ (x : Outcome). x.key) (s cells l ∙ sym (s (zeros n) zeros_many))
  one_key cells packet l (Keyed k s t) = s cells l ∙ sym (s (zeros n) zeros_many)

  runs_held : (cells : List ℕ) (packet : Packet) → length cells ≡ n → RunsHeld p cells packet
  runs_held cells packet l =
      let e : outcome q 1 cells packet ≡ lifted true false (outcome p 0 cells packet) = held_outcome cells l packet in
      let rp = rp_values cells (outcome q 1 cells packet) true (is_dirty (outcome p 0 cells packet).delta) false (outcome p 0 cells packet).values (ap (λ (o : Outcome). o.values) e) in
      record {
        delta = ap (λ (o : Outcome). o.delta) e;
        output = ap (λ (o : Outcome). o.output) e;
        key = ap (λ (o : Outcome). o.key) e ∙ one_key cells packet l (fate packet);
        verdict = rp.1;
        dirty = rp.0 ∙ dirty_is (outcome p 0 cells packet).delta;
      }

  asks_lease : (cells : List ℕ) (packet : Packet) (k : List ℕ) → length cells ≡ n → key p packet ≡ Some k → Fate packet → AsksLease p cells packet k
  asks_lease cells packet k l h (Keyless o d ke s t) = absurd (none-some k (sym (ap (λ (x : Outcome). x.key) (s (zeros n) zeros_many) ∙ ke) ∙ h))
  asks_lease cells packet k l h (Keyed k' s t) =
      let a : IsAsking k' (outcome q 0 cells packet) = t cells l in
      let rp = rp_values cells (outcome q 0 cells packet) false false true a.values.0 a.values.1 in
      record {
        verdict = rp.1;
        dirty = rp.0;
        delta = a.delta;
        key = a.key ∙ sym (s (zeros n) zeros_many) ∙ h;
      }

  passes_by : (cells : List ℕ) (packet : Packet) → length cells ≡ n → key p packet ≡ None → Fate packet → PassesBy p 0 cells packet × PassesBy p 1 cells packet
  passes_by cells packet l h (Keyed k s t) = absurd (none-some k (sym h ∙ s (zeros n) zeros_many))
  passes_by cells packet l h (Keyless o d ke s t) =
      let source : outcome p 0 cells packet ≡ o = s cells l in
      let free_run : outcome q 0 cells packet ≡ lifted false false o = t cells l in
      let held_run : outcome q 1 cells packet ≡ lifted true false o = held_outcome cells l packet ∙ ap (lifted true false) source in
      let clean : is_dirty o.delta ≡ false = ap is_dirty d in
      let rp0 = rp_values cells (outcome q 0 cells packet) false (is_dirty o.delta) false o.values (ap (λ (x : Outcome). x.values) free_run) in
      let rp1 = rp_values cells (outcome q 1 cells packet) true (is_dirty o.delta) false o.values (ap (λ (x : Outcome). x.values) held_run) in (
        record {
          output = ap (λ (x : Outcome). x.output) free_run ∙ sym (ap (λ (x : Outcome). x.output) source);
          verdict = rp0.1;
          dirty = rp0.0 ∙ ap bit_of clean;
          delta = ap (λ (x : Outcome). x.delta) free_run ∙ d;
          key = ap (λ (x : Outcome). x.key) free_run ∙ ke;
        },
        record {
          output = ap (λ (x : Outcome). x.output) held_run ∙ sym (ap (λ (x : Outcome). x.output) source);
          verdict = rp1.1;
          dirty = rp1.0 ∙ ap bit_of clean;
          delta = ap (λ (x : Outcome). x.delta) held_run ∙ d;
          key = ap (λ (x : Outcome). x.key) held_run ∙ ke;
        },
      )

  pub law : KeepsMeaning p
  law = record {
    one_key = λ cells packet l. one_key cells packet l (fate packet);
    held = runs_held;
    asks = λ cells packet k l h. asks_lease cells packet k l h (fate packet);
    passes = λ cells packet l h. passes_by cells packet l h (fate packet);
  }

-- of a source, which has no fourth parameter
pub keeps_meaning : (p : P4Program) → IsSound p → KeepsMeaning p
keeps_meaning p h = subst KeepsMeaning (sym (ap (with_rp p) h.source)) (law p h.few h.free h.keyed)
