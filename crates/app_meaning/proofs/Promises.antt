-- Programs keep what is promised of every application.
use Rattle.std.proofs.Common.{◌≡◌, ℕ, ◌<◌, ◌≤◌, true, List, [], length, All, Option, Some, None, refl, sym, ap, ◌∙◌, subst}
use Rattle.std.proofs.lemmas.Bool.{and_parts}
use Rattle.std.proofs.lemmas.Option.{none-some}
use Rattle.std.proofs.lemmas.List.{length-replicate}
use Rattle.rp_base.specs.declared.node.Packet.{Packet}
use Rattle.rp_base.specs.declared.node.Output.{Output}
use Rattle.rp_app.specs.Application.{Delta, IsApplication, IsDelta, IsOutputOf, cells_named, zeros}
use Rattle.p4_ast.specs.declared.control.P4Local.{P4Local}
use Rattle.p4_ast.specs.declared.program.P4Program.{P4Program}
use Rattle.app_data.specs.declared.value.Value.{Value}
use Rattle.app_meaning.specs.Slots.{Scope}
use Rattle.app_meaning.specs.Statements.{run_block}
use Rattle.app_meaning.specs.Actions.{call, apply, control_context}
use Rattle.app_meaning.specs.Packets.{Parsing}
use Rattle.app_meaning.specs.Premises.{actions_keyless, reach_of, block_facts, program_keyed}
use Rattle.app_meaning.specs.Programs.{Outcome, cell_count, control_scope, first_values, run_locals, deparsed, after_parser, outcome, plain, key, application}
use Rattle.app_meaning.proofs.Calls.{calm_call, calm_apply, kept_call, kept_apply}
use Rattle.app_meaning.proofs.Tails.{run_of, Ends, Passes, Asks, block_ends}
use Rattle.app_meaning.proofs.Outcomes.{ShortKey, with_rp, parsed_of, source_is, promised, sized_runs}

module _ (p0 : P4Program) (few : cell_count p0 ≤ 256) (keyed : program_keyed p0 ≡ true) where
  abbrev p : P4Program
  p = with_rp p0 None

  abbrev n : ℕ
  n = cell_count p

  abbrev sc : Scope
  sc = control_scope p n

  abbrev ls : List P4Local
  ls = p.ingress.locals

  keyed_parts : (actions_keyless ls ≡ true) × ((block_facts (reach_of ls) p.ingress.block).tail ≡ true)
  keyed_parts = and_parts (actions_keyless ls) (block_facts (reach_of ls) p.ingress.block).tail keyed

  zeros_length : length (zeros n) ≡ n
  zeros_length = length-replicate n 0

  -- ---- what becomes of a packet: it has no key, and one outcome whatever the cells are, or it has one key

  data Fate (packet : Packet) : Type 0 where
    Keyless : (o : Outcome) → o.delta ≡ [] → ((cells : List ℕ) → length cells ≡ n → outcome p 0 cells packet ≡ o) → Fate packet
    Keyed : (k : List ℕ) → ((cells : List ℕ) → length cells ≡ n → (outcome p 0 cells packet).key ≡ Some k) → Fate packet

  ends : (vs : List Value) → Ends (run_block p.ingress.block (control_context sc ls)) vs
  ends vs =
      block_ends sc (call sc ls) (apply sc ls ls) (reach_of ls) (calm_call sc ls) (calm_apply sc ls ls) (kept_call sc ls keyed_parts.0) (kept_apply sc ls keyed_parts.0 ls)
      p.ingress.block keyed_parts.1 vs

  after_ends : (packet : Packet) (left : List ℕ) (vs : List Value) → parsed_of p0 few packet ≡ Some (record { values = vs; left = left })
      → Ends (run_block p.ingress.block (control_context sc ls)) (run_locals ls sc vs) → Fate packet
  after_ends packet left vs e (Passes after s) =
      Keyless (deparsed p sc packet left (run_of after [] [] None)) refl
      (λ cells l. source_is p0 few cells l packet ∙ ap (after_parser p sc cells packet (first_values p sc 0 packet)) e ∙ ap (deparsed p sc packet left) (s cells [] None))
  after_ends packet left vs e (Asks k s) =
      Keyed k (λ cells l. ap (λ (o : Outcome). o.key) (source_is p0 few cells l packet ∙ ap (after_parser p sc cells packet (first_values p sc 0 packet)) e) ∙ s cells [] None)

  fate_of : (packet : Packet) (o : Option Parsing) → parsed_of p0 few packet ≡ o → Fate packet
  fate_of packet None e =
      Keyless (record { values = first_values p sc 0 packet; delta = []; key = None; output = None }) refl
      (λ cells l. source_is p0 few cells l packet ∙ ap (after_parser p sc cells packet (first_values p sc 0 packet)) e)
  fate_of packet (Some parsed) e = after_ends packet parsed.left parsed.values e (ends (run_locals ls sc parsed.values))

  fate : (packet : Packet) → Fate packet
  fate packet = fate_of packet (parsed_of p0 few packet) refl

  keyless_is : (cells : List ℕ) → length cells ≡ n → (packet : Packet) → key p packet ≡ None → Fate packet → (outcome p 0 cells packet).delta ≡ []
  keyless_is cells l packet h (Keyed k s) = absurd (none-some k (sym h ∙ s (zeros n) zeros_length))
  keyless_is cells l packet h (Keyless o d s) = ap (λ (x : Outcome). x.delta) (s cells l) ∙ d

  blind_is : (cells others : List ℕ) → length cells ≡ n → length others ≡ n → (packet : Packet) → key p packet ≡ None → Fate packet → (outcome p 0 cells packet).output ≡ (outcome p 0 others packet).output
  blind_is cells others l m packet h (Keyed k s) = absurd (none-some k (sym h ∙ s (zeros n) zeros_length))
  blind_is cells others l m packet h (Keyless o d s) = ap (λ (x : Outcome). x.output) (s cells l ∙ sym (s others m))

  -- a key doesn't depend on the cells
  one_key_is : (cells : List ℕ) → length cells ≡ n → (packet : Packet) → Fate packet → (outcome p 0 cells packet).key ≡ key p packet
  one_key_is cells l packet (Keyed k s) = s cells l ∙ sym (s (zeros n) zeros_length)
  one_key_is cells l packet (Keyless o d s) = ap (λ (x : Outcome). x.key) (s cells l ∙ sym (s (zeros n) zeros_length))

  is_application : IsApplication (application p)
  is_application = record {
    keys = λ packet k e. subst ShortKey e (promised p0 few (zeros n) zeros_length packet).key;
    deltas = λ cells packet l. subst (λ (r : Delta × Option Output). IsDelta r.0) (sym (sized_runs n (plain p) cells packet l)) (promised p0 few cells l packet).delta;
    cells = λ cells packet l. subst (λ (r : Delta × Option Output). All (λ c. c < n) (cells_named r.0)) (sym (sized_runs n (plain p) cells packet l)) (promised p0 few cells l packet).cells;
    outputs = λ cells packet l. subst (λ (r : Delta × Option Output). IsOutputOf packet r.1) (sym (sized_runs n (plain p) cells packet l)) (promised p0 few cells l packet).output;
    keyless = λ cells packet l h. ap (λ (r : Delta × Option Output). r.0) (sized_runs n (plain p) cells packet l) ∙ keyless_is cells l packet h (fate packet);
    blind = λ cells others packet l m h.
        ap (λ (r : Delta × Option Output). r.1) (sized_runs n (plain p) cells packet l) ∙ blind_is cells others l m packet h (fate packet)
        ∙ sym (ap (λ (r : Delta × Option Output). r.1) (sized_runs n (plain p) others packet m));
  }

  one_key : (cells : List ℕ) (packet : Packet) → length cells ≡ n → (outcome p 0 cells packet).key ≡ key p packet
  one_key cells packet l = one_key_is cells l packet (fate packet)

pub promised_of : (p : P4Program) → p.ingress.rp ≡ None → cell_count p ≤ 256 → program_keyed p ≡ true → IsApplication (application p)
promised_of p source few keyed = subst (λ (x : P4Program). IsApplication (application x)) (sym (ap (with_rp p) source)) (is_application p few keyed)

pub one_key_of : (p : P4Program) → p.ingress.rp ≡ None → cell_count p ≤ 256 → program_keyed p ≡ true → (cells : List ℕ) (packet : Packet) → length cells ≡ cell_count p → (outcome p 0 cells packet).key ≡ key p packet
one_key_of p source few keyed =
    subst (λ (x : P4Program). (cells : List ℕ) (packet : Packet) → length cells ≡ cell_count x → (outcome x 0 cells packet).key ≡ key x packet) (sym (ap (with_rp p) source)) (one_key p few keyed)
