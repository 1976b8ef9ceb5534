-- A program and what it is rewritten to are one application.
use Rattle.std.proofs.Common.{◌≡◌, ℕ, ◌≤◌, Bool, true, false, List, [], length, Option, None, refl, sym, ap, ◌∙◌, subst, if◌then◌else◌, ◌==◌}
use Rattle.std.proofs.lemmas.Bool.{eqb-true}
use Rattle.rp_base.specs.declared.node.Packet.{Packet}
use Rattle.rp_base.specs.declared.node.Output.{Output}
use Rattle.rp_app.specs.Application.{Delta, IsApplication, zeros}
use Rattle.p4_ast.specs.declared.program.P4Program.{P4Program}
use Rattle.app_meaning.specs.Premises.{IsSound, program_free, program_keyed}
use Rattle.app_meaning.specs.Programs.{Outcome, cell_count, outcome, plain, key, sized, application}
use Rattle.app_meaning.proofs.Outcomes.{with_rp}
use Rattle.app_meaning.proofs.Promises.{promised_of}
use Rattle.p4_check.specs.Rewriting.{rewritten}
use Rattle.rewrite_laws.specs.Leases.{held_run, rewritten_application}
use Rattle.rewrite_laws.proofs.Law.{held_outcome, Fate, Keyless, Keyed, fate, zeros_many}

-- two runs that are the same over as many cells are the same where those of other lengths do nothing
same_sized : (n : ℕ) (run other : List ℕ → Packet → Delta × Option Output) (cells : List ℕ) (packet : Packet) → (length cells ≡ n → run cells packet ≡ other cells packet)
    → (b : Bool) → (length cells == n) ≡ b → (if b then run cells packet else ([], None)) ≡ (if b then other cells packet else ([], None))
same_sized n run other cells packet e true l = e (eqb-true (length cells) n l)
same_sized n run other cells packet e false l = refl

module _ (p0 : P4Program) (few : cell_count p0 ≤ 256) (free : program_free p0 ≡ true) (keyed : program_keyed p0 ≡ true) where
  abbrev p : P4Program
  p = with_rp p0 None

  abbrev n : ℕ
  n = cell_count p

  abbrev q : P4Program
  q = rewritten p

  same_key : (packet : Packet) → Fate p0 few free keyed packet → (outcome q 0 (zeros n) packet).key ≡ key p packet
  same_key packet (Keyless o d ke s t) =
      ap (λ (x : Outcome). x.key) (t (zeros n) (zeros_many p0 few free keyed)) ∙ sym (ap (λ (x : Outcome). x.key) (s (zeros n) (zeros_many p0 few free keyed)))
  same_key packet (Keyed k s t) = (t (zeros n) (zeros_many p0 few free keyed)).key ∙ sym (s (zeros n) (zeros_many p0 few free keyed))

  same_plain : (cells : List ℕ) (packet : Packet) → sized n (held_run q) cells packet ≡ sized n (plain p) cells packet
  same_plain cells packet =
      same_sized n (held_run q) (plain p) cells packet (λ l. ap (λ (o : Outcome). (o.delta, o.output)) (held_outcome p0 few free keyed cells l packet))
      (length cells == n) refl

  is_same : rewritten_application p ≡ application p
  is_same = λ i. record { cell_count = n; key_of = λ packet. same_key packet (fate p0 few free keyed packet) i; plain = λ cells packet. same_plain cells packet i }

pub same_application : (p : P4Program) → IsSound p → rewritten_application p ≡ application p
same_application p h = subst (λ (x : P4Program). rewritten_application x ≡ application x) (sym (ap (with_rp p) h.source)) (is_same p h.few h.free h.keyed)

pub new_promised : (p : P4Program) → IsSound p → IsApplication (rewritten_application p)
new_promised p h = subst IsApplication (sym (same_application p h)) (promised_of p h.source h.few h.keyed)
