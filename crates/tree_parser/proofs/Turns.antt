-- From one state to the next.
use Rattle.std.proofs.Common.{◌≡◌, ℕ, suc, ◌-◌, ◌<◌, Bool, false, if◌then◌else◌, List, Option, Some, None, refl, sym, ap, ◌∙◌, arith}
use Rattle.p4_ast.specs.declared.parser.P4State.{P4State}
use Rattle.app_meaning.specs.Slots.{Name, Scope}
use Rattle.app_meaning.specs.Packets.{Parsing, is_accept, go_on, run_state, parse_from}
use Rattle.tree_parser.specs.Parsed.{onward}

-- by the next state, nothing where there is none
abbrev by_next : (Name → Parsing → Option Parsing) → Option (Name × Parsing) → Option Parsing
by_next more None = None
by_next more (Some (name, p)) = more name p

goes_on : (more : Name → Parsing → Option Parsing) (o : Option (Option Name × Parsing)) → go_on more o ≡ by_next more (onward o)
goes_on more None = refl
goes_on more (Some (None, p)) = refl
goes_on more (Some (Some name, p)) = refl

module _ (sc : Scope) (states : List P4State) (name : Name) (p : Parsing) where
  turn_is : (fuel : ℕ) → is_accept name ≡ false → parse_from (suc fuel) sc states name p ≡ by_next (parse_from fuel sc states) (onward (run_state sc states name p))
  turn_is fuel e =
      ap (λ (b : Bool). if b then Some p else go_on (parse_from fuel sc states) (run_state sc states name p)) e
      ∙ goes_on (parse_from fuel sc states) (run_state sc states name p)

  -- a state that names another one
  pub parse_on : (fuel : ℕ) (next : Name) (q : Parsing) → is_accept name ≡ false → 0 < fuel → Some (next, q) ≡ onward (run_state sc states name p) → parse_from (suc (fuel - 1)) sc states next q ≡ parse_from (suc fuel) sc states name p
  parse_on fuel next q e some is =
      let less : suc (fuel - 1) ≡ fuel = omega (arith, some) in
      ap (λ (k : ℕ). parse_from k sc states next q) less ∙ ap (by_next (parse_from fuel sc states)) is ∙ sym (turn_is fuel e)
