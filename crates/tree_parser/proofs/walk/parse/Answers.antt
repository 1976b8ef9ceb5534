use Rattle.std.proofs.Common.{◌≡◌, ◌∙◌, ◌-◌, suc, false, ℕ, List, Option, sym, ap, arith}
use Rattle.std.specs.Borrow.{Bor}
use Rattle.p4_ast.specs.declared.name.P4Name.{P4Name}
use Rattle.app_meaning.specs.Packets.{is_accept, parse_from}
use Rattle.tree_eval.specs.Seen.{seen}
use Rattle.tree_parser.specs.Parsed.{turned}
use Rattle.tree_parser.proofs.Turns.{parse_on}
use Rattle.tree_parser.proofs.walk.parse.Goals as goal

pub loop-name-preserved : goal.loop-name-preserved
loop-name-preserved c =
    let e : is_accept c.loop-name.name.now ≡ false = sym c.is_accept.ensures ∙ c.loop-name-test.true in
    ap (λ (name : List ℕ). parse_from (suc (c.loop-name.turns - 1)) (seen c.args.sc) c.args.states.now name (record { values = c.run_state.new.values; left = c.run_state.new.left })) c.as_slice-name-in-Some.ensures
    ∙ parse_on (seen c.args.sc) c.args.states.now c.loop-name.name.now (record { values = c.loop-name.values; left = c.loop-name.left }) c.loop-name.turns _ (record { values = c.run_state.new.values; left = c.run_state.new.left }) e
    (omega (arith, c.if-turns-eq0.false))
    (ap (λ (o : Option (Bor P4Name)). turned o c.run_state.new.values c.run_state.new.left) (sym c.in-Some.is) ∙ c.in_ok-run_state.ensures)
    ∙ c.loop-name.invariant
