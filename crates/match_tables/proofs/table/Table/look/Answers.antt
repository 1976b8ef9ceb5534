use Rattle.std.proofs.Common.{◌≡◌, ℕ, ◌≤◌, List, length, sym, ap, ◌∙◌, subst, arith}
use Rattle.std.specs.Prelude.{All}
use Rattle.std.proofs.lemmas.Bool.{false≢true}
use Rattle.match_tables.specs.declared.entries.MatchCond.{MatchCond}
use Rattle.match_tables.specs.declared.entries.Entries.{Entries}
use Rattle.match_tables.specs.Winning.{whole_masks, look, lpm_place, IsPlain}
use Rattle.match_tables.specs.Standing.{IsPlaced}
use Rattle.match_tables.specs.Ordered.{IsOrder}
use Rattle.match_tables.proofs.Looked.{looked}
use Rattle.match_tables.proofs.Plain.{none_ternary, one_list}
use Rattle.match_tables.proofs.table.Table.look.Goals as goal

pub returns-in-InTurn-clause-cost : goal.returns-in-InTurn-clause-cost
returns-in-InTurn-clause-cost g c = λ plain.
    let e = c.self.inside.entries in
    let own : IsPlain e = subst IsPlain (sym c.self.view_is) plain in
    let none = subst (IsOrder e) c.in-InTurn.is c.self.invariant.searched in
    absurd (false≢true (sym (none_ternary e.keys own.exact) ∙ none.1))

pub returns-in-Sorted-clause-found : goal.returns-in-Sorted-clause-found
returns-in-Sorted-clause-found g c =
    let e = c.self.inside.entries in
    let keys = c.args.keys.now in
    let placed : IsPlaced (lpm_place e.keys) e.rows c.in-Sorted.places = subst (IsOrder e) c.in-Sorted.is c.self.invariant.searched in
    let as_many : length e.keys ≡ length keys = ap (λ (x : Entries). length x.keys) c.self.view_is ∙ sym c.requires in
    let long : All (λ (r : List MatchCond). length r ≡ length keys) e.rows = subst (λ (n : ℕ). All (λ (r : List MatchCond). length r ≡ n) e.rows) as_many c.self.invariant.long in
    c.look.ensures.found ∙ sym (looked (lpm_place e.keys) keys e.rows c.in-Sorted.places placed long) ∙ ap (λ (x : Entries). look x keys) c.self.view_is

pub returns-in-Sorted-clause-cost : goal.returns-in-Sorted-clause-cost
returns-in-Sorted-clause-cost g c = λ plain.
    let e = c.self.inside.entries in
    let own : IsPlain e = subst IsPlain (sym c.self.view_is) plain in
    let placed : IsPlaced (lpm_place e.keys) e.rows c.in-Sorted.places = subst (IsOrder e) c.in-Sorted.is c.self.invariant.searched in
    let one : length c.in-Sorted.places.masks ≤ 1 = one_list (lpm_place e.keys) (whole_masks e.keys) e.rows c.in-Sorted.places.masks own.whole placed.only placed.ordered in
    let cost = c.look.ensures.cost one in
    let rows : length e.rows ≡ length c.args.self.now.rows = ap (λ (x : Entries). length x.rows) c.self.view_is in
    omega (arith, cost, rows, placed.few)
