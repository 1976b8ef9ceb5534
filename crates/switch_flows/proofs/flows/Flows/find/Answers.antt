use Rattle.std.proofs.Common.{sym}
use Rattle.switch_flows.proofs.Rows.{place_found}
use Rattle.switch_flows.proofs.Seen.{none_seen, place_out}
use Rattle.switch_flows.proofs.flows.Flows.find.Goals as goal

pub returns-in_err-place-clause-none : goal.returns-in_err-place-clause-none
returns-in_err-place-clause-none c = λ _. none_seen c.self.inside.rows.entries c.self.inside.copies c.self.inside.latest c.args.self.now c.self.view_is c.args.key.now c.in_err-place.ensures.found

pub returns-clause-place : goal.returns-clause-place
returns-clause-place c = place_out c.self.inside.rows.entries c.self.inside.copies c.self.inside.latest c.args.self.now c.self.view_is c.args.key.now c.in_ok-place.place (place_found c.self.inside.rows.entries c.args.key.now c.in_ok-place.place (sym c.in_ok-place.ensures.index))
