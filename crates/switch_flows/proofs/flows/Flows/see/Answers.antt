use Rattle.switch_flows.proofs.Seen.{see_seen}
use Rattle.switch_flows.proofs.flows.Flows.see.Goals as goal

pub returns : goal.returns
returns c = see_seen c.self.inside.rows.entries c.self.inside.copies c.self.inside.latest c.args.self.now c.self.view_is c.args.now c.requires
