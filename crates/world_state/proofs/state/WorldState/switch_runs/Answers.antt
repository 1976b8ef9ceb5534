use Rattle.std.proofs.Common.{◌≡◌, Some, None, slice_get, sym}
use Rattle.world_state.proofs.NodeLists.{switch_runs_at}
use Rattle.world_state.proofs.state.WorldState.switch_runs.Goals as goal

pub returns-in-Some : goal.returns-in-Some
returns-in-Some c =
    let s = c.args.self.now in
    sym (switch_runs_at s.router.believed s.switches c.args.n (Some c.in-Some.node.now) c.requires.routed (sym c.in-Some.ensures))

pub returns-in-None : goal.returns-in-None
returns-in-None c =
    let s = c.args.self.now in
    sym (switch_runs_at s.router.believed s.switches c.args.n None c.requires.routed (sym c.in-None.ensures))
