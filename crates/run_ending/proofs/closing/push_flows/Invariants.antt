use Rattle.std.proofs.Common.{◌≡◌, ◌++◌, take}
use Rattle.std.specs.Prelude.{flat_map}
use Rattle.run_ending.specs.Endings.{flow_shown}
use Rattle.run_ending.proofs.closing.push_flows.Given as goal

abbrev pub invariant-loop-place : goal.invariant-loop-place
invariant-loop-place l = l.lines ≡ l.fn.lines ++ flat_map (flow_shown l.fn.mode l.fn.grants l.fn.epochs) (take l.place l.fn.leases.records)
