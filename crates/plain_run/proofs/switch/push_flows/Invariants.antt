use Rattle.std.proofs.Common.{◌≡◌, ◌++◌, take}
use Rattle.std.specs.Prelude.{flat_map}
use Rattle.plain_run.specs.Plain.{flow_lines}
use Rattle.plain_run.proofs.switch.push_flows.Given as goal

abbrev pub invariant-loop-place : goal.invariant-loop-place
invariant-loop-place l = l.lines ≡ l.fn.lines ++ flat_map flow_lines (take l.place l.flows)
