-- One step of a switch: the row that its input meets, and what follows.
use Rattle.std.specs.Prelude.{ℕ}
use Rattle.proto_data.specs.declared.message.Input.{Input}
use Rattle.rp_app.specs.Application.{Application}
use Rattle.proto_model.specs.SwitchState.{Switch, SwitchStep, lapsed}
use Rattle.proto_model.specs.SwitchRow.{switch_row}
use Rattle.proto_model.specs.SwitchOutcomes.{perform}

-- One step of a switch. It reads this switch's state alone.
abbrev pub switch_step : Application → Switch → ℕ → Input → SwitchStep
switch_step app s now input = perform (lapsed now s) now (switch_row app (lapsed now s) now input)
