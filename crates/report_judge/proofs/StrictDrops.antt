-- In strict mode no packet is dropped for the bound of snapshots.
use Rattle.std.proofs.Common.{◌≡◌, ℕ, Option, Some, None, subst}
use Rattle.rp_base.specs.declared.event.DropCause.{DropCause}
use Rattle.rp_app.specs.Application.{Application}
use Rattle.proto_data.specs.declared.message.Input.{Input}
use Rattle.proto_data.specs.declared.terms.Mode.{Mode}
use Rattle.proto_model.specs.SwitchOutcomes.{late_did, perform}
use Rattle.proto_model.specs.SwitchRow.{SwitchRow, asked_mark, switch_row}
use Rattle.proto_model.specs.SwitchRows.{switch_step}
use Rattle.proto_model.specs.SwitchState.{Switch, lapsed}
use Rattle.proto_safety.proofs.Leasing.FlowCopies.{not_strict}
use Rattle.proto_safety.proofs.Nodes.SwitchTable.{RowTaken, no_room, no_copy_room, too_old, late, busied, row_taken}
use Rattle.report_read.specs.Printed.{IsStrict}

-- a mark with its cause
abbrev Dropped : Type 0
Dropped = ℕ × DropCause

this_cause : (mark : ℕ) (cause : DropCause) (d : Dropped) → Some (mark, cause) ≡ Some d → IsStrict cause → IsStrict d.1
this_cause mark cause d is strict = let same : cause ≡ d.1 = cc in subst IsStrict same strict

late_cause : (m : Option ℕ) (d : Dropped) → (late_did m).dropped ≡ Some d → IsStrict d.1
late_cause None d is = cc
late_cause (Some mark) d is = this_cause mark DropCause.Late d is tt

module _ (app : Application) (s : Switch) (now : ℕ) (strict : s.terms.mode ≡ Mode.Strict) where
  row_cause : (input : Input) (row : SwitchRow) → RowTaken app s now input row → (d : Dropped) → (perform s now row).1.dropped ≡ Some d → IsStrict d.1
  row_cause input row (no_room {p = p} of at) d is = this_cause p.mark DropCause.Full d is tt
  row_cause input row (no_copy_room {p = p} ready mode full) d is = this_cause p.mark DropCause.Mirror d is tt
  row_cause input row (too_old {bound = bound} ready mode old) d is = absurd (not_strict s.terms.mode bound strict mode)
  row_cause input row (late {load = load} {slot = slot} here at asking old) d is = late_cause (asked_mark slot load) d is
  row_cause input row (busied {mark = mark} here at asking waits) d is = this_cause mark DropCause.Busy d is tt
  row_cause input row other d is = cc

pub drops_strictly : (app : Application) (s : Switch) (now : ℕ) (input : Input) → s.terms.mode ≡ Mode.Strict → (d : Dropped) → (switch_step app s now input).1.dropped ≡ Some d → IsStrict d.1
drops_strictly app s now input strict d is =
    row_cause app (lapsed now s) now strict input (switch_row app (lapsed now s) now input) (row_taken app (lapsed now s) now input) d is
