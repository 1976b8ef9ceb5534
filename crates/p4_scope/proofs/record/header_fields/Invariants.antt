use Rattle.std.proofs.Common.{◌≡◌, drop}
use Rattle.p4_scope.specs.Types.{header_fields, no_fields}
use Rattle.p4_scope.proofs.record.header_fields.Given as goal

abbrev pub invariant-loop-field : goal.invariant-loop-field
invariant-loop-field l = header_fields (drop l.field-index l.fields) l.s l.fs ≡ header_fields l.fields l.s no_fields
