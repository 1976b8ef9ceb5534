use Rattle.std.proofs.Common.{◌≡◌, drop}
use Rattle.p4_scope.specs.Types.{struct_fields, no_fields}
use Rattle.p4_scope.proofs.record.struct_fields.Given as goal

abbrev pub invariant-loop-field : goal.invariant-loop-field
invariant-loop-field l = struct_fields (drop l.field-index l.fields) l.s l.fs ≡ struct_fields l.fields l.s no_fields
