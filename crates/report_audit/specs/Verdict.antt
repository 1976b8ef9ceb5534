-- What an audit's answer says.
use Rattle.std.specs.Prelude.{ℕ, Option, Some, None}
use Rattle.report_audit.specs.declared.verdict.Audit.{Audit}

-- the rule that fails, if one does
abbrev pub failing : Audit → Option ℕ
failing Audit.Legal = None
failing (Audit.Fails n) = Some n
