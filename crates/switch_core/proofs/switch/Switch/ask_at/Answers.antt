use Rattle.std.proofs.Common.{sym}
use Rattle.switch_core.proofs.AlarmParts.{ask_full}
use Rattle.switch_core.proofs.switch.Switch.ask_at.Goals as goal

pub returns-then-is_full : goal.returns-then-is_full
returns-then-is_full c = ask_full c.args.going.now _ (sym c.if-is_full.ensures) c.requires.few
