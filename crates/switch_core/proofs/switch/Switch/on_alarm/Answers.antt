use Rattle.switch_core.proofs.AlarmParts.{again_few, alarm_is, can_resent}
use Rattle.switch_core.proofs.switch.Switch.on_alarm.Goals as goal

pub repeat_asks-requires-clause-few : goal.repeat_asks-requires-clause-few
repeat_asks-requires-clause-few c = again_few c.args.self.now c.resend.new.self c.new-going.result c.resend.new.going c.new-going.ensures c.in_ok-resend.ensures.walk

pub walk_all-requires-clause-steady : goal.walk_all-requires-clause-steady
walk_all-requires-clause-steady c = can_resent c.args.self.now c.resend.new.self c.new-going.result c.resend.new.going c.requires.steady c.in_ok-resend.ensures.walk

pub returns : goal.returns
returns c =
    alarm_is c.args.self.now c.resend.new.self c.walk_all.new.self c.new-going.result c.resend.new.going c.repeat_asks.new.going c.walk_all.new.going c.did.result
    c.new-going.ensures c.in_ok-resend.ensures.walk c.in_ok-resend.ensures.latest c.in_ok-repeat_asks.ensures c.in_ok-walk_all.ensures.walk c.in_ok-walk_all.ensures.latest c.did.ensures
