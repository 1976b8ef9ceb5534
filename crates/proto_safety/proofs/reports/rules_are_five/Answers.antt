use Rattle.proto_safety.proofs.Legality.RulesOneByOne as rules
use Rattle.proto_safety.proofs.reports.rules_are_five.Goals as goal

pub returns : goal.returns
returns c = record { apart = rules.rules_apart; together = rules.rules_together; fails = rules.one_fails; least = rules.least_once }
