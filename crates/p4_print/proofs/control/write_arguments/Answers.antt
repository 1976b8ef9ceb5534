use Rattle.p4_lex.specs.declared.token.Sign.TheVariants.{Comma}
use Rattle.p4_print.specs.Shared.{argument_tokens}
use Rattle.p4_print.proofs.Steps.{listed}
use Rattle.p4_print.proofs.control.write_arguments.Goals as goal

pub returns-in_ok-write_argument-in-len1-up : goal.returns-in_ok-write_argument-in-len1-up
returns-in_ok-write_argument-in-len1-up c = listed Comma argument_tokens c.args.params.now c.first-item.result c.write_more.result _ _ c.write_more.new.out c.in-len1-up.len_at_least c.first-item.is c.in_ok-write_argument-in-len1-up.ensures c.write_more.ensures
