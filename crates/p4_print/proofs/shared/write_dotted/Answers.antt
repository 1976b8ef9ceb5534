use Rattle.p4_lex.specs.declared.token.Sign.TheVariants.{Dot}
use Rattle.p4_print.specs.Shared.{name_tokens}
use Rattle.p4_print.proofs.Steps.{listed}
use Rattle.p4_print.proofs.shared.write_dotted.Goals as goal

pub returns-in_ok-write-in-len1-up : goal.returns-in_ok-write-in-len1-up
returns-in_ok-write-in-len1-up c = listed Dot name_tokens c.args.names.now c.first-item.result c.write_fields.result _ _ c.write_fields.new.out c.in-len1-up.len_at_least c.first-item.is c.in_ok-write-in-len1-up.ensures c.write_fields.ensures
