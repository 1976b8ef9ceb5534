use Rattle.p4_lex.specs.declared.token.Sign.TheVariants.{Comma}
use Rattle.p4_print.proofs.Steps.{listed}
use Rattle.p4_print.proofs.written.write_listed.Goals as goal

pub returns-in_ok-write-in-len1-up : goal.returns-in_ok-write-in-len1-up
returns-in_ok-write-in-len1-up g c = listed Comma g.T.Written.tokens c.args.parts.now c.first-item.result c.write_more.result _ _ c.write_more.new.out c.in-len1-up.len_at_least c.first-item.is c.in_ok-write-in-len1-up.ensures c.write_more.ensures
