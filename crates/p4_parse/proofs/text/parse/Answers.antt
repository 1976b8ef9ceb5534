use Rattle.p4_parse.proofs.Grammatical.{by_grammar}
use Rattle.p4_parse.proofs.text.parse.Goals as goal

pub returns-clause-grammar : goal.returns-clause-grammar
returns-clause-grammar c = by_grammar c.args.text.now c.read_text.result c.read_text.ensures
