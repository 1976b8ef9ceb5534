use Rattle.p4_lex.proofs.Steps.{answer-rises}
use Rattle.p4_lex.proofs.tokens.Tokens.read.Goals as goal

pub returns-clause-spans : goal.returns-clause-spans
returns-clause-spans c = answer-rises c.args.text.now c.tokens_of.result c.tokens_of.ensures
