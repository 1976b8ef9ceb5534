use Rattle.p4_reread.proofs.LexFound.{tokens-say}
use Rattle.p4_reread.proofs.lexemes.tokens_are_lexemes.Goals as goal

pub returns : goal.returns
returns c = tokens-say
