use Rattle.p4_reread.proofs.LexAgain.{canonical-again}
use Rattle.p4_reread.proofs.lexemes.canonical_tokens_are_read_again.Goals as goal

pub returns : goal.returns
returns c = canonical-again
