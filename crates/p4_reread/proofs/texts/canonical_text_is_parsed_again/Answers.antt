use Rattle.p4_reread.proofs.ParsedTexts.{parsed_again}
use Rattle.p4_reread.proofs.texts.canonical_text_is_parsed_again.Goals as goal

pub returns : goal.returns
returns c = parsed_again
