use Rattle.p4_reread.proofs.TextAgain.{text_is_read}
use Rattle.p4_reread.proofs.trees.canonical_text_is_read_as_its_tree.Goals as goal

pub returns : goal.returns
returns c = text_is_read
