use Rattle.p4_reread.proofs.TextAgain.{tokens_spell, names_come}
use Rattle.p4_reread.proofs.trees.canonical_tokens_spell_their_tree.Goals as goal

pub returns : goal.returns
returns c = record { spell = tokens_spell; names = names_come }
