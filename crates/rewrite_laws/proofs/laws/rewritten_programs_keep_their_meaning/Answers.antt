use Rattle.rewrite_laws.proofs.Law.{keeps_meaning}
use Rattle.rewrite_laws.proofs.laws.rewritten_programs_keep_their_meaning.Goals as goal

pub returns : goal.returns
returns c = keeps_meaning
