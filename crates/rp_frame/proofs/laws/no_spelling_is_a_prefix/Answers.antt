use Rattle.rp_frame.proofs.LawsHold.{no_prefix}
use Rattle.rp_frame.proofs.laws.no_spelling_is_a_prefix.Goals as goal

pub returns : goal.returns
returns c = no_prefix
