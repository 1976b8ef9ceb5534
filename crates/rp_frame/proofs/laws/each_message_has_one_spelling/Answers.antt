use Rattle.rp_frame.proofs.LawsHold.{one_spelling}
use Rattle.rp_frame.proofs.laws.each_message_has_one_spelling.Goals as goal

pub returns : goal.returns
returns c = one_spelling
