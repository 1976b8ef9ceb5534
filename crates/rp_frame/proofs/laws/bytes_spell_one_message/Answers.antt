use Rattle.rp_frame.proofs.LawsHold.{one_message}
use Rattle.rp_frame.proofs.laws.bytes_spell_one_message.Goals as goal

pub returns : goal.returns
returns c = one_message
