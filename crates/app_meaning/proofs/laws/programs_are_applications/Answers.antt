use Rattle.app_meaning.proofs.Promises.{promised_of, one_key_of}
use Rattle.app_meaning.proofs.laws.programs_are_applications.Goals as goal

pub returns : goal.returns
returns c = record { promised = promised_of; one_key = one_key_of }
