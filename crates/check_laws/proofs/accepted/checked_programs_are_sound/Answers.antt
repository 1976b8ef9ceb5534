use Rattle.check_laws.proofs.Sound.{sound_of, counted_cells, application_of}
use Rattle.check_laws.proofs.accepted.checked_programs_are_sound.Goals as goal

pub returns : goal.returns
returns c = record { sound = sound_of; cells = counted_cells; application = application_of }
