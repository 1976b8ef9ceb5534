use Rattle.p4_grammar.proofs.Programs.{program_sound, program_complete, program_one, program_fault}
use Rattle.p4_grammar.proofs.Places.{program_refused}
use Rattle.p4_grammar.proofs.laws.programs_are_read.Goals as goal

pub returns : goal.returns
returns c = record { sound = program_sound; complete = program_complete; one_tree = program_one; fault = program_fault; one_fault = program_refused }
