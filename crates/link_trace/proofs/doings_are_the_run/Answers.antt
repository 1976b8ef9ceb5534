use Rattle.link_trace.proofs.Told as told
use Rattle.link_trace.proofs.doings_are_the_run.Goals as goal

pub returns : goal.returns
returns c = record { lines = told.run_lines; frames = told.run_frames; answers = told.run_answers }
