-- A command as its words tell it.
use Rattle.run_core.specs.Commands.{Command, Plain, Run, Subject, Counting, Program}
use Rattle.run_core.specs.declared.command.Command.{Command as Read}
use Rattle.run_core.specs.declared.command.Command.TheVariants as read
use Rattle.run_core.specs.declared.command.Subject.{Subject as ReadSubject}
use Rattle.run_core.specs.declared.command.Subject.TheVariants as subject

-- what a subject that was read is
abbrev pub seen_subject : ReadSubject → Subject
seen_subject subject.Count = Counting
seen_subject (subject.Program name) = Program name.now

-- what a command that was read asks for
abbrev pub seen : Read → Command
seen (read.Plain s schedule) = Plain (seen_subject s) schedule.now
seen (read.Run s schedule frames) = Run (seen_subject s) schedule.now frames
