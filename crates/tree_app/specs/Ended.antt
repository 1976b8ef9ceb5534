-- What a run of a packet is asked for, and of which programs.
use Rattle.std.specs.Prelude.{◌≡◌, false}
use Rattle.p4_check.specs.Checking.{CheckedProgram, IsSource}
use Rattle.app_meaning.specs.Programs.{Outcome}
use Rattle.tree_app.specs.declared.run.Ended.{Ended}

-- what a packet ends with, without its values
abbrev pub ended : Outcome → Ended
ended o = record { delta = o.delta; key = o.key; output = o.output }

-- a program that was checked and isn't rewritten
abbrev pub IsUnrewritten : CheckedProgram → Type 0
IsUnrewritten c = (c.rewritten ≡ false) × IsSource c.tree c.cells
