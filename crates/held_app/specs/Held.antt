-- The program of an application that walks it.
use Rattle.p4_check.specs.Checking.{CheckedProgram}
use Rattle.held_app.specs.declared.program.HeldApp.{HeldApp}

-- the program
abbrev pub program_of : HeldApp → CheckedProgram
program_of a = a.program
