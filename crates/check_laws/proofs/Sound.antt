-- An accepted program is sound in its checked form, its cells are counted, and it is an application.
use Rattle.std.proofs.Common.{◌≡◌, None, arith}
use Rattle.rp_app.specs.Application.{IsApplication}
use Rattle.p4_ast.specs.declared.program.P4Program.{P4Program}
use Rattle.p4_check.specs.Programs.{bad_tree, checked, cells_of}
use Rattle.app_meaning.specs.Programs.{application, cell_count}
use Rattle.app_meaning.specs.Premises.{IsSound}
use Rattle.app_meaning.proofs.Promises.{promised_of}
use Rattle.check_laws.proofs.ProgramWalk.{no_fourth, counted}
use Rattle.check_laws.proofs.Keyed.{keyed_program}
use Rattle.check_laws.proofs.FreePrograms.{free_program}

pub sound_of : (p : P4Program) → bad_tree p ≡ None → IsSound (checked p)
sound_of p good = record { source = no_fourth p good; few = (counted p good).1; free = free_program p good; keyed = keyed_program p good }

-- the count stops at 257
pub counted_cells : (p : P4Program) → bad_tree p ≡ None → cells_of p ≡ cell_count (checked p)
counted_cells p good = let c = counted p good in omega (arith, c.0, c.1)

pub application_of : (p : P4Program) → bad_tree p ≡ None → IsApplication (application (checked p))
application_of p good = let s = sound_of p good in promised_of (checked p) s.source s.few s.keyed
