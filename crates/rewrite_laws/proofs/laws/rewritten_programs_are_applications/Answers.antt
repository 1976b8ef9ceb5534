use Rattle.rewrite_laws.proofs.Same.{same_application, new_promised}
use Rattle.rewrite_laws.proofs.laws.rewritten_programs_are_applications.Goals as goal

pub returns : goal.returns
returns c = record { same = same_application; promised = new_promised }
