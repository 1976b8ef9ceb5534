-- How the program ends where a program is asked for.
use Rattle.std.proofs.Common.{◌≡◌, List, ℕ, Bool, Option, Some, None, Result, Ok, IfSome, sym, subst}
use Rattle.rp_app.specs.Application.{Application}
use Rattle.run_core.specs.declared.status.Status.{Status}
use Rattle.run_core.specs.Commands.{Plain, Run, Program}
use Rattle.run_core.specs.Answers.{Answers}
use Rattle.run_core.specs.Outcomes.{◌>>=◌, outcome_at, plain_of, program_in, run_of}

-- where the program that was loaded is this application, its plain run is what is asked for
plain_at : (contents : List ℕ → Option (List ℕ)) (name schedule : List ℕ) (app : Application) (answer : Status) (old new : Option (List ℕ)) → program_in (contents name) ≡ Ok app →
    Answers answer (plain_of app (contents schedule)) old new → Answers answer (outcome_at (Some (Plain (Program name) schedule)) contents) old new
plain_at contents name schedule app answer old new is h =
    subst (λ (r : Result Application Status). Answers answer (r >>= (λ a. plain_of a (contents schedule))) old new) (sym is) h

pub plain_told : (told later : Option (List ℕ → Option (List ℕ))) (name schedule : List ℕ) (app : Application) (answer : Status) (old new : Option (List ℕ)) → later ≡ told →
    IfSome told (λ contents. program_in (contents name) ≡ Ok app) → IfSome later (λ contents. Answers answer (plain_of app (contents schedule)) old new) →
    IfSome told (λ contents. Answers answer (outcome_at (Some (Plain (Program name) schedule)) contents) old new)
plain_told None later name schedule app answer old new same loads h = tt
plain_told (Some contents) later name schedule app answer old new same loads h =
    plain_at contents name schedule app answer old new loads (subst (λ (t : Option (List ℕ → Option (List ℕ))). IfSome t (λ cs. Answers answer (plain_of app (cs schedule)) old new)) same h)

-- the same of its run in the whole world
run_at : (contents : List ℕ → Option (List ℕ)) (name schedule : List ℕ) (frames : Bool) (app : Application) (answer : Status) (old new : Option (List ℕ)) → program_in (contents name) ≡ Ok app →
    Answers answer (run_of app frames (contents schedule)) old new → Answers answer (outcome_at (Some (Run (Program name) schedule frames)) contents) old new
run_at contents name schedule frames app answer old new is h =
    subst (λ (r : Result Application Status). Answers answer (r >>= (λ a. run_of a frames (contents schedule))) old new) (sym is) h

pub run_told : (told later : Option (List ℕ → Option (List ℕ))) (name schedule : List ℕ) (frames : Bool) (app : Application) (answer : Status) (old new : Option (List ℕ)) → later ≡ told →
    IfSome told (λ contents. program_in (contents name) ≡ Ok app) → IfSome later (λ contents. Answers answer (run_of app frames (contents schedule)) old new) →
    IfSome told (λ contents. Answers answer (outcome_at (Some (Run (Program name) schedule frames)) contents) old new)
run_told None later name schedule frames app answer old new same loads h = tt
run_told (Some contents) later name schedule frames app answer old new same loads h =
    run_at contents name schedule frames app answer old new loads (subst (λ (t : Option (List ℕ → Option (List ℕ))). IfSome t (λ cs. Answers answer (run_of app frames (cs schedule)) old new)) same h)
