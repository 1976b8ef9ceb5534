-- What holds where memory ran out before the words of a command line were there.
use Rattle.std.proofs.Common.{◌≡◌, List, ℕ, Option, Some, None, IfSome, drop}
use Rattle.run_core.specs.declared.status.Status.TheVariants as status
use Rattle.run_core.specs.Answers.{Answers}
use Rattle.run_core.specs.Outcomes.{outcome}
use Rattle.run_core.specs.Runs.{WroteBounded, WroteLegal, asked}
use Rattle.run_core.proofs.Runs.{bounded_told, legal_told, unwritten}

answered : (told : Option (List ℕ → Option (List ℕ))) (words : List (List ℕ)) (old : Option (List ℕ)) → IfSome told (λ contents. Answers status.NoMemory (outcome words contents) old old)
answered None words old = tt
answered (Some contents) words old = unwritten old (outcome words contents)

pub unread_told : (line : Option (List (List ℕ))) (told : Option (List ℕ → Option (List ℕ))) (old : Option (List ℕ)) →
    IfSome line (λ words. IfSome told (λ contents. Answers status.NoMemory (outcome (drop 1 words) contents) old old))
unread_told None told old = tt
unread_told (Some words) told old = answered told (drop 1 words) old

pub unread_legal : (line : Option (List (List ℕ))) (told : Option (List ℕ → Option (List ℕ))) (old : Option (List ℕ)) →
    IfSome line (λ words. IfSome told (λ contents. IfSome (asked (drop 1 words) contents) (λ run. run.schedule.snapshot ≡ None → WroteLegal status.NoMemory run old old)))
unread_legal None told old = tt
unread_legal (Some words) told old = legal_told status.NoMemory (drop 1 words) old old told (answered told (drop 1 words) old)

pub unread_bounded : (line : Option (List (List ℕ))) (told : Option (List ℕ → Option (List ℕ))) (old : Option (List ℕ)) →
    IfSome line (λ words. IfSome told (λ contents. IfSome (asked (drop 1 words) contents) (λ run. IfSome run.schedule.snapshot (λ _. WroteBounded status.NoMemory run old old))))
unread_bounded None told old = tt
unread_bounded (Some words) told old = bounded_told status.NoMemory (drop 1 words) old old told (answered told (drop 1 words) old)
