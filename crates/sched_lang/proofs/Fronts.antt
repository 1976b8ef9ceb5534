-- The events read so far, before those of what is left.
use Rattle.std.proofs.Common.{◌≡◌, ℕ, ◌+◌, List, ◌∷◌, ◌++◌, length, length-append, append_assoc, Option, Ok, Err, refl, ap}
use Rattle.std.specs.Prelude.{Result, option_to_list}
use Rattle.rp_base.specs.declared.event.Event.{Event}
use Rattle.sched_lang.specs.Causes.{◌>>=◌}
use Rattle.sched_lang.specs.Reading.{Fault, at_line, event_in, events_from}

abbrev pub with_front : List Event → Result (List Event) Fault → Result (List Event) Fault
with_front front read = read >>= λ events. Ok (front ++ events)

with_front-append : (front here : List Event) (read : Result (List Event) Fault) → with_front (front ++ here) read ≡ with_front front (with_front here read)
with_front-append front here (Ok events) = ap (λ (es : List Event). Ok es) (append_assoc front here events)
with_front-append front here (Err e) = refl

-- one more line
pub with_front-line : (switches chain n : ℕ) (front : List Event) (here : Option Event) (line : List ℕ) (ls : List (List ℕ)) → at_line n (event_in switches chain (length front) line) ≡ Ok here → with_front (front ++ option_to_list here) (events_from switches chain (length (front ++ option_to_list here)) (n + 1) ls) ≡ with_front front (events_from switches chain (length front) n (line ∷ ls))
with_front-line switches chain n front here line ls h =
    rw (h, length-append front (option_to_list here)) (with_front-append front (option_to_list here) (events_from switches chain (length front + length (option_to_list here)) (n + 1) ls))
