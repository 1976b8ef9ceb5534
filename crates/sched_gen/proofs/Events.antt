-- Events one after the other.
use Rattle.std.proofs.Common.{◌≡◌, ℕ, zero, suc, ◌-◌, ◌<◌, ◌≤◌, List, [], ◌∷◌, ◌++◌, refl, sym, ap, ◌∙◌, arith}
use Rattle.std.proofs.lemmas.List.{append_assoc, append-nil}
use Rattle.rp_base.specs.declared.event.Event.{Event}
use Rattle.sched_gen.specs.Generated.{events_from, next_event}

events-one : (n x : ℕ) → 0 < n → events_from n x ≡ (next_event x).0 ∷ events_from (n - 1) (next_event x).1
unfolding events_from
events-one zero x h = absurd (omega (arith, h))
events-one (suc n) x h = let back : suc n - 1 ≡ n = omega arith in rw back refl

-- one event more stands in front
pub events-more : (front : List Event) (n x : ℕ) (e : Event) (y : ℕ) (all : List Event) → 0 < n → (e, y) ≡ next_event x → front ++ events_from n x ≡ all → (front ++ e ∷ []) ++ events_from (n - 1) y ≡ all
events-more front n x e y all some is h =
    append_assoc front (e ∷ []) (events_from (n - 1) y)
    ∙ ap (λ (es : List Event). front ++ es) (ap (λ (p : Event × ℕ). p.0 ∷ events_from (n - 1) p.1) is ∙ sym (events-one n x some))
    ∙ h

-- all events stand in front
pub events-done : (front : List Event) (n x : ℕ) (all : List Event) → n ≤ 0 → front ++ events_from n x ≡ all → front ≡ all
unfolding events_from
events-done front zero x all none h = sym (append-nil front) ∙ h
events-done front (suc n) x all none h = absurd (omega (arith, none))
