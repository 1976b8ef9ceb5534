-- What events feed stands in their order.
use Rattle.std.proofs.Common.{◌≡◌, ◌+◌, ◌<◌, ◌≤◌, ℕ, Bool, true, false, List, [], ◌∷◌, ◌++◌, refl, arith}
use Rattle.rp_base.specs.declared.event.Event.{Event}
use Rattle.rp_base.specs.declared.legality.Fed.{Fed}
use Rattle.proto_model.specs.Feeds.{Each}
use Rattle.proto_safety.specs.LegalLines.{feed_of, fed_unless, feeds_from}
use Rattle.proto_safety.proofs.Basics.Eachs.{each_append, each_weaker}
use Rattle.report_audit.specs.Rising.{EventsRise, MarksAreEvents}

-- an event feeds nothing, or one packet with its number
data Single (n : ℕ) : List Fed → Type 0 where
  nothing : Single n []
  one : (f : Fed) → f.event ≡ n → f.packet.mark ≡ f.event → Single n (f ∷ [])

unless_single : (refused : Bool) (n port : ℕ) (bytes : List ℕ) → Single n (fed_unless refused n port bytes)
unless_single true n port bytes = nothing
unless_single false n port bytes = one (record { event = n; packet = record { mark = n; port = port; bytes = bytes } }) refl refl

of_single : (refused : Bool) (n : ℕ) (e : Event) → Single n (feed_of refused n e)
of_single refused n (Event.Feed port bytes) = unless_single refused n port bytes
of_single refused n (Event.FeedAt switch port bytes) = unless_single refused n port bytes
of_single refused n _ = nothing

-- what is fed from an event on has no smaller number
abbrev From : ℕ → List Fed → Type 0
From n feeds = Each (λ (f : Fed). n ≤ f.event) feeds

from_single : (n : ℕ) (xs ys : List Fed) → Single n xs → From (n + 1) ys → From n (xs ++ ys)
from_single n xs ys nothing h = each_weaker (λ (f : Fed). n + 1 ≤ f.event) (λ (f : Fed). n ≤ f.event) ys (λ f le. omega (arith, le)) h
from_single n xs ys (one f is mark) h = (omega (arith, is), each_weaker (λ (f : Fed). n + 1 ≤ f.event) (λ (f : Fed). n ≤ f.event) ys (λ f le. omega (arith, le)) h)

from_on : (refused : ℕ → Bool) (n : ℕ) (events : List Event) → From n (feeds_from refused n events)
from_on refused n [] = tt
from_on refused n (e ∷ es) = from_single n (feed_of (refused n) n e) (feeds_from refused (n + 1) es) (of_single (refused n) n e) (from_on refused (n + 1) es)

rise_single : (n : ℕ) (xs ys : List Fed) → Single n xs → From (n + 1) ys → EventsRise ys → EventsRise (xs ++ ys)
rise_single n xs ys nothing from h = h
rise_single n xs ys (one f is mark) from h = (each_weaker (λ (g : Fed). n + 1 ≤ g.event) (λ (g : Fed). f.event < g.event) ys (λ g le. omega (arith, le, is)) from, h)

pub feeds_rise : (refused : ℕ → Bool) (n : ℕ) (events : List Event) → EventsRise (feeds_from refused n events)
feeds_rise refused n [] = tt
feeds_rise refused n (e ∷ es) =
    rise_single n (feed_of (refused n) n e) (feeds_from refused (n + 1) es) (of_single (refused n) n e) (from_on refused (n + 1) es) (feeds_rise refused (n + 1) es)

marks_single : (n : ℕ) (xs : List Fed) → Single n xs → MarksAreEvents xs
marks_single n xs nothing = tt
marks_single n xs (one f is mark) = (mark, tt)

pub feeds_marked : (refused : ℕ → Bool) (n : ℕ) (events : List Event) → MarksAreEvents (feeds_from refused n events)
feeds_marked refused n [] = tt
feeds_marked refused n (e ∷ es) =
    each_append (λ (f : Fed). f.packet.mark ≡ f.event) (feed_of (refused n) n e) (feeds_from refused (n + 1) es) (marks_single n (feed_of (refused n) n e) (of_single (refused n) n e)) (feeds_marked refused (n + 1) es)
