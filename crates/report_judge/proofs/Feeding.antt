-- What events feed rises by its marks, and a set of refused events refuses the same ones.
use Rattle.std.proofs.Common.{◌≡◌, ◌∙◌, ℕ, ◌+◌, ◌<◌, ◌≤◌, ◌⊎◌, inl, inr, List, [], ◌∷◌, ◌++◌, Bool, true, false, ◌||◌, refl, sym, ap, subst, arith, eqb-true}
use Rattle.std.specs.Prelude.{nat_eq, if◌then◌else◌}
use Rattle.std.specs.List.{list_any}
use Rattle.std.proofs.lemmas.List.Folds.{list_any-append}
use Rattle.rp_base.specs.declared.event.Event.{Event}
use Rattle.rp_base.specs.declared.legality.Fed.{Fed}
use Rattle.proto_model.specs.Feeds.{Each}
use Rattle.proto_safety.specs.LegalLines.{fed_unless, feed_of, feeds_from}
use Rattle.proto_safety.proofs.Basics.Eachs.{each_append}
use Rattle.report_audit.specs.Rising.{EventsRise, MarksAreEvents}
use Rattle.report_judge.specs.Judging.{is_among}

-- ---- refused events

-- a member is found behind one more that was found already
found_before : (n m : ℕ) (keys : List ℕ) → list_any (nat_eq m) keys ≡ true → is_among keys n ≡ is_among (keys ++ m ∷ []) n
found_before n m keys found = by (nat_eq n m) refl
  where
    or_none : (b : Bool) → b ≡ (b || false)
    or_none true = refl
    or_none false = refl

    by : (b : Bool) → nat_eq n m ≡ b → is_among keys n ≡ is_among (keys ++ m ∷ []) n
    by true is =
        let here : is_among keys n ≡ true = ap (λ k. list_any (nat_eq k) keys) (eqb-true n m is) ∙ found in
        here ∙ sym (list_any-append (nat_eq n) keys (m ∷ []) ∙ rw here refl)
    by false is = or_none (is_among keys n) ∙ sym (list_any-append (nat_eq n) keys (m ∷ []) ∙ ap (λ b. is_among keys n || (b || false)) is)

-- a set with one more member has the members of the list with it
pub among_more : (n m : ℕ) (keys : List ℕ) → is_among (if list_any (nat_eq m) keys then keys else keys ++ m ∷ []) n ≡ is_among (keys ++ m ∷ []) n
among_more n m keys = by (list_any (nat_eq m) keys) refl
  where
    by : (b : Bool) → list_any (nat_eq m) keys ≡ b → is_among (if b then keys else keys ++ m ∷ []) n ≡ is_among (keys ++ m ∷ []) n
    by true found = found_before n m keys found
    by false new = refl

pub among_append : (n m : ℕ) (xs ys : List ℕ) → is_among xs n ≡ is_among ys n → is_among (xs ++ m ∷ []) n ≡ is_among (ys ++ m ∷ []) n
among_append n m xs ys h = list_any-append (nat_eq n) xs (m ∷ []) ∙ (ap (λ b. b || is_among (m ∷ []) n) h ∙ sym (list_any-append (nat_eq n) ys (m ∷ [])))

-- ---- feeds

abbrev packet_of : ℕ → ℕ → List ℕ → Fed
packet_of n port bytes = record { event = n; packet = record { mark = n; port = port; bytes = bytes } }

-- nothing, or one packet with the event's number
abbrev OneAtMost : ℕ → List Fed → Type 0
OneAtMost n fs = (fs ≡ []) ⊎ ((port : ℕ) × (bytes : List ℕ) × (fs ≡ packet_of n port bytes ∷ []))

one_unless : (b : Bool) (n port : ℕ) (bytes : List ℕ) → OneAtMost n (fed_unless b n port bytes)
one_unless true n port bytes = inl refl
one_unless false n port bytes = inr (port, bytes, refl)

one_at_most : (b : Bool) (n : ℕ) (e : Event) → OneAtMost n (feed_of b n e)
one_at_most b n (Event.Feed port bytes) = one_unless b n port bytes
one_at_most b n (Event.FeedAt at port bytes) = one_unless b n port bytes
one_at_most b n (Event.Deliver i) = inl refl
one_at_most b n Event.Next = inl refl
one_at_most b n (Event.Drop i) = inl refl
one_at_most b n (Event.Time advances) = inl refl
one_at_most b n (Event.Alarm node) = inl refl
one_at_most b n (Event.Fail node) = inl refl
one_at_most b n (Event.Boot at) = inl refl
one_at_most b n (Event.Detect node) = inl refl
one_at_most b n Event.Announce = inl refl
one_at_most b n Event.Pump = inl refl

module _ (P : Fed → Type 0) where
  each_one : (n : ℕ) (fs : List Fed) → OneAtMost n fs → ((port : ℕ) (bytes : List ℕ) → P (packet_of n port bytes)) → Each P fs
  each_one n fs (inl none) h = subst (Each P) (sym none) tt
  each_one n fs (inr one) h = subst (Each P) (sym one.2) (h one.0 one.1, tt)

  -- what holds of each packet with the number of an event from this one on holds of what they feed
  each_feed : (refused : ℕ → Bool) (n : ℕ) (es : List Event) → ((k port : ℕ) (bytes : List ℕ) → n ≤ k → P (packet_of k port bytes)) → Each P (feeds_from refused n es)
  each_feed refused n [] h = tt
  each_feed refused n (e ∷ es) h =
      each_append P (feed_of (refused n) n e) (feeds_from refused (n + 1) es) (each_one n (feed_of (refused n) n e) (one_at_most (refused n) n e) (λ port bytes. h n port bytes (omega arith)))
      (each_feed refused (n + 1) es (λ k port bytes le. h k port bytes (omega (arith, le))))

pub feeds_rise : (refused : ℕ → Bool) (n : ℕ) (es : List Event) → EventsRise (feeds_from refused n es)
feeds_rise refused n [] = tt
feeds_rise refused n (e ∷ es) = before (feed_of (refused n) n e) (one_at_most (refused n) n e) (feeds_rise refused (n + 1) es)
  where
    before : (fs : List Fed) → OneAtMost n fs → EventsRise (feeds_from refused (n + 1) es) → EventsRise (fs ++ feeds_from refused (n + 1) es)
    before fs (inl none) rest = subst (λ gs. EventsRise (gs ++ feeds_from refused (n + 1) es)) (sym none) rest
    before fs (inr one) rest =
        subst (λ gs. EventsRise (gs ++ feeds_from refused (n + 1) es)) (sym one.2)
        (each_feed (λ (f : Fed). n < f.event) refused (n + 1) es (λ k port bytes le. omega (arith, le)), rest)

pub marks_are_events : (refused : ℕ → Bool) (n : ℕ) (es : List Event) → MarksAreEvents (feeds_from refused n es)
marks_are_events refused n es = each_feed (λ (f : Fed). f.packet.mark ≡ f.event) refused n es (λ k port bytes le. refl)
