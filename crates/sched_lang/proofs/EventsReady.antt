-- What holds of an event that is read: its packet, its numbers and its nodes are in their ranges.
use Rattle.std.proofs.Common.{◌≡◌, ℕ, ◌+◌, ◌<◌, ◌≤◌, List, [], ◌∷◌, ◌++◌, Bool, true, false, not, ◌&&◌, nat_le, nat_lt, length, length-append, fold, Option, Some, None, Result, Ok, Err, arith, ◌-◌}
use Rattle.std.specs.Prelude.{All, IfOk, IfSome, option_to_list, ◌==◌, if◌then◌else◌, bytes_eq, codes}
use Rattle.std.proofs.lemmas.Bool.{ltb-true, eqb-true}
use Rattle.std.proofs.lemmas.List.{append-nil}
use Rattle.std.proofs.lemmas.List.Elements.{All-push, All-nil}
use Rattle.hex.specs.Hex.{decode_of}
use Rattle.hex.specs.declared.error.FromHexError.{FromHexError}
use Rattle.rp_base.specs.declared.event.Event.{Event}
use Rattle.rp_base.specs.declared.node.Node.{Node}
use Rattle.sched_lang.specs.declared.schedule.SchedWhy.{SchedWhy}
use Rattle.sched_lang.specs.declared.schedule.SchedWhy.TheVariants as why
use Rattle.sched_lang.specs.declared.event.Kind.{Kind}
use Rattle.sched_lang.specs.declared.event.Kind.TheVariants as kind
use Rattle.sched_lang.specs.Causes.{◌>>=◌, both}
use Rattle.sched_lang.specs.Words.{words, none, one, two, three, number, packet, packet_in, numbered, switch, node, as_switch, as_replica}
use Rattle.sched_lang.specs.EventForms.{feed, feedat, frame, frame_event, one_more, time, boot, node_word, node_event, event_form, event_of, event_line, kind_of}
use Rattle.sched_lang.specs.Ready.{IsNodeOf, IsEventOf}
use Rattle.sched_lang.proofs.Behind.{next, behind_any, of_both, tested, unless, Within, number-within}

-- ---- words

-- a packet of at most 1,500 bytes
abbrev Fits : List ℕ → Type 0
Fits bytes = length bytes ≤ 1500

packet_in-fits : (r : Result (List ℕ) FromHexError) → IfOk (packet_in r) Fits
packet_in-fits (Ok bytes) = grind arith
packet_in-fits (Err e) = tt

packet-fits : (word : List ℕ) → IfOk (packet word) Fits
packet-fits word =
    unless Fits (length word == 0) (if bytes_eq word (codes "-") then Ok [] else packet_in (decode_of word)) why.Form
    (either (bytes_eq word (codes "-")) (omega arith) (packet_in-fits (decode_of word)))
  where
    either : (b : Bool) → length {A = ℕ} [] ≤ 1500 → IfOk (packet_in (decode_of word)) Fits → IfOk (if b then Ok [] else packet_in (decode_of word)) Fits
    either true h k = h
    either false h k = k

numbered-there : (named there digit : ℕ) → IfOk (numbered named there digit) (λ n. n < there)
numbered-there named there digit =
    unless (λ n. n < there) (not (nat_le 48 digit && nat_lt digit (48 + named))) (if nat_lt (digit - 48) there then Ok (digit - 48) else Err why.Node) why.Form
    (tested (λ n. n < there) (nat_lt (digit - 48) there) (Ok (digit - 48)) why.Node (λ is. ltb-true (digit - 48) there is))

switch-there : (switches : ℕ) (word : List ℕ) → IfOk (switch switches word) (λ n. n < switches)
switch-there switches [] = tt
switch-there switches (letter ∷ []) = tt
switch-there switches (letter ∷ digit ∷ []) = tested (λ n. n < switches) (letter == 115) (numbered 8 switches digit) why.Form (λ is. numbered-there 8 switches digit)
switch-there switches (letter ∷ digit ∷ more ∷ bs) = tt

as_switch-there : (switches chain : ℕ) (r : Result ℕ SchedWhy) → IfOk r (λ n. n < switches) → IfOk (as_switch r) (IsNodeOf switches chain)
as_switch-there switches chain (Ok n) h = h
as_switch-there switches chain (Err e) h = tt

as_replica-there : (switches chain : ℕ) (r : Result ℕ SchedWhy) → IfOk r (λ n. n < chain) → IfOk (as_replica r) (IsNodeOf switches chain)
as_replica-there switches chain (Ok n) h = h
as_replica-there switches chain (Err e) h = tt

node-there : (switches chain : ℕ) (word : List ℕ) → IfOk (node switches chain word) (IsNodeOf switches chain)
node-there switches chain [] = tt
node-there switches chain (letter ∷ []) = tt
node-there switches chain (letter ∷ digit ∷ []) =
    by_letter (letter == 115) (letter == 114) (as_switch-there switches chain (numbered 8 switches digit) (numbered-there 8 switches digit)) (as_replica-there switches chain (numbered 5 chain digit) (numbered-there 5 chain digit))
  where
    by_letter : (s r : Bool) → IfOk (as_switch (numbered 8 switches digit)) (IsNodeOf switches chain) → IfOk (as_replica (numbered 5 chain digit)) (IsNodeOf switches chain) →
        IfOk (if s then as_switch (numbered 8 switches digit) else if r then as_replica (numbered 5 chain digit) else Err why.Form) (IsNodeOf switches chain)
    by_letter true r h k = h
    by_letter false true h k = k
    by_letter false false h k = tt
node-there switches chain (letter ∷ digit ∷ more ∷ bs) = tt

-- ---- advances

-- so many advances in their range
abbrev Advance : ℕ → List ℕ → Type 0
Advance n by = (length by ≡ n) × All (λ d. d ≤ 1000000000) by

one_more-ready : (n : ℕ) (read : Result (List ℕ) SchedWhy) (word : List ℕ) → IfOk read (Advance n) → IfOk (one_more read word) (Advance (n + 1))
one_more-ready n read word h =
    next (λ x. Advance n x.0 × Within 0 1000000000 x.1) (Advance (n + 1)) (both read (number 0 1000000000 word)) _ (of_both (Advance n) (Within 0 1000000000) read (number 0 1000000000 word) h (number-within 0 1000000000 word)) (λ x k.
    let size = length-append x.0 (x.1 ∷ []) in
    (omega (arith, size, k.0.0), All-push (λ d. d ≤ 1000000000) x.0 x.1 k.0.1 k.1.1))

advances-ready : (n : ℕ) (read : Result (List ℕ) SchedWhy) (args : List (List ℕ)) → IfOk read (Advance n) → IfOk (fold one_more read args) (Advance (n + length args))
advances-ready n (Ok by) [] h = (omega (arith, h.0), h.1)
advances-ready n (Err e) [] h = tt
advances-ready n read (word ∷ args) h =
    let size : n + 1 + length args ≡ n + length (word ∷ args) = omega arith in
    rw size at (advances-ready (n + 1) (one_more read word) args (one_more-ready n read word h))

-- ---- events

module _ (switches chain : ℕ) where
  abbrev Q : Event → Type 0
  Q event = IsEventOf switches chain event

  feed-ready : (args : List (List ℕ)) → IfOk (feed args) Q
  feed-ready args =
      behind_any Q (two args) _ (λ ws.
      next (λ x. Within 0 65535 x.0 × Fits x.1) Q (both (number 0 65535 ws.0) (packet ws.1)) _ (of_both (Within 0 65535) Fits (number 0 65535 ws.0) (packet ws.1) (number-within 0 65535 ws.0) (packet-fits ws.1)) (λ x h. h.1))

  feedat-ready : (args : List (List ℕ)) → IfOk (feedat switches args) Q
  feedat-ready args =
      behind_any Q (three args) _ (λ ws.
      let fed = both (number 0 65535 ws.1) (packet ws.2) in
      next (λ x. (x.0 < switches) × (Within 0 65535 x.1.0 × Fits x.1.1)) Q (both (switch switches ws.0) fed) _
      (of_both (λ n. n < switches) (λ y. Within 0 65535 y.0 × Fits y.1) (switch switches ws.0) fed (switch-there switches ws.0)
      (of_both (Within 0 65535) Fits (number 0 65535 ws.1) (packet ws.2) (number-within 0 65535 ws.1) (packet-fits ws.2)))
      (λ x h. (h.0, h.1.1)))

  frame-ready : (made : ℕ → Event) → ((n : ℕ) → n ≤ 65535 → Q (made n)) → (args : List (List ℕ)) → IfOk (frame_event made args) Q
  frame-ready made k args =
      next (Within 0 65535) Q (frame args) _ (behind_any (Within 0 65535) (one args) _ (λ word. number-within 0 65535 word)) (λ n h. k n h.1)

  node-ready : (made : Node → Event) → ((n : Node) → IsNodeOf switches chain n → Q (made n)) → (args : List (List ℕ)) → IfOk (node_event made switches chain args) Q
  node-ready made k args =
      next (IsNodeOf switches chain) Q (node_word switches chain args) _ (behind_any (IsNodeOf switches chain) (one args) _ (λ word. node-there switches chain word)) k

  boot-ready : (args : List (List ℕ)) → IfOk (boot switches args) Q
  boot-ready args = behind_any Q (one args) _ (λ word. next (λ n. n < switches) Q (switch switches word) _ (switch-there switches word) (λ n h. h))

  time-ready : (args : List (List ℕ)) → IfOk (time (switches + chain) args) Q
  time-ready args =
      tested Q (length args == switches + chain) (fold one_more (Ok []) args >>= λ numbers. Ok (Event.Time numbers)) why.Form (λ is.
      let size : length args ≡ switches + chain = eqb-true (length args) (switches + chain) is in
      next (Advance (0 + length args)) Q (fold one_more (Ok []) args) _ (advances-ready 0 (Ok []) args (omega arith, All-nil (λ d. d ≤ 1000000000))) (λ by h. (omega (arith, h.0, size), h.1)))

  form-ready : (which : Option Kind) (args : List (List ℕ)) → IfOk (event_form switches chain which args) Q
  form-ready None args = tt
  form-ready (Some kind.Feed) args = feed-ready args
  form-ready (Some kind.FeedAt) args = feedat-ready args
  form-ready (Some kind.Deliver) args = frame-ready Event.Deliver (λ n h. h) args
  form-ready (Some kind.Next) args = behind_any Q (none args) _ (λ end. tt)
  form-ready (Some kind.Drop) args = frame-ready Event.Drop (λ n h. h) args
  form-ready (Some kind.Time) args = time-ready args
  form-ready (Some kind.Alarm) args = node-ready Event.Alarm (λ n h. h) args
  form-ready (Some kind.Fail) args = node-ready Event.Fail (λ n h. h) args
  form-ready (Some kind.Boot) args = boot-ready args
  form-ready (Some kind.Detect) args = node-ready Event.Detect (λ n h. h) args
  form-ready (Some kind.Announce) args = behind_any Q (none args) _ (λ end. tt)
  form-ready (Some kind.Pump) args = behind_any Q (none args) _ (λ end. tt)

  words-ready : (ws : List (List ℕ)) → IfOk (event_of switches chain ws) Q
  words-ready [] = tt
  words-ready (word ∷ args) = form-ready (kind_of word) args

  pub event-ready : (line : List ℕ) → IfOk (event_line switches chain line) (IsEventOf switches chain)
  event-ready line = words-ready (words line)

pub count-one_more : (events : List Event) (event : Option Event) → length events ≤ 20000 → IfSome event (λ _. length events < 20000) → length (events ++ option_to_list event) ≤ 20000
count-one_more events (Some event) most room = let size = length-append events (event ∷ []) in omega (arith, size, room)
count-one_more events None most room = rw (append-nil events) most
