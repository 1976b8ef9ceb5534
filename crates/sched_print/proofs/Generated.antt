-- Generated schedules are printable.
use Rattle.std.proofs.Common.{◌≡◌, ℕ, zero, suc, ◌+◌, ◌-◌, ◌%◌, ◌/◌, ◌<◌, ◌≤◌, [], ◌∷◌, Bool, true, false, nat_lt, nat_eq, length, replicate, cond, refl, arith, All}
use Rattle.std.proofs.lemmas.Bool.{ltb-true}
use Rattle.std.proofs.lemmas.List.Elements.{All-cons, All-nil, All-replicate}
use Rattle.hex.specs.Hex.{IsBytes}
use Rattle.rp_base.specs.declared.event.Event.{Event}
use Rattle.rp_base.specs.declared.node.Node.{Node}
use Rattle.sched_lang.specs.Ready.{IsNodeOf, IsEventOf}
use Rattle.sched_gen.specs.Generated.{boot_event, draw, events_from, feed_event, frame_event, generated, last_byte, late_event, middle_event, next_event, next_state, node_by, node_event, rare_event}
use Rattle.sched_print.specs.Again.{IsPacket, IsPrintable}

-- an event of three switches and three replicas that has a text
abbrev Fits : Event → Type 0
Fits e = IsEventOf 3 3 e × IsPacket e

-- what either way gives
either : (b : Bool) (x y : Event × ℕ) → (b ≡ true → Fits x.0) → (b ≡ false → Fits y.0) → Fits (cond b x y).0
either true x y h k = h refl
either false x y h k = k refl

node-fits : (n : ℕ) → n < 6 → IsNodeOf 3 3 (node_by n)
node-fits n below = by_test (nat_lt n 3) refl where
  by_test : (b : Bool) → nat_lt n 3 ≡ b → IsNodeOf 3 3 (cond b (Node.Switch n) (Node.Replica (n - 3)))
  by_test true h = ltb-true n 3 h
  by_test false h = omega (arith, below)

small : (x : ℕ) → (draw 6 x).0 < 6
small x = omega arith

frame-small : (x : ℕ) → (draw 4096 x).0 ≤ 65535
frame-small x = let below : (next_state x / 65536) % 4096 < 4096 = omega arith in omega (arith, below)

last-small : (n : ℕ) → last_byte n < 256
last-small n = by_test (nat_eq n 0) where
  by_test : (b : Bool) → cond b 63 33 < 256
  by_test true = omega arith
  by_test false = omega arith

two-bytes : (a b : ℕ) → a < 256 → b < 256 → IsBytes (a ∷ b ∷ [])
two-bytes a b h k zero = h
two-bytes a b h k (suc zero) = k
two-bytes a b h k (suc (suc i)) = omega arith

feed-fits : (x : ℕ) → Fits (feed_event x).0
feed-fits x =
    let below : (next_state x / 65536) % 8 < 8 = omega arith in
    (omega arith, (omega arith, two-bytes (97 + (draw 8 x).0) (last_byte (draw 4 (draw 8 x).1).0) (omega (arith, below)) (last-small (draw 4 (draw 8 x).1).0)))

rare-fits : (n x : ℕ) → Fits (rare_event n x).0
rare-fits n x =
    either (nat_eq n 0) (boot_event x) _ (λ h. ((let below : (next_state x / 65536) % 3 < 3 = omega arith in below), tt)) (λ h.
    either (nat_eq n 1) (node_event Event.Detect x) (Event.Announce, x) (λ k. (node-fits (draw 6 x).0 (small x), tt)) (λ k. (tt, tt)))

late-fits : (d x : ℕ) → Fits (late_event d x).0
late-fits d x =
    either (nat_lt d 98) (node_event Event.Alarm x) _ (λ h. (node-fits (draw 6 x).0 (small x), tt)) (λ h.
    either (nat_lt d 99) (node_event Event.Fail x) _ (λ k. (node-fits (draw 6 x).0 (small x), tt)) (λ k. rare-fits (draw 3 x).0 (draw 3 x).1))

-- so many hundreds
hundreds-fit : (n : ℕ) → All (λ d. d ≤ 1000000000) (replicate n 100)
hundreds-fit n = All-replicate (λ d. d ≤ 1000000000) n 100 (omega arith)

middle-fits : (d x : ℕ) → Fits (middle_event d x).0
middle-fits d x =
    either (nat_lt d 85) (frame_event Event.Drop x) _ (λ h. (frame-small x, tt)) (λ h.
    either (nat_lt d 90) (frame_event Event.Deliver x) _ (λ k. (frame-small x, tt)) (λ k.
    either (nat_lt d 94) (Event.Time (100 ∷ 100 ∷ 100 ∷ 100 ∷ 100 ∷ 100 ∷ []), x) _ (λ l. ((refl, hundreds-fit 6), tt)) (λ l. late-fits d x)))

event-fits : (x : ℕ) → Fits (next_event x).0
unfolding next_event
event-fits x =
    let d : ℕ = (draw 100 x).0 in
    let y : ℕ = (draw 100 x).1 in
    either (nat_lt d 30) (feed_event y) _ (λ h. feed-fits y) (λ h.
    either (nat_lt d 80) (Event.Next, y) _ (λ k. (tt, tt)) (λ k. middle-fits d y))

events-fit : (n x : ℕ) → All Fits (events_from n x) × (length (events_from n x) ≡ n)
unfolding events_from
events-fit zero x = (All-nil Fits, refl)
events-fit (suc n) x =
    let rest = events-fit n (next_event x).1 in
    (All-cons Fits (next_event x).0 (events_from n (next_event x).1) (event-fits x) rest.0, omega (arith, rest.1))

pub generated-fits : (n : ℕ) → IsPrintable (generated n)
generated-fits n =
    let are = events-fit 5000 n in
    record {
      ready = record {
        header = record {
          some_switches = omega arith;
          switches_fit = omega arith;
          some_replicas = omega arith;
          replicas_fit = omega arith;
          some_switch = omega arith;
          switch_fits = omega arith;
          some_store = omega arith;
          store_fits = omega arith;
          ratio_fits = omega arith;
          hold = omega arith;
          bound = tt;
        };
        events = λ i d below. (are.0 i d below).0;
        count = omega (arith, are.1);
      };
      packets = λ i d below. (are.0 i d below).1;
    }
