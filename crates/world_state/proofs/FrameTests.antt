-- The frame that `next` takes, place by place.
use Rattle.std.proofs.Common.{◌≡◌, ℕ, zero, suc, ◌+◌, ◌<◌, ◌≤◌, List, [], ◌∷◌, Option, Some, None, length, refl, ap, sym, ◌∙◌, Bool, true, false, slice_get, drop, arith, subst}
use Rattle.std.specs.Prelude.{not, ◌&&◌, option_map, if◌then◌else◌}
use Rattle.rp_base.specs.declared.node.Node.{Node}
use Rattle.proto_data.specs.declared.message.Msg.{Msg}
use Rattle.proto_model.specs.World.{World}
use Rattle.proto_model.specs.WorldStep.{next_from, is_next, runs_now}
use Rattle.world_state.specs.Passing.{is_passed}
use Rattle.world_state.proofs.PassedFrames.{next_at, next_past}

-- whether the frame at a place is taken
taken_is : (w : World) (i : ℕ) (ms : List Msg) (m : Msg) (to : Node) (over runs : Bool) → slice_get ms i ≡ Some m → option_map (λ (m : Msg). m.to) (slice_get ms i) ≡ Some to →
    over ≡ is_passed w.passed i → runs ≡ runs_now w to → is_next w i m ≡ (not over && runs)
taken_is w i ms m to over runs at goes passed up =
    let addressed : Some m.to ≡ Some to = ap (option_map (λ (m : Msg). m.to)) (sym at) ∙ goes in
    let same : m.to ≡ to = cc in
    λ k. not (sym passed k) && (ap (runs_now w) same ∙ sym up) k

pub next_there : (w : World) (i : ℕ) (ms : List Msg) (m : Msg) (to : Node) → slice_get ms i ≡ Some m → option_map (λ (m : Msg). m.to) (slice_get ms i) ≡ Some to →
    false ≡ is_passed w.passed i → true ≡ runs_now w to → next_from w i (drop i ms) ≡ Some (i, m)
next_there w i ms m to at goes passed up =
    let yes : is_next w i m ≡ true = taken_is w i ms m to false true at goes passed up in
    next_at w i ms m at i ∙ ap (λ b. if b then Some (i, m) else next_from w (i + 1) (drop (suc i) ms)) yes

none_within : (ms : List Msg) (i : ℕ) → slice_get ms i ≡ None → length ms ≤ i
none_within [] i is = omega arith
none_within (m ∷ ms) zero is = cc
none_within (m ∷ ms) (suc i) is = omega (arith, none_within ms i is)

-- the search goes on behind a frame that isn't taken
go_on : (w : World) (i : ℕ) (ms : List Msg) (o : Option Msg) → slice_get ms i ≡ o → ((m : Msg) → o ≡ Some m → is_next w i m ≡ false) → next_from w i (drop i ms) ≡ next_from w (i + 1) (drop (i + 1) ms)
go_on w i ms None at other =
    next_past w i i ms (none_within ms i at) ∙ sym (next_past w (i + 1) (i + 1) ms (omega (arith, none_within ms i at)))
go_on w i ms (Some m) at other =
    let more : suc i ≡ i + 1 = omega arith in
    next_at w i ms m at i ∙ ap (λ b. if b then Some (i, m) else next_from w (i + 1) (drop (suc i) ms)) (other m refl) ∙ ap (λ n. next_from w (i + 1) (drop n ms)) more

pub next_passed : (w : World) (i : ℕ) (ms : List Msg) → true ≡ is_passed w.passed i → next_from w i (drop i ms) ≡ next_from w (i + 1) (drop (i + 1) ms)
next_passed w i ms passed = go_on w i ms (slice_get ms i) refl (λ m at. λ k. not (sym passed k) && runs_now w m.to)

pub next_down : (w : World) (i : ℕ) (ms : List Msg) (to : Node) → option_map (λ (m : Msg). m.to) (slice_get ms i) ≡ Some to → false ≡ is_passed w.passed i → false ≡ runs_now w to → next_from w i (drop i ms) ≡ next_from w (i + 1) (drop (i + 1) ms)
next_down w i ms to goes passed up = go_on w i ms (slice_get ms i) refl (λ m at. taken_is w i ms m to false false at goes passed up)

pub none_left : (w : World) (i : ℕ) (ms : List Msg) → length ms ≤ i → None ≡ next_from w i (drop i ms)
none_left w i ms le = sym (next_past w i i ms le)
