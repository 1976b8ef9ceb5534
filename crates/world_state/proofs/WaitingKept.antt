-- No act makes a frame wait below a cursor.
use Rattle.std.proofs.Common.{◌≡◌, ◌⊎◌, inl, inr, length-set, ℕ, zero, suc, ◌<◌, ◌≤◌, ◌+◌, ◌-◌, ◌≢◌, List, [], ◌∷◌, ◌++◌, length, Option, Some, None, refl, ap, sym, ◌∙◌, Bool, true, false, slice_get, drop, arith, subst, length-append, replicate, set}
use Rattle.std.specs.Prelude.{◌==◌, ◌||◌, ◌&&◌, not, min, if◌then◌else◌, nat_lt}
use Rattle.std.proofs.lemmas.Bool.{false≢true, lt-ltb, le-ltb, eq-eqb, cases_lt}
use Rattle.rp_base.specs.declared.node.Node.{Node}
use Rattle.rp_base.specs.Nodes.{same_node}
use Rattle.rp_app.specs.Application.{Application}
use Rattle.proto_data.specs.declared.message.Input.{Input}
use Rattle.proto_data.specs.declared.message.Msg.{Msg}
use Rattle.proto_model.specs.World.{World, SwitchNode, ReplicaNode}
use Rattle.proto_model.specs.WorldStep.{Act, Refuses, Feeds, Delivers, Passes, Advances, Alarms, Stops, Boots, Detects, Announces, Pumps, announcements, is_next, next_from, runs_now, runs_at_switch, runs_at_replica}
use Rattle.proto_safety.proofs.Basics.Lists.{at_set, prefix_at}
use Rattle.world_state.specs.declared.nodes.SwitchNode.{SwitchNode as SwitchSeat}
use Rattle.world_state.specs.declared.nodes.ReplicaNode.{ReplicaNode as ReplicaSeat}
use Rattle.world_state.specs.declared.state.WorldState.{WorldState}
use Rattle.world_state.specs.Passing.{is_passed}
use Rattle.world_state.specs.Steps.{goes, node_goes, switch_goes, replica_goes, boots_at, stops, fed, passes}
use Rattle.world_state.specs.Turns.{replica_turned, switch_turned}
use Rattle.sent_frames.specs.Frames.{goes_to}
use Rattle.world_state.specs.Waiting.{AreCursors, IsLeast, NoneTaken, NoneWaits, node_of, waits}
use Rattle.world_state.specs.WorldStates.{world_of}
use Rattle.world_state.proofs.PassedFrames.{or_true}

-- more frames are sent
pub none_more : (frames more : List Msg) (passed : List ℕ) (to : Node) (c : ℕ) → NoneWaits frames passed to c → NoneWaits (frames ++ more) passed to c
none_more frames more passed to c h =
    record {
      within = omega (arith, h.within, length-append frames more);
      over = λ i m less at goes. h.over i m less (prefix_at frames more i m (omega (arith, less, h.within)) at) goes;
    }

-- one more frame is passed over
pub none_passed : (frames : List Msg) (passed : List ℕ) (n : ℕ) (to : Node) (c : ℕ) → NoneWaits frames passed to c → NoneWaits frames (n ∷ passed) to c
none_passed frames passed n to c h =
    record {
      within = h.within;
      over = λ i m less at goes. ap (λ b. (n == i) || b) (h.over i m less at goes) ∙ or_true (n == i);
    }

pub cursors_more : (frames more : List Msg) (passed cursors : List ℕ) → AreCursors frames passed cursors → AreCursors (frames ++ more) passed cursors
cursors_more frames more passed cursors h = record { count = h.count; each = λ k c at. none_more frames more passed (node_of k) c (h.each k c at) }

pub cursors_passed : (frames : List Msg) (passed : List ℕ) (n : ℕ) (cursors : List ℕ) → AreCursors frames passed cursors → AreCursors frames (n ∷ passed) cursors
cursors_passed frames passed n cursors h = record { count = h.count; each = λ k c at. none_passed frames passed n (node_of k) c (h.each k c at) }

-- no frame below the cursors of a world waits
abbrev pub Waits : WorldState → Type 0
Waits s = AreCursors s.frames s.passed s.cursors

module _ (app : Application) where
  switch_waits : (s : WorldState) (n : ℕ) (input : Input) (o : Option SwitchSeat) → Waits s → Waits (switch_goes app s n input o).0
  switch_waits s n input None h = h
  switch_waits s n input (Some node) h = cursors_more s.frames (switch_turned app node input).1.sent s.passed s.cursors h

  replica_waits : (s : WorldState) (n : ℕ) (input : Input) (o : Option ReplicaSeat) → Waits s → Waits (replica_goes s n input o).0
  replica_waits s n input None h = h
  replica_waits s n input (Some node) h = cursors_more s.frames (replica_turned node s.event input).1.sent s.passed s.cursors h

  node_waits : (s : WorldState) (node : Node) (input : Input) → Waits s → Waits (node_goes app s node input).0
  node_waits s (Node.Switch n) input h = switch_waits s n input (slice_get s.switches n) h
  node_waits s (Node.Replica n) input h = replica_waits s n input (slice_get s.replicas n) h
  node_waits s Node.Master input h = h

  stops_wait : (s : WorldState) (node : Node) → Waits s → Waits (stops s node)
  stops_wait s (Node.Switch n) h = h
  stops_wait s (Node.Replica n) h = h
  stops_wait s Node.Master h = h

  boots_wait : (s : WorldState) (n : ℕ) (o : Option SwitchSeat) → Waits s → Waits (boots_at s n o)
  boots_wait s n None h = h
  boots_wait s n (Some node) h = h

  pub goes_waits : (s : WorldState) (act : Act) → Waits s → Waits (goes app s act).0
  goes_waits s (Refuses cause) h = h
  goes_waits s (Feeds n p) h = node_waits (fed s p) (Node.Switch n) (Input.Packet p) h
  goes_waits s (Delivers i m) h = node_waits (passes s i) m.to (Input.Msg m) (cursors_passed s.frames s.passed i s.cursors h)
  goes_waits s (Passes i) h = cursors_passed s.frames s.passed i s.cursors h
  goes_waits s (Advances by) h = h
  goes_waits s (Alarms node) h = node_waits s node Input.Alarm h
  goes_waits s (Stops node) h = stops_wait s node h
  goes_waits s (Boots n) h = boots_wait s n (slice_get s.switches n) h
  goes_waits s (Detects node) h = h
  goes_waits s Announces h = cursors_more s.frames (announcements (world_of s)) s.passed s.cursors h
  goes_waits s Pumps h = h

-- ---- the frame that is taken stands at no lower place

-- the search goes on behind frames that aren't taken
pub from_place : (w : World) (k i : ℕ) (ms : List Msg) → ((j : ℕ) (m : Msg) → j < k → slice_get ms j ≡ Some m → is_next w (i + j) m ≡ false) → next_from w i ms ≡ next_from w (i + k) (drop k ms)
from_place w zero i ms h = let none : i + 0 ≡ i = omega arith in ap (λ n. next_from w n ms) (sym none)
from_place w (suc k) i [] h = refl
from_place w (suc k) i (m ∷ ms) h =
    let here : i + 0 ≡ i = omega arith in
    let off : is_next w i m ≡ false = subst (λ n. is_next w n m ≡ false) here (h 0 m (omega arith) refl) in
    let same : i + 1 + k ≡ i + suc k = omega arith in
    let rest : next_from w (i + 1) ms ≡ next_from w (i + 1 + k) (drop k ms) =
    from_place w k (i + 1) ms (λ j x less at. let one : i + suc j ≡ i + 1 + j = omega arith in subst (λ n. is_next w n x ≡ false) one (h (suc j) x (omega (arith, less)) at))
    in
    ap (λ b. if b then Some (i, m) else next_from w (i + 1) ms) off ∙ rest ∙ ap (λ n. next_from w n (drop k ms)) same

pub from_start : (w : World) (k : ℕ) (ms : List Msg) → NoneTaken w ms k → next_from w 0 ms ≡ next_from w k (drop k ms)
from_start w k ms h =
    let zero : 0 + k ≡ k = omega arith in
    from_place w k 0 ms (λ j m less at. let same : j ≡ 0 + j = omega arith in subst (λ n. is_next w n m ≡ false) same (h j m less at)) ∙ ap (λ n. next_from w n (drop k ms)) zero

-- ---- the least of the cursors

there : (cs : List ℕ) (k : ℕ) → k < length cs → (c : ℕ) × (slice_get cs k ≡ Some c)
there [] k less = absurd (omega (arith, less))
there (c ∷ cs) zero less = (c, refl)
there (c ∷ cs) (suc k) less = there cs k (omega (arith, less))

-- a switch or a replica that runs is there
seat_there : (ss : List SwitchNode) (n : ℕ) → runs_at_switch (slice_get ss n) ≡ true → n < length ss
seat_there [] n up = absurd (false≢true up)
seat_there (s ∷ ss) zero up = omega arith
seat_there (s ∷ ss) (suc n) up = omega (arith, seat_there ss n up)

store_there : (rs : List ReplicaNode) (n : ℕ) → runs_at_replica (slice_get rs n) ≡ true → n < length rs
store_there [] n up = absurd (false≢true up)
store_there (r ∷ rs) zero up = omega arith
store_there (r ∷ rs) (suc n) up = omega (arith, store_there rs n up)

switch_place : (n : ℕ) → n < 8 → node_of n ≡ Node.Switch n
switch_place n less = let low : nat_lt n 8 ≡ true = lt-ltb n 8 less in ap (λ b. if b then Node.Switch n else Node.Replica (n - 8)) low

replica_place : (n : ℕ) → node_of (n + 8) ≡ Node.Replica n
replica_place n =
    let high : nat_lt (n + 8) 8 ≡ false = le-ltb (n + 8) 8 (omega arith) in
    let back : n + 8 - 8 ≡ n = omega arith in
    ap (λ b. if b then Node.Switch (n + 8) else Node.Replica (n + 8 - 8)) high ∙ ap Node.Replica back

module _ (w : World) (cursors : List ℕ) (least : ℕ) (few : length w.switches ≤ 8) (few_too : length w.replicas ≤ 5) (cs : AreCursors w.frames w.passed cursors) (is : IsLeast w cursors 13 least) where
  -- a frame below the least cursor, of a node with a cursor
  passed_below : (k i : ℕ) (m : Msg) → k < 13 → i < least → slice_get w.frames i ≡ Some m → m.to ≡ node_of k → runs_now w (node_of k) ≡ true → is_passed w.passed i ≡ true
  passed_below k i m small less at goes up =
      let c = there cursors k (omega (arith, small, cs.count)) in
      (cs.each k c.0 c.1).over i m (omega (arith, less, is k c.0 small c.1 up)) at goes

  passed_to : (to : Node) (i : ℕ) (m : Msg) → i < least → slice_get w.frames i ≡ Some m → m.to ≡ to → runs_now w to ≡ true → is_passed w.passed i ≡ true
  passed_to (Node.Switch n) i m less at goes up =
      let small : n < 8 = omega (arith, seat_there w.switches n up, few) in
      let place : Node.Switch n ≡ node_of n = sym (switch_place n small) in
      passed_below n i m (omega (arith, small)) less at (goes ∙ place) (subst (λ x. runs_now w x ≡ true) place up)
  passed_to (Node.Replica n) i m less at goes up =
      let small : n < 5 = omega (arith, store_there w.replicas n up, few_too) in
      let place : Node.Replica n ≡ node_of (n + 8) = sym (replica_place n) in
      passed_below (n + 8) i m (omega (arith, small)) less at (goes ∙ place) (subst (λ x. runs_now w x ≡ true) place up)
  passed_to Node.Master i m less at goes up = absurd (false≢true up)

  pub none_taken : NoneTaken w w.frames least
  none_taken i m less at = by (runs_now w m.to) refl
    where
      off : (b : Bool) → (not b && false) ≡ false
      off true = refl
      off false = refl

      by : (b : Bool) → runs_now w m.to ≡ b → is_next w i m ≡ false
      by true up = let over : is_passed w.passed i ≡ true = passed_to m.to i m less at refl up in ap (λ b. not b && runs_now w m.to) over
      by false down = ap (λ b. not (is_passed w.passed i) && b) down ∙ off (is_passed w.passed i)

-- ---- cursors go on

same_self : (to : Node) → same_node to to ≡ true
same_self (Node.Switch n) = eq-eqb n n refl
same_self (Node.Replica n) = eq-eqb n n refl
same_self Node.Master = refl

not_waiting : (b : Bool) → (not b && true) ≡ false → b ≡ true
not_waiting true h = refl
not_waiting false h = absurd (false≢true (sym h))

-- a frame to a node that doesn't wait is passed over
passed_by : (frames : List Msg) (passed : List ℕ) (to : Node) (i : ℕ) (m : Msg) → slice_get frames i ≡ Some m → m.to ≡ to → waits frames passed to i ≡ false → is_passed passed i ≡ true
passed_by frames passed to i m found goes off =
    let here : goes_to to (slice_get frames i) ≡ true = ap (goes_to to) found ∙ ap (λ x. same_node x to) goes ∙ same_self to in
    not_waiting (is_passed passed i) (ap (λ b. not (is_passed passed i) && b) (sym here) ∙ off)

-- a frame that doesn't wait is left behind
pub none_next : (frames : List Msg) (passed : List ℕ) (to : Node) (at : ℕ) → at < length frames → NoneWaits frames passed to at → waits frames passed to at ≡ false → NoneWaits frames passed to (at + 1)
none_next frames passed to at there h off =
    record {
      within = omega (arith, there);
      over = λ i m less found goes. by i m found goes less (cases_lt i at);
    }
  where
    by : (i : ℕ) (m : Msg) → slice_get frames i ≡ Some m → m.to ≡ to → i < at + 1 → (i < at) ⊎ (at ≤ i) → is_passed passed i ≡ true
    by i m found goes less (inl low) = h.over i m low found goes
    by i m found goes less (inr high) =
        let same : at ≡ i = omega (arith, less, high) in
        passed_by frames passed to i m found goes (subst (λ n. waits frames passed to n ≡ false) same off)

-- a cursor moves
pub cursors_set : (frames : List Msg) (passed cursors : List ℕ) (k at : ℕ) → AreCursors frames passed cursors → NoneWaits frames passed (node_of k) at → AreCursors frames passed (set cursors k at)
cursors_set frames passed cursors k at h none =
    record {
      count = length-set cursors k at ∙ h.count;
      each = λ j c found. by j c (at_set cursors k j at c found);
    }
  where
    by : (j c : ℕ) → ((j ≡ k) × (c ≡ at)) ⊎ ((j ≢ k) × (slice_get cursors j ≡ Some c)) → NoneWaits frames passed (node_of j) c
    by j c (inl e) = subst (λ n. NoneWaits frames passed (node_of n) c) (sym e.0) (subst (NoneWaits frames passed (node_of k)) (sym e.1) none)
    by j c (inr e) = h.each j c e.1

-- ---- before the first event

zeros_at : (n k c : ℕ) → slice_get (replicate n 0) k ≡ Some c → c ≡ 0
zeros_at zero k c is = cc
zeros_at (suc n) zero c is = cc
zeros_at (suc n) (suc k) c is = zeros_at n k c is

pub first_cursors : (frames : List Msg) (passed : List ℕ) → AreCursors frames passed (replicate 13 0)
first_cursors frames passed =
    record {
      count = refl;
      each = λ k c at. let none : c ≡ 0 = zeros_at 13 k c at in record { within = omega (arith, none); over = λ i m less found goes. absurd (omega (arith, less, none)) };
    }

-- ---- the least, one cursor more

lower : (b : Bool) (least c : ℕ) → (if b then min least c else least) ≤ least
lower true least c = omega arith
lower false least c = omega arith

pub least_more : (w : World) (cursors : List ℕ) (k least new : ℕ) → k < length cursors → IsLeast w cursors k least →
    ((c : ℕ) → slice_get cursors k ≡ Some c → new ≡ (if runs_now w (node_of k) then min least c else least)) → IsLeast w cursors (k + 1) new
least_more w cursors k least new small h is j c less at up = by (cases_lt j k)
  where
    by : (j < k) ⊎ (k ≤ j) → new ≤ c
    by (inl low) =
        let own = there cursors k small in
        omega (arith, is own.0 own.1, lower (runs_now w (node_of k)) least own.0, h j c low at up)
    by (inr high) =
        let same : j ≡ k = omega (arith, less, high) in
        let here : slice_get cursors k ≡ Some c = subst (λ n. slice_get cursors n ≡ Some c) same at in
        let runs : runs_now w (node_of k) ≡ true = subst (λ n. runs_now w (node_of n) ≡ true) same up in
        let one : new ≡ min least c = is c here ∙ ap (λ b. if b then min least c else least) runs in
        omega (arith, one)
