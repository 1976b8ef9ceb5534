-- A node's clock is the sum of its advances in the `time` events that weren't refused.
use Rattle.std.proofs.Common.{◌≡◌, ℕ, zero, suc, ◌+◌, ◌≤◌, List, [], ◌∷◌, ◌++◌, Option, Some, None, arith, refl, sym, ap, ◌∙◌, subst, slice_get, take, map, append-nil}
use Rattle.std.specs.Prelude.{sum, option_map}
use Rattle.std.specs.List.{range_with_len}
use Rattle.std.proofs.lemmas.List.Sums.{fold-append}
use Rattle.std.proofs.lemmas.List.{map-append}
use Rattle.rp_base.specs.declared.node.Node.{Node}
use Rattle.rp_base.specs.declared.event.Event.{Event}
use Rattle.proto_data.specs.declared.message.Input.{Input}
use Rattle.rp_app.specs.Application.{Application}
use Rattle.proto_data.specs.declared.terms.Terms.{Terms}
use Rattle.proto_model.specs.Clocks.{clocks, switch_clock, replica_clock, Aged}
use Rattle.proto_model.specs.Effects.{packet_fed, frame_passed}
use Rattle.proto_model.specs.SwitchRows.{switch_step}
use Rattle.proto_model.specs.ReplicaRows.{store_step}
use Rattle.proto_model.specs.Runs.{Run, before, act_at, clock, advance_of}
use Rattle.proto_model.specs.World.{World, Setup, SwitchNode, ReplicaNode, opened, below, open_switch_node, open_replica_node}
use Rattle.proto_model.specs.WorldStep.{Act, Refuses, Feeds, Delivers, Passes, Advances, Alarms, Stops, Boots, Detects, Announces, Pumps, act_of, perform_act, node_takes, switch_takes, replica_takes, next_event, world_step, world_after}
use Rattle.proto_safety.proofs.Inductions.Induction.{Keeps, run_kept}
use Rattle.proto_safety.proofs.Inductions.Acts.{Fits, act_fits}
use Rattle.proto_safety.proofs.Time.Clocks.{AgedIn, aged_now, aged_later, gone_on, gone_at, clocks_on, one_switch, one_replica, switch_clocks, replica_clocks, length_clocks}
use Rattle.proto_safety.proofs.Basics.Lists.{map_map, take_all_there, take_one_more, zero_in}

-- ---- one event

-- the clocks after an act
abbrev by_act : List ℕ → Act → List ℕ
by_act cs (Advances by) = gone_on cs by
by_act cs _ = cs

taken_clocks : (app : Application) (w : World) (n : ℕ) (input : Input) (o : Option SwitchNode) → slice_get w.switches n ≡ o → clocks (switch_takes app w n input o).0 ≡ clocks w
taken_clocks app w n input None at = refl
taken_clocks app w n input (Some node) at = switch_clocks w n node (switch_step app node.state node.clock input) at

stored_clocks : (w : World) (n : ℕ) (input : Input) (o : Option ReplicaNode) → slice_get w.replicas n ≡ o → clocks (replica_takes w n input o).0 ≡ clocks w
stored_clocks w n input None at = refl
stored_clocks w n input (Some node) at = replica_clocks w n node (store_step node.state node.clock input) at

node_clocks : (app : Application) (w : World) (to : Node) (input : Input) → clocks (node_takes app w to input).0 ≡ clocks w
node_clocks app w (Node.Switch n) input = taken_clocks app w n input (slice_get w.switches n) refl
node_clocks app w (Node.Replica n) input = stored_clocks w n input (slice_get w.replicas n) refl
node_clocks app w Node.Master input = refl

act_clocks : (app : Application) (w : World) (act : Act) → clocks (perform_act app w act).0 ≡ by_act (clocks w) act
act_clocks app w (Refuses cause) = refl
act_clocks app w (Feeds n p) = node_clocks app (packet_fed w p) (Node.Switch n) (Input.Packet p)
act_clocks app w (Delivers i m) = node_clocks app (frame_passed w i) m.to (Input.Msg m)
act_clocks app w (Passes i) = refl
act_clocks app w (Advances by) = clocks_on w.switches w.replicas by
act_clocks app w (Alarms node) = node_clocks app w node Input.Alarm
act_clocks app w (Stops (Node.Switch n)) = one_switch w n _ (λ x. refl)
act_clocks app w (Stops (Node.Replica n)) = one_replica w n _ (λ x. refl)
act_clocks app w (Stops Node.Master) = refl
act_clocks app w (Boots n) = one_switch w n _ (λ x. refl)
act_clocks app w (Detects (Node.Switch n)) = one_switch w n _ (λ x. refl)
act_clocks app w (Detects (Node.Replica n)) = refl
act_clocks app w (Detects Node.Master) = refl
act_clocks app w Announces = refl
act_clocks app w Pumps = refl

-- what a clock went on by
went_on : (w : World) (act : Act) (x c : ℕ) → Fits w act → slice_get (by_act (clocks w) act) x ≡ Some c → (b : ℕ) × ((slice_get (clocks w) x ≡ Some b) × (c ≡ b + advance_of x (Some act)))
went_on w (Advances by) x c fits at =
    let g = gone_at (clocks w) by x c (fits.1 ∙ sym (length_clocks w)) at in
    (g.0, (g.2, rw g.3 g.4))
went_on w (Refuses cause) x c fits at = (c, (at, omega arith))
went_on w (Feeds n p) x c fits at = (c, (at, omega arith))
went_on w (Delivers i m) x c fits at = (c, (at, omega arith))
went_on w (Passes i) x c fits at = (c, (at, omega arith))
went_on w (Alarms node) x c fits at = (c, (at, omega arith))
went_on w (Stops node) x c fits at = (c, (at, omega arith))
went_on w (Boots n) x c fits at = (c, (at, omega arith))
went_on w (Detects node) x c fits at = (c, (at, omega arith))
went_on w Announces x c fits at = (c, (at, omega arith))
went_on w Pumps x c fits at = (c, (at, omega arith))

step_clock : (app : Application) (w : World) (e : Event) (x c : ℕ) → slice_get (clocks (world_step app w e).0) x ≡ Some c →
    (b : ℕ) × ((slice_get (clocks w) x ≡ Some b) × (c ≡ b + advance_of x (Some (act_of app (next_event w) e))))
step_clock app w e x c at =
    went_on (next_event w) (act_of app (next_event w) e) x c (act_fits app (next_event w) e)
    (subst (λ cs. slice_get cs x ≡ Some c) (act_clocks app (next_event w) (act_of app (next_event w) e)) at)

-- ---- one more event

pub after_one_more : (app : Application) (es : List Event) (w : World) (e : Event) → world_after app w (es ++ e ∷ []) ≡ (world_step app (world_after app w es) e).0
after_one_more app [] w e = refl
after_one_more app (x ∷ es) w e = after_one_more app es (world_step app w x).0 e

range_one_more : (n a : ℕ) → range_with_len a (suc n) ≡ range_with_len a n ++ (a + n) ∷ []
range_one_more zero a = let e : a + 0 ≡ a = omega arith in rw e refl
range_one_more (suc n) a = let e : a + suc n ≡ a + 1 + n = omega arith in rw e (ap (λ l. a ∷ l) (range_one_more n (a + 1)))

sum_one_more : (f : ℕ → ℕ) (xs : List ℕ) (x : ℕ) → sum (map f (xs ++ x ∷ [])) ≡ sum (map f xs) + f x
sum_one_more f xs x = ap sum (map-append f xs (x ∷ [])) ∙ fold-append ◌+◌ 0 (map f xs) (f x ∷ [])

clock_one_more : (r : Run) (x n : ℕ) → clock r x (suc n) ≡ clock r x n + advance_of x (act_at r n)
clock_one_more r x n =
    ap (λ l. sum (map (λ i. advance_of x (act_at r i)) l)) (range_one_more n 0) ∙ (sum_one_more (λ i. advance_of x (act_at r i)) (range_with_len 0 n) (0 + n) ∙ (let e : 0 + n ≡ n = omega arith in rw e refl))

-- ---- the sum

at_start : (cells : ℕ) (setup : Setup) (x c : ℕ) → slice_get (clocks (opened cells setup)) x ≡ Some c → c ≡ 0
at_start cells setup x c at =
    zero_in (λ n. 0) (below setup.switches) x c (λ a. refl) (map replica_clock (map (open_replica_node cells setup) (below setup.replicas)))
    (λ y is.
    zero_in (λ n. 0) (below setup.replicas) y c (λ a. refl) [] (λ z no. cc)
    (subst (λ l. slice_get l y ≡ Some c) (map_map (open_replica_node cells setup) replica_clock (below setup.replicas) ∙ sym (append-nil _)) is))
    (subst (λ l. slice_get (l ++ map replica_clock (map (open_replica_node cells setup) (below setup.replicas))) x ≡ Some c) (map_map (open_switch_node setup) switch_clock (below setup.switches)) at)

pub clock_is_sum : (r : Run) (n x c : ℕ) → slice_get (clocks (before r n)) x ≡ Some c → c ≡ clock r x n
clock_is_sum r zero x c at = at_start r.app.cell_count r.setup x c at
clock_is_sum r (suc n) x c at = more_case (slice_get r.events n) refl (λ b is. clock_is_sum r n x b is)
  where
    none_case : slice_get r.events n ≡ None → ((b : ℕ) → slice_get (clocks (before r n)) x ≡ Some b → b ≡ clock r x n) → c ≡ clock r x n
    none_case is rest = rest c (subst (λ es. slice_get (clocks (world_after r.app (opened r.app.cell_count r.setup) es)) x ≡ Some c) (take_all_there n r.events is) at)

    some_case : (e : Event) → slice_get r.events n ≡ Some e → ((b : ℕ) → slice_get (clocks (before r n)) x ≡ Some b → b ≡ clock r x n) → c ≡ clock r x n + advance_of x (Some (act_of r.app (next_event (before r n)) e))
    some_case e is rest =
        let p = step_clock r.app (before r n) e x c
        (subst (λ w. slice_get (clocks w) x ≡ Some c) (ap (λ es. world_after r.app (opened r.app.cell_count r.setup) es) (take_one_more n r.events e is) ∙ after_one_more r.app (take n r.events) (opened r.app.cell_count r.setup) e) at) in
        omega (arith, p.1.1, rest p.0 p.1.0)

    more_case : (o : Option Event) → slice_get r.events n ≡ o → ((b : ℕ) → slice_get (clocks (before r n)) x ≡ Some b → b ≡ clock r x n) → c ≡ clock r x (suc n)
    more_case None is rest =
        let none : act_at r n ≡ None = ap (λ o. option_map (λ e. act_of r.app (next_event (before r n)) e) o) is in
        none_case is rest ∙ (let z : clock r x n ≡ clock r x n + advance_of x None = omega arith in z ∙ (ap (λ o. clock r x n + advance_of x o) (sym none) ∙ sym (clock_one_more r x n)))
    more_case (Some e) is rest =
        let some : act_at r n ≡ Some (act_of r.app (next_event (before r n)) e) = ap (λ o. option_map (λ e. act_of r.app (next_event (before r n)) e) o) is in
        some_case e is rest ∙ (ap (λ o. clock r x n + advance_of x o) (sym some) ∙ sym (clock_one_more r x n))

-- ---- the ratio, for any two moments

-- the terms of a run stay
pub terms_kept : (app : Application) (terms : Terms) → Keeps app (λ w. w.terms ≡ terms)
terms_kept app terms =
    record {
      counts = λ w h. h;
      passes = λ w i h. h;
      feeds = λ w n node p at up mark h. h;
      switches = λ w n node input at up from h. h;
      replicas = λ w n node input at up from h. h;
      advances = λ w by fits h. h;
      stops_switch = λ w n fits h. h;
      stops_replica = λ w n fits h. h;
      boots = λ w n down h. h;
      detects_switch = λ w n fits h. h;
      detects_replica = λ w n fits h. h;
      announces = λ w h. h;
    }

pub same_terms : (app : Application) (setup : Setup) (es : List Event) → (world_after app (opened app.cell_count setup) es).terms ≡ setup.terms
same_terms app setup es = run_kept app (λ w. w.terms ≡ setup.terms) (terms_kept app setup.terms) es (opened app.cell_count setup) refl

at_most : (cs : List ℕ) (i a x : ℕ) → slice_get cs i ≡ Some a → slice_get cs i ≡ Some x → a ≤ x
at_most cs i a x p q = let same : a ≡ x = cc in omega arith

pub ratio_between : (app : Application) (setup : Setup) (es more : List Event) (i j a b : ℕ) → slice_get (clocks (world_after app (opened app.cell_count setup) es)) i ≡ Some a →
    slice_get (clocks (world_after app (opened app.cell_count setup) es)) j ≡ Some b → Aged setup.terms.ratio (clocks (world_after app (world_after app (opened app.cell_count setup) es) more)) i a j b
ratio_between app setup es more i j a b at_i at_j =
    let w : World = world_after app (opened app.cell_count setup) es in
    let now : AgedIn i a j b w = aged_now w i a j b at_j (λ x at. at_most (clocks w) i a x at_i at) in
    let then : AgedIn i a j b (world_after app w more) = aged_later app i a j b more w now in
    let terms : (world_after app w more).terms ≡ setup.terms = run_kept app (λ v. v.terms ≡ setup.terms) (terms_kept app setup.terms) more w (same_terms app setup es) in
    subst (λ (t : Terms). Aged t.ratio (clocks (world_after app w more)) i a j b) terms then
