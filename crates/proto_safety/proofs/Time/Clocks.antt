-- Clocks stay within the ratio: what one clock went on since an earlier moment bounds what another went on since a later one.
use Rattle.std.proofs.Common.{◌≡◌, ℕ, zero, suc, ◌+◌, ◌*◌, ◌≤◌, List, [], ◌∷◌, ◌++◌, Some, refl, sym, ap, ◌∙◌, slice_get, true, Bool, length, drop, arith, map, leb-true}
use Rattle.std.specs.Prelude.{nat_le}
use Rattle.std.specs.List.{list_all}
use Rattle.std.proofs.lemmas.Bool.{and_parts}
use Rattle.std.proofs.Math.Nat.{mul-le-mul_left}
use Rattle.rp_base.specs.declared.node.Node.{Node}
use Rattle.rp_base.specs.declared.event.Event.{Event}
use Rattle.rp_app.specs.Application.{Application}
use Rattle.std.proofs.lemmas.List.{length-append, length-map}
use Rattle.proto_model.specs.SwitchState.{SwitchStep}
use Rattle.proto_model.specs.SwitchRows.{switch_step}
use Rattle.proto_model.specs.ReplicaState.{StoreStep}
use Rattle.proto_model.specs.ReplicaRows.{store_step}
use Rattle.proto_model.specs.Effects.{switch_moved, replica_moved}
use Rattle.proto_model.specs.Clocks.{switch_clock, replica_clock, clocks, Aged}
use Rattle.proto_model.specs.World.{World, SwitchNode, ReplicaNode}
use Rattle.proto_model.specs.WorldStep.{world_after, advanced_switches, advanced_replicas, changed_at, stopped, booted, detected, rates_hold}
use Rattle.proto_safety.proofs.Inductions.Induction.{Keeps, run_kept, with_fed}
use Rattle.proto_data.specs.declared.message.Input.{Input}
use Rattle.proto_safety.proofs.Basics.Lists.{map-changed_at, map-set_same}

-- each goes on by its advance
abbrev pub gone_on : List ℕ → List ℕ → List ℕ
gone_on [] by = []
gone_on (c ∷ cs) [] = c ∷ cs
gone_on (c ∷ cs) (d ∷ ds) = (c + d) ∷ gone_on cs ds

replicas_on : (rs : List ReplicaNode) (by : List ℕ) → map replica_clock (advanced_replicas rs by) ≡ gone_on (map replica_clock rs) by
replicas_on [] by = refl
replicas_on (r ∷ rs) [] = refl
replicas_on (r ∷ rs) (d ∷ ds) = ap (λ cs. (r.clock + d) ∷ cs) (replicas_on rs ds)

advanced_none : (rs : List ReplicaNode) → advanced_replicas rs [] ≡ rs
advanced_none [] = refl
advanced_none (r ∷ rs) = refl

pub clocks_on : (ss : List SwitchNode) (rs : List ReplicaNode) (by : List ℕ) →
    map switch_clock (advanced_switches ss by) ++ map replica_clock (advanced_replicas rs (drop (length ss) by)) ≡ gone_on (map switch_clock ss ++ map replica_clock rs) by
clocks_on [] rs by = replicas_on rs by
clocks_on (s ∷ ss) rs [] = ap (λ rs. s.clock ∷ (map switch_clock ss ++ map replica_clock rs)) (advanced_none rs)
clocks_on (s ∷ ss) rs (d ∷ ds) = ap (λ cs. (s.clock + d) ∷ cs) (clocks_on ss rs ds)

-- what a place goes on by
pub gone_at : (cs by : List ℕ) (i y : ℕ) → length by ≡ length cs → slice_get (gone_on cs by) i ≡ Some y →
    (x : ℕ) × (d : ℕ) × (slice_get cs i ≡ Some x) × (slice_get by i ≡ Some d) × (y ≡ x + d)
gone_at [] by i y l at = cc
gone_at (c ∷ cs) [] i y l at = absurd (omega arith)
gone_at (c ∷ cs) (d ∷ ds) zero y l at = (c, d, refl, refl, cc)
gone_at (c ∷ cs) (d ∷ ds) (suc i) y l at = gone_at cs ds i y (omega arith) at

-- a test that all pass is passed at each place
all_at : (p : ℕ → Bool) (xs : List ℕ) (i x : ℕ) → list_all p xs ≡ true → slice_get xs i ≡ Some x → p x ≡ true
all_at p [] i x h at = cc
all_at p (y ∷ ys) zero x h at = let e : y ≡ x = cc in rw (← e) (and_parts _ _ h).0
all_at p (y ∷ ys) (suc i) x h at = all_at p ys i x (and_parts _ _ h).1 at

rate_at : (by : List ℕ) (ratio i d j e : ℕ) → rates_hold by ratio ≡ true → slice_get by i ≡ Some d → slice_get by j ≡ Some e → 1000 * e ≤ (1000 + ratio) * d
rate_at by ratio i d j e h at_i at_j =
    leb-true _ _
    (all_at (λ y. nat_le (1000 * e) ((1000 + ratio) * y)) by i d
    (all_at (λ x. list_all (λ y. nat_le (1000 * x) ((1000 + ratio) * y)) by) by j e h at_j)
    at_i)

sum_of_rates : (k y0 y1 x0 x1 a b : ℕ) → 1000 * y0 + k * a ≤ k * x0 + 1000 * b → 1000 * y1 ≤ k * x1 → 1000 * (y0 + y1) + k * a ≤ k * (x0 + x1) + 1000 * b
sum_of_rates k y0 y1 x0 x1 a b old step = omega arith

pub aged_on : (ratio : ℕ) (cs by : List ℕ) (i a j b : ℕ) → rates_hold by ratio ≡ true → length by ≡ length cs → Aged ratio cs i a j b → Aged ratio (gone_on cs by) i a j b
aged_on ratio cs by i a j b rates l h =
    record {
      bound = λ x y at_i at_j.
          let p = gone_at cs by i x l at_i in
          let q = gone_at cs by j y l at_j in
          rw (p.4, q.4)
          (sum_of_rates (1000 + ratio) q.0 q.1 p.0 p.1 a b (h.bound p.0 q.0 p.2 q.2) (rate_at by ratio i p.1 j q.1 rates p.3 q.3));
    }

-- the fact of a world, of the switches' and the replicas' clocks
abbrev pub AgedIn : ℕ → ℕ → ℕ → ℕ → World → Type 0
AgedIn i a j b w = Aged w.terms.ratio (clocks w) i a j b

-- a switch's or a replica's change that leaves its clock alone
pub one_switch : (w : World) (n : ℕ) (f : SwitchNode → SwitchNode) → ((x : SwitchNode) → switch_clock (f x) ≡ switch_clock x) → map switch_clock (changed_at w.switches n f) ++ map replica_clock w.replicas ≡ clocks w
one_switch w n f same = ap (λ cs. cs ++ map replica_clock w.replicas) (map-changed_at switch_clock w.switches n f same)

pub one_replica : (w : World) (n : ℕ) (f : ReplicaNode → ReplicaNode) → ((x : ReplicaNode) → replica_clock (f x) ≡ replica_clock x) → map switch_clock w.switches ++ map replica_clock (changed_at w.replicas n f) ≡ clocks w
one_replica w n f same = ap (λ cs. map switch_clock w.switches ++ cs) (map-changed_at replica_clock w.replicas n f same)

pub switch_clocks : (w : World) (n : ℕ) (node : SwitchNode) (step : SwitchStep) → slice_get w.switches n ≡ Some node → clocks (switch_moved w n node step) ≡ clocks w
switch_clocks w n node step at =
    ap (λ cs. cs ++ map replica_clock w.replicas) (map-set_same switch_clock w.switches n node (record node { state = step.0 }) at refl)

pub replica_clocks : (w : World) (n : ℕ) (node : ReplicaNode) (step : StoreStep) → slice_get w.replicas n ≡ Some node → clocks (replica_moved w n node step) ≡ clocks w
replica_clocks w n node step at = ap (λ cs. map switch_clock w.switches ++ cs) (map-set_same replica_clock w.replicas n node _ at refl)

pub length_clocks : (w : World) → length (clocks w) ≡ length w.switches + length w.replicas
length_clocks w =
    omega (
      arith,
      length-append (map switch_clock w.switches) (map replica_clock w.replicas),
      length-map w.switches switch_clock,
      length-map w.replicas replica_clock,
    )

-- the same clocks keep the fact
same_clocks : (i a j b : ℕ) (w x : World) → x.terms.ratio ≡ w.terms.ratio → clocks x ≡ clocks w → AgedIn i a j b w → AgedIn i a j b x
same_clocks i a j b w x e f h = rw (e, f) h

pub aged_kept : (app : Application) (i a j b : ℕ) → Keeps app (AgedIn i a j b)
aged_kept app i a j b =
    record {
      counts = λ w h. h;
      passes = λ w k h. h;
      feeds = λ w n node p at up mark h. same_clocks i a j b w (switch_moved (with_fed w p) n node (switch_step app node.state node.clock (Input.Packet p))) refl (switch_clocks (with_fed w p) n node (switch_step app node.state node.clock (Input.Packet p)) at) h;
      switches = λ w n node input at up from h. same_clocks i a j b w (switch_moved w n node (switch_step app node.state node.clock input)) refl (switch_clocks w n node (switch_step app node.state node.clock input) at) h;
      replicas = λ w n node input at up from h. same_clocks i a j b w (replica_moved w n node (store_step node.state node.clock input)) refl (replica_clocks w n node (store_step node.state node.clock input) at) h;
      advances = λ w by fits h. rw (clocks_on w.switches w.replicas by) (aged_on w.terms.ratio (clocks w) by i a j b fits.0 (fits.1 ∙ sym (length_clocks w)) h);
      stops_switch = λ w n fits h. same_clocks i a j b w (stopped w (Node.Switch n)) refl (one_switch w n _ (λ x. refl)) h;
      stops_replica = λ w n fits h. same_clocks i a j b w (stopped w (Node.Replica n)) refl (one_replica w n _ (λ x. refl)) h;
      boots = λ w n down h. same_clocks i a j b w (booted w n) refl (one_switch w n _ (λ x. refl)) h;
      detects_switch = λ w n fits h. same_clocks i a j b w (detected w (Node.Switch n)) refl (one_switch w n _ (λ x. refl)) h;
      detects_replica = λ w n fits h. h;
      announces = λ w h. h;
    }

-- once true of two nodes and their moments, it stays true
pub aged_later : (app : Application) (i a j b : ℕ) (es : List Event) (w : World) → AgedIn i a j b w → AgedIn i a j b (world_after app w es)
aged_later app i a j b es w h = run_kept app (AgedIn i a j b) (aged_kept app i a j b) es w h

-- it is true where b is the clock's present moment and a is no later than the other clock's
at_once : (k a x b : ℕ) → a ≤ x → 1000 * b + k * a ≤ k * x + 1000 * b
at_once k a x b h = omega (arith, mul-le-mul_left k h)

same_place : (cs : List ℕ) (j x y : ℕ) → slice_get cs j ≡ Some x → slice_get cs j ≡ Some y → x ≡ y
same_place cs j x y p q = cc

pub aged_now : (w : World) (i a j b : ℕ) → slice_get (clocks w) j ≡ Some b → ((x : ℕ) → slice_get (clocks w) i ≡ Some x → a ≤ x) → AgedIn i a j b w
aged_now w i a j b at_j above =
    record { bound = λ x y at_i at. rw (same_place (clocks w) j y b at at_j) (at_once (1000 + w.terms.ratio) a x b (above x at_i)) }
