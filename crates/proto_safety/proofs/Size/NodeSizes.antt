-- Lists of nodes under the changes of a world, and packets of acts that are sized.
use Rattle.std.proofs.Common.{◌≡◌, ℕ, ◌+◌, ◌≤◌, ◌<◌, List, [], ◌∷◌, length, map, Option, Some, None, arith, refl, true, false, Bool, subst, ap, zero, suc, slice_get}
use Rattle.std.specs.Prelude.{not, ◌&&◌, ◌==◌, nat_lt, if◌then◌else◌}
use Rattle.std.specs.List.{range_with_len}
use Rattle.rp_base.specs.declared.node.Node.{Node}
use Rattle.rp_base.specs.declared.node.Packet.{Packet}
use Rattle.rp_base.specs.declared.event.Event.{Event}
use Rattle.rp_base.specs.declared.event.Refusal.{Refusal}
use Rattle.proto_data.specs.declared.message.Msg.{Msg}
use Rattle.rp_app.specs.Application.{Application}
use Rattle.proto_model.specs.Feeds.{Each}
use Rattle.proto_model.specs.Routing.{picked}
use Rattle.proto_model.specs.SwitchState.{Switch}
use Rattle.proto_model.specs.ReplicaState.{Replica}
use Rattle.proto_model.specs.World.{World, SwitchNode, ReplicaNode, numbers_from, believed_switches}
use Rattle.proto_model.specs.WorldStep.{Act, Feeds, Delivers, Passes, Advances, Alarms, Stops, Boots, Detects, Announces, Pumps, act_of, refuses_if, feed_picked, event_packet, deliver_act, numbered_frame, next_act, next_from, runs_now, believed_up, frames_full, rates_hold, padded, advanced_switches, advanced_replicas}
use Rattle.proto_safety.specs.Books.{In}
use Rattle.proto_safety.specs.Sizes.{EventSized}
use Rattle.proto_safety.proofs.Store.Chains.{without}

-- ---- which replicas run

abbrev pub RunningIn : List ReplicaNode → ℕ → Type 0
RunningIn nodes a = (node : ReplicaNode) × ((slice_get nodes a ≡ Some node) × (node.runs ≡ true))

abbrev pub which_run : List ReplicaNode → List Bool
which_run nodes = map (λ (x : ReplicaNode). x.runs) nodes

to_which : (nodes : List ReplicaNode) (a : ℕ) → RunningIn nodes a → slice_get (which_run nodes) a ≡ Some true
to_which [] a r = let at : None ≡ Some r.0 = r.1.0 in cc
to_which (x ∷ xs) zero r = let at : Some x ≡ Some r.0 = r.1.0 in let same : x ≡ r.0 = cc at in rw same (ap (λ b. Some b) r.1.1)
to_which (x ∷ xs) (suc a) r = to_which xs a r

from_which : (nodes : List ReplicaNode) (a : ℕ) → slice_get (which_run nodes) a ≡ Some true → RunningIn nodes a
from_which [] a h = cc
from_which (x ∷ xs) zero h = (x, (refl, cc h))
from_which (x ∷ xs) (suc a) h = from_which xs a h

pub same_running : (xs ys : List ReplicaNode) (a : ℕ) → which_run xs ≡ which_run ys → RunningIn xs a → RunningIn ys a
same_running xs ys a same r = from_which ys a (subst (λ bs. slice_get bs a ≡ Some true) same (to_which xs a r))

pub advanced_which : (xs : List ReplicaNode) (by : List ℕ) → which_run (advanced_replicas xs by) ≡ which_run xs
advanced_which [] by = refl
advanced_which (x ∷ xs) [] = refl
advanced_which (x ∷ xs) (d ∷ ds) = ap (λ bs. x.runs ∷ bs) (advanced_which xs ds)

-- ---- lists of nodes

pub each_range : {B : Type 0} (P : B → Type 0) (f : ℕ → B) (from n : ℕ) → ((x : ℕ) → x < from + n → P (f x)) → Each P (map f (range_with_len from n))
each_range P f from zero k = tt
each_range P f from (suc n) k = (k from (omega arith), each_range P f (from + 1) n (λ x below. k x (omega arith)))

pub below_each : (from n m : ℕ) → from + n ≤ m → Each (λ r. r < m) (range_with_len from n)
below_each from zero m le = tt
below_each from (suc n) m le = (omega arith, below_each (from + 1) n m (omega arith))

pub numbers_below : {N : Type 0} (test : N → Bool) (from m : ℕ) (xs : List N) → from + length xs ≤ m → Each (λ r. r < m) (numbers_from test from xs)
numbers_below test from m [] le = tt
numbers_below test from m (x ∷ xs) le = test_case (test x) (numbers_below test (from + 1) m xs (omega (arith, le)))
  where
    test_case : (b : Bool) → Each (λ r. r < m) (numbers_from test (from + 1) xs) → Each (λ r. r < m) (if b then from ∷ numbers_from test (from + 1) xs else numbers_from test (from + 1) xs)
    test_case true rest = (omega (arith, le), rest)
    test_case false rest = rest

pub advanced_each : (P : Switch → Type 0) (xs : List SwitchNode) (by : List ℕ) → Each (λ (x : SwitchNode). P x.state) xs → Each (λ (x : SwitchNode). P x.state) (advanced_switches xs by)
advanced_each P [] by h = tt
advanced_each P (x ∷ xs) [] h = h
advanced_each P (x ∷ xs) (d ∷ ds) h = (h.0, advanced_each P xs ds h.1)

pub advanced_stores : (P : Replica → Type 0) (xs : List ReplicaNode) (by : List ℕ) → Each (λ (x : ReplicaNode). P x.state) xs → Each (λ (x : ReplicaNode). P x.state) (advanced_replicas xs by)
advanced_stores P [] by h = tt
advanced_stores P (x ∷ xs) [] h = h
advanced_stores P (x ∷ xs) (d ∷ ds) h = (h.0, advanced_stores P xs ds h.1)

pub length_without : (chain : List ℕ) (n : ℕ) → length (without chain n) ≤ length chain
length_without [] n = omega arith
length_without (x ∷ xs) n = without_case (x == n) (length_without xs n)
  where
    without_case : (t : Bool) → length (without xs n) ≤ length xs → length (if not t then x ∷ without xs n else without xs n) ≤ length (x ∷ xs)
    without_case true le = omega (arith, le)
    without_case false le = omega (arith, le)

pub some_in : (chain : List ℕ) (a : ℕ) → In chain a → 1 ≤ length chain
some_in [] a i = absurd i
some_in (x ∷ xs) a i = omega arith

-- ---- acts

-- a packet that is fed is sized
abbrev pub ActSized : Act → Type 0
ActSized (Feeds n p) = (p.port < 65536) × (length p.bytes ≤ 1500)
ActSized _ = Unit {0}

if_sized : (b : Bool) (cause : Refusal) (act : Act) → ActSized act → ActSized (refuses_if b cause act)
if_sized true cause act h = tt
if_sized false cause act h = h

picked_sized : (w : World) (p : Packet) (o : Option ℕ) → (p.port < 65536) × (length p.bytes ≤ 1500) → ActSized (feed_picked w p o)
picked_sized w p None h = tt
picked_sized w p (Some n) h = if_sized (not (runs_now w (Node.Switch n))) Refusal.Dead (Feeds n p) h

deliver_sized : (w : World) (o : Option (ℕ × Msg)) → ActSized (deliver_act w o)
deliver_sized w None = tt
deliver_sized w (Some f) = if_sized (not (runs_now w f.1.to)) Refusal.Dead (Delivers f.0 f.1) tt

next_sized : (o : Option (ℕ × Msg)) → ActSized (next_act o)
next_sized None = tt
next_sized (Some f) = tt

pub act_sized : (app : Application) (w : World) (e : Event) → EventSized e → ActSized (act_of app w e)
act_sized app w (Event.Feed port bytes) h = if_sized (frames_full w) Refusal.FramesFull _ (picked_sized w (event_packet w port bytes) (picked (believed_switches w) (app.key_of (event_packet w port bytes))) h)
act_sized app w (Event.FeedAt n port bytes) h = if_sized (frames_full w) Refusal.FramesFull _ (if_sized (not (runs_now w (Node.Switch n))) Refusal.Dead (Feeds n (event_packet w port bytes)) h)
act_sized app w (Event.Deliver i) h = if_sized (frames_full w) Refusal.FramesFull _ (if_sized w.linked Refusal.Linked _ (deliver_sized w (numbered_frame w i)))
act_sized app w Event.Next h = if_sized (frames_full w) Refusal.FramesFull _ (if_sized w.linked Refusal.Linked _ (next_sized (next_from w 0 w.frames)))
act_sized app w (Event.Drop i) h = if_sized w.linked Refusal.Linked _ (if_sized (not (nat_lt i (length w.frames))) Refusal.NoFrame (Passes i) tt)
act_sized app w (Event.Time by) h = if_sized (not (rates_hold (padded w by) w.terms.ratio)) Refusal.Rates (Advances (padded w by)) tt
act_sized app w (Event.Alarm node) h = if_sized (frames_full w) Refusal.FramesFull _ (if_sized (not (runs_now w node)) Refusal.Dead (Alarms node) tt)
act_sized app w (Event.Fail node) h = if_sized (not (runs_now w node)) Refusal.Dead _ (if_sized _ Refusal.LastReplica (Stops node) tt)
act_sized app w (Event.Boot n) h = if_sized (runs_now w (Node.Switch n)) Refusal.Alive (Boots n) tt
act_sized app w (Event.Detect node) h = if_sized (runs_now w node && believed_up w node) Refusal.Alive _ (if_sized _ Refusal.Known (Detects node) tt)
act_sized app w Event.Announce h = if_sized (frames_full w) Refusal.FramesFull Announces tt
act_sized app w Event.Pump h = if_sized (frames_full w) Refusal.FramesFull _ (if_sized (not w.linked) Refusal.NoLink Pumps tt)
