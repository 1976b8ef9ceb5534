-- The routes of a world follow its events.
use Rattle.std.proofs.Common.{◌≡◌, ℕ, zero, suc, ◌+◌, Bool, true, false, not, ◌&&◌, List, [], ◌∷◌, replicate, map, Option, Result, Ok, Err, refl, sym, ap, subst}
use Rattle.std.specs.Prelude.{if◌then◌else◌, slice_get, slice_set}
use Rattle.std.specs.List.{range_with_len}
use Rattle.rp_base.specs.declared.node.Node.{Node}
use Rattle.rp_base.specs.declared.event.Event.{Event}
use Rattle.rp_base.specs.declared.event.Refusal.{Refusal}
use Rattle.rp_app.specs.Application.{Application}
use Rattle.key_table.specs.Table.{Key}
use Rattle.proto_model.specs.Routing.{picked}
use Rattle.proto_model.specs.World.{World, Setup, SwitchNode, opened, open_switch_node, first_config, believed_switches, numbers_from}
use Rattle.proto_model.specs.WorldStep.{Detects, refuses_if, act_of, detected, changed_at, runs_now, runs_at_switch, believed_up, believed_at}
use Rattle.reroute.specs.declared.router.DetectEnd.{DetectEnd}
use Rattle.reroute.specs.declared.router.DetectEnd.TheVariants as end
use Rattle.reroute.specs.Routes.{Routes, first_routes, switches_up, up_at, is_up, seen, detection}
use Rattle.reroute.specs.Worlds.{routes_of, act_by, HasFailed}

abbrev up : SwitchNode → Bool
up n = n.believed

-- ---- routing

numbers-map : (k : ℕ) (ns : List SwitchNode) → numbers_from (λ (b : Bool). b) k (map up ns) ≡ numbers_from up k ns
numbers-map k [] = refl
numbers-map k (n ∷ ns) =
    let rest = numbers-map (k + 1) ns in
    elim n.believed as (λ b. (if b then k ∷ numbers_from (λ (b : Bool). b) (k + 1) (map up ns) else numbers_from (λ (b : Bool). b) (k + 1) (map up ns)) ≡ (if b then k ∷ numbers_from up (k + 1) ns else numbers_from up (k + 1) ns)) [
      | true ↦ ap (λ (ms : List ℕ). k ∷ ms) rest
      | false ↦ rest
    ]

pub picks_same : (w : World) (key : Option Key) → picked (switches_up (routes_of w).believed) key ≡ picked (believed_switches w) key
picks_same w key = ap (λ (ns : List ℕ). picked ns key) (numbers-map 0 w.switches)

-- ---- the start

opened_up : (setup : Setup) (a n : ℕ) → map up (map (open_switch_node setup) (range_with_len a n)) ≡ replicate n true
opened_up setup a zero = refl
opened_up setup a (suc n) = ap (λ (bs : List Bool). true ∷ bs) (opened_up setup (a + 1) n)

abbrev with_config : Setup → List Bool → Routes
with_config setup bs = record { believed = bs; config = first_config setup.replicas }

pub opens_same : (cells : ℕ) (setup : Setup) → routes_of (opened cells setup) ≡ first_routes setup.switches setup.replicas
opens_same cells setup = ap (with_config setup) (opened_up setup 0 setup.switches)

-- ---- detections

up_at-map : (ns : List SwitchNode) (n : ℕ) → up_at (slice_get (map up ns) n) ≡ believed_at (slice_get ns n)
up_at-map [] n = refl
up_at-map (x ∷ ns) zero = refl
up_at-map (x ∷ ns) (suc n) = up_at-map ns n

is_up-same : (w : World) (node : Node) → is_up (routes_of w) node ≡ believed_up w node
is_up-same w (Node.Switch n) = up_at-map w.switches n
is_up-same w (Node.Replica n) = refl
is_up-same w Node.Master = refl

-- the answer of a detection by its two tests, with the routes where it is refused and where it isn't
abbrev by_tests : Routes → Routes → Bool → Bool → Routes × Result (Unit {0}) DetectEnd
by_tests r s runs believed = if runs && believed then (r, Err end.Alive) else if not runs && not believed then (r, Err end.Known) else (s, Ok tt)

by_answer : (node : Node) (runs believed : Bool) (r s : Routes) →
    refuses_if (runs && believed) Refusal.Alive (refuses_if (not runs && not believed) Refusal.Known (Detects node)) ≡ act_by node (by_tests r s runs believed).1
by_answer node true true r s = refl
by_answer node true false r s = refl
by_answer node false true r s = refl
by_answer node false false r s = refl

pub acts_same : (app : Application) (w : World) (node : Node) → act_of app w (Event.Detect node) ≡ act_by node (detection (routes_of w) node (runs_now w node)).1
acts_same app w node =
    let runs = runs_now w node in
    let r = routes_of w in
    let s = seen (routes_of w) node (runs_now w node) in
    subst (λ (b : Bool). act_of app w (Event.Detect node) ≡ act_by node (by_tests r s runs b).1) (sym (is_up-same w node)) (by_answer node runs (believed_up w node) r s)

changed_up : (ns : List SwitchNode) (n : ℕ) → map up (changed_at ns n (λ (s : SwitchNode). record s { believed = s.runs })) ≡ slice_set (map up ns) n (runs_at_switch (slice_get ns n))
changed_up [] n = refl
changed_up (x ∷ ns) zero = refl
changed_up (x ∷ ns) (suc n) = ap (λ (bs : List Bool). x.believed ∷ bs) (changed_up ns n)

abbrev believing : World → List Bool → Routes
believing w bs = record { believed = bs; config = w.config }

pub detects_same : (w : World) (node : Node) → HasFailed w node → routes_of (detected w node) ≡ seen (routes_of w) node (runs_now w node)
detects_same w (Node.Switch n) h = ap (believing w) (changed_up w.switches n)
detects_same w (Node.Replica n) h = rw h refl
detects_same w Node.Master h = refl
