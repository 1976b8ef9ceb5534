-- What a picked row comes to, and that a step keeps the replica where its book leaves it.
use Rattle.std.proofs.Common.{◌≡◌, ℕ, ◌+◌, ◌≤◌, List, [], Option, Some, None, refl, sym, subst, true, Bool, arith, eq-eqb}
use Rattle.std.specs.Prelude.{◌==◌}
use Rattle.rp_base.specs.declared.node.Node.{Node}
use Rattle.proto_data.specs.declared.message.Entry.{Entry}
use Rattle.proto_data.specs.declared.message.Input.{Input}
use Rattle.proto_data.specs.declared.message.Record.{Record}
use Rattle.key_table.specs.Table.{Key, put}
use Rattle.proto_model.specs.Records.{Booked, fits_at}
use Rattle.proto_model.specs.ReplicaState.{Gathered, Replica, StoreDid, StoreStep, store_sent, whole_cells}
use Rattle.proto_model.specs.ReplicaRows.{appended, covered, gathered_row, snap_row, store_perform, store_step}
use Rattle.proto_model.specs.Stands.{Stands}
use Rattle.proto_model.proofs.StoreStands.{step_stands}
use Rattle.store_replica.specs.declared.part.Part.{Part}
use Rattle.store_replica.specs.Gatherings.{gathered_with}
use Rattle.store_replica.specs.Rows.{part_row}
use Rattle.store_replica.specs.Stores.{booked}
use Rattle.store_replica.proofs.Counts.{step-count}

-- ---- a chunk

covered-gathered : (s : Replica) (key : Key) (epoch round : ℕ) (g : Gathered) (o : Option (List ℕ)) → covered s (gathered_row key epoch round g o) ≡ gathered_row key epoch round g o
covered-gathered s key epoch round g None = refl
covered-gathered s key epoch round g (Some cells) = refl

-- the row of a chunk of the next round
pub next_part : (s : Replica) (from : Node) (inc : ℕ) (p : Part) (o : Option Record) (r : Record) → o ≡ Some r → r.epoch ≡ p.epoch → p.round ≡ r.last + 1 →
    part_row s p ≡ covered s (snap_row s from inc p.epoch p.round p.key (gathered_with s.gathered p) o)
next_part s from inc p o r at epoch round =
    let one : (r.epoch == p.epoch) ≡ true = eq-eqb r.epoch p.epoch epoch in
    let two : (p.round == r.last + 1) ≡ true = eq-eqb p.round (r.last + 1) round in
    rw (at, one, two) (sym (covered-gathered s p.key p.epoch p.round (gathered_with s.gathered p) (whole_cells (gathered_with s.gathered p))))

-- the record of a flow whose next round has this number
pub next_round : (epoch round : ℕ) (o : Option Record) (r : Record) → o ≡ Some r → r.epoch ≡ epoch → round ≡ r.last + 1 → fits_at epoch round true o ≡ true
next_round epoch round o r at same next =
    let one : (r.epoch == epoch) ≡ true = eq-eqb r.epoch epoch same in
    let two : (round == r.last + 1) ≡ true = eq-eqb round (r.last + 1) next in
    rw (at, one, two) refl

-- the round isn't whole
pub part_kept : (s : Replica) (now : ℕ) (p : Part) → whole_cells (gathered_with s.gathered p) ≡ None →
    (record s { gathered = put s.gathered p.key (gathered_with s.gathered p) }, store_sent []) ≡ store_perform s now (part_row s p)
part_kept s now p is = rw is refl

-- the round is whole
pub part_appended : (s : Replica) (now : ℕ) (p : Part) (cells : List ℕ) → whole_cells (gathered_with s.gathered p) ≡ Some cells →
    appended (record s { gathered = put s.gathered p.key (gathered_with s.gathered p) }) now (Entry.Snap p.key p.epoch p.round cells) None ≡ store_perform s now (part_row s p)
part_appended s now p cells is = rw is refl

-- a whole round comes next where its number does
pub whole_next : (epoch round : ℕ) (within : Bool) (o : Option Record) → fits_at epoch round true o ≡ true → within ≡ true → fits_at epoch round within o ≡ true
whole_next epoch round within o next is = rw is next

-- ---- a step

pub stands_on : (s new : Replica) (did : StoreDid) (now : ℕ) (input : Input) → (new, did) ≡ store_step s now input →
    (book : List Booked) (event : ℕ) → Stands s book → Stands new (booked book now event did)
stands_on s new did now input is book event h =
    subst (λ (x : StoreStep). Stands x.0 (booked book now event x.1)) (sym is) (step_stands s book now event input h)

pub counts_on : (s new : Replica) (did : StoreDid) (now turns : ℕ) (input : Input) → (new, did) ≡ store_step s now input → s.applied ≤ turns → new.applied ≤ turns + 1
counts_on s new did now turns input is low =
    let one : new.applied ≤ s.applied + 1 = subst (λ (x : StoreStep). x.0.applied ≤ s.applied + 1) (sym is) (step-count s now input) in
    omega (arith, one, low)
