-- An entry that comes next raises an epoch by no more than the count of entries, and a step raises that by one at most.
use Rattle.std.proofs.Common.{◌≡◌, ℕ, ◌+◌, ◌≤◌, Option, Some, None, refl, sym, ◌∙◌, true, false, Bool, arith, eqb-true, length, nat_le}
use Rattle.proto_data.specs.declared.message.Carried.{Carried}
use Rattle.proto_data.specs.declared.message.Entry.{Entry}
use Rattle.proto_data.specs.declared.message.Input.{Input}
use Rattle.proto_data.specs.declared.message.Record.{Record}
use Rattle.proto_data.specs.declared.limits.TheConstants.{PENDING}
use Rattle.rp_app.specs.Application.{Delta}
use Rattle.key_table.specs.Table.{Key, same_key, get, put}
use Rattle.key_table.proofs.Tables.{same_key-true, get-put_same, get-put_other, same_some}
use Rattle.proto_model.specs.Records.{Records, applied, entry_fits, next_epoch, put_applied, snap_applied}
use Rattle.proto_model.specs.ReplicaState.{Replica, is_member, is_tail}
use Rattle.proto_model.specs.ReplicaRows.{StoreRow, Loses, Answers, Echoes, Appends, Gathers, AppendsSnap, Commits, Adopts, Resends, appended_as, configured_as, store_perform, store_row, store_step}
use Rattle.store_replica.specs.Stores.{IsCounted}

-- no epoch is past this number
abbrev EpochsTo : ℕ → Records → Type 0
EpochsTo n t = (key : Key) (r : Record) → get t key ≡ Some r → r.epoch ≤ n

epochs-put : (n : ℕ) (t : Records) (k : Key) (r : Record) → EpochsTo n t → r.epoch ≤ n + 1 → EpochsTo (n + 1) (put t k r)
epochs-put n t k r h low j s has = by (same_key k j) refl
  where
    by : (b : Bool) → same_key k j ≡ b → s.epoch ≤ n + 1
    by true same =
        let e : k ≡ j = same_key-true k j same in
        let there : get (put t k r) j ≡ Some r = rw (sym e) (get-put_same t k r) in
        let v : r ≡ s = same_some (get (put t k r) j) r s there has in rw (sym v) low
    by false ne = let old : s.epoch ≤ n = h j s (sym (get-put_other t j k r ne) ∙ has) in omega (arith, old)

later : (n : ℕ) (t : Records) → EpochsTo n t → EpochsTo (n + 1) t
later n t h k r has = let old : r.epoch ≤ n = h k r has in omega (arith, old)

next_low : (n : ℕ) (o : Option Record) → ((r : Record) → o ≡ Some r → r.epoch ≤ n) → next_epoch o ≤ n + 1
next_low n None h = omega arith
next_low n (Some r) h = let old : r.epoch ≤ n = h r refl in omega (arith, old)

put_epochs : (n : ℕ) (t : Records) (k : Key) (number : ℕ) (delta : Delta) (now : ℕ) (o : Option Record) → get t k ≡ o → EpochsTo n t → EpochsTo (n + 1) (put_applied t k number delta now o)
put_epochs n t k number delta now None is h = later n t h
put_epochs n t k number delta now (Some r) is h = let old : r.epoch ≤ n = h k r is in epochs-put n t k _ h (omega (arith, old))

entry_epochs : (cells n : ℕ) (t : Records) (e : Entry) (now : ℕ) → EpochsTo n t → entry_fits cells t e ≡ true → EpochsTo (n + 1) (applied cells t e now)
entry_epochs cells n t (Entry.Grant key epoch switch inc nonce) now h fits =
    let is : epoch ≡ next_epoch (get t key) = eqb-true epoch (next_epoch (get t key)) fits in
    let low : next_epoch (get t key) ≤ n + 1 = next_low n (get t key) (h key) in
    epochs-put n t key _ h (omega (arith, is, low))
entry_epochs cells n t (Entry.Put key epoch number delta) now h fits = put_epochs n t key number delta now (get t key) refl h
entry_epochs cells n t (Entry.Snap key epoch round values) now h fits = by (get t key) refl
  where
    by : (o : Option Record) → get t key ≡ o → EpochsTo (n + 1) (snap_applied t key round values now o)
    by None is = later n t h
    by (Some r) is = let old : r.epoch ≤ n = h key r is in epochs-put n t key _ h (omega (arith, old))

pub counted-entry : (cells a known : ℕ) (t : Records) (e : Entry) (now : ℕ) → IsCounted a known t → entry_fits cells t e ≡ true → IsCounted (a + 1) known (applied cells t e now)
counted-entry cells a known t e now h fits = record { epochs = entry_epochs cells a t e now h.epochs fits; within = omega (arith, h.within) }

-- ---- one step

appended-count : (member tail full : Bool) (s : Replica) (now : ℕ) (e : Entry) (load : Option Carried) → (appended_as member tail full s now e load).0.applied ≤ s.applied + 1
appended-count false tail full s now e load = omega arith
appended-count true true full s now e load = omega arith
appended-count true false true s now e load = omega arith
appended-count true false false s now e load = omega arith

configured-count : (tail : Bool) (s : Replica) → (configured_as tail s).0.applied ≤ s.applied + 1
configured-count true s = omega arith
configured-count false s = omega arith

row-count : (s : Replica) (now : ℕ) (row : StoreRow) → (store_perform s now row).0.applied ≤ s.applied + 1
row-count s now (Loses cause) = omega arith
row-count s now (Answers to body) = omega arith
row-count s now (Echoes of load) = omega arith
row-count s now (Appends e load) = appended-count (is_member s) (is_tail s) (nat_le PENDING (length s.pending)) s now e load
row-count s now (Gathers key g) = omega arith
row-count s now (AppendsSnap key g e) = appended-count (is_member s) (is_tail s) (nat_le PENDING (length s.pending)) (record s { gathered = put s.gathered key g }) now e None
row-count s now (Commits index) = omega arith
row-count s now (Adopts config) = configured-count (is_tail (record s { config = config })) (record s { config = config })
row-count s now Resends = omega arith

pub step-count : (s : Replica) (now : ℕ) (input : Input) → (store_step s now input).0.applied ≤ s.applied + 1
step-count s now input = row-count s now (store_row s now input)
