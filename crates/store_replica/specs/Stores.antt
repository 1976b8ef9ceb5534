-- A replica as it runs: with the number of its calls, and whether memory was refused in one of them.
use Rattle.std.specs.Prelude.{ℕ, ◌+◌, ◌≡◌, ◌≤◌, Bool, false, Some, List, ◌++◌}
use Rattle.proto_data.specs.declared.message.Config.{Config}
use Rattle.proto_data.specs.declared.message.Input.{Input}
use Rattle.proto_data.specs.declared.message.Record.{Record}
use Rattle.proto_data.specs.declared.terms.Terms.{Terms}
use Rattle.key_table.specs.Table.{Key, get}
use Rattle.proto_model.specs.Records.{Records, Booked}
use Rattle.proto_model.specs.Effects.{added}
use Rattle.proto_model.specs.ReplicaState.{Replica, StoreDid, open_replica}
use Rattle.proto_model.specs.ReplicaRows.{store_step}

-- a replica, how often it was called, and whether memory was refused
pub record Running : Type 0 where
  pub replica : Replica
  pub turns : ℕ
  pub failed : Bool

-- a replica before its first call
abbrev pub opened : ℕ → ℕ → Terms → Config → Running
opened me cells terms config = record { replica = open_replica me cells terms config; turns = 0; failed = false }

-- one call in which memory sufficed
abbrev pub stepped : Running → ℕ → Input → Running × StoreDid
stepped s now input = (record s { replica = (store_step s.replica now input).0; turns = s.turns + 1 }, (store_step s.replica now input).1)

-- the book once a call did this at `now`, in the event of this number
abbrev pub booked : List Booked → ℕ → ℕ → StoreDid → List Booked
booked book now event did = book ++ added (λ e. record { entry = e; moment = now; event = event }) did.applied

-- no epoch is past the number of entries, and what is known is applied
pub record IsCounted (applied known : ℕ) (records : Records) : Type 0 where
  pub epochs : (key : Key) (r : Record) → get records key ≡ Some r → r.epoch ≤ applied
  pub within : known ≤ applied
