-- A replica is where its book leaves it.
use Rattle.std.specs.Prelude.{ℕ, ◌≡◌, ◌≤◌, Bool, true, List, map, drop, length}
use Rattle.proto_data.specs.declared.message.Entry.{Entry}
use Rattle.proto_model.specs.Records.{Booked, Records, records_of}
use Rattle.proto_model.specs.ReplicaState.{Replica, is_tail}

abbrev pub entries_of : List Booked → List Entry
entries_of book = map (λ (b : Booked). b.entry) book

-- the records are `applied` along the book, and pending are the entries past the known commit
pub record StandsAt (cells : ℕ) (records : Records) (applied known : ℕ) (pending : List Entry) (tail : Bool) (book : List Booked) : Type 0 where
  pub records_along : records ≡ records_of cells book
  pub count : applied ≡ length book
  pub pending_past : pending ≡ drop known (entries_of book)
  pub known_within : known ≤ length book
  -- the tail knows all as committed
  pub known_at_tail : tail ≡ true → known ≡ length book

abbrev pub Stands : Replica → List Booked → Type 0
Stands r book = StandsAt r.cell_count r.records r.applied r.known r.pending (is_tail r) book
