-- What is committed: the book of the last running replica, and what follows from it for each flow.
use Rattle.std.specs.Prelude.{ℕ, Bool, false, ◌&&◌, ◌==◌, List, [], ◌∷◌, Option, Some, None, if◌then◌else◌, nat_le, max, map, filter, fold, filter_map, flat_map}
use Rattle.rp_base.specs.declared.legality.Flow.{Flow}
use Rattle.proto_data.specs.declared.message.Entry.{Entry}
use Rattle.proto_data.specs.declared.message.Record.{Record}
use Rattle.key_table.specs.Table.{Key, get, same_key}
use Rattle.proto_model.specs.Records.{Booked, Records, records_of}
use Rattle.proto_model.specs.World.{World, ReplicaNode, Journaled}

-- the book of the last running replica in chain order
abbrev pub last_running_book : List ReplicaNode → List Booked → List Booked
last_running_book [] book = book
last_running_book (r ∷ rs) book = last_running_book rs (if r.runs then r.book else book)

abbrev pub committed_book : World → List Booked
committed_book w = last_running_book w.replicas []

-- the number that an entry has in one epoch of a flow, a Grant counting as 0
abbrev pub number_in : Key → ℕ → Entry → Option ℕ
number_in key epoch (Entry.Grant k e switch inc nonce) = if same_key k key && (e == epoch) then Some 0 else None
number_in key epoch (Entry.Put k e number delta) = if same_key k key && (e == epoch) then Some number else None
number_in key epoch (Entry.Snap k e round cells) = if same_key k key && (e == epoch) then Some round else None

abbrev pub greater : Option ℕ → Option ℕ → Option ℕ
greater None b = b
greater (Some a) None = Some a
greater (Some a) (Some b) = Some (max a b)

-- the greatest number of an epoch in a book; an epoch without a Grant has no entries in a book
abbrev pub closing_of : Key → ℕ → List Booked → Option ℕ
closing_of key epoch book = fold (λ c (b : Booked). greater c (number_in key epoch b.entry)) None book

abbrev pub closing : World → Key → ℕ → Option ℕ
closing w key epoch = closing_of key epoch (committed_book w)

-- the epochs of a flow that a book grants, rising
abbrev pub epoch_granted : Key → Entry → Option ℕ
epoch_granted key (Entry.Grant k e switch inc nonce) = if same_key k key then Some e else None
epoch_granted key (Entry.Put k e number delta) = None
epoch_granted key (Entry.Snap k e round cells) = None

abbrev pub epochs_of : Key → List Booked → List ℕ
epochs_of key book = filter_map (λ (b : Booked). epoch_granted key b.entry) book

-- the items of one epoch, in the order processed
abbrev pub is_in : Key → ℕ → Journaled → Bool
is_in key epoch j = same_key j.item.key key && (j.item.epoch == epoch)

abbrev pub journal : World → Key → ℕ → List Journaled
journal w key epoch = filter (is_in key epoch) w.history.items

abbrev pub is_closed : Option ℕ → Journaled → Bool
is_closed None j = false
is_closed (Some n) j = nat_le j.item.number n

-- the items of one epoch that are committed
abbrev pub closed_items : World → Key → ℕ → List Journaled
closed_items w key epoch = filter (is_closed (closing w key epoch)) (journal w key epoch)

-- the serial list of a flow
abbrev pub serial : World → Key → List Journaled
serial w key = flat_map (closed_items w key) (epochs_of key (committed_book w))

abbrev pub serial_marks : World → Key → List ℕ
serial_marks w key = map (λ (j : Journaled). j.item.mark) (serial w key)

abbrev pub committed_records : ℕ → World → Records
committed_records cells w = records_of cells (committed_book w)

abbrev pub cells_at : Option Record → List ℕ
cells_at None = []
cells_at (Some r) = r.cells

-- the committed cells of a flow
abbrev pub committed_cells : ℕ → World → Key → List ℕ
committed_cells cells w key = cells_at (get (committed_records cells w) key)

-- a flow with the marks of its serial list and its cells
abbrev pub committed_flow : World → Key × Record → Flow
committed_flow w e = record { key = e.0; marks = serial_marks w e.0; cells = e.1.cells }

-- the flows in order of their first Grant
abbrev pub committed_flows : ℕ → World → List Flow
committed_flows cells w = map (committed_flow w) (committed_records cells w)
