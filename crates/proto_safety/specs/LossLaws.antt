-- What the protocol promises of cells, rounds and ages, in snapshot mode.
use Rattle.std.specs.Prelude.{ℕ, zero, suc, ◌≡◌, ◌≤◌, ◌<◌, ◌+◌, ◌-◌, true, List, [], ◌++◌, Option, Some, None, fold, filter, find, take, drop, map, length, slice_get}
use Rattle.proto_data.specs.declared.message.Msg.{Msg}
use Rattle.proto_data.specs.declared.message.Body.{Body}
use Rattle.proto_data.specs.declared.message.Entry.{Entry}
use Rattle.proto_data.specs.declared.terms.Mode.{Mode}
use Rattle.proto_data.specs.declared.message.Record.{Record}
use Rattle.rp_app.specs.Application.{Application, IsApplication, after, zeros}
use Rattle.rp_base.specs.Clocks.{TermsHold}
use Rattle.rp_base.specs.declared.event.Event.{Event}
use Rattle.key_table.specs.Table.{Key, get}
use Rattle.proto_model.specs.Slot.{Slot, Round, Ages, chunk_count, chunk_of, first_of_two}
use Rattle.proto_model.specs.Feeds.{Each, Pairwise, packets_at, key_at}
use Rattle.proto_model.specs.Committed.{is_in, number_in, greater, journal, closing, committed_records, committed_cells}
use Rattle.proto_model.specs.Kept.{is_round, base, after_marks, marks_in}
use Rattle.proto_model.specs.Legal.{IsOutputIn}
use Rattle.proto_model.specs.Loss.{IsBounded, MarksOnce, InOrder, KeylessReleased}
use Rattle.proto_model.specs.World.{World, Setup, SwitchNode, Journaled, RoundBegun, opened}
use Rattle.rp_base.specs.declared.legality.Fed.{Fed}
use Rattle.rp_base.specs.declared.legality.Released.{Released}
use Rattle.proto_model.specs.WorldStep.{world_after}
use Rattle.proto_safety.specs.Books.{In, committed_of}
use Rattle.proto_safety.specs.CellLaws.{LeasedAt}

-- ---- over entries, items and rounds alone

-- the round of an epoch with this number
abbrev pub round_at : Key → ℕ → ℕ → List RoundBegun → Option RoundBegun
round_at key epoch number rounds = find (is_round key epoch number) rounds

-- the items of an epoch that were processed before a round began
abbrev pub items_at : Key → ℕ → List Journaled → Option RoundBegun → List Journaled
items_at key epoch items None = []
items_at key epoch items (Some b) = filter (is_in key epoch) (take b.items_before items)

-- the items of an epoch that are kept where this is its closing
abbrev pub kept_items : Key → ℕ → List Journaled → List RoundBegun → Option ℕ → List Journaled
kept_items key epoch items rounds None = []
kept_items key epoch items rounds (Some number) = items_at key epoch items (round_at key epoch number rounds)

-- the closing of an epoch in these entries
abbrev pub closing_among : Key → ℕ → List Entry → Option ℕ
closing_among key epoch es = fold (λ c x. greater c (number_in key epoch x)) None es

-- the kept items of all epochs before this one
abbrev pub kept_front : Key → List Entry → List Journaled → List RoundBegun → ℕ → List Journaled
kept_front key es items rounds zero = []
kept_front key es items rounds (suc e) = kept_front key es items rounds e ++ kept_items key e items rounds (closing_among key e es)

-- the cells after these items, from cells that are all 0
abbrev pub cells_over : Application → List Fed → List Journaled → List ℕ
cells_over app feeds js = after app (zeros app.cell_count) (packets_at feeds (map (λ (j : Journaled). j.item.mark) js))

-- ---- cells

-- these are the cells at the begin of a round
pub record RoundIs (app : Application) (feeds : List Fed) (es : List Entry) (items : List Journaled) (rounds : List RoundBegun) (key : Key) (epoch number : ℕ) (cells : List ℕ) : Type 0 where
  pub begun : RoundBegun
  pub found : round_at key epoch number rounds ≡ Some begun
  pub within : begun.items_before ≤ length items
  pub cells_are : cells ≡ cells_over app feeds (kept_front key es items rounds epoch ++ filter (is_in key epoch) (take begun.items_before items))

-- this is a chunk of a round's cells
pub record ChunkIs (app : Application) (feeds : List Fed) (es : List Entry) (items : List Journaled) (rounds : List RoundBegun) (key : Key) (epoch number chunk chunks : ℕ) (part : List ℕ) : Type 0 where
  pub cells : List ℕ
  pub round_is : RoundIs app feeds es items rounds key epoch number cells
  pub chunks_are : chunks ≡ chunk_count (length cells)
  pub part_is : part ≡ chunk_of chunk cells

-- a leased slot has the cells after its epoch's kept front and its whole journal, and its running round those of its begin
pub record SnapStands (app : Application) (feeds : List Fed) (es : List Entry) (items : List Journaled) (rounds : List RoundBegun) (key : Key) (slot : Slot) (epoch : ℕ) : Type 0 where
  pub cells : slot.cells ≡ cells_over app feeds (kept_front key es items rounds epoch ++ filter (is_in key epoch) items)
  pub round : (r : Round) → slot.round ≡ Some r → RoundIs app feeds es items rounds key epoch r.number r.cells

-- the rounds of an epoch rise with what was processed before them
abbrev pub RoundTurn : RoundBegun → RoundBegun → Type 0
RoundTurn a b = a.begun.key ≡ b.begun.key → a.begun.epoch ≡ b.begun.epoch → (a.begun.round < b.begun.round) × (a.items_before ≤ b.items_before)

-- what is kept of cells in snapshot mode
pub record SnapCells (app : Application) (w : World) : Type 0 where
  pub slots :
      (n epoch : ℕ) (key : Key) (node : SwitchNode) (slot : Slot) → LeasedAt w n key epoch node slot →
      SnapStands app w.history.fed (committed_of w.replicas) w.history.items w.history.rounds key slot epoch
  -- each chunk as a frame
  pub frames :
      (m : Msg) (inc epoch number chunk chunks : ℕ) (key : Key) (part : List ℕ) → In w.frames m → m.body ≡ Body.Snap inc epoch number key chunk chunks part →
      ChunkIs app w.history.fed (committed_of w.replicas) w.history.items w.history.rounds key epoch number chunk chunks part
  -- each Snap of the committed book
  pub entries :
      (key : Key) (epoch number : ℕ) (cells : List ℕ) → In (committed_of w.replicas) (Entry.Snap key epoch number cells) →
      RoundIs app w.history.fed (committed_of w.replicas) w.history.items w.history.rounds key epoch number cells
  -- a begun round has a number of at least 1
  pub begun : Each (λ (b : RoundBegun). 1 ≤ b.begun.round) w.history.rounds
  -- the rounds of an epoch rise with what was processed before them, which are items that there are
  pub turns : Pairwise RoundTurn w.history.rounds
  pub within : Each (λ (b : RoundBegun). b.items_before ≤ length w.history.items) w.history.rounds

-- ---- ages

-- the items of an epoch behind a round's begin, or all of them where there is no such round
abbrev pub items_behind : Key → ℕ → List Journaled → Option RoundBegun → List Journaled
items_behind key epoch items None = filter (is_in key epoch) items
items_behind key epoch items (Some b) = filter (is_in key epoch) (drop b.items_before items)

-- each dirty item of these isn't earlier than this age, which is there
abbrev pub Covers : Option ℕ → List Journaled → Type 0
Covers age js = Each (λ (j : Journaled). j.item.dirty ≡ true → (m : ℕ) × ((age ≡ Some m) × (m ≤ j.item.moment))) js

-- the age that `may` looks at covers what stands behind the last done round, and `post` what stands behind the running one
abbrev pub AgesCover : List Journaled → List RoundBegun → Key → ℕ → ℕ → Ages → Option Round → Type 0
AgesCover items rounds key epoch last ages None =
    Covers (first_of_two ages.pre ages.post) (items_behind key epoch items (round_at key epoch last rounds)) × (ages.post ≡ None)
AgesCover items rounds key epoch last ages (Some r) =
    Covers (first_of_two ages.pre ages.post) (items_behind key epoch items (round_at key epoch (last - 1) rounds))
    × Covers ages.post (items_behind key epoch items (round_at key epoch last rounds))

-- an age isn't later than this moment
abbrev pub AgesPast : ℕ → Ages → Type 0
AgesPast now ages = ((m : ℕ) → ages.pre ≡ Some m → m ≤ now) × ((m : ℕ) → ages.post ≡ Some m → m ≤ now)

-- the round that an epoch's closing names
abbrev pub kept_round : Key → ℕ → List RoundBegun → Option ℕ → Option RoundBegun
kept_round key epoch rounds None = None
kept_round key epoch rounds (Some number) = round_at key epoch number rounds

-- of two dirty items the later is less than the bound behind
abbrev pub Recent : ℕ → List Journaled → Type 0
Recent bound js = Pairwise (λ (a z : Journaled). a.item.dirty ≡ true → z.item.dirty ≡ true → z.item.moment < a.item.moment + bound) js

-- what is kept of ages in snapshot mode
pub record AgesStand (bound : ℕ) (w : World) : Type 0 where
  pub slots :
      (n epoch : ℕ) (key : Key) (node : SwitchNode) (slot : Slot) → LeasedAt w n key epoch node slot →
      AgesCover w.history.items w.history.rounds key epoch slot.last slot.ages slot.round × AgesPast node.clock slot.ages
  -- an epoch's items past the kept ones
  pub recent : (epoch : ℕ) (key : Key) → Recent bound (items_behind key epoch w.history.items (kept_round key epoch w.history.rounds (closing w key epoch)))

-- ---- outputs

-- what was released in snapshot mode: the output of a packet without a key, or that of an item, at the item's event
pub data ReleasedBy (app : Application) (feeds : List Fed) (items : List Journaled) (r : Released) : Type 0 where
  keyless : key_at app feeds r.output.mark ≡ None → IsOutputIn app feeds (zeros app.cell_count) r.output → ReleasedBy app feeds items r
  by_item : (j : Journaled) → In items j → j.item.mark ≡ r.output.mark → j.output ≡ Some r.output → j.event ≡ r.event → ReleasedBy app feeds items r

-- ---- histories

-- what a snapshot run's history keeps to, beside how recent its losses are
pub record HistoryStands (app : Application) (w : World) : Type 0 where
  -- the committed cells are those after the last committed epoch's kept items
  pub cells : (key : Key) (r : Record) → get (committed_records app.cell_count w) key ≡ Some r → committed_cells app.cell_count w key ≡ base app w key r.epoch
  -- each released output of an item is that of one switch, from the epoch's base along the items before it
  pub outputs :
      (key : Key) (e n : ℕ) (j : Journaled) (r : Released) → slice_get (journal w key (suc e)) n ≡ Some j → In w.history.released r → r.output.mark ≡ j.item.mark →
      IsOutputIn app w.history.fed (after_marks app w (base app w key e) (take n (marks_in (journal w key (suc e))))) r.output
  pub marks : (key : Key) → MarksOnce app w key
  pub order : (key : Key) → InOrder w key
  pub keyless : KeylessReleased app w

-- ---- every run

-- after every list of events of a snapshot run whose terms hold, its loss is bounded; without a bound of at least 1 a last dirty
-- item would have to be less than 0 before itself
abbrev pub LossesBounded : Application → Setup → ℕ → Type 0
LossesBounded app setup bound =
    IsApplication app → setup.terms.mode ≡ Mode.Snapshot bound → 1 ≤ bound → TermsHold setup.terms.t_switch setup.terms.t_store setup.terms.ratio → (events : List Event) →
    IsBounded app bound (world_after app (opened app.cell_count setup) events)
