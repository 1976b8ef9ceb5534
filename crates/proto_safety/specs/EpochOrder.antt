-- The epochs of a flow rise by one, along a book and along the serial list that follows from it.
use Rattle.std.specs.Prelude.{ℕ, ◌≡◌, ◌≤◌, List, length, flat_map}
use Rattle.std.specs.List.{range_with_len}
use Rattle.key_table.specs.Table.{Key}
use Rattle.proto_model.specs.Records.{Booked}
use Rattle.proto_model.specs.World.{World, Journaled}
use Rattle.proto_model.specs.Feeds.{Each, Pairwise}
use Rattle.proto_model.specs.Committed.{committed_book, epochs_of, closed_items, serial}

-- the epochs that a book grants a flow are 1, 2 and so on, without a gap
abbrev pub EpochsRise : Key → List Booked → Type 0
EpochsRise key book = epochs_of key book ≡ range_with_len 1 (length (epochs_of key book))

-- how many epochs of a flow are committed
abbrev pub epoch_count : World → Key → ℕ
epoch_count w key = length (epochs_of key (committed_book w))

pub record SerialByEpoch (w : World) (key : Key) : Type 0 where
  -- the serial list is the committed items of epoch 1, then those of epoch 2, and so on
  pub parts : serial w key ≡ flat_map (closed_items w key) (range_with_len 1 (epoch_count w key))
  -- so no item stands before one of an earlier epoch
  pub rising : Pairwise (λ (a b : Journaled). a.item.epoch ≤ b.item.epoch) (serial w key)
  -- and each is of one of these epochs
  pub first : Each (λ (j : Journaled). 1 ≤ j.item.epoch) (serial w key)
  pub last : Each (λ (j : Journaled). j.item.epoch ≤ epoch_count w key) (serial w key)
