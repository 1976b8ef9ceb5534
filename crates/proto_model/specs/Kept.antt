-- What a snapshot run may lose: items behind the begin of an epoch's greatest committed round.
use Rattle.std.specs.Prelude.{ℕ, zero, suc, ◌≡◌, ◌<◌, ◌+◌, ◌-◌, ◌==◌, ◌&&◌, Bool, List, Option, Some, None, map, filter, take, drop, length, find, slice_get}
use Rattle.std.specs.List.{IsAmong}
use Rattle.key_table.specs.Table.{Key, same_key}
use Rattle.rp_app.specs.Application.{Application, after, zeros}
use Rattle.proto_model.specs.World.{World, Journaled, RoundBegun}
use Rattle.rp_base.specs.declared.legality.Released.{Released}
use Rattle.proto_model.specs.Feeds.{packets_at, Each}
use Rattle.proto_model.specs.Legal.{IsOutputIn}
use Rattle.proto_model.specs.Committed.{journal, closing, is_in, epochs_of, committed_book, committed_cells}

abbrev pub is_round : Key → ℕ → ℕ → RoundBegun → Bool
is_round key epoch round b =
    same_key b.begun.key key && ((b.begun.epoch == epoch) && (b.begun.round == round))

-- how many items of the epoch were processed before the round began
abbrev pub items_before : World → Key → ℕ → Option RoundBegun → ℕ
items_before w key epoch None = 0
items_before w key epoch (Some b) = length (filter (is_in key epoch) (take b.items_before w.history.items))

abbrev pub kept_at : World → Key → ℕ → Option ℕ → ℕ
kept_at w key epoch None = 0
kept_at w key epoch (Some round) = items_before w key epoch (find (is_round key epoch round) w.history.rounds)

-- the number of an epoch's items before the begin of its greatest committed round
abbrev pub kept : World → Key → ℕ → ℕ
kept w key epoch = kept_at w key epoch (closing w key epoch)

abbrev pub marks_in : List Journaled → List ℕ
marks_in js = map (λ (j : Journaled). j.item.mark) js

abbrev pub kept_marks : World → Key → ℕ → List ℕ
kept_marks w key epoch = take (kept w key epoch) (marks_in (journal w key epoch))

abbrev pub after_marks : Application → World → List ℕ → List ℕ → List ℕ
after_marks app w cells marks = after app cells (packets_at w.history.fed marks)

-- the cells with which epoch 1 + n begins
abbrev pub base : Application → World → Key → ℕ → List ℕ
base app w key zero = zeros app.cell_count
base app w key (suc n) = after_marks app w (base app w key n) (kept_marks w key (suc n))

-- the lines that a snapshot run ends with, one for each committed epoch
pub record EpochLine : Type 0 where
  pub key : Key
  pub epoch : ℕ
  pub kept : ℕ
  pub marks : List ℕ

abbrev pub epoch_lines : World → Key → List EpochLine
epoch_lines w key =
    map (λ e. record { key = key; epoch = e; kept = kept w key e; marks = marks_in (journal w key e) })
    (epochs_of key (committed_book w))

-- the items of an epoch past the kept ones
abbrev pub past_kept : World → Key → ℕ → List Journaled
past_kept w key epoch = drop (kept w key epoch) (journal w key epoch)

abbrev pub dirty_ones : List Journaled → List Journaled
dirty_ones js = filter (λ (j : Journaled). j.item.dirty) js

-- the last of an epoch's dirty items, if there is one
abbrev pub last_dirty : World → Key → ℕ → List Journaled
last_dirty w key epoch = drop (length (dirty_ones (journal w key epoch)) - 1) (dirty_ones (journal w key epoch))

-- the loss of one flow is bounded
pub record BoundedLoss (app : Application) (bound : ℕ) (w : World) (key : Key) (epochs : ℕ) : Type 0 where
  -- the committed cells are those after the last committed epoch's kept items
  pub cells : committed_cells app.cell_count w key ≡ base app w key epochs
  -- each released output of an item is that of one switch, from the epoch's base along the items before it
  pub outputs :
      (e n : ℕ) (j : Journaled) (r : Released) → slice_get (journal w key (suc e)) n ≡ Some j →
      IsAmong w.history.released r → r.output.mark ≡ j.item.mark →
      IsOutputIn app w.history.fed
      (after_marks app w (base app w key e) (take n (marks_in (journal w key (suc e)))))
      r.output
  -- each dirty item past the kept ones is less than the bound before the epoch's last dirty item
  pub recent :
      (e : ℕ) →
      Each (λ (a : Journaled). Each (λ (z : Journaled). z.item.moment < a.item.moment + bound) (last_dirty w key e))
      (dirty_ones (past_kept w key e))
