-- The whole of what a snapshot run may lose and show.
use Rattle.std.specs.Prelude.{ℕ, ◌≡◌, ◌≢◌, ◌<◌, ◌⊎◌, Some, None, slice_get}
use Rattle.proto_data.specs.declared.message.Record.{Record}
use Rattle.key_table.specs.Table.{Key}
use Rattle.rp_app.specs.Application.{Application, zeros}
use Rattle.proto_model.specs.World.{World, Journaled}
use Rattle.rp_base.specs.declared.legality.Released.{Released}
use Rattle.proto_model.specs.Feeds.{key_at, Each, Pairwise}
use Rattle.proto_model.specs.Legal.{IsOutputIn, ReleasedBefore}
use Rattle.proto_model.specs.Committed.{journal, committed_records}
use Rattle.proto_model.specs.Kept.{BoundedLoss}

-- j is the flow's item of this epoch at this position
abbrev pub ItemAt : World → Key → ℕ → ℕ → Journaled → Type 0
ItemAt w key epoch place j = slice_get (journal w key epoch) place ≡ Some j

-- each mark of a flow was fed and has its key, and stands once over all epochs
pub record MarksOnce (app : Application) (w : World) (key : Key) : Type 0 where
  pub fed_with_key : (e n : ℕ) (j : Journaled) → ItemAt w key e n j → key_at app w.history.fed j.item.mark ≡ Some key
  pub once :
      (e f n m : ℕ) (a b : Journaled) → ItemAt w key e n a → ItemAt w key f m b → a.item.mark ≡ b.item.mark →
      (e ≡ f) × (n ≡ m)

-- an item that was released before another one was fed has the smaller epoch, or the same one and the smaller position
abbrev pub InOrder : World → Key → Type 0
InOrder w key =
    (e f n m : ℕ) (a b : Journaled) → ItemAt w key e n a → ItemAt w key f m b →
    ReleasedBefore w.history.fed w.history.released a.item.mark b.item.mark →
    (e < f) ⊎ ((e ≡ f) × (n < m))

-- a released mark without a key was fed, is released once, and its output is that of one switch
pub record KeylessReleased (app : Application) (w : World) : Type 0 where
  pub once :
      Pairwise (λ (a b : Released).
      key_at app w.history.fed a.output.mark ≡ None → a.output.mark ≢ b.output.mark)
      w.history.released
  pub outputs :
      Each (λ (r : Released).
      key_at app w.history.fed r.output.mark ≡ None → IsOutputIn app w.history.fed (zeros app.cell_count) r.output)
      w.history.released

-- the history of a snapshot run is that of one switch but for a bounded loss
pub record IsBounded (app : Application) (bound : ℕ) (w : World) : Type 0 where
  pub flows : Each (λ (f : Key × Record). BoundedLoss app bound w f.0 f.1.epoch) (committed_records app.cell_count w)
  pub marks : (key : Key) → MarksOnce app w key
  pub order : (key : Key) → InOrder w key
  pub keyless : KeylessReleased app w
