-- What the lines of a report say of epochs and cells in snapshot mode, and that these are bounded losses.
use Rattle.std.specs.Prelude.{ℕ, ◌≡◌, ◌≢◌, List, [], ◌∷◌, ◌++◌, Some, None, map, filter, flat_map, take, length, slice_get}
use Rattle.std.specs.List.{range_with_len}
use Rattle.rp_base.specs.declared.event.Event.{Event}
use Rattle.rp_base.specs.declared.legality.Fed.{Fed}
use Rattle.rp_base.specs.declared.legality.Released.{Released}
use Rattle.rp_base.specs.declared.line.Line.{Line}
use Rattle.rp_base.specs.declared.node.Output.{Output}
use Rattle.rp_app.specs.Application.{Application, after, zeros}
use Rattle.key_table.specs.Table.{Key, same_key}
use Rattle.proto_data.specs.declared.message.Record.{Record}
use Rattle.proto_model.specs.Feeds.{Each, Pairwise, key_at, packets_at}
use Rattle.proto_model.specs.Kept.{EpochLine, epoch_lines}
use Rattle.proto_model.specs.Legal.{IsOutputIn, ReleasedBefore}
use Rattle.proto_model.specs.World.{World}
use Rattle.proto_safety.specs.Books.{In}
use Rattle.proto_safety.specs.LegalLines.{feeds_in, releases_in}

-- ---- what lines say

-- the epoch that a line tells, if it tells one
abbrev pub epoch_in : Line → List EpochLine
epoch_in (Line.Epoch key epoch kept marks) = record { key = key; epoch = epoch; kept = kept; marks = marks } ∷ []
epoch_in _ = []

-- the flow's cells that a line tells, if it tells some
abbrev pub cells_in : Line → List (Key × List ℕ)
cells_in (Line.Cells key cells) = (key, cells) ∷ []
cells_in _ = []

-- a flow with its epochs and its committed cells
pub record EpochFlow : Type 0 where
  pub key : Key
  pub epochs : List EpochLine
  pub cells : List ℕ

-- the epochs of one flow among these
abbrev pub own_epochs : List EpochLine → Key → List EpochLine
own_epochs epochs key = filter (λ (e : EpochLine). same_key e.key key) epochs

-- a flow of a cells line, with its epochs among these
abbrev pub flow_with : List EpochLine → Key × List ℕ → EpochFlow
flow_with epochs c = record { key = c.0; epochs = own_epochs epochs c.0; cells = c.1 }

-- the flows of the cells lines, each with the epochs of its epoch lines
abbrev pub epoch_flows : List Line → List EpochFlow
epoch_flows lines = map (flow_with (flat_map epoch_in lines)) (flat_map cells_in lines)

-- a committed flow of a world, with its epochs
abbrev pub committed_epochs : World → Key × Record → EpochFlow
committed_epochs w r = record { key = r.0; epochs = epoch_lines w r.0; cells = r.1.cells }

-- ---- bounded losses

-- the marks of these epochs
abbrev pub marks_told : List EpochLine → List ℕ
marks_told epochs = flat_map (λ (e : EpochLine). e.marks) epochs

-- the marks that these epochs keep
abbrev pub kept_told : List EpochLine → List ℕ
kept_told epochs = flat_map (λ (e : EpochLine). take e.kept e.marks) epochs

-- the cells after these marks, from cells that are all 0
abbrev pub cells_along : Application → List Fed → List ℕ → List ℕ
cells_along app feeds marks = after app (zeros app.cell_count) (packets_at feeds marks)

-- an output of a mark of one of these epochs, that of one switch along what earlier epochs keep and the marks before it
pub record OutputOf (app : Application) (feeds : List Fed) (epochs : List EpochLine) (output : Output) : Type 0 where
  pub before : List EpochLine
  pub epoch : EpochLine
  pub behind : List EpochLine
  pub epochs_are : epochs ≡ before ++ epoch ∷ behind
  pub place : ℕ
  pub mark_is : slice_get epoch.marks place ≡ Some output.mark
  pub output_is : IsOutputIn app feeds (cells_along app feeds (kept_told before ++ take place epoch.marks)) output

-- a released output of this flow is one of a mark of its epochs
abbrev pub FromEpochs : Application → List Fed → List EpochFlow → Released → Type 0
FromEpochs app feeds flows r =
    (key : Key) → key_at app feeds r.output.mark ≡ Some key → (f : EpochFlow) × (In flows f × (f.key ≡ key) × OutputOf app feeds f.epochs r.output)

-- the loss of these flows is bounded, but for how recent the lost updates are, of which no line tells
pub record BoundedFlows (app : Application) (feeds : List Fed) (releases : List Released) (flows : List EpochFlow) : Type 0 where
  -- the epochs of a flow are 1, 2 and so on
  pub epochs_count : Each (λ (f : EpochFlow). map (λ (e : EpochLine). e.epoch) f.epochs ≡ range_with_len 1 (length f.epochs)) flows
  -- each mark was fed, has its flow's key and stands once over all epochs of all flows
  pub fed_with_key : Each (λ (f : EpochFlow). Each (λ m. key_at app feeds m ≡ Some f.key) (marks_told f.epochs)) flows
  pub each_once : Pairwise (λ a b. a ≢ b) (flat_map (λ (f : EpochFlow). marks_told f.epochs) flows)
  -- each released mark with a key stands in an epoch of its flow, with the output of one switch, and each mark is released once
  pub from_epochs : Each (FromEpochs app feeds flows) releases
  pub released_once : Pairwise (λ (a b : Released). a.output.mark ≢ b.output.mark) releases
  -- no mark stands before one that was released before it was fed, nor was one released before it was fed itself
  pub in_order : Each (λ (f : EpochFlow). Pairwise (λ q m. ¬ ReleasedBefore feeds releases m q) (marks_told f.epochs)) flows
  pub none_early : Each (λ (f : EpochFlow). Each (λ m. ¬ ReleasedBefore feeds releases m m) (marks_told f.epochs)) flows
  -- the cells of a flow are those along what its epochs keep
  pub cells_kept : Each (λ (f : EpochFlow). f.cells ≡ cells_along app feeds (kept_told f.epochs)) flows
  -- a released mark without a key was fed, and its output is that of one switch
  pub released_without_key : Each (λ (r : Released). key_at app feeds r.output.mark ≡ None → IsOutputIn app feeds (zeros app.cell_count) r.output) releases

-- the lines of a report lose boundedly, over the events that it is of
abbrev pub BoundedLines : Application → List Event → List Line → Type 0
BoundedLines app events lines = BoundedFlows app (feeds_in events lines) (releases_in lines) (epoch_flows lines)
