-- What a report's lines say of feeds, releases and flows, and the rules of legality one by one.
use Rattle.std.specs.Prelude.{ℕ, ◌+◌, ◌≡◌, ◌≢◌, Bool, true, false, ◌==◌, List, [], ◌∷◌, ◌++◌, Option, Some, None, if◌then◌else◌, take, slice_get, option_map}
use Rattle.std.specs.List.{list_any}
use Rattle.rp_base.specs.declared.event.Event.{Event}
use Rattle.rp_app.specs.Application.{Application, zeros}
use Rattle.key_table.specs.Table.{Key, same_key}
use Rattle.proto_data.specs.declared.message.Msg.{Msg}
use Rattle.rp_base.specs.declared.line.Line.{Line}
use Rattle.proto_model.specs.World.{World, Setup}
use Rattle.rp_base.specs.declared.legality.Fed.{Fed}
use Rattle.rp_base.specs.declared.legality.Released.{Released}
use Rattle.proto_model.specs.Feeds.{Each, Pairwise, key_at}
use Rattle.rp_base.specs.declared.legality.Flow.{Flow}
use Rattle.proto_model.specs.Legal.{Legal, IsOutputIn, StandsIn, ReleasedBefore, marks_of, all_marks, marks_before, folded}
use Rattle.proto_model.specs.EndLines.{reported}
use Rattle.proto_model.specs.Pumping.{Received, linked_run}
use Rattle.proto_model.specs.WorldStep.{Act, act_of, next_event}
use Rattle.proto_model.specs.Lines.{Line as WorldLine}

-- ---- what lines say

-- whether a line refuses this event
abbrev pub refuses : ℕ → Line → Bool
refuses n (Line.Refused event cause) = event == n
refuses n _ = false

abbrev pub is_refused : List Line → ℕ → Bool
is_refused lines n = list_any (refuses n) lines

-- the packet of an event, unless the event is refused
abbrev pub fed_unless : Bool → ℕ → ℕ → List ℕ → List Fed
fed_unless refused n port bytes =
    if refused then [] else record { event = n; packet = record { mark = n; port = port; bytes = bytes } } ∷ []

-- what an event with this number feeds
abbrev pub feed_of : Bool → ℕ → Event → List Fed
feed_of refused n (Event.Feed port bytes) = fed_unless refused n port bytes
feed_of refused n (Event.FeedAt switch port bytes) = fed_unless refused n port bytes
feed_of refused n _ = []

-- what events feed, the first of them having this number
abbrev pub feeds_from : (ℕ → Bool) → ℕ → List Event → List Fed
feeds_from refused n [] = []
feeds_from refused n (e ∷ es) = feed_of (refused n) n e ++ feeds_from refused (n + 1) es

-- the packets of the `feed` and `feedat` events that no line refuses, each with the number of its event
abbrev pub feeds_in : List Event → List Line → List Fed
feeds_in events lines = feeds_from (is_refused lines) 1 events

abbrev pub release_in : Line → List Released
release_in (Line.Release event mark port bytes) = record { event = event; output = record { mark = mark; port = port; bytes = bytes } } ∷ []
release_in _ = []

-- the outputs of the release lines, each with the number of its event
abbrev pub releases_in : List Line → List Released
releases_in [] = []
releases_in (l ∷ ls) = release_in l ++ releases_in ls

abbrev pub is_release : Line → Bool
is_release (Line.Release event mark port bytes) = true
is_release _ = false

-- the line of a release
abbrev pub release_line : Released → Line
release_line r = Line.Release r.event r.output.mark r.output.port r.output.bytes

-- the cells of the line behind a serial line; only a cells line of the same flow has them
abbrev pub cells_behind : Key → List Line → List ℕ
cells_behind key [] = []
cells_behind key (Line.Cells k cells ∷ ls) = if same_key k key then cells else []
cells_behind key (l ∷ ls) = []

abbrev pub flow_at : Line → List Line → List Flow
flow_at (Line.Serial key marks) behind = record { key = key; marks = marks; cells = cells_behind key behind } ∷ []
flow_at _ behind = []

-- the flows of the serial lines, each with its marks and its cells
abbrev pub flows_in : List Line → List Flow
flows_in [] = []
flows_in (l ∷ ls) = flow_at l ls ++ flows_in ls

-- ---- the rules one by one

-- rule 1: each mark of a list was fed, has the list's key and stands once over all lists
pub record ListsAreFed (app : Application) (feeds : List Fed) (flows : List Flow) : Type 0 where
  pub fed_with_key : Each (λ (f : Flow). Each (λ m. key_at app feeds m ≡ Some f.key) f.marks) flows
  pub each_once : Pairwise (λ a b. a ≢ b) (all_marks flows)

-- rule 2: a released mark with a key stands in that key's list, its output is that of one switch after the marks before it, and it is released once
pub record KeyedAreListed (app : Application) (feeds : List Fed) (releases : List Released) (flows : List Flow) : Type 0 where
  pub from_list :
      Each (λ (r : Released).
      (key : Key) → key_at app feeds r.output.mark ≡ Some key →
      StandsIn (marks_of flows key) r.output.mark
      × IsOutputIn app feeds (folded app feeds (marks_before (marks_of flows key) r.output.mark)) r.output)
      releases
  pub once : Pairwise (λ (a b : Released). key_at app feeds a.output.mark ≢ None → a.output.mark ≢ b.output.mark) releases

-- rule 3: in no list a mark stands before one that was released before it was fed, and none was released before it was fed itself
pub record ListsAreInOrder (feeds : List Fed) (releases : List Released) (flows : List Flow) : Type 0 where
  pub in_order : Each (λ (f : Flow). Pairwise (λ q m. ¬ ReleasedBefore feeds releases m q) f.marks) flows
  pub none_early : Each (λ (f : Flow). Each (λ m. ¬ ReleasedBefore feeds releases m m) f.marks) flows

-- rule 4: the cells of each flow are those after its list
abbrev pub CellsAreFolded : Application → List Fed → List Flow → Type 0
CellsAreFolded app feeds flows = Each (λ (f : Flow). f.cells ≡ folded app feeds f.marks) flows

-- rule 5: a released mark without a key was fed, its output is that of one switch, and it is released once
pub record KeylessAreFed (app : Application) (feeds : List Fed) (releases : List Released) : Type 0 where
  pub from_feed :
      Each (λ (r : Released).
      key_at app feeds r.output.mark ≡ None → IsOutputIn app feeds (zeros app.cell_count) r.output)
      releases
  pub once : Pairwise (λ (a b : Released). key_at app feeds a.output.mark ≡ None → a.output.mark ≢ b.output.mark) releases

-- all of them
pub record AllRules (app : Application) (feeds : List Fed) (releases : List Released) (flows : List Flow) : Type 0 where
  pub lists : ListsAreFed app feeds flows
  pub keyed : KeyedAreListed app feeds releases flows
  pub order : ListsAreInOrder feeds releases flows
  pub cells : CellsAreFolded app feeds flows
  pub keyless : KeylessAreFed app feeds releases

-- the least rule that fails has this number
pub data LeastFailing (app : Application) (feeds : List Fed) (releases : List Released) (flows : List Flow) : ℕ → Type 0 where
  lists_fail : ¬ ListsAreFed app feeds flows → LeastFailing app feeds releases flows 1
  keyed_fail : ListsAreFed app feeds flows → ¬ KeyedAreListed app feeds releases flows → LeastFailing app feeds releases flows 2
  order_fails : ListsAreFed app feeds flows → KeyedAreListed app feeds releases flows → ¬ ListsAreInOrder feeds releases flows → LeastFailing app feeds releases flows 3
  cells_fail :
      ListsAreFed app feeds flows → KeyedAreListed app feeds releases flows → ListsAreInOrder feeds releases flows → ¬ CellsAreFolded app feeds flows →
      LeastFailing app feeds releases flows 4
  keyless_fail :
      ListsAreFed app feeds flows → KeyedAreListed app feeds releases flows → ListsAreInOrder feeds releases flows → CellsAreFolded app feeds flows → ¬ KeylessAreFed app feeds releases →
      LeastFailing app feeds releases flows 5

-- what an audit answers: nothing where the rules are met, else the least that fails
abbrev pub IsVerdict : Application → List Fed → List Released → List Flow → Option ℕ → Type 0
IsVerdict app feeds releases flows None = Legal app feeds releases flows
IsVerdict app feeds releases flows (Some n) = LeastFailing app feeds releases flows n

-- a report's lines are legal, over the events that it is of
abbrev pub LegalLines : Application → List Event → List Line → Type 0
LegalLines app events lines = Legal app (feeds_in events lines) (releases_in lines) (flows_in lines)

-- what an audit of a report's lines answers
abbrev pub IsAuditOf : Application → List Event → List Line → Option ℕ → Type 0
IsAuditOf app events lines answer = IsVerdict app (feeds_in events lines) (releases_in lines) (flows_in lines) answer

-- the report of a run over a link that gave these answers
abbrev pub linked_report : (Msg → List ℕ) → Bool → Application → Setup → List Event → List Received → List WorldLine
linked_report spelled frames app setup events received =
    reported frames app.cell_count ((linked_run spelled app setup events received).world, (linked_run spelled app setup events received).lines)

-- the world of a run over a link before the event at this place, the event counted
abbrev pub linked_before : (Msg → List ℕ) → Application → Setup → List Event → List Received → ℕ → World
linked_before spelled app setup events received i = next_event (linked_run spelled app setup (take i events) received).world

-- what the event at this place comes to there
abbrev pub linked_act : (Msg → List ℕ) → Application → Setup → List Event → List Received → ℕ → Option Act
linked_act spelled app setup events received i = option_map (λ e. act_of app (linked_before spelled app setup events received i) e) (slice_get events i)
