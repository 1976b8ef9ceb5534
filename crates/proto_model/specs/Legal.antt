-- What a strict run may show: outputs of one switch along each flow's serial list. The lists may be those of a history or of a report.
use Rattle.std.specs.Prelude.{ℕ, ◌≡◌, ◌≢◌, ◌<◌, ◌==◌, not, List, [], ◌∷◌, ◌++◌, Some, None, flat_map, take_while, find, option_map, unwrap_or}
use Rattle.std.specs.List.{IsAmong}
use Rattle.rp_base.specs.declared.node.Output.{Output}
use Rattle.rp_base.specs.declared.node.Packet.{Packet}
use Rattle.key_table.specs.Table.{Key, same_key}
use Rattle.rp_app.specs.Application.{Application, after, zeros}
use Rattle.proto_model.specs.World.{World}
use Rattle.rp_base.specs.declared.legality.Fed.{Fed}
use Rattle.rp_base.specs.declared.legality.Released.{Released}
use Rattle.proto_model.specs.Feeds.{fed_at, packet_at, key_at, packets_at, Each, Pairwise}
use Rattle.proto_model.specs.Committed.{committed_flows}
use Rattle.rp_base.specs.declared.legality.Flow.{Flow}

-- the serial list of a key; a key without one has the empty list
abbrev pub marks_of : List Flow → Key → List ℕ
marks_of flows key = unwrap_or (option_map (λ (f : Flow). f.marks) (find (λ (f : Flow). same_key f.key key) flows)) []

abbrev pub all_marks : List Flow → List ℕ
all_marks flows = flat_map (λ (f : Flow). f.marks) flows

-- the cells after these marks, from cells that are all 0
abbrev pub folded : Application → List Fed → List ℕ → List ℕ
folded app fed marks = after app (zeros app.cell_count) (packets_at fed marks)

-- the marks before this one
abbrev pub marks_before : List ℕ → ℕ → List ℕ
marks_before marks m = take_while (λ n. not (n == m)) marks

-- the output is what one switch makes of the packet with its mark, in these cells
abbrev pub IsOutputIn : Application → List Fed → List ℕ → Output → Type 0
IsOutputIn app fed cells out =
    (p : Packet) × (packet_at fed out.mark ≡ Some p) × ((app.plain cells p).1 ≡ Some out)

-- m stands in the list
abbrev pub StandsIn : List ℕ → ℕ → Type 0
StandsIn marks m = (before : List ℕ) × ((behind : List ℕ) × (before ++ m ∷ behind ≡ marks))

-- m was released before q was fed
abbrev pub ReleasedBefore : List Fed → List Released → ℕ → ℕ → Type 0
ReleasedBefore fed released m q =
    (r : Released) × (f : Fed) × IsAmong released r × (fed_at fed q ≡ Some f) × (r.output.mark ≡ m) × (r.event < f.event)

pub record Legal (app : Application) (fed : List Fed) (released : List Released) (flows : List Flow) : Type 0 where
  -- each mark of a serial list was fed and has that list's key
  pub fed_with_key : Each (λ (f : Flow). Each (λ m. key_at app fed m ≡ Some f.key) f.marks) flows
  -- and stands once over all lists
  pub each_once : Pairwise (λ a b. a ≢ b) (all_marks flows)
  -- a released mark with a key stands in that key's list, and its output is that of one switch after the marks before it
  pub released_from_list :
      Each (λ (r : Released).
      (key : Key) → key_at app fed r.output.mark ≡ Some key →
      StandsIn (marks_of flows key) r.output.mark
      × IsOutputIn app fed (folded app fed (marks_before (marks_of flows key) r.output.mark)) r.output)
      released
  -- each mark is released once
  pub released_once : Pairwise (λ (a b : Released). a.output.mark ≢ b.output.mark) released
  -- in no list a mark stands before one that was released before it was fed
  pub in_order : Each (λ (f : Flow). Pairwise (λ q m. ¬ ReleasedBefore fed released m q) f.marks) flows
  -- nor was one of them released before it was fed itself
  pub none_early : Each (λ (f : Flow). Each (λ m. ¬ ReleasedBefore fed released m m) f.marks) flows
  -- the cells are the fold of the list
  pub cells_folded : Each (λ (f : Flow). f.cells ≡ folded app fed f.marks) flows
  -- a released mark without a key was fed, and its output is that of one switch
  pub released_without_key :
      Each (λ (r : Released).
      key_at app fed r.output.mark ≡ None → IsOutputIn app fed (zeros app.cell_count) r.output)
      released

-- the history of a run is legal
abbrev pub IsLegal : Application → World → Type 0
IsLegal app w = Legal app w.history.fed w.history.released (committed_flows app.cell_count w)
