-- The lines at the end of a world, by its last running replica.
use Rattle.std.proofs.Common.{◌≡◌, ◌∙◌, ℕ, List, [], ◌∷◌, ◌++◌, Some, None, Result, Ok, Err, IfOk, sym, ap}
use Rattle.std.specs.Prelude.{flat_map}
use Rattle.rp_base.specs.declared.error.NoMemory.{NoMemory}
use Rattle.rp_base.specs.declared.line.Line.{Line as Shown}
use Rattle.rp_app.specs.Application.{Application}
use Rattle.proto_data.specs.declared.terms.Mode.{Mode}
use Rattle.proto_data.specs.declared.terms.Terms.{Terms}
use Rattle.proto_model.specs.EndLines.{end_lines, flow_lines}
use Rattle.proto_model.specs.Lines.{End}
use Rattle.proto_model.specs.Records.{Booked, Records, records_of}
use Rattle.proto_model.specs.World.{World, Setup, Journaled, RoundBegun}
use Rattle.run_ending.specs.Endings.{IsEnd}
use Rattle.run_history.specs.Shown.{shown}
use Rattle.world_state.specs.declared.nodes.ReplicaNode.{ReplicaNode as ReplicaSeat}
use Rattle.world_state.specs.declared.state.WorldState.{WorldState}
use Rattle.world_state.specs.Nodes.{last_running}
use Rattle.world_state.specs.WorldStates.{world_of}
use Rattle.world_state.proofs.LastRunning.{none_committed, book_committed, records_committed}
use Rattle.rp_world.specs.Begun.{IsGoing}

-- where nothing is committed there is the end alone
nothing_ends : (s : WorldState) (cells : ℕ) → last_running None s.replicas ≡ None → Shown.End ∷ [] ≡ shown (end_lines cells (world_of s))
nothing_ends s cells none =
    let lines : List Booked → List Shown = λ book. shown (flat_map (flow_lines (world_of s)) (records_of cells book) ++ End ∷ []) in
    sym (ap lines (none_committed s none))

-- what is committed, as the lines at the end want it
ends_so : (app : Application) (setup : Setup) (s : WorldState) → IsGoing app setup s → (r : ReplicaSeat) → last_running None s.replicas ≡ Some r → (mode : Mode) → setup.terms.mode ≡ mode →
    (records : Records) (book : List Booked) (items : List Journaled) (rounds : List RoundBegun) → records ≡ r.state.replica.records → book ≡ r.book → items ≡ s.history.items → rounds ≡ s.history.rounds →
    IsEnd app.cell_count (world_of s) mode records book items rounds
ends_so app setup s going r last mode mode_is records book items rounds records_are book_is items_are rounds_are =
    record {
      mode = ap (λ (t : Terms). t.mode) going.from.terms ∙ mode_is;
      records = records_are ∙ records_committed s app going.run r last;
      book = book_committed s r last ∙ sym book_is;
      items = sym items_are;
      rounds = sym rounds_are;
    }

-- the end alone is right where no replica runs
pub closed_alone : (s : WorldState) (mode : Mode) → last_running None s.replicas ≡ None → (result : Result (List Shown) NoMemory) → IfOk result (λ lines. lines ≡ Shown.End ∷ []) →
    IfOk result (λ lines. (app : Application) (setup : Setup) → IsGoing app setup s → setup.terms.mode ≡ mode → lines ≡ shown (end_lines app.cell_count (world_of s)))
closed_alone s mode none (Ok lines) is = λ app setup going same. is ∙ nothing_ends s app.cell_count none
closed_alone s mode none (Err x) is = tt

-- lines that are right for such an end are those of the world
pub closed_so : (app : Application) (setup : Setup) (s : WorldState) → IsGoing app setup s → (r : ReplicaSeat) → last_running None s.replicas ≡ Some r → (mode : Mode) → setup.terms.mode ≡ mode →
    (records : Records) (book : List Booked) (items : List Journaled) (rounds : List RoundBegun) → records ≡ r.state.replica.records → book ≡ r.book → items ≡ s.history.items → rounds ≡ s.history.rounds → (lines : List Shown) →
    ((cells : ℕ) (w : World) → IsEnd cells w mode records book items rounds → lines ≡ shown (end_lines cells w)) → lines ≡ shown (end_lines app.cell_count (world_of s))
closed_so app setup s going r last mode mode_is records book items rounds records_are book_is items_are rounds_are lines right =
    right app.cell_count (world_of s) (ends_so app setup s going r last mode mode_is records book items rounds records_are book_is items_are rounds_are)
