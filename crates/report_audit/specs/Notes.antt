-- What is noted of the marks of serial lists, and the rules in words of these notes.
use Rattle.std.specs.Prelude.{ℕ, ◌≡◌, ◌≢◌, ◌≤◌, List, [], ◌∷◌, Option, Some, None, max, nat_eq, option_and_then, flat_map}
use Rattle.std.specs.Map.{lookup}
use Rattle.indexmap.specs.IndexMap.{insert_all}
use Rattle.rp_base.specs.declared.legality.Fed.{Fed}
use Rattle.rp_base.specs.declared.legality.Flow.{Flow}
use Rattle.rp_base.specs.declared.legality.Released.{Released}
use Rattle.rp_base.specs.declared.node.Output.{Output}
use Rattle.rp_app.specs.Application.{Application, zeros}
use Rattle.proto_model.specs.Feeds.{Each, Pairwise, packet_at, key_at}
use Rattle.report_audit.specs.declared.notes.Note.{Note}
use Rattle.report_audit.specs.Rising.{processed}

-- what is noted of marks, each with its note
abbrev pub Noted : Type 0
Noted = List (ℕ × Note)

-- the notes of a list's marks behind others, after which the cells are these and the greatest mark is this
abbrev pub notes_from : Application → List Fed → List ℕ → ℕ → List ℕ → Noted
notes_from app feeds cells g [] = []
notes_from app feeds cells g (m ∷ ms) =
    (m, record { greatest = max g m; output = (processed app cells (packet_at feeds m)).1 })
    ∷ notes_from app feeds (processed app cells (packet_at feeds m)).0 (max g m) ms

-- the notes of a list
abbrev pub notes_of : Application → List Fed → List ℕ → Noted
notes_of app feeds marks = notes_from app feeds (zeros app.cell_count) 0 marks

-- the notes of all lists
abbrev pub notes_along : Application → List Fed → List Flow → Noted
notes_along app feeds flows = flat_map (λ (f : Flow). notes_of app feeds f.marks) flows

-- the notes after more of them; a mark keeps its latest note
abbrev pub all_noted : Noted → Noted → Noted
all_noted notes more = insert_all nat_eq notes more

-- the note of a mark, if there is one
abbrev pub note_at : Noted → ℕ → Option Note
note_at notes m = lookup (nat_eq m) notes

-- the output that is noted of a mark
abbrev pub noted_output : Noted → ℕ → Option Output
noted_output notes m = option_and_then (λ (n : Note). n.output) (note_at notes m)

-- a release of a mark with a key has the noted output
abbrev pub AsNoted : Application → List Fed → Noted → Released → Type 0
AsNoted app feeds notes r = key_at app feeds r.output.mark ≢ None → noted_output notes r.output.mark ≡ Some r.output

-- a release comes no earlier than the greatest mark that is noted of its own
abbrev pub InTime : Noted → Released → Type 0
InTime notes r = (n : Note) → note_at notes r.output.mark ≡ Some n → n.greatest ≤ r.event

-- releases of marks with a key have the noted outputs, and none of these marks is released twice
pub record KeyedAreNoted (app : Application) (feeds : List Fed) (notes : Noted) (releases : List Released) : Type 0 where
  pub as_noted : Each (AsNoted app feeds notes) releases
  pub once : Pairwise (λ (a b : Released). key_at app feeds a.output.mark ≢ None → a.output.mark ≢ b.output.mark) releases
