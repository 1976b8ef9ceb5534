-- What a run's lines say before they are printed, and that printing changes none of it.
use Rattle.std.proofs.Common.{◌≡◌, ℕ, ◌+◌, ◌≤◌, List, [], ◌∷◌, ◌++◌, map, refl, ap, ◌∙◌, false, Bool, arith}
use Rattle.std.specs.Prelude.{◌==◌, ◌||◌, if◌then◌else◌, filter}
use Rattle.std.specs.List.{list_any}
use Rattle.rp_base.specs.declared.event.Event.{Event}
use Rattle.rp_base.specs.declared.legality.Flow.{Flow}
use Rattle.rp_base.specs.declared.legality.Fed.{Fed}
use Rattle.rp_base.specs.declared.legality.Released.{Released}
use Rattle.rp_base.specs.declared.line.Line.{Line as Printed}
use Rattle.proto_data.specs.declared.message.Body.{Body}
use Rattle.proto_data.specs.declared.message.Msg.{Msg}
use Rattle.key_table.specs.Table.{Key, same_key}
use Rattle.proto_model.specs.Lines.{Line, Release, Dropped, LostLine, Refused, Stranger, Send, Serial, Epoch, CellsLine, End, printed_line, printed}
use Rattle.proto_safety.specs.LegalLines.{refuses, is_refused, feed_of, feeds_from, feeds_in, release_in, releases_in, is_release, release_line, cells_behind, flow_at, flows_in}

abbrev pub refusal_said : ℕ → Line → Bool
refusal_said n (Refused event cause) = event == n
refusal_said n _ = false

abbrev pub refused_said : List Line → ℕ → Bool
refused_said lines n = list_any (refusal_said n) lines

abbrev pub feeds_said : List Event → List Line → List Fed
feeds_said events lines = feeds_from (refused_said lines) 1 events

abbrev pub release_said : Line → List Released
release_said (Release event mark port bytes) = record { event = event; output = record { mark = mark; port = port; bytes = bytes } } ∷ []
release_said _ = []

abbrev pub releases_said : List Line → List Released
releases_said [] = []
releases_said (l ∷ ls) = release_said l ++ releases_said ls

abbrev pub cells_said : Key → List Line → List ℕ
cells_said key [] = []
cells_said key (CellsLine k cells ∷ ls) = if same_key k key then cells else []
cells_said key (l ∷ ls) = []

abbrev pub flow_said : Line → List Line → List Flow
flow_said (Serial key marks) behind = record { key = key; marks = marks; cells = cells_said key behind } ∷ []
flow_said _ behind = []

abbrev pub flows_said : List Line → List Flow
flows_said [] = []
flows_said (l ∷ ls) = flow_said l ls ++ flows_said ls

-- tests that agree from a number on give the same feeds
pub feeds_same : (f g : ℕ → Bool) (n : ℕ) (es : List Event) → ((k : ℕ) → n ≤ k → f k ≡ g k) → feeds_from f n es ≡ feeds_from g n es
feeds_same f g n [] h = refl
feeds_same f g n (e ∷ es) h =
    ap (λ b. feed_of b n e ++ feeds_from f (n + 1) es) (h n (omega arith))
    ∙ ap (λ l. feed_of (g n) n e ++ l) (feeds_same f g (n + 1) es (λ k le. h k (omega (arith, le))))

-- the release lines of a report are those of its releases
pub release_lines : (ls : List Printed) → filter is_release ls ≡ map release_line (releases_in ls)
release_lines [] = refl
release_lines (Printed.Release event mark port bytes ∷ ls) = ap (λ l. Printed.Release event mark port bytes ∷ l) (release_lines ls)
release_lines (Printed.Drop event mark cause ∷ ls) = release_lines ls
release_lines (Printed.Lost event cause ∷ ls) = release_lines ls
release_lines (Printed.Refused event cause ∷ ls) = release_lines ls
release_lines (Printed.Stranger event node ∷ ls) = release_lines ls
release_lines (Printed.Send event frame from to kind bytes ∷ ls) = release_lines ls
release_lines (Printed.Serial key marks ∷ ls) = release_lines ls
release_lines (Printed.Epoch key epoch kept marks ∷ ls) = release_lines ls
release_lines (Printed.Cells key cells ∷ ls) = release_lines ls
release_lines (Printed.End ∷ ls) = release_lines ls

module _ (kind : Body → ℕ) (spelled : Msg → List ℕ) where
  same_refusal : (n : ℕ) (l : Line) → refuses n (printed_line kind spelled l) ≡ refusal_said n l
  same_refusal n (Release event mark port bytes) = refl
  same_refusal n (Dropped event mark cause) = refl
  same_refusal n (LostLine event cause) = refl
  same_refusal n (Refused event cause) = refl
  same_refusal n (Stranger event node) = refl
  same_refusal n (Send event frame from to named msg) = refl
  same_refusal n (Serial key marks) = refl
  same_refusal n (Epoch key epoch kept marks) = refl
  same_refusal n (CellsLine key cells) = refl
  same_refusal n End = refl

  same_refused : (ls : List Line) (n : ℕ) → is_refused (printed kind spelled ls) n ≡ refused_said ls n
  same_refused [] n = refl
  same_refused (l ∷ ls) n = ap (λ b. b || is_refused (printed kind spelled ls) n) (same_refusal n l) ∙ ap (λ b. refusal_said n l || b) (same_refused ls n)

  same_release : (l : Line) → release_in (printed_line kind spelled l) ≡ release_said l
  same_release (Release event mark port bytes) = refl
  same_release (Dropped event mark cause) = refl
  same_release (LostLine event cause) = refl
  same_release (Refused event cause) = refl
  same_release (Stranger event node) = refl
  same_release (Send event frame from to named msg) = refl
  same_release (Serial key marks) = refl
  same_release (Epoch key epoch kept marks) = refl
  same_release (CellsLine key cells) = refl
  same_release End = refl

  same_cells : (key : Key) (ls : List Line) → cells_behind key (printed kind spelled ls) ≡ cells_said key ls
  same_cells key [] = refl
  same_cells key (Release event mark port bytes ∷ ls) = refl
  same_cells key (Dropped event mark cause ∷ ls) = refl
  same_cells key (LostLine event cause ∷ ls) = refl
  same_cells key (Refused event cause ∷ ls) = refl
  same_cells key (Stranger event node ∷ ls) = refl
  same_cells key (Send event frame from to named msg ∷ ls) = refl
  same_cells key (Serial k marks ∷ ls) = refl
  same_cells key (Epoch k epoch kept marks ∷ ls) = refl
  same_cells key (CellsLine k cells ∷ ls) = refl
  same_cells key (End ∷ ls) = refl

  same_flow : (l : Line) (ls : List Line) → flow_at (printed_line kind spelled l) (printed kind spelled ls) ≡ flow_said l ls
  same_flow (Release event mark port bytes) ls = refl
  same_flow (Dropped event mark cause) ls = refl
  same_flow (LostLine event cause) ls = refl
  same_flow (Refused event cause) ls = refl
  same_flow (Stranger event node) ls = refl
  same_flow (Send event frame from to named msg) ls = refl
  same_flow (Serial key marks) ls = let f : List ℕ → List Flow = λ cells. record { key = key; marks = marks; cells = cells } ∷ [] in ap f (same_cells key ls)
  same_flow (Epoch key epoch kept marks) ls = refl
  same_flow (CellsLine key cells) ls = refl
  same_flow End ls = refl

  -- feeds, releases and flows of printed lines

  pub printed_feeds : (events : List Event) (ls : List Line) → feeds_in events (printed kind spelled ls) ≡ feeds_said events ls
  printed_feeds events ls = feeds_same (is_refused (printed kind spelled ls)) (refused_said ls) 1 events (λ k le. same_refused ls k)

  pub printed_releases : (ls : List Line) → releases_in (printed kind spelled ls) ≡ releases_said ls
  printed_releases [] = refl
  printed_releases (l ∷ ls) = ap (λ x. x ++ releases_in (printed kind spelled ls)) (same_release l) ∙ ap (λ x. release_said l ++ x) (printed_releases ls)

  pub printed_flows : (ls : List Line) → flows_in (printed kind spelled ls) ≡ flows_said ls
  printed_flows [] = refl
  printed_flows (l ∷ ls) = ap (λ x. x ++ flows_in (printed kind spelled ls)) (same_flow l ls) ∙ ap (λ x. flow_said l ls ++ x) (printed_flows ls)
