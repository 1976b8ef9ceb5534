-- The text of a report, as far as it is still to be written.
use Rattle.std.proofs.Common.{◌≡◌, ℕ, ◌+◌, ◌<◌, ◌≤◌, suc, Bool, true, false, List, [], ◌∷◌, ◌++◌, length, get_or, drop, refl, sym, ap, ◌∙◌, append_assoc, add-one, All, if◌then◌else◌, arith}
use Rattle.std.specs.List.{AllByRecursion}
use Rattle.std.proofs.Math.Seq.{drop-cons}
use Rattle.std.proofs.lemmas.List.{drop_all, map-append}
use Rattle.std.proofs.lemmas.Grind.{flat_map-append}
use Rattle.std.proofs.lemmas.List.Elements.{All-from_recursion}
use Rattle.rp_base.specs.declared.event.Event.{Event}
use Rattle.rp_base.specs.declared.line.Line.{Line as Shown}
use Rattle.rp_app.specs.Application.{Application}
use Rattle.proto_data.specs.declared.message.Body.{Body}
use Rattle.proto_model.specs.Lines.{Line, Release, Dropped, LostLine, Refused, Stranger, Send, Serial, Epoch, CellsLine, End, without_sends}
use Rattle.proto_model.specs.World.{World, Setup, opened}
use Rattle.proto_model.specs.WorldStep.{world_step, run_on}
use Rattle.proto_model.specs.EndLines.{end_lines}
use Rattle.rp_frame.specs.Spelling.{kind}
use Rattle.run_history.specs.Shown.{line_of, shown, stepped}
use Rattle.run_report.specs.Report.{NamesKind}
use Rattle.run_text.specs.Texts.{line_written, lines_written, report_text, running_text, running_texts}

-- the text of the lines from this place on
pub running_texts-drop : (frames : Bool) (lines : List Shown) (i : ℕ) (l : Shown) → i < length lines → l ≡ get_or lines i l → running_texts frames (drop i lines) ≡ running_text frames l ++ running_texts frames (drop (i + 1) lines)
running_texts-drop frames lines i l within e =
    let cut : drop i lines ≡ l ∷ drop (i + 1) lines = rw add-one (drop-cons lines i l within ∙ ap (λ x. x ∷ drop (suc i) lines) (sym e)) in
    ap (running_texts frames) cut

-- what is written of a run's lines is the text of those that its report has
written : (frames : Bool) (ls : List Line) → lines_written (shown (if frames then ls else without_sends ls)) ≡ running_texts frames (shown ls)
written true ls = refl
written false [] = refl
written false (Send event frame from to named m ∷ ls) = written false ls
written false (Release event mark port bytes ∷ ls) = ap (λ text. line_written (line_of (Release event mark port bytes)) ++ text) (written false ls)
written false (Dropped event mark cause ∷ ls) = ap (λ text. line_written (line_of (Dropped event mark cause)) ++ text) (written false ls)
written false (LostLine event cause ∷ ls) = ap (λ text. line_written (line_of (LostLine event cause)) ++ text) (written false ls)
written false (Refused event cause ∷ ls) = ap (λ text. line_written (line_of (Refused event cause)) ++ text) (written false ls)
written false (Stranger event node ∷ ls) = ap (λ text. line_written (line_of (Stranger event node)) ++ text) (written false ls)
written false (Serial key marks ∷ ls) = ap (λ text. line_written (line_of (Serial key marks)) ++ text) (written false ls)
written false (Epoch key epoch kept marks ∷ ls) = ap (λ text. line_written (line_of (Epoch key epoch kept marks)) ++ text) (written false ls)
written false (CellsLine key cells ∷ ls) = ap (λ text. line_written (line_of (CellsLine key cells)) ++ text) (written false ls)
written false (End ∷ ls) = ap (λ text. line_written (line_of End) ++ text) (written false ls)

-- the byte of a message's kind is one of a frame's kinds
of_kind : (body : Body) → (1 ≤ kind body) × (kind body ≤ 11)
of_kind (Body.Ask inc nonce key load) = (omega arith, omega arith)
of_kind (Body.Grant inc nonce epoch key cells load) = (omega arith, omega arith)
of_kind (Body.Busy inc nonce key mark) = (omega arith, omega arith)
of_kind (Body.Put inc epoch number key delta load) = (omega arith, omega arith)
of_kind (Body.Ack inc epoch upto key load) = (omega arith, omega arith)
of_kind (Body.Deny inc epoch key) = (omega arith, omega arith)
of_kind (Body.Forward config index entry load) = (omega arith, omega arith)
of_kind (Body.Have index) = (omega arith, omega arith)
of_kind (Body.Echo of load) = (omega arith, omega arith)
of_kind (Body.Config config) = (omega arith, omega arith)
of_kind (Body.Snap inc epoch round key chunk chunks cells) = (omega arith, omega arith)

-- the kind that a shown line names is one that a frame can have
named : (ls : List Line) → AllByRecursion NamesKind (shown ls)
named [] = tt
named (Send event frame from to kind m ∷ ls) = (of_kind m.body, named ls)
named (l ∷ ls) = (tt, named ls)

pub shown-names : (ls : List Line) → All NamesKind (shown ls)
shown-names ls = All-from_recursion NamesKind (shown ls) (named ls)

-- what a report still has to say: the lines of the events to come, and the end lines
abbrev pub rest_text : Bool → Application → World → List Event → List ℕ
rest_text frames app w events = running_texts frames (shown (run_on app w events).1) ++ lines_written (shown (end_lines app.cell_count (run_on app w events).0))

pub report_text-is : (frames : Bool) (app : Application) (setup : Setup) (events : List Event) → report_text frames app setup events ≡ rest_text frames app (opened app.cell_count setup) events
report_text-is frames app setup events =
    let ran = run_on app (opened app.cell_count setup) events in
    let lines = if frames then ran.1 else without_sends ran.1 in
    let ends = end_lines app.cell_count ran.0 in
    ap lines_written (map-append line_of lines ends)
    ∙ flat_map-append line_written (shown lines) (shown ends)
    ∙ ap (λ text. text ++ lines_written (shown ends)) (written frames ran.1)

pub rest_text-cons : (frames : Bool) (app : Application) (w : World) (e : Event) (es : List Event) → rest_text frames app w (e ∷ es) ≡ running_texts frames (shown (world_step app w e).1) ++ rest_text frames app (world_step app w e).0 es
rest_text-cons frames app w e es =
    let here = (world_step app w e).1 in
    let later = (run_on app (world_step app w e).0 es).1 in
    let ends = lines_written (shown (end_lines app.cell_count (run_on app (world_step app w e).0 es).0)) in
    ap (λ text. text ++ ends) (ap (running_texts frames) (map-append line_of here later) ∙ flat_map-append (running_text frames) (shown here) (shown later))
    ∙ append_assoc (running_texts frames (shown here)) (running_texts frames (shown later)) ends

-- an event whose lines are written is done
pub rest_text-on : (frames : Bool) (app : Application) (w new : World) (events : List Event) (i : ℕ) (e : Event) (lines : List Shown) → i < length events → e ≡ get_or events i e → (new, lines) ≡ stepped app w e → rest_text frames app w (drop i events) ≡ running_texts frames lines ++ rest_text frames app new (drop (i + 1) events)
rest_text-on frames app w new events i e lines within item on =
    let cut : drop i events ≡ e ∷ drop (i + 1) events = rw add-one (drop-cons events i e within ∙ ap (λ x. x ∷ drop (suc i) events) (sym item)) in
    let left : World × List Shown → List ℕ = λ p. running_texts frames p.1 ++ rest_text frames app p.0 (drop (i + 1) events) in
    ap (rest_text frames app w) cut ∙ rest_text-cons frames app w e (drop (i + 1) events) ∙ ap left (sym on)

-- behind the last event the end lines are left
pub rest_text-end : (frames : Bool) (app : Application) (w : World) (events : List Event) (i : ℕ) → length events ≤ i → rest_text frames app w (drop i events) ≡ lines_written (shown (end_lines app.cell_count w))
rest_text-end frames app w events i past = let none : drop i events ≡ [] = drop_all i events past in ap (rest_text frames app w) none
