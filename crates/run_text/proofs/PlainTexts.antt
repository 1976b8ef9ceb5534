-- The text of the report of one switch that never fails, as far as it is still to be written.
use Rattle.std.proofs.Common.{◌≡◌, ℕ, ◌+◌, ◌<◌, ◌≤◌, suc, true, List, [], ◌∷◌, ◌++◌, length, get_or, drop, refl, sym, ap, ◌∙◌, add-one, All, Option, Some, None}
use Rattle.std.specs.Prelude.{flat_map}
use Rattle.std.specs.List.{AllByRecursion}
use Rattle.std.proofs.Math.Seq.{drop-cons}
use Rattle.std.proofs.lemmas.List.{drop_all}
use Rattle.std.proofs.lemmas.Grind.{flat_map-append}
use Rattle.std.proofs.lemmas.List.Elements.{All-from_recursion}
use Rattle.rp_base.specs.declared.event.Event.{Event}
use Rattle.rp_base.specs.declared.line.Line.{Line}
use Rattle.rp_base.specs.declared.node.Output.{Output}
use Rattle.rp_base.specs.declared.node.Packet.{Packet}
use Rattle.rp_app.specs.Application.{Application}
use Rattle.key_table.specs.Table.{Key, Table}
use Rattle.plain_run.specs.Plain.{PlainFlow, PlainSwitch, end_lines, fed, flow_lines, plain_lines, plain_step, released, taken, takes}
use Rattle.run_report.specs.Report.{NamesKind}
use Rattle.run_text.specs.Texts.{line_written, lines_written, running_texts}

-- what a report still has to say: the lines of the events to come, and the end lines
abbrev pub rest_text : Application → PlainSwitch → List Event → List ℕ
rest_text app s events = lines_written (plain_lines app s events)

-- an event whose lines are written is done
pub rest_text-on : (app : Application) (s new : PlainSwitch) (events : List Event) (i : ℕ) (e : Event) (lines : List Line) → i < length events → e ≡ get_or events i e → (new, lines) ≡ plain_step app s e →
    rest_text app s (drop i events) ≡ running_texts true lines ++ rest_text app new (drop (i + 1) events)
rest_text-on app s new events i e lines within item on =
    let cut : drop i events ≡ e ∷ drop (i + 1) events = rw add-one (drop-cons events i e within ∙ ap (λ x. x ∷ drop (suc i) events) (sym item)) in
    let left : PlainSwitch × List Line → List ℕ = λ p. running_texts true p.1 ++ rest_text app p.0 (drop (i + 1) events) in
    ap (rest_text app s) cut
    ∙ flat_map-append line_written (plain_step app s e).1 (plain_lines app (plain_step app s e).0 (drop (i + 1) events))
    ∙ ap left (sym on)

-- behind the last event the end lines are left
pub rest_text-end : (app : Application) (s : PlainSwitch) (events : List Event) (i : ℕ) → length events ≤ i → rest_text app s (drop i events) ≡ lines_written (end_lines s)
rest_text-end app s events i past = let none : drop i events ≡ [] = drop_all i events past in ap (rest_text app s) none

-- ---- no line is that of a frame

released_names : (event : ℕ) (o : Option Output) → AllByRecursion NamesKind (released event o)
released_names event None = tt
released_names event (Some o) = (tt, tt)

taken_names : (app : Application) (s : PlainSwitch) (p : Packet) (k : Option Key) → AllByRecursion NamesKind (taken app s p k).1
taken_names app s p None = released_names s.event _
taken_names app s p (Some key) = released_names s.event _

takes_names : (app : Application) (s : PlainSwitch) (o : Option Packet) → AllByRecursion NamesKind (takes app s o).1
takes_names app s None = tt
takes_names app s (Some p) = taken_names app s p (app.key_of p)

pub step_names : (app : Application) (s : PlainSwitch) (e : Event) → All NamesKind (plain_step app s e).1
step_names app s e = All-from_recursion NamesKind (plain_step app s e).1 (takes_names app (record s { event = s.event + 1 }) (fed (s.event + 1) e))

flows_names : (flows : Table PlainFlow) → AllByRecursion NamesKind (flat_map flow_lines flows ++ Line.End ∷ [])
flows_names [] = (tt, tt)
flows_names (f ∷ fs) = (tt, (tt, flows_names fs))

pub end_names : (s : PlainSwitch) → All NamesKind (end_lines s)
end_names s = All-from_recursion NamesKind (end_lines s) (flows_names s.flows)

-- ---- events are counted

taken_counts : (app : Application) (s : PlainSwitch) (p : Packet) (k : Option Key) → (taken app s p k).0.event ≡ s.event
taken_counts app s p None = refl
taken_counts app s p (Some key) = refl

takes_counts : (app : Application) (s : PlainSwitch) (o : Option Packet) → (takes app s o).0.event ≡ s.event
takes_counts app s None = refl
takes_counts app s (Some p) = taken_counts app s p (app.key_of p)

pub step_counts : (app : Application) (s : PlainSwitch) (e : Event) → (plain_step app s e).0.event ≡ s.event + 1
step_counts app s e = takes_counts app (record s { event = s.event + 1 }) (fed (s.event + 1) e)
