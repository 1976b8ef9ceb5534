-- The lines of a run's report stand as a report is read: those of events in their order, then those of each flow.
use Rattle.std.proofs.Common.{◌≡◌, ◌∙◌, ℕ, ◌+◌, ◌≤◌, List, [], ◌∷◌, ◌++◌, Bool, true, false, Option, Some, None, length, map, slice_get, suc, take, Ok, refl, sym, ap, subst, arith, All}
use Rattle.std.specs.Prelude.{flat_map}
use Rattle.std.proofs.lemmas.List.{map-append}
use Rattle.std.proofs.lemmas.List.Elements.{All-from_recursion, recursion_from_All}
use Rattle.key_table.specs.Table.{Key, same_key}
use Rattle.key_table.proofs.Tables.{same_key-true}
use Rattle.rp_base.specs.Clocks.{TermsHold}
use Rattle.rp_base.specs.declared.event.Event.{Event}
use Rattle.rp_base.specs.declared.event.DropCause.{DropCause}
use Rattle.rp_base.specs.declared.legality.Flow.{Flow}
use Rattle.rp_base.specs.declared.legality.Released.{Released}
use Rattle.rp_base.specs.declared.line.Line.{Line as Printed}
use Rattle.rp_base.specs.declared.node.Node.{Node}
use Rattle.rp_app.specs.Application.{Application, IsApplication}
use Rattle.proto_data.specs.declared.message.Body.{Body}
use Rattle.proto_data.specs.declared.message.Input.{Input}
use Rattle.proto_data.specs.declared.message.Msg.{Msg}
use Rattle.proto_data.specs.declared.message.Record.{Record}
use Rattle.proto_data.specs.declared.terms.Mode.{Mode}
use Rattle.proto_data.specs.declared.terms.Terms.{Terms}
use Rattle.proto_model.specs.Committed.{committed_book, committed_flow, committed_flows, committed_records, serial_marks}
use Rattle.proto_model.specs.Effects.{added, frame_passed, packet_fed, release_line, store_lines, switch_lines}
use Rattle.proto_model.specs.EndLines.{end_lines, item_lines, report}
use Rattle.proto_model.specs.Feeds.{Each, Pairwise}
use Rattle.proto_model.specs.Lines.{Line, Release, Dropped, LostLine, Refused, Stranger, Send, Serial, Epoch, CellsLine, End, send_lines, without_sends, printed}
use Rattle.proto_model.specs.ReplicaRows.{store_step}
use Rattle.proto_model.specs.ReplicaState.{StoreDid}
use Rattle.proto_model.specs.SwitchRows.{switch_step}
use Rattle.proto_model.specs.SwitchState.{SwitchDid}
use Rattle.proto_model.specs.World.{World, Setup, SwitchNode, ReplicaNode, opened}
use Rattle.proto_model.specs.WorldStep.{Act, Refuses, Feeds, Delivers, Passes, Advances, Alarms, Stops, Boots, Detects, Announces, Pumps, act_of, announcements, next_event, node_takes, perform_act, replica_takes, run_on, switch_takes, world_after, world_step}
use Rattle.proto_safety.proofs.Basics.Eachs.{each_append, each_weaker}
use Rattle.proto_safety.proofs.Basics.Pairs.{pairwise_mapped}
use Rattle.proto_safety.proofs.Inductions.EventCounts.{event_counts}
use Rattle.proto_safety.proofs.Legality.LegalNow.{records_differ}
use Rattle.proto_safety.proofs.Legality.ReportLegal.{reports_are_legal}
use Rattle.proto_safety.proofs.Time.ClockSums.{same_terms}
use Rattle.proto_safety.proofs.Paths.StraightTail.{strict_there}
use Rattle.proto_safety.specs.LegalLines.{LegalLines, releases_in}
use Rattle.run_report.specs.Report.{lines_text}
use Rattle.report_read.specs.Printed.{IsReportLine, IsStrict}
use Rattle.report_read.specs.Reading.{report_of}
use Rattle.report_read.specs.Whole.{AreEventLines, HaveKeys, flow_lines, whole_lines}
use Rattle.report_judge.specs.Judging.{IsJudgement}
use Rattle.report_judge.specs.Typed.{IsTyped}
use Rattle.report_judge.proofs.Saying.{judged_legal}
use Rattle.report_judge.proofs.ShortOutputs.{legal_short}
use Rattle.report_judge.proofs.StrictDrops.{drops_strictly}

-- ---- the lines of one event

-- a line that an event with this number writes in strict mode
abbrev OfEvent : ℕ → Line → Type 0
OfEvent n (Release event mark port bytes) = event ≡ n
OfEvent n (Dropped event mark cause) = (event ≡ n) × IsStrict cause
OfEvent n (LostLine event cause) = event ≡ n
OfEvent n (Refused event cause) = event ≡ n
OfEvent n (Send event frame from to kind msg) = Unit {0}
OfEvent n _ = ⊥

each_added : {A : Type 0} (P : Line → Type 0) (f : A → Line) (o : Option A) → ((x : A) → o ≡ Some x → P (f x)) → Each P (added f o)
each_added P f None h = tt
each_added P f (Some x) h = (h x refl, tt)

of_sends : (event frame : ℕ) (ms : List Msg) → Each (OfEvent event) (send_lines event frame ms)
of_sends event frame [] = tt
of_sends event frame (m ∷ ms) = (tt, of_sends event (frame + 1) ms)

of_switch : (event frame : ℕ) (did : SwitchDid) → ((d : ℕ × DropCause) → did.dropped ≡ Some d → IsStrict d.1) → Each (OfEvent event) (switch_lines event frame did)
of_switch event frame did strict =
    each_append (OfEvent event) (added (release_line event) did.released) _ (each_added (OfEvent event) (release_line event) did.released (λ o is. refl))
    (each_append (OfEvent event) (added (λ (d : ℕ × DropCause). Dropped event d.0 d.1) did.dropped) _ (each_added (OfEvent event) (λ (d : ℕ × DropCause). Dropped event d.0 d.1) did.dropped (λ d is. (refl, strict d is)))
    (each_append (OfEvent event) (added (LostLine event) did.lost) _ (each_added (OfEvent event) (LostLine event) did.lost (λ l is. refl))
    (of_sends event frame did.sent)))

of_store : (event frame : ℕ) (did : StoreDid) → Each (OfEvent event) (store_lines event frame did)
of_store event frame did = each_append (OfEvent event) (added (LostLine event) did.lost) _ (each_added (OfEvent event) (LostLine event) did.lost (λ l is. refl)) (of_sends event frame did.sent)

-- each switch is in strict mode
abbrev AllStrict : World → Type 0
AllStrict w = (n : ℕ) (node : SwitchNode) → slice_get w.switches n ≡ Some node → node.state.terms.mode ≡ Mode.Strict

switch_of : (app : Application) (w : World) (n : ℕ) (input : Input) (o : Option SwitchNode) → ((node : SwitchNode) → o ≡ Some node → node.state.terms.mode ≡ Mode.Strict) → Each (OfEvent w.event) (switch_takes app w n input o).1
switch_of app w n input None strict = tt
switch_of app w n input (Some node) strict = of_switch w.event _ (switch_step app node.state node.clock input).1 (drops_strictly app node.state node.clock input (strict node refl))

replica_of : (w : World) (n : ℕ) (input : Input) (o : Option ReplicaNode) → Each (OfEvent w.event) (replica_takes w n input o).1
replica_of w n input None = tt
replica_of w n input (Some node) = of_store w.event _ (store_step node.state node.clock input).1

node_of : (app : Application) (w : World) (to : Node) (input : Input) → AllStrict w → Each (OfEvent w.event) (node_takes app w to input).1
node_of app w (Node.Switch n) input strict = switch_of app w n input (slice_get w.switches n) (strict n)
node_of app w (Node.Replica n) input strict = replica_of w n input (slice_get w.replicas n)
node_of app w Node.Master input strict = tt

act_lines : (app : Application) (w : World) (act : Act) → AllStrict w → Each (OfEvent w.event) (perform_act app w act).1
act_lines app w (Refuses cause) strict = (refl, tt)
act_lines app w (Feeds n p) strict = switch_of app (packet_fed w p) n (Input.Packet p) (slice_get w.switches n) (strict n)
act_lines app w (Delivers i m) strict = node_of app (frame_passed w i) m.to (Input.Msg m) strict
act_lines app w (Passes i) strict = tt
act_lines app w (Advances by) strict = tt
act_lines app w (Alarms node) strict = node_of app w node Input.Alarm strict
act_lines app w (Stops node) strict = tt
act_lines app w (Boots n) strict = tt
act_lines app w (Detects node) strict = tt
act_lines app w Announces strict = of_sends w.event _ (announcements w)
act_lines app w Pumps strict = tt

-- ---- the lines of events

-- event lines from one event on are such from each earlier one on
from_earlier : (events last n : ℕ) (ls : List Printed) → last ≤ n → AreEventLines events n ls → AreEventLines events last ls
from_earlier events last n [] le are = tt
from_earlier events last n (l ∷ ls) le are = (are.0, omega (arith, le, are.1), are.2, are.3)

module _ (kind : Body → ℕ) (spelled : Msg → List ℕ) (events : ℕ) where
  abbrev shown : List Line → List Printed
  shown ls = printed kind spelled (without_sends ls)

  -- the lines of an event, and then those of later ones
  event_more : (n last : ℕ) (ls more : List Line) → last ≤ n → n ≤ events → Each (OfEvent n) ls → AreEventLines events n (shown more) → AreEventLines events last (shown (ls ++ more))
  event_more n last [] more le within of rest = from_earlier events last n (shown more) le rest
  event_more n last (Release event mark port bytes ∷ ls) more le within of rest =
      (tt, omega (arith, le, of.0), omega (arith, within, of.0), event_more n event ls more (omega (arith, of.0)) within of.1 rest)
  event_more n last (Dropped event mark cause ∷ ls) more le within of rest = (tt, omega (arith, le, of.0.0), omega (arith, within, of.0.0), event_more n event ls more (omega (arith, of.0.0)) within of.1 rest)
  event_more n last (LostLine event cause ∷ ls) more le within of rest = (tt, omega (arith, le, of.0), omega (arith, within, of.0), event_more n event ls more (omega (arith, of.0)) within of.1 rest)
  event_more n last (Refused event cause ∷ ls) more le within of rest = (tt, omega (arith, le, of.0), omega (arith, within, of.0), event_more n event ls more (omega (arith, of.0)) within of.1 rest)
  event_more n last (Stranger event node ∷ ls) more le within of rest = absurd of.0
  event_more n last (Send event frame from to named msg ∷ ls) more le within of rest = event_more n last ls more le within of.1 rest
  event_more n last (Serial key marks ∷ ls) more le within of rest = absurd of.0
  event_more n last (Epoch key epoch kept marks ∷ ls) more le within of rest = absurd of.0
  event_more n last (CellsLine key cells ∷ ls) more le within of rest = absurd of.0
  event_more n last (End ∷ ls) more le within of rest = absurd of.0

  run_lines : (app : Application) (w : World) (es : List Event) → ((i : ℕ) → AllStrict (world_after app w (take i es))) → w.event + length es ≤ events → AreEventLines events w.event (shown (run_on app w es).1)
  run_lines app w [] strict within = tt
  run_lines app w (e ∷ es) strict within =
      let count : (world_step app w e).0.event ≡ w.event + 1 = event_counts app w e in
      event_more (w.event + 1) w.event (world_step app w e).1 (run_on app (world_step app w e).0 es).1 (omega arith) (omega (arith, within))
      (act_lines app (next_event w) (act_of app (next_event w) e) (strict 0))
      (subst (λ n. AreEventLines events n (shown (run_on app (world_step app w e).0 es).1)) count (run_lines app (world_step app w e).0 es (λ i. strict (suc i)) (omega (arith, within, count))))

-- ---- the values of lines

-- a line of a run in strict mode
abbrev OfRun : Line → Type 0
OfRun l = (n : ℕ) × OfEvent n l

run_of : (app : Application) (w : World) (es : List Event) → ((i : ℕ) → AllStrict (world_after app w (take i es))) → Each OfRun (run_on app w es).1
run_of app w [] strict = tt
run_of app w (e ∷ es) strict =
    each_append OfRun (world_step app w e).1 (run_on app (world_step app w e).0 es).1
    (each_weaker (OfEvent (w.event + 1)) OfRun (world_step app w e).1 (λ l of. (w.event + 1, of)) (act_lines app (next_event w) (act_of app (next_event w) e) (strict 0)))
    (run_of app (world_step app w e).0 es (λ i. strict (suc i)))

-- an output of at most 1,500 bytes
abbrev IsShort : Printed → Type 0
IsShort (Printed.Release event mark port bytes) = length bytes ≤ 1500
IsShort _ = Unit {0}

lines_short : (ls : List Printed) → Each (λ (r : Released). length r.output.bytes ≤ 1500) (releases_in ls) → Each IsShort ls
lines_short [] h = tt
lines_short (Printed.Release event mark port bytes ∷ ls) h = (h.0, lines_short ls h.1)
lines_short (Printed.Drop event mark cause ∷ ls) h = (tt, lines_short ls h)
lines_short (Printed.Lost event cause ∷ ls) h = (tt, lines_short ls h)
lines_short (Printed.Refused event cause ∷ ls) h = (tt, lines_short ls h)
lines_short (Printed.Stranger event node ∷ ls) h = (tt, lines_short ls h)
lines_short (Printed.Send event frame from to kind bytes ∷ ls) h = (tt, lines_short ls h)
lines_short (Printed.Serial key marks ∷ ls) h = (tt, lines_short ls h)
lines_short (Printed.Epoch key epoch kept marks ∷ ls) h = (tt, lines_short ls h)
lines_short (Printed.Cells key cells ∷ ls) h = (tt, lines_short ls h)
lines_short (Printed.End ∷ ls) h = (tt, lines_short ls h)

module _ (kind : Body → ℕ) (spelled : Msg → List ℕ) where
  run_in_range : (ls : List Line) (rest : List Printed) → Each OfRun ls → Each IsReportLine rest → Each IsTyped (printed kind spelled (without_sends ls) ++ rest) → Each IsShort (printed kind spelled (without_sends ls) ++ rest) →
      Each IsReportLine (printed kind spelled (without_sends ls) ++ rest)
  run_in_range [] rest of are typed short = are
  run_in_range (Release event mark port bytes ∷ ls) rest of are typed short = ((typed.0.0, typed.0.1, typed.0.2, (short.0, typed.0.3)), run_in_range ls rest of.1 are typed.1 short.1)
  run_in_range (Dropped event mark cause ∷ ls) rest of are typed short = ((typed.0.0, typed.0.1, of.0.1.1), run_in_range ls rest of.1 are typed.1 short.1)
  run_in_range (LostLine event cause ∷ ls) rest of are typed short = (typed.0, run_in_range ls rest of.1 are typed.1 short.1)
  run_in_range (Refused event cause ∷ ls) rest of are typed short = (typed.0, run_in_range ls rest of.1 are typed.1 short.1)
  run_in_range (Stranger event node ∷ ls) rest of are typed short = absurd of.0.1
  run_in_range (Send event frame from to named msg ∷ ls) rest of are typed short = run_in_range ls rest of.1 are typed short
  run_in_range (Serial key marks ∷ ls) rest of are typed short = absurd of.0.1
  run_in_range (Epoch key epoch kept marks ∷ ls) rest of are typed short = absurd of.0.1
  run_in_range (CellsLine key cells ∷ ls) rest of are typed short = absurd of.0.1
  run_in_range (End ∷ ls) rest of are typed short = absurd of.0.1

each_back : {A : Type 0} (P : A → Type 0) (xs ys : List A) → Each P (xs ++ ys) → Each P ys
each_back P [] ys h = h
each_back P (x ∷ xs) ys h = each_back P xs ys h.1

flows_in_range : (fs : List Flow) → Each IsTyped (flow_lines fs ++ Printed.End ∷ []) → Each IsReportLine (flow_lines fs ++ Printed.End ∷ [])
flows_in_range [] typed = typed
flows_in_range (f ∷ fs) typed = (typed.0, (typed.1.0, flows_in_range fs typed.1.1))

-- ---- the lines of flows

other_key : (j k : Key) → (j ≡ k → ⊥) → same_key j k ≡ false
other_key j k ne = by (same_key j k) refl
  where
    by : (b : Bool) → same_key j k ≡ b → b ≡ false
    by true is = absurd (ne (same_key-true j k is))
    by false is = refl

have_keys : (fs : List Flow) → Pairwise (λ (a b : Flow). a.key ≡ b.key → ⊥) fs → HaveKeys fs
have_keys [] h = tt
have_keys (f ∷ fs) h =
    (All-from_recursion (λ (g : Flow). same_key f.key g.key ≡ false) fs (each_weaker (λ (g : Flow). f.key ≡ g.key → ⊥) (λ (g : Flow). same_key f.key g.key ≡ false) fs (λ g. other_key f.key g.key) h.0), have_keys fs h.1)

flows_have_keys : (cells : ℕ) (w : World) → HaveKeys (committed_flows cells w)
flows_have_keys cells w =
    have_keys (committed_flows cells w)
    (pairwise_mapped (λ (a b : Flow). a.key ≡ b.key → ⊥) (committed_flow w) (committed_records cells w) (records_differ cells (committed_book w) [] tt))

-- the lines of a flow, the mode being a variable
abbrev lines_by : Mode → World → Key × Record → List Line
lines_by mode w e = item_lines mode w e.0 ++ CellsLine e.0 e.1.cells ∷ []

module _ (kind : Body → ℕ) (spelled : Msg → List ℕ) where
  strict_lines : (w : World) (rs : List (Key × Record)) → printed kind spelled (flat_map (lines_by Mode.Strict w) rs ++ End ∷ []) ≡ flow_lines (map (committed_flow w) rs) ++ Printed.End ∷ []
  strict_lines w [] = refl
  strict_lines w (e ∷ es) = ap (λ ls. Printed.Serial e.0 (serial_marks w e.0) ∷ Printed.Cells e.0 e.1.cells ∷ ls) (strict_lines w es)

  end_printed : (cells : ℕ) (w : World) → w.terms.mode ≡ Mode.Strict → printed kind spelled (end_lines cells w) ≡ flow_lines (committed_flows cells w) ++ Printed.End ∷ []
  end_printed cells w strict =
      subst (λ mode. printed kind spelled (flat_map (lines_by mode w) (committed_records cells w) ++ End ∷ []) ≡ flow_lines (committed_flows cells w) ++ Printed.End ∷ []) (sym strict) (strict_lines w (committed_records cells w))

  module _ (app : Application) (setup : Setup) (strict : setup.terms.mode ≡ Mode.Strict) (events : List Event) where
    abbrev after_run : World
    after_run = world_after app (opened app.cell_count setup) events

    abbrev told : List Printed
    told = printed kind spelled (without_sends (run_on app (opened app.cell_count setup) events).1)

    is_whole : printed kind spelled (report false app setup events) ≡ whole_lines told (committed_flows app.cell_count after_run)
    is_whole =
        map-append _ (without_sends (run_on app (opened app.cell_count setup) events).1) (end_lines app.cell_count after_run)
        ∙ ap (λ ls. told ++ ls) (end_printed app.cell_count after_run (ap (λ (t : Terms). t.mode) (same_terms app setup events) ∙ strict))

    all_strict : (i : ℕ) → AllStrict (world_after app (opened app.cell_count setup) (take i events))
    all_strict i n node at = strict_there (record { app = app; setup = setup; events = events }) i n node strict at

    are_event_lines : AreEventLines (length events) 0 told
    are_event_lines = run_lines kind spelled (length events) app (opened app.cell_count setup) events all_strict (omega arith)

    module _ (is : IsApplication app) (terms : TermsHold setup.terms.t_switch setup.terms.t_store setup.terms.ratio) where
      legal : LegalLines app events (printed kind spelled (report false app setup events))
      legal = reports_are_legal kind spelled app is setup strict terms events false

      abbrev whole : List Printed
      whole = whole_lines told (committed_flows app.cell_count after_run)

      short : Each IsShort whole
      short = subst (Each IsShort) is_whole (lines_short (printed kind spelled (report false app setup events)) (legal_short app is _ _ _ legal))

      in_range : All IsTyped whole → Each IsReportLine whole
      in_range typed =
          run_in_range kind spelled (run_on app (opened app.cell_count setup) events).1 (flow_lines (committed_flows app.cell_count after_run) ++ Printed.End ∷ [])
          (run_of app (opened app.cell_count setup) events all_strict)
          (flows_in_range (committed_flows app.cell_count after_run) (each_back IsTyped told _ (recursion_from_All IsTyped whole typed))) (recursion_from_All IsTyped whole typed) short

      pub runs_judged_legal : All IsTyped (printed kind spelled (report false app setup events)) → length (lines_text (printed kind spelled (report false app setup events))) ≤ 67108864 →
          IsJudgement app events (report_of (length events) (lines_text (printed kind spelled (report false app setup events)))) (Ok tt)
      runs_judged_legal typed fits =
          subst (λ ls. IsJudgement app events (report_of (length events) (lines_text ls)) (Ok tt)) (sym is_whole)
          (judged_legal app events told (committed_flows app.cell_count after_run) are_event_lines (All-from_recursion IsReportLine whole (in_range (subst (All IsTyped) is_whole typed)))
          (flows_have_keys app.cell_count after_run) (subst (λ ls. length (lines_text ls) ≤ 67108864) is_whole fits) (subst (LegalLines app events) is_whole legal))
