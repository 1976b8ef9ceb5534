-- The lines of a report are legal, since they say what the history is.
use Rattle.std.proofs.Common.{◌≡◌, ℕ, ◌+◌, List, [], ◌∷◌, ◌++◌, Some, arith, refl, sym, ap, subst, ◌∙◌, true, false, Bool, ◌||◌, map}
use Rattle.std.specs.Prelude.{if◌then◌else◌, flat_map, filter}
use Rattle.std.proofs.lemmas.List.{append-nil}
use Rattle.std.proofs.lemmas.List.Folds.{list_any-append}
use Rattle.rp_base.specs.Clocks.{TermsHold}
use Rattle.rp_base.specs.declared.event.Event.{Event}
use Rattle.rp_base.specs.declared.event.Refusal.{Refusal}
use Rattle.proto_data.specs.declared.message.Body.{Body}
use Rattle.proto_data.specs.declared.message.Msg.{Msg}
use Rattle.proto_data.specs.declared.message.Record.{Record}
use Rattle.proto_data.specs.declared.terms.Mode.{Mode}
use Rattle.proto_data.specs.declared.terms.Terms.{Terms}
use Rattle.rp_app.specs.Application.{Application, IsApplication}
use Rattle.key_table.specs.Table.{Key}
use Rattle.proto_model.specs.World.{World, Setup, opened}
use Rattle.rp_base.specs.declared.legality.Fed.{Fed}
use Rattle.rp_base.specs.declared.legality.Released.{Released}
use Rattle.proto_model.specs.Feeds.{Each}
use Rattle.proto_model.specs.Lines.{Line, Release, Dropped, LostLine, Refused, Stranger, Send, Serial, Epoch, CellsLine, End, without_sends, printed}
use Rattle.proto_model.specs.Committed.{committed_flow, committed_flows, committed_book, committed_records, epochs_of, journal, serial_marks}
use Rattle.rp_base.specs.declared.legality.Flow.{Flow}
use Rattle.proto_model.specs.Kept.{kept, marks_in}
use Rattle.proto_model.specs.EndLines.{item_lines, flow_lines, end_lines, reported, report}
use Rattle.proto_model.specs.Runs.{act_at}
use Rattle.proto_safety.specs.Books.{In}
use Rattle.proto_model.specs.WorldStep.{WorldStep, Refuses, world_after, run}
use Rattle.proto_safety.specs.LegalLines.{LegalLines, feeds_in, releases_in, is_release, release_line, flows_in}
use Rattle.proto_safety.proofs.Time.ClockSums.{same_terms}
use Rattle.proto_model.specs.Legal.{Legal}
use Rattle.proto_safety.proofs.Legality.RunsAreLegal.{runs_are_legal}
use Rattle.proto_safety.proofs.Legality.LinesTold.{releases_append, releases_told, refusals_told, refusals_only, feeds_told, run_no_serial, NoSerial, NoRefusal, no_flows}
use Rattle.proto_safety.proofs.Legality.RunLines.{refusal_said, refused_said, release_said, releases_said, feeds_said, flows_said, feeds_same, release_lines, printed_feeds, printed_releases, printed_flows}
use Rattle.key_table.proofs.Tables.{same_key-refl}
use Rattle.proto_safety.proofs.Basics.Eachs.{each_append, each_map}

-- ---- lines of frames say none of this

shown_releases : (ls : List Line) → releases_said (without_sends ls) ≡ releases_said ls
shown_releases [] = refl
shown_releases (Release event mark port bytes ∷ ls) = ap (λ l. release_said (Release event mark port bytes) ++ l) (shown_releases ls)
shown_releases (Dropped event mark cause ∷ ls) = shown_releases ls
shown_releases (LostLine event cause ∷ ls) = shown_releases ls
shown_releases (Refused event cause ∷ ls) = shown_releases ls
shown_releases (Stranger event node ∷ ls) = shown_releases ls
shown_releases (Send event frame from to kind msg ∷ ls) = shown_releases ls
shown_releases (Serial key marks ∷ ls) = shown_releases ls
shown_releases (Epoch key epoch kept marks ∷ ls) = shown_releases ls
shown_releases (CellsLine key cells ∷ ls) = shown_releases ls
shown_releases (End ∷ ls) = shown_releases ls

shown_refused : (n : ℕ) (ls : List Line) → refused_said (without_sends ls) n ≡ refused_said ls n
shown_refused n [] = refl
shown_refused n (Release event mark port bytes ∷ ls) = shown_refused n ls
shown_refused n (Dropped event mark cause ∷ ls) = shown_refused n ls
shown_refused n (LostLine event cause ∷ ls) = shown_refused n ls
shown_refused n (Refused event cause ∷ ls) = ap (λ b. refusal_said n (Refused event cause) || b) (shown_refused n ls)
shown_refused n (Stranger event node ∷ ls) = shown_refused n ls
shown_refused n (Send event frame from to kind msg ∷ ls) = shown_refused n ls
shown_refused n (Serial key marks ∷ ls) = shown_refused n ls
shown_refused n (Epoch key epoch kept marks ∷ ls) = shown_refused n ls
shown_refused n (CellsLine key cells ∷ ls) = shown_refused n ls
shown_refused n (End ∷ ls) = shown_refused n ls

shown_no_serial : (ls : List Line) → Each NoSerial ls → Each NoSerial (without_sends ls)
shown_no_serial [] h = tt
shown_no_serial (Release event mark port bytes ∷ ls) h = (h.0, shown_no_serial ls h.1)
shown_no_serial (Dropped event mark cause ∷ ls) h = (h.0, shown_no_serial ls h.1)
shown_no_serial (LostLine event cause ∷ ls) h = (h.0, shown_no_serial ls h.1)
shown_no_serial (Refused event cause ∷ ls) h = (h.0, shown_no_serial ls h.1)
shown_no_serial (Stranger event node ∷ ls) h = (h.0, shown_no_serial ls h.1)
shown_no_serial (Send event frame from to kind msg ∷ ls) h = shown_no_serial ls h.1
shown_no_serial (Serial key marks ∷ ls) h = (h.0, shown_no_serial ls h.1)
shown_no_serial (Epoch key epoch kept marks ∷ ls) h = (h.0, shown_no_serial ls h.1)
shown_no_serial (CellsLine key cells ∷ ls) h = (h.0, shown_no_serial ls h.1)
shown_no_serial (End ∷ ls) h = (h.0, shown_no_serial ls h.1)

-- ---- the lines at the end

abbrev Quiet : Line → Type 0
Quiet l = (release_said l ≡ []) × NoRefusal l

quiet_items : (mode : Mode) (w : World) (key : Key) → Each Quiet (item_lines mode w key)
quiet_items Mode.Strict w key = ((refl, λ n. refl), tt)
quiet_items (Mode.Snapshot bound) w key = each_map Quiet (λ e. Epoch key e (kept w key e) (marks_in (journal w key e))) (epochs_of key (committed_book w)) (λ e. (refl, λ n. refl))

quiet_flows : (w : World) (rs : List (Key × Record)) → Each Quiet (flat_map (flow_lines w) rs)
quiet_flows w [] = tt
quiet_flows w (r ∷ rs) = each_append Quiet (flow_lines w r) _ (each_append Quiet (item_lines w.terms.mode w r.0) _ (quiet_items w.terms.mode w r.0) ((refl, λ n. refl), tt)) (quiet_flows w rs)

quiet_ends : (cells : ℕ) (w : World) → Each Quiet (end_lines cells w)
quiet_ends cells w = each_append Quiet (flat_map (flow_lines w) (committed_records cells w)) (End ∷ []) (quiet_flows w (committed_records cells w)) ((refl, λ n. refl), tt)

no_releases : (ls : List Line) → Each Quiet ls → releases_said ls ≡ []
no_releases [] h = refl
no_releases (l ∷ ls) h = ap (λ x. x ++ releases_said ls) h.0.0 ∙ no_releases ls h.1

no_refusals : (ls : List Line) (n : ℕ) → Each Quiet ls → refused_said ls n ≡ false
no_refusals [] n h = refl
no_refusals (l ∷ ls) n h = rw (h.0.1 n) (no_refusals ls n h.1)

-- the lines of flows, the mode being a variable
abbrev lines_by : Mode → World → Key × Record → List Line
lines_by mode w e = item_lines mode w e.0 ++ CellsLine e.0 e.1.cells ∷ []

strict_flows : (w : World) (rs : List (Key × Record)) → flows_said (flat_map (lines_by Mode.Strict w) rs ++ End ∷ []) ≡ map (committed_flow w) rs
strict_flows w [] = refl
strict_flows w (e ∷ es) =
    ap (λ b. record { key = e.0; marks = serial_marks w e.0; cells = if b then e.1.cells else [] } ∷ flows_said (flat_map (lines_by Mode.Strict w) es ++ End ∷ [])) (same_key-refl e.0)
    ∙ ap (λ l. committed_flow w e ∷ l) (strict_flows w es)

-- the end lines are the committed_flows
pub ends_are_flows : (cells : ℕ) (w : World) → w.terms.mode ≡ Mode.Strict → flows_said (end_lines cells w) ≡ committed_flows cells w
ends_are_flows cells w strict =
    subst (λ mode. flows_said (flat_map (lines_by mode w) (committed_records cells w) ++ End ∷ []) ≡ committed_flows cells w) (sym strict) (strict_flows w (committed_records cells w))

-- ---- a report

-- a run's lines, with frames or without them
abbrev seen : Bool → List Line → List Line
seen frames ls = if frames then ls else without_sends ls

seen_releases : (frames : Bool) (ls : List Line) → releases_said (seen frames ls) ≡ releases_said ls
seen_releases true ls = refl
seen_releases false ls = shown_releases ls

seen_refused : (frames : Bool) (n : ℕ) (ls : List Line) → refused_said (seen frames ls) n ≡ refused_said ls n
seen_refused true n ls = refl
seen_refused false n ls = shown_refused n ls

seen_no_serial : (frames : Bool) (ls : List Line) → Each NoSerial ls → Each NoSerial (seen frames ls)
seen_no_serial true ls h = h
seen_no_serial false ls h = shown_no_serial ls h

module _ (frames : Bool) (cells : ℕ) (ran : WorldStep) where
  pub reported_releases : releases_said (reported frames cells ran) ≡ releases_said ran.1
  reported_releases =
      releases_append (seen frames ran.1) (end_lines cells ran.0)
      ∙ (ap (λ l. releases_said (seen frames ran.1) ++ l) (no_releases (end_lines cells ran.0) (quiet_ends cells ran.0))
      ∙ (append-nil (releases_said (seen frames ran.1)) ∙ seen_releases frames ran.1))

  pub reported_refused : (n : ℕ) → refused_said (reported frames cells ran) n ≡ refused_said ran.1 n
  reported_refused n =
      list_any-append (refusal_said n) (seen frames ran.1) (end_lines cells ran.0)
      ∙ (ap (λ b. refused_said (seen frames ran.1) n || b) (no_refusals (end_lines cells ran.0) n (quiet_ends cells ran.0))
      ∙ (or_false (refused_said (seen frames ran.1) n) ∙ seen_refused frames n ran.1))
    where
      or_false : (b : Bool) → (b || false) ≡ b
      or_false true = refl
      or_false false = refl

  pub reported_feeds : (events : List Event) → feeds_said events (reported frames cells ran) ≡ feeds_said events ran.1
  reported_feeds events = feeds_same (refused_said (reported frames cells ran)) (refused_said ran.1) 1 events (λ k le. reported_refused k)

  pub reported_flows : ran.0.terms.mode ≡ Mode.Strict → Each NoSerial ran.1 → flows_said (reported frames cells ran) ≡ committed_flows cells ran.0
  reported_flows strict plain = no_flows (seen frames ran.1) (end_lines cells ran.0) (seen_no_serial frames ran.1 plain) ∙ ends_are_flows cells ran.0 strict

-- ---- the lines of a run

module _ (kind : Body → ℕ) (spelled : Msg → List ℕ) where
  pub run_releases : (app : Application) (setup : Setup) (events : List Event) →
      releases_in (printed kind spelled (run app setup events).1) ≡ (world_after app (opened app.cell_count setup) events).history.released
  run_releases app setup events =
      printed_releases kind spelled (run app setup events).1
      ∙ sym (releases_told app (opened app.cell_count setup) events)

  pub run_release_lines : (app : Application) (setup : Setup) (events : List Event) →
      filter is_release (printed kind spelled (run app setup events).1) ≡ map release_line (world_after app (opened app.cell_count setup) events).history.released
  run_release_lines app setup events = release_lines (printed kind spelled (run app setup events).1) ∙ ap (λ l. map release_line l) (run_releases app setup events)

  pub run_feeds : (app : Application) (setup : Setup) (events : List Event) →
      feeds_in events (printed kind spelled (run app setup events).1) ≡ (world_after app (opened app.cell_count setup) events).history.fed
  run_feeds app setup events =
      printed_feeds kind spelled events (run app setup events).1
      ∙ sym (feeds_told app (opened app.cell_count setup) events)

  -- of any lines of a report
  pub shown_feeds : (frames : Bool) (cells : ℕ) (ran : WorldStep) (events : List Event) → feeds_in events (printed kind spelled (reported frames cells ran)) ≡ feeds_said events ran.1
  shown_feeds frames cells ran events = printed_feeds kind spelled events (reported frames cells ran) ∙ reported_feeds frames cells ran events

  pub shown_as_released : (frames : Bool) (cells : ℕ) (ran : WorldStep) → releases_in (printed kind spelled (reported frames cells ran)) ≡ releases_said ran.1
  shown_as_released frames cells ran = printed_releases kind spelled (reported frames cells ran) ∙ reported_releases frames cells ran

  pub shown_flows : (frames : Bool) (cells : ℕ) (ran : WorldStep) → ran.0.terms.mode ≡ Mode.Strict → Each NoSerial ran.1 → flows_in (printed kind spelled (reported frames cells ran)) ≡ committed_flows cells ran.0
  shown_flows frames cells ran strict plain = printed_flows kind spelled (reported frames cells ran) ∙ reported_flows frames cells ran strict plain

  pub end_flows : (cells : ℕ) (w : World) → w.terms.mode ≡ Mode.Strict → flows_in (printed kind spelled (end_lines cells w)) ≡ committed_flows cells w
  end_flows cells w strict = printed_flows kind spelled (end_lines cells w) ∙ ends_are_flows cells w strict

  pub report_releases : (app : Application) (setup : Setup) (events : List Event) (frames : Bool) →
      releases_in (printed kind spelled (report frames app setup events)) ≡ (world_after app (opened app.cell_count setup) events).history.released
  report_releases app setup events frames =
      shown_as_released frames app.cell_count (run app setup events) ∙ (sym (printed_releases kind spelled (run app setup events).1) ∙ run_releases app setup events)

  pub report_feeds : (app : Application) (setup : Setup) (events : List Event) (frames : Bool) →
      feeds_in events (printed kind spelled (report frames app setup events)) ≡ (world_after app (opened app.cell_count setup) events).history.fed
  report_feeds app setup events frames =
      shown_feeds frames app.cell_count (run app setup events) events ∙ (sym (printed_feeds kind spelled events (run app setup events).1) ∙ run_feeds app setup events)

  pub report_flows : (app : Application) (setup : Setup) → setup.terms.mode ≡ Mode.Strict → (events : List Event) (frames : Bool) →
      flows_in (printed kind spelled (report frames app setup events)) ≡ committed_flows app.cell_count (world_after app (opened app.cell_count setup) events)
  report_flows app setup strict events frames =
      shown_flows frames app.cell_count (run app setup events) (ap (λ (t : Terms). t.mode) (same_terms app setup events) ∙ strict) (run_no_serial app (opened app.cell_count setup) events)

-- ---- refusals

pub run_refusals_told : (app : Application) (setup : Setup) (events : List Event) (i : ℕ) (cause : Refusal) →
    act_at (record { app = app; setup = setup; events = events }) i ≡ Some (Refuses cause) → In (run app setup events).1 (Refused (i + 1) cause)
run_refusals_told app setup events i cause is =
    let number : 0 + (i + 1) ≡ i + 1 = omega arith in
    subst (λ n. In (run app setup events).1 (Refused n cause)) number (refusals_told app (opened app.cell_count setup) events i cause is)

pub run_refusals_only : (app : Application) (setup : Setup) (events : List Event) (n : ℕ) (cause : Refusal) → In (run app setup events).1 (Refused n cause) →
    (i : ℕ) × (n ≡ i + 1) × (act_at (record { app = app; setup = setup; events = events }) i ≡ Some (Refuses cause))
run_refusals_only app setup events n cause i =
    let r = refusals_only app (opened app.cell_count setup) events n cause i in
    let number : n ≡ r.place + 1 = omega (arith, r.number) in
    (r.place, number, r.refused)

-- ---- the rules

-- lists that are the same are legal alike
pub same_lists : (app : Application) {a b : List Fed} {c d : List Released} {e f : List Flow} → a ≡ b → c ≡ d → e ≡ f → Legal app b d f → Legal app a c e
same_lists app {a} {b} {c} {d} {e} {f} p q r h =
    subst (λ x. Legal app x c e) (sym p) (subst (λ x. Legal app b x e) (sym q) (subst (λ x. Legal app b d x) (sym r) h))

pub reports_are_legal : (kind : Body → ℕ) (spelled : Msg → List ℕ) (app : Application) → IsApplication app → (setup : Setup) → setup.terms.mode ≡ Mode.Strict → TermsHold setup.terms.t_switch setup.terms.t_store setup.terms.ratio →
    (events : List Event) (frames : Bool) → LegalLines app events (printed kind spelled (report frames app setup events))
reports_are_legal kind spelled app is setup strict hold events frames =
    same_lists app (report_feeds kind spelled app setup events frames) (report_releases kind spelled app setup events frames) (report_flows kind spelled app setup strict events frames) (runs_are_legal app is setup strict hold events)
