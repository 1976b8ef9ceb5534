-- In snapshot mode a report's lines tell the committed flows with their epochs, and no line of a run tells any.
use Rattle.std.proofs.Common.{◌≡◌, fold, ◌≢◌, ℕ, ◌+◌, List, [], ◌∷◌, ◌++◌, map, refl, sym, ◌∙◌, ap, subst, true, false, Bool, append-nil, append_assoc, inl, inr}
use Rattle.std.specs.Prelude.{flat_map, if◌then◌else◌}
use Rattle.std.proofs.lemmas.Grind.{flat_map-append}
use Rattle.std.proofs.lemmas.List.Concat.{flat_map-cons}
use Rattle.std.proofs.lemmas.List.Elements.{filter-append}
use Rattle.rp_base.specs.declared.event.Event.{Event}
use Rattle.rp_base.specs.declared.event.Refusal.{Refusal}
use Rattle.rp_base.specs.declared.node.Node.{Node}
use Rattle.proto_data.specs.declared.message.Body.{Body}
use Rattle.proto_data.specs.declared.message.Input.{Input}
use Rattle.proto_data.specs.declared.message.Msg.{Msg}
use Rattle.proto_data.specs.declared.message.Record.{Record}
use Rattle.proto_data.specs.declared.terms.Mode.{Mode}
use Rattle.proto_data.specs.declared.terms.Terms.{Terms}
use Rattle.rp_app.specs.Application.{Application}
use Rattle.key_table.specs.Table.{Key, same_key}
use Rattle.key_table.proofs.Tables.{same_key-true, same_key-refl}
use Rattle.proto_model.specs.Committed.{committed_book, committed_records, epochs_of, journal}
use Rattle.proto_model.specs.Effects.{packet_fed, frame_passed}
use Rattle.proto_model.specs.EndLines.{item_lines, end_lines, report}
use Rattle.proto_model.specs.Feeds.{Each}
use Rattle.proto_model.specs.Kept.{EpochLine, epoch_lines, kept, marks_in}
use Rattle.proto_model.specs.Lines.{Line, Release, Dropped, LostLine, Refused, Stranger, Send, Serial, Epoch, CellsLine, End, send_lines, without_sends, printed_line, printed}
use Rattle.proto_model.specs.Pumping.{Received, Pumped, linked_event, linked_run}
use Rattle.proto_model.specs.World.{World, Setup, opened}
use Rattle.proto_model.specs.WorldStep.{Act, Refuses, Feeds, Delivers, Passes, Advances, Alarms, Stops, Boots, Detects, Announces, Pumps, act_of, announcements, next_event, node_takes, perform_act, run, run_on, world_after, world_step}
use Rattle.proto_safety.specs.Books.{In}
use Rattle.proto_safety.specs.LegalLines.{linked_report}
use Rattle.proto_safety.proofs.Basics.Eachs.{each_append, each_map, filter_all}
use Rattle.proto_safety.proofs.Basics.TableKeys.{KeysDiffer}
use Rattle.proto_safety.proofs.Legality.LegalNow.{records_differ}
use Rattle.proto_safety.proofs.Legality.LinesTold.{each_node_takes}
use Rattle.proto_safety.proofs.Link.LinkedKept.{PumpKeeps, acted_by, linked_kept, pump_kept}
use Rattle.proto_safety.proofs.Time.ClockSums.{same_terms, terms_kept}
use Rattle.loss_laws.specs.BoundedLines.{cells_in, committed_epochs, epoch_flows, epoch_in, flow_with, own_epochs}

-- ---- lines that tell nothing of flows

-- a line that tells no epoch and no cells, as it is printed
abbrev Plain : (Body → ℕ) → (Msg → List ℕ) → Line → Type 0
Plain kind spelled l = (epoch_in (printed_line kind spelled l) ≡ []) × (cells_in (printed_line kind spelled l) ≡ [])

module _ (kind : Body → ℕ) (spelled : Msg → List ℕ) where
  plain_sends : (event frame : ℕ) (ms : List Msg) → Each (Plain kind spelled) (send_lines event frame ms)
  plain_sends event frame [] = tt
  plain_sends event frame (m ∷ ms) = ((refl, refl), plain_sends event (frame + 1) ms)

  plain_node : (app : Application) (w : World) (to : Node) (input : Input) → Each (Plain kind spelled) (node_takes app w to input).1
  plain_node app w to input =
      each_node_takes (Plain kind spelled) (λ event mark port bytes. (refl, refl)) (λ event mark cause. (refl, refl)) (λ event cause. (refl, refl)) (λ event frame m. ((refl, refl), tt)) app w to input

  plain_act : (app : Application) (w : World) (act : Act) → Each (Plain kind spelled) (perform_act app w act).1
  plain_act app w (Refuses cause) = ((refl, refl), tt)
  plain_act app w (Feeds n p) = plain_node app (packet_fed w p) (Node.Switch n) (Input.Packet p)
  plain_act app w (Delivers i m) = plain_node app (frame_passed w i) m.to (Input.Msg m)
  plain_act app w (Passes i) = tt
  plain_act app w (Advances by) = tt
  plain_act app w (Alarms node) = plain_node app w node Input.Alarm
  plain_act app w (Stops node) = tt
  plain_act app w (Boots n) = tt
  plain_act app w (Detects node) = tt
  plain_act app w Announces = plain_sends w.event _ (announcements w)
  plain_act app w Pumps = tt

  plain_run : (app : Application) (w : World) (es : List Event) → Each (Plain kind spelled) (run_on app w es).1
  plain_run app w [] = tt
  plain_run app w (e ∷ es) = each_append (Plain kind spelled) (world_step app w e).1 _ (plain_act app (next_event w) (act_of app (next_event w) e)) (plain_run app (world_step app w e).0 es)

  plain_shown : (ls : List Line) → Each (Plain kind spelled) ls → Each (Plain kind spelled) (without_sends ls)
  plain_shown [] h = tt
  plain_shown (Release event mark port bytes ∷ ls) h = (h.0, plain_shown ls h.1)
  plain_shown (Dropped event mark cause ∷ ls) h = (h.0, plain_shown ls h.1)
  plain_shown (LostLine event cause ∷ ls) h = (h.0, plain_shown ls h.1)
  plain_shown (Refused event cause ∷ ls) h = (h.0, plain_shown ls h.1)
  plain_shown (Stranger event node ∷ ls) h = (h.0, plain_shown ls h.1)
  plain_shown (Send event frame from to named msg ∷ ls) h = plain_shown ls h.1
  plain_shown (Serial key marks ∷ ls) h = (h.0, plain_shown ls h.1)
  plain_shown (Epoch key epoch kept marks ∷ ls) h = (h.0, plain_shown ls h.1)
  plain_shown (CellsLine key cells ∷ ls) h = (h.0, plain_shown ls h.1)
  plain_shown (End ∷ ls) h = (h.0, plain_shown ls h.1)

  plain_seen : (frames : Bool) (ls : List Line) → Each (Plain kind spelled) ls → Each (Plain kind spelled) (if frames then ls else without_sends ls)
  plain_seen true ls h = h
  plain_seen false ls h = plain_shown ls h

  -- ---- what all lines tell

  abbrev epochs_told : List Line → List EpochLine
  epochs_told ls = flat_map epoch_in (printed kind spelled ls)

  abbrev cells_told : List Line → List (Key × List ℕ)
  cells_told ls = flat_map cells_in (printed kind spelled ls)

  epochs_push : (l : Line) (ls : List Line) → epochs_told (l ∷ ls) ≡ epoch_in (printed_line kind spelled l) ++ epochs_told ls
  epochs_push l ls = flat_map-cons epoch_in (printed_line kind spelled l) (printed kind spelled ls)

  cells_push : (l : Line) (ls : List Line) → cells_told (l ∷ ls) ≡ cells_in (printed_line kind spelled l) ++ cells_told ls
  cells_push l ls = flat_map-cons cells_in (printed_line kind spelled l) (printed kind spelled ls)

  epochs_behind : (xs ys : List Line) → Each (Plain kind spelled) xs → epochs_told (xs ++ ys) ≡ epochs_told ys
  epochs_behind [] ys h = refl
  epochs_behind (x ∷ xs) ys h = epochs_push x (xs ++ ys) ∙ (ap (λ l. l ++ epochs_told (xs ++ ys)) h.0.0 ∙ epochs_behind xs ys h.1)

  cells_behind : (xs ys : List Line) → Each (Plain kind spelled) xs → cells_told (xs ++ ys) ≡ cells_told ys
  cells_behind [] ys h = refl
  cells_behind (x ∷ xs) ys h = cells_push x (xs ++ ys) ∙ (ap (λ l. l ++ cells_told (xs ++ ys)) h.0.1 ∙ cells_behind xs ys h.1)

  -- ---- the lines at the end

  module _ (w : World) (bound : ℕ) where
    abbrev epoch_line : Key → ℕ → Line
    epoch_line key e = Epoch key e (kept w key e) (marks_in (journal w key e))

    abbrev epoch_of_flow : Key → ℕ → EpochLine
    epoch_of_flow key e = record { key = key; epoch = e; kept = kept w key e; marks = marks_in (journal w key e) }

    abbrev lines_of : Key × Record → List Line
    lines_of r = item_lines (Mode.Snapshot bound) w r.0 ++ CellsLine r.0 r.1.cells ∷ []

    flow_epochs : (key : Key) (es : List ℕ) (ls : List Line) → epochs_told (map (epoch_line key) es ++ ls) ≡ map (epoch_of_flow key) es ++ epochs_told ls
    flow_epochs key [] ls = refl
    flow_epochs key (e ∷ es) ls = epochs_push (epoch_line key e) (map (epoch_line key) es ++ ls) ∙ ap (λ l. epoch_of_flow key e ∷ l) (flow_epochs key es ls)

    flow_cells : (key : Key) (es : List ℕ) (ls : List Line) → cells_told (map (epoch_line key) es ++ ls) ≡ cells_told ls
    flow_cells key [] ls = refl
    flow_cells key (e ∷ es) ls = cells_push (epoch_line key e) (map (epoch_line key) es ++ ls) ∙ flow_cells key es ls

    end_split : (r : Key × Record) (rs : List (Key × Record)) (ls : List Line) → flat_map lines_of (r ∷ rs) ++ ls ≡ item_lines (Mode.Snapshot bound) w r.0 ++ CellsLine r.0 r.1.cells ∷ (flat_map lines_of rs ++ ls)
    end_split r rs ls =
        ap (λ l. l ++ ls) (flat_map-cons lines_of r rs)
        ∙ (append_assoc (lines_of r) (flat_map lines_of rs) ls ∙ append_assoc (item_lines (Mode.Snapshot bound) w r.0) (CellsLine r.0 r.1.cells ∷ []) (flat_map lines_of rs ++ ls))

    end_epochs : (rs : List (Key × Record)) → epochs_told (flat_map lines_of rs ++ End ∷ []) ≡ flat_map (λ (r : Key × Record). epoch_lines w r.0) rs
    end_epochs [] = refl
    end_epochs (r ∷ rs) =
        ap epochs_told (end_split r rs (End ∷ []))
        ∙ (flow_epochs r.0 (epochs_of r.0 (committed_book w)) (CellsLine r.0 r.1.cells ∷ (flat_map lines_of rs ++ End ∷ []))
        ∙ (ap (λ l. epoch_lines w r.0 ++ l) (epochs_push (CellsLine r.0 r.1.cells) (flat_map lines_of rs ++ End ∷ []) ∙ end_epochs rs)
        ∙ sym (flat_map-cons (λ (r : Key × Record). epoch_lines w r.0) r rs)))

    end_cells : (rs : List (Key × Record)) → cells_told (flat_map lines_of rs ++ End ∷ []) ≡ map (λ (r : Key × Record). (r.0, r.1.cells)) rs
    end_cells [] = refl
    end_cells (r ∷ rs) =
        ap cells_told (end_split r rs (End ∷ []))
        ∙ (flow_cells r.0 (epochs_of r.0 (committed_book w)) (CellsLine r.0 r.1.cells ∷ (flat_map lines_of rs ++ End ∷ []))
        ∙ (cells_push (CellsLine r.0 r.1.cells) (flat_map lines_of rs ++ End ∷ []) ∙ ap (λ l. (r.0, r.1.cells) ∷ l) (end_cells rs)))

    -- ---- the epochs of one flow among all

    own_case : (key k : Key) (es : List ℕ) → same_key k key ≡ true → own_epochs (map (epoch_of_flow k) es) key ≡ map (epoch_of_flow k) es
    own_case key k es same = filter_all (λ (e : EpochLine). same_key e.key key) (map (epoch_of_flow k) es) (each_map _ (epoch_of_flow k) es (λ e. same))

    other_case : (key k : Key) (es : List ℕ) → same_key k key ≡ false → own_epochs (map (epoch_of_flow k) es) key ≡ []
    other_case key k [] ne = refl
    other_case key k (e ∷ es) ne = rw ne (other_case key k es ne)

    own_push : (key : Key) (r : Key × Record) (rs : List (Key × Record)) →
        own_epochs (flat_map (λ (r : Key × Record). epoch_lines w r.0) (r ∷ rs)) key ≡ own_epochs (epoch_lines w r.0) key ++ own_epochs (flat_map (λ (r : Key × Record). epoch_lines w r.0) rs) key
    own_push key r rs =
        ap (λ l. own_epochs l key) (flat_map-cons (λ (r : Key × Record). epoch_lines w r.0) r rs)
        ∙ filter-append (λ (e : EpochLine). same_key e.key key) (epoch_lines w r.0) (flat_map (λ (r : Key × Record). epoch_lines w r.0) rs)

    not_own : (key k : Key) → k ≢ key → same_key k key ≡ false
    not_own key k ne = same_case (same_key k key) refl
      where
        same_case : (t : Bool) → same_key k key ≡ t → t ≡ false
        same_case false is = refl
        same_case true is = absurd (ne (same_key-true k key is))

    none_own : (key : Key) (rs : List (Key × Record)) → Each (λ (r : Key × Record). key ≢ r.0) rs → own_epochs (flat_map (λ (r : Key × Record). epoch_lines w r.0) rs) key ≡ []
    none_own key [] h = refl
    none_own key (r ∷ rs) h =
        own_push key r rs
        ∙ (ap (λ l. l ++ own_epochs (flat_map (λ (r : Key × Record). epoch_lines w r.0) rs) key) (other_case key r.0 (epochs_of r.0 (committed_book w)) (not_own key r.0 (λ same. h.0 (sym same)))) ∙ none_own key rs h.1)

    -- each flow has its epochs among those of these flows, which come behind others
    flows_with : (front rs : List (Key × Record)) → ((r : Key × Record) → In rs r → Each (λ (q : Key × Record). r.0 ≢ q.0) front) → KeysDiffer rs →
        map (flow_with (flat_map (λ (r : Key × Record). epoch_lines w r.0) (front ++ rs))) (map (λ (r : Key × Record). (r.0, r.1.cells)) rs) ≡ map (committed_epochs w) rs
    flows_with front [] apart differ = refl
    flows_with front (r ∷ rs) apart differ =
        let all : List EpochLine = flat_map (λ (r : Key × Record). epoch_lines w r.0) (front ++ r ∷ rs) in
        let own : own_epochs (flat_map (λ (r : Key × Record). epoch_lines w r.0) (front ++ r ∷ rs)) r.0 ≡ epoch_lines w r.0 =
        ap (λ l. own_epochs l r.0) (flat_map-append (λ (r : Key × Record). epoch_lines w r.0) front (r ∷ rs))
        ∙ (filter-append (λ (e : EpochLine). same_key e.key r.0) (flat_map (λ (r : Key × Record). epoch_lines w r.0) front) (flat_map (λ (r : Key × Record). epoch_lines w r.0) (r ∷ rs))
        ∙ (ap (λ l. l ++ own_epochs (flat_map (λ (r : Key × Record). epoch_lines w r.0) (r ∷ rs)) r.0) (none_own r.0 front (apart r (inl refl)))
        ∙ (own_push r.0 r rs
        ∙ (ap (λ l. own_epochs (epoch_lines w r.0) r.0 ++ l) (none_own r.0 rs differ.0) ∙ (append-nil (own_epochs (epoch_lines w r.0) r.0) ∙ own_case r.0 r.0 (epochs_of r.0 (committed_book w)) (same_key-refl r.0)))))) in
        let rest : map (flow_with (flat_map (λ (r : Key × Record). epoch_lines w r.0) (front ++ r ∷ rs))) (map (λ (r : Key × Record). (r.0, r.1.cells)) rs) ≡ map (committed_epochs w) rs =
        subst (λ l. map (flow_with (flat_map (λ (r : Key × Record). epoch_lines w r.0) l)) (map (λ (r : Key × Record). (r.0, r.1.cells)) rs) ≡ map (committed_epochs w) rs) (append_assoc front (r ∷ []) rs)
        (flows_with (front ++ r ∷ []) rs (λ q i. each_append (λ (p : Key × Record). q.0 ≢ p.0) front (r ∷ []) (apart q (inr i)) ((λ same. other_in q i same), tt)) differ.1) in
        ap (λ l. record { key = r.0; epochs = l; cells = r.1.cells } ∷ map (flow_with (flat_map (λ (r : Key × Record). epoch_lines w r.0) (front ++ r ∷ rs))) (map (λ (r : Key × Record). (r.0, r.1.cells)) rs)) own
        ∙ ap (λ l. committed_epochs w r ∷ l) rest
      where
        other_in : (q : Key × Record) → In rs q → q.0 ≡ r.0 → ⊥
        other_in q i same = each_at rs q differ.0 i (sym same)
          where
            each_at : (qs : List (Key × Record)) (q : Key × Record) → Each (λ (b : Key × Record). r.0 ≢ b.0) qs → In qs q → r.0 ≢ q.0
            each_at [] q h i = absurd i
            each_at (x ∷ xs) q h (inl e) = subst (λ (y : Key × Record). r.0 ≢ y.0) e h.0
            each_at (x ∷ xs) q h (inr j) = each_at xs q h.1 j

  -- a report's lines tell the committed flows
  told_flows : (app : Application) (w : World) (bound : ℕ) (front : List Line) → w.terms.mode ≡ Mode.Snapshot bound → Each (Plain kind spelled) front →
      epoch_flows (printed kind spelled (front ++ end_lines app.cell_count w)) ≡ map (committed_epochs w) (committed_records app.cell_count w)
  told_flows app w bound front mode plain =
      let rs : List (Key × Record) = committed_records app.cell_count w in
      let ends : (flat_map (lines_of w bound) (committed_records app.cell_count w) ++ End ∷ []) ≡ end_lines app.cell_count w =
      ap (λ m. flat_map (λ (r : Key × Record). item_lines m w r.0 ++ CellsLine r.0 r.1.cells ∷ []) (committed_records app.cell_count w) ++ End ∷ []) (sym mode) in
      let epochs : epochs_told (front ++ end_lines app.cell_count w) ≡ flat_map (λ (r : Key × Record). epoch_lines w r.0) (committed_records app.cell_count w) =
      epochs_behind front (end_lines app.cell_count w) plain ∙ (ap epochs_told (sym ends) ∙ end_epochs w bound (committed_records app.cell_count w)) in
      let cells : cells_told (front ++ end_lines app.cell_count w) ≡ map (λ (r : Key × Record). (r.0, r.1.cells)) (committed_records app.cell_count w) =
      cells_behind front (end_lines app.cell_count w) plain ∙ (ap cells_told (sym ends) ∙ end_cells w bound (committed_records app.cell_count w)) in
      ap (λ l. map (flow_with l) (cells_told (front ++ end_lines app.cell_count w))) epochs
      ∙ (ap (λ l. map (flow_with (flat_map (λ (r : Key × Record). epoch_lines w r.0) (committed_records app.cell_count w))) l) cells
      ∙ flows_with w bound [] (committed_records app.cell_count w) (λ r i. tt) (records_differ app.cell_count (committed_book w) [] tt))

  pub report_told : (app : Application) (setup : Setup) (bound : ℕ) → setup.terms.mode ≡ Mode.Snapshot bound → (events : List Event) (frames : Bool) →
      epoch_flows (printed kind spelled (report frames app setup events)) ≡ map (committed_epochs (world_after app (opened app.cell_count setup) events)) (committed_records app.cell_count (world_after app (opened app.cell_count setup) events))
  report_told app setup bound mode events frames =
      told_flows app (run app setup events).0 bound (if frames then (run app setup events).1 else without_sends (run app setup events).1) (ap (λ (t : Terms). t.mode) (same_terms app setup events) ∙ mode)
      (plain_seen frames (run app setup events).1 (plain_run app (opened app.cell_count setup) events))

  -- ---- over a link

  plain_pump : (app : Application) → PumpKeeps app (λ (p : Pumped). Each (Plain kind spelled) p.lines)
  plain_pump app =
      record {
        takes = λ p xs h. h;
        begins = λ p h. h;
        stranger = λ p node h. each_append (Plain kind spelled) p.lines (Stranger p.world.event node ∷ []) h ((refl, refl), tt);
        full = λ p h. each_append (Plain kind spelled) p.lines (Refused p.world.event Refusal.FramesFull ∷ []) h ((refl, refl), tt);
        hands = λ p i m at up h.
            each_append (Plain kind spelled) p.lines (node_takes app (frame_passed p.world i) m.to (Input.Msg m)).1 h (plain_node app (frame_passed p.world i) m.to (Input.Msg m));
      }

  plain_linked : (app : Application) (es : List Event) (p : Pumped) → Each (Plain kind spelled) p.lines → Each (Plain kind spelled) (fold (linked_event spelled app) p es).lines
  plain_linked app [] p h = h
  plain_linked app (e ∷ es) p h =
      let w : World = next_event p.world in
      plain_linked app es (linked_event spelled app p e)
      (acted_by spelled app (λ (q : Pumped). Each (Plain kind spelled) q.lines) (record p { world = next_event p.world }) (act_of app (next_event p.world) e)
      (λ is. pump_kept spelled app (λ (q : Pumped). Each (Plain kind spelled) q.lines) (plain_pump app) (record p { world = next_event p.world }) h)
      (each_append (Plain kind spelled) p.lines (perform_act app (next_event p.world) (act_of app (next_event p.world) e)).1 h (plain_act app (next_event p.world) (act_of app (next_event p.world) e))))

  pub linked_told : (app : Application) (setup : Setup) (bound : ℕ) → setup.terms.mode ≡ Mode.Snapshot bound → (events : List Event) (received : List Received) (frames : Bool) →
      epoch_flows (printed kind spelled (linked_report spelled frames app setup events received)) ≡
      map (committed_epochs (linked_run spelled app setup events received).world) (committed_records app.cell_count (linked_run spelled app setup events received).world)
  linked_told app setup bound mode events received frames =
      let p = linked_run spelled app setup events received in
      let terms : (linked_run spelled app setup events received).world.terms ≡ setup.terms = linked_kept spelled app (λ (w : World). w.terms ≡ setup.terms) (terms_kept app setup.terms) setup events received refl in
      told_flows app p.world bound (if frames then p.lines else without_sends p.lines) (ap (λ (t : Terms). t.mode) terms ∙ mode)
      (plain_seen frames p.lines (plain_linked app events (record { world = opened app.cell_count setup; lines = []; rest = received; ended = false }) tt))
