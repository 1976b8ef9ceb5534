-- What a whole run over a link writes is its report.
use Rattle.std.proofs.Common.{◌≡◌, ℕ, Bool, true, false, List, [], ◌∷◌, ◌++◌, map, refl, sym, ap, ◌∙◌}
use Rattle.std.specs.Prelude.{flat_map}
use Rattle.std.proofs.lemmas.List.Concat.{flat_map-cons}
use Rattle.rp_base.specs.declared.event.Event.{Event}
use Rattle.rp_app.specs.Application.{Application}
use Rattle.key_table.specs.Table.{Key}
use Rattle.proto_data.specs.declared.message.Msg.{Msg}
use Rattle.proto_data.specs.declared.message.Record.{Record}
use Rattle.proto_data.specs.declared.terms.Mode.{Mode}
use Rattle.proto_model.specs.Committed.{committed_book, committed_records, epochs_of, journal}
use Rattle.proto_model.specs.EndLines.{end_lines, flow_lines, item_lines}
use Rattle.proto_model.specs.Kept.{kept, marks_in}
use Rattle.proto_model.specs.Lines.{Line, Release, Dropped, LostLine, Refused, Stranger, Send, Serial, Epoch, CellsLine, End, without_sends}
use Rattle.proto_model.specs.Pumping.{Received, linked_run}
use Rattle.proto_model.specs.World.{Setup, World}
use Rattle.proto_safety.specs.LegalLines.{linked_report}
use Rattle.link_trace.specs.Carried.{seen}
use Rattle.link_trace.specs.Doings.{Says, all_did, lines_of, run_did}
use Rattle.link_trace.proofs.Told.{lines_append, run_lines}

without_append : (ls ks : List Line) → without_sends (ls ++ ks) ≡ without_sends ls ++ without_sends ks
without_append [] ks = refl
without_append (Release event mark port bytes ∷ ls) ks = ap (λ l. Release event mark port bytes ∷ l) (without_append ls ks)
without_append (Dropped event mark cause ∷ ls) ks = ap (λ l. Dropped event mark cause ∷ l) (without_append ls ks)
without_append (LostLine event cause ∷ ls) ks = ap (λ l. LostLine event cause ∷ l) (without_append ls ks)
without_append (Refused event cause ∷ ls) ks = ap (λ l. Refused event cause ∷ l) (without_append ls ks)
without_append (Stranger event node ∷ ls) ks = ap (λ l. Stranger event node ∷ l) (without_append ls ks)
without_append (Send event frame from to kind m ∷ ls) ks = without_append ls ks
without_append (Serial key marks ∷ ls) ks = ap (λ l. Serial key marks ∷ l) (without_append ls ks)
without_append (Epoch key epoch kept marks ∷ ls) ks = ap (λ l. Epoch key epoch kept marks ∷ l) (without_append ls ks)
without_append (CellsLine key cells ∷ ls) ks = ap (λ l. CellsLine key cells ∷ l) (without_append ls ks)
without_append (End ∷ ls) ks = ap (λ l. End ∷ l) (without_append ls ks)

-- ---- the lines at the end are of no frames

abbrev Stays : List Line → Type 0
Stays ls = without_sends ls ≡ ls

both_stay : (ls ks : List Line) → Stays ls → Stays ks → Stays (ls ++ ks)
both_stay ls ks a b = without_append ls ks ∙ (ap (λ l. l ++ without_sends ks) a ∙ ap (λ l. ls ++ l) b)

module _ (w : World) where
  epochs_stay : (key : Key) (es : List ℕ) → Stays (map (λ e. Epoch key e (kept w key e) (marks_in (journal w key e))) es)
  epochs_stay key [] = refl
  epochs_stay key (e ∷ es) = ap (λ l. Epoch key e (kept w key e) (marks_in (journal w key e)) ∷ l) (epochs_stay key es)

  items_stay : (mode : Mode) (key : Key) → Stays (item_lines mode w key)
  items_stay Mode.Strict key = refl
  items_stay (Mode.Snapshot bound) key = epochs_stay key (epochs_of key (committed_book w))

  flows_stay : (rs : List (Key × Record)) → Stays (flat_map (flow_lines w) rs)
  flows_stay [] = refl
  flows_stay (r ∷ rs) =
      let first : Stays (flow_lines w r) = both_stay (item_lines w.terms.mode w r.0) (CellsLine r.0 r.1.cells ∷ []) (items_stay w.terms.mode r.0) refl in
      ap without_sends (flat_map-cons (flow_lines w) r rs) ∙ (both_stay (flow_lines w r) (flat_map (flow_lines w) rs) first (flows_stay rs) ∙ sym (flat_map-cons (flow_lines w) r rs))

  ends_stay : (cells : ℕ) → Stays (end_lines cells w)
  ends_stay cells = both_stay (flat_map (flow_lines w) (committed_records cells w)) (End ∷ []) (flows_stay (committed_records cells w)) refl

-- ---- the report

said_lines : (ls : List Line) → lines_of (map (λ l. Says l) ls) ≡ ls
said_lines [] = refl
said_lines (l ∷ ls) = ap (λ x. l ∷ x) (said_lines ls)

module _ (spelled : Msg → List ℕ) (app : Application) (setup : Setup) (events : List Event) (received : List Received) where
  all_lines : lines_of (all_did spelled app setup events received) ≡ (linked_run spelled app setup events received).lines ++ end_lines app.cell_count (linked_run spelled app setup events received).world
  all_lines =
      let w : World = (linked_run spelled app setup events received).world in
      lines_append (run_did spelled app setup events received) (map (λ l. Says l) (end_lines app.cell_count (linked_run spelled app setup events received).world))
      ∙ (ap (λ l. l ++ lines_of (map (λ l. Says l) (end_lines app.cell_count (linked_run spelled app setup events received).world))) (run_lines spelled app setup events received)
      ∙ ap (λ l. (linked_run spelled app setup events received).lines ++ l) (said_lines (end_lines app.cell_count w)))

  pub all_seen : (frames : Bool) → seen frames (lines_of (all_did spelled app setup events received)) ≡ linked_report spelled frames app setup events received
  all_seen true = all_lines
  all_seen false =
      let p = linked_run spelled app setup events received in
      ap without_sends all_lines ∙ (without_append p.lines (end_lines app.cell_count p.world) ∙ ap (λ l. without_sends p.lines ++ l) (ends_stay p.world app.cell_count))
