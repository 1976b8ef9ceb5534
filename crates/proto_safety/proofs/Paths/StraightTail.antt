-- Where a straight path turns: what the committed book says once the tail has answered, and the switch's step at the last hop.
use Rattle.std.proofs.Common.{◌≡◌, ℕ, ◌+◌, ◌≤◌, List, [], ◌∷◌, ◌++◌, Option, Some, None, refl, sym, ap, ◌∙◌, subst, slice_get, set, take}
use Rattle.std.specs.Prelude.{option_map}
use Rattle.std.proofs.lemmas.Grind.{fold-append}
use Rattle.rp_base.specs.declared.node.Node.{Node}
use Rattle.proto_data.specs.declared.message.Entry.{Entry}
use Rattle.proto_data.specs.declared.message.Input.{Input}
use Rattle.proto_data.specs.declared.message.Record.{Record}
use Rattle.proto_data.specs.declared.message.Carried.{Carried}
use Rattle.proto_data.specs.declared.terms.Mode.{Mode}
use Rattle.rp_app.specs.Application.{Delta}
use Rattle.proto_model.specs.Effects.{frame_passed, switch_moved}
use Rattle.proto_model.specs.ReplicaRows.{with_entry}
use Rattle.proto_model.specs.ReplicaState.{Replica, StoreStep, record_at, is_tail}
use Rattle.proto_model.specs.Runs.{Run, before, act_at}
use Rattle.proto_model.specs.Stands.{Stands, entries_of}
use Rattle.proto_model.specs.Straight.{Hop, Hops}
use Rattle.proto_model.specs.SwitchRows.{switch_step}
use Rattle.key_table.specs.Table.{Key}
use Rattle.proto_model.specs.World.{World, SwitchNode, ReplicaNode, opened}
use Rattle.proto_model.specs.WorldStep.{Delivers, node_takes, switch_takes, next_event}
use Rattle.proto_safety.specs.Books.{IsPrefix, BooksHold, committed_of}
use Rattle.proto_safety.specs.Flows.{FlowRecord, FitsFrom, flow_in, flow_of, flow_step}
use Rattle.proto_safety.proofs.Store.BookEpochLaws.{books_fit}
use Rattle.proto_safety.proofs.Store.BookEpochs.{fits_parts}
use Rattle.proto_safety.proofs.Store.BooksStep.{node_after, tail_book}
use Rattle.proto_safety.proofs.Leasing.Ground.{Ground, IsStrict, strict_kept, ground_kept}
use Rattle.proto_safety.proofs.Inductions.Induction.{Comes, keeps_both, run_kept}
use Rattle.proto_safety.proofs.Legality.LegalRun.{opened_ground}
use Rattle.proto_safety.proofs.Inductions.RunSteps.{event_at, kept_between}
use Rattle.proto_safety.proofs.Messages.StoreReplies.{record_flow}
use Rattle.proto_model.proofs.StoreStands.{book_after, entries_of-push}
use Rattle.proto_safety.proofs.Paths.StraightHops.{Answered}
use Rattle.key_table.proofs.Tables.{same_key-refl}
use Rattle.proto_safety.proofs.Store.WorldBooks.{books_kept, books_hold, known_input, committed_kept}
use Rattle.proto_safety.proofs.Store.WorldFits.{NodeFits}
use Rattle.proto_safety.proofs.Basics.Eachs.{each_at}
use Rattle.proto_safety.proofs.Basics.Lists.{get-set_same}
use Rattle.proto_safety.proofs.Basics.Prefixes.{prefix_same}

-- ---- what the tail has committed

module _ (r : Run) (c : Carried) (e : Entry) (last : Hop) (a : Answered r c e last) where
  abbrev was : World
  was = before r a.hop.place

  abbrev now : World
  now = before r (a.hop.place + 1)

  abbrev after : ReplicaNode
  after = node_after a.here.node (was.event + 1) (Input.Msg a.hop.msg)

  comes : Comes was (Node.Replica a.here.n) (Input.Msg a.hop.msg)
  comes = (a.here.to_is, (a.hop.frame, a.here.sent))

  replicas_are : now.replicas ≡ set was.replicas a.here.n after
  replicas_are = ap (λ (w : World). w.replicas) a.here.after

  state_is : after.state ≡ record (with_entry a.here.node.state e a.here.node.clock) { known = a.here.node.state.applied + 1 }
  state_is = ap (λ (x : StoreStep). x.0) a.step_is

  pub entries_are : entries_of after.book ≡ entries_of a.here.node.book ++ e ∷ []
  entries_are =
      ap (λ (x : StoreStep). entries_of (book_after a.here.node.clock (was.event + 1) a.here.node.book x.1.applied)) a.step_is
      ∙ entries_of-push a.here.node.book (record { entry = e; moment = a.here.node.clock; event = was.event + 1 })

  pub committed_is : committed_of now.replicas ≡ entries_of a.here.node.book ++ e ∷ []
  committed_is =
      let b = books_hold r.app r.setup (take a.hop.place r.events) in
      ap committed_of replicas_are
      ∙ (tail_book b.0 was.config was.replicas a.here.n a.here.node (was.event + 1) (Input.Msg a.hop.msg) a.here.at a.here.up b.1.configs b.1.nodes (known_input b.0 was a.here.n (Input.Msg a.hop.msg) comes b.1) (ap is_tail state_is ∙ a.tail)
      ∙ entries_are)

  pub node_there : slice_get now.replicas a.here.n ≡ Some after
  node_there = ap (λ l. slice_get l a.here.n) replicas_are ∙ get-set_same was.replicas a.here.n a.here.node after a.here.at

  fits : NodeFits r.app.cell_count after
  fits = each_at (NodeFits r.app.cell_count) now.replicas a.here.n after (books_fit r.app r.setup (take (a.hop.place + 1) r.events)) node_there

  pub book_fits : (key : Key) → FitsFrom r.app.cell_count key None (entries_of a.here.node.book ++ e ∷ [])
  book_fits key = subst (λ l. FitsFrom r.app.cell_count key None l) entries_are (fits.fits key)

  -- its record is what its book says
  pub record_says : (key : Key) (rec : Record) → record_at (with_entry a.here.node.state e a.here.node.clock) key ≡ Some rec → flow_of r.app.cell_count key (entries_of a.here.node.book ++ e ∷ []) ≡ Some (flow_in rec)
  record_says key rec at =
      let stands : Stands after.state after.book = ((books_hold r.app r.setup (take (a.hop.place + 1) r.events)).1.nodes a.here.n after node_there).stands in
      let flow : flow_of after.state.cell_count key (entries_of after.book) ≡ Some (flow_in rec) = record_flow after.state after.book key rec stands (ap (λ (s : Replica). record_at s key) state_is ∙ at) in
      subst (λ l. flow_of r.app.cell_count key l ≡ Some (flow_in rec)) entries_are (subst (λ (k : ℕ). flow_of k key (entries_of after.book) ≡ Some (flow_in rec)) fits.cells_are flow)

  -- and stays committed
  pub stays_committed : (i : ℕ) → a.hop.place + 1 ≤ i → IsPrefix (entries_of a.here.node.book ++ e ∷ []) (committed_of (before r i).replicas)
  stays_committed i le =
      (kept_between r (λ w. BooksHold w × IsPrefix (entries_of a.here.node.book ++ e ∷ []) (committed_of w.replicas))
      (keeps_both r.app BooksHold (λ w. IsPrefix (entries_of a.here.node.book ++ e ∷ []) (committed_of w.replicas)) (books_kept r.app) (committed_kept r.app (entries_of a.here.node.book ++ e ∷ []))) (a.hop.place + 1) i le
      (books_hold r.app r.setup (take (a.hop.place + 1) r.events), subst (λ l. IsPrefix l (committed_of now.replicas)) committed_is (prefix_same (committed_of now.replicas)))).1

-- the flow behind a Put has its epoch
pub last_flow : (n : ℕ) (key : Key) (es : List Entry) (epoch number : ℕ) (delta : Delta) (f : FlowRecord) → FitsFrom n key None (es ++ Entry.Put key epoch number delta ∷ []) → flow_of n key (es ++ Entry.Put key epoch number delta ∷ []) ≡ Some f → f.epoch ≡ epoch
last_flow n key es epoch number delta f fits flow = flow_case (flow_of n key es) refl (fits_parts n key None es (Entry.Put key epoch number delta ∷ []) fits).1 (sym (fold-append (flow_step n key) None es (Entry.Put key epoch number delta ∷ [])) ∙ flow)
  where
    flow_case : (o : Option FlowRecord) → flow_of n key es ≡ o → FitsFrom n key o (Entry.Put key epoch number delta ∷ []) → flow_step n key o (Entry.Put key epoch number delta) ≡ Some f → f.epoch ≡ epoch
    flow_case None is h at = absurd (h.0 (same_key-refl key))
    flow_case (Some g) is h at =
        let same : option_map (λ (x : FlowRecord). x.epoch) (flow_step n key (Some g) (Entry.Put key epoch number delta)) ≡ Some g.epoch = rw (same_key-refl key) refl in
        let both : Some g.epoch ≡ Some f.epoch = sym same ∙ ap (λ o. option_map (λ (x : FlowRecord). x.epoch) o) at in
        let e : g.epoch ≡ f.epoch = cc in sym e ∙ (h.0 (same_key-refl key)).0

-- ---- the last hop

pub hop_delivered : (r : Run) (c : Carried) (place : ℕ) (hs : List Hop) (last : Hop) → Hops r c place hs last → act_at r last.place ≡ Some (Delivers last.frame last.msg)
hop_delivered r c place [] last h = h.delivered
hop_delivered r c place (x ∷ hs) last h = hop_delivered r c x.place hs last h.1

-- the switch takes the answer
pub answer_taken : (r : Run) (s : ℕ) (last : Hop) (node : SwitchNode) → act_at r last.place ≡ Some (Delivers last.frame last.msg) → last.msg.to ≡ Node.Switch s → slice_get (before r last.place).switches s ≡ Some node →
    before r (last.place + 1) ≡ switch_moved (frame_passed (next_event (before r last.place)) last.frame) s node (switch_step r.app node.state node.clock (Input.Msg last.msg))
answer_taken r s last node delivered to at =
    let e = event_at r last.place (Delivers last.frame last.msg) delivered in
    e.then
    ∙ (ap (λ (k : Node). (node_takes r.app (frame_passed (next_event (before r last.place)) last.frame) k (Input.Msg last.msg)).0) to
    ∙ ap (λ o. (switch_takes r.app (frame_passed (next_event (before r last.place)) last.frame) s (Input.Msg last.msg) o).0) at)

-- a switch of a strict run is strict
pub strict_there : (r : Run) (i s : ℕ) (node : SwitchNode) → r.setup.terms.mode ≡ Mode.Strict → slice_get (before r i).switches s ≡ Some node → node.state.terms.mode ≡ Mode.Strict
strict_there r i s node strict at =
    let g : Ground r.app.cell_count (before r i) = run_kept r.app (Ground r.app.cell_count) (ground_kept r.app) (take i r.events) (opened r.app.cell_count r.setup) (opened_ground r.app r.setup) in
    let mode : IsStrict (before r i) = run_kept r.app IsStrict (strict_kept r.app) (take i r.events) (opened r.app.cell_count r.setup) strict in
    ap (λ t. t.mode) (g.1.1.switches s node at) ∙ mode
