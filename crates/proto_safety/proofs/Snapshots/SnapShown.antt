-- In snapshot mode: what was released, and the order of items, over every run.
use Rattle.std.proofs.Common.{◌≡◌, ◌⊎◌, inl, inr, ℕ, ◌+◌, ◌≤◌, List, [], ◌∷◌, ◌++◌, Option, Some, None, arith, refl, sym, ◌∙◌, ap, subst, true, false, Bool, append-nil, slice_get}
use Rattle.std.specs.Prelude.{option_map, option_and_then, ◌==◌, if◌then◌else◌}
use Rattle.std.specs.Option.{option_or}
use Rattle.std.proofs.lemmas.List.Folds.{find-append}
use Rattle.rp_base.specs.declared.node.Node.{Node}
use Rattle.rp_base.specs.declared.node.Packet.{Packet}
use Rattle.rp_base.specs.declared.node.Output.{Output}
use Rattle.proto_data.specs.declared.message.Input.{Input}
use Rattle.proto_data.specs.declared.message.Body.{Body}
use Rattle.proto_safety.specs.Flows.{FlowRecord, flow_of}
use Rattle.proto_data.specs.declared.message.Carried.{Carried}
use Rattle.rp_app.specs.Application.{Application, IsApplication}
use Rattle.proto_data.specs.Carrying.{packet_of}
use Rattle.key_table.specs.Table.{Key}
use Rattle.proto_model.specs.Effects.{added, made_output}
use Rattle.proto_model.specs.Feeds.{Each, Pairwise, fed_at, packet_at}
use Rattle.proto_model.specs.SwitchState.{Item, SwitchStep}
use Rattle.proto_model.specs.SwitchRows.{switch_step}
use Rattle.proto_model.specs.World.{World, SwitchNode, Journaled}
use Rattle.rp_base.specs.declared.legality.Fed.{Fed}
use Rattle.rp_base.specs.declared.legality.Released.{Released}
use Rattle.proto_safety.specs.Books.{In, committed_of}
use Rattle.proto_safety.specs.LossLaws.{ReleasedBy, keyless, by_item}
use Rattle.proto_safety.proofs.Serial.CellsGround.{items_known}
use Rattle.proto_safety.proofs.Serial.CellsStep.{Brought}
use Rattle.proto_safety.proofs.Serial.SlotCells.{AllCounted}
use Rattle.proto_safety.proofs.Messages.FramesCarry.{found_new}
use Rattle.proto_safety.proofs.Leasing.NoCopies.{no_copies_at}
use Rattle.proto_safety.proofs.Snapshots.SnapRounds.{SnapHold}
use Rattle.proto_safety.proofs.Snapshots.SnapRun.{Celled, snap_facts}
use Rattle.proto_safety.proofs.Snapshots.SnapStep.{Processed, step_processed, step_released}
use Rattle.proto_safety.proofs.Nodes.SwitchTable.{msg, no_message}
use Rattle.proto_safety.proofs.Messages.WorldOutputs.{counted_of}
use Rattle.proto_safety.proofs.Snapshots.WorldSnaps.{SnapFacts, brought_by, packet_carried, fed_hold}
use Rattle.proto_safety.proofs.Inductions.Induction.{KeepsGiven}
use Rattle.proto_safety.proofs.Basics.Eachs.{each_all, each_append, each_in, each_weaker}
use Rattle.proto_safety.proofs.Basics.Members.{in_append, in_front}
use Rattle.proto_safety.proofs.Basics.Pairs.{pairwise_push}

-- items stand in order of their events, and epochs of a flow don't fall
abbrev pub ItemTurn : Journaled → Journaled → Type 0
ItemTurn a b = (a.event ≤ b.event) × (a.item.key ≡ b.item.key → a.item.epoch ≤ b.item.epoch)

pub record SnapShows (app : Application) (event : ℕ) (feeds : List Fed) (items : List Journaled) (released : List Released) : Type 0 where
  pub within : Each (λ (f : Fed). f.event ≤ event) feeds
  pub items_within : Each (λ (j : Journaled). j.event ≤ event) items
  pub turns : Pairwise ItemTurn items
  -- an item's packet was fed no later than the item
  pub fed_first : (j : Journaled) → In items j → (f : Fed) × ((fed_at feeds j.item.mark ≡ Some f) × (f.event ≤ j.event))
  pub shown : (r : Released) → In released r → ReleasedBy app feeds items r

abbrev pub Shows : Application → World → Type 0
Shows app w = SnapShows app w.event w.history.fed w.history.items w.history.released

-- ---- one more feed

fed_still : (feeds more : List Fed) (m : ℕ) (f : Fed) → fed_at feeds m ≡ Some f → fed_at (feeds ++ more) m ≡ Some f
fed_still feeds more m f is = find-append (λ (g : Fed). g.packet.mark == m) feeds more ∙ ap (λ o. option_or o (fed_at more m)) is

found_fed : (feeds : List Fed) (m : ℕ) (p : Packet) → packet_at feeds m ≡ Some p → (f : Fed) × (fed_at feeds m ≡ Some f)
found_fed feeds m p is = fed_case (fed_at feeds m) refl
  where
    fed_case : (o : Option Fed) → fed_at feeds m ≡ o → (f : Fed) × (fed_at feeds m ≡ Some f)
    fed_case None e = let no_packet : None ≡ Some p = ap (λ o. option_map (λ (f : Fed). f.packet) o) (sym e) ∙ is in cc
    fed_case (Some f) e = (f, e)

in_found : (feeds : List Fed) (m : ℕ) (f : Fed) → fed_at feeds m ≡ Some f → In feeds f
in_found [] m f at = cc
in_found (g ∷ gs) m f at = found_case (g.packet.mark == m) at (in_found gs m f)
  where
    found_case : (b : Bool) → (if b then Some g else fed_at gs m) ≡ Some f → (fed_at gs m ≡ Some f → In gs f) → In (g ∷ gs) f
    found_case true at rest = inl cc
    found_case false at rest = inr (rest at)

-- a release that was shown is shown with more feeds and items, where its packet is found
shown_on : (app : Application) (feeds more : List Fed) (items add : List Journaled) (r : Released) → ReleasedBy app feeds items r → ReleasedBy app (feeds ++ more) (items ++ add) r
shown_on app feeds more items add r (by_item j i mark out event) = by_item j (in_front items add j i) mark out event
shown_on app feeds more items add r (keyless none out) =
    let f = found_fed feeds r.output.mark out.0 out.1 in
    let still : packet_at (feeds ++ more) r.output.mark ≡ Some out.0 =
    ap (λ o. option_map (λ (g : Fed). g.packet) o) (fed_still feeds more r.output.mark f.0 f.1) ∙ (sym (ap (λ o. option_map (λ (g : Fed). g.packet) o) f.1) ∙ out.1) in
    keyless (ap (λ o. option_and_then app.key_of o) (still ∙ sym out.1) ∙ none) (out.0, still, out.2)

-- ---- a switch's step

module _ (app : Application) (bound : ℕ) (w : World) (c : Celled app bound w) (is : IsApplication app) (counted : AllCounted app w) (h : Shows app w) where
  abbrev f : SnapFacts app bound w
  f = snap_facts app bound w c.0

  abbrev items : List Journaled
  items = w.history.items

  -- with these feeds, at this event
  module _ (feeds more : List Fed) (feeds_are : feeds ≡ w.history.fed ++ more) (event : ℕ) (later : w.event ≤ event) (within : Each (λ (g : Fed). g.event ≤ event) feeds) (n : ℕ) (node : SwitchNode) (input : Input)
      (hold : SnapHold app feeds (committed_of w.replicas) w.history.items w.history.rounds w.frames w.switches) (at : slice_get w.switches n ≡ Some node) (up : node.runs ≡ true) (brought : Brought w feeds n input)
      (carried : (c : Carried) (key : Key) (from to : Node) (inc nonce epoch : ℕ) (cells : List ℕ) → input ≡ msg from to (Body.Grant inc nonce epoch key cells (Some c)) → (packet_at feeds c.mark ≡ Some (packet_of c)) × (app.key_of (packet_of c) ≡ Some key)) where
    abbrev step : SwitchStep
    step = switch_step app node.state node.clock input

    abbrev on : Option Item → List Journaled
    on o = items ++ added (λ (x : Item). record { event = event; item = x; output = made_output step.1.released step.1.sent }) o

    processed : (x : Item) → step.1.item ≡ Some x → Processed app w feeds n bound node input f.settled f.ends (no_copies_at app w n bound node f.copyless at (f.modes n node at)) (f.modes n node at) hold at up brought carried x
    processed x out = step_processed app w feeds n bound node input f.settled f.ends (no_copies_at app w n bound node f.copyless at (f.modes n node at)) (f.modes n node at) hold at up brought carried x out

    old_first : (j : Journaled) → In items j → (g : Fed) × ((fed_at feeds j.item.mark ≡ Some g) × (g.event ≤ j.event))
    old_first j i = let x = h.fed_first j i in (x.0, (ap (λ l. fed_at l j.item.mark) feeds_are ∙ fed_still w.history.fed more j.item.mark x.0 x.1.0, x.1.1))

    -- what items there are
    items_on : (o : Option Item) → step.1.item ≡ o → Each (λ (j : Journaled). j.event ≤ event) (on o) × (Pairwise ItemTurn (on o) × ((j : Journaled) → In (on o) j → (g : Fed) × ((fed_at feeds j.item.mark ≡ Some g) × (g.event ≤ j.event))))
    items_on None none =
        let same : items ≡ items ++ [] = sym (append-nil items) in
        subst (λ l. Each (λ (j : Journaled). j.event ≤ event) l × (Pairwise ItemTurn l × ((j : Journaled) → In l j → (g : Fed) × ((fed_at feeds j.item.mark ≡ Some g) × (g.event ≤ j.event))))) same (
          each_weaker (λ (j : Journaled). j.event ≤ w.event) (λ (j : Journaled). j.event ≤ event) items (λ j le. omega (arith, le, later)) h.items_within,
          (h.turns, old_first),
        )
    items_on (Some x) some =
        let p = processed x some in
        let g = found_fed feeds x.mark p.packet p.fed_at in
        let j : Journaled = record { event = event; item = x; output = made_output step.1.released step.1.sent } in (
          each_append (λ (j : Journaled). j.event ≤ event) items _ (each_weaker (λ (j : Journaled). j.event ≤ w.event) (λ (j : Journaled). j.event ≤ event) items (λ j le. omega (arith, le, later)) h.items_within) (omega arith, tt),
          (
            pairwise_push ItemTurn items (record { event = event; item = x; output = made_output step.1.released step.1.sent }) h.turns
                (each_all (λ (i : Journaled). ItemTurn i (record { event = event; item = x; output = made_output step.1.released step.1.sent })) items
                (λ i there. (
                  let le : i.event ≤ w.event = each_in (λ (j : Journaled). j.event ≤ w.event) items i h.items_within there in omega (arith, le, later),
                  λ same. epoch_low x p.top.flow p.top.flow_is p.top.epoch_is i there same,
                ))),
            λ i there. first_case x g.0 g.1 (each_in (λ (g : Fed). g.event ≤ event) feeds g.0 within (in_found feeds x.mark g.0 g.1)) i (in_append items _ i there),
          ),
        )
      where
        epoch_low : (x : Item) (fl : FlowRecord) → flow_of app.cell_count x.key (committed_of w.replicas) ≡ Some fl → fl.epoch ≡ x.epoch → (i : Journaled) → In items i → i.item.key ≡ x.key → i.item.epoch ≤ x.epoch
        epoch_low x fl flow epoch i there same =
            let k = (items_known app w f.settled f.ends x.key).granted i there same in
            let e : k.0 ≡ fl = cc (sym k.1.0 ∙ flow) in omega (arith, k.1.1, epoch, ap (λ (y : FlowRecord). y.epoch) e)

        first_case : (x : Item) (g : Fed) → fed_at feeds x.mark ≡ Some g → g.event ≤ event → (i : Journaled) → In items i ⊎ In (record { event = event; item = x; output = made_output step.1.released step.1.sent } ∷ []) i → (g : Fed) × ((fed_at feeds i.item.mark ≡ Some g) × (g.event ≤ i.event))
        first_case x g at_g le i (inl k) = old_first i k
        first_case x g at_g le i (inr (inl e)) = subst (λ (y : Journaled). (g : Fed) × ((fed_at feeds y.item.mark ≡ Some g) × (g.event ≤ y.event))) e (g, (at_g, le))
        first_case x g at_g le i (inr (inr k)) = absurd k

    released_on : (o : Option Output) → step.1.released ≡ o → (r : Released) → In (w.history.released ++ added (λ (x : Output). record { event = event; output = x }) o) r → ReleasedBy app feeds (on step.1.item) r
    released_on None none r i = subst (λ l. ReleasedBy app l (on step.1.item) r) (sym feeds_are) (shown_on app w.history.fed more items _ r (h.shown r (subst (λ l. In l r) (append-nil w.history.released) i)))
    released_on (Some x) some r i = part_case (in_append w.history.released (record { event = event; output = x } ∷ []) r i)
      where
        part_case : In w.history.released r ⊎ In (record { event = event; output = x } ∷ []) r → ReleasedBy app feeds (on step.1.item) r
        part_case (inl k) = subst (λ l. ReleasedBy app l (on step.1.item) r) (sym feeds_are) (shown_on app w.history.fed more items _ r (h.shown r k))
        part_case (inr (inl e)) =
            subst (λ (y : Released). ReleasedBy app feeds (on step.1.item) y) e
            (step_released app w feeds n bound node input f.settled f.ends (no_copies_at app w n bound node f.copyless at (f.modes n node at)) (f.modes n node at) hold at up brought carried is event x (counted_of app w n node counted at) some)
        part_case (inr (inr k)) = absurd k

    pub shows_on : SnapShows app event feeds (on step.1.item) (w.history.released ++ added (λ (x : Output). record { event = event; output = x }) step.1.released)
    shows_on =
        let i = items_on step.1.item refl in
        record { within = within; items_within = i.0; turns = i.1.0; fed_first = i.1.1; shown = released_on step.1.released refl }

-- ---- every change

pub shows_kept : (app : Application) (bound : ℕ) → IsApplication app → KeepsGiven app (λ w. Celled app bound w × AllCounted app w) (Shows app)
shows_kept app bound is =
    record {
      counts = λ w i h.
          record {
            within = each_weaker (λ (f : Fed). f.event ≤ w.event) (λ (f : Fed). f.event ≤ w.event + 1) w.history.fed (λ f le. omega (arith, le)) h.within;
            items_within = each_weaker (λ (j : Journaled). j.event ≤ w.event) (λ (j : Journaled). j.event ≤ w.event + 1) w.history.items (λ j le. omega (arith, le)) h.items_within;
            turns = h.turns;
            fed_first = h.fed_first;
            shown = h.shown;
          };
      passes = λ w n i h. h;
      feeds = λ w n node p at up mark i h.
          let f = snap_facts app bound w i.0.0 in
          let more : List Fed = record { event = w.event + 1; packet = p } ∷ [] in
          shows_on app bound w i.0 is i.1 h (w.history.fed ++ record { event = w.event + 1; packet = p } ∷ []) (record { event = w.event + 1; packet = p } ∷ []) refl (w.event + 1) (omega arith)
          (each_append (λ (g : Fed). g.event ≤ w.event + 1) w.history.fed _ (each_weaker (λ (g : Fed). g.event ≤ w.event) (λ (g : Fed). g.event ≤ w.event + 1) w.history.fed (λ g le. omega (arith, le)) h.within) (omega arith, tt))
          n node (Input.Packet p) (fed_hold app bound w f p i.0.1) at up (found_new w.history.fed (record { event = w.event + 1; packet = p }) w.event mark f.once.within) (λ c key from to inc nonce epoch cells e. absurd (no_message p from to e));
      switches = λ w n node input at up from i h.
          let f = snap_facts app bound w i.0.0 in
          shows_on app bound w i.0 is i.1 h w.history.fed [] (sym (append-nil w.history.fed)) w.event (omega arith) h.within n node input i.0.1 at up (brought_by app bound w f n input from)
          (λ c key a b inc nonce epoch cells e. packet_carried app bound w f input n from c key a b inc nonce epoch cells e);
      replicas = λ w n node input at up from i h. h;
      advances = λ w by fits i h. h;
      stops_switch = λ w n fits i h. h;
      stops_replica = λ w n fits i h. h;
      boots = λ w n fits i h. h;
      detects_switch = λ w n fits i h. h;
      detects_replica = λ w n fits i h. h;
      announces = λ w i h. h;
    }
