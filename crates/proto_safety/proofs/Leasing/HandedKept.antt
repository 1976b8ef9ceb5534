-- What each Grant of a next epoch rests on, over every run whose terms hold; so leases end, and in strict mode the defined run is legal.
use Rattle.std.proofs.Common.{◌≡◌, ◌≢◌, ◌⊎◌, inl, inr, ℕ, ◌+◌, ◌≤◌, List, [], ◌∷◌, ◌++◌, drop, length, map, Some, None, refl, sym, ap, ◌∙◌, subst, arith, set, slice_get, true, false, zero, suc}
use Rattle.rp_base.specs.Clocks.{TermsHold}
use Rattle.rp_base.specs.declared.node.Node.{Node}
use Rattle.proto_data.specs.declared.message.Msg.{Msg}
use Rattle.proto_data.specs.declared.message.Entry.{Entry}
use Rattle.proto_data.specs.declared.message.Input.{Input}
use Rattle.rp_app.specs.Application.{Application}
use Rattle.key_table.specs.Table.{Key}
use Rattle.proto_model.specs.Stands.{entries_of}
use Rattle.proto_model.specs.Slot.{Slot}
use Rattle.proto_model.specs.SwitchState.{open_switch, slot_at}
use Rattle.proto_model.specs.SwitchRows.{switch_step}
use Rattle.proto_model.specs.Effects.{switch_moved, frame_passed, master_sent}
use Rattle.proto_model.specs.World.{World, Setup, SwitchNode, ReplicaNode, opened, open_replica_node, below}
use Rattle.proto_model.specs.WorldStep.{advanced, advanced_switches, advanced_replicas, changed_at, next_event, stopped, booted, detected, announcements}
use Rattle.proto_safety.specs.Books.{In}
use Rattle.proto_safety.specs.LeaseLaws.{First, IsEntryOf, HasEpoch}
use Rattle.proto_safety.specs.Origins.{Origin}
use Rattle.proto_safety.specs.Firsts.{with_sent}
use Rattle.proto_safety.proofs.Store.BookMoments.{AllMoments, moments_kept, opened_moments}
use Rattle.proto_safety.proofs.Serial.CellsGround.{OverLate}
use Rattle.proto_safety.proofs.Leasing.FirstSendings.{SentNow, sent_was}
use Rattle.proto_safety.proofs.Inductions.FirstsInduction.{KeepsFirsts}
use Rattle.proto_safety.proofs.Leasing.FirstsKept.{settled_kept, sources_of}
use Rattle.proto_safety.proofs.Leasing.Ground.{known_of}
use Rattle.proto_safety.proofs.Leasing.GroundsKept.{Standing, LeasesHold, leases_kept}
use Rattle.proto_safety.proofs.Leasing.Handed.{Passed, HandedHold}
use Rattle.proto_safety.proofs.Leasing.HandedOn.{ClocksOn, SameBooks, handed_on}
use Rattle.proto_safety.proofs.Leasing.HandedStep.{stored_handed}
use Rattle.proto_safety.proofs.Inductions.Induction.{Keeps, with_fed}
use Rattle.proto_safety.proofs.Store.LastBook.{advanced_at}
use Rattle.proto_safety.proofs.Legality.LegalRun.{Laid}
use Rattle.proto_safety.proofs.Leasing.Over.{over_late}
use Rattle.proto_safety.proofs.Leasing.SlotFirsts.{NodeFirsts}
use Rattle.proto_safety.proofs.Nodes.SwitchNodes.{all_opened}
use Rattle.proto_safety.proofs.Store.Timed.{Timed, timed_kept, opened_timed}
use Rattle.proto_safety.proofs.Leasing.WorldFirsts.{FirstsHold, new_entry}
use Rattle.proto_safety.proofs.Messages.WorldOrigins.{NodeOrigins}
use Rattle.proto_safety.proofs.Leasing.WorldPutsKept.{fed_grant, told_grant}
use Rattle.proto_safety.proofs.Basics.Eachs.{each_at}
use Rattle.proto_safety.proofs.Basics.Lists.{at_changed, at_set, none_before}
use Rattle.proto_safety.proofs.Basics.Members.{in_front}

-- ---- what stays

same_switches : (w : World) → ClocksOn w w
same_switches w n node at = (node, (at, omega arith))

same_books : (w : World) → SameBooks w w
same_books w r node at = (node, (at, refl))

changed_clocks : (w v : World) (n : ℕ) (f : SwitchNode → SwitchNode) → ((x : SwitchNode) → (f x).clock ≡ x.clock) → v.switches ≡ changed_at w.switches n f → ClocksOn w v
changed_clocks w v n f same is m node at = changed_case (at_changed w.switches n m f node (subst (λ (l : List SwitchNode). slice_get l m ≡ Some node) is at))
  where
    changed_case : ((m ≡ n) × ((x : SwitchNode) × ((slice_get w.switches m ≡ Some x) × (node ≡ f x)))) ⊎ ((m ≢ n) × (slice_get w.switches m ≡ Some node)) → (old : SwitchNode) × ((slice_get w.switches m ≡ Some old) × (old.clock ≤ node.clock))
    changed_case (inl p) = let e : node.clock ≡ p.1.0.clock = ap (λ (x : SwitchNode). x.clock) p.1.1.1 ∙ same p.1.0 in (p.1.0, (p.1.1.0, omega (arith, e)))
    changed_case (inr p) = (node, (p.1, omega arith))

stopped_books : (w v : World) (n : ℕ) → v.replicas ≡ changed_at w.replicas n (λ (r : ReplicaNode). record r { runs = false }) → SameBooks w v
stopped_books w v n is m node at = changed_case (at_changed w.replicas n m (λ (r : ReplicaNode). record r { runs = false }) node (subst (λ (l : List ReplicaNode). slice_get l m ≡ Some node) is at))
  where
    changed_case : ((m ≡ n) × ((x : ReplicaNode) × ((slice_get w.replicas m ≡ Some x) × (node ≡ record x { runs = false })))) ⊎ ((m ≢ n) × (slice_get w.replicas m ≡ Some node)) →
        (old : ReplicaNode) × ((slice_get w.replicas m ≡ Some old) × (entries_of node.book ≡ entries_of old.book))
    changed_case (inl p) = (p.1.0, (p.1.1.0, ap (λ (x : ReplicaNode). entries_of x.book) p.1.1.1))
    changed_case (inr p) = (node, (p.1, refl))

advanced_clocks : (ss : List SwitchNode) (by : List ℕ) (n : ℕ) (node : SwitchNode) → slice_get (advanced_switches ss by) n ≡ Some node → (old : SwitchNode) × ((slice_get ss n ≡ Some old) × (old.clock ≤ node.clock))
advanced_clocks [] by n node at = absurd cc
advanced_clocks (s ∷ ss) [] n node at = (node, (at, omega arith))
advanced_clocks (s ∷ ss) (d ∷ ds) zero node at =
    let e : record s { clock = s.clock + d } ≡ node = cc in
    let c : s.clock + d ≡ node.clock = ap (λ (x : SwitchNode). x.clock) e in (s, (refl, omega (arith, c)))
advanced_clocks (s ∷ ss) (d ∷ ds) (suc n) node at = advanced_clocks ss ds n node at

advanced_books : (w v : World) (by : List ℕ) → v.replicas ≡ advanced_replicas w.replicas by → SameBooks w v
advanced_books w v by is r node at =
    let old = advanced_at w.replicas by r node (subst (λ (l : List ReplicaNode). slice_get l r ≡ Some node) is at) in (old.0, (old.1.0, ap (λ (x : ReplicaNode). entries_of x.book) old.1.1))

-- ---- a switch's step sends some requests for the first time, of which no book has an entry yet

moved_handed : (w x : World) (fs : List First) (n : ℕ) (node moved : SwitchNode) (sent : List Msg) → slice_get w.switches n ≡ Some node → moved.clock ≡ node.clock → x.terms ≡ w.terms → x.switches ≡ set w.switches n moved → x.replicas ≡ w.replicas →
    ((r : ℕ) (replica : ReplicaNode) (e : Entry) → slice_get w.replicas r ≡ Some replica → In (entries_of replica.book) e → Origin w.frames e) →
    ((f : First) → SentNow n node.clock fs sent f → (e : Entry) → Origin w.frames e → IsEntryOf f e → ⊥) → HandedHold fs w → HandedHold (with_sent n node.clock fs sent) x
moved_handed w x fs n node moved sent at clock terms switches replicas origin none h r replica there key epoch s i m n' inc nonce before behind is granted =
    passed_case (h r replica here key epoch s i m n' inc nonce before behind is granted)
  where
    here : slice_get w.replicas r ≡ Some replica
    here = subst (λ (l : List ReplicaNode). slice_get l r ≡ Some replica) replicas there

    old_clock : (k : ℕ) (other : SwitchNode) → slice_get x.switches k ≡ Some other → (old : SwitchNode) × ((slice_get w.switches k ≡ Some old) × (old.clock ≤ other.clock))
    old_clock k other o = set_case (at_set w.switches n k moved other (subst (λ (l : List SwitchNode). slice_get l k ≡ Some other) switches o))
      where
        set_case : ((k ≡ n) × (other ≡ moved)) ⊎ ((k ≢ n) × (slice_get w.switches k ≡ Some other)) → (old : SwitchNode) × ((slice_get w.switches k ≡ Some old) × (old.clock ≤ other.clock))
        set_case (inl p) =
            let e : other.clock ≡ node.clock = ap (λ (y : SwitchNode). y.clock) p.1 ∙ clock in
            (node, (subst (λ (j : ℕ). slice_get w.switches j ≡ Some node) (sym p.0) at, omega (arith, e)))
        set_case (inr p) = (other, (p.1, omega arith))

    passed_case : Passed fs w key epoch s i m n' inc nonce before → Passed (with_sent n node.clock fs sent) x key epoch s i m n' inc nonce before
    passed_case (inl own) = inl own
    passed_case (inr out) = inr (λ f e fi ei he of other o. first_case f e ei he of other o (sent_was n node.clock fs sent f fi))
      where
        first_case : (f : First) (e : Entry) → In before e → HasEpoch key epoch e → IsEntryOf f e → (other : SwitchNode) → slice_get x.switches f.switch ≡ Some other → In fs f ⊎ SentNow n node.clock fs sent f → f.moment + x.terms.t_switch ≤ other.clock
        first_case f e ei he of other o (inl k) =
            let old = old_clock f.switch other o in
            let low : f.moment + w.terms.t_switch ≤ old.0.clock = out f e k ei he of old.0 old.1.0 in
            let term : x.terms.t_switch ≡ w.terms.t_switch = ap (λ t. t.t_switch) terms in omega (arith, low, term, old.1.1)
        first_case f e ei he of other o (inr k) =
            absurd (none f k e (origin r replica e here (subst (λ (l : List Entry). In l e) (sym is) (in_front before _ e ei))) of)

-- ---- every change

-- what ends leases, kept with the first sendings
abbrev pub Ending : List First → World → Type 0
Ending fs w = LeasesHold fs w × (HandedHold fs w × (AllMoments w × Timed w))

pub ending_kept : (app : Application) → KeepsFirsts app (Standing app) Ending
ending_kept app =
    record {
      counts = λ w fs g h. (k.counts w fs g h.0, (handed_on fs w (next_event w) refl (same_switches w) (same_books w) h.1.0, (m.counts w h.1.1.0, t.counts w h.1.1.1)));
      passes = λ w fs i g h. (k.passes w fs i g h.0, (handed_on fs w (frame_passed w i) refl (same_switches w) (same_books w) h.1.0, (m.passes w i h.1.1.0, t.passes w i h.1.1.1)));
      feeds = λ w fs n node p at up mark g h.
          let step = switch_step app node.state node.clock (Input.Packet p) in
          let later = (settled_kept app).feeds w n node p at up mark g.0 in (
            k.feeds w fs n node p at up mark g h.0,
            (
              moved_handed w (switch_moved (with_fed w p) n node step) fs n node _ step.1.sent at refl refl refl refl (origin w g)
                  (new_entry app w fs n node (Input.Packet p) at (known_of app.cell_count w g.0.0) (known_of app.cell_count (switch_moved (with_fed w p) n node step) later.0)
                  (fed_grant _ n node.state.inc p) (λ key j a. ((g.0.0.1.0.1 n node at).flows key).sent j a) (sources_of app.cell_count w g.0.0) g.0.1 _ later.1 h.0.0) h.1.0,
              (m.feeds w n node p at up mark h.1.1.0, t.feeds w n node p at up mark h.1.1.1),
            ),
          );
      switches = λ w fs n node input at up from g h.
          let step = switch_step app node.state node.clock input in
          let later = (settled_kept app).switches w n node input at up from g.0 in (
            k.switches w fs n node input at up from g h.0,
            (
              moved_handed w (switch_moved w n node step) fs n node _ step.1.sent at refl refl refl refl (origin w g)
                  (new_entry app w fs n node input at (known_of app.cell_count w g.0.0) (known_of app.cell_count (switch_moved w n node step) later.0)
                  (told_grant app w n node input from g.0.0) (λ key j a. ((g.0.0.1.0.1 n node at).flows key).sent j a) (sources_of app.cell_count w g.0.0) g.0.1 _ later.1 h.0.0) h.1.0,
              (m.switches w n node input at up from h.1.1.0, t.switches w n node input at up from h.1.1.1),
            ),
          );
      replicas = λ w fs n node input at up from g h. (
        k.replicas w fs n node input at up from g h.0,
        (stored_handed app w fs n node input at up from g.0.0 h.1.1.0 h.1.1.1 h.0.0 h.1.0, (m.replicas w n node input at up from h.1.1.0, t.replicas w n node input at up from h.1.1.1)),
      );
      advances = λ w fs by fits g h. (
        k.advances w fs by fits g h.0,
        (handed_on fs w (advanced w by) refl (advanced_clocks w.switches by) (advanced_books w (advanced w by) (drop (length w.switches) by) refl) h.1.0, (m.advances w by fits h.1.1.0, t.advances w by fits h.1.1.1)),
      );
      stops_switch = λ w fs n fits g h. (
        k.stops_switch w fs n fits g h.0,
        (handed_on fs w (stopped w (Node.Switch n)) refl (changed_clocks w (stopped w (Node.Switch n)) n (λ (s : SwitchNode). record s { runs = false }) (λ x. refl) refl) (same_books w) h.1.0, (m.stops_switch w n fits h.1.1.0, t.stops_switch w n fits h.1.1.1)),
      );
      stops_replica = λ w fs n fits g h. (
        k.stops_replica w fs n fits g h.0,
        (handed_on fs w (stopped w (Node.Replica n)) refl (same_switches w) (stopped_books w (stopped w (Node.Replica n)) n refl) h.1.0, (m.stops_replica w n fits h.1.1.0, t.stops_replica w n fits h.1.1.1)),
      );
      boots = λ w fs n fits g h. (
        k.boots w fs n fits g h.0,
        (
          handed_on fs w (booted w n) refl (changed_clocks w (booted w n) n (λ (s : SwitchNode). record s { runs = true; state = open_switch s.state.me (s.state.inc + 1) w.terms w.config }) (λ x. refl) refl) (same_books w) h.1.0,
          (m.boots w n fits h.1.1.0, t.boots w n fits h.1.1.1),
        ),
      );
      detects_switch = λ w fs n fits g h. (
        k.detects_switch w fs n fits g h.0,
        (handed_on fs w (detected w (Node.Switch n)) refl (changed_clocks w (detected w (Node.Switch n)) n (λ (s : SwitchNode). record s { believed = s.runs }) (λ x. refl) refl) (same_books w) h.1.0, (m.detects_switch w n fits h.1.1.0, t.detects_switch w n fits h.1.1.1)),
      );
      detects_replica = λ w fs n fits g h. (
        k.detects_replica w fs n fits g h.0,
        (handed_on fs w (detected w (Node.Replica n)) refl (same_switches w) (same_books w) h.1.0, (m.detects_replica w n fits h.1.1.0, t.detects_replica w n fits h.1.1.1)),
      );
      announces = λ w fs g h. (
        k.announces w fs g h.0,
        (handed_on fs w (master_sent w (announcements w)) refl (same_switches w) (same_books w) h.1.0, (m.announces w h.1.1.0, t.announces w h.1.1.1)),
      );
    }
  where
    k : KeepsFirsts app (Standing app) LeasesHold
    k = leases_kept app

    m : Keeps app AllMoments
    m = moments_kept app

    t : Keeps app Timed
    t = timed_kept app

    origin : (w : World) → Standing app w → (r : ℕ) (replica : ReplicaNode) (e : Entry) → slice_get w.replicas r ≡ Some replica → In (entries_of replica.book) e → Origin w.frames e
    origin w g r replica e at i = each_at (NodeOrigins w.frames) w.replicas r replica g.0.0.0.1.1.books at e i

-- ---- the law

pub ends_leases : (app : Application) (w : World) (fs : List First) → Laid app w → Ending fs w → OverLate w
ends_leases app w fs l h = over_late app.cell_count w fs l.0.0.0 h.1.0 h.0.1

pub opened_firsts : (app : Application) (setup : Setup) → FirstsHold [] (opened app.cell_count setup)
opened_firsts app setup =
    record {
      nodes = all_opened (λ n (node : SwitchNode). NodeFirsts [] n node.state.inc node.state.slots node.state.copies) setup (λ n. record { asking = λ key slot nonce first at is. cc; copied = λ key slot epoch c at is i of. absurd i; rounds = λ key slot epoch r at is runs. let no : None ≡ Some slot = at in cc });
      past = λ f i. absurd i;
      sent = λ f i. absurd i;
      asked = λ m n r i from is. absurd i;
      aged = λ f r node b i at j is. absurd i;
    }

pub opened_ending : (app : Application) (setup : Setup) → TermsHold setup.terms.t_switch setup.terms.t_store setup.terms.ratio → Ending [] (opened app.cell_count setup)
opened_ending app setup hold = (
  (
    opened_firsts app setup,
    λ n node key slot at found.
        absurd (all_opened (λ n (node : SwitchNode). (key : Key) (slot : Slot) → slot_at node.state key ≡ Some slot → ⊥) setup (λ n key slot is. let no : None ≡ Some slot = is in absurd cc) n node at key slot found),
  ),
  (
    λ r replica at key epoch s i m n inc nonce before behind is granted.
        absurd (no_books (open_replica_node app.cell_count setup) (λ k. refl) (below setup.replicas) r replica at before behind (Entry.Grant key (epoch + 1) n inc nonce) is),
    (opened_moments app.cell_count setup, opened_timed app.cell_count setup hold),
  ),
)
  where
    no_books : (make : ℕ → ReplicaNode) → ((k : ℕ) → (make k).book ≡ []) → (ns : List ℕ) (r : ℕ) (replica : ReplicaNode) → slice_get (map make ns) r ≡ Some replica → (before behind : List Entry) (x : Entry) → entries_of replica.book ≡ before ++ x ∷ behind → ⊥
    no_books make empty [] r replica at before behind x is = absurd cc
    no_books make empty (n ∷ ns) zero replica at before behind x is =
        let same : make n ≡ replica = cc in
        let none : entries_of replica.book ≡ [] = ap (λ (y : ReplicaNode). entries_of y.book) (sym same) ∙ ap entries_of (empty n) in absurd (none_before before behind x (sym none ∙ is))
    no_books make empty (n ∷ ns) (suc r) replica at before behind x is = no_books make empty ns r replica at before behind x is
