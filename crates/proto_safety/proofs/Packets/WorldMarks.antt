-- After every list of events: each mark stands at most once in all rings and at most once in all journals, and a mark that waits was neither processed nor released.
use Rattle.std.proofs.Common.{◌≡◌, ◌≢◌, ◌⊎◌, inl, inr, ℕ, ◌+◌, ◌≤◌, List, [], ◌∷◌, ◌++◌, Option, Some, None, refl, ap, sym, ◌∙◌, subst, true, false, Bool, map, set, slice_get, arith, eqb-true, append-nil}
use Rattle.std.specs.Prelude.{◌==◌, zero, suc}
use Rattle.std.proofs.lemmas.List.{map-append}
use Rattle.proto_data.specs.declared.message.Input.{Input}
use Rattle.rp_base.specs.declared.node.Node.{Node}
use Rattle.rp_base.specs.declared.node.Packet.{Packet}
use Rattle.rp_base.specs.declared.node.Output.{Output}
use Rattle.rp_base.specs.declared.event.Event.{Event}
use Rattle.rp_app.specs.Application.{Application, IsApplication}
use Rattle.proto_model.specs.SwitchState.{SwitchStep, Item, open_switch}
use Rattle.proto_model.specs.SwitchRows.{switch_step}
use Rattle.proto_model.specs.Effects.{added, made_output, switch_moved}
use Rattle.proto_model.specs.Feeds.{Each, Pairwise}
use Rattle.proto_model.specs.World.{World, Setup, SwitchNode, Journaled, opened, below, open_switch_node}
use Rattle.rp_base.specs.declared.legality.Fed.{Fed}
use Rattle.rp_base.specs.declared.legality.Released.{Released}
use Rattle.proto_model.specs.WorldStep.{world_after, advanced_switches, changed_at}
use Rattle.proto_safety.specs.Books.{In}
use Rattle.proto_safety.specs.CellLaws.{journal_marks, released_marks}
use Rattle.proto_safety.proofs.Packets.RingMarks.{one, total}
use Rattle.proto_safety.proofs.Packets.SwitchMarks.{fresh, asked_in, rings_in, asked_of, rings_of, MarksMove, step_marks}
use Rattle.proto_safety.proofs.Serial.SlotCells.{SwitchCounted, AllCounted, counted_kept, all_counted}
use Rattle.proto_safety.proofs.Packets.FedMarks.{FedOnce, once_kept}
use Rattle.proto_safety.proofs.Inductions.Induction.{Keeps, KeepsGiven, keeps_both, run_kept, Comes, with_fed}
use Rattle.proto_safety.proofs.Basics.Eachs.{each_at, each_in}
use Rattle.proto_safety.proofs.Basics.Members.{in_append, in_front, in_last}
use Rattle.proto_safety.proofs.Basics.Pairs.{pairwise_push}

abbrev pub sum_of : (SwitchNode → ℕ) → List SwitchNode → ℕ
sum_of f [] = 0
sum_of f (x ∷ xs) = f x + sum_of f xs

-- how often a mark stands in all `asked` rings, and in all rings
abbrev pub asked_all : ℕ → List SwitchNode → ℕ
asked_all m nodes = sum_of (λ n. asked_of m n.state) nodes

abbrev pub rings_all : ℕ → List SwitchNode → ℕ
rings_all m nodes = sum_of (λ n. rings_of m n.state) nodes

sum-set : (f : SwitchNode → ℕ) (xs : List SwitchNode) (n : ℕ) (x y : SwitchNode) → slice_get xs n ≡ Some x → sum_of f (set xs n y) + f x ≡ sum_of f xs + f y
sum-set f [] n x y at = absurd cc
sum-set f (z ∷ zs) zero x y at = let same : z ≡ x = cc in let g : f z ≡ f x = ap f same in omega arith
sum-set f (z ∷ zs) (suc n) x y at = omega (arith, sum-set f zs n x y at)

sum-changed : (f : SwitchNode → ℕ) (xs : List SwitchNode) (n : ℕ) (g : SwitchNode → SwitchNode) → ((x : SwitchNode) → f (g x) ≤ f x) → sum_of f (changed_at xs n g) ≤ sum_of f xs
sum-changed f [] n g less = omega arith
sum-changed f (z ∷ zs) zero g less = omega (arith, less z)
sum-changed f (z ∷ zs) (suc n) g less = omega (arith, sum-changed f zs n g less)

sum-advanced : (f : SwitchNode → ℕ) (xs : List SwitchNode) (by : List ℕ) → ((x : SwitchNode) (c : ℕ) → f (record x { clock = c }) ≤ f x) → sum_of f (advanced_switches xs by) ≤ sum_of f xs
sum-advanced f [] by less = omega arith
sum-advanced f (x ∷ xs) [] less = omega arith
sum-advanced f (x ∷ xs) (d ∷ ds) less = omega (arith, less x (x.clock + d), sum-advanced f xs ds less)

sum-below : (f g : SwitchNode → ℕ) (xs : List SwitchNode) → ((x : SwitchNode) → f x ≤ g x) → sum_of f xs ≤ sum_of g xs
sum-below f g [] less = omega arith
sum-below f g (x ∷ xs) less = omega (arith, less x, sum-below f g xs less)

total-below : (m : ℕ) (t : List (List ℕ × Rattle.proto_model.specs.Slot.Slot)) → total (asked_in m) t ≤ total (rings_in m) t
total-below m [] = omega arith
total-below m (e ∷ es) = omega (arith, total-below m es)

asked_below : (m : ℕ) (nodes : List SwitchNode) → asked_all m nodes ≤ rings_all m nodes
asked_below m nodes = sum-below (λ n. asked_of m n.state) (λ n. rings_of m n.state) nodes (λ n. total-below m n.state.slots)

-- a packet with this mark was fed
abbrev pub HasFed : List Fed → ℕ → Type 0
HasFed fed m = (f : Fed) × In fed f × (f.packet.mark ≡ m)

-- `js` are the marks of the items, `rs` those that were released
pub record MarksHold (fed : List Fed) (nodes : List SwitchNode) (js rs : List ℕ) : Type 0 where
  pub one : (m : ℕ) → rings_all m nodes ≤ 1
  pub asked : (m : ℕ) → 1 ≤ asked_all m nodes → In js m → ⊥
  pub unreleased : (m : ℕ) → 1 ≤ rings_all m nodes → In rs m → ⊥
  pub ring_fed : (m : ℕ) → 1 ≤ rings_all m nodes → HasFed fed m
  pub item_fed : (m : ℕ) → In js m → HasFed fed m
  pub release_fed : (m : ℕ) → In rs m → HasFed fed m
  pub items_once : Pairwise (λ (a b : ℕ). a ≢ b) js
  pub released_once : Pairwise (λ (a b : ℕ). a ≢ b) rs

-- a mark that a fed packet brings is new
pub record IsNew (fed : List Fed) (nodes : List SwitchNode) (js rs : List ℕ) (m : ℕ) : Type 0 where
  pub in_no_ring : rings_all m nodes ≡ 0
  pub no_item : In js m → ⊥
  pub no_release : In rs m → ⊥
  pub now_fed : HasFed fed m

zero_or_more : (n : ℕ) → (n ≡ 0) ⊎ (1 ≤ n)
zero_or_more zero = inl refl
zero_or_more (suc n) = inr (omega arith)

one_most : (b : Bool) → one b ≤ 1
one_most true = omega arith
one_most false = omega arith

fresh_most : (m : ℕ) (input : Input) → fresh m input ≤ 1
fresh_most m (Input.Packet p) = one_most (p.mark == m)
fresh_most m (Input.Msg msg) = omega arith
fresh_most m Input.Alarm = omega arith

others_differ : (xs : List ℕ) (y : ℕ) → (In xs y → ⊥) → Each (λ x. x ≢ y) xs
others_differ [] y none = tt
others_differ (x ∷ xs) y none = (λ e. none (inl e), others_differ xs y (λ i. none (inr i)))

in_added : (o : Option ℕ) (m : ℕ) → In (added (λ (x : ℕ). x) o) m → o ≡ Some m
in_added None m i = absurd i
in_added (Some x) m (inl e) = ap (λ y. Some y) e
in_added (Some x) m (inr i) = absurd i

-- one more mark, that wasn't there
pushed_once : (xs : List ℕ) (o : Option ℕ) → ((m : ℕ) → o ≡ Some m → In xs m → ⊥) → Pairwise (λ (a b : ℕ). a ≢ b) xs → Pairwise (λ (a b : ℕ). a ≢ b) (xs ++ added (λ (x : ℕ). x) o)
pushed_once xs None none h = subst (Pairwise (λ (a b : ℕ). a ≢ b)) (sym (append-nil xs)) h
pushed_once xs (Some m) none h = pairwise_push (λ (a b : ℕ). a ≢ b) xs m h (others_differ xs m (none m refl))

abbrev pub item_mark : Option Item → Option ℕ
item_mark None = None
item_mark (Some i) = Some i.mark

abbrev pub output_mark : Option Output → Option ℕ
output_mark None = None
output_mark (Some o) = Some o.mark

some_item : (o : Option Item) (m : ℕ) → item_mark o ≡ Some m → (i : Item) × (o ≡ Some i) × (i.mark ≡ m)
some_item None m e = absurd cc
some_item (Some i) m e = (i, refl, cc)

some_output : (o : Option Output) (m : ℕ) → output_mark o ≡ Some m → (x : Output) × (o ≡ Some x) × (x.mark ≡ m)
some_output None m e = absurd cc
some_output (Some x) m e = (x, refl, cc)

-- ---- a switch takes an input

module _ (fed later : List Fed) (nodes : List SwitchNode) (js rs : List ℕ) (n : ℕ) (node : SwitchNode) (at : slice_get nodes n ≡ Some node) (input : Input) (step : SwitchStep)
    (m : MarksMove node.state input step) (h : MarksHold fed nodes js rs) (grows : (k : ℕ) → HasFed fed k → HasFed later k) (new : (k : ℕ) → 1 ≤ fresh k input → IsNew later nodes js rs k) where
  abbrev after : List SwitchNode
  after = set nodes n (record node { state = step.0 })

  abbrev items : List ℕ
  items = js ++ added (λ (x : ℕ). x) (item_mark step.1.item)

  abbrev releases : List ℕ
  releases = rs ++ added (λ (x : ℕ). x) (output_mark step.1.released)

  asked_sum : (k : ℕ) → asked_all k after + asked_of k node.state ≡ asked_all k nodes + asked_of k step.0
  asked_sum k = sum-set (λ x. asked_of k x.state) nodes n node (record node { state = step.0 }) at

  rings_sum : (k : ℕ) → rings_all k after + rings_of k node.state ≡ rings_all k nodes + rings_of k step.0
  rings_sum k = sum-set (λ x. rings_of k x.state) nodes n node (record node { state = step.0 }) at

  asked_now : (k : ℕ) → asked_all k after ≤ asked_all k nodes + fresh k input
  asked_now k = omega (arith, asked_sum k, m.asked k)

  rings_now : (k : ℕ) → rings_all k after ≤ rings_all k nodes + fresh k input
  rings_now k = omega (arith, rings_sum k, m.rings k)

  -- a mark waits once, or comes new
  cap : (k : ℕ) → rings_all k nodes + fresh k input ≤ 1
  cap k = cap_case (zero_or_more (fresh k input))
    where
      cap_case : (fresh k input ≡ 0) ⊎ (1 ≤ fresh k input) → rings_all k nodes + fresh k input ≤ 1
      cap_case (inl none) = omega (arith, h.one k)
      cap_case (inr some) = omega (arith, (new k some).in_no_ring, fresh_most k input)

  -- the mark of an item was asked for, or comes new; it isn't asked for any more
  item_was : (k : ℕ) → item_mark step.1.item ≡ Some k → (asked_all k after ≡ 0) × (1 ≤ asked_all k nodes + fresh k input)
  item_was k e =
      let i = some_item step.1.item k e in
      let gone : asked_of k step.0 + 1 ≤ asked_of k node.state + fresh k input = subst (λ x. asked_of x step.0 + 1 ≤ asked_of x node.state + fresh x input) i.2 (m.item i.0 i.1) in
      (omega (arith, gone, asked_sum k, cap k, asked_below k nodes), omega (arith, gone, asked_sum k))

  release_was : (k : ℕ) → output_mark step.1.released ≡ Some k → (rings_all k after ≡ 0) × (1 ≤ rings_all k nodes + fresh k input)
  release_was k e =
      let o = some_output step.1.released k e in
      let gone : rings_of k step.0 + 1 ≤ rings_of k node.state + fresh k input = subst (λ x. rings_of x step.0 + 1 ≤ rings_of x node.state + fresh x input) o.2 (m.released o.0 o.1) in
      (omega (arith, gone, rings_sum k, cap k), omega (arith, gone, rings_sum k))

  -- what waited or comes new was fed, and has no item and no release that rules it out
  was_fed : (k : ℕ) → 1 ≤ rings_all k nodes + fresh k input → HasFed later k
  was_fed k some = fed_case (zero_or_more (fresh k input))
    where
      fed_case : (fresh k input ≡ 0) ⊎ (1 ≤ fresh k input) → HasFed later k
      fed_case (inl none) = grows k (h.ring_fed k (omega (arith, some, none)))
      fed_case (inr brought) = (new k brought).now_fed

  not_processed : (k : ℕ) → 1 ≤ asked_all k nodes + fresh k input → In js k → ⊥
  not_processed k some i = item_case (zero_or_more (fresh k input))
    where
      item_case : (fresh k input ≡ 0) ⊎ (1 ≤ fresh k input) → ⊥
      item_case (inl none) = h.asked k (omega (arith, some, none)) i
      item_case (inr brought) = (new k brought).no_item i

  not_released : (k : ℕ) → 1 ≤ rings_all k nodes + fresh k input → In rs k → ⊥
  not_released k some i = release_case (zero_or_more (fresh k input))
    where
      release_case : (fresh k input ≡ 0) ⊎ (1 ≤ fresh k input) → ⊥
      release_case (inl none) = h.unreleased k (omega (arith, some, none)) i
      release_case (inr brought) = (new k brought).no_release i

  asked_in_none : (k : ℕ) → 1 ≤ asked_all k after → In js k ⊎ In (added (λ (x : ℕ). x) (item_mark step.1.item)) k → ⊥
  asked_in_none k some (inl i) = not_processed k (omega (arith, some, asked_now k)) i
  asked_in_none k some (inr i) = absurd (omega (arith, some, (item_was k (in_added _ k i)).0))

  unreleased_in : (k : ℕ) → 1 ≤ rings_all k after → In rs k ⊎ In (added (λ (x : ℕ). x) (output_mark step.1.released)) k → ⊥
  unreleased_in k some (inl i) = not_released k (omega (arith, some, rings_now k)) i
  unreleased_in k some (inr i) = absurd (omega (arith, some, (release_was k (in_added _ k i)).0))

  item_fed_in : (k : ℕ) → In js k ⊎ In (added (λ (x : ℕ). x) (item_mark step.1.item)) k → HasFed later k
  item_fed_in k (inl i) = grows k (h.item_fed k i)
  item_fed_in k (inr i) = was_fed k (omega (arith, (item_was k (in_added _ k i)).1, asked_below k nodes))

  release_fed_in : (k : ℕ) → In rs k ⊎ In (added (λ (x : ℕ). x) (output_mark step.1.released)) k → HasFed later k
  release_fed_in k (inl i) = grows k (h.release_fed k i)
  release_fed_in k (inr i) = was_fed k (release_was k (in_added _ k i)).1

  moved_marks : MarksHold later after items releases
  moved_marks =
      record {
        one = λ k. omega (arith, rings_now k, cap k);
        asked = λ k some i. asked_in_none k some (in_append js _ k i);
        unreleased = λ k some i. unreleased_in k some (in_append rs _ k i);
        ring_fed = λ k some. was_fed k (omega (arith, some, rings_now k));
        item_fed = λ k i. item_fed_in k (in_append js _ k i);
        release_fed = λ k i. release_fed_in k (in_append rs _ k i);
        items_once = pushed_once js (item_mark step.1.item) (λ k e. not_processed k (item_was k e).1) h.items_once;
        released_once = pushed_once rs (output_mark step.1.released) (λ k e. not_released k (release_was k e).1) h.released_once;
      }

-- ---- the world

abbrev pub MarksOf : World → Type 0
MarksOf w = MarksHold w.history.fed w.switches (journal_marks w) (released_marks w)

item_marks_are : (w : World) (n : ℕ) (node : SwitchNode) (step : SwitchStep) → journal_marks (switch_moved w n node step) ≡ journal_marks w ++ added (λ (x : ℕ). x) (item_mark step.1.item)
item_marks_are w n node step = map-append _ w.history.items _ ∙ ap (λ (ys : List ℕ). journal_marks w ++ ys) (added_item (made_output step.1.released step.1.sent) step.1.item)
  where
    added_item : (out : Option Output) (o : Option Item) → map (λ (j : Journaled). j.item.mark) (added (λ i. record { event = w.event; item = i; output = out }) o) ≡ added (λ (x : ℕ). x) (item_mark o)
    added_item out None = refl
    added_item out (Some i) = refl

release_marks_are : (w : World) (n : ℕ) (node : SwitchNode) (step : SwitchStep) → released_marks (switch_moved w n node step) ≡ released_marks w ++ added (λ (x : ℕ). x) (output_mark step.1.released)
release_marks_are w n node step = map-append _ w.history.released _ ∙ ap (λ (ys : List ℕ). released_marks w ++ ys) (added_release step.1.released)
  where
    added_release : (o : Option Output) → map (λ (r : Released). r.output.mark) (added (λ o. record { event = w.event; output = o }) o) ≡ added (λ (x : ℕ). x) (output_mark o)
    added_release None = refl
    added_release (Some o) = refl

-- fewer marks wait
less_waits : (fed : List Fed) (old new : List SwitchNode) (js rs : List ℕ) → ((m : ℕ) → asked_all m new ≤ asked_all m old) → ((m : ℕ) → rings_all m new ≤ rings_all m old) → MarksHold fed old js rs → MarksHold fed new js rs
less_waits fed old new js rs a r h =
    record {
      one = λ m. omega (arith, r m, h.one m);
      asked = λ m some i. h.asked m (omega (arith, some, a m)) i;
      unreleased = λ m some i. h.unreleased m (omega (arith, some, r m)) i;
      ring_fed = λ m some. h.ring_fed m (omega (arith, some, r m));
      item_fed = h.item_fed;
      release_fed = h.release_fed;
      items_once = h.items_once;
      released_once = h.released_once;
    }

abbrev pub Given : Application → World → Type 0
Given app w = AllCounted app w × FedOnce w

pub given_kept : (app : Application) → Keeps app (Given app)
given_kept app = keeps_both app (AllCounted app) FedOnce (counted_kept app)
    (record {
      counts = λ w i h. (once_kept app).counts w h;
      passes = λ w i g h. h;
      feeds = λ w n node p at up mark g h. (once_kept app).feeds w n node p at up mark h;
      switches = λ w n node input at up from g h. h;
      replicas = λ w n node input at up from g h. h;
      advances = λ w by fits g h. h;
      stops_switch = λ w n fits g h. h;
      stops_replica = λ w n fits g h. h;
      boots = λ w n down g h. h;
      detects_switch = λ w n fits g h. h;
      detects_replica = λ w n fits g h. h;
      announces = λ w g h. h;
    })

-- a message or an Alarm brings no mark
no_news : (w : World) (to : Node) (input : Input) → Comes w to input → (k : ℕ) → 1 ≤ fresh k input → ⊥
no_news w to (Input.Packet p) from k some = from
no_news w to (Input.Msg m) from k some = absurd (omega (arith, some))
no_news w to Input.Alarm from k some = absurd (omega (arith, some))

marked : (app : Application) → IsApplication app → (w : World) (n : ℕ) (node : SwitchNode) (input : Input) → slice_get w.switches n ≡ Some node → AllCounted app w → MarksMove node.state input (switch_step app node.state node.clock input)
marked app is_app w n node input at g = step_marks app is_app node.state node.clock input (each_at (SwitchCounted app) w.switches n node g at)

-- a switch that begins again
abbrev boot_of : World → SwitchNode → SwitchNode
boot_of w s = record s { runs = true; state = open_switch s.state.me (s.state.inc + 1) w.terms w.config }

-- the marks of a world after a switch's step
stepped_marks : (app : Application) → IsApplication app → (w : World) (n : ℕ) (node : SwitchNode) (input : Input) → slice_get w.switches n ≡ Some node → Comes w (Node.Switch n) input → AllCounted app w → MarksOf w →
    MarksOf (switch_moved w n node (switch_step app node.state node.clock input))
stepped_marks app is_app w n node input at from g h =
    rw (item_marks_are w n node (switch_step app node.state node.clock input), release_marks_are w n node (switch_step app node.state node.clock input))
    (moved_marks w.history.fed w.history.fed w.switches (journal_marks w) (released_marks w) n node at input (switch_step app node.state node.clock input) (marked app is_app w n node input at g) h (λ k f. f)
    (λ k some. absurd (no_news w (Node.Switch n) input from k some)))

-- each mark that stands somewhere was fed before
fed_before : (w : World) (k : ℕ) → FedOnce w → HasFed w.history.fed k → k ≤ w.event
fed_before w k once f = omega (arith, each_in (λ (x : Fed). x.packet.mark ≤ w.event) w.history.fed f.0 once.within f.1, f.2)

ring_none : (w : World) (k : ℕ) → FedOnce w → MarksOf w → k ≡ w.event + 1 → (rings_all k w.switches ≡ 0) ⊎ (1 ≤ rings_all k w.switches) → rings_all k w.switches ≡ 0
ring_none w k once h is (inl none) = none
ring_none w k once h is (inr some) = absurd (omega (arith, is, fed_before w k once (h.ring_fed k some)))

-- the mark of the present event is new
fed_new : (w : World) (p : Packet) → FedOnce w → MarksOf w → p.mark ≡ w.event + 1 → (k : ℕ) → 1 ≤ one (p.mark == k) →
    IsNew (with_fed w p).history.fed w.switches (journal_marks w) (released_marks w) k
fed_new w p once h mark k some = new_case (p.mark == k) refl some
  where
    new_case : (b : Bool) → (p.mark == k) ≡ b → 1 ≤ one b → IsNew (with_fed w p).history.fed w.switches (journal_marks w) (released_marks w) k
    new_case true is some =
        let same : p.mark ≡ k = eqb-true p.mark k is in
        let now : k ≡ w.event + 1 = sym same ∙ mark in
        record {
          in_no_ring = ring_none w k once h now (zero_or_more (rings_all k w.switches));
          no_item = λ i. absurd (omega (arith, now, fed_before w k once (h.item_fed k i)));
          no_release = λ i. absurd (omega (arith, now, fed_before w k once (h.release_fed k i)));
          now_fed = (record { event = w.event + 1; packet = p }, in_last w.history.fed (record { event = w.event + 1; packet = p }), same);
        }
    new_case false is some = absurd (omega (arith, some))

more_fed : (w : World) (p : Packet) (k : ℕ) → HasFed w.history.fed k → HasFed (with_fed w p).history.fed k
more_fed w p k f = (f.0, in_front w.history.fed _ f.0 f.1, f.2)

fed_marks : (app : Application) → IsApplication app → (w : World) (n : ℕ) (node : SwitchNode) (p : Packet) → slice_get w.switches n ≡ Some node → p.mark ≡ w.event + 1 → Given app w → MarksOf w →
    MarksOf (switch_moved (with_fed w p) n node (switch_step app node.state node.clock (Input.Packet p)))
fed_marks app is_app w n node p at mark g h =
    let step = switch_step app node.state node.clock (Input.Packet p) in
    rw (item_marks_are (with_fed w p) n node step, release_marks_are (with_fed w p) n node step)
    (moved_marks w.history.fed (with_fed w p).history.fed w.switches (journal_marks w) (released_marks w) n node at (Input.Packet p) step (marked app is_app w n node (Input.Packet p) at g.0) h (more_fed w p)
    (fed_new w p g.1 h mark))

pub marks_kept : (app : Application) → IsApplication app → KeepsGiven app (Given app) MarksOf
marks_kept app is_app =
    record {
      counts = λ w g h. h;
      passes = λ w i g h. h;
      feeds = λ w n node p at up mark g h. fed_marks app is_app w n node p at mark g h;
      switches = λ w n node input at up from g h. stepped_marks app is_app w n node input at from g.0 h;
      replicas = λ w n node input at up from g h. h;
      advances = λ w by fits g h. less_waits w.history.fed w.switches (advanced_switches w.switches by) (journal_marks w) (released_marks w)
          (λ m. sum-advanced (λ x. asked_of m x.state) w.switches by (λ x c. omega arith)) (λ m. sum-advanced (λ x. rings_of m x.state) w.switches by (λ x c. omega arith)) h;
      stops_switch = λ w n fits g h. less_waits w.history.fed w.switches _ (journal_marks w) (released_marks w)
          (λ m. sum-changed (λ x. asked_of m x.state) w.switches n (λ (s : SwitchNode). record s { runs = false }) (λ x. omega arith)) (λ m. sum-changed (λ x. rings_of m x.state) w.switches n (λ (s : SwitchNode). record s { runs = false }) (λ x. omega arith)) h;
      stops_replica = λ w n fits g h. h;
      boots = λ w n down g h. less_waits w.history.fed w.switches _ (journal_marks w) (released_marks w)
          (λ m. sum-changed (λ x. asked_of m x.state) w.switches n (boot_of w) (λ x. omega arith)) (λ m. sum-changed (λ x. rings_of m x.state) w.switches n (boot_of w) (λ x. omega arith)) h;
      detects_switch = λ w n fits g h. less_waits w.history.fed w.switches _ (journal_marks w) (released_marks w)
          (λ m. sum-changed (λ x. asked_of m x.state) w.switches n (λ (s : SwitchNode). record s { believed = s.runs }) (λ x. omega arith)) (λ m. sum-changed (λ x. rings_of m x.state) w.switches n (λ (s : SwitchNode). record s { believed = s.runs }) (λ x. omega arith)) h;
      detects_replica = λ w n fits g h. h;
      announces = λ w g h. h;
    }

none_at_first : (f : SwitchNode → ℕ) (setup : Setup) (ns : List ℕ) → ((n : ℕ) → f (open_switch_node setup n) ≡ 0) → sum_of f (map (open_switch_node setup) ns) ≡ 0
none_at_first f setup [] none = refl
none_at_first f setup (n ∷ ns) none = omega (arith, none n, none_at_first f setup ns none)

pub opened_marks : (app : Application) (setup : Setup) → MarksOf (opened app.cell_count setup)
opened_marks app setup =
    record {
      one = λ m. omega (arith, none_at_first (λ x. rings_of m x.state) setup (below setup.switches) (λ n. refl));
      asked = λ m some i. i;
      unreleased = λ m some i. i;
      ring_fed = λ m some. absurd (omega (arith, some, none_at_first (λ x. rings_of m x.state) setup (below setup.switches) (λ n. refl)));
      item_fed = λ m i. absurd i;
      release_fed = λ m i. absurd i;
      items_once = tt;
      released_once = tt;
    }

-- after every list of events
pub marks_hold : (app : Application) → IsApplication app → (setup : Setup) (es : List Event) → MarksOf (world_after app (opened app.cell_count setup) es)
marks_hold app is_app setup es =
    (run_kept app (λ w. Given app w × MarksOf w) (keeps_both app (Given app) MarksOf (given_kept app) (marks_kept app is_app)) es (opened app.cell_count setup)
    ((all_counted app setup [], record { within = tt; differ = tt }), opened_marks app setup)).1
