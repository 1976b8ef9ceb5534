-- What the lines of a run over a link say of its history; a pump writes within its own event.
use Rattle.std.proofs.Common.{◌≡◌, ℕ, ◌+◌, ◌≤◌, ◌<◌, List, [], ◌∷◌, ◌++◌, length, arith, refl, sym, ap, subst, ◌∙◌, true, false, Bool, ◌||◌, fold, append_assoc, length-append}
use Rattle.std.specs.Prelude.{◌==◌}
use Rattle.std.proofs.Common.{eqb-true}
use Rattle.std.proofs.lemmas.List.{append-nil}
use Rattle.std.proofs.lemmas.List.Folds.{list_any-append}
use Rattle.rp_base.specs.Clocks.{TermsHold}
use Rattle.rp_base.specs.declared.event.Event.{Event}
use Rattle.rp_base.specs.declared.event.Refusal.{Refusal}
use Rattle.proto_data.specs.declared.message.Body.{Body}
use Rattle.proto_data.specs.declared.message.Msg.{Msg}
use Rattle.proto_data.specs.declared.message.Input.{Input}
use Rattle.proto_data.specs.declared.terms.Mode.{Mode}
use Rattle.proto_data.specs.declared.terms.Terms.{Terms}
use Rattle.rp_app.specs.Application.{Application, IsApplication}
use Rattle.proto_model.specs.Committed.{committed_flows}
use Rattle.proto_model.specs.Effects.{frame_passed}
use Rattle.proto_model.specs.Feeds.{Each}
use Rattle.proto_model.specs.Lines.{Line, Refused, Stranger, printed}
use Rattle.proto_model.specs.Pumping.{Received, Pumped, pumped, linked_event, linked_run}
use Rattle.proto_model.specs.World.{World, Setup, opened}
use Rattle.proto_model.specs.WorldStep.{Pumps, act_of, perform_act, node_takes, next_event}
use Rattle.proto_safety.specs.LegalLines.{LegalLines, feed_of, feeds_from, feeds_in, releases_in, flows_in, linked_report}
use Rattle.proto_safety.proofs.Time.ClockSums.{terms_kept}
use Rattle.proto_safety.proofs.Inductions.EventCounts.{node_counts, act_counts}
use Rattle.proto_safety.proofs.Legality.LinesTold.{NoSerial, NoRefusal, none_refused, releases_append, node_told, act_told, act_refused, act_no_other, act_fed, event_feeds, node_fed, each_node_takes, act_no_serial, is_refusal, fed_by}
use Rattle.proto_safety.proofs.Link.LinkedKept.{PumpKeeps, pump_kept, acted_by, linked_kept}
use Rattle.proto_safety.proofs.Legality.RunsAreLegal.{linked_runs_are_legal}
use Rattle.proto_safety.proofs.Legality.ReportLegal.{shown_feeds, shown_as_released, shown_flows, same_lists}
use Rattle.proto_safety.proofs.Legality.RunLines.{refusal_said, refused_said, releases_said}
use Rattle.proto_safety.proofs.Basics.Eachs.{each_append}

-- ---- feeds

feeds_below : (f g : ℕ → Bool) (n : ℕ) (es : List Event) → ((k : ℕ) → n ≤ k → k < n + length es → f k ≡ g k) → feeds_from f n es ≡ feeds_from g n es
feeds_below f g n [] h = refl
feeds_below f g n (e ∷ es) h =
    ap (λ b. feed_of b n e ++ feeds_from f (n + 1) es) (h n (omega arith) (omega arith))
    ∙ ap (λ l. feed_of (g n) n e ++ l) (feeds_below f g (n + 1) es (λ k le lt. h k (omega (arith, le)) (omega (arith, lt))))

feeds_last : (f : ℕ → Bool) (n : ℕ) (es : List Event) (e : Event) → feeds_from f n (es ++ e ∷ []) ≡ feeds_from f n es ++ feed_of (f (n + length es)) (n + length es) e
feeds_last f n [] e = let same : n + 0 ≡ n = omega arith in append-nil (feed_of (f n) n e) ∙ ap (λ k. feed_of (f k) k e) (sym same)
feeds_last f n (x ∷ es) e =
    let same : n + 1 + length es ≡ n + length (x ∷ es) = omega arith in
    ap (λ l. feed_of (f n) n x ++ l) (feeds_last f (n + 1) es e ∙ ap (λ k. feeds_from f (n + 1) es ++ feed_of (f k) k e) same)
    ∙ sym (append_assoc (feed_of (f n) n x) (feeds_from f (n + 1) es) (feed_of (f (n + length (x ∷ es))) (n + length (x ∷ es)) e))

-- a refused event feeds nothing
refused_feeds : (n : ℕ) (e : Event) → feed_of true n e ≡ []
refused_feeds n (Event.Feed port bytes) = refl
refused_feeds n (Event.FeedAt at port bytes) = refl
refused_feeds n (Event.Deliver i) = refl
refused_feeds n Event.Next = refl
refused_feeds n (Event.Drop i) = refl
refused_feeds n (Event.Time advances) = refl
refused_feeds n (Event.Alarm node) = refl
refused_feeds n (Event.Fail node) = refl
refused_feeds n (Event.Boot at) = refl
refused_feeds n (Event.Detect node) = refl
refused_feeds n Event.Announce = refl
refused_feeds n Event.Pump = refl

-- nor does a pump
pump_feeds : (app : Application) (w : World) (e : Event) (b : Bool) → act_of app w e ≡ Pumps → feed_of b w.event e ≡ []
pump_feeds app w e true is = refused_feeds w.event e
pump_feeds app w e false is =
    let a : fed_by w.event (act_of app w e) ≡ [] = ap (fed_by w.event) is in
    let b : is_refusal (act_of app w e) ≡ false = ap is_refusal is in
    ap (λ x. feed_of x w.event e) (sym b) ∙ (sym (event_feeds app w e) ∙ a)

-- ---- what is said

-- The lines say the history: `done` are the events whose feeds are counted, and the present event has the number c.
pub record Said (c : ℕ) (done : List Event) (w : World) (lines : List Line) : Type 0 where
  pub event : w.event ≡ c
  pub released : w.history.released ≡ releases_said lines
  pub fed : w.history.fed ≡ feeds_from (refused_said lines) 1 done
  pub later : (n : ℕ) → c < n → refused_said lines n ≡ false
  pub plain : Each NoSerial lines

or_false : (b : Bool) → (b || false) ≡ b
or_false true = refl
or_false false = refl

no_more : (xs ys : List Line) (n : ℕ) → refused_said ys n ≡ false → refused_said (xs ++ ys) n ≡ refused_said xs n
no_more xs ys n h = list_any-append (refusal_said n) xs ys ∙ (ap (λ b. refused_said xs n || b) h ∙ or_false (refused_said xs n))

-- lines of the present event that refuse no event before it
said_more : (c : ℕ) (done : List Event) (w v : World) (lines more : List Line) → Said c done w lines → v.event ≡ w.event → v.history.released ≡ w.history.released ++ releases_said more → v.history.fed ≡ w.history.fed →
    ((n : ℕ) → n ≤ length done → refused_said more n ≡ false) → ((n : ℕ) → c < n → refused_said more n ≡ false) → Each NoSerial more → Said c done v (lines ++ more)
said_more c done w v lines more h event released fed early late plain =
    record {
      event = event ∙ h.event;
      released = released ∙ (ap (λ l. l ++ releases_said more) h.released ∙ sym (releases_append lines more));
      fed = fed ∙ (h.fed ∙ feeds_below (refused_said lines) (refused_said (lines ++ more)) 1 done (λ k le lt. sym (no_more lines more k (early k (omega (arith, lt))))));
      later = λ n lt. no_more lines more n (late n lt) ∙ h.later n lt;
      plain = each_append NoSerial lines more h.plain plain;
    }

other_number : (a b : ℕ) → (a ≡ b → ⊥) → (a == b) ≡ false
other_number a b ne = num_case (a == b) refl
  where
    num_case : (x : Bool) → (a == b) ≡ x → x ≡ false
    num_case true is = absurd (ne (eqb-true a b is))
    num_case false is = refl

module _ (spelled : Msg → List ℕ) (app : Application) where
  -- within a pump
  pump_says : (done : List Event) → PumpKeeps app (λ (p : Pumped). Said (length done + 1) done p.world p.lines)
  pump_says done =
      record {
        takes = λ p xs h. h;
        begins = λ p h. h;
        stranger = λ p node h.
            said_more (length done + 1) done p.world p.world p.lines (Stranger p.world.event node ∷ []) h refl (sym (append-nil p.world.history.released)) refl (λ n le. refl) (λ n lt. refl) (λ behind. refl, tt);
        full = λ p h.
            said_more (length done + 1) done p.world p.world p.lines (Refused p.world.event Refusal.FramesFull ∷ []) h refl (sym (append-nil p.world.history.released)) refl
            (λ n le. ap (λ b. b || false) (other_number p.world.event n (λ same. omega (arith, le, same, h.event)))) (λ n lt. ap (λ b. b || false) (other_number p.world.event n (λ same. omega (arith, lt, same, h.event))))
            (λ behind. refl, tt);
        hands = λ p i m at up h.
            let step = node_takes app (frame_passed p.world i) m.to (Input.Msg m) in
            said_more (length done + 1) done p.world (node_takes app (frame_passed p.world i) m.to (Input.Msg m)).0 p.lines (node_takes app (frame_passed p.world i) m.to (Input.Msg m)).1 h
            (node_counts app (frame_passed p.world i) m.to (Input.Msg m)) (node_told app (frame_passed p.world i) m.to (Input.Msg m)) (node_fed app (frame_passed p.world i) m.to (Input.Msg m))
            (λ n le. none_refused step.1 n (no_refusal (frame_passed p.world i) m)) (λ n lt. none_refused step.1 n (no_refusal (frame_passed p.world i) m))
            (each_node_takes NoSerial (λ event mark port bytes behind. refl) (λ event mark cause behind. refl) (λ event cause behind. refl) (λ event frame m. (λ behind. refl, tt)) app (frame_passed p.world i) m.to (Input.Msg m));
      }
    where
      no_refusal : (w : World) (m : Msg) → Each NoRefusal (node_takes app w m.to (Input.Msg m)).1
      no_refusal w m = each_node_takes NoRefusal (λ event mark port bytes n. refl) (λ event mark cause n. refl) (λ event cause n. refl) (λ event frame m. (λ n. refl, tt)) app w m.to (Input.Msg m)

  abbrev Told : List Event → World → List Line → Type 0
  Told done w lines = Said (length done) done w lines

  one_longer : (done : List Event) (e : Event) → length (done ++ e ∷ []) ≡ length done + 1
  one_longer done e = length-append done (e ∷ [])

  -- after a pump its event is done
  pump_done : (done : List Event) (e : Event) (w : World) (p : Pumped) → w.event ≡ length done + 1 → act_of app w e ≡ Pumps → Said (length done + 1) done p.world p.lines → Told (done ++ e ∷ []) p.world p.lines
  pump_done done e w p at is h =
      let number : 1 + length done ≡ w.event = omega (arith, at) in
      let none : feed_of (refused_said p.lines (1 + length done)) (1 + length done) e ≡ [] =
      subst (λ k. feed_of (refused_said p.lines k) k e ≡ []) (sym number) (pump_feeds app w e (refused_said p.lines w.event) is) in
      record {
        event = h.event ∙ sym (one_longer done e);
        released = h.released;
        fed = h.fed ∙ (sym (append-nil (feeds_from (refused_said p.lines) 1 done)) ∙ (ap (λ l. feeds_from (refused_said p.lines) 1 done ++ l) (sym none) ∙ sym (feeds_last (refused_said p.lines) 1 done e)));
        later = λ n lt. h.later n (omega (arith, lt, one_longer done e));
        plain = h.plain;
      }

  -- an event that isn't a pump
  act_said : (done : List Event) (e : Event) (p : Pumped) → Told done p.world p.lines →
      Told (done ++ e ∷ []) (perform_act app (next_event p.world) (act_of app (next_event p.world) e)).0 (p.lines ++ (perform_act app (next_event p.world) (act_of app (next_event p.world) e)).1)
  act_said done e p h =
      let w = next_event p.world in
      let act = act_of app (next_event p.world) e in
      let more = (perform_act app (next_event p.world) (act_of app (next_event p.world) e)).1 in
      let number : p.world.event + 1 ≡ 1 + length done = omega (arith, h.event) in
      let count : (perform_act app (next_event p.world) (act_of app (next_event p.world) e)).0.event ≡ p.world.event + 1 = act_counts app (next_event p.world) (act_of app (next_event p.world) e) in
      let none : refused_said p.lines (p.world.event + 1) ≡ false = h.later (p.world.event + 1) (omega (arith, h.event)) in
      let refused : refused_said (p.lines ++ (perform_act app (next_event p.world) (act_of app (next_event p.world) e)).1) (p.world.event + 1) ≡ is_refusal (act_of app (next_event p.world) e) =
      list_any-append (refusal_said (p.world.event + 1)) p.lines more ∙ (ap (λ b. b || refused_said more (p.world.event + 1)) none ∙ act_refused app w act) in
      let last : feed_of (is_refusal (act_of app (next_event p.world) e)) (p.world.event + 1) e ≡ feed_of (refused_said (p.lines ++ more) (1 + length done)) (1 + length done) e =
      ap (λ b. feed_of b (p.world.event + 1) e) (sym refused) ∙ ap (λ k. feed_of (refused_said (p.lines ++ more) k) k e) number in
      let before : feeds_from (refused_said p.lines) 1 done ≡ feeds_from (refused_said (p.lines ++ more)) 1 done =
      feeds_below (refused_said p.lines) (refused_said (p.lines ++ more)) 1 done (λ k le lt. sym (no_more p.lines more k (act_no_other app w act k (λ same. omega (arith, lt, same, h.event))))) in
      record {
        event = count ∙ (omega (arith, h.event, one_longer done e));
        released = act_told app w act ∙ (ap (λ l. l ++ releases_said more) h.released ∙ sym (releases_append p.lines more));
        fed = act_fed app w act
            ∙ (ap (λ l. p.world.history.fed ++ l) (event_feeds app w e ∙ last)
            ∙ (ap (λ l. l ++ feed_of (refused_said (p.lines ++ more) (1 + length done)) (1 + length done) e) (h.fed ∙ before) ∙ sym (feeds_last (refused_said (p.lines ++ more)) 1 done e)));
        later = λ n lt. no_more p.lines more n (act_no_other app w act n (λ same. omega (arith, lt, same, h.event, one_longer done e))) ∙ h.later n (omega (arith, lt, one_longer done e));
        plain = each_append NoSerial p.lines more h.plain (act_no_serial app w act);
      }

  event_said : (done : List Event) (e : Event) (p : Pumped) → Told done p.world p.lines → Told (done ++ e ∷ []) (linked_event spelled app p e).world (linked_event spelled app p e).lines
  event_said done e p h =
      let at : p.world.event + 1 ≡ length done + 1 = omega (arith, h.event) in
      acted_by spelled app (λ (q : Pumped). Told (done ++ e ∷ []) q.world q.lines) (record p { world = next_event p.world }) (act_of app (next_event p.world) e)
      (λ is.
      pump_done done e (next_event p.world) (pumped spelled app (record p { world = next_event p.world })) at is
      (pump_kept spelled app (λ (q : Pumped). Said (length done + 1) done q.world q.lines) (pump_says done) (record p { world = next_event p.world })
      (record { event = at; released = h.released; fed = h.fed; later = λ n lt. h.later n (omega (arith, lt)); plain = h.plain })))
      (act_said done e p h)

  events_said : (es done : List Event) (p : Pumped) → Told done p.world p.lines → Told (done ++ es) (fold (linked_event spelled app) p es).world (fold (linked_event spelled app) p es).lines
  events_said [] done p h = subst (λ l. Told l p.world p.lines) (sym (append-nil done)) h
  events_said (e ∷ es) done p h =
      let q = linked_event spelled app p e in
      subst (λ l. Told l (fold (linked_event spelled app) (linked_event spelled app p e) es).world (fold (linked_event spelled app) (linked_event spelled app p e) es).lines) (append_assoc done (e ∷ []) es)
      (events_said es (done ++ e ∷ []) q (event_said done e p h))

  -- the lines of a run over a link say its history
  pub linked_said : (setup : Setup) (events : List Event) (received : List Received) → Told events (linked_run spelled app setup events received).world (linked_run spelled app setup events received).lines
  linked_said setup events received =
      events_said events [] (record { world = opened app.cell_count setup; lines = []; rest = received; ended = false })
      (record { event = refl; released = refl; fed = refl; later = λ n lt. refl; plain = tt })

  pub linked_releases : (kind : Body → ℕ) (setup : Setup) (events : List Event) (received : List Received) (frames : Bool) →
      releases_in (printed kind spelled (linked_report spelled frames app setup events received)) ≡ (linked_run spelled app setup events received).world.history.released
  linked_releases kind setup events received frames =
      let p = linked_run spelled app setup events received in
      shown_as_released kind spelled frames app.cell_count (p.world, p.lines) ∙ sym (linked_said setup events received).released

  pub linked_feeds : (kind : Body → ℕ) (setup : Setup) (events : List Event) (received : List Received) (frames : Bool) →
      feeds_in events (printed kind spelled (linked_report spelled frames app setup events received)) ≡ (linked_run spelled app setup events received).world.history.fed
  linked_feeds kind setup events received frames =
      let p = linked_run spelled app setup events received in
      shown_feeds kind spelled frames app.cell_count (p.world, p.lines) events ∙ sym (linked_said setup events received).fed

  pub linked_flows : (kind : Body → ℕ) (setup : Setup) → setup.terms.mode ≡ Mode.Strict → (events : List Event) (received : List Received) (frames : Bool) →
      flows_in (printed kind spelled (linked_report spelled frames app setup events received)) ≡ committed_flows app.cell_count (linked_run spelled app setup events received).world
  linked_flows kind setup strict events received frames =
      let p = linked_run spelled app setup events received in
      let terms : (linked_run spelled app setup events received).world.terms ≡ setup.terms = linked_kept spelled app (λ (w : World). w.terms ≡ setup.terms) (terms_kept app setup.terms) setup events received refl in
      shown_flows kind spelled frames app.cell_count (p.world, p.lines) (ap (λ (t : Terms). t.mode) terms ∙ strict) (linked_said setup events received).plain

  pub linked_reports_are_legal : (kind : Body → ℕ) → IsApplication app → (setup : Setup) → setup.terms.mode ≡ Mode.Strict → TermsHold setup.terms.t_switch setup.terms.t_store setup.terms.ratio →
      (events : List Event) (received : List Received) (frames : Bool) → LegalLines app events (printed kind spelled (linked_report spelled frames app setup events received))
  linked_reports_are_legal kind is setup strict hold events received frames =
      same_lists app (linked_feeds kind setup events received frames) (linked_releases kind setup events received frames) (linked_flows kind setup strict events received frames)
      (linked_runs_are_legal app is spelled setup strict hold events received)
