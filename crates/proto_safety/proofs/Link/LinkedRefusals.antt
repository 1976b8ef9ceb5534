-- Where a run over a link tells a refusal: at an event that is refused, or within a pump that found no room for a frame.
use Rattle.std.proofs.Common.{◌≡◌, ◌⊎◌, inl, inr, ℕ, ◌+◌, List, [], ◌∷◌, ◌++◌, Option, Some, arith, refl, sym, ap, subst, ◌∙◌, zero, suc, take, slice_get, fold}
use Rattle.std.specs.Prelude.{option_map}
use Rattle.std.proofs.Common.{false}
use Rattle.rp_base.specs.declared.node.Node.{Node}
use Rattle.rp_base.specs.declared.event.Event.{Event}
use Rattle.rp_base.specs.declared.event.Refusal.{Refusal}
use Rattle.proto_data.specs.declared.message.Msg.{Msg}
use Rattle.proto_data.specs.declared.message.Input.{Input}
use Rattle.rp_app.specs.Application.{Application}
use Rattle.proto_model.specs.Effects.{frame_passed}
use Rattle.proto_model.specs.Lines.{Line, Refused, Stranger}
use Rattle.proto_model.specs.Pumping.{Received, Pumped, pumped, linked_event, linked_run}
use Rattle.proto_model.specs.World.{World, Setup, opened}
use Rattle.proto_model.specs.WorldStep.{Act, Refuses, Pumps, act_of, perform_act, node_takes, next_event}
use Rattle.proto_safety.specs.Books.{In}
use Rattle.proto_safety.specs.LegalLines.{linked_act}
use Rattle.proto_safety.proofs.Inductions.EventCounts.{node_counts, act_counts}
use Rattle.proto_safety.proofs.Legality.LinesTold.{act_where, act_tells, each_node_takes}
use Rattle.proto_safety.proofs.Link.LinkedKept.{PumpKeeps, pump_kept, acted_by}
use Rattle.proto_safety.proofs.Basics.Eachs.{each_in}
use Rattle.proto_safety.proofs.Basics.Members.{in_append, in_front, to_append}

module _ (spelled : Msg → List ℕ) (app : Application) where
  -- why an event's lines have a refusal
  abbrev Why : Act → Refusal → Type 0
  Why act cause = (act ≡ Refuses cause) ⊎ ((act ≡ Pumps) × (cause ≡ Refusal.FramesFull))

  -- within a pump
  record Pumping (c : ℕ) (base : List Line) (w : World) (lines : List Line) : Type 0 where
    pub event : w.event ≡ c
    pub only : (n : ℕ) (cause : Refusal) → In lines (Refused n cause) → In base (Refused n cause) ⊎ ((n ≡ c) × (cause ≡ Refusal.FramesFull))
    pub stays : (l : Line) → In base l → In lines l

  none_handed : (w : World) (m : Msg) (n : ℕ) (cause : Refusal) → In (node_takes app w m.to (Input.Msg m)).1 (Refused n cause) → ⊥
  none_handed w m n cause i =
      each_in (λ l. l ≡ Refused n cause → ⊥) (node_takes app w m.to (Input.Msg m)).1 (Refused n cause)
      (each_node_takes (λ l. l ≡ Refused n cause → ⊥) (λ event mark port bytes same. absurd cc) (λ event mark c same. absurd cc) (λ event c same. absurd cc) (λ event frame m. (λ same. absurd cc, tt)) app w m.to (Input.Msg m)) i refl

  pumping : (c : ℕ) (base : List Line) → PumpKeeps app (λ (p : Pumped). Pumping c base p.world p.lines)
  pumping c base =
      record {
        takes = λ p xs h. h;
        begins = λ p h. h;
        stranger = λ p node h.
            record {
              event = h.event;
              only = λ n cause i. strange p.world.event node n cause p.lines (h.only n cause) (in_append p.lines (Stranger p.world.event node ∷ []) (Refused n cause) i);
              stays = λ l i. in_front p.lines (Stranger p.world.event node ∷ []) l (h.stays l i);
            };
        full = λ p h.
            record {
              event = h.event;
              only = λ n cause i. filled p.world.event n cause p.lines h.event (h.only n cause) (in_append p.lines (Refused p.world.event Refusal.FramesFull ∷ []) (Refused n cause) i);
              stays = λ l i. in_front p.lines (Refused p.world.event Refusal.FramesFull ∷ []) l (h.stays l i);
            };
        hands = λ p i m at up h.
            record {
              event = node_counts app (frame_passed p.world i) m.to (Input.Msg m) ∙ h.event;
              only = λ n cause j. given (frame_passed p.world i) m n cause p.lines (h.only n cause) (in_append p.lines (node_takes app (frame_passed p.world i) m.to (Input.Msg m)).1 (Refused n cause) j);
              stays = λ l j. in_front p.lines (node_takes app (frame_passed p.world i) m.to (Input.Msg m)).1 l (h.stays l j);
            };
      }
    where
      strange : (event : ℕ) (node : Node) (n : ℕ) (cause : Refusal) (ls : List Line) → (In ls (Refused n cause) → In base (Refused n cause) ⊎ ((n ≡ c) × (cause ≡ Refusal.FramesFull))) →
          In ls (Refused n cause) ⊎ In (Stranger event node ∷ []) (Refused n cause) → In base (Refused n cause) ⊎ ((n ≡ c) × (cause ≡ Refusal.FramesFull))
      strange event node n cause ls h (inl i) = h i
      strange event node n cause ls h (inr (inl e)) = absurd cc
      strange event node n cause ls h (inr (inr none)) = absurd none

      filled : (event n : ℕ) (cause : Refusal) (ls : List Line) → event ≡ c → (In ls (Refused n cause) → In base (Refused n cause) ⊎ ((n ≡ c) × (cause ≡ Refusal.FramesFull))) →
          In ls (Refused n cause) ⊎ In (Refused event Refusal.FramesFull ∷ []) (Refused n cause) → In base (Refused n cause) ⊎ ((n ≡ c) × (cause ≡ Refusal.FramesFull))
      filled event n cause ls at h (inl i) = h i
      filled event n cause ls at h (inr (inl e)) = let a : event ≡ n = cc in let b : Refusal.FramesFull ≡ cause = cc in inr (sym a ∙ at, sym b)
      filled event n cause ls at h (inr (inr none)) = absurd none

      given : (w : World) (m : Msg) (n : ℕ) (cause : Refusal) (ls : List Line) → (In ls (Refused n cause) → In base (Refused n cause) ⊎ ((n ≡ c) × (cause ≡ Refusal.FramesFull))) →
          In ls (Refused n cause) ⊎ In (node_takes app w m.to (Input.Msg m)).1 (Refused n cause) → In base (Refused n cause) ⊎ ((n ≡ c) × (cause ≡ Refusal.FramesFull))
      given w m n cause ls h (inl i) = h i
      given w m n cause ls h (inr i) = absurd (none_handed w m n cause i)

  -- after one event
  record EventSays (p : Pumped) (act : Act) (w : World) (lines : List Line) : Type 0 where
    pub event : w.event ≡ p.world.event + 1
    pub only : (n : ℕ) (cause : Refusal) → In lines (Refused n cause) → In p.lines (Refused n cause) ⊎ ((n ≡ p.world.event + 1) × Why act cause)
    pub stays : (l : Line) → In p.lines l → In lines l
    pub told : (cause : Refusal) → act ≡ Refuses cause → In lines (Refused (p.world.event + 1) cause)

  event_says : (p : Pumped) (e : Event) → EventSays p (act_of app (next_event p.world) e) (linked_event spelled app p e).world (linked_event spelled app p e).lines
  event_says p e =
      acted_by spelled app (λ (q : Pumped). EventSays p (act_of app (next_event p.world) e) q.world q.lines) (record p { world = next_event p.world }) (act_of app (next_event p.world) e)
      (λ is. after_pump (act_of app (next_event p.world) e) (pumped spelled app (record p { world = next_event p.world })) is
      (pump_kept spelled app (λ (q : Pumped). Pumping (p.world.event + 1) p.lines q.world q.lines) (pumping (p.world.event + 1) p.lines) (record p { world = next_event p.world })
      (record { event = refl; only = λ n cause i. inl i; stays = λ l i. i })))
      (after_act (act_of app (next_event p.world) e))
    where
      after_pump : (act : Act) (q : Pumped) → act ≡ Pumps → Pumping (p.world.event + 1) p.lines q.world q.lines → EventSays p act q.world q.lines
      after_pump act q is h =
          record {
            event = h.event;
            only = λ n cause i. because n cause (h.only n cause i);
            stays = h.stays;
            told = λ cause same. let no : Pumps ≡ Refuses cause = sym is ∙ same in absurd cc;
          }
        where
          because : (n : ℕ) (cause : Refusal) → In p.lines (Refused n cause) ⊎ ((n ≡ p.world.event + 1) × (cause ≡ Refusal.FramesFull)) → In p.lines (Refused n cause) ⊎ ((n ≡ p.world.event + 1) × Why act cause)
          because n cause (inl i) = inl i
          because n cause (inr b) = inr (b.0, inr (is, b.1))

      after_act : (act : Act) → EventSays p act (perform_act app (next_event p.world) act).0 (p.lines ++ (perform_act app (next_event p.world) act).1)
      after_act act =
          record {
            event = act_counts app (next_event p.world) act;
            only = λ n cause i. side n cause (in_append p.lines (perform_act app (next_event p.world) act).1 (Refused n cause) i);
            stays = λ l i. in_front p.lines (perform_act app (next_event p.world) act).1 l i;
            told = λ cause same. to_append p.lines (perform_act app (next_event p.world) act).1 (Refused (p.world.event + 1) cause) (inr (act_tells app (next_event p.world) act cause same));
          }
        where
          side : (n : ℕ) (cause : Refusal) → In p.lines (Refused n cause) ⊎ In (perform_act app (next_event p.world) act).1 (Refused n cause) → In p.lines (Refused n cause) ⊎ ((n ≡ p.world.event + 1) × Why act cause)
          side n cause (inl i) = inl i
          side n cause (inr i) = let a = act_where app (next_event p.world) act n cause i in inr (a.0, inl a.1)

  -- what the event at a place comes to
  abbrev act_from : Pumped → List Event → ℕ → Option Act
  act_from p es i = option_map (λ e. act_of app (next_event (fold (linked_event spelled app) p (take i es)).world) e) (slice_get es i)

  abbrev WhyAt : Option Act → Refusal → Type 0
  WhyAt at cause = (at ≡ Some (Refuses cause)) ⊎ ((at ≡ Some Pumps) × (cause ≡ Refusal.FramesFull))

  why_some : (act : Act) (cause : Refusal) → Why act cause → WhyAt (Some act) cause
  why_some act cause (inl e) = inl (ap Some e)
  why_some act cause (inr e) = inr (ap Some e.0, e.1)

  record RefusedAt (p : Pumped) (es : List Event) (n : ℕ) (cause : Refusal) : Type 0 where
    pub place : ℕ
    pub number : n ≡ p.world.event + (place + 1)
    pub why : WhyAt (act_from p es place) cause

  refusals_only : (es : List Event) (p : Pumped) (n : ℕ) (cause : Refusal) → In (fold (linked_event spelled app) p es).lines (Refused n cause) → In p.lines (Refused n cause) ⊎ RefusedAt p es n cause
  refusals_only [] p n cause i = inl i
  refusals_only (e ∷ es) p n cause i = side (refusals_only es (linked_event spelled app p e) n cause i)
    where
      here : In p.lines (Refused n cause) ⊎ ((n ≡ p.world.event + 1) × Why (act_of app (next_event p.world) e) cause) → In p.lines (Refused n cause) ⊎ RefusedAt p (e ∷ es) n cause
      here (inl j) = inl j
      here (inr a) = inr (record { place = 0; number = omega (arith, a.0); why = why_some (act_of app (next_event p.world) e) cause a.1 })

      side : In (linked_event spelled app p e).lines (Refused n cause) ⊎ RefusedAt (linked_event spelled app p e) es n cause → In p.lines (Refused n cause) ⊎ RefusedAt p (e ∷ es) n cause
      side (inl j) = here ((event_says p e).only n cause j)
      side (inr r) = inr (record { place = suc r.place; number = omega (arith, r.number, (event_says p e).event); why = r.why })

  lines_stay : (es : List Event) (p : Pumped) (l : Line) → In p.lines l → In (fold (linked_event spelled app) p es).lines l
  lines_stay [] p l i = i
  lines_stay (e ∷ es) p l i = lines_stay es (linked_event spelled app p e) l ((event_says p e).stays l i)

  refusals_told : (es : List Event) (p : Pumped) (i : ℕ) (cause : Refusal) → act_from p es i ≡ Some (Refuses cause) → In (fold (linked_event spelled app) p es).lines (Refused (p.world.event + (i + 1)) cause)
  refusals_told [] p i cause is = absurd cc
  refusals_told (e ∷ es) p zero cause is =
      let same : act_of app (next_event p.world) e ≡ Refuses cause = cc in
      let number : p.world.event + (0 + 1) ≡ p.world.event + 1 = omega arith in
      subst (λ n. In (fold (linked_event spelled app) (linked_event spelled app p e) es).lines (Refused n cause)) (sym number)
      (lines_stay es (linked_event spelled app p e) (Refused (p.world.event + 1) cause) ((event_says p e).told cause same))
  refusals_told (e ∷ es) p (suc i) cause is =
      let number : (linked_event spelled app p e).world.event + (i + 1) ≡ p.world.event + (suc i + 1) = omega (arith, (event_says p e).event) in
      subst (λ n. In (fold (linked_event spelled app) (linked_event spelled app p e) es).lines (Refused n cause)) number (refusals_told es (linked_event spelled app p e) i cause is)

  abbrev start : Setup → List Received → Pumped
  start setup received = record { world = opened app.cell_count setup; lines = []; rest = received; ended = false }

  pub linked_refusals_told : (setup : Setup) (events : List Event) (received : List Received) (i : ℕ) (cause : Refusal) → linked_act spelled app setup events received i ≡ Some (Refuses cause) → In (linked_run spelled app setup events received).lines (Refused (i + 1) cause)
  linked_refusals_told setup events received i cause is =
      let number : 0 + (i + 1) ≡ i + 1 = omega arith in
      subst (λ n. In (linked_run spelled app setup events received).lines (Refused n cause)) number (refusals_told events (start setup received) i cause is)

  pub linked_refusals_only : (setup : Setup) (events : List Event) (received : List Received) (n : ℕ) (cause : Refusal) → In (linked_run spelled app setup events received).lines (Refused n cause) →
      (i : ℕ) × (n ≡ i + 1) × ((linked_act spelled app setup events received i ≡ Some (Refuses cause)) ⊎ ((linked_act spelled app setup events received i ≡ Some Pumps) × (cause ≡ Refusal.FramesFull)))
  linked_refusals_only setup events received n cause i = placed (refusals_only events (start setup received) n cause i)
    where
      placed : In (start setup received).lines (Refused n cause) ⊎ RefusedAt (start setup received) events n cause →
          (i : ℕ) × (n ≡ i + 1) × ((linked_act spelled app setup events received i ≡ Some (Refuses cause)) ⊎ ((linked_act spelled app setup events received i ≡ Some Pumps) × (cause ≡ Refusal.FramesFull)))
      placed (inl none) = absurd none
      placed (inr r) = let number : n ≡ r.place + 1 = omega (arith, r.number) in (r.place, number, r.why)
