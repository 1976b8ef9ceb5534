-- A schedule that the grammar accepts is ready to run.
use Rattle.std.proofs.Common.{◌≡◌, ℕ, ◌+◌, ◌≤◌, ◌<◌, List, [], ◌∷◌, Bool, true, false, nat_le, nat_lt, length, Option, Some, None, Ok, Err, arith, refl}
use Rattle.std.specs.Prelude.{All, IfOk, IfSome, option_to_list, ◌++◌, if◌then◌else◌, codes}
use Rattle.std.proofs.lemmas.Bool.{leb-true, leb-false}
use Rattle.std.proofs.lemmas.List.Elements.{All-cons, All-nil}
use Rattle.rp_base.specs.Clocks.{TermsHold}
use Rattle.rp_base.specs.declared.event.Event.{Event}
use Rattle.sched_lang.specs.declared.header.Header.{Header}
use Rattle.sched_lang.specs.declared.schedule.SchedWhy.TheVariants as why
use Rattle.sched_lang.specs.Causes.{◌>>=◌}
use Rattle.sched_lang.specs.Words.{lines, words, passed_over, number, none, one, two, behind}
use Rattle.sched_lang.specs.Header.{first_line, named, switches_line, chain_line, lease_line, ratio_line, mode, mode_line, terms_fit}
use Rattle.sched_lang.specs.EventForms.{event_line}
use Rattle.sched_lang.specs.Reading.{at_line, next_line, header, event_in, events_from, schedule_of}
use Rattle.sched_lang.specs.Ready.{IsEventOf, IsHeader, IsReady}
use Rattle.sched_lang.proofs.Behind.{next, behind_any, at_its_line, of_both, tested, Within, number-within}
use Rattle.sched_lang.proofs.EventsReady.{event-ready}

-- ---- the header

named-within : (name : List ℕ) (least most : ℕ) (line : List ℕ) → IfOk (named name least most line) (Within least most)
named-within name least most line =
    behind_any (Within least most) (behind name (words line)) _ (λ args.
    behind_any (Within least most) (one args) _ (λ word. number-within least most word))

lease-within : (line : List ℕ) → IfOk (lease_line line) (λ x. Within 1 1000000 x.0 × Within 1 1000000 x.1)
lease-within line =
    let P : ℕ × ℕ → Type 0 = λ x. Within 1 1000000 x.0 × Within 1 1000000 x.1 in
    behind_any P (behind _ (words line)) _ (λ args.
    behind_any P (two args) _ (λ ws.
    of_both (Within 1 1000000) (Within 1 1000000) (number 1 1000000 ws.0) (number 1 1000000 ws.1) (number-within 1 1000000 ws.0) (number-within 1 1000000 ws.1)))

-- a ratio in its range, by which the terms hold
abbrev Holds : ℕ → ℕ → ℕ → Type 0
Holds t_switch t_store ratio = (ratio ≤ 1000) × TermsHold t_switch t_store ratio

ratio-holds : (t_switch t_store : ℕ) (line : List ℕ) → IfOk (ratio_line t_switch t_store line) (Holds t_switch t_store)
ratio-holds t_switch t_store line =
    next (Within 0 1000) (Holds t_switch t_store) (named _ 0 1000 line) _ (named-within _ 0 1000 line) (λ ratio within.
    tested (Holds t_switch t_store) (terms_fit t_switch t_store ratio) (Ok ratio) why.Terms (λ fit. (within.1, leb-true _ _ fit)))

-- the bound of a mode, in its range
abbrev Bounded : Option ℕ → Type 0
Bounded snapshot = IfSome snapshot (Within 1 1000000)

mode-bounded : (words : List (List ℕ)) → IfOk (mode words) Bounded
mode-bounded [] = tt
mode-bounded (kind ∷ args) = by_kind _ _ (behind_any Bounded (none args) _ (λ end. tt)) (behind_any Bounded (one args) _ (λ word. next (Within 1 1000000) Bounded (number 1 1000000 word) _ (number-within 1 1000000 word) (λ bound h. h)))
  where
    by_kind : (strict snapshot : Bool) → IfOk (none args >>= λ end. Ok None) Bounded → IfOk (one args >>= λ word. number 1 1000000 word >>= λ bound. Ok (Some bound)) Bounded →
        IfOk (if strict then (none args >>= λ end. Ok None) else if snapshot then (one args >>= λ word. number 1 1000000 word >>= λ bound. Ok (Some bound)) else Err why.Form) Bounded
    by_kind true snapshot h k = h
    by_kind false true h k = k
    by_kind false false h k = tt

abbrev Leases : ℕ × ℕ → Type 0
Leases x = Within 1 1000000 x.0 × Within 1 1000000 x.1

header-ready : (n : ℕ) (ls : List (List ℕ)) → IfOk (header n ls) (λ h. IsHeader h.0)
unfolding header
header-ready n ls =
    let Q : Header × ℕ × List (List ℕ) → Type 0 = λ h. IsHeader h.0 in
    behind_any Q (next_line n ls) _ (λ l1.
    behind_any Q (at_line l1.0 (first_line l1.1)) _ (λ first.
    behind_any Q (next_line (l1.0 + 1) l1.2) _ (λ l2.
    next (Within 1 8) Q (at_line l2.0 (switches_line l2.1)) _ (at_its_line (Within 1 8) l2.0 (switches_line l2.1) (named-within (codes "switches") 1 8 l2.1)) (λ switches some_switches.
    behind_any Q (next_line (l2.0 + 1) l2.2) _ (λ l3.
    next (Within 1 5) Q (at_line l3.0 (chain_line l3.1)) _ (at_its_line (Within 1 5) l3.0 (chain_line l3.1) (named-within (codes "chain") 1 5 l3.1)) (λ chain some_replicas.
    behind_any Q (next_line (l3.0 + 1) l3.2) _ (λ l4.
    next Leases Q (at_line l4.0 (lease_line l4.1)) _ (at_its_line Leases l4.0 (lease_line l4.1) (lease-within l4.1)) (λ lease within.
    behind_any Q (next_line (l4.0 + 1) l4.2) _ (λ l5.
    next (Holds lease.0 lease.1) Q (at_line l5.0 (ratio_line lease.0 lease.1 l5.1)) _ (at_its_line (Holds lease.0 lease.1) l5.0 (ratio_line lease.0 lease.1 l5.1) (ratio-holds lease.0 lease.1 l5.1)) (λ ratio holds.
    behind_any Q (next_line (l5.0 + 1) l5.2) _ (λ l6.
    next Bounded Q (at_line l6.0 (mode_line l6.1)) _ (at_its_line Bounded l6.0 (mode_line l6.1) (behind_any Bounded (behind (codes "mode") (words l6.1)) mode mode-bounded)) (λ snapshot bounded.
    record {
      some_switches = some_switches.0;
      switches_fit = some_switches.1;
      some_replicas = some_replicas.0;
      replicas_fit = some_replicas.1;
      some_switch = within.0.0;
      switch_fits = within.0.1;
      some_store = within.1.0;
      store_fits = within.1.1;
      ratio_fits = holds.0;
      hold = holds.1;
      bound = bounded;
    }))))))))))))

-- ---- the events

module _ (switches chain : ℕ) where
  abbrev IsEvent : Event → Type 0
  IsEvent event = IsEventOf switches chain event

  -- an event for which there is room
  abbrev HasRoom : ℕ → Option Event → Type 0
  HasRoom before event = IfSome event IsEvent × IfSome event (λ e. before < 20000)

  event_in-ready : (before : ℕ) (line : List ℕ) → IfOk (event_in switches chain before line) (HasRoom before)
  event_in-ready before line = passed (passed_over line) (nat_le 20000 before) refl where
    passed : (over full : Bool) → nat_le 20000 before ≡ full →
        IfOk (if over then Ok None else if full then Err why.Many else (event_line switches chain line >>= λ event. Ok (Some event))) (HasRoom before)
    passed true full h = (tt, tt)
    passed false true h = tt
    passed false false h = next IsEvent (HasRoom before) (event_line switches chain line) _ (event-ready switches chain line) (λ event is. (is, leb-false 20000 before h))

  -- events of this run, with so many before them at most 20,000
  abbrev AreReady : ℕ → List Event → Type 0
  AreReady before events = All IsEvent events × (before + length events ≤ 20000)

  joined-ready : (before : ℕ) (here : Option Event) (more : List Event) → HasRoom before here → AreReady (before + length (option_to_list here)) more → AreReady before (option_to_list here ++ more)
  joined-ready before None more room ready = (ready.0, omega (arith, ready.1))
  joined-ready before (Some event) more room ready = (All-cons IsEvent event more room.0 ready.0, omega (arith, ready.1))

  room-after : (before : ℕ) (here : Option Event) → before ≤ 20000 → HasRoom before here → before + length (option_to_list here) ≤ 20000
  room-after before None most room = omega (arith, most)
  room-after before (Some event) most room = omega (arith, room.1)

  events-ready : (before n : ℕ) (ls : List (List ℕ)) → before ≤ 20000 → IfOk (events_from switches chain before n ls) (AreReady before)
  events-ready before n [] most = (All-nil IsEvent, omega (arith, most))
  events-ready before n (line ∷ ls) most =
      next (HasRoom before) (AreReady before) (at_line n (event_in switches chain before line)) _ (at_its_line (HasRoom before) n (event_in switches chain before line) (event_in-ready before line)) (λ here room.
      let after = before + length (option_to_list here) in
      next (AreReady after) (AreReady before) (events_from switches chain after (n + 1) ls) _ (events-ready after (n + 1) ls (room-after before here most room)) (λ more ready.
      joined-ready before here more room ready))

-- ---- the whole text

pub accepted-ready : (text : List ℕ) → IfOk (schedule_of text) IsReady
unfolding schedule_of
accepted-ready text =
    tested_not (nat_lt 4194304 (length text)) (
    next (λ h. IsHeader h.0) IsReady (header 1 (lines text)) _ (header-ready 1 (lines text)) (λ h is.
    next (AreReady h.0.switches h.0.chain 0) IsReady (events_from h.0.switches h.0.chain 0 h.1 h.2) _ (events-ready h.0.switches h.0.chain 0 h.1 h.2 (omega arith)) (λ events are.
    record { header = is; events = are.0; count = omega (arith, are.1) })))
  where
    tested_not : (long : Bool) →
        IfOk (header 1 (lines text) >>= λ h. events_from h.0.switches h.0.chain 0 h.1 h.2 >>= λ events. Ok (record { switches = h.0.switches; chain = h.0.chain; t_switch = h.0.t_switch; t_store = h.0.t_store; ratio = h.0.ratio; snapshot = h.0.snapshot; events = events })) IsReady →
        IfOk (if long then Err (0, why.TooLong) else (header 1 (lines text) >>= λ h. events_from h.0.switches h.0.chain 0 h.1 h.2 >>= λ events. Ok (record { switches = h.0.switches; chain = h.0.chain; t_switch = h.0.t_switch; t_store = h.0.t_store; ratio = h.0.ratio; snapshot = h.0.snapshot; events = events }))) IsReady
    tested_not true h = tt
    tested_not false h = h
