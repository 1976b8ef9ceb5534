-- A row of a switch whose slot was taken out and is put back, at its moment.
use Rattle.std.proofs.Common.{◌≡◌, ◌≤◌, ◌<◌, ◌+◌, ℕ, List, Some, None, true, Ok, Err, All, ap, sym, ◌∙◌, subst, length, arith}
use Rattle.std.specs.Prelude.{if◌then◌else◌, nat_lt, IfOk, Result, ◌^◌, ◌*◌}
use Rattle.rp_base.specs.declared.node.Packet.{Packet}
use Rattle.proto_data.specs.declared.message.Body.{Body}
use Rattle.proto_data.specs.declared.message.Input.{Input}
use Rattle.proto_data.specs.declared.limits.TheConstants.{SLOTS}
use Rattle.rp_app.specs.Application.{Application, zeros}
use Rattle.key_table.specs.Table.{Key}
use Rattle.proto_model.specs.Slot.{Slot, fresh_slot}
use Rattle.proto_model.specs.SwitchState.{Switch, SwitchDid, Copy, with_slot, slot_at, is_of, lapsed}
use Rattle.proto_model.specs.SwitchRow.{SwitchRow, switch_row, Keyless, NewAsk, NoRoom, at_slot, leased_row, keyed_row, message_row, packet_row}
use Rattle.proto_model.specs.SwitchOutcomes.{perform, after_new_ask}
use Rattle.proto_model.specs.SwitchRows.{switch_step}
use Rattle.switch_core.specs.States.{SwitchAt, Core, AreUpTo, IsTaken, acts, stepped, turn, turned}
use Rattle.switch_core.specs.Steady.{IsSteady}
use Rattle.switch_core.specs.Walks.{CanWalk}
use Rattle.switch_core.proofs.Steady.{steady_at, steady_lapsed, steady_later, copies_below, no_copies_unleased}
use Rattle.switch_core.proofs.SteadyStep.{steady_step}
use Rattle.switch_core.proofs.Over.{put_back, leased_over, new_ask_over}

-- an answer of one turn is an answer of an equal one
pub gives : {E : Type 0} (r : Result SwitchDid E) (new : SwitchAt) (a b : SwitchAt × SwitchDid) → a ≡ b → IfOk r (λ did. ◌≡◌ {A = SwitchAt × SwitchDid} (new, did) a) → IfOk r (λ did. ◌≡◌ {A = SwitchAt × SwitchDid} (new, did) b)
gives r new a b e h = subst (λ (s : SwitchAt × SwitchDid). IfOk r (λ did. ◌≡◌ {A = SwitchAt × SwitchDid} (new, did) s)) e h

-- and so is one whose parts are known
pub gives_did : {E : Type 0} (r : Result SwitchDid E) (new m : SwitchAt) (d : SwitchDid) (turn : SwitchAt × SwitchDid) → new ≡ m → ◌≡◌ {A = SwitchAt × SwitchDid} (m, d) turn → IfOk r (λ did. did ≡ d) → IfOk r (λ did. ◌≡◌ {A = SwitchAt × SwitchDid} (new, did) turn)
gives_did (Ok did) new m d turn e s h = (λ i. (e i, h i)) ∙ s
gives_did (Err x) new m d turn e s h = tt

-- a row whose slot was taken out, whatever stands in its place
pub taken_row : (old mid : SwitchAt) (key : Key) (v slot : Slot) (row : ℕ → Switch → Slot → SwitchRow) → mid ≡ record { state = with_slot old.state key v; latest = old.latest } → slot_at old.state key ≡ Some slot →
    stepped mid (perform (with_slot mid.state key slot) mid.latest (row mid.latest (with_slot mid.state key slot) slot)) ≡ acts old (at_slot (slot_at old.state key) (row old.latest old.state))
taken_row old mid key v slot row e at =
    ap (λ (m : SwitchAt). stepped m (perform (with_slot m.state key slot) m.latest (row m.latest (with_slot m.state key slot) slot))) e
    ∙ ap (λ (s : Switch). stepped old (perform s old.latest (row old.latest s slot))) (put_back old.state key v slot at)
    ∙ ap (λ o. acts old (at_slot o (row old.latest old.state))) (sym at)

-- a message of a known flow, by its row
pub msg_known : (app : Application) (old : SwitchAt) (body this : Body) (row : Key → SwitchRow) (k key : Key) → k ≡ key → body ≡ this → message_row app old.state old.latest this ≡ row key →
    acts old (row k) ≡ acts old (message_row app old.state old.latest body)
msg_known app old body this row k key same is row_is =
    ap (λ j. acts old (row j)) same ∙ ap (acts old) (sym row_is)
    ∙ ap (λ b. acts old (message_row app old.state old.latest b)) (sym is)

-- ---- packets

pub packet_keyless : (app : Application) (old : SwitchAt) (packet : Packet) → app.key_of packet ≡ None →
    acts old (Keyless (app.plain (zeros app.cell_count) packet).1) ≡ acts old (packet_row app old.state old.latest packet (app.key_of packet))
packet_keyless app old packet of = ap (λ k. acts old (packet_row app old.state old.latest packet k)) (sym of)

pub packet_unknown : (app : Application) (old : SwitchAt) (packet : Packet) (key : Key) → app.key_of packet ≡ Some key → slot_at old.state key ≡ None →
    acts old (if nat_lt (length old.state.slots) SLOTS then NewAsk key fresh_slot packet else NoRoom packet.mark) ≡ acts old (packet_row app old.state old.latest packet (app.key_of packet))
packet_unknown app old packet key of at =
    ap (λ o. acts old (keyed_row app old.state old.latest packet key o)) (sym at)
    ∙ ap (λ k. acts old (packet_row app old.state old.latest packet k)) (sym of)

-- a flow that is unknown asks, where there is room
pub asks_unknown : (old mid : SwitchAt) (key : Key) (packet : Packet) → mid ≡ record { state = with_slot old.state key fresh_slot; latest = old.latest } → nat_lt (length old.state.slots) SLOTS ≡ true →
    stepped mid (after_new_ask mid.state mid.latest key fresh_slot packet) ≡ acts old (if nat_lt (length old.state.slots) SLOTS then NewAsk key fresh_slot packet else NoRoom packet.mark)
asks_unknown old mid key packet e room =
    ap (λ (m : SwitchAt). stepped m (after_new_ask m.state m.latest key fresh_slot packet)) e
    ∙ ap (stepped old) (new_ask_over old.state old.latest key fresh_slot fresh_slot packet)
    ∙ ap (λ b. acts old (if b then NewAsk key fresh_slot packet else NoRoom packet.mark)) (sym room)

pub packet_leased : (app : Application) (old mid : SwitchAt) (packet : Packet) (key : Key) (v slot : Slot) → mid ≡ record { state = with_slot old.state key v; latest = old.latest } → app.key_of packet ≡ Some key → slot_at old.state key ≡ Some slot →
    acts mid (leased_row app mid.state mid.latest key slot packet slot.lease) ≡ acts old (packet_row app old.state old.latest packet (app.key_of packet))
packet_leased app old mid packet key v slot e of at =
    ap (λ (m : SwitchAt). acts m (leased_row app m.state m.latest key slot packet slot.lease)) e
    ∙ ap (stepped old) (leased_over app old.state old.latest key v slot packet slot.lease)
    ∙ ap (λ o. acts old (keyed_row app old.state old.latest packet key o)) (sym at)
    ∙ ap (λ k. acts old (packet_row app old.state old.latest packet k)) (sym of)

-- ---- what is known of a slot that was taken out

none_at_all : (key : Key) (n : ℕ) (copies : List Copy) → All (λ (c : Copy). is_of key c ≡ true → ⊥) copies → AreUpTo key n copies
none_at_all key n copies h = λ k d lt of. absurd (h k d lt of)

pub taken : (count n : ℕ) (s : Switch) (key : Key) (slot : Slot) → IsSteady count n s → n ≤ 2 ^ 62 → slot_at s key ≡ Some slot → IsTaken count key s.copies slot
taken count n s key slot h le at =
    record {
      last = omega (arith, (steady_at count n s key slot h at).last, le);
      whole = (steady_at count n s key slot h at).whole;
      numbers = copies_below count n s key slot h at;
      none = λ free. none_at_all key 0 s.copies (no_copies_unleased count n s key slot h at free);
    }

-- the same beside the copies of a state in which the slot was taken out
pub taken_from : (count n : ℕ) (old mid : SwitchAt) (key : Key) (v slot : Slot) → mid ≡ record { state = with_slot old.state key v; latest = old.latest } → IsSteady count n old.state → n ≤ 2 ^ 62 → slot_at old.state key ≡ Some slot → IsTaken count key mid.state.copies slot
taken_from count n old mid key v slot e h le at = subst (λ (m : SwitchAt). IsTaken count key m.state.copies slot) (sym e) (taken count n old.state key slot h le at)

-- ---- between turns

-- room for an Alarm
pub can_alarm : (count : ℕ) (s : SwitchAt) → IsSteady count (2 ^ 61) s.state → CanWalk 1024 s
can_alarm count s h = (count, 2 ^ 61, omega arith, h)

-- a turn keeps what is known of a switch
pub turn_kept : (app : Application) (cells turns now : ℕ) (old seen new : SwitchAt) (did : SwitchDid) (input : Input) → seen ≡ record { state = lapsed now old.state; latest = now } → ◌≡◌ {A = SwitchAt × SwitchDid} (new, did) (acts seen (switch_row app seen.state seen.latest input)) →
    app.cell_count ≡ cells → IsSteady cells (1024 * turns) old.state → (new.latest ≡ now) × IsSteady cells (1024 * (turns + 1)) new.state
turn_kept app cells turns now old seen new did input e h same steady =
    let step : ◌≡◌ {A = SwitchAt × SwitchDid} (new, did) (stepped (record { state = lapsed now old.state; latest = now }) (switch_step app old.state now input)) = h ∙ ap (λ (s : SwitchAt). acts s (switch_row app s.state s.latest input)) e in (
      ap (λ (p : SwitchAt × SwitchDid). p.0.latest) step,
      steady_later cells (1024 * turns + SLOTS) (1024 * (turns + 1)) new.state (omega arith)
          (subst (λ (p : SwitchAt × SwitchDid). IsSteady cells (1024 * turns + SLOTS) p.0.state) (sym step) (steady_step cells (1024 * turns) now app old.state input same steady)),
    )

-- and is the step of the definitions
pub turn_is : (app : Application) (core : Core) (now : ℕ) (old seen new : SwitchAt) (did : SwitchDid) (input : Input) → old.state ≡ core.state → seen ≡ record { state = lapsed now old.state; latest = now } → ◌≡◌ {A = SwitchAt × SwitchDid} (new, did) (acts seen (switch_row app seen.state seen.latest input)) →
    ◌≡◌ {A = Core × SwitchDid} (record { state = new.state; latest = now; cells = core.cells; turns = core.turns + 1; failed = core.failed }, did) (turn app core now input)
turn_is app core now old seen new did input was e h =
    let step : ◌≡◌ {A = SwitchAt × SwitchDid} (new, did) (stepped (record { state = lapsed now old.state; latest = now }) (switch_step app old.state now input)) = h ∙ ap (λ (s : SwitchAt). acts s (switch_row app s.state s.latest input)) e in
    ap (λ (p : SwitchAt × SwitchDid). (record { state = p.0.state; latest = now; cells = core.cells; turns = core.turns + 1; failed = core.failed }, p.1)) step
    ∙ ap (λ (s : Switch). turned core now (switch_step app s now input)) was

-- a switch that is seen at a moment
pub seen_steady : (cells turns now count : ℕ) (old seen : SwitchAt) → seen ≡ record { state = lapsed now old.state; latest = now } → count ≡ cells → turns < 4000000000 → IsSteady cells (1024 * turns) old.state → IsSteady count (2 ^ 61) seen.state
seen_steady cells turns now count old seen e same few steady =
    subst (λ (s : SwitchAt). IsSteady count (2 ^ 61) s.state) (sym e)
    (subst (λ c. IsSteady c (2 ^ 61) (lapsed now old.state)) (sym same)
    (steady_later cells (1024 * turns) (2 ^ 61) (lapsed now old.state) (omega (arith, few)) (steady_lapsed cells (1024 * turns) now old.state steady)))
