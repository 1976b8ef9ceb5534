-- A switch in the course of an Alarm.
use Rattle.std.specs.Prelude.{ℕ, ◌+◌, ◌/◌, ◌++◌, map, ◌^◌, ◌≤◌, Bool, false, not, ◌&&◌, nat_lt, length, List, [], ◌∷◌, Option, Some, None}
use Rattle.proto_data.specs.declared.message.Msg.{Msg}
use Rattle.key_table.specs.Table.{Key}
use Rattle.proto_data.specs.declared.limits.TheConstants.{COPIES, MESSAGES}
use Rattle.proto_model.specs.Slot.{Slot, Round}
use Rattle.proto_model.specs.SwitchState.{Begun, Copy, Switch, has_copies, with_slot}
use Rattle.proto_model.specs.SwitchAlarm.{Walk, chunk_sent, due_copies, ends_soon, other_copies, repeated_ask, resent_put}
use Rattle.switch_core.specs.States.{SwitchAt}
use Rattle.switch_core.specs.Steady.{IsSteady}

-- what went so far
pub record Going : Type 0 where
  pub sent : List Msg
  pub begun : List Begun

-- a switch in the course of an Alarm, with what went
abbrev pub walk_of : SwitchAt → Going → Walk
walk_of s going = record { state = s.state; sent = going.sent; begun = going.begun }

-- the switch once the copies that are due went again, in order of last sending
abbrev pub copies_again : SwitchAt → Going → Walk
copies_again s going =
    record {
      state = record s.state { copies = other_copies s.latest (s.state.terms.t_switch / 4) MESSAGES s.state.copies ++ map (λ (c : Copy). record c { sent = s.latest }) (due_copies s.latest (s.state.terms.t_switch / 4) MESSAGES s.state.copies) };
      sent = going.sent ++ map (resent_put s.state) (due_copies s.latest (s.state.terms.t_switch / 4) MESSAGES s.state.copies);
      begun = going.begun;
    }

-- a switch of some application, whose numbers may rise by this many
abbrev pub CanWalk : ℕ → SwitchAt → Type 0
CanWalk more s = (count : ℕ) × (n : ℕ) × (n + more ≤ 2 ^ 62) × IsSteady count n s.state

-- a slot without a round sends nothing, and one with a round its next chunk
abbrev pub part_sent : Walk → Key → Slot → ℕ → Option Round → Walk
part_sent w key slot epoch None = record { state = with_slot w.state key slot; sent = w.sent; begun = w.begun }
part_sent w key slot epoch (Some r) = chunk_sent w key slot epoch r []

-- the Ask of the slot at a place, if there is one
abbrev pub ask_of : Switch → ℕ → Option (Key × Slot) → List Msg
ask_of s now None = []
ask_of s now (Some e) = repeated_ask s now e.0 e.1.lease

-- whether an empty Put keeps a lease that ends soon
abbrev pub wants_put : Switch → ℕ → Key → Slot → ℕ → Bool
wants_put s now key slot expiry = nat_lt (length s.copies) COPIES && (not (has_copies s key) && ends_soon s now slot expiry)

-- a round begins, and its first chunk goes
abbrev pub round_begun : Walk → ℕ → Key → Slot → ℕ → Walk
round_begun w now key slot epoch =
    chunk_sent w key (record slot { last = slot.last + 1; used = false }) epoch
    (record { number = slot.last + 1; begun = now; chunk = 0; cells = slot.cells })
    (record { key = key; epoch = epoch; round = slot.last + 1 } ∷ [])
