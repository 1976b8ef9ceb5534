-- The row of a Grant that comes in time, which lease asks, and what an Ack makes of a lease.
use Rattle.std.specs.Prelude.{ℕ, ◌+◌, ◌==◌, Bool, false, List, Option, Some, None}
use Rattle.rp_app.specs.Application.{Application}
use Rattle.proto_data.specs.declared.message.Carried.{Carried}
use Rattle.key_table.specs.Table.{Key}
use Rattle.proto_model.specs.Slot.{Slot, Lease, Idle, Asking, Held, Lapsed, extended}
use Rattle.proto_model.specs.SwitchState.{Switch}
use Rattle.proto_model.specs.SwitchRow.{SwitchRow, Granted, Stale, carried_row, granted}

-- a slot that asks has a lease from now on, and a carried packet is processed
abbrev pub timely_row : Application → Switch → ℕ → Key → Slot → ℕ → List ℕ → Option Carried → Lease → SwitchRow
timely_row app s now key slot epoch cells load Idle = Stale
timely_row app s now key slot epoch cells load (Asking own first) =
    carried_row app s now key
    (granted slot own epoch (first + s.terms.t_switch) cells)
    epoch
    (Granted key (granted slot own epoch (first + s.terms.t_switch) cells))
    load
timely_row app s now key slot epoch cells load (Held own of expiry) = Stale
timely_row app s now key slot epoch cells load (Lapsed own of expiry) = Stale

-- whether a lease is asked for under this nonce
abbrev pub asks_by : ℕ → Lease → Bool
asks_by nonce Idle = false
asks_by nonce (Asking own first) = own == nonce
asks_by nonce (Held own epoch expiry) = false
asks_by nonce (Lapsed own epoch expiry) = false

-- the lease after copies went, by the first sending of the greatest of them
abbrev pub acked_by : ℕ → ℕ → Lease → Option ℕ → Lease
acked_by t_switch now lease None = lease
acked_by t_switch now lease (Some first) = extended t_switch now first lease
