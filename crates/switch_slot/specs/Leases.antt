-- What a slot's typed lease is in the protocol, and how it is seen at a moment.
use Rattle.std.specs.Prelude.{ℕ, ◌+◌, ◌<◌, ⊤}
use Rattle.switch_slot.specs.declared.lease.SlotLease.{SlotLease}
use Rattle.proto_model.specs.Slot.{Lease, Idle, Asking, Held, Lapsed}

-- the lease of the definitions that a typed lease is
abbrev pub lease_of : SlotLease → Lease
lease_of (SlotLease.Idle i) = Lease.Idle
lease_of (SlotLease.Asking a) = Lease.Asking a.nonce a.first
lease_of (SlotLease.Held t) = Lease.Held t.nonce t.epoch t.expiry
lease_of (SlotLease.Lapsed t) = Lease.Lapsed t.nonce t.epoch t.expiry

-- a lease as it is seen at this moment: one that is held ends later
abbrev pub IsSeenAt : ℕ → Lease → Type 0
IsSeenAt moment Idle = ⊤
IsSeenAt moment (Asking nonce first) = ⊤
IsSeenAt moment (Held nonce epoch expiry) = moment < expiry
IsSeenAt moment (Lapsed nonce epoch expiry) = ⊤

-- an Ask whose term isn't over
abbrev pub IsYoungAsk : ℕ → ℕ → Lease → Type 0
IsYoungAsk now t_switch Idle = ⊥
IsYoungAsk now t_switch (Asking nonce first) = now < first + t_switch
IsYoungAsk now t_switch (Held nonce epoch expiry) = ⊥
IsYoungAsk now t_switch (Lapsed nonce epoch expiry) = ⊥

-- the lease that a Grant makes of one that is asked for
abbrev pub granted_lease : ℕ → ℕ → Lease → Lease
granted_lease t_switch epoch Idle = Idle
granted_lease t_switch epoch (Asking nonce first) = Held nonce epoch (first + t_switch)
granted_lease t_switch epoch (Held nonce of expiry) = Held nonce of expiry
granted_lease t_switch epoch (Lapsed nonce of expiry) = Lapsed nonce of expiry
