-- Which packets have a text.
use Rattle.std.specs.Prelude.{◌≤◌, All}
use Rattle.hex.specs.Hex.{IsBytes}
use Rattle.rp_base.specs.declared.event.Event.{Event}
use Rattle.sched_lang.specs.declared.schedule.Schedule.{Schedule}
use Rattle.sched_lang.specs.Ready.{IsReady}

-- a packet of bytes at a port
abbrev pub IsPacket : Event → Type 0
IsPacket (Event.Feed port bytes) = (port ≤ 65535) × IsBytes bytes
IsPacket (Event.FeedAt at port bytes) = (port ≤ 65535) × IsBytes bytes
IsPacket _ = Unit {0}

-- a schedule that is ready, whose packets are bytes at ports
pub record IsPrintable (s : Schedule) : Type 0 where
  pub ready : IsReady s
  pub packets : All IsPacket s.events
