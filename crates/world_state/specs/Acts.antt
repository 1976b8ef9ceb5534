-- The acts of events as they are kept, and the conditions of an event.
use Rattle.std.specs.Prelude.{ℕ, ◌+◌, ◌≡◌, ◌≤◌, length, All}
use Rattle.rp_base.specs.declared.event.Event.{Event}
use Rattle.proto_model.specs.World.{World}
use Rattle.proto_model.specs.WorldStep.{Act, Refuses, Feeds, Delivers, Passes, Advances, Alarms, Stops, Boots, Detects, Announces, Pumps}
use Rattle.world_state.specs.declared.acts.Act.{Act as KeptAct}
use Rattle.world_state.specs.declared.acts.Act.TheVariants as act

-- the act of the definitions that a kept act is
abbrev pub meant : KeptAct → Act
meant (act.Refuses cause) = Refuses cause
meant (act.Feeds at packet) = Feeds at packet
meant (act.Delivers frame msg) = Delivers frame msg
meant (act.Passes frame) = Passes frame
meant (act.Advances by) = Advances by
meant (act.Alarms node) = Alarms node
meant (act.Stops node) = Stops node
meant (act.Boots n) = Boots n
meant (act.Detects node) = Detects node
meant act.Announces = Announces
meant act.Pumps = Pumps

-- An event that a schedule may have in this world: a packet has at most 1,500 bytes, and `time` has one advance of at most
-- 1,000,000,000 for each node.
abbrev pub IsEventOf : World → Event → Type 0
IsEventOf w (Event.Feed port bytes) = length bytes ≤ 1500
IsEventOf w (Event.FeedAt n port bytes) = length bytes ≤ 1500
IsEventOf w (Event.Time by) = (length by ≡ length w.switches + length w.replicas) × All (λ x. x ≤ 1000000000) by
IsEventOf w _ = Unit {0}
