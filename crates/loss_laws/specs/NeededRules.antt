-- Runs whose losses aren't bounded, each under one changed rule.
use Rattle.std.specs.Prelude.{ℕ, ◌-◌, Bool, true, List, [], ◌∷◌, ◌++◌, Option, Some, None, if◌then◌else◌, nat_le, length, map, unwrap_or}
use Rattle.rp_base.specs.declared.event.Event.{Event}
use Rattle.rp_base.specs.declared.event.Event.TheVariants.{Alarm, Drop, Feed, Next, Time}
use Rattle.rp_base.specs.declared.node.Node.{Node}
use Rattle.rp_app.specs.Application.{counting}
use Rattle.proto_data.specs.declared.terms.Mode.{Mode}
use Rattle.proto_model.specs.Kept.{is_round}
use Rattle.proto_model.specs.Slot.{Ages, epoch_of, first_of_two, no_ages}
use Rattle.proto_model.specs.SwitchRow.{SwitchRow, RoundDone}
use Rattle.proto_model.specs.World.{Journaled, RoundBegun, World, opened}
use Rattle.proto_safety.specs.NeededPremises.{over_one}
use Rattle.loss_laws.specs.ChangedRules.{Rules, own_rules, world_by}
use Rattle.loss_laws.specs.NeededPremises.{long_terms}

-- ---- the changed rules

-- no age is left once a round is done, also of updates after its begin
abbrev pub forgetting : Rules
forgetting = record own_rules { acknowledged = λ ages. no_ages }

-- whether what is missing is at most as old as the bound
abbrev pub up_to_bound : ℕ → ℕ → Option ℕ → Bool
up_to_bound bound now None = true
up_to_bound bound now (Some moment) = nat_le (now - moment) bound

-- the bound itself still lets a packet in
abbrev pub late_by_one : Rules
late_by_one = record own_rules { may = λ bound now (ages : Ages). up_to_bound bound now (first_of_two ages.pre ages.post) }

-- a chunk is of the cells as they are now
abbrev pub of_now : Rules
of_now = record own_rules { chunked = λ begun now. now }

-- the round that this row ends has all items that stand now
abbrev pub counted_at_ack : SwitchRow → List Journaled → List RoundBegun → List RoundBegun
counted_at_ack (RoundDone key slot r) items rounds =
    map (λ (b : RoundBegun). if is_round key (unwrap_or (epoch_of slot.lease) 0) r.number b then record b { items_before = length items } else b) rounds
counted_at_ack row items rounds = rounds

-- a round's items are counted at its Ack
abbrev pub at_ack : Rules
at_ack = record own_rules { counted = counted_at_ack }

-- ---- the runs: one switch over one replica, with a bound of 100

-- the world after these events, by these rules
abbrev pub ruled : Rules → List Event → World
ruled rules events = world_by rules counting (opened 1 (over_one 1 (long_terms (Mode.Snapshot 100)))) events

-- an update of a flow
abbrev pub update : Event
update = Feed 7 (97 ∷ 33 ∷ [])

-- the flow is granted and its first update processed
abbrev pub begun : List Event
begun = update ∷ Next ∷ Next ∷ []

-- an update while a round runs
abbrev pub between : List Event
between = Alarm (Node.Switch 0) ∷ update ∷ []

-- the second update is 200 before the third, and neither is in the done round
abbrev pub forgetful_run : World
forgetful_run = ruled forgetting (begun ++ (between ++ Next ∷ Next ∷ Time (200 ∷ 200 ∷ []) ∷ update ∷ []))

-- the first update is 100 before the second, and no round began
abbrev pub late_run : World
late_run = ruled late_by_one (begun ++ Time (100 ∷ 100 ∷ []) ∷ update ∷ [])

-- the first sending of the round is lost, and the second one has both updates
abbrev pub chunk_run : World
chunk_run = ruled of_now (begun ++ (between ++ Alarm (Node.Switch 0) ∷ Drop 2 ∷ Next ∷ []))

-- an update comes before the Ack of a round that hasn't it
abbrev pub ack_run : World
ack_run = ruled at_ack (begun ++ (between ++ Next ∷ Next ∷ []))
