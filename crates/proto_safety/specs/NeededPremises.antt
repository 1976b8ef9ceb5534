-- Runs whose histories aren't legal, each for want of one premise.
use Rattle.std.specs.Prelude.{ℕ, false, [], ◌∷◌, Some, None}
use Rattle.proto_data.specs.declared.terms.Mode.{Mode}
use Rattle.proto_data.specs.declared.terms.Terms.{Terms}
use Rattle.rp_base.specs.declared.event.Event.TheVariants.{Feed, FeedAt, Next, Time}
use Rattle.rp_app.specs.Application.{Application, counting}
use Rattle.proto_model.specs.World.{World, Setup, opened}
use Rattle.proto_model.specs.WorldStep.{world_after}

-- so many switches over one replica, with these terms
abbrev pub over_one : ℕ → Terms → Setup
over_one switches terms = record { switches = switches; replicas = 1; terms = terms; linked = false }

-- in snapshot mode a packet is processed, and its update isn't committed
abbrev pub snapshot_run : World
snapshot_run =
    world_after counting (opened 1 (over_one 1 (record { t_switch = 1000; t_store = 1100; ratio = 50; mode = Mode.Snapshot 100 })))
    (Feed 7 (97 ∷ 33 ∷ []) ∷ Next ∷ Next ∷ [])

-- the store gives the flow to the other switch while the lease runs, and the first one releases a count that is too low
abbrev pub early_run : World
early_run =
    world_after counting (opened 1 (over_one 2 (record { t_switch = 1000; t_store = 1; ratio = 50; mode = Mode.Strict })))
    (FeedAt 0 7 (97 ∷ 33 ∷ []) ∷ Next ∷ Next ∷ Next ∷ Next ∷ Time (10 ∷ 10 ∷ 10 ∷ [])
    ∷ FeedAt 1 7 (97 ∷ 33 ∷ []) ∷ Next ∷ Next ∷ Next ∷ Next ∷ FeedAt 0 7 (97 ∷ 63 ∷ []) ∷ [])

-- an application whose outputs have no packet's mark
abbrev pub unmarked : Application
unmarked =
    record {
      cell_count = 0;
      key_of = λ p. None;
      plain = λ cells p. ([], Some (record { mark = 0; port = p.port; bytes = [] }));
    }

-- one packet of it
abbrev pub unmarked_run : World
unmarked_run =
    world_after unmarked (opened 0 (over_one 1 (record { t_switch = 1000; t_store = 1100; ratio = 50; mode = Mode.Strict })))
    (Feed 7 (97 ∷ []) ∷ [])
