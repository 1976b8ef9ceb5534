-- Runs of the counting application: their events, the lines that they write, and what they end with.
use Rattle.std.specs.Prelude.{ℕ, false, List, [], ◌∷◌, ◌++◌, ◌≡◌, replicate}
use Rattle.proto_data.specs.declared.terms.Mode.{Mode}
use Rattle.rp_base.specs.declared.node.Node.{Node}
use Rattle.rp_base.specs.declared.event.Event.{Event}
use Rattle.rp_base.specs.declared.event.Event.TheVariants.{Feed, FeedAt, Deliver, Next, Drop, Time, Alarm, Fail, Boot, Detect, Announce}
use Rattle.rp_base.specs.declared.event.Refusal.{Refusal}
use Rattle.rp_base.specs.declared.event.Lost.{Lost}
use Rattle.rp_base.specs.declared.event.DropCause.{DropCause}
use Rattle.rp_app.specs.Application.{counting}
use Rattle.proto_model.specs.World.{Setup}
use Rattle.proto_model.specs.Lines.{Line, Release, Dropped, LostLine, Refused, without_sends}
use Rattle.proto_model.specs.WorldStep.{run}
use Rattle.proto_model.specs.Committed.{committed_flows}
use Rattle.rp_base.specs.declared.legality.Flow.{Flow}

-- a run: where it begins, its events, its lines without those of frames, and each flow's serial list with its cells
pub record Row : Type 0 where
  pub setup : Setup
  pub events : List Event
  pub lines : List Line
  pub flows : List Flow

-- the run of these events writes these lines and ends with these flows
pub record Computes (row : Row) : Type 0 where
  pub lines : without_sends (run counting row.setup row.events).1 ≡ row.lines
  pub flows : committed_flows 1 (run counting row.setup row.events).0 ≡ row.flows

-- a run in strict mode of so many switches and replicas, with the terms of its leases
abbrev pub setup_of : ℕ → ℕ → ℕ → ℕ → ℕ → Setup
setup_of switches replicas t_switch t_store ratio =
    record {
      switches = switches;
      replicas = replicas;
      terms = record { t_switch = t_switch; t_store = t_store; ratio = ratio; mode = Mode.Strict };
      linked = false;
    }

-- one switch and one replica
abbrev pub one : Setup
one = setup_of 1 1 1000 1100 50

-- one packet over one replica
abbrev pub one_packet : Row
one_packet =
    record {
      setup = one;
      events = Feed 7 (97 ∷ 33 ∷ []) ∷ Next ∷ Next ∷ Next ∷ Next ∷ [];
      lines = Release 5 1 7 (0 ∷ 0 ∷ 0 ∷ 0 ∷ 0 ∷ 0 ∷ 0 ∷ 1 ∷ 97 ∷ 33 ∷ []) ∷ [];
      flows = record { key = 97 ∷ []; marks = 1 ∷ []; cells = 1 ∷ [] } ∷ [];
    }

-- no events at all
abbrev pub no_events : Row
no_events =
    record {
      setup = one;
      events = [];
      lines = [];
      flows = [];
    }

-- two packets ride on Asks with one nonce; their order is that of the Grants
abbrev pub two_on_one_nonce : Row
two_on_one_nonce =
    record {
      setup = one;
      events = Feed 7 (97 ∷ 33 ∷ []) ∷ Feed 7 (97 ∷ 34 ∷ []) ∷ Deliver 1 ∷ Deliver 0 ∷ Next ∷ Next ∷ Next ∷ Next ∷ Next ∷ Next ∷ [];
      lines = Release 9 2 7 (0 ∷ 0 ∷ 0 ∷ 0 ∷ 0 ∷ 0 ∷ 0 ∷ 1 ∷ 97 ∷ 34 ∷ []) ∷ Release 10 1 7 (0 ∷ 0 ∷ 0 ∷ 0 ∷ 0 ∷ 0 ∷ 0 ∷ 2 ∷ 97 ∷ 33 ∷ []) ∷ [];
      flows = record { key = 97 ∷ []; marks = 2 ∷ 1 ∷ []; cells = 2 ∷ [] } ∷ [];
    }

-- a Put is lost; its copy is acknowledged without a release
abbrev pub put_lost : Row
put_lost =
    record {
      setup = one;
      events = Feed 7 (97 ∷ 33 ∷ []) ∷ Next ∷ Next ∷ Drop 2 ∷ Time (250 ∷ 250 ∷ []) ∷ Alarm (Node.Switch 0) ∷ Next ∷ Next ∷ Feed 7 (97 ∷ 33 ∷ []) ∷ Next ∷ Next ∷ [];
      lines = Release 11 9 7 (0 ∷ 0 ∷ 0 ∷ 0 ∷ 0 ∷ 0 ∷ 0 ∷ 2 ∷ 97 ∷ 33 ∷ []) ∷ [];
      flows = record { key = 97 ∷ []; marks = 1 ∷ 9 ∷ []; cells = 2 ∷ [] } ∷ [];
    }

-- a Put comes after its copy; the Ack that is delivered twice releases once
abbrev pub late_put_echoed : Row
late_put_echoed =
    record {
      setup = one;
      events = Feed 7 (97 ∷ 33 ∷ []) ∷ Next ∷ Next ∷ Drop 2 ∷ Time (250 ∷ 250 ∷ []) ∷ Alarm (Node.Switch 0) ∷ Deliver 3 ∷ Deliver 2 ∷ Deliver 4 ∷ Deliver 5 ∷ Deliver 5 ∷ [];
      lines = Release 10 1 7 (0 ∷ 0 ∷ 0 ∷ 0 ∷ 0 ∷ 0 ∷ 0 ∷ 1 ∷ 97 ∷ 33 ∷ []) ∷ [];
      flows = record { key = 97 ∷ []; marks = 1 ∷ []; cells = 1 ∷ [] } ∷ [];
    }

-- clocks apart by more than the ratio
abbrev pub rates_refused : Row
rates_refused =
    record {
      setup = one;
      events = Time (1051 ∷ 1000 ∷ []) ∷ Time (1050 ∷ 1000 ∷ []) ∷ [];
      lines = Refused 1 Refusal.Rates ∷ [];
      flows = [];
    }

-- a clean packet is released at once only while no Put is out
abbrev pub clean_waits_for_puts : Row
clean_waits_for_puts =
    record {
      setup = one;
      events = Feed 7 (97 ∷ 33 ∷ []) ∷ Next ∷ Next ∷ Next ∷ Next ∷ Feed 7 (97 ∷ 63 ∷ []) ∷ Feed 7 (97 ∷ 33 ∷ []) ∷ Feed 7 (97 ∷ 63 ∷ []) ∷ Next ∷ Next ∷ Next ∷ Next ∷ [];
      lines = Release 5 1 7 (0 ∷ 0 ∷ 0 ∷ 0 ∷ 0 ∷ 0 ∷ 0 ∷ 1 ∷ 97 ∷ 33 ∷ []) ∷ Release 6 6 7 (0 ∷ 0 ∷ 0 ∷ 0 ∷ 0 ∷ 0 ∷ 0 ∷ 1 ∷ 97 ∷ 63 ∷ []) ∷ Release 11 7 7 (0 ∷ 0 ∷ 0 ∷ 0 ∷ 0 ∷ 0 ∷ 0 ∷ 2 ∷ 97 ∷ 33 ∷ []) ∷ Release 12 8 7 (0 ∷ 0 ∷ 0 ∷ 0 ∷ 0 ∷ 0 ∷ 0 ∷ 2 ∷ 97 ∷ 63 ∷ []) ∷ [];
      flows = record { key = 97 ∷ []; marks = 1 ∷ 6 ∷ 7 ∷ 8 ∷ []; cells = 2 ∷ [] } ∷ [];
    }

-- a Put reaches the head before another switch has the flow
abbrev pub put_before_takeover : Row
put_before_takeover =
    record {
      setup = setup_of 2 1 1000 1100 50;
      events = Feed 7 (98 ∷ 33 ∷ []) ∷ Next ∷ Next ∷ Fail (Node.Switch 0) ∷ Next ∷ Detect (Node.Switch 0) ∷ Time (1100 ∷ 1100 ∷ 1100 ∷ []) ∷ Feed 7 (98 ∷ 33 ∷ []) ∷ Next ∷ Next ∷ Next ∷ Next ∷ [];
      lines = Release 12 8 7 (0 ∷ 0 ∷ 0 ∷ 0 ∷ 0 ∷ 0 ∷ 0 ∷ 2 ∷ 98 ∷ 33 ∷ []) ∷ [];
      flows = record { key = 98 ∷ []; marks = 1 ∷ 8 ∷ []; cells = 2 ∷ [] } ∷ [];
    }

-- a Put comes after another switch has the flow
abbrev pub put_after_takeover : Row
put_after_takeover =
    record {
      setup = setup_of 2 1 1000 1100 50;
      events = Feed 7 (98 ∷ 33 ∷ []) ∷ Next ∷ Next ∷ Fail (Node.Switch 0) ∷ Detect (Node.Switch 0) ∷ Time (1100 ∷ 1100 ∷ 1100 ∷ []) ∷ Feed 7 (98 ∷ 33 ∷ []) ∷ Deliver 3 ∷ Deliver 2 ∷ Deliver 4 ∷ Deliver 6 ∷ Deliver 7 ∷ Deliver 5 ∷ [];
      lines = Release 12 7 7 (0 ∷ 0 ∷ 0 ∷ 0 ∷ 0 ∷ 0 ∷ 0 ∷ 1 ∷ 98 ∷ 33 ∷ []) ∷ Refused 13 Refusal.Dead ∷ [];
      flows = record { key = 98 ∷ []; marks = 7 ∷ []; cells = 1 ∷ [] } ∷ [];
    }

-- the lease terms at equality
abbrev pub terms_at_equality : Row
terms_at_equality =
    record {
      setup = setup_of 2 1 200 201 5;
      events = FeedAt 0 7 (97 ∷ 33 ∷ []) ∷ Next ∷ Time (200 ∷ 200 ∷ 200 ∷ []) ∷ FeedAt 1 7 (97 ∷ 33 ∷ []) ∷ Deliver 2 ∷ Deliver 3 ∷ Time (1 ∷ 1 ∷ 1 ∷ []) ∷ Deliver 2 ∷ Deliver 4 ∷ FeedAt 1 7 (97 ∷ 33 ∷ []) ∷ Deliver 5 ∷ Deliver 6 ∷ Deliver 1 ∷ [];
      lines = Dropped 6 4 DropCause.Busy ∷ Release 12 10 7 (0 ∷ 0 ∷ 0 ∷ 0 ∷ 0 ∷ 0 ∷ 0 ∷ 1 ∷ 97 ∷ 33 ∷ []) ∷ Dropped 13 1 DropCause.Late ∷ [];
      flows = record { key = 97 ∷ []; marks = 10 ∷ []; cells = 1 ∷ [] } ∷ [];
    }

-- each refusal
abbrev pub refusals_in_order : Row
refusals_in_order =
    record {
      setup = one;
      events = Deliver 0 ∷ Next ∷ Fail (Node.Replica 0) ∷ Detect (Node.Replica 0) ∷ Boot 0 ∷ Fail (Node.Switch 0) ∷ Feed 7 (97 ∷ []) ∷ Detect (Node.Switch 0) ∷ Detect (Node.Switch 0) ∷ Feed 7 (97 ∷ []) ∷ [];
      lines = Refused 1 Refusal.NoFrame ∷ Refused 2 Refusal.NoneLeft ∷ Refused 3 Refusal.LastReplica ∷ Refused 4 Refusal.Alive ∷ Refused 5 Refusal.Alive ∷ Refused 7 Refusal.Dead ∷ Refused 9 Refusal.Known ∷ Refused 10 Refusal.Nowhere ∷ [];
      flows = [];
    }

-- the head fails with an entry that it alone had
abbrev pub head_fails : Row
head_fails =
    record {
      setup = setup_of 1 2 1000 1100 50;
      events = Feed 7 (97 ∷ 33 ∷ []) ∷ Next ∷ Next ∷ Next ∷ Deliver 4 ∷ Fail (Node.Replica 0) ∷ Detect (Node.Replica 0) ∷ Announce ∷ Deliver 7 ∷ Deliver 6 ∷ Deliver 5 ∷ Time (250 ∷ 250 ∷ 250 ∷ []) ∷ Alarm (Node.Switch 0) ∷ Deliver 8 ∷ Deliver 9 ∷ Deliver 4 ∷ [];
      lines = LostLine 11 Lost.Config ∷ Refused 16 Refusal.Dead ∷ [];
      flows = record { key = 97 ∷ []; marks = 1 ∷ []; cells = 1 ∷ [] } ∷ [];
    }

-- the middle replica fails
abbrev pub middle_fails : Row
middle_fails =
    record {
      setup = setup_of 1 3 1000 1100 50;
      events = Feed 7 (97 ∷ 33 ∷ []) ∷ Next ∷ Next ∷ Fail (Node.Replica 1) ∷ Detect (Node.Replica 1) ∷ Announce ∷ Deliver 5 ∷ Deliver 2 ∷ Deliver 4 ∷ Alarm (Node.Replica 0) ∷ Deliver 6 ∷ Deliver 8 ∷ Deliver 7 ∷ Feed 7 (97 ∷ 33 ∷ []) ∷ Deliver 9 ∷ Deliver 10 ∷ Deliver 11 ∷ [];
      lines = LostLine 8 Lost.Config ∷ Release 17 14 7 (0 ∷ 0 ∷ 0 ∷ 0 ∷ 0 ∷ 0 ∷ 0 ∷ 1 ∷ 97 ∷ 33 ∷ []) ∷ [];
      flows = record { key = 97 ∷ []; marks = 14 ∷ []; cells = 1 ∷ [] } ∷ [];
    }

-- a switch boots, and a Grant of its earlier incarnation is lost
abbrev pub booted_switch : Row
booted_switch =
    record {
      setup = one;
      events = Feed 7 (97 ∷ 33 ∷ []) ∷ Next ∷ Fail (Node.Switch 0) ∷ Boot 0 ∷ Deliver 1 ∷ Feed 7 (97 ∷ 33 ∷ []) ∷ Deliver 2 ∷ Deliver 3 ∷ Deliver 4 ∷ Deliver 5 ∷ [];
      lines = LostLine 5 Lost.Stale ∷ Release 10 6 7 (0 ∷ 0 ∷ 0 ∷ 0 ∷ 0 ∷ 0 ∷ 0 ∷ 1 ∷ 97 ∷ 33 ∷ []) ∷ [];
      flows = record { key = 97 ∷ []; marks = 6 ∷ []; cells = 1 ∷ [] } ∷ [];
    }

-- a mark is pushed out of the ring of 64 marks
abbrev pub ring_overflow : Row
ring_overflow =
    record {
      setup = one;
      events = Feed 7 (97 ∷ 33 ∷ []) ∷ Next ∷ Next ∷ (replicate 64 (Feed 7 (97 ∷ 33 ∷ [])) ++ Next ∷ Deliver 67 ∷ Next ∷ Deliver 68 ∷ []);
      lines = Release 71 4 7 (0 ∷ 0 ∷ 0 ∷ 0 ∷ 0 ∷ 0 ∷ 0 ∷ 2 ∷ 97 ∷ 33 ∷ []) ∷ [];
      flows = record { key = 97 ∷ []; marks = 1 ∷ 4 ∷ []; cells = 2 ∷ [] } ∷ [];
    }

-- one packet over two replicas
abbrev pub two_replicas : Row
two_replicas =
    record {
      setup = setup_of 1 2 1000 1100 50;
      events = Feed 7 (97 ∷ 33 ∷ []) ∷ Next ∷ Next ∷ Next ∷ Next ∷ Next ∷ Next ∷ Next ∷ [];
      lines = Release 8 1 7 (0 ∷ 0 ∷ 0 ∷ 0 ∷ 0 ∷ 0 ∷ 0 ∷ 1 ∷ 97 ∷ 33 ∷ []) ∷ [];
      flows = record { key = 97 ∷ []; marks = 1 ∷ []; cells = 1 ∷ [] } ∷ [];
    }
