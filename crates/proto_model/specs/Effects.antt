-- How the world changes: a node takes a step, or the master, the clocks or routing move. Every event acts through these.
use Rattle.std.specs.Prelude.{ℕ, List, [], ◌∷◌, ◌++◌, Option, Some, None, set, map, length, option_map}
use Rattle.proto_data.specs.declared.message.Msg.{Msg}
use Rattle.proto_data.specs.declared.message.Body.{Body}
use Rattle.rp_base.specs.declared.node.Output.{Output}
use Rattle.rp_base.specs.declared.node.Packet.{Packet}
use Rattle.rp_base.specs.declared.event.DropCause.{DropCause}
use Rattle.proto_data.specs.Carrying.{output_of}
use Rattle.proto_model.specs.SwitchState.{SwitchDid, SwitchStep}
use Rattle.proto_model.specs.ReplicaState.{StoreDid, StoreStep}
use Rattle.proto_model.specs.World.{World, History, SwitchNode, ReplicaNode}
use Rattle.proto_model.specs.Lines.{Line, Release, Dropped, LostLine, send_lines}

-- what an option adds to a list
abbrev pub added : {A B : Type 0} → (A → B) → Option A → List B
added f None = []
added f (Some x) = f x ∷ []

-- the output of a processed packet: what was released at once, or put into its Put
abbrev pub put_output : Body → Option Output
put_output (Body.Put inc epoch number key delta load) = option_map output_of load
put_output _ = None

abbrev pub made_output : Option Output → List Msg → Option Output
made_output (Some o) ms = Some o
made_output None [] = None
made_output None (m ∷ ms) = put_output m.body

-- the history after a switch's step
abbrev pub history_after : ℕ → History → SwitchDid → History
history_after event h did =
    record {
      fed = h.fed;
      released = h.released ++ added (λ o. record { event = event; output = o }) did.released;
      items = h.items ++ added (λ i. record { event = event; item = i; output = made_output did.released did.sent }) did.item;
      rounds = h.rounds ++ map (λ b. record { event = event; begun = b; items_before = length h.items }) did.begun;
    }

-- switch n stands at this state, and did this
abbrev pub switch_moved : World → ℕ → SwitchNode → SwitchStep → World
switch_moved w n node step =
    record {
      terms = w.terms;
      linked = w.linked;
      switches = set w.switches n (record node { state = step.0 });
      replicas = w.replicas;
      config = w.config;
      frames = w.frames ++ step.1.sent;
      passed = w.passed;
      event = w.event;
      history = history_after w.event w.history step.1;
    }

-- replica n stands at this state, and did this
abbrev pub replica_moved : World → ℕ → ReplicaNode → StoreStep → World
replica_moved w n node step =
    record {
      terms = w.terms;
      linked = w.linked;
      switches = w.switches;
      replicas = set w.replicas n
          (record {
            runs = node.runs;
            clock = node.clock;
            state = step.0;
            book = node.book ++ added (λ e. record { entry = e; moment = node.clock; event = w.event }) step.1.applied;
          });
      config = w.config;
      frames = w.frames ++ step.1.sent;
      passed = w.passed;
      event = w.event;
      history = w.history;
    }

-- the packet was fed
abbrev pub packet_fed : World → Packet → World
packet_fed w p =
    record w { history = record w.history { fed = w.history.fed ++ record { event = w.event; packet = p } ∷ [] } }

abbrev pub frame_passed : World → ℕ → World
frame_passed w i = record w { passed = i ∷ w.passed }

abbrev pub master_sent : World → List Msg → World
master_sent w ms = record w { frames = w.frames ++ ms }

-- ---- lines

abbrev pub release_line : ℕ → Output → Line
release_line event o = Release event o.mark o.port o.bytes

-- what a node's step writes; its frames are numbered from `frame` on
abbrev pub switch_lines : ℕ → ℕ → SwitchDid → List Line
switch_lines event frame did =
    added (release_line event) did.released
    ++ (added (λ (d : ℕ × DropCause). Dropped event d.0 d.1) did.dropped
    ++ (added (LostLine event) did.lost ++ send_lines event frame did.sent))

abbrev pub store_lines : ℕ → ℕ → StoreDid → List Line
store_lines event frame did = added (LostLine event) did.lost ++ send_lines event frame did.sent
