-- What a node of a run sends says what the node is after its step.
use Rattle.std.proofs.Common.{◌≡◌, ℕ, List, Option, Some, None, sym, ap, subst, slice_get, append-nil}
use Rattle.rp_base.specs.declared.event.Event.{Event}
use Rattle.proto_data.specs.declared.message.Msg.{Msg}
use Rattle.proto_data.specs.declared.message.Entry.{Entry}
use Rattle.proto_data.specs.declared.message.Input.{Input}
use Rattle.rp_app.specs.Application.{Application}
use Rattle.proto_model.specs.Feeds.{Each}
use Rattle.proto_model.specs.Records.{Booked}
use Rattle.proto_model.specs.ReplicaState.{Replica, StoreStep}
use Rattle.proto_model.specs.ReplicaRows.{store_step}
use Rattle.proto_model.specs.Stands.{Stands, entries_of}
use Rattle.key_table.specs.Table.{Key}
use Rattle.proto_model.specs.SwitchRows.{switch_step}
use Rattle.proto_model.specs.World.{Setup, SwitchNode, ReplicaNode, opened}
use Rattle.proto_model.specs.WorldStep.{world_after}
use Rattle.proto_safety.specs.Flows.{FitsFrom}
use Rattle.proto_safety.specs.SwitchSent.{SentNow}
use Rattle.proto_safety.specs.StoreSent.{SentBooks, SentReply, SaysBook, entries_then}
use Rattle.proto_safety.proofs.Store.StoreBooks.{StepSent, alarm_sent, taken_sent}
use Rattle.proto_safety.proofs.Messages.StoreReplies.{step_replies}
use Rattle.proto_model.proofs.StoreStands.{book_after, entries_of-push}
use Rattle.proto_safety.proofs.Nodes.StoreTable.{message_taken}
use Rattle.proto_safety.proofs.Nodes.SwitchSays.{step_says}
use Rattle.proto_safety.proofs.Store.WorldBooks.{books_hold}
use Rattle.proto_safety.proofs.Store.WorldFits.{NodeFits}
use Rattle.proto_safety.proofs.Nodes.WorldSays.{all_say}
use Rattle.proto_safety.proofs.Store.BookEpochLaws.{books_fit}
use Rattle.proto_safety.proofs.Basics.Eachs.{each_at, each_both}

pub switch_says : (app : Application) (setup : Setup) (es : List Event) (n : ℕ) (node : SwitchNode) (input : Input) → slice_get (world_after app (opened app.cell_count setup) es).switches n ≡ Some node →
    Each (SentNow (switch_step app node.state node.clock input).0) (switch_step app node.state node.clock input).1.sent
switch_says app setup es n node input at = step_says app node.state node.clock input (all_say app setup es n node at).tidy

-- the book's entries after a step
entries_after : (now event : ℕ) (book : List Booked) (o : Option Entry) → entries_of (book_after now event book o) ≡ entries_then (entries_of book) o
entries_after now event book None = ap entries_of (append-nil book)
entries_after now event book (Some e) = entries_of-push book (record { entry = e; moment = now; event = event })

step_sent : (s : Replica) (book : List Booked) (now event : ℕ) (input : Input) → Stands s book → StepSent book now event (store_step s now input)
step_sent s book now event (Input.Packet p) st = tt
step_sent s book now event (Input.Msg m) st = taken_sent book event st.count (message_taken s now m.from m.body)
step_sent s book now event Input.Alarm st = alarm_sent s book now event st

step_says_book : (s : Replica) (book : List Booked) (now : ℕ) (input : Input) → Stands s book → ((key : Key) → FitsFrom s.cell_count key None (entries_of book)) → SaysBook (entries_of book) (store_step s now input)
step_says_book s book now input st fits =
    let step : StoreStep = store_step s now input in
    subst (λ es. Each (λ (m : Msg). SentBooks step.0 es m.from m.to m.body × SentReply step.0 es m.to m.body) step.1.sent) (entries_after now 0 book step.1.applied)
    (each_both (λ (m : Msg). SentBooks step.0 (entries_of (book_after now 0 book step.1.applied)) m.from m.to m.body)
    (λ (m : Msg). SentReply step.0 (entries_of (book_after now 0 book step.1.applied)) m.to m.body) step.1.sent
    (step_sent s book now 0 input st) (step_replies s book now 0 input st fits))

pub replica_says : (app : Application) (setup : Setup) (es : List Event) (n : ℕ) (node : ReplicaNode) (input : Input) → slice_get (world_after app (opened app.cell_count setup) es).replicas n ≡ Some node →
    SaysBook (entries_of node.book) (store_step node.state node.clock input)
replica_says app setup es n node input at =
    let b = books_hold app setup es in
    let fits : NodeFits app.cell_count node = each_at (NodeFits app.cell_count) (world_after app (opened app.cell_count setup) es).replicas n node (books_fit app setup es) at in
    step_says_book node.state node.book node.clock input (b.1.nodes n node at).stands
    (λ key. subst (λ c. FitsFrom c key None (entries_of node.book)) (sym fits.cells_are) (fits.fits key))
