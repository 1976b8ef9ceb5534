-- After every list of events each entry of each book comes next for its flow.
use Rattle.std.proofs.Common.{◌≡◌, ℕ, ◌+◌, List, [], ◌∷◌, ◌++◌, length, drop, Option, Some, None, refl, sym, ap, subst, ◌∙◌, true, false, Bool, append-nil, eqb-true}
use Rattle.std.specs.Prelude.{◌==◌, option_map}
use Rattle.std.proofs.lemmas.Bool.{and_parts, false≢true}
use Rattle.std.proofs.lemmas.List.{map-append}
use Rattle.rp_base.specs.declared.node.Node.{Node}
use Rattle.proto_data.specs.declared.message.Body.{Body}
use Rattle.proto_data.specs.declared.message.Entry.{Entry}
use Rattle.proto_data.specs.declared.message.Input.{Input}
use Rattle.proto_data.specs.declared.message.Record.{Record}
use Rattle.rp_app.specs.Application.{Application}
use Rattle.key_table.specs.Table.{Key}
use Rattle.proto_model.specs.Feeds.{Each}
use Rattle.proto_model.specs.Records.{Booked, entry_fits, fits_at, next_epoch, delta_within}
use Rattle.rp_app.specs.Application.{Delta}
use Rattle.proto_model.specs.ReplicaState.{Replica, record_at}
use Rattle.proto_model.specs.ReplicaRows.{StoreRow, store_row, store_step, entry_key}
use Rattle.proto_model.specs.Stands.{entries_of, Stands}
use Rattle.proto_model.specs.World.{World, Setup, ReplicaNode, opened, below, open_replica_node}
use Rattle.proto_model.specs.WorldStep.{advanced_replicas}
use Rattle.proto_safety.specs.Books.{BooksHold}
use Rattle.proto_safety.specs.Flows.{flow_in, flow_of, Follows, FitsFrom}
use Rattle.proto_safety.proofs.Nodes.StoreTable.{Taken, first_grant, own_grant, other_grant, next_put, next_snap, forwarded}
use Rattle.proto_safety.proofs.Store.StoreBooks.{Has, row_applies, row_cells}
use Rattle.proto_model.proofs.StoreStands.{book_after}
use Rattle.proto_safety.proofs.Store.BooksStep.{RowOf, of_message, of_alarm, of_packet, row_of}
use Rattle.proto_safety.proofs.Store.FlowBooks.{stands_flow, fits_push}
use Rattle.key_table.proofs.Tables.{same_key-true}
use Rattle.proto_safety.proofs.Inductions.Induction.{KeepsGiven}
use Rattle.proto_safety.proofs.Basics.Eachs.{each_at, each_changed, each_map, each_set}

-- ---- one step

abbrev Next : Replica → Entry → Type 0
Next s e = Follows (option_map flow_in (record_at s (entry_key e))) e

first_next : (o : Option Record) (key : Key) (switch inc nonce : ℕ) → o ≡ None → Follows (option_map flow_in o) (Entry.Grant key 1 switch inc nonce)
first_next o key switch inc nonce at = rw at refl

later_next : (o : Option Record) (r : Record) (key : Key) (switch inc nonce : ℕ) → o ≡ Some r → Follows (option_map flow_in o) (Entry.Grant key (r.epoch + 1) switch inc nonce)
later_next o r key switch inc nonce at = rw at refl

-- the test of a Forward
grant_next : (key : Key) (epoch switch inc nonce : ℕ) (o : Option Record) → (epoch == next_epoch o) ≡ true → Follows (option_map flow_in o) (Entry.Grant key epoch switch inc nonce)
grant_next key epoch switch inc nonce None h = eqb-true epoch 1 h
grant_next key epoch switch inc nonce (Some r) h = eqb-true epoch (r.epoch + 1) h

put_next : (key : Key) (epoch number : ℕ) (delta : Delta) (within : Bool) (o : Option Record) → fits_at epoch number within o ≡ true → Follows (option_map flow_in o) (Entry.Put key epoch number delta)
put_next key epoch number delta within None h = absurd (false≢true h)
put_next key epoch number delta within (Some r) h = (eqb-true r.epoch epoch (and_parts _ _ h).0, eqb-true number (r.last + 1) (and_parts _ _ (and_parts _ _ h).1).0)

snap_next : (key : Key) (epoch round : ℕ) (values : List ℕ) (within : Bool) (o : Option Record) → fits_at epoch round within o ≡ true → Follows (option_map flow_in o) (Entry.Snap key epoch round values)
snap_next key epoch round values within None h = absurd (false≢true h)
snap_next key epoch round values within (Some r) h = (eqb-true r.epoch epoch (and_parts _ _ h).0, eqb-true round (r.last + 1) (and_parts _ _ (and_parts _ _ h).1).0)

forward_next : (s : Replica) (e : Entry) → entry_fits s.cell_count s.records e ≡ true → Next s e
forward_next s (Entry.Grant key epoch switch inc nonce) h = grant_next key epoch switch inc nonce (record_at s key) h
forward_next s (Entry.Put key epoch number delta) h = put_next key epoch number delta (delta_within s.cell_count delta) (record_at s key) h
forward_next s (Entry.Snap key epoch round values) h = snap_next key epoch round values (length values == s.cell_count) (record_at s key) h

numbered_next : (o : Option Record) (r : Record) (key : Key) (epoch number : ℕ) (delta : Delta) → o ≡ Some r → (r.epoch == epoch) ≡ true → (number == r.last + 1) ≡ true → Follows (option_map flow_in o) (Entry.Put key epoch number delta)
numbered_next o r key epoch number delta at e n = rw at (eqb-true r.epoch epoch e, eqb-true number (r.last + 1) n)

round_next : (o : Option Record) (r : Record) (key : Key) (epoch round : ℕ) (values : List ℕ) → o ≡ Some r → (r.epoch == epoch) ≡ true → (round == r.last + 1) ≡ true → Follows (option_map flow_in o) (Entry.Snap key epoch round values)
round_next o r key epoch round values at e n = rw at (eqb-true r.epoch epoch e, eqb-true round (r.last + 1) n)

taken_next : {s : Replica} {now : ℕ} {from : Node} {body : Body} {row : StoreRow} (x : Entry) → Taken s now from body row → Has row x → Next s x
taken_next {s = s} x (first_grant {inc = inc} {nonce = nonce} {key = key} head at) is = subst (λ y. Next s y) is (first_next (record_at s key) key _ inc nonce at)
taken_next {s = s} x (own_grant {inc = inc} {nonce = nonce} {key = key} {r = r} head at own later) is = subst (λ y. Next s y) is (later_next (record_at s key) r key _ inc nonce at)
taken_next {s = s} x (other_grant {inc = inc} {nonce = nonce} {key = key} {r = r} head at other old) is = subst (λ y. Next s y) is (later_next (record_at s key) r key _ inc nonce at)
taken_next {s = s} x (next_put {epoch = epoch} {number = number} {key = key} {delta = delta} {r = r} head at e n d) is = subst (λ y. Next s y) is (numbered_next (record_at s key) r key epoch number delta at e n)
taken_next {s = s} x (next_snap {epoch = epoch} {round = round} {key = key} {whole = whole} {r = r} head at e n w f) is = subst (λ y. Next s y) is (round_next (record_at s key) r key epoch round whole at e n)
taken_next {s = s} x (forwarded {entry = entry} c i fits) is = subst (λ y. Next s y) is (forward_next s entry fits)
taken_next x _ is = absurd is

row_next : (s : Replica) (now : ℕ) (input : Input) (row : StoreRow) (x : Entry) → RowOf s now input row → Has row x → Next s x
row_next s now (Input.Msg m) row x (of_message t) is = taken_next x t is
row_next s now input row x of_alarm is = absurd is
row_next s now input row x of_packet is = absurd is

-- one more entry that comes next for its flow
one_next : (s : Replica) (book : List Booked) (key : Key) (x : Entry) (now event : ℕ) → Stands s book → FitsFrom s.cell_count key None (entries_of book) → Next s x →
    FitsFrom s.cell_count key None (entries_of (book ++ record { entry = x; moment = now; event = event } ∷ []))
one_next s book key x now event st fits next =
    rw (map-append (λ (b : Booked). b.entry) book (record { entry = x; moment = now; event = event } ∷ []))
    (fits_push s.cell_count key None (entries_of book) x fits
    (λ same.
    let k : entry_key x ≡ key = same_key-true (entry_key x) key same in
    let flow : option_map flow_in (record_at s (entry_key x)) ≡ flow_of s.cell_count key (entries_of book) = ap (λ j. option_map flow_in (record_at s j)) k ∙ stands_flow s book key st in
    subst (λ o. Follows o x) flow next))

pub step_fits : (s : Replica) (book : List Booked) (now event : ℕ) (input : Input) (key : Key) → Stands s book → FitsFrom s.cell_count key None (entries_of book) →
    FitsFrom s.cell_count key None (entries_of (book_after now event book (store_step s now input).1.applied))
step_fits s book now event input key st fits = applied_case (store_step s now input).1.applied refl
  where
    applied_case : (o : Option Entry) → (store_step s now input).1.applied ≡ o → FitsFrom s.cell_count key None (entries_of (book_after now event book o))
    applied_case None is = rw (append-nil book) fits
    applied_case (Some x) is = one_next s book key x now event st fits (row_next s now input (store_row s now input) x (row_of s now input) (row_applies s now (store_row s now input) x is))

-- ---- the world

pub record NodeFits (cells : ℕ) (node : ReplicaNode) : Type 0 where
  pub cells_are : node.state.cell_count ≡ cells
  pub fits : (key : Key) → FitsFrom cells key None (entries_of node.book)

abbrev pub BooksFit : ℕ → World → Type 0
BooksFit cells w = Each (NodeFits cells) w.replicas

node_fits : (cells : ℕ) (node : ReplicaNode) (event : ℕ) (input : Input) → Stands node.state node.book → NodeFits cells node →
    NodeFits cells (record { runs = node.runs; clock = node.clock; state = (store_step node.state node.clock input).0; book = book_after node.clock event node.book (store_step node.state node.clock input).1.applied })
node_fits cells node event input st h =
    record {
      cells_are = row_cells node.state node.clock (store_row node.state node.clock input) ∙ h.cells_are;
      fits = λ key.
          subst (λ c. FitsFrom c key None (entries_of (book_after node.clock event node.book (store_step node.state node.clock input).1.applied))) h.cells_are
          (step_fits node.state node.book node.clock event input key st (subst (λ c. FitsFrom c key None (entries_of node.book)) (sym h.cells_are) (h.fits key)));
    }

advanced_fits : (cells : ℕ) (nodes : List ReplicaNode) (by : List ℕ) → Each (NodeFits cells) nodes → Each (NodeFits cells) (advanced_replicas nodes by)
advanced_fits cells [] by h = tt
advanced_fits cells (n ∷ ns) [] h = h
advanced_fits cells (n ∷ ns) (d ∷ ds) h = (record { cells_are = h.0.cells_are; fits = h.0.fits }, advanced_fits cells ns ds h.1)

pub fits_kept : (app : Application) → KeepsGiven app BooksHold (BooksFit app.cell_count)
fits_kept app =
    record {
      counts = λ w b h. h;
      passes = λ w i b h. h;
      feeds = λ w n node p at up mark b h. h;
      switches = λ w n node input at up from b h. h;
      replicas = λ w n node input at up from b h.
          each_set (NodeFits app.cell_count) w.replicas n _ h (node_fits app.cell_count node w.event input (b.1.nodes n node at).stands (each_at (NodeFits app.cell_count) w.replicas n node h at));
      advances = λ w by fits b h. advanced_fits app.cell_count w.replicas (drop (length w.switches) by) h;
      stops_switch = λ w n fits b h. h;
      stops_replica = λ w n fits b h.
          each_changed (NodeFits app.cell_count) w.replicas n (λ (r : ReplicaNode). record r { runs = false }) (λ x k. record { cells_are = k.cells_are; fits = k.fits }) h;
      boots = λ w n fits b h. h;
      detects_switch = λ w n fits b h. h;
      detects_replica = λ w n fits b h. h;
      announces = λ w b h. h;
    }

pub opened_fits : (cells : ℕ) (setup : Setup) → BooksFit cells (opened cells setup)
opened_fits cells setup = each_map (NodeFits cells) (open_replica_node cells setup) (below setup.replicas) (λ n. record { cells_are = refl; fits = λ key. tt })
