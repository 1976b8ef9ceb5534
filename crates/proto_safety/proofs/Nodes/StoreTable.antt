-- The table of a replica's rows is sound: the row of each message is one of the table's.
pub use Rattle.proto_safety.specs.StoreTable.{is_owner, covers, Asked, WasPut, IsGathered, Taken, itself, echo, itself_put, itself_snap, echo_put, lost, first_grant, own_grant, other_grant, busied, echoed_ask, denied, denied_snap, next_put, echoed_put, echoed_snap, gathered, next_snap, granted_again, acked_again, had, forwarded, committed, adopted}
use Rattle.std.proofs.Common.{◌≡◌, ℕ, ◌+◌, List, Option, Some, None, refl, true, false, Bool}
use Rattle.std.specs.Prelude.{◌==◌, ◌&&◌, nat_le, nat_lt, if◌then◌else◌}
use Rattle.std.proofs.lemmas.Bool.{and_parts, ltb-true, leb-true}
use Rattle.rp_base.specs.declared.node.Node.{Node}
use Rattle.proto_data.specs.declared.message.Body.{Body}
use Rattle.proto_data.specs.declared.message.Echoed.{Echoed}
use Rattle.proto_data.specs.declared.message.Record.{Record}
use Rattle.proto_data.specs.declared.message.Carried.{Carried}
use Rattle.rp_app.specs.Application.{Delta}
use Rattle.key_table.specs.Table.{Key, get}
use Rattle.proto_model.specs.Records.{delta_within}
use Rattle.proto_model.specs.ReplicaState.{Replica, record_at, is_head, is_tail, Gathered, whole_cells, gathering_of, with_part}
use Rattle.proto_model.specs.ReplicaRows.{StoreRow, store_message_row, ask_row, put_row, snap_row, gathered_row, echo_row, echoed_row, covered, at_head, switch_of, chunk_fits}

if_taken : {s : Replica} {now : ℕ} {from : Node} {body : Body} {b : Bool} {x y : StoreRow} → (b ≡ true → Taken s now from body x) → (b ≡ false → Taken s now from body y) →
    Taken s now from body (if b then x else y)
if_taken {b = true} p q = p refl
if_taken {b = false} p q = q refl

ask_taken : (s : Replica) (now : ℕ) (from : Node) (inc nonce : ℕ) (key : Key) (load : Option Carried) (o : Option Record) → is_head s ≡ true → record_at s key ≡ o →
    Taken s now from (Body.Ask inc nonce key load) (ask_row s now from inc nonce key load o)
ask_taken s now from inc nonce key load None head at = search (if_taken, first_grant, busied, at, head)
ask_taken s now from inc nonce key load (Some r) head at = search (if_taken, own_grant, other_grant, busied, echoed_ask, lost, at, head)

put_taken : (s : Replica) (now : ℕ) (from : Node) (inc epoch number : ℕ) (key : Key) (delta : Delta) (load : Option Carried) (o : Option Record) → is_head s ≡ true → record_at s key ≡ o → delta_within s.cell_count delta ≡ true →
    Taken s now from (Body.Put inc epoch number key delta load) (put_row s from inc epoch number key delta load o)
put_taken s now from inc epoch number key delta load None head at d = denied
put_taken s now from inc epoch number key delta load (Some r) head at d = search (if_taken, next_put, echoed_put, denied, lost, at, d, head)

whole_taken : (s : Replica) (now : ℕ) (from : Node) (inc epoch round chunk chunks : ℕ) (key : Key) (cells : List ℕ) (g : Gathered) (r : Record) (o : Option (List ℕ)) → is_head s ≡ true → record_at s key ≡ Some r →
    (r.epoch == epoch) ≡ true → (round == r.last + 1) ≡ true → whole_cells g ≡ o → IsGathered s epoch round key chunk chunks cells g → Taken s now from (Body.Snap inc epoch round key chunk chunks cells) (gathered_row key epoch round g o)
whole_taken s now from inc epoch round chunk chunks key cells g r None head at e n is f = gathered f
whole_taken s now from inc epoch round chunk chunks key cells g r (Some whole) head at e n is f = next_snap head at e n is f

snap_taken : (s : Replica) (now : ℕ) (from : Node) (inc epoch round chunk chunks : ℕ) (key : Key) (cells : List ℕ) (g : Gathered) (o : Option Record) → is_head s ≡ true → record_at s key ≡ o → IsGathered s epoch round key chunk chunks cells g →
    Taken s now from (Body.Snap inc epoch round key chunk chunks cells) (snap_row s from inc epoch round key g o)
snap_taken s now from inc epoch round chunk chunks key cells g None head at f = denied_snap
snap_taken s now from inc epoch round chunk chunks key cells g (Some r) head at f =
    if_taken {b = r.epoch == epoch}
    (λ e.
    if_taken {b = round == r.last + 1} (λ n. whole_taken s now from inc epoch round chunk chunks key cells g r (whole_cells g) head at e n refl f)
    (λ _. if_taken {b = nat_le round r.last} (λ _. echoed_snap) (λ _. lost)))
    (λ _. denied_snap)

asked_taken : (s : Replica) (now : ℕ) (from : Node) (body : Body) (switch inc nonce : ℕ) (key : Key) (load : Option Carried) (o : Option Record) → Asked from body switch inc nonce key load → record_at s key ≡ o → is_tail s ≡ true →
    Taken s now from body (echoed_row o (Echoed.Ask switch inc nonce key) load)
asked_taken s now from body switch inc nonce key load None a at tail = lost
asked_taken s now from body switch inc nonce key load (Some r) a at tail = if_taken {b = is_owner r switch inc nonce} (λ t. granted_again a at tail t) (λ _. lost)

was_put_taken : (s : Replica) (now : ℕ) (from : Node) (body : Body) (switch epoch number : ℕ) (key : Key) (load : Option Carried) (o : Option Record) → WasPut from body switch epoch number key load → record_at s key ≡ o → is_tail s ≡ true →
    Taken s now from body (echoed_row o (Echoed.Put switch epoch number key) load)
was_put_taken s now from body switch epoch number key load None a at tail = lost
was_put_taken s now from body switch epoch number key load (Some r) a at tail = if_taken {b = covers r switch epoch number} (λ t. acked_again number a at tail t) (λ _. lost)

-- the head that is itself the tail
covered_taken : (s : Replica) (now : ℕ) (from : Node) {body : Body} {row : StoreRow} → Taken s now from body row → Taken s now from body (covered s row)
covered_taken s now from (echoed_ask {inc = inc} {nonce = nonce} {key = key} {load = load}) =
    if_taken {b = is_tail s} (λ tail. asked_taken s now from _ (switch_of from) inc nonce key load (record_at s key) itself refl tail) (λ _. echoed_ask)
covered_taken s now from (echoed_put {epoch = epoch} {number = number} {key = key} {load = load}) =
    if_taken {b = is_tail s} (λ tail. was_put_taken s now from _ (switch_of from) epoch number key load (record_at s key) itself_put refl tail) (λ _. echoed_put)
covered_taken s now from (echoed_snap {epoch = epoch} {round = round} {key = key}) =
    if_taken {b = is_tail s} (λ tail. was_put_taken s now from _ (switch_of from) epoch round key None (record_at s key) itself_snap refl tail) (λ _. echoed_snap)
covered_taken s now from t = t

head_taken : (s : Replica) (now : ℕ) (from : Node) (body : Body) (row : StoreRow) → (is_head s ≡ true → Taken s now from body row) → Taken s now from body (at_head s row)
head_taken s now from body row t = if_taken {b = is_head s} (λ head. covered_taken s now from (t head)) (λ _. lost)

echo_taken : (s : Replica) (now : ℕ) (from : Node) (of : Echoed) (load : Option Carried) → is_tail s ≡ true → Taken s now from (Body.Echo of load) (echo_row s of load)
echo_taken s now from (Echoed.Ask switch inc nonce key) load tail = asked_taken s now from _ switch inc nonce key load (record_at s key) echo refl tail
echo_taken s now from (Echoed.Put switch epoch number key) load tail = was_put_taken s now from _ switch epoch number key load (record_at s key) echo_put refl tail

pub message_taken : (s : Replica) (now : ℕ) (from : Node) (body : Body) → Taken s now from body (store_message_row s now from body)
message_taken s now from (Body.Ask inc nonce key load) = head_taken s now from _ _ (λ head. ask_taken s now from inc nonce key load (record_at s key) head refl)
message_taken s now from (Body.Put inc epoch number key delta load) =
    head_taken s now from _ _
    (λ head. if_taken {b = delta_within s.cell_count delta} (λ d. put_taken s now from inc epoch number key delta load (record_at s key) head refl d) (λ _. lost))
message_taken s now from (Body.Snap inc epoch round key chunk chunks cells) =
    head_taken s now from _ _
    (λ head. if_taken {b = chunk_fits s.cell_count chunk chunks cells} (λ fits. snap_taken s now from inc epoch round chunk chunks key cells (with_part (gathering_of epoch round chunks (get s.gathered key)) chunk cells) (record_at s key) head refl (record { fits = fits; is = refl })) (λ _. lost))
message_taken s now from (Body.Forward config index entry load) = search (if_taken, had, forwarded, lost)
message_taken s now from (Body.Echo of load) = if_taken {b = is_tail s} (λ tail. echo_taken s now from of load tail) (λ _. lost)
message_taken s now from (Body.Have index) =
    if_taken {b = nat_lt s.known index && nat_le index s.applied} (λ t. committed (ltb-true _ _ (and_parts _ _ t).0) (leb-true _ _ (and_parts _ _ t).1)) (λ _. lost)
message_taken s now from (Body.Config config) = if_taken {b = nat_lt s.config.number config.number} (λ t. adopted (ltb-true _ _ t)) (λ _. lost)
message_taken s now from _ = lost
