-- What the choice of a replica's row says of the state.
use Rattle.std.proofs.Common.{◌≡◌, ℕ, ◌+◌, ◌≤◌, ◌<◌, List, Option, Some, None, refl, true, false, Bool, eq-eqb}
use Rattle.std.specs.Prelude.{◌==◌, if◌then◌else◌}
use Rattle.std.proofs.lemmas.Bool.{and_parts, and_from, ltb-true, leb-true}
use Rattle.rp_base.specs.declared.node.Node.{Node}
use Rattle.proto_data.specs.declared.message.Body.{Body}
use Rattle.proto_data.specs.declared.message.Input.{Input}
use Rattle.proto_data.specs.declared.message.Entry.{Entry}
use Rattle.proto_data.specs.declared.message.Echoed.{Echoed}
use Rattle.proto_data.specs.declared.message.Record.{Record}
use Rattle.proto_data.specs.declared.message.Carried.{Carried}
use Rattle.proto_data.specs.declared.message.Config.{Config}
use Rattle.rp_base.specs.declared.event.Lost.{Lost}
use Rattle.rp_app.specs.Application.{Delta}
use Rattle.key_table.specs.Table.{Key}
use Rattle.proto_model.specs.Records.{entry_fits, delta_within}
use Rattle.proto_model.specs.ReplicaState.{Replica, record_at, Gathered}
use Rattle.proto_model.specs.ReplicaRows.{StoreRow, Loses, Answers, Echoes, Appends, Gathers, AppendsSnap, Commits, Adopts, Resends, store_row, store_message_row, ask_row, put_row, snap_row, numbered_row, gathered_row, echoed_row, covered, at_head, switch_of, echoed_key}

-- which rows a replica may take, and under what: an appended entry comes next for its flow, and a raised commit rises within the book
pub data StoreFits (s : Replica) : StoreRow → Type 0 where
  loses : {cause : Lost} → StoreFits s (Loses cause)
  answers : {to : Node} {body : Body} → StoreFits s (Answers to body)
  echoes : {of : Echoed} {load : Option Carried} → StoreFits s (Echoes of load)
  appends : {e : Entry} {load : Option Carried} → entry_fits s.cell_count s.records e ≡ true → StoreFits s (Appends e load)
  gathers : {key : Key} {g : Gathered} → StoreFits s (Gathers key g)
  appends_snap : {key : Key} {g : Gathered} {e : Entry} → StoreFits s (AppendsSnap key g e)
  commits : {index : ℕ} → s.known < index → index ≤ s.applied → StoreFits s (Commits index)
  adopts : {config : Config} → s.config.number < config.number → StoreFits s (Adopts config)
  resends : StoreFits s Resends

-- a test chooses between two rows
if_fits : {s : Replica} {b : Bool} {x y : StoreRow} → (b ≡ true → StoreFits s x) → (b ≡ false → StoreFits s y) → StoreFits s (if b then x else y)
if_fits {b = true} p q = p refl
if_fits {b = false} p q = q refl

first_fits : (s : Replica) (key : Key) (switch inc nonce : ℕ) → record_at s key ≡ None → entry_fits s.cell_count s.records (Entry.Grant key 1 switch inc nonce) ≡ true
first_fits s key switch inc nonce at = rw at refl

later_fits : (s : Replica) (key : Key) (r : Record) (switch inc nonce : ℕ) → record_at s key ≡ Some r → entry_fits s.cell_count s.records (Entry.Grant key (r.epoch + 1) switch inc nonce) ≡ true
later_fits s key r switch inc nonce at = rw at (eq-eqb (r.epoch + 1) (r.epoch + 1) refl)

put_fits : (s : Replica) (key : Key) (epoch number : ℕ) (delta : Delta) (r : Record) → record_at s key ≡ Some r → (r.epoch == epoch) ≡ true → (number == r.last + 1) ≡ true → delta_within s.cell_count delta ≡ true →
    entry_fits s.cell_count s.records (Entry.Put key epoch number delta) ≡ true
put_fits s key epoch number delta r at e n d = rw at (and_from _ _ e (and_from _ _ n d))

ask_fits : (s : Replica) (now : ℕ) (from : Node) (inc nonce : ℕ) (key : Key) (load : Option Carried) (o : Option Record) → record_at s key ≡ o →
    StoreFits s (ask_row s now from inc nonce key load o)
ask_fits s now from inc nonce key load None at = if_fits (λ _. appends (first_fits s key (switch_of from) inc nonce at)) (λ _. answers)
ask_fits s now from inc nonce key load (Some r) at =
    search (if_fits, appends, echoes, loses, answers, later_fits)

numbered_fits : (s : Replica) (last number : ℕ) (next earlier : StoreRow) → ((number == last + 1) ≡ true → StoreFits s next) → StoreFits s earlier → StoreFits s (numbered_row last number next earlier)
numbered_fits s last number next earlier n e = if_fits n (λ _. if_fits (λ _. e) (λ _. loses))

put_row_fits : (s : Replica) (from : Node) (inc epoch number : ℕ) (key : Key) (delta : Delta) (load : Option Carried) (o : Option Record) → record_at s key ≡ o → delta_within s.cell_count delta ≡ true →
    StoreFits s (put_row s from inc epoch number key delta load o)
put_row_fits s from inc epoch number key delta load None at d = answers
put_row_fits s from inc epoch number key delta load (Some r) at d =
    if_fits
    (λ e. numbered_fits s r.last number _ _ (λ n. appends (put_fits s key epoch number delta r at e n d)) echoes)
    (λ _. answers)

gathered_fits : (s : Replica) (key : Key) (epoch round : ℕ) (g : Gathered) (o : Option (List ℕ)) → StoreFits s (gathered_row key epoch round g o)
gathered_fits s key epoch round g None = gathers
gathered_fits s key epoch round g (Some cells) = appends_snap

snap_fits : (s : Replica) (from : Node) (inc epoch round : ℕ) (key : Key) (g : Gathered) (o : Option Record) → StoreFits s (snap_row s from inc epoch round key g o)
snap_fits s from inc epoch round key g None = answers
snap_fits s from inc epoch round key g (Some r) =
    search (if_fits, numbered_fits, gathered_fits, echoes, answers)

echoed_fits : (s : Replica) (o : Option Record) (of : Echoed) (load : Option Carried) → StoreFits s (echoed_row o of load)
echoed_fits s None of load = loses
echoed_fits s (Some r) (Echoed.Ask switch inc nonce key) load = if_fits (λ _. answers) (λ _. loses)
echoed_fits s (Some r) (Echoed.Put switch epoch number key) load = if_fits (λ _. answers) (λ _. loses)

covered_fits : (s : Replica) (row : StoreRow) → StoreFits s row → StoreFits s (covered s row)
covered_fits s (Echoes of load) h = if_fits (λ _. echoed_fits s (record_at s (echoed_key of)) of load) (λ _. echoes)
covered_fits s _ h = h

head_fits : (s : Replica) (row : StoreRow) → StoreFits s row → StoreFits s (at_head s row)
head_fits s row h = if_fits (λ _. covered_fits s row h) (λ _. loses)

message_fits : (s : Replica) (now : ℕ) (from : Node) (body : Body) → StoreFits s (store_message_row s now from body)
message_fits s now from (Body.Ask inc nonce key load) = head_fits s _ (ask_fits s now from inc nonce key load (record_at s key) refl)
message_fits s now from (Body.Put inc epoch number key delta load) = let at : record_at s key ≡ record_at s key = refl in search (head_fits, if_fits, put_row_fits, loses)
message_fits s now from (Body.Snap inc epoch round key chunk chunks cells) = search (head_fits, if_fits, snap_fits, loses)
message_fits s now from (Body.Forward config index entry load) = search (if_fits, answers, appends, loses)
message_fits s now from (Body.Echo of load) = search (if_fits, echoed_fits, loses)
message_fits s now from (Body.Have index) = if_fits (λ t. commits (ltb-true _ _ (and_parts _ _ t).0) (leb-true _ _ (and_parts _ _ t).1)) (λ _. loses)
message_fits s now from (Body.Config config) = if_fits (λ t. adopts (ltb-true _ _ t)) (λ _. loses)
message_fits s now from _ = loses

pub row_fits : (s : Replica) (now : ℕ) (input : Input) → StoreFits s (store_row s now input)
row_fits s now (Input.Packet p) = loses
row_fits s now (Input.Msg m) = message_fits s now m.from m.body
row_fits s now Input.Alarm = resends

-- what a row's choice says
pub commit_above : {s : Replica} {index : ℕ} → StoreFits s (Commits index) → s.known < index
commit_above (commits above within) = above

pub commit_within : {s : Replica} {index : ℕ} → StoreFits s (Commits index) → index ≤ s.applied
commit_within (commits above within) = within

pub append_fits : {s : Replica} {e : Entry} {load : Option Carried} → StoreFits s (Appends e load) → entry_fits s.cell_count s.records e ≡ true
append_fits (appends h) = h
