-- What a book says of one flow: the flow's record without its moment, as a fold of the flow's entries alone.
use Rattle.std.specs.Prelude.{ℕ, ◌≡◌, ◌≤◌, ◌+◌, true, List, [], ◌∷◌, Option, Some, None, if◌then◌else◌, option_map, fold}
use Rattle.proto_data.specs.declared.message.Entry.{Entry}
use Rattle.proto_data.specs.declared.message.Record.{Record}
use Rattle.rp_base.specs.declared.node.Node.{Node}
use Rattle.proto_data.specs.declared.message.Body.{Body}
use Rattle.rp_app.specs.Application.{written, zeros}
use Rattle.key_table.specs.Table.{Key, same_key, get}
use Rattle.proto_model.specs.ReplicaRows.{entry_key}
use Rattle.proto_model.specs.Committed.{number_in, committed_records}
use Rattle.proto_model.specs.World.{World}
use Rattle.proto_safety.specs.Books.{In, IsPrefix}

pub record FlowRecord : Type 0 where
  pub epoch : ℕ
  pub switch : ℕ
  pub inc : ℕ
  pub nonce : ℕ
  pub last : ℕ
  pub cells : List ℕ

abbrev pub flow_in : Record → FlowRecord
flow_in r = record { epoch = r.epoch; switch = r.switch; inc = r.inc; nonce = r.nonce; last = r.last; cells = r.cells }

abbrev pub flow_cells : ℕ → Option FlowRecord → List ℕ
flow_cells n None = zeros n
flow_cells n (Some f) = f.cells

abbrev pub flow_step : ℕ → Key → Option FlowRecord → Entry → Option FlowRecord
flow_step n key o (Entry.Grant k epoch switch inc nonce) =
    if same_key k key then Some (record { epoch = epoch; switch = switch; inc = inc; nonce = nonce; last = 0; cells = flow_cells n o }) else o
flow_step n key o (Entry.Put k epoch number delta) =
    if same_key k key then option_map (λ (f : FlowRecord). record f { last = number; cells = written f.cells delta }) o else o
flow_step n key o (Entry.Snap k epoch round values) =
    if same_key k key then option_map (λ (f : FlowRecord). record f { last = round; cells = values }) o else o

abbrev pub flow_from : ℕ → Key → Option FlowRecord → List Entry → Option FlowRecord
flow_from n key o entries = fold (flow_step n key) o entries

-- the flow after a book
abbrev pub flow_of : ℕ → Key → List Entry → Option FlowRecord
flow_of n key entries = flow_from n key None entries

-- the entry comes next for its flow
abbrev pub Follows : Option FlowRecord → Entry → Type 0
Follows None (Entry.Grant k epoch switch inc nonce) = epoch ≡ 1
Follows (Some f) (Entry.Grant k epoch switch inc nonce) = epoch ≡ f.epoch + 1
Follows None (Entry.Put k epoch number delta) = ⊥
Follows (Some f) (Entry.Put k epoch number delta) = (f.epoch ≡ epoch) × (number ≡ f.last + 1)
Follows None (Entry.Snap k epoch round values) = ⊥
Follows (Some f) (Entry.Snap k epoch round values) = (f.epoch ≡ epoch) × (round ≡ f.last + 1)

-- each entry of this flow comes next
abbrev pub FitsFrom : ℕ → Key → Option FlowRecord → List Entry → Type 0
FitsFrom n key o [] = Unit {0}
FitsFrom n key o (e ∷ es) = (same_key (entry_key e) key ≡ true → Follows o e) × FitsFrom n key (flow_step n key o e) es

-- ---- replies

abbrev pub ToSwitch : (ℕ → Type 0) → Node → Type 0
ToSwitch P (Node.Switch n) = P n
ToSwitch P _ = ⊥

-- the flow has this epoch, owner and cells after these entries
pub record GrantedNow (n : ℕ) (entries : List Entry) (switch inc nonce epoch : ℕ) (key : Key) (cells : List ℕ) : Type 0 where
  pub last : ℕ
  pub flow_is : flow_of n key entries ≡ Some (record { epoch = epoch; switch = switch; inc = inc; nonce = nonce; last = last; cells = cells })

-- A Grant's epoch, owner and cells are those that the committed book gave the flow, `front` being that book when the Grant was sent.
pub record GrantedIn (n : ℕ) (committed : List Entry) (switch inc nonce epoch : ℕ) (key : Key) (cells : List ℕ) : Type 0 where
  pub front : List Entry
  pub prefix : IsPrefix front committed
  pub last : ℕ
  pub flow_is : flow_of n key front ≡ Some (record { epoch = epoch; switch = switch; inc = inc; nonce = nonce; last = last; cells = cells })

-- the committed book has the epoch with a number of at least `upto`
pub record AckedIn (committed : List Entry) (epoch upto : ℕ) (key : Key) : Type 0 where
  pub entry : Entry
  pub there : In committed entry
  pub number : ℕ
  pub number_is : number_in key epoch entry ≡ Some number
  pub reaches : upto ≤ number

abbrev pub Reply : ℕ → List Entry → Node → Body → Type 0
Reply n committed to (Body.Grant inc nonce epoch key cells load) = ToSwitch (λ s. GrantedIn n committed s inc nonce epoch key cells) to
Reply n committed to (Body.Ack inc epoch upto key load) = AckedIn committed epoch upto key
Reply n committed to _ = Unit {0}

-- a Grant says what the flow's committed record is
pub record SaysRecord (n : ℕ) (w : World) (to : Node) (inc nonce epoch : ℕ) (key : Key) (cells : List ℕ) : Type 0 where
  pub rec : Record
  pub found : get (committed_records n w) key ≡ Some rec
  pub to_owner : to ≡ Node.Switch rec.switch
  pub inc_is : rec.inc ≡ inc
  pub nonce_is : rec.nonce ≡ nonce
  pub epoch_is : rec.epoch ≡ epoch
  pub cells_are : rec.cells ≡ cells
