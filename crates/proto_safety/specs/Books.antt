-- What is said of books: prefixes, places, and the books before one in a configuration's chain.
use Rattle.std.specs.Prelude.{◌⊎◌, ℕ, ◌≡◌, ◌≤◌, ◌<◌, ◌+◌, Bool, true, List, [], ◌∷◌, ◌++◌, Option, Some, None, length, slice_get}
use Rattle.proto_data.specs.declared.message.Msg.{Msg}
use Rattle.proto_data.specs.declared.message.Body.{Body}
use Rattle.rp_base.specs.declared.node.Node.{Node}
use Rattle.proto_data.specs.declared.message.Entry.{Entry}
use Rattle.proto_data.specs.declared.message.Config.{Config}
use Rattle.proto_data.specs.declared.message.Carried.{Carried}
use Rattle.proto_model.specs.ReplicaState.{is_head, is_tail}
use Rattle.key_table.specs.Table.{Key}
use Rattle.proto_model.specs.Feeds.{Each, Pairwise}
use Rattle.proto_model.specs.Stands.{entries_of, Stands}
use Rattle.proto_model.specs.Committed.{last_running_book}
use Rattle.proto_model.specs.World.{World, ReplicaNode}

-- x is one of these
abbrev pub In : {A : Type 0} → List A → A → Type 0
In [] x = ⊥
In (y ∷ ys) x = (y ≡ x) ⊎ In ys x

-- the epoch has a Grant among these entries
pub record IsGranted (entries : List Entry) (key : Key) (epoch : ℕ) : Type 0 where
  pub switch : ℕ
  pub inc : ℕ
  pub nonce : ℕ
  pub there : In entries (Entry.Grant key epoch switch inc nonce)

pub record IsPrefix {A : Type 0} (xs ys : List A) : Type 0 where
  pub rest : List A
  pub is : xs ++ rest ≡ ys

-- the entry stands at this place; places begin at 1
pub record EntryAt (entries : List Entry) (place : ℕ) (entry : Entry) : Type 0 where
  pub before : List Entry
  pub behind : List Entry
  pub is : entries ≡ before ++ entry ∷ behind
  pub place_is : place ≡ length before + 1

-- members stand in a chain by rising number
abbrev pub Rising : List ℕ → Type 0
Rising chain = Pairwise (λ a b. a < b) chain

-- whether a replica counts as one that keeps what is committed
abbrev pub lives : ReplicaNode → Bool
lives node = node.runs

abbrev pub entries_at : Option ReplicaNode → List Entry
entries_at None = []
entries_at (Some node) = entries_of node.book

-- the entries that a replica applied
abbrev pub book_of : List ReplicaNode → ℕ → List Entry
book_of nodes n = entries_at (slice_get nodes n)

abbrev pub committed_of : List ReplicaNode → List Entry
committed_of nodes = entries_of (last_running_book nodes [])

-- every replica before b in this chain has the entry at this place
abbrev pub HaveBefore : List ReplicaNode → List ℕ → ℕ → ℕ → Entry → Type 0
HaveBefore nodes chain b place entry = (a : ℕ) → In chain a → a < b → EntryAt (book_of nodes a) place entry

-- A configuration that was, of a Forward to b with this number: the sender stands before b in its chain, and every replica before b has the entry.
pub record Forwarded (configs : List Config) (nodes : List ReplicaNode) (from : Node) (number b place : ℕ) (entry : Entry) : Type 0 where
  pub config : Config
  pub was : In configs config
  pub number_is : config.number ≡ number
  pub have : HaveBefore nodes config.chain b place entry
  pub sender : ℕ
  pub from_is : from ≡ Node.Replica sender
  pub sender_in : In config.chain sender
  pub sender_before : sender < b

abbrev pub ToReplica : (ℕ → Type 0) → Node → Type 0
ToReplica P (Node.Replica n) = P n
ToReplica P _ = ⊥

-- what is known of a frame
abbrev pub FrameBooks : List Config → List ReplicaNode → Node → Node → Body → Type 0
FrameBooks configs nodes from to (Body.Forward config index entry load) = ToReplica (λ b. Forwarded configs nodes from config b index entry) to
FrameBooks configs nodes from to (Body.Have index) = index ≤ length (committed_of nodes)
FrameBooks configs nodes from to (Body.Config config) = In configs config
FrameBooks configs nodes from to _ = Unit {0}

-- the configurations that were, `now` being the present one
pub record Configs (configs : List Config) (now : Config) (nodes : List ReplicaNode) : Type 0 where
  pub present : In configs now
  pub numbers : Each (λ (c : Config). c.number ≤ now.number) configs
  pub rising : Each (λ (c : Config). Rising c.chain) configs
  -- only replicas that stopped are missing
  pub members : (c : Config) → In configs c → (a : ℕ) (node : ReplicaNode) → slice_get nodes a ≡ Some node → lives node ≡ true → In c.chain a
  -- what stands before a member in a later configuration stood before it in the earlier one
  pub later : (c d : Config) → In configs c → In configs d → c.number ≤ d.number → (a b : ℕ) → In c.chain b → In d.chain a → a < b → In c.chain a

-- what is known of a replica
pub record NodeBooks (configs : List Config) (nodes : List ReplicaNode) (n : ℕ) (node : ReplicaNode) : Type 0 where
  pub me : node.state.me ≡ n
  pub config : In configs node.state.config
  pub stands : Stands node.state node.book
  -- a running replica's book is a prefix of each before it in its configuration, running or not
  pub behind : lives node ≡ true → (a : ℕ) → In node.state.config.chain a → a < n → IsPrefix (entries_of node.book) (book_of nodes a)
  pub known : node.state.known ≤ length (committed_of nodes)

pub record Books (confs : List Config) (w : World) : Type 0 where
  pub configs : Configs confs w.config w.replicas
  pub nodes : (n : ℕ) (node : ReplicaNode) → slice_get w.replicas n ≡ Some node → NodeBooks confs w.replicas n node
  pub frames : Each (λ (m : Msg). FrameBooks confs w.replicas m.from m.to m.body) w.frames

abbrev pub BooksHold : World → Type 0
BooksHold w = (confs : List Config) × Books confs w

-- ---- what the protocol promises of books

-- a stands before b in this chain
abbrev pub Precedes : List ℕ → ℕ → ℕ → Type 0
Precedes [] a b = ⊥
Precedes (x ∷ xs) a b = ((x ≡ a) × In xs b) ⊎ Precedes xs a b

-- replica n has this configuration
pub record Has (w : World) (n : ℕ) (config : Config) : Type 0 where
  pub node : ReplicaNode
  pub at : slice_get w.replicas n ≡ Some node
  pub config_is : node.state.config ≡ config

-- replica n runs, in this state
pub record Runs (w : World) (n : ℕ) (node : ReplicaNode) : Type 0 where
  pub at : slice_get w.replicas n ≡ Some node
  pub up : lives node ≡ true

pub record InOrder (w : World) : Type 0 where
  -- a running replica's book is a prefix of that of each replica before it in its configuration
  pub prefixes : (n a : ℕ) (node : ReplicaNode) → Runs w n node → Precedes node.state.config.chain a n → IsPrefix (entries_of node.book) (book_of w.replicas a)
  -- a Forward's entry stands in its sender's book, and in those before the sender in the Forward's configuration
  pub forwards :
      (i x number place : ℕ) (to : Node) (entry : Entry) (load : Option Carried) →
      slice_get w.frames i ≡ Some (record { from = Node.Replica x; to = to; body = Body.Forward number place entry load }) →
      EntryAt (book_of w.replicas x) place entry
      × ((n a : ℕ) (config : Config) → Has w n config → config.number ≡ number → Precedes config.chain a x → EntryAt (book_of w.replicas a) place entry)
  -- no running replica is missing from a configuration
  pub present : (n m : ℕ) (config : Config) (node : ReplicaNode) → Has w n config → Runs w m node → In config.chain m
  -- a running tail of its own configuration is the last running replica
  pub last : (n m : ℕ) (node other : ReplicaNode) → Runs w n node → Runs w m other → is_tail node.state ≡ true → m ≤ n
  -- so it has the committed book
  pub tails : (n : ℕ) (node : ReplicaNode) → Runs w n node → is_tail node.state ≡ true → committed_of w.replicas ≡ entries_of node.book
  -- at most one running replica is head of its own configuration
  pub heads : (n m : ℕ) (a b : ReplicaNode) → Runs w n a → Runs w m b → is_head a.state ≡ true → is_head b.state ≡ true → n ≡ m
  -- what is known or said to be committed is
  pub known : (n : ℕ) (node : ReplicaNode) → slice_get w.replicas n ≡ Some node → node.state.known ≤ length (committed_of w.replicas)
  pub haves : (i index : ℕ) (from to : Node) → slice_get w.frames i ≡ Some (record { from = from; to = to; body = Body.Have index }) → index ≤ length (committed_of w.replicas)

-- A configuration that the master once made: no running replica is missing from it, and each entry of its Forwards stands in the
-- books of those before the sender in it.
pub record HoldsIn (config : Config) (w : World) : Type 0 where
  pub present : (m : ℕ) (node : ReplicaNode) → Runs w m node → In config.chain m
  pub forwards :
      (i x place : ℕ) (to : Node) (entry : Entry) (load : Option Carried) →
      slice_get w.frames i ≡ Some (record { from = Node.Replica x; to = to; body = Body.Forward config.number place entry load }) →
      (a : ℕ) → Precedes config.chain a x → EntryAt (book_of w.replicas a) place entry
