-- One step of a replica keeps what is known of books.
use Rattle.std.proofs.Common.{◌≡◌, ◌≢◌, ◌⊎◌, ℕ, ◌≤◌, ◌<◌, List, [], ◌∷◌, ◌++◌, length, Option, Some, None, arith, refl, sym, ap, subst, ◌∙◌, slice_get, set, inl, inr, true, false, Bool, append-nil}
use Rattle.std.specs.Prelude.{nat_lt}
use Rattle.std.proofs.lemmas.Bool.{ltb-true, ltb-false}
use Rattle.std.proofs.lemmas.List.{map-append}
use Rattle.proto_data.specs.declared.message.Msg.{Msg}
use Rattle.proto_data.specs.declared.message.Body.{Body}
use Rattle.rp_base.specs.declared.node.Node.{Node}
use Rattle.proto_data.specs.declared.message.Entry.{Entry}
use Rattle.proto_data.specs.declared.message.Input.{Input}
use Rattle.proto_data.specs.declared.message.Config.{Config}
use Rattle.rp_base.specs.declared.event.Lost.{Lost}
use Rattle.proto_model.specs.Feeds.{Each}
use Rattle.proto_model.specs.Effects.{added}
use Rattle.proto_model.specs.Records.{Booked}
use Rattle.proto_model.specs.Stands.{entries_of, Stands}
use Rattle.proto_model.specs.ReplicaState.{Replica, is_tail, is_head_of, is_tail_of, successor_of}
use Rattle.proto_model.specs.ReplicaRows.{StoreRow, Loses, Answers, Echoes, Appends, Gathers, AppendsSnap, Commits, Adopts, Resends, store_row, store_step}
use Rattle.proto_model.specs.World.{ReplicaNode}
use Rattle.proto_safety.specs.Books.{In, IsPrefix, EntryAt, Rising, lives, book_of, committed_of, Forwarded, ToReplica, FrameBooks, Configs, NodeBooks}
use Rattle.proto_safety.proofs.Store.Chains.{before_head, behind_tail, before_successor, has_successor, above_successor}
use Rattle.proto_safety.proofs.Basics.Places.{prefix_more, entry_later}
use Rattle.proto_safety.proofs.Store.LastBook.{last_book}
use Rattle.proto_safety.proofs.Store.BooksLater.{Later, moved_later, node_later, configs_later, frames_later}
use Rattle.proto_safety.proofs.Nodes.StoreTable.{Taken, message_taken}
use Rattle.proto_model.proofs.StoreStands.{book_after, step_stands, length-entries_of}
use Rattle.proto_safety.proofs.Store.StoreBooks.{config_after, row_me, row_config, Has, row_applies, ComesBy, at_head, by_forward, taken_comes, taken_adopts, taken_commits, KnownFrom, at_tail, as_before, told, row_known, SentBooks, Sent, taken_sent, alarm_sent}
use Rattle.proto_safety.proofs.Basics.Eachs.{each_append, each_in, each_weaker}
use Rattle.proto_safety.proofs.Basics.Lists.{at_set, get-set_same}
use Rattle.proto_safety.proofs.Basics.Prefixes.{prefix_length, prefix_push, prefix_trans}

-- the row of an input, with its place in the table
pub data RowOf (s : Replica) (now : ℕ) : Input → StoreRow → Type 0 where
  of_message : {m : Msg} {row : StoreRow} → Taken s now m.from m.body row → RowOf s now (Input.Msg m) row
  of_alarm : RowOf s now Input.Alarm Resends
  of_packet : {input : Input} {cause : Lost} → RowOf s now input (Loses cause)

pub row_of : (s : Replica) (now : ℕ) (input : Input) → RowOf s now input (store_row s now input)
row_of s now (Input.Msg m) = of_message (message_taken s now m.from m.body)
row_of s now Input.Alarm = of_alarm
row_of s now (Input.Packet p) = of_packet

-- what is known of an input at replica n
abbrev pub Known : List Config → List ReplicaNode → ℕ → Input → Type 0
Known confs nodes n (Input.Msg m) = (m.to ≡ Node.Replica n) × FrameBooks confs nodes m.from m.to m.body
Known confs nodes n Input.Alarm = Unit {0}
Known confs nodes n (Input.Packet p) = ⊥

-- ---- the configuration after a step

data ConfigNow (confs : List Config) (s : Replica) (c : Config) : Type 0 where
  same_config : s.config ≡ c → ConfigNow confs s c
  newer : In confs c → s.config.number < c.number → ConfigNow confs s c

config_taken : (confs : List Config) (nodes : List ReplicaNode) (s : Replica) (now : ℕ) (from to : Node) (body : Body) (row : StoreRow) → Taken s now from body row → FrameBooks confs nodes from to body → ConfigNow confs s (config_after s row)
config_taken confs nodes s now from to body (Adopts c) t k = let a = taken_adopts t in newer (subst (λ (b : Body). FrameBooks confs nodes from to b) a.0 k) a.1
config_taken confs nodes s now from to body (Loses cause) t k = same_config refl
config_taken confs nodes s now from to body (Answers node answer) t k = same_config refl
config_taken confs nodes s now from to body (Echoes of load) t k = same_config refl
config_taken confs nodes s now from to body (Appends e load) t k = same_config refl
config_taken confs nodes s now from to body (Gathers key g) t k = same_config refl
config_taken confs nodes s now from to body (AppendsSnap key g e) t k = same_config refl
config_taken confs nodes s now from to body (Commits index) t k = same_config refl
config_taken confs nodes s now from to body Resends t k = same_config refl

config_now : (confs : List Config) (nodes : List ReplicaNode) (n : ℕ) (s : Replica) (now : ℕ) (input : Input) (row : StoreRow) → RowOf s now input row → Known confs nodes n input → ConfigNow confs s (config_after s row)
config_now confs nodes n s now (Input.Msg m) row (of_message t) k = config_taken confs nodes s now m.from m.to m.body row t k.1
config_now confs nodes n s now input row of_alarm k = same_config refl
config_now confs nodes n s now input row of_packet k = same_config refl

config_in : (confs : List Config) (s : Replica) (c : Config) → In confs s.config → ConfigNow confs s c → In confs c
config_in confs s c h (same_config e) = subst (λ (d : Config). In confs d) e h
config_in confs s c h (newer i above) = i

-- who stands before a living replica then stood before it
before_then : (confs : List Config) (now : Config) (nodes : List ReplicaNode) (s : Replica) (c : Config) (n : ℕ) (node : ReplicaNode) → Configs confs now nodes → In confs s.config →
    slice_get nodes n ≡ Some node → lives node ≡ true → ConfigNow confs s c → (a : ℕ) → In c.chain a → a < n → In s.config.chain a
before_then confs now nodes s c n node h i at up (same_config e) a in_c below = subst (λ (d : Config). In d.chain a) (sym e) in_c
before_then confs now nodes s c n node h i at up (newer j above) a in_c below = h.later s.config c i j (omega arith) a n (h.members s.config i n node at up) in_c below

-- ---- the book after a step

-- the entry that comes stands in each book before
pub comes_prefix : (confs : List Config) (now : Config) (nodes : List ReplicaNode) (s : Replica) (book : List Booked) (n a : ℕ) (node : ReplicaNode) (x : Entry) (from to : Node) (body : Body) → Configs confs now nodes → In confs s.config →
    s.me ≡ n → slice_get nodes n ≡ Some node → lives node ≡ true → s.applied ≡ length book → In s.config.chain a → a < n → IsPrefix (entries_of book) (book_of nodes a) →
    to ≡ Node.Replica n → FrameBooks confs nodes from to body → ComesBy s x body → IsPrefix (entries_of book ++ x ∷ []) (book_of nodes a)
comes_prefix confs now nodes s book n a node x from to body h i me at up count in_a below p is k (at_head head) =
    absurd (before_head s.config.chain n a (each_in (λ (c : Config). Rising c.chain) confs s.config h.rising i) (subst (λ m. is_head_of s.config.chain m ≡ true) me head) in_a below)
comes_prefix confs now nodes s book n a node x from to body h i me at up count in_a below p is k (by_forward {number = number} {index = index} num ind) =
    let f : Forwarded confs nodes from number n index x = subst (λ (t : Node). ToReplica (λ b. Forwarded confs nodes from number b index x) t) is k in
    let there : In f.config.chain a = h.later f.config s.config f.was i (omega (arith, f.number_is)) a n (h.members f.config f.was n node at up) in_a below in
    prefix_more p (f.have a there below) (omega (arith, length-entries_of book))

-- the book as the step leaves it is a prefix of each before
grown : (confs : List Config) (now : Config) (nodes : List ReplicaNode) (s : Replica) (book : List Booked) (n a moment event : ℕ) (node : ReplicaNode) (input : Input) (row : StoreRow) (o : Option Entry) → Configs confs now nodes → In confs s.config →
    s.me ≡ n → slice_get nodes n ≡ Some node → lives node ≡ true → s.applied ≡ length book → In s.config.chain a → a < n → IsPrefix (entries_of book) (book_of nodes a) →
    Known confs nodes n input → RowOf s moment input row → ((x : Entry) → o ≡ Some x → Has row x) → IsPrefix (entries_of (book_after moment event book o)) (book_of nodes a)
grown confs now nodes s book n a moment event node input row None h i me at up count in_a below p k r applies = rw (append-nil book) p
grown confs now nodes s book n a moment event node (Input.Msg m) row (Some x) h i me at up count in_a below p k (of_message t) applies =
    rw (map-append (λ (b : Booked). b.entry) book (record { entry = x; moment = moment; event = event } ∷ []))
    (comes_prefix confs now nodes s book n a node x m.from m.to m.body h i me at up count in_a below p k.0 k.1 (taken_comes x t (applies x refl)))
grown confs now nodes s book n a moment event node input row (Some x) h i me at up count in_a below p k of_alarm applies = absurd (applies x refl)
grown confs now nodes s book n a moment event node input row (Some x) h i me at up count in_a below p k of_packet applies = absurd (applies x refl)

-- ---- the known commit after a step

-- what a Have told
told_have : (confs : List Config) (nodes : List ReplicaNode) (n moment index : ℕ) (s : Replica) (input : Input) (row : StoreRow) → row ≡ Commits index → RowOf s moment input row → Known confs nodes n input → index ≤ length (committed_of nodes)
told_have confs nodes n moment index s (Input.Msg m) row e (of_message t) k =
    subst (λ (b : Body). FrameBooks confs nodes m.from m.to b) (taken_commits (subst (λ (r : StoreRow). Taken s moment m.from m.body r) e t)) k.1
told_have confs nodes n moment index s input row e of_alarm k = cc
told_have confs nodes n moment index s input row e of_packet k = cc

known_now : (confs : List Config) (nodes news : List ReplicaNode) (n moment : ℕ) (s r : Replica) (book : List Booked) (input : Input) (row : StoreRow) → Later nodes news → s.known ≤ length (committed_of nodes) → Known confs nodes n input →
    RowOf s moment input row → Stands r book → (is_tail r ≡ true → committed_of news ≡ entries_of book) → KnownFrom s row r → r.known ≤ length (committed_of news)
known_now confs nodes news n moment s r book input row l old k t st tail (at_tail is) =
    omega (arith, st.known_at_tail is, ap length (tail is), length-entries_of book)
known_now confs nodes news n moment s r book input row l old k t st tail (as_before e) = omega (arith, prefix_length l.committed)
known_now confs nodes news n moment s r book input row l old k t st tail (told {index = index} e) =
    omega (arith, prefix_length l.committed, told_have confs nodes n moment index s input row refl t k)

-- ---- what is sent

sent_books : (confs : List Config) (nodes : List ReplicaNode) (n : ℕ) (node : ReplicaNode) (from to : Node) (body : Body) → slice_get nodes n ≡ Some node → lives node ≡ true → NodeBooks confs nodes n node → Rising node.state.config.chain →
    SentBooks node.state (entries_of node.book) from to body → FrameBooks confs nodes from to body
sent_books confs nodes n node from (Node.Replica b) (Body.Forward config index entry load) at up h r k =
    let next : successor_of node.state.config.chain n ≡ Some b = subst (λ m. successor_of node.state.config.chain m ≡ Some b) h.me k.2 in
    record {
      config = node.state.config;
      was = h.config;
      number_is = sym k.1;
      have = λ a i below. have_case a i (before_successor node.state.config.chain n b a r (subst (λ m. successor_of node.state.config.chain m ≡ Some b) h.me k.2) i below) (nat_lt a n) refl;
      sender = n;
      from_is = k.0 ∙ ap Node.Replica h.me;
      sender_in = has_successor node.state.config.chain n b next;
      sender_before = above_successor node.state.config.chain n b r next;
    }
  where
    have_case : (a : ℕ) → In node.state.config.chain a → a ≤ n → (t : Bool) → nat_lt a n ≡ t → EntryAt (book_of nodes a) index entry
    have_case a i le true is = entry_later (h.behind up a i (ltb-true a n is)) k.3
    have_case a i le false is =
        let same : a ≡ n = omega (arith, ltb-false a n is) in
        let there : book_of nodes a ≡ entries_of node.book = rw (same, at) refl in
        rw there k.3
sent_books confs nodes n node from (Node.Switch b) (Body.Forward config index entry load) at up h r k = absurd k.2
sent_books confs nodes n node from Node.Master (Body.Forward config index entry load) at up h r k = absurd k.2
sent_books confs nodes n node from to (Body.Have index) at up h r k = omega (arith, h.known)
sent_books confs nodes n node from to (Body.Config config) at up h r k = absurd k
sent_books confs nodes n node from to (Body.Ask inc nonce key load) at up h r k = tt
sent_books confs nodes n node from to (Body.Grant inc nonce epoch key cells load) at up h r k = tt
sent_books confs nodes n node from to (Body.Busy inc nonce key mark) at up h r k = tt
sent_books confs nodes n node from to (Body.Put inc epoch number key delta load) at up h r k = tt
sent_books confs nodes n node from to (Body.Ack inc epoch upto key load) at up h r k = tt
sent_books confs nodes n node from to (Body.Deny inc epoch key) at up h r k = tt
sent_books confs nodes n node from to (Body.Echo of load) at up h r k = tt
sent_books confs nodes n node from to (Body.Snap inc epoch round key chunk chunks cells) at up h r k = tt

pub step_sent : (s : Replica) (book : List Booked) (now event : ℕ) (input : Input) → Stands s book → Sent (store_step s now input).0 (entries_of (book_after now event book (store_step s now input).1.applied)) (store_step s now input).1.sent
step_sent s book now event (Input.Msg m) h = taken_sent book event h.count (message_taken s now m.from m.body)
step_sent s book now event Input.Alarm h = alarm_sent s book now event h
step_sent s book now event (Input.Packet p) h = tt

-- ---- the step

-- the node after a step
abbrev pub node_after : ReplicaNode → ℕ → Input → ReplicaNode
node_after node event input =
    record {
      runs = node.runs;
      clock = node.clock;
      state = (store_step node.state node.clock input).0;
      book = book_after node.clock event node.book (store_step node.state node.clock input).1.applied;
    }

module _ (confs : List Config) (now : Config) (nodes : List ReplicaNode) (n : ℕ) (node : ReplicaNode) (event : ℕ) (input : Input)
    (at : slice_get nodes n ≡ Some node) (up : node.runs ≡ true) (h : Configs confs now nodes) (all : (m : ℕ) (other : ReplicaNode) → slice_get nodes m ≡ Some other → NodeBooks confs nodes m other) (k : Known confs nodes n input) where
  abbrev pub news : List ReplicaNode
  news = set nodes n (node_after node event input)

  was : NodeBooks confs nodes n node
  was = all n node at

  book_grows : IsPrefix (entries_of node.book) (entries_of (node_after node event input).book)
  book_grows = rw (map-append (λ (b : Booked). b.entry) node.book (added (λ (e : Entry). record { entry = e; moment = node.clock; event = event }) (store_step node.state node.clock input).1.applied)) (prefix_push (entries_of node.book) _)

  later : Later nodes news
  later = moved_later nodes n node (node_after node event input) at refl book_grows

  stands : Stands (node_after node event input).state (node_after node event input).book
  stands = step_stands node.state node.book node.clock event input was.stands

  abbrev row : StoreRow
  row = store_row node.state node.clock input

  of : RowOf node.state node.clock input row
  of = row_of node.state node.clock input

  now_config : ConfigNow confs node.state (node_after node event input).state.config
  now_config = subst (λ (c : Config). ConfigNow confs node.state c) (sym (row_config node.state node.clock row)) (config_now confs nodes n node.state node.clock input row of k)

  me_is : (node_after node event input).state.me ≡ n
  me_is = row_me node.state node.clock row ∙ was.me

  in_configs : In confs (node_after node event input).state.config
  in_configs = config_in confs node.state (node_after node event input).state.config was.config now_config

  there : slice_get news n ≡ Some (node_after node event input)
  there = get-set_same nodes n node (node_after node event input) at

  configs_now : Configs confs now news
  configs_now = configs_later confs now nodes news later h

  -- where it is the tail of its configuration, its book is the committed one
  pub tail_book : is_tail (node_after node event input).state ≡ true → committed_of news ≡ entries_of (node_after node event input).book
  tail_book tail =
      ap entries_of
      (last_book news [] n (node_after node event input)
      (record {
        at = there;
        up = up;
        last = λ m other is living.
            behind_tail (node_after node event input).state.config.chain n m
            (each_in (λ (c : Config). Rising c.chain) confs (node_after node event input).state.config h.rising in_configs)
            (subst (λ i. is_tail_of (node_after node event input).state.config.chain i ≡ true) me_is tail)
            (configs_now.members (node_after node event input).state.config in_configs m other is living);
      }))

  pub moved_books : NodeBooks confs news n (node_after node event input)
  moved_books =
      record {
        me = me_is;
        config = in_configs;
        stands = stands;
        behind = λ living a i below.
            let i_then : In node.state.config.chain a = before_then confs now nodes node.state (node_after node event input).state.config n node h was.config at up now_config a i below in
            prefix_trans
            (grown confs now nodes node.state node.book n a node.clock event node input row (store_step node.state node.clock input).1.applied h was.config was.me at up was.stands.count i_then below (was.behind up a i_then below) k of
            (λ x e. row_applies node.state node.clock row x e))
            (later.books a);
        known = known_now confs nodes news n node.clock node.state (node_after node event input).state (node_after node event input).book input row later was.known k of stands tail_book (row_known node.state node.clock row);
      }

  pub moved_nodes : (m : ℕ) (other : ReplicaNode) → slice_get news m ≡ Some other → NodeBooks confs news m other
  moved_nodes m other is = node_case (at_set nodes n m (node_after node event input) other is)
    where
      node_case : ((m ≡ n) × (other ≡ node_after node event input)) ⊎ ((m ≢ n) × (slice_get nodes m ≡ Some other)) → NodeBooks confs news m other
      node_case (inl same) = rw (same.0, same.1) moved_books
      node_case (inr is) = node_later confs nodes news m other later (all m other is.1)

  pub moved_frames : (frames : List Msg) → Each (λ (m : Msg). FrameBooks confs nodes m.from m.to m.body) frames → Each (λ (m : Msg). FrameBooks confs news m.from m.to m.body) (frames ++ (store_step node.state node.clock input).1.sent)
  moved_frames frames f =
      each_append (λ (m : Msg). FrameBooks confs news m.from m.to m.body) frames _ (frames_later confs nodes news frames later f)
      (each_weaker (λ (m : Msg). SentBooks (node_after node event input).state (entries_of (node_after node event input).book) m.from m.to m.body) (λ (m : Msg). FrameBooks confs news m.from m.to m.body) (store_step node.state node.clock input).1.sent
      (λ m s. sent_books confs news n (node_after node event input) m.from m.to m.body there up moved_books (each_in (λ (c : Config). Rising c.chain) confs (node_after node event input).state.config h.rising in_configs) s)
      (step_sent node.state node.book node.clock event input was.stands))

  pub moved_configs : Configs confs now news
  moved_configs = configs_now

  pub moved_committed : IsPrefix (committed_of nodes) (committed_of news)
  moved_committed = later.committed
