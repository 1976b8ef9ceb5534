-- How replicas may go on, and what then stays true of books.
use Rattle.std.proofs.Common.{◌≡◌, ◌≢◌, ◌⊎◌, ℕ, List, [], Some, arith, sym, ap, ◌∙◌, slice_get, set, inl, inr, true}
use Rattle.proto_data.specs.declared.message.Msg.{Msg}
use Rattle.proto_data.specs.declared.message.Body.{Body}
use Rattle.rp_base.specs.declared.node.Node.{Node}
use Rattle.proto_data.specs.declared.message.Entry.{Entry}
use Rattle.proto_data.specs.declared.message.Config.{Config}
use Rattle.proto_model.specs.Feeds.{Each}
use Rattle.proto_model.specs.Stands.{entries_of}
use Rattle.proto_model.specs.World.{ReplicaNode}
use Rattle.proto_safety.specs.Books.{IsPrefix, lives, book_of, committed_of, Forwarded, ToReplica, FrameBooks, Configs, NodeBooks}
use Rattle.proto_safety.proofs.Basics.Places.{entry_later}
use Rattle.proto_safety.proofs.Store.LastBook.{set_books, set_committed}
use Rattle.proto_safety.proofs.Basics.Eachs.{each_weaker}
use Rattle.proto_safety.proofs.Basics.Lists.{at_set}
use Rattle.proto_safety.proofs.Basics.Prefixes.{prefix_length, prefix_trans}

-- books only grow, the committed one too, and no replica begins to live
pub record Later (old new : List ReplicaNode) : Type 0 where
  pub books : (a : ℕ) → IsPrefix (book_of old a) (book_of new a)
  pub committed : IsPrefix (committed_of old) (committed_of new)
  pub living : (a : ℕ) (node : ReplicaNode) → slice_get new a ≡ Some node → lives node ≡ true → (before : ReplicaNode) × ((slice_get old a ≡ Some before) × (lives before ≡ true))

pub to_weaker : (P Q : ℕ → Type 0) (to : Node) → ((n : ℕ) → P n → Q n) → ToReplica P to → ToReplica Q to
to_weaker P Q (Node.Replica n) k h = k n h
to_weaker P Q (Node.Switch n) k h = absurd h
to_weaker P Q Node.Master k h = absurd h

forwarded_later : (confs : List Config) (old new : List ReplicaNode) (from : Node) (number b place : ℕ) (e : Entry) → Later old new → Forwarded confs old from number b place e → Forwarded confs new from number b place e
forwarded_later confs old new from number b place e l f =
    record {
      config = f.config;
      was = f.was;
      number_is = f.number_is;
      have = λ a i below. entry_later (l.books a) (f.have a i below);
      sender = f.sender;
      from_is = f.from_is;
      sender_in = f.sender_in;
      sender_before = f.sender_before;
    }

body_later : (confs : List Config) (old new : List ReplicaNode) (from to : Node) (body : Body) → Later old new → FrameBooks confs old from to body → FrameBooks confs new from to body
body_later confs old new from to (Body.Forward config index entry load) l h =
    to_weaker (λ b. Forwarded confs old from config b index entry) (λ b. Forwarded confs new from config b index entry) to (λ b f. forwarded_later confs old new from config b index entry l f) h
body_later confs old new from to (Body.Have index) l h = omega (arith, prefix_length l.committed)
body_later confs old new from to (Body.Config config) l h = h
body_later confs old new from to (Body.Ask inc nonce key load) l h = tt
body_later confs old new from to (Body.Grant inc nonce epoch key cells load) l h = tt
body_later confs old new from to (Body.Busy inc nonce key mark) l h = tt
body_later confs old new from to (Body.Put inc epoch number key delta load) l h = tt
body_later confs old new from to (Body.Ack inc epoch upto key load) l h = tt
body_later confs old new from to (Body.Deny inc epoch key) l h = tt
body_later confs old new from to (Body.Echo of load) l h = tt
body_later confs old new from to (Body.Snap inc epoch round key chunk chunks cells) l h = tt

pub frames_later : (confs : List Config) (old new : List ReplicaNode) (ms : List Msg) → Later old new → Each (λ (m : Msg). FrameBooks confs old m.from m.to m.body) ms → Each (λ (m : Msg). FrameBooks confs new m.from m.to m.body) ms
frames_later confs old new ms l h =
    each_weaker (λ (m : Msg). FrameBooks confs old m.from m.to m.body) (λ (m : Msg). FrameBooks confs new m.from m.to m.body) ms (λ m k. body_later confs old new m.from m.to m.body l k) h

pub node_later : (confs : List Config) (old new : List ReplicaNode) (n : ℕ) (node : ReplicaNode) → Later old new → NodeBooks confs old n node → NodeBooks confs new n node
node_later confs old new n node l h =
    record {
      me = h.me;
      config = h.config;
      stands = h.stands;
      behind = λ up a i below. prefix_trans (h.behind up a i below) (l.books a);
      known = omega (arith, h.known, prefix_length l.committed);
    }

pub configs_later : (confs : List Config) (now : Config) (old new : List ReplicaNode) → Later old new → Configs confs now old → Configs confs now new
configs_later confs now old new l h =
    record {
      present = h.present;
      numbers = h.numbers;
      rising = h.rising;
      members = λ c was a node at up. let b = l.living a node at up in h.members c was a b.0 b.1.0 b.1.1;
      later = h.later;
    }

-- a replica's book goes on
pub moved_later : (nodes : List ReplicaNode) (n : ℕ) (node new : ReplicaNode) → slice_get nodes n ≡ Some node → new.runs ≡ node.runs → IsPrefix (entries_of node.book) (entries_of new.book) → Later nodes (set nodes n new)
moved_later nodes n node new at runs p =
    record {
      books = λ a. set_books nodes n a node new at p;
      committed = set_committed nodes n node new [] at runs p;
      living = λ a other is up. living_case a other up (at_set nodes n a new other is);
    }
  where
    living_case : (a : ℕ) (other : ReplicaNode) → lives other ≡ true → ((a ≡ n) × (other ≡ new)) ⊎ ((a ≢ n) × (slice_get nodes a ≡ Some other)) →
        (before : ReplicaNode) × ((slice_get nodes a ≡ Some before) × (lives before ≡ true))
    living_case a other up (inl same) = (node, (rw same.0 at, sym runs ∙ sym (ap (λ (x : ReplicaNode). x.runs) same.1) ∙ up))
    living_case a other up (inr is) = (other, (is.1, up))
