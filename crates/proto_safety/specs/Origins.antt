-- Where the entries of books come from: requests that a switch sent.
use Rattle.std.specs.Prelude.{ℕ, ◌≡◌, ◌≤◌, List, Option, Some, length, slice_get}
use Rattle.std.specs.List.{concat}
use Rattle.proto_data.specs.declared.message.Msg.{Msg}
use Rattle.proto_data.specs.declared.message.Body.{Body}
use Rattle.proto_data.specs.declared.message.Entry.{Entry}
use Rattle.proto_data.specs.declared.message.Carried.{Carried}
use Rattle.rp_base.specs.declared.node.Node.{Node}
use Rattle.rp_app.specs.Application.{Delta}
use Rattle.key_table.specs.Table.{Key}
use Rattle.proto_safety.specs.Books.{In, book_of}
use Rattle.proto_model.specs.World.{World}

-- this switch sent an Ask of these numbers
pub record AskSent (frames : List Msg) (switch inc nonce : ℕ) (key : Key) : Type 0 where
  pub msg : Msg
  pub there : In frames msg
  pub from_is : msg.from ≡ Node.Switch switch
  pub load : Option Carried
  pub body_is : msg.body ≡ Body.Ask inc nonce key load

-- a Put of these numbers and this delta was sent
pub record PutSent (frames : List Msg) (key : Key) (epoch number : ℕ) (delta : Delta) : Type 0 where
  pub msg : Msg
  pub there : In frames msg
  pub inc : ℕ
  pub load : Option Carried
  pub body_is : msg.body ≡ Body.Put inc epoch number key delta load

-- this chunk of a round was sent in a Snap
pub record ChunkSent (frames : List Msg) (key : Key) (epoch round chunk chunks : ℕ) (cells : List ℕ) : Type 0 where
  pub msg : Msg
  pub there : In frames msg
  pub inc : ℕ
  pub body_is : msg.body ≡ Body.Snap inc epoch round key chunk chunks cells

-- each chunk of a round was sent, and these are the cells of all of them, in order
pub record SnapSent (frames : List Msg) (key : Key) (epoch round : ℕ) (cells : List ℕ) : Type 0 where
  pub parts : List (List ℕ)
  pub some : 1 ≤ length parts
  pub cells_are : concat parts ≡ cells
  pub sent : (i : ℕ) (part : List ℕ) → slice_get parts i ≡ Some part → ChunkSent frames key epoch round i (length parts) part

-- the request that became this entry was sent
abbrev pub Origin : List Msg → Entry → Type 0
Origin frames (Entry.Grant key epoch switch inc nonce) = AskSent frames switch inc nonce key
Origin frames (Entry.Put key epoch number delta) = PutSent frames key epoch number delta
Origin frames (Entry.Snap key epoch round cells) = SnapSent frames key epoch round cells

-- what is said of the entry of a Forward
abbrev pub OnForward : (Entry → Type 0) → Body → Type 0
OnForward P (Body.Forward config index entry load) = P entry
OnForward P _ = Unit {0}

-- each entry of a book or of a Forward came of a request that was sent
pub record CameOfRequests (w : World) : Type 0 where
  pub books : (n : ℕ) (e : Entry) → In (book_of w.replicas n) e → Origin w.frames e
  pub forwards : (m : Msg) → In w.frames m → OnForward (Origin w.frames) m.body
