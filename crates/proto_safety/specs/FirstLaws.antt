-- What the list of first sendings has: each request of the frames once, with the switch's clock when it was first sent.
use Rattle.std.specs.Prelude.{ℕ, ◌≡◌, List, Some, slice_get}
use Rattle.rp_base.specs.declared.node.Node.{Node}
use Rattle.proto_data.specs.declared.message.Msg.{Msg}
use Rattle.proto_model.specs.Feeds.{Pairwise}
use Rattle.key_table.specs.Table.{Key}
use Rattle.proto_model.specs.World.{World, SwitchNode}
use Rattle.proto_safety.specs.Books.{In}
use Rattle.proto_safety.specs.Firsts.{request_of}
use Rattle.proto_safety.specs.LeaseLaws.{Request, First}

-- the first sending of this request of switch s is there
pub record HasFirst (firsts : List First) (s : ℕ) (key : Key) (request : Request) : Type 0 where
  pub first : First
  pub there : In firsts first
  pub switch_is : first.switch ≡ s
  pub key_is : first.key ≡ key
  pub request_is : first.request ≡ request

-- a message of the switch made this request
pub record RequestSent (frames : List Msg) (f : First) : Type 0 where
  pub msg : Msg
  pub there : In frames msg
  pub from_is : msg.from ≡ Node.Switch f.switch
  pub request_is : request_of msg.body ≡ Some (f.key, f.request)

-- one request of one switch
abbrev pub SameRequest : First → First → Type 0
SameRequest a b = (a.switch ≡ b.switch) × (a.key ≡ b.key) × (a.request ≡ b.request)

pub record AreFirsts (firsts : List First) (frames : List Msg) : Type 0 where
  -- each request that a switch sent is there
  pub all : (m : Msg) (s : ℕ) (key : Key) (request : Request) → In frames m → m.from ≡ Node.Switch s → request_of m.body ≡ Some (key, request) → HasFirst firsts s key request
  -- each was sent
  pub sent : (f : First) → In firsts f → RequestSent frames f
  -- and is there once
  pub once : Pairwise (λ (a b : First). SameRequest a b → ⊥) firsts

-- its moment is what the switch's clock reads
pub record IsNow (w : World) (f : First) : Type 0 where
  pub node : SwitchNode
  pub at : slice_get w.switches f.switch ≡ Some node
  pub moment_is : f.moment ≡ node.clock
