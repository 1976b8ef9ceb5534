-- A store replica, its place in the chain, and what one step of it did.
use Rattle.std.specs.Prelude.{ℕ, Bool, false, ◌&&◌, ◌==◌, List, [], ◌∷◌, Option, Some, None, is_some, if◌then◌else◌, replicate, set, map}
use Rattle.std.specs.List.{list_any, list_all, concat}
use Rattle.proto_data.specs.declared.message.Msg.{Msg}
use Rattle.proto_data.specs.declared.message.Body.{Body}
use Rattle.rp_base.specs.declared.node.Node.{Node}
use Rattle.proto_data.specs.declared.message.Entry.{Entry}
use Rattle.proto_data.specs.declared.message.Record.{Record}
use Rattle.proto_data.specs.declared.message.Config.{Config}
use Rattle.proto_data.specs.declared.terms.Terms.{Terms}
use Rattle.rp_base.specs.declared.event.Lost.{Lost}
use Rattle.key_table.specs.Table.{Key, Table, get}
use Rattle.proto_model.specs.Records.{Records}

-- the chunks that came of one round, each at its place
pub record Gathered : Type 0 where
  pub epoch : ℕ
  pub round : ℕ
  pub parts : List (Option (List ℕ))

-- pending are the entries past the known commit, in order
pub record Replica : Type 0 where
  pub me : ℕ
  pub cell_count : ℕ
  pub terms : Terms
  pub config : Config
  pub records : Records
  pub applied : ℕ
  pub known : ℕ
  pub pending : List Entry
  pub gathered : Table Gathered

pub record StoreDid : Type 0 where
  pub sent : List Msg
  pub applied : Option Entry
  pub lost : Option Lost

abbrev pub StoreStep : Type 0
StoreStep = Replica × StoreDid

abbrev pub store_sent : List Msg → StoreDid
store_sent ms = record { sent = ms; applied = None; lost = None }

abbrev pub store_lost : Lost → StoreDid
store_lost cause = record { sent = []; applied = None; lost = Some cause }

abbrev pub open_replica : ℕ → ℕ → Terms → Config → Replica
open_replica me cells terms config =
    record { me = me; cell_count = cells; terms = terms; config = config; records = []; applied = 0; known = 0; pending = []; gathered = [] }

abbrev pub record_at : Replica → Key → Option Record
record_at r key = get r.records key

-- ---- the chain

abbrev pub is_head_of : List ℕ → ℕ → Bool
is_head_of [] n = false
is_head_of (x ∷ xs) n = x == n

abbrev pub is_tail_of : List ℕ → ℕ → Bool
is_tail_of [] n = false
is_tail_of (x ∷ []) n = x == n
is_tail_of (x ∷ y ∷ ys) n = is_tail_of (y ∷ ys) n

abbrev pub last_of : List ℕ → Option ℕ
last_of [] = None
last_of (x ∷ []) = Some x
last_of (x ∷ y ∷ ys) = last_of (y ∷ ys)

abbrev pub successor_of : List ℕ → ℕ → Option ℕ
successor_of [] n = None
successor_of (x ∷ []) n = None
successor_of (x ∷ y ∷ ys) n = if x == n then Some y else successor_of (y ∷ ys) n

abbrev pub predecessor_of : List ℕ → ℕ → Option ℕ
predecessor_of [] n = None
predecessor_of (x ∷ []) n = None
predecessor_of (x ∷ y ∷ ys) n = if y == n then Some x else predecessor_of (y ∷ ys) n

abbrev pub is_member : Replica → Bool
is_member r = list_any (λ n. n == r.me) r.config.chain

abbrev pub is_head : Replica → Bool
is_head r = is_head_of r.config.chain r.me

abbrev pub is_tail : Replica → Bool
is_tail r = is_tail_of r.config.chain r.me

-- a message from this replica
abbrev pub to_node : Replica → Node → Body → Msg
to_node r to body = record { from = Node.Replica r.me; to = to; body = body }

abbrev pub to_replica : Replica → Option ℕ → Body → List Msg
to_replica r None body = []
to_replica r (Some n) body = to_node r (Node.Replica n) body ∷ []

abbrev pub to_successor : Replica → Body → List Msg
to_successor r body = to_replica r (successor_of r.config.chain r.me) body

abbrev pub to_predecessor : Replica → Body → List Msg
to_predecessor r body = to_replica r (predecessor_of r.config.chain r.me) body

abbrev pub to_tail : Replica → Body → List Msg
to_tail r body = to_replica r (last_of r.config.chain) body

-- ---- gathering

-- nothing of this round came yet
abbrev pub no_parts : ℕ → ℕ → ℕ → Gathered
no_parts epoch round chunks = record { epoch = epoch; round = round; parts = replicate chunks None }

-- the gathering of this round; what came of another is gone
abbrev pub gathering_of : ℕ → ℕ → ℕ → Option Gathered → Gathered
gathering_of epoch round chunks None = no_parts epoch round chunks
gathering_of epoch round chunks (Some g) =
    if (g.epoch == epoch) && (g.round == round) then g else no_parts epoch round chunks

abbrev pub with_part : Gathered → ℕ → List ℕ → Gathered
with_part g chunk cells = record g { parts = set g.parts chunk (Some cells) }

abbrev pub part_cells : Option (List ℕ) → List ℕ
part_cells None = []
part_cells (Some cells) = cells

-- the cells of the round, once each chunk is there
abbrev pub whole_cells : Gathered → Option (List ℕ)
whole_cells g = if list_all (λ (p : Option (List ℕ)). is_some p) g.parts then Some (concat (map part_cells g.parts)) else None
