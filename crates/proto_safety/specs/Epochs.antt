-- Epochs of a flow in a book, and what is committed of one.
use Rattle.std.specs.Prelude.{ℕ, ◌≡◌, ◌≤◌, List, [], Some, ◌++◌, ◌∷◌}
use Rattle.proto_data.specs.declared.message.Entry.{Entry}
use Rattle.key_table.specs.Table.{Key}
use Rattle.proto_model.specs.Committed.{closing}
use Rattle.proto_model.specs.World.{World}
use Rattle.proto_safety.specs.Books.{IsGranted}
use Rattle.proto_safety.specs.LeaseLaws.{HasEpoch}

-- two Grants of one epoch in a book are one: the same owner and nonce, at one place
pub record OneGrant (s i m t j p : ℕ) (front other : List Entry) : Type 0 where
  pub switch : s ≡ t
  pub inc : i ≡ j
  pub nonce : m ≡ p
  pub place : front ≡ other

pub record EpochsOf (entries : List Entry) : Type 0 where
  -- an entry is its epoch's Grant, or stands behind it
  pub granted : (key : Key) (epoch : ℕ) (e : Entry) (front behind : List Entry) → entries ≡ front ++ e ∷ behind → HasEpoch key epoch e → IsGranted (front ++ e ∷ []) key epoch
  -- an epoch has one Grant
  pub one :
      (key : Key) (epoch s i m t j p : ℕ) (front behind other rest : List Entry) → entries ≡ front ++ Entry.Grant key epoch s i m ∷ behind →
      entries ≡ other ++ Entry.Grant key epoch t j p ∷ rest → OneGrant s i m t j p front other

-- this number is committed in the epoch
abbrev pub WithinClosing : World → Key → ℕ → ℕ → Type 0
WithinClosing w key epoch number = (c : ℕ) × ((closing w key epoch ≡ Some c) × (number ≤ c))
