-- What is seen of a lease, and how one state becomes another.
use Rattle.std.specs.Prelude.{ℕ, ◌+◌, Result, Ok, Err, if◌then◌else◌, nat_lt}
use Rattle.lease_state.specs.declared.asking.Late.{Late}
use Rattle.lease_state.specs.declared.idle.Idle.{Idle}

-- a lease that is asked for: the nonce, and the moment of the first Ask
pub record Asked : Type 0 where
  pub nonce : ℕ
  pub first : ℕ

-- a lease that was granted: the nonce of its Ask, its epoch, and the moment at which it ends
pub record Term : Type 0 where
  pub nonce : ℕ
  pub epoch : ℕ
  pub expiry : ℕ

-- a lease at a moment before its end
pub record Lasting : Type 0 where
  pub lease : Term
  pub now : ℕ

-- a Grant at `now` gives one term from the first Ask, where that isn't over
abbrev pub granted : ℕ → ℕ → ℕ → Asked → Result Term (Late × Idle)
granted now t_switch epoch a =
    if nat_lt now (a.first + t_switch)
    then Ok (record { nonce = a.nonce; epoch = epoch; expiry = a.first + t_switch })
    else Err (record { first = a.first; now = now }, record {})

-- a lease is over once its end isn't after `now`; else it stays as it is
abbrev pub ended : ℕ → Term → Result Term Term
ended now t = if nat_lt now t.expiry then Err t else Ok t

-- a lease that was over lasts one term from `sent_at`, where that isn't over too; else it stays as it is
abbrev pub renewed : ℕ → ℕ → ℕ → Term → Result Term Term
renewed now sent_at t_switch t =
    if nat_lt now (sent_at + t_switch) then Ok (record t { expiry = sent_at + t_switch }) else Err t
