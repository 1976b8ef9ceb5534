use Rattle.std.proofs.Common.{◌≡◌, ◌-◌, ◌+◌, ◌≤◌, length}
use Rattle.rp_frame.specs.Reading.{members, byte}
use Rattle.rp_frame.proofs.Loops.{with_front}
use Rattle.rp_frame.proofs.lists.replicas_at.Given as goal

abbrev pub invariant-loop : goal.invariant-loop
invariant-loop l = record {
  read : with_front l.chain (members (λ low. byte low 4) (λ b. b + 1) l.low (l.n - l.counter) l.place l.bytes) ≡ members (λ low. byte low 4) (λ b. b + 1) 0 l.n l.at l.bytes;
  within : l.place ≤ length l.bytes;
  size : length l.chain ≡ l.counter;
}
