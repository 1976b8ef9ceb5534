use Rattle.std.proofs.Common.{◌≡◌, ◌-◌, ◌≤◌, length}
use Rattle.rp_frame.specs.Reading.{members, value}
use Rattle.rp_frame.proofs.Loops.{with_front}
use Rattle.rp_frame.proofs.lists.few_values_at.Given as goal

abbrev pub invariant-loop : goal.invariant-loop
invariant-loop l = record {
  read : with_front l.chunk (members (λ low. value) (λ v. 0) 0 (l.n - l.counter) l.place l.bytes) ≡ members (λ low. value) (λ v. 0) 0 l.n l.at l.bytes;
  within : l.place ≤ length l.bytes;
  size : length l.chunk ≡ l.counter;
}
