use Rattle.std.proofs.Common.{◌≡◌, ◌-◌, ◌+◌, ◌≤◌, ◌<◌, length, All}
use Rattle.rp_app.specs.Application.{cells_named}
use Rattle.rp_frame.specs.Reading.{members, member}
use Rattle.rp_frame.proofs.Loops.{with_front}
use Rattle.rp_frame.proofs.lists.written_at.Given as goal

abbrev pub invariant-loop : goal.invariant-loop
invariant-loop l = record {
  read : with_front l.delta (members member (λ d. d.0 + 1) l.low (l.n - l.counter) l.place l.bytes) ≡ members member (λ d. d.0 + 1) 0 l.n l.at l.bytes;
  within : l.place ≤ length l.bytes;
  below : All (λ c. c < l.low) (cells_named l.delta);
}
