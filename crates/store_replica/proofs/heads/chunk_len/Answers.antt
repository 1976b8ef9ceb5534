use Rattle.std.proofs.Common.{arith}
use Rattle.store_replica.proofs.Gathered.{length_chunk}
use Rattle.store_replica.proofs.heads.chunk_len.Goals as goal

pub returns : goal.returns
returns c = omega (arith, c.min.ensures, c.saturating_sub.ensures, length_chunk c.args.chunk c.args.cells)
