use Rattle.link_run.proofs.Pumped.{datagram_pumped}
use Rattle.link_run.proofs.laws.datagrams_are_pumped.Goals as goal

pub returns : goal.returns
returns c = datagram_pumped
