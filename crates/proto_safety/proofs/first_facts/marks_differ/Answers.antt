use Rattle.proto_safety.proofs.Packets.FedMarks.{marks_once}
use Rattle.proto_safety.proofs.first_facts.marks_differ.Goals as goal

pub returns : goal.returns
returns c = marks_once
