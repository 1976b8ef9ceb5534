use Rattle.proto_safety.proofs.Link.LinkedRefusals as refusals
use Rattle.proto_safety.proofs.linked.linked_refusals_are_told.Goals as goal

pub returns : goal.returns
returns c = record { told = refusals.linked_refusals_told; only = refusals.linked_refusals_only }
