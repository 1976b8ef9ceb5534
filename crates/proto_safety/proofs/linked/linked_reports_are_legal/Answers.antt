use Rattle.proto_safety.proofs.Link.LinkedTold as told
use Rattle.proto_safety.proofs.linked.linked_reports_are_legal.Goals as goal

pub returns : goal.returns
returns c = λ kind spelled app. told.linked_reports_are_legal spelled app kind
