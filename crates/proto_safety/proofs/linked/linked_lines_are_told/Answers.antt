use Rattle.proto_safety.proofs.Link.LinkedTold as told
use Rattle.proto_safety.proofs.linked.linked_lines_are_told.Goals as goal

pub returns : goal.returns
returns c =
    record {
      feeds = λ kind spelled app. told.linked_feeds spelled app kind;
      releases = λ kind spelled app. told.linked_releases spelled app kind;
      flows = λ kind spelled app. told.linked_flows spelled app kind;
    }
