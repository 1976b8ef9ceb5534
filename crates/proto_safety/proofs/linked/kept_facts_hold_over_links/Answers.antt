use Rattle.proto_safety.proofs.Link.LinkedKept.{linked_kept}
use Rattle.proto_safety.proofs.linked.kept_facts_hold_over_links.Goals as goal

pub returns : goal.returns
returns g c = λ app k spelled setup events received h. linked_kept spelled app g.I.Fact.holds k setup events received h
