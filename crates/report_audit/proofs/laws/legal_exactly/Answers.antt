use Rattle.proto_safety.specs.LegalLines.{feeds_in, releases_in, flows_in}
use Rattle.report_audit.proofs.Verdicts.{found_legal, legal_found}
use Rattle.report_audit.proofs.laws.legal_exactly.Goals as goal

pub returns : goal.returns
returns c =
    record {
      lists = legal_found;
      found = found_legal;
      lines = λ app events lines found. legal_found app (feeds_in events lines) (releases_in lines) (flows_in lines) found;
    }
