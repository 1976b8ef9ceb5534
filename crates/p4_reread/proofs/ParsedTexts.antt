-- Canonical text parsed again.
use Rattle.std.proofs.Common.{◌≡◌, ℕ, ◌≤◌, List, length, None, Result, Ok, subst}
use Rattle.std.specs.Prelude.{IfOk}
use Rattle.rp_base.specs.declared.refused.Refused.{Refused}
use Rattle.p4_lex.specs.declared.token.Token.{Token}
use Rattle.p4_lex.specs.Lexing.{longest}
use Rattle.p4_ast.specs.declared.program.P4Program.{P4Program}
use Rattle.p4_print.specs.Programs.{canon}
use Rattle.p4_grammar.proofs.Programs.{program_complete}
use Rattle.p4_part.specs.Counting.{deep}
use Rattle.p4_parse.specs.Parsing.{parsed}
use Rattle.p4_parse.specs.ByGrammar.{Spelled}
use Rattle.p4_parse.proofs.Grammatical.{parsed_by, parsed_spelled}
use Rattle.p4_reread.specs.Again.{ReadAgain}
use Rattle.p4_reread.specs.Parsed.{IsShallow, ParsedAgain}
use Rattle.p4_reread.proofs.TextAgain.{text_is_read}

pub parsed_again : (text : List ℕ) (t : P4Program) → parsed text ≡ Ok t → length (canon t) ≤ longest → IsShallow (canon t) → ParsedAgain t
parsed_again text t e short low =
    let h : Spelled text t = parsed_spelled text t e in
    let a : ReadAgain t = text_is_read text h.read t h.tokens_are (program_complete h.read t h.derived) short in
    let P : Result (List Token) Refused → Type 0 = λ r. IfOk r (λ read. deep read ≡ None) in
    (a.1, parsed_by (canon t) a.0 a.1 a.2 (subst P a.2 low) a.3, a.4)
