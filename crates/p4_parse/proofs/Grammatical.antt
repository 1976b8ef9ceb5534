-- What texts are parsed as, by the grammar.
use Rattle.std.proofs.Common.{◌≡◌, ℕ, List, length, Option, Some, None, Result, Ok, Err, refl, sym, ap, ◌∙◌, inl, inr}
use Rattle.std.specs.Prelude.{◌⊎◌}
use Rattle.rp_base.specs.declared.refused.Refused.{Refused}
use Rattle.rp_base.specs.declared.refused.Why.TheVariants as why
use Rattle.p4_lex.specs.declared.token.Token.{Token}
use Rattle.p4_lex.specs.Lexing.{tokens}
use Rattle.p4_ast.specs.declared.program.P4Program.{P4Program}
use Rattle.p4_grammar.specs.Reading.{programs_of}
use Rattle.p4_grammar.proofs.Programs.{program_sound, program_complete, program_fault}
use Rattle.p4_grammar.proofs.Places.{program_refused}
use Rattle.p4_part.specs.Counting.{deep}
use Rattle.p4_parse.specs.declared.end.ParseEnd.{ParseEnd}
use Rattle.p4_parse.specs.declared.end.ParseEnd.TheVariants as ends
use Rattle.p4_parse.specs.Parsing.{Answers, parsed, of_tokens, deep_or, fault_of, read_of}
use Rattle.p4_parse.specs.ByGrammar.{ByGrammar, IsBadText, IsDeep, IsWrong, Spelled}

-- tokens that are read as a tree
record Read (w : List Token) (t : P4Program) : Type 0 where
  pub shallow : deep w ≡ None
  pub tree : programs_of w ≡ Ok t

read_tree : (size : ℕ) (w : List Token) (r : Result P4Program (List Token)) (t : P4Program) → read_of size w r ≡ Ok t → r ≡ Ok t
read_tree size w (Ok x) t e = let same : x ≡ t = cc in ap Ok same
read_tree size w (Err r) t e = cc

shallow_tree : (size : ℕ) (w : List Token) (o : Option ℕ) (t : P4Program) → deep w ≡ o → deep_or o (read_of size w (programs_of w)) ≡ Ok t → Read w t
shallow_tree size w (Some at) t d e = cc
shallow_tree size w None t d e = record { shallow = d; tree = read_tree size w (programs_of w) t e }

spelled : (size : ℕ) (text : List ℕ) (r : Result (List Token) Refused) (t : P4Program) → tokens text ≡ r → of_tokens size r ≡ Ok t → (w : List Token) × (tokens text ≡ Ok w) × Read w t
spelled size text (Ok w) t has e = (w, has, shallow_tree size w (deep w) t refl e)
spelled size text (Err fault) t has e = cc

pub parsed_spelled : (text : List ℕ) (t : P4Program) → parsed text ≡ Ok t → Spelled text t
parsed_spelled text t e =
    let h : (w : List Token) × (tokens text ≡ Ok w) × Read w t = spelled (length text) text (tokens text) t refl e in
    record { read = h.0; tokens_are = h.1; shallow = h.2.shallow; derived = program_sound h.0 t h.2.tree }

-- tokens that keep to the counts and are read as a tree are those of a text that is parsed as it
pub parsed_by : (text : List ℕ) (w : List Token) (t : P4Program) → tokens text ≡ Ok w → deep w ≡ None → programs_of w ≡ Ok t → parsed text ≡ Ok t
parsed_by text w t has shallow tree =
    ap (of_tokens (length text)) has ∙ (ap (λ o. deep_or o (read_of (length text) w (programs_of w))) shallow ∙ ap (read_of (length text) w) tree)

pub spelled_parsed : (text : List ℕ) (t : P4Program) → Spelled text t → parsed text ≡ Ok t
spelled_parsed text t h = parsed_by text h.read t h.tokens_are h.shallow (program_complete h.read t h.derived)

wrong_tree : (size : ℕ) (w : List Token) (r : Result P4Program (List Token)) (fault : Refused) → deep w ≡ None → programs_of w ≡ r → read_of size w r ≡ Err fault → IsWrong size w fault
wrong_tree size w (Ok x) fault d p e = cc
wrong_tree size w (Err rest) fault d p e =
    let same : fault_of size w rest ≡ fault = cc in
    (rest, d, program_fault w rest p, sym same)

bad_tokens : (size : ℕ) (w : List Token) (o : Option ℕ) (fault : Refused) → deep w ≡ o → deep_or o (read_of size w (programs_of w)) ≡ Err fault → IsDeep w fault ⊎ IsWrong size w fault
bad_tokens size w (Some at) fault d e =
    let same : record { at = at; why = why.Deep } ≡ fault = cc in
    inl (at, d, sym same)
bad_tokens size w None fault d e = inr (wrong_tree size w (programs_of w) fault d refl e)

bad_text : (text : List ℕ) (r : Result (List Token) Refused) (fault : Refused) → tokens text ≡ r → of_tokens (length text) r ≡ Err fault → IsBadText text fault
bad_text text (Ok w) fault has e = inr (w, has, bad_tokens (length text) w (deep w) fault refl e)
bad_text text (Err x) fault has e =
    let same : x ≡ fault = cc in
    inl (has ∙ ap Err same)

pub parsed_bad : (text : List ℕ) (fault : Refused) → parsed text ≡ Err fault → IsBadText text fault
parsed_bad text fault e = bad_text text (tokens text) fault refl e

pub bad_parsed : (text : List ℕ) (fault : Refused) → IsBadText text fault → parsed text ≡ Err fault
bad_parsed text fault (inl h) = ap (of_tokens (length text)) h
bad_parsed text fault (inr (w, has, inl (at, d, same))) = ap (of_tokens (length text)) has ∙ (ap (λ o. deep_or o (read_of (length text) w (programs_of w))) d ∙ ap Err (sym same))
bad_parsed text fault (inr (w, has, inr (rest, d, f, same))) =
    ap (of_tokens (length text)) has ∙ (ap (λ o. deep_or o (read_of (length text) w (programs_of w))) d ∙ (ap (read_of (length text) w) (program_refused w rest f) ∙ ap Err (sym same)))

pub by_grammar : (text : List ℕ) (result : Result P4Program ParseEnd) → Answers result (parsed text) → ByGrammar text result
by_grammar text (Ok t) e = parsed_spelled text t e
by_grammar text (Err (ends.Refused fault)) e = parsed_bad text fault e
by_grammar text (Err ends.NoMemory) e = tt
