-- Where the tokens of a program are refused behind its controls, or behind its end.
use Rattle.std.proofs.Common.{◌≡◌, ◌≤◌, ◌+◌, ℕ, suc, List, [], ◌∷◌, length, Ok, Err, Bor, refl, subst, arith}
use Rattle.p4_lex.specs.declared.token.Token.{Token}
use Rattle.p4_ast.specs.declared.parser.P4Parser.{P4Parser}
use Rattle.p4_ast.specs.declared.control.P4Ingress.{P4Ingress}
use Rattle.p4_ast.specs.declared.program.P4Program.{P4Program}
use Rattle.p4_ast.specs.declared.program.P4Deparser.{P4Deparser}
use Rattle.p4_ast.specs.declared.program.P4Package.{P4Package}
use Rattle.p4_part.specs.Made.{Gives}
use Rattle.p4_part.specs.declared.end.ReadEnd.{ReadEnd}
use Rattle.p4_part.specs.declared.end.ReadEnd.TheVariants as ends
use Rattle.p4_grammar.specs.Reading.{Declared, declarations_at, parser_at, ingress_at, deparser_at, package_at, program_at, programs_of}

-- what was read up to the controls, in the environment of the typedefs before
pub record Fronted (n : ℕ) (w rest : List Token) : Type 0 where
  pub declared : Declared
  pub parser : P4Parser
  pub ingress : P4Ingress
  pub behind : List Token
  pub later : List Token
  pub declarations_are : declarations_at n w ≡ Ok (declared, behind)
  pub parser_is : parser_at n declared.0 behind ≡ Ok (parser, later)
  pub ingress_is : ingress_at n declared.0 later ≡ Ok (ingress, rest)

pub deparser_fails : (n : ℕ) (w rest : List Token) (e : ReadEnd) → Fronted n w rest → Gives {X = P4Deparser × Bor (List Token)} (λ x. (x.0, x.1.now)) (Err e) (deparser_at n rest) → Gives {X = P4Program × Bor (List Token)} (λ x. (x.0, x.1.now)) (Err e) (program_at n w)
unfolding program_at
deparser_fails n w rest ends.NoMemory h fault = tt
deparser_fails n w rest (ends.At r) h fault = rw (h.declarations_are, h.parser_is, h.ingress_is, fault) refl

pub package_fails : (n : ℕ) (w rest last : List Token) (deparser : P4Deparser) (e : ReadEnd) → Fronted n w rest → deparser_at n rest ≡ Ok (deparser, last) → Gives {X = P4Package × Bor (List Token)} (λ x. (x.0, x.1.now)) (Err e) (package_at last) → Gives {X = P4Program × Bor (List Token)} (λ x. (x.0, x.1.now)) (Err e) (program_at n w)
unfolding program_at
package_fails n w rest last deparser ends.NoMemory h d fault = tt
package_fails n w rest last deparser (ends.At r) h d fault = rw (h.declarations_are, h.parser_is, h.ingress_is, d, fault) refl

left : (w rest : List Token) (t : P4Program) → program_at (suc (length w)) w ≡ Ok (t, rest) → 1 ≤ length rest → programs_of w ≡ Err rest
unfolding programs_of
left w [] t read some = absurd (omega arith)
left w (x ∷ xs) t read some = rw read refl

pub left_over : (w rest : List Token) (t : P4Program) → program_at (length w + 1) w ≡ Ok (t, rest) → 1 ≤ length rest → programs_of w ≡ Err rest
left_over w rest t read some =
    let one : length w + 1 ≡ suc (length w) = omega arith in
    let P : ℕ → Type 0 = λ n. program_at n w ≡ Ok (t, rest) in
    left w rest t (subst P one read) some
