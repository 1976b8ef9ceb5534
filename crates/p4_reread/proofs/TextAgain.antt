-- What canonical tokens and canonical text spell.
use Rattle.std.proofs.Common.{◌≡◌, ℕ, suc, ◌≤◌, List, [], ◌∷◌, length, Result, Ok, refl, subst, arith}
use Rattle.std.specs.Prelude.{IfOk}
use Rattle.std.specs.List.{AllByRecursion, Contains}
use Rattle.p4_lex.specs.declared.token.Token.{Token}
use Rattle.p4_lex.specs.declared.token.Lexeme.{Lexeme}
use Rattle.p4_lex.specs.declared.token.Lexeme.TheVariants as lexeme
use Rattle.p4_lex.specs.Lexing.{longest, tokens}
use Rattle.p4_ast.specs.declared.program.P4Program.{P4Program}
use Rattle.p4_print.specs.Programs.{canon, program_tokens}
use Rattle.p4_grammar.specs.Grammar.{program}
use Rattle.p4_grammar.specs.Reading.{programs_of}
use Rattle.p4_grammar.proofs.Programs.{program_sound, program_complete}
use Rattle.p4_reread.specs.Again.{lexemes, SpellAgain, ComesOf, ReadAgain}
use Rattle.p4_reread.specs.Lexemes.{IsLexeme, AreLexemes}
use Rattle.p4_reread.proofs.LexFound.{tokens-say}
use Rattle.p4_reread.proofs.LexAgain.{canonical-tokens}
use Rattle.p4_reread.proofs.AgainPrograms.{program-again}

pub tokens_spell : (t : P4Program) (w v : List Token) → program t w → lexemes v ≡ program_tokens t → SpellAgain t v
tokens_spell t w v d e = program-again.back t w d v e

-- ---- where names and numbers come from

there : (ls : List Lexeme) (l m : Lexeme) → Contains ls l → Contains (m ∷ ls) l
there ls l m h = (suc h.0, omega (arith, h.1), h.2)

each_there : (ls ms : List Lexeme) (m : Lexeme) → AllByRecursion (Contains ls) ms → AllByRecursion (Contains (m ∷ ls)) ms
each_there ls [] m h = tt
each_there ls (l ∷ ms) m h = (there ls l m h.0, each_there ls ms m h.1)

each_in : (ls : List Lexeme) → AllByRecursion (Contains ls) ls
each_in [] = tt
each_in (l ∷ ls) = ((0, omega arith, refl), each_there ls ls l (each_in ls))

comes : (ls : List Lexeme) (l : Lexeme) → Contains ls l → ComesOf ls l
comes ls (lexeme.Sign s) h = tt {0}
comes ls (lexeme.Name text) h = h
comes ls (lexeme.Number value width) h = h

all_come : (ls ms : List Lexeme) → AllByRecursion (Contains ls) ms → AllByRecursion (ComesOf ls) ms
all_come ls [] h = tt
all_come ls (m ∷ ms) h = (comes ls m h.0, all_come ls ms h.1)

pub names_come : (t : P4Program) (w : List Token) → program t w → AllByRecursion (ComesOf (lexemes w)) (program_tokens t)
names_come t w d = program-again.kept (ComesOf (lexemes w)) (λ s. tt {0}) t w d (all_come (lexemes w) (lexemes w) (each_in (lexemes w)))

-- ---- texts

read_lexemes : (text : List ℕ) (w : List Token) → tokens text ≡ Ok w → AreLexemes (lexemes w)
read_lexemes text w e = subst (λ (r : Result (List Token) _). IfOk r (λ read. AreLexemes (lexemes read))) e (tokens-say text)

pub text_is_read : (text : List ℕ) (w : List Token) (t : P4Program) → tokens text ≡ Ok w → programs_of w ≡ Ok t → length (canon t) ≤ longest → ReadAgain t
text_is_read text w t e r short =
    let d : program t w = program_sound w t r in
    let are : AreLexemes (program_tokens t) = program-again.kept IsLexeme (λ s. tt {0}) t w d (read_lexemes text w e) in
    let v : (v : List Token) × (tokens (canon t) ≡ Ok v) × (lexemes v ≡ program_tokens t) = canonical-tokens (program_tokens t) are short in
    let s : SpellAgain t v.0 = tokens_spell t w v.0 d v.2 in
    (v.0, s.0, v.1, program_complete v.0 s.0 s.1, s.2)
