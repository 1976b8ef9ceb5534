-- One declaration behind others.
use Rattle.std.specs.Prelude.{ℕ}
use Rattle.p4_grammar.specs.Forms.{Reader, bind_at, done_at}
use Rattle.p4_grammar.specs.Reading.{Declared, declaration_at, declared_more}

-- the next declaration, with the typedefs before it
abbrev pub next_declaration_at : ℕ → Declared → Reader Declared
next_declaration_at n s = bind_at (declaration_at n s.0) λ d. done_at (declared_more s d)
