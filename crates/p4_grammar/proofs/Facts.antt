-- What may go on behind an expression, and which tokens do.
use Rattle.std.proofs.Common.{◌≡◌, ℕ, Bool, true, false, cond, nat_le, Result, Ok, Err, refl, sym, ◌∙◌, List, [], ◌∷◌, ap}
use Rattle.p4_lex.specs.declared.token.Token.{Token}
use Rattle.p4_lex.specs.declared.token.Sign.{Sign}
use Rattle.p4_lex.specs.declared.token.Sign.TheVariants as sign
use Rattle.p4_lex.specs.declared.token.Lexeme.{Lexeme}
use Rattle.p4_lex.specs.declared.token.Lexeme.TheVariants as lexeme
use Rattle.p4_ast.specs.declared.declaration.P4Type.{P4Type}
use Rattle.p4_ast.specs.declared.expression.P4BinaryOp.{P4BinaryOp}
use Rattle.p4_ast.specs.declared.expression.P4BinaryOp.TheVariants as binary_op
use Rattle.p4_grammar.specs.declared.mark.Mark.{Mark}
use Rattle.p4_grammar.specs.declared.mark.Mark.TheVariants as mark
use Rattle.p4_grammar.specs.declared.mark.Spelled.{Spelled}
use Rattle.p4_grammar.specs.Forms.{is_given}
use Rattle.p4_grammar.specs.Tokens.{test, is, sign_of, in_hand}
use Rattle.p4_grammar.proofs.Basics.{tok, by_sign}
use Rattle.p4_grammar.specs.Values.{later, of_cast, is_bare, begins_lexeme, some_op, chain_op, compare_op, this, op_sign}

-- ---- operators by their lexemes

abbrev pub compare_lexeme : Lexeme → Result P4BinaryOp (Unit {0})
compare_lexeme (lexeme.Sign sign.Equal) = Ok binary_op.Equal
compare_lexeme (lexeme.Sign sign.NotEqual) = Ok binary_op.NotEqual
compare_lexeme (lexeme.Sign sign.Less) = Ok binary_op.Less
compare_lexeme (lexeme.Sign sign.LessEqual) = Ok binary_op.LessEqual
compare_lexeme (lexeme.Sign sign.More) = Ok binary_op.More
compare_lexeme (lexeme.Sign sign.MoreEqual) = Ok binary_op.MoreEqual
compare_lexeme (lexeme.Sign s) = Err tt
compare_lexeme (lexeme.Name text) = Err tt
compare_lexeme (lexeme.Number value width) = Err tt

abbrev pub sum_lexeme : Bool → Lexeme → Result P4BinaryOp (Unit {0})
sum_lexeme bare (lexeme.Sign sign.Plus) = Ok binary_op.Plus
sum_lexeme true (lexeme.Sign sign.Minus) = Err tt
sum_lexeme false (lexeme.Sign sign.Minus) = Ok binary_op.Minus
sum_lexeme bare (lexeme.Sign s) = Err tt
sum_lexeme bare (lexeme.Name text) = Err tt
sum_lexeme bare (lexeme.Number value width) = Err tt

abbrev pub is_chain : P4BinaryOp → Bool
is_chain binary_op.SatPlus = true
is_chain binary_op.SatMinus = true
is_chain binary_op.BitAnd = true
is_chain binary_op.BitOr = true
is_chain binary_op.BitXor = true
is_chain binary_op.ShiftLeft = true
is_chain binary_op.ShiftRight = true
is_chain binary_op.Concat = true
is_chain o = false

-- an operator of chains
abbrev pub ChainOp : Type 0
ChainOp = (o : P4BinaryOp) × (is_chain o ≡ true)

abbrev pub chain_lexeme : Lexeme → Result ChainOp (Unit {0})
chain_lexeme (lexeme.Sign sign.SatPlus) = Ok (binary_op.SatPlus, refl)
chain_lexeme (lexeme.Sign sign.SatMinus) = Ok (binary_op.SatMinus, refl)
chain_lexeme (lexeme.Sign sign.BitAnd) = Ok (binary_op.BitAnd, refl)
chain_lexeme (lexeme.Sign sign.BitOr) = Ok (binary_op.BitOr, refl)
chain_lexeme (lexeme.Sign sign.BitXor) = Ok (binary_op.BitXor, refl)
chain_lexeme (lexeme.Sign sign.ShiftLeft) = Ok (binary_op.ShiftLeft, refl)
chain_lexeme (lexeme.Sign sign.ShiftRight) = Ok (binary_op.ShiftRight, refl)
chain_lexeme (lexeme.Sign sign.Concat) = Ok (binary_op.Concat, refl)
chain_lexeme (lexeme.Sign s) = Err tt
chain_lexeme (lexeme.Name text) = Err tt
chain_lexeme (lexeme.Number value width) = Err tt

abbrev pub bigger : Result ChainOp (Unit {0}) → Result P4BinaryOp (Unit {0})
bigger (Ok s) = Ok s.0
bigger (Err e) = Err e

compare_is : (at e : ℕ) (l : Lexeme) → compare_op (tok at e l) ≡ compare_lexeme l
compare_is at e (lexeme.Name text) = refl
compare_is at e (lexeme.Number v w) = refl
compare_is at e (lexeme.Sign sign.Equal) = refl
compare_is at e (lexeme.Sign s) = refl

abbrev sum_ops : Bool → List P4BinaryOp
sum_ops b = cond b (binary_op.Plus ∷ []) (binary_op.Plus ∷ binary_op.Minus ∷ [])

sum_is : (b : Bool) (at e : ℕ) (l : Lexeme) → some_op (sum_ops b) (tok at e l) ≡ sum_lexeme b l
sum_is true at e (lexeme.Name text) = refl
sum_is true at e (lexeme.Number v w) = refl
sum_is true at e (lexeme.Sign sign.Plus) = refl
sum_is true at e (lexeme.Sign s) = refl
sum_is false at e (lexeme.Name text) = refl
sum_is false at e (lexeme.Number v w) = refl
sum_is false at e (lexeme.Sign sign.Plus) = refl
sum_is false at e (lexeme.Sign s) = refl

pub sum_plus : (b : Bool) → some_op (sum_ops b) (tok 0 0 (lexeme.Sign sign.Plus)) ≡ Ok binary_op.Plus
sum_plus true = refl
sum_plus false = refl

chain_is : (at e : ℕ) (l : Lexeme) → chain_op (tok at e l) ≡ bigger (chain_lexeme l)
chain_is at e (lexeme.Name text) = refl
chain_is at e (lexeme.Number v w) = refl
chain_is at e (lexeme.Sign sign.SatPlus) = refl
chain_is at e (lexeme.Sign s) = refl

abbrev pub chain_small : Token → Result ChainOp (Unit {0})
chain_small a = chain_lexeme a.lexeme

pub chain_big : (a : Token) → chain_op a ≡ bigger (chain_small a)
chain_big a = chain_is a.at a.end a.lexeme

abbrev ok_op : P4BinaryOp → Result P4BinaryOp (Unit {0})
ok_op o = Ok o

ok_is : (o p : P4BinaryOp) → ok_op o ≡ ok_op p → o ≡ p
ok_is o p e = cc

pub big_ok : (r : Result ChainOp (Unit {0})) (o : P4BinaryOp) → bigger r ≡ Ok o → (s : ChainOp) × (r ≡ Ok s) × (s.0 ≡ o)
big_ok (Ok s) o e = (s, refl, ok_is s.0 o e)
big_ok (Err d) o e = absurd cc

big_given : (r : Result ChainOp (Unit {0})) → is_given (bigger r) ≡ is_given r
big_given (Ok s) = refl
big_given (Err e) = refl

-- the level of operators at which a sign goes on
abbrev pub level : Sign → ℕ
level sign.OpenSlice = 0
level sign.Dot = 0
level sign.Plus = 1
level sign.Minus = 1
level sign.Equal = 2
level sign.NotEqual = 2
level sign.Less = 2
level sign.LessEqual = 2
level sign.More = 2
level sign.MoreEqual = 2
level sign.SatPlus = 2
level sign.SatMinus = 2
level sign.BitAnd = 2
level sign.BitOr = 2
level sign.BitXor = 2
level sign.ShiftLeft = 2
level sign.ShiftRight = 2
level sign.Concat = 2
level sign.And = 3
level sign.Or = 4
level sign.Ask = 5
level s = 9

abbrev pub not_b : Bool → Bool
not_b true = false
not_b false = true

-- whether it is what a read may be spelled as
abbrev pub is_read : Mark → Bool
is_read (mark.Read x) = true
is_read (mark.CastRead t x) = true
is_read mark.Bare = false
is_read (mark.One x) = false
is_read mark.Plain = false

-- what goes on at level i behind a value that is bare, or one that a read may be spelled as
abbrev pub goes_on : ℕ → Bool → Bool → Lexeme → Bool
goes_on i b r (lexeme.Name text) = b
goes_on i b r (lexeme.Number value width) = b
goes_on i b r (lexeme.Sign sign.Open) = not_b r
goes_on i b r (lexeme.Sign s) = cond (nat_le (level s) i) true (cond b (begins_lexeme (lexeme.Sign s)) false)

abbrev pub V : ℕ → Spelled → Token → Bool
V i x a = goes_on i (is_bare x.mark) (is_read x.mark) a.lexeme

pub never : (b : Bool) → cond b false false ≡ false
never true = refl
never false = refl

pub lower0 : (b r : Bool) (l : Lexeme) → goes_on 1 b r l ≡ false → goes_on 0 b r l ≡ false
lower0 b r (lexeme.Name x) e = e
lower0 b r (lexeme.Number x w) e = e
lower0 b r (lexeme.Sign sign.Plus) e = absurd cc
lower0 b r (lexeme.Sign sign.Minus) e = absurd cc
lower0 b r (lexeme.Sign s) e = e

pub lower1 : (b r : Bool) (l : Lexeme) → goes_on 2 b r l ≡ false → goes_on 1 b r l ≡ false
lower1 b r (lexeme.Name x) e = e
lower1 b r (lexeme.Number x w) e = e
lower1 b r (lexeme.Sign sign.Equal) e = absurd cc
lower1 b r (lexeme.Sign sign.NotEqual) e = absurd cc
lower1 b r (lexeme.Sign sign.Less) e = absurd cc
lower1 b r (lexeme.Sign sign.LessEqual) e = absurd cc
lower1 b r (lexeme.Sign sign.More) e = absurd cc
lower1 b r (lexeme.Sign sign.MoreEqual) e = absurd cc
lower1 b r (lexeme.Sign sign.SatPlus) e = absurd cc
lower1 b r (lexeme.Sign sign.SatMinus) e = absurd cc
lower1 b r (lexeme.Sign sign.BitAnd) e = absurd cc
lower1 b r (lexeme.Sign sign.BitOr) e = absurd cc
lower1 b r (lexeme.Sign sign.BitXor) e = absurd cc
lower1 b r (lexeme.Sign sign.ShiftLeft) e = absurd cc
lower1 b r (lexeme.Sign sign.ShiftRight) e = absurd cc
lower1 b r (lexeme.Sign sign.Concat) e = absurd cc
lower1 b r (lexeme.Sign s) e = e

pub lower2 : (b r : Bool) (l : Lexeme) → goes_on 3 b r l ≡ false → goes_on 2 b r l ≡ false
lower2 b r (lexeme.Name x) e = e
lower2 b r (lexeme.Number x w) e = e
lower2 b r (lexeme.Sign sign.And) e = absurd cc
lower2 b r (lexeme.Sign s) e = e

pub lower3 : (b r : Bool) (l : Lexeme) → goes_on 4 b r l ≡ false → goes_on 3 b r l ≡ false
lower3 b r (lexeme.Name x) e = e
lower3 b r (lexeme.Number x w) e = e
lower3 b r (lexeme.Sign sign.Or) e = absurd cc
lower3 b r (lexeme.Sign s) e = e

pub lower4 : (b r : Bool) (l : Lexeme) → goes_on 5 b r l ≡ false → goes_on 4 b r l ≡ false
lower4 b r (lexeme.Name x) e = e
lower4 b r (lexeme.Number x w) e = e
lower4 b r (lexeme.Sign sign.Ask) e = absurd cc
lower4 b r (lexeme.Sign s) e = e

pub unread : (i : ℕ) (b r : Bool) (l : Lexeme) → goes_on i b false l ≡ false → goes_on i b r l ≡ false
unread i b r (lexeme.Name x) e = e
unread i b r (lexeme.Number x w) e = e
unread i b r (lexeme.Sign sign.Open) e = absurd cc
unread i b r (lexeme.Sign s) e = e

-- what goes on with the end of a value goes on with the value
pub by_later : (i : ℕ) (m : Mark) (l : Lexeme) → goes_on i (is_bare (later m)) (is_read (later m)) l ≡ false → goes_on i (is_bare m) (is_read m) l ≡ false
by_later i mark.Bare l e = e
by_later i (mark.One x) l e = e
by_later i (mark.Read x) l e = unread i false true l e
by_later i (mark.CastRead t x) l e = unread i false true l e
by_later i mark.Plain l e = e

pub by_cast : (i : ℕ) (t : P4Type) (m : Mark) (l : Lexeme) → goes_on i (is_bare (of_cast t m)) (is_read (of_cast t m)) l ≡ false → goes_on i (is_bare m) (is_read m) l ≡ false
by_cast i t mark.Bare l e = e
by_cast i t (mark.One x) l e = e
by_cast i t (mark.Read x) l e = e
by_cast i t (mark.CastRead u x) l e = unread i false true l e
by_cast i t mark.Plain l e = e

-- what may not go on with a value at all
abbrev pub ends_all : Lexeme → Bool
ends_all l = goes_on 5 true false l

pub all_ends : (b r : Bool) (l : Lexeme) → ends_all l ≡ false → goes_on 5 b r l ≡ false
all_ends b r (lexeme.Name x) e = absurd cc
all_ends b r (lexeme.Number x w) e = absurd cc
all_ends b r (lexeme.Sign sign.Open) e = absurd cc
all_ends true r (lexeme.Sign sign.Not) e = e
all_ends false r (lexeme.Sign sign.Not) e = absurd cc
all_ends true r (lexeme.Sign sign.Complement) e = e
all_ends false r (lexeme.Sign sign.Complement) e = absurd cc
all_ends true r (lexeme.Sign sign.True) e = e
all_ends false r (lexeme.Sign sign.True) e = absurd cc
all_ends true r (lexeme.Sign sign.False) e = e
all_ends false r (lexeme.Sign sign.False) e = absurd cc
all_ends true r (lexeme.Sign s) e = e
all_ends false r (lexeme.Sign sign.OpenSlice) e = absurd cc
all_ends false r (lexeme.Sign sign.Dot) e = absurd cc
all_ends false r (lexeme.Sign sign.Plus) e = absurd cc
all_ends false r (lexeme.Sign sign.Minus) e = absurd cc
all_ends false r (lexeme.Sign sign.Equal) e = absurd cc
all_ends false r (lexeme.Sign sign.NotEqual) e = absurd cc
all_ends false r (lexeme.Sign sign.Less) e = absurd cc
all_ends false r (lexeme.Sign sign.LessEqual) e = absurd cc
all_ends false r (lexeme.Sign sign.More) e = absurd cc
all_ends false r (lexeme.Sign sign.MoreEqual) e = absurd cc
all_ends false r (lexeme.Sign sign.SatPlus) e = absurd cc
all_ends false r (lexeme.Sign sign.SatMinus) e = absurd cc
all_ends false r (lexeme.Sign sign.BitAnd) e = absurd cc
all_ends false r (lexeme.Sign sign.BitOr) e = absurd cc
all_ends false r (lexeme.Sign sign.BitXor) e = absurd cc
all_ends false r (lexeme.Sign sign.ShiftLeft) e = absurd cc
all_ends false r (lexeme.Sign sign.ShiftRight) e = absurd cc
all_ends false r (lexeme.Sign sign.Concat) e = absurd cc
all_ends false r (lexeme.Sign sign.And) e = absurd cc
all_ends false r (lexeme.Sign sign.Or) e = absurd cc
all_ends false r (lexeme.Sign sign.Ask) e = absurd cc
all_ends false r (lexeme.Sign s) e = refl

-- ---- single tokens

pub more_slice : (i : ℕ) (b r : Bool) (at : ℕ) (l : Lexeme) → goes_on 0 b r l ≡ false → is_given (sign_of sign.OpenSlice at l) ≡ false
more_slice i b r at (lexeme.Name x) e = refl
more_slice i b r at (lexeme.Number x w) e = refl
more_slice i b r at (lexeme.Sign sign.OpenSlice) e = absurd cc
more_slice i b r at (lexeme.Sign s) e = refl

pub more_dot : (b r : Bool) (at : ℕ) (l : Lexeme) → goes_on 0 b r l ≡ false → is_given (sign_of sign.Dot at l) ≡ false
more_dot b r at (lexeme.Name x) e = refl
more_dot b r at (lexeme.Number x w) e = refl
more_dot b r at (lexeme.Sign sign.Dot) e = absurd cc
more_dot b r at (lexeme.Sign s) e = refl

pub more_open : (b : Bool) (at : ℕ) (l : Lexeme) → goes_on 0 b false l ≡ false → is_given (sign_of sign.Open at l) ≡ false
more_open b at (lexeme.Name x) e = refl
more_open b at (lexeme.Number x w) e = refl
more_open b at (lexeme.Sign sign.Open) e = absurd cc
more_open b at (lexeme.Sign s) e = refl

pub bare_operand : (l : Lexeme) → goes_on 0 true false l ≡ false → begins_lexeme l ≡ false
bare_operand (lexeme.Name x) e = absurd cc
bare_operand (lexeme.Number x w) e = absurd cc
bare_operand (lexeme.Sign sign.OpenSlice) e = absurd cc
bare_operand (lexeme.Sign sign.Dot) e = absurd cc
bare_operand (lexeme.Sign sign.Open) e = absurd cc
bare_operand (lexeme.Sign s) e = e

sum_goes_l : (b r : Bool) (l : Lexeme) (o : P4BinaryOp) → sum_lexeme b l ≡ Ok o → goes_on 0 b r l ≡ false
sum_goes_l b r (lexeme.Name x) o e = absurd cc
sum_goes_l b r (lexeme.Number x w) o e = absurd cc
sum_goes_l b r (lexeme.Sign sign.Plus) o e = never b
sum_goes_l true r (lexeme.Sign sign.Minus) o e = absurd cc
sum_goes_l false r (lexeme.Sign sign.Minus) o e = refl
sum_goes_l b r (lexeme.Sign s) o e = absurd cc

sum_stops_l : (b r : Bool) (l : Lexeme) → goes_on 1 b r l ≡ false → is_given (sum_lexeme b l) ≡ false
sum_stops_l b r (lexeme.Name x) e = refl
sum_stops_l b r (lexeme.Number x w) e = refl
sum_stops_l b r (lexeme.Sign sign.Plus) e = absurd cc
sum_stops_l b r (lexeme.Sign sign.Minus) e = absurd cc
sum_stops_l b r (lexeme.Sign s) e = refl

sum_no_chain_l : (b : Bool) (l : Lexeme) (o : P4BinaryOp) → sum_lexeme b l ≡ Ok o → is_given (chain_lexeme l) ≡ false
sum_no_chain_l b (lexeme.Name x) o e = refl
sum_no_chain_l b (lexeme.Number x w) o e = refl
sum_no_chain_l b (lexeme.Sign sign.Plus) o e = refl
sum_no_chain_l b (lexeme.Sign sign.Minus) o e = refl
sum_no_chain_l b (lexeme.Sign s) o e = absurd cc

chain_goes_l : (b r : Bool) (l : Lexeme) (o : ChainOp) → chain_lexeme l ≡ Ok o → goes_on 1 b r l ≡ false
chain_goes_l b r (lexeme.Name x) o e = absurd cc
chain_goes_l b r (lexeme.Number x w) o e = absurd cc
chain_goes_l b r (lexeme.Sign sign.SatPlus) o e = never b
chain_goes_l b r (lexeme.Sign sign.SatMinus) o e = never b
chain_goes_l b r (lexeme.Sign sign.BitAnd) o e = never b
chain_goes_l b r (lexeme.Sign sign.BitOr) o e = never b
chain_goes_l b r (lexeme.Sign sign.BitXor) o e = never b
chain_goes_l b r (lexeme.Sign sign.ShiftLeft) o e = never b
chain_goes_l b r (lexeme.Sign sign.ShiftRight) o e = never b
chain_goes_l b r (lexeme.Sign sign.Concat) o e = never b
chain_goes_l b r (lexeme.Sign s) o e = absurd cc

chain_stops_l : (b r : Bool) (l : Lexeme) → goes_on 2 b r l ≡ false → is_given (chain_lexeme l) ≡ false
chain_stops_l b r (lexeme.Name x) e = refl
chain_stops_l b r (lexeme.Number x w) e = refl
chain_stops_l b r (lexeme.Sign sign.SatPlus) e = absurd cc
chain_stops_l b r (lexeme.Sign sign.SatMinus) e = absurd cc
chain_stops_l b r (lexeme.Sign sign.BitAnd) e = absurd cc
chain_stops_l b r (lexeme.Sign sign.BitOr) e = absurd cc
chain_stops_l b r (lexeme.Sign sign.BitXor) e = absurd cc
chain_stops_l b r (lexeme.Sign sign.ShiftLeft) e = absurd cc
chain_stops_l b r (lexeme.Sign sign.ShiftRight) e = absurd cc
chain_stops_l b r (lexeme.Sign sign.Concat) e = absurd cc
chain_stops_l b r (lexeme.Sign s) e = refl

compare_goes_l : (b r : Bool) (l : Lexeme) (o : P4BinaryOp) → compare_lexeme l ≡ Ok o → goes_on 1 b r l ≡ false
compare_goes_l b r (lexeme.Name x) o e = absurd cc
compare_goes_l b r (lexeme.Number x w) o e = absurd cc
compare_goes_l b r (lexeme.Sign sign.Equal) o e = never b
compare_goes_l b r (lexeme.Sign sign.NotEqual) o e = never b
compare_goes_l b r (lexeme.Sign sign.Less) o e = never b
compare_goes_l b r (lexeme.Sign sign.LessEqual) o e = never b
compare_goes_l b r (lexeme.Sign sign.More) o e = never b
compare_goes_l b r (lexeme.Sign sign.MoreEqual) o e = never b
compare_goes_l b r (lexeme.Sign s) o e = absurd cc

compare_no_chain_l : (l : Lexeme) (o : P4BinaryOp) → compare_lexeme l ≡ Ok o → is_given (chain_lexeme l) ≡ false
compare_no_chain_l (lexeme.Name x) o e = refl
compare_no_chain_l (lexeme.Number x w) o e = refl
compare_no_chain_l (lexeme.Sign sign.Equal) o e = refl
compare_no_chain_l (lexeme.Sign sign.NotEqual) o e = refl
compare_no_chain_l (lexeme.Sign sign.Less) o e = refl
compare_no_chain_l (lexeme.Sign sign.LessEqual) o e = refl
compare_no_chain_l (lexeme.Sign sign.More) o e = refl
compare_no_chain_l (lexeme.Sign sign.MoreEqual) o e = refl
compare_no_chain_l (lexeme.Sign s) o e = absurd cc

compare_stops_l : (b r : Bool) (l : Lexeme) → goes_on 2 b r l ≡ false → is_given (compare_lexeme l) ≡ false
compare_stops_l b r (lexeme.Name x) e = refl
compare_stops_l b r (lexeme.Number x w) e = refl
compare_stops_l b r (lexeme.Sign sign.Equal) e = absurd cc
compare_stops_l b r (lexeme.Sign sign.NotEqual) e = absurd cc
compare_stops_l b r (lexeme.Sign sign.Less) e = absurd cc
compare_stops_l b r (lexeme.Sign sign.LessEqual) e = absurd cc
compare_stops_l b r (lexeme.Sign sign.More) e = absurd cc
compare_stops_l b r (lexeme.Sign sign.MoreEqual) e = absurd cc
compare_stops_l b r (lexeme.Sign s) e = refl

pub sum_goes : (b r : Bool) (a : Token) (o : P4BinaryOp) → some_op (sum_ops b) a ≡ Ok o → goes_on 0 b r a.lexeme ≡ false
sum_goes b r a o e = sum_goes_l b r a.lexeme o (sym (sum_is b a.at a.end a.lexeme) ∙ e)

pub sum_stops : (b r : Bool) (a : Token) → goes_on 1 b r a.lexeme ≡ false → is_given (some_op (sum_ops b) a) ≡ false
sum_stops b r a e = ap is_given (sum_is b a.at a.end a.lexeme) ∙ sum_stops_l b r a.lexeme e

not_chain : (a : Token) → is_given (chain_lexeme a.lexeme) ≡ false → is_given (chain_op a) ≡ false
not_chain a e = ap is_given (chain_big a) ∙ big_given (chain_small a) ∙ e

pub sum_no_chain : (b : Bool) (a : Token) (o : P4BinaryOp) → some_op (sum_ops b) a ≡ Ok o → is_given (chain_op a) ≡ false
sum_no_chain b a o e = not_chain a (sum_no_chain_l b a.lexeme o (sym (sum_is b a.at a.end a.lexeme) ∙ e))

pub chain_goes : (b r : Bool) (a : Token) (o : P4BinaryOp) → chain_op a ≡ Ok o → goes_on 1 b r a.lexeme ≡ false
chain_goes b r a o e = let s = big_ok (chain_small a) o (sym (chain_big a) ∙ e) in chain_goes_l b r a.lexeme s.0 s.1

pub chain_stops : (b r : Bool) (a : Token) → goes_on 2 b r a.lexeme ≡ false → is_given (chain_op a) ≡ false
chain_stops b r a e = not_chain a (chain_stops_l b r a.lexeme e)

pub compare_goes : (b r : Bool) (a : Token) (o : P4BinaryOp) → compare_op a ≡ Ok o → goes_on 1 b r a.lexeme ≡ false
compare_goes b r a o e = compare_goes_l b r a.lexeme o (sym (compare_is a.at a.end a.lexeme) ∙ e)

pub compare_no_chain : (a : Token) (o : P4BinaryOp) → compare_op a ≡ Ok o → is_given (chain_op a) ≡ false
compare_no_chain a o e = not_chain a (compare_no_chain_l a.lexeme o (sym (compare_is a.at a.end a.lexeme) ∙ e))

pub compare_stops : (b r : Bool) (a : Token) → goes_on 2 b r a.lexeme ≡ false → is_given (compare_op a) ≡ false
compare_stops b r a e = ap is_given (compare_is a.at a.end a.lexeme) ∙ compare_stops_l b r a.lexeme e

-- the sign of an operator of chains is at level 2
chain_level : (o : P4BinaryOp) (b r : Bool) → is_chain o ≡ true → goes_on 0 b r (lexeme.Sign (op_sign o)) ≡ false
chain_level binary_op.SatPlus b r e = never b
chain_level binary_op.SatMinus b r e = never b
chain_level binary_op.BitAnd b r e = never b
chain_level binary_op.BitOr b r e = never b
chain_level binary_op.BitXor b r e = never b
chain_level binary_op.ShiftLeft b r e = never b
chain_level binary_op.ShiftRight b r e = never b
chain_level binary_op.Concat b r e = never b
chain_level o b r e = absurd cc

chain_true : (o : P4BinaryOp) (b r : Bool) → is_chain o ≡ true → goes_on 2 b r (lexeme.Sign (op_sign o)) ≡ true
chain_true binary_op.SatPlus b r e = refl
chain_true binary_op.SatMinus b r e = refl
chain_true binary_op.BitAnd b r e = refl
chain_true binary_op.BitOr b r e = refl
chain_true binary_op.BitXor b r e = refl
chain_true binary_op.ShiftLeft b r e = refl
chain_true binary_op.ShiftRight b r e = refl
chain_true binary_op.Concat b r e = refl
chain_true o b r e = absurd cc

given_is : {A : Type 0} (r : Result A (Unit {0})) → is_given r ≡ true → (x : A) × (r ≡ Ok x)
given_is (Ok x) e = (x, refl)
given_is (Err e) g = absurd cc

pub test_true : {A : Type 0} (b : Bool) (x y : A) → test b x ≡ Ok y → b ≡ true
test_true true x y e = refl
test_true false x y e = absurd cc

-- what holds of each token of this sign holds of the token in hand, where its test gives a value
pub tested : {A : Type 0} {b : Bool} (t : Token → Bool) (s : Sign) → ((at e : ℕ) → t (tok at e (lexeme.Sign s)) ≡ b) → (a : Token) (x y : A) → test (in_hand s a) x ≡ Ok y → t a ≡ b
tested t s h a x y e = let g = given_is (is s a) (test_true (in_hand s a) x y e) in by_sign t s h a g.0 g.1

untested : {A : Type 0} (b : Bool) (x : A) → b ≡ false → is_given (test b x) ≡ false
untested true x e = absurd cc
untested false x e = refl

by_bool : (b : Bool) → (b ≡ true → ⊥) → b ≡ false
by_bool true h = absurd (h refl)
by_bool false h = refl

-- a token that a test of all tokens of this sign passes by isn't one
pub not_in_hand : (t : Token → Bool) (s : Sign) → ((at e : ℕ) → t (tok at e (lexeme.Sign s)) ≡ true) → (a : Token) → t a ≡ false → in_hand s a ≡ false
not_in_hand t s h a e = by_bool (in_hand s a) (λ yes. let g = given_is (is s a) yes in let q : true ≡ false = sym (by_sign t s h a g.0 g.1) ∙ e in absurd cc)

pub stopped : {A : Type 0} (t : Token → Bool) (s : Sign) → ((at e : ℕ) → t (tok at e (lexeme.Sign s)) ≡ true) → (a : Token) (x : A) → t a ≡ false → is_given (test (in_hand s a) x) ≡ false
stopped t s h a x e = untested (in_hand s a) x (not_in_hand t s h a e)

-- ---- the same operator again

pub again_goes : (o : ChainOp) (p : P4BinaryOp) (b r : Bool) (a : Token) → this o.0 a ≡ Ok p → goes_on 0 b r a.lexeme ≡ false
again_goes o p b r a e = tested (λ t. goes_on 0 b r t.lexeme) (op_sign o.0) (λ at i. chain_level o.0 b r o.1) a o.0 p e

pub again_stops : (o : ChainOp) (b r : Bool) (a : Token) → goes_on 2 b r a.lexeme ≡ false → is_given (this o.0 a) ≡ false
again_stops o b r a e = stopped (λ t. goes_on 2 b r t.lexeme) (op_sign o.0) (λ at i. chain_true o.0 b r o.1) a o.0 e

pub and_goes : (b r : Bool) (a : Token) (o : P4BinaryOp) → this binary_op.And a ≡ Ok o → goes_on 2 b r a.lexeme ≡ false
and_goes b r a o e = tested (λ t. goes_on 2 b r t.lexeme) sign.And (λ at i. never b) a binary_op.And o e

pub and_stops : (b r : Bool) (a : Token) → goes_on 3 b r a.lexeme ≡ false → is_given (this binary_op.And a) ≡ false
and_stops b r a e = stopped (λ t. goes_on 3 b r t.lexeme) sign.And (λ at i. refl) a binary_op.And e

pub or_goes : (b r : Bool) (a : Token) (o : P4BinaryOp) → this binary_op.Or a ≡ Ok o → goes_on 3 b r a.lexeme ≡ false
or_goes b r a o e = tested (λ t. goes_on 3 b r t.lexeme) sign.Or (λ at i. never b) a binary_op.Or o e

pub or_stops : (b r : Bool) (a : Token) → goes_on 4 b r a.lexeme ≡ false → is_given (this binary_op.Or a) ≡ false
or_stops b r a e = stopped (λ t. goes_on 4 b r t.lexeme) sign.Or (λ at i. refl) a binary_op.Or e

pub ask_stops : (b r : Bool) (a : Token) → goes_on 5 b r a.lexeme ≡ false → in_hand sign.Ask a ≡ false
ask_stops b r a e = not_in_hand (λ t. goes_on 5 b r t.lexeme) sign.Ask (λ at i. refl) a e
