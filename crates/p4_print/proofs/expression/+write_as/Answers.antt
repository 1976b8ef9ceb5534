use Rattle.std.specs.Prelude.{codes}
use Rattle.p4_lex.specs.declared.token.Sign.TheVariants.{Close}
use Rattle.p4_print.specs.Text.{text, piece}
use Rattle.p4_print.specs.Shared.{number}
use Rattle.p4_print.specs.Expressions.{expr_as, where_so}
use Rattle.p4_print.proofs.Steps.{last, texts}
use Rattle.p4_print.proofs.Trees.{as-Choice, as-Binary, as-Unary, as-Cast, as-Slice, as-Number, as-True, as-False, as-IsValid}
use Rattle.p4_print.proofs.expression.+write_as.Goals as goal

pub returns-in_ok-write_as-in-Choice-3 : goal.returns-in_ok-write_as-in-Choice-3
returns-in_ok-write_as-in-Choice-3 t c = last c.write_close.result c.args.out.now c.write_as-in-Choice-2.new.out (text (where_so c.args.operand Close)) (text (expr_as c.args.e.now c.args.operand)) _ c.write_close.ensures (rw (c.in_ok-write_as-in-Choice-3.ensures, c.get-in-Choice-2.ensures, c.in_ok-append-in-Choice-2.ensures.ok, c.in_ok-write_as-in-Choice-2.ensures, c.get-in-Choice.ensures, c.in_ok-append-in-Choice.ensures.ok, c.in_ok-write_as-in-Choice.ensures, c.get.ensures, c.in_ok-write_open-in-Choice.ensures, c.in-Choice.is, as-Choice c.in-Choice.at c.in-Choice.test c.in-Choice.yes c.in-Choice.no c.args.operand) (simp texts))

pub returns-in_ok-write_as-in-Binary-2 : goal.returns-in_ok-write_as-in-Binary-2
returns-in_ok-write_as-in-Binary-2 t c = last c.write_close-in-Binary.result c.args.out.now c.write_as-in-Binary-2.new.out (text (where_so c.args.operand Close)) (text (expr_as c.args.e.now c.args.operand)) _ c.write_close-in-Binary.ensures (rw (c.in_ok-write_as-in-Binary-2.ensures, c.get-in-Binary-2.ensures, c.in_ok-write_binary-in-Binary.ensures, c.in_ok-write_as-in-Binary.ensures, c.get-in-Binary.ensures, c.in_ok-write_open-in-Binary.ensures, c.in-Binary.is, as-Binary c.in-Binary.at c.in-Binary.op c.in-Binary.left c.in-Binary.right c.args.operand) (simp texts))

pub returns-in_ok-write_as-in-Unary : goal.returns-in_ok-write_as-in-Unary
returns-in_ok-write_as-in-Unary t c = last c.write_close-in-Unary.result c.args.out.now c.write_as-in-Unary.new.out (text (where_so c.args.operand Close)) (text (expr_as c.args.e.now c.args.operand)) _ c.write_close-in-Unary.ensures (rw (c.in_ok-write_as-in-Unary.ensures, c.get-in-Unary.ensures, c.in_ok-write_unary-in-Unary.ensures, c.in_ok-write_open-in-Unary.ensures, c.in-Unary.is, as-Unary c.in-Unary.at c.in-Unary.op c.in-Unary.inner c.args.operand) (simp texts))

pub returns-in_ok-write_as-in-Cast : goal.returns-in_ok-write_as-in-Cast
returns-in_ok-write_as-in-Cast t c = last c.write_close-in-Cast.result c.args.out.now c.write_as-in-Cast.new.out (text (where_so c.args.operand Close)) (text (expr_as c.args.e.now c.args.operand)) _ c.write_close-in-Cast.ensures (rw (c.in_ok-write_as-in-Cast.ensures, c.get-in-Cast.ensures, c.in_ok-append-in-Cast-2.ensures.ok, c.in_ok-write-in-Cast.ensures, c.in_ok-append-in-Cast.ensures.ok, c.in_ok-write_open-in-Cast.ensures, c.in-Cast.is, as-Cast c.in-Cast.at c.in-Cast.type_ c.in-Cast.inner c.args.operand) (simp texts))

pub returns-in_ok-write-in-Slice : goal.returns-in_ok-write-in-Slice
returns-in_ok-write-in-Slice t c = last c.write_close-in-Slice.result c.args.out.now c.write-in-Slice.new.out (text (where_so c.args.operand Close)) (text (expr_as c.args.e.now c.args.operand)) _ c.write_close-in-Slice.ensures (rw (c.in_ok-write-in-Slice.ensures, c.in_ok-write_as-in-Slice.ensures, c.get-in-Slice.ensures, c.in_ok-write_open-in-Slice.ensures, c.in-Slice.is, as-Slice c.in-Slice.at c.in-Slice.inner c.in-Slice.slice c.args.operand) (simp texts))

pub returns-in-Number : goal.returns-in-Number
returns-in-Number t c = last c.write_number.result c.args.out.now c.args.out.now (piece (number c.in-Number.number)) (text (expr_as c.args.e.now c.args.operand)) _ c.write_number.ensures (rw (c.in-Number.is, as-Number c.in-Number.at c.in-Number.number c.args.operand) (simp texts))

pub returns-in-True : goal.returns-in-True
returns-in-True t c = last c.append-in-True.result c.args.out.now c.args.out.now (codes "true ") (text (expr_as c.args.e.now c.args.operand)) _ c.append-in-True.ensures.ok (rw (c.in-True.is, as-True c.in-True.at c.args.operand) (simp texts))

pub returns-in-False : goal.returns-in-False
returns-in-False t c = last c.append-in-False.result c.args.out.now c.args.out.now (codes "false ") (text (expr_as c.args.e.now c.args.operand)) _ c.append-in-False.ensures.ok (rw (c.in-False.is, as-False c.in-False.at c.args.operand) (simp texts))

pub returns-in_ok-write-in-IsValid : goal.returns-in_ok-write-in-IsValid
returns-in_ok-write-in-IsValid t c = last c.append-in-IsValid.result c.args.out.now c.write-in-IsValid.new.out (codes ". isValid ( ) ") (text (expr_as c.args.e.now c.args.operand)) _ c.append-in-IsValid.ensures.ok (rw (c.in_ok-write-in-IsValid.ensures, c.in-IsValid.is, as-IsValid c.in-IsValid.at c.in-IsValid.path c.args.operand) (simp texts))
