-- Names, types and expressions without their places, so that trees can be compared.
use Rattle.std.specs.Prelude.{map, option_map}
use Rattle.p4_ast.specs.declared.name.P4Name.{P4Name}
use Rattle.p4_ast.specs.declared.name.P4Number.{P4Number}
use Rattle.p4_ast.specs.declared.name.P4Path.{P4Path}
use Rattle.p4_ast.specs.declared.name.P4Slice.{P4Slice}
use Rattle.p4_ast.specs.declared.name.P4Left.{P4Left}
use Rattle.p4_ast.specs.declared.declaration.P4Type.{P4Type}
use Rattle.p4_ast.specs.declared.declaration.P4Type.TheVariants as type
use Rattle.p4_ast.specs.declared.declaration.P4Field.{P4Field}
use Rattle.p4_ast.specs.declared.control.P4Param.{P4Param}
use Rattle.p4_ast.specs.declared.expression.P4Expr.{P4Expr, fold-P4Expr}
use Rattle.p4_ast.specs.declared.expression.P4Expr.TheOpen as layer
use Rattle.p4_ast.specs.declared.expression.P4Expr.TheOpen.{P4Expr-F}
use Rattle.p4_ast.specs.declared.expression.P4Expr.TheVariants as expr

abbrev pub bare_name : P4Name → P4Name
bare_name n = record { at = 0; text = n.text }

abbrev pub bare_number : P4Number → P4Number
bare_number n = record { at = 0; value = n.value; width = n.width }

abbrev pub bare_path : P4Path → P4Path
bare_path p = record { at = 0; names = map bare_name p.names }

abbrev pub bare_slice : P4Slice → P4Slice
bare_slice s = record { at = 0; high = bare_number s.high; low = bare_number s.low }

abbrev pub bare_left : P4Left → P4Left
bare_left l = record { at = 0; path = bare_path l.path; slice = option_map bare_slice l.slice }

abbrev pub bare_type : P4Type → P4Type
bare_type (type.Bit at width) = type.Bit 0 (bare_number width)
bare_type (type.Bool at) = type.Bool 0
bare_type (type.Name at name) = type.Name 0 (bare_name name)
bare_type (type.StdT at) = type.StdT 0

abbrev pub bare_field : P4Field → P4Field
bare_field f = record { at = 0; type_ = bare_type f.type_; name = bare_name f.name }

abbrev pub bare_param : P4Param → P4Param
bare_param p = record { at = 0; type_ = bare_name p.type_; name = bare_name p.name }

-- one level, where its operands have no places
abbrev pub bare_expr_step : P4Expr-F P4Expr → P4Expr
bare_expr_step (layer.Choice at test first second) = expr.Choice 0 test first second
bare_expr_step (layer.Binary at op left right) = expr.Binary 0 op left right
bare_expr_step (layer.Unary at op operand) = expr.Unary 0 op operand
bare_expr_step (layer.Cast at type_ operand) = expr.Cast 0 (bare_type type_) operand
bare_expr_step (layer.Slice at operand slice) = expr.Slice 0 operand (bare_slice slice)
bare_expr_step (layer.Number at number) = expr.Number 0 (bare_number number)
bare_expr_step (layer.True at) = expr.True 0
bare_expr_step (layer.False at) = expr.False 0
bare_expr_step (layer.Path at path) = expr.Path 0 (bare_path path)
bare_expr_step (layer.IsValid at path) = expr.IsValid 0 (bare_path path)

abbrev pub bare_expr : P4Expr → P4Expr
bare_expr = fold-P4Expr P4Expr bare_expr_step
