-- The scopes of a program's walk, and what holds of them where the program has no fault.
use Rattle.std.proofs.Common.{◌≡◌, ◌≤◌, Bool, true, false, List, [], length, take, Option, Some, None, refl, sym, ap, ◌∙◌, arith}
use Rattle.std.specs.Option.{option_map_or}
use Rattle.rp_base.specs.declared.refused.Why.TheVariants as why
use Rattle.p4_ast.specs.declared.declaration.P4Declaration.{P4Declaration}
use Rattle.p4_ast.specs.declared.declaration.P4Declaration.TheVariants as declaration
use Rattle.p4_ast.specs.declared.control.P4Ingress.{P4Ingress}
use Rattle.p4_ast.specs.declared.control.P4Local.{P4Local}
use Rattle.p4_ast.specs.declared.control.P4Param.{P4Param}
use Rattle.p4_ast.specs.declared.statement.P4Block.{P4Block}
use Rattle.p4_ast.specs.declared.parser.P4Parser.{P4Parser}
use Rattle.p4_ast.specs.declared.parser.P4State.{P4State}
use Rattle.p4_ast.specs.declared.program.P4Deparser.{P4Deparser}
use Rattle.p4_ast.specs.declared.program.P4Program.{P4Program}
use Rattle.p4_scope.specs.declared.kind.Kind.{Kind}
use Rattle.p4_scope.specs.declared.thing.Thing.TheVariants as thing
use Rattle.p4_scope.specs.declared.thing.Site.TheVariants as site
use Rattle.p4_scope.specs.Faults.{fault, first_in}
use Rattle.p4_scope.specs.Scopes.{Scope, outermost, note, declare, each}
use Rattle.p4_scope.specs.Params.{struct_kind, same_param, parser_param}
use Rattle.p4_scope.specs.FlowKeys.{closed, reach_listed, unreached}
use Rattle.p4_stmts.specs.Statements.{block}
use Rattle.p4_check.specs.declared.part.Parts.{Parts}
use Rattle.p4_check.specs.Parsers.{params, parser}
use Rattle.p4_check.specs.Programs.{declaration_, local_, inputs, ingress_body, ingress_in, ingress, deparser, package_fault, controls, behind_declarations, program, bad_tree, checked}
use Rattle.app_meaning.specs.Programs.{cell_count}
use Rattle.check_laws.proofs.Clean.{clean_both, not_clean}
use Rattle.check_laws.proofs.Onward.{Within, within_then, same_within, noted, sited, left, declared}
use Rattle.check_laws.proofs.Blocks.{block_within}
use Rattle.check_laws.proofs.Lists.{each_within}
use Rattle.check_laws.proofs.Locals.{const_within, locals_onward, locals_cells}

-- ---- the walk

-- the declarations before the parser
abbrev pub declarations_of : P4Program → Scope × List P4Declaration
declarations_of p = each declaration_ p.declarations outermost []

-- the parser
abbrev pub parser_of : P4Program → Scope × List P4State
parser_of p = parser p.parser (declarations_of p).0

-- the structure of headers
abbrev pub headers_of : P4Program → Kind
headers_of p = (struct_kind p.parser.headers.type_ (declarations_of p).0).1

-- the structure of metadata
abbrev pub meta_of : P4Program → Kind
meta_of p = (struct_kind p.parser.meta.type_ (declarations_of p).0).1

-- behind the name of the ingress control
abbrev pub outside : P4Program → Scope
outside p = declare p.ingress.name thing.Ingress (parser_of p).0

-- behind its parameters
abbrev pub inside : P4Program → Scope
inside p = inputs (headers_of p) (meta_of p) p.ingress (outside p)

-- its declarations
abbrev pub locals_of : P4Program → Scope × List P4Local
locals_of p = each local_ p.ingress.locals (inside p) []

-- its block
abbrev pub block_of : P4Program → Scope × P4Block
block_of p = block p.ingress.block (record (locals_of p).0 { site = site.Tail })

-- behind it
abbrev pub behind : P4Program → Scope
behind p = closed (record (block_of p).0 { names = take (length (outside p).names) (block_of p).0.names; site = site.Other })

-- behind the deparser
abbrev pub deparser_of : P4Program → Scope
deparser_of p = deparser (headers_of p) p.deparser (behind p)

pub program_is : (p : P4Program) → program p ≡ (
  note (package_fault p.«package» (deparser_of p)) (deparser_of p),
  record { declarations = (declarations_of p).1; states = (parser_of p).1; locals = (locals_of p).1; block = (block_of p).1 },
)
unfolding program behind_declarations controls ingress ingress_in ingress_body
program_is p = refl

-- ---- parts of the walk

pub with_params : (want : Kind) (q : P4Param) (s : Scope) → Within s (same_param want q s)
with_params want q s = within_then s _ _ (noted _ s) (declared q.name _ _)

parser_params : (of_headers : Bool) (q : P4Param) (s : Scope) → Within s (parser_param of_headers q s)
parser_params of_headers q s = within_then s _ _ (noted _ s) (declared q.name _ _)

pub params_within : (p : P4Parser) (s : Scope) → Within s (params p s)
params_within p s =
    within_then s _ _ (declared p.packet thing.Packet s)
    (within_then _ _ _ (parser_params true p.headers _) (within_then _ _ _ (parser_params false p.meta _) (declared p.std _ _)))

parser_within : (p : P4Parser) (s : Scope) → Within s (parser p s).0
unfolding parser
parser_within p s =
    let u : Scope = declare p.name thing.Parser s in
    within_then s u _ (declared p.name thing.Parser s) (within_then u _ _ (left u _ (params_within p u)) (noted _ _))

deparser_within : (h : Kind) (d : P4Deparser) (s : Scope) → Within s (deparser h d s)
unfolding deparser
deparser_within h d s =
    let u : Scope = declare d.name thing.Deparser s in
    within_then s u _ (declared d.name thing.Deparser s)
    (left u _ (within_then u _ _ (declared d.packet thing.Packet u) (within_then _ _ _ (with_params h d.headers _) (noted _ _))))

inputs_within : (h m : Kind) (c : P4Ingress) (s : Scope) → Within s (inputs h m c s)
inputs_within h m c s =
    within_then s _ _ (with_params h c.headers s)
    (within_then _ _ _ (with_params m c.meta _) (within_then _ _ _ (declared c.std _ _) (noted _ _)))

declaration_within : (d : P4Declaration) (s : Scope) → Within s (declaration_ d s).0
declaration_within (declaration.Header h) s =
    within_then s _ _ (noted _ s) (within_then _ _ _ (same_within _ _ (λ e. e) refl refl refl refl (λ e. e)) (declared h.name _ _))
declaration_within (declaration.Struct t) s =
    within_then s _ _ (noted _ s) (within_then _ _ _ (same_within _ _ (λ e. e) refl refl refl refl (λ e. e)) (declared t.name _ _))
declaration_within (declaration.Typedef t) s = within_then s _ _ (noted _ s) (declared t.name _ _)
declaration_within (declaration.Const c) s = const_within c s

pub declarations_within : (p : P4Program) → Within outermost (declarations_of p).0
declarations_within p = each_within declaration_ declaration_within p.declarations outermost []

pub parser_of_within : (p : P4Program) → Within (declarations_of p).0 (parser_of p).0
parser_of_within p = parser_within p.parser (declarations_of p).0

pub outside_within : (p : P4Program) → Within (parser_of p).0 (outside p)
outside_within p = declared p.ingress.name thing.Ingress (parser_of p).0

pub inside_within : (p : P4Program) → Within (outside p) (inside p)
inside_within p = inputs_within (headers_of p) (meta_of p) p.ingress (outside p)

pub block_of_within : (p : P4Program) → Within (locals_of p).0 (block_of p).0
block_of_within p = within_then _ _ _ (sited site.Tail (locals_of p).0) (block_within p.ingress.block _)

pub deparser_of_within : (p : P4Program) → Within (behind p) (deparser_of p)
deparser_of_within p = deparser_within (headers_of p) p.deparser (behind p)

-- ---- an accepted program

-- no part of the walk has a fault
pub record IsClean (p : P4Program) : Type 0 where
  pub end : (deparser_of p).fault ≡ None
  pub behind : (behind p).fault ≡ None
  pub block : (block_of p).0.fault ≡ None
  pub locals : (locals_of p).0.fault ≡ None
  pub inside : (inside p).fault ≡ None
  pub outside : (outside p).fault ≡ None
  pub parser : (parser_of p).0.fault ≡ None
  pub declarations : (declarations_of p).0.fault ≡ None

pub clean_program : (p : P4Program) → bad_tree p ≡ None → IsClean p
clean_program p h =
    let s : Scope = deparser_of p in
    let end : s.fault ≡ None = (clean_both s.fault (package_fault p.«package» s) (sym (ap (λ (r : Scope × Parts). r.0.fault) (program_is p)) ∙ h)).0 in
    let before : (behind p).fault ≡ None = (deparser_of_within p).on.clean end in
    let r : Scope = (block_of p).0 in
    let parts = clean_both r.fault (first_in unreached (reach_listed r.tables r.actions) None) before in
    let locals = (block_of_within p).on.clean parts.0 in
    let inside = (locals_onward p.ingress.locals (inside p)).clean locals in
    let outside = (inside_within p).on.clean inside in
    let parser = (outside_within p).on.clean outside in
    record {
      end = end;
      behind = before;
      block = parts.0;
      locals = locals;
      inside = inside;
      outside = outside;
      parser = parser;
      declarations = (parser_of_within p).on.clean parser;
    }

-- ---- no fourth parameter, and few cells

source_inside : (rp : Option P4Param) → option_map_or (λ (q : P4Param). fault why.Kind q.at) rp None ≡ None → rp ≡ None
source_inside None h = refl
source_inside (Some q) h = absurd (not_clean why.Kind q.at h)

pub no_fourth : (p : P4Program) → bad_tree p ≡ None → p.ingress.rp ≡ None
no_fourth p h = source_inside p.ingress.rp (clean_both _ (option_map_or (λ (q : P4Param). fault why.Kind q.at) p.ingress.rp None) (clean_program p h).inside).1

cells_inside : (p : P4Program) → (inside p).cells ≡ 0
cells_inside p = (inside_within p).cells ∙ ((outside_within p).cells ∙ ((parser_of_within p).cells ∙ (declarations_within p).cells))

pub counted : (p : P4Program) → bad_tree p ≡ None → ((program p).0.cells ≡ cell_count (checked p)) × (cell_count (checked p) ≤ 256)
counted p h =
    let zero : (inside p).cells ≡ 0 = cells_inside p in
    let all = locals_cells p.ingress.locals (inside p) (clean_program p h).locals (omega (arith, zero)) in
    let same : (program p).0.cells ≡ (locals_of p).0.cells =
    ap (λ (r : Scope × Parts). r.0.cells) (program_is p) ∙ ((deparser_of_within p).cells ∙ (block_of_within p).cells) in
    let names : cell_count (checked p) ≡ cell_count (record p { ingress = record (p.ingress) { locals = (locals_of p).1 } }) =
    ap (λ (r : Scope × Parts). cell_count (record p { ingress = record (p.ingress) { locals = r.1.locals } })) (program_is p) in
    (omega (arith, same, all.0, zero, names), omega (arith, same, all.0, all.1, zero, names))
