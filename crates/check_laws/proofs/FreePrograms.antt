-- An accepted program names `rp` nowhere.
use Rattle.std.proofs.Common.{◌≡◌, true, not, length, take, None, refl, ap, ◌∙◌, codes}
use Rattle.std.specs.Prelude.{bytes_eq}
use Rattle.std.specs.Map.{lookup}
use Rattle.std.specs.Option.{option_map_or}
use Rattle.std.specs.Cmp.Derive.{both_true}
use Rattle.std.proofs.lemmas.Bool.{not_from_false}
use Rattle.std.proofs.Math.Seq.{take-append_seam}
use Rattle.rp_base.specs.declared.refused.Why.TheVariants as why
use Rattle.p4_ast.specs.declared.control.P4Param.{P4Param}
use Rattle.p4_ast.specs.declared.program.P4Program.{P4Program}
use Rattle.p4_scope.specs.declared.kind.Kind.TheVariants as kind
use Rattle.p4_scope.specs.declared.thing.Thing.TheVariants as thing
use Rattle.p4_scope.specs.declared.thing.Site.TheVariants as site
use Rattle.p4_scope.specs.Faults.{fault}
use Rattle.p4_scope.specs.Scopes.{Scope, declare}
use Rattle.p4_scope.specs.Params.{same_param}
use Rattle.p4_check.specs.declared.part.Parts.{Parts}
use Rattle.p4_check.specs.Programs.{with_parts, bad_tree, checked}
use Rattle.app_meaning.specs.Premises.{is_rp, reach_of, program_free}
use Rattle.check_laws.proofs.Clean.{clean_both}
use Rattle.check_laws.proofs.Onward.{NoRp, Onward, onward_then, new_name}
use Rattle.check_laws.proofs.Locals.{locals_onward}
use Rattle.check_laws.proofs.ProgramWalk.{declarations_of, parser_of, headers_of, meta_of, outside, inside, locals_of, block_of, behind, IsClean, clean_program, program_is, declarations_within, parser_of_within, outside_within, inside_within, block_of_within}
use Rattle.check_laws.proofs.FreeBlocks.{block_free}
use Rattle.check_laws.proofs.FreeLocals.{all_locals_free}
use Rattle.check_laws.proofs.FreeParsers.{parser_free, deparser_free}

-- `rp` is visible nowhere
record IsHidden (p : P4Program) : Type 0 where
  declarations : NoRp (declarations_of p).0
  inside : NoRp (inside p)
  locals : NoRp (locals_of p).0
  behind : NoRp (behind p)

-- from the name of the ingress control to the end of its block
ingress_onward : (p : P4Program) → Onward (outside p) (block_of p).0
ingress_onward p =
    onward_then (outside p) (inside p) (block_of p).0 (inside_within p).on
    (onward_then (inside p) (locals_of p).0 (block_of p).0 (locals_onward p.ingress.locals (inside p)) (block_of_within p).on)

hidden : (p : P4Program) → IsClean p → IsHidden p
hidden p c =
    let declarations : NoRp (declarations_of p).0 = (declarations_within p).on.free c.declarations refl in
    let parser : NoRp (parser_of p).0 = (parser_of_within p).on.free c.parser declarations in
    let out : NoRp (outside p) = (outside_within p).on.free c.outside parser in
    let into : NoRp (inside p) = (inside_within p).on.free c.inside out in
    let names = (ingress_onward p).names in
    record {
      declarations = declarations;
      inside = into;
      locals = (locals_onward p.ingress.locals (inside p)).free c.locals into;
      behind =
          ap (λ l. lookup (bytes_eq (codes "rp")) (take (length (outside p).names) l)) names.1
          ∙ (ap (lookup (bytes_eq (codes "rp"))) (take-append_seam (outside p).names names.0) ∙ out);
    }

-- the third parameter has another name
std_free : (p : P4Program) → IsClean p → not (is_rp p.ingress.std.text) ≡ true
std_free p c =
    let s : Scope = same_param (meta_of p) p.ingress.meta (same_param (headers_of p) p.ingress.headers (outside p)) in
    let t : Scope = declare p.ingress.std (thing.Var kind.Std) s in
    let f = clean_both t.fault (option_map_or (λ (q : P4Param). fault why.Kind q.at) p.ingress.rp None) c.inside in
    not_from_false (is_rp p.ingress.std.text) (new_name p.ingress.std (thing.Var kind.Std) s f.0).own

pub free_program : (p : P4Program) → bad_tree p ≡ None → program_free (checked p) ≡ true
free_program p h =
    let c : IsClean p = clean_program p h in
    let g : IsHidden p = hidden p c in
    let states = parser_free p.parser (declarations_of p).0 g.declarations c.parser in
    let locals = all_locals_free p.ingress.locals (inside p) g.inside c.locals in
    let block = block_free (reach_of (locals_of p).1) p.ingress.block (record (locals_of p).0 { site = site.Tail }) g.locals c.block in
    let emits = deparser_free (headers_of p) p.deparser (behind p) g.behind c.end in
    ap (λ (r : Scope × Parts). program_free (with_parts p r.1)) (program_is p)
    ∙ both_true (both_true (both_true (both_true states (std_free p c)) locals) block) emits
