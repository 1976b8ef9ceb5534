-- An accepted program reaches cells only behind a `flow_key` that stands in a tail block.
use Rattle.std.proofs.Common.{◌≡◌, true, [], None, refl, ap, ◌∙◌}
use Rattle.std.specs.Cmp.Derive.{both_true}
use Rattle.std.proofs.lemmas.Bool.{false≢true}
use Rattle.p4_ast.specs.declared.program.P4Program.{P4Program}
use Rattle.p4_scope.specs.declared.thing.Site.TheVariants as site
use Rattle.p4_scope.specs.Scopes.{Scope}
use Rattle.p4_check.specs.declared.part.Parts.{Parts}
use Rattle.p4_check.specs.Programs.{with_parts, bad_tree, checked}
use Rattle.app_meaning.specs.Premises.{reach_of, program_keyed}
use Rattle.check_laws.proofs.Onward.{sited}
use Rattle.check_laws.proofs.ProgramWalk.{inside, locals_of, IsClean, clean_program, program_is}
use Rattle.check_laws.proofs.Plain.{Covers, still_covers}
use Rattle.check_laws.proofs.TailBlocks.{block_tail}
use Rattle.check_laws.proofs.Reaching.{locals_keyless, known_all}
use Rattle.check_laws.proofs.ReachingTables.{listing_all}

-- what reaches cells is known to behind the declarations
covered : (p : P4Program) → IsClean p → Covers (reach_of (locals_of p).1) (locals_of p).0
covered p c = record {
  calls = known_all p.ingress.locals (inside p) c.locals;
  applies = listing_all p.ingress.locals (inside p) [] (λ x h. absurd (false≢true h)) c.locals;
}

pub keyed_program : (p : P4Program) → bad_tree p ≡ None → program_keyed (checked p) ≡ true
keyed_program p h =
    let c : IsClean p = clean_program p h in
    let s : Scope = (locals_of p).0 in
    let v : Scope = record s { site = site.Tail } in
    ap (λ (r : Scope × Parts). program_keyed (with_parts p r.1)) (program_is p)
    ∙ both_true (locals_keyless p.ingress.locals (inside p) c.locals)
    (block_tail (reach_of (locals_of p).1) p.ingress.block v c.block refl (still_covers (reach_of (locals_of p).1) s v (sited site.Tail s).on (covered p c)))
