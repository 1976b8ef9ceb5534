use Rattle.std.proofs.Common.{◌≡◌, ◌∙◌, ◌<◌, ◌++◌, ◌∷◌, List, ap, sym, subst, arith}
use Rattle.rp_base.specs.declared.legality.Fed.{Fed}
use Rattle.proto_model.specs.Feeds.{fed_at}
use Rattle.report_audit.specs.Rising.{MarksRise}
use Rattle.report_audit.proofs.Halves.{halves, front_rises, behind_rises, found_here, found_behind, found_before}
use Rattle.report_audit.proofs.feeds.+fed_in.Goals as goal

pub fed_in-requires : goal.fed_in-requires
fed_in-requires t c =
    let parts : c.args.feeds.now ≡ c.split_at.result.0.now ++ c.in_ok-fed.fed.now ∷ c.in_ok-fed.behind.now = halves c.split_at.result.0.now c.split_at.ensures.by_index.0 c.in_ok-fed.ensures.cases.0 in
    (omega (arith, c.in_ok-fed.ensures.cases.1, c.split_at.ensures.back_len), behind_rises c.split_at.result.0.now c.in_ok-fed.fed.now c.in_ok-fed.behind.now (subst MarksRise parts c.requires))

pub fed_in-requires-else-fed-mark-2 : goal.fed_in-requires-else-fed-mark-2
fed_in-requires-else-fed-mark-2 t c =
    (omega (arith, c.in_ok-fed.ensures.cases.1, c.split_at.ensures.back_len, c.split_at.ensures.front_len), front_rises c.split_at.result.0.now c.split_at.result.1.now (subst MarksRise c.split_at.ensures.by_index.0 c.requires))

pub returns-then-fed-mark : goal.returns-then-fed-mark
returns-then-fed-mark t c =
    let parts : c.args.feeds.now ≡ c.split_at.result.0.now ++ c.in_ok-fed.fed.now ∷ c.in_ok-fed.behind.now = halves c.split_at.result.0.now c.split_at.ensures.by_index.0 c.in_ok-fed.ensures.cases.0 in
    sym (ap (λ (fs : List Fed). fed_at fs c.args.mark) parts ∙ found_here c.split_at.result.0.now c.in_ok-fed.fed.now c.in_ok-fed.behind.now c.args.mark (subst MarksRise parts c.requires) c.if-fed-mark.true)

pub returns-then-fed-mark-2 : goal.returns-then-fed-mark-2
returns-then-fed-mark-2 t c =
    let parts : c.args.feeds.now ≡ c.split_at.result.0.now ++ c.in_ok-fed.fed.now ∷ c.in_ok-fed.behind.now = halves c.split_at.result.0.now c.split_at.ensures.by_index.0 c.in_ok-fed.ensures.cases.0 in
    c.fed_in.ensures ∙ sym (ap (λ (fs : List Fed). fed_at fs c.args.mark) parts ∙ found_behind c.split_at.result.0.now c.in_ok-fed.fed.now c.in_ok-fed.behind.now c.args.mark (subst MarksRise parts c.requires) c.if-fed-mark-2.true)

pub returns-else-fed-mark-2 : goal.returns-else-fed-mark-2
returns-else-fed-mark-2 t c =
    let parts : c.args.feeds.now ≡ c.split_at.result.0.now ++ c.in_ok-fed.fed.now ∷ c.in_ok-fed.behind.now = halves c.split_at.result.0.now c.split_at.ensures.by_index.0 c.in_ok-fed.ensures.cases.0 in
    let above : c.args.mark < c.in_ok-fed.fed.now.packet.mark = omega (arith, c.if-fed-mark.false, c.if-fed-mark-2.false) in
    c.fed_in-else-fed-mark-2.ensures ∙ sym (ap (λ (fs : List Fed). fed_at fs c.args.mark) parts ∙ found_before c.split_at.result.0.now c.in_ok-fed.fed.now c.in_ok-fed.behind.now c.args.mark (subst MarksRise parts c.requires) above)
