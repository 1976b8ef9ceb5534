use Rattle.std.proofs.Common.{◌≡◌, ◌∙◌, ◌++◌, ◌∷◌, [], Bool, true, false, not, refl, sym, ap, subst}
use Rattle.std.specs.Prelude.{nat_eq}
use Rattle.std.specs.List.{list_any}
use Rattle.std.proofs.lemmas.List.{take_all, take_more}
use Rattle.report_audit.proofs.Parts.{Apart}
use Rattle.report_audit.proofs.Turns.{mark, twice, still_apart}
use Rattle.report_audit.proofs.apart.are_apart.Goals as goal

other : (b c : Bool) → b ≡ not c → b ≡ false → c ≡ true
other b true is h = refl
other b false is h = sym h ∙ is

same : (b c : Bool) → b ≡ not c → b ≡ true → c ≡ false
same b true is h = sym h ∙ is
same b false is h = refl

pub returns-then-not-branch : goal.returns-then-not-branch
returns-then-not-branch c =
    let seen : list_any (nat_eq (mark c.args.marks.now c.loop-mark.mark-index c.loop-mark.seen.keys c.loop-mark.invariant.keys c.loop-mark-test.true)) c.loop-mark.seen.keys ≡ true =
    other c.in_ok-insert.field-0 _ c.in_ok-insert.ensures.added c.if-not-branch.true in
    (λ e. absurd cc, λ apart. absurd (twice c.args.marks.now c.loop-mark.mark-index c.loop-mark.seen.keys c.loop-mark.invariant.keys c.loop-mark-test.true seen apart))

pub loop-mark-preserved : goal.loop-mark-preserved
loop-mark-preserved c =
    let new : list_any (nat_eq (mark c.args.marks.now c.loop-mark.mark-index c.loop-mark.seen.keys c.loop-mark.invariant.keys c.loop-mark-test.true)) c.loop-mark.seen.keys ≡ false =
    same c.in_ok-insert.field-0 _ c.in_ok-insert.ensures.added c.if-not-branch.false in
    record {
      keys = c.in_ok-insert.ensures.keys
          ∙ (rw new refl)
          ∙ ap (λ l. l ++ mark c.args.marks.now c.loop-mark.mark-index c.loop-mark.seen.keys c.loop-mark.invariant.keys c.loop-mark-test.true ∷ []) c.loop-mark.invariant.keys
          ∙ sym (take_more c.args.marks.now c.loop-mark.mark-index 0 c.loop-mark-test.true);
      apart = still_apart c.args.marks.now c.loop-mark.mark-index c.loop-mark.seen.keys c.loop-mark.invariant.keys c.loop-mark-test.true new c.loop-mark.invariant.apart;
    }

pub returns : goal.returns
returns c = (λ e. subst Apart (take_all c.loop-mark.mark-index c.args.marks.now c.loop-mark-test.false) c.loop-mark.invariant.apart, λ apart. refl)
