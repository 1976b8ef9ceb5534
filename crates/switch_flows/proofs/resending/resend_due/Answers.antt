use Rattle.std.proofs.Common.{◌≡◌, ◌∙◌, ◌<◌, ◌+◌, length, refl, ap, sym, subst, arith, add-one}
use Rattle.std.specs.Prelude.{IsSome}
use Rattle.link_arena.specs.Lists.{find}
use Rattle.key_table.specs.Table.{keys}
use Rattle.mirror_buf.specs.Copies.{due_ids, resent}
use Rattle.mirror_buf.proofs.Listing.{found_each}
use Rattle.switch_flows.specs.Kept.{placed, copy_of}
use Rattle.switch_flows.proofs.Rows.{length_keys}
use Rattle.switch_flows.proofs.Leading.{next, name_at, due_there, found, same_kept, flows_on, copies_on, due_on}
use Rattle.switch_flows.proofs.resending.resend_due.Goals as goal

pub get-requires : goal.get-requires
get-requires c =
    let cs = c.args.copies.now.copies in
    let names : c.deref.result.now ≡ due_ids c.args.now c.args.age 64 cs = c.deref.ensures.0 ∙ c.due_names-names.ensures in
    let lt : c.loop-i.i < length c.deref.result.now = omega (arith, c.loop-i-test.true, c.len-i-end.ensures.value, ap length c.deref.ensures.0) in
    let n = next cs c.loop-i.i (due_there c.args.now c.args.age (keys c.args.rows.now.entries) cs c.requires.sooner c.deref.result.now names c.loop-i.i lt) in
    let name : c.index-deref-i.result ≡ n.copy.0 = c.index-deref-i.is ∙ name_at c.args.now c.args.age (keys c.args.rows.now.entries) cs c.requires.sooner c.deref.result.now names c.loop-i.i lt n c.index-deref-i.result in
    subst IsSome (sym (ap (λ x. find x c.loop-i.copies.copies) name ∙ found c.args.now (keys c.args.rows.now.entries) cs c.loop-i.i n c.loop-i.copies c.loop-i.invariant.flows c.loop-i.invariant.copies)) refl

pub put_copy-requires : goal.put_copy-requires
put_copy-requires c =
    let lt : placed (length (keys c.args.rows.now.entries)) (c.index-deref-i.result, c.get.result.now) =
    found_each (placed (length (keys c.args.rows.now.entries))) c.index-deref-i.result c.get.result.now c.loop-i.copies.copies c.loop-i.invariant.flows.there c.get.ensures in
    omega (arith, lt, length_keys c.args.rows.now.entries)

pub loop-i-preserved : goal.loop-i-preserved
loop-i-preserved c =
    let ks = keys c.args.rows.now.entries in
    let cs = c.args.copies.now.copies in
    let names : c.deref.result.now ≡ due_ids c.args.now c.args.age 64 cs = c.deref.ensures.0 ∙ c.due_names-names.ensures in
    let lt : c.loop-i.i < length c.deref.result.now = omega (arith, c.loop-i-test.true, c.len-i-end.ensures.value, ap length c.deref.ensures.0) in
    let n = next cs c.loop-i.i (due_there c.args.now c.args.age ks cs c.requires.sooner c.deref.result.now names c.loop-i.i lt) in
    let name : c.index-deref-i.result ≡ n.copy.0 = c.index-deref-i.is ∙ name_at c.args.now c.args.age ks cs c.requires.sooner c.deref.result.now names c.loop-i.i lt n c.index-deref-i.result in
    let new = c.resent.ensures ∙ ap (λ x. resent c.loop-i.copies x c.args.now) name in
    let kept : c.get.result.now ≡ n.copy.1 =
    same_kept c.get.result.now n.copy.1
    (sym c.get.ensures ∙ (ap (λ x. find x c.loop-i.copies.copies) name ∙ found c.args.now ks cs c.loop-i.i n c.loop-i.copies c.loop-i.invariant.flows c.loop-i.invariant.copies)) in
    record {
      flows = flows_on c.args.now ks cs c.loop-i.i n c.loop-i.copies c.loop-i.invariant.flows c.loop-i.invariant.copies c.resent.new.self new;
      copies = copies_on c.args.now ks cs c.loop-i.i n c.loop-i.copies c.loop-i.invariant.flows c.loop-i.invariant.copies c.resent.new.self (c.loop-i.i + 1) (add-one c.loop-i.i) new;
      due = due_on c.args.now ks cs c.loop-i.i n c.loop-i.copies c.loop-i.invariant.flows c.loop-i.invariant.copies c.loop-i.due.items c.push.new.self.items c.in_ok-put_copy.field-0 (c.loop-i.i + 1) (add-one c.loop-i.i)
          c.loop-i.invariant.due (c.in_ok-put_copy.ensures ∙ ap (copy_of ks) kept) c.in_ok-push.ensures.items;
    }
