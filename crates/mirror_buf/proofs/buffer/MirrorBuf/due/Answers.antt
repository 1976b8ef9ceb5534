use Rattle.std.proofs.Common.{◌≡◌, ◌-◌, ◌≤◌, ◌∙◌, ap, sym, subst, refl, suc, Some, length, append-nil, arith, ◌++◌, map, ℕ, true, eqb-true, ◌≢◌}
use Rattle.std.specs.Prelude.{take, drop}
use Rattle.link_arena.specs.Lists.{first_id, find}
use Rattle.mirror_buf.specs.Copies.{due_ids, is_due}
use Rattle.mirror_buf.proofs.Naming.{name_of, named_all, named_some, more_items, more_due, none_more, apart_seen, sooner_seen, found_seen, sent_seen, live_seen, next_seen, first_seen, is_due_of, within_all, none_left}
use Rattle.mirror_buf.specs.Places.{Each}
use Rattle.std.proofs.lemmas.Bool.{eqb-false}
use Rattle.mirror_buf.proofs.buffer.MirrorBuf.due.Goals as goal

pub loop-at-init : goal.loop-at-init
loop-at-init g c =
    let none : length c.args.into.now.items - length c.args.into.now.items ≡ 0 = omega arith in
    record {
      grown = omega arith;
      at = c.front-at.ensures ∙ (first_seen c.self.inside.arena c.self.invariant c.args.self.now c.self.view_is 0 ∙ ap (λ n. first_id (drop n c.args.self.now.copies)) (sym none));
      items = sym (ap (λ n. c.args.into.now.items ++ map name_of (take n c.args.self.now.copies)) none ∙ append-nil c.args.into.now.items);
      due = subst (λ n. Each (λ d. is_due c.args.now c.args.age d ≡ true) (take n c.args.self.now.copies)) (sym none) tt;
      cost = refl;
      room = omega arith;
    }

pub get-requires : goal.get-requires
get-requires g c = live_seen c.self.inside.arena c.self.invariant c.args.self.now c.self.view_is (length c.loop-at.into.items - length c.args.into.now.items) c.in-Some.id (sym c.loop-at.invariant.at ∙ c.in-Some.is)

pub overflow_sub-now : goal.overflow_sub-now
overflow_sub-now g c = sent_seen c.self.inside.arena c.self.invariant c.args.self.now c.self.view_is c.args.now c.in-Some.id c.get.result.now c.requires c.get.ensures.b

pub loop-at-preserved : goal.loop-at-preserved
loop-at-preserved g c =
    let was = c.loop-at.invariant in
    let n : ℕ = length c.loop-at.into.items - length c.args.into.now.items in
    let m : ℕ = length c.push.new.self.items - length c.args.into.now.items in
    let cs = c.args.self.now.copies in
    let apart = apart_seen c.self.inside.arena c.self.invariant c.args.self.now c.self.view_is in
    let first : first_id (drop n cs) ≡ Some c.in-Some.id = sym was.at ∙ c.in-Some.is in
    let more : m ≡ suc n = omega (arith, c.push.ensures.len, was.grown) in
    let found : find c.in-Some.id cs ≡ Some c.get.result.now = found_seen c.self.inside.arena c.self.invariant c.args.self.now c.self.view_is c.in-Some.id c.get.result.now c.get.ensures.b in
    let fits : length c.loop-at.into.items ≤ 64 = c.if-is_full.ensures.fits in
    let space : length c.loop-at.into.items ≢ 64 = eqb-false (length c.loop-at.into.items) 64 (sym c.if-is_full.ensures.value) in
    record {
      grown = omega (arith, c.push.ensures.len, was.grown);
      at = c.next-at.ensures ∙ next_seen c.self.inside.arena c.self.invariant c.args.self.now c.self.view_is n c.in-Some.id m first more;
      items = more_items cs apart n c.in-Some.id m first more c.args.into.now.items c.loop-at.into.items c.push.new.self.items was.items c.push.ensures.items;
      due = more_due cs apart n c.in-Some.id m first more c.args.now c.args.age c.get.result.now was.due found (is_due_of c.args.now c.args.age c.get.result.now.sent c.if-now-get.false);
      cost = omega (arith, c.push.ensures.len, c.tick.ensures, was.cost);
      room = omega (arith, c.push.ensures.len, fits, space);
    }

pub returns-then-is_full-clause-ids : goal.returns-then-is_full-clause-ids
returns-then-is_full-clause-ids g c =
    let was = c.loop-at.invariant in
    let n : ℕ = length c.loop-at.into.items - length c.args.into.now.items in
    let full : length c.loop-at.into.items ≡ 64 = eqb-true (length c.loop-at.into.items) 64 (sym c.if-is_full.ensures.value) in
    let room : n ≡ 64 - length c.args.into.now.items = omega (arith, full) in
    was.items
    ∙ ap (λ xs. c.args.into.now.items ++ xs)
    (named_some c.args.now c.args.age n c.args.self.now.copies was.due (within_all c.args.into.now.items c.loop-at.into.items c.args.self.now.copies was.items)
    ∙ ap (λ x. due_ids c.args.now c.args.age x c.args.self.now.copies) room)

pub returns-then-now-get-clause-ids : goal.returns-then-now-get-clause-ids
returns-then-now-get-clause-ids g c =
    let was = c.loop-at.invariant in
    let n : ℕ = length c.loop-at.into.items - length c.args.into.now.items in
    let cs = c.args.self.now.copies in
    let apart = apart_seen c.self.inside.arena c.self.invariant c.args.self.now c.self.view_is in
    let first : first_id (drop n cs) ≡ Some c.in-Some.id = sym was.at ∙ c.in-Some.is in
    let found : find c.in-Some.id cs ≡ Some c.get.result.now = found_seen c.self.inside.arena c.self.invariant c.args.self.now c.self.view_is c.in-Some.id c.get.result.now c.get.ensures.b in
    was.items
    ∙ ap (λ xs. c.args.into.now.items ++ xs)
    (named_all c.args.now c.args.age (64 - length c.args.into.now.items) n cs was.due
    (none_more cs apart n c.in-Some.id (suc n) first refl c.args.now c.args.age c.get.result.now (sooner_seen c.self.inside.arena c.self.invariant c.args.self.now c.self.view_is) found c.if-now-get.true)
    was.room)

pub returns-in_default-clause-ids : goal.returns-in_default-clause-ids
returns-in_default-clause-ids g c =
    let was = c.loop-at.invariant in
    let n : ℕ = length c.loop-at.into.items - length c.args.into.now.items in
    let cs = c.args.self.now.copies in
    was.items
    ∙ ap (λ xs. c.args.into.now.items ++ xs)
    (named_all c.args.now c.args.age (64 - length c.args.into.now.items) n cs was.due (none_left c.args.now c.args.age n cs (sym was.at ∙ c.in_default.is)) was.room)
