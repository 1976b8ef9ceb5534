-- What holds of all flows is kept by each change of the rows and of the buffer.
use Rattle.std.proofs.Common.{◌≡◌, ◌≢◌, ℕ, zero, suc, ◌+◌, ◌<◌, ◌≤◌, Bool, true, false, List, [], ◌∷◌, ◌++◌, length, length-append, None, refl, sym, subst, arith, map, filter, eq-eqb}
use Rattle.std.specs.Prelude.{◌==◌, All}
use Rattle.std.proofs.lemmas.Bool.{ne_eqb}
use Rattle.link_arena.specs.Lists.{find, without}
use Rattle.key_table.specs.Table.{Key}
use Rattle.mirror_buf.specs.declared.kept.Kept.{Kept}
use Rattle.mirror_buf.specs.Copies.{Named, Copies, sent_by, sent_at, with_copy}
use Rattle.mirror_buf.specs.Places.{Each, Ordered, Apart, Sooner}
use Rattle.mirror_buf.proofs.Listing.{each_weaker, each_filter, each_last, ordered_filter, ordered_last, not_there, without_none, filter_none}
use Rattle.switch_flows.specs.Places.{Distinct}
use Rattle.switch_flows.specs.Kept.{AreFlows, first_by, placed}

pub all_of_each : (P : Named → Type 0) (cs : List Named) → Each P cs → All P cs
all_of_each P [] h j e lt = absurd (omega (arith, lt))
all_of_each P (c ∷ cs) h zero e lt = h.0
all_of_each P (c ∷ cs) h (suc j) e lt = all_of_each P cs h.1 j e (omega (arith, lt))

pub none_yet : (b : Copies) → b ≡ record { copies = []; slots = 1024 } → AreFlows [] b 0
none_yet b is =
    subst (λ (w : Copies). AreFlows [] w 0) (sym is)
    (record { few = omega arith; distinct = tt; room = refl; there = tt; first = tt; sent = tt; apart = tt; sooner = tt })

module _ (ks : List Key) (b : Copies) (moment : ℕ) (h : AreFlows ks b moment) where
  pub later : (now : ℕ) → moment ≤ now → AreFlows ks b now
  later now le =
      record {
        few = h.few;
        distinct = h.distinct;
        room = h.room;
        there = h.there;
        first = each_weaker (first_by moment) (first_by now) b.copies (λ c past. omega (arith, past, le)) h.first;
        sent = each_weaker (sent_by moment) (sent_by now) b.copies (λ c past. omega (arith, past, le)) h.sent;
        apart = h.apart;
        sooner = h.sooner;
      }

  pub one_key_more : (k : Key) → length ks < 1024 → Distinct (ks ++ k ∷ []) → AreFlows (ks ++ k ∷ []) b moment
  one_key_more k lt distinct =
      let long : length (ks ++ k ∷ []) ≡ length ks + 1 = length-append ks (k ∷ []) in
      record {
        few = omega (arith, long, lt);
        distinct = distinct;
        room = h.room;
        there = each_weaker (placed (length ks)) (placed (length (ks ++ k ∷ []))) b.copies (λ c le. omega (arith, le, long)) h.there;
        first = h.first;
        sent = h.sent;
        apart = h.apart;
        sooner = h.sooner;
      }

  -- copies are taken out
  pub fewer : (p : Named → Bool) (w : Copies) → w ≡ record b { copies = filter p b.copies } → AreFlows ks w moment
  fewer p w is =
      subst (λ (v : Copies). AreFlows ks v moment) (sym is)
      (record {
        few = h.few;
        distinct = h.distinct;
        room = h.room;
        there = each_filter (placed (length ks)) p b.copies h.there;
        first = each_filter (first_by moment) p b.copies h.first;
        sent = each_filter (sent_by moment) p b.copies h.sent;
        apart = ordered_filter Apart p b.copies h.apart;
        sooner = ordered_filter Sooner p b.copies h.sooner;
      })

  -- a copy is added
  pub one_more : (id : ℕ) (k : Kept) (w : Copies) → find id b.copies ≡ None → k.slot < length ks → k.first ≤ moment → k.sent ≡ moment → w ≡ with_copy b id k → AreFlows ks w moment
  one_more id k w free lt first sent is =
      subst (λ (v : Copies). AreFlows ks v moment) (sym is)
      (record {
        few = h.few;
        distinct = h.distinct;
        room = h.room;
        there = each_last (placed (length ks)) b.copies (id, k) h.there lt;
        first = each_last (first_by moment) b.copies (id, k) h.first first;
        sent = each_last (sent_by moment) b.copies (id, k) h.sent (omega (arith, sent));
        apart = ordered_last Apart b.copies (id, k) h.apart (not_there id b.copies free);
        sooner = ordered_last Sooner b.copies (id, k) h.sooner (each_weaker (sent_by moment) (λ c. c.1.sent ≤ k.sent) b.copies (λ c past. omega (arith, past, sent)) h.sent);
      })

  -- the first copy is sent again
  pub first_again : (c : Named) (rest : List Named) (w : Copies) → b.copies ≡ c ∷ rest → w ≡ record b { copies = rest ++ sent_at moment c ∷ [] } → AreFlows ks w moment
  first_again c rest w was is =
      let there = subst (Each (placed (length ks))) was h.there in
      let first = subst (Each (first_by moment)) was h.first in
      let sent = subst (Each (sent_by moment)) was h.sent in
      let apart = subst (Ordered Apart) was h.apart in
      let sooner = subst (Ordered Sooner) was h.sooner in
      subst (λ (v : Copies). AreFlows ks v moment) (sym is)
      (record {
        few = h.few;
        distinct = h.distinct;
        room = h.room;
        there = each_last (placed (length ks)) rest (sent_at moment c) there.1 there.0;
        first = each_last (first_by moment) rest (sent_at moment c) first.1 first.0;
        sent = each_last (sent_by moment) rest (sent_at moment c) sent.1 (omega arith);
        apart = ordered_last Apart rest (sent_at moment c) apart.1 (each_weaker (Apart c) (λ d. d.0 ≢ c.0) rest (λ d ne e. ne (sym e)) apart.0);
        sooner = ordered_last Sooner rest (sent_at moment c) sooner.1 sent.1;
      })

-- what the buffer says of its first copy, sent again
pub resent_first : (now : ℕ) (c : Named) (rest : List Named) → Ordered Apart (c ∷ rest) →
    without c.0 (c ∷ rest) ++ map (sent_at now) (filter (λ d. d.0 == c.0) (c ∷ rest)) ≡ rest ++ sent_at now c ∷ []
resent_first now c rest apart =
    let others : Each (λ d. d.0 ≢ c.0) rest = each_weaker (Apart c) (λ d. d.0 ≢ c.0) rest (λ d ne e. ne (sym e)) apart.0 in
    let test : (c.0 == c.0) ≡ true = eq-eqb c.0 c.0 refl in
    let away : without c.0 rest ≡ rest = without_none c.0 rest others in
    let none : filter (λ (d : Named). d.0 == c.0) rest ≡ [] = filter_none (λ d. d.0 == c.0) rest (each_weaker (λ d. d.0 ≢ c.0) (λ d. (d.0 == c.0) ≡ false) rest (λ d ne. ne_eqb d.0 c.0 ne) others) in
    rw (test, away, none) refl
