-- Copies stand by their last sending, so those that are due lead.
use Rattle.std.proofs.Common.{◌≡◌, ℕ, zero, suc, ◌-◌, ◌<◌, ◌≤◌, Bool, true, false, List, [], ◌∷◌, ◌++◌, length, Some, refl, sym, ap, ◌∙◌, subst, arith, map, filter, take, drop, get_or, append_assoc, eq-eqb}
use Rattle.std.specs.Prelude.{◌==◌, nat_le}
use Rattle.std.proofs.lemmas.List.{length-map, length-take, map-append}
use Rattle.link_arena.specs.Lists.{find, without}
use Rattle.key_table.specs.Table.{Key}
use Rattle.mirror_buf.specs.Copies.{Named, Copies, is_due as due_slot, due_ids, sent_at, resent}
use Rattle.mirror_buf.specs.declared.kept.Kept.{Kept}
use Rattle.mirror_buf.specs.Places.{Each, Ordered, Apart, Sooner}
use Rattle.mirror_buf.proofs.Listing.{each_weaker, filter_none}
use Rattle.proto_model.specs.SwitchState.{Copy}
use Rattle.proto_model.specs.SwitchAlarm.{due_copies, other_copies}
use Rattle.switch_flows.specs.Kept.{AreFlows, copy_of, copies_of}
use Rattle.switch_flows.specs.Fronts.{due_count}
use Rattle.switch_flows.proofs.Steady.{first_again, resent_first}

abbrev name_of : Named → ℕ
name_of c = c.0

-- a copy that was sent at this moment
abbrev pub stamped : ℕ → Copy → Copy
stamped moment c = record c { sent = moment }

-- so many copies lead, and they are those that are due
pub record Leads (now age room : ℕ) (ks : List Key) (cs : List Named) (n : ℕ) : Type 0 where
  pub due : due_copies now age room (copies_of ks cs) ≡ copies_of ks (take n cs)
  pub others : other_copies now age room (copies_of ks cs) ≡ copies_of ks (drop n cs)
  pub names : due_ids now age room cs ≡ map name_of (take n cs)
  pub within : n ≤ length cs

not_due : (now age sent : ℕ) → now - sent < age → nat_le age (now - sent) ≡ false
not_due now age sent lt = grind (arith)

early : (now age sent : ℕ) → nat_le age (now - sent) ≡ false → now - sent < age
early now age sent is = grind (arith)

none_due : (now age room : ℕ) (ks : List Key) (cs : List Named) → Each (λ c. due_slot now age c ≡ false) cs → (due_copies now age room (copies_of ks cs) ≡ []) × (other_copies now age room (copies_of ks cs) ≡ copies_of ks cs)
none_due now age room ks [] h = (refl, refl)
none_due now age zero ks (c ∷ cs) h = (refl, refl)
none_due now age (suc room) ks (c ∷ cs) h =
    let test : nat_le age (now - c.1.sent) ≡ false = h.0 in
    let rest = none_due now age (suc room) ks cs h.1 in
    (rw test rest.0, rw test (ap (λ xs. copy_of ks c.1 ∷ xs) rest.1))

pub leads : (now age room : ℕ) (ks : List Key) (cs : List Named) → Ordered Sooner cs → (n : ℕ) × Leads now age room ks cs n
leads now age zero ks [] h = (0, record { due = refl; others = refl; names = refl; within = omega arith })
leads now age (suc room) ks [] h = (0, record { due = refl; others = refl; names = refl; within = omega arith })
leads now age zero ks (c ∷ cs) h = (0, record { due = refl; others = refl; names = refl; within = omega arith })
leads now age (suc room) ks (c ∷ cs) h = test_case (nat_le age (now - c.1.sent)) refl (leads now age room ks cs h.1)
  where
    test_case : (b : Bool) → nat_le age (now - c.1.sent) ≡ b → (n : ℕ) × Leads now age room ks cs n → (n : ℕ) × Leads now age (suc room) ks (c ∷ cs) n
    test_case true is rest = (
      suc rest.0,
      record {
        due = rw is (ap (λ xs. copy_of ks c.1 ∷ xs) rest.1.due);
        others = rw is rest.1.others;
        names = rw is (ap (λ xs. c.0 ∷ xs) rest.1.names);
        within = omega (arith, rest.1.within);
      },
    )
    test_case false is rest =
        let lt : now - c.1.sent < age = early now age c.1.sent is in
        let all : Each (λ d. due_slot now age d ≡ false) (c ∷ cs) = (is, each_weaker (Sooner c) (λ d. due_slot now age d ≡ false) cs (λ d le. not_due now age d.1.sent (omega (arith, le, lt))) h.0) in
        let none = none_due now age (suc room) ks (c ∷ cs) all in
        (0, record { due = none.0; others = none.1; names = ap (λ xs. take (suc room) (map name_of xs)) (filter_none (due_slot now age) (c ∷ cs) all); within = omega arith })

-- the same with the number of names that the buffer gives
pub leads_all : (now age : ℕ) (ks : List Key) (cs : List Named) → Ordered Sooner cs → Leads now age 64 ks cs (due_count now age cs)
leads_all now age ks cs h =
    let l = leads now age 64 ks cs h in
    let count : l.0 ≡ due_count now age cs = omega (arith, ap length l.1.names, length-map (take l.0 cs) name_of, length-take l.0 cs, l.1.within) in
    subst (λ n. Leads now age 64 ks cs n) count l.1

-- ---- one turn

-- the copies once so many were sent again
abbrev pub turned : ℕ → List Named → ℕ → List Named
turned now cs i = drop i cs ++ map (sent_at now) (take i cs)

-- the copy that is next
pub record Next (cs : List Named) (i : ℕ) : Type 0 where
  pub copy : Named
  pub rest : drop i cs ≡ copy ∷ drop (suc i) cs
  pub taken : take (suc i) cs ≡ take i cs ++ copy ∷ []
  pub name : (n d : ℕ) → i < n → get_or (map name_of (take n cs)) i d ≡ copy.0

first_name : (c : Named) (cs : List Named) (n d : ℕ) → 0 < n → get_or (map name_of (take n (c ∷ cs))) 0 d ≡ c.0
first_name c cs zero d lt = absurd (omega (arith, lt))
first_name c cs (suc n) d lt = refl

later_name : (c : Named) (cs : List Named) (i id : ℕ) → ((n d : ℕ) → i < n → get_or (map name_of (take n cs)) i d ≡ id) → (n d : ℕ) → suc i < n → get_or (map name_of (take n (c ∷ cs))) (suc i) d ≡ id
later_name c cs i id name zero d lt = absurd (omega (arith, lt))
later_name c cs i id name (suc n) d lt = name n d (omega (arith, lt))

pub next : (cs : List Named) (i : ℕ) → i < length cs → Next cs i
next [] i lt = absurd (omega (arith, lt))
next (c ∷ cs) zero lt = record { copy = c; rest = refl; taken = refl; name = first_name c cs }
next (c ∷ cs) (suc i) lt =
    let later = next cs i (omega (arith, lt)) in
    record { copy = later.copy; rest = later.rest; taken = ap (λ xs. c ∷ xs) later.taken; name = later_name c cs i later.copy.0 later.name }

module _ (now : ℕ) (ks : List Key) (cs : List Named) (i : ℕ) (n : Next cs i) (b : Copies) (h : AreFlows ks b now) (was : b.copies ≡ turned now cs i) where
  first_now : b.copies ≡ n.copy ∷ drop (suc i) cs ++ map (sent_at now) (take i cs)
  first_now = was ∙ ap (λ xs. xs ++ map (sent_at now) (take i cs)) n.rest

  pub found : find n.copy.0 b.copies ≡ Some n.copy.1
  found = let test : (n.copy.0 == n.copy.0) ≡ true = eq-eqb n.copy.0 n.copy.0 refl in rw (first_now, test) refl

  resent_now : resent b n.copy.0 now ≡ record b { copies = (drop (suc i) cs ++ map (sent_at now) (take i cs)) ++ sent_at now n.copy ∷ [] }
  resent_now =
      let copies : without n.copy.0 b.copies ++ map (sent_at now) (filter (λ c. c.0 == n.copy.0) b.copies) ≡ (drop (suc i) cs ++ map (sent_at now) (take i cs)) ++ sent_at now n.copy ∷ [] =
      ap (λ xs. without n.copy.0 xs ++ map (sent_at now) (filter (λ (c : Named). c.0 == n.copy.0) xs)) first_now
      ∙ resent_first now n.copy (drop (suc i) cs ++ map (sent_at now) (take i cs)) (subst (Ordered Apart) first_now h.apart) in
      λ j. record { copies = copies j; slots = b.slots }

  pub flows_on : (w : Copies) → w ≡ resent b n.copy.0 now → AreFlows ks w now
  flows_on w is = first_again ks b now h n.copy (drop (suc i) cs ++ map (sent_at now) (take i cs)) w first_now (is ∙ resent_now)

  pub copies_on : (w : Copies) (m : ℕ) → m ≡ suc i → w ≡ resent b n.copy.0 now → w.copies ≡ turned now cs m
  copies_on w m more is =
      ap (λ (v : Copies). v.copies) (is ∙ resent_now)
      ∙ (append_assoc (drop (suc i) cs) (map (sent_at now) (take i cs)) (sent_at now n.copy ∷ [])
      ∙ (ap (λ xs. drop (suc i) cs ++ xs) (sym (map-append (sent_at now) (take i cs) (n.copy ∷ [])) ∙ ap (map (sent_at now)) (sym n.taken))
      ∙ ap (turned now cs) (sym more)))

  pub due_on : (old new : List Copy) (copy : Copy) (m : ℕ) → m ≡ suc i → old ≡ copies_of ks (take i cs) → copy ≡ copy_of ks n.copy.1 → new ≡ old ++ copy ∷ [] → new ≡ copies_of ks (take m cs)
  due_on old new copy m more before made is =
      is ∙ (ap (λ xs. xs ++ copy ∷ []) before ∙ (ap (λ c. copies_of ks (take i cs) ++ c ∷ []) made
      ∙ (sym (map-append (λ (c : Named). copy_of ks c.1) (take i cs) (n.copy ∷ [])) ∙ (ap (copies_of ks) (sym n.taken) ∙ ap (λ x. copies_of ks (take x cs)) (sym more)))))

-- the name at a place of those that are due
pub name_at : (now age : ℕ) (ks : List Key) (cs : List Named) → Ordered Sooner cs → (names : List ℕ) → names ≡ due_ids now age 64 cs → (i : ℕ) → i < length names → (n : Next cs i) → (d : ℕ) → get_or names i d ≡ n.copy.0
name_at now age ks cs sooner names is i lt n d =
    ap (λ xs. get_or xs i d) (is ∙ (leads_all now age ks cs sooner).names) ∙ n.name (due_count now age cs) d (omega (arith, ap length is, lt))

pub due_there : (now age : ℕ) (ks : List Key) (cs : List Named) → Ordered Sooner cs → (names : List ℕ) → names ≡ due_ids now age 64 cs → (i : ℕ) → i < length names → i < length cs
due_there now age ks cs sooner names is i lt = omega (arith, ap length is, lt, (leads_all now age ks cs sooner).within)

-- the copies that come last have the moment
pub stamped_last : (now : ℕ) (ks : List Key) (cs : List Named) → copies_of ks (map (sent_at now) cs) ≡ map (stamped now) (copies_of ks cs)
stamped_last now ks [] = refl
stamped_last now ks (c ∷ cs) = ap (λ xs. stamped now (copy_of ks c.1) ∷ xs) (stamped_last now ks cs)

pub same_kept : (j k : Kept) → Some j ≡ Some k → j ≡ k
same_kept j k e = cc
