-- In snapshot mode: what the ages of a slot cover, as items are processed and rounds begin and are done.
use Rattle.std.proofs.Common.{◌≡◌, ℕ, ◌+◌, ◌-◌, ◌≤◌, ◌<◌, List, [], ◌∷◌, ◌++◌, Option, Some, None, arith, refl, sym, subst, true, false, length, filter, zero, suc, append-nil, ◌∙◌, Bool, ap, inl, inr, map, append_assoc, eqb-true}
use Rattle.std.specs.Prelude.{drop, nat_lt, if◌then◌else◌}
use Rattle.std.proofs.lemmas.Bool.{and_parts, ltb-true, both_ways}
use Rattle.std.proofs.lemmas.List.{drop_all}
use Rattle.std.proofs.lemmas.List.Elements.{filter-append}
use Rattle.key_table.specs.Table.{Key, Table, same_key, get, put}
use Rattle.proto_data.specs.declared.message.Entry.{Entry}
use Rattle.rp_app.specs.Application.{Application}
use Rattle.proto_model.specs.SwitchState.{Begun, slot_at}
use Rattle.proto_model.specs.SwitchAlarm.{Walk}
use Rattle.proto_model.specs.Kept.{is_round}
use Rattle.proto_safety.specs.Books.{In}
use Rattle.proto_safety.proofs.Inductions.AlarmInduction.{WalkKeeps, new_round, round_slot}
use Rattle.proto_safety.proofs.Leasing.FlowCopies.{not_strict}
use Rattle.proto_safety.proofs.Inductions.FlowMoves.{chunk_slot}
use Rattle.proto_safety.proofs.Snapshots.KeptFronts.{found_same}
use Rattle.proto_safety.proofs.Snapshots.SnapSlots.{put_any, WalkSnaps, rounds_on, made_round, new_round_at, walk_snaps}
use Rattle.key_table.proofs.Tables.{same_some}
use Rattle.std.proofs.lemmas.List.{map-append}
use Rattle.proto_model.specs.Feeds.{Each}
use Rattle.proto_model.specs.Committed.{is_in}
use Rattle.proto_model.specs.Slot.{Slot, Held, chunk_count, epoch_of, Round, Ages, first_of_two, young_enough, may, updated, acknowledged}
use Rattle.proto_model.specs.World.{Journaled, RoundBegun}
use Rattle.rp_base.specs.declared.legality.Fed.{Fed}
use Rattle.proto_safety.specs.LossLaws.{Covers, AgesCover, AgesPast, items_behind, round_at}
use Rattle.proto_safety.proofs.Basics.Eachs.{each_all, each_append, each_weaker}
use Rattle.proto_safety.proofs.Basics.Members.{in_filter, to_filter}

-- a dirty item at this age
abbrev Covered : Option ℕ → Journaled → Type 0
Covered age j = j.item.dirty ≡ true → (m : ℕ) × ((age ≡ Some m) × (m ≤ j.item.moment))

-- where no age is there nothing is dirty, so any age covers
covers_any : (age : Option ℕ) (js : List Journaled) → Covers None js → Covers age js
covers_any age js h = each_weaker (Covered None) (Covered age) js (λ j c dirty. let x = c dirty in let no_age : None ≡ Some x.0 = x.1.0 in cc) h

covers_same : (a b : Option ℕ) (js : List Journaled) → a ≡ b → Covers a js → Covers b js
covers_same a b js same h = subst (λ o. Covers o js) same h

-- ---- an item

-- a clean item
pub clean_covers : (age : Option ℕ) (js : List Journaled) (j : Journaled) → j.item.dirty ≡ false → Covers age js → Covers age (js ++ j ∷ [])
clean_covers age js j clean h = each_append (Covered age) js (j ∷ []) h ((λ dirty. absurd (both_ways j.item.dirty clean dirty)), tt)

-- an item at `now`, behind an age that begins with it where none was there
first_covers : (age : Option ℕ) (now : ℕ) (js : List Journaled) (j : Journaled) → j.item.moment ≡ now → ((m : ℕ) → age ≡ Some m → m ≤ now) → Covers age js → Covers (first_of_two age (Some now)) (js ++ j ∷ [])
first_covers None now js j moment past h = each_append (Covered (Some now)) js (j ∷ []) (covers_any (Some now) js h) ((λ dirty. (now, (refl, omega (arith, moment)))), tt)
first_covers (Some m) now js j moment past h = each_append (Covered (Some m)) js (j ∷ []) h ((λ dirty. let le : m ≤ now = past m refl in (m, (refl, omega (arith, le, moment)))), tt)

-- the age that `may` looks at, after an update
pub updated_covers : (now : ℕ) (round : Option Round) (pre post : Option ℕ) (js : List Journaled) (j : Journaled) → j.item.moment ≡ now → AgesPast now (record { pre = pre; post = post }) → (round ≡ None → post ≡ None) →
    Covers (first_of_two pre post) js → let ages = updated now round (record { pre = pre; post = post }) in Covers (first_of_two ages.pre ages.post) (js ++ j ∷ [])
updated_covers now None None post js j moment past none h = first_covers None now js j moment (λ m is. let no_age : None ≡ Some m = is in cc) (covers_same post None js (none refl) h)
updated_covers now None (Some m) post js j moment past none h = first_covers (Some m) now js j moment past.0 h
updated_covers now (Some r) None post js j moment past none h = first_covers post now js j moment past.1 h
updated_covers now (Some r) (Some m) post js j moment past none h = first_covers (Some m) now js j moment past.0 h

-- `post`, after an update while a round runs
pub post_covers : (now : ℕ) (r : Round) (ages : Ages) (js : List Journaled) (j : Journaled) → j.item.moment ≡ now → AgesPast now ages → Covers ages.post js → Covers (updated now (Some r) ages).post (js ++ j ∷ [])
post_covers now r ages js j moment past h = first_covers ages.post now js j moment past.1 h

first_past : (age : Option ℕ) (now : ℕ) → ((m : ℕ) → age ≡ Some m → m ≤ now) → (m : ℕ) → first_of_two age (Some now) ≡ Some m → m ≤ now
first_past None now past m is = let same : now ≡ m = cc in omega (arith, same)
first_past (Some k) now past m is = past m is

-- ages aren't later than now
pub updated_past : (now : ℕ) (round : Option Round) (ages : Ages) → AgesPast now ages → AgesPast now (updated now round ages)
updated_past now None ages past = (λ m is. first_past ages.pre now past.0 m is, past.1)
updated_past now (Some r) ages past = (past.0, λ m is. first_past ages.post now past.1 m is)

-- ---- rounds

-- a round that is done
pub done_covers : (ages : Ages) (js : List Journaled) → Covers ages.post js → Covers (first_of_two (acknowledged ages).pre (acknowledged ages).post) js
done_covers ages js h = covers_same ages.post (first_of_two ages.post None) js (post_case ages.post) h
  where
    post_case : (o : Option ℕ) → o ≡ first_of_two o None
    post_case None = refl
    post_case (Some m) = refl

pub done_past : (now : ℕ) (ages : Ages) → AgesPast now ages → AgesPast now (acknowledged ages)
done_past now ages past = (past.1, λ m is. let no_age : None ≡ Some m = is in cc)

-- nothing stands behind a round that begins now
pub begun_covers : (age : Option ℕ) (key : Key) (e : ℕ) (items : List Journaled) (b : RoundBegun) → b.items_before ≡ length items → Covers age (items_behind key e items (Some b))
begun_covers age key e items b all =
    let none : drop b.items_before items ≡ [] = drop_all b.items_before items (omega (arith, all)) in subst (λ l. Covers age (filter (is_in key e) l)) (sym none) tt

-- ---- what `may` gives

-- where a packet may be processed, each dirty item that is covered is less than the bound before now
pub may_recent : (bound now : ℕ) (ages : Ages) (js : List Journaled) → may bound now ages ≡ true → AgesPast now ages → Covers (first_of_two ages.pre ages.post) js → Each (λ (a : Journaled). a.item.dirty ≡ true → now < a.item.moment + bound) js
may_recent bound now ages js ok past h = age_case (first_of_two ages.pre ages.post) ok h
  where
    age_case : (o : Option ℕ) → young_enough bound now o ≡ true → Covers o js → Each (λ (a : Journaled). a.item.dirty ≡ true → now < a.item.moment + bound) js
    age_case None ok h = each_weaker (Covered None) (λ (a : Journaled). a.item.dirty ≡ true → now < a.item.moment + bound) js (λ j c dirty. let x = c dirty in let no_age : None ≡ Some x.0 = x.1.0 in cc) h
    age_case (Some m) ok h =
        each_weaker (Covered (Some m)) (λ (a : Journaled). a.item.dirty ≡ true → now < a.item.moment + bound) js
        (λ j c dirty.
        let x = c dirty in
        let same : m ≡ x.0 = cc in
        let young : now - m < bound = ltb-true (now - m) bound ok in omega (arith, young, same, x.1.1)) h

-- ---- what stands behind a round

-- one more item that no filter takes
drop_other : (p : Journaled → Bool) (k : ℕ) (xs : List Journaled) (j : Journaled) → p j ≡ false → filter p (drop k (xs ++ j ∷ [])) ≡ filter p (drop k xs)
drop_other p zero xs j out = filter-append p xs (j ∷ []) ∙ rw out (append-nil (filter p xs))
drop_other p (suc k) [] j out = refl_case k
  where
    refl_case : (k : ℕ) → filter p (drop k []) ≡ filter p (drop (suc k) [])
    refl_case zero = refl
    refl_case (suc k) = refl
drop_other p (suc k) (x ∷ xs) j out = drop_other p k xs j out

drop_more : (k : ℕ) (xs : List Journaled) (j : Journaled) → k ≤ length xs → drop k (xs ++ j ∷ []) ≡ drop k xs ++ j ∷ []
drop_more zero xs j le = refl
drop_more (suc k) [] j le = absurd (omega (arith, le))
drop_more (suc k) (x ∷ xs) j le = drop_more k xs j (omega (arith, le))

pub behind_other : (key : Key) (e : ℕ) (items : List Journaled) (j : Journaled) (o : Option RoundBegun) → is_in key e j ≡ false → items_behind key e (items ++ j ∷ []) o ≡ items_behind key e items o
behind_other key e items j None out = filter-append (is_in key e) items (j ∷ []) ∙ rw out (append-nil (filter (is_in key e) items))
behind_other key e items j (Some b) out = drop_other (is_in key e) b.items_before items j out

pub behind_own : (key : Key) (e : ℕ) (items : List Journaled) (j : Journaled) (o : Option RoundBegun) → is_in key e j ≡ true → ((b : RoundBegun) → o ≡ Some b → b.items_before ≤ length items) → items_behind key e (items ++ j ∷ []) o ≡ items_behind key e items o ++ j ∷ []
behind_own key e items j None own within = filter-append (is_in key e) items (j ∷ []) ∙ rw own refl
behind_own key e items j (Some b) own within =
    ap (filter (is_in key e)) (drop_more b.items_before items j (within b refl)) ∙ (filter-append (is_in key e) (drop b.items_before items) (j ∷ []) ∙ rw own refl)

-- ---- a slot

-- what the ages of a slot keep to
abbrev pub AgesAt : List Journaled → List RoundBegun → ℕ → Key → ℕ → ℕ → Ages → Option Round → Type 0
AgesAt items rounds now key e last ages round = AgesCover items rounds key e last ages round × AgesPast now ages

-- an item of another flow or epoch
pub ages_other : (items : List Journaled) (rounds : List RoundBegun) (now : ℕ) (key : Key) (e last : ℕ) (ages : Ages) (round : Option Round) (j : Journaled) → is_in key e j ≡ false → AgesAt items rounds now key e last ages round → AgesAt (items ++ j ∷ []) rounds now key e last ages round
ages_other items rounds now key e last ages None j out h = ((subst (Covers (first_of_two ages.pre ages.post)) (sym (behind_other key e items j (round_at key e last rounds) out)) h.0.0, h.0.1), h.1)
ages_other items rounds now key e last ages (Some r) j out h = (
  (
    subst (Covers (first_of_two ages.pre ages.post)) (sym (behind_other key e items j (round_at key e (last - 1) rounds) out)) h.0.0,
    subst (Covers ages.post) (sym (behind_other key e items j (round_at key e last rounds) out)) h.0.1,
  ),
  h.1,
)

-- a clean item of the slot
pub ages_clean : (items : List Journaled) (rounds : List RoundBegun) (now : ℕ) (key : Key) (e last : ℕ) (ages : Ages) (round : Option Round) (j : Journaled) → is_in key e j ≡ true → j.item.dirty ≡ false →
    ((m : ℕ) (b : RoundBegun) → round_at key e m rounds ≡ Some b → b.items_before ≤ length items) → AgesAt items rounds now key e last ages round → AgesAt (items ++ j ∷ []) rounds now key e last ages round
ages_clean items rounds now key e last ages None j own clean within h = (
  (subst (Covers (first_of_two ages.pre ages.post)) (sym (behind_own key e items j (round_at key e last rounds) own (within last))) (clean_covers (first_of_two ages.pre ages.post) _ j clean h.0.0), h.0.1),
  h.1,
)
ages_clean items rounds now key e last ages (Some r) j own clean within h = (
  (
    subst (Covers (first_of_two ages.pre ages.post)) (sym (behind_own key e items j (round_at key e (last - 1) rounds) own (within (last - 1)))) (clean_covers (first_of_two ages.pre ages.post) _ j clean h.0.0),
    subst (Covers ages.post) (sym (behind_own key e items j (round_at key e last rounds) own (within last))) (clean_covers ages.post _ j clean h.0.1),
  ),
  h.1,
)

-- an update of the slot, at `now`
pub ages_updated : (items : List Journaled) (rounds : List RoundBegun) (now : ℕ) (key : Key) (e last : ℕ) (ages : Ages) (round : Option Round) (j : Journaled) → is_in key e j ≡ true → j.item.moment ≡ now →
    ((m : ℕ) (b : RoundBegun) → round_at key e m rounds ≡ Some b → b.items_before ≤ length items) → AgesAt items rounds now key e last ages round → AgesAt (items ++ j ∷ []) rounds now key e last (updated now round ages) round
ages_updated items rounds now key e last ages None j own moment within h = (
  (subst (Covers (first_of_two (updated now None ages).pre (updated now None ages).post)) (sym (behind_own key e items j (round_at key e last rounds) own (within last))) (updated_covers now None ages.pre ages.post _ j moment h.1 (λ _. h.0.1) h.0.0), h.0.1),
  updated_past now None ages h.1,
)
ages_updated items rounds now key e last ages (Some r) j own moment within h = (
  (
    subst (Covers (first_of_two (updated now (Some r) ages).pre (updated now (Some r) ages).post)) (sym (behind_own key e items j (round_at key e (last - 1) rounds) own (within (last - 1)))) (updated_covers now (Some r) ages.pre ages.post _ j moment h.1 (λ none. let no_round : Some r ≡ None = none in cc) h.0.0),
    subst (Covers (updated now (Some r) ages).post) (sym (behind_own key e items j (round_at key e last rounds) own (within last))) (post_covers now r ages _ j moment h.1 h.0.1),
  ),
  updated_past now (Some r) ages h.1,
)

-- the running round is done
pub ages_done : (items : List Journaled) (rounds : List RoundBegun) (now : ℕ) (key : Key) (e last : ℕ) (ages : Ages) (r : Round) → AgesAt items rounds now key e last ages (Some r) → AgesAt items rounds now key e last (acknowledged ages) None
ages_done items rounds now key e last ages r h = ((done_covers ages _ h.0.1, refl), done_past now ages h.1)

-- a round begins, with the next number
pub ages_begun : (items : List Journaled) (rounds on : List RoundBegun) (now : ℕ) (key : Key) (e last : ℕ) (ages : Ages) (r : Round) (b : RoundBegun) → round_at key e last on ≡ round_at key e last rounds → round_at key e (last + 1) on ≡ Some b → b.items_before ≡ length items →
    AgesAt items rounds now key e last ages None → AgesAt items on now key e (last + 1) ages (Some r)
ages_begun items rounds on now key e last ages r b old new all h =
    let before : last + 1 - 1 ≡ last = omega arith in (
      (
        subst (λ o. Covers (first_of_two ages.pre ages.post) (items_behind key e items o)) (sym (ap (λ m. round_at key e m on) before ∙ old)) h.0.0,
        subst (λ o. Covers ages.post (items_behind key e items o)) (sym new) (begun_covers ages.post key e items b all),
      ),
      h.1,
    )

-- rounds of other flows or epochs
pub ages_rounds : (items : List Journaled) (rounds on : List RoundBegun) (now : ℕ) (key : Key) (e last : ℕ) (ages : Ages) (round : Option Round) → ((m : ℕ) → round_at key e m on ≡ round_at key e m rounds) → AgesAt items rounds now key e last ages round → AgesAt items on now key e last ages round
ages_rounds items rounds on now key e last ages None same h = ((subst (λ o. Covers (first_of_two ages.pre ages.post) (items_behind key e items o)) (sym (same last)) h.0.0, h.0.1), h.1)
ages_rounds items rounds on now key e last ages (Some r) same h = (
  (
    subst (λ o. Covers (first_of_two ages.pre ages.post) (items_behind key e items o)) (sym (same (last - 1))) h.0.0,
    subst (λ o. Covers ages.post (items_behind key e items o)) (sym (same last)) h.0.1,
  ),
  h.1,
)

-- ---- an epoch without items

in_drop : (k : ℕ) (xs : List Journaled) (j : Journaled) → In (drop k xs) j → In xs j
in_drop zero xs j i = i
in_drop (suc k) [] j i = absurd (nil_case k i)
  where
    nil_case : (k : ℕ) → In (drop (suc k) []) j → ⊥
    nil_case zero i = i
    nil_case (suc k) i = i
in_drop (suc k) (x ∷ xs) j i = inr (in_drop k xs j i)

behind_in : (key : Key) (e : ℕ) (items : List Journaled) (o : Option RoundBegun) (j : Journaled) → In (items_behind key e items o) j → In (filter (is_in key e) items) j
behind_in key e items None j i = i
behind_in key e items (Some b) j i = let k = in_filter (is_in key e) (drop b.items_before items) j i in to_filter (is_in key e) items j (in_drop b.items_before items j k.0) k.1

-- a slot that takes an epoch of which nothing was processed
pub ages_fresh : (items : List Journaled) (rounds : List RoundBegun) (now : ℕ) (key : Key) (e last : ℕ) → filter (is_in key e) items ≡ [] → AgesAt items rounds now key e last (record { pre = None; post = None }) None
ages_fresh items rounds now key e last none = (
  (
    each_all (Covered None) (items_behind key e items (round_at key e last rounds)) (λ j i. absurd (subst (λ l. In l j) none (behind_in key e items (round_at key e last rounds) j i))),
    refl,
  ),
  (λ m is. let no_age : None ≡ Some m = is in cc, λ m is. let no_age : None ≡ Some m = is in cc),
)

-- ---- tables

abbrev pub AgesTable : List Journaled → List RoundBegun → ℕ → Table Slot → Type 0
AgesTable items rounds now slots = (key : Key) (slot : Slot) (e : ℕ) → get slots key ≡ Some slot → epoch_of slot.lease ≡ Some e → AgesAt items rounds now key e slot.last slot.ages slot.round

pub ages_put : (items : List Journaled) (rounds : List RoundBegun) (now : ℕ) (slots : Table Slot) (key : Key) (new : Slot) → ((e : ℕ) → epoch_of new.lease ≡ Some e → AgesAt items rounds now key e new.last new.ages new.round) →
    ((k : Key) (slot : Slot) (e : ℕ) → same_key key k ≡ false → get slots k ≡ Some slot → epoch_of slot.lease ≡ Some e → AgesAt items rounds now k e slot.last slot.ages slot.round) → AgesTable items rounds now (put slots key new)
ages_put items rounds now slots key new own others k slot e found leased =
    put_any (λ q v. (e : ℕ) → epoch_of v.lease ≡ Some e → AgesAt items rounds now q e v.last v.ages v.round) slots key new own (λ q v ne there d of. others q v d ne there of) k slot found e leased

-- the slot keeps its epoch, its ages, its last number and its round's presence
pub ages_round : (items : List Journaled) (rounds : List RoundBegun) (now : ℕ) (key : Key) (e last : ℕ) (ages : Ages) (a b : Option Round) (r q : Round) → a ≡ Some r → b ≡ Some q → AgesAt items rounds now key e last ages a → AgesAt items rounds now key e last ages b
ages_round items rounds now key e last ages a b r q is on h =
    let k : AgesAt items rounds now key e last ages (Some r) = subst (λ o. AgesAt items rounds now key e last ages o) is h in
    subst (λ o. AgesAt items rounds now key e last ages o) (sym on) (k.0, k.1)

-- ---- the walk of an Alarm

module _ (app : Application) (feeds : List Fed) (es : List Entry) (items : List Journaled) (event bound : ℕ) (rounds : List RoundBegun) (now : ℕ) where
  abbrev pub WalkAges : Walk → Type 0
  WalkAges w = WalkSnaps app feeds es items event bound rounds w × AgesTable items (rounds_on app feeds es items event bound rounds w.begun) now w.state.slots

  other_round : (b : Begun) (k : Key) (e m : ℕ) (on : List RoundBegun) → same_key b.key k ≡ false → round_at k e m (on ++ made_round app feeds es items event bound rounds b ∷ []) ≡ round_at k e m on
  other_round b k e m on ne = found_same (is_round k e m) on (made_round app feeds es items event bound rounds b ∷ []) (λ q i. one_case q i)
    where
      one_case : (q : RoundBegun) → In (made_round app feeds es items event bound rounds b ∷ []) q → is_round k e m q ≡ false
      one_case q (inl x) = subst (λ (y : RoundBegun). is_round k e m y ≡ false) x (rw ne refl)
      one_case q (inr x) = absurd x

  pub walk_ages : WalkKeeps now WalkAges
  walk_ages =
      record {
        puts = λ w key slot nonce epoch expiry at is mode none h. absurd (not_strict w.state.terms.mode bound mode h.0.snapshot);
        goes_on = λ w key slot nonce epoch expiry r at is b mode o h. (
          (walk_snaps app feeds es items event bound rounds now).goes_on w key slot nonce epoch expiry r at is b mode o h.0,
          subst (λ l. AgesTable items l now (put w.state.slots key (chunk_slot slot r))) (sym (ap (rounds_on app feeds es items event bound rounds) (append-nil w.begun)))
              (ages_put items (rounds_on app feeds es items event bound rounds w.begun) now w.state.slots key (chunk_slot slot r)
              (λ e of. ages_round items (rounds_on app feeds es items event bound rounds w.begun) now key e slot.last slot.ages slot.round (chunk_slot slot r).round r (record r { chunk = if nat_lt (r.chunk + 1) (chunk_count (length r.cells)) then r.chunk + 1 else 0 }) o refl (h.1 key slot e at of))
              (λ k v e ne found of. h.1 k v e found of)),
        );
        begins = λ w key slot nonce epoch expiry at is b mode o h. (
          (walk_snaps app feeds es items event bound rounds now).begins w key slot nonce epoch expiry at is b mode o h.0,
          begin_ages w key slot nonce epoch expiry at is o h,
        );
      }
    where
      begin_ages : (w : Walk) (key : Key) (slot : Slot) (nonce epoch expiry : ℕ) → slot_at w.state key ≡ Some slot → slot.lease ≡ Held nonce epoch expiry → slot.round ≡ None → WalkAges w →
          AgesTable items (rounds_on app feeds es items event bound rounds (w.begun ++ record { key = key; epoch = epoch; round = slot.last + 1 } ∷ [])) now (put w.state.slots key (chunk_slot (round_slot slot) (new_round slot now)))
      begin_ages w key slot nonce epoch expiry at is o h =
          let nb : Begun = record { key = key; epoch = epoch; round = slot.last + 1 } in
          let on : List RoundBegun = rounds_on app feeds es items event bound rounds w.begun in
          let grown : rounds_on app feeds es items event bound rounds (w.begun ++ nb ∷ []) ≡ on ++ made_round app feeds es items event bound rounds nb ∷ [] =
          ap (λ l. rounds ++ l) (map-append (made_round app feeds es items event bound rounds) w.begun (nb ∷ [])) ∙ sym (append_assoc rounds (map (made_round app feeds es items event bound rounds) w.begun) (made_round app feeds es items event bound rounds nb ∷ [])) in
          subst (λ l. AgesTable items l now (put w.state.slots key (chunk_slot (round_slot slot) (new_round slot now)))) (sym grown)
          (ages_put items (on ++ made_round app feeds es items event bound rounds nb ∷ []) now w.state.slots key (chunk_slot (round_slot slot) (new_round slot now))
          (λ e of. own_ages w key slot epoch at (ap epoch_of is) h e (same_some (epoch_of slot.lease) epoch e (ap epoch_of is) of) (subst (λ q. AgesAt items on now key e slot.last slot.ages q) o (h.1 key slot e at of)))
          (λ k v e ne found of. ages_rounds items on (on ++ made_round app feeds es items event bound rounds nb ∷ []) now k e v.last v.ages v.round (λ m. other_round nb k e m on ne) (h.1 k v e found of)))
        where
          own_ages : (w : Walk) (key : Key) (slot : Slot) (epoch : ℕ) → slot_at w.state key ≡ Some slot → epoch_of slot.lease ≡ Some epoch → WalkAges w → (e : ℕ) → epoch ≡ e → AgesAt items (rounds_on app feeds es items event bound rounds w.begun) now key e slot.last slot.ages None →
              AgesAt items (rounds_on app feeds es items event bound rounds w.begun ++ made_round app feeds es items event bound rounds (record { key = key; epoch = epoch; round = slot.last + 1 }) ∷ []) now key e (slot.last + 1) slot.ages (chunk_slot (round_slot slot) (new_round slot now)).round
          own_ages w key slot epoch at leased h e same k =
              let nb : Begun = record { key = key; epoch = epoch; round = slot.last + 1 } in
              let on : List RoundBegun = rounds_on app feeds es items event bound rounds w.begun in
              subst (λ d. AgesAt items (on ++ made_round app feeds es items event bound rounds nb ∷ []) now key d (slot.last + 1) slot.ages (chunk_slot (round_slot slot) (new_round slot now)).round) same
              (ages_begun items on (on ++ made_round app feeds es items event bound rounds nb ∷ []) now key epoch slot.last slot.ages (record (new_round slot now) { chunk = if nat_lt ((new_round slot now).chunk + 1) (chunk_count (length (new_round slot now).cells)) then (new_round slot now).chunk + 1 else 0 }) (made_round app feeds es items event bound rounds nb)
              (found_same (is_round key epoch slot.last) on (made_round app feeds es items event bound rounds nb ∷ []) (λ q i. last_case q i))
              (new_round_at app feeds es items event bound rounds on nb (λ q i d f. let le : q.begun.round ≤ slot.last = h.0.last key slot epoch q at leased i d f in omega (arith, le))) refl
              (subst (λ d. AgesAt items on now key d slot.last slot.ages None) (sym same) k))
            where
              last_case : (q : RoundBegun) → In (made_round app feeds es items event bound rounds (record { key = key; epoch = epoch; round = slot.last + 1 }) ∷ []) q → is_round key epoch slot.last q ≡ false
              last_case q (inl x) = subst (λ (y : RoundBegun). is_round key epoch slot.last y ≡ false) x (number_case (is_round key epoch slot.last (made_round app feeds es items event bound rounds (record { key = key; epoch = epoch; round = slot.last + 1 }))) refl)
                where
                  number_case : (t : Bool) → is_round key epoch slot.last (made_round app feeds es items event bound rounds (record { key = key; epoch = epoch; round = slot.last + 1 })) ≡ t → t ≡ false
                  number_case true y = let n : slot.last + 1 ≡ slot.last = eqb-true (slot.last + 1) slot.last (and_parts _ _ (and_parts _ _ y).1).1 in absurd (omega (arith, n))
                  number_case false y = refl
              last_case q (inr x) = absurd x
