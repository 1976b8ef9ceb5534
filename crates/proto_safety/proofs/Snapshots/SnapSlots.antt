-- In snapshot mode: the cells of leased slots and of running rounds, while items, rounds and books go on, and over an Alarm's walk.
use Rattle.std.proofs.Common.{◌≡◌, ◌⊎◌, inl, inr, ℕ, ◌+◌, ◌≤◌, ◌<◌, List, [], ◌∷◌, ◌++◌, map, length, Option, Some, None, arith, refl, sym, ◌∙◌, ap, subst, append-nil, append_assoc, true, false, Bool, eqb-true, eq-eqb, filter, length-append}
use Rattle.std.specs.Prelude.{take, find, if◌then◌else◌}
use Rattle.std.specs.Option.{option_or}
use Rattle.std.proofs.lemmas.Bool.{and_parts, and_from, both_ways}
use Rattle.std.proofs.lemmas.List.{take_all, map-append, take-append-le}
use Rattle.std.proofs.lemmas.List.Elements.{filter-append}
use Rattle.std.proofs.lemmas.List.Folds.{find-append}
use Rattle.proto_data.specs.declared.message.Msg.{Msg}
use Rattle.proto_data.specs.declared.message.Body.{Body}
use Rattle.proto_data.specs.declared.message.Entry.{Entry}
use Rattle.rp_app.specs.Application.{Application}
use Rattle.key_table.specs.Table.{Key, Table, same_key, get, put}
use Rattle.proto_model.specs.Slot.{Slot, Round, Held, epoch_of}
use Rattle.proto_model.specs.SwitchState.{Begun, slot_at}
use Rattle.proto_model.specs.SwitchAlarm.{Walk, chunk_sent}
use Rattle.proto_model.specs.Feeds.{Each, Pairwise}
use Rattle.proto_model.specs.Committed.{is_in}
use Rattle.proto_model.specs.Kept.{is_round}
use Rattle.proto_model.specs.World.{Journaled, RoundBegun}
use Rattle.rp_base.specs.declared.legality.Fed.{Fed}
use Rattle.proto_data.specs.declared.terms.Mode.{Mode}
use Rattle.proto_safety.specs.Books.{In}
use Rattle.proto_safety.specs.Flows.{FlowRecord, flow_of}
use Rattle.proto_safety.specs.LossLaws.{round_at, kept_front, cells_over, RoundIs, ChunkIs, SnapStands, RoundTurn}
use Rattle.proto_safety.proofs.Inductions.AlarmInduction.{WalkKeeps, new_round, round_slot}
use Rattle.proto_safety.proofs.Serial.CellFacts.{GrantedTo}
use Rattle.proto_safety.proofs.Leasing.FlowCopies.{not_strict}
use Rattle.proto_safety.proofs.Inductions.FlowMoves.{chunk_slot}
use Rattle.proto_safety.proofs.Snapshots.KeptFronts.{found_more, find_none, front_rounds, front_item}
use Rattle.key_table.proofs.Tables.{get-put_same, get-put_other, same_key-true, same_key-refl, same_some}
use Rattle.proto_safety.proofs.Leasing.WorldPuts.{NumberIn}
use Rattle.proto_safety.proofs.Basics.Eachs.{each_all, each_append, each_in, each_weaker}
use Rattle.proto_safety.proofs.Basics.Members.{in_append, to_append}
use Rattle.proto_safety.proofs.Basics.Pairs.{pairwise_push}

-- ---- what goes on

-- the cells of a flow's epoch and of its rounds are the same in a later history
pub record Onto (app : Application) (feeds fed : List Fed) (es later : List Entry) (items more : List Journaled) (rounds on : List RoundBegun) (key : Key) (e : ℕ) : Type 0 where
  pub found : (number : ℕ) (b : RoundBegun) → round_at key e number rounds ≡ Some b → round_at key e number on ≡ Some b
  pub longer : length items ≤ length more
  pub same : (b : RoundBegun) → b.items_before ≤ length items → cells_over app fed (kept_front key later more on e ++ filter (is_in key e) (take b.items_before more)) ≡ cells_over app feeds (kept_front key es items rounds e ++ filter (is_in key e) (take b.items_before items))

module _ (app : Application) (feeds fed : List Fed) (es later : List Entry) (items more : List Journaled) (rounds on : List RoundBegun) (key : Key) (e : ℕ) (o : Onto app feeds fed es later items more rounds on key e) where
  pub round_onto : (number : ℕ) (cells : List ℕ) → RoundIs app feeds es items rounds key e number cells → RoundIs app fed later more on key e number cells
  round_onto number cells r = record { begun = r.begun; found = o.found number r.begun r.found; within = omega (arith, r.within, o.longer); cells_are = r.cells_are ∙ sym (o.same r.begun r.within) }

  pub chunk_onto : (number chunk chunks : ℕ) (part : List ℕ) → ChunkIs app feeds es items rounds key e number chunk chunks part → ChunkIs app fed later more on key e number chunk chunks part
  chunk_onto number chunk chunks part c = record { cells = c.cells; round_is = round_onto number c.cells c.round_is; chunks_are = c.chunks_are; part_is = c.part_is }

  pub stands_onto : (slot : Slot) → cells_over app fed (kept_front key later more on e ++ filter (is_in key e) more) ≡ cells_over app feeds (kept_front key es items rounds e ++ filter (is_in key e) items) →
      SnapStands app feeds es items rounds key slot e → SnapStands app fed later more on key slot e
  stands_onto slot same h = record { cells = h.cells ∙ sym same; round = λ r is. round_onto r.number r.cells (h.round r is) }

-- ---- slots

-- what holds of each slot of a table holds after one is stored
pub put_any : (P : Key → Slot → Type 0) (slots : Table Slot) (key : Key) (new : Slot) → P key new → ((k : Key) (slot : Slot) → same_key key k ≡ false → get slots k ≡ Some slot → P k slot) → (k : Key) (slot : Slot) → get (put slots key new) k ≡ Some slot → P k slot
put_any P slots key new own others k slot found = key_case (same_key key k) refl
  where
    key_case : (b : Bool) → same_key key k ≡ b → P k slot
    key_case true is =
        let same : key ≡ k = same_key-true key k is in
        let at : new ≡ slot = same_some (get (put slots key new) k) new slot (rw (← same) (get-put_same slots key new)) found in
        subst (λ j. P j slot) same (subst (λ (x : Slot). P key x) at own)
    key_case false ne = others k slot ne (sym (get-put_other slots k key new ne) ∙ found)

module _ (app : Application) (feeds : List Fed) (es : List Entry) (items : List Journaled) where
  abbrev pub SnapTable : List RoundBegun → Table Slot → Type 0
  SnapTable rounds slots = (key : Key) (slot : Slot) (e : ℕ) → get slots key ≡ Some slot → epoch_of slot.lease ≡ Some e → SnapStands app feeds es items rounds key slot e

  pub put_snap : (rounds : List RoundBegun) (slots : Table Slot) (key : Key) (new : Slot) → ((k : Key) (slot : Slot) (e : ℕ) → same_key key k ≡ false → get slots k ≡ Some slot → epoch_of slot.lease ≡ Some e → SnapStands app feeds es items rounds k slot e) →
      ((e : ℕ) → epoch_of new.lease ≡ Some e → SnapStands app feeds es items rounds key new e) → SnapTable rounds (put slots key new)
  put_snap rounds slots key new others own k slot e found leased = key_case (same_key key k) refl
    where
      key_case : (b : Bool) → same_key key k ≡ b → SnapStands app feeds es items rounds k slot e
      key_case true is =
          let same : key ≡ k = same_key-true key k is in
          let at : new ≡ slot = same_some (get (put slots key new) k) new slot (rw (← same) (get-put_same slots key new)) found in
          subst (λ j. SnapStands app feeds es items rounds j slot e) same (subst (λ (x : Slot). SnapStands app feeds es items rounds key x e) at (own e (ap (λ (x : Slot). epoch_of x.lease) at ∙ leased)))
      key_case false ne = others k slot e ne (sym (get-put_other slots k key new ne) ∙ found) leased

  -- a slot that keeps its cells, its epoch and its round, or has none
  pub kept_snap : (rounds : List RoundBegun) (slots : Table Slot) (key : Key) (old new : Slot) → get slots key ≡ Some old → new.cells ≡ old.cells → ((e : ℕ) → epoch_of new.lease ≡ Some e → epoch_of old.lease ≡ Some e) →
      ((r : Round) → new.round ≡ Some r → old.round ≡ Some r) → SnapTable rounds slots → SnapTable rounds (put slots key new)
  kept_snap rounds slots key old new at cells leased runs h =
      put_snap rounds slots key new (λ k slot e ne found of. h k slot e found of)
      (λ e of. let k = h key old e at (leased e of) in record { cells = cells ∙ k.cells; round = λ r is. k.round r (runs r is) })

  -- a slot that isn't leased
  pub unleased_snap : (rounds : List RoundBegun) (slots : Table Slot) (key : Key) (new : Slot) → epoch_of new.lease ≡ None → SnapTable rounds slots → SnapTable rounds (put slots key new)
  unleased_snap rounds slots key new none h = put_snap rounds slots key new (λ k slot e ne found of. h k slot e found of) (λ e of. let no_epoch : None ≡ Some e = sym none ∙ of in cc)

  -- ---- one more item

  pub item_onto : (rounds : List RoundBegun) (j : Journaled) (f : FlowRecord) (key : Key) (e : ℕ) → GrantedTo app.cell_count es key e → flow_of app.cell_count j.item.key es ≡ Some f → f.epoch ≡ j.item.epoch →
      Onto app feeds feeds es es items (items ++ j ∷ []) rounds rounds key e
  item_onto rounds j f key e g flow epoch =
      record {
        found = λ number b is. is;
        longer = omega (arith, length-append items (j ∷ []));
        same = λ b le.
            ap (λ l. cells_over app feeds (l ++ filter (is_in key e) (take b.items_before (items ++ j ∷ [])))) same_front
            ∙ ap (λ l. cells_over app feeds (kept_front key es items rounds e ++ filter (is_in key e) l)) (take-append-le b.items_before items (j ∷ []) le);
      }
    where
      never : (d : ℕ) → d < e → (t : Bool) → is_in key d j ≡ t → t ≡ false
      never d lt false is = refl
      never d lt true is =
          let p = and_parts _ _ is in
          let key_is : j.item.key ≡ key = same_key-true j.item.key key p.0 in
          let epoch_is : j.item.epoch ≡ d = eqb-true j.item.epoch d p.1 in
          let same : f ≡ g.flow = cc (sym flow ∙ (ap (λ k. flow_of app.cell_count k es) key_is ∙ g.flow_is)) in
          absurd (omega (arith, g.reached, epoch, epoch_is, lt, ap (λ (x : FlowRecord). x.epoch) same))

      same_front : kept_front key es (items ++ j ∷ []) rounds e ≡ kept_front key es items rounds e
      same_front = front_item key es items rounds j e (λ d lt. never d lt (is_in key d j) refl)

  -- the journal of an epoch that the item isn't of
  pub journal_other : (key : Key) (e : ℕ) (j : Journaled) → is_in key e j ≡ false → filter (is_in key e) (items ++ j ∷ []) ≡ filter (is_in key e) items
  journal_other key e j out = filter-append (is_in key e) items (j ∷ []) ∙ rw out (append-nil (filter (is_in key e) items))

  pub journal_own : (key : Key) (e : ℕ) (j : Journaled) → is_in key e j ≡ true → filter (is_in key e) (items ++ j ∷ []) ≡ filter (is_in key e) items ++ j ∷ []
  journal_own key e j own = filter-append (is_in key e) items (j ∷ []) ∙ rw own refl

  -- the front of an epoch with one more item
  pub item_front : (rounds : List RoundBegun) (j : Journaled) (f : FlowRecord) (key : Key) (e : ℕ) → GrantedTo app.cell_count es key e → flow_of app.cell_count j.item.key es ≡ Some f → f.epoch ≡ j.item.epoch → kept_front key es (items ++ j ∷ []) rounds e ≡ kept_front key es items rounds e
  item_front rounds j f key e g flow epoch = front_item key es items rounds j e (λ d lt. never d lt (is_in key d j) refl)
    where
      never : (d : ℕ) → d < e → (t : Bool) → is_in key d j ≡ t → t ≡ false
      never d lt false is = refl
      never d lt true is =
          let p = and_parts _ _ is in
          let key_is : j.item.key ≡ key = same_key-true j.item.key key p.0 in
          let epoch_is : j.item.epoch ≡ d = eqb-true j.item.epoch d p.1 in
          let same : f ≡ g.flow = cc (sym flow ∙ (ap (λ k. flow_of app.cell_count k es) key_is ∙ g.flow_is)) in
          absurd (omega (arith, g.reached, epoch, epoch_is, lt, ap (λ (x : FlowRecord). x.epoch) same))

  pub item_stands : (rounds : List RoundBegun) (j : Journaled) (f : FlowRecord) (key : Key) (slot : Slot) (e : ℕ) → GrantedTo app.cell_count es key e → flow_of app.cell_count j.item.key es ≡ Some f → f.epoch ≡ j.item.epoch → is_in key e j ≡ false →
      SnapStands app feeds es items rounds key slot e → SnapStands app feeds es (items ++ j ∷ []) rounds key slot e
  item_stands rounds j f key slot e g flow epoch out h =
      stands_onto app feeds feeds es es items (items ++ j ∷ []) rounds rounds key e (item_onto rounds j f key e g flow epoch) slot
      (ap (λ l. cells_over app feeds (l ++ filter (is_in key e) (items ++ j ∷ []))) (item_front rounds j f key e g flow epoch) ∙ ap (λ l. cells_over app feeds (kept_front key es items rounds e ++ l)) (journal_other key e j out)) h

  -- ---- rounds that are begun

  -- the flow's present epoch
  pub record Top (key : Key) (e : ℕ) : Type 0 where
    pub flow : FlowRecord
    pub flow_is : flow_of app.cell_count key es ≡ Some flow
    pub epoch_is : flow.epoch ≡ e

  -- what a message says, of a granted epoch; there are no Puts
  abbrev pub SnapSays : List RoundBegun → Body → Type 0
  SnapSays rounds (Body.Snap inc e number key chunk chunks part) = ChunkIs app feeds es items rounds key e number chunk chunks part × GrantedTo app.cell_count es key e
  SnapSays rounds (Body.Put inc e number key delta load) = ⊥
  SnapSays rounds _ = Unit {0}

  -- rounds of present epochs change nothing of what there was
  pub rounds_front : (rounds bs : List RoundBegun) (key : Key) (e : ℕ) → GrantedTo app.cell_count es key e → ((b : RoundBegun) → In bs b → Top b.begun.key b.begun.epoch) → kept_front key es items (rounds ++ bs) e ≡ kept_front key es items rounds e
  rounds_front rounds bs key e g tops = front_rounds key es items rounds bs e (λ d m b lt i. never d m b lt i (is_round key d m b) refl)
    where
      never : (d m : ℕ) (b : RoundBegun) → d < e → In bs b → (t : Bool) → is_round key d m b ≡ t → t ≡ false
      never d m b lt i false is = refl
      never d m b lt i true is =
          let p = and_parts _ _ is in
          let t = tops b i in
          let key_is : b.begun.key ≡ key = same_key-true b.begun.key key p.0 in
          let epoch_is : b.begun.epoch ≡ d = eqb-true b.begun.epoch d (and_parts _ _ p.1).0 in
          let same : t.flow ≡ g.flow = cc (sym t.flow_is ∙ (ap (λ k. flow_of app.cell_count k es) key_is ∙ g.flow_is)) in
          absurd (omega (arith, g.reached, t.epoch_is, epoch_is, lt, ap (λ (f : FlowRecord). f.epoch) same))

  pub rounds_onto : (rounds bs : List RoundBegun) (key : Key) (e : ℕ) → GrantedTo app.cell_count es key e → ((b : RoundBegun) → In bs b → Top b.begun.key b.begun.epoch) → Onto app feeds feeds es es items items rounds (rounds ++ bs) key e
  rounds_onto rounds bs key e g tops =
      record {
        found = λ number b is. found_more (is_round key e number) rounds bs b is;
        longer = omega arith;
        same = λ b le. ap (λ l. cells_over app feeds (l ++ filter (is_in key e) (take b.items_before items))) (rounds_front rounds bs key e g tops);
      }

  pub rounds_stand : (rounds bs : List RoundBegun) (key : Key) (slot : Slot) (e : ℕ) → GrantedTo app.cell_count es key e → ((b : RoundBegun) → In bs b → Top b.begun.key b.begun.epoch) → SnapStands app feeds es items rounds key slot e → SnapStands app feeds es items (rounds ++ bs) key slot e
  rounds_stand rounds bs key slot e g tops h =
      let o = rounds_onto rounds bs key e g tops in
      stands_onto app feeds feeds es es items items rounds (rounds ++ bs) key e o slot (whole_same o) h
    where
      whole_same : Onto app feeds feeds es es items items rounds (rounds ++ bs) key e → cells_over app feeds (kept_front key es items (rounds ++ bs) e ++ filter (is_in key e) items) ≡ cells_over app feeds (kept_front key es items rounds e ++ filter (is_in key e) items)
      whole_same o =
          let b : RoundBegun = record { event = 0; begun = record { key = key; epoch = e; round = 0 }; items_before = length items } in
          let all : take (length items) items ≡ items = take_all (length items) items (omega arith) in
          ap (λ l. cells_over app feeds (kept_front key es items (rounds ++ bs) e ++ filter (is_in key e) l)) (sym all)
          ∙ (o.same b (omega arith) ∙ ap (λ l. cells_over app feeds (kept_front key es items rounds e ++ filter (is_in key e) l)) all)

  pub rounds_say : (rounds bs : List RoundBegun) (b : Body) → ((b : RoundBegun) → In bs b → Top b.begun.key b.begun.epoch) → SnapSays rounds b → SnapSays (rounds ++ bs) b
  rounds_say rounds bs (Body.Snap inc e number key chunk chunks part) tops h = (chunk_onto app feeds feeds es es items items rounds (rounds ++ bs) key e (rounds_onto rounds bs key e h.1 tops) number chunk chunks part h.0, h.1)
  rounds_say rounds bs (Body.Ask inc nonce key load) tops h = tt
  rounds_say rounds bs (Body.Put inc e m key delta load) tops h = absurd h
  rounds_say rounds bs (Body.Grant inc nonce e key cells load) tops h = tt
  rounds_say rounds bs (Body.Busy inc nonce key mark) tops h = tt
  rounds_say rounds bs (Body.Ack inc e upto key load) tops h = tt
  rounds_say rounds bs (Body.Deny inc e key) tops h = tt
  rounds_say rounds bs (Body.Forward c i entry load) tops h = tt
  rounds_say rounds bs (Body.Have i) tops h = tt
  rounds_say rounds bs (Body.Echo of load) tops h = tt
  rounds_say rounds bs (Body.Config c) tops h = tt

  -- ---- the walk of an Alarm

  module _ (event bound : ℕ) (rounds : List RoundBegun) where
    abbrev pub made_round : Begun → RoundBegun
    made_round b = record { event = event; begun = b; items_before = length items }

    abbrev pub rounds_on : List Begun → List RoundBegun
    rounds_on bs = rounds ++ map made_round bs

    -- a message of a begun round
    pub record RoundSent (ms : List Msg) (b : Begun) : Type 0 where
      pub some : 1 ≤ b.round
      pub msg : Msg
      pub there : In ms msg
      pub inc : ℕ
      pub number_in : NumberIn inc b.epoch b.round b.key msg.body

    pub record WalkSnaps (w : Walk) : Type 0 where
      pub snapshot : w.state.terms.mode ≡ Mode.Snapshot bound
      pub slots : SnapTable (rounds_on w.begun) w.state.slots
      pub sent : Each (λ (m : Msg). SnapSays (rounds_on w.begun) m.body) w.sent
      pub granted : (key : Key) (slot : Slot) (e : ℕ) → get w.state.slots key ≡ Some slot → epoch_of slot.lease ≡ Some e → GrantedTo app.cell_count es key e
      pub live : (key : Key) (slot : Slot) (nonce e expiry : ℕ) → get w.state.slots key ≡ Some slot → slot.lease ≡ Held nonce e expiry → Top key e
      pub last : (key : Key) (slot : Slot) (e : ℕ) (b : RoundBegun) → get w.state.slots key ≡ Some slot → epoch_of slot.lease ≡ Some e → In (rounds_on w.begun) b → b.begun.key ≡ key → b.begun.epoch ≡ e → b.begun.round ≤ slot.last
      pub tops : (b : RoundBegun) → In (map made_round w.begun) b → Top b.begun.key b.begun.epoch
      pub turns : Pairwise RoundTurn (rounds_on w.begun)
      pub within : Each (λ (b : RoundBegun). b.items_before ≤ length items) (rounds_on w.begun)
      pub begun : (b : Begun) → In w.begun b → RoundSent w.sent b

    more_sent : (ms ns : List Msg) (b : Begun) → RoundSent ms b → RoundSent (ms ++ ns) b
    more_sent ms ns b r = record { some = r.some; msg = r.msg; there = to_append ms ns r.msg (inl r.there); inc = r.inc; number_in = r.number_in }

    -- the round with a number that no round has yet
    pub new_round_at : (xs : List RoundBegun) (nb : Begun) → ((b : RoundBegun) → In xs b → b.begun.key ≡ nb.key → b.begun.epoch ≡ nb.epoch → b.begun.round < nb.round) → round_at nb.key nb.epoch nb.round (xs ++ made_round nb ∷ []) ≡ Some (made_round nb)
    new_round_at xs nb below =
        find-append (is_round nb.key nb.epoch nb.round) xs (made_round nb ∷ [])
        ∙ (ap (λ o. option_or o (find (is_round nb.key nb.epoch nb.round) (made_round nb ∷ []))) (find_none (is_round nb.key nb.epoch nb.round) xs (λ b i. never b i (is_round nb.key nb.epoch nb.round b) refl))
        ∙ own (is_round nb.key nb.epoch nb.round (made_round nb)) (and_from _ _ (same_key-refl nb.key) (and_from _ _ (eq-eqb nb.epoch nb.epoch refl) (eq-eqb nb.round nb.round refl))))
      where
        never : (b : RoundBegun) → In xs b → (t : Bool) → is_round nb.key nb.epoch nb.round b ≡ t → t ≡ false
        never b i false is = refl
        never b i true is =
            let p = and_parts _ _ is in
            let q = and_parts _ _ p.1 in
            absurd (omega (arith, below b i (same_key-true b.begun.key nb.key p.0) (eqb-true b.begun.epoch nb.epoch q.0), eqb-true b.begun.round nb.round q.1))

        own : (t : Bool) → t ≡ true → (if t then Some (made_round nb) else None) ≡ Some (made_round nb)
        own t is = rw is refl

    pub walk_snaps : (now : ℕ) → WalkKeeps now WalkSnaps
    walk_snaps now =
        record {
          puts = λ w key slot nonce epoch expiry at is mode none h. absurd (not_strict w.state.terms.mode bound mode h.snapshot);
          goes_on = λ w key slot nonce epoch expiry r at is b mode o h. chunk_case w key slot nonce epoch expiry r at is o h;
          begins = λ w key slot nonce epoch expiry at is b mode o h. begin_case w key slot nonce epoch expiry at is h;
        }
      where
        chunk_case : (w : Walk) (key : Key) (slot : Slot) (nonce epoch expiry : ℕ) (r : Round) → slot_at w.state key ≡ Some slot → slot.lease ≡ Held nonce epoch expiry → slot.round ≡ Some r → WalkSnaps w → WalkSnaps (chunk_sent w key slot epoch r [])
        chunk_case w key slot nonce epoch expiry r at is runs h =
            let leased : epoch_of slot.lease ≡ Some epoch = ap epoch_of is in
            let k = h.slots key slot epoch at leased in
            let same : rounds_on (w.begun ++ []) ≡ rounds_on w.begun = ap rounds_on (append-nil w.begun) in
            record {
              snapshot = h.snapshot;
              slots = subst (λ rs. SnapTable rs (put w.state.slots key (chunk_slot slot r))) (sym same)
                  (put_snap (rounds_on w.begun) w.state.slots key (chunk_slot slot r) (λ q v e ne found of. h.slots q v e found of)
                  (λ e of.
                  let x = h.slots key slot e at of in
                  record { cells = x.cells; round = λ q y. run_case e q (chunk_slot slot r).round refl x.round y }));
              sent = subst (λ rs. Each (λ (m : Msg). SnapSays rs m.body) (chunk_sent w key slot epoch r []).sent) (sym same)
                  (each_append (λ (m : Msg). SnapSays (rounds_on w.begun) m.body) w.sent _ h.sent
                  ((record { cells = r.cells; round_is = k.round r runs; chunks_are = refl; part_is = refl }, h.granted key slot epoch at leased), tt));
              granted = λ k x e found of. put_any (λ q v. (e : ℕ) → epoch_of v.lease ≡ Some e → GrantedTo app.cell_count es q e) w.state.slots key (chunk_slot slot r) (λ e of. h.granted key slot e at of) (λ q v ne found e of. h.granted q v e found of) k x found e of;
              live = λ k y m d z found l. put_any (λ q v. (nonce e expiry : ℕ) → v.lease ≡ Held nonce e expiry → Top q e) w.state.slots key (chunk_slot slot r) (λ n e x l. h.live key slot n e x at l) (λ q v ne found n e x l. h.live q v n e x found l) k y found m d z l;
              last = λ q v e b found of i. last_of q v found e b of (subst (λ rs. In rs b) same i);
              tops = λ b i. h.tops b (subst (λ l. In (map made_round l) b) (append-nil w.begun) i);
              turns = subst (Pairwise RoundTurn) (sym same) h.turns;
              within = subst (Each (λ (b : RoundBegun). b.items_before ≤ length items)) (sym same) h.within;
              begun = λ b i. more_sent w.sent _ b (h.begun b (subst (λ l. In l b) (append-nil w.begun) i));
            }
          where
            run_case : (e : ℕ) (q : Round) (o : Option Round) → (chunk_slot slot r).round ≡ o → ((x : Round) → slot.round ≡ Some x → RoundIs app feeds es items (rounds_on w.begun) key e x.number x.cells) → o ≡ Some q → RoundIs app feeds es items (rounds_on w.begun) key e q.number q.cells
            run_case e q o own before y =
                let x = same_some (chunk_slot slot r).round _ q refl (own ∙ y) in
                subst (λ m. RoundIs app feeds es items (rounds_on w.begun) key e m q.cells) (ap (λ (z : Round). z.number) x)
                (subst (λ l. RoundIs app feeds es items (rounds_on w.begun) key e r.number l) (ap (λ (z : Round). z.cells) x) (before r runs))

            last_of : (q : Key) (v : Slot) → get (put w.state.slots key (chunk_slot slot r)) q ≡ Some v → (e : ℕ) (b : RoundBegun) → epoch_of v.lease ≡ Some e → In (rounds_on w.begun) b → b.begun.key ≡ q → b.begun.epoch ≡ e → b.begun.round ≤ v.last
            last_of =
                put_any (λ q v. (e : ℕ) (b : RoundBegun) → epoch_of v.lease ≡ Some e → In (rounds_on w.begun) b → b.begun.key ≡ q → b.begun.epoch ≡ e → b.begun.round ≤ v.last) w.state.slots key (chunk_slot slot r)
                (λ e b of i. h.last key slot e b at of i) (λ q v ne found e b of i. h.last q v e b found of i)

        begin_case : (w : Walk) (key : Key) (slot : Slot) (nonce epoch expiry : ℕ) → slot_at w.state key ≡ Some slot → slot.lease ≡ Held nonce epoch expiry → WalkSnaps w →
            WalkSnaps (chunk_sent w key (round_slot slot) epoch (new_round slot now) (record { key = key; epoch = epoch; round = slot.last + 1 } ∷ []))
        begin_case w key slot nonce epoch expiry at is h =
            record {
              snapshot = h.snapshot;
              slots = subst (λ rs. SnapTable rs (put w.state.slots key new)) (sym grown)
                  (put_snap (rounds_on w.begun ++ made_round nb ∷ []) w.state.slots key new
                  (λ q v e ne found of. rounds_stand (rounds_on w.begun) (made_round nb ∷ []) q v e (h.granted q v e found of) top (h.slots q v e found of))
                  (λ e of.
                  let x = rounds_stand (rounds_on w.begun) (made_round nb ∷ []) key slot e (h.granted key slot e at of) top (h.slots key slot e at of) in
                  record { cells = x.cells; round = λ q y. run_case e q (same_some (epoch_of slot.lease) epoch e leased of) y }));
              sent = subst (λ rs. Each (λ (m : Msg). SnapSays rs m.body) sent_on) (sym grown)
                  (each_append (λ (m : Msg). SnapSays (rounds_on w.begun ++ made_round nb ∷ []) m.body) w.sent _
                  (each_weaker (λ (m : Msg). SnapSays (rounds_on w.begun) m.body) (λ (m : Msg). SnapSays (rounds_on w.begun ++ made_round nb ∷ []) m.body) w.sent (λ m k. rounds_say (rounds_on w.begun) (made_round nb ∷ []) m.body top k) h.sent)
                  ((record { cells = slot.cells; round_is = own_round; chunks_are = refl; part_is = refl }, h.granted key slot epoch at leased), tt));
              granted = λ k x e found of. put_any (λ q v. (e : ℕ) → epoch_of v.lease ≡ Some e → GrantedTo app.cell_count es q e) w.state.slots key new (λ e of. h.granted key slot e at of) (λ q v ne found e of. h.granted q v e found of) k x found e of;
              live = λ k y m d z found l. put_any (λ q v. (nonce e expiry : ℕ) → v.lease ≡ Held nonce e expiry → Top q e) w.state.slots key new (λ n e x l. h.live key slot n e x at l) (λ q v ne found n e x l. h.live q v n e x found l) k y found m d z l;
              last = λ q v e b found of i. last_of q v found e b of (in_append (rounds_on w.begun) (made_round nb ∷ []) b (subst (λ rs. In rs b) grown i));
              turns = subst (Pairwise RoundTurn) (sym grown) (pairwise_push RoundTurn (rounds_on w.begun) (made_round nb) h.turns (each_all (λ (b : RoundBegun). RoundTurn b (made_round nb)) (rounds_on w.begun) (λ b i k d. turn_case b i k d)));
              within = subst (Each (λ (b : RoundBegun). b.items_before ≤ length items)) (sym grown) (each_append (λ (b : RoundBegun). b.items_before ≤ length items) (rounds_on w.begun) (made_round nb ∷ []) h.within (omega arith, tt));
              tops = λ b i. top_case b (in_append (map made_round w.begun) (made_round nb ∷ []) b (subst (λ l. In l b) (map-append made_round w.begun (nb ∷ [])) i));
              begun = λ b i. begun_case b (in_append w.begun (nb ∷ []) b i);
            }
          where
            nb : Begun
            nb = record { key = key; epoch = epoch; round = slot.last + 1 }

            new : Slot
            new = chunk_slot (round_slot slot) (new_round slot now)

            sent_on : List Msg
            sent_on = (chunk_sent w key (round_slot slot) epoch (new_round slot now) (nb ∷ [])).sent

            leased : epoch_of slot.lease ≡ Some epoch
            leased = ap epoch_of is

            grown : rounds_on (w.begun ++ nb ∷ []) ≡ rounds_on w.begun ++ made_round nb ∷ []
            grown = ap (λ l. rounds ++ l) (map-append made_round w.begun (nb ∷ [])) ∙ sym (append_assoc rounds (map made_round w.begun) (made_round nb ∷ []))

            top : (b : RoundBegun) → In (made_round nb ∷ []) b → Top b.begun.key b.begun.epoch
            top b (inl e) = subst (λ (x : RoundBegun). Top x.begun.key x.begun.epoch) e (h.live key slot nonce epoch expiry at is)
            top b (inr i) = absurd i

            own_round : RoundIs app feeds es items (rounds_on w.begun ++ made_round nb ∷ []) key epoch (slot.last + 1) slot.cells
            own_round =
                record {
                  begun = made_round nb;
                  found = new_round_at (rounds_on w.begun) nb (λ b i k e. let le : b.begun.round ≤ slot.last = h.last key slot epoch b at leased i k e in omega (arith, le));
                  within = omega arith;
                  cells_are =
                      (rounds_stand (rounds_on w.begun) (made_round nb ∷ []) key slot epoch (h.granted key slot epoch at leased) top (h.slots key slot epoch at leased)).cells
                      ∙ ap (λ l. cells_over app feeds (kept_front key es items (rounds_on w.begun ++ made_round nb ∷ []) epoch ++ filter (is_in key epoch) l)) (sym (take_all (length items) items (omega arith)));
                }

            run_case : (e : ℕ) (q : Round) → epoch ≡ e → new.round ≡ Some q → RoundIs app feeds es items (rounds_on w.begun ++ made_round nb ∷ []) key e q.number q.cells
            run_case e q same y =
                let x = same_some new.round _ q refl y in
                subst (λ d. RoundIs app feeds es items (rounds_on w.begun ++ made_round nb ∷ []) key d q.number q.cells) same
                (subst (λ m. RoundIs app feeds es items (rounds_on w.begun ++ made_round nb ∷ []) key epoch m q.cells) (ap (λ (z : Round). z.number) x)
                (subst (λ l. RoundIs app feeds es items (rounds_on w.begun ++ made_round nb ∷ []) key epoch (slot.last + 1) l) (ap (λ (z : Round). z.cells) x) own_round))

            last_of : (q : Key) (v : Slot) → get (put w.state.slots key new) q ≡ Some v → (e : ℕ) (b : RoundBegun) → epoch_of v.lease ≡ Some e → In (rounds_on w.begun) b ⊎ In (made_round nb ∷ []) b → b.begun.key ≡ q → b.begun.epoch ≡ e → b.begun.round ≤ v.last
            last_of =
                put_any (λ q v. (e : ℕ) (b : RoundBegun) → epoch_of v.lease ≡ Some e → In (rounds_on w.begun) b ⊎ In (made_round nb ∷ []) b → b.begun.key ≡ q → b.begun.epoch ≡ e → b.begun.round ≤ v.last) w.state.slots key new
                (λ e b of i k d. own_last e b of i k d) (λ q v ne found e b of i k d. other_last q v ne found e b of i k d)
              where
                own_last : (e : ℕ) (b : RoundBegun) → epoch_of slot.lease ≡ Some e → In (rounds_on w.begun) b ⊎ In (made_round nb ∷ []) b → b.begun.key ≡ key → b.begun.epoch ≡ e → b.begun.round ≤ slot.last + 1
                own_last e b of (inl i) k d = let le : b.begun.round ≤ slot.last = h.last key slot e b at of i k d in omega (arith, le)
                own_last e b of (inr (inl x)) k d = let r : slot.last + 1 ≡ b.begun.round = ap (λ (y : RoundBegun). y.begun.round) x in omega (arith, r)
                own_last e b of (inr (inr x)) k d = absurd x

                other_last : (q : Key) (v : Slot) → same_key key q ≡ false → get w.state.slots q ≡ Some v → (e : ℕ) (b : RoundBegun) → epoch_of v.lease ≡ Some e → In (rounds_on w.begun) b ⊎ In (made_round nb ∷ []) b → b.begun.key ≡ q → b.begun.epoch ≡ e → b.begun.round ≤ v.last
                other_last q v ne found e b of (inl i) k d = h.last q v e b found of i k d
                other_last q v ne found e b of (inr (inl x)) k d =
                    let same : key ≡ q = ap (λ (y : RoundBegun). y.begun.key) x ∙ k in absurd (both_ways _ ne (subst (λ j. same_key key j ≡ true) same (same_key-refl key)))
                other_last q v ne found e b of (inr (inr x)) k d = absurd x

            turn_case : (b : RoundBegun) → In (rounds_on w.begun) b → b.begun.key ≡ key → b.begun.epoch ≡ epoch → (b.begun.round < slot.last + 1) × (b.items_before ≤ length items)
            turn_case b i k d = (let le : b.begun.round ≤ slot.last = h.last key slot epoch b at leased i k d in omega (arith, le), each_in (λ (b : RoundBegun). b.items_before ≤ length items) (rounds_on w.begun) b h.within i)

            top_case : (b : RoundBegun) → In (map made_round w.begun) b ⊎ In (made_round nb ∷ []) b → Top b.begun.key b.begun.epoch
            top_case b (inl i) = h.tops b i
            top_case b (inr i) = top b i

            begun_case : (b : Begun) → In w.begun b ⊎ In (nb ∷ []) b → RoundSent sent_on b
            begun_case b (inl i) = more_sent w.sent _ b (h.begun b i)
            begun_case b (inr (inl e)) =
                subst (λ (x : Begun). RoundSent sent_on x) e
                (record { some = omega arith; msg = _; there = to_append w.sent _ _ (inr (inl refl)); inc = w.state.inc; number_in = (refl, refl, refl, refl) })
            begun_case b (inr (inr i)) = absurd i
