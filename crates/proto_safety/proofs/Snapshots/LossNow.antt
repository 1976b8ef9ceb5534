-- What a snapshot run's history keeps to, from what is kept of its world.
use Rattle.std.proofs.Common.{◌≡◌, ◌≢◌, ◌⊎◌, inl, inr, ℕ, ◌≤◌, ◌<◌, zero, suc, List, [], ◌∷◌, ◌++◌, Some, None, arith, refl, sym, ◌∙◌, ap, subst, true, false, Bool, slice_get, filter, eqb-true, eq-eqb}
use Rattle.std.specs.Prelude.{take, option_map, option_and_then, nat_lt}
use Rattle.std.proofs.lemmas.Bool.{and_parts, and_from, ltb-true, ltb-false}
use Rattle.std.proofs.lemmas.List.{take-map}
use Rattle.rp_base.specs.declared.node.Packet.{Packet}
use Rattle.proto_data.specs.declared.message.Body.{Body}
use Rattle.proto_data.specs.declared.message.Entry.{Entry}
use Rattle.proto_data.specs.declared.message.Msg.{Msg}
use Rattle.proto_data.specs.declared.message.Record.{Record}
use Rattle.rp_app.specs.Application.{Application, after, zeros}
use Rattle.key_table.specs.Table.{Key, get}
use Rattle.proto_model.specs.Committed.{is_in, journal, committed_book, committed_records, committed_cells, cells_at}
use Rattle.proto_model.specs.Feeds.{Pairwise, fed_at, packet_at, packets_at, key_at}
use Rattle.proto_model.specs.Kept.{base, after_marks, marks_in}
use Rattle.proto_model.specs.Legal.{IsOutputIn}
use Rattle.proto_model.specs.Loss.{ItemAt, MarksOnce, InOrder, KeylessReleased}
use Rattle.proto_model.specs.World.{World, Journaled, RoundBegun}
use Rattle.rp_base.specs.declared.legality.Fed.{Fed}
use Rattle.rp_base.specs.declared.legality.Released.{Released}
use Rattle.proto_safety.specs.Books.{In, committed_of}
use Rattle.proto_safety.specs.Flows.{FitsFrom, flow_in, flow_of}
use Rattle.proto_safety.specs.LossLaws.{kept_front, cells_over, HistoryStands, ReleasedBy, keyless, by_item}
use Rattle.proto_safety.specs.Origins.{PutSent}
use Rattle.proto_safety.proofs.Serial.CellsGround.{entry_origin, known}
use Rattle.proto_safety.proofs.Store.FlowBooks.{book_flow}
use Rattle.proto_safety.proofs.Serial.FlowSerial.{MadeIn, ran-append}
use Rattle.proto_safety.proofs.Snapshots.KeptFronts.{BookRounds, base_is, committed_cells_are}
use Rattle.proto_safety.proofs.Snapshots.SnapRounds.{snap_round}
use Rattle.proto_safety.proofs.Snapshots.SnapRun.{Ended, snap_facts}
use Rattle.proto_safety.proofs.Snapshots.SnapShown.{Shows, ItemTurn}
use Rattle.proto_safety.proofs.Snapshots.SnapSlots.{SnapSays}
use Rattle.key_table.proofs.Tables.{same_key-true, same_key-refl, same_some}
use Rattle.proto_safety.proofs.Snapshots.WorldSnaps.{SnapFacts, Snaps}
use Rattle.proto_safety.proofs.Basics.Eachs.{each_all, each_in}
use Rattle.proto_safety.proofs.Basics.Members.{among_in, in_filter, somewhere, to_filter}
use Rattle.proto_safety.proofs.Basics.Pairs.{pairwise_filter}

-- ---- places

-- an element and what stands about it
place_split : (xs : List Journaled) (n : ℕ) (x : Journaled) → slice_get xs n ≡ Some x → (post : List Journaled) × (xs ≡ take n xs ++ x ∷ post)
place_split [] n x at = absurd cc
place_split (y ∷ ys) zero x at = let e : y ≡ x = cc in (ys, ap (λ z. z ∷ ys) e)
place_split (y ∷ ys) (suc n) x at = let r = place_split ys n x at in (r.0, ap (λ l. y ∷ l) r.1)

place_in : (xs : List Journaled) (n : ℕ) (x : Journaled) → slice_get xs n ≡ Some x → In xs x
place_in [] n x at = absurd cc
place_in (y ∷ ys) zero x at = inl cc
place_in (y ∷ ys) (suc n) x at = inr (place_in ys n x at)

-- what holds of each two elements in their order
pair_at : (R : Journaled → Journaled → Type 0) (xs : List Journaled) (n m : ℕ) (a b : Journaled) → Pairwise R xs → slice_get xs n ≡ Some a → slice_get xs m ≡ Some b → n < m → R a b
pair_at R [] n m a b h p q lt = absurd cc
pair_at R (x ∷ xs) zero zero a b h p q lt = absurd (omega arith)
pair_at R (x ∷ xs) zero (suc m) a b h p q lt = let e : x ≡ a = cc in subst (λ y. R y b) e (each_in (R x) xs b h.0 (place_in xs m b q))
pair_at R (x ∷ xs) (suc n) zero a b h p q lt = absurd (omega arith)
pair_at R (x ∷ xs) (suc n) (suc m) a b h p q lt = pair_at R xs n m a b h.1 p q (omega (arith, lt))

-- of two members one comes first, or they are one
pair_in : (R : Journaled → Journaled → Type 0) (xs : List Journaled) (a b : Journaled) → Pairwise R xs → In xs a → In xs b → (a ≡ b) ⊎ (R a b ⊎ R b a)
pair_in R [] a b h i j = absurd i
pair_in R (x ∷ xs) a b h (inl e) (inl f) = inl (sym e ∙ f)
pair_in R (x ∷ xs) a b h (inl e) (inr j) = inr (inl (subst (λ y. R y b) e (each_in (R x) xs b h.0 j)))
pair_in R (x ∷ xs) a b h (inr i) (inl f) = inr (inr (subst (λ y. R y a) f (each_in (R x) xs a h.0 i)))
pair_in R (x ∷ xs) a b h (inr i) (inr j) = pair_in R xs a b h.1 i j

abbrev Apart : Journaled → Journaled → Type 0
Apart a b = a.item.mark ≢ b.item.mark

-- items with one mark are one
one_item : (xs : List Journaled) (a b : Journaled) → Pairwise Apart xs → In xs a → In xs b → a.item.mark ≡ b.item.mark → a ≡ b
one_item xs a b h i j same = one_case (pair_in Apart xs a b h i j)
  where
    one_case : (a ≡ b) ⊎ (Apart a b ⊎ Apart b a) → a ≡ b
    one_case (inl e) = e
    one_case (inr (inl ne)) = absurd (ne same)
    one_case (inr (inr ne)) = absurd (ne (sym same))

-- ---- the world

module _ (app : Application) (bound : ℕ) (w : World) (e : Ended app bound w) (h : Snaps app w) (s : Shows app w) (once : Pairwise Apart w.history.items) (released_once : Pairwise (λ (a b : Released). a.output.mark ≢ b.output.mark) w.history.released) where
  abbrev f : SnapFacts app bound w
  f = snap_facts app bound w e

  abbrev es : List Entry
  es = committed_of w.replicas

  abbrev items : List Journaled
  items = w.history.items

  abbrev fed : List Fed
  fed = w.history.fed

  fits : (key : Key) → FitsFrom app.cell_count key None es
  fits = (known app w f.settled f.ends).committed_fits

  book : (key : Key) → BookRounds app fed es items w.history.rounds key
  book key =
      record {
        snaps = λ d number cells i. snap_round app fed es items w.history.rounds w.frames h.says key d number cells (entry_origin app w f.settled f.ends (Entry.Snap key d number cells) i);
        puts = λ d number delta i.
            let p : PutSent w.frames key d number delta = entry_origin app w f.settled f.ends (Entry.Put key d number delta) i in
            subst (λ (x : Body). SnapSays app fed es items w.history.rounds x) p.body_is (each_in (λ (m : Msg). SnapSays app fed es items w.history.rounds m.body) w.frames p.msg h.says p.there);
        begun = each_all (λ (r : RoundBegun). 1 ≤ r.begun.round) w.history.rounds (λ r i. (h.begun r i).0);
      }

  cells : (key : Key) (r : Record) → get (committed_records app.cell_count w) key ≡ Some r → committed_cells app.cell_count w key ≡ base app w key r.epoch
  cells key r at =
      let flow : flow_of app.cell_count key es ≡ Some (flow_in r) = sym (book_flow app.cell_count key (committed_book w) []) ∙ ap (λ o. option_map flow_in o) at in
      ap cells_at at ∙ (committed_cells_are app fed es items w.history.rounds key (fits key) (book key) (flow_in r) flow ∙ sym (base_is app app.cell_count w key (fits key) r.epoch))

  -- ---- items

  made_at : (key : Key) (d n : ℕ) (j : Journaled) → ItemAt w key d n j → MadeIn app fed key (kept_front key es items w.history.rounds d ++ take n (journal w key d)) j
  made_at key d n j at = let p = place_split (journal w key d) n j at in (h.made key d).at (take n (journal w key d)) j p.0 p.1

  keyed : (key : Key) (d n : ℕ) (j : Journaled) → ItemAt w key d n j → key_at app fed j.item.mark ≡ Some key
  keyed key d n j at = let m = made_at key d n j at in ap (λ o. option_and_then app.key_of o) m.fed_at ∙ m.key_is

  there : (key : Key) (d n : ℕ) (j : Journaled) → ItemAt w key d n j → In items j × ((j.item.key ≡ key) × (j.item.epoch ≡ d))
  there key d n j at =
      let i = in_filter (is_in key d) items j (place_in (journal w key d) n j at) in
      let p = and_parts _ _ i.1 in
      (i.0, (same_key-true j.item.key key p.0, eqb-true j.item.epoch d p.1))

  -- a key of an item's mark is the item's
  item_key : (j : Journaled) → In items j → (p : Packet) × ((packet_at fed j.item.mark ≡ Some p) × (app.key_of p ≡ Some j.item.key))
  item_key j i =
      let k = somewhere_in j i in k
    where
      somewhere_in : (j : Journaled) → In items j → (p : Packet) × ((packet_at fed j.item.mark ≡ Some p) × (app.key_of p ≡ Some j.item.key))
      somewhere_in j i =
          let own : In (filter (is_in j.item.key j.item.epoch) items) j = to_filter (is_in j.item.key j.item.epoch) items j i (and_from _ _ (same_key-refl j.item.key) (eq-eqb j.item.epoch j.item.epoch refl)) in
          let x = somewhere (filter (is_in j.item.key j.item.epoch) items) j own in
          let m = (h.made j.item.key j.item.epoch).at x.before j x.behind x.is in
          (m.packet, (m.fed_at, m.key_is))

  marks : (key : Key) → MarksOnce app w key
  marks key =
      record {
        fed_with_key = λ d n j at. keyed key d n j at;
        once = λ d g n m a b at bt same.
            let x = there key d n a at in
            let y = there key g m b bt in
            let one = one_item items a b once x.0 y.0 same in
            let epoch : d ≡ g = sym x.1.1 ∙ (ap (λ (z : Journaled). z.item.epoch) one ∙ y.1.1) in
            (epoch, place_same d n m a b at (subst (λ z. ItemAt w key z m b) (sym epoch) bt) same);
      }
    where
      place_same : (d n m : ℕ) (a b : Journaled) → ItemAt w key d n a → ItemAt w key d m b → a.item.mark ≡ b.item.mark → n ≡ m
      place_same d n m a b at bt same = less_case (nat_lt n m) refl (nat_lt m n) refl
        where
          apart : Pairwise Apart (journal w key d)
          apart = pairwise_filter Apart (is_in key d) items once

          less_case : (t : Bool) → nat_lt n m ≡ t → (u : Bool) → nat_lt m n ≡ u → n ≡ m
          less_case true t u v = absurd (pair_at Apart (journal w key d) n m a b apart at bt (ltb-true n m t) same)
          less_case false t true v = absurd (pair_at Apart (journal w key d) m n b a apart bt at (ltb-true m n v) (sym same))
          less_case false t false v = omega (arith, ltb-false n m t, ltb-false m n v)

  -- ---- releases

  outputs : (key : Key) (d n : ℕ) (j : Journaled) (r : Released) → slice_get (journal w key (suc d)) n ≡ Some j → In w.history.released r → r.output.mark ≡ j.item.mark →
      IsOutputIn app fed (after_marks app w (base app w key d) (take n (marks_in (journal w key (suc d))))) r.output
  outputs key d n j r at i same = shown_case (s.shown r i)
    where
      m : MadeIn app fed key (kept_front key es items w.history.rounds (suc d) ++ take n (journal w key (suc d))) j
      m = made_at key (suc d) n j at

      along : after_marks app w (base app w key d) (take n (marks_in (journal w key (suc d)))) ≡ cells_over app fed (kept_front key es items w.history.rounds (suc d) ++ take n (journal w key (suc d)))
      along =
          ap (λ l. after_marks app w l (take n (marks_in (journal w key (suc d))))) (base_is app app.cell_count w key (fits key) d)
          ∙ (ap (λ l. after app (cells_over app fed (kept_front key es items w.history.rounds (suc d))) (packets_at fed l)) (take-map (λ (x : Journaled). x.item.mark) n (journal w key (suc d)))
          ∙ sym (ran-append app fed (kept_front key es items w.history.rounds (suc d)) (take n (journal w key (suc d)))))

      shown_case : ReleasedBy app fed items r → IsOutputIn app fed (after_marks app w (base app w key d) (take n (marks_in (journal w key (suc d))))) r.output
      shown_case (keyless none out) = let no_key : None ≡ Some key = sym none ∙ (ap (λ x. key_at app fed x) same ∙ keyed key (suc d) n j at) in cc
      shown_case (by_item k k_in mark out event) =
          let one : k ≡ j = one_item items k j once k_in (there key (suc d) n j at).0 (mark ∙ same) in
          (m.packet, ap (λ x. packet_at fed x) same ∙ m.fed_at, ap (λ l. (app.plain l m.packet).1) along ∙ (sym m.output_is ∙ (ap (λ (x : Journaled). x.output) (sym one) ∙ out)))

  keyless_released : KeylessReleased app w
  keyless_released =
      record {
        once = pairwise_weak w.history.released released_once;
        outputs = each_all (λ (r : Released). key_at app fed r.output.mark ≡ None → IsOutputIn app fed (zeros app.cell_count) r.output) w.history.released (λ r i none. shown_case r none (s.shown r i));
      }
    where
      pairwise_weak : (rs : List Released) → Pairwise (λ (a b : Released). a.output.mark ≢ b.output.mark) rs → Pairwise (λ (a b : Released). key_at app fed a.output.mark ≡ None → a.output.mark ≢ b.output.mark) rs
      pairwise_weak [] k = tt
      pairwise_weak (r ∷ rs) k = (each_all (λ (b : Released). key_at app fed r.output.mark ≡ None → r.output.mark ≢ b.output.mark) rs (λ b i none. each_in (λ (b : Released). r.output.mark ≢ b.output.mark) rs b k.0 i), pairwise_weak rs k.1)

      shown_case : (r : Released) → key_at app fed r.output.mark ≡ None → ReleasedBy app fed items r → IsOutputIn app fed (zeros app.cell_count) r.output
      shown_case r none (keyless _ out) = out
      shown_case r none (by_item j i mark out event) =
          let p = item_key j i in
          let no_key : None ≡ Some j.item.key = sym none ∙ (ap (λ x. key_at app fed x) (sym mark) ∙ (ap (λ o. option_and_then app.key_of o) p.1.0 ∙ p.1.1)) in cc

  -- ---- order

  order : (key : Key) → InOrder w key
  order key d g n m a b at bt before = turn_case (pair_in ItemTurn items a b s.turns x.0 y.0)
    where
      x : In items a × ((a.item.key ≡ key) × (a.item.epoch ≡ d))
      x = there key d n a at

      y : In items b × ((b.item.key ≡ key) × (b.item.epoch ≡ g))
      y = there key g m b bt

      -- a was released, so processed, before b was fed
      earlier : a.event < b.event
      earlier = shown_case (s.shown before.0 (among_in w.history.released before.0 before.2))
        where
          shown_case : ReleasedBy app fed items before.0 → a.event < b.event
          shown_case (keyless none out) = let no_key : None ≡ Some key = sym none ∙ (ap (λ z. key_at app fed z) before.4 ∙ keyed key d n a at) in cc
          shown_case (by_item k k_in mark out event) =
              let one : k ≡ a = one_item items k a once k_in x.0 (mark ∙ before.4) in
              let same : a.event ≡ before.0.event = ap (λ (z : Journaled). z.event) (sym one) ∙ event in
              let first = s.fed_first b y.0 in
              let fed_same : before.1 ≡ first.0 = same_some (fed_at fed b.item.mark) before.1 first.0 before.3 first.1.0 in
              omega (arith, same, first.1.1, before.5, ap (λ (z : Fed). z.event) fed_same)

      place_case : d ≡ g → (t : Bool) → nat_lt n m ≡ t → n < m
      place_case same true t = ltb-true n m t
      place_case same false t = late_case (nat_lt m n) refl
        where
          bt_here : ItemAt w key d m b
          bt_here = subst (λ z. ItemAt w key z m b) (sym same) bt

          late_case : (u : Bool) → nat_lt m n ≡ u → n < m
          late_case true u = let turn = pair_at ItemTurn (journal w key d) m n b a (pairwise_filter ItemTurn (is_in key d) items s.turns) bt_here at (ltb-true m n u) in absurd (omega (arith, turn.0, earlier))
          late_case false u =
              let place : n ≡ m = omega (arith, ltb-false n m t, ltb-false m n u) in
              let one : a ≡ b = same_some (slice_get (journal w key d) n) a b at (ap (λ z. slice_get (journal w key d) z) place ∙ bt_here) in
              absurd (omega (arith, earlier, ap (λ (z : Journaled). z.event) one))

      epoch_case : d ≤ g → (t : Bool) → nat_lt d g ≡ t → (d < g) ⊎ ((d ≡ g) × (n < m))
      epoch_case le true t = inl (ltb-true d g t)
      epoch_case le false t = let same : d ≡ g = omega (arith, le, ltb-false d g t) in inr (same, place_case same (nat_lt n m) refl)

      turn_case : (a ≡ b) ⊎ (ItemTurn a b ⊎ ItemTurn b a) → (d < g) ⊎ ((d ≡ g) × (n < m))
      turn_case (inl one) = absurd (omega (arith, earlier, ap (λ (z : Journaled). z.event) one))
      turn_case (inr (inl turn)) = let le : a.item.epoch ≤ b.item.epoch = turn.1 (x.1.0 ∙ sym y.1.0) in epoch_case (omega (arith, le, x.1.1, y.1.1)) (nat_lt d g) refl
      turn_case (inr (inr turn)) = absurd (omega (arith, turn.0, earlier))

  pub history_stands : HistoryStands app w
  history_stands = record { cells = cells; outputs = outputs; marks = marks; order = order; keyless = keyless_released }
