-- No lease is live, and no young Ask is answered, where a running book has a later epoch: from what each Grant of a next epoch rests on.
use Rattle.std.proofs.Common.{◌≡◌, inl, inr, ℕ, ◌+◌, ◌≤◌, ◌<◌, List, Some, None, arith, refl, sym, subst, false, slice_get, le-ltb}
use Rattle.proto_data.specs.declared.message.Entry.{Entry}
use Rattle.key_table.specs.Table.{Key}
use Rattle.proto_model.specs.Slot.{Slot, Lease, Asking, Held, is_young}
use Rattle.proto_model.specs.Stands.{entries_of}
use Rattle.proto_model.specs.World.{World, SwitchNode, ReplicaNode}
use Rattle.proto_safety.specs.Books.{In, Runs, committed_of}
use Rattle.proto_safety.specs.LeaseLaws.{First, AskOf, IsEntryOf, HasEpoch, NotLater, IsLater, ClockPast, HasNonce, LeaseGrounded, Grounded, SlotAt}
use Rattle.proto_safety.specs.Origins.{AskSent}
use Rattle.proto_safety.proofs.Serial.CellsGround.{OverLate}
use Rattle.proto_safety.proofs.Leasing.Ground.{Ground, held_grant, known_of}
use Rattle.proto_safety.proofs.Leasing.GroundsKept.{GroundsHold}
use Rattle.proto_safety.proofs.Leasing.Handed.{HandedHold, Passed}
use Rattle.proto_safety.proofs.Leasing.NextGrant.{NextGrant, next_grant}
use Rattle.proto_safety.proofs.Messages.WorldNonces.{greatest_ask}
use Rattle.proto_safety.proofs.Messages.WorldOrigins.{NodeOrigins}
use Rattle.proto_safety.proofs.Leasing.WorldPuts.{Known}
use Rattle.proto_safety.proofs.Basics.Eachs.{each_at}
use Rattle.proto_safety.proofs.Basics.Members.{in_middle}
use Rattle.proto_safety.proofs.Basics.Prefixes.{in_prefix}

never_both : (a b c d : ℕ) → NotLater a b c d → IsLater a b c d → ⊥
never_both a b c d (inl x) (inl y) = absurd (omega (arith, x, y))
never_both a b c d (inl x) (inr y) = absurd (omega (arith, x, y.0))
never_both a b c d (inr x) (inl y) = absurd (omega (arith, x.0, y))
never_both a b c d (inr x) (inr y) = absurd (omega (arith, x.1, y.1))

module _ (cells : ℕ) (w : World) (fs : List First) (g : Ground cells w) (handed : HandedHold fs w) (grounds : GroundsHold fs w) where
  known : Known cells w.frames w.switches w.replicas
  known = known_of cells w g

  -- each request of this epoch has run out, where the epoch's owner has asked for nothing since
  run_out :
      (r : ℕ) (replica : ReplicaNode) (key : Key) (epoch later n inc nonce : ℕ) (e : Entry) → slice_get w.replicas r ≡ Some replica → In (entries_of replica.book) e → HasEpoch key later e → epoch < later →
      In (entries_of replica.book) (Entry.Grant key epoch n inc nonce) → ((i m : ℕ) → AskSent w.frames n i m key → NotLater i m inc nonce) → (f : First) (x : Entry) → In fs f → In (entries_of replica.book) x → HasEpoch key epoch x → IsEntryOf f x →
      ClockPast w f.switch (f.moment + w.terms.t_switch)
  run_out r replica key epoch later n inc nonce e at i h lt granted greatest f x fi xi xe entry_of =
      passed_case (handed r replica at key epoch n inc nonce next.switch next.inc next.nonce next.before next.behind next.book_is (next.all_before (Entry.Grant key epoch n inc nonce) granted (refl, refl)))
    where
      next : NextGrant key epoch (entries_of replica.book)
      next = next_grant cells key None (entries_of replica.book) epoch later e (known.fits r replica key at) i h lt tt

      there : In (entries_of replica.book) (Entry.Grant key (epoch + 1) next.switch next.inc next.nonce)
      there = subst (λ es. In es (Entry.Grant key (epoch + 1) next.switch next.inc next.nonce)) (sym next.book_is) (in_middle next.before next.behind (Entry.Grant key (epoch + 1) next.switch next.inc next.nonce))

      passed_case : Passed fs w key epoch n inc nonce next.switch next.inc next.nonce next.before → ClockPast w f.switch (f.moment + w.terms.t_switch)
      passed_case (inl same) =
          let asked : AskSent w.frames next.switch next.inc next.nonce key = each_at (NodeOrigins w.frames) w.replicas r replica g.0.1.1.books at (Entry.Grant key (epoch + 1) next.switch next.inc next.nonce) there in
          absurd (never_both next.inc next.nonce inc nonce (greatest next.inc next.nonce (subst (λ k. AskSent w.frames k next.inc next.nonce key) same.0 asked)) same.1)
      passed_case (inr out) = out f x fi (next.all_before x xi xe) xe entry_of

  -- a slot's Ask is the greatest
  slot_greatest : (n : ℕ) (key : Key) (node : SwitchNode) (slot : Slot) (nonce : ℕ) → SlotAt w n key node slot → HasNonce slot.lease nonce → (i m : ℕ) → AskSent w.frames n i m key → NotLater i m node.state.inc nonce
  slot_greatest n key node slot nonce s has i m a = greatest_ask w n i m nonce key node g.1.0.1 s.at (record { slot = slot; found = s.found; nonce = has }) a

  -- the Grant of a held slot is committed
  held_is_granted : (n epoch nonce expiry : ℕ) (key : Key) (node : SwitchNode) (slot : Slot) → SlotAt w n key node slot → slot.lease ≡ Held nonce epoch expiry → In (committed_of w.replicas) (Entry.Grant key epoch n node.state.inc nonce)
  held_is_granted n epoch nonce expiry key node slot s lease = held_grant cells w n node key slot nonce epoch expiry g.0.0 s.at s.found lease

  pub over_late : OverLate w
  over_late = record { over = over; late = late }
    where
      over :
          (r n epoch later : ℕ) (key : Key) (replica : ReplicaNode) (node : SwitchNode) (slot : Slot) (e : Entry) (nonce expiry : ℕ) → Runs w r replica → In (entries_of replica.book) e → HasEpoch key later e → epoch < later →
          SlotAt w n key node slot → slot.lease ≡ Held nonce epoch expiry → expiry ≤ node.clock
      over r n epoch later key replica node slot e nonce expiry runs i h lt s lease =
          let ground : Grounded fs w n node.state.inc key nonce epoch expiry = subst (λ (l : Lease). LeaseGrounded fs w n node.state.inc key l) lease (grounds n node key slot s.at s.found) in
          let within = known.within r replica runs.at runs.up in
          let granted = in_prefix (committed_of w.replicas) (entries_of replica.book) (Entry.Grant key epoch n node.state.inc nonce) within (held_is_granted n epoch nonce expiry key node slot s lease) in
          let past : ClockPast w ground.first.switch (ground.first.moment + w.terms.t_switch) =
          run_out r replica key epoch later n node.state.inc nonce e runs.at i h lt granted (slot_greatest n key node slot nonce s (subst (λ (l : Lease). HasNonce l nonce) (sym lease) refl)) ground.first ground.entry ground.was
          (in_prefix (committed_of w.replicas) (entries_of replica.book) ground.entry within ground.committed) ground.in_epoch ground.entry_of in
          subst (λ (k : ℕ). k ≤ node.clock) (sym ground.expiry_is) (past node (subst (λ (k : ℕ). slice_get w.switches k ≡ Some node) (sym ground.switch_is) s.at))

      late :
          (r n epoch later : ℕ) (key : Key) (replica : ReplicaNode) (node : SwitchNode) (slot : Slot) (e : Entry) (nonce first : ℕ) → Runs w r replica → In (entries_of replica.book) e → HasEpoch key later e → epoch < later →
          SlotAt w n key node slot → slot.lease ≡ Asking nonce first → In (entries_of replica.book) (Entry.Grant key epoch n node.state.inc nonce) → is_young w.terms.t_switch first node.clock ≡ false
      late r n epoch later key replica node slot e nonce first runs i h lt s lease granted =
          let was : In fs (record { switch = n; key = key; request = AskOf node.state.inc nonce; moment = first }) = subst (λ (l : Lease). LeaseGrounded fs w n node.state.inc key l) lease (grounds n node key slot s.at s.found) in
          let past : ClockPast w n (first + w.terms.t_switch) =
          run_out r replica key epoch later n node.state.inc nonce e runs.at i h lt granted (slot_greatest n key node slot nonce s (subst (λ (l : Lease). HasNonce l nonce) (sym lease) refl))
          (record { switch = n; key = key; request = AskOf node.state.inc nonce; moment = first }) (Entry.Grant key epoch n node.state.inc nonce) was granted (refl, refl) (refl, refl, refl) in
          le-ltb node.clock (first + w.terms.t_switch) (past node s.at)
