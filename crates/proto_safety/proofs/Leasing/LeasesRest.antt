-- What a lease rests on, in both modes, after every list of events.
use Rattle.std.proofs.Common.{◌≡◌, ℕ, List, [], Option, Some, None, arith, refl, subst, slice_get}
use Rattle.proto_data.specs.declared.terms.Mode.{Mode}
use Rattle.proto_data.specs.declared.message.Entry.{Entry}
use Rattle.rp_base.specs.declared.event.Event.{Event}
use Rattle.rp_app.specs.Application.{Application}
use Rattle.key_table.specs.Table.{Key}
use Rattle.proto_model.specs.Slot.{Slot, Lease, Round, Idle, Asking, Held, Lapsed, epoch_of}
use Rattle.proto_model.specs.SwitchState.{Copy, slot_at}
use Rattle.proto_model.specs.Committed.{committed_book}
use Rattle.proto_model.specs.World.{World, Setup, SwitchNode, opened}
use Rattle.proto_model.specs.WorldStep.{world_after}
use Rattle.proto_safety.specs.Books.{In, committed_of}
use Rattle.proto_safety.specs.Epochs.{WithinClosing}
use Rattle.proto_safety.specs.Flows.{AckedIn}
use Rattle.proto_safety.specs.LeaseLaws.{HasNonce}
use Rattle.proto_safety.specs.CellLaws.{LeaseBasis, Rests, SlotRests, RoundRests, SlotRounds, copies_of}
use Rattle.proto_safety.proofs.Store.EpochNumbers.{closing_reaches}
use Rattle.proto_safety.proofs.Leasing.FlowCopies.{not_strict}
use Rattle.proto_safety.proofs.Leasing.FlowRounds.{rounds_rest}
use Rattle.proto_safety.proofs.Leasing.WorldFlows.{flows_rest}

-- a committed number of at least this one
pub within_closing : (w : World) (key : Key) (epoch upto : ℕ) → AckedIn (committed_of w.replicas) epoch upto key → WithinClosing w key epoch upto
within_closing w key epoch upto a =
    let r = closing_reaches key epoch a.number (committed_book w) a.entry a.there a.number_is in (r.0, (r.1.0, omega (arith, r.1.1, a.reaches)))

-- the parts, by the lease
record Parts (w : World) (n inc : ℕ) (key : Key) (epoch last : ℕ) (l : Lease) (strict : Type 0) (reached : Type 0) : Type 0 where
  nonce : ℕ
  nonce_is : HasNonce l nonce
  granted : In (committed_of w.replicas) (Entry.Grant key epoch n inc nonce)
  then : strict → reached

strict_parts : (w : World) (n inc epoch last : ℕ) (key : Key) (l : Lease) (cs : List Copy) → epoch_of l ≡ Some epoch → Rests (committed_of w.replicas) n inc key l last cs →
    Parts w n inc key epoch last l (cs ≡ []) (AckedIn (committed_of w.replicas) epoch last key)
strict_parts w n inc epoch last key Idle cs of h = cc
strict_parts w n inc epoch last key (Asking nonce first) cs of h = cc
strict_parts w n inc epoch last key (Held nonce e expiry) cs of h =
    let same : e ≡ epoch = cc in
    record {
      nonce = nonce;
      nonce_is = refl;
      granted = subst (λ x. In (committed_of w.replicas) (Entry.Grant key x n inc nonce)) same h.0;
      then = λ none. subst (λ x. AckedIn (committed_of w.replicas) x last key) same (h.1 none);
    }
strict_parts w n inc epoch last key (Lapsed nonce e expiry) cs of h =
    let same : e ≡ epoch = cc in
    record {
      nonce = nonce;
      nonce_is = refl;
      granted = subst (λ x. In (committed_of w.replicas) (Entry.Grant key x n inc nonce)) same h.0;
      then = λ none. subst (λ x. AckedIn (committed_of w.replicas) x last key) same (h.1 none);
    }

-- what a round, or its absence, says
abbrev RoundSays : List Entry → Key → ℕ → ℕ → Option Round → Type 0
RoundSays es key epoch last None = AckedIn es epoch last key
RoundSays es key epoch last (Some r) = r.number ≡ last

record Snapped (w : World) (n inc : ℕ) (key : Key) (epoch last : ℕ) (l : Lease) (round : Option Round) : Type 0 where
  nonce : ℕ
  nonce_is : HasNonce l nonce
  granted : In (committed_of w.replicas) (Entry.Grant key epoch n inc nonce)
  says : RoundSays (committed_of w.replicas) key epoch last round

snapped_parts : (w : World) (n inc epoch last : ℕ) (key : Key) (l : Lease) (round : Option Round) → epoch_of l ≡ Some epoch → RoundRests (committed_of w.replicas) n inc key l last round → Snapped w n inc key epoch last l round
snapped_parts w n inc epoch last key Idle round of h = cc
snapped_parts w n inc epoch last key (Asking nonce first) round of h = cc
snapped_parts w n inc epoch last key (Held nonce e expiry) None of h =
    let same : e ≡ epoch = cc in rw (← same) (record { nonce = nonce; nonce_is = refl; granted = h.0; says = h.1 })
snapped_parts w n inc epoch last key (Held nonce e expiry) (Some r) of h =
    let same : e ≡ epoch = cc in rw (← same) (record { nonce = nonce; nonce_is = refl; granted = h.0; says = h.1 })
snapped_parts w n inc epoch last key (Lapsed nonce e expiry) None of h =
    let same : e ≡ epoch = cc in rw (← same) (record { nonce = nonce; nonce_is = refl; granted = h.0; says = h.1 })
snapped_parts w n inc epoch last key (Lapsed nonce e expiry) (Some r) of h =
    let same : e ≡ epoch = cc in rw (← same) (record { nonce = nonce; nonce_is = refl; granted = h.0; says = h.1 })

module _ (w : World) (n epoch : ℕ) (key : Key) (node : SwitchNode) (slot : Slot) (of : epoch_of slot.lease ≡ Some epoch) where
  strict_basis : node.state.terms.mode ≡ Mode.Strict → Rests (committed_of w.replicas) n node.state.inc key slot.lease slot.last (copies_of node key) → LeaseBasis w n key epoch node slot
  strict_basis mode h =
      let p = strict_parts w n node.state.inc epoch slot.last key slot.lease (copies_of node key) of h in
      record {
        nonce = p.nonce;
        nonce_is = p.nonce_is;
        granted = p.granted;
        no_copies = λ m none. within_closing w key epoch slot.last (p.then none);
        no_round = λ bound m none. absurd (not_strict node.state.terms.mode bound mode m);
        round = λ bound r m is. absurd (not_strict node.state.terms.mode bound mode m);
      }

  snapshot_basis : (bound : ℕ) → node.state.terms.mode ≡ Mode.Snapshot bound → RoundRests (committed_of w.replicas) n node.state.inc key slot.lease slot.last slot.round → LeaseBasis w n key epoch node slot
  snapshot_basis bound mode h =
      let p = snapped_parts w n node.state.inc epoch slot.last key slot.lease slot.round of h in
      record {
        nonce = p.nonce;
        nonce_is = p.nonce_is;
        granted = p.granted;
        no_copies = λ m none. absurd (not_strict node.state.terms.mode bound m mode);
        no_round = λ b m none. within_closing w key epoch slot.last (subst (λ o. RoundSays (committed_of w.replicas) key epoch slot.last o) none p.says);
        round = λ b r m is. subst (λ o. RoundSays (committed_of w.replicas) key epoch slot.last o) is p.says;
      }

pub leases_rest : (app : Application) (setup : Setup) (es : List Event) (n epoch : ℕ) (key : Key) (node : SwitchNode) (slot : Slot) → slice_get (world_after app (opened app.cell_count setup) es).switches n ≡ Some node →
    slot_at node.state key ≡ Some slot → epoch_of slot.lease ≡ Some epoch → LeaseBasis (world_after app (opened app.cell_count setup) es) n key epoch node slot
leases_rest app setup es n epoch key node slot at found of = mode_case node.state.terms.mode refl
  where
    mode_case : (m : Mode) → node.state.terms.mode ≡ m → LeaseBasis (world_after app (opened app.cell_count setup) es) n key epoch node slot
    mode_case Mode.Strict is =
        strict_basis (world_after app (opened app.cell_count setup) es) n epoch key node slot of is
        (subst (λ o. SlotRests (committed_of (world_after app (opened app.cell_count setup) es).replicas) n node.state.inc key o (copies_of node key)) found ((flows_rest app setup es n node at key).rests is))
    mode_case (Mode.Snapshot bound) is =
        snapshot_basis (world_after app (opened app.cell_count setup) es) n epoch key node slot of bound is
        (subst (λ o. SlotRounds (committed_of (world_after app (opened app.cell_count setup) es).replicas) n node.state.inc key o) found (rounds_rest app setup es n node at bound is key))
