-- What the second half of the laws stands on, in every mode: books, replies, origins, requests, and what a lease rests on, all together.
use Rattle.std.proofs.Common.{◌≡◌, ◌⊎◌, inl, inr, ℕ, ◌≤◌, ◌<◌, List, [], Option, Some, None, refl, sym, ap, ◌∙◌, subst, true, false, Bool, slice_get, arith, append-nil, nat_lt}
use Rattle.proto_data.specs.declared.message.Config.{Config}
use Rattle.proto_data.specs.declared.message.Entry.{Entry}
use Rattle.proto_data.specs.declared.message.Input.{Input}
use Rattle.proto_data.specs.declared.terms.Mode.{Mode}
use Rattle.rp_app.specs.Application.{Application}
use Rattle.key_table.specs.Table.{Key}
use Rattle.proto_model.specs.Slot.{Slot, Lease, Round, Idle, Asking, Held, Lapsed, epoch_of}
use Rattle.proto_model.specs.SwitchState.{Copy, slot_at}
use Rattle.proto_model.specs.SwitchRows.{switch_step}
use Rattle.proto_model.specs.Stands.{entries_of}
use Rattle.proto_model.specs.World.{World, SwitchNode, ReplicaNode}
use Rattle.proto_safety.specs.Books.{In, IsPrefix, Books, lives, entries_at, committed_of}
use Rattle.proto_safety.specs.CellLaws.{Rests, SlotRests, RoundRests, SlotRounds, copies_of}
use Rattle.std.proofs.lemmas.Bool.{ltb-true, ltb-false}
use Rattle.proto_safety.proofs.Store.BookEpochLaws.{committed_fits}
use Rattle.proto_safety.proofs.Leasing.FlowRounds.{NodeRounds, rounds_kept}
use Rattle.proto_safety.proofs.Leasing.RoundNumbers.{AllNumbered, numbered_kept, numbered_at}
use Rattle.proto_safety.proofs.Store.LastBook.{Found, find_last, last_book, none_book, IsLast}
use Rattle.key_table.proofs.Tables.{same_some}
use Rattle.proto_safety.proofs.Nodes.SwitchNodes.{AllAt, all_set, all_changed, all_advanced}
use Rattle.proto_safety.proofs.Inductions.FlowInduction.{step_same}
use Rattle.proto_safety.proofs.Store.WorldFits.{NodeFits}
use Rattle.proto_safety.proofs.Leasing.WorldFlows.{Replied, AllRest, replied_kept, rests_kept}
use Rattle.proto_safety.proofs.Messages.WorldOrigins.{NodeOrigins, Stored, Origins, stored_kept, origins_kept}
use Rattle.proto_safety.proofs.Messages.WorldNonces.{Spoken, AllNonces, spoken_kept, nonces_kept}
use Rattle.proto_safety.proofs.Leasing.WorldPuts.{GrantOf, Known}
use Rattle.proto_safety.proofs.Inductions.Induction.{Keeps, keeps_all, keeps_both, keeps_anyway, given_both}
use Rattle.proto_safety.proofs.Basics.Eachs.{each_at}

-- every switch has the world's terms
pub record AllTerms (w : World) : Type 0 where
  pub switches : AllAt (λ n (node : SwitchNode). node.state.terms ≡ w.terms) w.switches

stepped_terms : (app : Application) (w : World) (n : ℕ) (node : SwitchNode) (input : Input) → slice_get w.switches n ≡ Some node → AllTerms w → (switch_step app node.state node.clock input).0.terms ≡ w.terms
stepped_terms app w n node input at h = (step_same app node.state node.clock input).terms ∙ h.switches n node at

terms_kept : (app : Application) → Keeps app AllTerms
terms_kept app =
    record {
      counts = λ w h. record { switches = h.switches };
      passes = λ w i h. record { switches = h.switches };
      feeds = λ w n node p at up mark h. record { switches = all_set (λ n (x : SwitchNode). x.state.terms ≡ w.terms) w.switches n _ (stepped_terms app w n node (Input.Packet p) at h) h.switches };
      switches = λ w n node input at up from h. record { switches = all_set (λ n (x : SwitchNode). x.state.terms ≡ w.terms) w.switches n _ (stepped_terms app w n node input at h) h.switches };
      replicas = λ w n node input at up from h. record { switches = h.switches };
      advances = λ w by fits h. record { switches = all_advanced (λ n (x : SwitchNode). x.state.terms ≡ w.terms) w.switches by (λ m d x k. k) h.switches };
      stops_switch = λ w n fits h. record { switches = all_changed (λ n (x : SwitchNode). x.state.terms ≡ w.terms) w.switches n _ (λ m x k. k) h.switches };
      stops_replica = λ w n fits h. record { switches = h.switches };
      boots = λ w n fits h. record { switches = all_changed (λ n (x : SwitchNode). x.state.terms ≡ w.terms) w.switches n _ (λ m x k. refl) h.switches };
      detects_switch = λ w n fits h. record { switches = all_changed (λ n (x : SwitchNode). x.state.terms ≡ w.terms) w.switches n _ (λ m x k. k) h.switches };
      detects_replica = λ w n fits h. record { switches = h.switches };
      announces = λ w h. record { switches = h.switches };
    }

-- the world is in strict mode
abbrev pub IsStrict : World → Type 0
IsStrict w = w.terms.mode ≡ Mode.Strict

pub strict_kept : (app : Application) → Keeps app IsStrict
strict_kept app =
    record {
      counts = λ w h. h;
      passes = λ w i h. h;
      feeds = λ w n node p at up mark h. h;
      switches = λ w n node input at up from h. h;
      replicas = λ w n node input at up from h. h;
      advances = λ w by fits h. h;
      stops_switch = λ w n fits h. h;
      stops_replica = λ w n fits h. h;
      boots = λ w n fits h. h;
      detects_switch = λ w n fits h. h;
      detects_replica = λ w n fits h. h;
      announces = λ w h. h;
    }

-- running rounds
abbrev pub Rounds : World → Type 0
Rounds w = AllAt (NodeRounds (committed_of w.replicas)) w.switches

-- what a lease rests on in either mode, and the replies
abbrev pub Rested : ℕ → World → Type 0
Rested cells w = Replied cells w × (AllRest (committed_of w.replicas) w.switches × (Rounds w × AllNumbered w))

abbrev pub Origin : World → Type 0
Origin w = Stored w × Origins w

abbrev pub Nonces : World → Type 0
Nonces w = Spoken w × AllNonces w

abbrev pub Ground : ℕ → World → Type 0
Ground cells w = (Rested cells w × Origin w) × (Nonces w × AllTerms w)

rested_kept : (app : Application) → Keeps app (Rested app.cell_count)
rested_kept app =
    keeps_both app (Replied app.cell_count) (λ w. AllRest (committed_of w.replicas) w.switches × (Rounds w × AllNumbered w)) (replied_kept app)
    (given_both app (Replied app.cell_count) (λ w. AllRest (committed_of w.replicas) w.switches) (λ w. Rounds w × AllNumbered w) (rests_kept app)
    (given_both app (Replied app.cell_count) Rounds AllNumbered (rounds_kept app) (keeps_anyway app (Replied app.cell_count) AllNumbered (numbered_kept app))))

origin_kept : (app : Application) → Keeps app Origin
origin_kept app = keeps_both app Stored Origins (stored_kept app) (origins_kept app)

all_nonces_kept : (app : Application) → Keeps app Nonces
all_nonces_kept app = keeps_both app Spoken AllNonces (spoken_kept app) (nonces_kept app)

pub ground_kept : (app : Application) → Keeps app (Ground app.cell_count)
ground_kept app =
    keeps_all app (λ w. Rested app.cell_count w × Origin w) (λ w. Nonces w × AllTerms w) (keeps_all app (Rested app.cell_count) Origin (rested_kept app) (origin_kept app))
    (keeps_all app Nonces AllTerms (all_nonces_kept app) (terms_kept app))

-- ---- what it says of leases, Grants and nonces

leased_grant : (es : List Entry) (n inc : ℕ) (key : Key) (l : Lease) (last e : ℕ) (cs : List Copy) → Rests es n inc key l last cs → epoch_of l ≡ Some e → GrantOf es n inc key e
leased_grant es n inc key (Held nonce epoch expiry) last e cs h is =
    let same : epoch ≡ e = cc in record { nonce = nonce; there = subst (λ x. In es (Entry.Grant key x n inc nonce)) same h.0 }
leased_grant es n inc key (Lapsed nonce epoch expiry) last e cs h is =
    let same : epoch ≡ e = cc in record { nonce = nonce; there = subst (λ x. In es (Entry.Grant key x n inc nonce)) same h.0 }
leased_grant es n inc key Idle last e cs h is = absurd cc
leased_grant es n inc key (Asking nonce first) last e cs h is = absurd cc

-- the same where rounds stand for copies
round_grant : (es : List Entry) (n inc : ℕ) (key : Key) (l : Lease) (last e : ℕ) (r : Option Round) → RoundRests es n inc key l last r → epoch_of l ≡ Some e → GrantOf es n inc key e
round_grant es n inc key (Held nonce epoch expiry) last e None h is =
    let same : epoch ≡ e = cc in record { nonce = nonce; there = subst (λ x. In es (Entry.Grant key x n inc nonce)) same h.0 }
round_grant es n inc key (Held nonce epoch expiry) last e (Some r) h is =
    let same : epoch ≡ e = cc in record { nonce = nonce; there = subst (λ x. In es (Entry.Grant key x n inc nonce)) same h.0 }
round_grant es n inc key (Lapsed nonce epoch expiry) last e None h is =
    let same : epoch ≡ e = cc in record { nonce = nonce; there = subst (λ x. In es (Entry.Grant key x n inc nonce)) same h.0 }
round_grant es n inc key (Lapsed nonce epoch expiry) last e (Some r) h is =
    let same : epoch ≡ e = cc in record { nonce = nonce; there = subst (λ x. In es (Entry.Grant key x n inc nonce)) same h.0 }
round_grant es n inc key Idle last e r h is = absurd cc
round_grant es n inc key (Asking nonce first) last e r h is = absurd cc

-- a leased slot's Grant is committed, in either mode
slot_grant : (cells : ℕ) (w : World) (n : ℕ) (node : SwitchNode) (key : Key) (slot : Slot) (e : ℕ) → Rested cells w → slice_get w.switches n ≡ Some node → slot_at node.state key ≡ Some slot → epoch_of slot.lease ≡ Some e →
    GrantOf (committed_of w.replicas) n node.state.inc key e
slot_grant cells w n node key slot e g at found is = mode_case node.state.terms.mode refl
  where
    mode_case : (m : Mode) → node.state.terms.mode ≡ m → GrantOf (committed_of w.replicas) n node.state.inc key e
    mode_case Mode.Strict m =
        leased_grant (committed_of w.replicas) n node.state.inc key slot.lease slot.last e (copies_of node key)
        (subst (λ o. SlotRests (committed_of w.replicas) n node.state.inc key o (copies_of node key)) found ((g.1.0 n node at key).rests m)) is
    mode_case (Mode.Snapshot bound) m =
        round_grant (committed_of w.replicas) n node.state.inc key slot.lease slot.last e slot.round
        (subst (λ o. SlotRounds (committed_of w.replicas) n node.state.inc key o) found (g.1.1.0 n node at bound m key)) is

-- and it has the lease's nonce
pub held_grant : (cells : ℕ) (w : World) (n : ℕ) (node : SwitchNode) (key : Key) (slot : Slot) (nonce epoch expiry : ℕ) → Rested cells w → slice_get w.switches n ≡ Some node → slot_at node.state key ≡ Some slot →
    slot.lease ≡ Held nonce epoch expiry → In (committed_of w.replicas) (Entry.Grant key epoch n node.state.inc nonce)
held_grant cells w n node key slot nonce epoch expiry g at found lease = mode_case node.state.terms.mode refl
  where
    round_case : (r : Option Round) → RoundRests (committed_of w.replicas) n node.state.inc key (Held nonce epoch expiry) slot.last r → In (committed_of w.replicas) (Entry.Grant key epoch n node.state.inc nonce)
    round_case None h = h.0
    round_case (Some r) h = h.0

    mode_case : (m : Mode) → node.state.terms.mode ≡ m → In (committed_of w.replicas) (Entry.Grant key epoch n node.state.inc nonce)
    mode_case Mode.Strict m =
        let rests : SlotRests (committed_of w.replicas) n node.state.inc key (Some slot) (copies_of node key) =
        subst (λ o. SlotRests (committed_of w.replicas) n node.state.inc key o (copies_of node key)) found ((g.1.0 n node at key).rests m) in
        (subst (λ (l : Lease). Rests (committed_of w.replicas) n node.state.inc key l slot.last (copies_of node key)) lease rests).0
    mode_case (Mode.Snapshot bound) m =
        let rests : SlotRounds (committed_of w.replicas) n node.state.inc key (Some slot) = subst (λ o. SlotRounds (committed_of w.replicas) n node.state.inc key o) found (g.1.1.0 n node at bound m key) in
        round_case slot.round (subst (λ (l : Lease). RoundRests (committed_of w.replicas) n node.state.inc key l slot.last slot.round) lease rests)

-- the committed book is a front of each running replica's
committed_within : (confs : List Config) (w : World) (r : ℕ) (replica : ReplicaNode) → Books confs w → slice_get w.replicas r ≡ Some replica → lives replica ≡ true → IsPrefix (committed_of w.replicas) (entries_of replica.book)
committed_within confs w r replica h at up = found_case (find_last w.replicas)
  where
    below : (n : ℕ) (node : ReplicaNode) → IsLast w.replicas n node → (r < n) → IsPrefix (entries_of node.book) (entries_of replica.book)
    below n node f lt =
        let k = h.nodes n node f.at in
        subst (λ (o : List Entry). IsPrefix (entries_of node.book) o) (ap entries_at at) (k.behind f.up r (h.configs.members node.state.config k.config r replica at up) lt)

    order_case : (n : ℕ) (node : ReplicaNode) → IsLast w.replicas n node → (r < n) ⊎ (r ≡ n) → IsPrefix (entries_of node.book) (entries_of replica.book)
    order_case n node f (inl lt) = below n node f lt
    order_case n node f (inr e) =
        let same : node ≡ replica = same_some (slice_get w.replicas n) node replica f.at (subst (λ x. slice_get w.replicas x ≡ Some replica) e at) in
        record { rest = []; is = append-nil (entries_of node.book) ∙ ap (λ (x : ReplicaNode). entries_of x.book) same }

    compare : (a b : ℕ) → a ≤ b → (a < b) ⊎ (a ≡ b)
    compare a b le = compare_case (nat_lt a b) refl
      where
        compare_case : (t : Bool) → nat_lt a b ≡ t → (a < b) ⊎ (a ≡ b)
        compare_case true t = inl (ltb-true a b t)
        compare_case false t = inr (omega (arith, le, ltb-false a b t))

    found_case : Found w.replicas → IsPrefix (committed_of w.replicas) (entries_of replica.book)
    found_case (inl f) =
        subst (λ (o : List Entry). IsPrefix o (entries_of replica.book)) (sym (ap entries_of (last_book w.replicas [] f.0 f.1.0 f.1.1)))
        (order_case f.0 f.1.0 f.1.1 (compare r f.0 (f.1.1.last r replica at up)))
    found_case (inr none) = absurd (none r replica at up)

-- what is committed stands in a running book
committed_runner : (w : World) (x : Entry) → In (committed_of w.replicas) x → (r : ℕ) × (replica : ReplicaNode) × (slice_get w.replicas r ≡ Some replica) × (lives replica ≡ true) × In (entries_of replica.book) x
committed_runner w x i = found_case (find_last w.replicas)
  where
    found_case : Found w.replicas → (r : ℕ) × (replica : ReplicaNode) × (slice_get w.replicas r ≡ Some replica) × (lives replica ≡ true) × In (entries_of replica.book) x
    found_case (inl f) = (f.0, f.1.0, f.1.1.at, f.1.1.up, subst (λ (o : List Entry). In o x) (ap entries_of (last_book w.replicas [] f.0 f.1.0 f.1.1)) i)
    found_case (inr none) = absurd (subst (λ (o : List Entry). In o x) (ap entries_of (none_book w.replicas [] none)) i)

pub known_of : (cells : ℕ) (w : World) → Ground cells w → Known cells w.frames w.switches w.replicas
known_of cells w g =
    record {
      me = λ n node at. (g.1.0.0.1 n node at).me;
      tidy = λ n node at. (g.1.0.0.1 n node at).tidy;
      leased = λ n node key slot e at found is. slot_grant cells w n node key slot e g.0.0 at found is;
      rounds = λ n node key slot r at found is. numbered_at w n node key slot r g.0.0.1.1.1 at found is;
      fits = λ r replica key at. (each_at (NodeFits cells) w.replicas r replica g.0.0.0.0.1 at).fits key;
      committed_fits = λ key. committed_fits cells w key g.0.0.0.0.1;
      within = λ r replica at up. committed_within g.0.0.0.0.0.0 w r replica g.0.0.0.0.0.1 at up;
      runner = λ x i. committed_runner w x i;
      nonces = λ n node key e k r replica at here i. ((g.1.0.1 n node at).flows key).sent k (each_at (NodeOrigins w.frames) w.replicas r replica g.0.1.1.books here (Entry.Grant key e n node.state.inc k) i);
    }
