-- An Alarm of a switch raises the last number of a slot by one at most, and sends sized messages.
use Rattle.std.proofs.Common.{◌≡◌, ◌⊎◌, ℕ, ◌+◌, ◌≤◌, ◌<◌, List, [], ◌∷◌, ◌++◌, length, map, Option, Some, None, arith, refl, ap, true, false, Bool, subst, inl, inr}
use Rattle.std.specs.Prelude.{◌/◌, is_some, nat_lt, if◌then◌else◌, unwrap_or, option_and_then, ◌&&◌, ◌||◌}
use Rattle.std.specs.List.{list_any}
use Rattle.std.proofs.lemmas.Bool.{both_ways, ltb-true, lt-ltb, and_from}
use Rattle.proto_data.specs.declared.message.Msg.{Msg}
use Rattle.proto_data.specs.declared.message.Body.{Body}
use Rattle.rp_base.specs.declared.node.Node.{Node}
use Rattle.proto_data.specs.declared.terms.Mode.{Mode}
use Rattle.proto_data.specs.declared.terms.Terms.{Terms}
use Rattle.proto_data.specs.MessageFits.{is_store, is_switch}
use Rattle.proto_model.specs.Feeds.{Each}
use Rattle.key_table.specs.Table.{Key, Table}
use Rattle.proto_model.specs.Slot.{Slot, Lease, Round, Idle, Asking, Held, Lapsed, epoch_of, is_young, chunk_count, chunk_of}
use Rattle.proto_model.specs.SwitchState.{Switch, Copy, slot_at, is_of, has_copies, head_node}
use Rattle.proto_model.specs.SwitchAlarm.{Walk, alarm, due_copies, other_copies, resent_put, repeated_ask, repeated_asks, walk_order}
use Rattle.proto_safety.specs.Sizes.{is_leased, SlotCells, KeySized, MsgSized, ConfigSized, LeaseSized, RoundSized, SlotSized, CopySized, SwitchSized, delta_room}
use Rattle.proto_safety.proofs.Size.SizesUp.{slot_up, copy_up, config_up}
use Rattle.proto_safety.proofs.Size.SizesOf.{each_put, each_get, head_is, no_delta, chunk_some, chunk_few}
use Rattle.key_table.proofs.Tables.{same_key-refl}
use Rattle.proto_safety.proofs.Inductions.AlarmInduction.{WalkKeeps, walk_kept, round_slot, new_round}
use Rattle.proto_safety.proofs.Inductions.FlowAlarm.{in_due, in_other}
use Rattle.proto_safety.proofs.Basics.Eachs.{each_all, each_append, each_if, each_in, each_made, each_take, each_weaker}
use Rattle.proto_safety.proofs.Basics.Lists.{length_take_le}

-- a slot that was walked: in strict mode it has a copy, in snapshot mode a round
abbrev Walked : Mode → List Copy → Key → Slot → Type 0
Walked mode copies key slot = (mode ≡ Mode.Strict → list_any (is_of key) copies ≡ true) × ((bound : ℕ) → mode ≡ Mode.Snapshot bound → is_some slot.round ≡ true)

-- its last number is that of before, or it was walked and is one above
record WalkSlot (n cells : ℕ) (mode : Mode) (copies : List Copy) (key : Key) (slot : Slot) : Type 0 where
  sized : SlotSized (n + 1) cells key slot
  last : (slot.last ≤ n) ⊎ Walked mode copies key slot

-- one that wasn't walked has that of before
unwalked_last : {n cells : ℕ} {mode : Mode} {copies : List Copy} {key : Key} {slot : Slot} → WalkSlot n cells mode copies key slot → (Walked mode copies key slot → ⊥) → slot.last ≤ n
unwalked_last h none =
    elim h.last [
      | inl le ↦ le
      | inr b ↦ absurd (none b)
    ]

-- what requests go by: the sender's number, incarnation and configuration
pub record Sender (m : ℕ) (s : Switch) : Type 0 where
  pub me : s.me < 8
  pub inc : s.inc ≤ m
  pub config : ConfigSized m s.config

-- a request goes from a switch to a replica
pub to_head_is : (m : ℕ) (s : Switch) → Sender m s → (is_switch (Node.Switch s.me) && is_store (head_node s.config.chain)) ≡ true
to_head_is m s h = and_from _ _ (lt-ltb s.me 8 h.me) (head_is s.config.chain h.config.some h.config.replicas)

any_more : (key : Key) (cs : List Copy) (c : Copy) → list_any (is_of key) cs ≡ true → list_any (is_of key) (cs ++ c ∷ []) ≡ true
any_more key [] c h = cc
any_more key (x ∷ xs) c h = more_case (is_of key x) (any_more key xs c) h
  where
    more_case : (b : Bool) → (list_any (is_of key) xs ≡ true → list_any (is_of key) (xs ++ c ∷ []) ≡ true) → (b || list_any (is_of key) xs) ≡ true → (b || list_any (is_of key) (xs ++ c ∷ [])) ≡ true
    more_case true rest h = refl
    more_case false rest h = rest h

any_last : (key : Key) (cs : List Copy) (c : Copy) → is_of key c ≡ true → list_any (is_of key) (cs ++ c ∷ []) ≡ true
any_last key [] c h = rw h refl
any_last key (x ∷ xs) c h = last_case (is_of key x) (any_last key xs c h)
  where
    last_case : (b : Bool) → list_any (is_of key) (xs ++ c ∷ []) ≡ true → (b || list_any (is_of key) (xs ++ c ∷ [])) ≡ true
    last_case true rest = refl
    last_case false rest = rest

-- the epoch and the cells of a slot whose lease is held
pub held_slot : (m cells : ℕ) (key : Key) (slot : Slot) (nonce epoch expiry : ℕ) → slot.lease ≡ Held nonce epoch expiry → SlotSized m cells key slot → (epoch ≤ m) × (length slot.cells ≡ cells)
held_slot m cells key slot nonce epoch expiry is h = (subst (λ (l : Lease). LeaseSized m l) is h.lease, h.whole.cells_are (ap is_leased is))

lease_epoch : (m : ℕ) (lease : Lease) → LeaseSized m lease → unwrap_or (epoch_of lease) 0 ≤ m
lease_epoch m Idle h = omega arith
lease_epoch m (Asking nonce first) h = omega arith
lease_epoch m (Held nonce epoch expiry) h = h
lease_epoch m (Lapsed nonce epoch expiry) h = h

epoch_sized : (m cells : ℕ) (s : Switch) (key : Key) (o : Option Slot) → slot_at s key ≡ o → Each (λ (e : Key × Slot). SlotSized m cells e.0 e.1) s.slots → unwrap_or (option_and_then (λ (slot : Slot). epoch_of slot.lease) o) 0 ≤ m
epoch_sized m cells s key None at h = omega arith
epoch_sized m cells s key (Some slot) at h = lease_epoch m slot.lease (each_get (λ k v. SlotSized m cells k v) s.slots key slot at h).lease

module _ (n cells : ℕ) (few : cells ≤ 256) (terms : Terms) (now : ℕ) where
  abbrev Fits : Msg → Type 0
  Fits m = MsgSized (n + 1) (delta_room terms.mode cells) m

  record WalkSized (w : Walk) : Type 0 where
    sender : Sender (n + 1) w.state
    terms_are : w.state.terms ≡ terms
    nonces : w.state.nonces ≤ n + 1
    slots : Each (λ (e : Key × Slot). WalkSlot n cells w.state.terms.mode w.state.copies e.0 e.1) w.state.slots
    copies : Each (CopySized (n + 1) (delta_room terms.mode cells)) w.state.copies
    sent : Each Fits w.sent

  one_more : (ms : List Msg) (m : Msg) → Each Fits ms → Fits m → Each Fits (ms ++ m ∷ [])
  one_more ms m h k = each_append Fits ms (m ∷ []) h (k, tt)

  slot_of : (w : Walk) (key : Key) (slot : Slot) → slot_at w.state key ≡ Some slot → WalkSized w → WalkSlot n cells w.state.terms.mode w.state.copies key slot
  slot_of w key slot at h = each_get (λ k v. WalkSlot n cells w.state.terms.mode w.state.copies k v) w.state.slots key slot at h.slots

  -- a slot that has no copy, or no round, has the last number of before
  no_copy_last : (w : Walk) (key : Key) (slot : Slot) → w.state.terms.mode ≡ Mode.Strict → has_copies w.state key ≡ false → WalkSlot n cells w.state.terms.mode w.state.copies key slot → slot.last ≤ n
  no_copy_last w key slot mode none h = unwalked_last h (λ b. both_ways (has_copies w.state key) none (b.0 mode))

  no_round_last : (w : Walk) (key : Key) (slot : Slot) (bound : ℕ) → w.state.terms.mode ≡ Mode.Snapshot bound → slot.round ≡ None → WalkSlot n cells w.state.terms.mode w.state.copies key slot → slot.last ≤ n
  no_round_last w key slot bound mode none h = unwalked_last h (λ b. both_ways (is_some slot.round) (rw none refl) (b.1 bound mode))

  -- the modes differ
  two_modes : {A : Type 0} (m : Mode) (bound : ℕ) → m ≡ Mode.Strict → m ≡ Mode.Snapshot bound → A
  two_modes m bound a b = let no : Mode.Strict ≡ Mode.Snapshot bound = cc in absurd (cc no)

  chunk_next : (r : Round) (b : Bool) → nat_lt (r.chunk + 1) (chunk_count (length r.cells)) ≡ b → (if b then r.chunk + 1 else 0) < chunk_count (length r.cells)
  chunk_next r true is = ltb-true (r.chunk + 1) (chunk_count (length r.cells)) is
  chunk_next r false is = chunk_some (length r.cells)

  -- a chunk goes, of a slot with this running round
  chunk_sized : (w : Walk) (key : Key) (slot : Slot) (nonce epoch expiry bound : ℕ) (r : Round) → w.state.terms.mode ≡ Mode.Snapshot bound → slot.lease ≡ Held nonce epoch expiry → SlotSized (n + 1) cells key slot → RoundSized (n + 1) (Some r) → WalkSized w →
      (q : ℕ) → q < chunk_count (length r.cells) → WalkSlot n cells w.state.terms.mode w.state.copies key (record slot { round = Some (record r { chunk = q }) })
      × MsgSized (n + 1) (delta_room terms.mode cells) (record { from = Node.Switch w.state.me; to = head_node w.state.config.chain; body = Body.Snap w.state.inc epoch r.number key r.chunk (chunk_count (length r.cells)) (chunk_of r.chunk r.cells) })
  chunk_sized w key slot nonce epoch expiry bound r mode is s k h q below = (
    record {
      sized = record { key_fits = s.key_fits; lease = s.lease; whole = record { cells_are = s.whole.cells_are }; last = s.last; round = (k.0, k.1, below) };
      last = inr ((λ strict. two_modes w.state.terms.mode bound strict mode), (λ b m. refl));
    },
    (
      to_head_is (n + 1) w.state h.sender,
      (h.sender.inc, (held_slot (n + 1) cells key slot nonce epoch expiry is s).0, k.0, s.key_fits, k.2, chunk_few (length r.cells) k.1, length_take_le 32 _),
    ),
  )

  walk_sized : WalkKeeps now WalkSized
  walk_sized =
      record {
        puts = λ w key slot nonce epoch expiry at is mode none h.
            let s = slot_of w key slot at h in
            let last : slot.last ≤ n = no_copy_last w key slot mode none s in
            let c : Copy = record { key = key; number = slot.last + 1; delta = []; first = now; sent = now } in
            record {
              sender = record { me = h.sender.me; inc = h.sender.inc; config = h.sender.config };
              terms_are = h.terms_are;
              nonces = h.nonces;
              slots = each_put (λ k v. WalkSlot n cells w.state.terms.mode (w.state.copies ++ c ∷ []) k v) w.state.slots key _
                  (record {
                    sized = record { key_fits = s.sized.key_fits; lease = s.sized.lease; whole = record { cells_are = s.sized.whole.cells_are }; last = omega (arith, last); round = s.sized.round };
                    last = inr ((λ strict. any_last key w.state.copies c (same_key-refl key)), (λ bound m. two_modes w.state.terms.mode bound mode m));
                  })
                  (each_weaker _ _ w.state.slots (λ e k. copies_more w.state.terms.mode w.state.copies c e.0 e.1 k) h.slots);
              copies = each_append _ w.state.copies (c ∷ []) h.copies (record { key = s.sized.key_fits; number = omega (arith, last); delta = no_delta _ }, tt);
              sent = one_more w.sent _ h.sent (
                to_head_is (n + 1) w.state h.sender,
                (h.sender.inc, (held_slot (n + 1) cells key slot nonce epoch expiry is s.sized).0, omega (arith, last), s.sized.key_fits, no_delta _, tt),
              );
            };
        goes_on = λ w key slot nonce epoch expiry r at is bound mode o h.
            let s = slot_of w key slot at h in
            let k : RoundSized (n + 1) (Some r) = subst (λ (x : Option Round). RoundSized (n + 1) x) o s.sized.round in
            let c = chunk_sized w key slot nonce epoch expiry bound r mode is s.sized k h _ (chunk_next r (nat_lt (r.chunk + 1) (chunk_count (length r.cells))) refl) in
            record {
              sender = record { me = h.sender.me; inc = h.sender.inc; config = h.sender.config };
              terms_are = h.terms_are;
              nonces = h.nonces;
              slots = each_put (λ k v. WalkSlot n cells w.state.terms.mode w.state.copies k v) w.state.slots key _ c.0 h.slots;
              copies = h.copies;
              sent = one_more w.sent _ h.sent c.1;
            };
        begins = λ w key slot nonce epoch expiry at is bound mode o h.
            let s = slot_of w key slot at h in
            let last : slot.last ≤ n = no_round_last w key slot bound mode o s in
            let r : Round = new_round slot now in
            let leased = held_slot (n + 1) cells key slot nonce epoch expiry is s.sized in
            let k : RoundSized (n + 1) (Some r) = (omega (arith, last), omega (arith, leased.1), chunk_some (length r.cells)) in
            let t : SlotSized (n + 1) cells key (round_slot slot) = record { key_fits = s.sized.key_fits; lease = s.sized.lease; whole = record { cells_are = s.sized.whole.cells_are }; last = omega (arith, last); round = s.sized.round } in
            let c = chunk_sized w key (round_slot slot) nonce epoch expiry bound r mode is t k h _ (chunk_next r (nat_lt (r.chunk + 1) (chunk_count (length r.cells))) refl) in
            record {
              sender = record { me = h.sender.me; inc = h.sender.inc; config = h.sender.config };
              terms_are = h.terms_are;
              nonces = h.nonces;
              slots = each_put (λ k v. WalkSlot n cells w.state.terms.mode w.state.copies k v) w.state.slots key _ c.0 h.slots;
              copies = h.copies;
              sent = one_more w.sent _ h.sent c.1;
            };
      }
    where
      copies_more : (mode : Mode) (cs : List Copy) (c : Copy) (key : Key) (slot : Slot) → WalkSlot n cells mode cs key slot → WalkSlot n cells mode (cs ++ c ∷ []) key slot
      copies_more mode cs c key slot h = record { sized = h.sized; last = more_case h.last }
        where
          more_case : (slot.last ≤ n) ⊎ Walked mode cs key slot → (slot.last ≤ n) ⊎ Walked mode (cs ++ c ∷ []) key slot
          more_case (inl le) = inl le
          more_case (inr b) = inr ((λ m. any_more key cs c (b.0 m)), b.1)

  ask_sized : (s : Switch) (key : Key) (lease : Lease) → Sender (n + 1) s → KeySized key → LeaseSized n lease → Each Fits (repeated_ask s now key lease)
  ask_sized s key (Asking nonce first) h k l =
      each_if Fits (is_young s.terms.t_switch first now) _ [] ((to_head_is (n + 1) s h, (h.inc, omega (arith, l), k, tt)), tt) tt
  ask_sized s key Idle h k l = tt
  ask_sized s key (Held nonce epoch expiry) h k l = tt
  ask_sized s key (Lapsed nonce epoch expiry) h k l = tt

  asks_sized : (s : Switch) (slots : Table Slot) → Sender (n + 1) s → Each (λ (e : Key × Slot). SlotSized n cells e.0 e.1) slots → Each Fits (repeated_asks s now slots)
  asks_sized s [] h k = tt
  asks_sized s (e ∷ es) h k = each_append Fits (repeated_ask s now e.0 e.1.lease) _ (ask_sized s e.0 e.1.lease h k.0.key_fits k.0.lease) (asks_sized s es h k.1)

  again_sized : (s : Switch) (c : Copy) → SwitchSized n cells terms s → Sender (n + 1) s → CopySized n (delta_room terms.mode cells) c → Fits (resent_put s c)
  again_sized s c h k d = (
    to_head_is (n + 1) s k,
    (k.inc, (let e = epoch_sized n cells s c.key (slot_at s c.key) refl h.slots in omega (arith, e)), omega (arith, d.number), d.key, d.delta, tt),
  )

  pub alarm_sized : (s : Switch) → SwitchSized n cells terms s → SwitchSized (n + 1) cells terms (alarm s now).0 × Each Fits (alarm s now).1.sent
  alarm_sized s h =
      let k : Sender (n + 1) s = record { me = h.me; inc = omega (arith, h.inc); config = config_up n (n + 1) (omega arith) s.config h.config } in
      let due : List Copy = due_copies now (s.terms.t_switch / 4) 64 s.copies in
      let other : List Copy = other_copies now (s.terms.t_switch / 4) 64 s.copies in
      let w = walk_kept now WalkSized walk_sized (walk_order s.walked (map (λ (e : Key × Slot). e.0) s.slots)) _
      (record {
        sender = record { me = k.me; inc = k.inc; config = k.config };
        terms_are = h.terms_are;
        nonces = omega (arith, h.nonces);
        slots = each_weaker _ _ s.slots (λ e x. record { sized = slot_up n (n + 1) (omega arith) cells e.0 e.1 x; last = inl x.last }) h.slots;
        copies = each_append _ other (map (λ (c : Copy). record c { sent = now }) due)
            (each_all _ other (λ c i. copy_up n (n + 1) (omega arith) _ c (each_in _ s.copies c h.copies (in_other now (s.terms.t_switch / 4) 64 s.copies c i))))
            (each_made _ (λ (c : Copy). record c { sent = now }) due (λ c i. let x = copy_up n (n + 1) (omega arith) _ c (each_in _ s.copies c h.copies (in_due now (s.terms.t_switch / 4) 64 s.copies c i)) in record { key = x.key; number = x.number; delta = x.delta }));
        sent = each_take Fits 64 _
            (each_append Fits _ (repeated_asks s now s.slots)
            (each_made Fits (resent_put s) due (λ c i. again_sized s c h k (each_in _ s.copies c h.copies (in_due now (s.terms.t_switch / 4) 64 s.copies c i))))
            (asks_sized s s.slots k h.slots));
      }) in (
        record {
          me = w.sender.me;
          terms_are = w.terms_are;
          inc = w.sender.inc;
          nonces = w.nonces;
          config = w.sender.config;
          slots = each_weaker _ _ _ (λ e x. x.sized) w.slots;
          copies = w.copies;
        },
        w.sent,
      )
