-- What is sized by a number is sized by a greater one.
use Rattle.std.proofs.Common.{ℕ, ◌≤◌, List, Option, Some, None, arith}
use Rattle.proto_data.specs.declared.message.Msg.{Msg}
use Rattle.proto_data.specs.declared.message.Body.{Body}
use Rattle.proto_data.specs.declared.message.Entry.{Entry}
use Rattle.proto_data.specs.declared.message.Echoed.{Echoed}
use Rattle.proto_data.specs.declared.message.Record.{Record}
use Rattle.proto_data.specs.declared.message.Carried.{Carried}
use Rattle.proto_data.specs.declared.message.Config.{Config}
use Rattle.proto_data.specs.declared.terms.Terms.{Terms}
use Rattle.key_table.specs.Table.{Key}
use Rattle.proto_model.specs.Slot.{Slot, Lease, Round, Idle, Asking, Held, Lapsed}
use Rattle.proto_model.specs.SwitchState.{Switch, Copy}
use Rattle.proto_model.specs.ReplicaState.{Replica}
use Rattle.rp_app.specs.Application.{Delta}
use Rattle.proto_safety.specs.Sizes.{DeltaSized, LoadSized, MarkSized, EntrySized, EchoedSized, ConfigSized, BodySized, MsgSized, LeaseSized, RoundSized, SlotSized, CopySized, SwitchSized, RecordSized, ReplicaSized}
use Rattle.proto_safety.proofs.Basics.Eachs.{each_weaker}

module _ (n m : ℕ) (le : n ≤ m) where
  pub load_up : (load : Option Carried) → LoadSized n load → LoadSized m load
  load_up None h = tt
  load_up (Some c) h = (omega (arith, h.0), h.1, h.2)

  mark_up : (mark : Option ℕ) → MarkSized n mark → MarkSized m mark
  mark_up None h = tt
  mark_up (Some x) h = omega arith

  pub entry_up : (d : ℕ) (e : Entry) → EntrySized n d e → EntrySized m d e
  entry_up d (Entry.Grant key epoch switch inc nonce) h = (h.0, omega (arith, h.1), h.2, omega (arith, h.3), omega (arith, h.4))
  entry_up d (Entry.Put key epoch number delta) h = (h.0, omega (arith, h.1), omega (arith, h.2), h.3)
  entry_up d (Entry.Snap key epoch round cells) h = (h.0, omega (arith, h.1), omega (arith, h.2), h.3)

  echoed_up : (of : Echoed) → EchoedSized n of → EchoedSized m of
  echoed_up (Echoed.Ask switch inc nonce key) h = (h.0, omega (arith, h.1), omega (arith, h.2), h.3)
  echoed_up (Echoed.Put switch epoch number key) h = (h.0, omega (arith, h.1), omega (arith, h.2), h.3)

  pub config_up : (c : Config) → ConfigSized n c → ConfigSized m c
  config_up c h = record { number = omega (arith, h.number); some = h.some; few = h.few; rises = h.rises; replicas = h.replicas }

  body_up : (d : ℕ) (body : Body) → BodySized n d body → BodySized m d body
  body_up d (Body.Ask inc nonce key load) h = (omega (arith, h.0), omega (arith, h.1), h.2, load_up load h.3)
  body_up d (Body.Grant inc nonce epoch key cells load) h = (omega (arith, h.0), omega (arith, h.1), omega (arith, h.2), h.3, h.4, load_up load h.5)
  body_up d (Body.Busy inc nonce key mark) h = (omega (arith, h.0), omega (arith, h.1), h.2, mark_up mark h.3)
  body_up d (Body.Put inc epoch number key delta load) h = (omega (arith, h.0), omega (arith, h.1), omega (arith, h.2), h.3, h.4, load_up load h.5)
  body_up d (Body.Ack inc epoch upto key load) h = (omega (arith, h.0), omega (arith, h.1), omega (arith, h.2), h.3, load_up load h.4)
  body_up d (Body.Deny inc epoch key) h = (omega (arith, h.0), omega (arith, h.1), h.2)
  body_up d (Body.Forward config index entry load) h = (omega (arith, h.0), omega (arith, h.1), entry_up d entry h.2, load_up load h.3)
  body_up d (Body.Have index) h = omega arith
  body_up d (Body.Echo of load) h = (echoed_up of h.0, load_up load h.1)
  body_up d (Body.Config config) h = config_up config h
  body_up d (Body.Snap inc epoch round key chunk chunks cells) h = (omega (arith, h.0), omega (arith, h.1), omega (arith, h.2), h.3, h.4, h.5, h.6)

  pub msg_up : (d : ℕ) (x : Msg) → MsgSized n d x → MsgSized m d x
  msg_up d x h = (h.0, body_up d x.body h.1)

  lease_up : (lease : Lease) → LeaseSized n lease → LeaseSized m lease
  lease_up Idle h = tt
  lease_up (Asking nonce first) h = omega arith
  lease_up (Held nonce epoch expiry) h = omega arith
  lease_up (Lapsed nonce epoch expiry) h = omega arith

  round_up : (o : Option Round) → RoundSized n o → RoundSized m o
  round_up None h = tt
  round_up (Some r) h = (omega (arith, h.0), h.1, h.2)

  pub slot_up : (cells : ℕ) (key : Key) (slot : Slot) → SlotSized n cells key slot → SlotSized m cells key slot
  slot_up cells key slot h = record { key_fits = h.key_fits; lease = lease_up slot.lease h.lease; whole = h.whole; last = omega (arith, h.last); round = round_up slot.round h.round }

  pub copy_up : (d : ℕ) (c : Copy) → CopySized n d c → CopySized m d c
  copy_up d c h = record { key = h.key; number = omega (arith, h.number); delta = h.delta }

  pub switch_up : (cells : ℕ) (terms : Terms) (s : Switch) → SwitchSized n cells terms s → SwitchSized m cells terms s
  switch_up cells terms s h =
      record {
        me = h.me;
        terms_are = h.terms_are;
        inc = omega (arith, h.inc);
        nonces = omega (arith, h.nonces);
        config = config_up s.config h.config;
        slots = each_weaker _ _ s.slots (λ e k. slot_up cells e.0 e.1 k) h.slots;
        copies = each_weaker _ _ s.copies (λ c k. copy_up _ c k) h.copies;
      }

  pub record_up : (key : Key) (r : Record) → RecordSized n key r → RecordSized m key r
  record_up key r h =
      record {
        key_fits = h.key_fits;
        epoch = omega (arith, h.epoch);
        switch = h.switch;
        inc = omega (arith, h.inc);
        nonce = omega (arith, h.nonce);
        last = omega (arith, h.last);
        cells = h.cells;
      }

  pub replica_up : (d cells : ℕ) (r : Replica) → ReplicaSized n d cells r → ReplicaSized m d cells r
  replica_up d cells r h =
      record {
        me = h.me;
        cells_are = h.cells_are;
        config = config_up r.config h.config;
        applied = omega (arith, h.applied);
        pending_behind = h.pending_behind;
        none_at_tail = h.none_at_tail;
        pending = each_weaker _ _ r.pending (λ e k. entry_up d e k) h.pending;
        records = each_weaker _ _ r.records (λ e k. record_up e.0 e.1 k) h.records;
        gathered = h.gathered;
      }

-- ---- deltas of more cells

module _ (n d e : ℕ) (le : d ≤ e) where
  delta_wider : (delta : Delta) → DeltaSized d delta → DeltaSized e delta
  delta_wider delta h = (h.0, omega (arith, h.1))

  entry_wider : (x : Entry) → EntrySized n d x → EntrySized n e x
  entry_wider (Entry.Grant key epoch switch inc nonce) h = h
  entry_wider (Entry.Put key epoch number delta) h = (h.0, h.1, h.2, delta_wider delta h.3)
  entry_wider (Entry.Snap key epoch round cells) h = h

  body_wider : (body : Body) → BodySized n d body → BodySized n e body
  body_wider (Body.Put inc epoch number key delta load) h = (h.0, h.1, h.2, h.3, delta_wider delta h.4, h.5)
  body_wider (Body.Forward config index entry load) h = (h.0, h.1, entry_wider entry h.2, h.3)
  body_wider (Body.Ask inc nonce key load) h = h
  body_wider (Body.Grant inc nonce epoch key cells load) h = h
  body_wider (Body.Busy inc nonce key mark) h = h
  body_wider (Body.Ack inc epoch upto key load) h = h
  body_wider (Body.Deny inc epoch key) h = h
  body_wider (Body.Have index) h = h
  body_wider (Body.Echo of load) h = h
  body_wider (Body.Config config) h = h
  body_wider (Body.Snap inc epoch round key chunk chunks cells) h = h

  pub msg_wider : (x : Msg) → MsgSized n d x → MsgSized n e x
  msg_wider x h = (h.0, body_wider x.body h.1)
