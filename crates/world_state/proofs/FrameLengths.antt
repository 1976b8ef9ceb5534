-- How long the spelling of a message is whose parts are sized.
use Rattle.std.proofs.Common.{◌≡◌, ℕ, ◌+◌, ◌*◌, ◌≤◌, List, [], ◌∷◌, ◌++◌, length, Option, Some, None, refl, arith, length-append}
use Rattle.std.specs.List.{flat_map}
use Rattle.proto_data.specs.declared.message.Msg.{Msg}
use Rattle.proto_data.specs.declared.message.Body.{Body}
use Rattle.proto_data.specs.declared.message.Entry.{Entry}
use Rattle.proto_data.specs.declared.message.Echoed.{Echoed}
use Rattle.proto_data.specs.declared.message.Carried.{Carried}
use Rattle.rp_app.specs.Application.{Delta}
use Rattle.rp_frame.specs.Spelling.{number_bytes, short_bytes, value_bytes, key_bytes, cells_bytes, member_bytes, delta_bytes, load_bytes, mark_bytes, entry_bytes, echoed_bytes, body_bytes, spelling}
use Rattle.proto_safety.specs.Sizes.{KeySized, LoadSized, DeltaSized, EntrySized, EchoedSized, BodySized, MsgSized}

-- ---- lists of so many elements at most

record Short (bytes : List ℕ) (most : ℕ) : Type 0 where
  few : length bytes ≤ most

joined : {a b : List ℕ} {m n : ℕ} → Short a m → Short b n → Short (a ++ b) (m + n)
joined {a} {b} h k = record { few = omega (arith, length-append a b, h.few, k.few) }

behind : {xs : List ℕ} {m : ℕ} (x : ℕ) → Short xs m → Short (x ∷ xs) (m + 1)
behind x h = record { few = omega (arith, h.few) }

within : {a : List ℕ} {m n : ℕ} → Short a m → m ≤ n → Short a n
within h k = record { few = omega (arith, h.few, k) }

-- ---- parts

four : (n : ℕ) → Short (number_bytes n) 4
four n = record { few = omega arith }

two : (n : ℕ) → Short (short_bytes n) 2
two n = record { few = omega arith }

values_long : (cells : List ℕ) → length (flat_map value_bytes cells) ≡ 8 * length cells
values_long [] = refl
values_long (c ∷ cs) = omega (arith, length-append (value_bytes c) (flat_map value_bytes cs), values_long cs)

members_long : (delta : Delta) → length (flat_map member_bytes delta) ≡ 10 * length delta
members_long [] = refl
members_long (d ∷ ds) = omega (arith, length-append (member_bytes d) (flat_map member_bytes ds), length-append (short_bytes d.0) (value_bytes d.1), members_long ds)

key_long : (key : List ℕ) → KeySized key → Short (key_bytes key) 17
key_long key h = record { few = omega (arith, h.1) }

cells_long : (most : ℕ) (cells : List ℕ) → length cells ≤ most → Short (cells_bytes cells) (2 + 8 * most)
cells_long most cells h = record { few = omega (arith, length-append (short_bytes (length cells)) (flat_map value_bytes cells), values_long cells, h) }

delta_long : (d : ℕ) (delta : Delta) → DeltaSized d delta → Short (delta_bytes delta) (2 + 10 * d)
delta_long d delta h = record { few = omega (arith, length-append (short_bytes (length delta)) (flat_map member_bytes delta), members_long delta, h.1) }

module _ (n : ℕ) where
  carried_long : (bytes : List ℕ) → length bytes ≤ 1500 → Short bytes 1500
  carried_long bytes h = record { few = h }

  load_long : (load : Option Carried) → LoadSized n load → Short (load_bytes load) 1509
  load_long None h = record { few = omega arith }
  load_long (Some c) h = within (behind 1 (joined (joined (joined (four c.mark) (two c.port)) (two (length c.bytes))) (carried_long c.bytes h.2))) (omega arith)

  mark_long : (mark : Option ℕ) → Short (mark_bytes mark) 5
  mark_long None = record { few = omega arith }
  mark_long (Some m) = within (behind 1 (four m)) (omega arith)

  module _ (d : ℕ) (few : d ≤ 32) where
    entry_long : (e : Entry) → EntrySized n d e → Short (entry_bytes e) 2076
    entry_long (Entry.Grant key epoch switch inc nonce) h = within (behind 1 (joined (joined (joined (key_long key h.0) (four epoch)) (behind switch (four inc))) (four nonce))) (omega arith)
    entry_long (Entry.Put key epoch number delta) h = within (behind 2 (joined (joined (joined (key_long key h.0) (four epoch)) (four number)) (delta_long d delta h.3))) (omega arith)
    entry_long (Entry.Snap key epoch round cells) h = within (behind 3 (joined (joined (joined (key_long key h.0) (four epoch)) (four round)) (cells_long 256 cells h.3))) (omega arith)

    echoed_long : (of : Echoed) → EchoedSized n of → Short (echoed_bytes of) 27
    echoed_long (Echoed.Ask switch inc nonce key) h = within (behind 1 (behind switch (joined (joined (four inc) (four nonce)) (key_long key h.3)))) (omega arith)
    echoed_long (Echoed.Put switch epoch number key) h = within (behind 2 (behind switch (joined (joined (four epoch) (four number)) (key_long key h.3)))) (omega arith)

    chain_long : (chain : List ℕ) → length chain ≤ 5 → Short chain 5
    chain_long chain h = record { few = h }

    body_long : (body : Body) → BodySized n d body → Short (body_bytes body) 3600
    body_long (Body.Ask inc nonce key load) h = within (joined (joined (joined (four inc) (four nonce)) (key_long key h.2)) (load_long load h.3)) (omega arith)
    body_long (Body.Grant inc nonce epoch key cells load) h =
        within (joined (joined (joined (joined (joined (four inc) (four nonce)) (four epoch)) (key_long key h.3)) (cells_long 256 cells h.4)) (load_long load h.5)) (omega arith)
    body_long (Body.Busy inc nonce key mark) h = within (joined (joined (joined (four inc) (four nonce)) (key_long key h.2)) (mark_long mark)) (omega arith)
    body_long (Body.Put inc epoch number key delta load) h =
        within (joined (joined (joined (joined (joined (four inc) (four epoch)) (four number)) (key_long key h.3)) (delta_long d delta h.4)) (load_long load h.5)) (omega arith)
    body_long (Body.Ack inc epoch upto key load) h =
        within (joined (joined (joined (joined (four inc) (four epoch)) (four upto)) (key_long key h.3)) (load_long load h.4)) (omega arith)
    body_long (Body.Deny inc epoch key) h = within (joined (joined (four inc) (four epoch)) (key_long key h.2)) (omega arith)
    body_long (Body.Forward config index entry load) h =
        within (joined (joined (joined (four config) (four index)) (entry_long entry h.2)) (load_long load h.3)) (omega arith)
    body_long (Body.Have index) h = within (four index) (omega arith)
    body_long (Body.Echo of load) h = within (joined (echoed_long of h.0) (load_long load h.1)) (omega arith)
    body_long (Body.Config config) h = within (joined (four config.number) (behind (length config.chain) (chain_long config.chain h.few))) (omega arith)
    body_long (Body.Snap inc epoch round key chunk chunks cells) h =
        within (joined (joined (joined (joined (four inc) (four epoch)) (four round)) (key_long key h.3)) (behind chunk (behind chunks (cells_long 32 cells h.6)))) (omega arith)

    -- the six bytes before the fields are two letters, version, kind, sender and addressee
    pub spelling_long : (m : Msg) → MsgSized n d m → length (spelling m) ≤ 3700
    spelling_long m h = let body = body_long m.body h.1 in omega (arith, body.few)
