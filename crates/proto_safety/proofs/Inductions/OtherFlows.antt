-- A row of a switch acts on one flow: every other flow keeps its slot and its copies. So a fact of each flow is proved for the row's own flow alone.
use Rattle.std.proofs.Common.{◌≡◌, ℕ, List, [], ◌∷◌, refl, ap, true, false, Bool}
use Rattle.std.specs.Prelude.{filter, not, if◌then◌else◌}
use Rattle.key_table.specs.Table.{Key, same_key, get}
use Rattle.proto_model.specs.SwitchState.{Switch, Copy, is_of}
use Rattle.proto_model.specs.SwitchRow.{SwitchRow, NewAsk, AskAgain, Drops, Direct, Mirrored, Granted, Late, Acked, RoundDone, Denied, Busied, Resends}
use Rattle.proto_model.specs.SwitchOutcomes.{perform}
use Rattle.key_table.proofs.Tables.{get-put_other, same_key-true}

-- a row that acts on another flow than k
abbrev pub IsElsewhere : Key → SwitchRow → Type 0
IsElsewhere k (NewAsk key slot packet) = same_key key k ≡ false
IsElsewhere k (AskAgain key slot nonce packet) = same_key key k ≡ false
IsElsewhere k (Drops key slot mark cause) = same_key key k ≡ false
IsElsewhere k (Direct key slot epoch mark delta out) = same_key key k ≡ false
IsElsewhere k (Mirrored key slot epoch mark delta out) = same_key key k ≡ false
IsElsewhere k (Granted key slot) = same_key key k ≡ false
IsElsewhere k (Late key slot mark) = same_key key k ≡ false
IsElsewhere k (Acked key slot upto load) = same_key key k ≡ false
IsElsewhere k (RoundDone key slot r) = same_key key k ≡ false
IsElsewhere k (Denied key slot) = same_key key k ≡ false
IsElsewhere k (Busied key slot mark) = same_key key k ≡ false
IsElsewhere k Resends = ⊥
IsElsewhere k _ = Unit {0}

pub other_slot_kept : (s : Switch) (now : ℕ) (row : SwitchRow) (k : Key) → IsElsewhere k row → get (perform s now row).0.slots k ≡ get s.slots k
other_slot_kept s now (NewAsk key slot packet) k ne = get-put_other s.slots k key _ ne
other_slot_kept s now (AskAgain key slot nonce packet) k ne = get-put_other s.slots k key _ ne
other_slot_kept s now (Drops key slot mark cause) k ne = get-put_other s.slots k key _ ne
other_slot_kept s now (Direct key slot epoch mark delta out) k ne = get-put_other s.slots k key _ ne
other_slot_kept s now (Mirrored key slot epoch mark delta out) k ne = get-put_other s.slots k key _ ne
other_slot_kept s now (Granted key slot) k ne = get-put_other s.slots k key _ ne
other_slot_kept s now (Late key slot mark) k ne = get-put_other s.slots k key _ ne
other_slot_kept s now (Acked key slot upto load) k ne = get-put_other s.slots k key _ ne
other_slot_kept s now (RoundDone key slot r) k ne = get-put_other s.slots k key _ ne
other_slot_kept s now (Denied key slot) k ne = get-put_other s.slots k key _ ne
other_slot_kept s now (Busied key slot mark) k ne = get-put_other s.slots k key _ ne
other_slot_kept s now Resends k ne = absurd ne
other_slot_kept s now _ k ne = refl

-- the copies of one flow
abbrev pub copies_of : Key → List Copy → List Copy
copies_of k copies = filter (is_of k) copies

-- giving up another flow's copies leaves this flow's
pub given_up_elsewhere : (key k : Key) (copies : List Copy) → same_key key k ≡ false → copies_of k (filter (λ c. not (is_of key c)) copies) ≡ copies_of k copies
given_up_elsewhere key k [] ne = refl
given_up_elsewhere key k (c ∷ cs) ne = given_case (same_key c.key key) refl (given_up_elsewhere key k cs ne)
  where
    given_case : (b : Bool) → same_key c.key key ≡ b → copies_of k (filter (λ c. not (is_of key c)) cs) ≡ copies_of k cs →
        copies_of k (if not b then c ∷ filter (λ c. not (is_of key c)) cs else filter (λ c. not (is_of key c)) cs) ≡ copies_of k (c ∷ cs)
    given_case true is rest =
        let e : c.key ≡ key = same_key-true c.key key is in
        let other : same_key c.key k ≡ false = rw e ne in
        rw other rest
    given_case false is rest = ap (λ (cs' : List Copy). if same_key c.key k then c ∷ cs' else cs') rest
