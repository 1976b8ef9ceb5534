-- A row that stores a slot does the same whatever stood in the slot's place.
use Rattle.std.proofs.Common.{◌≡◌, ℕ, ◌+◌, List, Bool, true, false, Option, Some, None, refl, ap, sym, ◌∙◌, length, eq-eqb}
use Rattle.std.specs.Prelude.{if◌then◌else◌, nat_le, not, ◌&&◌, ◌==◌, option_map}
use Rattle.rp_base.specs.declared.node.Packet.{Packet}
use Rattle.rp_base.specs.declared.node.Output.{Output}
use Rattle.rp_base.specs.declared.event.DropCause.{DropCause}
use Rattle.proto_data.specs.declared.message.Carried.{Carried}
use Rattle.proto_data.specs.declared.terms.Mode.{Mode}
use Rattle.rp_app.specs.Application.{Application, Delta}
use Rattle.proto_data.specs.Carrying.{packet_of}
use Rattle.proto_model.specs.Ring.{remembers}
use Rattle.key_table.specs.Table.{Key}
use Rattle.proto_model.specs.Slot.{Slot, Lease, Round, Idle, Asking, Held, Lapsed, is_young, may, extended, acknowledged}
use Rattle.proto_model.specs.SwitchState.{Switch, with_slot, slot_at, has_copies, only_dropped, nothing}
use Rattle.proto_model.specs.SwitchRow.{SwitchRow, NewAsk, Stale, Late, RoundDone, Busied, round_row, busy_row, carried_row, without_asked, AskAgain, Drops, Direct, Mirrored, Granted, is_clean, process_row, leased_row, grant_row, granted, asked_mark, processed}
use Rattle.proto_model.specs.SwitchOutcomes.{perform, after_new_ask, after_ask_again, after_direct, after_mirrored, after_acked, after_round, acked_lease, idled, late_did}
use Rattle.key_table.proofs.KeyTables.{put_put, put_same}
use Rattle.proto_data.specs.declared.limits.TheConstants.{COPIES}
use Rattle.switch_core.specs.Rows.{acked_by, timely_row, asks_by}

pub with_slot_twice : (s : Switch) (key : Key) (a b : Slot) → with_slot (with_slot s key a) key b ≡ with_slot s key b
with_slot_twice s key a b = ap (λ t. record s { slots = t }) (put_put s.slots key a b)

-- a slot that was taken out and is put back
pub put_back : (s : Switch) (key : Key) (a b : Slot) → slot_at s key ≡ Some b → with_slot (with_slot s key a) key b ≡ s
put_back s key a b at = with_slot_twice s key a b ∙ ap (λ t. record s { slots = t }) (put_same s.slots key b at)

pub new_ask_over : (s : Switch) (now : ℕ) (key : Key) (v slot : Slot) (packet : Packet) → after_new_ask (with_slot s key v) now key slot packet ≡ after_new_ask s now key slot packet
new_ask_over s now key v slot packet = rw put_put refl

pub ask_again_over : (s : Switch) (key : Key) (v slot : Slot) (nonce : ℕ) (packet : Packet) → after_ask_again (with_slot s key v) key slot nonce packet ≡ after_ask_again s key slot nonce packet
ask_again_over s key v slot nonce packet = rw put_put refl

pub direct_over : (s : Switch) (now : ℕ) (key : Key) (v slot : Slot) (epoch mark : ℕ) (delta : Delta) (out : Option Output) → after_direct (with_slot s key v) now key slot epoch mark delta out ≡ after_direct s now key slot epoch mark delta out
direct_over s now key v slot epoch mark delta out = rw put_put refl

pub mirrored_over : (s : Switch) (now : ℕ) (key : Key) (v slot : Slot) (epoch mark : ℕ) (delta : Delta) (out : Option Output) → after_mirrored (with_slot s key v) now key slot epoch mark delta out ≡ after_mirrored s now key slot epoch mark delta out
mirrored_over s now key v slot epoch mark delta out = rw put_put refl

pub acked_over : (s : Switch) (now : ℕ) (key : Key) (v slot : Slot) (upto : ℕ) (load : Option Carried) → after_acked (with_slot s key v) now key slot upto load ≡ after_acked s now key slot upto load
acked_over s now key v slot upto load = rw put_put refl

pub round_over : (s : Switch) (now : ℕ) (key : Key) (v slot : Slot) (r : Round) → after_round (with_slot s key v) now key slot r ≡ after_round s now key slot r
round_over s now key v slot r = rw put_put refl

pub idled_over : (s : Switch) (key : Key) (v slot : Slot) → idled (with_slot s key v) key slot ≡ idled s key slot
idled_over s key v slot = rw put_put refl

-- a packet that is processed, in either mode
pub process_over : (mode : Mode) (s : Switch) (now : ℕ) (key : Key) (v slot : Slot) (epoch mark : ℕ) (made : Delta × Option Output) →
    perform (with_slot s key v) now (process_row mode (with_slot s key v) now key slot epoch mark made) ≡ perform s now (process_row mode s now key slot epoch mark made)
process_over Mode.Strict s now key v slot epoch mark made = process_case (nat_le COPIES (length s.copies)) (is_clean made.0 && not (has_copies s key))
  where
    process_case : (a b : Bool) →
        perform (with_slot s key v) now (if a then Drops key slot mark DropCause.Mirror else (if b then Direct key slot epoch mark made.0 made.1 else Mirrored key slot epoch mark made.0 made.1))
        ≡ perform s now (if a then Drops key slot mark DropCause.Mirror else (if b then Direct key slot epoch mark made.0 made.1 else Mirrored key slot epoch mark made.0 made.1))
    process_case true b = rw put_put refl
    process_case false true = direct_over s now key v slot epoch mark made.0 made.1
    process_case false false = mirrored_over s now key v slot epoch mark made.0 made.1
process_over (Mode.Snapshot bound) s now key v slot epoch mark made = age_case (may bound now slot.ages) _
  where
    age_case : (b : Bool) (aged : Slot) →
        perform (with_slot s key v) now (if b then Direct key aged epoch mark made.0 made.1 else Drops key slot mark DropCause.Bound)
        ≡ perform s now (if b then Direct key aged epoch mark made.0 made.1 else Drops key slot mark DropCause.Bound)
    age_case true aged = direct_over s now key v aged epoch mark made.0 made.1
    age_case false aged = rw put_put refl

pub processed_over : (app : Application) (s : Switch) (now : ℕ) (key : Key) (v slot : Slot) (epoch : ℕ) (packet : Packet) →
    perform (with_slot s key v) now (processed app (with_slot s key v) now key slot epoch packet) ≡ perform s now (processed app s now key slot epoch packet)
processed_over app s now key v slot epoch packet = process_over s.terms.mode s now key v slot epoch packet.mark (app.plain slot.cells packet)

-- a packet, by its slot's lease
pub leased_over : (app : Application) (s : Switch) (now : ℕ) (key : Key) (v slot : Slot) (packet : Packet) (lease : Lease) →
    perform (with_slot s key v) now (leased_row app (with_slot s key v) now key slot packet lease) ≡ perform s now (leased_row app s now key slot packet lease)
leased_over app s now key v slot packet Idle = new_ask_over s now key v slot packet
leased_over app s now key v slot packet (Asking nonce first) = young_case (is_young s.terms.t_switch first now)
  where
    young_case : (b : Bool) →
        perform (with_slot s key v) now (if b then AskAgain key slot nonce packet else NewAsk key slot packet)
        ≡ perform s now (if b then AskAgain key slot nonce packet else NewAsk key slot packet)
    young_case true = ask_again_over s key v slot nonce packet
    young_case false = new_ask_over s now key v slot packet
leased_over app s now key v slot packet (Held nonce epoch expiry) = processed_over app s now key v slot epoch packet
leased_over app s now key v slot packet (Lapsed nonce epoch expiry) = new_ask_over s now key v slot packet

-- a carried packet that is still asked for, or a Grant without one
pub carried_over : (app : Application) (s : Switch) (now : ℕ) (key : Key) (v slot : Slot) (epoch : ℕ) (load : Option Carried) →
    perform (with_slot s key v) now (carried_row app (with_slot s key v) now key slot epoch (Granted key slot) load) ≡ perform s now (carried_row app s now key slot epoch (Granted key slot) load)
carried_over app s now key v slot epoch None = rw put_put refl
carried_over app s now key v slot epoch (Some c) = asked_case (remembers slot.asked c.mark)
  where
    asked_case : (b : Bool) →
        perform (with_slot s key v) now (if b then processed app (with_slot s key v) now key (without_asked slot c.mark) epoch (packet_of c) else Granted key slot)
        ≡ perform s now (if b then processed app s now key (without_asked slot c.mark) epoch (packet_of c) else Granted key slot)
    asked_case true = processed_over app s now key v (without_asked slot c.mark) epoch (packet_of c)
    asked_case false = rw put_put refl

-- a carried packet that is still asked for is processed
pub carried_processed : (app : Application) (s : Switch) (now : ℕ) (key : Key) (slot : Slot) (epoch : ℕ) (other : SwitchRow) (c : Carried) → remembers slot.asked c.mark ≡ true →
    carried_row app s now key slot epoch other (Some c) ≡ process_row s.terms.mode s now key (without_asked slot c.mark) epoch c.mark (app.plain slot.cells (packet_of c))
carried_processed app s now key slot epoch other c asked = rw asked refl

-- a Grant of the lease that is held brings a packet that is still asked for
pub again_over : (app : Application) (s : Switch) (now : ℕ) (key : Key) (slot : Slot) (epoch : ℕ) (c : Carried) → remembers slot.asked c.mark ≡ true →
    perform s now (process_row s.terms.mode s now key (without_asked slot c.mark) epoch c.mark (app.plain slot.cells (packet_of c)))
    ≡ perform (with_slot s key slot) now (carried_row app (with_slot s key slot) now key slot epoch Stale (Some c))
again_over app s now key slot epoch c asked =
    sym (process_over s.terms.mode s now key slot (without_asked slot c.mark) epoch c.mark (app.plain slot.cells (packet_of c)))
    ∙ ap (perform (with_slot s key slot) now) (sym (carried_processed app (with_slot s key slot) now key slot epoch Stale c asked))

-- ---- Grants, by the slot's lease

-- a slot that asks under this nonce, by whether it is young
asking_grant : (app : Application) (s : Switch) (now : ℕ) (key : Key) (slot : Slot) (nonce epoch : ℕ) (cells : List ℕ) (load : Option Carried) (own first : ℕ) → slot.lease ≡ Asking own first → own ≡ nonce →
    grant_row app s now key slot nonce epoch cells load slot.lease
    ≡ (if is_young s.terms.t_switch first now
    then carried_row app s now key (granted slot own epoch (first + s.terms.t_switch) cells) epoch (Granted key (granted slot own epoch (first + s.terms.t_switch) cells)) load
    else Late key slot (asked_mark slot load))
asking_grant app s now key slot nonce epoch cells load own first asking same =
    ap (grant_row app s now key slot nonce epoch cells load) asking
    ∙ ap (λ b. if b
    then (if is_young s.terms.t_switch first now
    then carried_row app s now key (granted slot own epoch (first + s.terms.t_switch) cells) epoch (Granted key (granted slot own epoch (first + s.terms.t_switch) cells)) load
    else Late key slot (asked_mark slot load))
    else Stale) (eq-eqb own nonce same)

pub timely : (app : Application) (s : Switch) (now : ℕ) (key : Key) (slot : Slot) (nonce epoch : ℕ) (cells : List ℕ) (load : Option Carried) (own first : ℕ) → slot.lease ≡ Asking own first → own ≡ nonce →
    is_young s.terms.t_switch first now ≡ true →
    perform s now (timely_row app s now key slot epoch cells load slot.lease)
    ≡ perform (with_slot s key slot) now (grant_row app (with_slot s key slot) now key slot nonce epoch cells load slot.lease)
timely app s now key slot nonce epoch cells load own first asking same young =
    ap (λ l. perform s now (timely_row app s now key slot epoch cells load l)) asking
    ∙ sym (ap (perform (with_slot s key slot) now) (asking_grant app (with_slot s key slot) now key slot nonce epoch cells load own first asking same
    ∙ ap (λ b. if b
    then carried_row app (with_slot s key slot) now key (granted slot own epoch (first + s.terms.t_switch) cells) epoch (Granted key (granted slot own epoch (first + s.terms.t_switch) cells)) load
    else Late key slot (asked_mark slot load)) young)
    ∙ carried_over app s now key slot (granted slot own epoch (first + s.terms.t_switch) cells) epoch load)

pub too_late : (app : Application) (s : Switch) (now : ℕ) (key : Key) (slot : Slot) (nonce epoch : ℕ) (cells : List ℕ) (load : Option Carried) (own first : ℕ) → slot.lease ≡ Asking own first → own ≡ nonce →
    is_young s.terms.t_switch first now ≡ false →
    perform s now (Late key slot (asked_mark slot load)) ≡ perform (with_slot s key slot) now (grant_row app (with_slot s key slot) now key slot nonce epoch cells load slot.lease)
too_late app s now key slot nonce epoch cells load own first asking same old =
    sym (ap (perform (with_slot s key slot) now) (asking_grant app (with_slot s key slot) now key slot nonce epoch cells load own first asking same
    ∙ ap (λ b. if b
    then carried_row app (with_slot s key slot) now key (granted slot own epoch (first + s.terms.t_switch) cells) epoch (Granted key (granted slot own epoch (first + s.terms.t_switch) cells)) load
    else Late key slot (asked_mark slot load)) old)
    ∙ ap (λ (x : Switch). (x, late_did (asked_mark slot load))) (idled_over s key slot slot))

-- a Grant of the lease that is held
pub held_again : (app : Application) (s : Switch) (now : ℕ) (key : Key) (slot : Slot) (nonce epoch : ℕ) (cells : List ℕ) (load : Option Carried) (own of expiry : ℕ) → slot.lease ≡ Held own of expiry → own ≡ nonce → of ≡ epoch →
    carried_row app s now key slot of Stale load ≡ grant_row app s now key slot nonce epoch cells load slot.lease
held_again app s now key slot nonce epoch cells load own of expiry held same this =
    sym (ap (grant_row app s now key slot nonce epoch cells load) held
    ∙ ap (λ b. if b && (of == epoch) then carried_row app s now key slot of Stale load else Stale) (eq-eqb own nonce same)
    ∙ ap (λ b. if b then carried_row app s now key slot of Stale load else Stale) (eq-eqb of epoch this))

-- ---- replies

-- a Busy for a packet that is still asked for
pub busied : (s : Switch) (now : ℕ) (key : Key) (slot : Slot) (nonce mark : ℕ) (lease : Lease) → asks_by nonce lease ≡ true → remembers slot.asked mark ≡ true →
    perform (with_slot s key slot) now (busy_row key slot nonce (Some mark) lease) ≡ (with_slot s key (without_asked slot mark), only_dropped mark DropCause.Busy)
busied s now key slot nonce mark Idle asks asked = absurd (cc)
busied s now key slot nonce mark (Asking own first) asks asked =
    ap (λ b. perform (with_slot s key slot) now (if b && remembers slot.asked mark then Busied key slot mark else Stale)) asks
    ∙ ap (λ b. perform (with_slot s key slot) now (if b then Busied key slot mark else Stale)) asked
    ∙ ap (λ (x : Switch). (x, only_dropped mark DropCause.Busy)) (with_slot_twice s key slot (without_asked slot mark))
busied s now key slot nonce mark (Held own epoch expiry) asks asked = absurd (cc)
busied s now key slot nonce mark (Lapsed own epoch expiry) asks asked = absurd (cc)

-- the same behind the test of the incarnation
pub busied_row : (s : Switch) (now : ℕ) (key : Key) (slot : Slot) (inc nonce mark : ℕ) (o : Option ℕ) (lease : Lease) → inc ≡ s.inc → o ≡ Some mark → asks_by nonce lease ≡ true → remembers slot.asked mark ≡ true →
    perform (with_slot s key slot) now (if inc == s.inc then busy_row key slot nonce o lease else Stale) ≡ (with_slot s key (without_asked slot mark), only_dropped mark DropCause.Busy)
busied_row s now key slot inc nonce mark o lease same is asks asked =
    ap (λ b. perform (with_slot s key slot) now (if b then busy_row key slot nonce o lease else Stale)) (eq-eqb inc s.inc same)
    ∙ ap (λ m. perform (with_slot s key slot) now (busy_row key slot nonce m lease)) is
    ∙ busied s now key slot nonce mark lease asks asked

-- the lease after copies went, by the first sending alone
pub acked_same : (t_switch now : ℕ) (lease : Lease) (o : Option (ℕ × ℕ)) → acked_by t_switch now lease (option_map (λ b. b.1) o) ≡ acked_lease t_switch now lease o
acked_same t_switch now lease None = refl
acked_same t_switch now lease (Some best) = refl

-- the round that runs is acknowledged
pub round_acked_is : (s : Switch) (now : ℕ) (key : Key) (slot : Slot) (upto number begun : ℕ) (o : Option Round) → ◌≡◌ {A = Option (ℕ × ℕ)} (Some (number, begun)) (option_map (λ (r : Round). (r.number, r.begun)) o) → number ≡ upto →
    perform (with_slot s key slot) now (round_row key slot upto o)
    ≡ (with_slot s key (record slot { lease = extended s.terms.t_switch now begun slot.lease; round = None; ages = acknowledged slot.ages }), nothing)
round_acked_is s now key slot upto number begun None is same = absurd (cc)
round_acked_is s now key slot upto number begun (Some r) is same =
    let pair : ◌≡◌ {A = Option (ℕ × ℕ)} (Some (number, begun)) (Some (r.number, r.begun)) = is in
    let first : number ≡ r.number = ap (λ (o : Option (ℕ × ℕ)). first_or_zero o) pair in
    let second : begun ≡ r.begun = ap (λ (o : Option (ℕ × ℕ)). second_or_zero o) pair in
    ap (λ b. perform (with_slot s key slot) now (if b then RoundDone key slot r else Stale)) (eq-eqb r.number upto (sym first ∙ same))
    ∙ round_over s now key slot slot r
    ∙ ap (λ m. (with_slot s key (record slot { lease = extended s.terms.t_switch now m slot.lease; round = None; ages = acknowledged slot.ages }), nothing)) (sym second)
  where
    first_or_zero : Option (ℕ × ℕ) → ℕ
    first_or_zero None = 0
    first_or_zero (Some p) = p.0

    second_or_zero : Option (ℕ × ℕ) → ℕ
    second_or_zero None = 0
    second_or_zero (Some p) = p.1
