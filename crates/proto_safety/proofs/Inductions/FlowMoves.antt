-- A switch's step seen from one flow: a few atomic moves of the flow's slot, copies and items. A fact of each flow is proved move by move.
use Rattle.std.proofs.Common.{◌≡◌, ℕ, ◌+◌, ◌≤◌, List, [], ◌∷◌, ◌++◌, length, Option, Some, None, refl, sym, ap, subst, ◌∙◌, true, false, Bool, append-nil, eqb-true}
use Rattle.std.specs.Prelude.{◌||◌, ◌==◌, ◌&&◌, not, nat_le, nat_lt, filter, fold, option_map, if◌then◌else◌}
use Rattle.std.specs.List.{list_any}
use Rattle.std.proofs.lemmas.List.Elements.{filter-append}
use Rattle.std.proofs.lemmas.Bool.{both_ways}
use Rattle.rp_base.specs.declared.node.Node.{Node}
use Rattle.proto_data.specs.declared.message.Body.{Body}
use Rattle.proto_data.specs.declared.terms.Mode.{Mode}
use Rattle.proto_data.specs.declared.terms.Terms.{Terms}
use Rattle.proto_data.specs.declared.message.Input.{Input}
use Rattle.rp_base.specs.declared.node.Packet.{Packet}
use Rattle.rp_base.specs.declared.node.Output.{Output}
use Rattle.proto_data.specs.declared.message.Carried.{Carried}
use Rattle.rp_app.specs.Application.{Application, Delta, written}
use Rattle.proto_data.specs.Carrying.{packet_of}
use Rattle.key_table.specs.Table.{Key, same_key}
use Rattle.proto_model.specs.Ring.{remember}
use Rattle.proto_safety.proofs.Inductions.AlarmInduction.{round_slot, new_round}
use Rattle.proto_model.specs.Slot.{chunk_count, Slot, Round, Idle, Asking, Held, emptied, is_young, lapsed_slot, extended, acknowledged, may, updated}
use Rattle.proto_model.specs.SwitchState.{Switch, Copy, Item, slot_at, is_of, is_covered, greatest_first}
use Rattle.proto_model.specs.SwitchRow.{is_clean, granted, without_asked, has_epoch}
use Rattle.proto_model.specs.SwitchOutcomes.{item_of, remember_output, acked_lease, forget_load}
use Rattle.proto_safety.specs.Books.{In}
use Rattle.proto_safety.proofs.Nodes.SwitchTable.{msg, Ready, fed, at_grant, at_grant_again}
use Rattle.key_table.proofs.Tables.{same_key-true}

-- what a switch keeps of one flow, and its count of nonces
pub record View : Type 0 where
  pub nonces : ℕ
  pub slot : Option Slot
  pub copies : List Copy

abbrev pub view : Key → Switch → View
view key s = record { nonces = s.nonces; slot = slot_at s key; copies = filter (is_of key) s.copies }

-- the same copies, apart from when they went last
pub record SameCopy (c d : Copy) : Type 0 where
  pub key : c.key ≡ d.key
  pub number : c.number ≡ d.number
  pub delta : c.delta ≡ d.delta
  pub first : c.first ≡ d.first

pub record SameCopies (old new : List Copy) : Type 0 where
  pub were : (c : Copy) → In new c → (d : Copy) × (In old d × SameCopy c d)
  pub are : (d : Copy) → In old d → (c : Copy) × (In new c × SameCopy c d)

-- where a packet that is processed comes from
pub data Brings (app : Application) (key : Key) : Input → Packet → Type 0 where
  as_fed : {p : Packet} → app.key_of p ≡ Some key → Brings app key (Input.Packet p) p
  as_carried : {from to : Node} {inc nonce epoch : ℕ} {cells : List ℕ} {c : Carried} → Brings app key (msg from to (Body.Grant inc nonce epoch key cells (Some c))) (packet_of c)

-- a slot whose round has its next chunk sent
abbrev pub chunk_slot : Slot → Round → Slot
chunk_slot slot r = record slot { round = Some (record r { chunk = if nat_lt (r.chunk + 1) (chunk_count (length r.cells)) then r.chunk + 1 else 0 }) }

-- One move of a flow at a switch with this incarnation and these terms, with the items that it processes.
pub data Move (app : Application) (inc : ℕ) (terms : Terms) (now : ℕ) (input : Input) (key : Key) (v : View) : List Item → View → Type 0 where
  -- other flows ask
  elsewhere : {nonces : ℕ} → v.nonces ≤ nonces → Move app inc terms now input key v [] (record v { nonces = nonces })
  -- the lease lapses where it ended
  lapses : Move app inc terms now input key v [] (record v { slot = option_map (lapsed_slot now) v.slot })
  -- a new Ask; what waited is given up
  asks :
      {p : Packet} (slot : Slot) → input ≡ Input.Packet p → app.key_of p ≡ Some key →
      Move app inc terms now input key v [] (record { nonces = v.nonces + 1; slot = Some (record (emptied slot (Asking (v.nonces + 1) now)) { asked = Some p.mark ∷ [] }); copies = [] })
  asks_again :
      {p : Packet} {slot : Slot} {nonce first : ℕ} → input ≡ Input.Packet p → app.key_of p ≡ Some key → v.slot ≡ Some slot → slot.lease ≡ Asking nonce first → is_young terms.t_switch first now ≡ true →
      Move app inc terms now input key v [] (record v { slot = Some (record slot { asked = remember slot.asked p.mark }) })
  -- a Grant in time
  takes_grant :
      {from to : Node} {nonce epoch first : ℕ} {cells : List ℕ} {load : Option Carried} {slot : Slot} → input ≡ msg from to (Body.Grant inc nonce epoch key cells load) → (length cells == app.cell_count) ≡ true →
      v.slot ≡ Some slot → slot.lease ≡ Asking nonce first → is_young terms.t_switch first now ≡ true →
      Move app inc terms now input key v [] (record v { slot = Some (granted slot nonce epoch (first + terms.t_switch) cells) })
  forgets : {slot : Slot} (mark : ℕ) → v.slot ≡ Some slot → Move app inc terms now input key v [] (record v { slot = Some (without_asked slot mark) })
  -- a packet is processed
  direct :
      {p : Packet} {slot : Slot} {nonce epoch expiry : ℕ} {made : Delta × Option Output} → Brings app key input p → v.slot ≡ Some slot → slot.lease ≡ Held nonce epoch expiry → terms.mode ≡ Mode.Strict →
      app.plain slot.cells p ≡ made → is_clean made.0 ≡ true → v.copies ≡ [] →
      Move app inc terms now input key v (item_of key epoch p.mark slot.last now made.0 ∷ []) (record v { slot = Some (record slot { cells = written slot.cells made.0; used = true }) })
  mirrored :
      {p : Packet} {slot : Slot} {nonce epoch expiry : ℕ} {made : Delta × Option Output} → Brings app key input p → v.slot ≡ Some slot → slot.lease ≡ Held nonce epoch expiry → terms.mode ≡ Mode.Strict →
      app.plain slot.cells p ≡ made →
      Move app inc terms now input key v (item_of key epoch p.mark (slot.last + 1) now made.0 ∷ [])
      (record v {
        slot = Some (record slot { cells = written slot.cells made.0; last = slot.last + 1; used = true; held = remember_output slot.held made.1 });
        copies = v.copies ++ record { key = key; number = slot.last + 1; delta = made.0; first = now; sent = now } ∷ [];
      })
  -- answers
  acked :
      {from to : Node} {epoch upto : ℕ} {load : Option Carried} {slot : Slot} → input ≡ msg from to (Body.Ack inc epoch upto key load) → terms.mode ≡ Mode.Strict → v.slot ≡ Some slot → has_epoch slot.lease epoch ≡ true →
      Move app inc terms now input key v []
      (record v {
        slot = Some (record slot { lease = acked_lease terms.t_switch now slot.lease (fold greatest_first None (filter (is_covered key upto) v.copies)); held = forget_load slot.held load });
        copies = filter (λ c. not (is_covered key upto c)) v.copies;
      })
  -- a late Grant or a Deny
  idles : {slot : Slot} → v.slot ≡ Some slot → Move app inc terms now input key v [] (record v { slot = Some (emptied slot Idle); copies = [] })
  -- Alarms
  resends : {cs : List Copy} → SameCopies v.copies cs → Move app inc terms now input key v [] (record v { copies = cs })
  keeps_lease :
      {slot : Slot} {nonce epoch expiry : ℕ} → terms.mode ≡ Mode.Strict → v.slot ≡ Some slot → slot.lease ≡ Held nonce epoch expiry → v.copies ≡ [] →
      Move app inc terms now input key v []
      (record v {
        slot = Some (record slot { last = slot.last + 1; used = false });
        copies = v.copies ++ record { key = key; number = slot.last + 1; delta = []; first = now; sent = now } ∷ [];
      })
  -- rounds, in snapshot mode
  snapped :
      {p : Packet} {slot : Slot} {nonce epoch expiry bound : ℕ} {made : Delta × Option Output} → Brings app key input p → v.slot ≡ Some slot → slot.lease ≡ Held nonce epoch expiry → terms.mode ≡ Mode.Snapshot bound →
      app.plain slot.cells p ≡ made → may bound now slot.ages ≡ true →
      Move app inc terms now input key v (item_of key epoch p.mark slot.last now made.0 ∷ [])
      (record v { slot = Some (record slot { ages = if is_clean made.0 then slot.ages else updated now slot.round slot.ages; cells = written slot.cells made.0; used = true }) })
  round_done :
      {from to : Node} {epoch upto bound : ℕ} {load : Option Carried} {slot : Slot} {r : Round} → input ≡ msg from to (Body.Ack inc epoch upto key load) → terms.mode ≡ Mode.Snapshot bound → v.slot ≡ Some slot → has_epoch slot.lease epoch ≡ true →
      slot.round ≡ Some r → (r.number == upto) ≡ true →
      Move app inc terms now input key v [] (record v { slot = Some (record slot { lease = extended terms.t_switch now r.begun slot.lease; round = None; ages = acknowledged slot.ages }) })
  sends_chunk :
      {slot : Slot} {nonce epoch expiry : ℕ} {r : Round} → v.slot ≡ Some slot → slot.lease ≡ Held nonce epoch expiry → slot.round ≡ Some r →
      Move app inc terms now input key v [] (record v { slot = Some (chunk_slot slot r) })
  begins_round :
      {slot : Slot} {nonce epoch expiry bound : ℕ} → v.slot ≡ Some slot → slot.lease ≡ Held nonce epoch expiry → terms.mode ≡ Mode.Snapshot bound → slot.round ≡ None →
      Move app inc terms now input key v [] (record v { slot = Some (chunk_slot (round_slot slot) (new_round slot now)) })

-- moves one after the other, with all their items
pub data Moves (app : Application) (inc : ℕ) (terms : Terms) (now : ℕ) (input : Input) (key : Key) (v : View) : List Item → View → Type 0 where
  none : Moves app inc terms now input key v [] v
  more : {js ks : List Item} {w u : View} → Moves app inc terms now input key v js w → Move app inc terms now input key w ks u → Moves app inc terms now input key v (js ++ ks) u

-- ---- copies of one flow

pub one_more_same : (key : Key) (cs : List Copy) (c : Copy) → is_of key c ≡ true → filter (is_of key) (cs ++ c ∷ []) ≡ filter (is_of key) cs ++ c ∷ []
one_more_same key cs c is = filter-append (is_of key) cs (c ∷ []) ∙ rw is refl

pub one_more_other : (key : Key) (cs : List Copy) (c : Copy) → is_of key c ≡ false → filter (is_of key) (cs ++ c ∷ []) ≡ filter (is_of key) cs
one_more_other key cs c is = filter-append (is_of key) cs (c ∷ []) ∙ rw is (append-nil (filter (is_of key) cs))

pub none_given_up : (key : Key) (cs : List Copy) → filter (is_of key) (filter (λ c. not (is_of key c)) cs) ≡ []
none_given_up key [] = refl
none_given_up key (c ∷ cs) = none_case (is_of key c) refl (none_given_up key cs)
  where
    none_case : (b : Bool) → is_of key c ≡ b → filter (is_of key) (filter (λ c. not (is_of key c)) cs) ≡ [] →
        filter (is_of key) (if not b then c ∷ filter (λ c. not (is_of key c)) cs else filter (λ c. not (is_of key c)) cs) ≡ []
    none_case true is rest = rest
    none_case false is rest = rw is rest

pub none_of : (key : Key) (cs : List Copy) → list_any (is_of key) cs ≡ false → filter (is_of key) cs ≡ []
none_of key [] h = refl
none_of key (c ∷ cs) h = none_case (is_of key c) refl h (none_of key cs)
  where
    none_case : (b : Bool) → is_of key c ≡ b → (b || list_any (is_of key) cs) ≡ false → (list_any (is_of key) cs ≡ false → filter (is_of key) cs ≡ []) → (if b then c ∷ filter (is_of key) cs else filter (is_of key) cs) ≡ []
    none_case true is h rest = absurd (both_ways true h refl)
    none_case false is h rest = rest h

-- what an Ack covers is of its flow
pub covered_of : (key : Key) (upto : ℕ) (cs : List Copy) → filter (is_covered key upto) cs ≡ filter (is_covered key upto) (filter (is_of key) cs)
covered_of key upto [] = refl
covered_of key upto (c ∷ cs) = covered_case (is_of key c) refl (covered_of key upto cs)
  where
    covered_case : (b : Bool) → is_of key c ≡ b → filter (is_covered key upto) cs ≡ filter (is_covered key upto) (filter (is_of key) cs) →
        (if b && nat_le c.number upto then c ∷ filter (is_covered key upto) cs else filter (is_covered key upto) cs) ≡ filter (is_covered key upto) (if b then c ∷ filter (is_of key) cs else filter (is_of key) cs)
    covered_case true is rest = rw (is, rest) refl
    covered_case false is rest = rest

pub covered_elsewhere : (k key : Key) (upto : ℕ) (cs : List Copy) → same_key k key ≡ false → filter (is_of key) (filter (λ c. not (is_covered k upto c)) cs) ≡ filter (is_of key) cs
covered_elsewhere k key upto [] ne = refl
covered_elsewhere k key upto (c ∷ cs) ne = covered_case (is_of k c) refl (nat_le c.number upto) (covered_elsewhere k key upto cs ne)
  where
    covered_case : (b : Bool) → is_of k c ≡ b → (t : Bool) → filter (is_of key) (filter (λ c. not (is_covered k upto c)) cs) ≡ filter (is_of key) cs →
        filter (is_of key) (if not (b && t) then c ∷ filter (λ c. not (is_covered k upto c)) cs else filter (λ c. not (is_covered k upto c)) cs) ≡ filter (is_of key) (c ∷ cs)
    covered_case true is true rest =
        let other : is_of key c ≡ false = rw (same_key-true c.key k is) ne in
        rw other rest
    covered_case true is false rest = ap (λ (ds : List Copy). if is_of key c then c ∷ ds else ds) rest
    covered_case false is t rest = ap (λ (ds : List Copy). if is_of key c then c ∷ ds else ds) rest

-- ---- a view, part by part

pub same_view : (v : View) (nonces : ℕ) (slot : Option Slot) (copies : List Copy) → v.nonces ≡ nonces → v.slot ≡ slot → v.copies ≡ copies → v ≡ record { nonces = nonces; slot = slot; copies = copies }
same_view v nonces slot copies n s c = λ i. record { nonces = n i; slot = s i; copies = c i }

module _ (app : Application) (s : Switch) (now : ℕ) (input : Input) where
  abbrev pub Steps : Key → View → List Item → View → Type 0
  Steps key v items u = Moves app s.inc s.terms now input key v items u

  -- nothing of this flow changes, but others may have asked
  pub untouched : (key : Key) (s' : Switch) → s.nonces ≤ s'.nonces → slot_at s' key ≡ slot_at s key → filter (is_of key) s'.copies ≡ filter (is_of key) s.copies → Steps key (view key s) [] (view key s')
  untouched key s' n at cs =
      subst (λ u. Steps key (view key s) [] u) (same_view (record (view key s) { nonces = s'.nonces }) s'.nonces (slot_at s' key) (filter (is_of key) s'.copies) refl (sym at) (sym cs))
      (more none (elsewhere n))

  -- a packet about to be processed: its slot is in view
  abbrev pub ready_view : Key → Slot → View
  ready_view key slot = record { nonces = s.nonces; slot = Some slot; copies = filter (is_of key) s.copies }

  pub ready_moves : (key : Key) (slot : Slot) (epoch : ℕ) (p : Packet) → Ready app s now input key slot epoch p → Steps key (view key s) [] (ready_view key slot)
  ready_moves key slot epoch p r = ready_at input key slot epoch p r
    where
      ready_at : (input : Input) (key : Key) (slot : Slot) (epoch : ℕ) (p : Packet) → Ready app s now input key slot epoch p → Moves app s.inc s.terms now input key (view key s) [] (ready_view key slot)
      ready_at (Input.Packet p) key slot epoch _ (fed of at is) = subst (λ o. Moves app s.inc s.terms now (Input.Packet p) key (view key s) [] (record { nonces = s.nonces; slot = o; copies = filter (is_of key) s.copies })) at none
      ready_at input key _ epoch p (at_grant {from = from} {to = to} {c = c} t m) =
          let here = eqb-true _ s.inc t.here in
          more (more none (takes_grant {from = from} {to = to} {load = Some c} (rw here refl) t.whole t.at t.asking t.young)) (forgets _ refl)
      ready_at input key _ epoch p (at_grant_again i at is m) = more none (forgets _ at)

-- a packet is processed under a lease that is held
pub ready_held : {app : Application} {s : Switch} {now : ℕ} {input : Input} {key : Key} {slot : Slot} {epoch : ℕ} {p : Packet} → Ready app s now input key slot epoch p → (nonce : ℕ) × ((expiry : ℕ) × (slot.lease ≡ Held nonce epoch expiry))
ready_held (fed {nonce = nonce} {expiry = expiry} of at is) = (nonce, (expiry, is))
ready_held (at_grant t m) = (_, (_, refl))
ready_held (at_grant_again {nonce = nonce} {expiry = expiry} i at is m) = (nonce, (expiry, is))

pub ready_brings : {app : Application} {s : Switch} {now : ℕ} {input : Input} {key : Key} {slot : Slot} {epoch : ℕ} {p : Packet} → Ready app s now input key slot epoch p → Brings app key input p
ready_brings (fed of at is) = as_fed of
ready_brings (at_grant t m) = as_carried
ready_brings (at_grant_again i at is m) = as_carried
