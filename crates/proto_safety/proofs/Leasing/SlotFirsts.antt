-- What the first sendings say of one slot, its copies and its round, and what a change of them keeps.
use Rattle.std.proofs.Common.{◌≡◌, ◌⊎◌, inl, inr, ℕ, ◌+◌, ◌≤◌, List, [], ◌∷◌, ◌++◌, Option, Some, None, refl, sym, ap, subst, ◌∙◌, true, false, Bool, arith, eqb-true}
use Rattle.std.specs.Prelude.{filter, if◌then◌else◌, nat_lt, nat_le}
use Rattle.std.proofs.lemmas.Bool.{false≢true, both_ways}
use Rattle.rp_base.specs.declared.node.Node.{Node}
use Rattle.proto_data.specs.declared.message.Body.{Body}
use Rattle.proto_data.specs.declared.message.Input.{Input}
use Rattle.proto_data.specs.declared.message.Carried.{Carried}
use Rattle.key_table.specs.Table.{Key, Table, same_key, get, put}
use Rattle.proto_model.specs.Slot.{Slot, Lease, Round, Idle, Asking, Held, Lapsed, epoch_of, lapsed_lease}
use Rattle.proto_model.specs.SwitchState.{Copy, is_of}
use Rattle.proto_model.specs.SwitchRow.{has_epoch}
use Rattle.proto_model.specs.SwitchOutcomes.{acked_lease}
use Rattle.proto_safety.specs.Books.{In}
use Rattle.proto_safety.specs.LeaseLaws.{Request, AskOf, NumberOf, First}
use Rattle.proto_safety.proofs.Leasing.FirstSendings.{Made, sending}
use Rattle.key_table.proofs.Tables.{get-put_same, get-put_other, same_key-true, same_key-refl, same_some}
use Rattle.proto_safety.proofs.Nodes.SwitchTable.{msg}
use Rattle.proto_safety.proofs.Basics.Members.{in_append, in_filter, in_front, in_last}

-- the first sendings of the Asking slots, the copies and the running rounds of switch n
pub record NodeFirsts (fs : List First) (n inc : ℕ) (slots : Table Slot) (copies : List Copy) : Type 0 where
  pub asking : (key : Key) (slot : Slot) (nonce first : ℕ) → get slots key ≡ Some slot → slot.lease ≡ Asking nonce first → In fs (sending n first key (AskOf inc nonce))
  pub copied : (key : Key) (slot : Slot) (epoch : ℕ) (c : Copy) → get slots key ≡ Some slot → epoch_of slot.lease ≡ Some epoch → In copies c → is_of key c ≡ true → In fs (sending n c.first key (NumberOf epoch c.number))
  pub rounds : (key : Key) (slot : Slot) (epoch : ℕ) (r : Round) → get slots key ≡ Some slot → epoch_of slot.lease ≡ Some epoch → slot.round ≡ Some r → In fs (sending n r.begun key (NumberOf epoch r.number))

-- nonces and numbers that were asked are counted
pub record Counted (fs : List First) (n inc nonces : ℕ) (slots : Table Slot) : Type 0 where
  pub asks : (key : Key) (k : ℕ) → Made fs n key (AskOf inc k) → k ≤ nonces
  pub numbers : (key : Key) (slot : Slot) (epoch k : ℕ) → get slots key ≡ Some slot → epoch_of slot.lease ≡ Some epoch → Made fs n key (NumberOf epoch k) → k ≤ slot.last

-- of an epoch that a slot takes no number was asked
abbrev pub Untouched : List First → ℕ → ℕ → Table Slot → Input → Type 0
Untouched fs n inc slots input =
    (from to : Node) (nonce epoch first k : ℕ) (key : Key) (cells : List ℕ) (load : Option Carried) (slot : Slot) → input ≡ msg from to (Body.Grant inc nonce epoch key cells load) →
    get slots key ≡ Some slot → slot.lease ≡ Asking nonce first → Made fs n key (NumberOf epoch k) → ⊥

-- ---- leases

pub not_asking : (l : Lease) (epoch nonce first : ℕ) → epoch_of l ≡ Some epoch → l ≡ Asking nonce first → ⊥
not_asking l epoch nonce first e is = let no : None ≡ Some epoch = ap epoch_of (sym is) ∙ e in cc

pub acked_epoch : (t now : ℕ) (l : Lease) (o : Option (ℕ × ℕ)) → epoch_of (acked_lease t now l o) ≡ epoch_of l
acked_epoch t now l None = refl
acked_epoch t now Idle (Some b) = refl
acked_epoch t now (Asking nonce first) (Some b) = refl
acked_epoch t now (Held nonce epoch expiry) (Some b) = refl
acked_epoch t now (Lapsed nonce epoch expiry) (Some b) = renew_case (nat_lt now (b.1 + t))
  where
    renew_case : (c : Bool) → epoch_of (if c then Held nonce epoch (b.1 + t) else Lapsed nonce epoch expiry) ≡ Some epoch
    renew_case true = refl
    renew_case false = refl

pub lapsed_epoch : (now : ℕ) (l : Lease) → epoch_of (lapsed_lease now l) ≡ epoch_of l
lapsed_epoch now (Held nonce epoch expiry) = held_case (nat_le expiry now)
  where
    held_case : (c : Bool) → epoch_of (if c then Lapsed nonce epoch expiry else Held nonce epoch expiry) ≡ Some epoch
    held_case true = refl
    held_case false = refl
lapsed_epoch now Idle = refl
lapsed_epoch now (Asking nonce first) = refl
lapsed_epoch now (Lapsed nonce epoch expiry) = refl

pub lapsed_asking : (now nonce first : ℕ) (l : Lease) → lapsed_lease now l ≡ Asking nonce first → l ≡ Asking nonce first
lapsed_asking now nonce first (Held n epoch expiry) h = absurd (held_case (nat_le expiry now) h)
  where
    held_case : (c : Bool) → (if c then Lapsed n epoch expiry else Held n epoch expiry) ≡ Asking nonce first → ⊥
    held_case true h = cc
    held_case false h = cc
lapsed_asking now nonce first Idle h = h
lapsed_asking now nonce first (Asking n f) h = h
lapsed_asking now nonce first (Lapsed n epoch expiry) h = h

pub has_leased : (l : Lease) (e : ℕ) → has_epoch l e ≡ true → epoch_of l ≡ Some e
has_leased Idle e h = absurd (false≢true h)
has_leased (Asking nonce first) e h = absurd (false≢true h)
has_leased (Held nonce epoch expiry) e h = ap (λ (x : ℕ). Some x) (eqb-true epoch e h)
has_leased (Lapsed nonce epoch expiry) e h = ap (λ (x : ℕ). Some x) (eqb-true epoch e h)

-- ---- one slot changes

-- no round runs in a slot
abbrev pub NoRound : Slot → Type 0
NoRound v = (r : Round) → v.round ≡ Some r → ⊥

-- a slot's change, with the first sendings of the slot itself
pub put_firsts : (fs gs : List First) (n inc : ℕ) (slots : Table Slot) (copies after : List Copy) (key : Key) (v : Slot) → ((f : First) → In fs f → In gs f) →
    ((nonce first : ℕ) → v.lease ≡ Asking nonce first → In gs (sending n first key (AskOf inc nonce))) →
    ((epoch : ℕ) (c : Copy) → epoch_of v.lease ≡ Some epoch → In after c → is_of key c ≡ true → In gs (sending n c.first key (NumberOf epoch c.number))) →
    ((epoch : ℕ) (r : Round) → epoch_of v.lease ≡ Some epoch → v.round ≡ Some r → In gs (sending n r.begun key (NumberOf epoch r.number))) →
    ((k : Key) (c : Copy) → same_key key k ≡ false → In after c → is_of k c ≡ true → (d : Copy) × (In copies d × ((is_of k d ≡ true) × ((d.first ≡ c.first) × (d.number ≡ c.number))))) →
    NodeFirsts fs n inc slots copies → NodeFirsts gs n inc (put slots key v) after
put_firsts fs gs n inc slots copies after key v more own_ask own_copies own_round others h = record { asking = asking; copied = copied; rounds = rounds }
  where
    asking : (k : Key) (slot : Slot) (nonce first : ℕ) → get (put slots key v) k ≡ Some slot → slot.lease ≡ Asking nonce first → In gs (sending n first k (AskOf inc nonce))
    asking k slot nonce first at is = key_case (same_key key k) refl
      where
        key_case : (b : Bool) → same_key key k ≡ b → In gs (sending n first k (AskOf inc nonce))
        key_case true t =
            let e : key ≡ k = same_key-true key k t in
            let same : v ≡ slot = same_some (get (put slots key v) k) v slot (rw (← e) (get-put_same slots key v)) at in
            subst (λ (x : Key). In gs (sending n first x (AskOf inc nonce))) e (own_ask nonce first (ap (λ (s : Slot). s.lease) same ∙ is))
        key_case false ne = more (sending n first k (AskOf inc nonce)) (h.asking k slot nonce first (sym (get-put_other slots k key v ne) ∙ at) is)

    copied : (k : Key) (slot : Slot) (epoch : ℕ) (c : Copy) → get (put slots key v) k ≡ Some slot → epoch_of slot.lease ≡ Some epoch → In after c → is_of k c ≡ true → In gs (sending n c.first k (NumberOf epoch c.number))
    copied k slot epoch c at is i of = key_case (same_key key k) refl
      where
        key_case : (b : Bool) → same_key key k ≡ b → In gs (sending n c.first k (NumberOf epoch c.number))
        key_case true t =
            let e : key ≡ k = same_key-true key k t in
            let same : v ≡ slot = same_some (get (put slots key v) k) v slot (rw (← e) (get-put_same slots key v)) at in
            subst (λ (x : Key). In gs (sending n c.first x (NumberOf epoch c.number))) e
            (own_copies epoch c (ap (λ (s : Slot). epoch_of s.lease) same ∙ is) i (subst (λ (x : Key). is_of x c ≡ true) (sym e) of))
        key_case false ne =
            let d = others k c ne i of in
            more (sending n c.first k (NumberOf epoch c.number))
            (subst (λ (x : ℕ). In fs (sending n x k (NumberOf epoch c.number))) d.1.1.1.0
            (subst (λ (x : ℕ). In fs (sending n d.0.first k (NumberOf epoch x))) d.1.1.1.1
            (h.copied k slot epoch d.0 (sym (get-put_other slots k key v ne) ∙ at) is d.1.0 d.1.1.0)))

    rounds : (k : Key) (slot : Slot) (epoch : ℕ) (r : Round) → get (put slots key v) k ≡ Some slot → epoch_of slot.lease ≡ Some epoch → slot.round ≡ Some r → In gs (sending n r.begun k (NumberOf epoch r.number))
    rounds k slot epoch r at is runs = key_case (same_key key k) refl
      where
        key_case : (b : Bool) → same_key key k ≡ b → In gs (sending n r.begun k (NumberOf epoch r.number))
        key_case true t =
            let e : key ≡ k = same_key-true key k t in
            let same : v ≡ slot = same_some (get (put slots key v) k) v slot (rw (← e) (get-put_same slots key v)) at in
            subst (λ (x : Key). In gs (sending n r.begun x (NumberOf epoch r.number))) e (own_round epoch r (ap (λ (s : Slot). epoch_of s.lease) same ∙ is) (ap (λ (s : Slot). s.round) same ∙ runs))
        key_case false ne = more (sending n r.begun k (NumberOf epoch r.number)) (h.rounds k slot epoch r (sym (get-put_other slots k key v ne) ∙ at) is runs)

-- copies that stay
pub same_copies : (copies : List Copy) (key : Key) (k : Key) (c : Copy) → same_key key k ≡ false → In copies c → is_of k c ≡ true → (d : Copy) × (In copies d × ((is_of k d ≡ true) × ((d.first ≡ c.first) × (d.number ≡ c.number))))
same_copies copies key k c ne i of = (c, (i, (of, (refl, refl))))

pub fewer_copies : (p : Copy → Bool) (copies : List Copy) (key : Key) (k : Key) (c : Copy) → same_key key k ≡ false → In (filter p copies) c → is_of k c ≡ true → (d : Copy) × (In copies d × ((is_of k d ≡ true) × ((d.first ≡ c.first) × (d.number ≡ c.number))))
fewer_copies p copies key k c ne i of = (c, ((in_filter p copies c i).0, (of, (refl, refl))))

-- one more copy, of the slot itself
pub pushed_copies : (copies : List Copy) (new : Copy) (key : Key) → new.key ≡ key → (k : Key) (c : Copy) → same_key key k ≡ false → In (copies ++ new ∷ []) c → is_of k c ≡ true →
    (d : Copy) × (In copies d × ((is_of k d ≡ true) × ((d.first ≡ c.first) × (d.number ≡ c.number))))
pushed_copies copies new key own k c ne i of = pushed_case (in_append copies (new ∷ []) c i)
  where
    pushed_case : In copies c ⊎ In (new ∷ []) c → (d : Copy) × (In copies d × ((is_of k d ≡ true) × ((d.first ≡ c.first) × (d.number ≡ c.number))))
    pushed_case (inl there) = (c, (there, (of, (refl, refl))))
    pushed_case (inr (inl e)) =
        let other : same_key c.key k ≡ false = subst (λ (x : Key). same_key x k ≡ false) (sym own ∙ ap (λ (d : Copy). d.key) e) ne in
        absurd (both_ways (same_key c.key k) other of)
    pushed_case (inr (inr j)) = absurd j

-- ---- one more number of a leased slot

pub pushed_made : (gs : List First) (n : ℕ) (x : First) (key : Key) (r : Request) → Made (gs ++ x ∷ []) n key r → Made gs n key r ⊎ ((x.key ≡ key) × (x.request ≡ r))
pushed_made gs n x key r m = made_case (in_append gs (x ∷ []) m.first m.there)
  where
    made_case : In gs m.first ⊎ In (x ∷ []) m.first → Made gs n key r ⊎ ((x.key ≡ key) × (x.request ≡ r))
    made_case (inl i) = inl (record { first = m.first; there = i; switch_is = m.switch_is; key_is = m.key_is; request_is = m.request_is })
    made_case (inr (inl e)) = inr (ap (λ (f : First). f.key) e ∙ m.key_is, ap (λ (f : First). f.request) e ∙ m.request_is)
    made_case (inr (inr j)) = absurd j

module _ (gs : List First) (n inc nonces now : ℕ) (slots : Table Slot) (copies : List Copy) (key : Key) (slot v : Slot) (epoch : ℕ) (at : get slots key ≡ Some slot) (leased : epoch_of slot.lease ≡ Some epoch) (same : v.lease ≡ slot.lease)
    (h : NodeFirsts gs n inc slots copies) (c : Counted gs n inc nonces slots) where
  abbrev pub Now : First
  Now = sending n now key (NumberOf epoch (slot.last + 1))

  pub next_new : Made gs n key (NumberOf epoch (slot.last + 1)) → ⊥
  next_new m = absurd (omega (arith, c.numbers key slot epoch (slot.last + 1) at leased m))

  -- the number of a new copy
  pub next_firsts : (new : Copy) → v.round ≡ slot.round → new.key ≡ key → new.number ≡ slot.last + 1 → new.first ≡ now → NodeFirsts (gs ++ Now ∷ []) n inc (put slots key v) (copies ++ new ∷ [])
  next_firsts new same_round own_key own_number own_first =
      put_firsts gs (gs ++ Now ∷ []) n inc slots copies (copies ++ new ∷ []) key v (λ f i. in_front gs _ f i)
      (λ nonce first is. absurd (not_asking slot.lease epoch nonce first leased (sym same ∙ is)))
      (λ e d is i of. copy_case e d (ap epoch_of (sym same) ∙ is) (in_append copies (new ∷ []) d i) of)
      (λ e r is runs. in_front gs _ _ (h.rounds key slot e r at (ap epoch_of (sym same) ∙ is) (sym same_round ∙ runs)))
      (pushed_copies copies new key own_key) h
    where
      copy_case : (e : ℕ) (d : Copy) → epoch_of slot.lease ≡ Some e → In copies d ⊎ In (new ∷ []) d → is_of key d ≡ true → In (gs ++ Now ∷ []) (sending n d.first key (NumberOf e d.number))
      copy_case e d is (inl there) of = in_front gs _ _ (h.copied key slot e d at is there of)
      copy_case e d is (inr (inl x)) of =
          let same_epoch : epoch ≡ e = same_some (epoch_of slot.lease) epoch e leased is in
          let number : d.number ≡ slot.last + 1 = ap (λ (y : Copy). y.number) (sym x) ∙ own_number in
          let first : d.first ≡ now = ap (λ (y : Copy). y.first) (sym x) ∙ own_first in
          rw (← same_epoch, number, first) (in_last gs Now)
      copy_case e d is (inr (inr j)) of = absurd j

  -- the number of a new round
  pub begun_firsts : (r : Round) → v.round ≡ Some r → r.number ≡ slot.last + 1 → r.begun ≡ now → NodeFirsts (gs ++ Now ∷ []) n inc (put slots key v) copies
  begun_firsts r own own_number own_begun =
      put_firsts gs (gs ++ Now ∷ []) n inc slots copies copies key v (λ f i. in_front gs _ f i)
      (λ nonce first is. absurd (not_asking slot.lease epoch nonce first leased (sym same ∙ is)))
      (λ e d is i of. in_front gs _ _ (h.copied key slot e d at (ap epoch_of (sym same) ∙ is) i of))
      (λ e q is runs. round_case e q (ap epoch_of (sym same) ∙ is) (same_some v.round r q own runs))
      (same_copies copies key) h
    where
      round_case : (e : ℕ) (q : Round) → epoch_of slot.lease ≡ Some e → r ≡ q → In (gs ++ Now ∷ []) (sending n q.begun key (NumberOf e q.number))
      round_case e q is x =
          let same_epoch : epoch ≡ e = same_some (epoch_of slot.lease) epoch e leased is in
          let number : q.number ≡ slot.last + 1 = ap (λ (y : Round). y.number) (sym x) ∙ own_number in
          let begun : q.begun ≡ now = ap (λ (y : Round). y.begun) (sym x) ∙ own_begun in
          rw (← same_epoch, number, begun) (in_last gs Now)

  -- a slot that keeps its numbers
  pub same_counted : v.last ≡ slot.last → Counted gs n inc nonces (put slots key v)
  same_counted last = record { asks = c.asks; numbers = numbers }
    where
      numbers : (k : Key) (x : Slot) (e j : ℕ) → get (put slots key v) k ≡ Some x → epoch_of x.lease ≡ Some e → Made gs n k (NumberOf e j) → j ≤ x.last
      numbers k x e j found is m = key_case (same_key key k) refl
        where
          own : v ≡ x → key ≡ k → j ≤ x.last
          own same_slot same_key =
              let l : v.last ≡ x.last = ap (λ (s : Slot). s.last) same_slot in
              let o : epoch_of slot.lease ≡ Some e = ap epoch_of (sym same) ∙ ap (λ (s : Slot). epoch_of s.lease) same_slot ∙ is in
              omega (arith, last, l, c.numbers key slot e j at o (subst (λ (q : Key). Made gs n q (NumberOf e j)) (sym same_key) m))

          key_case : (b : Bool) → same_key key k ≡ b → j ≤ x.last
          key_case true t =
              let e' : key ≡ k = same_key-true key k t in
              own (same_some (get (put slots key v) k) v x (rw (← e') (get-put_same slots key v)) found) e'
          key_case false ne = c.numbers k x e j (sym (get-put_other slots k key v ne) ∙ found) is m

  pub next_counted : v.last ≡ slot.last + 1 → Counted (gs ++ Now ∷ []) n inc nonces (put slots key v)
  next_counted last = record { asks = asks; numbers = numbers }
    where
      asks : (k : Key) (j : ℕ) → Made (gs ++ Now ∷ []) n k (AskOf inc j) → j ≤ nonces
      asks k j m = asks_case (pushed_made gs n Now k (AskOf inc j) m)
        where
          asks_case : Made gs n k (AskOf inc j) ⊎ ((key ≡ k) × (NumberOf epoch (slot.last + 1) ≡ AskOf inc j)) → j ≤ nonces
          asks_case (inl m) = c.asks k j m
          asks_case (inr e) = absurd cc

      numbers : (k : Key) (x : Slot) (e j : ℕ) → get (put slots key v) k ≡ Some x → epoch_of x.lease ≡ Some e → Made (gs ++ Now ∷ []) n k (NumberOf e j) → j ≤ x.last
      numbers k x e j found is m = key_case (same_key key k) refl
        where
          own : v ≡ x → key ≡ k → Made gs n k (NumberOf e j) ⊎ ((key ≡ k) × (NumberOf epoch (slot.last + 1) ≡ NumberOf e j)) → j ≤ x.last
          own same_slot same_key (inl m) =
              let l : v.last ≡ x.last = ap (λ (s : Slot). s.last) same_slot in
              let o : epoch_of slot.lease ≡ Some e = ap epoch_of (sym same) ∙ ap (λ (s : Slot). epoch_of s.lease) same_slot ∙ is in
              omega (arith, last, l, c.numbers key slot e j at o (subst (λ (q : Key). Made gs n q (NumberOf e j)) (sym same_key) m))
          own same_slot same_key (inr p) =
              let l : v.last ≡ x.last = ap (λ (s : Slot). s.last) same_slot in
              let number : slot.last + 1 ≡ j = cc in
              omega (arith, last, l, number)

          other : same_key key k ≡ false → Made gs n k (NumberOf e j) ⊎ ((key ≡ k) × (NumberOf epoch (slot.last + 1) ≡ NumberOf e j)) → j ≤ x.last
          other ne (inl m) = c.numbers k x e j (sym (get-put_other slots k key v ne) ∙ found) is m
          other ne (inr p) = absurd (both_ways (same_key key k) ne (subst (λ (q : Key). same_key key q ≡ true) p.0 (same_key-refl key)))

          key_case : (b : Bool) → same_key key k ≡ b → j ≤ x.last
          key_case true t =
              let e' : key ≡ k = same_key-true key k t in
              own (same_some (get (put slots key v) k) v x (rw (← e') (get-put_same slots key v)) found) e' (pushed_made gs n Now k (NumberOf e j) m)
          key_case false ne = other ne (pushed_made gs n Now k (NumberOf e j) m)
