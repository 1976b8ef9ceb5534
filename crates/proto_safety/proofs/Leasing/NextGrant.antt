-- Where a book has a later epoch of a flow, the Grant of the next epoch stands in it, behind every entry of this one.
use Rattle.std.proofs.Common.{◌≡◌, ◌⊎◌, inl, inr, ℕ, ◌+◌, ◌≤◌, ◌<◌, List, [], ◌∷◌, ◌++◌, Option, Some, None, arith, refl, sym, ap, subst, true, false, Bool}
use Rattle.std.specs.Prelude.{nat_le}
use Rattle.std.proofs.lemmas.Bool.{both_ways, leb-true, leb-false}
use Rattle.proto_data.specs.declared.message.Entry.{Entry}
use Rattle.key_table.specs.Table.{Key}
use Rattle.proto_safety.specs.Books.{In}
use Rattle.proto_safety.specs.Flows.{FlowRecord, FitsFrom, flow_step}
use Rattle.proto_safety.specs.LeaseLaws.{HasEpoch}
use Rattle.proto_safety.proofs.Store.BookEpochs.{Stepped, other, first, next, put, snap, stepped, From, entry_from, key_of_epoch}

-- the Grant of the next epoch, with what stands before it
pub record NextGrant (key : Key) (epoch : ℕ) (es : List Entry) : Type 0 where
  pub switch : ℕ
  pub inc : ℕ
  pub nonce : ℕ
  pub before : List Entry
  pub behind : List Entry
  pub book_is : es ≡ before ++ Entry.Grant key (epoch + 1) switch inc nonce ∷ behind
  pub all_before : (x : Entry) → In es x → HasEpoch key epoch x → In before x

-- a flow that isn't past the epoch, and one in the next
abbrev pub Upto : Option FlowRecord → ℕ → Type 0
Upto None k = Unit {0}
Upto (Some f) k = f.epoch ≤ k

abbrev Past : Option FlowRecord → ℕ → Type 0
Past None k = ⊥
Past (Some f) k = f.epoch ≡ k + 1

past_not_from : (u : Option FlowRecord) (k : ℕ) → Past u k → From u k → ⊥
past_not_from None k p f = p
past_not_from (Some f) k p h = absurd (omega (arith, p, h))

-- an entry leaves the flow up to the epoch, or is the Grant of the next one
abbrev Turn : Key → ℕ → Entry → Option FlowRecord → Type 0
Turn key epoch e u = Upto u epoch ⊎ ((s : ℕ) × ((i : ℕ) × ((m : ℕ) × ((e ≡ Entry.Grant key (epoch + 1) s i m) × Past u epoch))))

turn : {n : ℕ} {key : Key} {o u : Option FlowRecord} {e : Entry} (epoch : ℕ) → Stepped n key o e u → Upto o epoch → Turn key epoch e u
turn epoch (other ne) h = inl h
turn {key = key} epoch (first {switch = s} {inc = i} {nonce = m}) h = first_case (nat_le 1 epoch) refl
  where
    first_case : (b : Bool) → nat_le 1 epoch ≡ b → (1 ≤ epoch) ⊎ ((t : ℕ) × ((j : ℕ) × ((p : ℕ) × ((Entry.Grant key 1 s i m ≡ Entry.Grant key (epoch + 1) t j p) × (1 ≡ epoch + 1)))))
    first_case true b = inl (leb-true 1 epoch b)
    first_case false b = let e : 1 ≡ epoch + 1 = omega (arith, leb-false 1 epoch b) in inr (s, (i, (m, (ap (λ k. Entry.Grant key k s i m) e, e))))
turn {key = key} epoch (next {f = f} {switch = s} {inc = i} {nonce = m}) h = next_case (nat_le (f.epoch + 1) epoch) refl
  where
    next_case : (b : Bool) → nat_le (f.epoch + 1) epoch ≡ b → (f.epoch + 1 ≤ epoch) ⊎ ((t : ℕ) × ((j : ℕ) × ((p : ℕ) × ((Entry.Grant key (f.epoch + 1) s i m ≡ Entry.Grant key (epoch + 1) t j p) × (f.epoch + 1 ≡ epoch + 1)))))
    next_case true b = inl (leb-true (f.epoch + 1) epoch b)
    next_case false b = let e : f.epoch + 1 ≡ epoch + 1 = omega (arith, h, leb-false (f.epoch + 1) epoch b) in inr (s, (i, (m, (ap (λ k. Entry.Grant key k s i m) e, e))))
turn epoch put h = inl h
turn epoch snap h = inl h

-- an entry's own epoch
head_upto : {n : ℕ} {key : Key} {o u : Option FlowRecord} {e : Entry} (k epoch : ℕ) → Stepped n key o e u → HasEpoch key k e → Upto u epoch → k ≤ epoch
head_upto {key = key} {e = e} k epoch (other ne) h up = absurd (both_ways _ ne (key_of_epoch key k e h))
head_upto k epoch first h up = omega (arith, h.1, up)
head_upto k epoch (next {f = f}) h up = omega (arith, h.1, up)
head_upto k epoch (put {f = f}) h up = omega (arith, h.1, up)
head_upto k epoch (snap {f = f}) h up = omega (arith, h.1, up)

pub next_grant : (n : ℕ) (key : Key) (o : Option FlowRecord) (es : List Entry) (epoch later : ℕ) (e : Entry) → FitsFrom n key o es → In es e → HasEpoch key later e → epoch < later → Upto o epoch → NextGrant key epoch es
next_grant n key o [] epoch later e fits i h lt up = absurd i
next_grant n key o (x ∷ xs) epoch later e fits i h lt up =
    turn_case (turn epoch (stepped n key o x fits.0) up) i (λ j u. next_grant n key (flow_step n key o x) xs epoch later e fits.1 j h lt u)
  where
    none_behind : Past (flow_step n key o x) epoch → (y : Entry) → In xs y → HasEpoch key epoch y → ⊥
    none_behind past y j g = past_not_from (flow_step n key o x) epoch past (entry_from n key (flow_step n key o x) xs y epoch fits.1 j g)

    front : NextGrant key epoch xs → (y : Entry) → In (x ∷ xs) y → HasEpoch key epoch y → (before : List Entry) → ((z : Entry) → In xs z → HasEpoch key epoch z → In before z) → In (x ∷ before) y
    front r y (inl is) g before f = inl is
    front r y (inr j) g before f = inr (f y j g)

    alone : (s i m : ℕ) → x ≡ Entry.Grant key (epoch + 1) s i m → Past (flow_step n key o x) epoch → (y : Entry) → In (x ∷ xs) y → HasEpoch key epoch y → In [] y
    alone s i m is past y (inl same) g =
        let here : HasEpoch key epoch (Entry.Grant key (epoch + 1) s i m) = subst (λ z. HasEpoch key epoch z) is (subst (λ z. HasEpoch key epoch z) (sym same) g) in
        absurd (omega (arith, here.1))
    alone s i m is past y (inr j) g = absurd (none_behind past y j g)

    turn_case : Turn key epoch x (flow_step n key o x) → In (x ∷ xs) e → (In xs e → Upto (flow_step n key o x) epoch → NextGrant key epoch xs) → NextGrant key epoch (x ∷ xs)
    turn_case (inl u) (inl same) rest =
        let below : later ≤ epoch = head_upto later epoch (stepped n key o x fits.0) (subst (λ z. HasEpoch key later z) (sym same) h) u in absurd (omega (arith, below, lt))
    turn_case (inl u) (inr j) rest =
        let r = rest j u in
        record {
          switch = r.switch;
          inc = r.inc;
          nonce = r.nonce;
          before = x ∷ r.before;
          behind = r.behind;
          book_is = ap (λ l. x ∷ l) r.book_is;
          all_before = λ y k g. front r y k g r.before r.all_before;
        }
    turn_case (inr t) j rest =
        record {
          switch = t.0;
          inc = t.1.0;
          nonce = t.1.1.0;
          before = [];
          behind = xs;
          book_is = ap (λ y. y ∷ xs) t.1.1.1.0;
          all_before = λ y k g. alone t.0 t.1.0 t.1.1.0 t.1.1.1.0 t.1.1.1.1 y k g;
        }
