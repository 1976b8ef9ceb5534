-- The numbers of one epoch in a book: all up to the greatest stand there, and the closing is the greatest.
use Rattle.std.proofs.Common.{◌≡◌, ◌⊎◌, ℕ, ◌+◌, ◌≤◌, ◌<◌, List, [], ◌∷◌, Option, Some, None, arith, refl, sym, ◌∙◌, ap, subst, true, false, Bool, inl, inr, eqb-true, eq-eqb}
use Rattle.std.specs.Prelude.{◌==◌, ◌&&◌, if◌then◌else◌, fold, max, nat_le}
use Rattle.std.proofs.lemmas.Bool.{both_ways, and_parts, leb-true, leb-false}
use Rattle.proto_data.specs.declared.message.Entry.{Entry}
use Rattle.key_table.specs.Table.{Key, same_key}
use Rattle.proto_model.specs.Records.{Booked}
use Rattle.proto_model.specs.ReplicaRows.{entry_key}
use Rattle.proto_model.specs.Stands.{entries_of}
use Rattle.proto_model.specs.Committed.{number_in, greater, closing_of}
use Rattle.proto_safety.specs.Books.{In}
use Rattle.proto_safety.specs.Flows.{FlowRecord, FitsFrom, flow_step}
use Rattle.proto_safety.specs.LeaseLaws.{HasEpoch}
use Rattle.key_table.proofs.Tables.{same_key-true, same_key-refl}
use Rattle.proto_safety.proofs.Store.FlowBooks.{Numbered, numbered_grant, numbered_put, numbered_snap}
use Rattle.proto_safety.proofs.Store.BookEpochs.{Stepped, other, first, next, put, snap, stepped}

-- ---- what a number says of its entry

abbrev pub IsNumber : Entry → ℕ → Type 0
IsNumber (Entry.Grant k e switch inc nonce) m = m ≡ 0
IsNumber (Entry.Put k e number delta) m = m ≡ number
IsNumber (Entry.Snap k e round values) m = m ≡ round

record Placed (key : Key) (epoch : ℕ) (k : Key) (e m number : ℕ) : Type 0 where
  same : k ≡ key
  epoch_is : e ≡ epoch
  number_is : m ≡ number

placed : (key : Key) (epoch : ℕ) (k : Key) (e m number : ℕ) (b : Bool) → (same_key k key && (e == epoch)) ≡ b → (if b then Some number else None) ≡ Some m → Placed key epoch k e m number
placed key epoch k e m number true is at = let p = and_parts _ _ is in record { same = same_key-true k key p.0; epoch_is = eqb-true e epoch p.1; number_is = cc }
placed key epoch k e m number false is at = cc

pub number_epoch : (key : Key) (epoch m : ℕ) (e : Entry) → number_in key epoch e ≡ Some m → HasEpoch key epoch e
number_epoch key epoch m (Entry.Grant k e switch inc nonce) h = let p = placed key epoch k e m 0 (same_key k key && (e == epoch)) refl h in (p.same, p.epoch_is)
number_epoch key epoch m (Entry.Put k e number delta) h = let p = placed key epoch k e m number (same_key k key && (e == epoch)) refl h in (p.same, p.epoch_is)
number_epoch key epoch m (Entry.Snap k e round values) h = let p = placed key epoch k e m round (same_key k key && (e == epoch)) refl h in (p.same, p.epoch_is)

pub number_value : (key : Key) (epoch m : ℕ) (e : Entry) → number_in key epoch e ≡ Some m → IsNumber e m
number_value key epoch m (Entry.Grant k e switch inc nonce) h = (placed key epoch k e m 0 (same_key k key && (e == epoch)) refl h).number_is
number_value key epoch m (Entry.Put k e number delta) h = (placed key epoch k e m number (same_key k key && (e == epoch)) refl h).number_is
number_value key epoch m (Entry.Snap k e round values) h = (placed key epoch k e m round (same_key k key && (e == epoch)) refl h).number_is

number_key : (key : Key) (epoch m : ℕ) (e : Entry) → number_in key epoch e ≡ Some m → same_key (entry_key e) key ≡ true
number_key key epoch m (Entry.Grant k e switch inc nonce) h = rw (number_epoch key epoch m (Entry.Grant k e switch inc nonce) h).0 (same_key-refl key)
number_key key epoch m (Entry.Put k e number delta) h = rw (number_epoch key epoch m (Entry.Put k e number delta) h).0 (same_key-refl key)
number_key key epoch m (Entry.Snap k e round values) h = rw (number_epoch key epoch m (Entry.Snap k e round values) h).0 (same_key-refl key)

-- ---- all numbers up to one that stands

-- the number stands in these entries, or the flow had reached it
abbrev WasNumbered : Key → Option FlowRecord → List Entry → ℕ → ℕ → Type 0
WasNumbered key o es k j = Numbered key k j es ⊎ ((f : FlowRecord) × ((o ≡ Some f) × ((f.epoch ≡ k) × (j ≤ f.last))))

itself : (key : Key) (o : Option FlowRecord) (e : Entry) (xs : List Entry) (k j : ℕ) → number_in key k e ≡ Some j → WasNumbered key o (e ∷ xs) k j
itself key o e xs k j is = inl (record { entry = e; there = inl refl; number_is = is })

-- a number up to the one that comes next
up_to_next : (key : Key) (f : FlowRecord) (e : Entry) (xs : List Entry) (k j : ℕ) → f.epoch ≡ k → number_in key k e ≡ Some (f.last + 1) → j ≤ f.last + 1 → (b : Bool) → (j == f.last + 1) ≡ b → WasNumbered key (Some f) (e ∷ xs) k j
up_to_next key f e xs k j of is le true t = let same : j ≡ f.last + 1 = eqb-true j (f.last + 1) t in itself key (Some f) e xs k j (rw same is)
up_to_next key f e xs k j of is le false t = let ne : (j ≡ f.last + 1 → ⊥) = λ q. both_ways _ t (eq-eqb j (f.last + 1) q) in inr (f, (refl, (of, omega arith)))

head_numbered : {n : ℕ} {key : Key} {o u : Option FlowRecord} {e : Entry} (xs : List Entry) (k m j : ℕ) → Stepped n key o e u → number_in key k e ≡ Some m → j ≤ m → WasNumbered key o (e ∷ xs) k j
head_numbered {key = key} {e = e} xs k m j (other ne) is le = absurd (both_ways _ ne (number_key key k m e is))
head_numbered {key = key} {o = o} {e = e} xs k m j (first {switch = s} {inc = i} {nonce = c}) is le =
    let zero : m ≡ 0 = number_value key k m (Entry.Grant key 1 s i c) is in let same : m ≡ j = omega arith in itself key o e xs k j (rw (← same) is)
head_numbered {key = key} {o = o} {e = e} xs k m j (next {f = f} {switch = s} {inc = i} {nonce = c}) is le =
    let zero : m ≡ 0 = number_value key k m (Entry.Grant key (f.epoch + 1) s i c) is in let same : m ≡ j = omega arith in itself key o e xs k j (rw (← same) is)
head_numbered {key = key} {e = e} xs k m j (put {f = f} {delta = d}) is le =
    let value : m ≡ f.last + 1 = number_value key k m (Entry.Put key f.epoch (f.last + 1) d) is in
    let of = number_epoch key k m (Entry.Put key f.epoch (f.last + 1) d) is in
    up_to_next key f (Entry.Put key f.epoch (f.last + 1) d) xs k j of.1 (is ∙ ap Some value) (omega arith) (j == f.last + 1) refl
head_numbered {key = key} {e = e} xs k m j (snap {f = f} {values = v}) is le =
    let value : m ≡ f.last + 1 = number_value key k m (Entry.Snap key f.epoch (f.last + 1) v) is in
    let of = number_epoch key k m (Entry.Snap key f.epoch (f.last + 1) v) is in
    up_to_next key f (Entry.Snap key f.epoch (f.last + 1) v) xs k j of.1 (is ∙ ap Some value) (omega arith) (j == f.last + 1) refl

step_numbered : {n : ℕ} {key : Key} {o u : Option FlowRecord} {e : Entry} (xs : List Entry) (k j : ℕ) (f : FlowRecord) → Stepped n key o e u → u ≡ Some f → f.epoch ≡ k → j ≤ f.last → WasNumbered key o (e ∷ xs) k j
step_numbered xs k j f (other ne) is of le = inr (f, (is, (of, le)))
step_numbered {key = key} {o = o} {e = e} xs k j f (first {switch = s} {inc = i} {nonce = c}) is of le =
    let epoch : 1 ≡ f.epoch = cc in let last : 0 ≡ f.last = cc in let zero : 0 ≡ j = omega arith in
    itself key o e xs k j (rw (← zero, ← of, ← epoch) (numbered_grant key key 1 s i c (same_key-refl key)))
step_numbered {key = key} {o = o} {e = e} xs k j f (next {f = g} {switch = s} {inc = i} {nonce = c}) is of le =
    let epoch : g.epoch + 1 ≡ f.epoch = cc in let last : 0 ≡ f.last = cc in let zero : 0 ≡ j = omega arith in
    itself key o e xs k j (rw (← zero, ← of, ← epoch) (numbered_grant key key (g.epoch + 1) s i c (same_key-refl key)))
step_numbered {key = key} {e = e} xs k j f (put {f = g} {delta = d}) is of le =
    let epoch : g.epoch ≡ f.epoch = cc in let last : g.last + 1 ≡ f.last = cc in
    up_to_next key g e xs k j (epoch ∙ of) (rw (← of, ← epoch) (numbered_put key key g.epoch (g.last + 1) d (same_key-refl key))) (omega arith) (j == g.last + 1) refl
step_numbered {key = key} {e = e} xs k j f (snap {f = g} {values = v}) is of le =
    let epoch : g.epoch ≡ f.epoch = cc in let last : g.last + 1 ≡ f.last = cc in
    up_to_next key g e xs k j (epoch ∙ of) (rw (← of, ← epoch) (numbered_snap key key g.epoch (g.last + 1) v (same_key-refl key))) (omega arith) (j == g.last + 1) refl

numbers_from : (n : ℕ) (key : Key) (o : Option FlowRecord) (es : List Entry) (e : Entry) (k m j : ℕ) → FitsFrom n key o es → In es e → number_in key k e ≡ Some m → j ≤ m → WasNumbered key o es k j
numbers_from n key o [] e k m j fits i is le = absurd i
numbers_from n key o (x ∷ xs) e k m j fits (inl same) is le = head_numbered xs k m j (stepped n key o x fits.0) (subst (λ y. number_in key k y ≡ Some m) (sym same) is) le
numbers_from n key o (x ∷ xs) e k m j fits (inr i) is le = later_case (numbers_from n key (flow_step n key o x) xs e k m j fits.1 i is le)
  where
    later_case : WasNumbered key (flow_step n key o x) xs k j → WasNumbered key o (x ∷ xs) k j
    later_case (inl h) = inl (record { entry = h.entry; there = inr h.there; number_is = h.number_is })
    later_case (inr f) = step_numbered xs k j f.0 (stepped n key o x fits.0) f.1.0 f.1.1.0 f.1.1.1

-- where a number of an epoch stands, each smaller one does
pub numbers_below : (n : ℕ) (key : Key) (es : List Entry) (e : Entry) (k m j : ℕ) → FitsFrom n key None es → In es e → number_in key k e ≡ Some m → j ≤ m → Numbered key k j es
numbers_below n key es e k m j fits i is le = none_case (numbers_from n key None es e k m j fits i is le)
  where
    none_case : WasNumbered key None es k j → Numbered key k j es
    none_case (inl h) = h
    none_case (inr f) = let no : None ≡ Some f.0 = f.1.0 in cc

-- ---- the closing

abbrev closing_from : Key → ℕ → Option ℕ → List Booked → Option ℕ
closing_from key epoch c book = fold (λ o (b : Booked). greater o (number_in key epoch b.entry)) c book

-- at least this number
abbrev pub Reaches : Option ℕ → ℕ → Type 0
Reaches c m = (d : ℕ) × ((c ≡ Some d) × (m ≤ d))

pub greater-None : (c : Option ℕ) → greater c None ≡ c
greater-None None = refl
greater-None (Some n) = refl

pub greater_left : (c o : Option ℕ) (m : ℕ) → Reaches c m → Reaches (greater c o) m
greater_left None o m h = let no : None ≡ Some h.0 = h.1.0 in cc
greater_left (Some a) None m h = h
greater_left (Some a) (Some b) m h = let same : a ≡ h.0 = cc h.1.0 in (max a b, (refl, omega (arith, h.1.1)))

greater_right : (c o : Option ℕ) (m : ℕ) → o ≡ Some m → Reaches (greater c o) m
greater_right None o m is = (m, (is, omega arith))
greater_right (Some a) None m is = cc
greater_right (Some a) (Some b) m is = let same : b ≡ m = cc in (max a b, (refl, omega arith))

kept_reach : (key : Key) (epoch m : ℕ) (c : Option ℕ) (book : List Booked) → Reaches c m → Reaches (closing_from key epoch c book) m
kept_reach key epoch m c [] h = h
kept_reach key epoch m c (b ∷ bs) h = kept_reach key epoch m (greater c (number_in key epoch b.entry)) bs (greater_left c (number_in key epoch b.entry) m h)

reaches_from : (key : Key) (epoch m : ℕ) (c : Option ℕ) (book : List Booked) (e : Entry) → In (entries_of book) e → number_in key epoch e ≡ Some m → Reaches (closing_from key epoch c book) m
reaches_from key epoch m c [] e i is = absurd i
reaches_from key epoch m c (b ∷ bs) e (inl same) is =
    kept_reach key epoch m (greater c (number_in key epoch b.entry)) bs (greater_right c (number_in key epoch b.entry) m (rw same is))
reaches_from key epoch m c (b ∷ bs) e (inr i) is = reaches_from key epoch m (greater c (number_in key epoch b.entry)) bs e i is

-- the closing is at least each number of the epoch
pub closing_reaches : (key : Key) (epoch m : ℕ) (book : List Booked) (e : Entry) → In (entries_of book) e → number_in key epoch e ≡ Some m → Reaches (closing_of key epoch book) m
closing_reaches key epoch m book e i is = reaches_from key epoch m None book e i is

greater_one : (c o : Option ℕ) (d : ℕ) → greater c o ≡ Some d → (c ≡ Some d) ⊎ (o ≡ Some d)
greater_one None o d is = inr is
greater_one (Some a) None d is = inl is
greater_one (Some a) (Some b) d is = let m : max a b ≡ d = cc in max_case m (nat_le a b) refl
  where
    max_case : max a b ≡ d → (t : Bool) → nat_le a b ≡ t → (Some a ≡ Some d) ⊎ (Some b ≡ Some d)
    max_case m true t = let le : a ≤ b = leb-true a b t in let e : b ≡ d = omega arith in inr (ap Some e)
    max_case m false t = let lt : b < a = leb-false a b t in let e : a ≡ d = omega arith in inl (ap Some e)

numbered_from : (key : Key) (epoch d : ℕ) (c : Option ℕ) (book : List Booked) → closing_from key epoch c book ≡ Some d → Numbered key epoch d (entries_of book) ⊎ (c ≡ Some d)
numbered_from key epoch d c [] is = inr is
numbered_from key epoch d c (b ∷ bs) is = book_case (numbered_from key epoch d (greater c (number_in key epoch b.entry)) bs is)
  where
    one_case : (c ≡ Some d) ⊎ (number_in key epoch b.entry ≡ Some d) → Numbered key epoch d (entries_of (b ∷ bs)) ⊎ (c ≡ Some d)
    one_case (inl e) = inr e
    one_case (inr e) = inl (record { entry = b.entry; there = inl refl; number_is = e })

    book_case : Numbered key epoch d (entries_of bs) ⊎ (greater c (number_in key epoch b.entry) ≡ Some d) → Numbered key epoch d (entries_of (b ∷ bs)) ⊎ (c ≡ Some d)
    book_case (inl h) = inl (record { entry = h.entry; there = inr h.there; number_is = h.number_is })
    book_case (inr e) = one_case (greater_one c (number_in key epoch b.entry) d e)

-- and the number of one of its entries
pub closing_numbered : (key : Key) (epoch d : ℕ) (book : List Booked) → closing_of key epoch book ≡ Some d → Numbered key epoch d (entries_of book)
closing_numbered key epoch d book is = none_case (numbered_from key epoch d None book is)
  where
    none_case : Numbered key epoch d (entries_of book) ⊎ (None ≡ Some d) → Numbered key epoch d (entries_of book)
    none_case (inl h) = h
    none_case (inr e) = cc
