-- In a book whose entries each come next for their flow: epochs rise by one, each has one Grant, and its numbers rise by one.
use Rattle.std.proofs.Common.{◌≡◌, ◌⊎◌, ℕ, ◌+◌, ◌≤◌, ◌<◌, List, [], ◌∷◌, ◌++◌, Option, Some, None, arith, refl, sym, ◌∙◌, subst, true, false, Bool, inl, inr}
use Rattle.std.specs.Prelude.{if◌then◌else◌, option_map}
use Rattle.std.proofs.lemmas.Bool.{both_ways}
use Rattle.rp_app.specs.Application.{Delta, zeros, written}
use Rattle.proto_data.specs.declared.message.Entry.{Entry}
use Rattle.key_table.specs.Table.{Key, same_key}
use Rattle.proto_model.specs.ReplicaRows.{entry_key}
use Rattle.proto_safety.specs.Books.{In}
use Rattle.proto_safety.specs.Flows.{FlowRecord, FitsFrom, Follows, flow_cells, flow_step, flow_from}
use Rattle.proto_safety.specs.LeaseLaws.{HasEpoch}
use Rattle.key_table.proofs.Tables.{same_key-true, same_key-refl}
use Rattle.proto_safety.proofs.Basics.Members.{in_middle}

-- What an entry that comes next makes of a flow. Each later fact is by these cases.
pub data Stepped (n : ℕ) (key : Key) : Option FlowRecord → Entry → Option FlowRecord → Type 0 where
  -- an entry of another flow
  other : {o : Option FlowRecord} {e : Entry} → same_key (entry_key e) key ≡ false → Stepped n key o e o
  -- the first Grant
  first : {switch inc nonce : ℕ} → Stepped n key None (Entry.Grant key 1 switch inc nonce) (Some (record { epoch = 1; switch = switch; inc = inc; nonce = nonce; last = 0; cells = zeros n }))
  -- the Grant of the next epoch
  next :
      {f : FlowRecord} {switch inc nonce : ℕ} →
      Stepped n key (Some f) (Entry.Grant key (f.epoch + 1) switch inc nonce) (Some (record { epoch = f.epoch + 1; switch = switch; inc = inc; nonce = nonce; last = 0; cells = f.cells }))
  -- the next number
  put : {f : FlowRecord} {delta : Delta} → Stepped n key (Some f) (Entry.Put key f.epoch (f.last + 1) delta) (Some (record f { last = f.last + 1; cells = written f.cells delta }))
  snap : {f : FlowRecord} {values : List ℕ} → Stepped n key (Some f) (Entry.Snap key f.epoch (f.last + 1) values) (Some (record f { last = f.last + 1; cells = values }))

grant_stepped : (n : ℕ) (key k : Key) (o : Option FlowRecord) (epoch switch inc nonce : ℕ) (b : Bool) → same_key k key ≡ b → (b ≡ true → Follows o (Entry.Grant k epoch switch inc nonce)) →
    Stepped n key o (Entry.Grant k epoch switch inc nonce) (if b then Some (record { epoch = epoch; switch = switch; inc = inc; nonce = nonce; last = 0; cells = flow_cells n o }) else o)
grant_stepped n key k o epoch switch inc nonce false is fits = other is
grant_stepped n key k None epoch switch inc nonce true is fits = let same : k ≡ key = same_key-true k key is in let one : epoch ≡ 1 = fits refl in rw (same, one) first
grant_stepped n key k (Some f) epoch switch inc nonce true is fits = let same : k ≡ key = same_key-true k key is in let one : epoch ≡ f.epoch + 1 = fits refl in rw (same, one) next

put_stepped : (n : ℕ) (key k : Key) (o : Option FlowRecord) (epoch number : ℕ) (delta : Delta) (b : Bool) → same_key k key ≡ b → (b ≡ true → Follows o (Entry.Put k epoch number delta)) →
    Stepped n key o (Entry.Put k epoch number delta) (if b then option_map (λ (f : FlowRecord). record f { last = number; cells = written f.cells delta }) o else o)
put_stepped n key k o epoch number delta false is fits = other is
put_stepped n key k None epoch number delta true is fits = absurd (fits refl)
put_stepped n key k (Some f) epoch number delta true is fits =
    let same : k ≡ key = same_key-true k key is in
    let e : f.epoch ≡ epoch = (fits refl).0 in
    let m : number ≡ f.last + 1 = (fits refl).1 in rw (same, ← e, m) put

snap_stepped : (n : ℕ) (key k : Key) (o : Option FlowRecord) (epoch round : ℕ) (values : List ℕ) (b : Bool) → same_key k key ≡ b → (b ≡ true → Follows o (Entry.Snap k epoch round values)) →
    Stepped n key o (Entry.Snap k epoch round values) (if b then option_map (λ (f : FlowRecord). record f { last = round; cells = values }) o else o)
snap_stepped n key k o epoch round values false is fits = other is
snap_stepped n key k None epoch round values true is fits = absurd (fits refl)
snap_stepped n key k (Some f) epoch round values true is fits =
    let same : k ≡ key = same_key-true k key is in
    let e : f.epoch ≡ epoch = (fits refl).0 in
    let m : round ≡ f.last + 1 = (fits refl).1 in rw (same, ← e, m) snap

pub stepped : (n : ℕ) (key : Key) (o : Option FlowRecord) (e : Entry) → (same_key (entry_key e) key ≡ true → Follows o e) → Stepped n key o e (flow_step n key o e)
stepped n key o (Entry.Grant k epoch switch inc nonce) fits = grant_stepped n key k o epoch switch inc nonce (same_key k key) refl fits
stepped n key None (Entry.Put k epoch number delta) fits = put_stepped n key k None epoch number delta (same_key k key) refl fits
stepped n key (Some f) (Entry.Put k epoch number delta) fits = put_stepped n key k (Some f) epoch number delta (same_key k key) refl fits
stepped n key None (Entry.Snap k epoch round values) fits = snap_stepped n key k None epoch round values (same_key k key) refl fits
stepped n key (Some f) (Entry.Snap k epoch round values) fits = snap_stepped n key k (Some f) epoch round values (same_key k key) refl fits

-- ---- fronts and rests

pub fits_parts : (n : ℕ) (key : Key) (o : Option FlowRecord) (xs ys : List Entry) → FitsFrom n key o (xs ++ ys) → FitsFrom n key o xs × FitsFrom n key (flow_from n key o xs) ys
fits_parts n key o [] ys h = (tt, h)
fits_parts n key o (x ∷ xs) ys h = let r = fits_parts n key (flow_step n key o x) xs ys h.1 in ((h.0, r.0), r.1)

-- ---- epochs rise

-- an epoch that the flow has reached, or that comes later
abbrev pub From : Option FlowRecord → ℕ → Type 0
From None k = 1 ≤ k
From (Some f) k = f.epoch ≤ k

-- an epoch that comes later
abbrev pub Above : Option FlowRecord → ℕ → Type 0
Above None k = 1 ≤ k
Above (Some f) k = f.epoch + 1 ≤ k

pub key_of_epoch : (key : Key) (epoch : ℕ) (e : Entry) → HasEpoch key epoch e → same_key (entry_key e) key ≡ true
key_of_epoch key epoch (Entry.Grant k x switch inc nonce) h = rw h.0 (same_key-refl key)
key_of_epoch key epoch (Entry.Put k x number delta) h = rw h.0 (same_key-refl key)
key_of_epoch key epoch (Entry.Snap k x round values) h = rw h.0 (same_key-refl key)

pub step_from : {n : ℕ} {key : Key} {o u : Option FlowRecord} {e : Entry} (k : ℕ) → Stepped n key o e u → From u k → From o k
step_from k (other ne) h = h
step_from k first h = h
step_from k (next {f = f}) h = omega arith
step_from k put h = h
step_from k snap h = h

pub step_above : {n : ℕ} {key : Key} {o u : Option FlowRecord} {e : Entry} (k : ℕ) → Stepped n key o e u → Above u k → Above o k
step_above k (other ne) h = h
step_above k first h = omega arith
step_above k (next {f = f}) h = omega arith
step_above k put h = h
step_above k snap h = h

head_from : {n : ℕ} {key : Key} {o u : Option FlowRecord} {e : Entry} (k : ℕ) → Stepped n key o e u → HasEpoch key k e → From o k
head_from {key = key} {e = e} k (other ne) h = absurd (both_ways _ ne (key_of_epoch key k e h))
head_from k first h = omega (arith, h.1)
head_from k (next {f = f}) h = omega (arith, h.1)
head_from k (put {f = f}) h = omega (arith, h.1)
head_from k (snap {f = f}) h = omega (arith, h.1)

-- an entry's epoch was reached at its place
pub entry_from : (n : ℕ) (key : Key) (o : Option FlowRecord) (es : List Entry) (e : Entry) (k : ℕ) → FitsFrom n key o es → In es e → HasEpoch key k e → From o k
entry_from n key o [] e k fits i h = absurd i
entry_from n key o (x ∷ xs) e k fits (inl same) h = head_from k (stepped n key o x fits.0) (subst (λ y. HasEpoch key k y) (sym same) h)
entry_from n key o (x ∷ xs) e k fits (inr i) h = step_from k (stepped n key o x fits.0) (entry_from n key (flow_step n key o x) xs e k fits.1 i h)

grant_head : {n : ℕ} {key : Key} {o u : Option FlowRecord} {e : Entry} (k switch inc nonce : ℕ) → Stepped n key o e u → e ≡ Entry.Grant key k switch inc nonce → Above o k
grant_head {key = key} k switch inc nonce (other ne) is = absurd (both_ways _ ne (rw is (same_key-refl key)))
grant_head k switch inc nonce first is = let one : 1 ≡ k = cc in omega arith
grant_head k switch inc nonce (next {f = f}) is = let one : f.epoch + 1 ≡ k = cc in omega arith
grant_head k switch inc nonce put is = cc
grant_head k switch inc nonce snap is = cc

-- a Grant's epoch comes later than what was reached before it
pub grant_above : (n : ℕ) (key : Key) (o : Option FlowRecord) (es : List Entry) (k switch inc nonce : ℕ) → FitsFrom n key o es → In es (Entry.Grant key k switch inc nonce) → Above o k
grant_above n key o [] k switch inc nonce fits i = absurd i
grant_above n key o (x ∷ xs) k switch inc nonce fits (inl same) = grant_head k switch inc nonce (stepped n key o x fits.0) same
grant_above n key o (x ∷ xs) k switch inc nonce fits (inr i) = step_above k (stepped n key o x fits.0) (grant_above n key (flow_step n key o x) xs k switch inc nonce fits.1 i)

after_grant : {n : ℕ} {key : Key} {o u : Option FlowRecord} {e : Entry} (k j switch inc nonce : ℕ) → Stepped n key o e u → e ≡ Entry.Grant key k switch inc nonce → Above u j → k < j
after_grant {key = key} k j switch inc nonce (other ne) is h = absurd (both_ways _ ne (rw is (same_key-refl key)))
after_grant k j switch inc nonce first is h = let one : 1 ≡ k = cc in omega arith
after_grant k j switch inc nonce (next {f = f}) is h = let one : f.epoch + 1 ≡ k = cc in omega arith
after_grant k j switch inc nonce put is h = cc
after_grant k j switch inc nonce snap is h = cc

-- ---- one Grant an epoch

-- the owner of an epoch
pub record SameOwner (s i m t j p : ℕ) : Type 0 where
  pub switch : s ≡ t
  pub inc : i ≡ j
  pub nonce : m ≡ p

-- an epoch's Grants are one entry
pub one_grant : (n : ℕ) (key : Key) (o : Option FlowRecord) (es : List Entry) (k s i m t j p : ℕ) → FitsFrom n key o es → In es (Entry.Grant key k s i m) → In es (Entry.Grant key k t j p) → SameOwner s i m t j p
one_grant n key o [] k s i m t j p fits a b = absurd a
one_grant n key o (x ∷ xs) k s i m t j p fits (inl a) (inl b) = record { switch = cc (sym a ∙ b); inc = cc (sym a ∙ b); nonce = cc (sym a ∙ b) }
one_grant n key o (x ∷ xs) k s i m t j p fits (inl a) (inr b) =
    let above : k < k = after_grant k k s i m (stepped n key o x fits.0) a (grant_above n key (flow_step n key o x) xs k t j p fits.1 b) in absurd (omega arith)
one_grant n key o (x ∷ xs) k s i m t j p fits (inr a) (inl b) =
    let above : k < k = after_grant k k t j p (stepped n key o x fits.0) b (grant_above n key (flow_step n key o x) xs k s i m fits.1 a) in absurd (omega arith)
one_grant n key o (x ∷ xs) k s i m t j p fits (inr a) (inr b) = one_grant n key (flow_step n key o x) xs k s i m t j p fits.1 a b

-- a flow that is granted stays granted, and its epoch rises
step_later : {n : ℕ} {key : Key} {o u : Option FlowRecord} {x : Entry} (f : FlowRecord) → Stepped n key o x u → o ≡ Some f → (g : FlowRecord) × ((u ≡ Some g) × (f.epoch ≤ g.epoch))
step_later f (other ne) is = (f, (is, omega arith))
step_later f first is = cc
step_later f (next {f = g} {switch = s} {inc = i} {nonce = m}) is = let e : g.epoch ≡ f.epoch = cc in (_, (refl, omega arith))
step_later f (put {f = g}) is = let e : g.epoch ≡ f.epoch = cc in (_, (refl, omega arith))
step_later f (snap {f = g}) is = let e : g.epoch ≡ f.epoch = cc in (_, (refl, omega arith))

pub flow_later_from : (n : ℕ) (key : Key) (o : Option FlowRecord) (f : FlowRecord) (more : List Entry) → FitsFrom n key o more → o ≡ Some f → (g : FlowRecord) × ((flow_from n key o more ≡ Some g) × (f.epoch ≤ g.epoch))
flow_later_from n key o f [] fits is = (f, (is, omega arith))
flow_later_from n key o f (x ∷ xs) fits is =
    let a = step_later f (stepped n key o x fits.0) is in
    let b = flow_later_from n key (flow_step n key o x) a.0 xs fits.1 a.1.0 in (b.0, (b.1.0, omega (arith, a.1.1, b.1.1)))

-- and stand at one place
pub one_place : (n : ℕ) (key : Key) (o : Option FlowRecord) (xs ys zs ws : List Entry) (k s i m t j p : ℕ) → FitsFrom n key o (xs ++ Entry.Grant key k s i m ∷ ys) → xs ++ Entry.Grant key k s i m ∷ ys ≡ zs ++ Entry.Grant key k t j p ∷ ws → xs ≡ zs
one_place n key o [] ys [] ws k s i m t j p fits is = refl
one_place n key o [] ys (c ∷ zs) ws k s i m t j p fits is =
    let rest : ys ≡ zs ++ Entry.Grant key k t j p ∷ ws = cc in
    let there : In ys (Entry.Grant key k t j p) = subst (λ l. In l (Entry.Grant key k t j p)) (sym rest) (in_middle zs ws (Entry.Grant key k t j p)) in
    let above : k < k = after_grant k k s i m (stepped n key o (Entry.Grant key k s i m) fits.0) refl (grant_above n key (flow_step n key o (Entry.Grant key k s i m)) ys k t j p fits.1 there) in absurd (omega arith)
one_place n key o (a ∷ xs) ys [] ws k s i m t j p fits is =
    let head : a ≡ Entry.Grant key k t j p = cc in
    let above : k < k = after_grant k k t j p (stepped n key o a fits.0) head (grant_above n key (flow_step n key o a) (xs ++ Entry.Grant key k s i m ∷ ys) k s i m fits.1 (in_middle xs ys (Entry.Grant key k s i m))) in absurd (omega arith)
one_place n key o (a ∷ xs) ys (c ∷ zs) ws k s i m t j p fits is =
    let head : a ≡ c = cc in
    let rest : xs ++ Entry.Grant key k s i m ∷ ys ≡ zs ++ Entry.Grant key k t j p ∷ ws = cc in
    let tail : xs ≡ zs = one_place n key (flow_step n key o a) xs ys zs ws k s i m t j p fits.1 rest in rw (head, tail) refl

-- ---- no entry of an ungranted epoch

-- the epoch was granted in these entries, or is the flow's own
abbrev pub WasGranted : Key → Option FlowRecord → List Entry → ℕ → Type 0
WasGranted key o es k = ((switch : ℕ) × ((inc : ℕ) × ((nonce : ℕ) × In es (Entry.Grant key k switch inc nonce)))) ⊎ ((f : FlowRecord) × ((o ≡ Some f) × (f.epoch ≡ k)))

head_granted : {n : ℕ} {key : Key} {o u : Option FlowRecord} {e : Entry} (xs : List Entry) (k : ℕ) → Stepped n key o e u → HasEpoch key k e → WasGranted key o (e ∷ xs) k
head_granted {key = key} {e = e} xs k (other ne) h = absurd (both_ways _ ne (key_of_epoch key k e h))
head_granted {key = key} xs k (first {switch = s} {inc = i} {nonce = m}) h = inl (s, (i, (m, inl (rw h.1 refl))))
head_granted {key = key} xs k (next {f = f} {switch = s} {inc = i} {nonce = m}) h = inl (s, (i, (m, inl (rw h.1 refl))))
head_granted xs k (put {f = f}) h = inr (f, (refl, h.1))
head_granted xs k (snap {f = f}) h = inr (f, (refl, h.1))

step_granted : {n : ℕ} {key : Key} {o u : Option FlowRecord} {e : Entry} (xs : List Entry) (k : ℕ) (f : FlowRecord) → Stepped n key o e u → u ≡ Some f → f.epoch ≡ k → WasGranted key o (e ∷ xs) k
step_granted xs k f (other ne) is e = inr (f, (is, e))
step_granted xs k f (first {switch = s} {inc = i} {nonce = m}) is e = let one : 1 ≡ f.epoch = cc in inl (s, (i, (m, inl (rw (one ∙ e) refl))))
step_granted xs k f (next {f = g} {switch = s} {inc = i} {nonce = m}) is e = let one : g.epoch + 1 ≡ f.epoch = cc in inl (s, (i, (m, inl (rw (one ∙ e) refl))))
step_granted xs k f (put {f = g}) is e = let one : g.epoch ≡ f.epoch = cc in inr (g, (refl, one ∙ e))
step_granted xs k f (snap {f = g}) is e = let one : g.epoch ≡ f.epoch = cc in inr (g, (refl, one ∙ e))

later_granted : (n : ℕ) (key : Key) (o : Option FlowRecord) (x : Entry) (xs : List Entry) (k : ℕ) → (same_key (entry_key x) key ≡ true → Follows o x) → WasGranted key (flow_step n key o x) xs k → WasGranted key o (x ∷ xs) k
later_granted n key o x xs k fits (inl g) = inl (g.0, (g.1.0, (g.1.1.0, inr g.1.1.1)))
later_granted n key o x xs k fits (inr f) = step_granted xs k f.0 (stepped n key o x fits) f.1.0 f.1.1

pub was_granted : (n : ℕ) (key : Key) (o : Option FlowRecord) (es : List Entry) (e : Entry) (k : ℕ) → FitsFrom n key o es → In es e → HasEpoch key k e → WasGranted key o es k
was_granted n key o [] e k fits i h = absurd i
was_granted n key o (x ∷ xs) e k fits (inl same) h = head_granted xs k (stepped n key o x fits.0) (subst (λ y. HasEpoch key k y) (sym same) h)
was_granted n key o (x ∷ xs) e k fits (inr i) h = later_granted n key o x xs k fits.0 (was_granted n key (flow_step n key o x) xs e k fits.1 i h)

-- the epoch that a flow has reached was granted
pub reached_granted : (n : ℕ) (key : Key) (o : Option FlowRecord) (es : List Entry) (f : FlowRecord) → FitsFrom n key o es → flow_from n key o es ≡ Some f → WasGranted key o es f.epoch
reached_granted n key o [] f fits is = inr (f, (is, refl))
reached_granted n key o (x ∷ xs) f fits is = later_granted n key o x xs f.epoch fits.0 (reached_granted n key (flow_step n key o x) xs f fits.1 is)

-- a Grant of a later epoch than the first stands behind a flow that has the epoch before it
grant_next : {n : ℕ} {key : Key} {o u : Option FlowRecord} {e : Entry} (k switch inc nonce : ℕ) → Stepped n key o e u → e ≡ Entry.Grant key (k + 1) switch inc nonce → 1 ≤ k → (f : FlowRecord) × ((o ≡ Some f) × (f.epoch ≡ k))
grant_next {key = key} k switch inc nonce (other ne) is some = absurd (both_ways _ ne (rw is (same_key-refl key)))
grant_next k switch inc nonce first is some = let one : 1 ≡ k + 1 = cc in absurd (omega arith)
grant_next k switch inc nonce (next {f = f}) is some = let one : f.epoch + 1 ≡ k + 1 = cc in (f, (refl, omega arith))
grant_next k switch inc nonce put is some = cc
grant_next k switch inc nonce snap is some = cc

-- so the Grant of the epoch before stands there
pub granted_before : (n : ℕ) (key : Key) (before behind : List Entry) (k switch inc nonce : ℕ) → FitsFrom n key None (before ++ Entry.Grant key (k + 1) switch inc nonce ∷ behind) → 1 ≤ k → WasGranted key None before k
granted_before n key before behind k switch inc nonce fits some =
    let parts = fits_parts n key None before (Entry.Grant key (k + 1) switch inc nonce ∷ behind) fits in
    let f = grant_next k switch inc nonce (stepped n key (flow_from n key None before) (Entry.Grant key (k + 1) switch inc nonce) parts.1.0) refl some in
    subst (λ e. WasGranted key None before e) f.1.1 (reached_granted n key None before f.0 parts.0 f.1.0)
