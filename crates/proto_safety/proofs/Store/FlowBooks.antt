-- A record is what its book says of its flow, and what a book's fold says of the entries in it.
use Rattle.std.proofs.Common.{◌≡◌, ◌⊎◌, ℕ, List, [], ◌∷◌, ◌++◌, Option, Some, None, refl, sym, ap, subst, ◌∙◌, inl, inr, true, false, Bool, eq-eqb}
use Rattle.std.specs.Prelude.{if◌then◌else◌, option_map, fold}
use Rattle.proto_data.specs.declared.message.Entry.{Entry}
use Rattle.proto_data.specs.declared.message.Record.{Record}
use Rattle.rp_app.specs.Application.{Delta, written}
use Rattle.key_table.specs.Table.{Key, same_key, get, put}
use Rattle.proto_model.specs.Records.{Records, Booked, applied, put_applied, snap_applied, cells_of}
use Rattle.proto_model.specs.ReplicaState.{Replica, record_at}
use Rattle.proto_model.specs.ReplicaRows.{entry_key}
use Rattle.proto_model.specs.Stands.{Stands, entries_of}
use Rattle.proto_model.specs.Committed.{number_in}
use Rattle.proto_safety.specs.Books.{In}
use Rattle.proto_safety.specs.Flows.{FlowRecord, flow_in, flow_cells, flow_step, flow_from, flow_of, Follows, FitsFrom}
use Rattle.key_table.proofs.Tables.{get-put_same, get-put_other, same_key-true}

-- what the table says of a flow
abbrev pub flow_at : Records → Key → Option FlowRecord
flow_at records key = option_map flow_in (get records key)

-- ---- a record is what its book says

put_flow : (records : Records) (k key : Key) (r : Record) → flow_at (put records k r) key ≡ (if same_key k key then Some (flow_in r) else flow_at records key)
put_flow records k key r = put_case (same_key k key) refl
  where
    put_case : (b : Bool) → same_key k key ≡ b → flow_at (put records k r) key ≡ (if b then Some (flow_in r) else flow_at records key)
    put_case true is = let same : k ≡ key = same_key-true k key is in rw (← same) (ap (λ o. option_map flow_in o) (get-put_same records k r))
    put_case false is = ap (λ o. option_map flow_in o) (get-put_other records key k r is)

cells_flow : (n : ℕ) (o : Option Record) → cells_of n o ≡ flow_cells n (option_map flow_in o)
cells_flow n None = refl
cells_flow n (Some r) = refl

-- a change of the record of k, seen at key
changed_flow : (records : Records) (k key : Key) (f : FlowRecord → FlowRecord) (b : Bool) (o : Option Record) → same_key k key ≡ b → get records k ≡ o → (changed : Records) →
    ((r : Record) → o ≡ Some r → flow_at changed key ≡ (if b then Some (f (flow_in r)) else flow_at records key)) → (o ≡ None → changed ≡ records) →
    flow_at changed key ≡ (if b then option_map f (flow_at records key) else flow_at records key)
changed_flow records k key f true None is at changed some none =
    let same : k ≡ key = same_key-true k key is in
    let nothing : flow_at records key ≡ None = rw (← same, at) refl in
    rw (none refl, nothing) refl
changed_flow records k key f true (Some r) is at changed some none =
    let same : k ≡ key = same_key-true k key is in
    let there : flow_at records key ≡ Some (flow_in r) = rw (← same, at) refl in
    some r refl ∙ ap (λ o. option_map f o) (sym there)
changed_flow records k key f false None is at changed some none = rw (none refl) refl
changed_flow records k key f false (Some r) is at changed some none = some r refl

put_applied_flow : (records : Records) (k key : Key) (number : ℕ) (delta : Delta) (now : ℕ) (o : Option Record) → get records k ≡ o →
    flow_at (put_applied records k number delta now o) key ≡ (if same_key k key then option_map (λ (f : FlowRecord). record f { last = number; cells = written f.cells delta }) (flow_at records key) else flow_at records key)
put_applied_flow records k key number delta now None at =
    changed_flow records k key (λ (f : FlowRecord). record f { last = number; cells = written f.cells delta }) (same_key k key) None refl at records (λ r e. cc) (λ _. refl)
put_applied_flow records k key number delta now (Some r) at =
    changed_flow records k key (λ (f : FlowRecord). record f { last = number; cells = written f.cells delta }) (same_key k key) (Some r) refl at _
    (λ x e. let same : r ≡ x = cc in rw (← same) (put_flow records k key (record r { last = number; cells = written r.cells delta; moment = now }))) (λ e. cc)

snap_applied_flow : (records : Records) (k key : Key) (round : ℕ) (values : List ℕ) (now : ℕ) (o : Option Record) → get records k ≡ o →
    flow_at (snap_applied records k round values now o) key ≡ (if same_key k key then option_map (λ (f : FlowRecord). record f { last = round; cells = values }) (flow_at records key) else flow_at records key)
snap_applied_flow records k key round values now None at =
    changed_flow records k key (λ (f : FlowRecord). record f { last = round; cells = values }) (same_key k key) None refl at records (λ r e. cc) (λ _. refl)
snap_applied_flow records k key round values now (Some r) at =
    changed_flow records k key (λ (f : FlowRecord). record f { last = round; cells = values }) (same_key k key) (Some r) refl at _
    (λ x e. let same : r ≡ x = cc in rw (← same) (put_flow records k key (record r { last = round; cells = values; moment = now }))) (λ e. cc)

grant_flow : (n : ℕ) (records : Records) (k key : Key) (epoch switch inc nonce now : ℕ) (b : Bool) → same_key k key ≡ b →
    (if b then Some (flow_in (record { epoch = epoch; switch = switch; inc = inc; nonce = nonce; last = 0; cells = cells_of n (get records k); moment = now })) else flow_at records key)
    ≡ (if b then Some (record { epoch = epoch; switch = switch; inc = inc; nonce = nonce; last = 0; cells = flow_cells n (flow_at records key) }) else flow_at records key)
grant_flow n records k key epoch switch inc nonce now true is =
    let same : k ≡ key = same_key-true k key is in
    rw (same, cells_flow n (get records key)) refl
grant_flow n records k key epoch switch inc nonce now false is = refl

applied_flow : (n : ℕ) (records : Records) (key : Key) (e : Entry) (now : ℕ) → flow_at (applied n records e now) key ≡ flow_step n key (flow_at records key) e
applied_flow n records key (Entry.Grant k epoch switch inc nonce) now =
    put_flow records k key (record { epoch = epoch; switch = switch; inc = inc; nonce = nonce; last = 0; cells = cells_of n (get records k); moment = now })
    ∙ grant_flow n records k key epoch switch inc nonce now (same_key k key) refl
applied_flow n records key (Entry.Put k epoch number delta) now = put_applied_flow records k key number delta now (get records k) refl
applied_flow n records key (Entry.Snap k epoch round values) now = snap_applied_flow records k key round values now (get records k) refl

pub book_flow : (n : ℕ) (key : Key) (book : List Booked) (records : Records) → flow_at (fold (λ rs (b : Booked). applied n rs b.entry b.moment) records book) key ≡ flow_from n key (flow_at records key) (entries_of book)
book_flow n key [] records = refl
book_flow n key (b ∷ bs) records = book_flow n key bs (applied n records b.entry b.moment) ∙ ap (λ o. flow_from n key o (entries_of bs)) (applied_flow n records key b.entry b.moment)

-- a replica's record is what its book says of the flow
pub stands_flow : (r : Replica) (book : List Booked) (key : Key) → Stands r book → option_map flow_in (record_at r key) ≡ flow_of r.cell_count key (entries_of book)
stands_flow r book key h = ap (λ rs. flow_at rs key) h.records_along ∙ book_flow r.cell_count key book []

-- ---- what a fold says of its entries

pub fits_push : (n : ℕ) (key : Key) (o : Option FlowRecord) (es : List Entry) (e : Entry) → FitsFrom n key o es → (same_key (entry_key e) key ≡ true → Follows (flow_from n key o es) e) → FitsFrom n key o (es ++ e ∷ [])
fits_push n key o [] e h f = (f, tt)
fits_push n key o (x ∷ xs) e h f = (h.0, fits_push n key (flow_step n key o x) xs e h.1 f)

-- the flow's epoch and owner were granted in the book, or before it
abbrev OwnedBy : Key → Option FlowRecord → List Entry → FlowRecord → Type 0
OwnedBy key o es f = In es (Entry.Grant key f.epoch f.switch f.inc f.nonce) ⊎ ((g : FlowRecord) × ((o ≡ Some g) × ((g.epoch ≡ f.epoch) × (g.switch ≡ f.switch) × (g.inc ≡ f.inc) × (g.nonce ≡ f.nonce))))

owned_later : (key : Key) (o : Option FlowRecord) (e : Entry) (es : List Entry) (f : FlowRecord) (step : Option FlowRecord) → OwnedBy key step es f →
    ((g : FlowRecord) → step ≡ Some g → (e ≡ Entry.Grant key g.epoch g.switch g.inc g.nonce) ⊎ ((h : FlowRecord) × ((o ≡ Some h) × ((h.epoch ≡ g.epoch) × (h.switch ≡ g.switch) × (h.inc ≡ g.inc) × (h.nonce ≡ g.nonce))))) →
    OwnedBy key o (e ∷ es) f
owned_later key o e es f step (inl i) k = inl (inr i)
owned_later key o e es f step (inr g) k = owned_case (k g.0 g.1.0)
  where
    owned_case : (e ≡ Entry.Grant key g.0.epoch g.0.switch g.0.inc g.0.nonce) ⊎ ((h : FlowRecord) × ((o ≡ Some h) × ((h.epoch ≡ g.0.epoch) × (h.switch ≡ g.0.switch) × (h.inc ≡ g.0.inc) × (h.nonce ≡ g.0.nonce)))) → OwnedBy key o (e ∷ es) f
    owned_case (inl is) = inl (inl (is ∙ rw (g.1.1.0, g.1.1.1, g.1.1.2, g.1.1.3) refl))
    owned_case (inr h) = inr (h.0, (h.1.0, (h.1.1.0 ∙ g.1.1.0, h.1.1.1 ∙ g.1.1.1, h.1.1.2 ∙ g.1.1.2, h.1.1.3 ∙ g.1.1.3)))

step_owned : (n : ℕ) (key : Key) (o : Option FlowRecord) (e : Entry) (g : FlowRecord) → flow_step n key o e ≡ Some g →
    (e ≡ Entry.Grant key g.epoch g.switch g.inc g.nonce) ⊎ ((h : FlowRecord) × ((o ≡ Some h) × ((h.epoch ≡ g.epoch) × (h.switch ≡ g.switch) × (h.inc ≡ g.inc) × (h.nonce ≡ g.nonce))))
step_owned n key o (Entry.Grant k epoch switch inc nonce) g at = grant_case (same_key k key) refl at
  where
    grant_case : (b : Bool) → same_key k key ≡ b → (if b then Some (record { epoch = epoch; switch = switch; inc = inc; nonce = nonce; last = 0; cells = flow_cells n o }) else o) ≡ Some g →
        (Entry.Grant k epoch switch inc nonce ≡ Entry.Grant key g.epoch g.switch g.inc g.nonce) ⊎ ((h : FlowRecord) × ((o ≡ Some h) × ((h.epoch ≡ g.epoch) × (h.switch ≡ g.switch) × (h.inc ≡ g.inc) × (h.nonce ≡ g.nonce))))
    grant_case true is e =
        let same : k ≡ key = same_key-true k key is in
        let flow : record { epoch = epoch; switch = switch; inc = inc; nonce = nonce; last = 0; cells = flow_cells n o } ≡ g = cc in
        inl (rw (same, ← flow) refl)
    grant_case false is e = inr (g, (e, (refl, refl, refl, refl)))
step_owned n key None (Entry.Put k epoch number delta) g at = put_case (same_key k key) at
  where
    put_case : (b : Bool) → (if b then None else None) ≡ Some g → (Entry.Put k epoch number delta ≡ Entry.Grant key g.epoch g.switch g.inc g.nonce) ⊎ ((h : FlowRecord) × ((None ≡ Some h) × ((h.epoch ≡ g.epoch) × (h.switch ≡ g.switch) × (h.inc ≡ g.inc) × (h.nonce ≡ g.nonce))))
    put_case true e = cc
    put_case false e = cc
step_owned n key (Some f) (Entry.Put k epoch number delta) g at = put_case (same_key k key) at
  where
    put_case : (b : Bool) → (if b then Some (record f { last = number; cells = written f.cells delta }) else Some f) ≡ Some g →
        (Entry.Put k epoch number delta ≡ Entry.Grant key g.epoch g.switch g.inc g.nonce) ⊎ ((h : FlowRecord) × ((Some f ≡ Some h) × ((h.epoch ≡ g.epoch) × (h.switch ≡ g.switch) × (h.inc ≡ g.inc) × (h.nonce ≡ g.nonce))))
    put_case true e = let is : record f { last = number; cells = written f.cells delta } ≡ g = cc in inr (f, (refl, (ap (λ (x : FlowRecord). x.epoch) is, ap (λ (x : FlowRecord). x.switch) is, ap (λ (x : FlowRecord). x.inc) is, ap (λ (x : FlowRecord). x.nonce) is)))
    put_case false e = inr (g, (e, (refl, refl, refl, refl)))
step_owned n key None (Entry.Snap k epoch round values) g at = snap_case (same_key k key) at
  where
    snap_case : (b : Bool) → (if b then None else None) ≡ Some g → (Entry.Snap k epoch round values ≡ Entry.Grant key g.epoch g.switch g.inc g.nonce) ⊎ ((h : FlowRecord) × ((None ≡ Some h) × ((h.epoch ≡ g.epoch) × (h.switch ≡ g.switch) × (h.inc ≡ g.inc) × (h.nonce ≡ g.nonce))))
    snap_case true e = cc
    snap_case false e = cc
step_owned n key (Some f) (Entry.Snap k epoch round values) g at = snap_case (same_key k key) at
  where
    snap_case : (b : Bool) → (if b then Some (record f { last = round; cells = values }) else Some f) ≡ Some g →
        (Entry.Snap k epoch round values ≡ Entry.Grant key g.epoch g.switch g.inc g.nonce) ⊎ ((h : FlowRecord) × ((Some f ≡ Some h) × ((h.epoch ≡ g.epoch) × (h.switch ≡ g.switch) × (h.inc ≡ g.inc) × (h.nonce ≡ g.nonce))))
    snap_case true e = let is : record f { last = round; cells = values } ≡ g = cc in inr (f, (refl, (ap (λ (x : FlowRecord). x.epoch) is, ap (λ (x : FlowRecord). x.switch) is, ap (λ (x : FlowRecord). x.inc) is, ap (λ (x : FlowRecord). x.nonce) is)))
    snap_case false e = inr (g, (e, (refl, refl, refl, refl)))

owned_from : (n : ℕ) (key : Key) (o : Option FlowRecord) (es : List Entry) (f : FlowRecord) → flow_from n key o es ≡ Some f → OwnedBy key o es f
owned_from n key o [] f at = inr (f, (at, (refl, refl, refl, refl)))
owned_from n key o (e ∷ es) f at = owned_later key o e es f (flow_step n key o e) (owned_from n key (flow_step n key o e) es f at) (λ g is. step_owned n key o e g is)

-- the Grant of a flow's epoch stands in the book
pub granted_in : (n : ℕ) (key : Key) (es : List Entry) (f : FlowRecord) → flow_of n key es ≡ Some f → In es (Entry.Grant key f.epoch f.switch f.inc f.nonce)
granted_in n key es f at = granted_case (owned_from n key None es f at)
  where
    granted_case : OwnedBy key None es f → In es (Entry.Grant key f.epoch f.switch f.inc f.nonce)
    granted_case (inl i) = i
    granted_case (inr g) = let e : None ≡ Some g.0 = g.1.0 in cc

-- ---- an entry with the flow's last number

-- an entry of this epoch with this number
pub record Numbered (key : Key) (epoch number : ℕ) (es : List Entry) : Type 0 where
  pub entry : Entry
  pub there : In es entry
  pub number_is : number_in key epoch entry ≡ Some number

pub numbered_grant : (key k : Key) (epoch switch inc nonce : ℕ) → same_key k key ≡ true → number_in key epoch (Entry.Grant k epoch switch inc nonce) ≡ Some 0
numbered_grant key k epoch switch inc nonce is = rw (is, eq-eqb epoch epoch refl) refl

pub numbered_put : (key k : Key) (epoch number : ℕ) (delta : Delta) → same_key k key ≡ true → number_in key epoch (Entry.Put k epoch number delta) ≡ Some number
numbered_put key k epoch number delta is = rw (is, eq-eqb epoch epoch refl) refl

pub numbered_snap : (key k : Key) (epoch round : ℕ) (values : List ℕ) → same_key k key ≡ true → number_in key epoch (Entry.Snap k epoch round values) ≡ Some round
numbered_snap key k epoch round values is = rw (is, eq-eqb epoch epoch refl) refl

-- the flow that an entry leaves: it has the entry's number in its epoch, or is the flow as it was
data Left (key : Key) (o : Option FlowRecord) (e : Entry) (g : FlowRecord) : Type 0 where
  by_entry : number_in key g.epoch e ≡ Some g.last → Left key o e g
  as_before : o ≡ Some g → Left key o e g

step_left : (n : ℕ) (key : Key) (o : Option FlowRecord) (e : Entry) (g : FlowRecord) → (same_key (entry_key e) key ≡ true → Follows o e) → flow_step n key o e ≡ Some g → Left key o e g
step_left n key o (Entry.Grant k epoch switch inc nonce) g fits at = left_case (same_key k key) refl at
  where
    left_case : (b : Bool) → same_key k key ≡ b → (if b then Some (record { epoch = epoch; switch = switch; inc = inc; nonce = nonce; last = 0; cells = flow_cells n o }) else o) ≡ Some g → Left key o (Entry.Grant k epoch switch inc nonce) g
    left_case true is e =
        let flow : record { epoch = epoch; switch = switch; inc = inc; nonce = nonce; last = 0; cells = flow_cells n o } ≡ g = cc in
        subst (λ (x : FlowRecord). Left key o (Entry.Grant k epoch switch inc nonce) x) flow (by_entry (numbered_grant key k epoch switch inc nonce is))
    left_case false is e = as_before e
step_left n key None (Entry.Put k epoch number delta) g fits at = left_case (same_key k key) at
  where
    left_case : (b : Bool) → (if b then None else None) ≡ Some g → Left key None (Entry.Put k epoch number delta) g
    left_case true e = cc
    left_case false e = cc
step_left n key (Some f) (Entry.Put k epoch number delta) g fits at = left_case (same_key k key) refl at
  where
    left_case : (b : Bool) → same_key k key ≡ b → (if b then Some (record f { last = number; cells = written f.cells delta }) else Some f) ≡ Some g → Left key (Some f) (Entry.Put k epoch number delta) g
    left_case true is e =
        let flow : record f { last = number; cells = written f.cells delta } ≡ g = cc in
        let same : f.epoch ≡ epoch = (fits is).0 in
        subst (λ (x : FlowRecord). Left key (Some f) (Entry.Put k epoch number delta) x) flow (by_entry (rw same (numbered_put key k epoch number delta is)))
    left_case false is e = as_before e
step_left n key None (Entry.Snap k epoch round values) g fits at = left_case (same_key k key) at
  where
    left_case : (b : Bool) → (if b then None else None) ≡ Some g → Left key None (Entry.Snap k epoch round values) g
    left_case true e = cc
    left_case false e = cc
step_left n key (Some f) (Entry.Snap k epoch round values) g fits at = left_case (same_key k key) refl at
  where
    left_case : (b : Bool) → same_key k key ≡ b → (if b then Some (record f { last = round; cells = values }) else Some f) ≡ Some g → Left key (Some f) (Entry.Snap k epoch round values) g
    left_case true is e =
        let flow : record f { last = round; cells = values } ≡ g = cc in
        let same : f.epoch ≡ epoch = (fits is).0 in
        subst (λ (x : FlowRecord). Left key (Some f) (Entry.Snap k epoch round values) x) flow (by_entry (rw same (numbered_snap key k epoch round values is)))
    left_case false is e = as_before e

numbered_from : (n : ℕ) (key : Key) (o : Option FlowRecord) (es : List Entry) (f : FlowRecord) → FitsFrom n key o es → flow_from n key o es ≡ Some f → Numbered key f.epoch f.last es ⊎ (o ≡ Some f)
numbered_from n key o [] f fits at = inr at
numbered_from n key o (e ∷ es) f fits at = numbered_case (numbered_from n key (flow_step n key o e) es f fits.1 at)
  where
    left_of : Left key o e f → Numbered key f.epoch f.last (e ∷ es) ⊎ (o ≡ Some f)
    left_of (by_entry is) = inl (record { entry = e; there = inl refl; number_is = is })
    left_of (as_before is) = inr is

    numbered_case : Numbered key f.epoch f.last es ⊎ (flow_step n key o e ≡ Some f) → Numbered key f.epoch f.last (e ∷ es) ⊎ (o ≡ Some f)
    numbered_case (inl h) = inl (record { entry = h.entry; there = inr h.there; number_is = h.number_is })
    numbered_case (inr is) = left_of (step_left n key o e f fits.0 is)

pub last_numbered : (n : ℕ) (key : Key) (es : List Entry) (f : FlowRecord) → FitsFrom n key None es → flow_of n key es ≡ Some f → Numbered key f.epoch f.last es
last_numbered n key es f fits at = numbered_case (numbered_from n key None es f fits at)
  where
    numbered_case : Numbered key f.epoch f.last es ⊎ (None ≡ Some f) → Numbered key f.epoch f.last es
    numbered_case (inl h) = h
    numbered_case (inr e) = cc
