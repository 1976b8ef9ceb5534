-- A step of a replica raises each number by one at most, and sends sized messages.
use Rattle.std.proofs.Common.{◌≡◌, ℕ, ◌+◌, ◌-◌, ◌*◌, ◌≤◌, ◌<◌, List, [], ◌∷◌, length, map, take, drop, replicate, Option, Some, None, arith, refl, true, false, Bool, subst, ap, sym, zero, suc, length-append, length-take, length-set, nat_le, nat_lt}
use Rattle.std.specs.Prelude.{◌==◌, ◌&&◌, if◌then◌else◌, is_some}
use Rattle.std.specs.List.{list_all, concat}
use Rattle.std.proofs.lemmas.Bool.{and_parts, and_from, lt-ltb, ltb-true, both_ways, false≢true}
use Rattle.std.proofs.lemmas.List.{length-replicate, length-drop}
use Rattle.proto_data.specs.declared.message.Msg.{Msg}
use Rattle.proto_data.specs.declared.message.Body.{Body}
use Rattle.proto_data.specs.declared.message.Entry.{Entry}
use Rattle.proto_data.specs.declared.message.Echoed.{Echoed}
use Rattle.proto_data.specs.declared.message.Input.{Input}
use Rattle.proto_data.specs.declared.message.Record.{Record}
use Rattle.proto_data.specs.declared.message.Carried.{Carried}
use Rattle.proto_data.specs.declared.message.Config.{Config}
use Rattle.proto_data.specs.MessageFits.{is_store, is_switch, nodes_fit}
use Rattle.rp_base.specs.declared.node.Node.{Node}
use Rattle.proto_model.specs.Feeds.{Each}
use Rattle.key_table.specs.Table.{Key, get, put}
use Rattle.proto_model.specs.Records.{Records, applied, cells_of, put_applied, snap_applied}
use Rattle.proto_model.specs.ReplicaState.{Replica, StoreStep, Gathered, record_at, is_member, is_tail, to_node, to_replica, successor_of, predecessor_of, last_of, no_parts, gathering_of, with_part, part_cells, whole_cells}
use Rattle.proto_model.specs.ReplicaRows.{StoreRow, Appends, Resends, store_row, store_perform, store_step, appended_as, configured_as, owner_answer, forwards, with_entry, entry_key, switch_of, carried_mark}
use Rattle.proto_safety.specs.Sizes.{LoadSized, MarkSized, EntrySized, EchoedSized, BodySized, MsgSized, ConfigSized, RecordSized, GatheredSized, ReplicaSized}
use Rattle.proto_safety.proofs.Size.SizesUp.{replica_up}
use Rattle.proto_safety.proofs.Size.SizesOf.{each_put, each_get, last_is, successor_is, predecessor_is}
use Rattle.rp_app.proofs.Deltas.{length-written}
use Rattle.proto_safety.proofs.Nodes.StoreTable.{Taken, Asked, WasPut, IsGathered, itself, echo, itself_put, itself_snap, echo_put, lost, first_grant, own_grant, other_grant, busied, echoed_ask, denied, denied_snap, next_put, echoed_put, echoed_snap, gathered, next_snap, granted_again, acked_again, had, forwarded, committed, adopted, message_taken}
use Rattle.proto_safety.proofs.Basics.Eachs.{each_append, each_drop, each_if, each_set, each_take}

drop_none : (k : ℕ) (xs : List Entry) → xs ≡ [] → drop k xs ≡ []
drop_none zero [] h = refl
drop_none (suc k) [] h = refl
drop_none k (x ∷ xs) h = cc

-- ---- records

cells_fit : (cells m : ℕ) (records : Records) (key : Key) (o : Option Record) → cells ≤ 256 → get records key ≡ o → Each (λ (e : Key × Record). RecordSized m e.0 e.1) records → length (cells_of cells o) ≤ 256
cells_fit cells m records key None few at h = omega (arith, length-replicate {A = ℕ} cells 0)
cells_fit cells m records key (Some r) few at h = (each_get (λ k v. RecordSized m k v) records key r at h).cells

applied_sized : (cells m d : ℕ) (records : Records) (e : Entry) (now : ℕ) → cells ≤ 256 → EntrySized m d e → Each (λ (x : Key × Record). RecordSized m x.0 x.1) records → Each (λ (x : Key × Record). RecordSized m x.0 x.1) (applied cells records e now)
applied_sized cells m d records (Entry.Grant key epoch switch inc nonce) now few e h =
    each_put (λ k v. RecordSized m k v) records key _
    (record { key_fits = e.0; epoch = e.1; switch = e.2; inc = e.3; nonce = e.4; last = omega arith; cells = cells_fit cells m records key (get records key) few refl h }) h
applied_sized cells m d records (Entry.Put key epoch number delta) now few e h = put_case (get records key) refl
  where
    put_case : (o : Option Record) → get records key ≡ o → Each (λ (x : Key × Record). RecordSized m x.0 x.1) (put_applied records key number delta now o)
    put_case None at = h
    put_case (Some r) at =
        let k = each_get (λ x v. RecordSized m x v) records key r at h in
        each_put (λ x v. RecordSized m x v) records key _
        (record { key_fits = k.key_fits; epoch = k.epoch; switch = k.switch; inc = k.inc; nonce = k.nonce; last = e.2; cells = omega (arith, k.cells, length-written r.cells delta) }) h
applied_sized cells m d records (Entry.Snap key epoch round values) now few e h = snap_case (get records key) refl
  where
    snap_case : (o : Option Record) → get records key ≡ o → Each (λ (x : Key × Record). RecordSized m x.0 x.1) (snap_applied records key round values now o)
    snap_case None at = h
    snap_case (Some r) at =
        let k = each_get (λ x v. RecordSized m x v) records key r at h in
        each_put (λ x v. RecordSized m x v) records key _
        (record { key_fits = k.key_fits; epoch = k.epoch; switch = k.switch; inc = k.inc; nonce = k.nonce; last = e.2; cells = e.3 }) h

-- ---- gathering

replicated : (n : ℕ) → Each (λ (p : Option (List ℕ)). length (part_cells p) ≤ 32) (replicate n None)
replicated zero = tt
replicated (suc n) = (omega arith, replicated n)

begun_sized : (epoch round chunks : ℕ) → chunks ≤ 8 → GatheredSized (no_parts epoch round chunks)
begun_sized epoch round chunks few = (omega (arith, length-replicate {A = Option (List ℕ)} chunks None), replicated chunks)

gathering_sized : (epoch round chunks : ℕ) (o : Option Gathered) → chunks ≤ 8 → ((g : Gathered) → o ≡ Some g → GatheredSized g) → GatheredSized (gathering_of epoch round chunks o)
gathering_sized epoch round chunks None few h = begun_sized epoch round chunks few
gathering_sized epoch round chunks (Some g) few h = same_case ((g.epoch == epoch) && (g.round == round))
  where
    same_case : (b : Bool) → GatheredSized (if b then g else no_parts epoch round chunks)
    same_case true = h g refl
    same_case false = begun_sized epoch round chunks few

part_sized : (g : Gathered) (chunk : ℕ) (cells : List ℕ) → length cells ≤ 32 → GatheredSized g → GatheredSized (with_part g chunk cells)
part_sized g chunk cells few h = (omega (arith, h.0, length-set g.parts chunk (Some cells)), each_set _ g.parts chunk (Some cells) h.1 few)

taken_sized : (s : Replica) (epoch round chunk chunks : ℕ) (key : Key) (cells : List ℕ) (g : Gathered) → IsGathered s epoch round key chunk chunks cells g → chunks ≤ 8 → length cells ≤ 32 →
    Each (λ (e : Key × Gathered). GatheredSized e.1) s.gathered → GatheredSized g
taken_sized s epoch round chunk chunks key cells g f few short h =
    subst (λ (x : Gathered). GatheredSized x) (sym f.is)
    (part_sized (gathering_of epoch round chunks (get s.gathered key)) chunk cells short
    (gathering_sized epoch round chunks (get s.gathered key) few (λ x at. each_get (λ k v. GatheredSized v) s.gathered key x at h)))

parts_few : (parts : List (Option (List ℕ))) → Each (λ (p : Option (List ℕ)). length (part_cells p) ≤ 32) parts → length (concat (map part_cells parts)) ≤ 32 * length parts
parts_few [] h = omega arith
parts_few (p ∷ ps) h = omega (arith, h.0, parts_few ps h.1, length-append (part_cells p) (concat (map part_cells ps)))

whole_few : (g : Gathered) (whole : List ℕ) → whole_cells g ≡ Some whole → GatheredSized g → length whole ≤ 256
whole_few g whole is h = whole_case (list_all (λ (p : Option (List ℕ)). is_some p) g.parts) is
  where
    whole_case : (b : Bool) → (if b then Some (concat (map part_cells g.parts)) else None) ≡ Some whole → length whole ≤ 256
    whole_case true at = let same : concat (map part_cells g.parts) ≡ whole = cc at in omega (arith, ap length same, h.0, parts_few g.parts h.1)
    whole_case false at = cc

-- ---- what comes

switch_below : (from : Node) → is_switch from ≡ true → switch_of from < 8
switch_below (Node.Switch n) h = ltb-true n 8 h
switch_below (Node.Replica n) h = absurd (false≢true h)
switch_below Node.Master h = absurd (false≢true h)

asked_sized : (m d : ℕ) (from to : Node) (body : Body) (switch inc nonce : ℕ) (key : Key) (load : Option Carried) → Asked from body switch inc nonce key load → nodes_fit from to body ≡ true → BodySized m d body →
    EchoedSized m (Echoed.Ask switch inc nonce key) × LoadSized m load
asked_sized m d from to body switch inc nonce key load itself f h = ((switch_below from (and_parts _ _ f).0, h.0, h.1, h.2), h.3)
asked_sized m d from to body switch inc nonce key load echo f h = (h.0, h.1)

was_put_sized : (m d : ℕ) (from to : Node) (body : Body) (switch epoch number : ℕ) (key : Key) (load : Option Carried) → WasPut from body switch epoch number key load → nodes_fit from to body ≡ true → BodySized m d body →
    EchoedSized m (Echoed.Put switch epoch number key) × LoadSized m load
was_put_sized m d from to body switch epoch number key load itself_put f h = ((switch_below from (and_parts _ _ f).0, h.1, h.2, h.3), h.5)
was_put_sized m d from to body switch epoch number key load itself_snap f h = ((switch_below from (and_parts _ _ f).0, h.1, h.2, h.3), tt)
was_put_sized m d from to body switch epoch number key load echo_put f h = (h.0, h.1)

carried_mark_sized : (m : ℕ) (load : Option Carried) → LoadSized m load → MarkSized m (carried_mark load)
carried_mark_sized m None h = tt
carried_mark_sized m (Some c) h = h.0

module _ (cells : ℕ) (few : cells ≤ 256) (n d now : ℕ) where
  abbrev Fits : Msg → Type 0
  Fits x = MsgSized (n + 1) d x

  abbrev Kept : Replica → Type 0
  Kept r = ReplicaSized (n + 1) d cells r

  abbrev Result : StoreStep → Type 0
  Result step = Kept step.0 × Each Fits step.1.sent

  kept : (s : Replica) → ReplicaSized n d cells s → Kept s
  kept s h = replica_up n (n + 1) (omega arith) d cells s h

  record_was : (s : Replica) (key : Key) (r : Record) → record_at s key ≡ Some r → ReplicaSized n d cells s → RecordSized n key r
  record_was s key r at h = each_get (λ k v. RecordSized n k v) s.records key r at h.records

  -- ---- where messages go

  from_me : (me : ℕ) (b : Bool) → me < 5 → b ≡ true → (is_store (Node.Replica me) && b) ≡ true
  from_me me b below is = and_from _ _ (lt-ltb me 5 below) is

  to_one : (s : Replica) (o : Option ℕ) (body : Body) → ((b : ℕ) → o ≡ Some b → Fits (to_node s (Node.Replica b) body)) → Each Fits (to_replica s o body)
  to_one s None body h = tt
  to_one s (Some b) body h = (h b refl, tt)

  have_sized : (s : Replica) (index : ℕ) → s.me < 5 → Each (λ r. r < 5) s.config.chain → index ≤ n + 1 → Each Fits (to_replica s (predecessor_of s.config.chain s.me) (Body.Have index))
  have_sized s index me chain small = to_one s (predecessor_of s.config.chain s.me) (Body.Have index) (λ b at. (from_me s.me _ me (lt-ltb b 5 (predecessor_is (λ r. r < 5) s.config.chain s.me b at chain)), small))

  forward_sized : (s : Replica) (index : ℕ) (e : Entry) (load : Option Carried) → s.me < 5 → ConfigSized (n + 1) s.config → index ≤ n + 1 → EntrySized (n + 1) d e → LoadSized (n + 1) load →
      Each Fits (to_replica s (successor_of s.config.chain s.me) (Body.Forward s.config.number index e load))
  forward_sized s index e load me config small es l =
      to_one s (successor_of s.config.chain s.me) (Body.Forward s.config.number index e load)
      (λ b at. (from_me s.me _ me (lt-ltb b 5 (successor_is (λ r. r < 5) s.config.chain s.me b at config.replicas)), (config.number, small, es, l)))

  echo_sized : (s : Replica) (of : Echoed) (load : Option Carried) → ReplicaSized n d cells s → EchoedSized (n + 1) of → LoadSized (n + 1) load → Each Fits (to_replica s (last_of s.config.chain) (Body.Echo of load))
  echo_sized s of load h o l = to_one s (last_of s.config.chain) (Body.Echo of load) (λ b at. (from_me s.me _ h.me (lt-ltb b 5 (last_is (λ r. r < 5) s.config.chain b at h.config.replicas)), (o, l)))

  -- ---- an entry is appended

  answer_sized : (s : Replica) (e : Entry) (load : Option Carried) (o : Option Record) → s.me < 5 → EntrySized (n + 1) d e → LoadSized (n + 1) load → ((r : Record) → o ≡ Some r → RecordSized (n + 1) (entry_key e) r) →
      Each Fits (owner_answer s e load o)
  answer_sized s e load None me h l k = tt
  answer_sized s (Entry.Grant key epoch switch inc nonce) load (Some r) me h l k = ((from_me s.me _ me (lt-ltb switch 8 h.2), (h.3, h.4, h.1, h.0, (k r refl).cells, l)), tt)
  answer_sized s (Entry.Put key epoch number delta) load (Some r) me h l k = let x = k r refl in ((from_me s.me _ me (lt-ltb r.switch 8 x.switch), (x.inc, h.1, h.2, h.0, l)), tt)
  answer_sized s (Entry.Snap key epoch round values) load (Some r) me h l k = let x = k r refl in ((from_me s.me _ me (lt-ltb r.switch 8 x.switch), (x.inc, h.1, h.2, h.0, l)), tt)

  appended_sized : (member tail full : Bool) (s : Replica) (e : Entry) (load : Option Carried) → is_tail s ≡ tail → ReplicaSized n d cells s → EntrySized (n + 1) d e → LoadSized (n + 1) load → Result (appended_as member tail full s now e load)
  appended_sized false tail full s e load at h es l = (kept s h, tt)
  appended_sized true true full s e load at h es l =
      let g = kept s h in
      let none : s.pending ≡ [] = h.none_at_tail at in
      let records : Each (λ (x : Key × Record). RecordSized (n + 1) x.0 x.1) (applied s.cell_count s.records e now) = applied_sized s.cell_count (n + 1) d s.records e now (omega (arith, h.cells_are)) es g.records in (
        record {
          me = h.me;
          cells_are = h.cells_are;
          config = g.config;
          applied = omega (arith, h.applied);
          pending_behind = omega (arith, ap length none);
          none_at_tail = λ _. none;
          pending = g.pending;
          records = records;
          gathered = h.gathered;
        },
        each_append Fits (owner_answer (with_entry s e now) e load (record_at (with_entry s e now) (entry_key e))) _
            (answer_sized (with_entry s e now) e load (record_at (with_entry s e now) (entry_key e)) h.me es l (λ r found. each_get (λ k v. RecordSized (n + 1) k v) (applied s.cell_count s.records e now) (entry_key e) r found records))
            (have_sized (with_entry s e now) (s.applied + 1) h.me h.config.replicas (omega (arith, h.applied))),
      )
  appended_sized true false true s e load at h es l = (kept s h, tt)
  appended_sized true false false s e load at h es l =
      let g = kept s h in (
        record {
          me = h.me;
          cells_are = h.cells_are;
          config = g.config;
          applied = omega (arith, h.applied);
          pending_behind = omega (arith, h.pending_behind, length-append s.pending (e ∷ []));
          none_at_tail = λ tail. absurd (both_ways (is_tail s) at tail);
          pending = each_append (λ x. EntrySized (n + 1) d x) s.pending (e ∷ []) g.pending (es, tt);
          records = applied_sized s.cell_count (n + 1) d s.records e now (omega (arith, h.cells_are)) es g.records;
          gathered = h.gathered;
        },
        forward_sized (with_entry s e now) (s.applied + 1) e load h.me g.config (omega (arith, h.applied)) es l,
      )

  appends : (s : Replica) (e : Entry) (load : Option Carried) → ReplicaSized n d cells s → EntrySized (n + 1) d e → LoadSized (n + 1) load → Result (store_perform s now (Appends e load))
  appends s e load h es l = appended_sized (is_member s) (is_tail s) (nat_le 256 (length s.pending)) s e load refl h es l

  gathers : (s : Replica) (key : Key) (g : Gathered) → ReplicaSized n d cells s → GatheredSized g → ReplicaSized n d cells (record s { gathered = put s.gathered key g })
  gathers s key g h k =
      record {
        me = h.me;
        cells_are = h.cells_are;
        config = h.config;
        applied = h.applied;
        pending_behind = h.pending_behind;
        none_at_tail = h.none_at_tail;
        pending = h.pending;
        records = h.records;
        gathered = each_put (λ x v. GatheredSized v) s.gathered key g k h.gathered;
      }

  -- ---- a newer configuration

  configured_sized : (tail : Bool) (s : Replica) (config : Config) → is_tail (record s { config = config }) ≡ tail → ReplicaSized n d cells s → ConfigSized (n + 1) config → Result (configured_as tail (record s { config = config }))
  configured_sized true s config at h c =
      let g = kept s h in (
        record {
          me = h.me;
          cells_are = h.cells_are;
          config = c;
          applied = g.applied;
          pending_behind = omega arith;
          none_at_tail = λ _. refl;
          pending = tt;
          records = g.records;
          gathered = h.gathered;
        },
        each_if Fits (nat_lt 0 s.applied) _ [] (have_sized (record s { config = config; known = s.applied; pending = [] }) s.applied h.me c.replicas g.applied) tt,
      )
  configured_sized false s config at h c =
      let g = kept s h in (
        record {
          me = h.me;
          cells_are = h.cells_are;
          config = c;
          applied = g.applied;
          pending_behind = h.pending_behind;
          none_at_tail = λ tail. absurd (both_ways (is_tail (record s { config = config })) at tail);
          pending = g.pending;
          records = g.records;
          gathered = h.gathered;
        },
        tt,
      )

  -- ---- an Alarm

  forwards_sized : (s : Replica) (index : ℕ) (es : List Entry) → s.me < 5 → ConfigSized (n + 1) s.config → index + length es ≤ n + 2 → Each (EntrySized (n + 1) d) es → Each Fits (forwards s index es)
  forwards_sized s index [] me c small h = tt
  forwards_sized s index (e ∷ es) me c small h =
      each_append Fits _ (forwards s (index + 1) es) (forward_sized s index e None me c (omega (arith, small)) h.0 tt) (forwards_sized s (index + 1) es me c (omega (arith, small)) h.1)

  resends : (s : Replica) → ReplicaSized n d cells s → Result (store_perform s now Resends)
  resends s h =
      let g = kept s h in
      (g, forwards_sized s (s.known + 1) (take 64 s.pending) h.me g.config (omega (arith, h.pending_behind, h.applied, length-take 64 s.pending)) (each_take (EntrySized (n + 1) d) 64 s.pending g.pending))

  -- ---- every message

  grants : (s : Replica) (from to : Node) (inc nonce epoch : ℕ) (key : Key) (load : Option Carried) → ReplicaSized n d cells s → MsgSized (n + 1) d (record { from = from; to = to; body = Body.Ask inc nonce key load }) → epoch ≤ n →
      Result (store_perform s now (Appends (Entry.Grant key (epoch + 1) (switch_of from) inc nonce) load))
  grants s from to inc nonce epoch key load h i small = appends s _ load h (i.1.2, omega (arith, small), switch_below from (and_parts _ _ i.0).0, i.1.0, i.1.1) i.1.3

  row_sized : (s : Replica) (from to : Node) (body : Body) (row : StoreRow) → Taken s now from body row → ReplicaSized n d cells s → MsgSized (n + 1) d (record { from = from; to = to; body = body }) → Result (store_perform s now row)
  row_sized s from to body row lost h i = (kept s h, tt)
  row_sized s from to body row (first_grant head at) h i = grants s from to _ _ 0 _ _ h i (omega arith)
  row_sized s from to body row (own_grant head at own later) h i = grants s from to _ _ _ _ _ h i (record_was s _ _ at h).epoch
  row_sized s from to body row (other_grant head at other old) h i = grants s from to _ _ _ _ _ h i (record_was s _ _ at h).epoch
  row_sized s from to body row (busied {load = load}) h i = (kept s h, ((from_me s.me _ h.me (and_parts _ _ i.0).0, (i.1.0, i.1.1, i.1.2, carried_mark_sized (n + 1) load i.1.3)), tt))
  row_sized s from to body row echoed_ask h i = (kept s h, echo_sized s _ _ h (switch_below from (and_parts _ _ i.0).0, i.1.0, i.1.1, i.1.2) i.1.3)
  row_sized s from to body row denied h i = (kept s h, ((from_me s.me _ h.me (and_parts _ _ i.0).0, (i.1.0, i.1.1, i.1.3)), tt))
  row_sized s from to body row denied_snap h i = (kept s h, ((from_me s.me _ h.me (and_parts _ _ i.0).0, (i.1.0, i.1.1, i.1.3)), tt))
  row_sized s from to body row (next_put head at e number within) h i = appends s _ _ h (i.1.3, i.1.1, i.1.2, i.1.4) i.1.5
  row_sized s from to body row echoed_put h i = (kept s h, echo_sized s _ _ h (switch_below from (and_parts _ _ i.0).0, i.1.1, i.1.2, i.1.3) i.1.5)
  row_sized s from to body row echoed_snap h i = (kept s h, echo_sized s _ _ h (switch_below from (and_parts _ _ i.0).0, i.1.1, i.1.2, i.1.3) tt)
  row_sized s from to body row (gathered {key = key} {g = g} f) h i =
      let k = taken_sized s _ _ _ _ key _ g f i.1.5 i.1.6 h.gathered in (kept _ (gathers s key g h k), tt)
  row_sized s from to body row (next_snap {key = key} {whole = whole} {g = g} head at e number is f) h i =
      let k = taken_sized s _ _ _ _ key _ g f i.1.5 i.1.6 h.gathered in
      appends (record s { gathered = put s.gathered key g }) _ None (gathers s key g h k) (i.1.3, i.1.1, i.1.2, whole_few g whole is k) tt
  row_sized s from to body row (granted_again {switch = switch} {inc = inc} {nonce = nonce} {key = key} {load = load} {r = r} a at tail own) h i =
      let k = record_was s key r at h in
      let o = asked_sized (n + 1) d from to body switch inc nonce key load a i.0 i.1 in
      (kept s h, ((from_me s.me _ h.me (lt-ltb switch 8 o.0.0), (o.0.1, o.0.2, omega (arith, k.epoch), o.0.3, k.cells, o.1)), tt))
  row_sized s from to body row (acked_again {switch = switch} {epoch = epoch} {key = key} {load = load} {r = r} number a at tail c) h i =
      let k = record_was s key r at h in
      let o = was_put_sized (n + 1) d from to body switch epoch number key load a i.0 i.1 in
      (kept s h, ((from_me s.me _ h.me (lt-ltb switch 8 o.0.0), (omega (arith, k.inc), o.0.1, omega (arith, k.last), o.0.3, o.1)), tt))
  row_sized s from to body row had h i = (kept s h, ((from_me s.me _ h.me (and_parts _ _ i.0).0, omega (arith, h.pending_behind, h.applied)), tt))
  row_sized s from to body row (forwarded c at f) h i = appends s _ _ h i.1.2 i.1.3
  row_sized s from to body row (committed {index = index} above within) h i =
      let g = kept s h in (
        record {
          me = h.me;
          cells_are = h.cells_are;
          config = g.config;
          applied = g.applied;
          pending_behind = omega (arith, h.pending_behind, within, above, length-drop (index - s.known) s.pending);
          none_at_tail = λ tail. drop_none (index - s.known) s.pending (h.none_at_tail tail);
          pending = each_drop (EntrySized (n + 1) d) (index - s.known) s.pending g.pending;
          records = g.records;
          gathered = h.gathered;
        },
        have_sized (record s { known = index; pending = drop (index - s.known) s.pending }) index h.me h.config.replicas i.1,
      )
  row_sized s from to body row (adopted {config = config} later) h i = configured_sized (is_tail (record s { config = config })) s config refl h i.1

  -- one step
  pub message_sized : (s : Replica) (x : Msg) → ReplicaSized n d cells s → MsgSized (n + 1) d x → Result (store_step s now (Input.Msg x))
  message_sized s x h i = row_sized s x.from x.to x.body (store_row s now (Input.Msg x)) (message_taken s now x.from x.body) h i

  pub alarm_sized : (s : Replica) → ReplicaSized n d cells s → Result (store_step s now Input.Alarm)
  alarm_sized s h = resends s h
