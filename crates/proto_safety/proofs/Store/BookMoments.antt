-- Moments rise along each book up to its replica's clock, and a record's moment is that of its flow's last entry.
use Rattle.std.proofs.Common.{◌≡◌, ◌⊎◌, inl, inr, ℕ, ◌+◌, ◌≤◌, List, [], ◌∷◌, ◌++◌, drop, length, Option, Some, None, refl, sym, ap, ◌∙◌, subst, arith, append-nil, append_assoc, true, false, Bool}
use Rattle.std.specs.Prelude.{fold}
use Rattle.std.proofs.lemmas.Bool.{false≢true}
use Rattle.proto_data.specs.declared.message.Entry.{Entry}
use Rattle.proto_data.specs.declared.message.Record.{Record}
use Rattle.rp_base.specs.declared.event.Event.{Event}
use Rattle.rp_app.specs.Application.{Application}
use Rattle.key_table.specs.Table.{Key, same_key, get, put}
use Rattle.proto_model.specs.Records.{Booked, Records, applied, put_applied, snap_applied, records_of}
use Rattle.proto_model.specs.ReplicaRows.{entry_key, store_step}
use Rattle.proto_model.specs.Feeds.{Each, Pairwise}
use Rattle.proto_model.specs.World.{World, Setup, ReplicaNode, opened, below, open_replica_node}
use Rattle.proto_model.specs.WorldStep.{world_after, advanced_replicas}
use Rattle.proto_safety.specs.Books.{In}
use Rattle.proto_model.proofs.StoreStands.{book_after}
use Rattle.key_table.proofs.Tables.{get-put_same, get-put_other, same_key-true, same_key-refl, same_some}
use Rattle.proto_safety.proofs.Inductions.Induction.{Keeps, run_kept}
use Rattle.proto_safety.proofs.Basics.Eachs.{each_append, each_at, each_changed, each_in, each_map, each_set, each_weaker}
use Rattle.proto_safety.proofs.Basics.Members.{in_append}
use Rattle.proto_safety.proofs.Basics.Pairs.{pairwise_push}

-- applied by this moment
abbrev pub Until : ℕ → List Booked → Type 0
Until now book = Each (λ (b : Booked). b.moment ≤ now) book

abbrev NotLater : Booked → Booked → Type 0
NotLater a b = a.moment ≤ b.moment

abbrev pub Rise : List Booked → Type 0
Rise book = Pairwise NotLater book

-- a record's moment is no earlier than that of any entry of its flow
abbrev pub IsLast : Records → List Booked → Type 0
IsLast records seen = (key : Key) (r : Record) (b : Booked) → get records key ≡ Some r → In seen b → entry_key b.entry ≡ key → b.moment ≤ r.moment

-- ---- one more entry

module _ (records : Records) (seen : List Booked) (b : Booked) (until : Until b.moment seen) (h : IsLast records seen) where
  -- the entry's flow has its moment
  put_last : (v : Record) → v.moment ≡ b.moment → IsLast (put records (entry_key b.entry) v) (seen ++ b ∷ [])
  put_last v is key r x at i of = key_case (same_key (entry_key b.entry) key) refl
    where
      moment_of : In seen x ⊎ In (b ∷ []) x → x.moment ≤ b.moment
      moment_of (inl there) = each_in (λ (c : Booked). c.moment ≤ b.moment) seen x until there
      moment_of (inr (inl same)) = let e : b.moment ≡ x.moment = ap (λ (c : Booked). c.moment) same in omega (arith, e)
      moment_of (inr (inr j)) = absurd j

      other : same_key (entry_key b.entry) key ≡ false → In seen x ⊎ In (b ∷ []) x → x.moment ≤ r.moment
      other ne (inl there) = h key r x (sym (get-put_other records key (entry_key b.entry) v ne) ∙ at) there of
      other ne (inr (inl same)) =
          let e : entry_key b.entry ≡ key = ap (λ (c : Booked). entry_key c.entry) same ∙ of in
          absurd (false≢true (sym ne ∙ rw e (same_key-refl key)))
      other ne (inr (inr j)) = absurd j

      key_case : (t : Bool) → same_key (entry_key b.entry) key ≡ t → x.moment ≤ r.moment
      key_case true t =
          let e : entry_key b.entry ≡ key = same_key-true (entry_key b.entry) key t in
          let same : v ≡ r = same_some (get (put records (entry_key b.entry) v) key) v r (rw (← e) (get-put_same records (entry_key b.entry) v)) at in
          let m : v.moment ≡ r.moment = ap (λ (z : Record). z.moment) same in
          omega (arith, is, m, moment_of (in_append seen (b ∷ []) x i))
      key_case false ne = other ne (in_append seen (b ∷ []) x i)

  -- a flow without a record keeps none
  none_last : get records (entry_key b.entry) ≡ None → IsLast records (seen ++ b ∷ [])
  none_last none key r x at i of = seen_case (in_append seen (b ∷ []) x i)
    where
      seen_case : In seen x ⊎ In (b ∷ []) x → x.moment ≤ r.moment
      seen_case (inl there) = h key r x at there of
      seen_case (inr (inl same)) =
          let e : entry_key b.entry ≡ key = ap (λ (c : Booked). entry_key c.entry) same ∙ of in
          let gone : get records key ≡ None = subst (λ k. get records k ≡ None) e none in absurd cc
      seen_case (inr (inr j)) = absurd j

applied_last : (n : ℕ) (records : Records) (seen : List Booked) (e : Entry) (moment event : ℕ) → Until moment seen → IsLast records seen →
    IsLast (applied n records e moment) (seen ++ record { entry = e; moment = moment; event = event } ∷ [])
applied_last n records seen (Entry.Grant key epoch switch inc nonce) moment event until h =
    put_last records seen (record { entry = Entry.Grant key epoch switch inc nonce; moment = moment; event = event }) until h _ refl
applied_last n records seen (Entry.Put key epoch number delta) moment event until h = put_case (get records key) refl
  where
    put_case : (o : Option Record) → get records key ≡ o → IsLast (put_applied records key number delta moment o) (seen ++ record { entry = Entry.Put key epoch number delta; moment = moment; event = event } ∷ [])
    put_case None at = none_last records seen (record { entry = Entry.Put key epoch number delta; moment = moment; event = event }) until h at
    put_case (Some r) at = put_last records seen (record { entry = Entry.Put key epoch number delta; moment = moment; event = event }) until h _ refl
applied_last n records seen (Entry.Snap key epoch round cells) moment event until h = snap_case (get records key) refl
  where
    snap_case : (o : Option Record) → get records key ≡ o → IsLast (snap_applied records key round cells moment o) (seen ++ record { entry = Entry.Snap key epoch round cells; moment = moment; event = event } ∷ [])
    snap_case None at = none_last records seen (record { entry = Entry.Snap key epoch round cells; moment = moment; event = event }) until h at
    snap_case (Some r) at = put_last records seen (record { entry = Entry.Snap key epoch round cells; moment = moment; event = event }) until h _ refl

-- ---- a whole book

records_last : (n : ℕ) (records : Records) (seen book : List Booked) → Each (λ (b : Booked). Until b.moment seen) book → Rise book → IsLast records seen →
    IsLast (fold (λ records b. applied n records b.entry b.moment) records book) (seen ++ book)
records_last n records seen [] until rise h = subst (IsLast records) (sym (append-nil seen)) h
records_last n records seen (b ∷ bs) until rise h =
    subst (λ l. IsLast (fold (λ records b. applied n records b.entry b.moment) (applied n records b.entry b.moment) bs) l) (append_assoc seen (b ∷ []) bs)
    (records_last n (applied n records b.entry b.moment) (seen ++ b ∷ []) bs (later bs until.1 rise.0) rise.1 (applied_last n records seen b.entry b.moment b.event until.0 h))
  where
    later : (cs : List Booked) → Each (λ (c : Booked). Until c.moment seen) cs → Each (NotLater b) cs → Each (λ (c : Booked). Until c.moment (seen ++ b ∷ [])) cs
    later [] u r = tt
    later (c ∷ cs) u r = (each_append (λ (x : Booked). x.moment ≤ c.moment) seen (b ∷ []) u.0 (r.0, tt), later cs u.1 r.1)

nothing_seen : (book : List Booked) → Each (λ (b : Booked). Until b.moment []) book
nothing_seen [] = tt
nothing_seen (b ∷ bs) = (tt, nothing_seen bs)

pub last_in_book : (n : ℕ) (book : List Booked) → Rise book → IsLast (records_of n book) book
last_in_book n book rise = records_last n [] [] book (nothing_seen book) rise (λ key r b at i of. absurd i)

-- ---- the world

pub record NodeMoments (node : ReplicaNode) : Type 0 where
  pub until : Until node.clock node.book
  pub rise : Rise node.book

abbrev pub AllMoments : World → Type 0
AllMoments w = Each NodeMoments w.replicas

grown : (now event : ℕ) (book : List Booked) (o : Option Entry) → Until now book → Rise book → Until now (book_after now event book o) × Rise (book_after now event book o)
grown now event book None u r = (subst (Until now) (sym (append-nil book)) u, subst Rise (sym (append-nil book)) r)
grown now event book (Some e) u r = (
  each_append (λ (b : Booked). b.moment ≤ now) book (record { entry = e; moment = now; event = event } ∷ []) u (omega arith, tt),
  pairwise_push NotLater book (record { entry = e; moment = now; event = event }) r u,
)

advanced_moments : (nodes : List ReplicaNode) (by : List ℕ) → Each NodeMoments nodes → Each NodeMoments (advanced_replicas nodes by)
advanced_moments [] by h = tt
advanced_moments (n ∷ ns) [] h = h
advanced_moments (n ∷ ns) (d ∷ ds) h = (
  record { until = each_weaker (λ (b : Booked). b.moment ≤ n.clock) (λ (b : Booked). b.moment ≤ n.clock + d) n.book (λ b le. omega arith) h.0.until; rise = h.0.rise },
  advanced_moments ns ds h.1,
)

pub moments_kept : (app : Application) → Keeps app AllMoments
moments_kept app =
    record {
      counts = λ w h. h;
      passes = λ w i h. h;
      feeds = λ w n node p at up mark h. h;
      switches = λ w n node input at up from h. h;
      replicas = λ w n node input at up from h.
          let m = each_at NodeMoments w.replicas n node h at in
          let g = grown node.clock w.event node.book (store_step node.state node.clock input).1.applied m.until m.rise in
          each_set NodeMoments w.replicas n _ h (record { until = g.0; rise = g.1 });
      advances = λ w by rates h. advanced_moments w.replicas (drop (length w.switches) by) h;
      stops_switch = λ w n fits h. h;
      stops_replica = λ w n fits h. each_changed NodeMoments w.replicas n (λ (r : ReplicaNode). record r { runs = false }) (λ x k. record { until = k.until; rise = k.rise }) h;
      boots = λ w n down h. h;
      detects_switch = λ w n fits h. h;
      detects_replica = λ w n fits h. h;
      announces = λ w h. h;
    }

pub opened_moments : (cells : ℕ) (setup : Setup) → AllMoments (opened cells setup)
opened_moments cells setup = each_map NodeMoments (open_replica_node cells setup) (below setup.replicas) (λ n. record { until = tt; rise = tt })

pub moments_hold : (app : Application) (setup : Setup) (es : List Event) → AllMoments (world_after app (opened app.cell_count setup) es)
moments_hold app setup es = run_kept app AllMoments (moments_kept app) es (opened app.cell_count setup) (opened_moments app.cell_count setup)
