-- After every list of events each chunk that a replica gathered was sent, for this flow, in this epoch and round.
use Rattle.std.proofs.Common.{◌≡◌, ◌≢◌, ◌⊎◌, ℕ, List, [], ◌∷◌, ◌++◌, drop, length, map, Option, Some, None, arith, refl, sym, ◌∙◌, subst, true, false, Bool, inl, inr, zero, suc, slice_get, length-set, eqb-true}
use Rattle.std.proofs.lemmas.List.{length-replicate, length-map}
use Rattle.std.specs.Prelude.{◌==◌, ◌&&◌, if◌then◌else◌, replicate, is_some}
use Rattle.std.specs.List.{list_all, concat}
use Rattle.std.proofs.lemmas.Bool.{and_parts, false≢true}
use Rattle.rp_base.specs.declared.node.Node.{Node}
use Rattle.proto_data.specs.declared.message.Msg.{Msg}
use Rattle.proto_data.specs.declared.message.Body.{Body}
use Rattle.proto_data.specs.declared.message.Entry.{Entry}
use Rattle.proto_data.specs.declared.message.Input.{Input}
use Rattle.proto_data.specs.declared.message.Carried.{Carried}
use Rattle.rp_app.specs.Application.{Application}
use Rattle.key_table.specs.Table.{Key, Table, same_key, get, put}
use Rattle.proto_model.specs.Slot.{chunk_count}
use Rattle.proto_model.specs.Feeds.{Each}
use Rattle.proto_model.specs.ReplicaState.{Replica, Gathered, no_parts, gathering_of, with_part, part_cells, whole_cells, is_tail, is_member}
use Rattle.proto_model.specs.ReplicaRows.{StoreRow, Appends, Gathers, AppendsSnap, Adopts, appended_as, configured_as, store_perform, store_step, store_row}
use Rattle.proto_model.specs.World.{World, Setup, ReplicaNode, opened, below, open_replica_node}
use Rattle.proto_model.specs.WorldStep.{advanced_replicas, announcements}
use Rattle.proto_safety.specs.Books.{In}
use Rattle.proto_safety.specs.Origins.{ChunkSent, SnapSent}
use Rattle.key_table.proofs.Tables.{same_key-true, get-put_same, get-put_other, same_some}
use Rattle.proto_safety.proofs.Store.StoreBooks.{row_cells}
use Rattle.proto_model.specs.SwitchRows.{switch_step}
use Rattle.proto_safety.proofs.Nodes.StoreTable.{Taken, IsGathered, gathered, next_snap, message_taken}
use Rattle.proto_safety.proofs.Inductions.Induction.{Keeps, Comes}
use Rattle.proto_safety.proofs.Basics.Eachs.{each_at, each_changed, each_map, each_set, each_weaker}
use Rattle.proto_safety.proofs.Basics.Lists.{at_set}
use Rattle.proto_safety.proofs.Basics.Members.{in_frames, in_front}

-- each part that is there is a chunk that was sent
pub record GatheredFrom (frames : List Msg) (cells : ℕ) (key : Key) (g : Gathered) : Type 0 where
  pub size : length g.parts ≡ chunk_count cells
  pub sent : (i : ℕ) (part : List ℕ) → slice_get g.parts i ≡ Some (Some part) → ChunkSent frames key g.epoch g.round i (chunk_count cells) part

abbrev pub GathersFrom : List Msg → ReplicaNode → Type 0
GathersFrom frames node = (key : Key) (g : Gathered) → get node.state.gathered key ≡ Some g → GatheredFrom frames node.state.cell_count key g

abbrev pub AllGathers : World → Type 0
AllGathers w = Each (GathersFrom w.frames) w.replicas

-- ---- one chunk

nothing_there : (n i : ℕ) (part : List ℕ) → slice_get (replicate n None) i ≡ Some (Some part) → ⊥
nothing_there zero i part at = cc
nothing_there (suc n) zero part at = cc
nothing_there (suc n) (suc i) part at = nothing_there n i part at

-- a gathering of this epoch and round
pub record Of (frames : List Msg) (cells : ℕ) (key : Key) (epoch round : ℕ) (g : Gathered) : Type 0 where
  pub epoch_is : g.epoch ≡ epoch
  pub round_is : g.round ≡ round
  pub from : GatheredFrom frames cells key g

begun : (frames : List Msg) (cells : ℕ) (key : Key) (epoch round chunks : ℕ) → chunks ≡ chunk_count cells → Of frames cells key epoch round (no_parts epoch round chunks)
begun frames cells key epoch round chunks size =
    record {
      epoch_is = refl;
      round_is = refl;
      from = record { size = length-replicate chunks None ∙ size; sent = λ i part at. absurd (nothing_there chunks i part at) };
    }

gone_on : (frames : List Msg) (cells : ℕ) (key : Key) (epoch round chunks : ℕ) (o : Option Gathered) → chunks ≡ chunk_count cells → ((g : Gathered) → o ≡ Some g → GatheredFrom frames cells key g) → Of frames cells key epoch round (gathering_of epoch round chunks o)
gone_on frames cells key epoch round chunks None size h = begun frames cells key epoch round chunks size
gone_on frames cells key epoch round chunks (Some g) size h = same_case ((g.epoch == epoch) && (g.round == round)) refl
  where
    same_case : (b : Bool) → ((g.epoch == epoch) && (g.round == round)) ≡ b → Of frames cells key epoch round (if b then g else no_parts epoch round chunks)
    same_case true is = let p = and_parts _ _ is in record { epoch_is = eqb-true g.epoch epoch p.0; round_is = eqb-true g.round round p.1; from = h g refl }
    same_case false is = begun frames cells key epoch round chunks size

with_chunk : (frames : List Msg) (cells : ℕ) (key : Key) (epoch round chunk : ℕ) (part : List ℕ) (g : Gathered) → Of frames cells key epoch round g → ChunkSent frames key epoch round chunk (chunk_count cells) part → Of frames cells key epoch round (with_part g chunk part)
with_chunk frames cells key epoch round chunk part g h c =
    record {
      epoch_is = h.epoch_is;
      round_is = h.round_is;
      from = record { size = length-set g.parts chunk (Some part) ∙ h.from.size; sent = λ i p at. sent_case i p (at_set g.parts chunk i (Some part) (Some p) at) };
    }
  where
    sent_case : (i : ℕ) (p : List ℕ) → ((i ≡ chunk) × (Some p ≡ Some part)) ⊎ ((i ≢ chunk) × (slice_get g.parts i ≡ Some (Some p))) → ChunkSent frames key g.epoch g.round i (chunk_count cells) p
    sent_case i p (inl e) = let same : p ≡ part = cc e.1 in rw (h.epoch_is, h.round_is, e.0, same) c
    sent_case i p (inr e) = h.from.sent i p e.1

-- what is gathered once a chunk came
chunk_gathered : (frames : List Msg) (s : Replica) (from to : Node) (inc epoch round chunk chunks : ℕ) (key : Key) (cells : List ℕ) (g : Gathered) → IsGathered s epoch round key chunk chunks cells g →
    In frames (record { from = from; to = to; body = Body.Snap inc epoch round key chunk chunks cells }) → ((k : Key) (x : Gathered) → get s.gathered k ≡ Some x → GatheredFrom frames s.cell_count k x) → Of frames s.cell_count key epoch round g
chunk_gathered frames s from to inc epoch round chunk chunks key cells g f i h =
    let size : chunks ≡ chunk_count s.cell_count = eqb-true chunks (chunk_count s.cell_count) (and_parts _ _ f.fits).0 in
    subst (λ (x : Gathered). Of frames s.cell_count key epoch round x) (sym f.is)
    (with_chunk frames s.cell_count key epoch round chunk cells (gathering_of epoch round chunks (get s.gathered key))
    (gone_on frames s.cell_count key epoch round chunks (get s.gathered key) size (λ x at. h key x at))
    (record { msg = record { from = from; to = to; body = Body.Snap inc epoch round key chunk chunks cells }; there = i; inc = inc; body_is = rw size refl }))

-- ---- a whole round

part_at : (parts : List (Option (List ℕ))) (i : ℕ) (part : List ℕ) → list_all (λ (p : Option (List ℕ)). is_some p) parts ≡ true → slice_get (map part_cells parts) i ≡ Some part → slice_get parts i ≡ Some (Some part)
part_at [] i part all at = cc
part_at (None ∷ ps) zero part all at = absurd (false≢true all)
part_at (Some x ∷ ps) zero part all at = let same : x ≡ part = cc in rw same refl
part_at (p ∷ ps) (suc i) part all at = part_at ps i part (and_parts _ _ all).1 at

pub whole_sent : (frames : List Msg) (cells : ℕ) (key : Key) (epoch round : ℕ) (g : Gathered) (whole : List ℕ) → Of frames cells key epoch round g → whole_cells g ≡ Some whole → SnapSent frames key epoch round whole
whole_sent frames cells key epoch round g whole h is = whole_case (list_all (λ (p : Option (List ℕ)). is_some p) g.parts) refl is
  where
    whole_case : (b : Bool) → list_all (λ (p : Option (List ℕ)). is_some p) g.parts ≡ b → (if b then Some (concat (map part_cells g.parts)) else None) ≡ Some whole → SnapSent frames key epoch round whole
    whole_case true all at =
        let size : length (map part_cells g.parts) ≡ chunk_count cells = length-map g.parts part_cells ∙ h.from.size in
        record {
          parts = map part_cells g.parts;
          some = omega (arith, size);
          cells_are = cc at;
          sent = λ i part there. rw (size, ← h.epoch_is, ← h.round_is) (h.from.sent i part (part_at g.parts i part all there));
        }
    whole_case false all at = cc

-- ---- a step

abbrev pub Gathering : List Msg → ℕ → Table Gathered → Type 0
Gathering frames cells t = (key : Key) (g : Gathered) → get t key ≡ Some g → GatheredFrom frames cells key g

put_gathered : (frames : List Msg) (cells : ℕ) (t : Table Gathered) (key : Key) (g : Gathered) → GatheredFrom frames cells key g → Gathering frames cells t → Gathering frames cells (put t key g)
put_gathered frames cells t key g new h k x at = key_case (same_key key k) refl
  where
    key_case : (b : Bool) → same_key key k ≡ b → GatheredFrom frames cells k x
    key_case true is =
        let e : key ≡ k = same_key-true key k is in
        let same : g ≡ x = same_some (get (put t key g) k) g x (subst (λ j. get (put t key g) j ≡ Some g) e (get-put_same t key g)) at in
        subst (λ (y : Gathered). GatheredFrom frames cells k y) same (subst (λ j. GatheredFrom frames cells j g) e new)
    key_case false ne = h k x (sym (get-put_other t k key g ne) ∙ at)

appended_gathered : (member tail full : Bool) (s : Replica) (now : ℕ) (e : Entry) (load : Option Carried) → (appended_as member tail full s now e load).0.gathered ≡ s.gathered
appended_gathered false tail full s now e load = refl
appended_gathered true true full s now e load = refl
appended_gathered true false true s now e load = refl
appended_gathered true false false s now e load = refl

configured_gathered : (tail : Bool) (s : Replica) → (configured_as tail s).0.gathered ≡ s.gathered
configured_gathered true s = refl
configured_gathered false s = refl

-- the gatherings after a row
abbrev gathered_after : Replica → StoreRow → Table Gathered
gathered_after s (Gathers key g) = put s.gathered key g
gathered_after s (AppendsSnap key g e) = put s.gathered key g
gathered_after s _ = s.gathered

row_gathered : (s : Replica) (now : ℕ) (row : StoreRow) → (store_perform s now row).0.gathered ≡ gathered_after s row
row_gathered s now (Appends e load) = appended_gathered (is_member s) (is_tail s) _ s now e load
row_gathered s now (AppendsSnap key g e) = appended_gathered (is_member s) (is_tail s) _ (record s { gathered = put s.gathered key g }) now e None
row_gathered s now (Adopts config) = configured_gathered (is_tail (record s { config = config })) (record s { config = config })
row_gathered s now _ = refl

taken_gathers : {s : Replica} {now : ℕ} {from : Node} {body : Body} {row : StoreRow} (frames : List Msg) (to : Node) → Taken s now from body row → In frames (record { from = from; to = to; body = body }) → Gathering frames s.cell_count s.gathered →
    Gathering frames s.cell_count (gathered_after s row)
taken_gathers {s = s} {from = from} frames to (gathered {inc = inc} {epoch = epoch} {round = round} {chunk = chunk} {chunks = chunks} {key = key} {cells = cells} {g = g} f) i h =
    put_gathered frames s.cell_count s.gathered key g (chunk_gathered frames s from to inc epoch round chunk chunks key cells g f i h).from h
taken_gathers {s = s} {from = from} frames to (next_snap {inc = inc} {epoch = epoch} {round = round} {chunk = chunk} {chunks = chunks} {key = key} {cells = cells} {g = g} head at e n w f) i h =
    put_gathered frames s.cell_count s.gathered key g (chunk_gathered frames s from to inc epoch round chunk chunks key cells g f i h).from h
taken_gathers frames to _ i h = h

-- the Snap of a round that has become whole
pub whole_origin : (frames : List Msg) (s : Replica) (from to : Node) (inc epoch round chunk chunks : ℕ) (key : Key) (cells whole : List ℕ) (g : Gathered) → IsGathered s epoch round key chunk chunks cells g → whole_cells g ≡ Some whole →
    In frames (record { from = from; to = to; body = Body.Snap inc epoch round key chunk chunks cells }) → Gathering frames s.cell_count s.gathered → SnapSent frames key epoch round whole
whole_origin frames s from to inc epoch round chunk chunks key cells whole g f w i h =
    whole_sent frames s.cell_count key epoch round g whole (chunk_gathered frames s from to inc epoch round chunk chunks key cells g f i h) w

-- ---- the world

more_gathers : (frames ms : List Msg) (node : ReplicaNode) → GathersFrom frames node → GathersFrom (frames ++ ms) node
more_gathers frames ms node h key g at =
    record {
      size = (h key g at).size;
      sent = λ i part is. let c = (h key g at).sent i part is in record { msg = c.msg; there = in_front frames ms c.msg c.there; inc = c.inc; body_is = c.body_is };
    }

frames_more : (frames ms : List Msg) (nodes : List ReplicaNode) → Each (GathersFrom frames) nodes → Each (GathersFrom (frames ++ ms)) nodes
frames_more frames ms nodes h = each_weaker (GathersFrom frames) (GathersFrom (frames ++ ms)) nodes (λ node k. more_gathers frames ms node k) h

input_gathers : (w : World) (n : ℕ) (s : Replica) (now : ℕ) (input : Input) → Comes w (Node.Replica n) input → Gathering w.frames s.cell_count s.gathered → Gathering w.frames s.cell_count (gathered_after s (store_row s now input))
input_gathers w n s now (Input.Msg m) from h = taken_gathers w.frames m.to (message_taken s now m.from m.body) (in_frames w.frames from.1.0 m from.1.1) h
input_gathers w n s now Input.Alarm from h = h
input_gathers w n s now (Input.Packet p) from h = h

step_gathers : (w : World) (n : ℕ) (s : Replica) (now : ℕ) (input : Input) → Comes w (Node.Replica n) input → Gathering w.frames s.cell_count s.gathered →
    Gathering w.frames (store_step s now input).0.cell_count (store_step s now input).0.gathered
step_gathers w n s now input from h =
    subst (λ c. Gathering w.frames c (store_step s now input).0.gathered) (sym (row_cells s now (store_row s now input)))
    (subst (λ t. Gathering w.frames s.cell_count t) (sym (row_gathered s now (store_row s now input))) (input_gathers w n s now input from h))

advanced_gathers : (frames : List Msg) (nodes : List ReplicaNode) (by : List ℕ) → Each (GathersFrom frames) nodes → Each (GathersFrom frames) (advanced_replicas nodes by)
advanced_gathers frames [] by h = tt
advanced_gathers frames (n ∷ ns) [] h = h
advanced_gathers frames (n ∷ ns) (d ∷ ds) h = (h.0, advanced_gathers frames ns ds h.1)

pub gathers_kept : (app : Application) → Keeps app AllGathers
gathers_kept app =
    record {
      counts = λ w h. h;
      passes = λ w i h. h;
      feeds = λ w n node p at up mark h. frames_more w.frames (switch_step app node.state node.clock (Input.Packet p)).1.sent w.replicas h;
      switches = λ w n node input at up from h. frames_more w.frames (switch_step app node.state node.clock input).1.sent w.replicas h;
      replicas = λ w n node input at up from h.
          frames_more w.frames (store_step node.state node.clock input).1.sent _
          (each_set (GathersFrom w.frames) w.replicas n _ h (step_gathers w n node.state node.clock input from (each_at (GathersFrom w.frames) w.replicas n node h at)));
      advances = λ w by fits h. advanced_gathers w.frames w.replicas (drop (length w.switches) by) h;
      stops_switch = λ w n fits h. h;
      stops_replica = λ w n fits h. each_changed (GathersFrom w.frames) w.replicas n (λ (r : ReplicaNode). record r { runs = false }) (λ x k. k) h;
      boots = λ w n down h. h;
      detects_switch = λ w n fits h. h;
      detects_replica = λ w n fits h. h;
      announces = λ w h. frames_more w.frames (announcements w) w.replicas h;
    }

pub opened_gathers : (cells : ℕ) (setup : Setup) → AllGathers (opened cells setup)
opened_gathers cells setup = each_map (GathersFrom []) (open_replica_node cells setup) (below setup.replicas) (λ n key g at. cc)
