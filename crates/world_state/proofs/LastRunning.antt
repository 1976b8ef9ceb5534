-- What the last running replica keeps is what is committed.
use Rattle.std.proofs.Common.{◌≡◌, ◌+◌, List, [], ◌∷◌, Option, Some, None, refl, ap, sym, ◌∙◌, Bool, true, false, subst}
use Rattle.std.specs.Prelude.{if◌then◌else◌}
use Rattle.rp_app.specs.Application.{Application}
use Rattle.proto_model.specs.Committed.{committed_book, committed_records, last_running_book}
use Rattle.proto_model.specs.Feeds.{Each}
use Rattle.proto_model.specs.Records.{Booked, records_of}
use Rattle.proto_model.specs.Stands.{Stands}
use Rattle.proto_model.specs.World.{ReplicaNode}
use Rattle.proto_safety.specs.Sizes.{ReplicaSized, delta_room}
use Rattle.world_state.specs.declared.nodes.ReplicaNode.{ReplicaNode as ReplicaSeat}
use Rattle.world_state.specs.declared.state.WorldState.{WorldState}
use Rattle.world_state.specs.Nodes.{IsReplicaSeat, last_running, replica_node, replica_nodes}
use Rattle.world_state.specs.WorldStates.{world_of, IsRun}

abbrev book_or : Option ReplicaSeat → List Booked
book_or None = []
book_or (Some r) = r.book

book_either : (b : Bool) (r : ReplicaSeat) (last : Option ReplicaSeat) → (if b then r.book else book_or last) ≡ book_or (if b then Some r else last)
book_either true r last = refl
book_either false r last = refl

book_along : (last : Option ReplicaSeat) (rs : List ReplicaSeat) → last_running_book (replica_nodes rs) (book_or last) ≡ book_or (last_running last rs)
book_along last [] = refl
book_along last (r ∷ rs) = ap (last_running_book (replica_nodes rs)) (book_either r.runs r last) ∙ book_along (if r.runs then Some r else last) rs

-- what holds of each replica holds of the last one that runs
holds_either : (P : ReplicaSeat → Type 0) (b : Bool) (r x : ReplicaSeat) (last : Option ReplicaSeat) → P r → ((y : ReplicaSeat) → last ≡ Some y → P y) → (if b then Some r else last) ≡ Some x → P x
holds_either P true r x last h before is = let same : r ≡ x = cc in subst P same h
holds_either P false r x last h before is = before x is

holds_along : (P : ReplicaSeat → Type 0) (last : Option ReplicaSeat) (rs : List ReplicaSeat) (x : ReplicaSeat) → ((y : ReplicaSeat) → last ≡ Some y → P y) → Each P rs → last_running last rs ≡ Some x → P x
holds_along P last [] x before h is = before x is
holds_along P last (r ∷ rs) x before h is = holds_along P (if r.runs then Some r else last) rs x (λ y e. holds_either P r.runs r y last h.0 before e) h.1 is

of_seats : (P : ReplicaNode → Type 0) (rs : List ReplicaSeat) → Each P (replica_nodes rs) → Each (λ (r : ReplicaSeat). P (replica_node r)) rs
of_seats P [] h = tt
of_seats P (r ∷ rs) h = (h.0, of_seats P rs h.1)

none_before : (P : ReplicaSeat → Type 0) (y : ReplicaSeat) → None ≡ Some y → P y
none_before P y is = cc

module _ (s : WorldState) where
  -- where no replica runs, nothing is committed
  pub none_committed : last_running None s.replicas ≡ None → committed_book (world_of s) ≡ []
  none_committed is = book_along None s.replicas ∙ ap book_or is

  -- the book of the last running replica is committed
  pub book_committed : (r : ReplicaSeat) → last_running None s.replicas ≡ Some r → committed_book (world_of s) ≡ r.book
  book_committed r is = book_along None s.replicas ∙ ap book_or is

  -- and so are its records
  pub records_committed : (app : Application) → IsRun app s → (r : ReplicaSeat) → last_running None s.replicas ≡ Some r → r.state.replica.records ≡ committed_records app.cell_count (world_of s)
  records_committed app run r is =
      let Seat : ReplicaSeat → Type 0 = IsReplicaSeat s.calls in
      let Sized : ReplicaSeat → Type 0 = λ x. ReplicaSized (s.calls + 1) (delta_room s.terms.mode app.cell_count) app.cell_count x.state.replica in
      let seat : IsReplicaSeat s.calls r = holds_along Seat None s.replicas r (none_before Seat) run.replicas is in
      let sized : Sized r = holds_along Sized None s.replicas r (none_before Sized) (of_seats (λ (n : ReplicaNode). ReplicaSized (s.calls + 1) (delta_room s.terms.mode app.cell_count) app.cell_count n.state) s.replicas run.sized.replicas) is in
      let book : r.book ≡ committed_book (world_of s) = sym (book_committed r is) in
      seat.stands.records_along ∙ (λ i. records_of (sized.cells_are i) (book i))
