-- The cells of a round from its chunks, and what is kept of cells in snapshot mode, over lists alone.
use Rattle.std.proofs.Common.{◌≡◌, ℕ, ◌+◌, ◌*◌, ◌≤◌, suc, List, [], ◌∷◌, ◌++◌, length, Some, arith, refl, sym, ◌∙◌, ap, subst, slice_get}
use Rattle.std.specs.Prelude.{take, drop, filter}
use Rattle.std.specs.List.{concat}
use Rattle.std.proofs.lemmas.List.{take-append-drop, drop-drop, drop_all}
use Rattle.proto_data.specs.declared.message.Msg.{Msg}
use Rattle.proto_data.specs.declared.message.Body.{Body}
use Rattle.proto_data.specs.declared.message.Entry.{Entry}
use Rattle.rp_app.specs.Application.{Application}
use Rattle.key_table.specs.Table.{Key}
use Rattle.proto_model.specs.Slot.{chunk_count, chunk_of}
use Rattle.proto_model.specs.Feeds.{Each, Pairwise}
use Rattle.proto_model.specs.Committed.{is_in}
use Rattle.proto_model.specs.World.{SwitchNode, Journaled, RoundBegun}
use Rattle.rp_base.specs.declared.legality.Fed.{Fed}
use Rattle.proto_safety.specs.Books.{In}
use Rattle.proto_safety.specs.Origins.{ChunkSent, SnapSent}
use Rattle.proto_safety.specs.LossLaws.{round_at, kept_front, cells_over, RoundIs, ChunkIs, RoundTurn}
use Rattle.proto_safety.proofs.Serial.FlowSerial.{EachMade}
use Rattle.proto_safety.proofs.Snapshots.SnapSlots.{SnapTable, SnapSays}
use Rattle.proto_safety.proofs.Nodes.SwitchNodes.{AllAt}
use Rattle.key_table.proofs.Tables.{same_some}
use Rattle.proto_safety.proofs.Leasing.WorldPuts.{NumberFrame}
use Rattle.proto_safety.proofs.Basics.Eachs.{each_in}

-- ---- chunks

all_chunks : (k : ℕ) (parts : List (List ℕ)) (cells : List ℕ) → ((i : ℕ) (part : List ℕ) → slice_get parts i ≡ Some part → part ≡ chunk_of (k + i) cells) → length cells ≤ 32 * (k + length parts) → concat parts ≡ drop (32 * k) cells
all_chunks k [] cells h le = sym (drop_all (32 * k) cells (omega (arith, le)))
all_chunks k (p ∷ ps) cells h le =
    let first : p ≡ chunk_of (k + 0) cells = h 0 p refl in
    let zero_more : k + 0 ≡ k = omega arith in
    let rest : concat ps ≡ drop (32 * (k + 1)) cells =
    all_chunks (k + 1) ps cells (λ i part is. let e : k + suc i ≡ k + 1 + i = omega arith in subst (λ m. part ≡ chunk_of m cells) e (h (suc i) part is)) (omega (arith, le)) in
    let next : drop 32 (drop (32 * k) cells) ≡ drop (32 * (k + 1)) cells = let e : 32 * k + 32 ≡ 32 * (k + 1) = omega arith in drop-drop 32 (32 * k) cells ∙ ap (λ m. drop m cells) e in
    ap (λ l. l ++ concat ps) (first ∙ ap (λ m. chunk_of m cells) zero_more)
    ∙ (ap (λ l. take 32 (drop (32 * k) cells) ++ l) (rest ∙ sym next) ∙ take-append-drop 32 (drop (32 * k) cells))

enough_chunks : (n : ℕ) → n ≤ 32 * chunk_count n
enough_chunks n = omega arith

-- ---- what is kept

-- of these lists: cells of slots and of chunks, what items saw, and rounds that were begun
pub record SnapHold (app : Application) (feeds : List Fed) (es : List Entry) (items : List Journaled) (rounds : List RoundBegun) (frames : List Msg) (switches : List SwitchNode) : Type 0 where
  pub slots : AllAt (λ n (node : SwitchNode). SnapTable app feeds es items rounds node.state.slots) switches
  pub says : Each (λ (m : Msg). SnapSays app feeds es items rounds m.body) frames
  pub made : (key : Key) (e : ℕ) → EachMade app feeds key (kept_front key es items rounds e) (filter (is_in key e) items)
  pub turns : Pairwise RoundTurn rounds
  pub within : Each (λ (b : RoundBegun). b.items_before ≤ length items) rounds
  pub begun : (b : RoundBegun) → In rounds b → (1 ≤ b.begun.round) × ((n : ℕ) × ((inc : ℕ) × NumberFrame frames n inc b.begun.key b.begun.epoch b.begun.round))

module _ (app : Application) (feeds : List Fed) (es : List Entry) (items : List Journaled) (rounds : List RoundBegun) (frames : List Msg) (says : Each (λ (m : Msg). SnapSays app feeds es items rounds m.body) frames) where
  chunk_says : (key : Key) (e number chunk chunks : ℕ) (part : List ℕ) → ChunkSent frames key e number chunk chunks part → ChunkIs app feeds es items rounds key e number chunk chunks part
  chunk_says key e number chunk chunks part c = (subst (λ (b : Body). SnapSays app feeds es items rounds b) c.body_is (each_in (λ (m : Msg). SnapSays app feeds es items rounds m.body) frames c.msg says c.there)).0

  -- two chunks of one round have the cells of one begin
  one_round : (key : Key) (e number : ℕ) (a b : List ℕ) → RoundIs app feeds es items rounds key e number a → RoundIs app feeds es items rounds key e number b → a ≡ b
  one_round key e number a b x y =
      let same : x.begun ≡ y.begun = same_some (round_at key e number rounds) x.begun y.begun x.found y.found in
      x.cells_are ∙ (ap (λ (r : RoundBegun). cells_over app feeds (kept_front key es items rounds e ++ filter (is_in key e) (take r.items_before items))) same ∙ sym y.cells_are)

  -- a round that came whole has the cells of its begin
  pub snap_round : (key : Key) (e number : ℕ) (cells : List ℕ) → SnapSent frames key e number cells → RoundIs app feeds es items rounds key e number cells
  snap_round key e number cells q = parts_case q.parts q.some q.cells_are q.sent
    where
      parts_case : (parts : List (List ℕ)) → 1 ≤ length parts → concat parts ≡ cells → ((i : ℕ) (part : List ℕ) → slice_get parts i ≡ Some part → ChunkSent frames key e number i (length parts) part) → RoundIs app feeds es items rounds key e number cells
      parts_case [] some cells_are sent = absurd (omega (arith, some))
      parts_case (p ∷ ps) some cells_are sent =
          let c = chunk_says key e number 0 (length (p ∷ ps)) p (sent 0 p refl) in
          let whole : concat (p ∷ ps) ≡ c.cells =
          all_chunks 0 (p ∷ ps) c.cells
          (λ i part is.
          let d = chunk_says key e number i (length (p ∷ ps)) part (sent i part is) in
          let none : 0 + i ≡ i = omega arith in
          d.part_is ∙ (ap (λ l. chunk_of i l) (one_round key e number d.cells c.cells d.round_is c.round_is) ∙ ap (λ m. chunk_of m c.cells) (sym none)))
          (omega (arith, c.chunks_are, enough_chunks (length c.cells))) in
          subst (λ l. RoundIs app feeds es items rounds key e number l) (sym whole ∙ cells_are) c.round_is
