-- What is gathered fits the cells of a flow, whatever chunk of it comes.
use Rattle.std.proofs.Common.{◌≡◌, ℕ, ◌*◌, List, length, map, Option, Some, None, true, false, Bool, arith, refl, sym, ◌∙◌, ap, drop, subst, MutBor}
use Rattle.std.specs.Prelude.{is_some, ◌==◌, ◌&&◌, if◌then◌else◌, nat_lt}
use Rattle.std.specs.List.{list_all, concat}
use Rattle.std.specs.Option.{IfSome, OnSome}
use Rattle.std.proofs.lemmas.Bool.{and_parts, ltb-true}
use Rattle.std.proofs.lemmas.List.{length-replicate, length-take, length-set}
use Rattle.std.proofs.Common.{length-drop, eqb-true}
use Rattle.rp_app.specs.Application.{zeros}
use Rattle.key_table.specs.Table.{Key, Table, same_key, get, put}
use Rattle.key_table.proofs.Tables.{same_key-true, get-put_same, get-put_other, same_some}
use Rattle.proto_model.specs.Slot.{chunk_count, chunk_of}
use Rattle.proto_model.specs.ReplicaState.{Gathered, gathering_of, no_parts, part_cells, whole_cells, with_part}
use Rattle.proto_model.specs.ReplicaRows.{chunk_fits}
use Rattle.store_replica.specs.declared.part.Part.{Part}
use Rattle.snap_mode.specs.declared.gather.Gathered.{Gathered as Answer}
use Rattle.snap_mode.specs.Rounds.{told}
use Rattle.store_replica.specs.Gatherings.{AreGatherings, Gatherings, HasWhole, IsGathering, IsPart, after_part, gathered_with}
use Rattle.store_replica.proofs.Chunks.{all_there, cells_at, none_there, one_more}

-- how many cells a chunk has
pub length_chunk : (i n : ℕ) → length (chunk_of i (zeros n)) ≡ cells_at n i
length_chunk i n =
    length-take 32 (drop (32 * i) (zeros n))
    ∙ omega (arith, length-drop (32 * i) (zeros n), length-replicate {A = ℕ} n 0)

-- where the tests hold the chunk is one
pub is_part : (cells : ℕ) (p : Part) → chunk_fits cells p.chunk p.chunks p.cells ≡ true → IsPart cells p
is_part cells p fits =
    let a = and_parts (p.chunks == chunk_count cells) _ fits in
    let b = and_parts (nat_lt p.chunk p.chunks) _ a.1 in
    record { place = ltb-true _ _ b.0; count = eqb-true _ _ a.0; long = eqb-true _ _ b.1 }

begun : (cells epoch round chunks : ℕ) → chunks ≡ chunk_count cells → IsGathering cells (no_parts epoch round chunks)
begun cells epoch round chunks is =
    subst (λ n. IsGathering cells (no_parts epoch round n)) (sym is)
    (record { size = length-replicate (chunk_count cells) None; chunks = none_there cells })

gone_on : (cells epoch round chunks : ℕ) (o : Option Gathered) → chunks ≡ chunk_count cells → ((g : Gathered) → o ≡ Some g → IsGathering cells g) → IsGathering cells (gathering_of epoch round chunks o)
gone_on cells epoch round chunks None is h = begun cells epoch round chunks is
gone_on cells epoch round chunks (Some g) is h = by ((g.epoch == epoch) && (g.round == round))
  where
    by : (b : Bool) → IsGathering cells (if b then g else no_parts epoch round chunks)
    by true = h g refl
    by false = begun cells epoch round chunks is

-- with one more chunk
pub is_gathered : (cells : ℕ) (table : Table Gathered) (p : Part) → IsPart cells p → AreGatherings cells table → IsGathering cells (gathered_with table p)
is_gathered cells table p is h =
    let old = gone_on cells p.epoch p.round p.chunks (get table p.key) is.count (h p.key) in
    record {
      size = length-set (gathering_of p.epoch p.round p.chunks (get table p.key)).parts p.chunk (Some p.cells) ∙ old.size;
      chunks = one_more cells p.chunk _ p.cells old.chunks (is.long ∙ length_chunk p.chunk cells);
    }

pub gathered-put : (cells : ℕ) (table : Table Gathered) (k : Key) (g : Gathered) → AreGatherings cells table → IsGathering cells g → AreGatherings cells (put table k g)
gathered-put cells table k g h is j s has = by (same_key k j) refl
  where
    by : (b : Bool) → same_key k j ≡ b → IsGathering cells s
    by true same =
        let e : k ≡ j = same_key-true k j same in
        let there : get (put table k g) j ≡ Some g = rw (sym e) (get-put_same table k g) in
        let v : g ≡ s = same_some (get (put table k g) j) g s there has in rw (sym v) is
    by false ne = h j s (sym (get-put_other table j k g ne) ∙ has)

-- a whole round has as many cells as a flow
pub whole_long : (cells : ℕ) (g : Gathered) → IsGathering cells g → IfSome (whole_cells g) (λ all. length all ≡ cells)
whole_long cells g h = by (list_all (λ p. is_some p) g.parts) refl
  where
    by : (b : Bool) → list_all (λ (p : Option (List ℕ)). is_some p) g.parts ≡ b → IfSome (if b then Some (concat (map part_cells g.parts)) else None) (λ all. length all ≡ cells)
    by true all = all_there cells g.parts all h.chunks
    by false all = tt

-- ---- what is answered

-- the cells of a whole round, whatever is answered
pub answer_long : (n m : ℕ) (g : Gathered) (got : Answer) → got ≡ told (whole_cells g) → IfSome (whole_cells g) (λ all. length all ≡ n) → n ≡ m → HasWhole m got
answer_long n m g got is long same = subst (λ k. HasWhole k got) same (subst (HasWhole n) (sym is) (by (whole_cells g) long))
  where
    by : (o : Option (List ℕ)) → IfSome o (λ all. length all ≡ n) → HasWhole n (told o)
    by None long = tt
    by (Some cells) long = long

-- ---- the table

-- a gathering of which nothing came goes on as one of any round
same_begun : (epoch round chunks : ℕ) → gathering_of epoch round chunks (Some (no_parts 0 0 chunks)) ≡ no_parts epoch round chunks
same_begun epoch round chunks = by ((0 == epoch) && (0 == round)) refl
  where
    by : (b : Bool) → (0 == epoch) && (0 == round) ≡ b → (if b then no_parts 0 0 chunks else no_parts epoch round chunks) ≡ no_parts epoch round chunks
    by true is =
        let e : 0 ≡ epoch = eqb-true 0 epoch (and_parts (0 == epoch) (0 == round) is).0 in
        let r : 0 ≡ round = eqb-true 0 round (and_parts (0 == epoch) (0 == round) is).1 in
        λ i. no_parts (e i) (r i) chunks
    by false is = refl

-- what is written through a loan that was made
on_some : {V P : Type 0} (o : Option V) (b : V) → o ≡ Some b → OnSome o P → P
on_some None b is h = absurd cc
on_some (Some x) b is h = h

module _ (cells : ℕ) (table : Table Gathered) (p : Part) (is : IsPart cells p) (h : AreGatherings cells table) where
  -- the gathering that is there, with the chunk
  pub with_there : (old new : Gathered) → Some old ≡ get table p.key → new ≡ with_part (gathering_of p.epoch p.round p.chunks (Some old)) p.chunk p.cells → new ≡ gathered_with table p
  with_there old new there taken = taken ∙ ap (λ o. with_part (gathering_of p.epoch p.round p.chunks o) p.chunk p.cells) there

  -- a chunk is kept in its place
  pub kept_there : (lent : Table Gathered) (o : Option (MutBor Gathered)) (b : MutBor Gathered) (new : Gathered) → o ≡ Some b → OnSome o (lent ≡ put table p.key new) → Some b.now ≡ get table p.key →
      new ≡ with_part (gathering_of p.epoch p.round p.chunks (Some b.now)) p.chunk p.cells → lent ≡ put table p.key (gathered_with table p)
  kept_there lent o b new made holds there taken = on_some o b made holds ∙ ap (λ g. put table p.key g) (with_there b.now new there taken)

  -- likewise in a new one
  pub with_new : (begun new : Gathered) → None ≡ get table p.key → begun ≡ no_parts 0 0 (chunk_count cells) →
      new ≡ with_part (gathering_of p.epoch p.round p.chunks (Some begun)) p.chunk p.cells → new ≡ gathered_with table p
  with_new begun new none fresh taken =
      taken
      ∙ ap (λ g. with_part (gathering_of p.epoch p.round p.chunks (Some g)) p.chunk p.cells) (fresh ∙ ap (λ n. no_parts 0 0 n) (sym is.count))
      ∙ ap (λ g. with_part g p.chunk p.cells) (same_begun p.epoch p.round p.chunks)
      ∙ ap (λ o. with_part (gathering_of p.epoch p.round p.chunks o) p.chunk p.cells) none

  -- what is answered has as many cells as a flow
  pub told_long : (new : Gathered) (got : Answer) (m : ℕ) → new ≡ gathered_with table p → got ≡ told (whole_cells new) → cells ≡ m → HasWhole m got
  told_long new got m made answer same =
      answer_long cells m new got answer (whole_long cells new (subst (IsGathering cells) (sym made) (is_gathered cells table p is h))) same

  -- so all gatherings fit afterwards
  pub all_kept : (new : Table Gathered) → new ≡ put table p.key (gathered_with table p) → AreGatherings cells new
  all_kept new made = subst (AreGatherings cells) (sym made) (gathered-put cells table p.key (gathered_with table p) h (is_gathered cells table p is h))

-- the table is seen as the one with the chunk
pub after_is : (cells : ℕ) (table new : Table Gathered) (s : Gatherings) (p : Part) → record { cell_count = cells; table = table } ≡ s → new ≡ put table p.key (gathered_with table p) →
    record { cell_count = cells; table = new } ≡ after_part s p
after_is cells table new s p view made = subst (λ (s : Gatherings). record { cell_count = cells; table = new } ≡ after_part s p) view (ap (λ t. record { cell_count = cells; table = t }) made)
