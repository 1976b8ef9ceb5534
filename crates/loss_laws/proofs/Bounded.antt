-- Of dirty items alone: where of two the later is less than the bound behind, so is the last one.
use Rattle.std.proofs.Common.{◌≡◌, ℕ, ◌+◌, ◌-◌, ◌≤◌, ◌<◌, suc, List, [], ◌∷◌, ◌++◌, arith, refl, sym, ◌∙◌, ap, subst, length}
use Rattle.std.specs.Prelude.{drop}
use Rattle.std.proofs.lemmas.List.Elements.{filter-append}
use Rattle.proto_model.specs.Feeds.{Each, Pairwise}
use Rattle.proto_model.specs.Kept.{dirty_ones}
use Rattle.proto_model.specs.World.{Journaled}
use Rattle.proto_safety.specs.LossLaws.{Recent}
use Rattle.proto_safety.proofs.Basics.Eachs.{each_drop}
use Rattle.proto_safety.proofs.Basics.Members.{in_filter}
use Rattle.proto_safety.proofs.Basics.Pairs.{pairwise_filter, pairwise_with}
use Rattle.loss_laws.proofs.Behind.{IsEnd}

-- the last of these, if there is one
abbrev Last : List Journaled → List Journaled
Last js = drop (length js - 1) js

last_behind : (x y : Journaled) (ys : List Journaled) → Last (x ∷ y ∷ ys) ≡ Last (y ∷ ys)
last_behind x y ys =
    let whole : suc (suc (length ys)) - 1 ≡ suc (length ys) = omega arith in
    let rest : suc (length ys) - 1 ≡ length ys = omega arith in ap (λ n. drop n (x ∷ y ∷ ys)) whole ∙ ap (λ n. drop n (y ∷ ys)) (sym rest)

-- a list has the last of its end
last_end : (pre : List Journaled) (x : Journaled) (xs : List Journaled) → Last (pre ++ x ∷ xs) ≡ Last (x ∷ xs)
last_end [] x xs = refl
last_end (y ∷ []) x xs = last_behind y x xs
last_end (y ∷ z ∷ pre) x xs = last_behind y z (pre ++ x ∷ xs) ∙ last_end (z ∷ pre) x xs

-- what holds of each two in their order, and of one with itself, holds of each with the last
with_last : (R : Journaled → Journaled → Type 0) (xs : List Journaled) → ((a : Journaled) → R a a) → Pairwise R xs → Each (λ a. Each (R a) (Last xs)) xs
with_last R [] own h = tt
with_last R (x ∷ []) own h = ((own x, tt), tt)
with_last R (x ∷ y ∷ ys) own h =
    subst (λ l. Each (λ a. Each (R a) l) (x ∷ y ∷ ys)) (sym (last_behind x y ys)) (each_drop (R x) (length (y ∷ ys) - 1) (y ∷ ys) h.0, with_last R (y ∷ ys) own h.1)

module _ (bound : ℕ) (some : 1 ≤ bound) where
  abbrev Near : Journaled → Journaled → Type 0
  Near a z = z.item.moment < a.item.moment + bound

  -- each dirty item of an end is less than the bound before the last dirty one of all
  pub recent_last : (js end : List Journaled) → IsEnd js end → Recent bound end → Each (λ a. Each (Near a) (Last (dirty_ones js))) (dirty_ones end)
  recent_last js end is recent =
      let parts : dirty_ones js ≡ dirty_ones is.0 ++ dirty_ones end = ap dirty_ones is.1 ∙ filter-append (λ (j : Journaled). j.item.dirty) is.0 end in
      end_case (dirty_ones end) parts
      (with_last Near (dirty_ones end) (λ a. omega (arith, some))
      (pairwise_with _ Near (dirty_ones end) (pairwise_filter _ (λ (j : Journaled). j.item.dirty) end recent)
      (λ a z i k near. near (in_filter (λ (j : Journaled). j.item.dirty) end a i).1 (in_filter (λ (j : Journaled). j.item.dirty) end z k).1)))
    where
      end_case : (ds : List Journaled) → dirty_ones js ≡ dirty_ones is.0 ++ ds → Each (λ a. Each (Near a) (Last ds)) ds → Each (λ a. Each (Near a) (Last (dirty_ones js))) ds
      end_case [] parts h = tt
      end_case (d ∷ ds) parts h = subst (λ l. Each (λ a. Each (Near a) l) (d ∷ ds)) (sym (ap Last parts ∙ last_end (dirty_ones is.0) d ds)) h
