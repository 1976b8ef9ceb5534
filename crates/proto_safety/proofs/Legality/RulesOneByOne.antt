-- The rules together and one by one are the same.
use Rattle.std.proofs.Common.{◌≡◌, ◌≢◌, ℕ, List, [], ◌∷◌, Option, Some, None, refl, sym, ◌∙◌}
use Rattle.rp_app.specs.Application.{Application}
use Rattle.proto_model.specs.Legal.{Legal}
use Rattle.key_table.specs.Table.{Key}
use Rattle.rp_base.specs.declared.legality.Fed.{Fed}
use Rattle.rp_base.specs.declared.legality.Released.{Released}
use Rattle.proto_model.specs.Feeds.{Each, Pairwise, key_at}
use Rattle.rp_base.specs.declared.legality.Flow.{Flow}
use Rattle.proto_safety.specs.LegalLines.{AllRules, LeastFailing, lists_fail, keyed_fail, order_fails, cells_fail, keyless_fail}

module _ (app : Application) (feeds : List Fed) (releases : List Released) (flows : List Flow) where
  abbrev Differ : Released → Released → Type 0
  Differ a b = a.output.mark ≢ b.output.mark

  abbrev Keyed : Released → Type 0
  Keyed a = key_at app feeds a.output.mark ≢ None

  abbrev Keyless : Released → Type 0
  Keyless a = key_at app feeds a.output.mark ≡ None

  each_of : (P : Released → Type 0) (Q : Type 0) (xs : List Released) → Each P xs → Each (λ b. Q → P b) xs
  each_of P Q [] h = tt
  each_of P Q (x ∷ xs) h = (λ q. h.0, each_of P Q xs h.1)

  each_both : (P : Released → Type 0) (a : Released) (xs : List Released) → Each (λ b. Keyed a → P b) xs → Each (λ b. Keyless a → P b) xs → Each P xs
  each_both P a [] h k = tt
  each_both P a (x ∷ xs) h k = (key_case (key_at app feeds a.output.mark) refl, each_both P a xs h.1 k.1)
    where
      key_case : (o : Option Key) → key_at app feeds a.output.mark ≡ o → P x
      key_case None is = k.0 is
      key_case (Some key) is = h.0 (λ none. let no : Some key ≡ None = sym is ∙ none in cc)

  once_of : (C : Released → Type 0) (xs : List Released) → Pairwise Differ xs → Pairwise (λ (a b : Released). C a → Differ a b) xs
  once_of C [] h = tt
  once_of C (x ∷ xs) h = (each_of (Differ x) (C x) xs h.0, once_of C xs h.1)

  once_both : (xs : List Released) → Pairwise (λ (a b : Released). Keyed a → Differ a b) xs → Pairwise (λ (a b : Released). Keyless a → Differ a b) xs → Pairwise Differ xs
  once_both [] h k = tt
  once_both (x ∷ xs) h k = (each_both (Differ x) x xs h.0 k.0, once_both xs h.1 k.1)

  pub rules_apart : Legal app feeds releases flows → AllRules app feeds releases flows
  rules_apart m =
      record {
        lists = record { fed_with_key = m.fed_with_key; each_once = m.each_once };
        keyed = record { from_list = m.released_from_list; once = once_of Keyed releases m.released_once };
        order = record { in_order = m.in_order; none_early = m.none_early };
        cells = m.cells_folded;
        keyless = record { from_feed = m.released_without_key; once = once_of Keyless releases m.released_once };
      }

  pub rules_together : AllRules app feeds releases flows → Legal app feeds releases flows
  rules_together a =
      record {
        fed_with_key = a.lists.fed_with_key;
        each_once = a.lists.each_once;
        released_from_list = a.keyed.from_list;
        released_once = once_both releases a.keyed.once a.keyless.once;
        in_order = a.order.in_order;
        none_early = a.order.none_early;
        cells_folded = a.cells;
        released_without_key = a.keyless.from_feed;
      }

  -- where a rule fails, they aren't all met
  pub one_fails : (n : ℕ) → LeastFailing app feeds releases flows n → ¬ Legal app feeds releases flows
  one_fails n (lists_fail fails) m = fails (rules_apart m).lists
  one_fails n (keyed_fail a fails) m = fails (rules_apart m).keyed
  one_fails n (order_fails a b fails) m = fails (rules_apart m).order
  one_fails n (cells_fail a b c fails) m = fails (rules_apart m).cells
  one_fails n (keyless_fail a b c d fails) m = fails (rules_apart m).keyless

  -- one rule is the least that fails
  pub least_once : (n k : ℕ) → LeastFailing app feeds releases flows n → LeastFailing app feeds releases flows k → n ≡ k
  least_once n k (lists_fail fails) (lists_fail other) = refl
  least_once n k (lists_fail fails) (keyed_fail p other) = absurd (fails p)
  least_once n k (lists_fail fails) (order_fails p q other) = absurd (fails p)
  least_once n k (lists_fail fails) (cells_fail p q r other) = absurd (fails p)
  least_once n k (lists_fail fails) (keyless_fail p q r s other) = absurd (fails p)
  least_once n k (keyed_fail a fails) (lists_fail other) = absurd (other a)
  least_once n k (keyed_fail a fails) (keyed_fail p other) = refl
  least_once n k (keyed_fail a fails) (order_fails p q other) = absurd (fails q)
  least_once n k (keyed_fail a fails) (cells_fail p q r other) = absurd (fails q)
  least_once n k (keyed_fail a fails) (keyless_fail p q r s other) = absurd (fails q)
  least_once n k (order_fails a b fails) (lists_fail other) = absurd (other a)
  least_once n k (order_fails a b fails) (keyed_fail p other) = absurd (other b)
  least_once n k (order_fails a b fails) (order_fails p q other) = refl
  least_once n k (order_fails a b fails) (cells_fail p q r other) = absurd (fails r)
  least_once n k (order_fails a b fails) (keyless_fail p q r s other) = absurd (fails r)
  least_once n k (cells_fail a b c fails) (lists_fail other) = absurd (other a)
  least_once n k (cells_fail a b c fails) (keyed_fail p other) = absurd (other b)
  least_once n k (cells_fail a b c fails) (order_fails p q other) = absurd (other c)
  least_once n k (cells_fail a b c fails) (cells_fail p q r other) = refl
  least_once n k (cells_fail a b c fails) (keyless_fail p q r s other) = absurd (fails s)
  least_once n k (keyless_fail a b c d fails) (lists_fail other) = absurd (other a)
  least_once n k (keyless_fail a b c d fails) (keyed_fail p other) = absurd (other b)
  least_once n k (keyless_fail a b c d fails) (order_fails p q other) = absurd (other c)
  least_once n k (keyless_fail a b c d fails) (cells_fail p q r other) = absurd (other d)
  least_once n k (keyless_fail a b c d fails) (keyless_fail p q r s other) = refl
