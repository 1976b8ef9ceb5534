-- Releases of each mark come once where the marks of those with a key, or of those without one, are apart.
use Rattle.std.proofs.Common.{◌≡◌, ◌≢◌, ◌∙◌, ℕ, List, [], ◌∷◌, Option, Some, None, Bool, true, false, filter, refl, sym, ap, ◌↔◌, cond}
use Rattle.std.proofs.lemmas.Bool.{false≢true}
use Rattle.rp_base.specs.declared.legality.Fed.{Fed}
use Rattle.rp_base.specs.declared.legality.Released.{Released}
use Rattle.rp_app.specs.Application.{Application}
use Rattle.key_table.specs.Table.{Key}
use Rattle.proto_model.specs.Feeds.{Pairwise, key_at}
use Rattle.proto_safety.proofs.Basics.Eachs.{each_all, each_in}
use Rattle.proto_safety.proofs.Basics.Members.{in_filter, to_filter}
use Rattle.proto_safety.proofs.Basics.Pairs.{pairwise_filter, pairwise_mapped, pairwise_unmapped, pairwise_with}
use Rattle.report_audit.specs.Rising.{is_keyed, marks_keyed}
use Rattle.report_audit.proofs.Parts.{Apart}

module _ (app : Application) (feeds : List Fed) (keyed : Bool) (C : Option Key → Type 0) (is : (o : Option Key) → is_keyed keyed o ≡ true → C o) (si : (o : Option Key) → C o → is_keyed keyed o ≡ true) where
  abbrev key : Released → Option Key
  key r = key_at app feeds r.output.mark

  abbrev asked : Released → Bool
  asked r = is_keyed keyed (key r)

  abbrev Other : Released → Released → Type 0
  Other a b = a.output.mark ≢ b.output.mark

  abbrev Once : Released → Released → Type 0
  Once a b = C (key a) → Other a b

  -- releases of one mark are both asked for, or neither is
  alike : (a b : Released) → a.output.mark ≡ b.output.mark → asked a ≡ true → asked b ≡ true
  alike a b e h = ap (λ m. is_keyed keyed (key_at app feeds m)) (sym e) ∙ h

  once_each : (xs : List Released) → Pairwise Other (filter asked xs) → Pairwise Once xs
  once_each [] h = tt
  once_each (x ∷ xs) h = by (asked x) refl h (once_each xs)
    where
      by : (b : Bool) → asked x ≡ b → Pairwise Other (cond b (x ∷ filter asked xs) (filter asked xs)) → (Pairwise Other (filter asked xs) → Pairwise Once xs) → Pairwise Once (x ∷ xs)
      by true has h rest = (
        each_all (Once x) xs (λ y i c e. each_in (Other x) (filter asked xs) y h.0 (to_filter asked xs y i (alike x y e has)) e),
        rest h.1,
      )
      by false has h rest = (each_all (Once x) xs (λ y i c. absurd (false≢true (sym has ∙ si (key x) c))), rest h)

  pub once_by_marks : (xs : List Released) → Apart (marks_keyed app feeds keyed xs) ↔ Pairwise Once xs
  once_by_marks xs = (
    λ h. once_each xs (pairwise_unmapped (λ (a b : ℕ). a ≢ b) (λ (r : Released). r.output.mark) (filter asked xs) h),
    λ h. pairwise_mapped (λ (a b : ℕ). a ≢ b) (λ (r : Released). r.output.mark) (filter asked xs)
        (pairwise_with Once Other (filter asked xs) (pairwise_filter Once asked xs h) (λ a b i j once. once (is (key a) (in_filter asked xs a i).1))),
  )

module _ (app : Application) (feeds : List Fed) where
  keyed_is : (o : Option Key) → is_keyed true o ≡ true → o ≢ None
  keyed_is None h e = false≢true h
  keyed_is (Some key) h e = absurd cc

  is_keyed_so : (o : Option Key) → o ≢ None → is_keyed true o ≡ true
  is_keyed_so None h = absurd (h refl)
  is_keyed_so (Some key) h = refl

  keyless_is : (o : Option Key) → is_keyed false o ≡ true → o ≡ None
  keyless_is None h = refl
  keyless_is (Some key) h = absurd (false≢true h)

  is_keyless_so : (o : Option Key) → o ≡ None → is_keyed false o ≡ true
  is_keyless_so o e = ap (is_keyed false) e

  pub keyed_once : (xs : List Released) → Apart (marks_keyed app feeds true xs) ↔ Pairwise (λ (a b : Released). key_at app feeds a.output.mark ≢ None → a.output.mark ≢ b.output.mark) xs
  keyed_once xs = once_by_marks app feeds true (λ o. o ≢ None) keyed_is is_keyed_so xs

  pub keyless_once : (xs : List Released) → Apart (marks_keyed app feeds false xs) ↔ Pairwise (λ (a b : Released). key_at app feeds a.output.mark ≡ None → a.output.mark ≢ b.output.mark) xs
  keyless_once xs = once_by_marks app feeds false (λ o. o ≡ None) keyless_is is_keyless_so xs
