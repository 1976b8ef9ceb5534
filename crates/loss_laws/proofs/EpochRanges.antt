-- Numbers from one on, and what the epochs with these numbers keep.
use Rattle.std.proofs.Common.{◌≡◌, ℕ, ◌+◌, ◌≤◌, ◌<◌, zero, suc, List, [], ◌∷◌, ◌++◌, Option, Some, None, map, arith, refl, sym, ◌∙◌, ap, subst, append-nil, inl, inr, slice_get, Bool, true, false}
use Rattle.std.specs.Prelude.{flat_map, filter_map, if◌then◌else◌}
use Rattle.std.specs.List.{cons_option, range_with_len}
use Rattle.std.proofs.lemmas.Grind.{flat_map-append, fold-append}
use Rattle.std.proofs.lemmas.List.Concat.{flat_map-cons}
use Rattle.std.proofs.lemmas.List.Elements.{filter_map-append}
use Rattle.rp_base.specs.declared.legality.Fed.{Fed}
use Rattle.rp_app.specs.Application.{Application, after, after_one, zeros}
use Rattle.key_table.specs.Table.{Key, Table, same_key, get}
use Rattle.key_table.proofs.Tables.{same_key-true}
use Rattle.proto_model.specs.Feeds.{Pairwise, packet_at, packets_at}
use Rattle.proto_model.specs.Kept.{base, kept_marks}
use Rattle.proto_model.specs.World.{World}
use Rattle.proto_safety.specs.Books.{In}
use Rattle.proto_safety.proofs.Basics.Eachs.{each_all}
use Rattle.loss_laws.specs.BoundedLines.{cells_along}

-- ---- ranges

pub range_split : (b d m : ℕ) → d < m → (rest : List ℕ) × (range_with_len b m ≡ range_with_len b d ++ (b + d) ∷ rest)
range_split b d zero lt = absurd (omega (arith, lt))
range_split b zero (suc m) lt = let same : b ≡ b + 0 = omega arith in (range_with_len (b + 1) m, ap (λ x. x ∷ range_with_len (b + 1) m) same)
range_split b (suc d) (suc m) lt =
    let r = range_split (b + 1) d m (omega (arith, lt)) in
    let same : b + 1 + d ≡ b + suc d = omega arith in (r.0, ap (λ l. b ∷ l) r.1 ∙ ap (λ x. b ∷ (range_with_len (b + 1) d ++ x ∷ r.0)) same)

range_push : (b n : ℕ) → range_with_len b (suc n) ≡ range_with_len b n ++ (b + n) ∷ []
range_push b zero = let same : b ≡ b + 0 = omega arith in ap (λ x. x ∷ []) same
range_push b (suc n) = let same : b + 1 + n ≡ b + suc n = omega arith in ap (λ l. b ∷ l) (range_push (b + 1) n) ∙ ap (λ x. b ∷ (range_with_len (b + 1) n ++ x ∷ [])) same

pub range_within : (b n x : ℕ) → In (range_with_len b n) x → (b ≤ x) × (x < b + n)
range_within b zero x i = absurd i
range_within b (suc n) x (inl same) = (omega (arith, same), omega (arith, same))
range_within b (suc n) x (inr i) = let r = range_within (b + 1) n x i in (omega (arith, r.0), omega (arith, r.1))

pub range_rises : (b n : ℕ) → Pairwise (λ d e. d < e) (range_with_len b n)
range_rises b zero = tt
range_rises b (suc n) = (each_all (λ e. b < e) (range_with_len (b + 1) n) (λ e i. let r = range_within (b + 1) n e i in omega (arith, r.0)), range_rises (b + 1) n)

pub range_last : (b n x : ℕ) (ds : List ℕ) → range_with_len b n ≡ ds ++ x ∷ [] → x + 1 ≡ b + n
range_last b zero x [] is = absurd cc
range_last b zero x (d ∷ ds) is = absurd cc
range_last b (suc zero) x [] is = let same : b ≡ x = cc in omega (arith, same)
range_last b (suc (suc n)) x [] is = absurd cc
range_last b (suc n) x (d ∷ ds) is = let rest : range_with_len (b + 1) n ≡ ds ++ x ∷ [] = cc in omega (arith, range_last (b + 1) n x ds rest)

-- ---- lists

pub flat_map_map : {A B C : Type 0} (f : B → List C) (g : A → B) (xs : List A) → flat_map f (map g xs) ≡ flat_map (λ x. f (g x)) xs
flat_map_map f g [] = refl
flat_map_map f g (x ∷ xs) = flat_map-cons f (g x) (map g xs) ∙ (ap (λ l. f (g x) ++ l) (flat_map_map f g xs) ∙ sym (flat_map-cons (λ x. f (g x)) x xs))

pub place_of : {A : Type 0} (xs : List A) (x : A) → In xs x → (n : ℕ) × (slice_get xs n ≡ Some x)
place_of [] x i = absurd i
place_of (y ∷ ys) x (inl same) = (0, ap Some same)
place_of (y ∷ ys) x (inr i) = let r = place_of ys x i in (suc r.0, r.1)

pub at_map : {A B : Type 0} (f : A → B) (xs : List A) (n : ℕ) (x : A) → slice_get xs n ≡ Some x → slice_get (map f xs) n ≡ Some (f x)
at_map f [] n x at = absurd cc
at_map f (y ∷ ys) zero x at = let same : y ≡ x = cc in ap (λ z. Some (f z)) same
at_map f (y ∷ ys) (suc n) x at = at_map f ys n x at

-- what holds at any two places holds of each two elements
pub pairwise_places : {A : Type 0} (R : A → A → Type 0) (xs : List A) → ((n m : ℕ) (a b : A) → slice_get xs n ≡ Some a → slice_get xs m ≡ Some b → n < m → R a b) → Pairwise R xs
pairwise_places R [] h = tt
pairwise_places R (x ∷ xs) h =
    (each_all (R x) xs (λ y i. let p = place_of xs y i in h 0 (suc p.0) x y refl p.1 (omega arith)), pairwise_places R xs (λ n m a b at bt lt. h (suc n) (suc m) a b at bt (omega (arith, lt))))

pub to_filter_map : {A B : Type 0} (f : A → Option B) (xs : List A) (x : A) (y : B) → In xs x → f x ≡ Some y → In (filter_map f xs) y
to_filter_map f [] x y i is = absurd i
to_filter_map {B = B} f (z ∷ zs) x y (inl same) is = subst (λ o. In (cons_option o (filter_map f zs)) y) (sym (ap f same ∙ is)) (inl refl)
to_filter_map {B = B} f (z ∷ zs) x y (inr i) is = option_case (f z) (to_filter_map f zs x y i is)
  where
    option_case : (o : Option B) → In (filter_map f zs) y → In (cons_option o (filter_map f zs)) y
    option_case None j = j
    option_case (Some b) j = inr j

-- what a look-up gives is a member
pub found_member : {V : Type 0} (t : Table V) (k : Key) (v : V) → get t k ≡ Some v → In t (k, v)
found_member [] k v is = absurd cc
found_member {V = V} (e ∷ es) k v is = key_case (same_key e.0 k) refl is (found_member es k v)
  where
    key_case : (b : Bool) → same_key e.0 k ≡ b → (if b then Some e.1 else get es k) ≡ Some v → (get es k ≡ Some v → In es (k, v)) → In (e ∷ es) (k, v)
    key_case true same at rest = let value : e.1 ≡ v = cc in let key : e.0 ≡ k = same_key-true e.0 k same in inl (λ i. (key i, value i))
    key_case false other at rest = inr (rest at)

-- ---- cells along what epochs keep

pub along_append : (app : Application) (feeds : List Fed) (xs ys : List ℕ) → cells_along app feeds (xs ++ ys) ≡ after app (cells_along app feeds xs) (packets_at feeds ys)
along_append app feeds xs ys = ap (λ l. after app (zeros app.cell_count) l) (filter_map-append (packet_at feeds) xs ys) ∙ fold-append (after_one app) (zeros app.cell_count) (packets_at feeds xs) (packets_at feeds ys)

pub base_along : (app : Application) (w : World) (key : Key) (e : ℕ) → base app w key e ≡ cells_along app w.history.fed (flat_map (kept_marks w key) (range_with_len 1 e))
base_along app w key zero = refl
base_along app w key (suc e) =
    let next : 1 + e ≡ suc e = omega arith in
    let last : flat_map (kept_marks w key) ((1 + e) ∷ []) ≡ kept_marks w key (suc e) = flat_map-cons (kept_marks w key) (1 + e) [] ∙ (append-nil (kept_marks w key (1 + e)) ∙ ap (kept_marks w key) next) in
    ap (λ l. after app l (packets_at w.history.fed (kept_marks w key (suc e)))) (base_along app w key e)
    ∙ (sym (along_append app w.history.fed (flat_map (kept_marks w key) (range_with_len 1 e)) (kept_marks w key (suc e)))
    ∙ ap (cells_along app w.history.fed)
    (ap (λ l. flat_map (kept_marks w key) (range_with_len 1 e) ++ l) (sym last)
    ∙ (sym (flat_map-append (kept_marks w key) (range_with_len 1 e) ((1 + e) ∷ [])) ∙ ap (flat_map (kept_marks w key)) (sym (range_push 1 e)))))
