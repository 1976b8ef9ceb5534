-- What was fed at a mark, in one half of a list whose marks rise.
use Rattle.std.proofs.Common.{◌≡◌, ◌∙◌, ◌<◌, ℕ, List, [], ◌∷◌, ◌++◌, Some, refl, ap, arith, eq-eqb}
use Rattle.std.proofs.lemmas.Bool.{ne_eqb}
use Rattle.std.specs.Prelude.{◌==◌, Bool, true, false, if◌then◌else◌}
use Rattle.rp_base.specs.declared.legality.Fed.{Fed}
use Rattle.proto_model.specs.Feeds.{Each, fed_at}
use Rattle.proto_safety.proofs.Basics.Eachs.{each_in, each_weaker}
use Rattle.proto_safety.proofs.Basics.Members.{in_middle}
use Rattle.report_audit.proofs.Parts.{pairs_front, pairs_behind}
use Rattle.report_audit.specs.Rising.{MarksRise}

abbrev Below : Fed → Fed → Type 0
Below a b = a.packet.mark < b.packet.mark

pub front_rises : (xs ys : List Fed) → MarksRise (xs ++ ys) → MarksRise xs
front_rises xs ys h = pairs_front Below xs ys h

pub behind_rises : (xs : List Fed) (f : Fed) (ys : List Fed) → MarksRise (xs ++ f ∷ ys) → MarksRise ys
behind_rises xs f ys h = (pairs_behind Below xs (f ∷ ys) h).1

-- an element with another mark is passed over
passed : (x : Fed) (xs : List Fed) (mark : ℕ) → ¬ (x.packet.mark ≡ mark) → fed_at (x ∷ xs) mark ≡ fed_at xs mark
passed x xs mark other = let no : (x.packet.mark == mark) ≡ false = ne_eqb x.packet.mark mark other in rw no refl

not_above : (xs : List Fed) (mark : ℕ) → Each (λ (f : Fed). mark < f.packet.mark) xs → fed_at xs mark ≡ fed_at [] mark
not_above [] mark h = refl
not_above (x ∷ xs) mark h = passed x xs mark (λ e. omega (arith, h.0)) ∙ not_above xs mark h.1

each_above : (m n : ℕ) (xs : List Fed) → m < n → Each (λ (f : Fed). n < f.packet.mark) xs → Each (λ (f : Fed). m < f.packet.mark) xs
each_above m n xs lt h = each_weaker (λ (f : Fed). n < f.packet.mark) (λ (f : Fed). m < f.packet.mark) xs (λ f above. omega (arith, above, lt)) h

pub found_here : (xs : List Fed) (f : Fed) (ys : List Fed) (mark : ℕ) → MarksRise (xs ++ f ∷ ys) → f.packet.mark ≡ mark → fed_at (xs ++ f ∷ ys) mark ≡ Some f
found_here [] f ys mark h same = let yes : (f.packet.mark == mark) ≡ true = eq-eqb f.packet.mark mark same in rw yes refl
found_here (x ∷ xs) f ys mark h same =
    let below : x.packet.mark < f.packet.mark = each_in (Below x) (xs ++ f ∷ ys) f h.0 (in_middle xs ys f) in
    passed x (xs ++ f ∷ ys) mark (λ e. omega arith) ∙ found_here xs f ys mark h.1 same

pub found_behind : (xs : List Fed) (f : Fed) (ys : List Fed) (mark : ℕ) → MarksRise (xs ++ f ∷ ys) → f.packet.mark < mark → fed_at (xs ++ f ∷ ys) mark ≡ fed_at ys mark
found_behind [] f ys mark h lt = passed f ys mark (λ e. omega arith)
found_behind (x ∷ xs) f ys mark h lt =
    let below : x.packet.mark < f.packet.mark = each_in (Below x) (xs ++ f ∷ ys) f h.0 (in_middle xs ys f) in
    passed x (xs ++ f ∷ ys) mark (λ e. omega arith) ∙ found_behind xs f ys mark h.1 lt

pub found_before : (xs : List Fed) (f : Fed) (ys : List Fed) (mark : ℕ) → MarksRise (xs ++ f ∷ ys) → mark < f.packet.mark → fed_at (xs ++ f ∷ ys) mark ≡ fed_at xs mark
found_before [] f ys mark h lt = not_above (f ∷ ys) mark (lt, each_above mark f.packet.mark ys lt h.0)
found_before (x ∷ xs) f ys mark h lt = by (x.packet.mark == mark) (found_before xs f ys mark h.1 lt)
  where
    by : (b : Bool) → fed_at (xs ++ f ∷ ys) mark ≡ fed_at xs mark → (if b then Some x else fed_at (xs ++ f ∷ ys) mark) ≡ (if b then Some x else fed_at xs mark)
    by true e = refl
    by false e = e

pub halves : {A : Type 0} {xs back behind : List A} {x : A} (front : List A) → xs ≡ front ++ back → back ≡ x ∷ behind → xs ≡ front ++ x ∷ behind
halves front parts first = parts ∙ ap (λ ys. front ++ ys) first
