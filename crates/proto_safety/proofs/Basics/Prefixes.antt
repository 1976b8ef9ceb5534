-- Facts about prefixes of lists.
use Rattle.proto_safety.proofs.Basics.Members.{in_front}
use Rattle.proto_safety.specs.Books.{In, IsPrefix}
use Rattle.std.proofs.Common.{List, [], ap, append-nil, append_assoc, arith, length, length-append, refl, subst, sym, ◌++◌, ◌∙◌, ◌≤◌}

pub in_prefix : {A : Type 0} (xs ys : List A) (x : A) → IsPrefix xs ys → In xs x → In ys x
in_prefix {A = A} xs ys x p i = subst (λ (l : List A). In l x) p.is (in_front xs p.rest x i)

pub prefix_same : {A : Type 0} (xs : List A) → IsPrefix xs xs
prefix_same xs = record { rest = []; is = append-nil xs }

pub prefix_push : {A : Type 0} (xs ys : List A) → IsPrefix xs (xs ++ ys)
prefix_push xs ys = record { rest = ys; is = refl }

pub prefix_trans : {A : Type 0} {xs ys zs : List A} → IsPrefix xs ys → IsPrefix ys zs → IsPrefix xs zs
prefix_trans {xs = xs} p q = record { rest = p.rest ++ q.rest; is = sym (append_assoc xs p.rest q.rest) ∙ ap (λ l. l ++ q.rest) p.is ∙ q.is }

pub prefix_length : {A : Type 0} {xs ys : List A} → IsPrefix xs ys → length xs ≤ length ys
prefix_length {xs = xs} p = omega (arith, length-append xs p.rest, ap length p.is)
