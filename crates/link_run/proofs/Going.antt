-- The datagrams of lines, as they go one after the other.
use Rattle.std.proofs.Common.{◌≡◌, List, ℕ, ◌++◌, Option, sym, ap, subst, ◌∙◌, length, take, drop}
use Rattle.std.specs.Prelude.{Result, Ok, Err, OnErr}
use Rattle.std.proofs.Math.Seq.{take-append_seam}
use Rattle.std.proofs.lemmas.Grind.{flat_map-append}
use Rattle.std.proofs.lemmas.List.{take-append-drop}
use Rattle.rp_base.specs.Outside.{Grows, GrowsByFront}
use Rattle.rp_base.specs.declared.line.Line.{Line}
use Rattle.rp_base.specs.declared.node.Node.{Node}
use Rattle.link_run.specs.Datagrams.{datagram_in, datagrams_in}

-- those of the lines up to this place are a front of all
pub front_went : (old now : Option (List (Node × Node × List ℕ))) (ls : List Line) (i : ℕ) → Grows old now (datagrams_in (take i ls)) → GrowsByFront old now (datagrams_in ls)
front_went old now ls i h =
    let front = datagrams_in (take i ls) in
    let whole : datagrams_in (take i ls) ++ datagrams_in (drop i ls) ≡ datagrams_in ls = sym (flat_map-append datagram_in (take i ls) (drop i ls)) ∙ ap datagrams_in (take-append-drop i ls) in
    let same : take (length (datagrams_in (take i ls))) (datagrams_in ls) ≡ datagrams_in (take i ls) =
    ap (take (length front)) (sym whole) ∙ take-append_seam front (datagrams_in (drop i ls)) in
    (length front, subst (λ l. Grows old now l) (sym same) h)

-- a fact holds under an error
pub on_err : {T E : Type 0} {P : Type 0} (r : Result T E) → P → OnErr r P
on_err (Ok x) h = tt
on_err (Err e) h = h
