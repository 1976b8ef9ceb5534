use Rattle.std.proofs.Common.{◌≡◌, ℕ, ◌<◌, List, [], ◌∷◌, Option, Some, None, inl, inr, refl, sym, ap, subst, arith}
use Rattle.rp_base.specs.declared.event.Event.{Event}
use Rattle.rp_app.specs.Application.{counting}
use Rattle.key_table.specs.Table.{Key}
use Rattle.proto_model.specs.Legal.{IsOutputIn, StandsIn, ReleasedBefore, folded, marks_before, marks_of}
use Rattle.std.specs.Prelude.{slice_index}
use Rattle.rp_base.specs.declared.node.Output.{Output}
use Rattle.rp_base.specs.declared.node.Packet.{Packet}
use Rattle.rp_base.specs.declared.legality.Fed.{Fed as FedValue}
use Rattle.rp_base.specs.declared.legality.Released.{Released}
use Rattle.rp_base.specs.declared.line.Line.{Line}
use Rattle.proto_safety.specs.Books.{In}
use Rattle.proto_safety.specs.LegalLines.{CellsAreFolded, IsAuditOf, KeyedAreListed, KeylessAreFed, ListsAreFed, ListsAreInOrder, feeds_in, flows_in, releases_in, lists_fail, keyed_fail, order_fails, cells_fail, keyless_fail}
use Rattle.proto_safety.specs.RuleRows.{count_of, ends_with, early_lines, fed_first, fed_keyless, fed_second, keyless_lines, refused_lines, right_lines, wrong_cells, wrong_output}
use Rattle.proto_safety.proofs.Legality.RulesOneByOne.{rules_together}
use Rattle.proto_safety.proofs.reports.each_rule_refuses.Goals as goal
use Rattle.proto_safety.proofs.Basics.Members.{among_in}

-- one flow's list of one mark
abbrev Fed : List Event → List Line → Type 0
Fed events lines = ListsAreFed counting (feeds_in events lines) (flows_in lines)

abbrev Keyed : List Event → List Line → Type 0
Keyed events lines = KeyedAreListed counting (feeds_in events lines) (releases_in lines) (flows_in lines)

abbrev Order : List Event → List Line → Type 0
Order events lines = ListsAreInOrder (feeds_in events lines) (releases_in lines) (flows_in lines)

abbrev Folded : List Event → List Line → Type 0
Folded events lines = CellsAreFolded counting (feeds_in events lines) (flows_in lines)

abbrev Keyless : List Event → List Line → Type 0
Keyless events lines = KeylessAreFed counting (feeds_in events lines) (releases_in lines)

only : {A : Type 0} (x y : A) → In (x ∷ []) y → x ≡ y
only x y (inl e) = e
only x y (inr i) = absurd i

-- the packet that is fed at the first event
abbrev packet_one : FedValue
packet_one = record { event = 1; packet = record { mark = 1; port = 7; bytes = 97 ∷ 33 ∷ [] } }

abbrev release_one : ℕ → Released
release_one n = record { event = 5; output = record { mark = 1; port = 7; bytes = count_of n } }

-- one flow's list of one mark
one_fed : (n k : ℕ) → Fed fed_first (Line.Release 5 1 7 (count_of n) ∷ ends_with 1 k)
one_fed n k = record { fed_with_key = ((refl, tt), tt); each_once = (tt, tt) }

one_keyed : (k : ℕ) → Keyed fed_first (Line.Release 5 1 7 (count_of 1) ∷ ends_with 1 k)
one_keyed k =
    record {
      from_list = (
        λ key is.
            let same : 97 ∷ [] ≡ key = cc in
            subst
            (λ (x : Key).
            StandsIn (marks_of (record { key = 97 ∷ []; marks = 1 ∷ []; cells = k ∷ [] } ∷ []) x) 1
            × IsOutputIn counting (packet_one ∷ []) (folded counting (packet_one ∷ []) (marks_before (marks_of (record { key = 97 ∷ []; marks = 1 ∷ []; cells = k ∷ [] } ∷ []) x) 1)) (record { mark = 1; port = 7; bytes = count_of 1 }))
            same (([], ([], refl)), (packet_one.packet, refl, refl)),
        tt,
      );
      once = (tt, tt);
    }

one_order : (k : ℕ) → Order fed_first (Line.Release 5 1 7 (count_of 1) ∷ ends_with 1 k)
one_order k = record { in_order = ((tt, tt), tt); none_early = ((λ x. not_early x, tt), tt) }
  where
    some_same : (a b : FedValue) → Some a ≡ Some b → a ≡ b
    some_same a b e = cc

    not_early : ¬ ReleasedBefore (packet_one ∷ []) (release_one 1 ∷ []) 1 1
    not_early x =
        let r : release_one 1 ≡ x.0 = only (release_one 1) x.0 (among_in (release_one 1 ∷ []) x.0 x.2) in
        let f : packet_one ≡ x.1 = some_same packet_one x.1 x.3 in
        let lt : x.0.event < x.1.event = x.5 in
        let five : 5 ≡ x.0.event = ap (λ (y : Released). y.event) r in
        let one : 1 ≡ x.1.event = ap (λ (y : FedValue). y.event) f in absurd (omega arith)

one_keyless : (k : ℕ) → Keyless fed_first (Line.Release 5 1 7 (count_of 1) ∷ ends_with 1 k)
one_keyless k = record { from_feed = (λ none. let no : Some (97 ∷ []) ≡ None = none in absurd cc, tt); once = (tt, tt) }

right : IsAuditOf counting fed_first right_lines None
right =
    rules_together counting (packet_one ∷ []) (release_one 1 ∷ []) (record { key = 97 ∷ []; marks = 1 ∷ []; cells = 1 ∷ [] } ∷ [])
    (record { lists = one_fed 1 1; keyed = one_keyed 1; order = one_order 1; cells = (refl, tt); keyless = one_keyless 1 })

not_fed : ¬ Fed fed_first refused_lines
not_fed h = let no : None ≡ Some (97 ∷ []) = h.fed_with_key.0.0 in cc

abbrev last_count : Option Output → ℕ
last_count None = 0
last_count (Some o) = slice_index o.bytes 7

one_two : (a b : ℕ) → a ≡ 1 → b ≡ 2 → a ≡ b → ⊥
one_two a b one two e = absurd (omega (arith, e, one, two))

not_counted : ¬ Keyed fed_first wrong_output
not_counted h = wrong (h.from_list.0 (97 ∷ []) refl).1.0 (h.from_list.0 (97 ∷ []) refl).1.1 (h.from_list.0 (97 ∷ []) refl).1.2
  where
    wrong : (p : Packet) → Some packet_one.packet ≡ Some p → (counting.plain (0 ∷ []) p).1 ≡ Some (record { mark = 1; port = 7; bytes = count_of 2 }) → ⊥
    wrong p at is =
        let same : packet_one.packet ≡ p = cc in
        let no : Some (record { mark = 1; port = 7; bytes = count_of 1 }) ≡ Some (record { mark = 1; port = 7; bytes = count_of 2 }) = subst (λ (q : Packet). (counting.plain (0 ∷ []) q).1 ≡ Some (record { mark = 1; port = 7; bytes = count_of 2 })) (sym same) is in
        one_two (last_count (Some (record { mark = 1; port = 7; bytes = count_of 1 }))) (last_count (Some (record { mark = 1; port = 7; bytes = count_of 2 }))) refl refl (ap last_count no)

abbrev packet_two : FedValue
packet_two = record { event = 2; packet = record { mark = 2; port = 7; bytes = 97 ∷ 33 ∷ [] } }

early_fed : Fed fed_second early_lines
early_fed = record { fed_with_key = ((refl, tt), tt); each_once = (tt, tt) }

early_keyed : Keyed fed_second early_lines
early_keyed =
    record {
      from_list = (
        λ key is.
            let same : 97 ∷ [] ≡ key = cc in
            subst
            (λ (x : Key).
            StandsIn (marks_of (record { key = 97 ∷ []; marks = 2 ∷ []; cells = 1 ∷ [] } ∷ []) x) 2
            × IsOutputIn counting (packet_two ∷ []) (folded counting (packet_two ∷ []) (marks_before (marks_of (record { key = 97 ∷ []; marks = 2 ∷ []; cells = 1 ∷ [] } ∷ []) x) 2)) (record { mark = 2; port = 7; bytes = count_of 1 }))
            same (([], ([], refl)), (packet_two.packet, refl, refl)),
        tt,
      );
      once = (tt, tt);
    }

early_order : ¬ Order fed_second early_lines
early_order h = h.none_early.0.0 (record { event = 1; output = record { mark = 2; port = 7; bytes = count_of 1 } }, packet_two, (0, (omega arith, refl)), refl, refl, omega arith)

not_folded : ¬ Folded fed_first wrong_cells
not_folded h = let no : 2 ∷ [] ≡ 1 ∷ [] = h.0 in cc

not_keyless : ¬ Keyless fed_keyless keyless_lines
not_keyless h =
    none (h.from_feed.0 refl).0 (h.from_feed.0 refl).1 (h.from_feed.0 refl).2
  where
    none : (p : Packet) → Some (record { mark = 1; port = 7; bytes = [] }) ≡ Some p → (counting.plain (0 ∷ []) p).1 ≡ Some (record { mark = 1; port = 7; bytes = [] }) → ⊥
    none p at is =
        let same : record { mark = 1; port = 7; bytes = [] } ≡ p = cc in
        let no : None ≡ Some (record { mark = 1; port = 7; bytes = [] }) = subst (λ (q : Packet). (counting.plain (0 ∷ []) q).1 ≡ Some (record { mark = 1; port = 7; bytes = [] })) (sym same) is in cc

pub returns : goal.returns
returns c =
    record {
      right = right;
      lists = lists_fail not_fed;
      outputs = keyed_fail (one_fed 2 1) not_counted;
      early = order_fails early_fed early_keyed early_order;
      cells = cells_fail (one_fed 1 2) (one_keyed 2) (one_order 2) not_folded;
      keyless = keyless_fail
          (record { fed_with_key = tt; each_once = tt })
          (record { from_list = (λ key is. let no : None ≡ Some key = is in absurd cc, tt); once = (tt, tt) })
          (record { in_order = tt; none_early = tt })
          tt not_keyless;
    }
