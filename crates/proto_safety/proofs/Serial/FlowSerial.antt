-- The cells of one flow as the fold of its items: what is committed, what each item saw, and what a Put writes.
use Rattle.std.proofs.Common.{◌≡◌, ◌⊎◌, ℕ, List, [], ◌∷◌, ◌++◌, Option, Some, None, refl, sym, ◌∙◌, ap, subst, append-nil, append_assoc, true, false, inl, inr, map}
use Rattle.std.specs.Prelude.{not}
use Rattle.std.proofs.lemmas.Bool.{both_ways}
use Rattle.std.proofs.lemmas.Grind.{fold-append}
use Rattle.std.proofs.lemmas.List.{map-append}
use Rattle.std.proofs.lemmas.List.Elements.{filter_map-append}
use Rattle.rp_base.specs.declared.node.Packet.{Packet}
use Rattle.rp_app.specs.Application.{Application, Delta, after, after_one, written, zeros}
use Rattle.key_table.specs.Table.{Key}
use Rattle.proto_model.specs.Feeds.{Each, packet_at, packets_at}
use Rattle.proto_model.specs.SwitchRow.{is_clean}
use Rattle.proto_model.specs.World.{Journaled}
use Rattle.rp_base.specs.declared.legality.Fed.{Fed}
use Rattle.proto_safety.proofs.Basics.NumberSplits.{below, at_number}
use Rattle.proto_safety.proofs.Basics.Lists.{last_or}

-- ---- packets of items, and cells after them

abbrev pub packs : List Fed → List Journaled → List Packet
packs fed js = packets_at fed (map (λ (j : Journaled). j.item.mark) js)

abbrev pub ran : Application → List Fed → List Journaled → List ℕ
ran app fed js = after app (zeros app.cell_count) (packs fed js)

pub packs-append : (fed : List Fed) (xs ys : List Journaled) → packs fed (xs ++ ys) ≡ packs fed xs ++ packs fed ys
packs-append fed xs ys = ap (λ l. packets_at fed l) (map-append (λ (j : Journaled). j.item.mark) xs ys) ∙ filter_map-append (packet_at fed) (map (λ (j : Journaled). j.item.mark) xs) (map (λ (j : Journaled). j.item.mark) ys)

pub ran-append : (app : Application) (fed : List Fed) (xs ys : List Journaled) → ran app fed (xs ++ ys) ≡ after app (ran app fed xs) (packs fed ys)
ran-append app fed xs ys = ap (λ l. after app (zeros app.cell_count) l) (packs-append fed xs ys) ∙ fold-append (after_one app) (zeros app.cell_count) (packs fed xs) (packs fed ys)

packs_one : (fed : List Fed) (j : Journaled) (p : Packet) → packet_at fed j.item.mark ≡ Some p → packs fed (j ∷ []) ≡ p ∷ []
packs_one fed j p at = rw at refl

pub ran-push : (app : Application) (fed : List Fed) (xs : List Journaled) (j : Journaled) (p : Packet) → packet_at fed j.item.mark ≡ Some p → ran app fed (xs ++ j ∷ []) ≡ written (ran app fed xs) (app.plain (ran app fed xs) p).0
ran-push app fed xs j p at = ran-append app fed xs (j ∷ []) ∙ ap (λ l. after app (ran app fed xs) l) (packs_one fed j p at)

-- ---- what an item saw

-- an item was made of its packet in the cells after these items
pub record MadeIn (app : Application) (fed : List Fed) (key : Key) (before : List Journaled) (j : Journaled) : Type 0 where
  pub packet : Packet
  pub fed_at : packet_at fed j.item.mark ≡ Some packet
  pub key_is : app.key_of packet ≡ Some key
  pub output_is : j.output ≡ (app.plain (ran app fed before) packet).1
  pub dirty_is : j.item.dirty ≡ not (is_clean (app.plain (ran app fed before) packet).0)

clean_empty : (d : Delta) → not (is_clean d) ≡ false → d ≡ []
clean_empty [] h = refl
clean_empty (x ∷ xs) h = absurd (both_ways true h refl)

-- a clean item changes nothing
pub clean_same : (app : Application) (fed : List Fed) (key : Key) (before : List Journaled) (j : Journaled) → MadeIn app fed key before j → j.item.dirty ≡ false → ran app fed (before ++ j ∷ []) ≡ ran app fed before
clean_same app fed key before j m clean =
    let empty : (app.plain (ran app fed before) m.packet).0 ≡ [] = clean_empty _ (sym m.dirty_is ∙ clean) in
    ran-push app fed before j m.packet m.fed_at ∙ ap (λ d. written (ran app fed before) d) empty

-- each item, at its place
pub record EachMade (app : Application) (fed : List Fed) (key : Key) (front js : List Journaled) : Type 0 where
  pub at : (pre : List Journaled) (j : Journaled) (post : List Journaled) → js ≡ pre ++ j ∷ post → MadeIn app fed key (front ++ pre) j

-- clean items in a row change nothing
pub clean_run : (app : Application) (fed : List Fed) (key : Key) (front all pre js post : List Journaled) → EachMade app fed key front all → all ≡ pre ++ (js ++ post) → Each (λ (j : Journaled). j.item.dirty ≡ false) js →
    ran app fed (front ++ (pre ++ js)) ≡ ran app fed (front ++ pre)
clean_run app fed key front all pre [] post made is clean = ap (λ l. ran app fed (front ++ l)) (append-nil pre)
clean_run app fed key front all pre (j ∷ js) post made is clean =
    let one : ran app fed ((front ++ pre) ++ j ∷ []) ≡ ran app fed (front ++ pre) = clean_same app fed key (front ++ pre) j (made.at pre j (js ++ post) is) clean.0 in
    ap (λ l. ran app fed (front ++ l)) (sym (append_assoc pre (j ∷ []) js))
    ∙ (clean_run app fed key front all (pre ++ j ∷ []) js post made (is ∙ sym (append_assoc pre (j ∷ []) (js ++ post))) clean.1
    ∙ (ap (λ l. ran app fed l) (sym (append_assoc front pre (j ∷ []))) ∙ one))

-- ---- what a Put writes

abbrev pub packet_delta : Application → List ℕ → Option Packet → Delta
packet_delta app cells None = []
packet_delta app cells (Some p) = (app.plain cells p).0

-- the delta of the first of these items, in these cells
abbrev pub first_delta : Application → List Fed → List ℕ → List Journaled → Delta
first_delta app fed cells [] = []
first_delta app fed cells (j ∷ js) = packet_delta app cells (packet_at fed j.item.mark)

abbrev pub rest_of : List Journaled → List Journaled
rest_of [] = []
rest_of (j ∷ js) = js

-- The Put of this number: its delta is that of the first item with the number, in the cells before it, and the further ones are clean; without an item it is empty.
pub record PutIs (app : Application) (fed : List Fed) (front js : List Journaled) (k : ℕ) (delta : Delta) : Type 0 where
  pub delta_is : delta ≡ first_delta app fed (ran app fed (front ++ below k js)) (at_number k js)
  pub clean : Each (λ (j : Journaled). j.item.dirty ≡ false) (rest_of (at_number k js))

-- the items of a Put write its delta
pub put_writes : (app : Application) (fed : List Fed) (key : Key) (front js post : List Journaled) (k : ℕ) (delta : Delta) → EachMade app fed key front js → js ≡ below k js ++ (at_number k js ++ post) → PutIs app fed front js k delta →
    ran app fed (front ++ (below k js ++ at_number k js)) ≡ written (ran app fed (front ++ below k js)) delta
put_writes app fed key front js post k delta made is put = items_case (at_number k js) refl
  where
    items_case : (xs : List Journaled) → at_number k js ≡ xs → ran app fed (front ++ (below k js ++ at_number k js)) ≡ written (ran app fed (front ++ below k js)) delta
    items_case [] none =
        let empty : delta ≡ [] = put.delta_is ∙ ap (λ l. first_delta app fed (ran app fed (front ++ below k js)) l) none in
        ap (λ l. ran app fed (front ++ (below k js ++ l))) none ∙ (ap (λ l. ran app fed (front ++ l)) (append-nil (below k js)) ∙ ap (λ d. written (ran app fed (front ++ below k js)) d) (sym empty))
    items_case (x ∷ xs) some =
        let whole : js ≡ below k js ++ (x ∷ (xs ++ post)) = is ∙ ap (λ l. below k js ++ (l ++ post)) some in
        let m = made.at (below k js) x (xs ++ post) whole in
        let first : delta ≡ (app.plain (ran app fed (front ++ below k js)) m.packet).0 =
        put.delta_is ∙ (ap (λ l. first_delta app fed (ran app fed (front ++ below k js)) l) some ∙ ap (λ o. packet_delta app (ran app fed (front ++ below k js)) o) m.fed_at) in
        let rest : Each (λ (j : Journaled). j.item.dirty ≡ false) xs = subst (λ l. Each (λ (j : Journaled). j.item.dirty ≡ false) (rest_of l)) some put.clean in
        ap (λ l. ran app fed (front ++ (below k js ++ l))) some
        ∙ (ap (λ l. ran app fed (front ++ l)) (sym (append_assoc (below k js) (x ∷ []) xs))
        ∙ (clean_run app fed key front js (below k js ++ x ∷ []) xs post made (whole ∙ sym (append_assoc (below k js) (x ∷ []) (xs ++ post))) rest
        ∙ (ap (λ l. ran app fed l) (sym (append_assoc front (below k js) (x ∷ [])))
        ∙ (ran-push app fed (front ++ below k js) x m.packet m.fed_at ∙ ap (λ d. written (ran app fed (front ++ below k js)) d) (sym first)))))

-- ---- one more item

pub made-push : (app : Application) (fed : List Fed) (key : Key) (front js : List Journaled) (j : Journaled) → EachMade app fed key front js → MadeIn app fed key (front ++ js) j → EachMade app fed key front (js ++ j ∷ [])
made-push app fed key front js j h m = record { at = λ pre i post is. place_case pre i (last_or js pre post j i is) }
  where
    place_case : (pre : List Journaled) (i : Journaled) → ((js ≡ pre) × (j ≡ i)) ⊎ ((rest : List Journaled) × (js ≡ pre ++ i ∷ rest)) → MadeIn app fed key (front ++ pre) i
    place_case pre i (inl e) = subst (λ (x : Journaled). MadeIn app fed key (front ++ pre) x) e.1 (subst (λ l. MadeIn app fed key (front ++ l) j) e.0 m)
    place_case pre i (inr e) = h.at pre i e.0 e.1
