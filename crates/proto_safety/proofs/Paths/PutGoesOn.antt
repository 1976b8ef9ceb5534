-- What a Put writes stays so while items and entries come.
use Rattle.std.proofs.Common.{◌≡◌, ℕ, ◌≤◌, ◌<◌, List, [], ◌∷◌, ◌++◌, Some, arith, refl, sym, ◌∙◌, ap, subst, true, false, Bool, inl, inr, eq-eqb}
use Rattle.std.specs.Prelude.{◌==◌}
use Rattle.std.proofs.lemmas.Bool.{both_ways}
use Rattle.rp_base.specs.declared.node.Packet.{Packet}
use Rattle.rp_app.specs.Application.{Application, Delta}
use Rattle.proto_model.specs.Feeds.{Each, packet_at}
use Rattle.proto_model.specs.World.{Journaled}
use Rattle.rp_base.specs.declared.legality.Fed.{Fed}
use Rattle.proto_safety.specs.Books.{In}
use Rattle.proto_safety.proofs.Basics.NumberSplits.{below, at_number, none_at, all_below, below-push, at-push_other, at-push_same}
use Rattle.proto_safety.proofs.Serial.FlowSerial.{ran, PutIs, first_delta, packet_delta, rest_of}
use Rattle.proto_safety.proofs.Basics.Eachs.{each_append}
use Rattle.proto_safety.proofs.Basics.Members.{to_filter}

-- an item with a greater number
pub put_later_item : (app : Application) (fed : List Fed) (front js : List Journaled) (j : Journaled) (k : ℕ) (delta : Delta) → k < j.item.number → PutIs app fed front js k delta → PutIs app fed front (js ++ j ∷ []) k delta
put_later_item app fed front js j k delta lt h =
    let b : below k (js ++ j ∷ []) ≡ below k js = below-push k js j (omega arith) in
    let a : at_number k (js ++ j ∷ []) ≡ at_number k js = at-push_other k js j (λ e. absurd (omega arith)) in
    record { delta_is = rw (a, b) h.delta_is; clean = rw a h.clean }

-- a clean item with the number itself, behind all others
pub put_clean_item : (app : Application) (fed : List Fed) (front js : List Journaled) (j : Journaled) (p : Packet) (k : ℕ) (delta : Delta) → j.item.number ≡ k → j.item.dirty ≡ false → packet_at fed j.item.mark ≡ Some p →
    (app.plain (ran app fed (front ++ js)) p).0 ≡ [] → Each (λ (i : Journaled). i.item.number ≤ k) js → PutIs app fed front js k delta → PutIs app fed front (js ++ j ∷ []) k delta
put_clean_item app fed front js j p k delta is clean at empty above h =
    let b : below k (js ++ j ∷ []) ≡ below k js = below-push k js j (omega arith) in
    let a : at_number k (js ++ j ∷ []) ≡ at_number k js ++ j ∷ [] = at-push_same k js j is in
    items_case (at_number k js) refl a b
  where
    none_below : at_number k js ≡ [] → (l : List Journaled) → ((i : Journaled) → In l i → In js i) → Each (λ (i : Journaled). i.item.number ≤ k) l → Each (λ (i : Journaled). i.item.number < k) l
    none_below none [] sub h = tt
    none_below none (i ∷ l) sub h = (lt_case (i.item.number == k) refl, none_below none l (λ x m. sub x (inr m)) h.1)
      where
        lt_case : (t : Bool) → (i.item.number == k) ≡ t → i.item.number < k
        lt_case true e = absurd (subst (λ x. In x i) none (to_filter (λ (y : Journaled). y.item.number == k) js i (sub i (inl refl)) e))
        lt_case false e = let ne : (i.item.number ≡ k → ⊥) = λ q. both_ways _ e (eq-eqb i.item.number k q) in omega (arith, h.0)

    items_case : (xs : List Journaled) → at_number k js ≡ xs → at_number k (js ++ j ∷ []) ≡ at_number k js ++ j ∷ [] → below k (js ++ j ∷ []) ≡ below k js → PutIs app fed front (js ++ j ∷ []) k delta
    items_case [] none a b =
        let all : below k js ≡ js = all_below k js (none_below none js (λ i m. m) above) in
        let now : at_number k (js ++ j ∷ []) ≡ j ∷ [] = a ∙ ap (λ l. l ++ j ∷ []) none in
        let zero : delta ≡ [] = h.delta_is ∙ ap (λ l. first_delta app fed (ran app fed (front ++ below k js)) l) none in
        let first : first_delta app fed (ran app fed (front ++ js)) (j ∷ []) ≡ [] = ap (λ o. packet_delta app (ran app fed (front ++ js)) o) at ∙ empty in
        record { delta_is = zero ∙ sym (rw (now, b, all) first); clean = rw now tt }
    items_case (x ∷ xs) some a b =
        let now : at_number k (js ++ j ∷ []) ≡ x ∷ (xs ++ j ∷ []) = a ∙ ap (λ l. l ++ j ∷ []) some in
        let first : delta ≡ packet_delta app (ran app fed (front ++ below k js)) (packet_at fed x.item.mark) = h.delta_is ∙ ap (λ l. first_delta app fed (ran app fed (front ++ below k js)) l) some in
        let rest : Each (λ (i : Journaled). i.item.dirty ≡ false) xs = subst (λ l. Each (λ (i : Journaled). i.item.dirty ≡ false) (rest_of l)) some h.clean in
        record { delta_is = rw (now, b) first; clean = rw now (each_append (λ (i : Journaled). i.item.dirty ≡ false) xs (j ∷ []) rest (clean, tt)) }

-- the Put of a packet that is processed now
pub put_of_item : (app : Application) (fed : List Fed) (front js : List Journaled) (j : Journaled) (p : Packet) → packet_at fed j.item.mark ≡ Some p → Each (λ (i : Journaled). i.item.number < j.item.number) js →
    PutIs app fed front (js ++ j ∷ []) j.item.number (app.plain (ran app fed (front ++ js)) p).0
put_of_item app fed front js j p at lower =
    let b : below j.item.number (js ++ j ∷ []) ≡ js = below-push j.item.number js j (omega arith) ∙ all_below j.item.number js lower in
    let a : at_number j.item.number (js ++ j ∷ []) ≡ j ∷ [] = at-push_same j.item.number js j refl ∙ ap (λ l. l ++ j ∷ []) (none_at j.item.number js lower) in
    record { delta_is = sym (rw (a, b) (ap (λ o. packet_delta app (ran app fed (front ++ js)) o) at)); clean = rw a tt }

-- an empty Put, with a number that no item has
pub empty_put_is : (app : Application) (fed : List Fed) (front js : List Journaled) (k : ℕ) → Each (λ (i : Journaled). i.item.number < k) js → PutIs app fed front js k []
empty_put_is app fed front js k lower = let a : at_number k js ≡ [] = none_at k js lower in record { delta_is = sym (rw a refl); clean = rw a tt }
