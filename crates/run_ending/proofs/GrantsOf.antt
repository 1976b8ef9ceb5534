-- The epochs that a book grants to one flow.
use Rattle.std.proofs.Common.{◌≡◌, ℕ, [], ◌∷◌, ◌++◌, List, Option, Some, None, Bool, true, false, refl, sym, ap, ◌∙◌, append_assoc, append-nil}
use Rattle.std.specs.Prelude.{if◌then◌else◌, fold}
use Rattle.proto_data.specs.declared.message.Entry.{Entry}
use Rattle.key_table.specs.Table.{Key, get, put, same_key}
use Rattle.key_table.proofs.Tables.{same_key-true, get-put_same, get-put_other}
use Rattle.proto_model.specs.Records.{Booked}
use Rattle.proto_model.specs.Committed.{epoch_granted, epochs_of}
use Rattle.run_ending.specs.Endings.{Grants, granted_or_none, granted_to, with_grant, grants_of}

-- what is stored for one more grant of a flow
pub grant_stored : (t : Grants) (x : Entry) (k : Key) (e switch inc nonce : ℕ) (old new : List ℕ) → x ≡ Entry.Grant k e switch inc nonce → Some old ≡ get t k → new ≡ old ++ e ∷ [] → put t k new ≡ with_grant t x
grant_stored t x k e switch inc nonce old new is has made = ap (put t k) (made ∙ ap (λ o. granted_or_none o ++ e ∷ []) has) ∙ ap (with_grant t) (sym is)

abbrev listed : Option ℕ → List ℕ
listed None = []
listed (Some e) = e ∷ []

grant_found : (t : Grants) (x : Entry) (k : Key) → granted_to (with_grant t x) k ≡ granted_to t k ++ listed (epoch_granted k x)
grant_found t (Entry.Grant key e switch inc nonce) k = by (same_key key k) refl
  where
    by : (s : Bool) → same_key key k ≡ s → granted_to (put t key (granted_to t key ++ e ∷ [])) k ≡ granted_to t k ++ listed (if s then Some e else None)
    by true is =
        let same : key ≡ k = same_key-true key k is in
        ap (granted_to (put t key (granted_to t key ++ e ∷ []))) (sym same) ∙ ap granted_or_none (get-put_same t key (granted_to t key ++ e ∷ [])) ∙ ap (λ k. granted_to t k ++ e ∷ []) same
    by false is = ap granted_or_none (get-put_other t k key (granted_to t key ++ e ∷ []) is) ∙ sym (append-nil (granted_to t k))
grant_found t (Entry.Put key e number delta) k = sym (append-nil (granted_to t k))
grant_found t (Entry.Snap key e round cells) k = sym (append-nil (granted_to t k))

epochs_step : (k : Key) (b : Booked) (bs : List Booked) → listed (epoch_granted k b.entry) ++ epochs_of k bs ≡ epochs_of k (b ∷ bs)
epochs_step k b bs = by (epoch_granted k b.entry) refl
  where
    by : (o : Option ℕ) → epoch_granted k b.entry ≡ o → listed o ++ epochs_of k bs ≡ epochs_of k (b ∷ bs)
    by None is = rw is refl
    by (Some x) is = rw is refl

grants_from : (t : Grants) (book : List Booked) (k : Key) → granted_to (fold (λ g (b : Booked). with_grant g b.entry) t book) k ≡ granted_to t k ++ epochs_of k book
grants_from t [] k = sym (append-nil (granted_to t k))
grants_from t (b ∷ bs) k =
    grants_from (with_grant t b.entry) bs k
    ∙ ap (λ l. l ++ epochs_of k bs) (grant_found t b.entry k)
    ∙ append_assoc (granted_to t k) (listed (epoch_granted k b.entry)) (epochs_of k bs)
    ∙ ap (λ l. granted_to t k ++ l) (epochs_step k b bs)

-- what is noted as granted to a flow are its epochs
pub granted-same : (book : List Booked) (k : Key) → granted_to (grants_of book) k ≡ epochs_of k book
granted-same book k = grants_from [] book k
