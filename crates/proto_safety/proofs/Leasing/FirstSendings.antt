-- How the list of first sendings grows by a request: by one member where the request is new, and else not at all.
use Rattle.std.proofs.Common.{◌≡◌, ◌⊎◌, inl, inr, ℕ, List, [], ◌∷◌, ◌++◌, Option, Some, None, refl, sym, ap, ◌∙◌, true, false, Bool, eq-eqb, eqb-true, subst}
use Rattle.std.specs.Prelude.{◌||◌, if◌then◌else◌}
use Rattle.std.specs.List.{list_any}
use Rattle.std.proofs.lemmas.Bool.{and_parts, and_from, both_ways, false≢true}
use Rattle.proto_data.specs.declared.message.Msg.{Msg}
use Rattle.key_table.specs.Table.{Key}
use Rattle.proto_model.specs.Feeds.{Each}
use Rattle.proto_safety.specs.Books.{In}
use Rattle.proto_safety.specs.LeaseLaws.{Request, AskOf, NumberOf, First}
use Rattle.proto_safety.specs.Firsts.{request_of, same_request, is_made, with_request, with_sent}
use Rattle.key_table.proofs.Tables.{same_key-refl, same_key-true}
use Rattle.proto_safety.proofs.Basics.Members.{in_append, in_front, in_last}

same_request-refl : (r : Request) → same_request r r ≡ true
same_request-refl (AskOf i k) = and_from _ _ (eq-eqb i i refl) (eq-eqb k k refl)
same_request-refl (NumberOf e n) = and_from _ _ (eq-eqb e e refl) (eq-eqb n n refl)

same_request-true : (a b : Request) → same_request a b ≡ true → a ≡ b
same_request-true (AskOf i k) (AskOf j l) h =
    let first : i ≡ j = eqb-true i j (and_parts _ _ h).0 in
    let rest : k ≡ l = eqb-true k l (and_parts _ _ h).1 in rw (first, rest)
same_request-true (NumberOf e n) (NumberOf f m) h =
    let first : e ≡ f = eqb-true e f (and_parts _ _ h).0 in
    let rest : n ≡ m = eqb-true n m (and_parts _ _ h).1 in rw (first, rest)
same_request-true (AskOf i k) (NumberOf f m) h = absurd (false≢true h)
same_request-true (NumberOf e n) (AskOf j l) h = absurd (false≢true h)

-- switch s has made this request
pub record Made (fs : List First) (s : ℕ) (key : Key) (request : Request) : Type 0 where
  pub first : First
  pub there : In fs first
  pub switch_is : first.switch ≡ s
  pub key_is : first.key ≡ key
  pub request_is : first.request ≡ request

made_one : (s : ℕ) (key : Key) (request : Request) (f : First) → f.switch ≡ s → f.key ≡ key → f.request ≡ request → is_made s key request f ≡ true
made_one s key request f a b c = rw (a, b, c) (and_from _ _ (eq-eqb s s refl) (and_from _ _ (same_key-refl key) (same_request-refl request)))

any_made : (s : ℕ) (key : Key) (request : Request) (fs : List First) (f : First) → In fs f → is_made s key request f ≡ true → list_any (is_made s key request) fs ≡ true
any_made s key request [] f i is = absurd i
any_made s key request (x ∷ xs) f (inl e) is = rw (e, is) refl
any_made s key request (x ∷ xs) f (inr i) is = any_case (is_made s key request x) (any_made s key request xs f i is)
  where
    any_case : (b : Bool) → list_any (is_made s key request) xs ≡ true → (b || list_any (is_made s key request) xs) ≡ true
    any_case true h = refl
    any_case false h = h

pub made_any : (s : ℕ) (key : Key) (request : Request) (fs : List First) → list_any (is_made s key request) fs ≡ true → Made fs s key request
made_any s key request [] h = absurd (false≢true h)
made_any s key request (x ∷ xs) h = any_case (is_made s key request x) refl h (made_any s key request xs)
  where
    any_case : (b : Bool) → is_made s key request x ≡ b → (b || list_any (is_made s key request) xs) ≡ true → (list_any (is_made s key request) xs ≡ true → Made xs s key request) → Made (x ∷ xs) s key request
    any_case true is h rest =
        let parts = and_parts _ _ is in
        let more = and_parts _ _ parts.1 in
        record { first = x; there = inl refl; switch_is = eqb-true x.switch s parts.0; key_is = same_key-true x.key key more.0; request_is = same_request-true x.request request more.1 }
    any_case false is h rest =
        let m = rest h in record { first = m.first; there = inr m.there; switch_is = m.switch_is; key_is = m.key_is; request_is = m.request_is }

-- a request that none of these is, wasn't made
pub not_made : (s : ℕ) (key : Key) (request : Request) (fs : List First) → list_any (is_made s key request) fs ≡ false → Made fs s key request → ⊥
not_made s key request fs is m = both_ways (list_any (is_made s key request) fs) is (any_made s key request fs m.first m.there (made_one s key request m.first m.switch_is m.key_is m.request_is))

-- ---- one request

-- a request that was made before
pub stays : (s now : ℕ) (fs : List First) (key : Key) (request : Request) → Made fs s key request → with_request s now fs (Some (key, request)) ≡ fs
stays s now fs key request m = rw (any_made s key request fs m.first m.there (made_one s key request m.first m.switch_is m.key_is m.request_is)) refl

-- the first sending of a request that is new
abbrev pub sending : ℕ → ℕ → Key → Request → First
sending s now key request = record { switch = s; key = key; request = request; moment = now }

pub comes : (s now : ℕ) (fs : List First) (key : Key) (request : Request) → (Made fs s key request → ⊥) → with_request s now fs (Some (key, request)) ≡ fs ++ sending s now key request ∷ []
comes s now fs key request new = new_case (list_any (is_made s key request) fs) refl
  where
    new_case : (b : Bool) → list_any (is_made s key request) fs ≡ b → (if b then fs else fs ++ sending s now key request ∷ []) ≡ fs ++ sending s now key request ∷ []
    new_case true is = absurd (new (made_any s key request fs is))
    new_case false is = refl

-- what was there is there, and what is there was there or is the present request
pub request_keeps : (s now : ℕ) (fs : List First) (o : Option (Key × Request)) (f : First) → In fs f → In (with_request s now fs o) f
request_keeps s now fs None f i = i
request_keeps s now fs (Some r) f i = keep_case (list_any (is_made s r.0 r.1) fs)
  where
    keep_case : (b : Bool) → In (if b then fs else fs ++ sending s now r.0 r.1 ∷ []) f
    keep_case true = i
    keep_case false = in_front fs (sending s now r.0 r.1 ∷ []) f i

-- a new member: the present moment, and a request that was not made before
pub record IsNow (s now : ℕ) (fs : List First) (f : First) : Type 0 where
  pub switch_is : f.switch ≡ s
  pub moment_is : f.moment ≡ now
  pub new : Made fs s f.key f.request → ⊥

pub request_was : (s now : ℕ) (fs : List First) (r : Key × Request) (f : First) → In (with_request s now fs (Some r)) f → In fs f ⊎ (IsNow s now fs f × (f ≡ sending s now r.0 r.1))
request_was s now fs r f i = was_case (list_any (is_made s r.0 r.1) fs) refl i
  where
    last_case : list_any (is_made s r.0 r.1) fs ≡ false → In fs f ⊎ In (sending s now r.0 r.1 ∷ []) f → In fs f ⊎ (IsNow s now fs f × (f ≡ sending s now r.0 r.1))
    last_case is (inl there) = inl there
    last_case is (inr (inl e)) = inr (subst (λ (x : First). IsNow s now fs x × (x ≡ sending s now r.0 r.1)) e (record { switch_is = refl; moment_is = refl; new = not_made s r.0 r.1 fs is }, refl))
    last_case is (inr (inr j)) = absurd j

    was_case : (b : Bool) → list_any (is_made s r.0 r.1) fs ≡ b → In (if b then fs else fs ++ sending s now r.0 r.1 ∷ []) f → In fs f ⊎ (IsNow s now fs f × (f ≡ sending s now r.0 r.1))
    was_case true is i = inl i
    was_case false is i = last_case is (in_append fs (sending s now r.0 r.1 ∷ []) f i)

-- ---- several messages

pub sent_keeps : (s now : ℕ) (fs : List First) (ms : List Msg) (f : First) → In fs f → In (with_sent s now fs ms) f
sent_keeps s now fs [] f i = i
sent_keeps s now fs (m ∷ ms) f i = sent_keeps s now (with_request s now fs (request_of m.body)) ms f (request_keeps s now fs (request_of m.body) f i)

pub sent_append : (s now : ℕ) (fs : List First) (ms ns : List Msg) → with_sent s now fs (ms ++ ns) ≡ with_sent s now (with_sent s now fs ms) ns
sent_append s now fs [] ns = refl
sent_append s now fs (m ∷ ms) ns = sent_append s now (with_request s now fs (request_of m.body)) ms ns

-- messages whose requests were made before
abbrev pub MadeBefore : List First → ℕ → Msg → Type 0
MadeBefore fs s m = (r : Key × Request) → request_of m.body ≡ Some r → Made fs s r.0 r.1

pub sent_stays : (s now : ℕ) (fs : List First) (ms : List Msg) → Each (MadeBefore fs s) ms → with_sent s now fs ms ≡ fs
sent_stays s now fs [] h = refl
sent_stays s now fs (m ∷ ms) h = ap (λ (gs : List First). with_sent s now gs ms) (one_stays (request_of m.body) h.0) ∙ sent_stays s now fs ms h.1
  where
    one_stays : (o : Option (Key × Request)) → ((r : Key × Request) → o ≡ Some r → Made fs s r.0 r.1) → with_request s now fs o ≡ fs
    one_stays None k = refl
    one_stays (Some r) k = stays s now fs r.0 r.1 (k r refl)

-- what is there was there, or is a request of one of the messages
pub record SentNow (s now : ℕ) (fs : List First) (ms : List Msg) (f : First) : Type 0 where
  pub switch_is : f.switch ≡ s
  pub moment_is : f.moment ≡ now
  pub new : Made fs s f.key f.request → ⊥
  pub msg : Msg
  pub there : In ms msg
  pub request_is : request_of msg.body ≡ Some (f.key, f.request)

pub sent_was : (s now : ℕ) (fs : List First) (ms : List Msg) (f : First) → In (with_sent s now fs ms) f → In fs f ⊎ SentNow s now fs ms f
sent_was s now fs [] f i = inl i
sent_was s now fs (m ∷ ms) f i = later_case (sent_was s now (with_request s now fs (request_of m.body)) ms f i)
  where
    made_later : (o : Option (Key × Request)) (key : Key) (request : Request) → Made fs s key request → Made (with_request s now fs o) s key request
    made_later o key request k = record { first = k.first; there = request_keeps s now fs o k.first k.there; switch_is = k.switch_is; key_is = k.key_is; request_is = k.request_is }

    here_case : (o : Option (Key × Request)) → request_of m.body ≡ o → In (with_request s now fs o) f → In fs f ⊎ SentNow s now fs (m ∷ ms) f
    here_case None is i = inl i
    here_case (Some r) is i = now_case (request_was s now fs r f i)
      where
        now_case : In fs f ⊎ (IsNow s now fs f × (f ≡ sending s now r.0 r.1)) → In fs f ⊎ SentNow s now fs (m ∷ ms) f
        now_case (inl there) = inl there
        now_case (inr n) =
            inr (record {
              switch_is = n.0.switch_is;
              moment_is = n.0.moment_is;
              new = n.0.new;
              msg = m;
              there = inl refl;
              request_is = is ∙ rw n.1 refl;
            })

    later_case : In (with_request s now fs (request_of m.body)) f ⊎ SentNow s now (with_request s now fs (request_of m.body)) ms f → In fs f ⊎ SentNow s now fs (m ∷ ms) f
    later_case (inl i) = here_case (request_of m.body) refl i
    later_case (inr k) =
        inr (record {
          switch_is = k.switch_is;
          moment_is = k.moment_is;
          new = λ d. k.new (made_later (request_of m.body) f.key f.request d);
          msg = k.msg;
          there = inr k.there;
          request_is = k.request_is;
        })

-- each message's request was made before or is made now
pub sent_made : (s now : ℕ) (fs : List First) (ms : List Msg) (m : Msg) (r : Key × Request) → In ms m → request_of m.body ≡ Some r → Made (with_sent s now fs ms) s r.0 r.1
sent_made s now fs [] m r i is = absurd i
sent_made s now fs (x ∷ xs) m r (inl e) is =
    let made : Made (with_request s now fs (request_of x.body)) s r.0 r.1 = subst (λ (o : Option (Key × Request)). Made (with_request s now fs o) s r.0 r.1) (sym (ap (λ (y : Msg). request_of y.body) e ∙ is)) (now_made (list_any (is_made s r.0 r.1) fs) refl) in
    record { first = made.first; there = sent_keeps s now (with_request s now fs (request_of x.body)) xs made.first made.there; switch_is = made.switch_is; key_is = made.key_is; request_is = made.request_is }
  where
    now_made : (b : Bool) → list_any (is_made s r.0 r.1) fs ≡ b → Made (if b then fs else fs ++ sending s now r.0 r.1 ∷ []) s r.0 r.1
    now_made true t = made_any s r.0 r.1 fs t
    now_made false t = record { first = sending s now r.0 r.1; there = in_last fs (sending s now r.0 r.1); switch_is = refl; key_is = refl; request_is = refl }
sent_made s now fs (x ∷ xs) m r (inr i) is = sent_made s now (with_request s now fs (request_of x.body)) xs m r i is
