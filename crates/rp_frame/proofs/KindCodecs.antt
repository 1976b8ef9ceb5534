-- The fields of each kind of message are read as they are spelled.
use Rattle.std.proofs.Common.{◌≡◌, ℕ, ◌+◌, ◌≤◌, ◌<◌, List, [], ◌∷◌, ◌++◌, length, drop, Bool, true, cond, leb, ltb, eqb, ◌&&◌, Option, Ok, arith, refl, sym, ap, ◌∙◌, append_assoc, lit<}
use Rattle.std.specs.List.{list_all, flat_map}
use Rattle.std.proofs.lemmas.Bool.{cond_both, ltb-true, lt-ltb, leb-true, le-leb, eqb-true, eqb-false, eq-eqb, and_parts, and_from}
use Rattle.proto_data.specs.declared.message.Carried.{Carried}
use Rattle.proto_data.specs.declared.message.Entry.{Entry}
use Rattle.proto_data.specs.declared.message.Echoed.{Echoed}
use Rattle.proto_data.specs.declared.message.Body.{Body}
use Rattle.rp_app.specs.Application.{rising}
use Rattle.proto_data.specs.MessageFits.{is_u32, mark_fits}
use Rattle.rp_frame.specs.Spelling.{number_bytes, key_bytes, cells_bytes, delta_bytes, load_bytes, mark_bytes, entry_bytes, echoed_bytes, kind}
use Rattle.rp_frame.specs.Reading.{Reader, ◌>>=◌, byte, load, mark, members, grant_entry, put_entry, snap_entry, entry, ask_echo, put_echo, echoed, chain, ask, grant, busy, put, ack, deny, forward, have, echo, config, snap, body}
use Rattle.rp_frame.proofs.Codecs.{IsBytes, Codec, chained, recoded, restated}
use Rattle.rp_frame.proofs.PartCodecs.{InByte, byte_is, in_byte, byte_bounds, members_are, fit_from}
use Rattle.rp_frame.proofs.Forms.{Field, Form, form1, form2, form3, form4, form5, form6, more, Chosen, chosen}
use Rattle.rp_frame.proofs.Choices.{tagged, num, key_field, KeyTest, switch_field, delta_field, DeltaTest, cells_field, CellsTest, LoadTest, load_is, mark_is}

abbrev load_field : Field (Option Carried)
load_field = record { r = load; s = load_bytes; F = LoadTest; is = load_is }

abbrev mark_field : Field (Option ℕ)
mark_field = record { r = mark; s = mark_bytes; F = mark_fits; is = mark_is }

abbrev all_cells : Field (List ℕ)
all_cells = cells_field 256 (lit< tt)

-- ---- entries

abbrev entry_tag : Entry → ℕ
entry_tag (Entry.Grant k e s i n) = 1
entry_tag (Entry.Put k e n d) = 2
entry_tag (Entry.Snap k e r c) = 3

abbrev entry_text : Entry → List ℕ
entry_text (Entry.Grant k e s i n) = key_bytes k ++ (number_bytes e ++ ((s ∷ []) ++ (number_bytes i ++ number_bytes n)))
entry_text (Entry.Put k e n d) = key_bytes k ++ (number_bytes e ++ (number_bytes n ++ delta_bytes d))
entry_text (Entry.Snap k e r c) = key_bytes k ++ (number_bytes e ++ (number_bytes r ++ cells_bytes c))

abbrev pub entry_test : Entry → Bool
entry_test (Entry.Grant k e s i n) = KeyTest k && (is_u32 e && (InByte 0 7 s && (is_u32 i && is_u32 n)))
entry_test (Entry.Put k e n d) = KeyTest k && (is_u32 e && (is_u32 n && DeltaTest d))
entry_test (Entry.Snap k e r c) = KeyTest k && (is_u32 e && (is_u32 r && CellsTest 256 c))

abbrev grant_entry_form : Form Entry
grant_entry_form = form5 key_field num switch_field num num Entry.Grant

abbrev put_entry_form : Form Entry
put_entry_form = form4 key_field num num delta_field Entry.Put

abbrev snap_entry_form : Form Entry
snap_entry_form = form4 key_field num num all_cells Entry.Snap

abbrev entry_by : ℕ → Reader Entry
entry_by sort = cond (eqb sort 1) grant_entry (cond (eqb sort 2) put_entry snap_entry)

entry_takes : (k at : ℕ) (bytes : List ℕ) (y : Entry) (next : ℕ) → IsBytes bytes → 1 ≤ k → k ≤ 3 → entry_by k at bytes ≡ Ok (y, next) → Chosen entry_tag entry_text entry_test k at bytes y next
unfolding grant_entry put_entry snap_entry
entry_takes k at bytes y next fits low high =
    cond_both (eqb k 1) grant_entry (cond (eqb k 2) put_entry snap_entry) (λ (r : Reader Entry). r at bytes ≡ Ok (y, next) → Chosen entry_tag entry_text entry_test k at bytes y next)
    (λ z e. chosen grant_entry_form entry_tag entry_text entry_test k at bytes y next (λ x. sym (eqb-true k 1 z)) (λ x. refl) (λ x f. f) fits e)
    (λ z. cond_both (eqb k 2) put_entry snap_entry (λ (r : Reader Entry). r at bytes ≡ Ok (y, next) → Chosen entry_tag entry_text entry_test k at bytes y next)
    (λ w e. chosen put_entry_form entry_tag entry_text entry_test k at bytes y next (λ x. sym (eqb-true k 2 w)) (λ x. refl) (λ x f. f) fits e)
    (λ w e.
    let one : k ≡ 1 → ⊥ = eqb-false k 1 z in
    let two : k ≡ 2 → ⊥ = eqb-false k 2 w in
    let three : 3 ≡ k = omega arith in
    chosen snap_entry_form entry_tag entry_text entry_test k at bytes y next (λ x. three) (λ x. refl) (λ x f. f) fits e))

entry_again : (at : ℕ) (bytes rest : List ℕ) (y : Entry) → entry_test y ≡ true → drop at bytes ≡ entry_text y ++ rest → entry_by (entry_tag y) at bytes ≡ Ok (y, at + length (entry_text y))
unfolding grant_entry put_entry snap_entry
entry_again at bytes rest (Entry.Grant k e s i n) f h = grant_entry_form.is.again at bytes rest (k, (e, (s, (i, n)))) f h
entry_again at bytes rest (Entry.Put k e n d) f h = put_entry_form.is.again at bytes rest (k, (e, (n, d))) f h
entry_again at bytes rest (Entry.Snap k e r c) f h = snap_entry_form.is.again at bytes rest (k, (e, (r, c))) f h

entry_sorts : (y : Entry) → InByte 1 3 (entry_tag y) ≡ true
entry_sorts (Entry.Grant k e s i n) = refl
entry_sorts (Entry.Put k e n d) = refl
entry_sorts (Entry.Snap k e r c) = refl

entry_same : (y : Entry) → entry_bytes y ≡ entry_tag y ∷ entry_text y
entry_same (Entry.Grant k e s i n) = simp append_assoc
entry_same (Entry.Put k e n d) = simp append_assoc
entry_same (Entry.Snap k e r c) = simp append_assoc

entry_is : Codec entry entry_bytes entry_test
unfolding entry
entry_is = restated (byte 1 3 >>= entry_by) (λ (y : Entry). y) (λ y. entry_tag y ∷ entry_text y) entry_test entry_bytes entry_test entry_same (λ y. refl) (tagged 1 3 entry_by entry_tag entry_text entry_test entry_takes entry_again entry_sorts)

abbrev entry_field : Field Entry
entry_field = record { r = entry; s = entry_bytes; F = entry_test; is = entry_is }

-- ---- echoes

abbrev echoed_tag : Echoed → ℕ
echoed_tag (Echoed.Ask s i n k) = 1
echoed_tag (Echoed.Put s e n k) = 2

abbrev echoed_text : Echoed → List ℕ
echoed_text (Echoed.Ask s i n k) = (s ∷ []) ++ (number_bytes i ++ (number_bytes n ++ key_bytes k))
echoed_text (Echoed.Put s e n k) = (s ∷ []) ++ (number_bytes e ++ (number_bytes n ++ key_bytes k))

abbrev pub echoed_test : Echoed → Bool
echoed_test (Echoed.Ask s i n k) = InByte 0 7 s && (is_u32 i && (is_u32 n && KeyTest k))
echoed_test (Echoed.Put s e n k) = InByte 0 7 s && (is_u32 e && (is_u32 n && KeyTest k))

abbrev ask_echo_form : Form Echoed
ask_echo_form = form4 switch_field num num key_field Echoed.Ask

abbrev put_echo_form : Form Echoed
put_echo_form = form4 switch_field num num key_field Echoed.Put

abbrev echoed_by : ℕ → Reader Echoed
echoed_by sort = cond (eqb sort 1) ask_echo put_echo

echoed_takes : (k at : ℕ) (bytes : List ℕ) (y : Echoed) (next : ℕ) → IsBytes bytes → 1 ≤ k → k ≤ 2 → echoed_by k at bytes ≡ Ok (y, next) → Chosen echoed_tag echoed_text echoed_test k at bytes y next
unfolding ask_echo put_echo
echoed_takes k at bytes y next fits low high =
    cond_both (eqb k 1) ask_echo put_echo (λ (r : Reader Echoed). r at bytes ≡ Ok (y, next) → Chosen echoed_tag echoed_text echoed_test k at bytes y next)
    (λ z e. chosen ask_echo_form echoed_tag echoed_text echoed_test k at bytes y next (λ x. sym (eqb-true k 1 z)) (λ x. refl) (λ x f. f) fits e)
    (λ z e. let one : k ≡ 1 → ⊥ = eqb-false k 1 z in let two : 2 ≡ k = omega arith in chosen put_echo_form echoed_tag echoed_text echoed_test k at bytes y next (λ x. two) (λ x. refl) (λ x f. f) fits e)

echoed_again : (at : ℕ) (bytes rest : List ℕ) (y : Echoed) → echoed_test y ≡ true → drop at bytes ≡ echoed_text y ++ rest → echoed_by (echoed_tag y) at bytes ≡ Ok (y, at + length (echoed_text y))
unfolding ask_echo put_echo
echoed_again at bytes rest (Echoed.Ask s i n k) f h = ask_echo_form.is.again at bytes rest (s, (i, (n, k))) f h
echoed_again at bytes rest (Echoed.Put s e n k) f h = put_echo_form.is.again at bytes rest (s, (e, (n, k))) f h

echoed_sorts : (y : Echoed) → InByte 1 2 (echoed_tag y) ≡ true
echoed_sorts (Echoed.Ask s i n k) = refl
echoed_sorts (Echoed.Put s e n k) = refl

echoed_same : (y : Echoed) → echoed_bytes y ≡ echoed_tag y ∷ echoed_text y
echoed_same (Echoed.Ask s i n k) = refl
echoed_same (Echoed.Put s e n k) = refl

echoed_is : Codec echoed echoed_bytes echoed_test
unfolding echoed
echoed_is = restated (byte 1 2 >>= echoed_by) (λ (y : Echoed). y) (λ y. echoed_tag y ∷ echoed_text y) echoed_test echoed_bytes echoed_test echoed_same (λ y. refl) (tagged 1 2 echoed_by echoed_tag echoed_text echoed_test echoed_takes echoed_again echoed_sorts)

abbrev echoed_field : Field Echoed
echoed_field = record { r = echoed; s = echoed_bytes; F = echoed_test; is = echoed_is }

-- ---- configurations

abbrev chain_step : ℕ → ℕ
chain_step b = b + 1

abbrev chain_fit : ℕ → List ℕ → Bool
chain_fit = fit_from (λ low. byte low 4) chain_step (λ n. n ∷ []) (λ low b. InByte low 4 b)

abbrev pub chain_test : List ℕ → Bool
chain_test c = leb 1 (length c) && (leb (length c) 5 && (rising c && list_all (λ n. ltb n 5) c))

-- what two tests say of a chain
record Tested (c : List ℕ) : Type 0 where
  rise : rising c ≡ true
  below : list_all (λ n. ltb n 5) c ≡ true

tested_from : (low : ℕ) (c : List ℕ) → chain_fit low c ≡ true → Tested c
tested_from low [] f = record { rise = refl; below = refl }
tested_from low (x ∷ []) f =
    let b = byte_bounds low 4 x (and_parts (InByte low 4 x) true f).0 in
    record { rise = refl; below = and_from (ltb x 5) true (lt-ltb x 5 (omega (arith, b.1))) refl }
tested_from low (x ∷ y ∷ ys) f =
    let a = and_parts (InByte low 4 x) (chain_fit (x + 1) (y ∷ ys)) f in
    let b = byte_bounds low 4 x a.0 in
    let n = byte_bounds (x + 1) 4 y (and_parts (InByte (x + 1) 4 y) (chain_fit (y + 1) ys) a.1).0 in
    let t = tested_from (x + 1) (y ∷ ys) a.1 in
    record { rise = and_from _ _ (lt-ltb x y (omega (arith, n.0))) t.rise; below = and_from _ _ (lt-ltb x 5 (omega (arith, b.1))) t.below }

fit_tested : (low x : ℕ) (xs : List ℕ) → low ≤ x → Tested (x ∷ xs) → chain_fit low (x ∷ xs) ≡ true
fit_tested low x [] l t =
    let b : x < 5 = ltb-true x 5 (and_parts (ltb x 5) true t.below).0 in
    and_from (InByte low 4 x) true (in_byte low 4 x l (omega arith) (omega arith)) refl
fit_tested low x (y ∷ ys) l t =
    let r = and_parts (ltb x y) (rising (y ∷ ys)) t.rise in
    let w = and_parts (ltb x 5) (list_all (λ n. ltb n 5) (y ∷ ys)) t.below in
    let b : x < 5 = ltb-true x 5 w.0 in
    let up : x < y = ltb-true x y r.0 in
    and_from (InByte low 4 x) (chain_fit (x + 1) (y ∷ ys)) (in_byte low 4 x l (omega arith) (omega arith)) (fit_tested (x + 1) y ys (omega arith) (record { rise = r.1; below = w.1 }))

fit_chain : (c : List ℕ) → Tested c → chain_fit 0 c ≡ true
fit_chain [] t = refl
fit_chain (x ∷ xs) t = fit_tested 0 x xs (omega arith) t

flat_bytes : (c : List ℕ) → flat_map (λ (n : ℕ). n ∷ []) c ≡ c
flat_bytes [] = refl
flat_bytes (x ∷ xs) = ap (λ (l : List ℕ). x ∷ l) (flat_bytes xs)

chain_is : Codec chain (λ c. length c ∷ c) chain_test
unfolding chain
chain_is =
    recoded (byte 1 5 >>= λ n. members (λ low. byte low 4) chain_step 0 n) (λ (p : ℕ × List ℕ). p.1) (λ p. p.0 ∷ flat_map (λ (n : ℕ). n ∷ []) p.1) (λ p. InByte 1 5 p.0 && (eqb (length p.1) p.0 && chain_fit 0 p.1))
    (λ (c : List ℕ). c) (λ c. length c ∷ c) chain_test (λ p. p.1) (λ c. (length c, c))
    (λ p f.
    let a = and_parts _ _ f in
    let b = and_parts _ _ a.1 in
    let bounds = byte_bounds 1 5 p.0 a.0 in
    let size : length p.1 ≡ p.0 = eqb-true (length p.1) p.0 b.0 in
    let low : 1 ≤ length p.1 = omega (arith, bounds.0) in
    let high : length p.1 ≤ 5 = omega (arith, bounds.1) in
    let t = tested_from 0 p.1 b.1 in (
      refl,
      ap (λ (n : ℕ). n ∷ p.1) size ∙ ap (λ (l : List ℕ). p.0 ∷ l) (sym (flat_bytes p.1)),
      and_from _ _ (le-leb 1 (length p.1) low) (and_from _ _ (le-leb (length p.1) 5 high) (and_from _ _ t.rise t.below)),
    ))
    (λ c f.
    let a = and_parts _ _ f in
    let b = and_parts _ _ a.1 in
    let d = and_parts _ _ b.1 in
    let low : 1 ≤ length c = leb-true 1 (length c) a.0 in
    let high : length c ≤ 5 = leb-true (length c) 5 b.0 in (
      refl,
      ap (λ (l : List ℕ). length c ∷ l) (flat_bytes c),
      and_from _ _ (in_byte 1 5 (length c) low high (omega arith)) (and_from _ _ (eq-eqb (length c) (length c) refl) (fit_chain c (record { rise = d.0; below = d.1 }))),
    ))
    (chained (byte 1 5) (λ n. members (λ low. byte low 4) chain_step 0 n) (λ n. n ∷ []) (InByte 1 5) (λ n c. c) (λ n c. flat_map (λ (n : ℕ). n ∷ []) c) (λ n c. eqb (length c) n && chain_fit 0 c) (byte_is 1 5)
    (λ n. members_are (λ low. byte low 4) chain_step (λ n. n ∷ []) (λ low b. InByte low 4 b) 0 (λ low. byte_is low 4) n 0))

abbrev chain_field : Field (List ℕ)
chain_field = record { r = chain; s = λ c. length c ∷ c; F = chain_test; is = chain_is }

-- ---- kinds

-- the fields of each kind, one behind the other
abbrev pub body_text : Body → List ℕ
body_text (Body.Ask i n k l) = number_bytes i ++ (number_bytes n ++ (key_bytes k ++ load_bytes l))
body_text (Body.Grant i n e k c l) = number_bytes i ++ (number_bytes n ++ (number_bytes e ++ (key_bytes k ++ (cells_bytes c ++ load_bytes l))))
body_text (Body.Busy i n k m) = number_bytes i ++ (number_bytes n ++ (key_bytes k ++ mark_bytes m))
body_text (Body.Put i e n k d l) = number_bytes i ++ (number_bytes e ++ (number_bytes n ++ (key_bytes k ++ (delta_bytes d ++ load_bytes l))))
body_text (Body.Ack i e u k l) = number_bytes i ++ (number_bytes e ++ (number_bytes u ++ (key_bytes k ++ load_bytes l)))
body_text (Body.Deny i e k) = number_bytes i ++ (number_bytes e ++ key_bytes k)
body_text (Body.Forward c i e l) = number_bytes c ++ (number_bytes i ++ (entry_bytes e ++ load_bytes l))
body_text (Body.Have i) = number_bytes i
body_text (Body.Echo of l) = echoed_bytes of ++ load_bytes l
body_text (Body.Config c) = number_bytes c.number ++ (length c.chain ∷ c.chain)
body_text (Body.Snap i e r k c n cs) = number_bytes i ++ (number_bytes e ++ (number_bytes r ++ (key_bytes k ++ ((c ∷ []) ++ ((n ∷ []) ++ cells_bytes cs)))))

abbrev pub body_test : Body → Bool
body_test (Body.Ask i n k l) = is_u32 i && (is_u32 n && (KeyTest k && LoadTest l))
body_test (Body.Grant i n e k c l) = is_u32 i && (is_u32 n && (is_u32 e && (KeyTest k && (CellsTest 256 c && LoadTest l))))
body_test (Body.Busy i n k m) = is_u32 i && (is_u32 n && (KeyTest k && mark_fits m))
body_test (Body.Put i e n k d l) = is_u32 i && (is_u32 e && (is_u32 n && (KeyTest k && (DeltaTest d && LoadTest l))))
body_test (Body.Ack i e u k l) = is_u32 i && (is_u32 e && (is_u32 u && (KeyTest k && LoadTest l)))
body_test (Body.Deny i e k) = is_u32 i && (is_u32 e && KeyTest k)
body_test (Body.Forward c i e l) = is_u32 c && (is_u32 i && (entry_test e && LoadTest l))
body_test (Body.Have i) = is_u32 i
body_test (Body.Echo of l) = echoed_test of && LoadTest l
body_test (Body.Config c) = is_u32 c.number && chain_test c.chain
body_test (Body.Snap i e r k c n cs) = is_u32 i && (is_u32 e && (is_u32 r && (KeyTest k && (InByte 0 7 c && (InByte (c + 1) 8 n && CellsTest 32 cs)))))

abbrev make_config : ℕ → List ℕ → Body
make_config n c = Body.Config (record { number = n; chain = c })

-- chunks after chunk, and the cells
abbrev chunks_form : ℕ → ℕ → ℕ → List ℕ → ℕ → Form Body
chunks_form i e r k c =
    form2 (record { r = byte (c + 1) 8; s = λ n. n ∷ []; F = InByte (c + 1) 8; is = byte_is (c + 1) 8 }) (cells_field 32 (lit< tt)) (λ n cs. Body.Snap i e r k c n cs)

abbrev chunk_form : ℕ → ℕ → ℕ → List ℕ → Form Body
chunk_form i e r k = record {
  A = ℕ × (ℕ × List ℕ);
  r = byte 0 7 >>= λ c. (chunks_form i e r k c).r;
  C = λ p. Body.Snap i e r k p.0 p.1.0 p.1.1;
  s = λ p. (p.0 ∷ []) ++ ((p.1.0 ∷ []) ++ cells_bytes p.1.1);
  F = λ p. InByte 0 7 p.0 && (InByte (p.0 + 1) 8 p.1.0 && CellsTest 32 p.1.1);
  is = chained (byte 0 7) (λ c. (chunks_form i e r k c).r) (λ n. n ∷ []) (InByte 0 7) (λ c q. Body.Snap i e r k c q.0 q.1) (λ c q. (q.0 ∷ []) ++ cells_bytes q.1) (λ c q. InByte (c + 1) 8 q.0 && CellsTest 32 q.1) (byte_is 0 7) (λ c. (chunks_form i e r k c).is);
}

abbrev ChunkParts : Type 0
ChunkParts = ℕ × (ℕ × List ℕ)

abbrev chunk_text : ChunkParts → List ℕ
chunk_text p = (p.0 ∷ []) ++ ((p.1.0 ∷ []) ++ cells_bytes p.1.1)

abbrev chunk_test : ChunkParts → Bool
chunk_test p = InByte 0 7 p.0 && (InByte (p.0 + 1) 8 p.1.0 && CellsTest 32 p.1.1)

abbrev key_chunk_form : ℕ → ℕ → ℕ → Form Body
key_chunk_form i e r = more key_field ChunkParts (λ k. (chunk_form i e r k).r) (λ k p. Body.Snap i e r k p.0 p.1.0 p.1.1) chunk_text chunk_test (λ k. (chunk_form i e r k).is)

abbrev round_form : ℕ → ℕ → Form Body
round_form i e =
    more num (List ℕ × ChunkParts) (λ r. (key_chunk_form i e r).r) (λ r p. Body.Snap i e r p.0 p.1.0 p.1.1.0 p.1.1.1) (λ p. key_bytes p.0 ++ chunk_text p.1) (λ p. KeyTest p.0 && chunk_test p.1) (λ r. (key_chunk_form i e r).is)

abbrev epoch_form : ℕ → Form Body
epoch_form i =
    more num (ℕ × (List ℕ × ChunkParts)) (λ e. (round_form i e).r) (λ e p. Body.Snap i e p.0 p.1.0 p.1.1.0 p.1.1.1.0 p.1.1.1.1) (λ p. number_bytes p.0 ++ (key_bytes p.1.0 ++ chunk_text p.1.1)) (λ p. is_u32 p.0 && (KeyTest p.1.0 && chunk_test p.1.1)) (λ e. (round_form i e).is)

abbrev snap_form : Form Body
snap_form =
    more num (ℕ × (ℕ × (List ℕ × ChunkParts))) (λ i. (epoch_form i).r) (λ i p. Body.Snap i p.0 p.1.0 p.1.1.0 p.1.1.1.0 p.1.1.1.1.0 p.1.1.1.1.1) (λ p. number_bytes p.0 ++ (number_bytes p.1.0 ++ (key_bytes p.1.1.0 ++ chunk_text p.1.1.1)))
    (λ p. is_u32 p.0 && (is_u32 p.1.0 && (KeyTest p.1.1.0 && chunk_test p.1.1.1))) (λ i. (epoch_form i).is)

abbrev ask_form : Form Body
ask_form = form4 num num key_field load_field Body.Ask

abbrev grant_form : Form Body
grant_form = form6 num num num key_field all_cells load_field Body.Grant

abbrev busy_form : Form Body
busy_form = form4 num num key_field mark_field Body.Busy

abbrev put_form : Form Body
put_form = form6 num num num key_field delta_field load_field Body.Put

abbrev ack_form : Form Body
ack_form = form5 num num num key_field load_field Body.Ack

abbrev deny_form : Form Body
deny_form = form3 num num key_field Body.Deny

abbrev forward_form : Form Body
forward_form = form4 num num entry_field load_field Body.Forward

abbrev have_form : Form Body
have_form = form1 num Body.Have

abbrev echo_form : Form Body
echo_form = form2 echoed_field load_field Body.Echo

abbrev config_form : Form Body
config_form = form2 num chain_field make_config

-- a kind's fields, by the byte of the kind
abbrev Of : ℕ → ℕ → List ℕ → Body → ℕ → Type 0
Of k at bytes y next = Chosen kind body_text body_test k at bytes y next

-- one more kind to choose from
either : (k j at : ℕ) (bytes : List ℕ) (y : Body) (next : ℕ) (f : Form Body) (r : Reader Body)
    → ((x : f.A) → kind (f.C x) ≡ j) → ((x : f.A) → body_text (f.C x) ≡ f.s x) → ((x : f.A) → f.F x ≡ true → body_test (f.C x) ≡ true) → IsBytes bytes
    → ((k ≡ j → ⊥) → r at bytes ≡ Ok (y, next) → Of k at bytes y next) → cond (eqb k j) f.r r at bytes ≡ Ok (y, next) → Of k at bytes y next
either k j at bytes y next f r sort text test fits others =
    cond_both (eqb k j) f.r r (λ (q : Reader Body). q at bytes ≡ Ok (y, next) → Of k at bytes y next)
    (λ z e. chosen f kind body_text body_test k at bytes y next (λ x. sort x ∙ sym (eqb-true k j z)) text test fits e)
    (λ z e. others (eqb-false k j z) e)

pub body_takes : (k at : ℕ) (bytes : List ℕ) (y : Body) (next : ℕ) → IsBytes bytes → 1 ≤ k → k ≤ 11 → body k at bytes ≡ Ok (y, next) → Of k at bytes y next
unfolding body ask grant busy put ack deny forward have echo config snap
body_takes k at bytes y next fits low high =
    either k 1 at bytes y next ask_form _ (λ x. refl) (λ x. refl) (λ x f. f) fits (λ n1.
    either k 2 at bytes y next grant_form _ (λ x. refl) (λ x. refl) (λ x f. f) fits (λ n2.
    either k 3 at bytes y next busy_form _ (λ x. refl) (λ x. refl) (λ x f. f) fits (λ n3.
    either k 4 at bytes y next put_form _ (λ x. refl) (λ x. refl) (λ x f. f) fits (λ n4.
    either k 5 at bytes y next ack_form _ (λ x. refl) (λ x. refl) (λ x f. f) fits (λ n5.
    either k 6 at bytes y next deny_form _ (λ x. refl) (λ x. refl) (λ x f. f) fits (λ n6.
    either k 7 at bytes y next forward_form _ (λ x. refl) (λ x. refl) (λ x f. f) fits (λ n7.
    either k 8 at bytes y next have_form _ (λ x. refl) (λ x. refl) (λ x f. f) fits (λ n8.
    either k 9 at bytes y next echo_form _ (λ x. refl) (λ x. refl) (λ x f. f) fits (λ n9.
    either k 10 at bytes y next config_form snap (λ x. refl) (λ x. refl) (λ x f. f) fits (λ n10 e.
    let is : 11 ≡ k = omega arith in
    chosen snap_form kind body_text body_test k at bytes y next (λ x. is) (λ x. refl) (λ x f. f) fits e))))))))))

pub body_again : (at : ℕ) (bytes rest : List ℕ) (y : Body) → body_test y ≡ true → drop at bytes ≡ body_text y ++ rest → body (kind y) at bytes ≡ Ok (y, at + length (body_text y))
unfolding body ask grant busy put ack deny forward have echo config snap
body_again at bytes rest (Body.Ask i n k l) f h = ask_form.is.again at bytes rest (i, (n, (k, l))) f h
body_again at bytes rest (Body.Grant i n e k c l) f h = grant_form.is.again at bytes rest (i, (n, (e, (k, (c, l))))) f h
body_again at bytes rest (Body.Busy i n k m) f h = busy_form.is.again at bytes rest (i, (n, (k, m))) f h
body_again at bytes rest (Body.Put i e n k d l) f h = put_form.is.again at bytes rest (i, (e, (n, (k, (d, l))))) f h
body_again at bytes rest (Body.Ack i e u k l) f h = ack_form.is.again at bytes rest (i, (e, (u, (k, l)))) f h
body_again at bytes rest (Body.Deny i e k) f h = deny_form.is.again at bytes rest (i, (e, k)) f h
body_again at bytes rest (Body.Forward c i e l) f h = forward_form.is.again at bytes rest (c, (i, (e, l))) f h
body_again at bytes rest (Body.Have i) f h = have_form.is.again at bytes rest i f h
body_again at bytes rest (Body.Echo of l) f h = echo_form.is.again at bytes rest (of, l) f h
body_again at bytes rest (Body.Config c) f h = config_form.is.again at bytes rest (c.number, c.chain) f h
body_again at bytes rest (Body.Snap i e r k c n cs) f h = snap_form.is.again at bytes rest (i, (e, (r, (k, (c, (n, cs)))))) f h
