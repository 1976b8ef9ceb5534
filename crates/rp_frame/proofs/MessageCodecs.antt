-- The two laws of messages: what is read was spelled so, and what is spelled is read again.
use Rattle.std.proofs.Common.{◌≡◌, ℕ, ◌+◌, ◌-◌, ◌≤◌, ◌<◌, List, [], ◌∷◌, ◌++◌, length, drop, get_or, Bool, true, false, leb, ltb, ◌&&◌, Ok, arith, refl, ap, subst, ◌∙◌, append_assoc}
use Rattle.std.proofs.lemmas.Bool.{false≢true, cond_both, ltb-true, lt-ltb, leb-true, le-leb, and_parts, and_from}
use Rattle.rp_base.specs.declared.node.Node.{Node}
use Rattle.proto_data.specs.declared.message.Entry.{Entry}
use Rattle.proto_data.specs.declared.message.Echoed.{Echoed}
use Rattle.proto_data.specs.declared.message.Body.{Body}
use Rattle.proto_data.specs.MessageFits.{is_u32, mark_fits, key_fits, load_fits, cells_fit, delta_fits, switch_fits, entry_spelled, echoed_fits, body_fits, is_switch, is_store}
use Rattle.rp_frame.specs.Ranges.{all_bytes, all_values, delta_in, load_in, entry_in, echoed_in, body_in}
use Rattle.rp_frame.specs.Spelling.{node_byte, body_bytes}
use Rattle.rp_frame.specs.Reading.{Reader, byte, switch, replica, master, runner}
use Rattle.rp_frame.proofs.Codecs.{IsBytes, Took, last}
use Rattle.rp_frame.proofs.PartCodecs.{InByte, byte_is, in_byte, byte_bounds}
use Rattle.rp_frame.proofs.Choices.{KeyTest, DeltaTest, CellsTest, LoadTest}
use Rattle.rp_frame.proofs.KindCodecs.{entry_test, echoed_test, body_text, body_test}

-- ---- the tests of a message, in the words of its contract

switch_in : (n : ℕ) → InByte 0 7 n ≡ true → switch_fits n ≡ true
switch_in n f = let b = byte_bounds 0 7 n f in lt-ltb n 8 (omega (arith, b.1))

in_switch : (n : ℕ) → switch_fits n ≡ true → InByte 0 7 n ≡ true
in_switch n f = let b : n < 8 = ltb-true n 8 f in in_byte 0 7 n (omega arith) (omega arith) (omega arith)

-- both of two
pub record Both (a b : Bool) : Type 0 where
  pub left : a ≡ true
  pub right : b ≡ true

both : (a b : Bool) → (a && b) ≡ true → Both a b
both a b h = let p = and_parts a b h in record { left = p.0; right = p.1 }

entry_fits : (e : Entry) → entry_test e ≡ true → Both (entry_spelled e) (entry_in e)
entry_fits (Entry.Grant k e s i n) f =
    let p0 = and_parts (KeyTest k) ((is_u32 e) && ((InByte 0 7 s) && ((is_u32 i) && (is_u32 n)))) f in
    let p1 = and_parts (is_u32 e) ((InByte 0 7 s) && ((is_u32 i) && (is_u32 n))) p0.1 in
    let p2 = and_parts (InByte 0 7 s) ((is_u32 i) && (is_u32 n)) p1.1 in
    let p3 = and_parts (is_u32 i) (is_u32 n) p2.1 in
    let qk = and_parts (key_fits k) (all_bytes k) p0.0 in
    record { left = (and_from (key_fits k) (((is_u32 e) && ((is_u32 i) && (is_u32 n))) && (switch_fits s)) qk.0 (and_from ((is_u32 e) && ((is_u32 i) && (is_u32 n))) (switch_fits s) (and_from (is_u32 e) ((is_u32 i) && (is_u32 n)) p1.0 (and_from (is_u32 i) (is_u32 n) p3.0 p3.1)) (switch_in s p2.0))); right = qk.1 }
entry_fits (Entry.Put k e n d) f =
    let p0 = and_parts (KeyTest k) ((is_u32 e) && ((is_u32 n) && (DeltaTest d))) f in
    let p1 = and_parts (is_u32 e) ((is_u32 n) && (DeltaTest d)) p0.1 in
    let p2 = and_parts (is_u32 n) (DeltaTest d) p1.1 in
    let qk = and_parts (key_fits k) (all_bytes k) p0.0 in
    let qd = and_parts (delta_fits d) (delta_in d) p2.1 in
    record { left = (and_from (key_fits k) (((is_u32 e) && ((is_u32 n) && true)) && (delta_fits d)) qk.0 (and_from ((is_u32 e) && ((is_u32 n) && true)) (delta_fits d) (and_from (is_u32 e) ((is_u32 n) && true) p1.0 (and_from (is_u32 n) true p2.0 refl)) qd.0)); right = (and_from (all_bytes k) (delta_in d) qk.1 qd.1) }
entry_fits (Entry.Snap k e r c) f =
    let p0 = and_parts (KeyTest k) ((is_u32 e) && ((is_u32 r) && (CellsTest 256 c))) f in
    let p1 = and_parts (is_u32 e) ((is_u32 r) && (CellsTest 256 c)) p0.1 in
    let p2 = and_parts (is_u32 r) (CellsTest 256 c) p1.1 in
    let qk = and_parts (key_fits k) (all_bytes k) p0.0 in
    let qc = and_parts (cells_fit c) (all_values c) p2.1 in
    record { left = (and_from (key_fits k) (((is_u32 e) && ((is_u32 r) && true)) && (cells_fit c)) qk.0 (and_from ((is_u32 e) && ((is_u32 r) && true)) (cells_fit c) (and_from (is_u32 e) ((is_u32 r) && true) p1.0 (and_from (is_u32 r) true p2.0 refl)) qc.0)); right = (and_from (all_bytes k) (all_values c) qk.1 qc.1) }

fits_entry : (e : Entry) → entry_spelled e ≡ true → entry_in e ≡ true → entry_test e ≡ true
fits_entry (Entry.Grant k e s i n) f g =
    let p0 = and_parts (key_fits k) (((is_u32 e) && ((is_u32 i) && (is_u32 n))) && (switch_fits s)) f in
    let p1 = and_parts ((is_u32 e) && ((is_u32 i) && (is_u32 n))) (switch_fits s) p0.1 in
    let p2 = and_parts (is_u32 e) ((is_u32 i) && (is_u32 n)) p1.0 in
    let p3 = and_parts (is_u32 i) (is_u32 n) p2.1 in
    (and_from (KeyTest k) ((is_u32 e) && ((InByte 0 7 s) && ((is_u32 i) && (is_u32 n)))) (and_from (key_fits k) (all_bytes k) p0.0 g) (and_from (is_u32 e) ((InByte 0 7 s) && ((is_u32 i) && (is_u32 n))) p2.0 (and_from (InByte 0 7 s) ((is_u32 i) && (is_u32 n)) (in_switch s p1.1) (and_from (is_u32 i) (is_u32 n) p3.0 p3.1))))
fits_entry (Entry.Put k e n d) f g =
    let p0 = and_parts (key_fits k) (((is_u32 e) && ((is_u32 n) && true)) && (delta_fits d)) f in
    let p1 = and_parts ((is_u32 e) && ((is_u32 n) && true)) (delta_fits d) p0.1 in
    let p2 = and_parts (is_u32 e) ((is_u32 n) && true) p1.0 in
    let p3 = and_parts (is_u32 n) true p2.1 in
    let p4 = and_parts (all_bytes k) (delta_in d) g in
    (and_from (KeyTest k) ((is_u32 e) && ((is_u32 n) && (DeltaTest d))) (and_from (key_fits k) (all_bytes k) p0.0 p4.0) (and_from (is_u32 e) ((is_u32 n) && (DeltaTest d)) p2.0 (and_from (is_u32 n) (DeltaTest d) p3.0 (and_from (delta_fits d) (delta_in d) p1.1 p4.1))))
fits_entry (Entry.Snap k e r c) f g =
    let p0 = and_parts (key_fits k) (((is_u32 e) && ((is_u32 r) && true)) && (cells_fit c)) f in
    let p1 = and_parts ((is_u32 e) && ((is_u32 r) && true)) (cells_fit c) p0.1 in
    let p2 = and_parts (is_u32 e) ((is_u32 r) && true) p1.0 in
    let p3 = and_parts (is_u32 r) true p2.1 in
    let p4 = and_parts (all_bytes k) (all_values c) g in
    (and_from (KeyTest k) ((is_u32 e) && ((is_u32 r) && (CellsTest 256 c))) (and_from (key_fits k) (all_bytes k) p0.0 p4.0) (and_from (is_u32 e) ((is_u32 r) && (CellsTest 256 c)) p2.0 (and_from (is_u32 r) (CellsTest 256 c) p3.0 (and_from (cells_fit c) (all_values c) p1.1 p4.1))))

echoed_ok : (e : Echoed) → echoed_test e ≡ true → Both (echoed_fits e) (echoed_in e)
echoed_ok (Echoed.Ask s i n k) f =
    let p0 = and_parts (InByte 0 7 s) ((is_u32 i) && ((is_u32 n) && (KeyTest k))) f in
    let p1 = and_parts (is_u32 i) ((is_u32 n) && (KeyTest k)) p0.1 in
    let p2 = and_parts (is_u32 n) (KeyTest k) p1.1 in
    let qk = and_parts (key_fits k) (all_bytes k) p2.1 in
    record { left = (and_from (switch_fits s) (((is_u32 i) && ((is_u32 n) && true)) && (key_fits k)) (switch_in s p0.0) (and_from ((is_u32 i) && ((is_u32 n) && true)) (key_fits k) (and_from (is_u32 i) ((is_u32 n) && true) p1.0 (and_from (is_u32 n) true p2.0 refl)) qk.0)); right = qk.1 }
echoed_ok (Echoed.Put s e n k) f =
    let p0 = and_parts (InByte 0 7 s) ((is_u32 e) && ((is_u32 n) && (KeyTest k))) f in
    let p1 = and_parts (is_u32 e) ((is_u32 n) && (KeyTest k)) p0.1 in
    let p2 = and_parts (is_u32 n) (KeyTest k) p1.1 in
    let qk = and_parts (key_fits k) (all_bytes k) p2.1 in
    record { left = (and_from (switch_fits s) (((is_u32 e) && ((is_u32 n) && true)) && (key_fits k)) (switch_in s p0.0) (and_from ((is_u32 e) && ((is_u32 n) && true)) (key_fits k) (and_from (is_u32 e) ((is_u32 n) && true) p1.0 (and_from (is_u32 n) true p2.0 refl)) qk.0)); right = qk.1 }

ok_echoed : (e : Echoed) → echoed_fits e ≡ true → echoed_in e ≡ true → echoed_test e ≡ true
ok_echoed (Echoed.Ask s i n k) f g =
    let p0 = and_parts (switch_fits s) (((is_u32 i) && ((is_u32 n) && true)) && (key_fits k)) f in
    let p1 = and_parts ((is_u32 i) && ((is_u32 n) && true)) (key_fits k) p0.1 in
    let p2 = and_parts (is_u32 i) ((is_u32 n) && true) p1.0 in
    let p3 = and_parts (is_u32 n) true p2.1 in
    (and_from (InByte 0 7 s) ((is_u32 i) && ((is_u32 n) && (KeyTest k))) (in_switch s p0.0) (and_from (is_u32 i) ((is_u32 n) && (KeyTest k)) p2.0 (and_from (is_u32 n) (KeyTest k) p3.0 (and_from (key_fits k) (all_bytes k) p1.1 g))))
ok_echoed (Echoed.Put s e n k) f g =
    let p0 = and_parts (switch_fits s) (((is_u32 e) && ((is_u32 n) && true)) && (key_fits k)) f in
    let p1 = and_parts ((is_u32 e) && ((is_u32 n) && true)) (key_fits k) p0.1 in
    let p2 = and_parts (is_u32 e) ((is_u32 n) && true) p1.0 in
    let p3 = and_parts (is_u32 n) true p2.1 in
    (and_from (InByte 0 7 s) ((is_u32 e) && ((is_u32 n) && (KeyTest k))) (in_switch s p0.0) (and_from (is_u32 e) ((is_u32 n) && (KeyTest k)) p2.0 (and_from (is_u32 n) (KeyTest k) p3.0 (and_from (key_fits k) (all_bytes k) p1.1 g))))

-- what the fields of a kind are tested for
pub body_ok : (b : Body) → body_test b ≡ true → Both (body_fits b) (body_in b)
body_ok (Body.Ask i n k l) f =
    let p0 = and_parts (is_u32 i) ((is_u32 n) && ((KeyTest k) && (LoadTest l))) f in
    let p1 = and_parts (is_u32 n) ((KeyTest k) && (LoadTest l)) p0.1 in
    let p2 = and_parts (KeyTest k) (LoadTest l) p1.1 in
    let qk = and_parts (key_fits k) (all_bytes k) p2.0 in
    let ql = and_parts (load_fits l) (load_in l) p2.1 in
    record { left = (and_from ((is_u32 i) && ((is_u32 n) && true)) ((key_fits k) && (load_fits l)) (and_from (is_u32 i) ((is_u32 n) && true) p0.0 (and_from (is_u32 n) true p1.0 refl)) (and_from (key_fits k) (load_fits l) qk.0 ql.0)); right = (and_from (all_bytes k) (load_in l) qk.1 ql.1) }
body_ok (Body.Grant i n e k c l) f =
    let p0 = and_parts (is_u32 i) ((is_u32 n) && ((is_u32 e) && ((KeyTest k) && ((CellsTest 256 c) && (LoadTest l))))) f in
    let p1 = and_parts (is_u32 n) ((is_u32 e) && ((KeyTest k) && ((CellsTest 256 c) && (LoadTest l)))) p0.1 in
    let p2 = and_parts (is_u32 e) ((KeyTest k) && ((CellsTest 256 c) && (LoadTest l))) p1.1 in
    let p3 = and_parts (KeyTest k) ((CellsTest 256 c) && (LoadTest l)) p2.1 in
    let p4 = and_parts (CellsTest 256 c) (LoadTest l) p3.1 in
    let qk = and_parts (key_fits k) (all_bytes k) p3.0 in
    let qc = and_parts (cells_fit c) (all_values c) p4.0 in
    let ql = and_parts (load_fits l) (load_in l) p4.1 in
    record { left = (and_from ((is_u32 i) && ((is_u32 n) && (is_u32 e))) ((key_fits k) && ((cells_fit c) && (load_fits l))) (and_from (is_u32 i) ((is_u32 n) && (is_u32 e)) p0.0 (and_from (is_u32 n) (is_u32 e) p1.0 p2.0)) (and_from (key_fits k) ((cells_fit c) && (load_fits l)) qk.0 (and_from (cells_fit c) (load_fits l) qc.0 ql.0))); right = (and_from (all_bytes k) ((all_values c) && (load_in l)) qk.1 (and_from (all_values c) (load_in l) qc.1 ql.1)) }
body_ok (Body.Busy i n k m) f =
    let p0 = and_parts (is_u32 i) ((is_u32 n) && ((KeyTest k) && (mark_fits m))) f in
    let p1 = and_parts (is_u32 n) ((KeyTest k) && (mark_fits m)) p0.1 in
    let p2 = and_parts (KeyTest k) (mark_fits m) p1.1 in
    let qk = and_parts (key_fits k) (all_bytes k) p2.0 in
    record { left = (and_from ((is_u32 i) && ((is_u32 n) && true)) ((key_fits k) && (mark_fits m)) (and_from (is_u32 i) ((is_u32 n) && true) p0.0 (and_from (is_u32 n) true p1.0 refl)) (and_from (key_fits k) (mark_fits m) qk.0 p2.1)); right = qk.1 }
body_ok (Body.Put i e n k d l) f =
    let p0 = and_parts (is_u32 i) ((is_u32 e) && ((is_u32 n) && ((KeyTest k) && ((DeltaTest d) && (LoadTest l))))) f in
    let p1 = and_parts (is_u32 e) ((is_u32 n) && ((KeyTest k) && ((DeltaTest d) && (LoadTest l)))) p0.1 in
    let p2 = and_parts (is_u32 n) ((KeyTest k) && ((DeltaTest d) && (LoadTest l))) p1.1 in
    let p3 = and_parts (KeyTest k) ((DeltaTest d) && (LoadTest l)) p2.1 in
    let p4 = and_parts (DeltaTest d) (LoadTest l) p3.1 in
    let qk = and_parts (key_fits k) (all_bytes k) p3.0 in
    let qd = and_parts (delta_fits d) (delta_in d) p4.0 in
    let ql = and_parts (load_fits l) (load_in l) p4.1 in
    record { left = (and_from ((is_u32 i) && ((is_u32 e) && (is_u32 n))) ((key_fits k) && ((delta_fits d) && (load_fits l))) (and_from (is_u32 i) ((is_u32 e) && (is_u32 n)) p0.0 (and_from (is_u32 e) (is_u32 n) p1.0 p2.0)) (and_from (key_fits k) ((delta_fits d) && (load_fits l)) qk.0 (and_from (delta_fits d) (load_fits l) qd.0 ql.0))); right = (and_from (all_bytes k) ((delta_in d) && (load_in l)) qk.1 (and_from (delta_in d) (load_in l) qd.1 ql.1)) }
body_ok (Body.Ack i e u k l) f =
    let p0 = and_parts (is_u32 i) ((is_u32 e) && ((is_u32 u) && ((KeyTest k) && (LoadTest l)))) f in
    let p1 = and_parts (is_u32 e) ((is_u32 u) && ((KeyTest k) && (LoadTest l))) p0.1 in
    let p2 = and_parts (is_u32 u) ((KeyTest k) && (LoadTest l)) p1.1 in
    let p3 = and_parts (KeyTest k) (LoadTest l) p2.1 in
    let qk = and_parts (key_fits k) (all_bytes k) p3.0 in
    let ql = and_parts (load_fits l) (load_in l) p3.1 in
    record { left = (and_from ((is_u32 i) && ((is_u32 e) && (is_u32 u))) ((key_fits k) && (load_fits l)) (and_from (is_u32 i) ((is_u32 e) && (is_u32 u)) p0.0 (and_from (is_u32 e) (is_u32 u) p1.0 p2.0)) (and_from (key_fits k) (load_fits l) qk.0 ql.0)); right = (and_from (all_bytes k) (load_in l) qk.1 ql.1) }
body_ok (Body.Deny i e k) f =
    let p0 = and_parts (is_u32 i) ((is_u32 e) && (KeyTest k)) f in
    let p1 = and_parts (is_u32 e) (KeyTest k) p0.1 in
    let qk = and_parts (key_fits k) (all_bytes k) p1.1 in
    record { left = (and_from ((is_u32 i) && ((is_u32 e) && true)) (key_fits k) (and_from (is_u32 i) ((is_u32 e) && true) p0.0 (and_from (is_u32 e) true p1.0 refl)) qk.0); right = qk.1 }
body_ok (Body.Forward c i e l) f =
    let p0 = and_parts (is_u32 c) ((is_u32 i) && ((entry_test e) && (LoadTest l))) f in
    let p1 = and_parts (is_u32 i) ((entry_test e) && (LoadTest l)) p0.1 in
    let p2 = and_parts (entry_test e) (LoadTest l) p1.1 in
    let en = entry_fits e p2.0 in
    let ql = and_parts (load_fits l) (load_in l) p2.1 in
    record { left = (and_from ((is_u32 c) && ((is_u32 i) && true)) ((entry_spelled e) && (load_fits l)) (and_from (is_u32 c) ((is_u32 i) && true) p0.0 (and_from (is_u32 i) true p1.0 refl)) (and_from (entry_spelled e) (load_fits l) en.left ql.0)); right = (and_from (entry_in e) (load_in l) en.right ql.1) }
body_ok (Body.Echo of l) f =
    let p0 = and_parts (echoed_test of) (LoadTest l) f in
    let ec = echoed_ok of p0.0 in
    let ql = and_parts (load_fits l) (load_in l) p0.1 in
    record { left = (and_from (echoed_fits of) (load_fits l) ec.left ql.0); right = (and_from (echoed_in of) (load_in l) ec.right ql.1) }
body_ok (Body.Have i) f = record { left = f; right = refl }
body_ok (Body.Config c) f = record { left = f; right = refl }
body_ok (Body.Snap i e r k c n cs) f =
    let p0 = and_parts (is_u32 i) (is_u32 e && (is_u32 r && (KeyTest k && (InByte 0 7 c && (InByte (c + 1) 8 n && CellsTest 32 cs))))) f in
    let p1 = and_parts (is_u32 e) (is_u32 r && (KeyTest k && (InByte 0 7 c && (InByte (c + 1) 8 n && CellsTest 32 cs)))) p0.1 in
    let p2 = and_parts (is_u32 r) (KeyTest k && (InByte 0 7 c && (InByte (c + 1) 8 n && CellsTest 32 cs))) p1.1 in
    let p3 = and_parts (KeyTest k) (InByte 0 7 c && (InByte (c + 1) 8 n && CellsTest 32 cs)) p2.1 in
    let p4 = and_parts (InByte 0 7 c) (InByte (c + 1) 8 n && CellsTest 32 cs) p3.1 in
    let p5 = and_parts (InByte (c + 1) 8 n) (CellsTest 32 cs) p4.1 in
    let qk = and_parts (key_fits k) (all_bytes k) p3.0 in
    let qc = and_parts (leb (length cs) 32) (all_values cs) p5.1 in
    let b = byte_bounds (c + 1) 8 n p5.0 in
    let t4 = and_from (leb n 8) (leb (length cs) 32) (le-leb n 8 b.1) qc.0 in
    let t3 = and_from (ltb c n) (leb n 8 && leb (length cs) 32) (lt-ltb c n (omega (arith, b.0))) t4 in
    let t2 = and_from (key_fits k) (ltb c n && (leb n 8 && leb (length cs) 32)) qk.0 t3 in
    let t1 = and_from (is_u32 i) (is_u32 e && is_u32 r) p0.0 (and_from (is_u32 e) (is_u32 r) p1.0 p2.0) in
    record {
      left = and_from (is_u32 i && (is_u32 e && is_u32 r)) (key_fits k && (ltb c n && (leb n 8 && leb (length cs) 32))) t1 t2;
      right = and_from (all_bytes k) (all_values cs) qk.1 qc.1;
    }

pub ok_body : (b : Body) → body_fits b ≡ true → body_in b ≡ true → body_test b ≡ true
ok_body (Body.Ask i n k l) f g =
    let p0 = and_parts ((is_u32 i) && ((is_u32 n) && true)) ((key_fits k) && (load_fits l)) f in
    let p1 = and_parts (is_u32 i) ((is_u32 n) && true) p0.0 in
    let p2 = and_parts (is_u32 n) true p1.1 in
    let p3 = and_parts (key_fits k) (load_fits l) p0.1 in
    let p4 = and_parts (all_bytes k) (load_in l) g in
    (and_from (is_u32 i) ((is_u32 n) && ((KeyTest k) && (LoadTest l))) p1.0 (and_from (is_u32 n) ((KeyTest k) && (LoadTest l)) p2.0 (and_from (KeyTest k) (LoadTest l) (and_from (key_fits k) (all_bytes k) p3.0 p4.0) (and_from (load_fits l) (load_in l) p3.1 p4.1))))
ok_body (Body.Grant i n e k c l) f g =
    let p0 = and_parts ((is_u32 i) && ((is_u32 n) && (is_u32 e))) ((key_fits k) && ((cells_fit c) && (load_fits l))) f in
    let p1 = and_parts (is_u32 i) ((is_u32 n) && (is_u32 e)) p0.0 in
    let p2 = and_parts (is_u32 n) (is_u32 e) p1.1 in
    let p3 = and_parts (key_fits k) ((cells_fit c) && (load_fits l)) p0.1 in
    let p4 = and_parts (cells_fit c) (load_fits l) p3.1 in
    let p5 = and_parts (all_bytes k) ((all_values c) && (load_in l)) g in
    let p6 = and_parts (all_values c) (load_in l) p5.1 in
    (and_from (is_u32 i) ((is_u32 n) && ((is_u32 e) && ((KeyTest k) && ((CellsTest 256 c) && (LoadTest l))))) p1.0 (and_from (is_u32 n) ((is_u32 e) && ((KeyTest k) && ((CellsTest 256 c) && (LoadTest l)))) p2.0 (and_from (is_u32 e) ((KeyTest k) && ((CellsTest 256 c) && (LoadTest l))) p2.1 (and_from (KeyTest k) ((CellsTest 256 c) && (LoadTest l)) (and_from (key_fits k) (all_bytes k) p3.0 p5.0) (and_from (CellsTest 256 c) (LoadTest l) (and_from (cells_fit c) (all_values c) p4.0 p6.0) (and_from (load_fits l) (load_in l) p4.1 p6.1))))))
ok_body (Body.Busy i n k m) f g =
    let p0 = and_parts ((is_u32 i) && ((is_u32 n) && true)) ((key_fits k) && (mark_fits m)) f in
    let p1 = and_parts (is_u32 i) ((is_u32 n) && true) p0.0 in
    let p2 = and_parts (is_u32 n) true p1.1 in
    let p3 = and_parts (key_fits k) (mark_fits m) p0.1 in
    (and_from (is_u32 i) ((is_u32 n) && ((KeyTest k) && (mark_fits m))) p1.0 (and_from (is_u32 n) ((KeyTest k) && (mark_fits m)) p2.0 (and_from (KeyTest k) (mark_fits m) (and_from (key_fits k) (all_bytes k) p3.0 g) p3.1)))
ok_body (Body.Put i e n k d l) f g =
    let p0 = and_parts ((is_u32 i) && ((is_u32 e) && (is_u32 n))) ((key_fits k) && ((delta_fits d) && (load_fits l))) f in
    let p1 = and_parts (is_u32 i) ((is_u32 e) && (is_u32 n)) p0.0 in
    let p2 = and_parts (is_u32 e) (is_u32 n) p1.1 in
    let p3 = and_parts (key_fits k) ((delta_fits d) && (load_fits l)) p0.1 in
    let p4 = and_parts (delta_fits d) (load_fits l) p3.1 in
    let p5 = and_parts (all_bytes k) ((delta_in d) && (load_in l)) g in
    let p6 = and_parts (delta_in d) (load_in l) p5.1 in
    (and_from (is_u32 i) ((is_u32 e) && ((is_u32 n) && ((KeyTest k) && ((DeltaTest d) && (LoadTest l))))) p1.0 (and_from (is_u32 e) ((is_u32 n) && ((KeyTest k) && ((DeltaTest d) && (LoadTest l)))) p2.0 (and_from (is_u32 n) ((KeyTest k) && ((DeltaTest d) && (LoadTest l))) p2.1 (and_from (KeyTest k) ((DeltaTest d) && (LoadTest l)) (and_from (key_fits k) (all_bytes k) p3.0 p5.0) (and_from (DeltaTest d) (LoadTest l) (and_from (delta_fits d) (delta_in d) p4.0 p6.0) (and_from (load_fits l) (load_in l) p4.1 p6.1))))))
ok_body (Body.Ack i e u k l) f g =
    let p0 = and_parts ((is_u32 i) && ((is_u32 e) && (is_u32 u))) ((key_fits k) && (load_fits l)) f in
    let p1 = and_parts (is_u32 i) ((is_u32 e) && (is_u32 u)) p0.0 in
    let p2 = and_parts (is_u32 e) (is_u32 u) p1.1 in
    let p3 = and_parts (key_fits k) (load_fits l) p0.1 in
    let p4 = and_parts (all_bytes k) (load_in l) g in
    (and_from (is_u32 i) ((is_u32 e) && ((is_u32 u) && ((KeyTest k) && (LoadTest l)))) p1.0 (and_from (is_u32 e) ((is_u32 u) && ((KeyTest k) && (LoadTest l))) p2.0 (and_from (is_u32 u) ((KeyTest k) && (LoadTest l)) p2.1 (and_from (KeyTest k) (LoadTest l) (and_from (key_fits k) (all_bytes k) p3.0 p4.0) (and_from (load_fits l) (load_in l) p3.1 p4.1)))))
ok_body (Body.Deny i e k) f g =
    let p0 = and_parts ((is_u32 i) && ((is_u32 e) && true)) (key_fits k) f in
    let p1 = and_parts (is_u32 i) ((is_u32 e) && true) p0.0 in
    let p2 = and_parts (is_u32 e) true p1.1 in
    (and_from (is_u32 i) ((is_u32 e) && (KeyTest k)) p1.0 (and_from (is_u32 e) (KeyTest k) p2.0 (and_from (key_fits k) (all_bytes k) p0.1 g)))
ok_body (Body.Forward c i e l) f g =
    let p0 = and_parts ((is_u32 c) && ((is_u32 i) && true)) ((entry_spelled e) && (load_fits l)) f in
    let p1 = and_parts (is_u32 c) ((is_u32 i) && true) p0.0 in
    let p2 = and_parts (is_u32 i) true p1.1 in
    let p3 = and_parts (entry_spelled e) (load_fits l) p0.1 in
    let p4 = and_parts (entry_in e) (load_in l) g in
    (and_from (is_u32 c) ((is_u32 i) && ((entry_test e) && (LoadTest l))) p1.0 (and_from (is_u32 i) ((entry_test e) && (LoadTest l)) p2.0 (and_from (entry_test e) (LoadTest l) (fits_entry e p3.0 p4.0) (and_from (load_fits l) (load_in l) p3.1 p4.1))))
ok_body (Body.Echo of l) f g =
    let p0 = and_parts (echoed_fits of) (load_fits l) f in
    let p1 = and_parts (echoed_in of) (load_in l) g in
    (and_from (echoed_test of) (LoadTest l) (ok_echoed of p0.0 p1.0) (and_from (load_fits l) (load_in l) p0.1 p1.1))
ok_body (Body.Have i) f g = f
ok_body (Body.Config c) f g = f
ok_body (Body.Snap i e r k c n cs) f g =
    let a = and_parts (is_u32 i && (is_u32 e && is_u32 r)) (key_fits k && (ltb c n && (leb n 8 && leb (length cs) 32))) f in
    let u0 = and_parts (is_u32 i) (is_u32 e && is_u32 r) a.0 in
    let u1 = and_parts (is_u32 e) (is_u32 r) u0.1 in
    let r0 = and_parts (key_fits k) (ltb c n && (leb n 8 && leb (length cs) 32)) a.1 in
    let r1 = and_parts (ltb c n) (leb n 8 && leb (length cs) 32) r0.1 in
    let r2 = and_parts (leb n 8) (leb (length cs) 32) r1.1 in
    let h = and_parts (all_bytes k) (all_values cs) g in
    let up : c < n = ltb-true c n r1.0 in
    let top : n ≤ 8 = leb-true n 8 r2.0 in
    let t6 = and_from (leb (length cs) 32) (all_values cs) r2.1 h.1 in
    let t5 = and_from (InByte (c + 1) 8 n) (CellsTest 32 cs) (in_byte (c + 1) 8 n (omega arith) top (omega arith)) t6 in
    let t4 = and_from (InByte 0 7 c) (InByte (c + 1) 8 n && CellsTest 32 cs) (in_byte 0 7 c (omega arith) (omega arith) (omega arith)) t5 in
    let t3 = and_from (KeyTest k) (InByte 0 7 c && (InByte (c + 1) 8 n && CellsTest 32 cs)) (and_from (key_fits k) (all_bytes k) r0.0 h.0) t4 in
    let t2 = and_from (is_u32 r) (KeyTest k && (InByte 0 7 c && (InByte (c + 1) 8 n && CellsTest 32 cs))) u1.1 t3 in
    let t1 = and_from (is_u32 e) (is_u32 r && (KeyTest k && (InByte 0 7 c && (InByte (c + 1) 8 n && CellsTest 32 cs)))) u1.0 t2 in
    and_from (is_u32 i) (is_u32 e && (is_u32 r && (KeyTest k && (InByte 0 7 c && (InByte (c + 1) 8 n && CellsTest 32 cs))))) u0.0 t1

pub body_same : (b : Body) → body_bytes b ≡ body_text b
body_same (Body.Ask i n k l) = simp append_assoc
body_same (Body.Grant i n e k c l) = simp append_assoc
body_same (Body.Busy i n k m) = simp append_assoc
body_same (Body.Put i e n k d l) = simp append_assoc
body_same (Body.Ack i e u k l) = simp append_assoc
body_same (Body.Deny i e k) = simp append_assoc
body_same (Body.Forward c i e l) = simp append_assoc
body_same (Body.Have i) = refl
body_same (Body.Echo of l) = refl
body_same (Body.Config c) = refl
body_same (Body.Snap i e r k c n cs) = simp append_assoc

-- ---- senders and addressees

abbrev pub IsSwitch : Node → Type 0
IsSwitch n = is_switch n ≡ true

abbrev pub IsStore : Node → Type 0
IsStore n = is_store n ≡ true

pub switch_takes : (at : ℕ) (bytes : List ℕ) (y : Node) (next : ℕ) → IsBytes bytes → switch at bytes ≡ Ok (y, next) → IsSwitch y × Took at bytes (node_byte y ∷ []) next
unfolding switch
switch_takes at bytes y next fits e =
    let one = (last (byte 0 7) (λ n. n ∷ []) (InByte 0 7) Node.Switch (byte_is 0 7)).takes at bytes y next fits e in
    subst (λ (n : Node). IsSwitch n × Took at bytes (node_byte n ∷ []) next) one.is (switch_in one.x one.fits, one.took)

pub switch_again : (at : ℕ) (bytes rest : List ℕ) (y : Node) → IsSwitch y → drop at bytes ≡ (node_byte y ∷ []) ++ rest → switch at bytes ≡ Ok (y, at + 1)
unfolding switch
switch_again at bytes rest (Node.Switch n) f h = (last (byte 0 7) (λ n. n ∷ []) (InByte 0 7) Node.Switch (byte_is 0 7)).again at bytes rest n (in_switch n f) h
switch_again at bytes rest (Node.Replica n) f h = absurd (false≢true f)
switch_again at bytes rest Node.Master f h = absurd (false≢true f)

pub replica_takes : (at : ℕ) (bytes : List ℕ) (y : Node) (next : ℕ) → IsBytes bytes → replica at bytes ≡ Ok (y, next) → IsStore y × Took at bytes (node_byte y ∷ []) next
unfolding replica
replica_takes at bytes y next fits e =
    let one = (last (byte 16 20) (λ n. n ∷ []) (InByte 16 20) (λ b. Node.Replica (b - 16)) (byte_is 16 20)).takes at bytes y next fits e in
    let b = byte_bounds 16 20 one.x one.fits in
    let back : one.x ≡ 16 + (one.x - 16) = omega (arith, b.0) in
    subst (λ (n : Node). IsStore n × Took at bytes (node_byte n ∷ []) next) one.is
    (lt-ltb (one.x - 16) 5 (omega (arith, b.0, b.1)), subst (λ (x : ℕ). Took at bytes (x ∷ []) next) back one.took)

pub replica_again : (at : ℕ) (bytes rest : List ℕ) (y : Node) → IsStore y → drop at bytes ≡ (node_byte y ∷ []) ++ rest → replica at bytes ≡ Ok (y, at + 1)
unfolding replica
replica_again at bytes rest (Node.Replica n) f h =
    let b : n < 5 = ltb-true n 5 f in
    let one = (last (byte 16 20) (λ n. n ∷ []) (InByte 16 20) (λ b. Node.Replica (b - 16)) (byte_is 16 20)).again at bytes rest (16 + n) (in_byte 16 20 (16 + n) (omega arith) (omega arith) (omega arith)) h in
    let back : (16 + n) - 16 ≡ n = omega arith in
    one ∙ ap (λ (k : ℕ). Ok (Node.Replica k, at + 1)) back
replica_again at bytes rest (Node.Switch n) f h = absurd (false≢true f)
replica_again at bytes rest Node.Master f h = absurd (false≢true f)

pub master_takes : (at : ℕ) (bytes : List ℕ) (y : Node) (next : ℕ) → IsBytes bytes → master at bytes ≡ Ok (y, next) → (Node.Master ≡ y) × Took at bytes (node_byte y ∷ []) next
unfolding master
master_takes at bytes y next fits e =
    let one = (last (byte 32 32) (λ n. n ∷ []) (InByte 32 32) (λ b. Node.Master) (byte_is 32 32)).takes at bytes y next fits e in
    let b = byte_bounds 32 32 one.x one.fits in
    let is : one.x ≡ 32 = omega (arith, b.0, b.1) in
    (one.is, subst (λ (n : Node). Took at bytes (node_byte n ∷ []) next) one.is (subst (λ (x : ℕ). Took at bytes (x ∷ []) next) is one.took))

pub master_again : (at : ℕ) (bytes rest : List ℕ) → drop at bytes ≡ (32 ∷ []) ++ rest → master at bytes ≡ Ok (Node.Master, at + 1)
unfolding master
master_again at bytes rest h = (last (byte 32 32) (λ n. n ∷ []) (InByte 32 32) (λ b. Node.Master) (byte_is 32 32)).again at bytes rest 32 refl h

-- a switch or a replica
abbrev pub runs : Node → Bool
runs (Node.Switch n) = switch_fits n
runs (Node.Replica n) = ltb n 5
runs Node.Master = false

switch_runs : (y : Node) → IsSwitch y → runs y ≡ true
switch_runs (Node.Switch n) f = f
switch_runs (Node.Replica n) f = absurd (false≢true f)
switch_runs Node.Master f = absurd (false≢true f)

store_runs : (y : Node) → IsStore y → runs y ≡ true
store_runs (Node.Replica n) f = f
store_runs (Node.Switch n) f = absurd (false≢true f)
store_runs Node.Master f = absurd (false≢true f)

pub runner_takes : (at : ℕ) (bytes : List ℕ) (y : Node) (next : ℕ) → IsBytes bytes → runner at bytes ≡ Ok (y, next) → (runs y ≡ true) × Took at bytes (node_byte y ∷ []) next
unfolding runner
runner_takes at bytes y next fits =
    cond_both (ltb 15 (get_or bytes at 0)) replica switch (λ (r : Reader Node). r at bytes ≡ Ok (y, next) → (runs y ≡ true) × Took at bytes (node_byte y ∷ []) next)
    (λ z e. let t = replica_takes at bytes y next fits e in (store_runs y t.0, t.1))
    (λ z e. let t = switch_takes at bytes y next fits e in (switch_runs y t.0, t.1))
