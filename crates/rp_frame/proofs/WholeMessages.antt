-- Whole messages: what is read was spelled so, and what is spelled is read again, whatever follows.
use Rattle.std.proofs.Common.{◌≡◌, ℕ, ◌+◌, ◌<◌, List, [], ◌∷◌, ◌++◌, length, drop, get_or, true, false, cond, ltb, ◌&&◌, Result, Ok, Err, arith, refl, sym, ap, subst, ◌∙◌}
use Rattle.std.specs.Str.{bytes_eq}
use Rattle.std.proofs.lemmas.Bool.{false≢true, ltb-true, lt-ltb, le-ltb, and_parts, and_from}
use Rattle.std.proofs.lemmas.List.{get_or-drop}
use Rattle.std.proofs.lemmas.Slice.Eq.{bytes_eq-Decides}
use Rattle.rp_base.specs.declared.node.Node.{Node}
use Rattle.proto_data.specs.declared.message.Body.{Body}
use Rattle.proto_data.specs.declared.message.Msg.{Msg}
use Rattle.proto_data.specs.MessageFits.{nodes_fit, message_fits, is_switch, is_store, from_master}
use Rattle.rp_frame.specs.Ranges.{body_in}
use Rattle.rp_frame.specs.Spelling.{spelling, kind, node_byte, body_bytes}
use Rattle.rp_frame.specs.Reading.{Reader, and_then, ◌>>=◌, done, whole, byte, letters, switch, replica, runner, sender, addressee, body, message}
use Rattle.rp_frame.proofs.Codecs.{IsBytes, Took, Took-then, behind, and_then_ok, test_ok, ok_is, whole_is}
use Rattle.rp_frame.proofs.PartCodecs.{InByte, byte_is, byte_bounds}
use Rattle.rp_frame.proofs.KindCodecs.{body_text, body_takes, body_again}
use Rattle.rp_frame.proofs.MessageCodecs.{body_ok, ok_body, body_same, switch_takes, switch_again, replica_takes, replica_again, master_takes, master_again, runs, runner_takes}

runner_again : (at : ℕ) (bytes rest : List ℕ) (y : Node) → runs y ≡ true → drop at bytes ≡ (node_byte y ∷ []) ++ rest → runner at bytes ≡ Ok (y, at + 1)
unfolding runner
runner_again at bytes rest (Node.Switch n) f h =
    let b : n < 8 = ltb-true n 8 f in
    let first : get_or bytes (at + 0) 0 ≡ n = sym (get_or-drop at bytes 0 0) ∙ ap (λ (l : List ℕ). get_or l 0 0) h in
    let here : get_or bytes at 0 ≡ n = subst (λ (k : ℕ). get_or bytes k 0 ≡ n) (omega arith) first in
    let low : ltb 15 (get_or bytes at 0) ≡ false = rw here (le-ltb 15 n (omega arith)) in
    rw low (switch_again at bytes rest (Node.Switch n) f h)
runner_again at bytes rest (Node.Replica n) f h =
    let first : get_or bytes (at + 0) 0 ≡ 16 + n = sym (get_or-drop at bytes 0 0) ∙ ap (λ (l : List ℕ). get_or l 0 0) h in
    let here : get_or bytes at 0 ≡ 16 + n = subst (λ (k : ℕ). get_or bytes k 0 ≡ 16 + n) (omega arith) first in
    let high : ltb 15 (get_or bytes at 0) ≡ true = rw here (lt-ltb 15 (16 + n) (omega arith)) in
    rw high (replica_again at bytes rest (Node.Replica n) f h)
runner_again at bytes rest Node.Master f h = absurd (false≢true f)

-- both ends of a message
record Ends (from to : Node) (y : Body) (at : ℕ) (bytes : List ℕ) (mid next : ℕ) : Type 0 where
  fit : nodes_fit from to y ≡ true
  first : Took at bytes (node_byte from ∷ []) mid
  second : Took mid bytes (node_byte to ∷ []) next

from_to : (from to : Node) (at mid next : ℕ) (bytes : List ℕ) → (Node.Master ≡ from) → runs to ≡ true → from_master from to ≡ true
from_to from (Node.Switch n) at mid next bytes e f = subst (λ (x : Node). from_master x (Node.Switch n) ≡ true) e f
from_to from (Node.Replica n) at mid next bytes e f = subst (λ (x : Node). from_master x (Node.Replica n) ≡ true) e f
from_to from Node.Master at mid next bytes e f = absurd (false≢true f)

module _ (at mid next : ℕ) (bytes : List ℕ) (from to : Node) (fits : IsBytes bytes) where
  up : (y : Body) → (is_switch from && is_store to) ≡ nodes_fit from to y → switch at bytes ≡ Ok (from, mid) → replica mid bytes ≡ Ok (to, next) → Ends from to y at bytes mid next
  up y same e f = let s = switch_takes at bytes from mid fits e in let t = replica_takes mid bytes to next fits f in record { fit = sym same ∙ and_from _ _ s.0 t.0; first = s.1; second = t.1 }

  down : (y : Body) → (is_store from && is_switch to) ≡ nodes_fit from to y → replica at bytes ≡ Ok (from, mid) → switch mid bytes ≡ Ok (to, next) → Ends from to y at bytes mid next
  down y same e f = let s = replica_takes at bytes from mid fits e in let t = switch_takes mid bytes to next fits f in record { fit = sym same ∙ and_from _ _ s.0 t.0; first = s.1; second = t.1 }

  across : (y : Body) → (is_store from && is_store to) ≡ nodes_fit from to y → replica at bytes ≡ Ok (from, mid) → replica mid bytes ≡ Ok (to, next) → Ends from to y at bytes mid next
  across y same e f = let s = replica_takes at bytes from mid fits e in let t = replica_takes mid bytes to next fits f in record { fit = sym same ∙ and_from _ _ s.0 t.0; first = s.1; second = t.1 }

  ends_takes : (y : Body) → sender (kind y) at bytes ≡ Ok (from, mid) → addressee (kind y) mid bytes ≡ Ok (to, next) → Ends from to y at bytes mid next
  unfolding sender addressee
  ends_takes (Body.Ask i n k l) e f = up (Body.Ask i n k l) refl e f
  ends_takes (Body.Grant i n p k c l) e f = down (Body.Grant i n p k c l) refl e f
  ends_takes (Body.Busy i n k m) e f = down (Body.Busy i n k m) refl e f
  ends_takes (Body.Put i p n k d l) e f = up (Body.Put i p n k d l) refl e f
  ends_takes (Body.Ack i p u k l) e f = down (Body.Ack i p u k l) refl e f
  ends_takes (Body.Deny i p k) e f = down (Body.Deny i p k) refl e f
  ends_takes (Body.Forward c i p l) e f = across (Body.Forward c i p l) refl e f
  ends_takes (Body.Have i) e f = across (Body.Have i) refl e f
  ends_takes (Body.Echo of l) e f = across (Body.Echo of l) refl e f
  ends_takes (Body.Config c) e f =
      let s = master_takes at bytes from mid fits e in
      let t = runner_takes mid bytes to next fits f in
      record { fit = from_to from to at mid next bytes s.0 t.0; first = s.1; second = t.1 }
  ends_takes (Body.Snap i p r k c n cs) e f = up (Body.Snap i p r k c n cs) refl e f

master_runs : (from to : Node) → from_master from to ≡ true → (Node.Master ≡ from) × (runs to ≡ true)
master_runs Node.Master (Node.Switch n) f = (refl, f)
master_runs Node.Master (Node.Replica n) f = (refl, f)
master_runs Node.Master Node.Master f = absurd (false≢true f)
master_runs (Node.Switch n) to f = absurd (false≢true f)
master_runs (Node.Replica n) to f = absurd (false≢true f)

module _ (at : ℕ) (bytes rest : List ℕ) (from to : Node) (h : drop at bytes ≡ (node_byte from ∷ []) ++ ((node_byte to ∷ []) ++ rest)) where
  second_here : drop (at + 1) bytes ≡ (node_byte to ∷ []) ++ rest
  second_here = behind at bytes (node_byte from ∷ []) ((node_byte to ∷ []) ++ rest) h

  abbrev Again : Body → Type 0
  Again y = (sender (kind y) at bytes ≡ Ok (from, at + 1)) × (addressee (kind y) (at + 1) bytes ≡ Ok (to, (at + 1) + 1))

  up_again : (is_switch from && is_store to) ≡ true → (switch at bytes ≡ Ok (from, at + 1)) × (replica (at + 1) bytes ≡ Ok (to, (at + 1) + 1))
  up_again f = let p = and_parts _ _ f in (switch_again at bytes ((node_byte to ∷ []) ++ rest) from p.0 h, replica_again (at + 1) bytes rest to p.1 second_here)

  down_again : (is_store from && is_switch to) ≡ true → (replica at bytes ≡ Ok (from, at + 1)) × (switch (at + 1) bytes ≡ Ok (to, (at + 1) + 1))
  down_again f = let p = and_parts _ _ f in (replica_again at bytes ((node_byte to ∷ []) ++ rest) from p.0 h, switch_again (at + 1) bytes rest to p.1 second_here)

  across_again : (is_store from && is_store to) ≡ true → (replica at bytes ≡ Ok (from, at + 1)) × (replica (at + 1) bytes ≡ Ok (to, (at + 1) + 1))
  across_again f = let p = and_parts _ _ f in (replica_again at bytes ((node_byte to ∷ []) ++ rest) from p.0 h, replica_again (at + 1) bytes rest to p.1 second_here)

  ends_again : (y : Body) → nodes_fit from to y ≡ true → Again y
  unfolding sender addressee
  ends_again (Body.Ask i n k l) f = up_again f
  ends_again (Body.Grant i n p k c l) f = down_again f
  ends_again (Body.Busy i n k m) f = down_again f
  ends_again (Body.Put i p n k d l) f = up_again f
  ends_again (Body.Ack i p u k l) f = down_again f
  ends_again (Body.Deny i p k) f = down_again f
  ends_again (Body.Forward c i p l) f = across_again f
  ends_again (Body.Have i) f = across_again f
  ends_again (Body.Echo of l) f = across_again f
  ends_again (Body.Config c) f =
      let p = master_runs from to f in
      let m = master_again at bytes ((node_byte to ∷ []) ++ rest) (h ∙ ap (λ (x : Node). (node_byte x ∷ []) ++ ((node_byte to ∷ []) ++ rest)) (sym p.0)) in
      (m ∙ ap (λ (x : Node). Ok (x, at + 1)) p.0, runner_again (at + 1) bytes rest to p.1 second_here)
  ends_again (Body.Snap i p r k c n cs) f = up_again f

-- ---- the letters

bytes_are : (b : List ℕ) → bytes_eq b (82 ∷ 80 ∷ []) ≡ true → b ≡ 82 ∷ 80 ∷ []
bytes_are b h = (bytes_eq-Decides b (82 ∷ 80 ∷ [])).0 h

kind_in : (y : Body) → InByte 1 11 (kind y) ≡ true
kind_in (Body.Ask i n k l) = refl
kind_in (Body.Grant i n e k c l) = refl
kind_in (Body.Busy i n k m) = refl
kind_in (Body.Put i e n k d l) = refl
kind_in (Body.Ack i e u k l) = refl
kind_in (Body.Deny i e k) = refl
kind_in (Body.Forward c i e l) = refl
kind_in (Body.Have i) = refl
kind_in (Body.Echo of l) = refl
kind_in (Body.Config c) = refl
kind_in (Body.Snap i e r k c n cs) = refl

letters_takes : (at : ℕ) (bytes b : List ℕ) (next : ℕ) → IsBytes bytes → letters at bytes ≡ Ok (b, next) → Took at bytes (82 ∷ 80 ∷ []) next
unfolding letters
letters_takes at bytes b next fits e =
    let p = and_then_ok (whole 2 at bytes) (λ b. cond (bytes_eq b.0 (82 ∷ 80 ∷ [])) (Ok b) (Err at)) (b, next) e in
    let t = test_ok (bytes_eq p.0.0 (82 ∷ 80 ∷ [])) at p.0 (b, next) p.2 in
    let one = (whole_is 2).takes at bytes p.0.0 p.0.1 fits p.1 in
    let text : one.x ≡ 82 ∷ 80 ∷ [] = one.is ∙ bytes_are p.0.0 t.0 in
    subst (λ (l : List ℕ). Took at bytes l next) text (subst (λ (n : ℕ). Took at bytes one.x n) (ap (λ (q : List ℕ × ℕ). q.1) t.1) one.took)

letters_again : (at : ℕ) (bytes rest : List ℕ) → drop at bytes ≡ (82 ∷ 80 ∷ []) ++ rest → letters at bytes ≡ Ok ((82 ∷ 80 ∷ []), at + 2)
unfolding letters
letters_again at bytes rest h = rw ((whole_is 2).again at bytes rest (82 ∷ 80 ∷ []) refl h) refl

-- ---- messages

abbrev make : Node → Node → Body → Msg
make from to fields = record { from = from; to = to; body = fields }

abbrev fields_of : ℕ → Node → Node → Reader Msg
fields_of k from to = body k >>= λ fields. done (make from to fields)

abbrev to_of : ℕ → Node → Reader Msg
to_of k from = addressee k >>= λ to. fields_of k from to

abbrev from_of : ℕ → Reader Msg
from_of k = sender k >>= λ from. to_of k from

abbrev kind_of : Reader Msg
kind_of = byte 1 11 >>= λ k. from_of k

abbrev version_of : Reader Msg
version_of = byte 1 1 >>= λ v. kind_of

pub record Found (m : Msg) (bytes : List ℕ) (next : ℕ) : Type 0 where
  pub fits : message_fits m ≡ true
  pub range : body_in m.body ≡ true
  pub took : Took 0 bytes (spelling m) next

pub message_takes : (bytes : List ℕ) (m : Msg) (next : ℕ) → IsBytes bytes → message bytes ≡ Ok (m, next) → Found m bytes next
unfolding message
message_takes bytes m next fits e =
    let a = and_then_ok (letters 0 bytes) (λ x. version_of x.1 bytes) (m, next) e in
    let b = and_then_ok (byte 1 1 a.0.1 bytes) (λ x. kind_of x.1 bytes) (m, next) a.2 in
    let c = and_then_ok (byte 1 11 b.0.1 bytes) (λ x. from_of x.0 x.1 bytes) (m, next) b.2 in
    let k = c.0.0 in
    let d = and_then_ok (sender k c.0.1 bytes) (λ x. to_of k x.0 x.1 bytes) (m, next) c.2 in
    let from = d.0.0 in
    let f = and_then_ok (addressee k d.0.1 bytes) (λ x. fields_of k from x.0 x.1 bytes) (m, next) d.2 in
    let to = f.0.0 in
    let g = and_then_ok (body k f.0.1 bytes) (λ x. Ok (make from to x.0, x.1)) (m, next) f.2 in
    let y = g.0.0 in
    let same = ok_is (make from to y, g.0.1) (m, next) g.2 in
    let letters_there = letters_takes 0 bytes a.0.0 a.0.1 fits a.1 in
    let version = (byte_is 1 1).takes a.0.1 bytes b.0.0 b.0.1 fits b.1 in
    let version_bounds = byte_bounds 1 1 version.x version.fits in
    let version_is : version.x ≡ 1 = omega (arith, version_bounds.0, version_bounds.1) in
    let version_there : Took a.0.1 bytes (1 ∷ []) b.0.1 = subst (λ (x : ℕ). Took a.0.1 bytes (x ∷ []) b.0.1) version_is version.took in
    let kinds = (byte_is 1 11).takes b.0.1 bytes k c.0.1 fits c.1 in
    let kind_bounds = byte_bounds 1 11 k (subst (λ (x : ℕ). InByte 1 11 x ≡ true) kinds.is kinds.fits) in
    let fields = body_takes k f.0.1 bytes y g.0.1 fits kind_bounds.0 kind_bounds.1 g.1 in
    let kind_there : Took b.0.1 bytes (kind y ∷ []) c.0.1 = subst (λ (x : ℕ). Took b.0.1 bytes (x ∷ []) c.0.1) (kinds.is ∙ sym fields.sort) kinds.took in
    let sent : sender (kind y) c.0.1 bytes ≡ Ok (from, d.0.1) = subst (λ (x : ℕ). sender x c.0.1 bytes ≡ Ok (from, d.0.1)) (sym fields.sort) d.1 in
    let addressed : addressee (kind y) d.0.1 bytes ≡ Ok (to, f.0.1) = subst (λ (x : ℕ). addressee x d.0.1 bytes ≡ Ok (to, f.0.1)) (sym fields.sort) f.1 in
    let ends = ends_takes c.0.1 d.0.1 f.0.1 bytes from to fits y sent addressed in
    let body_there : Took f.0.1 bytes (body_bytes y) g.0.1 = subst (λ (l : List ℕ). Took f.0.1 bytes l g.0.1) (sym (body_same y)) fields.took in
    let t5 = Took-then d.0.1 f.0.1 g.0.1 bytes (node_byte to ∷ []) (body_bytes y) ends.second body_there in
    let t4 = Took-then c.0.1 d.0.1 g.0.1 bytes (node_byte from ∷ []) ((node_byte to ∷ []) ++ body_bytes y) ends.first t5 in
    let t3 = Took-then b.0.1 c.0.1 g.0.1 bytes (kind y ∷ []) ((node_byte from ∷ []) ++ ((node_byte to ∷ []) ++ body_bytes y)) kind_there t4 in
    let t2 = Took-then a.0.1 b.0.1 g.0.1 bytes (1 ∷ []) ((kind y ∷ []) ++ ((node_byte from ∷ []) ++ ((node_byte to ∷ []) ++ body_bytes y))) version_there t3 in
    let t1 = Took-then 0 a.0.1 g.0.1 bytes (82 ∷ 80 ∷ []) ((1 ∷ []) ++ ((kind y ∷ []) ++ ((node_byte from ∷ []) ++ ((node_byte to ∷ []) ++ body_bytes y)))) letters_there t2 in
    let tests = body_ok y fields.fits in
    subst (λ (q : Msg × ℕ). Found q.0 bytes q.1) same (record { fits = and_from _ _ ends.fit tests.left; range = tests.right; took = t1 })

pub message_again : (bytes rest : List ℕ) (m : Msg) → message_fits m ≡ true → body_in m.body ≡ true → bytes ≡ spelling m ++ rest → message bytes ≡ Ok (m, length (spelling m))
unfolding message
message_again bytes rest m f g h =
    let p = and_parts _ _ f in
    let y = m.body in
    let s5 = body_bytes y ++ rest in
    let s4 = (node_byte m.to ∷ []) ++ s5 in
    let s3 = (node_byte m.from ∷ []) ++ s4 in
    let s2 = (kind y ∷ []) ++ s3 in
    let s1 = (1 ∷ []) ++ s2 in
    let h0 : drop 0 bytes ≡ (82 ∷ 80 ∷ []) ++ s1 = h in
    let h1 : drop 2 bytes ≡ (1 ∷ []) ++ s2 = behind 0 bytes (82 ∷ 80 ∷ []) s1 h0 in
    let h2 : drop 3 bytes ≡ (kind y ∷ []) ++ s3 = behind 2 bytes (1 ∷ []) s2 h1 in
    let h3 : drop 4 bytes ≡ (node_byte m.from ∷ []) ++ s4 = behind 3 bytes (kind y ∷ []) s3 h2 in
    let h4 : drop 5 bytes ≡ (node_byte m.to ∷ []) ++ s5 = behind 4 bytes (node_byte m.from ∷ []) s4 h3 in
    let h5 : drop 6 bytes ≡ body_bytes y ++ rest = behind 5 bytes (node_byte m.to ∷ []) s5 h4 in
    let h6 : drop 6 bytes ≡ body_text y ++ rest = h5 ∙ ap (λ (l : List ℕ). l ++ rest) (body_same y) in
    let e0 = letters_again 0 bytes s1 h0 in
    let e1 = (byte_is 1 1).again 2 bytes s2 1 refl h1 in
    let e2 = (byte_is 1 11).again 3 bytes s3 (kind y) (kind_in y) h2 in
    let ends = ends_again 4 bytes s5 m.from m.to h3 y p.0 in
    let e5 = body_again 6 bytes rest y (ok_body y p.1 g) h6 in
    let size : 6 + length (body_text y) ≡ length (spelling m) = omega (arith, ap length (body_same y)) in
    ap (λ (q : Result (List ℕ × ℕ) ℕ). and_then q (λ x. version_of x.1 bytes)) e0
    ∙ ap (λ (q : Result (ℕ × ℕ) ℕ). and_then q (λ x. kind_of x.1 bytes)) e1
    ∙ ap (λ (q : Result (ℕ × ℕ) ℕ). and_then q (λ x. from_of x.0 x.1 bytes)) e2
    ∙ ap (λ (q : Result (Node × ℕ) ℕ). and_then q (λ x. to_of (kind y) x.0 x.1 bytes)) ends.0
    ∙ ap (λ (q : Result (Node × ℕ) ℕ). and_then q (λ x. fields_of (kind y) m.from x.0 x.1 bytes)) ends.1
    ∙ ap (λ (q : Result (Body × ℕ) ℕ). and_then q (λ x. Ok (make m.from m.to x.0, x.1))) e5
    ∙ ap (λ (n : ℕ). Ok (m, n)) size
