-- The laws of the spelling of messages.
use Rattle.std.proofs.Common.{◌≡◌, ℕ, ◌<◌, List, [], ◌++◌, length, drop, true, cond, eqb, Result, Ok, Err, arith, refl, sym, ap, subst, ◌∙◌, All, length-append, inl, inr}
use Rattle.std.proofs.lemmas.Bool.{eqb-true, eq-eqb, cases_lt}
use Rattle.std.proofs.lemmas.List.{append-nil, nil_from_length, length-drop, get_or_past}
use Rattle.std.specs.Prelude.{IfOk}
use Rattle.proto_data.specs.declared.message.Msg.{Msg}
use Rattle.proto_data.specs.MessageFits.{message_fits}
use Rattle.rp_frame.specs.declared.frame_end.FrameEnd.{FrameEnd}
use Rattle.rp_frame.specs.Spelling.{spelling}
use Rattle.rp_frame.specs.Reading.{message, all_of, Gives}
use Rattle.rp_frame.specs.Laws.{IsMessage, OneSpelling, OneMessage, NoPrefix}
use Rattle.rp_frame.proofs.Codecs.{IsBytes, and_then_ok, test_ok, ok_is}
use Rattle.rp_frame.proofs.WholeMessages.{message_takes, message_again}

-- the message that was found, and the bytes that it came from
pub record Spelled (m : Msg) (bytes : List ℕ) : Type 0 where
  pub is : IsMessage m
  pub text : bytes ≡ spelling m

pub all_found : (bytes : List ℕ) (m : Msg) → IsBytes bytes → all_of bytes ≡ Ok m → Spelled m bytes
unfolding all_of
all_found bytes m fits e =
    let b = and_then_ok (message bytes) (λ q. cond (eqb q.1 (length bytes)) (Ok q.0) (Err q.1)) m e in
    let t = test_ok (eqb b.0.1 (length bytes)) b.0.1 b.0.0 m b.2 in
    let found = message_takes bytes b.0.0 b.0.1 fits b.1 in
    let end : b.0.1 ≡ length bytes = eqb-true b.0.1 (length bytes) t.0 in
    let none : drop b.0.1 bytes ≡ [] = nil_from_length _ (omega (arith, length-drop b.0.1 bytes)) in
    let text : bytes ≡ spelling b.0.0 = found.took.here ∙ ap (λ (l : List ℕ). spelling b.0.0 ++ l) none ∙ append-nil (spelling b.0.0) in
    subst (λ (x : Msg). Spelled x bytes) t.1 (record { is = record { fits = found.fits; range = found.range }; text = text })

pub found_of : (bytes : List ℕ) (r : Result Msg FrameEnd) → IsBytes bytes → Gives (λ (x : Msg). x) r (all_of bytes) → IfOk r (λ m. (message_fits m ≡ true) × (bytes ≡ spelling m))
found_of bytes (Ok m) fits e = let s = all_found bytes m fits e in (s.is.fits, s.text)
found_of bytes (Err e) fits h = tt

pub all_again : (m : Msg) → IsMessage m → all_of (spelling m) ≡ Ok m
unfolding all_of
all_again m h =
    let one = message_again (spelling m) [] m h.fits h.range (sym (append-nil (spelling m))) in
    rw (one, eq-eqb (length (spelling m)) (length (spelling m)) refl) refl

bytes_from : (bytes : List ℕ) → All (λ b. b < 256) bytes → IsBytes bytes
bytes_from bytes h i =
    elim (cases_lt i (length bytes)) [
      | inl lt ↦ h i 0 lt
      | inr le ↦ rw (get_or_past bytes i 0 le) (omega arith)
    ]

pub one_spelling : (m : Msg) → IsMessage m → OneSpelling m
one_spelling m h = record { again = all_again m h; only = λ bytes range e. (all_found bytes m (bytes_from bytes range) e).text }

pub one_message : (m n : Msg) → IsMessage m → IsMessage n → OneMessage m n
one_message m n h k e = ok_is m n (sym (all_again m h) ∙ ap all_of e ∙ all_again n k)

pub no_prefix : (m n : Msg) → IsMessage m → IsMessage n → NoPrefix m n
no_prefix m n h k rest e =
    let one = message_again (spelling n) rest m h.fits h.range e in
    let two = message_again (spelling n) [] n k.fits k.range (sym (append-nil (spelling n))) in
    let same = ok_is (m, length (spelling m)) (n, length (spelling n)) (sym one ∙ two) in
    let size : length (spelling m) ≡ length (spelling n) = ap (λ (q : Msg × ℕ). q.1) same in
    nil_from_length rest (omega (arith, ap length e, length-append (spelling m) rest))
