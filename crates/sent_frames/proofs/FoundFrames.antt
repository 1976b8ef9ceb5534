-- The first frame of some bytes to a node, found among the frames as they are kept.
use Rattle.std.proofs.Common.{◌≡◌, ℕ, ◌+◌, List, [], ◌∷◌, Option, Some, None, refl, sym, ap, ◌∙◌, Bool, true, false, cond, map, arith}
use Rattle.std.proofs.lemmas.Grind.{common_steps}
use Rattle.std.specs.Prelude.{◌&&◌, if◌then◌else◌, slice_get}
use Rattle.std.specs.List.{position_from}
use Rattle.std.specs.Str.{bytes_eq}
use Rattle.std.proofs.lemmas.Slice.Eq.{bytes_eq-Decides}
use Rattle.proto_model.specs.Feeds.{Each}
use Rattle.proto_model.specs.Handing.{found_from}
use Rattle.proto_safety.proofs.Basics.Eachs.{each_at}
use Rattle.rp_base.specs.declared.node.Node.{Node}
use Rattle.rp_base.specs.Nodes.{same_node}
use Rattle.rp_frame.specs.Spelling.{spelling}
use Rattle.sent_frames.specs.declared.frames.Sent.{Sent}
use Rattle.sent_frames.specs.FirstFrames.{first_place, going, going_at, has_bytes}
use Rattle.sent_frames.specs.Frames.{message_of}
use Rattle.sent_frames.specs.SentFrames.{IsSent, sent_message}
use Rattle.sent_frames.proofs.FirstFrames.{found_at}

true_false : true ≡ false → ⊥
true_false h = grind (arith, common_steps)

-- whether frames of these bytes go to this node
abbrev goes : Node → List ℕ → Bool
goes to bytes = same_node (message_of bytes).to to

one_more : (a b g : Bool) (i : ℕ) (rest place : Option ℕ) → (b ≡ true → a ≡ g) → rest ≡ cond g place None → (if a && b then Some i else rest) ≡ cond g (cond b (Some i) place) None
one_more true true true i rest place same more = refl
one_more true true false i rest place same more = absurd (true_false (same refl))
one_more false true true i rest place same more = absurd (true_false (sym (same refl)))
one_more false true false i rest place same more = more
one_more true false g i rest place same more = more
one_more false false g i rest place same more = more

-- frames of the same bytes go to the same node
along : (to : Node) (bytes : List ℕ) (i : ℕ) (ss : List Sent) → Each IsSent ss → found_from spelling to bytes i (map sent_message ss) ≡ cond (goes to bytes) (position_from (has_bytes bytes) i ss) None
along to bytes i [] h = none (goes to bytes)
  where
    none : (b : Bool) → ◌≡◌ {A = Option ℕ} None (cond b None None)
    none true = refl
    none false = refl
along to bytes i (s ∷ ss) h =
    ap (λ t. if goes to s.bytes && bytes_eq t bytes then Some i else found_from spelling to bytes (i + 1) (map sent_message ss)) (sym h.0.frame.spelled)
    ∙ one_more (goes to s.bytes) (bytes_eq s.bytes bytes) (goes to bytes) i (found_from spelling to bytes (i + 1) (map sent_message ss)) (position_from (has_bytes bytes) (i + 1) ss)
    (λ e. ap (goes to) ((bytes_eq-Decides s.bytes bytes).0 e))
    (along to bytes (i + 1) ss h.1)

pub found_is : (to : Node) (bytes : List ℕ) (ss : List Sent) → Each IsSent ss → going to ss (first_place bytes ss) ≡ found_from spelling to bytes 0 (map sent_message ss)
found_is to bytes ss h = by (first_place bytes ss) refl ∙ sym (along to bytes 0 ss h)
  where
    no_place : (b : Bool) → ◌≡◌ {A = Option ℕ} None (cond b None None)
    no_place true = refl
    no_place false = refl

    by : (o : Option ℕ) → first_place bytes ss ≡ o → going to ss o ≡ cond (goes to bytes) o None
    by None e = no_place (goes to bytes)
    by (Some n) e =
        let at = found_at (has_bytes bytes) 0 ss n e in
        let same : at.here.bytes ≡ bytes = (bytes_eq-Decides at.here.bytes bytes).0 at.passes in
        let stands : slice_get ss n ≡ Some at.here = ap (slice_get ss) (omega (arith, at.place_is)) ∙ at.stands in
        let sent = each_at IsSent ss at.place at.here h at.stands in
        ap (going_at to n) stands ∙ ap (λ b. cond b (Some n) None) (ap (λ m. same_node m to) sent.goes ∙ ap (goes to) same)
