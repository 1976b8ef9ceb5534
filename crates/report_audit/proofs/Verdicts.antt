-- How each answer of an audit follows from what its rules came to.
use Rattle.std.proofs.Common.{◌≡◌, ◌≢◌, ◌∙◌, ◌<◌, ℕ, List, [], Bool, false, IsTrue, ◌↔◌, refl, sym, ap, subst}
use Rattle.std.proofs.lemmas.Bool.{false≢true}
use Rattle.rp_base.specs.declared.legality.Fed.{Fed}
use Rattle.rp_base.specs.declared.legality.Flow.{Flow}
use Rattle.rp_base.specs.declared.legality.Released.{Released}
use Rattle.rp_app.specs.Application.{Application}
use Rattle.proto_model.specs.Feeds.{Each}
use Rattle.proto_model.specs.Legal.{Legal}
use Rattle.proto_safety.specs.Books.{In}
use Rattle.proto_safety.specs.LegalLines.{ListsAreFed, KeyedAreListed, ListsAreInOrder, IsVerdict}
use Rattle.proto_safety.proofs.Basics.Eachs.{each_in}
use Rattle.proto_safety.proofs.Legality.RulesOneByOne.{one_fails}
use Rattle.proto_safety.proofs.Basics.Pairs.{pairwise_unmapped, pairwise_with}
use Rattle.report_audit.specs.declared.notes.Note.{Note}
use Rattle.report_audit.specs.Rising.{EventsRise, MarksAreEvents, MarksRise, KeysDiffer}
use Rattle.report_audit.specs.Notes.{Noted, notes_along, all_noted, InTime, KeyedAreNoted}
use Rattle.report_audit.proofs.Noting.{all_fresh, keys_along}
use Rattle.report_audit.proofs.Parts.{Apart}
use Rattle.report_audit.specs.Verdict.{failing}
use Rattle.report_audit.specs.declared.verdict.Audit.{Audit}
use Rattle.report_audit.proofs.Deciding.{noted_decides, time_decides}
use Rattle.report_audit.proofs.Turns.{iff_also}

pub marks_rise : (feeds : List Fed) → EventsRise feeds → MarksAreEvents feeds → MarksRise feeds
marks_rise feeds rise marks =
    pairwise_with (λ (a b : Fed). a.event < b.event) (λ (a b : Fed). a.packet.mark < b.packet.mark) feeds rise
    (λ a b i j lt.
    let at : (f : Fed) → In feeds f → f.packet.mark ≡ f.event = λ f k. each_in (λ (f : Fed). f.packet.mark ≡ f.event) feeds f marks k in
    subst (λ n. n < b.packet.mark) (sym (at a i)) (subst (λ n. a.event < n) (sym (at b j)) lt))

pub fails : {b : Bool} {P : Type 0} → (IsTrue b ↔ P) → b ≡ false → ¬ P
fails h is p = false≢true (sym is ∙ h.1 p)

module _ {app : Application} {feeds : List Fed} {flows : List Flow} {start entries : Noted} (lists : ListsAreFed app feeds flows) (empty : start ≡ []) (noted : entries ≡ all_noted start (notes_along app feeds flows)) where
  entries_are : entries ≡ notes_along app feeds flows
  entries_are =
      noted ∙ ap (λ s. all_noted s (notes_along app feeds flows)) empty
      ∙ all_fresh [] (notes_along app feeds flows)
      (pairwise_unmapped (λ (a b : ℕ). a ≢ b) (λ (e : ℕ × Note). e.0) (notes_along app feeds flows) (subst Apart (sym (keys_along app feeds flows)) lists.each_once))

  pub keyed_rule : KeysDiffer flows → {releases : List Released} {b : Bool} → (IsTrue b ↔ KeyedAreNoted app feeds entries releases) → IsTrue b ↔ KeyedAreListed app feeds releases flows
  keyed_rule differ {releases} {b} h = iff_also (subst (λ es. IsTrue b ↔ KeyedAreNoted app feeds es releases) entries_are h) (noted_decides app feeds releases flows lists differ)

  pub order_rule : MarksAreEvents feeds → {releases : List Released} {b : Bool} → (IsTrue b ↔ Each (InTime entries) releases) → IsTrue b ↔ ListsAreInOrder feeds releases flows
  order_rule marks {releases} {b} h = iff_also (subst (λ es. IsTrue b ↔ Each (InTime es) releases) entries_are h) (time_decides app feeds releases flows lists marks)

-- ---- an answer says whether lists are legal

pub legal_found : (app : Application) (feeds : List Fed) (releases : List Released) (flows : List Flow) (found : Audit) → IsVerdict app feeds releases flows (failing found) → Legal app feeds releases flows → found ≡ Audit.Legal
legal_found app feeds releases flows Audit.Legal is legal = refl
legal_found app feeds releases flows (Audit.Fails n) is legal = absurd (one_fails app feeds releases flows n is legal)

pub found_legal : (app : Application) (feeds : List Fed) (releases : List Released) (flows : List Flow) (found : Audit) → IsVerdict app feeds releases flows (failing found) → found ≡ Audit.Legal → Legal app feeds releases flows
found_legal app feeds releases flows Audit.Legal is e = is
found_legal app feeds releases flows (Audit.Fails n) is e = absurd cc
