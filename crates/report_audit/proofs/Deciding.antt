-- What is noted of listed marks decides the second and the third rule, where the first is met.
use Rattle.std.proofs.Common.{◌≡◌, ◌∙◌, ℕ, ◌<◌, ◌≤◌, List, [], ◌∷◌, ◌++◌, Option, Some, None, Bool, true, false, refl, sym, ap, subst, arith, ◌↔◌}
use Rattle.std.specs.Prelude.{option_and_then, option_map, nat_lt}
use Rattle.std.proofs.lemmas.Bool.{ltb-true, ltb-false}
use Rattle.std.proofs.lemmas.List.{append_assoc}
use Rattle.rp_base.specs.declared.legality.Fed.{Fed}
use Rattle.rp_base.specs.declared.legality.Flow.{Flow}
use Rattle.rp_base.specs.declared.legality.Released.{Released}
use Rattle.rp_base.specs.declared.node.Output.{Output}
use Rattle.rp_base.specs.declared.node.Packet.{Packet}
use Rattle.rp_app.specs.Application.{Application, zeros}
use Rattle.key_table.specs.Table.{Key}
use Rattle.proto_model.specs.Feeds.{Each, Pairwise, fed_at, key_at, packet_at}
use Rattle.proto_model.specs.Legal.{IsOutputIn, ReleasedBefore, StandsIn, folded, marks_before, marks_of}
use Rattle.proto_safety.specs.Books.{In}
use Rattle.proto_safety.specs.LegalLines.{ListsAreFed, KeyedAreListed, ListsAreInOrder}
use Rattle.proto_safety.proofs.Basics.Eachs.{each_all, each_append, each_in, each_weaker}
use Rattle.proto_safety.proofs.Basics.Members.{among_in, decomposed, in_among, in_front, in_middle, in_last}
use Rattle.proto_safety.proofs.Packets.FedMarks.{fed_found}
use Rattle.report_audit.specs.declared.notes.Note.{Note}
use Rattle.report_audit.specs.Rising.{processed, KeysDiffer, MarksAreEvents}
use Rattle.report_audit.specs.Notes.{notes_along, note_at, noted_output, AsNoted, InTime, KeyedAreNoted}
use Rattle.report_audit.proofs.Noting.{note_after, output_after, greatest_above, greatest_within}
use Rattle.report_audit.proofs.Parts.{Apart, each_before, pairs_by}
use Rattle.report_audit.proofs.Placing.{Placed, before_one, list_apart, list_of, marks_here, noted_there, placed}

-- the note behind a noted output
behind_output : (o : Option Note) (out : Output) → option_and_then (λ (n : Note). n.output) o ≡ Some out → (n : Note) × (o ≡ Some n) × (n.output ≡ Some out)
behind_output None out h = absurd cc
behind_output (Some n) out h = (n, refl, h)

same_key_found : {j k : Key} → Some j ≡ Some k → j ≡ k
same_key_found e = cc

module _ (app : Application) (feeds : List Fed) (releases : List Released) (flows : List Flow) (lists : ListsAreFed app feeds flows) where
  -- a listed mark has its list's key
  key_of_listed : (f : Flow) → In flows f → (m : ℕ) → In f.marks m → key_at app feeds m ≡ Some f.key
  key_of_listed f i m j =
      each_in (λ m. key_at app feeds m ≡ Some f.key) f.marks m (each_in (λ (f : Flow). Each (λ m. key_at app feeds m ≡ Some f.key) f.marks) flows f lists.fed_with_key i) j

  listed_apart : (f : Flow) → In flows f → Apart f.marks
  listed_apart f i = list_apart flows f lists.each_once i

  abbrev after_marks : List ℕ → List ℕ
  after_marks marks = folded app feeds marks

  -- ---- the second rule

  output_here : (m : ℕ) (cells : List ℕ) (out : Output) (o : Option Packet) → packet_at feeds m ≡ o → (processed app cells o).1 ≡ Some out → (p : Packet) × (packet_at feeds m ≡ Some p) × ((app.plain cells p).1 ≡ Some out)
  output_here m cells out None is h = absurd cc
  output_here m cells out (Some p) is h = (p, is, h)

  module _ (differ : KeysDiffer flows) where
    pub noted_is_listed : (out : Output) (key : Key) → key_at app feeds out.mark ≡ Some key → noted_output (notes_along app feeds flows) out.mark ≡ Some out →
        StandsIn (marks_of flows key) out.mark × IsOutputIn app feeds (folded app feeds (marks_before (marks_of flows key) out.mark)) out
    noted_is_listed out key keyed noted =
        let n = behind_output (note_at (notes_along app feeds flows) out.mark) out noted in
        let p : Placed app feeds flows out.mark n.0 = placed app feeds flows out.mark n.0 n.1 in
        let stands : In p.flow.marks out.mark = subst (λ ms. In ms out.mark) (sym p.marks_are) (in_middle p.before p.behind out.mark) in
        let same : key ≡ p.flow.key = same_key_found (sym keyed ∙ key_of_listed p.flow p.listed out.mark stands) in
        let list : marks_of flows key ≡ p.before ++ out.mark ∷ p.behind = ap (marks_of flows) same ∙ marks_here flows p.flow differ p.listed ∙ p.marks_are in
        let front : marks_before (marks_of flows key) out.mark ≡ p.before =
        ap (λ l. marks_before l out.mark) list ∙ before_one p.before out.mark p.behind (subst Apart p.marks_are (listed_apart p.flow p.listed)) in
        let made : (processed app (folded app feeds p.before) (packet_at feeds out.mark)).1 ≡ Some out =
        sym (output_after app feeds (zeros app.cell_count) 0 p.before out.mark) ∙ ap (λ (x : Note). x.output) (sym p.note_is) ∙ n.2 in (
          (p.before, (p.behind, sym list)),
          subst (λ ms. IsOutputIn app feeds (folded app feeds ms) out) (sym front) (output_here out.mark (folded app feeds p.before) out (packet_at feeds out.mark) refl made),
        )

    pub listed_is_noted : (out : Output) (key : Key) → StandsIn (marks_of flows key) out.mark → IsOutputIn app feeds (folded app feeds (marks_before (marks_of flows key) out.mark)) out →
        noted_output (notes_along app feeds flows) out.mark ≡ Some out
    listed_is_noted out key stands is =
        let f = list_of flows key out.mark stands in
        let before : List ℕ = stands.0 in
        let behind : List ℕ = stands.1.0 in
        let list : marks_of flows key ≡ before ++ out.mark ∷ behind = sym stands.1.1 in
        let marks : f.flow.marks ≡ before ++ out.mark ∷ behind = sym f.marks_are ∙ list in
        let front : marks_before (marks_of flows key) out.mark ≡ before =
        ap (λ l. marks_before l out.mark) list ∙ before_one before out.mark behind (subst Apart marks (listed_apart f.flow f.listed)) in
        let here : IsOutputIn app feeds (folded app feeds before) out = subst (λ ms. IsOutputIn app feeds (folded app feeds ms) out) front is in
        let made : (processed app (folded app feeds before) (packet_at feeds out.mark)).1 ≡ Some out = ap (λ (o : Option Packet). (processed app (folded app feeds before) o).1) here.1 ∙ here.2 in
        ap (option_and_then (λ (n : Note). n.output)) (noted_there app feeds flows lists.each_once f.flow f.listed before out.mark behind marks)
        ∙ output_after app feeds (zeros app.cell_count) 0 before out.mark
        ∙ made

    abbrev Listed : Released → Type 0
    Listed r =
        (key : Key) → key_at app feeds r.output.mark ≡ Some key →
        StandsIn (marks_of flows key) r.output.mark × IsOutputIn app feeds (folded app feeds (marks_before (marks_of flows key) r.output.mark)) r.output

    pub noted_to_listed : Each (AsNoted app feeds (notes_along app feeds flows)) releases → Each Listed releases
    noted_to_listed h =
        each_weaker (AsNoted app feeds (notes_along app feeds flows)) Listed releases
        (λ r noted key keyed. noted_is_listed r.output key keyed (noted (λ none. let e : Some key ≡ None = sym keyed ∙ none in absurd cc))) h

    pub listed_to_noted : Each Listed releases → Each (AsNoted app feeds (notes_along app feeds flows)) releases
    listed_to_noted h = each_weaker Listed (AsNoted app feeds (notes_along app feeds flows)) releases (λ r listed. by r listed (key_at app feeds r.output.mark) refl) h
      where
        by : (r : Released) → Listed r → (o : Option Key) → key_at app feeds r.output.mark ≡ o → AsNoted app feeds (notes_along app feeds flows) r
        by r listed None is keyed = absurd (keyed is)
        by r listed (Some key) is keyed = let l = listed key is in listed_is_noted r.output key l.0 l.1

    pub noted_decides : KeyedAreNoted app feeds (notes_along app feeds flows) releases ↔ KeyedAreListed app feeds releases flows
    noted_decides = (λ n. record { from_list = noted_to_listed n.as_noted; once = n.once }, λ l. record { as_noted = listed_to_noted l.from_list; once = l.once })

  -- ---- the third rule

  module _ (marks : MarksAreEvents feeds) where
    event_is : (q : ℕ) (f : Fed) → fed_at feeds q ≡ Some f → f.event ≡ q
    event_is q f at = let found = fed_found feeds q f at in sym (each_in (λ (f : Fed). f.packet.mark ≡ f.event) feeds f marks found.0) ∙ found.1

    -- a mark with a key was fed
    fed_of : (q : ℕ) (key : Key) (o : Option Fed) → fed_at feeds q ≡ o → option_and_then app.key_of (option_map (λ (f : Fed). f.packet) o) ≡ Some key → (f : Fed) × (fed_at feeds q ≡ Some f)
    fed_of q key None at h = absurd cc
    fed_of q key (Some f) at h = (f, at)

    in_order_now : (f : Flow) → In flows f → (before : List ℕ) (m : ℕ) (behind : List ℕ) → f.marks ≡ before ++ m ∷ behind → Each (InTime (notes_along app feeds flows)) releases →
        (q : ℕ) → In (before ++ m ∷ []) q → ¬ ReleasedBefore feeds releases m q
    in_order_now f i before m behind is h q j early =
        let r : Released = early.0 in
        let note : Note = note_after app feeds (zeros app.cell_count) 0 before m in
        let at : note_at (notes_along app feeds flows) r.output.mark ≡ Some note = ap (note_at (notes_along app feeds flows)) early.4 ∙ noted_there app feeds flows lists.each_once f i before m behind is in
        let top : note.greatest ≤ r.event = each_in (InTime (notes_along app feeds flows)) releases r h (among_in releases r early.2) note at in
        let up : q ≤ note.greatest = each_in (λ q. q ≤ note.greatest) (before ++ m ∷ []) q (greatest_above app feeds (zeros app.cell_count) 0 before m) j in
        let e : early.1.event ≡ q = event_is q early.1 early.3 in
        let lt : r.event < early.1.event = early.5 in
        absurd (omega (arith, top, up, e, lt))

    pub in_time_orders : Each (InTime (notes_along app feeds flows)) releases → ListsAreInOrder feeds releases flows
    in_time_orders h =
        record {
          in_order = each_all (λ (f : Flow). Pairwise (λ q m. ¬ ReleasedBefore feeds releases m q) f.marks) flows
              (λ f i. pairs_by (λ q m. ¬ ReleasedBefore feeds releases m q) f.marks
              (λ before m behind is. each_all (λ q. ¬ ReleasedBefore feeds releases m q) before (λ q j. in_order_now f i before m behind is h q (in_front before (m ∷ []) q j))));
          none_early = each_all (λ (f : Flow). Each (λ m. ¬ ReleasedBefore feeds releases m m) f.marks) flows
              (λ f i. each_all (λ m. ¬ ReleasedBefore feeds releases m m) f.marks
              (λ m j. let d = decomposed f.marks m j in in_order_now f i d.0 m d.1 d.2 h m (in_last d.0 m)));
        }

    pub ordered_in_time : ListsAreInOrder feeds releases flows → Each (InTime (notes_along app feeds flows)) releases
    ordered_in_time h = each_all (InTime (notes_along app feeds flows)) releases in_time
      where
        not_late : (r : Released) → In releases r → (f : Flow) → In flows f → (q : ℕ) → In f.marks q → ¬ ReleasedBefore feeds releases r.output.mark q → q ≤ r.event
        not_late r i f j q k none = by (nat_lt r.event q) refl
          where
            by : (b : Bool) → nat_lt r.event q ≡ b → q ≤ r.event
            by true is =
                let fed = fed_of q f.key (fed_at feeds q) refl (key_of_listed f j q k) in
                let lt : r.event < q = ltb-true r.event q is in
                let e : fed.0.event ≡ q = event_is q fed.0 fed.1 in
                absurd (none (r, fed.0, in_among releases r i, fed.1, refl, omega (arith, lt, e)))
            by false is = ltb-false r.event q is

        in_time : (r : Released) → In releases r → InTime (notes_along app feeds flows) r
        in_time r i n at =
            let m : ℕ = r.output.mark in
            let p : Placed app feeds flows m n = placed app feeds flows m n at in
            let early : ℕ → Type 0 = λ q. ¬ ReleasedBefore feeds releases m q in
            let whole : (p.before ++ m ∷ []) ++ p.behind ≡ p.flow.marks = append_assoc p.before (m ∷ []) p.behind ∙ sym p.marks_are in
            let stands : In p.flow.marks m = subst (λ ms. In ms m) (sym p.marks_are) (in_middle p.before p.behind m) in
            let front : Each early p.before =
            each_before (λ q m. ¬ ReleasedBefore feeds releases m q) p.before m p.behind
            (subst (Pairwise (λ q m. ¬ ReleasedBefore feeds releases m q)) p.marks_are (each_in (λ (f : Flow). Pairwise (λ q m. ¬ ReleasedBefore feeds releases m q) f.marks) flows p.flow h.in_order p.listed)) in
            let self : early m = each_in (λ m. ¬ ReleasedBefore feeds releases m m) p.flow.marks m (each_in (λ (f : Flow). Each (λ m. ¬ ReleasedBefore feeds releases m m) f.marks) flows p.flow h.none_early p.listed) stands in
            let none : Each early (p.before ++ m ∷ []) = each_append early p.before (m ∷ []) front (self, tt) in
            let late : Each (λ q. q ≤ r.event) (p.before ++ m ∷ []) =
            each_all (λ q. q ≤ r.event) (p.before ++ m ∷ [])
            (λ q j. not_late r i p.flow p.listed q (subst (λ ms. In ms q) whole (in_front (p.before ++ m ∷ []) p.behind q j)) (each_in early (p.before ++ m ∷ []) q none j)) in
            subst (λ (x : Note). x.greatest ≤ r.event) (sym p.note_is) (greatest_within app feeds (zeros app.cell_count) 0 p.before m r.event (omega arith) late)

    pub time_decides : Each (InTime (notes_along app feeds flows)) releases ↔ ListsAreInOrder feeds releases flows
    time_decides = (in_time_orders, ordered_in_time)
