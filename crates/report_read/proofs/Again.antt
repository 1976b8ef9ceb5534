-- Lines as they are printed are read again as themselves.
use Rattle.std.proofs.Common.{◌≡◌, ℕ, ◌+◌, ◌≤◌, List, [], ◌∷◌, ◌++◌, Bool, true, false, nat_lt, length, map, decimal, eqb, refl, sym, ap, ◌∙◌, arith, All, Ok, Err, Result, cond}
use Rattle.std.specs.Prelude.{codes}
use Rattle.std.specs.List.{list_all, onto_first}
use Rattle.std.proofs.lemmas.Bool.{and_parts}
use Rattle.std.proofs.lemmas.List.{append_assoc, append-nil}
use Rattle.std.proofs.lemmas.List.Elements.{All-cons, All-nil, All-head, All-tail}
use Rattle.std.proofs.lemmas.List.Folds.{list_all-append}
use Rattle.std.proofs.lemmas.List.Splits.{slice_split_none, length-slice_split}
use Rattle.hex.specs.Hex.{encode_lower}
use Rattle.rp_base.specs.declared.line.Line.{Line}
use Rattle.run_report.specs.Words.{decimals, hex_text}
use Rattle.run_report.specs.Names.{node_name, drop_name, lost_name, refusal_name}
use Rattle.run_report.specs.Report.{line_words, lines_text}
use Rattle.report_read.specs.declared.reading.Reading.{Reading}
use Rattle.report_read.specs.declared.report.ReportWhy.{ReportWhy}
use Rattle.report_read.specs.declared.report.ReportWhy.TheVariants as why
use Rattle.report_read.specs.Words.{◌>>=◌, lines, next_word, words}
use Rattle.report_read.specs.Values.{numbers_after}
use Rattle.report_read.specs.Forms.{line_of, line_by}
use Rattle.report_read.specs.Reading.{at_line, is_behind, taken, raw_taken, lines_from, opening, report_of}
use Rattle.report_read.specs.Printed.{IsKey, IsNumber, IsReportLine, said_from}
use Rattle.report_read.proofs.Cuts.{Lacks, lines_at}
use Rattle.report_read.proofs.Spelled.{IsWord, number-decimal, port-decimal, key-encode, output-hex, drop_cause-name, lost_cause-name, refusal-name, node-name, word-decimal, word-encode, word-hex, word-drop, word-lost, word-refusal, word-node}

-- ---- words

above : (mark b : ℕ) → mark ≤ 32 → nat_lt 32 b ≡ true → eqb b mark ≡ false
above mark b low h = grind (arith, low, h)

-- a word has no byte up to the space
pub lacks : (mark : ℕ) (word : List ℕ) → mark ≤ 32 → IsWord word ≡ true → Lacks mark word
lacks mark [] low h = All-nil (λ b. eqb b mark ≡ false)
lacks mark (b ∷ bs) low h =
    let parts = and_parts (nat_lt 32 b) (IsWord bs) h in
    All-cons (λ x. eqb x mark ≡ false) b bs (above mark b low parts.0) (lacks mark bs low parts.1)

onto-append : (b n : ℕ) (ws vs : List (List ℕ)) → length ws ≡ n + 1 → onto_first b (ws ++ vs) ≡ onto_first b ws ++ vs
onto-append b n [] vs h = absurd (omega (arith, h))
onto-append b n (w ∷ ws) vs h = refl

-- the words before a space and those behind it
pub words-append : (text more : List ℕ) → words (text ++ 32 ∷ more) ≡ words text ++ words more
words-append [] more = refl
words-append (b ∷ bs) more = by_test (eqb b 32) (words-append bs more) where
  by_test : (space : Bool) → words (bs ++ 32 ∷ more) ≡ words bs ++ words more → cond space ([] ∷ words (bs ++ 32 ∷ more)) (onto_first b (words (bs ++ 32 ∷ more))) ≡ cond space ([] ∷ words bs) (onto_first b (words bs)) ++ words more
  by_test true h = ap (λ (ws : List (List ℕ)). [] ∷ ws) h
  by_test false h = ap (λ (ws : List (List ℕ)). onto_first b ws) h ∙ onto-append b _ (words bs) (words more) (length-slice_split (λ x. eqb x 32) bs)

pub words-one : (word : List ℕ) → IsWord word ≡ true → words word ≡ word ∷ []
words-one word h = slice_split_none (λ b. eqb b 32) word (lacks 32 word (omega arith) h)

-- a text with one word more
pub words-then : (text word : List ℕ) → IsWord word ≡ true → words (text ++ 32 ∷ word) ≡ words text ++ word ∷ []
words-then text word h = words-append text word ∙ ap (λ (ws : List (List ℕ)). words text ++ ws) (words-one word h)

-- a word with numbers behind it
pub words-decimals : (word : List ℕ) (ns : List ℕ) → IsWord word ≡ true → All IsNumber ns → words (word ++ decimals ns) ≡ word ∷ map decimal ns
words-decimals word [] h are = ap words (append-nil word) ∙ words-one word h
words-decimals word (n ∷ ns) h are =
    let first : IsNumber n = All-head IsNumber n ns are in
    words-append word (decimal n ++ decimals ns)
    ∙ ap (λ (ws : List (List ℕ)). ws ++ words (decimal n ++ decimals ns)) (words-one word h)
    ∙ ap (λ (ws : List (List ℕ)). word ∷ ws) (words-decimals (decimal n) ns (word-decimal n first) (All-tail IsNumber n ns are))

numbers-decimal : (front ns : List ℕ) → All IsNumber ns → numbers_after front (map decimal ns) ≡ Ok (front ++ ns)
numbers-decimal front [] are = ap (λ (x : List ℕ). Ok x) (sym (append-nil front))
numbers-decimal front (n ∷ ns) are =
    let one = number-decimal n (All-head IsNumber n ns are) in
    rw one (numbers-decimal (front ++ n ∷ []) ns (All-tail IsNumber n ns are) ∙ ap (λ (x : List ℕ). Ok x) (append_assoc front (n ∷ []) ns))

-- ---- a line

words-flow : (name key ns : List ℕ) → IsWord name ≡ true → IsKey key → All IsNumber ns → words (name ++ 32 ∷ (encode_lower key ++ decimals ns)) ≡ name ∷ encode_lower key ∷ map decimal ns
words-flow name key ns h is are =
    words-append name (encode_lower key ++ decimals ns)
    ∙ ap (λ (ws : List (List ℕ)). ws ++ words (encode_lower key ++ decimals ns)) (words-one name h)
    ∙ ap (λ (ws : List (List ℕ)). name ∷ ws) (words-decimals (encode_lower key) ns (word-encode key is.2) are)

-- a name with the number of an event
words-event : (name : List ℕ) (event : ℕ) → IsWord name ≡ true → IsNumber event → words (name ++ 32 ∷ decimal event) ≡ name ∷ decimal event ∷ []
words-event name event h is = words-then name (decimal event) (word-decimal event is) ∙ ap (λ (ws : List (List ℕ)). ws ++ decimal event ∷ []) (words-one name h)

words-two : (name word : List ℕ) (event : ℕ) → IsWord name ≡ true → IsNumber event → IsWord word ≡ true → words ((name ++ 32 ∷ decimal event) ++ 32 ∷ word) ≡ name ∷ decimal event ∷ word ∷ []
words-two name word event h is w = words-then (name ++ 32 ∷ decimal event) word w ∙ ap (λ (ws : List (List ℕ)). ws ++ word ∷ []) (words-event name event h is)

words-three : (name word : List ℕ) (event mark : ℕ) → IsWord name ≡ true → IsNumber event → IsNumber mark → IsWord word ≡ true → words (((name ++ 32 ∷ decimal event) ++ 32 ∷ decimal mark) ++ 32 ∷ word) ≡ name ∷ decimal event ∷ decimal mark ∷ word ∷ []
words-three name word event mark h is also w =
    words-then ((name ++ 32 ∷ decimal event) ++ 32 ∷ decimal mark) word w ∙ ap (λ (ws : List (List ℕ)). ws ++ word ∷ []) (words-two name (decimal mark) event h is (word-decimal mark also))

words-four : (name one two : List ℕ) (event mark : ℕ) → IsWord name ≡ true → IsNumber event → IsNumber mark → IsWord one ≡ true → IsWord two ≡ true → words ((((name ++ 32 ∷ decimal event) ++ 32 ∷ decimal mark) ++ 32 ∷ one) ++ 32 ∷ two) ≡ name ∷ decimal event ∷ decimal mark ∷ one ∷ two ∷ []
words-four name one two event mark h is also w v =
    words-then (((name ++ 32 ∷ decimal event) ++ 32 ∷ decimal mark) ++ 32 ∷ one) two v ∙ ap (λ (ws : List (List ℕ)). ws ++ two ∷ []) (words-three name one event mark h is also w)

-- a line by its words
abbrev by_words : List (List ℕ) → Result Line ReportWhy
by_words ws = next_word ws >>= λ word. line_by word.0 word.1

pub line-again : (l : Line) → IsReportLine l → line_of (line_words l) ≡ Ok l
line-again (Line.Release event mark port bytes) h =
    let read : by_words (codes "release" ∷ decimal event ∷ decimal mark ∷ decimal port ∷ hex_text bytes ∷ []) ≡ Ok (Line.Release event mark port bytes) = rw (number-decimal event h.0, number-decimal mark h.1, port-decimal port h.2, output-hex bytes h.3) refl in
    ap by_words (words-four (codes "release") (decimal port) (hex_text bytes) event mark refl h.0 h.1 (word-decimal port (omega (arith, h.2))) (word-hex bytes h.3.1)) ∙ read
line-again (Line.Drop event mark cause) h =
    let read : by_words (codes "drop" ∷ decimal event ∷ decimal mark ∷ drop_name cause ∷ []) ≡ Ok (Line.Drop event mark cause) = rw (number-decimal event h.0, number-decimal mark h.1, drop_cause-name cause h.2) refl in
    ap by_words (words-three (codes "drop") (drop_name cause) event mark refl h.0 h.1 (word-drop cause)) ∙ read
line-again (Line.Lost event cause) h =
    let read : by_words (codes "lost" ∷ decimal event ∷ lost_name cause ∷ []) ≡ Ok (Line.Lost event cause) = rw (number-decimal event h, lost_cause-name cause) refl in
    ap by_words (words-two (codes "lost") (lost_name cause) event refl h (word-lost cause)) ∙ read
line-again (Line.Refused event cause) h =
    let read : by_words (codes "refused" ∷ decimal event ∷ refusal_name cause ∷ []) ≡ Ok (Line.Refused event cause) = rw (number-decimal event h, refusal-name cause) refl in
    ap by_words (words-two (codes "refused") (refusal_name cause) event refl h (word-refusal cause)) ∙ read
line-again (Line.Stranger event node) h =
    let read : by_words (codes "stranger" ∷ decimal event ∷ node_name node ∷ []) ≡ Ok (Line.Stranger event node) = rw (number-decimal event h.0, node-name node h.1) refl in
    ap by_words (words-two (codes "stranger") (node_name node) event refl h.0 (word-node node h.1)) ∙ read
line-again (Line.Send event frame from to kind bytes) h = absurd h
line-again (Line.Serial key marks) h =
    let read : by_words (codes "serial" ∷ encode_lower key ∷ map decimal marks) ≡ Ok (Line.Serial key marks) = rw (key-encode key h.0, numbers-decimal [] marks h.1) refl in
    ap by_words (words-flow (codes "serial") key marks refl h.0 h.1) ∙ read
line-again (Line.Epoch key epoch kept marks) h = absurd h
line-again (Line.Cells key cells) h =
    let read : by_words (codes "cells" ∷ encode_lower key ∷ map decimal cells) ≡ Ok (Line.Cells key cells) = rw (key-encode key h.0, numbers-decimal [] cells h.1) refl in
    ap by_words (words-flow (codes "cells") key cells refl h.0 h.1) ∙ read
line-again Line.End h = refl

-- ---- the line feed

-- a text in one line: no byte is a control sign
abbrev pub IsFlat : List ℕ → Bool
IsFlat text = list_all (nat_lt 31) text

flat-byte : (b : ℕ) → nat_lt 32 b ≡ true → nat_lt 31 b ≡ true
flat-byte b h = grind (arith, h)

pub flat-word : (word : List ℕ) → IsWord word ≡ true → IsFlat word ≡ true
flat-word [] h = refl
flat-word (b ∷ bs) h =
    let parts = and_parts (nat_lt 32 b) (IsWord bs) h in
    rw (flat-byte b parts.0, flat-word bs parts.1) refl

pub flat-append : (xs ys : List ℕ) → IsFlat xs ≡ true → IsFlat ys ≡ true → IsFlat (xs ++ ys) ≡ true
flat-append xs ys h k = rw (list_all-append (nat_lt 31) xs ys, h, k) refl

-- a text with one word more
pub flat-then : (text word : List ℕ) → IsFlat text ≡ true → IsWord word ≡ true → IsFlat (text ++ 32 ∷ word) ≡ true
flat-then text word h w = flat-append text (32 ∷ word) h (flat-word word w)

pub flat-decimals : (ns : List ℕ) → All IsNumber ns → IsFlat (decimals ns) ≡ true
flat-decimals [] are = refl
flat-decimals (n ∷ ns) are = flat-append (decimal n) (decimals ns) (flat-word (decimal n) (word-decimal n (All-head IsNumber n ns are))) (flat-decimals ns (All-tail IsNumber n ns are))

flat-flow : (name key ns : List ℕ) → IsFlat name ≡ true → IsKey key → All IsNumber ns → IsFlat (name ++ 32 ∷ (encode_lower key ++ decimals ns)) ≡ true
flat-flow name key ns h is are = flat-append name (32 ∷ (encode_lower key ++ decimals ns)) h (flat-append (encode_lower key) (decimals ns) (flat-word (encode_lower key) (word-encode key is.2)) (flat-decimals ns are))

flat-event : (name : List ℕ) (event : ℕ) → IsFlat name ≡ true → IsNumber event → IsFlat (name ++ 32 ∷ decimal event) ≡ true
flat-event name event h is = flat-then name (decimal event) h (word-decimal event is)

flat-two : (name word : List ℕ) (event : ℕ) → IsFlat name ≡ true → IsNumber event → IsWord word ≡ true → IsFlat ((name ++ 32 ∷ decimal event) ++ 32 ∷ word) ≡ true
flat-two name word event h is w = flat-then (name ++ 32 ∷ decimal event) word (flat-event name event h is) w

flat-three : (name word : List ℕ) (event mark : ℕ) → IsFlat name ≡ true → IsNumber event → IsNumber mark → IsWord word ≡ true → IsFlat (((name ++ 32 ∷ decimal event) ++ 32 ∷ decimal mark) ++ 32 ∷ word) ≡ true
flat-three name word event mark h is also w = flat-then ((name ++ 32 ∷ decimal event) ++ 32 ∷ decimal mark) word (flat-two name (decimal mark) event h is (word-decimal mark also)) w

flat-four : (name one two : List ℕ) (event mark : ℕ) → IsFlat name ≡ true → IsNumber event → IsNumber mark → IsWord one ≡ true → IsWord two ≡ true → IsFlat ((((name ++ 32 ∷ decimal event) ++ 32 ∷ decimal mark) ++ 32 ∷ one) ++ 32 ∷ two) ≡ true
flat-four name one two event mark h is also w v = flat-then (((name ++ 32 ∷ decimal event) ++ 32 ∷ decimal mark) ++ 32 ∷ one) two (flat-three name one event mark h is also w) v

line-flat : (l : Line) → IsReportLine l → IsFlat (line_words l) ≡ true
line-flat (Line.Release event mark port bytes) h = flat-four (codes "release") (decimal port) (hex_text bytes) event mark refl h.0 h.1 (word-decimal port (omega (arith, h.2))) (word-hex bytes h.3.1)
line-flat (Line.Drop event mark cause) h = flat-three (codes "drop") (drop_name cause) event mark refl h.0 h.1 (word-drop cause)
line-flat (Line.Lost event cause) h = flat-two (codes "lost") (lost_name cause) event refl h (word-lost cause)
line-flat (Line.Refused event cause) h = flat-two (codes "refused") (refusal_name cause) event refl h (word-refusal cause)
line-flat (Line.Stranger event node) h = flat-two (codes "stranger") (node_name node) event refl h.0 (word-node node h.1)
line-flat (Line.Send event frame from to kind bytes) h = absurd h
line-flat (Line.Serial key marks) h = flat-flow (codes "serial") key marks refl h.0 h.1
line-flat (Line.Epoch key epoch kept marks) h = absurd h
line-flat (Line.Cells key cells) h = flat-flow (codes "cells") key cells refl h.0 h.1
line-flat Line.End h = refl

not-feed : (b : ℕ) → nat_lt 31 b ≡ true → eqb b 10 ≡ false
not-feed b h = grind (arith, h)

pub flat-lacks : (text : List ℕ) → IsFlat text ≡ true → Lacks 10 text
flat-lacks [] h = All-nil (λ b. eqb b 10 ≡ false)
flat-lacks (b ∷ bs) h =
    let parts = and_parts (nat_lt 31 b) (IsFlat bs) h in
    All-cons (λ x. eqb x 10 ≡ false) b bs (not-feed b parts.0) (flat-lacks bs parts.1)

-- ---- all lines

lines-line : (l : Line) (ls : List Line) → IsReportLine l → lines (lines_text (l ∷ ls)) ≡ (line_words l, true) ∷ lines (lines_text ls)
lines-line l ls h =
    ap lines (append_assoc (line_words l) (10 ∷ []) (lines_text ls))
    ∙ lines_at (line_words l) (lines_text ls) (flat-lacks (line_words l) (line-flat l h))

raw-again : (events : ℕ) (r : Reading) (l : Line) → IsReportLine l → raw_taken events r (line_words l, true) ≡ cond (is_behind r.place) (Err why.End) (taken events r l)
raw-again events r l h = ap (λ (said : Result Line ReportWhy). cond (is_behind r.place) (Err why.End) (said >>= taken events r)) (line-again l h)

pub lines-again : (events n : ℕ) (r : Reading) (ls : List Line) → All IsReportLine ls → lines_from events n r (lines (lines_text ls)) ≡ said_from events n r ls
lines-again events n r [] are = refl
lines-again events n r (l ∷ ls) are =
    let here : IsReportLine l = All-head IsReportLine l ls are in
    let rest : All IsReportLine ls = All-tail IsReportLine l ls are in
    ap (lines_from events n r) (lines-line l ls here)
    ∙ ap (λ (now : Result Reading ReportWhy). at_line n now >>= λ t. lines_from events (n + 1) t (lines (lines_text ls))) (raw-again events r l here)
    ∙ step (cond (is_behind r.place) (Err why.End) (taken events r l)) (λ t. lines-again events (n + 1) t ls rest)
  where
    step : (now : Result Reading ReportWhy) → ((t : Reading) → lines_from events (n + 1) t (lines (lines_text ls)) ≡ said_from events (n + 1) t ls) → (at_line n now >>= λ t. lines_from events (n + 1) t (lines (lines_text ls))) ≡ (at_line n now >>= λ t. said_from events (n + 1) t ls)
    step (Ok t) more = more t
    step (Err e) more = refl

pub text-again : (events : ℕ) (ls : List Line) → All IsReportLine ls → length (lines_text ls) ≤ 67108864 → report_of events (lines_text ls) ≡ said_from events 1 opening ls
unfolding report_of
text-again events ls are fits =
    let short : nat_lt 67108864 (length (lines_text ls)) ≡ false = grind (arith, fits) in
    rw short (lines-again events 1 opening ls are)
