-- A schedule is read again from its text.
use Rattle.std.proofs.Common.{◌≡◌, ℕ, zero, suc, ◌+◌, ◌-◌, ◌^◌, ◌<◌, ◌≤◌, List, [], ◌∷◌, ◌++◌, true, false, nat_le, nat_lt, length, get_or, map, fold, decimal, eqb, eq-eqb, Option, Some, None, refl, sym, ap, ◌∙◌, arith, All, Ok, Result}
use Rattle.std.specs.Prelude.{codes, bytes_eq, flat_map, IfSome, ◌==◌, nat_eq}
use Rattle.std.specs.List.{list_all}
use Rattle.std.proofs.lemmas.Bool.{and_parts}
use Rattle.std.proofs.lemmas.Fmt.{decimal_digit, first_decimal}
use Rattle.std.proofs.lemmas.List.{append_assoc, append-nil, length-map}
use Rattle.std.proofs.lemmas.List.Elements.{All-head, All-tail}
use Rattle.hex.specs.Hex.{IsBytes, encode_lower, encode_with, lower_digits}
use Rattle.hex.proofs.HexLemmas.{decode_of-encode_lower, length-encode_with}
use Rattle.rp_base.specs.Clocks.{TermsHold}
use Rattle.rp_base.specs.declared.event.Event.{Event}
use Rattle.rp_base.specs.declared.node.Node.{Node}
use Rattle.run_report.specs.Names.{node_name}
use Rattle.run_report.specs.Words.{decimals, hex_text}
use Rattle.report_read.proofs.Cuts.{Lacks}
use Rattle.report_read.proofs.Spelled.{IsWord, spells, word-decimal, word-hex, not-dash}
use Rattle.report_read.proofs.Again.{IsFlat, words-one, words-then, words-decimals, flat-then, flat-append, flat-decimals, flat-lacks}
use Rattle.sched_lang.specs.declared.schedule.Schedule.{Schedule}
use Rattle.sched_lang.specs.declared.schedule.SchedWhy.{SchedWhy}
use Rattle.sched_lang.specs.Causes.{◌>>=◌, both}
use Rattle.sched_lang.specs.Words.{lines, words, passed_over, is_digit, is_decimal, value_of, number, packet, numbered, switch, node, behind, two}
use Rattle.sched_lang.specs.EventForms.{event_of, event_line, one_more}
use Rattle.sched_lang.specs.Header.{named, switches_line, chain_line, lease_line, ratio_line, mode_line, mode, terms_fit}
use Rattle.sched_lang.specs.Reading.{header, event_in, events_from, schedule_of}
use Rattle.sched_lang.specs.Ready.{IsNodeOf, IsEventOf, IsHeader, header_of}
use Rattle.sched_print.specs.Text.{line, mode_words, header_text, event_words, event_text, schedule_text}
use Rattle.sched_print.specs.Again.{IsPacket, IsPrintable}

-- ---- words

decimal-from : (ds : List ℕ) → list_all is_digit ds ≡ true → 48 < get_or ds 0 0 → is_decimal ds ≡ true
decimal-from [] digits first = absurd (omega (arith, first))
decimal-from (b ∷ []) digits first = (and_parts (is_digit b) true digits).0
decimal-from (b ∷ c ∷ bs) digits first = let other : (b == 48) ≡ false = grind (arith, first) in rw (other, digits) refl

is-decimal : (n : ℕ) → n < 2 ^ 64 → is_decimal (decimal n) ≡ true
is-decimal zero h = rw (decimal_digit zero (omega arith)) refl
is-decimal (suc n) h = decimal-from (decimal (suc n)) (spells (suc n) h).digits (first_decimal (suc n) (omega arith) h)

number-again : (least most n : ℕ) → least ≤ n → n ≤ most → most ≤ 1000000000 → number least most (decimal n) ≡ Ok n
number-again least most n low high end =
    let fits : n < 2 ^ 64 = omega (arith, high, end) in
    let value : value_of (decimal n) ≡ n = (spells n fits).value in
    let l : nat_le least n ≡ true = grind (arith, low) in
    let m : nat_le n most ≡ true = grind (arith, high) in
    rw (is-decimal n fits, value, l, m) refl

word-number : (most n : ℕ) → n ≤ most → most ≤ 1000000000 → IsWord (decimal n) ≡ true
word-number most n high end = word-decimal n (omega (arith, high, end))

packet-again : (bytes : List ℕ) → length bytes ≤ 1500 → IsBytes bytes → packet (hex_text bytes) ≡ Ok bytes
unfolding encode_with
packet-again [] fits are = refl
packet-again (b ∷ bs) fits are =
    let below : nat_le (length (b ∷ bs)) 1500 ≡ true = grind (arith, fits) in
    let some : nat_eq (length (encode_lower (b ∷ bs))) 0 ≡ false = grind (arith, length-encode_with lower_digits (b ∷ bs)) in
    rw (some, not-dash b bs, decode_of-encode_lower (b ∷ bs) are, below) refl

numbered-again : (named there n : ℕ) → n < named → n < there → numbered named there (48 + n) ≡ Ok n
numbered-again named there n low high =
    let least : nat_le 48 (48 + n) ≡ true = grind arith in
    let within : nat_lt (48 + n) (48 + named) ≡ true = grind (arith, low) in
    let back : (48 + n) - 48 ≡ n = omega arith in
    let is : nat_lt n there ≡ true = grind (arith, high) in
    rw (least, within, back, is) refl

switch-again : (switches n : ℕ) → switches ≤ 8 → n < switches → switch switches (node_name (Node.Switch n)) ≡ Ok n
switch-again switches n most is = rw (decimal_digit n (omega (arith, most, is)), numbered-again 8 switches n (omega (arith, most, is)) is) refl

node-again : (switches chain : ℕ) (n : Node) → switches ≤ 8 → chain ≤ 5 → IsNodeOf switches chain n → node switches chain (node_name n) ≡ Ok n
node-again switches chain (Node.Switch n) most few is = rw (decimal_digit n (omega (arith, most, is)), numbered-again 8 switches n (omega (arith, most, is)) is) refl
node-again switches chain (Node.Replica n) most few is = rw (decimal_digit n (omega (arith, few, is)), numbered-again 5 chain n (omega (arith, few, is)) is) refl
node-again switches chain Node.Master most few is = absurd is

word-digit : (letter n : ℕ) → nat_lt 32 letter ≡ true → n < 10 → IsWord (letter ∷ decimal n) ≡ true
word-digit letter n h few = let above : nat_lt 32 (48 + n) ≡ true = grind arith in rw (decimal_digit n few, h, above) refl

word-node : (switches chain : ℕ) (n : Node) → switches ≤ 8 → chain ≤ 5 → IsNodeOf switches chain n → IsWord (node_name n) ≡ true
word-node switches chain (Node.Switch n) most few is = word-digit 115 n refl (omega (arith, most, is))
word-node switches chain (Node.Replica n) most few is = word-digit 114 n refl (omega (arith, few, is))
word-node switches chain Node.Master most few is = absurd is

advances-again : (front by : List ℕ) → All (λ d. d ≤ 1000000000) by → fold one_more (Ok front) (map decimal by) ≡ Ok (front ++ by)
advances-again front [] are = ap (λ (x : List ℕ). Ok x) (sym (append-nil front))
advances-again front (n ∷ by) are =
    let one : number 0 1000000000 (decimal n) ≡ Ok n = number-again 0 1000000000 n (omega arith) (All-head (λ d. d ≤ 1000000000) n by are) (omega arith) in
    let more : one_more (Ok front) (decimal n) ≡ Ok (front ++ n ∷ []) = rw one refl in
    ap (λ (read : Result (List ℕ) SchedWhy). fold one_more read (map decimal by)) more
    ∙ advances-again (front ++ n ∷ []) by (All-tail (λ d. d ≤ 1000000000) n by are)
    ∙ ap (λ (x : List ℕ). Ok x) (append_assoc front (n ∷ []) by)

-- ---- an event

words-one_more : (name word : List ℕ) → IsWord name ≡ true → IsWord word ≡ true → words (name ++ 32 ∷ word) ≡ name ∷ word ∷ []
words-one_more name word h w = words-then name word w ∙ ap (λ (ws : List (List ℕ)). ws ++ word ∷ []) (words-one name h)

words-two_more : (name one two : List ℕ) → IsWord name ≡ true → IsWord one ≡ true → IsWord two ≡ true → words ((name ++ 32 ∷ one) ++ 32 ∷ two) ≡ name ∷ one ∷ two ∷ []
words-two_more name one two h w v = words-then (name ++ 32 ∷ one) two v ∙ ap (λ (ws : List (List ℕ)). ws ++ two ∷ []) (words-one_more name one h w)

words-three_more : (name one two three : List ℕ) → IsWord name ≡ true → IsWord one ≡ true → IsWord two ≡ true → IsWord three ≡ true → words (((name ++ 32 ∷ one) ++ 32 ∷ two) ++ 32 ∷ three) ≡ name ∷ one ∷ two ∷ three ∷ []
words-three_more name one two three h w v u = words-then ((name ++ 32 ∷ one) ++ 32 ∷ two) three u ∙ ap (λ (ws : List (List ℕ)). ws ++ three ∷ []) (words-two_more name one two h w v)

are-numbers : (by : List ℕ) → All (λ d. d ≤ 1000000000) by → All (λ n. n < 18446744073709551616) by
are-numbers by are i d below = omega (arith, are i d below)

module _ (switches chain : ℕ) (most : switches ≤ 8) (few : chain ≤ 5) where
  event-again : (e : Event) → IsEventOf switches chain e → IsPacket e → event_line switches chain (event_words e) ≡ Ok e
  event-again (Event.Feed port bytes) is p =
      let at = number-again 0 65535 port (omega arith) p.0 (omega arith) in
      let read : event_of switches chain (codes "feed" ∷ decimal port ∷ hex_text bytes ∷ []) ≡ Ok (Event.Feed port bytes) = rw (at, packet-again bytes is p.1) refl in
      ap (event_of switches chain) (words-two_more (codes "feed") (decimal port) (hex_text bytes) refl (word-number 65535 port p.0 (omega arith)) (word-hex bytes p.1)) ∙ read
  event-again (Event.FeedAt n port bytes) is p =
      let at = number-again 0 65535 port (omega arith) p.0 (omega arith) in
      let read : event_of switches chain (codes "feedat" ∷ node_name (Node.Switch n) ∷ decimal port ∷ hex_text bytes ∷ []) ≡ Ok (Event.FeedAt n port bytes) = rw (switch-again switches n most is.0, at, packet-again bytes is.1 p.1) refl in
      ap (event_of switches chain) (words-three_more (codes "feedat") (node_name (Node.Switch n)) (decimal port) (hex_text bytes) refl (word-node switches chain (Node.Switch n) most few is.0) (word-number 65535 port p.0 (omega arith)) (word-hex bytes p.1)) ∙ read
  event-again (Event.Deliver i) is p =
      let read : event_of switches chain (codes "deliver" ∷ decimal i ∷ []) ≡ Ok (Event.Deliver i) = rw (number-again 0 65535 i (omega arith) is (omega arith)) refl in
      ap (event_of switches chain) (words-one_more (codes "deliver") (decimal i) refl (word-number 65535 i is (omega arith))) ∙ read
  event-again Event.Next is p = refl
  event-again (Event.Drop i) is p =
      let read : event_of switches chain (codes "drop" ∷ decimal i ∷ []) ≡ Ok (Event.Drop i) = rw (number-again 0 65535 i (omega arith) is (omega arith)) refl in
      ap (event_of switches chain) (words-one_more (codes "drop") (decimal i) refl (word-number 65535 i is (omega arith))) ∙ read
  event-again (Event.Time by) is p =
      let size : eqb (length (map decimal by)) (switches + chain) ≡ true = eq-eqb _ _ (length-map by decimal ∙ is.0) in
      let read : event_of switches chain (codes "time" ∷ map decimal by) ≡ Ok (Event.Time by) = rw (size, advances-again [] by is.1) refl in
      ap (event_of switches chain) (words-decimals (codes "time") by refl (are-numbers by is.1)) ∙ read
  event-again (Event.Alarm n) is p =
      let read : event_of switches chain (codes "alarm" ∷ node_name n ∷ []) ≡ Ok (Event.Alarm n) = rw (node-again switches chain n most few is) refl in
      ap (event_of switches chain) (words-one_more (codes "alarm") (node_name n) refl (word-node switches chain n most few is)) ∙ read
  event-again (Event.Fail n) is p =
      let read : event_of switches chain (codes "fail" ∷ node_name n ∷ []) ≡ Ok (Event.Fail n) = rw (node-again switches chain n most few is) refl in
      ap (event_of switches chain) (words-one_more (codes "fail") (node_name n) refl (word-node switches chain n most few is)) ∙ read
  event-again (Event.Boot n) is p =
      let read : event_of switches chain (codes "boot" ∷ node_name (Node.Switch n) ∷ []) ≡ Ok (Event.Boot n) = rw (switch-again switches n most is) refl in
      ap (event_of switches chain) (words-one_more (codes "boot") (node_name (Node.Switch n)) refl (word-node switches chain (Node.Switch n) most few is)) ∙ read
  event-again (Event.Detect n) is p =
      let read : event_of switches chain (codes "detect" ∷ node_name n ∷ []) ≡ Ok (Event.Detect n) = rw (node-again switches chain n most few is) refl in
      ap (event_of switches chain) (words-one_more (codes "detect") (node_name n) refl (word-node switches chain n most few is)) ∙ read
  event-again Event.Announce is p = refl
  event-again Event.Pump is p = absurd is

  event-flat : (e : Event) → IsEventOf switches chain e → IsPacket e → IsFlat (event_words e) ≡ true
  event-flat (Event.Feed port bytes) is p = flat-then (codes "feed" ++ 32 ∷ decimal port) (hex_text bytes) (flat-then (codes "feed") (decimal port) refl (word-number 65535 port p.0 (omega arith))) (word-hex bytes p.1)
  event-flat (Event.FeedAt n port bytes) is p =
      flat-then ((codes "feedat" ++ 32 ∷ node_name (Node.Switch n)) ++ 32 ∷ decimal port) (hex_text bytes)
      (flat-then (codes "feedat" ++ 32 ∷ node_name (Node.Switch n)) (decimal port)
      (flat-then (codes "feedat") (node_name (Node.Switch n)) refl (word-node switches chain (Node.Switch n) most few is.0)) (word-number 65535 port p.0 (omega arith))) (word-hex bytes p.1)
  event-flat (Event.Deliver i) is p = flat-then (codes "deliver") (decimal i) refl (word-number 65535 i is (omega arith))
  event-flat Event.Next is p = refl
  event-flat (Event.Drop i) is p = flat-then (codes "drop") (decimal i) refl (word-number 65535 i is (omega arith))
  event-flat (Event.Time by) is p = flat-append (codes "time") (decimals by) refl (flat-decimals by (are-numbers by is.1))
  event-flat (Event.Alarm n) is p = flat-then (codes "alarm") (node_name n) refl (word-node switches chain n most few is)
  event-flat (Event.Fail n) is p = flat-then (codes "fail") (node_name n) refl (word-node switches chain n most few is)
  event-flat (Event.Boot n) is p = flat-then (codes "boot") (node_name (Node.Switch n)) refl (word-node switches chain (Node.Switch n) most few is)
  event-flat (Event.Detect n) is p = flat-then (codes "detect") (node_name n) refl (word-node switches chain n most few is)
  event-flat Event.Announce is p = refl
  event-flat Event.Pump is p = refl

-- no event's line is passed over
event-there : (e : Event) → passed_over (event_words e) ≡ false
event-there (Event.Feed port bytes) = refl
event-there (Event.FeedAt n port bytes) = refl
event-there (Event.Deliver i) = refl
event-there Event.Next = refl
event-there (Event.Drop i) = refl
event-there (Event.Time by) = refl
event-there (Event.Alarm n) = refl
event-there (Event.Fail n) = refl
event-there (Event.Boot n) = refl
event-there (Event.Detect n) = refl
event-there Event.Announce = refl
event-there Event.Pump = refl

-- ---- lines

-- a line and its line feed, before other lines
lines-at : (xs ys : List ℕ) → Lacks 10 xs → lines (xs ++ 10 ∷ ys) ≡ xs ∷ lines ys
lines-at [] ys h = refl
lines-at (x ∷ xs) ys h =
    let t : eqb x 10 ≡ false = All-head (λ b. eqb b 10 ≡ false) x xs h in
    let r : lines (xs ++ 10 ∷ ys) ≡ xs ∷ lines ys = lines-at xs ys (All-tail (λ b. eqb b 10 ≡ false) x xs h) in
    rw (t, r) refl

lines-line : (words more : List ℕ) → IsFlat words ≡ true → lines (line words ++ more) ≡ words ∷ lines more
lines-line words more h = ap lines (append_assoc words (10 ∷ []) more) ∙ lines-at words more (flat-lacks words h)

module _ (switches chain : ℕ) (most : switches ≤ 8) (few : chain ≤ 5) where
  event_in-again : (before : ℕ) (e : Event) → before < 20000 → IsEventOf switches chain e → IsPacket e → event_in switches chain before (event_words e) ≡ Ok (Some e)
  event_in-again before e room is p =
      let full : nat_le 20000 before ≡ false = grind (arith, room) in
      rw (event-there e, full, event-again switches chain most few e is p) refl

  events-again : (before n : ℕ) (es : List Event) → before + length es ≤ 20000 → All (IsEventOf switches chain) es → All IsPacket es →
      events_from switches chain before n (lines (flat_map event_text es)) ≡ Ok es
  events-again before n [] room are ps = refl
  events-again before n (e ∷ es) room are ps =
      let is : IsEventOf switches chain e = All-head (IsEventOf switches chain) e es are in
      let p : IsPacket e = All-head IsPacket e es ps in
      let cut : lines (event_text e ++ flat_map event_text es) ≡ event_words e ∷ lines (flat_map event_text es) = lines-line (event_words e) (flat_map event_text es) (event-flat switches chain most few e is p) in
      let here : event_in switches chain before (event_words e) ≡ Ok (Some e) = event_in-again before e (omega (arith, room)) is p in
      let rest : events_from switches chain (before + 1) (n + 1) (lines (flat_map event_text es)) ≡ Ok es = events-again (before + 1) (n + 1) es (omega (arith, room)) (All-tail (IsEventOf switches chain) e es are) (All-tail IsPacket e es ps) in
      ap (events_from switches chain before n) cut ∙ rw (here, rest) refl

-- ---- the header

-- this text is these lines, whatever stands behind it
abbrev Are : List ℕ → List (List ℕ) → Type 0
Are text ls = (more : List ℕ) → lines (text ++ more) ≡ ls ++ lines more

are-then : (text words : List ℕ) (ls : List (List ℕ)) → IsFlat words ≡ true → Are text ls → Are (text ++ line words) (ls ++ words ∷ [])
are-then text words ls h are more =
    ap lines (append_assoc text (line words) more)
    ∙ are (line words ++ more)
    ∙ ap (λ (rest : List (List ℕ)). ls ++ rest) (lines-line words more h)
    ∙ sym (append_assoc ls (words ∷ []) (lines more))

named-again : (name : List ℕ) (least most n : ℕ) → IsWord name ≡ true → bytes_eq name name ≡ true → least ≤ n → n ≤ most → most ≤ 1000000000 → named name least most (name ++ 32 ∷ decimal n) ≡ Ok n
named-again name least most n h same low high end =
    let ws = words-one_more name (decimal n) h (word-number most n high end) in
    rw (ws, same, number-again least most n low high end) refl

-- a name and a number in one line
flat-named : (name : List ℕ) (most n : ℕ) → IsFlat name ≡ true → n ≤ most → most ≤ 1000000000 → IsFlat (name ++ 32 ∷ decimal n) ≡ true
flat-named name most n h high end = flat-then name (decimal n) h (word-number most n high end)

lease-again : (t_switch t_store : ℕ) → 1 ≤ t_switch → t_switch ≤ 1000000 → 1 ≤ t_store → t_store ≤ 1000000 → lease_line ((codes "lease" ++ 32 ∷ decimal t_switch) ++ 32 ∷ decimal t_store) ≡ Ok (t_switch, t_store)
lease-again t_switch t_store a b c d =
    let ws = words-two_more (codes "lease") (decimal t_switch) (decimal t_store) refl (word-number 1000000 t_switch b (omega arith)) (word-number 1000000 t_store d (omega arith)) in
    let read : (both (number 1 1000000 (decimal t_switch)) (number 1 1000000 (decimal t_store))) ≡ Ok (t_switch, t_store) = rw (number-again 1 1000000 t_switch a b (omega arith), number-again 1 1000000 t_store c d (omega arith)) refl in
    ap lease_words ws ∙ read
  where
    lease_words : List (List ℕ) → Result (ℕ × ℕ) SchedWhy
    lease_words ws = behind (codes "lease") ws >>= λ args. two args >>= λ ps. both (number 1 1000000 ps.0) (number 1 1000000 ps.1)

ratio-again : (t_switch t_store ratio : ℕ) → ratio ≤ 1000 → TermsHold t_switch t_store ratio → ratio_line t_switch t_store (codes "ratio" ++ 32 ∷ decimal ratio) ≡ Ok ratio
ratio-again t_switch t_store ratio high hold =
    let fit : terms_fit t_switch t_store ratio ≡ true = grind (arith, hold) in
    rw (named-again (codes "ratio") 0 1000 ratio refl refl (omega arith) high (omega arith), fit) refl

mode-again : (snapshot : Option ℕ) → IfSome snapshot (λ bound. (1 ≤ bound) × (bound ≤ 1000000)) → mode_line (mode_words snapshot) ≡ Ok snapshot
mode-again None h = refl
mode-again (Some bound) h =
    let ws = words-then (codes "mode snapshot") (decimal bound) (word-number 1000000 bound h.1 (omega arith)) in
    let read : mode (codes "snapshot" ∷ decimal bound ∷ []) ≡ Ok (Some bound) = rw (number-again 1 1000000 bound h.0 h.1 (omega arith)) refl in
    ap mode_words_read ws ∙ read
  where
    mode_words_read : List (List ℕ) → Result (Option ℕ) SchedWhy
    mode_words_read ws = behind (codes "mode") ws >>= mode

mode-flat : (snapshot : Option ℕ) → IfSome snapshot (λ bound. (1 ≤ bound) × (bound ≤ 1000000)) → IsFlat (mode_words snapshot) ≡ true
mode-flat None h = refl
mode-flat (Some bound) h = flat-named (codes "mode snapshot") 1000000 bound refl h.1 (omega arith)

mode-there : (snapshot : Option ℕ) → passed_over (mode_words snapshot) ≡ false
mode-there None = refl
mode-there (Some bound) = refl

-- the words of the header's lines
abbrev header_words : Schedule → List (List ℕ)
header_words s =
    codes "rp-schedule 1" ∷ (codes "switches" ++ 32 ∷ decimal s.switches) ∷ (codes "chain" ++ 32 ∷ decimal s.chain)
    ∷ ((codes "lease" ++ 32 ∷ decimal s.t_switch) ++ 32 ∷ decimal s.t_store) ∷ (codes "ratio" ++ 32 ∷ decimal s.ratio) ∷ mode_words s.snapshot ∷ []

header-lines : (s : Schedule) → IsHeader (header_of s) → Are (header_text s) (header_words s)
header-lines s h =
    let title : List ℕ = codes "rp-schedule 1" in
    let switches : List ℕ = codes "switches" ++ 32 ∷ decimal s.switches in
    let chain : List ℕ = codes "chain" ++ 32 ∷ decimal s.chain in
    let lease : List ℕ = (codes "lease" ++ 32 ∷ decimal s.t_switch) ++ 32 ∷ decimal s.t_store in
    let ratio : List ℕ = codes "ratio" ++ 32 ∷ decimal s.ratio in
    let one : Are (line title) (title ∷ []) = λ more. lines-line title more refl in
    let two : Are (line title ++ line switches) (title ∷ switches ∷ []) = are-then (line title) switches (title ∷ []) (flat-named (codes "switches") 8 s.switches refl h.switches_fit (omega arith)) one in
    let three : Are (line title ++ line switches ++ line chain) (title ∷ switches ∷ chain ∷ []) = are-then (line title ++ line switches) chain (title ∷ switches ∷ []) (flat-named (codes "chain") 5 s.chain refl h.replicas_fit (omega arith)) two in
    let four : Are (line title ++ line switches ++ line chain ++ line lease) (title ∷ switches ∷ chain ∷ lease ∷ []) =
    are-then (line title ++ line switches ++ line chain) lease (title ∷ switches ∷ chain ∷ [])
    (flat-then (codes "lease" ++ 32 ∷ decimal s.t_switch) (decimal s.t_store) (flat-named (codes "lease") 1000000 s.t_switch refl h.switch_fits (omega arith)) (word-number 1000000 s.t_store h.store_fits (omega arith))) three in
    let five : Are (line title ++ line switches ++ line chain ++ line lease ++ line ratio) (title ∷ switches ∷ chain ∷ lease ∷ ratio ∷ []) =
    are-then (line title ++ line switches ++ line chain ++ line lease) ratio (title ∷ switches ∷ chain ∷ lease ∷ []) (flat-named (codes "ratio") 1000 s.ratio refl h.ratio_fits (omega arith)) four in
    are-then (line title ++ line switches ++ line chain ++ line lease ++ line ratio) (mode_words s.snapshot) (title ∷ switches ∷ chain ∷ lease ∷ ratio ∷ []) (mode-flat s.snapshot h.bound) five

header-again : (s : Schedule) (rest : List (List ℕ)) → IsHeader (header_of s) → header 1 (header_words s ++ rest) ≡ Ok (header_of s, 7, rest)
unfolding header
header-again s rest h =
    let switches : switches_line (codes "switches" ++ 32 ∷ decimal s.switches) ≡ Ok s.switches = named-again (codes "switches") 1 8 s.switches refl refl h.some_switches h.switches_fit (omega arith) in
    let chain : chain_line (codes "chain" ++ 32 ∷ decimal s.chain) ≡ Ok s.chain = named-again (codes "chain") 1 5 s.chain refl refl h.some_replicas h.replicas_fit (omega arith) in
    let lease = lease-again s.t_switch s.t_store h.some_switch h.switch_fits h.some_store h.store_fits in
    let ratio = ratio-again s.t_switch s.t_store s.ratio h.ratio_fits h.hold in
    rw (switches, chain, lease, ratio, mode-there s.snapshot, mode-again s.snapshot h.bound) refl

-- ---- the whole text

pub schedule-again : (s : Schedule) → IsPrintable s → length (schedule_text s) ≤ 4194304 → schedule_of (schedule_text s) ≡ Ok s
unfolding schedule_of
schedule-again s h fits =
    let short : nat_lt 4194304 (length (schedule_text s)) ≡ false = grind (arith, fits) in
    let cut : lines (schedule_text s) ≡ header_words s ++ lines (flat_map event_text s.events) = header-lines s h.ready.header (flat_map event_text s.events) in
    let head = header-again s (lines (flat_map event_text s.events)) h.ready.header in
    let events = events-again s.switches s.chain h.ready.header.switches_fit h.ready.header.replicas_fit 0 7 s.events (omega (arith, h.ready.count)) h.ready.events h.packets in
    rw (short, cut, head, events) refl
