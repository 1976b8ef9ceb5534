-- The flows of a report that is read have different keys: a second serial line of one key isn't read.
use Rattle.std.proofs.Common.{◌≡◌, ◌≢◌, ◌∙◌, ℕ, ◌+◌, List, [], ◌∷◌, ◌++◌, Bool, true, false, Option, Some, None, Result, Ok, Err, refl, sym, ap, subst}
use Rattle.std.specs.Prelude.{◌||◌, nat_lt, if◌then◌else◌, is_some, bytes_eq, length}
use Rattle.key_table.specs.Table.{Key, Table, same_key, get, put}
use Rattle.key_table.proofs.Tables.{same_key-true, get-put_same, get-put_other}
use Rattle.rp_base.specs.declared.legality.Flow.{Flow}
use Rattle.rp_base.specs.declared.line.Line.{Line}
use Rattle.proto_model.specs.Feeds.{Each}
use Rattle.proto_safety.proofs.Basics.Eachs.{each_append, each_weaker}
use Rattle.proto_safety.proofs.Basics.Pairs.{pairwise_push}
use Rattle.report_audit.specs.Rising.{KeysDiffer}
use Rattle.report_read.specs.declared.reading.Place.{Place}
use Rattle.report_read.specs.declared.reading.Place.TheVariants as place
use Rattle.report_read.specs.declared.reading.Reading.{Reading}
use Rattle.report_read.specs.declared.report.Report.{Report}
use Rattle.report_read.specs.declared.report.ReportWhy.{ReportWhy}
use Rattle.report_read.specs.declared.report.ReportWhy.TheVariants as why
use Rattle.report_read.specs.Words.{◌>>=◌, RawLine, lines}
use Rattle.report_read.specs.Forms.{line_of}
use Rattle.report_read.specs.Reading.{Fault, opening, at_event, at_serial, at_cells, at_end, taken, is_behind, raw_taken, at_line, lines_from, report_of}

-- a flow whose serial line was read has its key in the table, and isn't among those whose cells were read
abbrev Awaits : Table (Unit {0}) → List Flow → Place → Type 0
Awaits keys flows (place.Serial key marks) = (get keys key ≢ None) × Each (λ (f : Flow). f.key ≢ key) flows
Awaits keys flows _ = Unit {0}

record IsApart (r : Reading) : Type 0 where
  differ : KeysDiffer r.flows
  held : Each (λ (f : Flow). get r.keys f.key ≢ None) r.flows
  awaits : Awaits r.keys r.flows r.place

some_none : {A : Type 0} (x : A) (o : Option A) → o ≡ Some x → o ≢ None
some_none x o is none = let e : Some x ≡ None = sym is ∙ none in absurd cc

-- a key that a table has is there after another one is put
still_held : (keys : Table (Unit {0})) (key j : Key) → get keys j ≢ None → get (put keys key tt) j ≢ None
still_held keys key j h = by (same_key key j) refl
  where
    by : (b : Bool) → same_key key j ≡ b → get (put keys key tt) j ≢ None
    by true same = subst (λ k. get (put keys key tt) k ≢ None) (same_key-true key j same) (some_none tt (get (put keys key tt) key) (get-put_same keys key tt))
    by false other = subst (λ o. o ≢ None) (sym (get-put_other keys j key tt other)) h

new_key : (keys : Table (Unit {0})) (key j : Key) → is_some (get keys key) ≡ false → get keys j ≢ None → j ≢ key
new_key keys key j new h same = by (get keys key) refl new
  where
    by : (o : Option (Unit {0})) → get keys key ≡ o → is_some o ≡ false → ⊥
    by None is none = h (ap (get keys) same ∙ is)
    by (Some x) is none = cc

failed : {A E : Type 0} {e : E} {x : A} → Err e ≡ Ok x → ⊥
failed h = cc

abbrev so_read : Reading → Result Reading ReportWhy
so_read r = Ok r

made : {x y : Reading} → so_read x ≡ so_read y → x ≡ y
made h = cc

abbrev so_said : Report → Result Report Fault
so_said report = Ok report

said_is : {x y : Report} → so_said x ≡ so_said y → x ≡ y
said_is h = cc

abbrev faulty : ℕ → ReportWhy → Result Report Fault
faulty n cause = Err (n, cause)

module _ (r : Reading) (apart : IsApart r) where
  event_apart : (events event : ℕ) (p : Place) (now : Reading) → at_event events event r p ≡ Ok now → IsApart now
  event_apart events event place.Events now h = by (nat_lt event r.event || nat_lt events event) h
    where
      by : (b : Bool) → (if b then Err why.Event else Ok (record r { event = event })) ≡ Ok now → IsApart now
      by true is = absurd (failed is)
      by false is = subst IsApart (made is) (record { differ = apart.differ; held = apart.held; awaits = apart.awaits })
  event_apart events event place.Flows now h = absurd (failed h)
  event_apart events event (place.Serial key marks) now h = absurd (failed h)
  event_apart events event place.Behind now h = absurd (failed h)

  next_serial : (key : Key) (marks : List ℕ) (now : Reading) → (b : Bool) → is_some (get r.keys key) ≡ b →
      (if b then Err why.Form else Ok (record r { place = place.Serial key marks; keys = put r.keys key tt })) ≡ Ok now → IsApart now
  next_serial key marks now true is h = absurd (failed h)
  next_serial key marks now false new h =
      subst IsApart (made h)
      (record {
        differ = apart.differ;
        held = each_weaker (λ (f : Flow). get r.keys f.key ≢ None) (λ (f : Flow). get (put r.keys key tt) f.key ≢ None) r.flows (λ f. still_held r.keys key f.key) apart.held;
        awaits = (
          some_none tt (get (put r.keys key tt) key) (get-put_same r.keys key tt),
          each_weaker (λ (f : Flow). get r.keys f.key ≢ None) (λ (f : Flow). f.key ≢ key) r.flows (λ f. new_key r.keys key f.key new) apart.held,
        );
      })

  serial_apart : (key : Key) (marks : List ℕ) (p : Place) (now : Reading) → at_serial key marks r p ≡ Ok now → IsApart now
  serial_apart key marks place.Events now h = next_serial key marks now (is_some (get r.keys key)) refl h
  serial_apart key marks place.Flows now h = next_serial key marks now (is_some (get r.keys key)) refl h
  serial_apart key marks (place.Serial named before) now h = absurd (failed h)
  serial_apart key marks place.Behind now h = absurd (failed h)

  cells_apart : (key : Key) (cells : List ℕ) (p : Place) → r.place ≡ p → (now : Reading) → at_cells key cells r p ≡ Ok now → IsApart now
  cells_apart key cells place.Events at now h = absurd (failed h)
  cells_apart key cells place.Flows at now h = absurd (failed h)
  cells_apart key cells place.Behind at now h = absurd (failed h)
  cells_apart key cells (place.Serial named marks) at now h = by (bytes_eq named key) refl h
    where
      waits : Awaits r.keys r.flows (place.Serial named marks)
      waits = subst (Awaits r.keys r.flows) at apart.awaits

      by : (b : Bool) → bytes_eq named key ≡ b → (if b then Ok (record r { place = place.Flows; flows = r.flows ++ record { key = key; marks = marks; cells = cells } ∷ [] }) else Err why.Form) ≡ Ok now → IsApart now
      by true same is =
          let e : named ≡ key = same_key-true named key same in
          subst IsApart (made is)
          (record {
            differ = pairwise_push (λ (a b : Flow). a.key ≢ b.key) r.flows (record { key = key; marks = marks; cells = cells }) apart.differ (subst (λ k. Each (λ (f : Flow). f.key ≢ k) r.flows) e waits.1);
            held = each_append (λ (f : Flow). get r.keys f.key ≢ None) r.flows (record { key = key; marks = marks; cells = cells } ∷ []) apart.held (subst (λ k. get r.keys k ≢ None) e waits.0, tt);
            awaits = tt;
          })
      by false other is = absurd (failed is)

  end_apart : (p : Place) (now : Reading) → at_end r p ≡ Ok now → IsApart now
  end_apart place.Events now h = subst IsApart (made h) (record { differ = apart.differ; held = apart.held; awaits = tt })
  end_apart place.Flows now h = subst IsApart (made h) (record { differ = apart.differ; held = apart.held; awaits = tt })
  end_apart (place.Serial key marks) now h = absurd (failed h)
  end_apart place.Behind now h = absurd (failed h)

  -- what an event line adds says nothing of flows
  added_apart : (read : Result Reading ReportWhy) (f : Reading → Reading) (now : Reading) → ((mid : Reading) → read ≡ Ok mid → IsApart mid) → ((mid : Reading) → IsApart mid → IsApart (f mid)) →
      (read >>= (λ mid. Ok (f mid))) ≡ Ok now → IsApart now
  added_apart (Ok mid) f now first more h = subst IsApart (made h) (more mid (first mid refl))
  added_apart (Err cause) f now first more h = absurd (failed h)

  taken_apart : (events : ℕ) (l : Line) (now : Reading) → taken events r l ≡ Ok now → IsApart now
  taken_apart events (Line.Release event mark port bytes) now h =
      added_apart (at_event events event r r.place) (λ mid. record mid { releases = mid.releases ++ record { event = event; output = record { mark = mark; port = port; bytes = bytes } } ∷ [] }) now
      (event_apart events event r.place) (λ mid a. record { differ = a.differ; held = a.held; awaits = a.awaits }) h
  taken_apart events (Line.Drop event mark cause) now h = event_apart events event r.place now h
  taken_apart events (Line.Lost event cause) now h = event_apart events event r.place now h
  taken_apart events (Line.Refused event cause) now h =
      added_apart (at_event events event r r.place) (λ mid. record mid { refused = mid.refused ++ event ∷ [] }) now
      (event_apart events event r.place) (λ mid a. record { differ = a.differ; held = a.held; awaits = a.awaits }) h
  taken_apart events (Line.Stranger event node) now h = event_apart events event r.place now h
  taken_apart events (Line.Send event frame from to kind bytes) now h = absurd (failed h)
  taken_apart events (Line.Serial key marks) now h = serial_apart key marks r.place now h
  taken_apart events (Line.Epoch key epoch kept marks) now h = absurd (failed h)
  taken_apart events (Line.Cells key cells) now h = cells_apart key cells r.place refl now h
  taken_apart events Line.End now h = end_apart r.place now h

  raw_apart : (events : ℕ) (line : RawLine) (now : Reading) → raw_taken events r line ≡ Ok now → IsApart now
  raw_apart events line now h = by (is_behind r.place) line.1 (line_of line.0) h
    where
      by : (b c : Bool) (read : Result Line ReportWhy) → (if b then Err why.End else if c then (read >>= taken events r) else Err why.Form) ≡ Ok now → IsApart now
      by true c read is = absurd (failed is)
      by false false read is = absurd (failed is)
      by false true (Err cause) is = absurd (failed is)
      by false true (Ok l) is = taken_apart events l now is

lines_apart : (events n : ℕ) (r : Reading) (ls : List RawLine) (report : Report) → IsApart r → lines_from events n r ls ≡ Ok report → KeysDiffer report.flows
lines_apart events n r [] report apart h = by (is_behind r.place) h
  where
    said : Report
    said = record { releases = r.releases; flows = r.flows; refused = r.refused }

    by : (b : Bool) → (if b then Ok said else faulty n why.End) ≡ Ok report → KeysDiffer report.flows
    by true is = subst (λ (x : Report). KeysDiffer x.flows) (said_is is) apart.differ
    by false is = absurd (failed is)
lines_apart events n r (line ∷ ls) report apart h = by (raw_taken events r line) refl h (λ now is. lines_apart events (n + 1) now ls report (raw_apart r apart events line now is))
  where
    by : (read : Result Reading ReportWhy) → raw_taken events r line ≡ read → (at_line n read >>= (λ now. lines_from events (n + 1) now ls)) ≡ Ok report →
        ((now : Reading) → raw_taken events r line ≡ Ok now → lines_from events (n + 1) now ls ≡ Ok report → KeysDiffer report.flows) → KeysDiffer report.flows
    by (Ok now) at is rest = rest now at is
    by (Err cause) at is rest = absurd (failed is)

pub read_apart : (events : ℕ) (text : List ℕ) (report : Report) → report_of events text ≡ Ok report → KeysDiffer report.flows
unfolding report_of
read_apart events text report h = by (nat_lt 67108864 (length text)) h
  where
    by : (b : Bool) → (if b then faulty 0 why.TooLong else lines_from events 1 opening (lines text)) ≡ Ok report → KeysDiffer report.flows
    by true is = absurd (failed is)
    by false is = lines_apart events 1 opening (lines text) report (record { differ = tt; held = tt; awaits = tt }) is
