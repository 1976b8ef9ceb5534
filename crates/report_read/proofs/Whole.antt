-- What a whole report says.
use Rattle.std.proofs.Common.{◌≡◌, ℕ, ◌+◌, ◌≤◌, List, [], ◌∷◌, ◌++◌, Bool, true, false, ◌||◌, nat_lt, None, Ok, refl, sym, ap, ◌∙◌, arith, All}
use Rattle.std.proofs.lemmas.List.{append_assoc, append-nil}
use Rattle.std.proofs.lemmas.List.Elements.{All-head, All-tail}
use Rattle.key_table.specs.Table.{Table, same_key, get, put}
use Rattle.key_table.proofs.Tables.{same_key-refl, get-put_other}
use Rattle.rp_base.specs.declared.legality.Flow.{Flow}
use Rattle.rp_base.specs.declared.legality.Released.{Released}
use Rattle.rp_base.specs.declared.line.Line.{Line}
use Rattle.report_read.specs.declared.reading.Place.{Place}
use Rattle.report_read.specs.declared.reading.Place.TheVariants as place
use Rattle.report_read.specs.Reading.{opening}
use Rattle.report_read.specs.Printed.{said_from}
use Rattle.report_read.specs.Whole.{AreEventLines, HaveKeys, flow_lines, refused_in, releases_in, whole_lines}

-- a place at which a flow may begin
abbrev begins : Bool → Place
begins true = place.Events
begins false = place.Flows

-- flows whose keys have no serial line yet
abbrev AreNew : Table (Unit {0}) → List Flow → Type 0
AreNew keys fs = All (λ f. get keys f.key ≡ None) fs

still-new : (keys : Table (Unit {0})) (f : Flow) (fs : List Flow) → All (λ g. same_key f.key g.key ≡ false) fs → AreNew keys fs → AreNew (put keys f.key tt) fs
still-new keys f fs other new i d below = get-put_other keys _ f.key tt (other i d below) ∙ new i d below

flows-said : (events n event : ℕ) (first : Bool) (releases : List Released) (refused : List ℕ) (keys : Table (Unit {0})) (before fs : List Flow) → AreNew keys fs → HaveKeys fs →
    said_from events n (record { place = begins first; event = event; releases = releases; refused = refused; keys = keys; flows = before }) (flow_lines fs ++ Line.End ∷ [])
    ≡ Ok (record { releases = releases; flows = before ++ fs; refused = refused })
flows-said events n event true releases refused keys before [] new have = ap (λ (fs : List Flow). Ok (record { releases = releases; flows = fs; refused = refused })) (sym (append-nil before))
flows-said events n event false releases refused keys before [] new have = ap (λ (fs : List Flow). Ok (record { releases = releases; flows = fs; refused = refused })) (sym (append-nil before))
flows-said events n event first releases refused keys before (f ∷ fs) new have =
    by_place first (All-head (λ g. get keys g.key ≡ None) f fs new)
    (flows-said events (n + 1 + 1) event false releases refused (put keys f.key tt) (before ++ f ∷ []) fs (still-new keys f fs have.0 (All-tail (λ g. get keys g.key ≡ None) f fs new)) have.1
    ∙ ap (λ (gs : List Flow). Ok (record { releases = releases; flows = gs; refused = refused })) (append_assoc before (f ∷ []) fs))
  where
    by_place : (start : Bool) → get keys f.key ≡ None →
        said_from events (n + 1 + 1) (record { place = place.Flows; event = event; releases = releases; refused = refused; keys = put keys f.key tt; flows = before ++ f ∷ [] }) (flow_lines fs ++ Line.End ∷ []) ≡ Ok (record { releases = releases; flows = before ++ f ∷ fs; refused = refused }) →
        said_from events n (record { place = begins start; event = event; releases = releases; refused = refused; keys = keys; flows = before }) (flow_lines (f ∷ fs) ++ Line.End ∷ []) ≡ Ok (record { releases = releases; flows = before ++ f ∷ fs; refused = refused })
    by_place true none rest = rw (none, same_key-refl f.key) rest
    by_place false none rest = rw (none, same_key-refl f.key) rest

within : (last event events : ℕ) → last ≤ event → event ≤ events → (nat_lt event last || nat_lt events event) ≡ false
within last event events h k = grind (arith, h, k)

said : (events n last : ℕ) (releases : List Released) (refused : List ℕ) (ls : List Line) (fs : List Flow) → AreEventLines events last ls → HaveKeys fs →
    said_from events n (record { place = place.Events; event = last; releases = releases; refused = refused; keys = []; flows = [] }) (whole_lines ls fs)
    ≡ Ok (record { releases = releases ++ releases_in ls; flows = fs; refused = refused ++ refused_in ls })
said events n last releases refused [] fs are have =
    flows-said events n last true releases refused [] [] fs (λ i d below. refl) have
    ∙ ap (λ (rs : List Released). Ok (record { releases = rs; flows = fs; refused = refused })) (sym (append-nil releases))
    ∙ ap (λ (es : List ℕ). Ok (record { releases = releases ++ []; flows = fs; refused = es })) (sym (append-nil refused))
said events n last releases refused (Line.Release event mark port bytes ∷ ls) fs are have =
    let one : Released = record { event = event; output = record { mark = mark; port = port; bytes = bytes } } in
    rw (within last event events are.1 are.2) (
    said events (n + 1) event (releases ++ one ∷ []) refused ls fs are.3 have
    ∙ ap (λ (rs : List Released). Ok (record { releases = rs; flows = fs; refused = refused ++ refused_in ls })) (append_assoc releases (one ∷ []) (releases_in ls)))
said events n last releases refused (Line.Drop event mark cause ∷ ls) fs are have = rw (within last event events are.1 are.2) (said events (n + 1) event releases refused ls fs are.3 have)
said events n last releases refused (Line.Lost event cause ∷ ls) fs are have = rw (within last event events are.1 are.2) (said events (n + 1) event releases refused ls fs are.3 have)
said events n last releases refused (Line.Refused event cause ∷ ls) fs are have =
    rw (within last event events are.1 are.2) (
    said events (n + 1) event releases (refused ++ event ∷ []) ls fs are.3 have
    ∙ ap (λ (es : List ℕ). Ok (record { releases = releases ++ releases_in ls; flows = fs; refused = es })) (append_assoc refused (event ∷ []) (refused_in ls)))
said events n last releases refused (Line.Stranger event node ∷ ls) fs are have = rw (within last event events are.1 are.2) (said events (n + 1) event releases refused ls fs are.3 have)
said events n last releases refused (Line.Send event frame from to kind bytes ∷ ls) fs are have = absurd are.0
said events n last releases refused (Line.Serial key marks ∷ ls) fs are have = absurd are.0
said events n last releases refused (Line.Epoch key epoch kept marks ∷ ls) fs are have = absurd are.0
said events n last releases refused (Line.Cells key cells ∷ ls) fs are have = absurd are.0
said events n last releases refused (Line.End ∷ ls) fs are have = absurd are.0

pub whole-said : (events : ℕ) (ls : List Line) (fs : List Flow) → AreEventLines events 0 ls → HaveKeys fs → said_from events 1 opening (whole_lines ls fs) ≡ Ok (record { releases = releases_in ls; flows = fs; refused = refused_in ls })
whole-said events ls fs are have = said events 1 0 [] [] ls fs are have
