-- Packets as bits: what the parser takes, and what the deparser gives.
use Rattle.std.specs.Prelude.{ℕ, zero, suc, ◌+◌, List, [], ◌∷◌, ◌++◌, map, Option, Some, None, if◌then◌else◌, Bool, true, take, drop, length, nat_le, set, bytes_eq, codes}
use Rattle.p4_ast.specs.declared.parser.P4State.{P4State}
use Rattle.p4_ast.specs.declared.parser.P4Step.{P4Step}
use Rattle.p4_ast.specs.declared.parser.P4Step.TheVariants as step
use Rattle.p4_ast.specs.declared.parser.P4Target.{P4Target}
use Rattle.p4_ast.specs.declared.parser.P4Target.TheVariants as target
use Rattle.p4_ast.specs.declared.parser.P4Case.{P4Case}
use Rattle.p4_ast.specs.declared.program.P4Emit.{P4Emit}
use Rattle.rp_bits.specs.Bits.{digits, number_of}
use Rattle.app_data.specs.declared.value.Value.{Value}
use Rattle.app_meaning.specs.Values.{cut, truth, holds}
use Rattle.app_meaning.specs.Slots.{Name, Scope, text, names, slot_of, value_in}
use Rattle.app_meaning.specs.Expressions.{eval}
use Rattle.app_data.specs.declared.value.Match.{Match}
use Rattle.app_meaning.specs.Matches.{keyset_row, winner}
use Rattle.app_meaning.specs.Assigning.{assign, field_count}
use Rattle.app_meaning.specs.Statements.{values_of}

-- ---- the parser

-- the values, and the bits that are left
pub record Parsing : Type 0 where
  pub values : List Value
  pub left : List ℕ

-- the width of so many values from this place on
abbrev pub total_width : ℕ → ℕ → List Value → ℕ
total_width zero i values = 0
total_width (suc k) i values = (value_in values i).width + total_width k (suc i) values

-- so many values from this place on take their bits, one after the other
abbrev pub filled : ℕ → ℕ → Parsing → Parsing
filled zero i p = p
filled (suc k) i p =
    let w = (value_in p.values i).width in
    filled k (suc i) (record { values = set p.values i (cut w (number_of (take w p.left))); left = drop w p.left })

-- a header becomes valid
abbrev pub valid_at : ℕ → Parsing → Parsing
valid_at h p = record { values = set p.values h (truth true); left = p.left }

-- a header takes its fields' bits and becomes valid; none where too few are left
abbrev pub extract : Scope → Option ℕ → Parsing → Option Parsing
extract sc None p = Some p
extract sc (Some h) p =
    if nat_le (total_width (field_count sc h) (suc h) p.values) (length p.left)
    then Some (valid_at h (filled (field_count sc h) (suc h) p))
    else None

-- a statement of a state
abbrev pub parser_step : Scope → P4Step → Parsing → Option Parsing
parser_step sc (step.Extract e) p = extract sc (slot_of sc (names e.path)) p
parser_step sc (step.Assign a) p = Some (record { values = assign sc a.left (eval a.expr sc p.values).number p.values; left = p.left })

-- what follows, unless the packet is rejected
abbrev pub then_steps : (Parsing → Option Parsing) → Option Parsing → Option Parsing
then_steps more None = None
then_steps more (Some p) = more p

-- the statements of a state, one after the other
abbrev pub parser_steps : Scope → List P4Step → Parsing → Option Parsing
parser_steps sc [] p = Some p
parser_steps sc (s ∷ ss) p = then_steps (parser_steps sc ss) (parser_step sc s p)

-- the cases of a `select`, each with the name of its state
abbrev pub cases : Scope → List P4Case → List (List Match × Name)
cases sc cs = map (λ c. (keyset_row sc c.keyset, text c.name)) cs

-- the name of the case that wins
abbrev pub row_name : Option (List Match × Name) → Option Name
row_name None = None
row_name (Some r) = Some r.1

-- the state that follows, if there is one
abbrev pub next : Scope → P4Target → List Value → Option Name
next sc (target.Name at name) values = Some (text name)
next sc (target.Select at es cs) values = row_name (winner None (values_of es sc values) (cases sc cs))

-- what a state leaves, and the name of the next one
abbrev pub with_next : Scope → P4Target → Option Parsing → Option (Option Name × Parsing)
with_next sc t None = None
with_next sc t (Some p) = Some (next sc t p.values, p)

-- the state of this name, and which one follows it; none where the packet is rejected
abbrev pub run_state : Scope → List P4State → Name → Parsing → Option (Option Name × Parsing)
run_state sc [] name p = None
run_state sc (s ∷ ss) name p =
    if bytes_eq (text s.name) name then with_next sc s.target (parser_steps sc s.steps p) else run_state sc ss name p

-- whether a name ends the parser
abbrev pub is_accept : Name → Bool
is_accept name = bytes_eq name (codes "accept")

-- on to the state that follows
abbrev pub go_on : (Name → Parsing → Option Parsing) → Option (Option Name × Parsing) → Option Parsing
go_on more None = None
go_on more (Some (None, p)) = None
go_on more (Some (Some name, p)) = more name p

-- the states from this one on, as long as fewer than so many follow one another
abbrev pub parse_from : ℕ → Scope → List P4State → Name → Parsing → Option Parsing
parse_from zero sc states name p = None
parse_from (suc fuel) sc states name p =
    if is_accept name then Some p else go_on (parse_from fuel sc states) (run_state sc states name p)

-- the parser's run, from `start`; states have no cycles, so each comes at most once
abbrev pub parse : Scope → List P4State → Parsing → Option Parsing
parse sc states p = parse_from (suc (length states)) sc states (codes "start") p

-- ---- the deparser

-- the bits of so many values from this place on
abbrev pub field_bits : ℕ → ℕ → List Value → List ℕ
field_bits zero i values = []
field_bits (suc k) i values = digits (value_in values i).width (value_in values i).number ++ field_bits k (suc i) values

-- the bits of a header, none where it isn't valid
abbrev pub header_bits : Scope → List Value → Option ℕ → List ℕ
header_bits sc values None = []
header_bits sc values (Some h) = if holds (value_in values h) then field_bits (field_count sc h) (suc h) values else []

-- the bits that the deparser emits
abbrev pub emitted : Scope → List P4Emit → List Value → List ℕ
emitted sc [] values = []
emitted sc (e ∷ es) values = header_bits sc values (slot_of sc (names e.path)) ++ emitted sc es values
