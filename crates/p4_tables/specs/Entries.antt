-- Entries: keysets, their values under masks, and entries that are equal.
use Rattle.std.specs.Prelude.{ℕ, ◌-◌, ◌/◌, ◌^◌, min, Bool, true, not, ◌&&◌, ◌==◌, if◌then◌else◌, List, [], ◌∷◌, ◌++◌, length, Option, Some, None, is_some, bit_and}
use Rattle.std.specs.Int.{Width, w128, to_be_bytes}
use Rattle.rp_base.specs.declared.refused.Why.TheVariants as why
use Rattle.p4_ast.specs.declared.expression.P4Expr.{P4Expr}
use Rattle.p4_ast.specs.declared.parser.P4Keyset.{P4Keyset}
use Rattle.p4_ast.specs.declared.parser.P4Keyset.TheVariants as keyset
use Rattle.p4_ast.specs.declared.parser.P4One.{P4One}
use Rattle.p4_ast.specs.declared.parser.P4One.TheVariants as one
use Rattle.p4_ast.specs.declared.table.P4Match.{P4Match}
use Rattle.p4_ast.specs.declared.table.P4Match.TheVariants as matching
use Rattle.p4_typing.specs.declared.form.Form.{Form}
use Rattle.p4_typing.specs.declared.form.Form.TheVariants as form
use Rattle.p4_scope.specs.declared.kind.Value.{Value}
use Rattle.p4_scope.specs.declared.kind.Value.TheVariants as value
use Rattle.p4_typing.specs.declared.part.Typed.{Typed}
use Rattle.p4_tables.specs.declared.part.Key.{Key}
use Rattle.p4_tables.specs.declared.part.Masked.{Masked}
use Rattle.p4_tables.specs.declared.part.Member.{Member}
use Rattle.p4_tables.specs.declared.part.Members.{Members}
use Rattle.p4_tables.specs.declared.part.Matched.{Matched}
use Rattle.p4_scope.specs.Faults.{Fault, first_of, fault, fault_if}
use Rattle.p4_scope.specs.Index.{is_there, keeping}
use Rattle.p4_scope.specs.Scopes.{Scope}
use Rattle.p4_typing.specs.Values.{value_of, strange}
use Rattle.p4_typing.specs.Expressions.{at_place}

-- what a member of a keyset is matched by where it has no key
abbrev pub no_key : Key
no_key = record { matching = matching.Ternary; form = form.Failed }

-- what an entry matches: for each key the bytes of the value under its mask and those of the mask
abbrev pub Row : Type 0
Row = List ℕ

-- how wide values are
abbrev pub number_width : Width
number_width = w128

-- the bytes of a value
abbrev pub number_bytes : ℕ → List ℕ
number_bytes n = to_be_bytes number_width n

-- the bytes of a value and its mask
abbrev pub row_of : Masked → Row
row_of m = number_bytes m.value ++ number_bytes m.mask

-- the same, where it is known
abbrev pub maybe_row : Option Masked → Row
maybe_row None = []
maybe_row (Some m) = row_of m

-- ---- values

-- the number, where it is bits of the key's width
abbrev pub number_for : Form → Option Value → Option ℕ
number_for (form.Bits w) (Some (value.Bits n v)) = if w == v then Some n else None
number_for k v = None

-- all ones
abbrev pub full : Form → ℕ
full (form.Bits w) = 2 ^ min w 128 - 1
full k = 0

-- an entry's value is built of literals and constants
abbrev pub entry_fault : P4Expr → Typed → Scope → Fault
entry_fault e t s = first_of t.fault (fault_if (is_some (strange e s)) why.Entry t.at)

-- all bits of a value
abbrev pub exactly : Form → Option ℕ → Option Masked
exactly k (Some n) = Some (record { value = n; mask = full k })
exactly k None = None

-- a value under a mask
abbrev pub under : Option ℕ → Option ℕ → Option Masked
under (Some n) (Some m) = Some (record { value = bit_and n m; mask = m })
under n m = None

-- ones and then zeros: where there is a zero, each bit below it is one
abbrev pub is_prefix : Form → ℕ → Bool
is_prefix k m =
    let zeros : ℕ = full k - m in
    bit_and zeros (zeros / 2) == zeros / 2

-- a mask that its key doesn't take
abbrev pub mask_fault : ℕ → P4Match → Form → Option ℕ → Fault
mask_fault at matching.Exact k m = fault why.Entry at
mask_fault at matching.Lpm k (Some m) = fault_if (not (is_prefix k m)) why.Entry at
mask_fault at how k m = None

-- what all is matched by
abbrev pub anything : Masked
anything = record { value = 0; mask = 0 }

-- a value for a key, its fault and its number
abbrev pub number_at : Form → P4Expr → Scope → Typed × Fault × Option ℕ
number_at k e s =
    let t : Typed = at_place k e s in
    (t, entry_fault e t s, number_for k (value_of t.expr s))

-- a member of a keyset, for this key
abbrev pub member : Key → P4One → Scope → Member
member k (one.Any at) s = record { fault = None; masked = Some anything; one = one.Any at }
member k (one.Expr at e None) s =
    let x : Typed × Fault × Option ℕ = number_at k.form e s in
    record { fault = x.1; masked = exactly k.form x.2; one = one.Expr at x.0.expr None }
member k (one.Expr at e (Some m)) s =
    let x : Typed × Fault × Option ℕ = number_at k.form e s in
    let y : Typed × Fault × Option ℕ = number_at k.form m s in
    record {
      fault = first_of x.1 (first_of y.1 (mask_fault y.0.at k.matching k.form y.2));
      masked = under x.2 y.2;
      one = one.Expr at x.0.expr (Some y.0.expr);
    }

-- ---- keysets

-- what the first of these keys asks for
abbrev pub key_first : List Key → Key
key_first [] = no_key
key_first (k ∷ ks) = k

-- the keys behind the first
abbrev pub key_rest : List Key → List Key
key_rest [] = []
key_rest (k ∷ ks) = ks

-- before the first member
abbrev pub no_members : Members
no_members = record { fault = None; known = true; row = []; ones = [] }

-- members with another; what they match is known where that of each is
abbrev pub with_member : Members → Member → Members
with_member done m = record {
  fault = first_of done.fault m.fault;
  known = done.known && is_some m.masked;
  row = done.row ++ maybe_row m.masked;
  ones = done.ones ++ m.one ∷ [];
}

-- members with these keys, behind those that are done
abbrev pub members : List Key → List P4One → Scope → Members → Members
members ks [] s done = done
members ks (o ∷ os) s done = members (key_rest ks) os s (with_member done (member (key_first ks) o s))

-- the keys for so many members: another number has none
abbrev pub keys_for : List Key → ℕ → List Key
keys_for ks n = if length ks == n then ks else []

-- members of a keyset at this place, which another number of keys fails; then it isn't known what they match
abbrev pub members_at : ℕ → List Key → List P4One → Scope → Members
members_at at ks os s =
    let r : Members = members (keys_for ks (length os)) os s no_members in
    let same : Bool = length ks == length os in
    record r { fault = first_of (fault_if (not same) why.Entry at) r.fault; known = same && r.known }

-- the place of a member
abbrev pub one_at : P4One → ℕ
one_at (one.Any at) = at
one_at (one.Expr at e m) = at

-- what matches all, for each of these keys behind others
abbrev pub any_row : List Key → Row → Row
any_row [] r = r
any_row (k ∷ ks) r = any_row ks (r ++ row_of anything)

-- a keyset of a single member, with this fault beside its own: it is known what it matches where so
abbrev pub single : Fault → Bool → Member → Matched
single f known m = record { fault = first_of f m.fault; known = known && is_some m.masked; row = maybe_row m.masked; keyset = keyset.One m.one }

-- a keyset for these keys
abbrev pub keyset_matched : List Key → P4Keyset → Scope → Matched
keyset_matched ks (keyset.Default at) s = record { fault = None; known = true; row = any_row ks []; keyset = keyset.Default at }
keyset_matched ks (keyset.One o) s =
    let same : Bool = length ks == 1 in
    single (fault_if (not same) why.Entry (one_at o)) same (member (key_first (keys_for ks 1)) o s)
keyset_matched ks (keyset.Tuple at os) s =
    let r : Members = members_at at ks os s in
    record { fault = r.fault; known = r.known; row = r.row; keyset = keyset.Tuple at r.ones }

-- ---- equal entries

-- whether an entry matches the same as one of those whose rows and places these are
abbrev pub is_repeated : Matched → List (Row × ℕ) → Bool
is_repeated m rows = m.known && is_there m.row rows

-- the rows with that of an entry at this place
abbrev pub with_row : Matched → ℕ → List (Row × ℕ) → List (Row × ℕ)
with_row m at rows = if m.known then keeping m.row at rows else rows
