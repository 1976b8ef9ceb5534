-- What holds of each outcome of a source with at most 256 cells: its key is short, its delta names cells that there are, and its output
-- is the packet's own.
use Rattle.std.proofs.Common.{◌≡◌, eq-eqb, ℕ, zero, suc, ◌+◌, ◌/◌, ◌%◌, ◌^◌, ◌<◌, ◌≤◌, min, max, Bool, true, ◌||◌, List, [], length, All, Option, Some, None, refl, sym, ap, subst, nat_lt, codes, arith, lit<, lit≤, ◌==◌}
use Rattle.std.proofs.lemmas.Bool.{cond_both, or_parts, ltb-false}
use Rattle.std.proofs.lemmas.List.Elements.{All-nil}
use Rattle.std.proofs.Math.Nat.{mod-lt}
use Rattle.rp_base.specs.declared.node.Packet.{Packet}
use Rattle.rp_base.specs.declared.node.Output.{Output}
use Rattle.rp_app.specs.Application.{Delta, IsDelta, IsOutputOf, cells_named}
use Rattle.rp_app.proofs.Deltas.{with_cell-IsDelta}
use Rattle.rp_bits.specs.Bits.{bits_of}
use Rattle.p4_ast.specs.declared.control.P4Param.{P4Param}
use Rattle.p4_ast.specs.declared.control.P4Local.{P4Local}
use Rattle.p4_ast.specs.declared.program.P4Program.{P4Program}
use Rattle.app_data.specs.declared.run.Run.{Run}
use Rattle.app_data.specs.declared.scope.Register.{Register}
use Rattle.app_data.specs.declared.value.Value.{Value}
use Rattle.app_meaning.specs.Values.{holds}
use Rattle.app_meaning.specs.Slots.{Name, Scope, named_register, path_value}
use Rattle.app_meaning.specs.Statements.{with_values, with_key, key_bytes, big_endian, store}
use Rattle.app_meaning.specs.Packets.{Parsing, parse}
use Rattle.app_meaning.specs.Programs.{Outcome, locals, cell_count, parser_scope, control_scope, std_path, first_values, output_of, run_control, after_parser, outcome_in, outcome, plain, sized, application}
use Rattle.app_meaning.proofs.DeltaCells.{within_with}
use Rattle.app_meaning.proofs.Cells.{Within, cells_within}
use Rattle.app_meaning.proofs.Kept.{control_keeps}

-- over as many cells as a flow has, a run is as it is
pub sized_runs : (n : ℕ) (run : List ℕ → Packet → Delta × Option Output) (cells : List ℕ) (packet : Packet) → length cells ≡ n → sized n run cells packet ≡ run cells packet
sized_runs n run cells packet l = let yes : (length cells == n) ≡ true = eq-eqb (length cells) n l in rw yes refl

-- a key, if there is one, has 1 to 16 bytes
abbrev pub ShortKey : Option (List ℕ) → Type 0
ShortKey None = Unit {0}
ShortKey (Some k) = (1 ≤ length k) × (length k ≤ 16)

-- a run so far
record IsGood (n : ℕ) (r : Run) : Type 0 where
  key : ShortKey r.key
  delta : IsDelta r.delta
  cells : All (λ c. c < n) (cells_named r.delta)

length-big_endian : (k x : ℕ) → length (big_endian k x) ≡ k
length-big_endian zero x = refl
length-big_endian (suc k) x = ap (λ (m : ℕ). suc m) (length-big_endian k x)

key_short : (v : Value) → ShortKey (Some (key_bytes v))
key_short v =
    let e : length (key_bytes v) ≡ min 16 (max 1 ((v.width + 7) / 8)) = length-big_endian (min 16 (max 1 ((v.width + 7) / 8))) v.number in
    (omega (arith, e), omega (arith, e))

good_values : (n : ℕ) (r : Run) (vs : List Value) → IsGood n r → IsGood n (with_values r vs)
good_values n r vs h = record { key = h.key; delta = h.delta; cells = h.cells }

good_key : (n : ℕ) (r : Run) (v : Value) → IsGood n r → IsGood n (with_key r (key_bytes v))
good_key n r v h = record { key = key_short v; delta = h.delta; cells = h.cells }

good_store : (n : ℕ) → n ≤ 256 → (r : Run) (i k : ℕ) → i < n → IsGood n r → IsGood n (store (Some i) k r)
good_store n few r i k l h = record {
  key = h.key;
  delta = with_cell-IsDelta r.delta i k h.delta (omega (arith, few, l));
  cells = within_with n r.delta i k h.cells l;
}

no_cell : IsDelta []
no_cell = record { rises = refl; within = All-nil (λ (c : ℕ). c < 256); short = lit≤ tt }

-- an outcome
pub record IsPromised (n : ℕ) (packet : Packet) (o : Outcome) : Type 0 where
  pub key : ShortKey o.key
  pub delta : IsDelta o.delta
  pub cells : All (λ c. c < n) (cells_named o.delta)
  pub output : IsOutputOf packet o.output

output_promised : (p : P4Program) (sc : Scope) (packet : Packet) (bytes : List ℕ) (vs : List Value) → IsOutputOf packet (output_of p sc packet bytes vs)
output_promised p sc packet bytes vs =
    let port : ℕ = (path_value sc vs (std_path p.ingress.std (codes "out_port"))).number in
    let drops : Bool = holds (path_value sc vs (std_path p.ingress.std (codes "drop"))) in
    let sent : Option Output = Some (record { mark = packet.mark; port = port % 2 ^ 16; bytes = bytes }) in
    cond_both (drops || nat_lt 1500 (length bytes)) None sent (IsOutputOf packet) (λ e. tt) (λ e.
    let hs = or_parts drops (nat_lt 1500 (length bytes)) e in
    let short : length bytes ≤ 1500 = ltb-false 1500 (length bytes) hs.1 in
    let below : port % 2 ^ 16 < 65536 = mod-lt port (lit< tt) in
    let all : (packet.mark ≡ packet.mark) × (length bytes ≤ 1500) × (packet.port < 65536 → port % 2 ^ 16 < 65536) = (refl, short, λ h. below) in
    all)

-- the program with this fourth parameter
abbrev pub with_rp : P4Program → Option P4Param → P4Program
with_rp p rp = record {
  at = p.at;
  declarations = p.declarations;
  parser = p.parser;
  ingress = record {
    at = p.ingress.at;
    name = p.ingress.name;
    headers = p.ingress.headers;
    meta = p.ingress.meta;
    std = p.ingress.std;
    rp = rp;
    locals = p.ingress.locals;
    block = p.ingress.block;
  };
  deparser = p.deparser;
  «package» = p.«package»;
}

module _ (p0 : P4Program) (few : cell_count p0 ≤ 256) where
  abbrev p : P4Program
  p = with_rp p0 None

  abbrev n : ℕ
  n = cell_count p

  abbrev sc : Scope
  sc = control_scope p n

  abbrev ls : List P4Local
  ls = p.ingress.locals

  fits : (name : Name) (g : Register) → named_register name sc.registers ≡ Some g → Within n g.first g.size
  fits name g e = subst (λ (k : ℕ). Within k g.first g.size) (omega arith) (cells_within (locals p).types 0 ls name g e)

  pub parsed_of : Packet → Option Parsing
  parsed_of packet = parse (parser_scope p) p.parser.states (record { values = first_values p sc 0 packet; left = bits_of packet.bytes })

  pub source_is : (cells : List ℕ) → length cells ≡ n → (packet : Packet) → outcome p 0 cells packet ≡ after_parser p sc cells packet (first_values p sc 0 packet) (parsed_of packet)
  unfolding parsed_of
  source_is cells l packet = ap (λ (m : ℕ). outcome_in p (control_scope p m) 0 cells packet) l

  -- ---- what holds of each outcome

  parsed_promised : (cells : List ℕ) (packet : Packet) (vs : List Value) (o : Option Parsing) → IsPromised n packet (after_parser p sc cells packet vs o)
  parsed_promised cells packet vs None = record { key = tt; delta = no_cell; cells = All-nil (λ (c : ℕ). c < n); output = tt }
  parsed_promised cells packet vs (Some parsed) =
      let good : IsGood n (run_control p sc cells parsed) =
      control_keeps n (IsGood n) (good_values n) (good_key n) (good_store n few) sc fits ls p.ingress.block _
      (record { key = tt; delta = no_cell; cells = All-nil (λ (c : ℕ). c < n) }) in
      record { key = good.key; delta = good.delta; cells = good.cells; output = output_promised p sc packet _ _ }

  pub promised : (cells : List ℕ) → length cells ≡ n → (packet : Packet) → IsPromised n packet (outcome p 0 cells packet)
  promised cells l packet = subst (IsPromised n packet) (sym (source_is cells l packet)) (parsed_promised cells packet (first_values p sc 0 packet) (parsed_of packet))

-- a packet writes cells that there are
pub writes_cells : (p : P4Program) → p.ingress.rp ≡ None → cell_count p ≤ 256 → (cells : List ℕ) (packet : Packet) → length cells ≡ cell_count p → All (λ c. c < cell_count p) (cells_named ((application p).plain cells packet).0)
writes_cells p source few cells packet l =
    let P : P4Program → Type 0 = λ x. All (λ c. c < cell_count x) (cells_named (outcome x 0 cells packet).delta) in
    let here : P p = subst P (sym (ap (with_rp p) source)) (promised p few cells l packet).cells in
    subst (λ (r : Delta × Option Output). All (λ c. c < cell_count p) (cells_named r.0)) (sym (sized_runs (cell_count p) (plain p) cells packet l)) here
