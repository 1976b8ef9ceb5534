-- What is known of a program that was checked and not rewritten.
use Rattle.std.proofs.Common.{◌≡◌, ◌∙◌, ◌<◌, ℕ, List, Option, Result, Ok, Err, IfOk, sym, ap, subst, length, All}
use Rattle.rp_base.specs.declared.error.NoMemory.{NoMemory}
use Rattle.rp_base.specs.declared.node.Packet.{Packet}
use Rattle.rp_base.specs.declared.node.Output.{Output}
use Rattle.rp_app.specs.Application.{Delta}
use Rattle.rp_app.proofs.Deltas.{each_below}
use Rattle.p4_ast.specs.declared.program.P4Program.{P4Program}
use Rattle.p4_check.specs.Checking.{IsSource}
use Rattle.app_meaning.specs.Programs.{application, cell_count, outcome, plain}
use Rattle.app_meaning.proofs.Outcomes.{sized_runs, writes_cells}
use Rattle.check_laws.proofs.Sound.{counted_cells}
use Rattle.check_laws.proofs.Sources.{few, unrewritten}
use Rattle.tree_app.specs.Ended.{ended}
use Rattle.tree_app.specs.declared.run.Ended.{Ended}

pub counts : (t : P4Program) (n : ℕ) → IsSource t n → n ≡ cell_count t
counts t n (p, bad, tree, cells) = cells ∙ counted_cells p bad ∙ sym (ap cell_count tree)

-- a packet of a flow writes cells that there are
pub writes_within : (t : P4Program) (n : ℕ) → IsSource t n → (cells : List ℕ) (packet : Packet) (delta : Delta) (out : Option Output) → length cells ≡ cell_count t → (delta, out) ≡ (application t).plain cells packet →
    All (λ (d : ℕ × ℕ). d.0 < length cells) delta
writes_within t n source cells packet delta out many is =
    let all : All (λ (d : ℕ × ℕ). d.0 < cell_count t) ((application t).plain cells packet).0 = each_below (cell_count t) ((application t).plain cells packet).0 (writes_cells t (unrewritten t n source) (few t n source) cells packet many) in
    let wrote : ((application t).plain cells packet).0 ≡ delta = sym (ap (λ (x : Delta × Option Output). x.0) is) in
    subst (λ k. All (λ (d : ℕ × ℕ). d.0 < k) delta) (sym many) (subst (All (λ (d : ℕ × ℕ). d.0 < cell_count t)) wrote all)

-- what a packet of a flow writes and leaves as
pub plain_is : (t : P4Program) (cells : List ℕ) (packet : Packet) → length cells ≡ cell_count t → (application t).plain cells packet ≡ plain t cells packet
plain_is t cells packet many = sized_runs (cell_count t) (plain t) cells packet many

-- the same of what a run ends with
pub ended_within : (t : P4Program) (n : ℕ) → IsSource t n → (cells : List ℕ) (packet : Packet) (r : Result Ended NoMemory) → length cells ≡ cell_count t → IfOk r (λ e. e ≡ ended (outcome t 0 cells packet)) →
    IfOk r (λ e. All (λ (d : ℕ × ℕ). d.0 < length cells) e.delta)
ended_within t n source cells packet (Err x) many is = tt
ended_within t n source cells packet (Ok e) many is =
    writes_within t n source cells packet e.delta e.output many (ap (λ (x : Ended). (x.delta, x.output)) is ∙ sym (plain_is t cells packet many))
