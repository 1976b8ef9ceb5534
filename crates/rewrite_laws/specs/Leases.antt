-- What the rewritten program does with a packet.
use Rattle.std.specs.Prelude.{ℕ, ◌≡◌, List, [], ◌∷◌, length, Option, Some, None, codes}
use Rattle.rp_base.specs.declared.node.Packet.{Packet}
use Rattle.rp_base.specs.declared.node.Output.{Output}
use Rattle.p4_ast.specs.declared.program.P4Program.{P4Program}
use Rattle.rp_app.specs.Application.{Delta, Application, zeros}
use Rattle.app_meaning.specs.Slots.{Name, path_value}
use Rattle.app_meaning.specs.Programs.{Outcome, control_scope, outcome, plain, key, cell_count, sized}
use Rattle.p4_check.specs.Rewriting.{rewritten}

-- what a packet's run of the rewritten program ends with, under the lease (`held` is 1) or without it
abbrev pub rewritten_outcome : P4Program → ℕ → List ℕ → Packet → Outcome
rewritten_outcome p held cells packet = outcome (rewritten p) held cells packet

-- a field of `rp` at the end
abbrev pub rp_number : P4Program → List ℕ → Outcome → Name → ℕ
rp_number p cells o field = (path_value (control_scope (rewritten p) (length cells)) o.values (codes "rp" ∷ field ∷ [])).number

-- whether a cell was written, by `rp.dirty` at the end
abbrev pub dirty : P4Program → List ℕ → Outcome → ℕ
dirty p cells o = rp_number p cells o (codes "dirty")

-- whether the lease is asked for, by `rp.verdict` at the end
abbrev pub verdict : P4Program → List ℕ → Outcome → ℕ
verdict p cells o = rp_number p cells o (codes "verdict")

-- what a run under the lease does: the cells that it writes, and its output, if there is one
abbrev pub held_run : P4Program → List ℕ → Packet → Delta × Option Output
held_run tree cells packet = let o = outcome tree 1 cells packet in (o.delta, o.output)

-- a rewritten tree with so many cells as an application: it processes under the lease, and tells keys without it
abbrev pub held_application : P4Program → ℕ → Application
held_application tree n =
    record {
      cell_count = n;
      key_of = λ packet. (outcome tree 0 (zeros n) packet).key;
      plain = sized n (held_run tree);
    }

-- what a program is rewritten to, as an application
abbrev pub rewritten_application : P4Program → Application
rewritten_application p = held_application (rewritten p) (cell_count p)

-- ---- what is promised of the rewritten program

-- 1 where a cell is written
abbrev pub dirty_bit : Delta → ℕ
dirty_bit [] = 0
dirty_bit (d ∷ ds) = 1

-- under the lease it does what the source does, and is dirty exactly where a cell is written
pub record RunsHeld (p : P4Program) (cells : List ℕ) (packet : Packet) : Type 0 where
  pub delta : (rewritten_outcome p 1 cells packet).delta ≡ (plain p cells packet).0
  pub output : (rewritten_outcome p 1 cells packet).output ≡ (plain p cells packet).1
  pub key : (rewritten_outcome p 1 cells packet).key ≡ key p packet
  pub verdict : verdict p cells (rewritten_outcome p 1 cells packet) ≡ 0
  pub dirty : dirty p cells (rewritten_outcome p 1 cells packet) ≡ dirty_bit (plain p cells packet).0

-- without the lease a packet with a key asks for it
pub record AsksLease (p : P4Program) (cells : List ℕ) (packet : Packet) (k : List ℕ) : Type 0 where
  pub verdict : verdict p cells (rewritten_outcome p 0 cells packet) ≡ 1
  pub dirty : dirty p cells (rewritten_outcome p 0 cells packet) ≡ 0
  pub delta : (rewritten_outcome p 0 cells packet).delta ≡ []
  pub key : (rewritten_outcome p 0 cells packet).key ≡ Some k

-- a packet without a key passes, with the lease or without it
pub record PassesBy (p : P4Program) (held : ℕ) (cells : List ℕ) (packet : Packet) : Type 0 where
  pub output : (rewritten_outcome p held cells packet).output ≡ (plain p cells packet).1
  pub verdict : verdict p cells (rewritten_outcome p held cells packet) ≡ 0
  pub dirty : dirty p cells (rewritten_outcome p held cells packet) ≡ 0
  pub delta : (rewritten_outcome p held cells packet).delta ≡ []
  pub key : (rewritten_outcome p held cells packet).key ≡ None

-- for every packet and every list of as many cells as the program has; which cells it is doesn't matter to the key
pub record KeepsMeaning (p : P4Program) : Type 0 where
  pub one_key : (cells : List ℕ) (packet : Packet) → length cells ≡ cell_count p → (outcome p 0 cells packet).key ≡ key p packet
  pub held : (cells : List ℕ) (packet : Packet) → length cells ≡ cell_count p → RunsHeld p cells packet
  pub asks : (cells : List ℕ) (packet : Packet) (k : List ℕ) → length cells ≡ cell_count p → key p packet ≡ Some k → AsksLease p cells packet k
  pub passes : (cells : List ℕ) (packet : Packet) → length cells ≡ cell_count p → key p packet ≡ None → PassesBy p 0 cells packet × PassesBy p 1 cells packet
