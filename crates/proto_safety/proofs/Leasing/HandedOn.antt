-- What a Grant of a next epoch rests on stays so while clocks go on, books stay and nothing more is first sent.
use Rattle.std.proofs.Common.{◌≡◌, ℕ, ◌+◌, ◌≤◌, List, Some, arith, sym, ap, ◌∙◌, inl, inr, slice_get}
use Rattle.proto_data.specs.declared.message.Entry.{Entry}
use Rattle.proto_model.specs.Stands.{entries_of}
use Rattle.key_table.specs.Table.{Key}
use Rattle.proto_model.specs.World.{World, SwitchNode, ReplicaNode}
use Rattle.proto_safety.specs.LeaseLaws.{First}
use Rattle.proto_safety.proofs.Leasing.Handed.{RunOut, Passed, HandedHold}

-- each switch was there before, with a clock that went on
abbrev pub ClocksOn : World → World → Type 0
ClocksOn w v = (n : ℕ) (node : SwitchNode) → slice_get v.switches n ≡ Some node → (old : SwitchNode) × ((slice_get w.switches n ≡ Some old) × (old.clock ≤ node.clock))

-- each replica was there before, with the same book
abbrev pub SameBooks : World → World → Type 0
SameBooks w v = (r : ℕ) (node : ReplicaNode) → slice_get v.replicas r ≡ Some node → (old : ReplicaNode) × ((slice_get w.replicas r ≡ Some old) × (entries_of node.book ≡ entries_of old.book))

pub run_out_on : (fs : List First) (w v : World) (key : Key) (epoch : ℕ) (before : List Entry) → v.terms ≡ w.terms → ClocksOn w v → RunOut fs w key epoch before → RunOut fs v key epoch before
run_out_on fs w v key epoch before terms clocks h f e i j has of node at =
    let old = clocks f.switch node at in
    let low : f.moment + w.terms.t_switch ≤ old.0.clock = h f e i j has of old.0 old.1.0 in
    let term : v.terms.t_switch ≡ w.terms.t_switch = ap (λ t. t.t_switch) terms in omega (arith, low, term, old.1.1)

pub passed_on : (fs : List First) (w v : World) (key : Key) (epoch s i m n inc nonce : ℕ) (before : List Entry) → v.terms ≡ w.terms → ClocksOn w v → Passed fs w key epoch s i m n inc nonce before → Passed fs v key epoch s i m n inc nonce before
passed_on fs w v key epoch s i m n inc nonce before terms clocks (inl own) = inl own
passed_on fs w v key epoch s i m n inc nonce before terms clocks (inr over) = inr (run_out_on fs w v key epoch before terms clocks over)

pub handed_on : (fs : List First) (w v : World) → v.terms ≡ w.terms → ClocksOn w v → SameBooks w v → HandedHold fs w → HandedHold fs v
handed_on fs w v terms clocks books h r replica at key epoch s i m n inc nonce before behind is granted =
    let old = books r replica at in
    passed_on fs w v key epoch s i m n inc nonce before terms clocks (h r old.0 old.1.0 key epoch s i m n inc nonce before behind (sym old.1.1 ∙ is) granted)
