-- A world with its application as callers see it, and the conditions of its calls.
use Rattle.std.specs.Prelude.{ℕ, ◌≤◌, ◌+◌, ◌≡◌, Bool, All, length}
use Rattle.rp_base.specs.declared.event.Event.{Event}
use Rattle.rp_base.specs.Clocks.{TermsHold}
use Rattle.proto_data.specs.declared.terms.Terms.{Terms}
use Rattle.proto_data.specs.declared.terms.Mode.{Mode}
use Rattle.proto_model.specs.World.{World, Setup}

-- the world of an application, what it began with, how many events and handed frames it took, and whether memory ran out
pub record AppWorld (A : Type 0) : Type 0 where
  pub app : A
  pub setup : Setup
  pub world : World
  pub calls : ℕ
  pub failed : Bool

-- terms within their limits, by which a lease has ended at its switch before the store gives the flow to another
pub record IsTerms (terms : Terms) : Type 0 where
  pub some_switch : 1 ≤ terms.t_switch
  pub switch_fits : terms.t_switch ≤ 1000000
  pub some_store : 1 ≤ terms.t_store
  pub store_fits : terms.t_store ≤ 1000000
  pub ratio_fits : terms.ratio ≤ 1000
  pub hold : TermsHold terms.t_switch terms.t_store terms.ratio

-- what a run begins with: 1 to 8 switches, 1 to 5 replicas, and terms that hold
pub record IsSetup (setup : Setup) : Type 0 where
  pub some_switch : 1 ≤ setup.switches
  pub switches_fit : setup.switches ≤ 8
  pub some_replica : 1 ≤ setup.replicas
  pub replicas_fit : setup.replicas ≤ 5
  pub terms : IsTerms setup.terms

-- as many cells as a mode allows a flow
abbrev pub CellsFit : Mode → ℕ → Type 0
CellsFit Mode.Strict cells = cells ≤ 32
CellsFit (Mode.Snapshot bound) cells = cells ≤ 256

-- The events that a run may have: a packet has at most 1,500 bytes, and `time` has one advance of at most 1,000,000,000 for each node.
abbrev pub IsEventOf : Setup → Event → Type 0
IsEventOf setup (Event.Feed port bytes) = length bytes ≤ 1500
IsEventOf setup (Event.FeedAt n port bytes) = length bytes ≤ 1500
IsEventOf setup (Event.Time by) = (length by ≡ setup.switches + setup.replicas) × All (λ d. d ≤ 1000000000) by
IsEventOf setup e = Unit {0}
