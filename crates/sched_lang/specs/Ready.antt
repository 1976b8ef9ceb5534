-- What holds of each schedule that is read.
use Rattle.std.specs.Prelude.{ℕ, ◌+◌, ◌≡◌, ◌<◌, ◌≤◌, List, All, length, IfSome}
use Rattle.rp_base.specs.Clocks.{TermsHold}
use Rattle.rp_base.specs.declared.event.Event.{Event}
use Rattle.rp_base.specs.declared.node.Node.{Node}
use Rattle.sched_lang.specs.declared.header.Header.{Header}
use Rattle.sched_lang.specs.declared.schedule.Schedule.{Schedule}

-- a node of a run with so many switches and replicas
abbrev pub IsNodeOf : ℕ → ℕ → Node → Type 0
IsNodeOf switches chain (Node.Switch n) = n < switches
IsNodeOf switches chain (Node.Replica n) = n < chain
IsNodeOf switches chain Node.Master = ⊥

-- an advance for each node of such a run
abbrev pub AreAdvances : ℕ → ℕ → List ℕ → Type 0
AreAdvances switches chain by = (length by ≡ switches + chain) × All (λ d. d ≤ 1000000000) by

-- what holds of each event that is read, in such a run
abbrev pub IsEventOf : ℕ → ℕ → Event → Type 0
IsEventOf switches chain (Event.Feed port bytes) = length bytes ≤ 1500
IsEventOf switches chain (Event.FeedAt n port bytes) = (n < switches) × (length bytes ≤ 1500)
IsEventOf switches chain (Event.Deliver i) = i ≤ 65535
IsEventOf switches chain Event.Next = Unit {0}
IsEventOf switches chain (Event.Drop i) = i ≤ 65535
IsEventOf switches chain (Event.Time by) = AreAdvances switches chain by
IsEventOf switches chain (Event.Alarm node) = IsNodeOf switches chain node
IsEventOf switches chain (Event.Fail node) = IsNodeOf switches chain node
IsEventOf switches chain (Event.Boot n) = n < switches
IsEventOf switches chain (Event.Detect node) = IsNodeOf switches chain node
IsEventOf switches chain Event.Announce = Unit {0}
IsEventOf switches chain Event.Pump = ⊥

-- what holds of each header that is read: nodes, terms and a bound in their ranges, and the terms hold
pub record IsHeader (h : Header) : Type 0 where
  pub some_switches : 1 ≤ h.switches
  pub switches_fit : h.switches ≤ 8
  pub some_replicas : 1 ≤ h.chain
  pub replicas_fit : h.chain ≤ 5
  pub some_switch : 1 ≤ h.t_switch
  pub switch_fits : h.t_switch ≤ 1000000
  pub some_store : 1 ≤ h.t_store
  pub store_fits : h.t_store ≤ 1000000
  pub ratio_fits : h.ratio ≤ 1000
  pub hold : TermsHold h.t_switch h.t_store h.ratio
  pub bound : IfSome h.snapshot (λ bound. (1 ≤ bound) × (bound ≤ 1000000))

-- the header of a schedule
abbrev pub header_of : Schedule → Header
header_of s = record { switches = s.switches; chain = s.chain; t_switch = s.t_switch; t_store = s.t_store; ratio = s.ratio; snapshot = s.snapshot }

-- what holds of each schedule that is read
pub record IsReady (s : Schedule) : Type 0 where
  pub header : IsHeader (header_of s)
  pub events : All (IsEventOf s.switches s.chain) s.events
  pub count : length s.events ≤ 20000
