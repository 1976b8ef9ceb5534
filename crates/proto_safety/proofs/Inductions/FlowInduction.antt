-- What each move of a flow keeps holds of each flow at each switch after every list of events.
use Rattle.std.proofs.Common.{◌≡◌, ℕ, ◌+◌, List, [], ◌∷◌, map, None, refl, sym, subst}
use Rattle.proto_data.specs.declared.message.Input.{Input}
use Rattle.proto_data.specs.declared.terms.Terms.{Terms}
use Rattle.rp_base.specs.declared.event.Event.{Event}
use Rattle.rp_app.specs.Application.{Application}
use Rattle.key_table.specs.Table.{Key}
use Rattle.proto_model.specs.Slot.{Slot}
use Rattle.proto_model.specs.Feeds.{Each}
use Rattle.proto_model.specs.SwitchState.{Switch, Item, lapsed}
use Rattle.proto_model.specs.SwitchAlarm.{alarm, walk_order}
use Rattle.proto_model.specs.SwitchRow.{SwitchRow, Resends, switch_row}
use Rattle.proto_model.specs.SwitchOutcomes.{perform}
use Rattle.proto_model.specs.SwitchRows.{switch_step}
use Rattle.proto_model.specs.World.{Setup, SwitchNode, opened, below, open_switch_node}
use Rattle.proto_model.specs.WorldStep.{world_after, advanced_switches}
use Rattle.proto_safety.proofs.Inductions.AlarmInduction.{WalkKeeps, walk_kept}
use Rattle.proto_safety.proofs.Inductions.FlowMoves.{View, view, Move, Moves, none, more}
use Rattle.proto_safety.proofs.Inductions.FlowAlarm.{step_moves}
use Rattle.proto_safety.proofs.Inductions.Induction.{Keeps, run_kept}
use Rattle.proto_safety.proofs.Basics.Eachs.{each_at, each_changed, each_map, each_set}

-- ---- a step leaves a switch its number, its incarnation and its terms

pub record SameSwitch (s t : Switch) : Type 0 where
  pub me : t.me ≡ s.me
  pub inc : t.inc ≡ s.inc
  pub terms : t.terms ≡ s.terms

walk_same : (s : Switch) (now : ℕ) → WalkKeeps now (λ w. SameSwitch s w.state)
walk_same s now =
    record {
      puts = λ w key slot nonce epoch expiry at is mode none h. record { me = h.me; inc = h.inc; terms = h.terms };
      goes_on = λ w key slot nonce epoch expiry r at is bound mode o h. record { me = h.me; inc = h.inc; terms = h.terms };
      begins = λ w key slot nonce epoch expiry at is bound mode o h. record { me = h.me; inc = h.inc; terms = h.terms };
    }

alarm_same : (s : Switch) (now : ℕ) → SameSwitch s (alarm s now).0
alarm_same s now = walk_kept now (λ w. SameSwitch s w.state) (walk_same s now) (walk_order s.walked (map (λ (e : Key × Slot). e.0) s.slots)) _ (record { me = refl; inc = refl; terms = refl })

row_same : (s : Switch) (now : ℕ) (row : SwitchRow) → SameSwitch s (perform s now row).0
row_same s now Resends = alarm_same s now
row_same s now _ = record { me = refl; inc = refl; terms = refl }

pub step_same : (app : Application) (s : Switch) (now : ℕ) (input : Input) → SameSwitch s (switch_step app s now input).0
step_same app s now input = let h = row_same (lapsed now s) now (switch_row app (lapsed now s) now input) in record { me = h.me; inc = h.inc; terms = h.terms }

-- ---- the induction

-- a fact of a flow at a switch, by its incarnation and terms
pub record FlowKeeps (app : Application) (F : ℕ → Terms → Key → View → Type 0) : Type 0 where
  pub starts : (inc : ℕ) (terms : Terms) (key : Key) → F inc terms key (record { nonces = 0; slot = None; copies = [] })
  pub moves : (inc : ℕ) (terms : Terms) (now : ℕ) (input : Input) (key : Key) (v u : View) (items : List Item) → Move app inc terms now input key v items u → F inc terms key v → F inc terms key u

module _ (app : Application) (F : ℕ → Terms → Key → View → Type 0) (k : FlowKeeps app F) where
  moves_kept : (inc : ℕ) (terms : Terms) (now : ℕ) (input : Input) (key : Key) (v u : View) (items : List Item) → Moves app inc terms now input key v items u → F inc terms key v → F inc terms key u
  moves_kept inc terms now input key v _ _ none h = h
  moves_kept inc terms now input key v u _ (more {js = js} {ks = ks} {w = w} ms m) h = k.moves inc terms now input key w u ks m (moves_kept inc terms now input key v w js ms h)

  abbrev pub Holds : SwitchNode → Type 0
  Holds node = (key : Key) → F node.state.inc node.state.terms key (view key node.state)

  step_kept : (node : SwitchNode) (input : Input) → Holds node → Holds (record node { state = (switch_step app node.state node.clock input).0 })
  step_kept node input h key =
      let same = step_same app node.state node.clock input in
      subst (λ i. F i (switch_step app node.state node.clock input).0.terms key (view key (switch_step app node.state node.clock input).0)) (sym same.inc)
      (subst (λ t. F node.state.inc t key (view key (switch_step app node.state node.clock input).0)) (sym same.terms)
      (moves_kept node.state.inc node.state.terms node.clock input key (view key node.state) (view key (switch_step app node.state node.clock input).0) _ (step_moves app node.state node.clock input key) (h key)))

  advanced_kept : (nodes : List SwitchNode) (by : List ℕ) → Each Holds nodes → Each Holds (advanced_switches nodes by)
  advanced_kept [] by h = tt
  advanced_kept (n ∷ ns) [] h = h
  advanced_kept (n ∷ ns) (d ∷ ds) h = (h.0, advanced_kept ns ds h.1)

  pub flows_kept : Keeps app (λ w. Each Holds w.switches)
  flows_kept =
      record {
        counts = λ w h. h;
        passes = λ w i h. h;
        feeds = λ w n node p at up mark h. each_set Holds w.switches n _ h (step_kept node (Input.Packet p) (each_at Holds w.switches n node h at));
        switches = λ w n node input at up from h. each_set Holds w.switches n _ h (step_kept node input (each_at Holds w.switches n node h at));
        replicas = λ w n node input at up from h. h;
        advances = λ w by fits h. advanced_kept w.switches by h;
        stops_switch = λ w n fits h. each_changed Holds w.switches n _ (λ x j. j) h;
        stops_replica = λ w n fits h. h;
        boots = λ w n down h. each_changed Holds w.switches n _ (λ x j key. k.starts (x.state.inc + 1) w.terms key) h;
        detects_switch = λ w n fits h. each_changed Holds w.switches n _ (λ x j. j) h;
        detects_replica = λ w n fits h. h;
        announces = λ w h. h;
      }

  pub flows_hold : (setup : Setup) (es : List Event) → Each Holds (world_after app (opened app.cell_count setup) es).switches
  flows_hold setup es =
      run_kept app (λ w. Each Holds w.switches) flows_kept es (opened app.cell_count setup) (each_map Holds (open_switch_node setup) (below setup.switches) (λ n key. k.starts 1 setup.terms key))
