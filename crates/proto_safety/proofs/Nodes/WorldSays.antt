-- After every list of events each switch knows its number, the keys of its table differ, and its copies stand in leased slots.
use Rattle.std.proofs.Common.{◌≡◌, ℕ, List, map, refl, ◌∙◌}
use Rattle.proto_data.specs.declared.message.Input.{Input}
use Rattle.rp_base.specs.declared.event.Event.{Event}
use Rattle.rp_app.specs.Application.{Application}
use Rattle.key_table.specs.Table.{Key}
use Rattle.proto_model.specs.Slot.{Slot, lapsed_slot}
use Rattle.proto_model.specs.SwitchState.{Switch, lapsed}
use Rattle.proto_model.specs.SwitchRow.{SwitchRow, Keyless, NoRoom, NewAsk, AskAgain, Drops, Direct, Mirrored, Granted, Late, Acked, RoundDone, Denied, Busied, Adopts, Resends, Stale, switch_row}
use Rattle.proto_model.specs.SwitchOutcomes.{perform}
use Rattle.proto_model.specs.SwitchAlarm.{walk_order}
use Rattle.proto_model.specs.SwitchRows.{switch_step}
use Rattle.proto_model.specs.World.{World, Setup, SwitchNode, opened}
use Rattle.proto_model.specs.WorldStep.{world_after}
use Rattle.proto_safety.proofs.Basics.TableKeys.{KeysDiffer, differ_put, differ_map}
use Rattle.proto_safety.proofs.Leasing.Copies.{step_copies}
use Rattle.proto_safety.proofs.Inductions.AlarmInduction.{WalkKeeps, walk_kept}
use Rattle.proto_safety.proofs.Inductions.FlowInduction.{step_same}
use Rattle.proto_safety.proofs.Nodes.SwitchSays.{Tidy}
use Rattle.proto_safety.proofs.Nodes.SwitchNodes.{AllAt, all_set, all_changed, all_advanced, all_opened}
use Rattle.proto_safety.proofs.Inductions.Induction.{Keeps, run_kept}

walk_keys : (now : ℕ) → WalkKeeps now (λ w. KeysDiffer w.state.slots)
walk_keys now =
    record {
      puts = λ w key slot nonce epoch expiry at is mode none h. differ_put w.state.slots key _ h;
      goes_on = λ w key slot nonce epoch expiry r at is bound mode o h. differ_put w.state.slots key _ h;
      begins = λ w key slot nonce epoch expiry at is bound mode o h. differ_put w.state.slots key _ h;
    }

row_keys : (s : Switch) (now : ℕ) (row : SwitchRow) → KeysDiffer s.slots → KeysDiffer (perform s now row).0.slots
row_keys s now (Keyless out) h = h
row_keys s now (NoRoom mark) h = h
row_keys s now (NewAsk key slot packet) h = differ_put s.slots key _ h
row_keys s now (AskAgain key slot nonce packet) h = differ_put s.slots key _ h
row_keys s now (Drops key slot mark cause) h = differ_put s.slots key _ h
row_keys s now (Direct key slot epoch mark delta out) h = differ_put s.slots key _ h
row_keys s now (Mirrored key slot epoch mark delta out) h = differ_put s.slots key _ h
row_keys s now (Granted key slot) h = differ_put s.slots key _ h
row_keys s now (Late key slot mark) h = differ_put s.slots key _ h
row_keys s now (Acked key slot upto load) h = differ_put s.slots key _ h
row_keys s now (RoundDone key slot round) h = differ_put s.slots key _ h
row_keys s now (Denied key slot) h = differ_put s.slots key _ h
row_keys s now (Busied key slot mark) h = differ_put s.slots key _ h
row_keys s now (Adopts config) h = h
row_keys s now Resends h = walk_kept now (λ w. KeysDiffer w.state.slots) (walk_keys now) (walk_order s.walked (map (λ (e : Key × Slot). e.0) s.slots)) _ h
row_keys s now Stale h = h

pub step_tidy : (app : Application) (s : Switch) (now : ℕ) (input : Input) → Tidy s → Tidy (switch_step app s now input).0
step_tidy app s now input h =
    record {
      keys = row_keys (lapsed now s) now (switch_row app (lapsed now s) now input) (differ_map (lapsed_slot now) s.slots h.keys);
      copies = step_copies app s now input h.copies;
    }

pub record NodeSays (n : ℕ) (node : SwitchNode) : Type 0 where
  pub me : node.state.me ≡ n
  pub tidy : Tidy node.state

abbrev pub AllSay : World → Type 0
AllSay w = AllAt NodeSays w.switches

says_after : (app : Application) (n : ℕ) (node : SwitchNode) (input : Input) → NodeSays n node → NodeSays n (record node { state = (switch_step app node.state node.clock input).0 })
says_after app n node input h = record { me = (step_same app node.state node.clock input).me ∙ h.me; tidy = step_tidy app node.state node.clock input h.tidy }

pub says_kept : (app : Application) → Keeps app AllSay
says_kept app =
    record {
      counts = λ w h. h;
      passes = λ w i h. h;
      feeds = λ w n node p at up mark h. all_set NodeSays w.switches n _ (says_after app n node (Input.Packet p) (h n node at)) h;
      switches = λ w n node input at up from h. all_set NodeSays w.switches n _ (says_after app n node input (h n node at)) h;
      replicas = λ w n node input at up from h. h;
      advances = λ w by fits h. all_advanced NodeSays w.switches by (λ m d x k. record { me = k.me; tidy = k.tidy }) h;
      stops_switch = λ w n fits h. all_changed NodeSays w.switches n _ (λ m x k. record { me = k.me; tidy = k.tidy }) h;
      stops_replica = λ w n fits h. h;
      boots = λ w n down h. all_changed NodeSays w.switches n _ (λ m x k. record { me = k.me; tidy = record { keys = tt; copies = tt } }) h;
      detects_switch = λ w n fits h. all_changed NodeSays w.switches n _ (λ m x k. record { me = k.me; tidy = k.tidy }) h;
      detects_replica = λ w n fits h. h;
      announces = λ w h. h;
    }

pub opened_say : (cells : ℕ) (setup : Setup) → AllSay (opened cells setup)
opened_say cells setup = all_opened NodeSays setup (λ n. record { me = refl; tidy = record { keys = tt; copies = tt } })

pub all_say : (app : Application) (setup : Setup) (es : List Event) → AllSay (world_after app (opened app.cell_count setup) es)
all_say app setup es = run_kept app AllSay (says_kept app) es (opened app.cell_count setup) (opened_say app.cell_count setup)
