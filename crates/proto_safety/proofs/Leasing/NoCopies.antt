-- In snapshot mode a switch keeps no copies.
use Rattle.std.proofs.Common.{◌≡◌, ℕ, List, [], Some, refl, subst, slice_get}
use Rattle.proto_data.specs.declared.message.Input.{Input}
use Rattle.proto_data.specs.declared.terms.Mode.{Mode}
use Rattle.proto_data.specs.declared.terms.Terms.{Terms}
use Rattle.rp_base.specs.declared.event.Event.{Event}
use Rattle.rp_app.specs.Application.{Application}
use Rattle.key_table.specs.Table.{Key}
use Rattle.proto_model.specs.SwitchState.{Item, is_of}
use Rattle.proto_model.specs.Feeds.{Each}
use Rattle.proto_model.specs.World.{World, Setup, SwitchNode, opened}
use Rattle.proto_model.specs.WorldStep.{world_after}
use Rattle.proto_safety.specs.Books.{In}
use Rattle.proto_safety.proofs.Leasing.FlowCopies.{not_strict}
use Rattle.proto_safety.proofs.Inductions.FlowMoves.{View, Move, elsewhere, lapses, asks, asks_again, takes_grant, forgets, direct, mirrored, acked, idles, resends, keeps_lease, snapped, round_done, sends_chunk, begins_round}
use Rattle.proto_safety.proofs.Inductions.FlowInduction.{FlowKeeps, Holds, flows_kept, flows_hold}
use Rattle.key_table.proofs.Tables.{same_key-refl}
use Rattle.proto_safety.proofs.Inductions.Induction.{Keeps}
use Rattle.proto_safety.proofs.Basics.Eachs.{each_at}
use Rattle.proto_safety.proofs.Basics.Members.{nobody, to_filter}

abbrev pub Copyless : ℕ → Terms → Key → View → Type 0
Copyless inc terms key v = (bound : ℕ) → terms.mode ≡ Mode.Snapshot bound → v.copies ≡ []

moves : (app : Application) (inc : ℕ) (terms : Terms) (now : ℕ) (input : Input) (key : Key) (v u : View) (items : List Item) → Move app inc terms now input key v items u → Copyless inc terms key v → Copyless inc terms key u
moves app inc terms now input key v u items (asks slot came of) h = λ bound m. refl
moves app inc terms now input key v u items (idles at) h = λ bound m. refl
moves app inc terms now input key v u items (mirrored b at is mode e) h = λ bound m. absurd (not_strict terms.mode bound mode m)
moves app inc terms now input key v u items (acked came mode at of) h = λ bound m. absurd (not_strict terms.mode bound mode m)
moves app inc terms now input key v u items (keeps_lease mode at is alone) h = λ bound m. absurd (not_strict terms.mode bound mode m)
moves app inc terms now input key v u items (resends {cs = cs} same) h = λ bound m. nobody cs (λ c i. let w = same.were c i in subst (λ l. In l w.0) (h bound m) w.1.0)
moves app inc terms now input key v u items (elsewhere le) h = h
moves app inc terms now input key v u items lapses h = h
moves app inc terms now input key v u items (asks_again came of at is young) h = h
moves app inc terms now input key v u items (takes_grant came whole at is young) h = h
moves app inc terms now input key v u items (forgets mark at) h = h
moves app inc terms now input key v u items (direct b at is mode e clean alone) h = h
moves app inc terms now input key v u items (snapped b at is mode e young) h = h
moves app inc terms now input key v u items (round_done came mode at e is n) h = h
moves app inc terms now input key v u items (sends_chunk at is r) h = h
moves app inc terms now input key v u items (begins_round at is mode r) h = h

pub copyless : (app : Application) → FlowKeeps app Copyless
copyless app = record { starts = λ inc terms key bound m. refl; moves = moves app }

abbrev pub AllCopyless : Application → World → Type 0
AllCopyless app w = Each (Holds app Copyless (copyless app)) w.switches

pub copyless_kept : (app : Application) → Keeps app (AllCopyless app)
copyless_kept app = flows_kept app Copyless (copyless app)

pub all_copyless : (app : Application) (setup : Setup) (es : List Event) → AllCopyless app (world_after app (opened app.cell_count setup) es)
all_copyless app setup es = flows_hold app Copyless (copyless app) setup es

pub no_copies_at : (app : Application) (w : World) (n bound : ℕ) (node : SwitchNode) → AllCopyless app w → slice_get w.switches n ≡ Some node → node.state.terms.mode ≡ Mode.Snapshot bound → node.state.copies ≡ []
no_copies_at app w n bound node h at mode =
    nobody node.state.copies (λ c i. subst (λ l. In l c) (each_at (Holds app Copyless (copyless app)) w.switches n node h at c.key bound mode) (to_filter (is_of c.key) node.state.copies c i (same_key-refl c.key)))
