-- Each copy has a number of at least 1.
use Rattle.std.proofs.Common.{◌≡◌, ◌⊎◌, inl, inr, ℕ, ◌≤◌, List, [], ◌∷◌, ◌++◌, Some, ap, arith, slice_get}
use Rattle.std.specs.Prelude.{not}
use Rattle.proto_data.specs.declared.message.Input.{Input}
use Rattle.proto_data.specs.declared.terms.Terms.{Terms}
use Rattle.rp_app.specs.Application.{Application}
use Rattle.key_table.specs.Table.{Key}
use Rattle.proto_model.specs.SwitchState.{Copy, Item, is_of, is_covered}
use Rattle.proto_model.specs.Feeds.{Each}
use Rattle.proto_model.specs.World.{World, SwitchNode}
use Rattle.proto_safety.specs.Books.{In}
use Rattle.proto_safety.proofs.Inductions.FlowMoves.{View, Move, elsewhere, lapses, asks, asks_again, takes_grant, forgets, direct, mirrored, acked, idles, resends, keeps_lease, snapped, round_done, sends_chunk, begins_round}
use Rattle.proto_safety.proofs.Inductions.FlowInduction.{FlowKeeps, Holds, flows_kept}
use Rattle.key_table.proofs.Tables.{same_key-refl}
use Rattle.proto_safety.proofs.Inductions.Induction.{Keeps}
use Rattle.proto_safety.proofs.Basics.Eachs.{each_at}
use Rattle.proto_safety.proofs.Basics.Members.{in_append, in_filter, to_filter}

abbrev pub Positive : ℕ → Terms → Key → View → Type 0
Positive inc terms key v = (c : Copy) → In v.copies c → 1 ≤ c.number

pushed : (cs : List Copy) (new : Copy) → 1 ≤ new.number → ((c : Copy) → In cs c → 1 ≤ c.number) → (c : Copy) → In (cs ++ new ∷ []) c → 1 ≤ c.number
pushed cs new one h c i = push_case (in_append cs (new ∷ []) c i)
  where
    push_case : In cs c ⊎ In (new ∷ []) c → 1 ≤ c.number
    push_case (inl j) = h c j
    push_case (inr (inl e)) = let n : new.number ≡ c.number = ap (λ (x : Copy). x.number) e in omega (arith, n, one)
    push_case (inr (inr j)) = absurd j

pub moves : (app : Application) (inc : ℕ) (terms : Terms) (now : ℕ) (input : Input) (key : Key) (v u : View) (items : List Item) → Move app inc terms now input key v items u → Positive inc terms key v → Positive inc terms key u
moves app inc terms now input key v u items (asks slot came of) h = λ c i. absurd i
moves app inc terms now input key v u items (mirrored {slot = slot} b at is mode e) h = pushed v.copies _ (omega arith) h
moves app inc terms now input key v u items (acked {upto = upto} came mode at of) h = λ c i. h c (in_filter (λ c. not (is_covered key upto c)) v.copies c i).0
moves app inc terms now input key v u items (idles at) h = λ c i. absurd i
moves app inc terms now input key v u items (resends same) h = λ c i. let w = same.were c i in let n : c.number ≡ w.0.number = w.1.1.number in omega (arith, n, h w.0 w.1.0)
moves app inc terms now input key v u items (keeps_lease at is alone mode) h = pushed v.copies _ (omega arith) h
moves app inc terms now input key v u items (elsewhere le) h = h
moves app inc terms now input key v u items lapses h = h
moves app inc terms now input key v u items (asks_again came of at is young) h = h
moves app inc terms now input key v u items (takes_grant came whole at is young) h = h
moves app inc terms now input key v u items (forgets mark at) h = h
moves app inc terms now input key v u items (direct b at is mode e clean alone) h = h
moves app inc terms now input key v u items (snapped b at is mode e young) h = h
moves app inc terms now input key v u items (round_done came mode at e is n) h = h
moves app inc terms now input key v u items (sends_chunk at is r) h = h
moves app inc terms now input key v u items (begins_round at is mode r) h = h

pub positive : (app : Application) → FlowKeeps app Positive
positive app = record { starts = λ inc terms key c i. absurd i; moves = moves app }

abbrev pub AllPositive : Application → World → Type 0
AllPositive app w = Each (Holds app Positive (positive app)) w.switches

pub positive_kept : (app : Application) → Keeps app (AllPositive app)
positive_kept app = flows_kept app Positive (positive app)

pub positive_at : (app : Application) (w : World) (n : ℕ) (node : SwitchNode) (c : Copy) → AllPositive app w → slice_get w.switches n ≡ Some node → In node.state.copies c → 1 ≤ c.number
positive_at app w n node c h at i = each_at (Holds app Positive (positive app)) w.switches n node h at c.key c (to_filter (is_of c.key) node.state.copies c i (same_key-refl c.key))
