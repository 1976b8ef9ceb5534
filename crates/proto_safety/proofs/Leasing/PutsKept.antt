-- What is known of Puts and items is kept by every other change of the world.
use Rattle.std.proofs.Common.{◌≡◌, ◌⊎◌, inl, inr, ℕ, ◌+◌, List, [], ◌∷◌, ◌++◌, length, Some, None, sym, ap, ◌∙◌, subst, true, slice_get, arith, append_assoc, length-append}
use Rattle.proto_data.specs.declared.message.Msg.{Msg}
use Rattle.proto_data.specs.declared.message.Entry.{Entry}
use Rattle.key_table.specs.Table.{Key}
use Rattle.proto_model.specs.Slot.{Slot}
use Rattle.proto_model.specs.SwitchState.{slot_at}
use Rattle.proto_model.specs.Feeds.{Each}
use Rattle.proto_model.specs.Stands.{entries_of}
use Rattle.proto_model.specs.World.{SwitchNode, ReplicaNode, Journaled}
use Rattle.proto_safety.specs.Books.{In, IsPrefix, lives, committed_of}
use Rattle.proto_safety.specs.Flows.{FitsFrom}
use Rattle.proto_safety.proofs.Store.BookEpochs.{one_place}
use Rattle.proto_safety.proofs.Leasing.WorldPuts.{NumberIn, NumberFrame, GrantOf, Awaited, NumberFits, Owned, NumberFramesFit, put_parts}
use Rattle.proto_safety.proofs.Basics.Eachs.{each_in}
use Rattle.proto_safety.proofs.Basics.Members.{somewhere}
use Rattle.proto_safety.proofs.Basics.Prefixes.{in_prefix}

-- an epoch that was granted isn't granted again
pub not_again : (n : ℕ) (key : Key) (es : List Entry) (k s i m t j p : ℕ) → FitsFrom n key None (es ++ Entry.Grant key k s i m ∷ []) → In es (Entry.Grant key k t j p) → ⊥
not_again n key es k s i m t j p fits there =
    let w = somewhere es (Entry.Grant key k t j p) there in
    let whole : es ++ Entry.Grant key k s i m ∷ [] ≡ w.before ++ Entry.Grant key k t j p ∷ (w.behind ++ Entry.Grant key k s i m ∷ []) =
    ap (λ l. l ++ Entry.Grant key k s i m ∷ []) w.is ∙ append_assoc w.before (Entry.Grant key k t j p ∷ w.behind) (Entry.Grant key k s i m ∷ []) in
    let same : w.before ≡ es = one_place n key None w.before (w.behind ++ Entry.Grant key k s i m ∷ []) es [] k t j p s i m (subst (FitsFrom n key None) whole fits) (sym whole) in
    let len : length es ≡ length w.before + length (Entry.Grant key k t j p ∷ w.behind) = ap length w.is ∙ length-append w.before (Entry.Grant key k t j p ∷ w.behind) in
    absurd (omega (arith, ap length same, len))

-- a message is neither a Put nor a Snap
abbrev pub Unnumbered : Msg → Type 0
Unnumbered m = (inc e k : ℕ) (key : Key) → NumberIn inc e k key m.body → ⊥

-- a slot of a switch that was there before
pub record SlotWas (old : List SwitchNode) (n : ℕ) (node : SwitchNode) (key : Key) (slot : Slot) : Type 0 where
  pub node_was : SwitchNode
  pub at : slice_get old n ≡ Some node_was
  pub found : slot_at node_was.state key ≡ Some slot
  pub inc : node.state.inc ≡ node_was.state.inc

-- a Grant of a running book that was there before
pub record GrantWas (old : List ReplicaNode) (r : ℕ) (key : Key) (e s i m : ℕ) : Type 0 where
  pub node_was : ReplicaNode
  pub at : slice_get old r ≡ Some node_was
  pub up : lives node_was ≡ true
  pub there : In (entries_of node_was.book) (Entry.Grant key e s i m)

module _ (frames ms : List Msg) (switches after : List SwitchNode) (replicas later : List ReplicaNode) (items : List Journaled)
    (no_puts : Each Unnumbered ms) (grows : IsPrefix (committed_of replicas) (committed_of later))
    (slots : (n : ℕ) (node : SwitchNode) (key : Key) (slot : Slot) → slice_get after n ≡ Some node → slot_at node.state key ≡ Some slot → SlotWas switches n node key slot)
    (grants : (r : ℕ) (replica : ReplicaNode) (key : Key) (e s i m : ℕ) → slice_get later r ≡ Some replica → lives replica ≡ true → In (entries_of replica.book) (Entry.Grant key e s i m) → GrantWas replicas r key e s i m ⊎ (Owned (committed_of replicas) key e → ⊥))
    (h : NumberFramesFit frames switches replicas items) where
  granted_later : (n inc e : ℕ) (key : Key) → GrantOf (committed_of replicas) n inc key e → GrantOf (committed_of later) n inc key e
  granted_later n inc e key g = record { nonce = g.nonce; there = in_prefix (committed_of replicas) (committed_of later) _ grows g.there }

  owned_later : (key : Key) (e : ℕ) → Owned (committed_of replicas) key e → Owned (committed_of later) key e
  owned_later key e o = record { n = o.n; inc = o.inc; grant = granted_later o.n o.inc e key o.grant }

  fits_later : (key : Key) (e k : ℕ) → Owned (committed_of replicas) key e → NumberFits switches replicas key e k → NumberFits after later key e k
  fits_later key e k owned f =
      record {
        reached = λ n node slot at found leased. let w = slots n node key slot at found in f.reached n w.node_was slot w.at w.found leased;
        awaited = λ a. grant_case a (grants a.r a.replica key e a.n a.node.state.inc a.nonce a.here a.up a.granted);
      }
    where
      grant_case : (a : Awaited after later key e) → GrantWas replicas a.r key e a.n a.node.state.inc a.nonce ⊎ (Owned (committed_of replicas) key e → ⊥) → ⊥
      grant_case a (inr never) = never owned
      grant_case a (inl g) =
          let w = slots a.n a.node key a.slot a.at a.found in
          f.awaited (record {
            n = a.n;
            node = w.node_was;
            slot = a.slot;
            nonce = a.nonce;
            first = a.first;
            r = a.r;
            replica = g.node_was;
            at = w.at;
            found = w.found;
            asking = a.asking;
            here = g.at;
            up = g.up;
            granted = subst (λ (x : ℕ). In (entries_of g.node_was.book) (Entry.Grant key e a.n x a.nonce)) w.inc g.there;
          })

  old_put : (n inc e k : ℕ) (key : Key) → NumberFrame (frames ++ ms) n inc key e k → NumberFrame frames n inc key e k
  old_put n inc e k key p = part_case (put_parts frames ms n inc e k key p)
    where
      part_case : NumberFrame frames n inc key e k ⊎ NumberFrame ms n inc key e k → NumberFrame frames n inc key e k
      part_case (inl q) = q
      part_case (inr q) = absurd (each_in Unnumbered ms q.msg no_puts q.there inc e k key q.number_in)

  pub changed_puts : NumberFramesFit (frames ++ ms) after later items
  changed_puts =
      record {
        granted = λ n inc e k key p. granted_later n inc e key (h.granted n inc e k key (old_put n inc e k key p));
        numbers = λ n inc e k key p.
            let q = old_put n inc e k key p in
            fits_later key e k (record { n = n; inc = inc; grant = h.granted n inc e k key q }) (h.numbers n inc e k key q);
        item_granted = λ j i. owned_later j.item.key j.item.epoch (h.item_granted j i);
        item_numbers = λ j i. fits_later j.item.key j.item.epoch j.item.number (h.item_granted j i) (h.item_numbers j i);
        in_turn = h.in_turn;
      }
