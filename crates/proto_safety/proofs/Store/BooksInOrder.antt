-- What the protocol promises of books, from what is kept of them.
use Rattle.std.proofs.Common.{◌≡◌, ℕ, ◌<◌, List, [], ◌∷◌, Some, arith, refl, sym, ap, subst, ◌∙◌, slice_get, inl, inr, true}
use Rattle.proto_data.specs.declared.message.Msg.{Msg}
use Rattle.proto_data.specs.declared.message.Body.{Body}
use Rattle.rp_base.specs.declared.node.Node.{Node}
use Rattle.proto_data.specs.declared.message.Entry.{Entry}
use Rattle.proto_data.specs.declared.message.Config.{Config}
use Rattle.rp_base.specs.declared.event.Event.{Event}
use Rattle.rp_app.specs.Application.{Application}
use Rattle.proto_model.specs.Stands.{entries_of}
use Rattle.proto_model.specs.ReplicaState.{is_head, is_head_of, is_tail_of}
use Rattle.proto_model.specs.World.{World, Setup, ReplicaNode, opened}
use Rattle.proto_model.specs.WorldStep.{world_after}
use Rattle.proto_safety.specs.Books.{In, IsPrefix, EntryAt, Rising, Precedes, Has, Runs, InOrder, HoldsIn, BooksHold, Forwarded, ToReplica, FrameBooks, Books, book_of, committed_of}
use Rattle.proto_safety.proofs.Store.Chains.{before_head, behind_tail}
use Rattle.proto_safety.proofs.Store.LastBook.{last_book}
use Rattle.proto_safety.proofs.Inductions.Induction.{run_kept}
use Rattle.proto_safety.proofs.Store.WorldBooks.{BooksSince, since_kept, books_hold, committed_grows}
use Rattle.proto_safety.proofs.Basics.Eachs.{each_at, each_in}

precedes_parts : (chain : List ℕ) (a b : ℕ) → Rising chain → Precedes chain a b → In chain a × (a < b)
precedes_parts [] a b r p = absurd p
precedes_parts (x ∷ xs) a b r (inl p) = (inl p.0, let above : x < b = each_in (λ c. x < c) xs b r.0 p.1 in omega (arith, p.0))
precedes_parts (x ∷ xs) a b r (inr p) = let q = precedes_parts xs a b r.1 p in (inr q.0, q.1)

module _ (confs : List Config) (w : World) (h : Books confs w) where
  rising_of : (c : Config) → In confs c → Rising c.chain
  rising_of c i = each_in (λ (c : Config). Rising c.chain) confs c h.configs.rising i

  frame_at : (i : ℕ) (m : Msg) → slice_get w.frames i ≡ Some m → FrameBooks confs w.replicas m.from m.to m.body
  frame_at i m at = each_at (λ (m : Msg). FrameBooks confs w.replicas m.from m.to m.body) w.frames i m h.frames at

  config_in : (n : ℕ) (config : Config) → Has w n config → In confs config
  config_in n config k = subst (λ (c : Config). In confs c) k.config_is (h.nodes n k.node k.at).config

  sent_from : (from to : Node) (x number place : ℕ) (entry : Entry) → from ≡ Node.Replica x → ToReplica (λ b. Forwarded confs w.replicas from number b place entry) to →
      EntryAt (book_of w.replicas x) place entry
      × ((n a : ℕ) (config : Config) → Has w n config → config.number ≡ number → Precedes config.chain a x → EntryAt (book_of w.replicas a) place entry)
  sent_from from (Node.Replica b) x number place entry is f =
      let own : f.sender ≡ x = cc (sym f.from_is ∙ is) in (
        subst (λ k. EntryAt (book_of w.replicas k) place entry) own (f.have f.sender f.sender_in f.sender_before),
        λ n a config k same p.
            let q = precedes_parts config.chain a x (rising_of config (config_in n config k)) p in
            f.have a
            (h.configs.later f.config config f.was (config_in n config k) (omega (arith, f.number_is)) a x (subst (λ k. In f.config.chain k) own f.sender_in) q.0 q.1)
            (omega (arith, q.1, f.sender_before)),
      )
  sent_from from (Node.Switch b) x number place entry is f = absurd f
  sent_from from Node.Master x number place entry is f = absurd f

  chain_of : (n : ℕ) (node : ReplicaNode) → Runs w n node → Rising node.state.config.chain
  chain_of n node r = rising_of node.state.config (h.nodes n node r.at).config

  member_of : (n m : ℕ) (a b : ReplicaNode) → Runs w n a → Runs w m b → In a.state.config.chain m
  member_of n m a b r s = h.configs.members a.state.config (h.nodes n a r.at).config m b s.at s.up

  not_below : (n m : ℕ) (a b : ReplicaNode) → Runs w n a → Runs w m b → is_head a.state ≡ true → m < n → ⊥
  not_below n m a b r s head below =
      before_head a.state.config.chain n m (chain_of n a r) (subst (λ k. is_head_of a.state.config.chain k ≡ true) (h.nodes n a r.at).me head) (member_of n m a b r s) below

  one_head : (n m : ℕ) (a b : ReplicaNode) → Runs w n a → Runs w m b → is_head a.state ≡ true → is_head b.state ≡ true → n ≡ m
  one_head n m a b r s p q = omega (arith, not_below n m a b r s p, not_below m n b a s r q)

  pub in_order : InOrder w
  in_order =
      record {
        prefixes = λ n a node r p. let q = precedes_parts node.state.config.chain a n (chain_of n node r) p in (h.nodes n node r.at).behind r.up a q.0 q.1;
        forwards = λ i x number place to entry load at.
            sent_from (Node.Replica x) to x number place entry refl (frame_at i (record { from = Node.Replica x; to = to; body = Body.Forward number place entry load }) at);
        present = λ n m config node k r. h.configs.members config (config_in n config k) m node r.at r.up;
        last = λ n m node other r k tail.
            behind_tail node.state.config.chain n m (chain_of n node r) (subst (λ k. is_tail_of node.state.config.chain k ≡ true) (h.nodes n node r.at).me tail) (member_of n m node other r k);
        tails = λ n node r tail.
            ap entries_of
            (last_book w.replicas [] n node
            (record {
              at = r.at;
              up = r.up;
              last = λ m other at up.
                  behind_tail node.state.config.chain n m (chain_of n node r) (subst (λ k. is_tail_of node.state.config.chain k ≡ true) (h.nodes n node r.at).me tail)
                  (member_of n m node other r (record { at = at; up = up }));
            }));
        heads = λ n m a b r s p q. one_head n m a b r s p q;
        known = λ n node at. (h.nodes n node at).known;
        haves = λ i index from to at. frame_at i (record { from = from; to = to; body = Body.Have index }) at;
      }

-- a configuration that the master made
module _ (was : Config) (confs : List Config) (w : World) (h : Books confs w) (there : In confs was) where
  sent_in : (from to : Node) (x number place : ℕ) (entry : Entry) → number ≡ was.number → from ≡ Node.Replica x → ToReplica (λ b. Forwarded confs w.replicas from number b place entry) to →
      (a : ℕ) → Precedes was.chain a x → EntryAt (book_of w.replicas a) place entry
  sent_in from (Node.Replica b) x number place entry same is f a p =
      let own : f.sender ≡ x = cc (sym f.from_is ∙ is) in
      let q = precedes_parts was.chain a x (each_in (λ (c : Config). Rising c.chain) confs was h.configs.rising there) p in
      f.have a
      (h.configs.later f.config was f.was there (omega (arith, f.number_is)) a x (subst (λ k. In f.config.chain k) own f.sender_in) q.0 q.1)
      (omega (arith, q.1, f.sender_before))
  sent_in from (Node.Switch b) x number place entry same is f a p = absurd f
  sent_in from Node.Master x number place entry same is f a p = absurd f

  pub holds_in : HoldsIn was w
  holds_in =
      record {
        present = λ m node r. h.configs.members was there m node r.at r.up;
        forwards = λ i x place to entry load at a p.
            sent_in (Node.Replica x) to x was.number place entry refl refl
            (each_at (λ (m : Msg). FrameBooks confs w.replicas m.from m.to m.body) w.frames i (record { from = Node.Replica x; to = to; body = Body.Forward was.number place entry load }) h.frames at) a p;
      }

pub configurations_hold : (app : Application) (setup : Setup) (es more : List Event) →
    HoldsIn (world_after app (opened app.cell_count setup) es).config (world_after app (world_after app (opened app.cell_count setup) es) more)
configurations_hold app setup es more =
    let w : World = world_after app (opened app.cell_count setup) es in
    let b : BooksHold w = books_hold app setup es in
    let k : BooksSince (w.config ∷ []) (world_after app w more) =
    run_kept app (BooksSince (w.config ∷ [])) (since_kept app (w.config ∷ [])) more w (b.0, (b.1, λ c i. one_of b.0 w.config c b.1.configs.present i)) in
    holds_in w.config k.0 (world_after app w more) k.1.0 (k.1.1 w.config (inl refl))
  where
    one_of : (confs : List Config) (now c : Config) → In confs now → In (now ∷ []) c → In confs c
    one_of confs now c there (inl e) = subst (λ (d : Config). In confs d) e there
    one_of confs now c there (inr i) = absurd i

pub books_in_order : (app : Application) (setup : Setup) (es : List Event) → InOrder (world_after app (opened app.cell_count setup) es)
books_in_order app setup es = let b = books_hold app setup es in in_order b.0 (world_after app (opened app.cell_count setup) es) b.1

pub committed_only_grows : (app : Application) (setup : Setup) (es more : List Event) →
    IsPrefix (committed_of (world_after app (opened app.cell_count setup) es).replicas) (committed_of (world_after app (world_after app (opened app.cell_count setup) es) more).replicas)
committed_only_grows app setup es more = committed_grows app more (world_after app (opened app.cell_count setup) es) (books_hold app setup es)
