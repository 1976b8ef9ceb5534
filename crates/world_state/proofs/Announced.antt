-- The master's messages, one after the other.
use Rattle.std.proofs.Common.{◌≡◌, ℕ, zero, suc, ◌+◌, ◌<◌, List, [], ◌∷◌, ◌++◌, length, map, refl, ap, sym, ◌∙◌, Bool, true, false, arith, take, get_or, append_assoc, append-nil, length-take}
use Rattle.std.specs.Prelude.{if◌then◌else◌}
use Rattle.std.proofs.lemmas.List.{map-append}
use Rattle.rp_base.specs.declared.node.Node.{Node}
use Rattle.proto_data.specs.declared.message.Msg.{Msg}
use Rattle.proto_model.specs.World.{numbers_from}
use Rattle.proto_model.specs.WorldStep.{announcements}
use Rattle.world_state.specs.declared.state.WorldState.{WorldState}
use Rattle.world_state.specs.Announcing.{config_to, replica_runs, switch_runs}
use Rattle.world_state.specs.WorldStates.{world_of}
use Rattle.world_state.proofs.NodeLists.{numbers_more, running_numbers, running_numbers_too}
use Rattle.world_state.proofs.Taking.{next_item}

-- the numbers of one node more
next_numbers : {N : Type 0} (test : N → Bool) (xs : List N) (i : ℕ) (x : N) → i < length xs → x ≡ get_or xs i x →
    numbers_from test 0 (take (i + 1) xs) ≡ numbers_from test 0 (take i xs) ++ (if test x then i ∷ [] else [])
next_numbers test xs i x less is =
    let long : 0 + length (take i xs) ≡ i = omega (arith, less, length-take i xs) in
    ap (numbers_from test 0) (next_item xs i x x less refl is)
    ∙ numbers_more test 0 (take i xs) x
    ∙ ap (λ n. numbers_from test 0 (take i xs) ++ (if test x then n ∷ [] else [])) long

-- a running node is told
pub told_one : {N : Type 0} (test : N → Bool) (f : ℕ → Msg) (xs : List N) (i : ℕ) (x : N) (before msgs : List Msg) → i < length xs → x ≡ get_or xs i x → test x ≡ true →
    msgs ≡ before ++ map f (numbers_from test 0 (take i xs)) → msgs ++ f i ∷ [] ≡ before ++ map f (numbers_from test 0 (take (i + 1) xs))
told_one test f xs i x before msgs less is up old =
    let ns = numbers_from test 0 (take i xs) in
    ap (λ ms. ms ++ f i ∷ []) old
    ∙ append_assoc before (map f ns) (f i ∷ [])
    ∙ ap (λ ms. before ++ ms) (sym (map-append f ns (i ∷ [])))
    ∙ ap (λ ms. before ++ map f ms) (sym (next_numbers test xs i x less is ∙ ap (λ b. ns ++ (if b then i ∷ [] else [])) up))

-- and another one isn't
pub told_none : {N : Type 0} (test : N → Bool) (f : ℕ → Msg) (xs : List N) (i : ℕ) (x : N) (before msgs : List Msg) → i < length xs → x ≡ get_or xs i x → test x ≡ false →
    msgs ≡ before ++ map f (numbers_from test 0 (take i xs)) → msgs ≡ before ++ map f (numbers_from test 0 (take (i + 1) xs))
told_none test f xs i x before msgs less is down old =
    let ns = numbers_from test 0 (take i xs) in
    old ∙ ap (λ ms. before ++ map f ms) (sym (next_numbers test xs i x less is ∙ ap (λ b. ns ++ (if b then i ∷ [] else [])) down ∙ append-nil ns))

-- the messages to all nodes
pub announced : (s : WorldState) (first all : List Msg) → length s.router.believed ≡ length s.switches →
    first ≡ [] ++ map (λ n. config_to s.router.config (Node.Switch n)) (numbers_from switch_runs 0 s.switches) →
    all ≡ first ++ map (λ n. config_to s.router.config (Node.Replica n)) (numbers_from replica_runs 0 s.replicas) →
    all ≡ announcements (world_of s)
announced s first all same one two =
    two
    ∙ ap (λ ms. ms ++ map (λ n. config_to s.router.config (Node.Replica n)) (numbers_from replica_runs 0 s.replicas)) one
    ∙ (λ i. map (λ n. config_to s.router.config (Node.Switch n)) (running_numbers s.router.believed s.switches 0 same i)
    ++ map (λ n. config_to s.router.config (Node.Replica n)) (running_numbers_too s.replicas 0 i))
