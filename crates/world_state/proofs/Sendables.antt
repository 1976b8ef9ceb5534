-- What a node sends may be sent, where every frame of the world behind its turn may be.
use Rattle.std.proofs.Common.{◌≡◌, ℕ, List, [], ◌∷◌, ◌++◌, Option, Some, None, ap, sym, subst}
use Rattle.std.specs.List.{AllByRecursion}
use Rattle.rp_app.specs.Application.{Application}
use Rattle.proto_data.specs.declared.message.Input.{Input}
use Rattle.proto_data.specs.declared.message.Msg.{Msg}
use Rattle.proto_model.specs.SwitchState.{SwitchDid}
use Rattle.world_state.specs.declared.nodes.SwitchNode.{SwitchNode as SwitchSeat}
use Rattle.world_state.specs.declared.nodes.ReplicaNode.{ReplicaNode as ReplicaSeat}
use Rattle.world_state.specs.declared.state.WorldState.{WorldState}
use Rattle.world_state.specs.declared.turns.Said.{Said}
use Rattle.sent_frames.specs.Frames.{IsSendable}
use Rattle.world_state.specs.Steps.{switch_goes, replica_goes}
use Rattle.world_state.specs.Turns.{replica_turned, replicas_turned, switch_turned, switches_turned}

pub sendable_behind : (xs ys : List Msg) → AllByRecursion IsSendable (xs ++ ys) → AllByRecursion IsSendable ys
sendable_behind [] ys h = h
sendable_behind (x ∷ xs) ys h = sendable_behind xs ys h.1

pub switch_sendable : (app : Application) (s : WorldState) (n : ℕ) (input : Input) (o : Option SwitchSeat) (ss : List SwitchSeat) (did : SwitchDid) → (ss, Some did) ≡ switches_turned app s.switches n input o →
    AllByRecursion IsSendable (switch_goes app s n input o).0.frames → AllByRecursion IsSendable did.sent
switch_sendable app s n input None ss did is h =
    let none : Some did ≡ None = ap (λ (x : List SwitchSeat × Option SwitchDid). x.1) is in
    cc
switch_sendable app s n input (Some node) ss did is h =
    let some : Some did ≡ Some (switch_turned app node input).1 = ap (λ (x : List SwitchSeat × Option SwitchDid). x.1) is in
    let same : did ≡ (switch_turned app node input).1 = cc in
    subst (λ (d : SwitchDid). AllByRecursion IsSendable d.sent) (sym same) (sendable_behind s.frames (switch_turned app node input).1.sent h)

pub replica_sendable : (s : WorldState) (n : ℕ) (input : Input) (o : Option ReplicaSeat) (rs : List ReplicaSeat) (said : Said) → (rs, Some said) ≡ replicas_turned s.replicas n s.event input o →
    AllByRecursion IsSendable (replica_goes s n input o).0.frames → AllByRecursion IsSendable said.sent
replica_sendable s n input None rs said is h =
    let none : Some said ≡ None = ap (λ (x : List ReplicaSeat × Option Said). x.1) is in
    cc
replica_sendable s n input (Some node) rs said is h =
    let some : Some said ≡ Some (replica_turned node s.event input).1 = ap (λ (x : List ReplicaSeat × Option Said). x.1) is in
    let same : said ≡ (replica_turned node s.event input).1 = cc in
    subst (λ (d : Said). AllByRecursion IsSendable d.sent) (sym same) (sendable_behind s.frames (replica_turned node s.event input).1.sent h)
