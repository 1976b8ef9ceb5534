use Rattle.std.proofs.Common.{◌≡◌, ◌≤◌, ◌∙◌, ◌+◌, ◌++◌, ap, arith, length, min, take, drop}
use Rattle.std.proofs.lemmas.List.{take_min}
use Rattle.proto_model.specs.ReplicaRows.{forwards}
use Rattle.proto_model.specs.ReplicaState.{Replica, store_sent}
use Rattle.store_replica.proofs.Lists.{forwards_next}
use Rattle.store_replica.proofs.state.ReplicaState.resend.Goals as goal

pub loop-i-preserved : goal.loop-i-preserved
loop-i-preserved c =
    let before : c.loop-i.sent ≡ forwards c.args.self.now (c.args.self.now.known + 1) (take c.loop-i.i c.args.self.now.pending) = c.loop-i.invariant in
    let long : c.len.result ≡ length c.args.self.now.pending = c.len.ensures.len ∙ ap (λ (r : Replica). length r.pending) c.self.view_is in
    let within : c.loop-i.i ≤ length c.args.self.now.pending = omega (arith, c.loop-i-test.true, c.min-i-end.ensures, long) in
    c.in_ok-forward.ensures
    ∙ ap (λ ms. ms ++ forwards c.args.self.now (c.args.self.now.known + 1 + c.loop-i.i) (take 1 (drop c.loop-i.i c.args.self.now.pending))) before
    ∙ forwards_next c.args.self.now (c.args.self.now.known + 1) c.loop-i.i c.args.self.now.pending within

pub returns : goal.returns
returns c =
    let before : c.loop-i.sent ≡ forwards c.args.self.now (c.args.self.now.known + 1) (take c.loop-i.i c.args.self.now.pending) = c.loop-i.invariant in
    let long : c.len.result ≡ length c.args.self.now.pending = c.len.ensures.len ∙ ap (λ (r : Replica). length r.pending) c.self.view_is in
    let all : c.loop-i.i ≡ min 64 (length c.args.self.now.pending) = omega (arith, c.loop-i-test.false, c.loop-i.auto.i-end, c.min-i-end.ensures, long) in
    c.sent-2.ensures
    ∙ ap store_sent (before ∙ ap (λ es. forwards c.args.self.now (c.args.self.now.known + 1) es) (ap (λ n. take n c.args.self.now.pending) all ∙ take_min 64 c.args.self.now.pending))
