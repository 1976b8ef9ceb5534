use Rattle.std.proofs.Common.{◌≡◌, ◌∙◌, ◌+◌, ◌++◌, List, ap, subst, sym, take, drop, Some, None, slice_get}
use Rattle.std.specs.Result.{OnOk}
use Rattle.proto_data.specs.declared.message.Body.{Body}
use Rattle.proto_data.specs.declared.message.Entry.{Entry}
use Rattle.proto_data.specs.declared.message.Msg.{Msg}
use Rattle.proto_model.specs.ReplicaRows.{forwards}
use Rattle.proto_model.specs.ReplicaState.{Replica, to_successor}
use Rattle.store_replica.proofs.Lists.{forward_none, forward_one}
use Rattle.store_replica.proofs.state.ReplicaState.forward.Goals as goal

pub returns-in_default : goal.returns-in_default
returns-in_default c =
    let none : None ≡ slice_get c.self.inside.pending.items c.args.i = c.in_default.ensures in
    let at : None ≡ slice_get c.args.self.now.pending c.args.i = none ∙ ap (λ (r : Replica). slice_get r.pending c.args.i) c.self.view_is in
    forward_none c.args.self.now (c.args.self.now.known + 1 + c.args.i) c.args.i c.args.sent.now at

pub returns : goal.returns
returns c =
    let at : Some c.in-Some.entry.now ≡ slice_get c.args.self.now.pending c.args.i = c.in-Some.ensures ∙ ap (λ (r : Replica). slice_get r.pending c.args.i) c.self.view_is in
    let one : to_successor c.args.self.now (Body.Forward c.self.inside.config.number (c.self.inside.known + 1 + c.args.i) c.in_ok-copy_entry.field-0 None)
    ≡ forwards c.args.self.now (c.args.self.now.known + 1 + c.args.i) (take 1 (drop c.args.i c.args.self.now.pending)) =
    ap (λ (e : Entry). to_successor c.args.self.now (Body.Forward c.self.inside.config.number (c.self.inside.known + 1 + c.args.i) e None)) c.in_ok-copy_entry.ensures
    ∙ ap (λ (r : Replica). to_successor c.args.self.now (Body.Forward r.config.number (r.known + 1 + c.args.i) c.in-Some.entry.now None)) c.self.view_is
    ∙ sym (forward_one c.args.self.now (c.args.self.now.known + 1 + c.args.i) c.args.i c.in-Some.entry.now at) in
    subst (λ (ms : List Msg). OnOk c.tell_successor.result (c.tell_successor.new.sent ≡ c.args.sent.now ++ ms)) one c.tell_successor.ensures
