use Rattle.std.proofs.Common.{◌≡◌, Some, None, sym, ap, subst, ◌∙◌, List, get_or}
use Rattle.std.specs.List.{position, remove}
use Rattle.rp_base.specs.Memory.{Leaves}
use Rattle.rp_base.specs.Nodes.{same_node}
use Rattle.rp_base.specs.declared.mem_link.Waiting.{Waiting}
use Rattle.rp_base.proofs.Queues.{nothing_waits, first_leaves}
use Rattle.rp_base.proofs.mem_link.Post.recv.Goals as goal

pub returns-in-None-clause-nothing : goal.returns-in-None-clause-nothing
returns-in-None-clause-nothing c =
    let none : position (λ w. same_node w.to c.args.node) c.args.self.now.waiting.items ≡ None = cc (c.deref.ensures.value) in
    λ _. nothing_waits c.args.node c.args.self.now.waiting.items none

pub returns-clause-first : goal.returns-clause-first
returns-clause-first c =
    let place : position (λ w. same_node w.to c.args.node) c.args.self.now.waiting.items ≡ Some c.in-Some.i = cc (c.deref.ensures.value) in
    let old = c.args.self.now.waiting.items in
    let taken : c.note-2.new.self.waiting.items ≡ old = c.note-2.ensures.waiting in
    let is : get_or old c.in-Some.i c.remove.result ≡ c.remove.result = sym (c.remove.ensures.value ∙ ap (λ (l : List Waiting). get_or l c.in-Some.i c.remove.result) taken) in
    let left : c.remove.new.self.items ≡ remove old c.in-Some.i = c.remove.ensures.items ∙ ap (λ (l : List Waiting). remove l c.in-Some.i) taken in
    λ _. subst (λ (l : List Waiting). Leaves c.args.node c.remove.result.bytes old l) (sym left) (first_leaves c.args.node old c.in-Some.i c.remove.result place is)
