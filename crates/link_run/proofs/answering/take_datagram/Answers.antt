use Rattle.std.proofs.Common.{◌≡◌, Some, true, slice_get, ap, subst, sym, ◌∙◌, arith}
use Rattle.std.specs.Prelude.{IfSome}
use Rattle.proto_data.specs.declared.message.Msg.{Msg}
use Rattle.proto_model.specs.Handing.{found}
use Rattle.proto_model.specs.WorldStep.{runs_now}
use Rattle.rp_frame.specs.Spelling.{spelling}
use Rattle.link_run.proofs.FoundNodes.{found_goes, same_node-true}
use Rattle.link_run.proofs.answering.take_datagram.Goals as goal

pub handed-requires-clause-frame : goal.handed-requires-clause-frame
handed-requires-clause-frame g c =
    let there : found spelling c.args.world.now.world c.args.node c.args.bytes.now ≡ Some c.in-Some.frame = sym c.find.ensures ∙ c.in-Some.is in
    let r = found_goes spelling c.args.node c.args.bytes.now 0 c.in-Some.frame c.args.world.now.world.frames there in
    omega (arith, r.1.0, r.1.1.within)

pub handed-requires-clause-runs : goal.handed-requires-clause-runs
handed-requires-clause-runs g c =
    let there : found spelling c.args.world.now.world c.args.node c.args.bytes.now ≡ Some c.in-Some.frame = sym c.find.ensures ∙ c.in-Some.is in
    let r = found_goes spelling c.args.node c.args.bytes.now 0 c.in-Some.frame c.args.world.now.world.frames there in
    let place : c.in-Some.frame ≡ r.0 = omega (arith, r.1.0) in
    let stands : slice_get c.args.world.now.world.frames c.in-Some.frame ≡ Some r.1.1.msg = ap (slice_get c.args.world.now.world.frames) place ∙ r.1.1.stands in
    let up : runs_now c.args.world.now.world r.1.1.msg.to ≡ true = ap (runs_now c.args.world.now.world) (same_node-true r.1.1.msg.to c.args.node r.1.1.same) ∙ c.requires.runs in
    subst (λ o. IfSome o (λ (m : Msg). runs_now c.args.world.now.world m.to ≡ true)) (sym stands) up
