use Rattle.std.proofs.Common.{ap, subst, ◌∙◌, arith}
use Rattle.proto_data.specs.declared.message.Msg.{Msg}
use Rattle.rp_frame.specs.Reading.{Gives, all_of}
use Rattle.rp_frame.proofs.LawsHold.{found_of, all_again}
use Rattle.rp_frame.proofs.frames.decode.Goals as goal

pub returns-clause-found : goal.returns-clause-found
returns-clause-found c = found_of c.args.bytes.now c.all.result (λ i. omega (arith, c.type_inv.bytes i)) c.all.ensures

pub returns-clause-only : goal.returns-clause-only
returns-clause-only c = λ m is e. subst (λ f. Gives (λ (x : Msg). x) c.all.result f) (ap all_of e ∙ all_again m is) c.all.ensures
