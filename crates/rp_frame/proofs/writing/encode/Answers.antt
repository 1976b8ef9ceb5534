use Rattle.std.proofs.Common.{◌≡◌, ap, ◌∙◌, arith}
use Rattle.std.proofs.lemmas.Bool.{and_parts}
use Rattle.std.proofs.lemmas.Grind.{common_steps}
use Rattle.rp_frame.specs.Laws.{IsMessage}
use Rattle.rp_frame.specs.Reading.{all_of}
use Rattle.rp_frame.specs.Spelling.{spelling}
use Rattle.rp_frame.proofs.LawsHold.{all_again}
use Rattle.rp_frame.proofs.writing.encode.Goals as goal

pub put_body-requires : goal.put_body-requires
put_body-requires c = (and_parts _ _ c.requires).1

pub returns-clause-again : goal.returns-clause-again
returns-clause-again c =
    let message : IsMessage c.args.m.now = record { fits = c.requires; range = c.fields_in.ensures } in
    let text : c.put_body.new.out ≡ spelling c.args.m.now = grind (arith, common_steps, c.in_ok-put_body.ensures, c.in_ok-append.ensures) in
    ap all_of text ∙ all_again c.args.m.now message
