use Rattle.std.proofs.Common.{◌≡◌, ◌++◌}
use Rattle.std.proofs.lemmas.Result.{on_ok_weaker}
use Rattle.rp_frame.specs.Spelling.{number_bytes, key_bytes, load_bytes}
use Rattle.rp_frame.proofs.Joins.{left3, joined3}
use Rattle.rp_frame.proofs.writing_kinds.put_ack.Goals as goal

pub returns : goal.returns
returns c =
    let e1 : c.put_three.new.out ≡ c.args.out.now ++ (((number_bytes c.args.inc) ++ (number_bytes c.args.epoch)) ++ (number_bytes c.args.upto)) = left3 c.put_three.new.out c.args.out.now (number_bytes c.args.inc) (number_bytes c.args.epoch) (number_bytes c.args.upto) c.in_ok-put_three.ensures in
    let e2 : c.put_key.new.out ≡ c.put_three.new.out ++ (key_bytes c.args.key.now) = c.in_ok-put_key.ensures in
    on_ok_weaker c.put_load.result (joined3 c.args.out.now c.put_three.new.out c.put_key.new.out c.put_load.new.out (((number_bytes c.args.inc) ++ (number_bytes c.args.epoch)) ++ (number_bytes c.args.upto)) (key_bytes c.args.key.now) (load_bytes c.args.load.now) e1 e2) c.put_load.ensures
