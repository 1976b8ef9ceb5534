use Rattle.std.proofs.Common.{◌≡◌, ◌++◌}
use Rattle.std.proofs.lemmas.Result.{on_ok_weaker}
use Rattle.rp_frame.specs.Spelling.{number_bytes, key_bytes, load_bytes, delta_bytes}
use Rattle.rp_frame.proofs.Joins.{left3, joined4}
use Rattle.rp_frame.proofs.writing_kinds.put_put.Goals as goal

pub returns : goal.returns
returns c =
    let e1 : c.put_three.new.out ≡ c.args.out.now ++ (((number_bytes c.args.inc) ++ (number_bytes c.args.epoch)) ++ (number_bytes c.args.number)) = left3 c.put_three.new.out c.args.out.now (number_bytes c.args.inc) (number_bytes c.args.epoch) (number_bytes c.args.number) c.in_ok-put_three.ensures in
    let e2 : c.put_key.new.out ≡ c.put_three.new.out ++ (key_bytes c.args.key.now) = c.in_ok-put_key.ensures in
    let e3 : c.put_delta.new.out ≡ c.put_key.new.out ++ (delta_bytes c.args.delta.now) = c.in_ok-put_delta.ensures in
    on_ok_weaker c.put_load.result (joined4 c.args.out.now c.put_three.new.out c.put_key.new.out c.put_delta.new.out c.put_load.new.out (((number_bytes c.args.inc) ++ (number_bytes c.args.epoch)) ++ (number_bytes c.args.number)) (key_bytes c.args.key.now) (delta_bytes c.args.delta.now) (load_bytes c.args.load.now) e1 e2 e3) c.put_load.ensures
