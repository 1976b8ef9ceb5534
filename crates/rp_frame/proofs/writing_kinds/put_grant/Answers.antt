use Rattle.std.proofs.Common.{◌≡◌, List, ℕ, ◌++◌, ap, ◌∙◌}
use Rattle.std.proofs.lemmas.Result.{on_ok_weaker}
use Rattle.rp_frame.specs.Spelling.{number_bytes, key_bytes, load_bytes, cells_bytes}
use Rattle.rp_frame.proofs.Joins.{left3, joined4}
use Rattle.rp_frame.proofs.writing_kinds.put_grant.Goals as goal

pub returns : goal.returns
returns c =
    let e1 : c.put_three.new.out ≡ c.args.out.now ++ (((number_bytes c.args.inc) ++ (number_bytes c.args.nonce)) ++ (number_bytes c.args.epoch)) = left3 c.put_three.new.out c.args.out.now (number_bytes c.args.inc) (number_bytes c.args.nonce) (number_bytes c.args.epoch) c.in_ok-put_three.ensures in
    let e2 : c.put_key.new.out ≡ c.put_three.new.out ++ (key_bytes c.args.key.now) = c.in_ok-put_key.ensures in
    let e3 : c.put_cells.new.out ≡ c.put_key.new.out ++ (cells_bytes c.args.cells.now) = c.in_ok-put_cells.ensures ∙ ap (λ (l : List ℕ). c.put_key.new.out ++ cells_bytes l) c.as_slice.ensures in
    on_ok_weaker c.put_load.result (joined4 c.args.out.now c.put_three.new.out c.put_key.new.out c.put_cells.new.out c.put_load.new.out (((number_bytes c.args.inc) ++ (number_bytes c.args.nonce)) ++ (number_bytes c.args.epoch)) (key_bytes c.args.key.now) (cells_bytes c.args.cells.now) (load_bytes c.args.load.now) e1 e2 e3) c.put_load.ensures
