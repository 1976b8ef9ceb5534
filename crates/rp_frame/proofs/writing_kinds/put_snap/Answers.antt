use Rattle.std.proofs.Common.{◌≡◌, List, ℕ, [], ◌∷◌, ◌++◌, ap, ◌∙◌}
use Rattle.std.proofs.lemmas.Result.{on_ok_weaker}
use Rattle.rp_frame.specs.Spelling.{number_bytes, key_bytes, cells_bytes}
use Rattle.rp_frame.proofs.Joins.{left3, joined2, joined3}
use Rattle.rp_frame.proofs.writing_kinds.put_snap.Goals as goal

pub returns : goal.returns
returns c =
    let e1 : c.put_three.new.out ≡ c.args.out.now ++ (((number_bytes c.args.inc) ++ (number_bytes c.args.epoch)) ++ (number_bytes c.args.round)) = left3 c.put_three.new.out c.args.out.now (number_bytes c.args.inc) (number_bytes c.args.epoch) (number_bytes c.args.round) c.in_ok-put_three.ensures in
    let e2 : c.put_key.new.out ≡ c.put_three.new.out ++ key_bytes c.args.key.now = c.in_ok-put_key.ensures in
    let e3 : c.append.new.self ≡ c.put_key.new.out ++ (c.args.chunk ∷ c.args.chunks ∷ []) = c.in_ok-append.ensures.ok in
    on_ok_weaker c.put_cells.result
    (λ e. joined3 c.args.out.now c.put_three.new.out c.put_key.new.out c.put_cells.new.out (((number_bytes c.args.inc) ++ (number_bytes c.args.epoch)) ++ (number_bytes c.args.round)) (key_bytes c.args.key.now) (c.args.chunk ∷ c.args.chunks ∷ cells_bytes c.args.cells.now) e1 e2
    (joined2 c.put_key.new.out c.append.new.self c.put_cells.new.out (c.args.chunk ∷ c.args.chunks ∷ []) (cells_bytes c.args.cells.now) e3 (e ∙ ap (λ (l : List ℕ). c.append.new.self ++ cells_bytes l) c.as_slice.ensures.value)))
    c.put_cells.ensures
