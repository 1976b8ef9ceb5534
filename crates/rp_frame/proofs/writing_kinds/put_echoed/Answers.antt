use Rattle.std.proofs.Common.{◌≡◌, [], ◌∷◌, ◌++◌}
use Rattle.std.proofs.lemmas.Result.{on_ok_weaker}
use Rattle.rp_frame.specs.Spelling.{number_bytes, key_bytes}
use Rattle.rp_frame.proofs.Joins.{left2, joined3}
use Rattle.rp_frame.proofs.writing_kinds.put_echoed.Goals as goal

pub returns-in_ok-put_two-in-Ask : goal.returns-in_ok-put_two-in-Ask
returns-in_ok-put_two-in-Ask c =
    let e1 : c.append.new.self ≡ c.args.out.now ++ (1 ∷ c.in-Ask.switch ∷ []) = c.in_ok-append-in-Ask.ensures.ok in
    let e2 : c.put_two.new.out ≡ c.append.new.self ++ (number_bytes c.in-Ask.inc ++ number_bytes c.in-Ask.nonce) = left2 c.put_two.new.out c.append.new.self (number_bytes c.in-Ask.inc) (number_bytes c.in-Ask.nonce) c.in_ok-put_two-in-Ask.ensures in
    rw c.in-Ask.is (on_ok_weaker c.put_key.result (joined3 c.args.out.now c.append.new.self c.put_two.new.out c.put_key.new.out (1 ∷ c.in-Ask.switch ∷ []) (number_bytes c.in-Ask.inc ++ number_bytes c.in-Ask.nonce) (key_bytes c.in-Ask.key) e1 e2) c.put_key.ensures)

pub returns-in_ok-put_two-in-Put : goal.returns-in_ok-put_two-in-Put
returns-in_ok-put_two-in-Put c =
    let e1 : c.append-in-Put.new.self ≡ c.args.out.now ++ (2 ∷ c.in-Put.switch ∷ []) = c.in_ok-append-in-Put.ensures.ok in
    let e2 : c.put_two-in-Put.new.out ≡ c.append-in-Put.new.self ++ (number_bytes c.in-Put.epoch ++ number_bytes c.in-Put.number) = left2 c.put_two-in-Put.new.out c.append-in-Put.new.self (number_bytes c.in-Put.epoch) (number_bytes c.in-Put.number) c.in_ok-put_two-in-Put.ensures in
    rw c.in-Put.is (on_ok_weaker c.put_key-in-Put.result (joined3 c.args.out.now c.append-in-Put.new.self c.put_two-in-Put.new.out c.put_key-in-Put.new.out (2 ∷ c.in-Put.switch ∷ []) (number_bytes c.in-Put.epoch ++ number_bytes c.in-Put.number) (key_bytes c.in-Put.key) e1 e2) c.put_key-in-Put.ensures)
