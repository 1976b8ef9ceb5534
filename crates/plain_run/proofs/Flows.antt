-- Each flow has as many cells as its application says, and what a packet makes of a flow stands among the others.
use Rattle.std.proofs.Common.{◌≡◌, ◌∙◌, ◌<◌, ℕ, List, [], ◌∷◌, Option, Some, None, Bool, true, false, Result, Ok, Err, IfOk, ap, sym, subst, length, All}
use Rattle.std.specs.Prelude.{OnSome, if◌then◌else◌}
use Rattle.rp_base.specs.declared.error.NoMemory.{NoMemory}
use Rattle.rp_base.specs.declared.node.Output.{Output}
use Rattle.rp_base.specs.declared.node.Packet.{Packet}
use Rattle.rp_app.specs.Application.{Application}
use Rattle.key_table.specs.Table.{Key, Table, get, put, same_key}
use Rattle.plain_run.specs.Plain.{HaveCells, PlainFlow, flow_or_new, flow_turn, keyed}

pub have_put : (n : ℕ) (t : Table PlainFlow) (k : Key) (f : PlainFlow) → HaveCells n t → length f.cells ≡ n → HaveCells n (put t k f)
have_put n [] k f h many = (many, tt)
have_put n (e ∷ es) k f h many = by (same_key e.0 k) (have_put n es k f h.1 many)
  where
    by : (b : Bool) → HaveCells n (put es k f) → HaveCells n (if b then (k, f) ∷ es else e ∷ put es k f)
    by true rest = (many, h.1)
    by false rest = (h.0, rest)

pub have_got : (n : ℕ) (t : Table PlainFlow) (k : Key) (f : PlainFlow) → HaveCells n t → get t k ≡ Some f → length f.cells ≡ n
have_got n [] k f h is = cc
have_got n (e ∷ es) k f h is = by (same_key e.0 k) is (have_got n es k f h.1)
  where
    by : (b : Bool) → (if b then Some e.1 else get es k) ≡ Some f → (get es k ≡ Some f → length f.cells ≡ n) → length f.cells ≡ n
    by true here rest = let same : e.1 ≡ f = cc in subst (λ (x : PlainFlow). length x.cells ≡ n) same h.0
    by false there rest = rest there

-- what is written through a loan that was made
pub on_some : {V P : Type 0} (o : Option V) (b : V) → o ≡ Some b → OnSome o P → P
on_some None b is h = absurd cc
on_some (Some x) b is h = h

-- the flow after its packet is stored among the others
pub flow_stored : (app : Application) (event : ℕ) (t after : Table PlainFlow) (k : Key) (p : Packet) (flow new : PlainFlow) (o : Option PlainFlow) (r : Result (Option Output) NoMemory) → get t k ≡ o → flow_or_new app o ≡ flow →
    after ≡ put t k new → IfOk r (λ out. (new, out) ≡ flow_turn app flow p) → IfOk r (λ out. (record { event = event; flows = after }, out) ≡ keyed app (record { event = event; flows = t }) p k)
flow_stored app event t after k p flow new o (Err x) at is stored step = tt
flow_stored app event t after k p flow new o (Ok out) at is stored step =
    let found : flow ≡ flow_or_new app (get t k) = sym (ap (flow_or_new app) at ∙ is) in
    let turned : (new, out) ≡ flow_turn app (flow_or_new app (get t k)) p = step ∙ ap (λ f. flow_turn app f p) found in
    let flow_is : new ≡ (flow_turn app (flow_or_new app (get t k)) p).0 = ap (λ (x : PlainFlow × Option Output). x.0) turned in
    let out_is : out ≡ (flow_turn app (flow_or_new app (get t k)) p).1 = ap (λ (x : PlainFlow × Option Output). x.1) turned in
    let rows : after ≡ put t k (flow_turn app (flow_or_new app (get t k)) p).0 = stored ∙ ap (put t k) flow_is in
    λ i. (record { event = event; flows = rows i }, out_is i)
