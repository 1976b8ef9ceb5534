-- What is promised of an application can be shown in one way at most.
use Rattle.std.specs.Prelude.{◌≡◌, ◌≤◌, ◌<◌, ℕ, Bool, List, Option, Some, None, All, length}
use Rattle.std.specs.Coded.{Coded, Coded-set, coded_ℕ, coded_bool, coded_list, coded×, coded_option, ×_prop, Π_prop, →_prop, Unit-prop, le_prop, codes}
use Rattle.rp_base.specs.declared.node.Packet.{Packet}
use Rattle.rp_base.specs.declared.node.Output.{Output}
use Rattle.rp_base.specs.contracts.node.Output as output
use Rattle.rp_app.specs.Application.{Application, Delta, IsApplication, IsDelta, IsOutputOf}

pub all_prop : {A : Type 0} (P : A → Type 0) → ((x : A) → IsProp (P x)) → (xs : List A) → IsProp (All P xs)
all_prop P h xs = Π_prop (λ i. Π_prop (λ d. →_prop (h _)))

pub delta_prop : (d : Delta) → IsProp (IsDelta d)
delta_prop d x y = λ i. record {
  rises = Coded-set coded_bool _ _ x.rises y.rises i;
  within = all_prop (λ c. c < 256) (λ c. le_prop) _ x.within y.within i;
  short = le_prop x.short y.short i;
}

pub output_prop : (p : Packet) (o : Option Output) → IsProp (IsOutputOf p o)
output_prop p None = Unit-prop
output_prop p (Some o) =
    let mark : IsProp (o.mark ≡ p.mark) = Coded-set coded_ℕ o.mark p.mark in
    let short : IsProp (length o.bytes ≤ 1500) = le_prop in
    let port : IsProp (p.port < 65536 → o.port < 65536) = →_prop le_prop in
    λ x y i. (mark x.0 y.0 i, short x.1 y.1 i, port x.2 y.2 i)

pub application_prop : (a : Application) → IsProp (IsApplication a)
application_prop a x y = λ i. record {
  keys = Π_prop (λ p. Π_prop (λ key. →_prop (×_prop le_prop le_prop))) x.keys y.keys i;
  deltas = Π_prop (λ cells. Π_prop (λ p. →_prop (delta_prop _))) x.deltas y.deltas i;
  cells = Π_prop (λ cells. Π_prop (λ p. →_prop (all_prop (λ c. c < a.cell_count) (λ c. le_prop) _))) x.cells y.cells i;
  outputs = Π_prop (λ cells. Π_prop (λ p. →_prop (output_prop p _))) x.outputs y.outputs i;
  keyless = Π_prop (λ cells. Π_prop (λ p. →_prop (→_prop (Coded-set (coded_list (coded× coded_ℕ coded_ℕ)) _ _)))) x.keyless y.keyless i;
  blind = Π_prop (λ cells. Π_prop (λ others. Π_prop (λ p. →_prop (→_prop (→_prop (Coded-set (coded_option output.the_row.coded) _ _)))))) x.blind y.blind i;
}
