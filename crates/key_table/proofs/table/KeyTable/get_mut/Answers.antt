use Rattle.std.proofs.Common.{◌≡◌, ◌∙◌, ap, sym, refl, Option, Some, None, MutBor}
use Rattle.std.specs.Option.{option_copied_mut, OnSome}
use Rattle.std.specs.Map.{lookup, set_value}
use Rattle.key_table.specs.Table.{Key, Table, get, put}
use Rattle.key_table.proofs.KeyMaps.{key_eq, lookup_get, set_put}
use Rattle.key_table.proofs.table.KeyTable.get_mut.Goals as goal

-- where the key has a value, what is written is put; `t` and `s` are the same table
written : {V : Type 0} (t s : Table V) (k : Key) (o : Option (MutBor V)) (lent : V → Table V) → t ≡ s → option_copied_mut o ≡ lookup (key_eq k) t → ((w : V) → lent w ≡ set_value (key_eq k) t w) →
    (w : V) → OnSome o (lent w ≡ put s k w)
written t s k None lent same value holds w = tt
written t s k (Some place) lent same value holds w =
    let there : get t k ≡ Some place.now = sym (lookup_get t k) ∙ sym value in
    holds w ∙ set_put t k place.now w there ∙ ap (λ t. put t k w) same

pub returns : goal.returns
returns g c = (
  (
    refl,
    written c.self.inside.rows.entries c.args.self.now c.args.key.now c.get_mut.result (λ w. (c.get_mut.follows.lender w).entries) c.self.view_is c.get_mut.ensures.value (λ w. (c.get_mut.follows.holds w).0),
    ap (λ m. m.entries) c.get_mut.follows.holds-at-none ∙ c.self.view_is,
  ),
  record { writes_back = tt; value = c.get_mut.ensures.value ∙ lookup_get c.self.inside.rows.entries c.args.key.now ∙ ap (λ t. get t c.args.key.now) c.self.view_is },
)
