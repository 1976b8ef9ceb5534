use Rattle.std.proofs.Common.{◌≡◌, ◌∙◌, ap, sym, None, Result, Ok, Err}
use Rattle.std.specs.Result.{OnErr}
use Rattle.key_table.specs.Table.{get, put}
use Rattle.key_table.proofs.KeyMaps.{lookup_get, insert_put}
use Rattle.key_table.proofs.table.KeyTable.put.Goals as goal

on_err : {T E P : Type 0} (r : Result T E) → P → OnErr r P
on_err (Ok x) p = tt
on_err (Err e) p = p

pub returns-in_err-insert-clause-new : goal.returns-in_err-insert-clause-new
returns-in_err-insert-clause-new g c =
    let absent : get c.args.self.now c.args.key ≡ None = ap (λ t. get t c.args.key) (sym c.self.view_is) ∙ sym (lookup_get c.self.inside.rows.entries c.args.key) ∙ c.in_err-insert.ensures.absent in
    on_err c.from_residual.result absent

pub returns-clause-ok : goal.returns-clause-ok
returns-clause-ok g c = c.in_ok-insert.ensures.entries ∙ insert_put c.self.inside.rows.entries c.args.key c.args.value ∙ ap (λ t. put t c.args.key c.args.value) c.self.view_is

pub returns-clause-old : goal.returns-clause-old
returns-clause-old g c = c.in_ok-insert.ensures.old ∙ lookup_get c.self.inside.rows.entries c.args.key ∙ ap (λ t. get t c.args.key) c.self.view_is
