use Rattle.std.proofs.Common.{◌≡◌, sym, subst, List, ℕ, length}
use Rattle.std.specs.Prelude.{All}
use Rattle.match_tables.specs.declared.entries.MatchCond.{MatchCond}
use Rattle.table_rows.specs.Rows.{rows_of, IsTableOf}
use Rattle.table_rows.proofs.Joined.{is_table, rows_long, length_kinds}
use Rattle.tree_eval.specs.Seen.{seen}
use Rattle.table_rows.proofs.rows.table_of.Goals as goal

pub build-requires : goal.build-requires
build-requires c =
    let sc = seen c.args.sc in
    let keys = c.args.keys.now in
    let es = c.args.es.now in
    let made = c.in_ok-made.made in
    let long : length made ≡ length keys = length_kinds keys made c.in_ok-made.ensures in
    subst (All (λ (r : List MatchCond). length r ≡ length made)) (sym c.in_ok-rows.ensures)
    (subst (λ (n : ℕ). All (λ (r : List MatchCond). length r ≡ n) (rows_of sc (length keys) es)) (sym long) (rows_long sc (length keys) es))

pub returns : goal.returns
returns c =
    let sc = seen c.args.sc in
    subst (IsTableOf sc c.args.keys.now c.args.es.now) (sym c.in_ok-table.ensures)
    (is_table sc c.args.keys.now c.args.es.now c.in_ok-made.made c.in_ok-rows.rows c.in_ok-made.ensures c.in_ok-rows.ensures)
