use Rattle.table_rows.proofs.rows.+push_conds.Given as goal

abbrev pub decreases-push_conds : goal.decreases-push_conds
decreases-push_conds l = l.n
