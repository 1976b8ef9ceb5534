use Rattle.exec_tables.proofs.run.run_table.Given as goal

abbrev pub ghosts-number_of : goal.ghosts-number_of
ghosts-number_of a = record { name = a.blank.name; parts = a.blank.parts }
