use Rattle.index_keeper.proofs.keeper.IndexKeeperKeeper.run.Given as goal

abbrev pub ghosts-run_on : goal.ghosts-run_on
ghosts-run_on a = record { name = a.blank.name; parts = a.blank.parts }

abbrev pub ghosts-join_on : goal.ghosts-join_on
ghosts-join_on a = record { name = a.blank.name; parts = a.blank.parts }
