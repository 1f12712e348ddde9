use Rattle.index_keeper.proofs.keeper.IndexKeeperKeeper.pin.Given as goal

abbrev pub ghosts-join_on : goal.ghosts-join_on
ghosts-join_on a = record { name = a.blank.name; parts = a.blank.parts }
