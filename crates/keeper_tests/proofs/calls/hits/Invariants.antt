use Rattle.keeper_tests.proofs.calls.hits.Given as goal

abbrev pub ghosts-hits_of : goal.ghosts-hits_of
ghosts-hits_of a = record { name = a.blank.name; parts = a.blank.parts }
