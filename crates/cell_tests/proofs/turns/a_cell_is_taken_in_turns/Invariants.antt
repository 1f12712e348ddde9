use Rattle.cell_tests.proofs.turns.a_cell_is_taken_in_turns.Given as goal

abbrev pub ghosts-take_turns : goal.ghosts-take_turns
ghosts-take_turns g a = record { launcher = 3; site = a.cell.config; run_seed = a.cell.seed }
