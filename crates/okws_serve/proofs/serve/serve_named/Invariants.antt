use Rattle.okws_serve.proofs.serve.serve_named.Given as goal

abbrev pub ghosts-serve_locked : goal.ghosts-serve_locked
ghosts-serve_locked g a = record { cell_turns = a.kit.cells.turns }
