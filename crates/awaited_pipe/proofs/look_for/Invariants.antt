use Rattle.awaited_pipe.proofs.look_for.Given as goal

abbrev pub decreases-loop-looks : goal.decreases-loop-looks
decreases-loop-looks l = l.looks.left
