use Rattle.std.proofs.Common.{◌≡◌, drop}
use Rattle.std.specs.List.{list_all}
use Rattle.okws_plan.specs.Sound.{has_sound_rows}
use Rattle.store_keeper.proofs.sound.are_sound.Given as goal

abbrev pub invariant-loop-place : goal.invariant-loop-place
invariant-loop-place l = list_all has_sound_rows (drop l.place l.tables) ≡ list_all has_sound_rows l.tables
