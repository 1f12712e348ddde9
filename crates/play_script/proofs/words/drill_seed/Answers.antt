use Rattle.std.proofs.Common.{refl}
use Rattle.play_script.specs.Words.{drill_seed}
use Rattle.play_script.proofs.words.drill_seed.Goals as goal

pub returns : goal.returns
unfolding drill_seed
returns c = rw (c.copy_from_slice.ensures.after, c.to_be_bytes.ensures) refl
