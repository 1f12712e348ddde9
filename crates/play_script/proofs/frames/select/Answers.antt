use Rattle.std.proofs.Common.{◌≡◌, [], subst, sym, rules, arith}
use Rattle.std.proofs.lemmas.Grind.{common_steps}
use Rattle.frame_codec.specs.Spelling.{ServiceHasSpelling}
use Rattle.play_script.specs.Script.{call_frame}
use Rattle.play_script.proofs.Sayable.{select_has}
use Rattle.play_script.proofs.frames.select.Goals as goal

pub returns-clause-spelling : goal.returns-clause-spelling
returns-clause-spelling c =
    let is : c.call.result ≡ call_frame 1 [] = first_of (search rules, grind (arith, common_steps)) in
    subst ServiceHasSpelling (sym is) select_has
