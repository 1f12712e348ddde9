use Rattle.std.proofs.Common.{◌≡◌, [], ◌∷◌, subst, sym, rules, arith}
use Rattle.std.proofs.lemmas.Grind.{common_steps}
use Rattle.frame_codec.specs.Spelling.{ServiceHasSpelling}
use Rattle.play_script.specs.Script.{call_frame, id_value}
use Rattle.play_script.proofs.Sayable.{delete_has}
use Rattle.play_script.proofs.frames.delete.Goals as goal

pub returns-clause-spelling : goal.returns-clause-spelling
returns-clause-spelling c =
    let is : c.call.result ≡ call_frame 3 (id_value c.args.id ∷ []) = first_of (search rules, grind (arith, common_steps)) in
    subst ServiceHasSpelling (sym is) (delete_has c.args.id c.ranges.id.fits)
