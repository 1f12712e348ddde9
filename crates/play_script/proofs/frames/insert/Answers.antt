use Rattle.std.proofs.Common.{◌≡◌, [], ◌∷◌, codes, subst, sym, rules, arith}
use Rattle.std.proofs.lemmas.Grind.{common_steps}
use Rattle.okws_base.specs.declared.value.Value.TheVariants as value
use Rattle.frame_codec.specs.Spelling.{ServiceHasSpelling}
use Rattle.play_script.specs.Script.{call_frame, id_value}
use Rattle.play_script.proofs.Sayable.{insert_has}
use Rattle.play_script.proofs.frames.insert.Goals as goal

pub returns-clause-spelling : goal.returns-clause-spelling
returns-clause-spelling c =
    let is : c.call.result ≡ call_frame 2 (id_value c.args.id ∷ value.Text (codes "d") ∷ value.Text [] ∷ []) = first_of (search rules, grind (arith, common_steps)) in
    subst ServiceHasSpelling (sym is) (insert_has c.args.id c.ranges.id.fits)
