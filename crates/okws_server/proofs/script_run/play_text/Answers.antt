use Rattle.std.proofs.Common.{[], refl, arith, inl}
use Rattle.std.proofs.lemmas.Grind.{common_steps}
use Rattle.okws_outer.proofs.Printed.{nothing_on}
use Rattle.okws_server.proofs.script_run.play_text.Goals as goal

pub returns-then-text-gt-LONGEST_SCRIPT : goal.returns-then-text-gt-LONGEST_SCRIPT
returns-then-text-gt-LONGEST_SCRIPT g c =
    ([], inl (record { long = grind (arith, common_steps, c.if-text-gt-LONGEST_SCRIPT.true); empty = c.empty_record.ensures; nothing = refl; line_is = refl; rule_is = refl }), nothing_on _)
