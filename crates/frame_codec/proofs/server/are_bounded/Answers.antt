use Rattle.std.proofs.Common.{sym, ◌∙◌, arith}
use Rattle.okws_base.specs.Runs.{Each}
use Rattle.frame_codec.specs.Spelling.{Spellable}
use Rattle.frame_codec.proofs.Widths.{widths_were}
use Rattle.frame_codec.proofs.server.are_bounded.Goals as goal

pub returns-then-rows-clause-yes : goal.returns-then-rows-clause-yes
returns-then-rows-clause-yes c = λ wide. (omega arith, sym c.are_wide.ensures ∙ wide)

pub returns-then-rows-clause-no : goal.returns-then-rows-clause-no
returns-then-rows-clause-no c = λ fits. c.are_wide.ensures ∙ widths_were (Each Spellable) c.args.columns c.args.rows.now fits.2
