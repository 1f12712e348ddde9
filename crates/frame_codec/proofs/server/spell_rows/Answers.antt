use Rattle.std.proofs.Common.{arith}
use Rattle.okws_base.specs.Runs.{Each}
use Rattle.frame_codec.specs.Spelling.{Spellable}
use Rattle.frame_codec.proofs.Widths.{widths_hold}
use Rattle.frame_codec.proofs.server.spell_rows.Goals as goal

pub returns-clause-fits : goal.returns-clause-fits
returns-clause-fits g c = (omega arith, c.requires.0, widths_hold (Each Spellable) c.args.columns c.args.rows.now c.requires.1 c.spell_all.ensures.fits)
