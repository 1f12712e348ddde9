use Rattle.std.proofs.Common.{sym}
use Rattle.plain_text.specs.Parts.{is_byte}
use Rattle.plain_text.proofs.Parted.{one_part, first_part}
use Rattle.plain_text.proofs.parts.split_at_byte.Goals as goal

pub returns-in-None-clause-parts : goal.returns-in-None-clause-parts
returns-in-None-clause-parts c = one_part (is_byte c.args.byte) c.args.text.now (sym c.in-None.ensures)

pub returns-in-Some-clause-parts : goal.returns-in-Some-clause-parts
returns-in-Some-clause-parts c = first_part (is_byte c.args.byte) c.args.text.now c.in-Some.end (sym c.in-Some.ensures)
