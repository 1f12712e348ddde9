use Rattle.std.proofs.Common.{sym}
use Rattle.plain_text.specs.Parts.{is_byte}
use Rattle.plain_text.proofs.Parted.{one_part, first_part}
use Rattle.svc_kit.proofs.fill.to_next.Goals as goal

pub returns-in-None-clause-split : goal.returns-in-None-clause-split
returns-in-None-clause-split c = one_part (is_byte 64) c.args.text.now (sym c.in-None.ensures)

pub returns-in-Some-clause-split : goal.returns-in-Some-clause-split
returns-in-Some-clause-split c = first_part (is_byte 64) c.args.text.now c.in-Some.end (sym c.in-Some.ensures)
