use Rattle.plain_text.proofs.Parted.{ended_line}
use Rattle.plain_text.proofs.lines.first_line.Goals as goal

pub returns-in-Some-clause-lines : goal.returns-in-Some-clause-lines
returns-in-Some-clause-lines c = ended_line c.args.text.now _ _ c.in-Some.rest.now c.in-Some.ensures.parts c.without_carriage_return.ensures
