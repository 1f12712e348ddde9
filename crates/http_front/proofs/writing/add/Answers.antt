use Rattle.http_front.proofs.Gathering.{cut_more}
use Rattle.http_front.proofs.writing.add.Goals as goal

pub returns-in-Ok : goal.returns-in-Ok
returns-in-Ok g c = λ start before text w. c.add_first.ensures start before text (c.in-Ok.ensures.written start before text w)

pub returns-in-Err : goal.returns-in-Err
returns-in-Err g c = λ start before text w. cut_more start _ before _ text c.args.part.now c.in-Err.cut _ (c.in-Err.ensures.written start before text w)
