use Rattle.http_front.proofs.Gathering.{cut_more}
use Rattle.http_front.proofs.writing.then.Goals as goal

pub returns-in-Ok : goal.returns-in-Ok
returns-in-Ok g c = λ start before text w. c.add.ensures start before text (rw c.in-Ok.is at w)

pub returns-in-Err : goal.returns-in-Err
returns-in-Err g c = λ start before text w. cut_more start _ before _ text c.args.part.now _ _ (rw c.in-Err.is at w)
