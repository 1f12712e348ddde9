use Rattle.http_front.proofs.Gathering.{not_all_sent}
use Rattle.http_front.proofs.writing.then_flush.Goals as goal

pub returns-in-Ok : goal.returns-in-Ok
returns-in-Ok g c = λ start before text w. c.last_flush.ensures start before text (rw c.in-Ok.is at w)

pub returns-in-Err : goal.returns-in-Err
returns-in-Err g c = λ start before text w. not_all_sent start _ before _ text _ (rw c.in-Err.is at w)
