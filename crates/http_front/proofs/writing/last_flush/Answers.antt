use Rattle.http_front.proofs.Gathering.{all_sent, not_all_sent}
use Rattle.http_front.proofs.writing.last_flush.Goals as goal

pub returns-in-Ok : goal.returns-in-Ok
returns-in-Ok g c = λ start before text w. all_sent start _ before _ text (c.in-Ok.ensures.written start before text w) c.in-Ok.ensures.empty

pub returns-in-Err : goal.returns-in-Err
returns-in-Err g c = λ start before text w. not_all_sent start _ before _ text _ (c.in-Err.ensures.written start before text w)
