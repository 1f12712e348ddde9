use Rattle.monitor_model.proofs.Visits as visits
use Rattle.monitor_model.proofs.ties.lives_are_visits.Goals as goal

pub returns : goal.returns
returns c = visits.lives_are_visits
