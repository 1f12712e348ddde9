use Rattle.std.proofs.Common.{◌≤◌}
use Rattle.worker_lives.proofs.Talked as talked
use Rattle.worker_lives.proofs.talks.dialogs_are_outcomes.Goals as goal

pub returns : goal.returns
returns c who most = talked.dialogs_are_outcomes who (λ shown. shown ≤ most)
