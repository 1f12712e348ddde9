use Rattle.monitor_model.proofs.Complete as complete
use Rattle.monitor_model.proofs.laws.lawful_calls_are_answered.Goals as goal

pub returns : goal.returns
returns c = record { answered = complete.lawful_calls_are_answered; told = complete.fitting_rows_are_told; failed = complete.failed_is_marked }
