use Rattle.okws_server.proofs.Ended.{plays_ends, plays_off}
use Rattle.okws_server.proofs.script_run.play_to_end.Goals as goal

pub returns-in-Ok : goal.returns-in-Ok
returns-in-Ok g c =
    plays_ends c.args.config c.args.text.now c.in-Ok.outcome.broken c.in-Ok.outcome.record c.record_with.result _ _ _ _ _ c.in-Ok.ensures c.ending_of-status.ensures c.record_with.ensures.given c.record_with.ensures.empty

pub returns-in-Err : goal.returns-in-Err
returns-in-Err g c = plays_off c.args.config c.args.text.now _ _ _ _ _ c.in-Err.ensures c.print.ensures c.empty_record.ensures
