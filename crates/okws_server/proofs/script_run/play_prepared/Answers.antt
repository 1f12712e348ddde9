use Rattle.okws_server.specs.Ending.{RoseWhere}
use Rattle.okws_server.proofs.Ended.{plays_as}
use Rattle.okws_server.proofs.script_run.play_prepared.Goals as goal

pub returns : goal.returns
returns g c = plays_as _ _ _ _ _ (RoseWhere (g.O.Sink.faults c.args.out.now) (g.O.Sink.faults c.play_to_end.new.out)) _ _ c.deref.ensures.value c.play_to_end.ensures
