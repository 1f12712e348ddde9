use Rattle.okws_server.specs.Ending.{RoseWhere}
use Rattle.okws_server.proofs.Ended.{played_by}
use Rattle.okws_server.proofs.top.play.Goals as goal

pub returns-in-Ok : goal.returns-in-Ok
returns-in-Ok g c =
    played_by _ _ _ _ c.in-Ok.prepared.config c.in-Ok.prepared.script.items _ _ (RoseWhere (g.O.Sink.faults c.args.out.now) (g.O.Sink.faults c.play_prepared.new.out)) _ _ c.in-Ok.ensures.prepared c.play_prepared.ensures
