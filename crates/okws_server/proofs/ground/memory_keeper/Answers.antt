use Rattle.okws_server.proofs.Grounds.{keeper_is}
use Rattle.okws_server.proofs.ground.memory_keeper.Goals as goal

pub returns-clause-is : goal.returns-clause-is
returns-clause-is c = keeper_is _ c.args.config.now c.args.proxy _ _ c.tables_at.ensures c.new.ensures.tables c.new.ensures.told
