use Rattle.storm_tests.proofs.Grounds.{keeper_over}
use Rattle.storm_tests.proofs.site.keeper.Goals as goal

pub returns : goal.returns
returns c = keeper_over _ c.args.config.now 0 _ _ _ c.tables_at.ensures c.in_ok-rows.ensures.tables c.in_ok-rows.ensures.told c.new-2.ensures.tables c.new-2.ensures.told
