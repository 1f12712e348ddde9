use Rattle.storm_tests.proofs.Grounds.{keepers_are, servable_by}
use Rattle.storm_tests.proofs.site.ground_of.Goals as goal

pub returns-clause-servable : goal.returns-clause-servable
returns-clause-servable c = servable_by c.args.config _ c.in_ok-site.ensures.ok c.requires.sound c.requires.rules c.read_names.ensures

pub returns-clause-keepers : goal.returns-clause-keepers
returns-clause-keepers c =
    keepers_are _ c.args.config _ _ _ c.in_ok-keeper.keeper c.in_ok-push.ensures.items c.new-keepers.ensures.items c.in_ok-site.ensures.ok c.in_ok-keeper.ensures
