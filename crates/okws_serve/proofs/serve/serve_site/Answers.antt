use Rattle.std.proofs.Common.{map}
use Rattle.std.specs.Arc.{arc_value}
use Rattle.site_making.specs.Keepers.{keeper_of}
use Rattle.site_making.proofs.Backing.{backs}
use Rattle.okws_serve.proofs.serve.serve_site.Goals as goal

pub serve_numbered-requires-clause-keepers : goal.serve_numbered-requires-clause-keepers
serve_numbered-requires-clause-keepers g c = λ κs within.
    backs (arc_value c.args.site.now) (map (keeper_of g.K.Keeper.tables g.K.Keeper.told g.K.Keeper.faults g.K.Keeper.steady) c.args.outfit.keepers.items) c.requires.keepers
