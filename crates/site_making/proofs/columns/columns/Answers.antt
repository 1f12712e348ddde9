use Rattle.std.proofs.Common.{sym, subst}
use Rattle.site_making.specs.Keepers.{AreBacked, keeper_of}
use Rattle.site_making.proofs.Turned.{turned_back}
use Rattle.site_making.proofs.columns.columns.Goals as goal

pub proxies-proxies-requires-clause-keepers : goal.proxies-proxies-requires-clause-keepers
proxies-proxies-requires-clause-keepers g c =
    let f = keeper_of g.K.Keeper.tables g.K.Keeper.told g.K.Keeper.faults g.K.Keeper.steady in
    subst (AreBacked g.N.Numbered.site g.N.Backed.steady g.N.Backed.keeper_faults 0) (sym (turned_back f c.args.keepers.items c.turned.result.items c.turned.ensures.items)) c.requires.keepers
