use Rattle.std.proofs.Common.{◌≤◌, arith, length, subst, sym}
use Rattle.std.specs.Arc.{arc_value}
use Rattle.okws_base.specs.declared.limit.TheConstants.{MOST_PROXIES}
use Rattle.okws_plan.specs.Sound.{IsSound}
use Rattle.site_making.specs.Keepers.{keeper_of}
use Rattle.store_keeper.specs.contracts.stored.StoredKeeperKeeper.TheImpl as stored
use Rattle.store_keeper.specs.Depots.{beside_of}
use Rattle.store_keeper.proofs.Given.{asked_all, gives_kept, on_err}
use Rattle.okws_server.proofs.Grounds.{few_stored, servable_by, stock_at, stock_stored}
use Rattle.okws_server.proofs.ground.stored_stock.Goals as goal

pub returns-in-Ok-clause-stock : goal.returns-in-Ok-clause-stock
returns-in-Ok-clause-stock g c =
    stock_at c.in_ok-stored.stored.config (arc_value c.in-Ok.site) _ c.in-Ok.ensures.ok
    (stock_stored (keeper_of (stored.tables-value g.row.S-Keeper g.row.S-Keeper-Pin g.S.Keeper.Keeper g.S.Keeper.Keeper-dict g.S.Keeper.Pin.Pinned g.S.Keeper.Pin.Pinned-dict g.S.Keeper.Pin.Destruct-dict).it (stored.told-value g.row.S-Keeper g.row.S-Keeper-Pin g.S.Keeper.Keeper g.S.Keeper.Keeper-dict g.S.Keeper.Pin.Pinned g.S.Keeper.Pin.Pinned-dict g.S.Keeper.Pin.Destruct-dict).it (stored.faults-value g.row.S-Keeper g.row.S-Keeper-Pin g.S.Keeper.Keeper g.S.Keeper.Keeper-dict g.S.Keeper.Pin.Pinned g.S.Keeper.Pin.Pinned-dict g.S.Keeper.Pin.Destruct-dict).it (stored.steady-value g.row.S-Keeper g.row.S-Keeper-Pin g.S.Keeper.Keeper g.S.Keeper.Keeper-dict g.S.Keeper.Pin.Pinned g.S.Keeper.Pin.Pinned-dict g.S.Keeper.Pin.Destruct-dict).it) c.args.config c.in_ok-stored.stored.config c.in_ok-stored.stored.keepers.items c.in_ok-stored.ensures.alike
    (servable_by c.args.config c.requires.sound c.requires.rules c.read_names.ensures) c.in_ok-stored.ensures.keepers c.in_ok-stored.ensures.fresh)

pub returns-in-Ok-clause-sound : goal.returns-in-Ok-clause-sound
returns-in-Ok-clause-sound g c = subst IsSound (sym c.in-Ok.ensures.ok) c.in_ok-stored.ensures.sound

pub give_back-requires-after_bounds : goal.give_back-requires-after_bounds
give_back-requires-after_bounds g c κs within =
    let few : length c.in_ok-stored.stored.keepers.items ≤ MOST_PROXIES =
    few_stored (stored.tables-value g.row.S-Keeper g.row.S-Keeper-Pin g.S.Keeper.Keeper g.S.Keeper.Keeper-dict g.S.Keeper.Pin.Pinned g.S.Keeper.Pin.Pinned-dict g.S.Keeper.Pin.Destruct-dict).it _ c.args.config c.in_ok-stored.stored.config c.in_ok-stored.stored.keepers.items MOST_PROXIES c.in_ok-stored.ensures.alike c.requires.sound.few_proxies c.in_ok-stored.ensures.keepers in
    omega (arith, few, c.in_ok-stored.stored.keepers.ok.0)

pub returns-in_err-stored-clause-asked : goal.returns-in_err-stored-clause-asked
returns-in_err-stored-clause-asked g c = on_err c.from_residual.result _ c.in_err-stored.ensures.asked

pub returns-clause-asked : goal.returns-clause-asked
returns-clause-asked g c =
    asked_all c.args.file.now c.args.config.proxies (g.S.Stores.depot c.args.stores.now) (g.S.Stores.depot c.open_site.new.stores) (g.S.Stores.depot c.give_back.new.stores) c.in_ok-stored.ensures.made
    (gives_kept (beside_of (stored.faults-value g.row.S-Keeper g.row.S-Keeper-Pin g.S.Keeper.Keeper g.S.Keeper.Keeper-dict g.S.Keeper.Pin.Pinned g.S.Keeper.Pin.Pinned-dict g.S.Keeper.Pin.Destruct-dict).it (stored.told-value g.row.S-Keeper g.row.S-Keeper-Pin g.S.Keeper.Keeper g.S.Keeper.Keeper-dict g.S.Keeper.Pin.Pinned g.S.Keeper.Pin.Pinned-dict g.S.Keeper.Pin.Destruct-dict).it (λ k. k.parted) (λ k. g.S.Keeper.Keeper.told k.store)) c.args.config.proxies c.in_ok-stored.stored.keepers.items
    (g.S.Stores.depot c.open_site.new.stores) (g.S.Stores.depot c.give_back.new.stores) c.in_ok-stored.ensures.held c.give_back.ensures)
