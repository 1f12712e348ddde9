use Rattle.std.proofs.Common.{◌≡◌, map, take}
use Rattle.std.specs.Prelude.{vec_capacity, vec_len}
use Rattle.store_keeper.specs.contracts.stored.StoredKeeperKeeper.TheImpl as stored
use Rattle.store_keeper.specs.Depots.{with_starts}
use Rattle.store_keeper.specs.Sites.{AllTell, AreZero, HaveFirstRows}
use Rattle.store_keeper.proofs.Plans.{IsOpened}
use Rattle.store_keeper.proofs.opening.open_site.Given as goal

abbrev pub invariant-loop-proxy : goal.invariant-loop-proxy
invariant-loop-proxy g l = record {
  opened : IsOpened (stored.tables-value g.row.S-Keeper g.row.S-Keeper-Pin g.S.Keeper.Keeper g.S.Keeper.Keeper-dict g.S.Keeper.Pin.Pinned g.S.Keeper.Pin.Pinned-dict g.S.Keeper.Pin.Destruct-dict).it (stored.told-value g.row.S-Keeper g.row.S-Keeper-Pin g.S.Keeper.Keeper g.S.Keeper.Keeper-dict g.S.Keeper.Pin.Pinned g.S.Keeper.Pin.Pinned-dict g.S.Keeper.Pin.Destruct-dict).it (AllTell g.S.Keeper.Keeper.told) l.fn.config.proxies l.plans.items l.proxy l.keepers.items;
  first : HaveFirstRows (take l.proxy l.fn.config.proxies) (map (λ k. g.S.Keeper.Keeper.told k.store) l.keepers.items);
  fresh : AreZero (map (stored.faults-value g.row.S-Keeper g.row.S-Keeper-Pin g.S.Keeper.Keeper g.S.Keeper.Keeper-dict g.S.Keeper.Pin.Pinned g.S.Keeper.Pin.Pinned-dict g.S.Keeper.Pin.Destruct-dict).it l.keepers.items);
  many : vec_len l.keepers ≡ l.proxy;
  room : vec_capacity l.keepers ≡ l.count;
  plans : vec_len l.plans ≡ l.count;
  depot : g.S.Stores.depot l.stores ≡ with_starts l.fn.file (take l.proxy l.fn.config.proxies) (g.S.Stores.depot l.fn.stores);
}
