use Rattle.std.proofs.Common.{◌≤◌, length}
use Rattle.std.specs.Prelude.{vec_len}
use Rattle.store_keeper.specs.contracts.stored.StoredKeeperKeeper.TheImpl as stored
use Rattle.store_keeper.specs.Depots.{beside_of}
use Rattle.store_keeper.proofs.Given.{GivenBehind}
use Rattle.store_keeper.proofs.giving.give_back.Given as goal

abbrev pub invariant-loop-keeper : goal.invariant-loop-keeper
invariant-loop-keeper g l = record {
  below : vec_len l.keepers ≤ vec_len l.fn.keepers;
  given : GivenBehind (beside_of (stored.faults-value g.row.S-Keeper g.row.S-Keeper-Pin g.S.Keeper.Keeper g.S.Keeper.Keeper-dict g.S.Keeper.Pin.Pinned g.S.Keeper.Pin.Pinned-dict g.S.Keeper.Pin.Destruct-dict).it (stored.told-value g.row.S-Keeper g.row.S-Keeper-Pin g.S.Keeper.Keeper g.S.Keeper.Keeper-dict g.S.Keeper.Pin.Pinned g.S.Keeper.Pin.Pinned-dict g.S.Keeper.Pin.Destruct-dict).it (λ k. k.parted) (λ k. g.S.Keeper.Keeper.told k.store)) l.fn.keepers.items l.keepers.items (g.S.Stores.depot l.fn.stores) (g.S.Stores.depot l.stores);
}

abbrev pub decreases-loop-keeper : goal.decreases-loop-keeper
decreases-loop-keeper g l = length l.keepers.items
