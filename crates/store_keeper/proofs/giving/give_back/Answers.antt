use Rattle.std.proofs.Common.{rules, ap, arith, ◌≡◌, ◌+◌}
use Rattle.std.specs.Prelude.{vec_len}
use Rattle.store_keeper.specs.contracts.stored.StoredKeeperKeeper.TheImpl as stored
use Rattle.store_keeper.specs.Depots.{beside_of}
use Rattle.store_keeper.proofs.Given.{all_given, more_given, none_given}
use Rattle.store_keeper.proofs.giving.give_back.Goals as goal

pub loop-keeper-init : goal.loop-keeper-init
loop-keeper-init g c = record { below = omega arith; given = none_given (beside_of (stored.faults-value g.row.S-Keeper g.row.S-Keeper-Pin g.S.Keeper.Keeper g.S.Keeper.Keeper-dict g.S.Keeper.Pin.Pinned g.S.Keeper.Pin.Pinned-dict g.S.Keeper.Pin.Destruct-dict).it (stored.told-value g.row.S-Keeper g.row.S-Keeper-Pin g.S.Keeper.Keeper g.S.Keeper.Keeper-dict g.S.Keeper.Pin.Pinned g.S.Keeper.Pin.Pinned-dict g.S.Keeper.Pin.Destruct-dict).it (λ k. k.parted) (λ k. g.S.Keeper.Keeper.told k.store)) c.args.keepers.items (g.S.Stores.depot c.args.stores.now) }

pub loop-keeper-preserved : goal.loop-keeper-preserved
loop-keeper-preserved g c =
    let next : vec_len c.loop-keeper.keepers ≡ vec_len c.pop.new.self + 1 = search (arith, rules) in
    record {
      below = omega (arith, next, c.loop-keeper.invariant.below);
      given = more_given (beside_of (stored.faults-value g.row.S-Keeper g.row.S-Keeper-Pin g.S.Keeper.Keeper g.S.Keeper.Keeper-dict g.S.Keeper.Pin.Pinned g.S.Keeper.Pin.Pinned-dict g.S.Keeper.Pin.Destruct-dict).it (stored.told-value g.row.S-Keeper g.row.S-Keeper-Pin g.S.Keeper.Keeper g.S.Keeper.Keeper-dict g.S.Keeper.Pin.Pinned g.S.Keeper.Pin.Pinned-dict g.S.Keeper.Pin.Destruct-dict).it (λ k. k.parted) (λ k. g.S.Keeper.Keeper.told k.store)) c.args.keepers.items c.loop-keeper.keepers.items c.pop.new.self.items c.in-Some.keeper c.len.result (g.S.Keeper.Keeper.told c.into_store.result) (g.S.Keeper.Keeper.faults c.into_store.result)
          (g.S.Stores.depot c.args.stores.now) (g.S.Stores.depot c.loop-keeper.stores) (g.S.Stores.depot c.finish.new.self) (search (arith, rules)) (search (arith, rules)) c.into_store.ensures.counted (ap g.S.Keeper.Keeper.told c.into_store.ensures.store) c.into_store.ensures.same c.finish.ensures
          c.loop-keeper.invariant.given;
    }

pub returns : goal.returns
returns g c = all_given (beside_of (stored.faults-value g.row.S-Keeper g.row.S-Keeper-Pin g.S.Keeper.Keeper g.S.Keeper.Keeper-dict g.S.Keeper.Pin.Pinned g.S.Keeper.Pin.Pinned-dict g.S.Keeper.Pin.Destruct-dict).it (stored.told-value g.row.S-Keeper g.row.S-Keeper-Pin g.S.Keeper.Keeper g.S.Keeper.Keeper-dict g.S.Keeper.Pin.Pinned g.S.Keeper.Pin.Pinned-dict g.S.Keeper.Pin.Destruct-dict).it (λ k. k.parted) (λ k. g.S.Keeper.Keeper.told k.store)) c.args.keepers.items c.loop-keeper.keepers.items (g.S.Stores.depot c.args.stores.now) (g.S.Stores.depot c.loop-keeper.stores) (search (arith, rules)) c.loop-keeper.invariant.given
