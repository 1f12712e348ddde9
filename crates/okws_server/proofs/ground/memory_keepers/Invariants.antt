use Rattle.std.proofs.Common.{◌≡◌, true, map}
use Rattle.std.specs.Prelude.{vec_len, vec_capacity}
use Rattle.index_keeper.specs.contracts.keeper.IndexKeeperKeeper.TheImpl as row
use Rattle.site_making.specs.Keepers.{AreKeepers, are_steady, keeper_of}
use Rattle.okws_server.specs.Served.{AreFresh}
use Rattle.okws_server.proofs.ground.memory_keepers.Given as goal

abbrev pub invariant-loop-proxy : goal.invariant-loop-proxy
invariant-loop-proxy l = record {
  many : vec_len l.keepers ≡ l.proxy;
  room : vec_capacity l.keepers ≡ l.count;
  keepers : AreKeepers l.config 0 (map (keeper_of row.tables-value.it row.told-value.it row.faults-value.it row.steady-value.it) l.keepers.items);
  steady : are_steady (map (keeper_of row.tables-value.it row.told-value.it row.faults-value.it row.steady-value.it) l.keepers.items) ≡ true;
  fresh : AreFresh (map (keeper_of row.tables-value.it row.told-value.it row.faults-value.it row.steady-value.it) l.keepers.items);
}
