use Rattle.std.proofs.Common.{◌≡◌, ◌+◌, map, reverse, length}
use Rattle.std.specs.Prelude.{vec_len, vec_capacity}
use Rattle.named_columns.specs.Held.{HeldProxy}
use Rattle.site_locks.specs.Sat.{RiseFrom}
use Rattle.turn_lock.specs.Rows.{AllNone}
use Rattle.site_making.specs.Keepers.{AreBacked, keeper_of}
use Rattle.site_making.proofs.columns.proxies.Given as goal

abbrev pub invariant-loop-keeper : goal.invariant-loop-keeper
invariant-loop-keeper g l = record {
  fresh : AllNone (map (λ (x : HeldProxy). x.past) l.columns.items);
  numbered : RiseFrom 0 (map (λ (x : HeldProxy). x.number) l.columns.items);
  number_is : l.number ≡ vec_len l.columns;
  many : vec_len l.keepers + vec_len l.columns ≡ vec_len l.fn.keepers;
  room : vec_capacity l.columns ≡ vec_len l.fn.keepers;
  backed : AreBacked g.N.Numbered.site g.N.Backed.steady g.N.Backed.keeper_faults l.number (reverse (map (keeper_of g.K.Keeper.tables g.K.Keeper.told g.K.Keeper.faults g.K.Keeper.steady) l.keepers.items));
}

abbrev pub decreases-loop-keeper : goal.decreases-loop-keeper
decreases-loop-keeper g l = length l.keepers.items
