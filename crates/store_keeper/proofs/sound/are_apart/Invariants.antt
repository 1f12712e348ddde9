use Rattle.std.proofs.Common.{◌≡◌, Some, take, true}
use Rattle.okws_plan.specs.Sound.{are_distinct, same_key_at}
use Rattle.store_keeper.proofs.Keys.{HoldsValues}
use Rattle.store_keeper.proofs.sound.are_apart.Given as goal

abbrev pub invariant-loop-place : goal.invariant-loop-place
invariant-loop-place l = record {
  seen : HoldsValues l.seen l.column (take l.place l.rows);
  apart : are_distinct (same_key_at (Some l.column)) (take l.place l.rows) ≡ true;
}
