use Rattle.std.proofs.Common.{◌≡◌, length, replicate, []}
use Rattle.std.specs.Arc.{arc_value}
use Rattle.site_columns.specs.Proxies.{AreFrom, pasts_of}
use Rattle.site_columns.proofs.proxies.Proxies.new.Given as goal

abbrev pub invariant-loop-i : goal.invariant-loop-i
invariant-loop-i l = record {
  count : length l.columns.items ≡ l.i;
  are : AreFrom (arc_value l.config) l.seed 0 l.columns.items;
  pasts : pasts_of l.columns.items ≡ replicate l.i [];
}
