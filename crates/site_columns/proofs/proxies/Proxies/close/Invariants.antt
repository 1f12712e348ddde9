use Rattle.std.proofs.Common.{◌≡◌}
use Rattle.site_columns.specs.Proxies.{pasts_of}
use Rattle.site_columns.proofs.proxies.Proxies.close.Given as goal

abbrev pub invariant-loop-column : goal.invariant-loop-column
invariant-loop-column l = l.pasts.items ≡ pasts_of l.yielded
