use Rattle.std.proofs.Common.{◌≡◌, ◌++◌, ◌≤◌, length, map}
use Rattle.okws_plan.specs.Configuration.{proxies_of}
use Rattle.service_cell.specs.Issuing.{issued}
use Rattle.service_cell.proofs.Granted.{granted_from}
use Rattle.service_cell.proofs.tokens.tokens_of.Given as goal

abbrev pub invariant-loop-i : goal.invariant-loop-i
invariant-loop-i l = record {
  all : l.tokens.items ++ map (issued l.seed l.service l.incarnation) (granted_from l.config l.service l.i (length l.config.proxies)) ≡ map (issued l.seed l.service l.incarnation) (proxies_of l.config l.service);
  few : length l.tokens.items ≤ l.i;
}
