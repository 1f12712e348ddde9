use Rattle.std.proofs.Common.{◌≡◌, ◌<◌, ℕ}
use Rattle.okws_base.specs.Turns.{Behind}
use Rattle.monitor_model.specs.Seen.{proxy_past}
use Rattle.site_locks.specs.Heard.{SeesProxies}
use Rattle.site_locks.proofs.locks.Seats.hear_proxies.Given as goal

abbrev pub invariant-loop-proxy : goal.invariant-loop-proxy
invariant-loop-proxy g l = record {
  notes : l.notes ≡ l.fn.notes;
  heard : (p : ℕ) → p < l.proxy → Behind (proxy_past l.fn.notes p) (proxy_past l.self.proxies p);
  sees : SeesProxies l.fn.self l.self;
}
