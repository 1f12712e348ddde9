use Rattle.std.proofs.Common.{◌≡◌, ◌≤◌, ◌+◌, length}
use Rattle.launch_crew.specs.Steps.{OnlyProxies, RevokesRow}
use Rattle.launch_crew.proofs.Listing.{Revoking}
use Rattle.launch_crew.proofs.recorder.Recorder.revoke_at_proxies.Given as goal

abbrev pub invariant-loop-p : goal.invariant-loop-p
invariant-loop-p g l = record {
  cells : l.self.watch ≡ l.fn.self.watch;
  only : OnlyProxies l.fn.self.sat l.self.sat;
  row : RevokesRow l.service l.p l.fn.self.sat.proxies l.self.sat.proxies;
  own : Revoking l.service l.p (length g.N.Numbered.site.proxies) l.fn.self.own l.self.own;
  room : l.fn.self.room ≤ l.self.room + l.p;
}
