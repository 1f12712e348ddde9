use Rattle.std.proofs.Common.{◌≡◌, ◌≤◌, ◌+◌}
use Rattle.launch_crew.specs.Steps.{OnlyProxies, InstallsRow}
use Rattle.launch_crew.proofs.Listing.{Installing}
use Rattle.launch_crew.proofs.recorder.Recorder.install_at_proxies.Given as goal

abbrev pub invariant-loop-p : goal.invariant-loop-p
invariant-loop-p g l = record {
  cells : l.self.watch ≡ l.fn.self.watch;
  only : OnlyProxies l.fn.self.sat l.self.sat;
  row : InstallsRow g.N.Numbered.site l.service l.incarnation l.p l.fn.self.sat.proxies l.self.sat.proxies;
  own : Installing g.N.Numbered.site g.N.Numbered.run_seed l.service l.incarnation l.p l.fn.self.own l.self.own;
  room : l.fn.self.room ≤ l.self.room + l.p;
}
