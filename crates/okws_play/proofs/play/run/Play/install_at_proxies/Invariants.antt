use Rattle.std.proofs.Common.{◌≡◌, ℕ, ◌≤◌, ◌<◌, length, map}
use Rattle.okws_base.specs.Past.{last_by}
use Rattle.okws_plan.specs.Configuration.{proxies_of}
use Rattle.okws_plan.specs.declared.script.Place.TheVariants.{Proxy}
use Rattle.monitor_model.specs.Launcher.{begun}
use Rattle.monitor_model.specs.Seen.{proxy_past}
use Rattle.monitor_model.specs.Standing.{proxy_grant}
use Rattle.monitor_model.specs.Script.{installed_all}
use Rattle.okws_play.specs.Run.{at_stage, IsAtProxies}
use Rattle.service_cell.proofs.Granted.{granted_from}
use Rattle.okws_play.proofs.play.run.Play.install_at_proxies.Given as goal

abbrev pub invariant-loop-i : goal.invariant-loop-i
invariant-loop-i l = record {
  same : l.self ≡ at_stage l.fn.self l.self.stage;
  state : installed_all l.fn.self.seed l.service (map Proxy (granted_from l.fn.self.config l.service l.i (length l.fn.self.config.proxies))) l.self.stage
      ≡ installed_all l.fn.self.seed l.service (map Proxy (proxies_of l.fn.self.config l.service)) l.fn.self.stage;
  only : IsAtProxies l.fn.self.stage l.self.stage;
  later : (q : ℕ) → l.i ≤ q → last_by proxy_grant (proxy_past l.self.stage.seen.proxies q) l.service < begun l.self.stage.seen.launcher l.service;
}
