use Rattle.std.proofs.Common.{◌≡◌, ◌-◌, length, map}
use Rattle.okws_plan.specs.Configuration.{numbered_from}
use Rattle.okws_plan.specs.declared.script.Place.TheVariants.{Proxy}
use Rattle.monitor_model.specs.Script.{revoked_all}
use Rattle.okws_play.specs.Run.{at_stage, MayLaunch, KeepsCells}
use Rattle.okws_play.proofs.play.run.Play.revoke_at_proxies.Given as goal

abbrev pub invariant-loop-i : goal.invariant-loop-i
invariant-loop-i l = record {
  same : l.self ≡ at_stage l.fn.self l.self.stage;
  state : revoked_all l.service (map Proxy (numbered_from l.i (length l.fn.self.config.proxies - l.i))) l.self.stage
      ≡ revoked_all l.service (map Proxy (numbered_from 0 (length l.fn.self.config.proxies))) l.fn.self.stage;
  cells : KeepsCells l.fn.self.stage l.self.stage;
  may : MayLaunch l.service l.self.stage;
}
