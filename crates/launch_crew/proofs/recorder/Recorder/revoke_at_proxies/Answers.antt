use Rattle.std.proofs.Common.{rules, ◌<◌, ◌≤◌, length}
use Rattle.launch_crew.proofs.Listing.{revoking_all, revoking_none, revoking_on}
use Rattle.launch_crew.proofs.recorder.Recorder.revoke_at_proxies.Goals as goal

pub loop-p-init : goal.loop-p-init
loop-p-init g c = record {
  cells = search rules;
  only = search rules;
  row = search rules;
  own = revoking_none c.args.service (length g.N.Numbered.site.proxies) c.args.self.now.own;
  room = search rules;
}

pub loop-p-preserved : goal.loop-p-preserved
loop-p-preserved g c =
    let less : c.loop-p.p < length g.N.Numbered.site.proxies = search rules in
    record {
      cells = search rules;
      only = search rules;
      row = search rules;
      own = revoking_on c.args.service c.loop-p.p (length g.N.Numbered.site.proxies) c.args.self.now.own c.loop-p.self.own c.revoke_at_proxy.new.self.own less c.loop-p.invariant.own c.revoke_at_proxy.ensures.own;
      room = search rules;
    }

pub returns-clause-own : goal.returns-clause-own
returns-clause-own g c =
    let least : length g.N.Numbered.site.proxies ≤ c.loop-p.p = search rules in
    revoking_all c.args.service c.loop-p.p (length g.N.Numbered.site.proxies) c.args.self.now.own c.loop-p.self.own least c.loop-p.invariant.own
