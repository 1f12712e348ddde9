use Rattle.std.proofs.Common.{◌≡◌, ◌∙◌, ◌<◌, ◌≤◌, ℕ, arith, length, rules, subst, sym}
use Rattle.std.proofs.lemmas.Result.{err_from_is_err_and}
use Rattle.std.specs.Prelude.{Result, map}
use Rattle.std.specs.declared.alloc.AllocError.{AllocError}
use Rattle.okws_plan.specs.Configuration.{proxies_of}
use Rattle.okws_plan.specs.declared.script.Place.TheVariants.{Proxy}
use Rattle.launch_crew.specs.Acts.{InstallsAlong}
use Rattle.launch_crew.specs.Steps.{InstallsRow}
use Rattle.launch_crew.proofs.Listing.{first_kept, installing_all, installing_none, installing_on, places_from}
use Rattle.launch_crew.proofs.recorder.Recorder.install_at_proxies.Goals as goal

pub loop-p-init : goal.loop-p-init
loop-p-init g c = record {
  cells = search rules;
  only = search rules;
  row = search rules;
  own = installing_none g.N.Numbered.site g.N.Numbered.run_seed c.args.service c.args.incarnation c.args.self.now.own;
  room = search rules;
}

pub install_if_granted-requires-clause-vacant : goal.install_if_granted-requires-clause-vacant
install_if_granted-requires-clause-vacant g c =
    let less : c.loop-p.p < length g.N.Numbered.site.proxies = search rules in
    (c.loop-p.invariant.row.rest c.loop-p.p (omega arith)).standing c.args.service ∙ c.requires.vacant c.loop-p.p less

pub loop-p-preserved : goal.loop-p-preserved
loop-p-preserved g c =
    let less : c.loop-p.p < length g.N.Numbered.site.proxies = search rules in
    record {
      cells = search rules;
      only = search rules;
      row = search rules;
      own = installing_on g.N.Numbered.site g.N.Numbered.run_seed c.args.service c.args.incarnation c.loop-p.p c.args.self.now.own c.loop-p.self.own c.install_if_granted.new.self.own less c.loop-p.invariant.own c.in_ok-install_if_granted.ensures.added;
      room = search rules;
    }

pub returns : goal.returns
returns g c =
    let C = g.N.Numbered.site in
    let s = c.args.service in
    let k = c.args.incarnation in
    let a = c.args.self.now in
    let b = c.loop-p.self in
    let inv = c.loop-p.invariant in
    let whole : c.loop-p.p ≡ length C.proxies = omega arith in
    let least : length C.proxies ≤ c.loop-p.p = omega arith in
    record {
      cells = inv.cells;
      only = inv.only;
      ok = subst (λ (m : ℕ). InstallsRow C s k m a.sat.proxies b.sat.proxies) whole inv.row;
      err = tt;
      added = installing_all C g.N.Numbered.run_seed s k c.loop-p.p a.own b.own least inv.own;
      front = tt;
      room = search rules;
    }

pub returns-in_err-install_if_granted : goal.returns-in_err-install_if_granted
returns-in_err-install_if_granted g c =
    let C = g.N.Numbered.site in
    let seed = g.N.Numbered.run_seed in
    let s = c.args.service in
    let k = c.args.incarnation in
    let a = c.args.self.now in
    let b = c.install_if_granted.new.self in
    let inv = c.loop-p.invariant in
    let h = c.in_err-install_if_granted.ensures in
    let rest = places_from C s c.loop-p.p inv.own.left in
    let failed = err_from_is_err_and c.from_residual.result c.from_residual.ensures.1 in
    subst (λ (r : Result (Unit {0}) AllocError). InstallsAlong C seed s k r a b) (sym failed.1) (record {
      cells = h.cells ∙ inv.cells;
      only = search rules;
      ok = tt;
      err = (c.loop-p.p, search rules);
      added = tt;
      front = (rest, first_kept seed s k (map Proxy (proxies_of C s)) rest a.own c.loop-p.self.own b.own h.kept inv.own.first);
      room = search rules;
    })
