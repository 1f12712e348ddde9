use Rattle.std.proofs.Common.{◌<◌, [], ◌∷◌, ◌++◌, sym, subst, length}
use Rattle.okws_base.specs.Past.{last_by}
use Rattle.okws_plan.specs.declared.script.Place.TheVariants.{Proxy, Pubd, Oklogd}
use Rattle.monitor_model.specs.Standing.{pubd_grant, log_grant}
use Rattle.launch_crew.proofs.Places.{installs_of, rest_none}
use Rattle.std.specs.Prelude.{Result, Ok, Err, OnErr, map}
use Rattle.std.proofs.lemmas.Result.{on_ok_weaker, on_err_weaker}
use Rattle.okws_plan.specs.Configuration.{proxies_of}
use Rattle.launch_crew.proofs.Listing.{all_behind, first_before, first_behind}
use Rattle.launch_crew.proofs.recorder.Recorder.install.Goals as goal

-- what holds anyway holds on an error
on_any : {A X P : Type 0} (r : Result A X) → P → OnErr r P
on_any (Ok x) h = tt
on_any (Err e) h = h

pub install_at_proxies-requires-clause-later : goal.install_at_proxies-requires-clause-later
install_at_proxies-requires-clause-later g c = λ p. c.requires.later (Proxy p)

pub install_at_proxies-requires-clause-vacant : goal.install_at_proxies-requires-clause-vacant
install_at_proxies-requires-clause-vacant g c = λ p fits. c.requires.vacant (Proxy p) fits

pub returns-in_err-install_at_proxies-clause-installs : goal.returns-in_err-install_at_proxies-clause-installs
returns-in_err-install_at_proxies-clause-installs g c =
    let a = c.args.self.now.sat in
    let b = c.install_at_proxies.new.self.sat in
    let e = c.in_err-install_at_proxies.ensures.err in
    installs_of g.N.Numbered.site c.args.service c.args.incarnation e.0 a b b c.install_at_proxies.ensures.only e.1 (rest_none c.args.service c.args.incarnation b)

pub install_at_rest-requires-clause-pubd : goal.install_at_rest-requires-clause-pubd
install_at_rest-requires-clause-pubd g c = subst (λ J. last_by pubd_grant J c.args.service < c.args.incarnation) (sym c.install_at_proxies.ensures.only.pubd_is) (c.requires.later Pubd)

pub install_at_rest-requires-clause-oklogd : goal.install_at_rest-requires-clause-oklogd
install_at_rest-requires-clause-oklogd g c = subst (λ J. last_by log_grant J c.args.service < c.args.incarnation) (sym c.install_at_proxies.ensures.only.oklogd_is) (c.requires.later Oklogd)

pub returns-clause-installs : goal.returns-clause-installs
returns-clause-installs g c =
    let a = c.args.self.now.sat in
    let b = c.install_at_proxies.new.self.sat in
    installs_of g.N.Numbered.site c.args.service c.args.incarnation (length g.N.Numbered.site.proxies) a b c.install_at_rest.new.self.sat
    c.install_at_proxies.ensures.only c.in_ok-install_at_proxies.ensures.ok c.install_at_rest.ensures.rest

pub returns-in_err-install_at_proxies-clause-front : goal.returns-in_err-install_at_proxies-clause-front
returns-in_err-install_at_proxies-clause-front g c =
    let e = c.in_err-install_at_proxies.ensures.front in
    on_any c.from_residual.result
    (e.0 ++ Pubd ∷ Oklogd ∷ [], first_before g.N.Numbered.run_seed c.args.service c.args.incarnation (map Proxy (proxies_of g.N.Numbered.site c.args.service)) e.0 (Pubd ∷ Oklogd ∷ []) c.args.self.now.own c.install_at_proxies.new.self.own e.1)

pub returns-clause-added : goal.returns-clause-added
returns-clause-added g c = on_ok_weaker c.install_at_rest.result
    (all_behind g.N.Numbered.run_seed c.args.service c.args.incarnation (map Proxy (proxies_of g.N.Numbered.site c.args.service)) (Pubd ∷ Oklogd ∷ []) c.args.self.now.own c.install_at_proxies.new.self.own c.install_at_rest.new.self.own c.in_ok-install_at_proxies.ensures.added)
    c.install_at_rest.ensures.added

pub returns-clause-front : goal.returns-clause-front
returns-clause-front g c = on_err_weaker c.install_at_rest.result
    (λ h. (h.0, first_behind g.N.Numbered.run_seed c.args.service c.args.incarnation (map Proxy (proxies_of g.N.Numbered.site c.args.service)) (Pubd ∷ Oklogd ∷ []) h.0 c.args.self.now.own c.install_at_proxies.new.self.own c.install_at_rest.new.self.own c.in_ok-install_at_proxies.ensures.added h.1))
    c.install_at_rest.ensures.front
