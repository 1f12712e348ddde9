use Rattle.std.proofs.Common.{rules, arith, ◌≡◌, ◌∙◌, ◌<◌, length, refl, sym, subst}
use Rattle.okws_base.specs.Turns.{Behind}
use Rattle.monitor_model.specs.Seen.{proxy_past}
use Rattle.site_locks.proofs.Heard.{heard_one, sees_none, sees_one}
use Rattle.site_locks.proofs.locks.Seats.hear_proxies.Goals as goal

pub loop-proxy-init : goal.loop-proxy-init
loop-proxy-init g c = record {
  notes = refl;
  heard = λ p below. absurd (omega (arith, below));
  sees = sees_none c.args.self.now;
}

pub loop-proxy-preserved : goal.loop-proxy-preserved
loop-proxy-preserved g c =
    let i = c.loop-proxy.invariant in
    let p = c.loop-proxy.proxy in
    let mid = c.loop-proxy.self in
    let now = c.hear_proxy.new.self in
    let heard = c.hear_proxy.ensures.sees in
    let below : p < c.proxy_count-proxy-end.result = search rules in
    let within : p < length mid.proxies = subst (λ n. p < n) (c.proxy_count-proxy-end.ensures.seats ∙ sym i.sees.many) below in
    record {
      notes = c.hear_proxy.ensures.notes ∙ i.notes;
      heard = heard_one c.args.notes.now p heard.0 mid now within heard.2 (subst (λ l. Behind (proxy_past l p) heard.0) i.notes heard.1) i.heard;
      sees = sees_one p heard.0 c.args.self.now mid now i.sees heard.2;
    }

pub returns-clause-heard : goal.returns-clause-heard
returns-clause-heard g c =
    let all : c.loop-proxy.proxy ≡ c.proxy_count-proxy-end.result = search rules in
    λ p below. c.loop-proxy.invariant.heard p (subst (λ n. p < n) (sym (all ∙ c.proxy_count-proxy-end.ensures.declared)) below)
