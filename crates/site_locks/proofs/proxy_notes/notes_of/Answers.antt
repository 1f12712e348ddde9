use Rattle.std.proofs.Common.{rules, arith, ◌≡◌, ◌∙◌, ◌<◌, length, refl, ap, subst}
use Rattle.std.proofs.lemmas.List.{take_all}
use Rattle.okws_base.specs.declared.journal.Entry.{Entry}
use Rattle.okws_plan.specs.declared.event.ProxyEvent.{ProxyEvent}
use Rattle.monitor_model.specs.Seen.{proxy_past}
use Rattle.turn_lock.specs.Seats.{NoteIs}
use Rattle.site_locks.specs.Sat.{Sat}
use Rattle.site_locks.proofs.Heard.{get_same, map_taken}
use Rattle.site_locks.proofs.proxy_notes.notes_of.Goals as goal

pub loop-proxy-init : goal.loop-proxy-init
loop-proxy-init g c = record {
  same = refl;
  locks = search rules;
  seen = search rules;
  many = search rules;
  room = search rules;
}

pub loop-proxy-preserved : goal.loop-proxy-preserved
loop-proxy-preserved g c =
    let i = c.loop-proxy.invariant in
    let p = c.loop-proxy.proxy in
    let note = c.note_proxy.result in
    let notes = c.loop-proxy.notes.items in
    let now = c.push_reserved.new.self.items in
    let below : p < c.proxy_count-count.result = search rules in
    let locks : p < length g.J.Site.ids.proxies = subst (λ n. p < n) c.proxy_count-count.ensures.locks below in
    let seats : p < length c.args.seats.now.proxies = subst (λ n. p < n) c.proxy_count-count.ensures.seats below in
    record {
      same = c.note_proxy.ensures.same ∙ i.same;
      locks = map_taken (λ (a : NoteIs (Entry ProxyEvent)). a.lock) notes now note g.J.Site.ids.proxies p c.push_reserved.ensures.items i.locks c.note_proxy.ensures.lock locks;
      seen = map_taken (λ (a : NoteIs (Entry ProxyEvent)). a.seen) notes now note c.args.seats.now.proxies p c.push_reserved.ensures.items i.seen (c.note_proxy.ensures.seen ∙ (ap (λ (x : Sat). proxy_past x.proxies p) i.same ∙ get_same c.args.seats.now.proxies p note.seen seats)) seats;
      many = search rules;
      room = search rules;
    }

pub invariant_of-result : goal.invariant_of-result
invariant_of-result g c =
    let all : c.loop-proxy.proxy ≡ c.proxy_count-count.result = search rules in
    c.loop-proxy.invariant.locks ∙ take_all c.loop-proxy.proxy g.J.Site.ids.proxies (let many = all ∙ c.proxy_count-count.ensures.locks in omega (arith, many))

pub returns-clause-notes : goal.returns-clause-notes
returns-clause-notes g c =
    let all : c.loop-proxy.proxy ≡ c.proxy_count-count.result = search rules in
    c.loop-proxy.invariant.seen ∙ take_all c.loop-proxy.proxy c.args.seats.now.proxies (let many = all ∙ c.proxy_count-count.ensures.seats in omega (arith, many))

pub returns-clause-same : goal.returns-clause-same
returns-clause-same g c = c.loop-proxy.invariant.same
