use Rattle.std.proofs.Common.{rules, arith, ◌≡◌, ◌+◌, [], List, map, length, reverse, sym, ap, ◌∙◌, subst}
use Rattle.std.specs.Prelude.{vec_len}
use Rattle.std.proofs.lemmas.List.{length-reverse, length-map, reverse-reverse}
use Rattle.okws_base.specs.Turns.{of}
use Rattle.okws_base.specs.declared.journal.Entry.{Entry}
use Rattle.okws_plan.specs.declared.event.OkdEvent.{OkdEvent}
use Rattle.okws_plan.specs.declared.event.PubdEvent.{PubdEvent}
use Rattle.okws_plan.specs.declared.event.LogEvent.{LogEvent}
use Rattle.named_columns.specs.Held.{HeldProxy}
use Rattle.named_columns.specs.Launched.{by_entry}
use Rattle.site_locks.specs.Closing.{AllGrown, RowsGrown}
use Rattle.site_locks.specs.Sat.{Sat}
use Rattle.turn_lock.specs.Rows.{NoneFrom}
use Rattle.site_run.proofs.Closed.{popped}
use Rattle.site_run.proofs.Leaving.{but_last}
use Rattle.site_run.proofs.closing.end_columns.Goals as goal

pub returns-clause-okd : goal.returns-clause-okd
returns-clause-okd g c = (
  c.end_okd.ensures.law.0,
  c.end_okd.ensures.law.1,
  λ k l. subst (λ (J : List (Entry OkdEvent)). of by_entry k J ≡ []) (sym c.end_okd.ensures.past) (c.close-closed.ensures.okd.1 k l),
)

pub returns-clause-pubd : goal.returns-clause-pubd
returns-clause-pubd g c = (
  c.end_pubd.ensures.law.0,
  c.end_pubd.ensures.law.1,
  λ k l. subst (λ (J : List (Entry PubdEvent)). of by_entry k J ≡ []) (sym c.end_pubd.ensures.past) (c.close-closed.ensures.pubd.1 k l),
)

pub returns-clause-oklogd : goal.returns-clause-oklogd
returns-clause-oklogd g c = (
  c.end_log.ensures.law.0,
  c.end_log.ensures.law.1,
  λ k l. subst (λ (J : List (Entry LogEvent)). of by_entry k J ≡ []) (sym c.end_log.ensures.past) (c.close-closed.ensures.oklogd.1 k l),
)

pub returns-clause-proxies : goal.returns-clause-proxies
returns-clause-proxies g c = (
  c.end_proxies.ensures.laws,
  subst (NoneFrom by_entry c.args.count) (sym c.end_proxies.ensures.pasts) c.close-closed.ensures.proxies.1,
)

pub returns-clause-many : goal.returns-clause-many
returns-clause-many g c =
    let proxies = c.close-closed.new.done.items in
    let pasts = map (λ (x : HeldProxy). x.past) proxies in
    let size : length c.end_proxies.result.pasts.items ≡ length proxies = ap length c.end_proxies.ensures.pasts ∙ (length-reverse pasts ∙ length-map proxies (λ (x : HeldProxy). x.past)) in
    search rules

pub returns-clause-workers : goal.returns-clause-workers
returns-clause-workers g c =
    let seats = c.args.seats.items in
    let size : length c.close-closed.new.owns.items ≡ length seats = ap length c.close-closed.ensures.owns ∙ (length-reverse (map (λ (s : Sat). s.own) seats) ∙ length-map seats (λ (s : Sat). s.own)) in
    let total : vec_len c.turned-owns.result ≡ g.N.Numbered.launcher + 1 = (let p = c.turned-owns.ensures.len in let q = c.requires.many in let r = c.requires.count in search rules) in
    let less = popped c.pop-launchers.result (vec_len c.pop-launchers.new.self) (vec_len c.turned-owns.result) c.pop-launchers.ensures.cases (omega arith) in
    omega arith

pub returns-clause-grown : goal.returns-clause-grown
returns-clause-grown g c =
    let seats = c.args.seats.items in
    let closed = c.close-closed.ensures in
    record {
      okd_grown = subst (AllGrown (λ (s : Sat). s.okd) seats) (sym c.end_okd.ensures.past) closed.okd.0;
      proxies_grown = subst (RowsGrown seats) (sym c.end_proxies.ensures.pasts) closed.proxies.0;
      pubd_grown = subst (AllGrown (λ (s : Sat). s.pubd) seats) (sym c.end_pubd.ensures.past) closed.pubd.0;
      log_grown = subst (AllGrown (λ (s : Sat). s.oklogd) seats) (sym c.end_log.ensures.past) closed.oklogd.0;
    }

pub returns-clause-lists : goal.returns-clause-lists
returns-clause-lists g c =
    let seats = c.args.seats.items in
    let owns = map (λ (s : Sat). s.own) seats in
    let size : length c.close-closed.new.owns.items ≡ length seats = ap length c.close-closed.ensures.owns ∙ (length-reverse owns ∙ length-map seats (λ (s : Sat). s.own)) in
    let total : vec_len c.turned-owns.result ≡ g.N.Numbered.launcher + 1 = (let p = c.turned-owns.ensures.len in let q = c.requires.many in let r = c.requires.count in search rules) in
    but_last c.pop-launchers.result (vec_len c.turned-owns.result) (vec_len c.pop-launchers.new.self) c.turned-owns.result.items c.pop-launchers.new.self.items seats
    c.pop-launchers.ensures.cases (omega arith) c.pop-launchers.ensures.items (c.turned-owns.ensures.items ∙ (ap reverse c.close-closed.ensures.owns ∙ reverse-reverse owns))

pub returns-clause-saw : goal.returns-clause-saw
returns-clause-saw g c = c.close-closed.ensures.saw

pub returns-clause-drains : goal.returns-clause-drains
returns-clause-drains g c = c.end_pubd.ensures.follows

pub returns-clause-logs : goal.returns-clause-logs
returns-clause-logs g c = c.end_log.ensures.follows
