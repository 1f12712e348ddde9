use Rattle.std.proofs.Common.{rules, arith, ◌≡◌, ◌+◌, ◌∙◌, length, sym, ap, subst}
use Rattle.site_locks.specs.Made.{AreFreshFrom, fresh}
use Rattle.site_locks.proofs.Dealing.{rise_push}
use Rattle.site_locks.proofs.making.Made.share.Goals as goal

pub loop-number-preserved : goal.loop-number-preserved
loop-number-preserved g c =
    let i = c.loop-number.invariant in
    let p = length g.N.Numbered.site.proxies in
    let before = c.loop-number.seats.items in
    let less = c.deal.ensures.less in
    let total = i.1 in
    let at : c.loop-number.number ≡ length before + 0 = let many = i.3 in omega arith in
    let is = c.deal.ensures.seats ∙ (ap (λ m. fresh m c.loop-number.number) c.self.invariant.locks.declared ∙ ap (fresh p) at) in (
      c.deal.ensures.deals,
      omega arith,
      subst (AreFreshFrom p 0) (sym c.push_reserved.ensures.items) (rise_push p 0 before c.deal.result i.2 is),
      search rules,
      search rules,
    )
