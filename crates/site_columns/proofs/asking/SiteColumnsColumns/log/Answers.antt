use Rattle.std.proofs.Common.{inl, inr, refl}
use Rattle.okws_plan.specs.declared.event.LogEvent.TheVariants.{Log}
use Rattle.site_columns.proofs.asking.SiteColumnsColumns.log.Goals as goal

pub returns-clause-next : goal.returns-clause-next
returns-clause-next c =
    rw (← c.self.view_is) (λ alone. inr (inr (inr (Log c.args.service c.args.incarnation c.args.text, rw (c.in_ok-answer.ensures.ok, c.hold.ensures.all, c.enter.ensures.past, c.make_room.ensures.past, c.in_ok-copy.ensures) refl))))
