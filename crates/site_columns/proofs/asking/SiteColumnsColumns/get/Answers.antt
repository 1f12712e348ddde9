use Rattle.std.proofs.Common.{inl, inr, refl}
use Rattle.okws_plan.specs.declared.event.PubdEvent.TheVariants.{Get}
use Rattle.site_columns.proofs.Short.{gets_short}
use Rattle.site_columns.proofs.asking.SiteColumnsColumns.get.Goals as goal

pub returns-clause-short : goal.returns-clause-short
returns-clause-short c =
    gets_short _ c.self.inside.pubd c.hold.new.self _ c.args.service c.args.incarnation c.args.name _ c.self.invariant.pubd_config c.self.invariant.short_are c.hold.ensures.all c.in_ok-answer.ensures.verdict

pub returns-clause-next : goal.returns-clause-next
returns-clause-next c =
    rw (← c.self.view_is) (λ alone. inr (inr (inl (Get c.args.service c.args.incarnation c.args.name, rw (c.in_ok-answer.ensures.ok, c.hold.ensures.all, c.enter.ensures.past, c.make_room.ensures.past, c.in_ok-copy.ensures) refl))))
