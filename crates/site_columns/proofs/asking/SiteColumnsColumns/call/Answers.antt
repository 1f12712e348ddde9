use Rattle.std.proofs.Common.{inl, inr, refl}
use Rattle.okws_plan.specs.declared.event.Mark.TheVariants.{Done}
use Rattle.okws_plan.specs.declared.event.ProxyEvent.TheVariants.{Call}
use Rattle.site_columns.proofs.Narrow.{calls_narrow}
use Rattle.site_columns.proofs.Sites.{called_site}
use Rattle.site_columns.proofs.asking.SiteColumnsColumns.call.Goals as goal

pub returns-clause-narrow : goal.returns-clause-narrow
returns-clause-narrow c =
    calls_narrow _ c.self.inside.proxies c.hold.new.self _ c.args.proxy c.args.call _ c.self.invariant.proxies_config c.self.invariant.rules_are.queries c.hold.ensures c.in_ok-answer.ensures.verdict

pub invariant_of-self-2 : goal.invariant_of-self-2
invariant_of-self-2 c =
    called_site _ _ _ c.self.inside.proxies c.hold.new.self c.start.new.self _ _ _ _ c.args.proxy c.args.call Done c.self.invariant c.hold.ensures c.in_ok-answer.ensures.ok

pub returns-clause-next : goal.returns-clause-next
returns-clause-next c =
    rw (← c.self.view_is) (λ alone. inr (inl (c.args.proxy, Call c.args.call Done, rw (c.in_ok-answer.ensures.ok, c.hold.ensures, c.enter.ensures.past, c.make_room.ensures.past, c.in_ok-copy_of_call.ensures) refl)))
