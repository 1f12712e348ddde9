use Rattle.std.proofs.Common.{◌∙◌, [], refl}
use Rattle.site_columns.proofs.Short.{drains_short}
use Rattle.site_columns.proofs.asking.SiteColumnsColumns.drain.Goals as goal

pub returns-clause-short : goal.returns-clause-short
returns-clause-short c =
    drains_short _ c.self.inside.pubd c.hold.new.self _ c.args.service c.args.incarnation _ c.self.invariant.pubd_config c.self.invariant.rules_are.names c.self.invariant.short_are c.hold.ensures.all
    c.in_ok-pushes.ensures.verdict

pub returns-clause-ok : goal.returns-clause-ok
returns-clause-ok c =
    rw (← c.self.view_is) (
      c.self.inside.pubd.past,
      (([], tt, refl), rw (c.in_ok-pushes.ensures.ok, c.hold.ensures.all, c.enter-2.ensures.past, c.enter.ensures.past, c.make_room.ensures.past) refl),
      (λ alone. refl),
      c.in_ok-pushes.ensures.verdict ∙ rw (c.hold.ensures.all, c.self.invariant.pubd_config) refl,
      drains_short _ c.self.inside.pubd c.hold.new.self _ c.args.service c.args.incarnation _ c.self.invariant.pubd_config c.self.invariant.rules_are.names c.self.invariant.short_are c.hold.ensures.all
          c.in_ok-pushes.ensures.verdict,
    )
