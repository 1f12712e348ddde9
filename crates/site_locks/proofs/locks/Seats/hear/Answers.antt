use Rattle.std.proofs.Common.{subst}
use Rattle.okws_base.specs.Turns.{Behind}
use Rattle.site_locks.specs.Heard.{ColumnsSeen, HasHeard, columns_of}
use Rattle.site_locks.specs.Steps.{SeesLog, SeesPubd}
use Rattle.site_locks.proofs.Heard.{has_heard, sees_columns}
use Rattle.site_locks.proofs.locks.Seats.hear.Goals as goal

pub returns-clause-heard : goal.returns-clause-heard
returns-clause-heard g c =
    let a = c.hear_proxies.new.self in
    let b = c.meet_pubd.new.self in
    let now = c.meet_log.new.self in
    let pubd : SeesPubd b.pubd a b = record { grows = c.meet_pubd.ensures.grows; is = c.meet_pubd.ensures.only } in
    let log : SeesLog now.oklogd b now = record { grows = c.meet_log.ensures.grows; is = c.meet_log.ensures.only } in
    let notes : ColumnsSeen = record { proxies = c.notes.inside.proxies; pubd = c.notes.inside.pubd; oklogd = c.notes.inside.oklogd } in
    subst (λ (x : ColumnsSeen). HasHeard g.N.Numbered.site x (columns_of now)) c.notes.view_is
    (has_heard g.N.Numbered.site notes a b now pubd log c.hear_proxies.ensures.heard (subst (λ J. Behind J b.pubd) c.again-pubd.ensures.again c.meet_pubd.ensures.met) (subst (λ J. Behind J now.oklogd) c.again-oklogd.ensures.again c.meet_log.ensures.met))

pub returns-clause-sees : goal.returns-clause-sees
returns-clause-sees g c = sees_columns c.args.self.now c.hear_proxies.new.self c.meet_pubd.new.self c.meet_log.new.self c.hear_proxies.ensures.sees
    (record { grows = c.meet_pubd.ensures.grows; is = c.meet_pubd.ensures.only }) (record { grows = c.meet_log.ensures.grows; is = c.meet_log.ensures.only })
