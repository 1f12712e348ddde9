use Rattle.site_worker.proofs.Counting.{counts_made, counts_same}
use Rattle.site_worker.proofs.hands.Hands.count.Goals as goal

pub returns-clause-counts : goal.returns-clause-counts
returns-clause-counts g c =
    let o = c.count_at_okd-accepts in
    let p = c.count_at_pubd-publications in
    let l = c.count_at_log-logged in
    rw (← c.self.view_is)
    (counts_made g.N.Numbered.site c.args.note (record { accepts = o.result.0; launches = o.result.1; publications = p.result; logged = l.result })
    c.self.inside.seats c.meet_okd.new.self o.new.self p.new.self l.new.self o.ensures.0 p.ensures.0 l.ensures.0
    c.meet_okd.ensures.met c.meet_okd.ensures.grows c.meet_okd.ensures.only o.ensures.3 p.ensures.2 l.ensures.2 o.ensures.1 o.ensures.2 p.ensures.1 l.ensures.1)

pub returns-clause-same : goal.returns-clause-same
returns-clause-same g c =
    let o = c.count_at_okd-accepts in
    let p = c.count_at_pubd-publications in
    let l = c.count_at_log-logged in
    rw (← c.self.view_is)
    (counts_same c.self.inside.seats c.meet_okd.new.self o.new.self p.new.self l.new.self o.ensures.0 p.ensures.0 l.ensures.0
    c.meet_okd.ensures.grows c.meet_okd.ensures.only o.ensures.3 p.ensures.2 l.ensures.2)
