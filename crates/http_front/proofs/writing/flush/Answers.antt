use Rattle.std.proofs.Common.{◌≡◌, ℕ, ◌+◌, ◌^◌, ◌-◌, List, length, min, refl, subst, arith}
use Rattle.std.proofs.lemmas.Grind.{common_steps}
use Rattle.okws_outer.specs.Conns.{PutsTo}
use Rattle.okws_outer.specs.declared.stream.Put.TheVariants.{Done, Stopped}
use Rattle.http_front.proofs.Gathering.{waiting_put, waiting_cut}
use Rattle.http_front.proofs.writing.flush.Goals as goal

pub returns-in-Done-clause-written : goal.returns-in-Done-clause-written
returns-in-Done-clause-written g c = λ start before text w.
    let puts = subst (λ (b : List ℕ). PutsTo (g.C.Conn.wire c.args.conn.now) (g.C.Conn.wire c.put.new.self) b Done) c.deref.ensures.value c.in-Done.ensures in
    let count : c.saturating_add-kept.result ≡ min (c.args.kept.now.response + length c.args.kept.now.waiting.items) (2 ^ 64 - 1) = grind (arith, common_steps) in
    waiting_put start _ _ before c.args.kept.now _ text w puts c.clear.ensures.items count (record { bytes = refl; interim = refl; to_head = refl })

pub returns-in-Stopped-clause-written : goal.returns-in-Stopped-clause-written
returns-in-Stopped-clause-written g c = λ start before text w.
    let puts = subst (λ (b : List ℕ). PutsTo (g.C.Conn.wire c.args.conn.now) (g.C.Conn.wire c.put.new.self) b (Stopped c.in-Stopped.count)) c.deref.ensures.value c.in-Stopped.ensures in
    waiting_cut start _ _ before c.args.kept.now _ text c.in-Stopped.count _ w puts c.saturating_add-kept-in-Stopped.ensures (record { bytes = refl; interim = refl; to_head = refl })
