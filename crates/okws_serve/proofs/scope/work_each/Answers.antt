use Rattle.std.proofs.Common.{subst, slice_index_or}
use Rattle.okws_serve.proofs.scope.work_each.Goals as goal

pub returns-clause-each : goal.returns-clause-each
returns-clause-each g c = λ i d l.
    let old = c.args.all.now in
    let new = c.for_each_mut.new.s in
    let h = (c.for_each_mut.ensures i d l).1 in
    subst (λ (y : g.row.P.Denot). g.P.Works.does (slice_index_or old i d) y) h.left
    (subst (λ (x : g.row.P.Denot). g.P.Works.does x h.after_call.now) h.argument_is h.call)
