use Rattle.std.proofs.Common.{◌≡◌, ◌≤◌, sym, ap, ◌∙◌, subst}
use Rattle.std.specs.Prelude.{IfSome}
use Rattle.okws_outer.specs.Streams.{Rose}
use Rattle.log_daemon.specs.Seen.{IsFront}
use Rattle.monitor_model.specs.Logd.{log_text}
use Rattle.named_columns.specs.Held.{HeldLog}
use Rattle.site_run.proofs.Closed.{writes}
use Rattle.site_run.proofs.closing.end_log.Goals as goal

pub returns-clause-written : goal.returns-clause-written
returns-clause-written g c =
    let C = g.N.Numbered.site in
    let first = g.N.Backed.sink_faults in
    let out = c.write_out-written in
    let closed = c.close-past in
    let J = closed.result.0 in
    let sink = closed.result.1 in
    let past : c.args.log.past ≡ J = sym (closed.ensures.past ∙ ap (λ (x : HeldLog). x.past) out.ensures.same) in
    writes C J (g.S.Sink.given sink) first (g.S.Sink.faults sink) out.result out.new.self.stopped c.lacks-failed.result
    (λ e. subst (λ K. IfSome (g.S.Sink.given sink) (λ text. text ≡ log_text C K)) past (subst (λ o. IfSome o (λ text. text ≡ log_text C c.args.log.past)) (sym closed.ensures.given) (out.ensures.whole e)))
    (subst (λ K. IfSome (g.S.Sink.given sink) (λ text. IsFront text (log_text C K))) past (subst (λ o. IfSome o (λ text. IsFront text (log_text C c.args.log.past))) (sym closed.ensures.given) out.ensures.part))
    out.ensures.stopped
    (λ e. subst (Rose first) (sym closed.ensures.faults) (closed.ensures.stopped e))
    (λ e. closed.ensures.faults ∙ closed.ensures.still e)
    (subst (λ m. first ≤ m) (sym closed.ensures.faults) closed.ensures.later)
    c.lacks-failed.ensures
