use Rattle.std.proofs.Common.{subst}
use Rattle.std.proofs.lemmas.Result.{IfOk-weaker, on_err_weaker}
use Rattle.http_front.specs.Requests.{path_text}
use Rattle.monitor_model.specs.Seen.{Seen}
use Rattle.site_worker.specs.Lives.{Sees}
use Rattle.site_worker.proofs.Accepting.{accepts_of}
use Rattle.site_worker.proofs.Lives.{sees_on}
use Rattle.site_worker.proofs.worker.Worker.accept.Goals as goal

pub returns-clause-ok : goal.returns-clause-ok
returns-clause-ok g c =
    let J = c.args.self.now.life in
    let M = c.see_shown.new.self.life in
    let K = c.enter.new.self.life in
    IfOk-weaker c.enter.result _ _ (λ goes h. accepts_of g.N.Numbered.site (path_text c.args.request.now) goes J M K c.see_shown.ensures.sees c.see_shown.ensures.met h) c.enter.ensures.ok

pub returns-clause-err : goal.returns-clause-err
returns-clause-err g c =
    let J = c.args.self.now.life in
    let M = c.see_shown.new.self.life in
    let K = c.enter.new.self.life in
    let sees = c.see_shown.ensures.sees in
    on_err_weaker c.enter.result (λ h. sees_on J M K J.seen sees (subst (λ (S : Seen). Sees S M K) sees.seen_is h)) c.enter.ensures.err
