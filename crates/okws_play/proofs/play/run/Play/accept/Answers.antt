use Rattle.std.proofs.Common.{◌∙◌, ap}
use Rattle.http_text.specs.Target.{path}
use Rattle.monitor_model.specs.Okd.{accept_verdict}
use Rattle.okws_play.proofs.Accepting.{asked_fits, way_same}
use Rattle.okws_play.proofs.Printing.{same_as}
use Rattle.okws_play.proofs.play.run.Play.accept.Goals as goal

pub add_request-requires : goal.add_request-requires
add_request-requires g c =
    asked_fits _ _ _ _ _ _ _ (ap (λ v. v.config) c.in_ok-way.ensures.state) c.asked.ensures c.requires.short c.requires.fits c.in_ok-way.ensures.goes

pub returns-clause-printed : goal.returns-clause-printed
returns-clause-printed g c =
    same_as c.print_way.result _ _ _ _ (way_same _ _ _ _ _ _ c.request_count-number.ensures
    (c.in_ok-way.ensures.verdict ∙ ap (accept_verdict c.args.self.now.config c.args.self.now.stage.seen.okd) (c.in_ok-path.ensures ∙ ap path c.as_slice.ensures)) c.method_name.ensures)
    c.print_way.ensures
