use Rattle.std.proofs.Common.{rules, ◌≡◌, IfOk, subst}
use Rattle.std.proofs.lemmas.Result.{IfOk-weaker}
use Rattle.http_front.specs.Requests.{path_text}
use Rattle.site_worker.specs.Handling.{Enters}
use Rattle.site_worker.specs.Lives.{Working, life_of}
use Rattle.site_worker.proofs.Accepting.{enters_of}
use Rattle.site_worker.proofs.worker.Worker.enter.Goals as goal

pub returns-clause-ok : goal.returns-clause-ok
returns-clause-ok g c =
    let C = g.N.Numbered.site in
    let path = path_text c.args.request.now in
    let now = c.accept.new.self in
    let is : c.of.result ≡ path_text c.args.request.now = search rules in
    subst (λ (x : Working). IfOk c.accept.result (λ goes. Enters C path goes x.life (life_of now c.self.inside.at_cells c.self.inside.at_launcher c.self.inside.shown))) c.self.view_is
    (IfOk-weaker c.accept.result _ _
    (λ goes h. enters_of C c.of.result path goes c.self.inside.hands now c.self.inside.at_cells c.self.inside.at_launcher c.self.inside.shown c.self.invariant.number_is is c.accept.ensures.okd c.accept.ensures.pubd c.accept.ensures.oklogd c.accept.ensures.same h) c.accept.ensures.ok)
