use Rattle.std.proofs.Common.{◌≡◌, ◌∙◌, None, Some, ap, arith, sym, true}
use Rattle.std.specs.Arc.{arc_value}
use Rattle.std.proofs.lemmas.Option.{same_Some}
use Rattle.okws_outer.specs.Printing.{printer}
use Rattle.okws_plan.specs.declared.script.Line.TheVariants as line
use Rattle.monitor_model.specs.Stage.{Asked}
use Rattle.okws_play.specs.Printed.{DoesAs}
use Rattle.okws_play.proofs.Going.{dialog_on, dialog_none}
use Rattle.okws_play.proofs.Printing.{by_err}
use Rattle.okws_play.proofs.Running.{chosen, mark_set, marked_run, marked_there}
use Rattle.okws_play.proofs.play.run.Play.dialog.Goals as goal

pub returns-in_err-head : goal.returns-in_err-head
returns-in_err-head g c =
    let one = chosen (arc_value c.self.inside.config) c.self.inside.seed c.self.inside.columns c.self.inside.cells.items c.self.inside.requests.items c.args.self.now c.args.number c.index-asked.result.now c.self.invariant c.self.view_is c.requires c.index-asked.ensures in
    by_err c.from_residual.result (λ r. DoesAs (line.Dialog c.args.number) c.args.self.now (printer g.O.Sink.given g.O.Sink.faults c.args.out.now c.args.stopped.now) (printer g.O.Sink.given g.O.Sink.faults c.args.out.now c.args.stopped.now) r c.args.self.now) c.from_residual.ensures.0 (λ e. dialog_none e c.args.self.now c.args.self.now c.args.number one.service one.incarnation c.index-asked.result.now (printer g.O.Sink.given g.O.Sink.faults c.args.out.now c.args.stopped.now) one.asked one.goes one.inside one.bytes)

pub returns-in_err-content : goal.returns-in_err-content
returns-in_err-content g c =
    let one = chosen (arc_value c.self.inside.config) c.self.inside.seed c.self.inside.columns c.self.inside.cells.items c.self.inside.requests.items c.args.self.now c.args.number c.index-asked.result.now c.self.invariant c.self.view_is c.requires c.index-asked.ensures in
    by_err c.from_residual-in_err-content.result (λ r. DoesAs (line.Dialog c.args.number) c.args.self.now (printer g.O.Sink.given g.O.Sink.faults c.args.out.now c.args.stopped.now) (printer g.O.Sink.given g.O.Sink.faults c.args.out.now c.args.stopped.now) r c.args.self.now) c.from_residual-in_err-content.ensures.0 (λ e. dialog_none e c.args.self.now c.args.self.now c.args.number one.service one.incarnation c.index-asked.result.now (printer g.O.Sink.given g.O.Sink.faults c.args.out.now c.args.stopped.now) one.asked one.goes one.inside one.bytes)

pub unreachable-requires : goal.unreachable-requires
unreachable-requires g c =
    let one = chosen (arc_value c.self.inside.config) c.self.inside.seed c.self.inside.columns c.self.inside.cells.items c.self.inside.requests.items c.args.self.now c.args.number c.index-asked.result.now c.self.invariant c.self.view_is c.requires c.index-asked.ensures in
    let none = sym one.goes ∙ ap (λ (x : Asked). x.goes) (sym c.asked.view_is) ∙ c.in_default.is in
    cc

pub index_mut-requires : goal.index_mut-requires
index_mut-requires g c = let one = chosen (arc_value c.self.inside.config) c.self.inside.seed c.self.inside.columns c.self.inside.cells.items c.self.inside.requests.items c.args.self.now c.args.number c.index-asked.result.now c.self.invariant c.self.view_is c.requires c.index-asked.ensures in omega (arith, one.within, c.self.inside.requests.ok.0)

pub begin_dialog-requires-clause-service : goal.begin_dialog-requires-clause-service
begin_dialog-requires-clause-service g c =
    let one = chosen (arc_value c.self.inside.config) c.self.inside.seed c.self.inside.columns c.self.inside.cells.items c.self.inside.requests.items c.args.self.now c.args.number c.index-asked.result.now c.self.invariant c.self.view_is c.requires c.index-asked.ensures in
    rw (same_Some c.in-Some.goes (one.service, one.incarnation) (sym c.in-Some.is ∙ ap (λ (x : Asked). x.goes) c.asked.view_is ∙ one.goes)) one.declared

pub begin_dialog-requires-clause-wanted : goal.begin_dialog-requires-clause-wanted
begin_dialog-requires-clause-wanted g c =
    let one = chosen (arc_value c.self.inside.config) c.self.inside.seed c.self.inside.columns c.self.inside.cells.items c.self.inside.requests.items c.args.self.now c.args.number c.index-asked.result.now c.self.invariant c.self.view_is c.requires c.index-asked.ensures in
    rw (same_Some c.in-Some.goes (one.service, one.incarnation) (sym c.in-Some.is ∙ ap (λ (x : Asked). x.goes) c.asked.view_is ∙ one.goes)) one.wanted

pub begin_dialog-requires-clause-short : goal.begin_dialog-requires-clause-short
begin_dialog-requires-clause-short g c =
    let one = chosen (arc_value c.self.inside.config) c.self.inside.seed c.self.inside.columns c.self.inside.cells.items c.self.inside.requests.items c.args.self.now c.args.number c.index-asked.result.now c.self.invariant c.self.view_is c.requires c.index-asked.ensures in
    rw (c.in_ok-head.ensures, c.in_ok-content.ensures ∙ ap (λ (x : Asked). x.content) c.asked.view_is) one.fits.short

pub begin_dialog-requires-clause-closed : goal.begin_dialog-requires-clause-closed
begin_dialog-requires-clause-closed g c =
    let one = chosen (arc_value c.self.inside.config) c.self.inside.seed c.self.inside.columns c.self.inside.cells.items c.self.inside.requests.items c.args.self.now c.args.number c.index-asked.result.now c.self.invariant c.self.view_is c.requires c.index-asked.ensures in
    rw (same_Some c.in-Some.goes (one.service, one.incarnation) (sym c.in-Some.is ∙ ap (λ (x : Asked). x.goes) c.asked.view_is ∙ one.goes)) one.closed

pub begin_dialog-requires-clause-asked : goal.begin_dialog-requires-clause-asked
begin_dialog-requires-clause-asked g c =
    let one = chosen (arc_value c.self.inside.config) c.self.inside.seed c.self.inside.columns c.self.inside.cells.items c.self.inside.requests.items c.args.self.now c.args.number c.index-asked.result.now c.self.invariant c.self.view_is c.requires c.index-asked.ensures in
    (marked_there c.self.inside.requests.items _ c.args.number c.index-asked.result.now c.in_ok-head.head c.in_ok-content.content one.there (mark_set c.self.inside.requests.items c.args.number c.index-asked.result.now c.index_mut.result.now _ one.there c.index_mut.ensures.value (ap (λ (x : Asked). record x { has_begun = true }) c.behind-self.view_is)) (sym c.in_ok-head.ensures) (ap (λ (x : Asked). x.content) (sym c.asked.view_is) ∙ sym c.in_ok-content.ensures)).1

pub begin_dialog-requires-clause-there : goal.begin_dialog-requires-clause-there
begin_dialog-requires-clause-there g c =
    let one = chosen (arc_value c.self.inside.config) c.self.inside.seed c.self.inside.columns c.self.inside.cells.items c.self.inside.requests.items c.args.self.now c.args.number c.index-asked.result.now c.self.invariant c.self.view_is c.requires c.index-asked.ensures in
    (marked_there c.self.inside.requests.items _ c.args.number c.index-asked.result.now c.in_ok-head.head c.in_ok-content.content one.there (mark_set c.self.inside.requests.items c.args.number c.index-asked.result.now c.index_mut.result.now _ one.there c.index_mut.ensures.value (ap (λ (x : Asked). record x { has_begun = true }) c.behind-self.view_is)) (sym c.in_ok-head.ensures) (ap (λ (x : Asked). x.content) (sym c.asked.view_is) ∙ sym c.in_ok-content.ensures)).0

pub returns : goal.returns
returns g c =
    let one = chosen (arc_value c.self.inside.config) c.self.inside.seed c.self.inside.columns c.self.inside.cells.items c.self.inside.requests.items c.args.self.now c.args.number c.index-asked.result.now c.self.invariant c.self.view_is c.requires c.index-asked.ensures in
    dialog_on c.begin_dialog.result c.args.self.now _ c.begin_dialog.new.self c.args.number c.in-Some.goes.0 c.in-Some.goes.1 c.index-asked.result.now _ _ one.asked (ap (λ (x : Asked). x.goes) (sym c.asked.view_is) ∙ c.in-Some.is)
    (marked_run _ _ _ _ c.self.inside.requests.items _ c.args.self.now c.args.number c.index-asked.result.now c.self.view_is one.there (mark_set c.self.inside.requests.items c.args.number c.index-asked.result.now c.index_mut.result.now _ one.there c.index_mut.ensures.value (ap (λ (x : Asked). record x { has_begun = true }) c.behind-self.view_is))) c.begin_dialog.ensures
