use Rattle.std.proofs.Common.{ap, ◌∙◌}
use Rattle.std.specs.Str.Lines.{strip_carriage_return}
use Rattle.admin_console.specs.Orders.{order_of}
use Rattle.admin_console.proofs.Stepping.{told, ends, stops, fails, runs_out, cut_off}
use Rattle.admin_console.proofs.step.step.Goals as goal

pub returns-in-Answered-clause-step : goal.returns-in-Answered-clause-step
returns-in-Answered-clause-step g c =
    let o = g.O.Controls in
    let line = rw c.in-Line.is at c.take_command-taken.ensures.line in
    let shown = c.without_carriage_return.ensures ∙ ap strip_carriage_return c.deref.ensures.value in
    let order_is = c.order_of-order.ensures.is ∙ ap (order_of c.args.config.now) shown in
    rw (← c.reader.view_is) (told o.State o.publishes o.relaunches o.surveys c.args.config.now _ _ _ _ _ _ _ _ _ _ c.in-Answered.answer c.tell_line.result line order_is c.in-Answered.ensures.done c.tell_line.ensures.told)

pub returns-in-Ends-clause-step : goal.returns-in-Ends-clause-step
returns-in-Ends-clause-step g c =
    let o = g.O.Controls in
    let line = rw c.in-Line.is at c.take_command-taken.ensures.line in
    let shown = c.without_carriage_return.ensures ∙ ap strip_carriage_return c.deref.ensures.value in
    let order_is = c.order_of-order.ensures.is ∙ ap (order_of c.args.config.now) shown in
    rw (← c.reader.view_is) (ends o.State o.publishes o.relaunches o.surveys c.args.config.now _ _ _ _ _ _ _ _ _ line order_is c.in-Ends.ensures.done)

pub returns-in-Stops-clause-step : goal.returns-in-Stops-clause-step
returns-in-Stops-clause-step g c =
    let o = g.O.Controls in
    let line = rw c.in-Line.is at c.take_command-taken.ensures.line in
    let shown = c.without_carriage_return.ensures ∙ ap strip_carriage_return c.deref.ensures.value in
    let order_is = c.order_of-order.ensures.is ∙ ap (order_of c.args.config.now) shown in
    rw (← c.reader.view_is) (stops o.State o.publishes o.relaunches o.surveys c.args.config.now _ _ _ _ _ _ _ _ _ line order_is c.in-Stops.ensures.done)

pub returns-in-Failed-carry_out-clause-step : goal.returns-in-Failed-carry_out-clause-step
returns-in-Failed-carry_out-clause-step g c =
    let o = g.O.Controls in
    let line = rw c.in-Line.is at c.take_command-taken.ensures.line in
    let shown = c.without_carriage_return.ensures ∙ ap strip_carriage_return c.deref.ensures.value in
    let order_is = c.order_of-order.ensures.is ∙ ap (order_of c.args.config.now) shown in
    rw (← c.reader.view_is) (fails o.State o.publishes o.relaunches o.surveys c.args.config.now _ _ _ _ _ _ _ _ _ line order_is c.in-Failed-carry_out.ensures.done)

pub returns-in-Ended-clause-step : goal.returns-in-Ended-clause-step
returns-in-Ended-clause-step g c =
    let o = g.O.Controls in
    let line = rw c.in-Ended.is at c.take_command-taken.ensures.line in
    rw (← c.reader.view_is) (runs_out o.State o.publishes o.relaunches o.surveys c.args.config.now _ _ _ _ _ _ line)

pub returns-in-Failed-clause-step : goal.returns-in-Failed-clause-step
returns-in-Failed-clause-step g c =
    let o = g.O.Controls in
    let line = rw c.in-Failed.is at c.take_command-taken.ensures.line in
    rw (← c.reader.view_is) (cut_off o.State o.publishes o.relaunches o.surveys c.args.config.now _ _ _ _ _ _ line)
