use Rattle.std.proofs.Common.{◌≡◌, ◌∙◌, [], rules, sym}
use Rattle.okws_play.proofs.Closing.{nothing_left}
use Rattle.okws_server.specs.Drill.{CanBePlayed}
use Rattle.okws_server.proofs.DrillLines.{goes_none, goes_more, goes_through, goes_all, next_can}
use Rattle.okws_server.proofs.drilling.play_lines.Goals as goal

pub loop-line-init : goal.loop-line-init
loop-line-init c = goes_none c.args.play.now c.args.lines.items c.into_iter-line-iterator.result.rest.items c.args.tally.now (search rules)

pub run_line-requires : goal.run_line-requires
run_line-requires c =
    let can : CanBePlayed c.loop-line.play.config c.in-Some.line =
    next_can c.args.play.now c.loop-line.play c.args.lines.items c.loop-line.yielded c.loop-line.line-iterator.rest.items c.next.new.self.rest.items c.in-Some.line c.args.tally.now c.loop-line.tally c.loop-line.stopped c.in-Some.ensures.steps.0 c.loop-line.invariant c.requires.can in
    record { fits = can.0; keeps = can.1; short = can.2 }

pub loop-line-preserved : goal.loop-line-preserved
loop-line-preserved c =
    goes_more c.args.play.now c.loop-line.play c.run_line.new.self c.args.lines.items c.loop-line.yielded c.loop-line.line-iterator.rest.items c.next.new.self.rest.items c.in-Some.line _ c.args.tally.now c.loop-line.tally c.run_line.new.out c.loop-line.stopped c.run_line.new.stopped c.in-Some.ensures.steps.0 c.in-None-2.is c.loop-line.invariant c.in_ok-run_line.ensures.played

pub unreachable-requires : goal.unreachable-requires
unreachable-requires c =
    goes_through c.args.play.now c.loop-line.play c.run_line.new.self c.args.lines.items c.loop-line.yielded c.loop-line.line-iterator.rest.items c.next.new.self.rest.items c.in-Some.line _ _ c.args.tally.now c.loop-line.tally c.run_line.new.out c.loop-line.stopped c.run_line.new.stopped c.in-Some.ensures.steps.0 c.in-Some-2.is c.loop-line.invariant c.requires.unbroken c.in_ok-run_line.ensures.played

pub returns : goal.returns
returns c =
    let none : c.loop-line.line-iterator.rest.items ≡ [] = nothing_left c.loop-line.line-iterator.rest.items (sym c.loop-line.line-iterator.rest.ok.0 ∙ c.in-None.ensures.steps.0) in
    goes_all c.args.play.now c.loop-line.play c.args.lines.items c.loop-line.yielded c.loop-line.line-iterator.rest.items c.args.tally.now c.loop-line.tally c.loop-line.stopped none c.loop-line.invariant
