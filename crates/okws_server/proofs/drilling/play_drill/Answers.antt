use Rattle.std.proofs.Common.{◌≡◌, ap, arith, refl, subst, ℕ}
use Rattle.play_script.specs.Course.{Taken, course}
use Rattle.play_script.specs.Script.{drill_script, group}
use Rattle.play_script.specs.Words.{drill_word}
use Rattle.okws_server.specs.Drill.{GoesThrough, Leads}
use Rattle.okws_server.proofs.DrillLines.{drill_begun, drill_on, drill_through, first_lines_can, first_through, word_can, word_lines, word_taken, word_through}
use Rattle.okws_server.proofs.drilling.play_drill.Goals as goal

pub play_lines-requires : goal.play_lines-requires
play_lines-requires c =
    let through : GoesThrough c.args.play.now (drill_script c.args.number c.args.events) =
    drill_through c.drills_are_never_refused.ensures c.args.play.now c.args.number c.args.events c.requires.few c.requires.site c.requires.seed c.requires.first in
    record {
      can = first_lines_can c.args.play.now.config c.in_ok-first_lines.field-0.items c.requires.site c.in_ok-first_lines.ensures;
      unbroken = first_through c.args.play.now c.args.number c.args.events c.in_ok-first_lines.field-0.items through c.in_ok-first_lines.ensures;
    }

pub loop-place-init : goal.loop-place-init
loop-place-init c = record {
  leads = drill_begun c.args.play.now c.play_lines.new.play c.args.number c.in_ok-first_lines.field-0.items c.args.tally.now c.play_lines.new.tally c.in_ok-first_lines.ensures c.in_ok-play_lines.ensures;
  drill = c.new-drill.ensures;
}

pub next_lines-requires : goal.next_lines-requires
next_lines-requires c = omega (arith, c.requires.few, ap (λ (v : Taken). v.taken) c.loop-place.invariant.drill, c.loop-place-test.true)

pub play_lines-requires-in-loop-place : goal.play_lines-requires-in-loop-place
play_lines-requires-in-loop-place c =
    let is : c.in_ok-lines.lines.items ≡ group (course c.args.number c.loop-place._place) (drill_word c.args.number c.loop-place._place) =
    word_lines c.loop-place.drill c.args.number c.loop-place._place c.in_ok-lines.lines.items c.loop-place.invariant.drill c.in_ok-lines.ensures.lines in
    let through : GoesThrough c.args.play.now (drill_script c.args.number c.args.events) =
    drill_through c.drills_are_never_refused.ensures c.args.play.now c.args.number c.args.events c.requires.few c.requires.site c.requires.seed c.requires.first in
    record {
      can = word_can c.args.play.now c.loop-place.play c.args.number c.loop-place._place c.in_ok-lines.lines.items c.args.tally.now c.loop-place.tally c.requires.site c.loop-place.invariant.leads is;
      unbroken = word_through c.args.play.now c.loop-place.play c.args.number c.loop-place._place c.args.events c.in_ok-lines.lines.items c.args.tally.now c.loop-place.tally c.loop-place-test.true through c.loop-place.invariant.leads is;
    }

pub loop-place-preserved : goal.loop-place-preserved
loop-place-preserved c =
    let is : c.in_ok-lines.lines.items ≡ group (course c.args.number c.loop-place._place) (drill_word c.args.number c.loop-place._place) =
    word_lines c.loop-place.drill c.args.number c.loop-place._place c.in_ok-lines.lines.items c.loop-place.invariant.drill c.in_ok-lines.ensures.lines in
    record {
      leads = drill_on c.args.play.now c.loop-place.play c.play_lines-in-loop-place.new.play c.args.number c.loop-place._place _ c.in_ok-lines.lines.items c.args.tally.now c.loop-place.tally c.play_lines-in-loop-place.new.tally
          refl is c.loop-place.invariant.leads c.in_ok-play_lines-2.ensures;
      drill = word_taken c.loop-place.drill c.next_lines.new.self c.args.number c.loop-place._place c.loop-place.invariant.drill c.in_ok-lines.ensures.taken;
    }

pub returns : goal.returns
returns c =
    let same : c.loop-place._place ≡ c.args.events = omega (arith, c.loop-place.auto._place-end, c.loop-place-test.false) in
    subst (λ (n : ℕ). Leads c.args.play.now (drill_script c.args.number n) c.args.tally.now c.loop-place.tally c.loop-place.play) same c.loop-place.invariant.leads
