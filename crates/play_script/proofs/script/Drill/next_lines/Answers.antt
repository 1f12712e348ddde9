use Rattle.std.proofs.Common.{◌≡◌, ◌∙◌, ◌+◌, ◌<◌, ap, arith, refl, subst}
use Rattle.play_script.specs.Course.{Taken, course}
use Rattle.play_script.specs.Script.{group}
use Rattle.play_script.specs.Words.{drill_word}
use Rattle.play_script.specs.declared.words.TheConstants.{MOST_EVENTS}
use Rattle.play_script.proofs.Courses.{course_bounded, course_more, group_is, word_is}
use Rattle.play_script.proofs.script.Drill.next_lines.Goals as goal

pub lines_of-requires : goal.lines_of-requires
lines_of-requires c =
    let lt : c.self.inside.taken < MOST_EVENTS = omega (arith, c.requires, ap (λ (v : Taken). v.taken) c.self.view_is) in
    let b = course_bounded c.self.inside.course c.self.inside.number c.self.inside.taken c.self.invariant.course_is lt in
    record { guest_first = b.guest_first; other_first = b.other_first; guest = b.guest; other = b.other }

pub after-self-inside-requires : goal.after-self-inside-requires
after-self-inside-requires c =
    let lt : c.self.inside.taken < MOST_EVENTS = omega (arith, c.requires, ap (λ (v : Taken). v.taken) c.self.view_is) in
    let b = course_bounded c.self.inside.course c.self.inside.number c.self.inside.taken c.self.invariant.course_is lt in
    record { guest = b.guest; other = b.other; requests = b.requests }

pub invariant_of-self : goal.invariant_of-self
invariant_of-self c =
    let lt : c.self.inside.taken < MOST_EVENTS = omega (arith, c.requires, ap (λ (v : Taken). v.taken) c.self.view_is) in
    let w : c.word_at-word.result ≡ drill_word c.self.inside.number c.self.inside.taken =
    word_is c.self.inside.number c.self.inside.taken c.word_at-word.result c.self.inside.seed c.self.invariant.seed_is c.word_at-word.ensures in
    record {
      seed_is = c.self.invariant.seed_is;
      few = omega (arith, lt);
      course_is =
          c.after-self-inside.ensures
          ∙ course_more c.self.inside.number c.self.inside.taken (c.self.inside.taken + 1) c.word_at-word.result c.self.inside.course refl c.self.invariant.course_is w;
    }

pub returns-clause-lines : goal.returns-clause-lines
returns-clause-lines c =
    let w : c.word_at-word.result ≡ drill_word c.self.inside.number c.self.inside.taken =
    word_is c.self.inside.number c.self.inside.taken c.word_at-word.result c.self.inside.seed c.self.invariant.seed_is c.word_at-word.ensures in
    let here : c.in_ok-lines.lines.items ≡ group (course c.self.inside.number c.self.inside.taken) (drill_word c.self.inside.number c.self.inside.taken) =
    c.in_ok-lines.ensures ∙ group_is c.self.inside.number c.self.inside.taken c.word_at-word.result c.self.inside.course c.self.invariant.course_is w in
    subst (λ (v : Taken). c.in_ok-lines.lines.items ≡ group (course v.number v.taken) (drill_word v.number v.taken)) c.self.view_is here
