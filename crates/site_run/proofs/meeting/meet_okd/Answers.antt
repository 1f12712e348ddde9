use Rattle.std.proofs.Common.{rules, arith, ◌≡◌, ◌∙◌, ◌<◌, ◌≤◌, List, length, refl, subst}
use Rattle.okws_base.specs.declared.journal.Entry.{Entry}
use Rattle.okws_plan.specs.declared.event.OkdEvent.{OkdEvent}
use Rattle.site_run.specs.Meeting.{MeetsOkd}
use Rattle.site_run.proofs.Taken.{all_go, next_go, none_go}
use Rattle.site_run.proofs.meeting.meet_okd.Goals as goal

pub loop-number-init : goal.loop-number-init
loop-number-init g c = record { first = none_go (MeetsOkd c.args.note.now) c.args.rows.now.items; note = refl; room = refl }

pub loop-number-preserved : goal.loop-number-preserved
loop-number-preserved g c =
    let inv = c.loop-number.invariant in
    let J = c.args.note.now in
    let a = c.index_mut.result.now in
    let b = c.meet_okd.new.self in
    let l : c.loop-number.number < length c.args.rows.now.items = search (rules, arith) in
    let one : MeetsOkd J a b
    = subst (λ (entries : List (Entry OkdEvent)). MeetsOkd entries a b) (c.again-again.ensures.again ∙ inv.note) (record { is = c.meet_okd.ensures.only; grows = c.meet_okd.ensures.grows; met = c.meet_okd.ensures.met }) in
    record {
      first = next_go (MeetsOkd J) c.args.rows.now.items c.loop-number.rows.items c.loop-number.number a b inv.first l c.index_mut.ensures.value one;
      note = c.again-again.ensures.same ∙ inv.note;
      room = inv.room;
    }

pub returns-clause-met : goal.returns-clause-met
returns-clause-met g c =
    let l : length c.args.rows.now.items ≤ c.loop-number.number = search (rules, arith) in
    all_go (MeetsOkd c.args.note.now) c.args.rows.now.items c.loop-number.rows.items c.loop-number.number l c.loop-number.invariant.first
