use Rattle.std.proofs.Common.{◌≡◌, List, [], ◌∷◌, ◌++◌, sym, ap, ◌∙◌, append_assoc, reverse, map}
use Rattle.frame_codec.specs.declared.frame.ServerFrame.{ServerFrame}
use Rattle.frame_codec.specs.declared.frame.ServerFrame.TheVariants as frame
use Rattle.monitor_model.specs.declared.record.Item.{Item}
use Rattle.monitor_model.specs.Course.{push_frame, opening}
use Rattle.monitor_model.specs.declared.record.Item.TheVariants.{Heard}
use Rattle.monitor_model.specs.declared.verdict.Push.{Push}
use Rattle.service_cell.proofs.Opening.{nothing_left, pushed_more, due_after, heard_one, heard_spelled, broke_off, last_heard}
use Rattle.service_cell.proofs.exchange.hear_opening.Goals as goal

pub loop-push-preserved : goal.loop-push-preserved
loop-push-preserved g c =
    let i = c.loop-push.invariant in
    let h = c.in_default.ensures.hears in
    let s = c.in-Some.ensures.steps in
    record {
      heard = h.1 ∙ ap (λ (f : ServerFrame). Heard f ∷ c.loop-push.items.past) c.told_push.ensures.frame ∙ ap (λ (t : List Item). Heard (push_frame c.in-Some.push) ∷ t) i.heard ∙ sym (pushed_more c.loop-push.yielded c.in-Some.push);
      moved = heard_one (g.L.Link.wire c.args.link.now) (g.L.Link.wire c.loop-push.link) (g.L.Link.wire c.hear.new.link) c.loop-push.items.past c.hear.new.items.past c.told_push.result i.moved h.0 h.1;
      all = i.all ∙ ap (λ (t : List Push). c.loop-push.yielded ++ t) s.0 ∙ sym (append_assoc c.loop-push.yielded (c.in-Some.push ∷ []) c.next.new.self.rest.items);
      said = rw h.1 i.said;
      spelled = rw h.1 (c.told_push.ensures.spelling, i.spelled);
      newest = c.hear.ensures.newest i.newest;
      whole = h.2;
    }

pub returns-in-Err-clause-opens : goal.returns-in-Err-clause-opens
returns-in-Err-clause-opens g c =
    let i = c.loop-push.invariant in
    let s = c.in-Some.ensures.steps in
    let more : List Push = c.next.new.self.rest.items in
    broke_off (g.L.Link.wire c.args.link.now) (g.L.Link.wire c.loop-push.link) (g.L.Link.wire c.hear.new.link) c.loop-push.items.past c.hear.new.items.past (opening c.args.pushes.items (frame.Request c.args.head c.args.content)) (Heard (frame.Request c.args.head c.args.content) ∷ reverse (map (λ (p : Push). Heard (push_frame p)) more)) c.told_push.result c.hear.new.due c.in-Err.cause i.moved c.in-Err.ensures.hears
    (due_after c.args.pushes.items c.loop-push.yielded more c.in-Some.push (frame.Request c.args.head c.args.content) c.loop-push.items.past (i.all ∙ ap (λ (t : List Push). c.loop-push.yielded ++ t) s.0) i.heard
    ∙ ap (λ (f : ServerFrame). (Heard (frame.Request c.args.head c.args.content) ∷ reverse (map (λ (p : Push). Heard (push_frame p)) more)) ++ Heard f ∷ c.loop-push.items.past) (sym c.told_push.ensures.frame))

pub returns-clause-opens : goal.returns-clause-opens
returns-clause-opens g c =
    let i = c.loop-push.invariant in
    let s = c.in-None.ensures.steps in
    let none : c.loop-push.push-iterator.rest.items ≡ [] = nothing_left c.loop-push.push-iterator.rest.items (sym c.loop-push.push-iterator.rest.ok.0 ∙ s.0) in
    last_heard (g.L.Link.wire c.args.link.now) (g.L.Link.wire c.loop-push.link) (g.L.Link.wire c.hear-2.new.link) c.loop-push.items.past c.hear-2.new.items.past c.loop-push.yielded c.args.pushes.items (frame.Request c.args.head c.args.content) c.hear-2.new.due c.hear-2.result
    i.moved (rw c.request.ensures.frame at c.hear-2.ensures.hears) i.heard (i.all ∙ ap (λ (t : List Push). c.loop-push.yielded ++ t) none)

pub returns-clause-spelled : goal.returns-clause-spelled
returns-clause-spelled g c = heard_spelled _ _ c.loop-push.items.past c.hear-2.new.items.past c.request.result c.hear-2.new.due c.hear-2.result c.hear-2.ensures.hears c.request.ensures.spelling c.loop-push.invariant.spelled
