use Rattle.std.proofs.Common.{◌≡◌, ◌∙◌, ◌∷◌, ◌++◌, [], arith, rules, ap}
use Rattle.std.specs.Arc.{arc_value}
use Rattle.okws_plan.specs.declared.event.PubdEvent.{PubdEvent}
use Rattle.okws_plan.specs.declared.event.PubdEvent.TheVariants.{Publish}
use Rattle.grant_column.specs.Headed.{Headed, noted}
use Rattle.pubd_core.specs.Readers.{wanted}
use Rattle.pubd_core.proofs.Changes.{tied_publish}
use Rattle.pubd_core.proofs.Totals.{total_most}
use Rattle.pubd_core.proofs.pubd.Pubd.enter_edition.Goals as goal

pub overflow_add-self : goal.overflow_add-self
overflow_add-self c =
    let kept = c.self.invariant in
    omega (arith, kept.few, kept.templates, kept.count_is, total_most c.self.inside.currents.items kept.most)

pub invariant_of-self-2 : goal.invariant_of-self-2
invariant_of-self-2 c =
    let kept = c.self.inside in
    let content : arc_value c.in_ok-text.text ≡ c.args.content = c.in_ok-text.ensures.ok in
    let entered : c.tell_publication.new.head.past ≡ noted kept.head.holder (Publish c.args.template c.args.content) ∷ kept.head.past = search rules in
    let same : c.tell_publication.new.head.granted ≡ kept.head.granted = search rules in
    let left : c.keep_wanted.new.publications.items ≡ wanted (arc_value kept.config) kept.readers.items (kept.publications.items ++ record { place = kept.count; template = c.args.template; edition = record { number = c.args.next; content = c.in_ok-clone.field-0 } } ∷ []) = search rules in
    tied_publish (arc_value kept.config) kept.head.past kept.head.granted kept.currents.items kept.count kept.publications.items kept.readers.items kept.head.holder c.args.template c.args.content
    (record { number = c.args.next; content = c.in_ok-text.text }) (record { number = c.args.next; content = c.in_ok-clone.field-0 }) _ _ _
    c.self.invariant (rw (← c.self.view_is) at c.requires.template) (rw (← c.self.view_is) at c.requires.more) c.requires.short (rw (← c.self.view_is) at c.requires.next) (rw (← c.self.view_is) at c.requires.next) content (c.in_ok-clone.ensures.cases ∙ content)
    entered same left
