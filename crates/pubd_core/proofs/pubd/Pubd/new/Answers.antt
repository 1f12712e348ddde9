use Rattle.std.proofs.Common.{◌∙◌, length, ap}
use Rattle.std.proofs.lemmas.List.{length-replicate}
use Rattle.okws_plan.specs.declared.configuration.Config.{Config}
use Rattle.pubd_core.proofs.Begins.{tied_new, none_in, total_none}
use Rattle.pubd_core.proofs.pubd.Pubd.new.Goals as goal

pub invariant_of-result : goal.invariant_of-result
invariant_of-result c =
    let made = c.in_ok-currents.ensures in
    rw (c.in_ok-head.ensures.past, c.new-2.ensures.items, c.new-3.ensures.items)
    (tied_new _ _ _ _ c.requires.templates c.in_ok-head.ensures.granted (ap length c.as_slice.ensures ∙ ap (λ (C : Config). length C.services) c.deref.ensures)
    (ap length made ∙ length-replicate _ _ ∙ ap length c.as_slice-2.ensures ∙ ap (λ (C : Config). length C.templates) c.deref-2.ensures) (λ t. rw made (none_in _ t)) (rw made (total_none _)))
