use Rattle.std.proofs.Common.{◌≡◌}
use Rattle.form_urlencoded.specs.Parse.{raw_pairs_left}
use Rattle.svc_kit.specs.Form.{form_value, first_value}
use Rattle.svc_kit.proofs.form.value_of.Given as goal

abbrev pub invariant-loop-key : goal.invariant-loop-key
invariant-loop-key l =
    (goal.iterator-loop-key).can_next l.key-iterator ×
    (goal.iterator-loop-key).is_finite l.key-iterator ×
    (first_value (raw_pairs_left l.key-iterator) l.name ≡ form_value l.form l.name)
