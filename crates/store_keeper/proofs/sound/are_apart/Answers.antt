use Rattle.std.proofs.Common.{◌≡◌, ◌∙◌, List, Some, ap, sym, take}
use Rattle.okws_base.specs.declared.value.Value.{Value}
use Rattle.okws_plan.specs.Meaning.{at_column}
use Rattle.okws_plan.specs.Sound.{same_key_at}
use Rattle.store_keeper.specs.Keys.{group_at}
use Rattle.store_keeper.proofs.Keys.{apart_here, apart_next, holds_here, holds_next}
use Rattle.store_keeper.proofs.sound.are_apart.Goals as goal

pub returns-then-not-branch : goal.returns-then-not-branch
returns-then-not-branch c =
    let key : c.in_ok-group.group ≡ group_at (at_column c.index-rows-place.result c.args.column) = c.in_ok-group.ensures ∙ ap (λ (row : List Value). group_at (at_column row c.args.column)) c.as_slice.ensures in
    sym (apart_here (same_key_at (Some c.args.column)) c.args.rows.now c.loop-place.place c.index-rows-place.result c.in_ok-insert.field-0 c.loop-place-test.true c.index-rows-place.is
    (holds_here c.loop-place.seen c.args.column (take c.loop-place.place c.args.rows.now) c.index-rows-place.result c.in_ok-group.group c.in_ok-insert.field-0 key c.in_ok-insert.ensures.added c.loop-place.invariant.seen) c.if-not-branch.true)

pub loop-place-preserved : goal.loop-place-preserved
loop-place-preserved c =
    let key : c.in_ok-group.group ≡ group_at (at_column c.index-rows-place.result c.args.column) = c.in_ok-group.ensures ∙ ap (λ (row : List Value). group_at (at_column row c.args.column)) c.as_slice.ensures in
    record {
      seen = holds_next c.loop-place.seen c.insert.new.self c.args.column c.args.rows.now c.loop-place.place c.index-rows-place.result c.in_ok-group.group c.loop-place-test.true c.index-rows-place.is key c.in_ok-insert.ensures.updates.0
          c.loop-place.invariant.seen;
      apart = apart_next (same_key_at (Some c.args.column)) c.args.rows.now c.loop-place.place c.index-rows-place.result c.in_ok-insert.field-0 c.loop-place-test.true c.index-rows-place.is
          (holds_here c.loop-place.seen c.args.column (take c.loop-place.place c.args.rows.now) c.index-rows-place.result c.in_ok-group.group c.in_ok-insert.field-0 key c.in_ok-insert.ensures.added c.loop-place.invariant.seen)
          c.if-not-branch.false c.loop-place.invariant.apart;
    }
