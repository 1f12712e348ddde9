use Rattle.std.proofs.Common.{◌-◌, length, take, arith}
use borrow.Rule.Slice.PartMut.{put_mid}
use Rattle.std.proofs.lemmas.Grind.{common_steps}
use Rattle.frame_link.proofs.Nexts.{none_came, more_put, all_came, came_to_end, came_to_fault, received_none, received_if, received_then}
use Rattle.frame_link.proofs.receiving.fill_up.Goals as goal

pub loop-done-init : goal.loop-done-init
loop-done-init g c = record {
  within = c.requires;
  read = none_came (g.L.Link.wire c.args.link.now).left c.args.room.now c.args.first;
  link = received_none (g.L.Link.wire c.args.link.now);
}

pub loop-done-preserved : goal.loop-done-preserved
loop-done-preserved g c =
    let i = c.loop-done.invariant in
    let p = c.in-Took.ensures in
    let few = p.bytes.1 in
    record {
      within = grind (arith, common_steps, few);
      read = more_put _ _ _ (take c.args.first c.args.room.now) c.loop-done.room c.pull.new.into c.loop-done.done c.in-Took.count i.read i.within p.bytes.2;
      link = received_then _ _ _ ⊥ i.link (received_if _ _ _ ⊥ (λ f. absurd f) (λ e. cc) p.link);
    }

pub returns-in-End-clause-bytes : goal.returns-in-End-clause-bytes
returns-in-End-clause-bytes g c =
    let i = c.loop-done.invariant in
    let less = c.loop-done-test.true in
    came_to_end _ _ _ (take c.args.first c.args.room.now) c.loop-done.room _ c.loop-done.done i.read i.within c.in-End.ensures.bytes (grind (arith, common_steps, less))

pub returns-in-Failed-clause-bytes : goal.returns-in-Failed-clause-bytes
returns-in-Failed-clause-bytes g c = came_to_fault _ _ _ (take c.args.first c.args.room.now) c.loop-done.room (put_mid c.loop-done.done (length c.loop-done.room - c.loop-done.done) c.loop-done.room c.pull.new.into) c.loop-done.done c.loop-done.invariant.read c.in-Failed.ensures.bytes

pub returns-clause-bytes : goal.returns-clause-bytes
returns-clause-bytes g c = all_came _ _ (take c.args.first c.args.room.now) c.loop-done.room c.loop-done.done c.loop-done.invariant.read c.loop-done-test.false
