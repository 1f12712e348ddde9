use Rattle.std.proofs.Common.{◌≢◌, subst, sym}
use Rattle.monitor_model.specs.Cell.{incarnation}
use Rattle.monitor_model.specs.Stage.{Stand, stand}
use Rattle.okws_play.proofs.Changing.{shut_run, shut_state}
use Rattle.okws_play.proofs.Going.{may_feed, end_on}
use Rattle.okws_play.proofs.Running.{at_cell}
use Rattle.okws_play.proofs.play.run.Play.end.Goals as goal

pub invariant_of-self : goal.invariant_of-self
invariant_of-self g c =
    let at = at_cell _ _ _ _ _ c.args.self.now c.args.service c.index_mut-cell.result.now c.self.invariant c.self.view_is c.requires.service c.index_mut-cell.ensures.value in
    shut_run _ _ _ _ _ _ c.args.service c.index_mut-cell.result.now c.feed_end.new.self at c.feed_end.ensures

pub returns : goal.returns
returns g c =
    let at = at_cell _ _ _ _ _ c.args.self.now c.args.service c.index_mut-cell.result.now c.self.invariant c.self.view_is c.requires.service c.index_mut-cell.ensures.value in
    let some = subst (λ (t : Stand). incarnation t.past ≢ 0) (sym at.stand_is) (may_feed (incarnation (stand c.args.self.now.stage c.args.service).past) (stand c.args.self.now.stage c.args.service).has_ended c.requires.may) in
    end_on c.go_on.result c.args.self.now _ c.go_on.new.self c.args.service _ _ (shut_state _ _ _ _ _ _ c.args.service c.index_mut-cell.result.now c.feed_end.new.self at some c.feed_end.ensures) c.go_on.ensures
