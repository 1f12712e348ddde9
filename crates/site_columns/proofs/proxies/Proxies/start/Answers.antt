use Rattle.std.proofs.Common.{◌≡◌, ◌∙◌, arith}
use Rattle.std.specs.Prelude.{IfOk}
use Rattle.std.proofs.lemmas.Result.{on_err_weaker}
use Rattle.okws_plan.specs.declared.event.Mark.TheVariants.{Done}
use Rattle.okws_plan.specs.declared.event.ProxyEvent.TheVariants.{Call}
use Rattle.okws_plan.specs.declared.statement.Answer.TheVariants.{Rows}
use Rattle.monitor_model.specs.declared.verdict.Verdict.{Verdict}
use Rattle.started_call.specs.Starting.{verdict_of}
use Rattle.started_call.specs.declared.started.Started.{Started}
use Rattle.index_keeper.specs.contracts.pinning.IndexPinPinned.TheImpl as pinned
use Rattle.index_keeper.specs.declared.pinning.IndexPin.{IndexPin}
use Rattle.site_columns.proofs.Rows.{Answered, answered, enters, held_of, more_ok, verdict_ok}
use Rattle.site_columns.proofs.proxies.Proxies.start.Goals as goal

pub start-requires : goal.start-requires
start-requires c = rw (held_of _ _ _ _ _ _ _ _ (record { view_is = c.self.view_is; all = c.self.invariant; within = c.requires.proxy; is = c.index_mut-column.ensures.value }) c.hold.ensures.all).config_is c.requires.service

-- the verdict that is told
abbrev told : Started IndexPin → Verdict
told s = verdict_of (λ p. Rows (pinned.ghosts.width p) (pinned.ghosts.rows p)) s

made : (c : goal.After-self-1) → IfOk c.start.result (λ s. Answered c.self.inside.holder c.args.self.now c.args.proxy c.index_mut-column.result.now c.start.new.self c.args.call (told s))
made c =
    answered c.start.result told _ _ _ _ _ _ c.args.call _ _ (held_of _ _ _ _ _ _ _ _ (record { view_is = c.self.view_is; all = c.self.invariant; within = c.requires.proxy; is = c.index_mut-column.ensures.value }) c.hold.ensures.all) c.hold.ensures.all
    c.start.ensures.entry c.start.ensures.rows c.start.ensures.same

pub invariant_of-self : goal.invariant_of-self
invariant_of-self c = (enters c.start.result _ _ _ _ _ _ _ _ (Call c.args.call Done) (record { view_is = c.self.view_is; all = c.self.invariant; within = c.requires.proxy; is = c.index_mut-column.ensures.value }) (λ n. omega arith) (more_ok _ _ _ _ _ _ _ _ (made c)) (on_err_weaker c.start.result (λ same. same ∙ c.hold.ensures.all) c.start.ensures.err)).still

pub returns-clause-verdict : goal.returns-clause-verdict
returns-clause-verdict c = verdict_ok _ _ _ _ _ _ _ _ (made c)

pub returns-clause-ok : goal.returns-clause-ok
returns-clause-ok c = (enters c.start.result _ _ _ _ _ _ _ _ (Call c.args.call Done) (record { view_is = c.self.view_is; all = c.self.invariant; within = c.requires.proxy; is = c.index_mut-column.ensures.value }) (λ n. omega arith) (more_ok _ _ _ _ _ _ _ _ (made c)) (on_err_weaker c.start.result (λ same. same ∙ c.hold.ensures.all) c.start.ensures.err)).ok

pub returns-clause-err : goal.returns-clause-err
returns-clause-err c = (enters c.start.result _ _ _ _ _ _ _ _ (Call c.args.call Done) (record { view_is = c.self.view_is; all = c.self.invariant; within = c.requires.proxy; is = c.index_mut-column.ensures.value }) (λ n. omega arith) (more_ok _ _ _ _ _ _ _ _ (made c)) (on_err_weaker c.start.result (λ same. same ∙ c.hold.ensures.all) c.start.ensures.err)).err
