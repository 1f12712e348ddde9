use Rattle.std.proofs.Common.{◌≡◌, List, ◌∷◌, ◌∙◌, ap, subst, sym}
use Rattle.std.specs.Prelude.{OnOk, is_some, option_map}
use Rattle.std.proofs.lemmas.Result.{on_err_weaker, IfOk-weaker}
use Rattle.okws_base.specs.declared.journal.Entry.{Entry}
use Rattle.okws_base.specs.declared.value.Value.{Value}
use Rattle.okws_plan.specs.Rules.{QueriesKeepRules}
use Rattle.okws_plan.specs.declared.configuration.Config.{Config}
use Rattle.okws_plan.specs.declared.event.Mark.{Mark}
use Rattle.okws_plan.specs.declared.event.ProxyEvent.{ProxyEvent}
use Rattle.okws_plan.specs.declared.event.ProxyEvent.TheVariants as event
use Rattle.okws_plan.specs.declared.statement.Answer.TheVariants.{Rows}
use Rattle.monitor_model.specs.Columns.{faults}
use Rattle.monitor_model.specs.Proxy.{rows}
use Rattle.started_call.specs.Starting.{verdict_of}
use Rattle.service_cell.specs.Asking.{IsNarrow}
use Rattle.db_proxy.specs.Seen.{Seen as Proxy}
use Rattle.named_columns.specs.Asked.{IsInstalledAt}
use Rattle.named_columns.specs.Held.{HeldProxy}
use Rattle.named_columns.specs.Kept.{IsProxy}
use Rattle.named_columns.proofs.Adds.{adds_marked}
use Rattle.named_columns.proofs.Keeps.{on_answer, proxy_called, some_mapped}
use Rattle.named_columns.proofs.Narrow.{verdict_narrow}
use Rattle.named_columns.proofs.proxy.SiteProxy.start.Goals as goal

pub invariant_of-self : goal.invariant_of-self
invariant_of-self g c =
    let a = c.self.inside.proxy in
    let b = c.start.new.self in
    let call = c.args.call in
    let keeps = λ (z : Proxy). IsProxy g.N.Numbered.site g.N.Numbered.run_seed g.N.Numbered.launcher g.N.Backed.tells g.N.Backed.steady g.N.Backed.keeper_faults z in
    let installed = subst (λ (v : HeldProxy). IsInstalledAt g.N.Numbered.site v.number v.past call.service call.incarnation) (sym c.self.view_is) c.requires.installed in
    on_answer keeps _ c.start.result a b c.start.ensures.entry c.start.ensures.err
    (λ s is q.
    let rows_now = λ (x : List (List (List Value))). rows b.config b.number b.past in
    let rows_are : b.told ≡ option_map rows_now a.told = subst (λ r. OnOk r (b.told ≡ option_map rows_now a.told)) is c.start.ensures.rows in
    let told = ap is_some rows_are ∙ some_mapped rows_now a.told in
    subst keeps (sym c.start.ensures.same) (subst (λ (J : List (Entry ProxyEvent)). keeps (record a { past = J; told = b.told; faults = b.faults })) (sym q.1)
    (proxy_called g.N.Numbered.site g.N.Numbered.run_seed g.N.Numbered.launcher g.N.Backed.tells g.N.Backed.steady g.N.Backed.keeper_faults a call q.0 b.told b.faults c.self.invariant (λ fault. (q.2 fault).1) q.3 c.start.ensures.later told installed (λ e. subst (λ r. OnOk r (faults b.past ≡ faults a.past → b.faults ≡ a.faults)) is c.start.ensures.still (ap faults q.1 ∙ e)))))
    c.self.invariant

pub returns-clause-narrow : goal.returns-clause-narrow
returns-clause-narrow g c =
    let proxy = c.self.inside.proxy in
    IfOk-weaker c.start.result _ (λ s. IsNarrow (verdict_of (λ p. Rows (g.K.Pin.Pinned.width p) (g.K.Pin.Pinned.rows p)) s))
    (λ s q.
    verdict_narrow proxy.config proxy.number proxy.past c.args.call q.0 q.4.0 proxy.told (verdict_of (λ p. Rows (g.K.Pin.Pinned.width p) (g.K.Pin.Pinned.rows p)) s) (subst (λ (D : Config). QueriesKeepRules D proxy.number) (sym c.self.invariant.config_is) (c.self.invariant.rules.queries proxy.number)) q.4.1 q.4.2 q.5)
    c.start.ensures.entry

pub returns-clause-adds : goal.returns-clause-adds
returns-clause-adds g c =
    let proxy = c.self.inside.proxy in
    rw (← c.self.view_is) (adds_marked c.start.result proxy.holder (λ mark. event.Call c.args.call mark) proxy.past c.start.new.self.past
    (IfOk-weaker c.start.result _ (λ v. (mark : Mark) × (c.start.new.self.past ≡ record { worker = proxy.holder; event = event.Call c.args.call mark } ∷ proxy.past)) (λ v q. (q.0, q.1)) c.start.ensures.entry)
    (on_err_weaker c.start.result (ap (λ (z : Proxy). z.past)) c.start.ensures.err))
