use Rattle.std.proofs.Common.{refl}
use Rattle.site_columns.proofs.Rows.{held_of, enters_all}
use Rattle.site_columns.proofs.proxies.Proxies.open_session.Goals as goal

pub open_session-requires : goal.open_session-requires
open_session-requires c = rw (held_of _ _ _ _ _ _ _ _ (record { view_is = c.self.view_is; all = c.self.invariant; within = c.requires.proxy; is = c.index_mut-column.ensures.value }) c.hold.ensures.all).config_is c.requires.service

pub invariant_of-self : goal.invariant_of-self
invariant_of-self c = (enters_all c.open_session.result _ _ _ _ _ _ _ _ _ _ (record { view_is = c.self.view_is; all = c.self.invariant; within = c.requires.proxy; is = c.index_mut-column.ensures.value }) (λ n. refl) c.hold.ensures.all c.open_session.ensures.ok c.open_session.ensures.err).still

pub returns-clause-verdict : goal.returns-clause-verdict
returns-clause-verdict c = rw (← (held_of _ _ _ _ _ _ _ _ (record { view_is = c.self.view_is; all = c.self.invariant; within = c.requires.proxy; is = c.index_mut-column.ensures.value }) c.hold.ensures.all).past_is) c.open_session.ensures.verdict

pub returns-clause-ok : goal.returns-clause-ok
returns-clause-ok c = (enters_all c.open_session.result _ _ _ _ _ _ _ _ _ _ (record { view_is = c.self.view_is; all = c.self.invariant; within = c.requires.proxy; is = c.index_mut-column.ensures.value }) (λ n. refl) c.hold.ensures.all c.open_session.ensures.ok c.open_session.ensures.err).ok

pub returns-clause-err : goal.returns-clause-err
returns-clause-err c = (enters_all c.open_session.result _ _ _ _ _ _ _ _ _ _ (record { view_is = c.self.view_is; all = c.self.invariant; within = c.requires.proxy; is = c.index_mut-column.ensures.value }) (λ n. refl) c.hold.ensures.all c.open_session.ensures.ok c.open_session.ensures.err).err
