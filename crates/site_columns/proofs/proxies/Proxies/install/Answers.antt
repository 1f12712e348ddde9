use Rattle.std.proofs.Common.{refl}
use Rattle.site_columns.proofs.Rows.{held_of, enters_all}
use Rattle.site_columns.proofs.proxies.Proxies.install.Goals as goal

pub install-requires-clause-service : goal.install-requires-clause-service
install-requires-clause-service c = rw (held_of _ _ _ _ _ _ _ _ (record { view_is = c.self.view_is; all = c.self.invariant; within = c.requires.proxy; is = c.index_mut-column.ensures.value }) c.hold.ensures.all).config_is c.requires.service

pub install-requires-clause-later : goal.install-requires-clause-later
install-requires-clause-later c = rw (held_of _ _ _ _ _ _ _ _ (record { view_is = c.self.view_is; all = c.self.invariant; within = c.requires.proxy; is = c.index_mut-column.ensures.value }) c.hold.ensures.all).past_is c.requires.later

pub install-requires-clause-token : goal.install-requires-clause-token
install-requires-clause-token c = rw ((held_of _ _ _ _ _ _ _ _ (record { view_is = c.self.view_is; all = c.self.invariant; within = c.requires.proxy; is = c.index_mut-column.ensures.value }) c.hold.ensures.all).seed_is, (held_of _ _ _ _ _ _ _ _ (record { view_is = c.self.view_is; all = c.self.invariant; within = c.requires.proxy; is = c.index_mut-column.ensures.value }) c.hold.ensures.all).number_is) c.requires.token

pub invariant_of-self : goal.invariant_of-self
invariant_of-self c = (enters_all c.install.result _ _ _ _ _ _ _ _ _ _ (record { view_is = c.self.view_is; all = c.self.invariant; within = c.requires.proxy; is = c.index_mut-column.ensures.value }) (λ n. refl) c.hold.ensures.all c.install.ensures.ok c.install.ensures.err).still

pub returns-clause-ok : goal.returns-clause-ok
returns-clause-ok c = (enters_all c.install.result _ _ _ _ _ _ _ _ _ _ (record { view_is = c.self.view_is; all = c.self.invariant; within = c.requires.proxy; is = c.index_mut-column.ensures.value }) (λ n. refl) c.hold.ensures.all c.install.ensures.ok c.install.ensures.err).ok

pub returns-clause-err : goal.returns-clause-err
returns-clause-err c = (enters_all c.install.result _ _ _ _ _ _ _ _ _ _ (record { view_is = c.self.view_is; all = c.self.invariant; within = c.requires.proxy; is = c.index_mut-column.ensures.value }) (λ n. refl) c.hold.ensures.all c.install.ensures.ok c.install.ensures.err).err
