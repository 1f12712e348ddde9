use Rattle.std.proofs.Common.{◌≡◌, true, refl}
use Rattle.std.specs.declared.result.Result.TheVariants.{Ok}
use Rattle.monitor_model.specs.Standing.{live_at_proxy}
use Rattle.site_columns.proofs.Rows.{held_of, enters_all, is_live}
use Rattle.site_columns.proofs.proxies.Proxies.revoke.Goals as goal

pub revoke-requires : goal.revoke-requires
revoke-requires c = rw (held_of _ _ _ _ _ _ _ _ (record { view_is = c.self.view_is; all = c.self.invariant; within = c.requires.proxy; is = c.index_mut-column.ensures.value }) c.hold.ensures.all).config_is c.requires.service

stands : (c : goal.After-self-1) → live_at_proxy c.hold.new.self.past c.args.service c.args.incarnation ≡ true
stands c = rw (held_of _ _ _ _ _ _ _ _ (record { view_is = c.self.view_is; all = c.self.invariant; within = c.requires.proxy; is = c.index_mut-column.ensures.value }) c.hold.ensures.all).past_is (is_live _ _ c.requires.stands)

pub invariant_of-self : goal.invariant_of-self
invariant_of-self c = (enters_all {E = Unit {0}} (Ok (tt {0})) _ _ _ _ _ _ _ _ _ _ (record { view_is = c.self.view_is; all = c.self.invariant; within = c.requires.proxy; is = c.index_mut-column.ensures.value }) (λ n. refl) c.hold.ensures.all (rw (stands c) at c.revoke.ensures) tt).still

pub returns : goal.returns
returns c = (enters_all {E = Unit {0}} (Ok (tt {0})) _ _ _ _ _ _ _ _ _ _ (record { view_is = c.self.view_is; all = c.self.invariant; within = c.requires.proxy; is = c.index_mut-column.ensures.value }) (λ n. refl) c.hold.ensures.all (rw (stands c) at c.revoke.ensures) tt).ok
