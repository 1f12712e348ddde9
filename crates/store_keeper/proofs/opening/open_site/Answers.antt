use Rattle.std.proofs.Common.{◌≡◌, ◌∙◌, ◌<◌, ℕ, List, Err, Some, ap, arith, length, map, refl, subst, sym, take, true}
use Rattle.okws_outer.specs.Depots.{Depot, with_made}
use Rattle.okws_outer.specs.declared.error.MakeError.TheVariants.{Failed}
use Rattle.okws_plan.specs.Sound.{IsSound, is_sound_plan}
use Rattle.okws_plan.specs.declared.configuration.Config.{Config}
use Rattle.okws_plan.specs.declared.configuration.ProxyPlan.{ProxyPlan}
use Rattle.okws_plan.specs.declared.configuration.Table.{Table}
use Rattle.store_keeper.specs.Alike.{AreAlike}
use Rattle.store_keeper.specs.contracts.stored.StoredKeeperKeeper.TheImpl as stored
use Rattle.store_keeper.specs.Depots.{beside_of, with_starts}
use Rattle.store_keeper.specs.Sites.{AllTell, AreOf, SitesAreAlike}
use Rattle.store_keeper.proofs.Given.{asked_back, asked_none, err_is, gives_kept, on_err, starts_one}
use Rattle.store_keeper.proofs.Lawful.{site_with}
use Rattle.store_keeper.proofs.Plans.{first_all, first_next, opened_all, opened_here, opened_next, opened_sound, plans_alike, plans_sound, site_alike, site_same, take_all, zero_next}
use Rattle.store_keeper.proofs.Unsound.{lacks_back}
use Rattle.store_keeper.proofs.opening.open_site.Goals as goal

pub open_proxy-requires-clause-sound : goal.open_proxy-requires-clause-sound
open_proxy-requires-clause-sound g c κs within =
    let below : c.loop-proxy.proxy < length c.args.config.proxies =
    omega (arith, c.loop-proxy-test.true, c.len-count.ensures, c.take_plans-plans.result.ok.0, ap (λ (ps : List ProxyPlan). length ps) c.take_plans-plans.ensures.plans) in
    opened_sound (stored.tables-value g.row.S-Keeper g.row.S-Keeper-Pin g.S.Keeper.Keeper g.S.Keeper.Keeper-dict g.S.Keeper.Pin.Pinned g.S.Keeper.Pin.Pinned-dict g.S.Keeper.Pin.Destruct-dict).it (stored.told-value g.row.S-Keeper g.row.S-Keeper-Pin g.S.Keeper.Keeper g.S.Keeper.Keeper-dict g.S.Keeper.Pin.Pinned g.S.Keeper.Pin.Pinned-dict g.S.Keeper.Pin.Destruct-dict).it (AllTell g.S.Keeper.Keeper.told) c.args.config.proxies c.loop-proxy.plans.items c.loop-proxy.proxy c.loop-proxy.keepers.items c.index.result.now c.requires.plans below c.index.ensures c.loop-proxy.invariant.opened

pub returns-in-Err-clause-failed : goal.returns-in-Err-clause-failed
returns-in-Err-clause-failed g c = λ failed.
    let below : c.loop-proxy.proxy < length c.args.config.proxies =
    omega (arith, c.loop-proxy-test.true, c.len-count.ensures, c.take_plans-plans.result.ok.0, ap (λ (ps : List ProxyPlan). length ps) c.take_plans-plans.ensures.plans) in
    lacks_back _ c.args.config.proxies c.loop-proxy.proxy c.index.result.now (g.S.Stores.depot c.args.stores.now) (g.S.Stores.depot c.loop-proxy.stores) (g.S.Stores.depot c.open_proxy.new.stores) (g.S.Stores.depot c.give_back.new.stores)
    (ap (λ (d : Depot). d.finished) c.loop-proxy.invariant.depot) (ap (λ (d : Depot). d.faults) c.loop-proxy.invariant.depot) below
    (opened_here (stored.tables-value g.row.S-Keeper g.row.S-Keeper-Pin g.S.Keeper.Keeper g.S.Keeper.Keeper-dict g.S.Keeper.Pin.Pinned g.S.Keeper.Pin.Pinned-dict g.S.Keeper.Pin.Destruct-dict).it (stored.told-value g.row.S-Keeper g.row.S-Keeper-Pin g.S.Keeper.Keeper g.S.Keeper.Keeper-dict g.S.Keeper.Pin.Pinned g.S.Keeper.Pin.Pinned-dict g.S.Keeper.Pin.Destruct-dict).it (AllTell g.S.Keeper.Keeper.told) c.args.config.proxies c.loop-proxy.plans.items c.loop-proxy.proxy c.loop-proxy.keepers.items c.index.result.now below c.index.ensures c.loop-proxy.invariant.opened)
    (c.in-Err.ensures.failed (ap Err (err_is c.in-Err.why Failed failed))) c.give_back.ensures

pub returns-in_err-keepers-clause-asked : goal.returns-in_err-keepers-clause-asked
returns-in_err-keepers-clause-asked g c = on_err c.from_residual.result _ (asked_none c.args.file.now c.args.config.proxies (g.S.Stores.depot c.args.stores.now))

pub returns-in-Err-clause-asked : goal.returns-in-Err-clause-asked
returns-in-Err-clause-asked g c =
    let below : c.loop-proxy.proxy < length c.args.config.proxies =
    omega (arith, c.loop-proxy-test.true, c.len-count.ensures, c.take_plans-plans.result.ok.0, ap (λ (ps : List ProxyPlan). length ps) c.take_plans-plans.ensures.plans) in
    asked_back c.args.file.now c.args.config.proxies c.loop-proxy.proxy c.index.result.now (g.S.Stores.depot c.args.stores.now) (g.S.Stores.depot c.loop-proxy.stores) (g.S.Stores.depot c.open_proxy.new.stores) (g.S.Stores.depot c.give_back.new.stores)
    c.loop-proxy.invariant.depot below (opened_here (stored.tables-value g.row.S-Keeper g.row.S-Keeper-Pin g.S.Keeper.Keeper g.S.Keeper.Keeper-dict g.S.Keeper.Pin.Pinned g.S.Keeper.Pin.Pinned-dict g.S.Keeper.Pin.Destruct-dict).it (stored.told-value g.row.S-Keeper g.row.S-Keeper-Pin g.S.Keeper.Keeper g.S.Keeper.Keeper-dict g.S.Keeper.Pin.Pinned g.S.Keeper.Pin.Pinned-dict g.S.Keeper.Pin.Destruct-dict).it (AllTell g.S.Keeper.Keeper.told) c.args.config.proxies c.loop-proxy.plans.items c.loop-proxy.proxy c.loop-proxy.keepers.items c.index.result.now below c.index.ensures c.loop-proxy.invariant.opened)
    c.in-Err.ensures.tried
    (gives_kept (beside_of (stored.faults-value g.row.S-Keeper g.row.S-Keeper-Pin g.S.Keeper.Keeper g.S.Keeper.Keeper-dict g.S.Keeper.Pin.Pinned g.S.Keeper.Pin.Pinned-dict g.S.Keeper.Pin.Destruct-dict).it (stored.told-value g.row.S-Keeper g.row.S-Keeper-Pin g.S.Keeper.Keeper g.S.Keeper.Keeper-dict g.S.Keeper.Pin.Pinned g.S.Keeper.Pin.Pinned-dict g.S.Keeper.Pin.Destruct-dict).it (λ k. k.parted) (λ k. g.S.Keeper.Keeper.told k.store)) (take c.loop-proxy.proxy c.args.config.proxies) c.loop-proxy.keepers.items
    (g.S.Stores.depot c.open_proxy.new.stores) (g.S.Stores.depot c.give_back.new.stores) c.loop-proxy.invariant.first c.give_back.ensures)

pub loop-proxy-preserved : goal.loop-proxy-preserved
loop-proxy-preserved g c =
    let below : c.loop-proxy.proxy < length c.args.config.proxies =
    omega (arith, c.loop-proxy-test.true, c.len-count.ensures, c.take_plans-plans.result.ok.0, ap (λ (ps : List ProxyPlan). length ps) c.take_plans-plans.ensures.plans) in
    record {
      opened = opened_next (stored.tables-value g.row.S-Keeper g.row.S-Keeper-Pin g.S.Keeper.Keeper g.S.Keeper.Keeper-dict g.S.Keeper.Pin.Pinned g.S.Keeper.Pin.Pinned-dict g.S.Keeper.Pin.Destruct-dict).it (stored.told-value g.row.S-Keeper g.row.S-Keeper-Pin g.S.Keeper.Keeper g.S.Keeper.Keeper-dict g.S.Keeper.Pin.Pinned g.S.Keeper.Pin.Pinned-dict g.S.Keeper.Pin.Destruct-dict).it (AllTell g.S.Keeper.Keeper.told) c.args.config.proxies c.loop-proxy.plans.items _ c.loop-proxy.proxy c.index.result.now c.index_mut.result.now c.of.result c.loop-proxy.keepers.items _ c.in-Ok.opened.keeper
          below c.index.ensures c.index_mut.ensures.value (subst (λ (ts : List Table). AreAlike ts c.index.result.now.tables) (sym c.of.ensures) c.in-Ok.ensures.alike) (λ tells. c.of.ensures ∙ c.in-Ok.ensures.same tells)
          (subst (λ (ts : List Table). is_sound_plan (record c.index.result.now { tables = ts }) ≡ true) (sym c.of.ensures) c.in-Ok.ensures.sound) refl
          c.push_reserved.ensures.items (c.in-Ok.ensures.tables ∙ sym c.of.ensures) (c.in-Ok.ensures.told ∙ ap (λ (ts : List Table). Some (map (λ (t : Table). t.first) ts)) (sym c.of.ensures)) c.loop-proxy.invariant.opened;
      first = first_next (λ k. g.S.Keeper.Keeper.told k.store) c.args.config.proxies c.loop-proxy.proxy c.index.result.now c.loop-proxy.keepers.items _ c.in-Ok.opened.keeper below
          (opened_here (stored.tables-value g.row.S-Keeper g.row.S-Keeper-Pin g.S.Keeper.Keeper g.S.Keeper.Keeper-dict g.S.Keeper.Pin.Pinned g.S.Keeper.Pin.Pinned-dict g.S.Keeper.Pin.Destruct-dict).it (stored.told-value g.row.S-Keeper g.row.S-Keeper-Pin g.S.Keeper.Keeper g.S.Keeper.Keeper-dict g.S.Keeper.Pin.Pinned g.S.Keeper.Pin.Pinned-dict g.S.Keeper.Pin.Destruct-dict).it (AllTell g.S.Keeper.Keeper.told) c.args.config.proxies c.loop-proxy.plans.items c.loop-proxy.proxy c.loop-proxy.keepers.items c.index.result.now below c.index.ensures c.loop-proxy.invariant.opened) c.push_reserved.ensures.items c.in-Ok.ensures.held c.loop-proxy.invariant.first;
      fresh = zero_next (stored.faults-value g.row.S-Keeper g.row.S-Keeper-Pin g.S.Keeper.Keeper g.S.Keeper.Keeper-dict g.S.Keeper.Pin.Pinned g.S.Keeper.Pin.Pinned-dict g.S.Keeper.Pin.Destruct-dict).it c.loop-proxy.keepers.items _ c.in-Ok.opened.keeper c.push_reserved.ensures.items c.in-Ok.ensures.fresh c.loop-proxy.invariant.fresh;
      many = omega (arith, c.push_reserved.ensures.len, c.loop-proxy.invariant.many);
      room = c.push_reserved.ensures.capacity ∙ c.loop-proxy.invariant.room;
      plans = c.loop-proxy.invariant.plans;
      depot = c.in-Ok.ensures.made ∙ ap (with_made c.args.file.now c.loop-proxy.proxy c.index.result.now.tables) c.loop-proxy.invariant.depot
          ∙ starts_one c.args.file.now c.args.config.proxies c.loop-proxy.proxy c.index.result.now (g.S.Stores.depot c.args.stores.now) below (opened_here (stored.tables-value g.row.S-Keeper g.row.S-Keeper-Pin g.S.Keeper.Keeper g.S.Keeper.Keeper-dict g.S.Keeper.Pin.Pinned g.S.Keeper.Pin.Pinned-dict g.S.Keeper.Pin.Destruct-dict).it (stored.told-value g.row.S-Keeper g.row.S-Keeper-Pin g.S.Keeper.Keeper g.S.Keeper.Keeper-dict g.S.Keeper.Pin.Pinned g.S.Keeper.Pin.Pinned-dict g.S.Keeper.Pin.Destruct-dict).it (AllTell g.S.Keeper.Keeper.told) c.args.config.proxies c.loop-proxy.plans.items c.loop-proxy.proxy c.loop-proxy.keepers.items c.index.result.now below c.index.ensures c.loop-proxy.invariant.opened);
    }

pub returns-clause-alike : goal.returns-clause-alike
returns-clause-alike g c =
    let end : c.loop-proxy.proxy ≡ length c.args.config.proxies =
    omega (arith, c.loop-proxy-test.false, c.loop-proxy.auto.proxy-end, c.len-count.ensures, c.take_plans-plans.result.ok.0, ap (λ (ps : List ProxyPlan). length ps) c.take_plans-plans.ensures.plans) in
    subst (λ (C : Config). SitesAreAlike (record C { proxies = c.of-2.result }) c.args.config) (sym c.take_plans-plans.ensures.rest)
    (subst (λ (ps : List ProxyPlan). SitesAreAlike (record c.args.config { proxies = ps }) c.args.config) (sym c.of-2.ensures)
    (site_alike (stored.tables-value g.row.S-Keeper g.row.S-Keeper-Pin g.S.Keeper.Keeper g.S.Keeper.Keeper-dict g.S.Keeper.Pin.Pinned g.S.Keeper.Pin.Pinned-dict g.S.Keeper.Pin.Destruct-dict).it (stored.told-value g.row.S-Keeper g.row.S-Keeper-Pin g.S.Keeper.Keeper g.S.Keeper.Keeper-dict g.S.Keeper.Pin.Pinned g.S.Keeper.Pin.Pinned-dict g.S.Keeper.Pin.Destruct-dict).it (AllTell g.S.Keeper.Keeper.told) c.args.config c.loop-proxy.plans.items c.loop-proxy.proxy c.loop-proxy.keepers.items end c.loop-proxy.invariant.opened))

pub returns-clause-sound : goal.returns-clause-sound
returns-clause-sound g c =
    let end : c.loop-proxy.proxy ≡ length c.args.config.proxies =
    omega (arith, c.loop-proxy-test.false, c.loop-proxy.auto.proxy-end, c.len-count.ensures, c.take_plans-plans.result.ok.0, ap (λ (ps : List ProxyPlan). length ps) c.take_plans-plans.ensures.plans) in
    subst (λ (C : Config). IsSound (record C { proxies = c.of-2.result })) (sym c.take_plans-plans.ensures.rest)
    (subst (λ (ps : List ProxyPlan). IsSound (record c.args.config { proxies = ps })) (sym c.of-2.ensures)
    (site_with c.args.config c.loop-proxy.plans.items
    (plans_alike (stored.tables-value g.row.S-Keeper g.row.S-Keeper-Pin g.S.Keeper.Keeper g.S.Keeper.Keeper-dict g.S.Keeper.Pin.Pinned g.S.Keeper.Pin.Pinned-dict g.S.Keeper.Pin.Destruct-dict).it (stored.told-value g.row.S-Keeper g.row.S-Keeper-Pin g.S.Keeper.Keeper g.S.Keeper.Keeper-dict g.S.Keeper.Pin.Pinned g.S.Keeper.Pin.Pinned-dict g.S.Keeper.Pin.Destruct-dict).it (AllTell g.S.Keeper.Keeper.told) c.args.config.proxies c.loop-proxy.plans.items c.loop-proxy.proxy c.loop-proxy.keepers.items end c.loop-proxy.invariant.opened)
    (plans_sound (stored.tables-value g.row.S-Keeper g.row.S-Keeper-Pin g.S.Keeper.Keeper g.S.Keeper.Keeper-dict g.S.Keeper.Pin.Pinned g.S.Keeper.Pin.Pinned-dict g.S.Keeper.Pin.Destruct-dict).it (stored.told-value g.row.S-Keeper g.row.S-Keeper-Pin g.S.Keeper.Keeper g.S.Keeper.Keeper-dict g.S.Keeper.Pin.Pinned g.S.Keeper.Pin.Pinned-dict g.S.Keeper.Pin.Destruct-dict).it (AllTell g.S.Keeper.Keeper.told) c.args.config.proxies c.loop-proxy.plans.items c.loop-proxy.proxy c.loop-proxy.keepers.items end c.loop-proxy.invariant.opened)
    c.requires))

pub returns-clause-same : goal.returns-clause-same
returns-clause-same g c =
    let end : c.loop-proxy.proxy ≡ length c.args.config.proxies =
    omega (arith, c.loop-proxy-test.false, c.loop-proxy.auto.proxy-end, c.len-count.ensures, c.take_plans-plans.result.ok.0, ap (λ (ps : List ProxyPlan). length ps) c.take_plans-plans.ensures.plans) in
    λ tells. ap (λ (C : Config). record C { proxies = c.of-2.result }) c.take_plans-plans.ensures.rest
    ∙ ap (λ (ps : List ProxyPlan). record c.args.config { proxies = ps }) c.of-2.ensures
    ∙ site_same (stored.tables-value g.row.S-Keeper g.row.S-Keeper-Pin g.S.Keeper.Keeper g.S.Keeper.Keeper-dict g.S.Keeper.Pin.Pinned g.S.Keeper.Pin.Pinned-dict g.S.Keeper.Pin.Destruct-dict).it (stored.told-value g.row.S-Keeper g.row.S-Keeper-Pin g.S.Keeper.Keeper g.S.Keeper.Keeper-dict g.S.Keeper.Pin.Pinned g.S.Keeper.Pin.Pinned-dict g.S.Keeper.Pin.Destruct-dict).it (AllTell g.S.Keeper.Keeper.told) c.args.config c.loop-proxy.plans.items c.loop-proxy.proxy c.loop-proxy.keepers.items end c.loop-proxy.invariant.opened tells

pub returns-clause-keepers : goal.returns-clause-keepers
returns-clause-keepers g c =
    let end : c.loop-proxy.proxy ≡ length c.args.config.proxies =
    omega (arith, c.loop-proxy-test.false, c.loop-proxy.auto.proxy-end, c.len-count.ensures, c.take_plans-plans.result.ok.0, ap (λ (ps : List ProxyPlan). length ps) c.take_plans-plans.ensures.plans) in
    subst (λ (ps : List ProxyPlan). AreOf ps (map (stored.tables-value g.row.S-Keeper g.row.S-Keeper-Pin g.S.Keeper.Keeper g.S.Keeper.Keeper-dict g.S.Keeper.Pin.Pinned g.S.Keeper.Pin.Pinned-dict g.S.Keeper.Pin.Destruct-dict).it c.loop-proxy.keepers.items) (map (stored.told-value g.row.S-Keeper g.row.S-Keeper-Pin g.S.Keeper.Keeper g.S.Keeper.Keeper-dict g.S.Keeper.Pin.Pinned g.S.Keeper.Pin.Pinned-dict g.S.Keeper.Pin.Destruct-dict).it c.loop-proxy.keepers.items)) (sym c.of-2.ensures)
    (opened_all (stored.tables-value g.row.S-Keeper g.row.S-Keeper-Pin g.S.Keeper.Keeper g.S.Keeper.Keeper-dict g.S.Keeper.Pin.Pinned g.S.Keeper.Pin.Pinned-dict g.S.Keeper.Pin.Destruct-dict).it (stored.told-value g.row.S-Keeper g.row.S-Keeper-Pin g.S.Keeper.Keeper g.S.Keeper.Keeper-dict g.S.Keeper.Pin.Pinned g.S.Keeper.Pin.Pinned-dict g.S.Keeper.Pin.Destruct-dict).it (AllTell g.S.Keeper.Keeper.told) c.args.config.proxies c.loop-proxy.plans.items c.loop-proxy.proxy c.loop-proxy.keepers.items end c.loop-proxy.invariant.opened)

pub returns-clause-held : goal.returns-clause-held
returns-clause-held g c =
    let end : c.loop-proxy.proxy ≡ length c.args.config.proxies =
    omega (arith, c.loop-proxy-test.false, c.loop-proxy.auto.proxy-end, c.len-count.ensures, c.take_plans-plans.result.ok.0, ap (λ (ps : List ProxyPlan). length ps) c.take_plans-plans.ensures.plans) in
    first_all c.args.config.proxies c.loop-proxy.proxy (map (λ k. g.S.Keeper.Keeper.told k.store) c.loop-proxy.keepers.items) end c.loop-proxy.invariant.first

pub returns-clause-made : goal.returns-clause-made
returns-clause-made g c =
    let end : c.loop-proxy.proxy ≡ length c.args.config.proxies =
    omega (arith, c.loop-proxy-test.false, c.loop-proxy.auto.proxy-end, c.len-count.ensures, c.take_plans-plans.result.ok.0, ap (λ (ps : List ProxyPlan). length ps) c.take_plans-plans.ensures.plans) in
    c.loop-proxy.invariant.depot
    ∙ ap (λ (ps : List ProxyPlan). with_starts c.args.file.now ps (g.S.Stores.depot c.args.stores.now)) (ap (λ (n : ℕ). take n c.args.config.proxies) end ∙ take_all c.args.config.proxies)

pub returns-clause-fresh : goal.returns-clause-fresh
returns-clause-fresh g c = c.loop-proxy.invariant.fresh
