use Rattle.std.proofs.Common.{◌≡◌, ◌∙◌, List, ap, map, subst, sym}
use Rattle.std.specs.Prelude.{IfSome}
use Rattle.okws_outer.specs.Depots.{Depot, with_made}
use Rattle.okws_outer.specs.declared.error.MakeError.TheVariants.{Failed}
use Rattle.okws_plan.specs.declared.configuration.Table.{Table}
use Rattle.store_keeper.specs.Sites.{HasFirstRows}
use Rattle.store_keeper.proofs.Given.{err_is, on_err, tried_none, tried_one}
use Rattle.store_keeper.proofs.Unsound.{one_lacks}
use Rattle.store_keeper.proofs.opening.open_proxy.Goals as goal

pub returns-in-Err-clause-failed : goal.returns-in-Err-clause-failed
returns-in-Err-clause-failed g c = λ failed.
    one_lacks c.args.plan.now (g.S.Stores.depot c.args.stores.now) (g.S.Stores.depot c.make.new.self) (g.S.Stores.depot c.finish.new.self) c.args.proxy (g.S.Keeper.Keeper.told c.in-Err.store) (g.S.Keeper.Keeper.faults c.in-Err.store)
    (ap (λ (d : Depot). d.finished) c.in_ok-store.ensures.made) c.finish.ensures (c.in-Err.ensures.failed (err_is c.in-Err.why Failed failed))

pub returns-in_err-store-clause-tried : goal.returns-in_err-store-clause-tried
returns-in_err-store-clause-tried g c =
    on_err c.from_residual.result _ (tried_none c.args.file.now c.args.proxy c.args.plan.now (g.S.Stores.depot c.args.stores.now) (g.S.Stores.depot c.make.new.self) c.in_err-store.ensures.refused)

pub returns-in-Err-clause-tried : goal.returns-in-Err-clause-tried
returns-in-Err-clause-tried g c =
    tried_one c.args.file.now c.args.proxy c.args.plan.now (g.S.Keeper.Keeper.told c.in_ok-store.store) (g.S.Keeper.Keeper.told c.in-Err.store) (g.S.Keeper.Keeper.faults c.in-Err.store) (g.S.Stores.depot c.args.stores.now) (g.S.Stores.depot c.make.new.self)
    (g.S.Stores.depot c.finish.new.self) (subst (λ (ts : List Table). IfSome (g.S.Keeper.Keeper.told c.in_ok-store.store) (λ rows. rows ≡ map (λ (t : Table). t.first) ts)) c.as_slice.ensures c.in_ok-store.ensures.keeper.rows) c.in-Err.ensures.back
    (c.in_ok-store.ensures.made ∙ ap (λ (ts : List Table). with_made c.args.file.now c.args.proxy ts (g.S.Stores.depot c.args.stores.now)) c.as_slice.ensures) c.finish.ensures

pub returns-in-Ok-clause-held : goal.returns-in-Ok-clause-held
returns-in-Ok-clause-held g c =
    subst (HasFirstRows c.args.plan.now) (sym c.in-Ok.ensures.held)
    (subst (λ (ts : List Table). IfSome (g.S.Keeper.Keeper.told c.in_ok-store.store) (λ rows. rows ≡ map (λ (t : Table). t.first) ts)) c.as_slice.ensures c.in_ok-store.ensures.keeper.rows)

pub returns-in-Ok-clause-made : goal.returns-in-Ok-clause-made
returns-in-Ok-clause-made g c =
    c.in_ok-store.ensures.made ∙ ap (λ (ts : List Table). with_made c.args.file.now c.args.proxy ts (g.S.Stores.depot c.args.stores.now)) c.as_slice.ensures
