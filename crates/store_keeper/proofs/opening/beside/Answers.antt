use Rattle.std.proofs.Common.{List, Some, map, sym, subst}
use Rattle.okws_plan.specs.declared.configuration.Table.{Table}
use Rattle.store_keeper.specs.Alike.{HasRows}
use Rattle.store_keeper.proofs.Same.{has_read}
use Rattle.store_keeper.proofs.Plans.{tables_sound, told_same}
use Rattle.store_keeper.proofs.opening.beside.Goals as goal

pub new-requires-clause-same : goal.new-requires-clause-same
new-requires-clause-same g c =
    let ts : List Table = c.args.plan.now.tables in
    let items : List Table = c.in-Ok.tables.items in
    let told = g.K.Keeper.told c.args.store in
    subst (λ (xs : List Table). HasRows (g.K.Keeper.told c.read_sound.new.keeper) (Some (map (λ (t : Table). t.first) xs))) (sym c.deref.ensures.value)
    (subst (λ o. HasRows o (Some (map (λ (t : Table). t.first) items))) (sym c.read_sound.ensures.told)
    (has_read ts items told c.requires.new.rows c.in-Ok.ensures.read c.in-Ok.ensures.alike (tables_sound c.args.plan.now c.requires.sound)))

pub returns-in-Ok-new-clause-same : goal.returns-in-Ok-new-clause-same
returns-in-Ok-new-clause-same g c = λ some.
    let ts : List Table = c.args.plan.now.tables in
    let items : List Table = c.in-Ok.tables.items in
    let told = g.K.Keeper.told c.args.store in
    told_same items ts told some c.requires.new.rows (has_read ts items told c.requires.new.rows c.in-Ok.ensures.read c.in-Ok.ensures.alike (tables_sound c.args.plan.now c.requires.sound)) c.in-Ok.ensures.alike
