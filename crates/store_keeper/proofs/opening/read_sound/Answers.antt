use Rattle.std.proofs.Common.{◌∙◌, List, ap, inr, subst, sym}
use Rattle.std.specs.List.{list_all}
use Rattle.okws_plan.specs.Sound.{has_sound_rows}
use Rattle.okws_plan.specs.declared.configuration.Table.{Table}
use Rattle.store_keeper.specs.Alike.{AreAlike}
use Rattle.store_keeper.specs.Loading.{AreRead, ReadsUnsound}
use Rattle.store_keeper.proofs.Lawful.{plan_with}
use Rattle.store_keeper.proofs.Plans.{tables_sound}
use Rattle.store_keeper.proofs.Unsound.{unsound_read}
use Rattle.store_keeper.proofs.opening.read_sound.Goals as goal

pub returns-then-not-branch-clause-failed : goal.returns-then-not-branch-clause-failed
returns-then-not-branch-clause-failed g c = λ failed.
    let ts : List Table = c.args.plan.now.tables in
    let items : List Table = c.in-Ok.tables.items in
    let told = g.K.Keeper.told c.args.keeper.now in
    inr (subst (ReadsUnsound ts) (sym c.read_tables.ensures.told)
    (unsound_read ts items told c.requires.new.rows (subst (λ (xs : List Table). AreRead xs told 0 items) c.as_slice.ensures c.in-Ok.ensures.read) (subst (λ (xs : List Table). AreAlike items xs) c.as_slice.ensures c.in-Ok.ensures.alike)
    (tables_sound c.args.plan.now c.requires.sound) (ap (list_all has_sound_rows) (sym c.deref.ensures.value) ∙ sym c.in_ok-are_sound.ensures ∙ c.if-not-branch.true)))

pub returns-clause-sound : goal.returns-clause-sound
returns-clause-sound g c =
    let items : List Table = c.in-Ok.tables.items in
    plan_with c.args.plan.now items (subst (λ (xs : List Table). AreAlike items xs) c.as_slice.ensures c.in-Ok.ensures.alike) c.requires.sound
    (ap (list_all has_sound_rows) (sym c.deref.ensures.value) ∙ sym c.in_ok-are_sound.ensures ∙ c.if-not-branch.false)
