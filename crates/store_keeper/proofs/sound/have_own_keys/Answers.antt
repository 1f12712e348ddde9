use Rattle.std.proofs.Common.{◌≡◌, ◌∙◌, ℕ, Option, ap, subst, sym}
use Rattle.std.specs.Prelude.{IfOk}
use Rattle.okws_plan.specs.Sound.{are_distinct, same_key_at}
use Rattle.store_keeper.proofs.Keys.{none_apart}
use Rattle.store_keeper.proofs.sound.have_own_keys.Goals as goal

pub returns-in-None : goal.returns-in-None
returns-in-None c = sym (ap (λ (key : Option ℕ). are_distinct (same_key_at key) c.args.rows.now) (sym c.key_column.ensures ∙ c.in-None.is) ∙ none_apart c.args.rows.now)

pub returns-in-Some : goal.returns-in-Some
returns-in-Some c =
    subst (λ (key : Option ℕ). IfOk c.are_apart.result (λ own. own ≡ are_distinct (same_key_at key) c.args.rows.now)) (sym c.in-Some.is ∙ c.key_column.ensures) c.are_apart.ensures
