use Rattle.std.proofs.Common.{◌≡◌, refl, true, List, [], ◌∷◌, ℤ}
use Rattle.okws_base.specs.declared.value.Value.{Value}
use Rattle.okws_base.specs.declared.value.Value.TheVariants.{Int}
use Rattle.okws_plan.specs.Fits.{fits}
use Rattle.okws_plan.specs.Rules.{keeps_rules}
use Rattle.okws_plan.specs.declared.configuration.Table.{Table}
use Rattle.okws_plan.specs.declared.statement.Statement.{Statement}
use Rattle.system_tests.specs.Example.{tables, IsInsertion}

-- The statement of the example keeps the rules.
pub lawful : (T : List Table) (st : Statement) → T ≡ tables → IsInsertion st → keeps_rules T st ≡ true
lawful T st here is = rw (here, is) refl

-- It takes two numbers.
pub fitting : (st : Statement) (a b : ℤ) → IsInsertion st → fits st.parameters (Int a ∷ Int b ∷ []) ≡ true
fitting st a b is = rw is refl
