-- Why a store and the rows beside it part.
use Rattle.std.specs.Prelude.{◌≢◌, List, Result, Ok}
use Rattle.std.specs.declared.option.Option.{Option}
use Rattle.okws_base.specs.declared.value.Value.{Value}
use Rattle.okws_plan.specs.declared.configuration.Table.{Table}
use Rattle.okws_plan.specs.declared.statement.Answer.{Answer}
use Rattle.okws_plan.specs.declared.statement.Statement.{Statement}
use Rattle.okws_outer.specs.Keeping.{Runs}
use Rattle.okws_outer.specs.declared.keeper.RunError.{RunError}

-- The store ran the statement, and what it told is not what was answered.
abbrev pub PartsBy : List Table → Statement → List Value → Option (List (List (List Value))) → Option (List (List (List Value))) → Result Answer RunError → Type 0
PartsBy tables statement args old new result = (told : Answer) × Runs tables statement args old new (Ok told) × (result ≢ Ok told)
