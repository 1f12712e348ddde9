-- What a keeper is asked for all rows of its tables, and what it answers.
use Rattle.std.specs.Prelude.{◌≡◌, ◌<◌, ℕ, suc, false, List, [], ◌∷◌, None, Some, Ok, length, slice_get}
use Rattle.std.specs.declared.option.Option.{Option}
use Rattle.okws_base.specs.declared.value.Value.{Value}
use Rattle.okws_plan.specs.Configuration.{numbered_from}
use Rattle.okws_plan.specs.Sound.{has_sound_rows}
use Rattle.okws_plan.specs.declared.configuration.Table.{Table}
use Rattle.okws_plan.specs.declared.statement.Statement.{Statement}
use Rattle.okws_plan.specs.declared.statement.Action.TheVariants.{Select}
use Rattle.okws_plan.specs.declared.statement.Answer.TheVariants.{Rows}
use Rattle.okws_outer.specs.Keeping.{Runs}

-- The SELECT of all columns and all rows of table t, which has so many columns.
abbrev pub whole_of : ℕ → ℕ → Statement
whole_of t columns = record { table = t; parameters = []; action = Select (record { join = None; columns = numbered_from 0 columns; conditions = []; order = None; limit = None }) }

-- The rows that table n begins with.
abbrev pub first_in : Option Table → List (List Value)
first_in None = []
first_in (Some table) = table.first

-- The first rows of table n are what a keeper that was made for these tables, and tells this, answers to the SELECT of the whole table. Of no columns nothing is asked, and they stay.
pub record IsReadAt (tables : List Table) (told : Option (List (List (List Value)))) (n : ℕ) (t : Table) : Type 0 where
  pub asked : 0 < length t.columns → Runs tables (whole_of n (length t.columns)) [] told told (Ok (Rows (length t.columns) t.first))
  pub unasked : length t.columns ≡ 0 → t.first ≡ first_in (slice_get tables n)

-- So are those of these tables, the first of which has number n.
abbrev pub AreRead : List Table → Option (List (List (List Value))) → ℕ → List Table → Type 0
AreRead tables told n [] = Unit {0}
AreRead tables told n (t ∷ ts) = IsReadAt tables told n t × AreRead tables told (suc n) ts

-- A keeper that was made for these tables tells no rows, and what it answers for one of them is not sound.
pub record ReadsUnsound (tables : List Table) (told : Option (List (List (List Value)))) : Type 0 where
  pub silent : told ≡ None
  pub at : ℕ
  pub read : Table
  pub answered : IsReadAt tables told at read
  pub unsound : has_sound_rows read ≡ false
