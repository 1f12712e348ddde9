-- What the database is handed, and what is answered of what it told.
use Rattle.std.specs.Prelude.{◌≡◌, ◌⊎◌, ⊤, ℕ, Bool, true, false, ◌&&◌, if◌then◌else◌, List, [], ◌++◌, map, length, All, Option, Some, None, Result, Ok, Err, IsTrue, OnErr, is_some}
use Rattle.sqlite.specs.Store.{Ghosts}
use Rattle.sqlite.specs.Held.{Held, state}
use Rattle.sqlite.specs.State.{State, Executes, Shown, FailsToQuery}
use Rattle.sqlite.specs.declared.error.Error.{Error}
use Rattle.sqlite.specs.declared.error.Error.TheVariants.{SqliteFailure}
use Rattle.sqlite.specs.declared.error.ErrorCode.TheVariants.{ConstraintViolation, OutOfMemory}
use Rattle.sqlite_schema.specs.declared.schema.Constraint.TheVariants.{Unique}
use Rattle.sqlite.specs.declared.types.Value.{Value as SqlValue}
use Rattle.okws_base.specs.declared.value.Value.{Value}
use Rattle.okws_base.specs.declared.value.Kind.{Kind}
use Rattle.okws_plan.specs.declared.configuration.Column.{Column}
use Rattle.okws_plan.specs.declared.configuration.Table.{Table}
use Rattle.okws_plan.specs.declared.statement.Action.{Action}
use Rattle.okws_plan.specs.declared.statement.Action.TheVariants.{Select, Insert, Update, Delete}
use Rattle.okws_plan.specs.declared.statement.Answer.{Answer}
use Rattle.okws_plan.specs.declared.statement.Answer.TheVariants.{Rows, Changed, Duplicate}
use Rattle.okws_plan.specs.declared.statement.Statement.{Statement}
use Rattle.okws_plan.specs.Meaning.{columns_of, key_place}
use Rattle.okws_plan.specs.Rules.{join_of}
use Rattle.okws_plan.specs.declared.statement.Join.{Join}
use Rattle.okws_outer.specs.declared.keeper.RunError.{RunError}
use Rattle.okws_outer.specs.declared.keeper.RunError.TheVariants.{Failed, NoMemory}
use Rattle.sqlite_keeper.specs.Texts.{sql_of}
use Rattle.sqlite_keeper.specs.Values.{stored, values_of, kinds_of, AreOfKinds}

-- Why the database's error leaves a statement without an answer: want of memory is told as such, and every other error is a fault.
abbrev pub reason : Error → RunError
reason (SqliteFailure OutOfMemory) = NoMemory
reason _ = Failed

-- The database told that a value is taken that may stand in one row only.
abbrev pub tells_taken : Error → Bool
tells_taken (SqliteFailure (ConstraintViolation Unique)) = true
tells_taken _ = false

-- What an INSERT answers, which is of one row, at a table that has a KEY or has none.
abbrev pub insert_answer : Bool → Result ℕ Error → Result Answer RunError
insert_answer keyed (Ok n) = Ok (Changed 1)
insert_answer keyed (Err e) = if keyed && tells_taken e then Ok Duplicate else Err (reason e)

-- What an UPDATE or a DELETE answers: how many rows the database told.
abbrev pub count_answer : Result ℕ Error → Result Answer RunError
count_answer (Ok n) = Ok (Changed n)
count_answer (Err e) = Err (reason e)

-- What is answered of what the database told of a write at a table of these columns.
abbrev pub answer_to : List Column → Action → Result ℕ Error → Result Answer RunError
answer_to columns (Select s) told = Err Failed
answer_to columns (Insert values) told = insert_answer (is_some (key_place columns)) told
answer_to columns (Update assignments conditions) told = count_answer told
answer_to columns (Delete conditions) told = count_answer told

-- The columns of the table that an action joins, if it does.
abbrev pub others_of : List Table → Option Join → List Column
others_of tables None = []
others_of tables (Some join) = columns_of tables join.table

-- Each row of an answer has as many values as it has columns.
abbrev pub IsWide : Answer → Type 0
IsWide (Rows n rows) = All (λ (row : List Value). length row ≡ n) rows
IsWide (Changed n) = ⊤
IsWide Duplicate = ⊤

-- Where the database is still open, its rows and its tables are as they were, and so is what was committed.
abbrev pub KeepsRows : State → State → Type 0
KeepsRows old new = IsTrue new.is_open → (new.now ≡ old.now) × (new.committed ≡ old.committed)

module _ {S : Type 0} (g : Ghosts S) where
  -- The database showed these rows.
  abbrev pub Lists : List ℕ → List SqlValue → Held S → Held S → List (List Value) → Type 0
  Lists sql values old new rows = Shown sql values (state g old) (state g new) (map (λ (row : List Value). map stored row) rows)

  -- The database refused the query, and the rows are as they were; or it showed rows, for which memory was wanting, or which are not of the listed columns.
  abbrev pub IsUnlisted : List ℕ → List SqlValue → List Kind → Held S → Held S → RunError → Type 0
  IsUnlisted sql values kinds old new why =
      ((e : Error) × FailsToQuery sql values (state g old) (state g new) e × KeepsRows (state g old) (state g new) × (why ≡ reason e))
      ⊎ ((rows : List (List SqlValue)) × Shown sql values (state g old) (state g new) rows × (why ≡ Failed → ¬ All (AreOfKinds kinds) rows))

  -- Nothing was handed to the database: memory was wanting, or the connection is inside a transaction, where the keeper never leaves it.
  abbrev pub IsUnasked : Held S → Held S → RunError → Type 0
  IsUnasked old new why = (new ≡ old) × ((why ≡ NoMemory) ⊎ ((why ≡ Failed) × (old.in_transaction ≡ true)))

  -- The answer of a SELECT, or why there is none.
  abbrev pub ListsAs : List ℕ → List SqlValue → List Kind → Held S → Held S → Result Answer RunError → Type 0
  ListsAs sql values kinds old new (Ok (Rows n rows)) = (n ≡ length kinds) × Lists sql values old new rows
  ListsAs sql values kinds old new (Ok (Changed n)) = ⊥
  ListsAs sql values kinds old new (Ok Duplicate) = ⊥
  ListsAs sql values kinds old new (Err why) = IsUnasked old new why ⊎ IsUnlisted sql values kinds old new why

  -- The database carried a write out or refused it, which leaves the rows as they were; or it was not handed the write.
  abbrev pub WritesAs : List ℕ → List SqlValue → List Column → Action → Held S → Held S → Result Answer RunError → Type 0
  WritesAs sql values columns action old new result =
      ((why : RunError) × (result ≡ Err why) × IsUnasked old new why)
      ⊎ ((told : Result ℕ Error) × Executes sql values (state g old) (state g new) told × OnErr told (KeepsRows (state g old) (state g new)) × (result ≡ answer_to columns action told))

  -- An action at table t of these columns, which may join a table of those others, with these arguments, is handed to the database as its SQL and its values, and answered by what it told.
  abbrev pub ActsAs : List Column → List Column → ℕ → Action → List Value → Held S → Held S → Result Answer RunError → Type 0
  ActsAs columns others t (Select s) args old new result = ListsAs (sql_of (length columns) t (Select s)) (values_of args (Select s)) (kinds_of (columns ++ others) s.columns) old new result
  ActsAs columns others t (Insert values) args old new result = WritesAs (sql_of (length columns) t (Insert values)) (values_of args (Insert values)) columns (Insert values) old new result
  ActsAs columns others t (Update assignments conditions) args old new result =
      WritesAs (sql_of (length columns) t (Update assignments conditions)) (values_of args (Update assignments conditions)) columns (Update assignments conditions) old new result
  ActsAs columns others t (Delete conditions) args old new result = WritesAs (sql_of (length columns) t (Delete conditions)) (values_of args (Delete conditions)) columns (Delete conditions) old new result

  -- The same of a statement over these tables.
  abbrev pub RunsAs : List Table → Statement → List Value → Held S → Held S → Result Answer RunError → Type 0
  RunsAs tables st args old new result = ActsAs (columns_of tables st.table) (others_of tables (join_of st.action)) st.table st.action args old new result
