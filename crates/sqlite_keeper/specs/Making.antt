-- How the tables of a database are made, or kept.
use Rattle.std.specs.Prelude.{◌≡◌, ◌≢◌, ◌⊎◌, ℕ, ◌+◌, ◌≤◌, true, false, List, [], ◌∷◌, map, length, Result, Ok, Err, OnOk}
use Rattle.sqlite.specs.Store.{Ghosts}
use Rattle.sqlite.specs.View.{doubt}
use Rattle.sqlite.specs.Held.{Held, state}
use Rattle.sqlite.specs.State.{State, HasCleanDisk, ExecutesInside, Shown, FailsToQuery, Shows, IsTooLate, KeepsCommit}
use Rattle.sqlite.specs.Steps.{FailsToCommit}
use Rattle.sqlite.specs.declared.error.Error.{Error}
use Rattle.sqlite.specs.declared.error.Error.TheVariants.{SqliteFailure}
use Rattle.sqlite.specs.declared.error.ErrorCode.TheVariants.{OutOfMemory}
use Rattle.sqlite.specs.declared.types.Value.{Value as SqlValue}
use Rattle.sqlite.specs.declared.types.Value.TheVariants as sql
use Rattle.okws_base.specs.declared.value.Value.{Value}
use Rattle.okws_plan.specs.declared.configuration.Table.{Table}
use Rattle.okws_outer.specs.declared.error.MakeError.{MakeError}
use Rattle.okws_outer.specs.declared.error.MakeError.TheVariants.{Failed, NoMemory}
use Rattle.sqlite_keeper.specs.Texts.{table_name, create_sql, insert_sql, schema_sql}
use Rattle.sqlite_keeper.specs.Values.{stored}

-- Why the database's error leaves no keeper.
abbrev pub make_reason : Error → MakeError
make_reason (SqliteFailure OutOfMemory) = NoMemory
make_reason _ = Failed

-- What the making of tables answers.
abbrev pub Made : Type 0
Made = Result (Unit {0}) MakeError

-- What a call does to the database that a connection shows before it and after it, and what it answers.
abbrev pub Deed : Type 0 → Type 1
Deed S = Held S → Held S → Made → Type 0

-- What the database shows of a table that is there and was made by this text.
abbrev pub made_by : List ℕ → List (List SqlValue)
made_by text = (sql.Text text ∷ []) ∷ []

-- Memory was wanting before anything was done.
abbrev pub IsOut : {S : Type 0} → Deed S
IsOut old new made = (made ≡ Err NoMemory) × (new ≡ old)

-- One deed after the other; the first that fails is the last.
abbrev pub Then : {S : Type 0} → Deed S → Deed S → Deed S
Then {S} First Next old new made =
    ((why : MakeError) × (made ≡ Err why) × First old new (Err why)) ⊎ ((mid : Held S) × First old mid (Ok tt) × Next mid new made)

-- A deed for each item in turn, the first of which has number t; the first that fails is the last.
abbrev pub InTurn : {S X : Type 0} → (ℕ → X → Deed S) → ℕ → List X → Deed S
InTurn Does t [] old new made = (made ≡ Ok tt) × (new ≡ old)
InTurn Does t (x ∷ more) old new made = Then (Does t x) (InTurn Does (t + 1) more) old new made

module _ {S : Type 0} (g : Ghosts S) where
  -- A statement is handed to the database, inside a transaction.
  abbrev pub Hands : List ℕ → List SqlValue → Deed S
  Hands text values old new (Ok done) = (count : ℕ) × ExecutesInside 0 text values (state g old) (state g new) (Ok count)
  Hands text values old new (Err why) = (e : Error) × ExecutesInside 0 text values (state g old) (state g new) (Err e) × (why ≡ make_reason e)

  abbrev pub Inserts : List ℕ → ℕ → List Value → Deed S
  Inserts text n row old new made = IsOut old new made ⊎ Hands text (map stored row) old new made

  -- A table is made, and its first rows are inserted.
  abbrev pub Creates : ℕ → Table → Deed S
  Creates t table old new made =
      IsOut old new made ⊎ Then (Hands (create_sql t table) []) (InTurn (Inserts (insert_sql t (length table.columns))) 0 table.first) old new made

  -- By what the database shows of a table: one that isn't there is made and filled; one that was made by the very text of the declared table, with all its names, is kept as it is; any other is refused.
  abbrev pub IsSettled : ℕ → Table → List (List SqlValue) → Deed S
  IsSettled t table shown old new made =
      ((shown ≡ []) × Creates t table old new made)
      ⊎ ((shown ≢ []) × (new ≡ old)
      × (((shown ≡ made_by (create_sql t table)) × (made ≡ Ok tt)) ⊎ ((shown ≢ made_by (create_sql t table)) × (made ≡ Err Failed))))

  -- The database is asked how table t was made, and it is settled by what it shows.
  abbrev pub Asks : ℕ → Held S → Held S → Result (List (List SqlValue)) MakeError → Type 0
  Asks t old new (Ok shown) = Shown schema_sql (sql.Text (table_name t) ∷ []) (state g old) (state g new) shown
  Asks t old new (Err why) =
      (e : Error) × (FailsToQuery schema_sql (sql.Text (table_name t) ∷ []) (state g old) (state g new) e ⊎ IsTooLate schema_sql (sql.Text (table_name t) ∷ []) (state g old) (state g new) e)
      × (why ≡ make_reason e)

  abbrev pub Prepares : ℕ → Table → Deed S
  Prepares t table old new made =
      IsOut old new made
      ⊎ (((why : MakeError) × (made ≡ Err why) × Asks t old new (Err why))
      ⊎ ((mid : Held S) × (shown : List (List SqlValue)) × Asks t old mid (Ok shown) × IsSettled t table shown mid new made))

  -- The tables, all in one transaction.
  abbrev pub PreparesAll : List Table → Deed S
  PreparesAll tables old new made = InTurn Prepares 0 tables (record old { in_transaction = true }) new made

  -- Each table was made and filled or kept, and this was committed.
  abbrev pub IsMade : List Table → Held S → Held S → Type 0
  IsMade tables old new = (last : Held S) × PreparesAll tables old last (Ok tt) × Shows (state g last) (state g new) (state g last).now (state g last).now false

  -- Why there is no keeper: the connection was inside a transaction, a table was refused, or the commit failed.
  abbrev pub IsUnmade : List Table → Held S → Held S → MakeError → Type 0
  IsUnmade tables old new why =
      ((old.in_transaction ≡ true) × (why ≡ Failed))
      ⊎ ((last : Held S) × (PreparesAll tables old last (Err why) ⊎ (PreparesAll tables old last (Ok tt) × (e : Error) × FailsToCommit (state g last) (state g new) e × (why ≡ make_reason e))))

  -- A step inside a transaction: no fault is forgotten, no limit is set, nothing is committed, and it stays inside where it succeeds.
  pub record Steps {T : Type 0} (old new : Held S) (made : Result T MakeError) (Did : Type 0) : Type 0 where
    pub clean : doubt (state g old).is_clean ≤ doubt (state g new).is_clean
    pub limit : new.step_limit ≡ old.step_limit
    pub did : HasCleanDisk (state g new) → Did
    pub inside : HasCleanDisk (state g new) → OnOk made (new.in_transaction ≡ true)
    pub kept : HasCleanDisk (state g new) → KeepsCommit (state g old) (state g new)
