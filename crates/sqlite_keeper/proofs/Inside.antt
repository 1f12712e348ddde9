-- A query inside a transaction commits nothing and stays inside.
use Rattle.std.proofs.Common.{◌≡◌, ◌⊎◌, inl, inr, ℕ, List, Bool, true, false, Option, None, Some, Ok, Err, IsTrue, ◌∙◌}
use Rattle.std.proofs.lemmas.Bool.{cases_Bool}
use Rattle.sqlite.specs.Order.{Row}
use Rattle.sqlite.specs.declared.error.Error.{Error}
use Rattle.sqlite.specs.State.{State, IsUnchanged, IsRolledBack, KeepsCommit, RunsCommand, IsNotRun, FailsToShow, FailsToQuery, IsTooLate, ShowsRows, Shown}
use Rattle.sqlite_resolve.specs.declared.compiled.Compiled.{Compiled}
use Rattle.sqlite_schema.specs.declared.command.Returning.{Returning}

module _ (old new : State) where
  unchanged_commits : IsUnchanged old new → KeepsCommit old new
  unchanged_commits h = record { was_open = λ still. h.0.was_open; committed = λ still. h.0.committed_is }

  rolled_commits : IsRolledBack old new → KeepsCommit old new
  rolled_commits h = record { was_open = h.was_open; committed = λ still. (h.undone still).1 }

  command_commits : (sql : List ℕ) (c : Compiled) (params : Row) (e : Error) → RunsCommand old new sql c params (Err e) → KeepsCommit old new
  command_commits sql c params e (inl h) = unchanged_commits h.1
  command_commits sql c params e (inr h) = rolled_commits h.3

  not_run_commits : (sql : List ℕ) (params : Row) (e : Error) → IsNotRun old new sql params e → KeepsCommit old new
  unfolding IsNotRun
  not_run_commits sql params e (inl h) = unchanged_commits h.1
  not_run_commits sql params e (inr h) = rolled_commits h.3

  failed_commits : (sql : List ℕ) (c : Compiled) (params : Row) (e : Error) (returning : Option Returning) → FailsToShow old new sql c params e returning → KeepsCommit old new
  failed_commits sql c params e None h = unchanged_commits h.3
  failed_commits sql c params e (Some what) h = command_commits sql c params e h

  query_commits : (sql : List ℕ) (params : Row) (e : Error) → FailsToQuery sql params old new e → KeepsCommit old new
  unfolding FailsToQuery
  query_commits sql params e (inl h) = not_run_commits sql params e h
  query_commits sql params e (inr h) = failed_commits sql h.0 _ e h.0.returning h.2

  pub refused_commits : (sql : List ℕ) (params : Row) (e : Error) → FailsToQuery sql params old new e ⊎ IsTooLate sql params old new e → KeepsCommit old new
  refused_commits sql params e (inl h) = query_commits sql params e h
  refused_commits sql params e (inr h) = unchanged_commits h.5

  rows_inside : (sql : List ℕ) (c : Compiled) (params : Row) (rows : List Row) (returning : Option Returning) → old.in_transaction ≡ true → ShowsRows old new sql c params rows returning
      → (new.in_transaction ≡ true) × KeepsCommit old new
  rows_inside sql c params rows None inside h = (h.3.0.mode ∙ inside, unchanged_commits h.3)
  rows_inside sql c params rows (Some what) inside h =
      let shown = h.1.shown in
      (shown.mode ∙ inside, record { was_open = λ still. shown.was_open; committed = λ still. rw inside at shown.committed_is })

  pub shown_inside : (sql : List ℕ) (params : Row) (rows : List Row) → old.in_transaction ≡ true → Shown sql params old new rows → (new.in_transaction ≡ true) × KeepsCommit old new
  unfolding Shown
  shown_inside sql params rows inside h = rows_inside sql h.0 _ rows h.0.returning inside h.2
