-- A statement that the database refuses outside a transaction leaves the rows as they were.
use Rattle.std.proofs.Common.{◌≡◌, ◌⊎◌, inl, inr, ℕ, List, Bool, true, false, Option, None, Some, Result, Ok, Err, IsTrue, OnErr, sym, ◌∙◌}
use Rattle.std.proofs.lemmas.Bool.{cases_Bool}
use Rattle.sqlite.specs.Order.{Row}
use Rattle.sqlite.specs.declared.error.Error.{Error}
use Rattle.sqlite.specs.State.{State, IsUnchanged, IsRolledBack, RunsCommand, IsNotRun, ExecutesIn, Executes, FailsToShow, FailsToQuery, shows_rows}
use Rattle.sqlite_resolve.specs.declared.compiled.Compiled.{Compiled}
use Rattle.sqlite_schema.specs.declared.command.Returning.{Returning}
use Rattle.sqlite_keeper.specs.Asking.{KeepsRows}

pub unchanged_keeps : (old new : State) → IsUnchanged old new → KeepsRows old new
unchanged_keeps old new h still = (h.0.now_is, h.0.committed_is)

module _ (old new : State) (settled : IsTrue old.is_open → old.now ≡ old.committed) where
  pub rolled_keeps : IsRolledBack old new → KeepsRows old new
  rolled_keeps h still = let undone = h.undone still in (undone.0 ∙ sym (settled (h.was_open still)), undone.1)

  command_keeps : (sql : List ℕ) (c : Compiled) (params : Row) (e : Error) → RunsCommand old new sql c params (Err e) → KeepsRows old new
  command_keeps sql c params e (inl h) = unchanged_keeps old new h.1
  command_keeps sql c params e (inr h) = rolled_keeps h.3

  not_run_keeps : (sql : List ℕ) (params : Row) (e : Error) → IsNotRun old new sql params e → KeepsRows old new
  unfolding IsNotRun
  not_run_keeps sql params e (inl h) = unchanged_keeps old new h.1
  not_run_keeps sql params e (inr h) = rolled_keeps h.3

  refused_keeps : (sql : List ℕ) (params : Row) (e : Error) → Executes sql params old new (Err e) → KeepsRows old new
  unfolding ExecutesIn
  refused_keeps sql params e (inl h) = not_run_keeps sql params e h
  refused_keeps sql params e (inr h) = elim (cases_Bool (shows_rows false h.0)) [
    | inl shows ↦ unchanged_keeps old new (rw shows at h.2).1
    | inr runs ↦ command_keeps sql h.0 _ e (rw runs at h.2)
  ]

  pub told_keeps : (sql : List ℕ) (params : Row) (told : Result ℕ Error) → Executes sql params old new told → OnErr told (KeepsRows old new)
  told_keeps sql params (Ok n) h = tt
  told_keeps sql params (Err e) h = refused_keeps sql params e h

  show_keeps : (sql : List ℕ) (c : Compiled) (params : Row) (e : Error) (returning : Option Returning) → FailsToShow old new sql c params e returning → KeepsRows old new
  show_keeps sql c params e None h = unchanged_keeps old new h.3
  show_keeps sql c params e (Some what) h = command_keeps sql c params e h

  pub query_keeps : (sql : List ℕ) (params : Row) (e : Error) → FailsToQuery sql params old new e → KeepsRows old new
  unfolding FailsToQuery
  query_keeps sql params e (inl h) = not_run_keeps sql params e h
  query_keeps sql params e (inr h) = show_keeps sql h.0 _ e h.0.returning h.2
