-- What workers that take turns at columns enter.
use Rattle.std.specs.Prelude.{ℕ, List}
use Rattle.okws_base.specs.declared.journal.Entry.{Entry}

-- A column of numbers: what was entered, the newest first, the number that new entries name, and which column it is.
pub record LedgerIs : Type 0 where
  pub past : List (Entry ℕ)
  pub holder : ℕ
  pub label : ℕ

-- The worker that an entry names.
abbrev pub by_worker : Entry ℕ → ℕ
by_worker e = e.worker
