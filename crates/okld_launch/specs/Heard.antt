-- What is told of the children of a run, by its record: what they were given, and what was taken of what came from them.
use Rattle.std.specs.Prelude.{◌≡◌, ◌⊎◌, ℕ, ◌<◌, ◌≤◌, false, List, [], ◌++◌, Some, IsTrue, count_by, is_some, length}
use Rattle.std.specs.Io.KnownBytes.{Consumes}
use Rattle.std.specs.List.{list_any}
use Rattle.okws_base.specs.Runs.{Each}
use Rattle.okws_plan.specs.declared.configuration.Config.{Config}
use Rattle.okws_outer.specs.Families.{Family, child_named}
use Rattle.okws_outer.specs.declared.children.ChildEnd.{ChildEnd}
use Rattle.okws_outer.specs.declared.children.ChildStart.{ChildStart}
use Rattle.frame_codec.specs.Spelling.{server_spelling}
use Rattle.monitor_model.specs.declared.record.Record.{Record}
use Rattle.monitor_model.specs.declared.record.CellEvent.{CellEvent}
use Rattle.monitor_model.specs.Cell.{boot_frame, heard, incarnation, last_booted}
use Rattle.monitor_model.specs.First.{is_boot_of}
use Rattle.monitor_model.specs.Launcher.{begun}
use Rattle.monitor_model.specs.Merged.{cell_past}
use Rattle.monitor_model.specs.Sent.{IsGiven, broken_in}
use Rattle.site_cells.specs.Held.{CountsFaults}
use Rattle.site_cells.specs.Taken.{HasTaken}
use Rattle.launch_crew.specs.Finished.{IsFront, is_end_of}
use Rattle.okld_launch.specs.Kin.{AreAlone, IsStart, is_start_of}

-- Incarnation k is behind a cell: it was booted, or one above it, and it isn't there.
pub record IsBehind (k : ℕ) (J : List CellEvent) : Type 0 where
  pub first : 0 < k
  pub below : k ≤ last_booted J
  pub gone : incarnation J ≡ k → ⊥

-- The child was finished with its own link. It was given just what its incarnation heard by the record, or, where its link failed in a dialog, a front of the frame that was due there more; exactly then a fault of the link was counted. Of all that came from it, where its link tells, just what its incarnation said by the record was taken, in order; and some bytes more where a dialog ended by a bad frame, by a fault of the link, or because memory was refused.
pub record HasHeard (C : Config) (seed : List ℕ) (R : Record) (e : ChildEnd) : Type 0 where
  pub whose_is : e.whose ≡ Some (child_named e.service e.incarnation)
  pub given_is : IsGiven (heard C seed e.service e.incarnation (cell_past R e.service)) (broken_in e.incarnation (cell_past R e.service)) e.given
  pub said_is : HasTaken e.incarnation (cell_past R e.service) e.came e.left
  pub counted : CountsFaults (is_some (broken_in e.incarnation (cell_past R e.service))) e.faults

-- The child was finished with its own link: it was given a front of its Boot frame at most, nothing was taken that came from it, and its incarnation was not booted, by the record.
pub record WasVain (C : Config) (seed : List ℕ) (R : Record) (e : ChildEnd) : Type 0 where
  pub given : IsFront (server_spelling (boot_frame C seed e.service e.incarnation)) e.given
  pub whose_is : e.whose ≡ Some (child_named e.service e.incarnation)
  pub untaken : Consumes e.came e.left []
  pub unbooted : list_any (is_boot_of e.incarnation) (cell_past R e.service) ≡ false

-- The child was given what it heard, and it said what was taken of what came from it; or its start failed.
abbrev pub IsHeard : Config → List ℕ → Record → ChildEnd → Type 0
IsHeard C seed R e = HasHeard C seed R e ⊎ WasVain C seed R e

-- Since `first` was told of them, children were started, each by the words of its service's program, one at most of each incarnation, and one of each that was booted by the record; and just these were finished, each of which was given what it heard by the record and said by the record what was taken of what came from it, or whose start failed. Of each service one at most ran at a time.
pub record ChildrenAreTold (C : Config) (seed : List ℕ) (R : Record) (first now : Family) : Type 0 where
  pub starts : List ChildStart
  pub started_is : now.started ≡ starts ++ first.started
  pub starts_are : Each (IsStart C) starts
  pub ends : List ChildEnd
  pub finished_is : now.finished ≡ ends ++ first.finished
  pub ends_are : Each (IsHeard C seed R) ends
  pub all : (s k : ℕ) → count_by (is_start_of s k) starts ≡ count_by (is_end_of s k) ends
  pub once : (s k : ℕ) → count_by (is_start_of s k) starts ≤ 1
  pub alone : AreAlone (length first.finished) starts ends
  pub begun_are : (s k : ℕ) → begun R.launcher s < k → count_by (is_start_of s k) starts ≡ 0
  pub booted : (s k : ℕ) → IsTrue (list_any (is_boot_of k) (cell_past R s)) → 0 < count_by (is_start_of s k) starts
