-- What is told of the children of a run, as its launcher knows it.
use Rattle.std.specs.Prelude.{◌≡◌, ◌⊎◌, ⊤, ℕ, ◌+◌, ◌<◌, ◌≤◌, Bool, false, List, [], ◌∷◌, ◌++◌, Option, Some, None, IsTrue, ◌==◌, ◌&&◌, count_by, length, slice_get}
use Rattle.std.specs.Io.KnownBytes.{Consumes}
use Rattle.std.specs.List.{list_any}
use Rattle.okws_base.specs.Runs.{Each}
use Rattle.okws_base.specs.declared.journal.Entry.{Entry}
use Rattle.okws_plan.specs.declared.configuration.Config.{Config}
use Rattle.okws_plan.specs.declared.configuration.ServicePlan.{ServicePlan}
use Rattle.okws_plan.specs.declared.event.LauncherEvent.{LauncherEvent}
use Rattle.okws_outer.specs.Families.{Family, child_named}
use Rattle.okws_outer.specs.declared.children.ChildEnd.{ChildEnd}
use Rattle.okws_outer.specs.declared.children.ChildStart.{ChildStart}
use Rattle.frame_codec.specs.Spelling.{server_spelling}
use Rattle.monitor_model.specs.declared.record.Own.{Own}
use Rattle.monitor_model.specs.declared.record.Own.TheVariants as own
use Rattle.monitor_model.specs.Cell.{boot_frame}
use Rattle.monitor_model.specs.Launcher.{begun}
use Rattle.site_cells.specs.Row.{CellsSeen}
use Rattle.launch_crew.specs.Crews.{CrewIs, running_at}
use Rattle.launch_crew.specs.Finished.{EndsAt, IsFront, is_end_of, runs_as}

-- The words of a service's program, none where there is no such service.
abbrev pub words_in : Option ServicePlan → List (List ℕ)
words_in None = []
words_in (Some plan) = plan.words

-- The words of the program of service s.
abbrev pub words_of : Config → ℕ → List (List ℕ)
words_of C s = words_in (slice_get C.services s)

-- The child was started as an incarnation of a service of the site, by the words of its program.
pub record IsStart (C : Config) (e : ChildStart) : Type 0 where
  pub service_is : e.service < length C.services
  pub counted : 0 < e.incarnation
  pub words_are : e.words ≡ words_of C e.service

-- The child was started as incarnation k of s.
abbrev pub is_start_of : ℕ → ℕ → ChildStart → Bool
is_start_of s k e = (e.service == s) && (e.incarnation == k)

-- When the child was started, each child of its service that had been started earlier had been finished: of the children that were finished, the last one first, those of `before` had been by then, and so many others before them.
pub record IsAlone (old : ℕ) (x : ChildStart) (earlier : List ChildStart) (ends : List ChildEnd) : Type 0 where
  pub later : List ChildEnd
  pub before : List ChildEnd
  pub parts : ends ≡ later ++ before
  pub counted : x.after ≡ length before + old
  pub gone : (k : ℕ) → 0 < count_by (is_start_of x.service k) earlier → 0 < count_by (is_end_of x.service k) before

-- It is so of each of these children, of which the last one was started first: of each service one at most ran at a time.
abbrev pub AreAlone : ℕ → List ChildStart → List ChildEnd → Type 0
AreAlone old [] ends = ⊤
AreAlone old (x ∷ earlier) ends = IsAlone old x earlier ends × AreAlone old earlier ends

-- The item is the Boot of incarnation k of s.
abbrev pub is_boot : ℕ → ℕ → Own → Bool
is_boot s k (own.Boot t j) = (t == s) && (j == k)
is_boot s k _ = false

-- The child was given a front of its Boot frame at most, over its own link, nothing was taken that came from it, and its incarnation was not booted, by these items.
pub record IsVain (C : Config) (seed : List ℕ) (items : List Own) (e : ChildEnd) : Type 0 where
  pub given : IsFront (server_spelling (boot_frame C seed e.service e.incarnation)) e.given
  pub whose : e.whose ≡ Some (child_named e.service e.incarnation)
  pub untaken : Consumes e.came e.left []
  pub unbooted : list_any (is_boot e.service e.incarnation) items ≡ false

-- The child was finished: it was given what its incarnation heard, and what that said was taken of what came from it, as far as was seen of its service's cell; or its start failed, and it was given a front of its Boot frame at most, and then the launcher has no Boot of it.
abbrev pub IsEnd : Config → List ℕ → CellsSeen → List Own → ChildEnd → Type 0
IsEnd C seed watch items e = EndsAt C seed watch e ⊎ IsVain C seed items e

-- No child was started as incarnation k of s since `first` was told of them.
abbrev pub Unstarted : ℕ → ℕ → Family → Family → Type 0
Unstarted s k first now = count_by (is_start_of s k) now.started ≡ count_by (is_start_of s k) first.started

-- Since `first` was told of them, children of the site were started and finished: one at most of each incarnation, which was begun by the launcher's journal J, and one of each that the launcher booted; of each incarnation as many as were started were finished so or run; and of each service one at most ran at a time.
pub record AreKin (C : Config) (seed : List ℕ) (first : Family) (J : List (Entry LauncherEvent)) (c : CrewIs) : Type 0 where
  pub starts : List ChildStart
  pub started_is : c.family.started ≡ starts ++ first.started
  pub starts_are : Each (IsStart C) starts
  pub ends : List ChildEnd
  pub finished_is : c.family.finished ≡ ends ++ first.finished
  pub ends_are : Each (IsEnd C seed c.watch c.own) ends
  pub all : (s k : ℕ) → count_by (is_start_of s k) starts ≡ count_by (is_end_of s k) ends + runs_as (running_at c.running s) k
  pub once : (s k : ℕ) → count_by (is_start_of s k) starts ≤ 1
  pub alone : AreAlone (length first.finished) starts ends
  pub begun_are : (s k : ℕ) → begun J s < k → count_by (is_start_of s k) starts ≡ 0
  pub booted : (s k : ℕ) → IsTrue (list_any (is_boot s k) c.own) → 0 < count_by (is_start_of s k) starts
