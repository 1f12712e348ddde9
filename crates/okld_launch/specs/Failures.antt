-- That for each start that the launcher's journal marks Failed, and for each dialog that ended by a fault of its link, a fault was told of the children.
use Rattle.std.specs.Prelude.{◌≤◌, ℕ, ◌+◌, ◌-◌, ◌^◌, Bool, false, List, ◌==◌, ◌&&◌, Option, Some, None, if◌then◌else◌, nat_le, not, count_by, sum_by}
use Rattle.std.specs.List.{list_any}
use Rattle.okws_base.specs.declared.journal.Entry.{Entry}
use Rattle.okws_outer.specs.Families.{Family}
use Rattle.okws_outer.specs.Streams.{counted}
use Rattle.okws_outer.specs.declared.children.ChildEnd.{ChildEnd}
use Rattle.okws_plan.specs.declared.event.LauncherEvent.{LauncherEvent}
use Rattle.okws_plan.specs.declared.event.LauncherEvent.TheVariants.{Failed}
use Rattle.monitor_model.specs.Launches.{is_failed}
use Rattle.launch_crew.specs.Crews.{CrewIs}
use Rattle.launch_crew.specs.Finished.{all_out, has_fault}
use Rattle.launch_crew.specs.Told.{TellsMore}

-- A call of the child's link had failed, and the child was incarnation k of s.
abbrev pub is_faulty : ℕ → ℕ → ChildEnd → Bool
is_faulty s k e = (e.service == s) && ((e.incarnation == k) && has_fault e)

-- The event is a Failed of an incarnation of which these are no child whose link failed.
abbrev pub is_failed_start : List ChildEnd → LauncherEvent → Bool
is_failed_start ends (Failed s k) = not (list_any (is_faulty s k) ends)
is_failed_start ends _ = false

-- Since `first` was told of the children there was a fault for each Failed: together they are at most as many as the starts that failed and the children that were finished and whose link failed; and those of whose incarnation no such child was finished are at most as many as the starts that failed.
pub record FailuresAreTold (first : Family) (J : List (Entry LauncherEvent)) (now : Family) : Type 0 where
  pub more : TellsMore first now
  pub all : counted first.faults (count_by (λ (e : Entry LauncherEvent). is_failed e.event) J) ≤ now.faults + count_by has_fault more.ends
  pub starts : counted first.faults (count_by (λ (e : Entry LauncherEvent). is_failed_start more.ends e.event) J) ≤ now.faults

-- Since `first` was told of the children there was a fault for each Failed of the launcher's journal J, and for each dialog that ended by a fault of a link that is out: with those at the cells of the first n services, whatever n is, they are at most as many as the starts that failed, which were counted, and the children that were finished since and whose link failed.
pub record FaultsAreTold (first : Family) (J : List (Entry LauncherEvent)) (c : CrewIs) : Type 0 where
  pub by_starts : ℕ
  pub starts : counted first.faults by_starts ≤ c.family.faults
  pub all : (n : ℕ) → count_by has_fault first.finished + (count_by (λ (e : Entry LauncherEvent). is_failed e.event) J + all_out c.watch n) ≤ by_starts + count_by has_fault c.family.finished

-- How often calls failed, by what is told of the children: starts, and calls of the links of those that were finished.
abbrev pub children_count : Family → ℕ
children_count f = f.faults + sum_by (λ (e : ChildEnd). e.faults) f.finished

-- How much that count rose since `first` was told of the children; none where the count of the starts that failed stands at its last value.
abbrev pub children_rise : Family → Family → Option ℕ
children_rise first now = if nat_le (2 ^ 64 - 1) now.faults then None else Some (children_count now - children_count first)
