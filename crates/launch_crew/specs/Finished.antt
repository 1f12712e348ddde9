-- What is told of children that were started and finished, against what was seen of their services' cells.
use Rattle.std.specs.Prelude.{◌≡◌, ◌⊎◌, ◌≤◌, ℕ, zero, suc, ◌+◌, Bool, true, false, not, List, [], ◌∷◌, ◌++◌, Option, Some, None, IfSome, ◌==◌, ◌&&◌, if◌then◌else◌, count_by, nat_lt}
use Rattle.std.specs.Io.KnownBytes.{Consumes}
use Rattle.okws_base.specs.Runs.{Each}
use Rattle.okws_base.specs.Turns.{Behind}
use Rattle.okws_plan.specs.declared.configuration.Config.{Config}
use Rattle.okws_outer.specs.Families.{Family, child_named, with_start, with_end}
use Rattle.okws_outer.specs.Lives.{Life, new_life}
use Rattle.okws_outer.specs.Wire.{Wire}
use Rattle.okws_outer.specs.declared.children.ChildEnd.{ChildEnd}
use Rattle.frame_codec.specs.Spelling.{server_spelling}
use Rattle.monitor_model.specs.declared.record.CellEvent.{CellEvent}
use Rattle.monitor_model.specs.declared.record.CellEvent.TheVariants as cell
use Rattle.monitor_model.specs.Cell.{boot_frame, heard, incarnation, last_booted}
use Rattle.monitor_model.specs.Sent.{IsGiven, broken_in, is_link_fault}
use Rattle.site_cells.specs.Held.{CountsFaults, is_broken}
use Rattle.site_cells.specs.Taken.{HasTaken}
use Rattle.site_cells.specs.Row.{CellsSeen, link_at, seen_at}
use Rattle.launch_crew.specs.Crews.{CrewIs, child_of}
use Rattle.launch_crew.specs.Told.{Finishes}

-- How many dialogs ended by a fault of their links, by these events of a cell: each while an incarnation was there.
abbrev pub faults_in : List CellEvent → ℕ
faults_in [] = 0
faults_in (cell.Boot k ∷ J) = faults_in J
faults_in (cell.Retired ∷ J) = faults_in J
faults_in (cell.Missed worker wanted is ∷ J) = faults_in J
faults_in (cell.Dialog d ∷ J) = if is_link_fault d.end && not (incarnation J == 0) then 1 + faults_in J else faults_in J
faults_in (cell.Speaking worker items ∷ J) = faults_in J

-- The same before the last Boot.
abbrev pub faults_before : List CellEvent → ℕ
faults_before [] = 0
faults_before (cell.Boot k ∷ J) = faults_in J
faults_before (cell.Retired ∷ J) = faults_before J
faults_before (cell.Missed worker wanted is ∷ J) = faults_before J
faults_before (cell.Dialog d ∷ J) = faults_before J
faults_before (cell.Speaking worker items ∷ J) = faults_before J

-- Those of links that are out: before the last Boot, where the last link is there.
abbrev pub faults_out : Bool → List CellEvent → ℕ
faults_out true J = faults_before J
faults_out false J = faults_in J

-- Those at the cell of s, as far as was seen.
abbrev pub out_at : CellsSeen → ℕ → ℕ
out_at w s = faults_out (link_at w s) (seen_at w s)

-- Those at the cells of the first n services.
abbrev pub all_out : CellsSeen → ℕ → ℕ
all_out w zero = 0
all_out w (suc n) = out_at w n + all_out w n

-- One, where this holds.
abbrev pub one_if : Bool → ℕ
one_if b = if b then 1 else 0

-- A call of the child's link had failed.
abbrev pub has_fault : ChildEnd → Bool
has_fault e = nat_lt 0 e.faults

-- The child was the last incarnation that was booted at the cell of its service when that was left empty, behind these events. Its link is the one that led to it: that was given what the incarnation heard, from it was taken what that said, and a call of it had failed exactly where a fault ended a dialog of the incarnation.
pub record EndsAt (C : Config) (seed : List ℕ) (watch : CellsSeen) (e : ChildEnd) : Type 0 where
  pub events : List CellEvent
  pub behind : Behind events (seen_at watch e.service)
  pub empty : incarnation events ≡ 0
  pub last : e.incarnation ≡ last_booted events
  pub whose : e.whose ≡ Some (child_named e.service e.incarnation)
  pub given : IsGiven (heard C seed e.service (last_booted events) events) (broken_in (last_booted events) events) e.given
  pub taken : HasTaken (last_booted events) events e.came e.left
  pub faults : CountsFaults (is_broken events) e.faults

-- The child that stood so was finished so, and no other call was made. At most its fault is one more of a link that is out.
pub record EndsAs (C : Config) (seed : List ℕ) (before watch : CellsSeen) (life : Life) (f g : Family) : Type 0 where
  pub child : ChildEnd
  pub is : Finishes (child ∷ []) f g
  pub service_is : child.service ≡ life.service
  pub incarnation_is : child.incarnation ≡ life.incarnation
  pub at : EndsAt C seed watch child
  pub out : (n : ℕ) → all_out watch n ≤ all_out before n + one_if (has_fault child)

-- The same where there is a child, and no call where there is none.
abbrev pub EndsOf : Config → List ℕ → CellsSeen → CellsSeen → Option Life → Family → Family → Type 0
EndsOf C seed before watch None f g = (g ≡ f) × ((n : ℕ) → all_out watch n ≤ all_out before n)
EndsOf C seed before watch (Some life) f g = EndsAs C seed before watch life f g

-- The child was incarnation k of s.
abbrev pub is_end_of : ℕ → ℕ → ChildEnd → Bool
is_end_of s k e = (e.service == s) && (e.incarnation == k)

-- How many children run as incarnation k of one service.
abbrev pub runs_as : Option Life → ℕ → ℕ
runs_as None k = 0
runs_as (Some life) k = if life.incarnation == k then 1 else 0

-- All children that ran were finished so, and no other call was made. No cell has its link any more.
pub record EndsAll (C : Config) (seed : List ℕ) (watch : CellsSeen) (c : CrewIs) (g : Family) : Type 0 where
  pub ends : List ChildEnd
  pub is : Finishes ends c.family g
  pub each : Each (EndsAt C seed watch) ends
  pub all : (s k : ℕ) → count_by (is_end_of s k) ends ≡ runs_as (child_of c s) k
  pub out : (n : ℕ) → all_out watch n ≤ all_out c.watch n + count_by has_fault ends
  pub unlinked : (s : ℕ) → link_at watch s ≡ false

-- A front of the text was given, where the link tells.
abbrev pub IsFront : List ℕ → Option (List ℕ) → Type 0
IsFront text given = IfSome given (λ front. (rest : List ℕ) × (front ++ rest ≡ text))

-- The child of incarnation k of s was started with these words, and no other call was made.
abbrev pub StartsChild : ℕ → ℕ → List (List ℕ) → Family → Family → Type 0
StartsChild s k words f g = (wire : Wire) × (g ≡ with_start s k words wire f)

-- The child of incarnation k of s was finished, of which nothing was asked, and no other call was made. Over its own link it was given a front of its Boot frame, and nothing was taken that came from it.
abbrev pub PlacesNone : Config → List ℕ → ℕ → ℕ → Family → Family → Type 0
PlacesNone C seed s k f g =
    (last : Wire) × (g ≡ with_end (new_life s k) last f) × IsFront (server_spelling (boot_frame C seed s k)) last.given
    × (last.whose ≡ Some (child_named s k)) × Consumes last.came last.left []

-- The child of incarnation k of s was started with these words and finished, and no other call was made. Over its own link it was given a front of its Boot frame, and nothing was taken that came from it.
pub record StartsInVain (C : Config) (seed : List ℕ) (s k : ℕ) (words : List (List ℕ)) (f g : Family) : Type 0 where
  pub first : Wire
  pub last : Wire
  pub is : g ≡ with_end (new_life s k) last (with_start s k words first f)
  pub front : IsFront (server_spelling (boot_frame C seed s k)) last.given
  pub whose : last.whose ≡ Some (child_named s k)
  pub untaken : Consumes last.came last.left []

-- No child was started: a start may have failed. Or one was started in vain.
abbrev pub StartsNone : Config → List ℕ → ℕ → ℕ → List (List ℕ) → Family → Family → Type 0
StartsNone C seed s k words f g = (g ≡ record f { faults = g.faults }) ⊎ StartsInVain C seed s k words f g
