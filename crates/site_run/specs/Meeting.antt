-- What the numbers of a run's workers take in of what the launcher has seen, before the workers begin. Number n launches.
use Rattle.std.specs.Prelude.{◌≡◌, ◌<◌, ◌≤◌, ℕ, List, [], ◌∷◌, length}
use Rattle.std.specs.List.{AllByRecursion}
use Rattle.okws_base.specs.Turns.{Behind, GrowsBy, of}
use Rattle.okws_base.specs.declared.journal.Entry.{Entry}
use Rattle.okws_plan.specs.declared.configuration.Config.{Config}
use Rattle.okws_plan.specs.declared.event.OkdEvent.{OkdEvent}
use Rattle.monitor_model.specs.declared.record.CellEvent.{CellEvent}
use Rattle.named_columns.specs.Launched.{by_entry}
use Rattle.site_cells.specs.Held.{by_event}
use Rattle.site_cells.specs.Row.{CellsSeen, OnlyAt, seen_at}
use Rattle.site_locks.specs.Sat.{Sat}
use Rattle.launch_turns.specs.Deeds.{by_deed}
use Rattle.launch_turns.specs.Standing.{BootsStand, UpsStand}
use Rattle.launch_turns.specs.declared.deed.Deed.{Deed}
use Rattle.site_run.specs.Opening.{seen_first}
use Rattle.site_run.specs.Rows.{ChairsAre}

-- Each of these went on so, in order.
abbrev pub AllGo : {X : Type 0} → (X → X → Type 0) → List X → List X → Type 0
AllGo goes [] [] = Unit {0}
AllGo goes [] (b ∷ bs) = ⊥
AllGo goes (a ∷ as') [] = ⊥
AllGo goes (a ∷ as') (b ∷ bs) = goes a b × AllGo goes as' bs

-- These entries of okd were seen too, and what is new there was entered by others; nothing else changed.
pub record MeetsOkd (J : List (Entry OkdEvent)) (a b : Sat) : Type 0 where
  pub is : b ≡ record a { okd = b.okd }
  pub grows : GrowsBy by_entry a.number a.okd b.okd
  pub met : Behind J b.okd

-- These events of the cell of s were seen too, and what is new there was entered by others; nothing else changed.
pub record MeetsCell (n s : ℕ) (J : List CellEvent) (a b : CellsSeen) : Type 0 where
  pub only : OnlyAt s a b
  pub grows : GrowsBy (by_event n) a.number (seen_at a s) (seen_at b s)
  pub met : Behind J (seen_at b s)

-- More may have been seen at each cell, which was entered by others.
pub record SeesCells (n : ℕ) (a b : CellsSeen) : Type 0 where
  pub number_is : b.number ≡ a.number
  pub cells_are : length b.cells ≡ length a.cells
  pub grows : (s : ℕ) → GrowsBy (by_event n) a.number (seen_at a s) (seen_at b s)

-- Each of these has seen the same events of the cell of s, among which is the Boot of each incarnation of s that came up in these turns at the launcher.
pub record AllBooted (s : ℕ) (deeds : List Deed) (cells : List CellsSeen) : Type 0 where
  pub events : List CellEvent
  pub stand : BootsStand s deeds events
  pub seen : AllByRecursion (λ (c : CellsSeen). Behind events (seen_at c s)) cells

-- These events of the cell of s were seen from all of these seats, of numbers from 0 on, none of which had entered anything; among them is the Boot of each incarnation of s that came up in these turns.
pub record StandsFirst (n s : ℕ) (deeds : List Deed) (cells : List CellsSeen) : Type 0 where
  pub events : List CellEvent
  pub stand : BootsStand s deeds events
  pub seen : AllByRecursion (λ (c : CellsSeen). Behind events (seen_at c s)) cells
  pub quiet : (w : ℕ) → w < length cells → of (by_event n) w events ≡ []

-- What came up in the turns that number 0 has seen at the launcher stands among these entries of okd, and its Boot in its cell, where no number below the launcher's has entered anything.
pub record IsShown (C : Config) (n : ℕ) (x : ChairsAre) (J : List (Entry OkdEvent)) : Type 0 where
  pub ups : UpsStand (seen_first x.turns) J
  pub quiet : (w : ℕ) → w < length x.seats → of by_entry w J ≡ []
  pub boots : (s : ℕ) → s < length C.services → StandsFirst n s (seen_first x.turns) x.cells

-- That is so, unless a number behind them took a turn at the launcher.
abbrev pub HasShown : Config → ℕ → ChairsAre → List (Entry OkdEvent) → Type 0
HasShown C n x J = ((k : ℕ) → length x.turns ≤ k → of by_deed k (seen_first x.turns) ≡ []) → IsShown C n x J
