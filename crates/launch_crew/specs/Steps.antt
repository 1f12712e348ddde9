-- What each step of a launch of service s makes of the crew.
use Rattle.std.specs.Prelude.{◌≡◌, ◌≢◌, ◌<◌, ◌≤◌, ℕ, Bool, false, true, List, ◌∷◌, Option, Some, None, is_some, length, slice_set, ◌+◌}
use Rattle.okws_base.specs.Past.{standing_by}
use Rattle.okws_base.specs.declared.journal.Entry.{Entry}
use Rattle.okws_plan.specs.Configuration.{grants_at}
use Rattle.okws_plan.specs.declared.configuration.Config.{Config}
use Rattle.okws_plan.specs.declared.event.ProxyEvent.{ProxyEvent}
use Rattle.okws_plan.specs.declared.script.Place.{Place}
use Rattle.okws_outer.specs.Lives.{Life, Asks, new_life, stopped_life}
use Rattle.okws_outer.specs.declared.child.Ended.{Ended}
use Rattle.okws_outer.specs.Wire.{Wire}
use Rattle.monitor_model.specs.declared.record.Own.TheVariants as own
use Rattle.monitor_model.specs.Cell.{incarnation, last_booted}
use Rattle.monitor_model.specs.Launches.{with_retired}
use Rattle.monitor_model.specs.Seen.{proxy_past}
use Rattle.monitor_model.specs.Standing.{proxy_grant, pubd_grant, log_grant}
use Rattle.site_cells.specs.Row.{seen_at, link_at, OnlyAt}
use Rattle.site_locks.specs.Sat.{Sat}
use Rattle.named_columns.specs.Turns.{Stays}
use Rattle.launch_crew.specs.Crews.{CrewIs, StaffIs, child_of, running_at, up_of, stands_at, lasts_at, NoneStands}
use Rattle.launch_crew.specs.Finished.{all_out}
use Rattle.launch_crew.specs.Listed.{of_cells, CellsGo}
use Rattle.launch_crew.specs.Pasts.{Revoked, Installed, Grown}
use Rattle.launch_crew.specs.Told.{TellsMore, with_end_of}

-- Of the columns, a number has seen more of okd alone.
pub record OnlyOkd (s t : Sat) : Type 0 where
  pub number_is : t.number ≡ s.number
  pub proxies_is : t.proxies ≡ s.proxies
  pub pubd_is : t.pubd ≡ s.pubd
  pub oklogd_is : t.oklogd ≡ s.oklogd
  pub board_is : t.board ≡ s.board
  pub drawn_is : t.drawn ≡ s.drawn

-- The same of the proxies.
pub record OnlyProxies (s t : Sat) : Type 0 where
  pub number_is : t.number ≡ s.number
  pub okd_is : t.okd ≡ s.okd
  pub pubd_is : t.pubd ≡ s.pubd
  pub oklogd_is : t.oklogd ≡ s.oklogd
  pub board_is : t.board ≡ s.board
  pub drawn_is : t.drawn ≡ s.drawn

-- The same of pubd.
pub record OnlyPubd (s t : Sat) : Type 0 where
  pub number_is : t.number ≡ s.number
  pub okd_is : t.okd ≡ s.okd
  pub proxies_is : t.proxies ≡ s.proxies
  pub oklogd_is : t.oklogd ≡ s.oklogd
  pub board_is : t.board ≡ s.board
  pub drawn_is : t.drawn ≡ s.drawn

-- The same of oklogd.
pub record OnlyLog (s t : Sat) : Type 0 where
  pub number_is : t.number ≡ s.number
  pub okd_is : t.okd ≡ s.okd
  pub proxies_is : t.proxies ≡ s.proxies
  pub pubd_is : t.pubd ≡ s.pubd
  pub board_is : t.board ≡ s.board
  pub drawn_is : t.drawn ≡ s.drawn

-- The same of all columns but okd.
pub record OnlyColumns (s t : Sat) : Type 0 where
  pub number_is : t.number ≡ s.number
  pub okd_is : t.okd ≡ s.okd
  pub board_is : t.board ≡ s.board
  pub drawn_is : t.drawn ≡ s.drawn
  pub same_length : length t.proxies ≡ length s.proxies

-- The cells, the children and what is told of them are the same.
pub record SameHands (c d : CrewIs) : Type 0 where
  pub watch_is : d.watch ≡ c.watch
  pub running_is : d.running ≡ c.running
  pub family_is : d.family ≡ c.family

-- The past of proxy p may be another, and those of the other proxies are the same.
pub record SetsRow (p : ℕ) (xs ys : List (List (Entry ProxyEvent))) : Type 0 where
  pub same_length : length ys ≡ length xs
  pub others : (q : ℕ) → q ≢ p → proxy_past ys q ≡ proxy_past xs q

-- A number took a turn at proxy p alone.
pub record TurnsAt (p : ℕ) (s t : Sat) : Type 0 where
  pub only : OnlyProxies s t
  pub row : SetsRow p s.proxies t.proxies

-- What stood of s at the first p proxies was revoked.
pub record RevokesRow (s p : ℕ) (xs ys : List (List (Entry ProxyEvent))) : Type 0 where
  pub same_length : length ys ≡ length xs
  pub done : (q : ℕ) → q < p → Revoked proxy_grant s (proxy_past xs q) (proxy_past ys q)
  pub rest : (q : ℕ) → p ≤ q → Stays proxy_grant (proxy_past xs q) (proxy_past ys q)

-- Incarnation k of s was installed at proxy p, where s has a grant there.
pub record InstallsIf (C : Config) (s k p : ℕ) (J K : List (Entry ProxyEvent)) : Type 0 where
  pub granted : grants_at C s p ≡ true → Installed proxy_grant s k J K
  pub passed : grants_at C s p ≡ false → Stays proxy_grant J K

-- Incarnation k of s was installed at those of the first p proxies where s has a grant.
pub record InstallsRow (C : Config) (s k p : ℕ) (xs ys : List (List (Entry ProxyEvent))) : Type 0 where
  pub same_length : length ys ≡ length xs
  pub granted : (q : ℕ) → q < p → grants_at C s q ≡ true → Installed proxy_grant s k (proxy_past xs q) (proxy_past ys q)
  pub passed : (q : ℕ) → q < p → grants_at C s q ≡ false → Stays proxy_grant (proxy_past xs q) (proxy_past ys q)
  pub rest : (q : ℕ) → p ≤ q → Stays proxy_grant (proxy_past xs q) (proxy_past ys q)

-- Incarnation k of s may have been installed at pubd and at oklogd.
pub record InstallsRest (s k : ℕ) (a b : Sat) : Type 0 where
  pub number_is : b.number ≡ a.number
  pub okd_is : b.okd ≡ a.okd
  pub proxies_is : b.proxies ≡ a.proxies
  pub board_is : b.board ≡ a.board
  pub drawn_is : b.drawn ≡ a.drawn
  pub pubd : Grown pubd_grant s k a.pubd b.pubd
  pub oklogd : Grown log_grant s k a.oklogd b.oklogd

-- It stands at both.
pub record StandsRest (s k : ℕ) (b : Sat) : Type 0 where
  pub pubd : standing_by pubd_grant b.pubd s ≡ Some k
  pub oklogd : standing_by log_grant b.oklogd s ≡ Some k

-- What was up of s is down.
pub record Downs (s : ℕ) (a b : Sat) : Type 0 where
  pub only : OnlyOkd a b
  pub others : (t : ℕ) → t ≢ s → up_of b t ≡ up_of a t
  pub none : up_of b s ≡ None

-- Incarnation k of s is up.
pub record Ups (s k : ℕ) (a b : Sat) : Type 0 where
  pub only : OnlyOkd a b
  pub others : (t : ℕ) → t ≢ s → up_of b t ≡ up_of a t
  pub is : up_of b s ≡ Some k

-- The same is up as before.
pub record Looks (a b : Sat) : Type 0 where
  pub only : OnlyOkd a b
  pub same : (t : ℕ) → up_of b t ≡ up_of a t

-- What stood of s was revoked at some columns.
pub record Thins (s : ℕ) (a b : Sat) : Type 0 where
  pub only : OnlyColumns a b
  pub lasts : (t : ℕ) (at : Place) → lasts_at b at t ≡ lasts_at a at t
  pub others : (t : ℕ) (at : Place) → t ≢ s → stands_at b at t ≡ stands_at a at t

-- What stood of s was revoked at every column.
pub record Revokes (C : Config) (s : ℕ) (a b : Sat) : Type 0 where
  pub thins : Thins s a b
  pub none : NoneStands C s b

-- Incarnation k of s was installed at some columns.
pub record Installs (s k : ℕ) (a b : Sat) : Type 0 where
  pub only : OnlyColumns a b
  pub lasts : (t : ℕ) (at : Place) → t ≢ s → lasts_at b at t ≡ lasts_at a at t
  pub most : (at : Place) (j : ℕ) → k ≤ j → lasts_at a at s ≤ j → lasts_at b at s ≤ j
  pub others : (t : ℕ) (at : Place) → t ≢ s → stands_at b at t ≡ stands_at a at t

-- The child of s was finished, where it runs and its cell had its link, and the cell was retired where it had an incarnation.
pub record Empties (s : ℕ) (c d : CrewIs) : Type 0 where
  pub sat_is : d.sat ≡ c.sat
  pub only : OnlyAt s c.watch d.watch
  pub running_is : d.running ≡ slice_set c.running s None
  pub link : Option Wire
  pub family_is : d.family ≡ with_end_of (child_of c s) link c.family
  pub none : incarnation (seen_at d.watch s) ≡ 0
  pub last : last_booted (seen_at d.watch s) ≡ last_booted (seen_at c.watch s)
  pub behind : CellsGo c.watch d.watch
  pub own_is : d.own ≡ with_retired (of_cells d.watch.cells) s c.own
  pub room : c.room ≤ d.room + 1
  pub link_is : is_some link ≡ link_at c.watch s
  pub unlinked : link_at d.watch s ≡ false

-- A child of s may have been started, and its cell may have been booted as incarnation k.
pub record Tries (s k : ℕ) (c d : CrewIs) : Type 0 where
  pub sat_is : d.sat ≡ c.sat
  pub only : OnlyAt s c.watch d.watch
  pub most : (j : ℕ) → k ≤ j → last_booted (seen_at c.watch s) ≤ j → last_booted (seen_at d.watch s) ≤ j
  pub told : TellsMore c.family d.family
  pub behind : CellsGo c.watch d.watch
  pub room : c.room ≤ d.room + 1
  pub out : link_at c.watch s ≡ false → (n : ℕ) → all_out d.watch n ≤ all_out c.watch n

-- The child of s was started and its cell was booted as incarnation k.
pub record Starts (s k : ℕ) (c d : CrewIs) : Type 0 where
  pub tries : Tries s k c d
  pub running_is : d.running ≡ slice_set c.running s (Some (new_life s k))
  pub child : running_at d.running s ≡ Some (new_life s k)
  pub cell : incarnation (seen_at d.watch s) ≡ k
  pub own_is : d.own ≡ own.Boot s k ∷ c.own
  pub linked : link_at d.watch s ≡ true
  pub last : last_booted (seen_at d.watch s) ≡ k

-- It was not; a child that was started was finished.
pub record Misses (s k : ℕ) (c d : CrewIs) : Type 0 where
  pub tries : Tries s k c d
  pub running_is : d.running ≡ c.running
  pub cell : incarnation (seen_at d.watch s) ≡ 0
  pub own_is : d.own ≡ c.own
  pub unlinked : link_at c.watch s ≡ false → link_at d.watch s ≡ false

-- The child of s, which runs, was stopped.
pub record StopsLife (s : ℕ) (c d : StaffIs) : Type 0 where
  pub before : Life
  pub after : Life
  pub was : running_at c.running s ≡ Some before
  pub stops : after ≡ stopped_life before
  pub is : d ≡ record c { running = slice_set c.running s (Some after) }

-- The same, if one runs.
abbrev pub StopsChild : ℕ → StaffIs → Bool → StaffIs → Type 0
StopsChild s c false d = (running_at c.running s ≡ None) × (d ≡ c)
StopsChild s c true d = StopsLife s c d

-- A child was stopped, if there is one.
abbrev pub HasStopped : Option Life → Type 0
HasStopped None = Unit {0}
HasStopped (Some life) = life.stopped ≡ true

-- The child of s, which runs, was asked whether it has ended.
pub record AsksLife (s : ℕ) (c : StaffIs) (answer : Ended) (d : StaffIs) : Type 0 where
  pub before : Life
  pub after : Life
  pub was : running_at c.running s ≡ Some before
  pub asks : Asks before after answer
  pub is : d ≡ record c { running = slice_set c.running s (Some after) }

-- The same, if one runs.
abbrev pub AsksChild : ℕ → StaffIs → Option Ended → StaffIs → Type 0
AsksChild s c None d = (running_at c.running s ≡ None) × (d ≡ c)
AsksChild s c (Some answer) d = AsksLife s c answer d
