-- What was done at the doors of a run and at its console.
use Rattle.std.specs.Prelude.{◌≡◌, ◌≤◌, ◌<◌, ℕ, suc, ◌+◌, min, Bool, List, [], ◌∷◌, ◌++◌, length, true, false, ◌||◌, count_by, nat_lt, sum_by}
use Rattle.std.specs.declared.option.Option.{Option}
use Rattle.std.specs.declared.option.Option.TheVariants.{Some, None}
use Rattle.turn_lock.specs.Board.{drawn_by}
use Rattle.okws_plan.specs.declared.configuration.Config.{Config}
use Rattle.okws_outer.specs.Conns.{ConnWire}
use Rattle.okws_outer.specs.Doors.{Entrance}
use Rattle.okws_outer.specs.Streams.{counted}
use Rattle.okws_outer.specs.declared.door.Served.{Served}
use Rattle.monitor_model.specs.declared.record.Record.{Record}
use Rattle.site_worker.specs.Lives.{Life}
use Rattle.site_worker.specs.declared.door.Attended.{Attended}
use Rattle.site_worker.specs.Commands.{Oversees}
use Rattle.site_worker.specs.Rounds.{Attends}
use Rattle.site_worker.specs.declared.console.Overseen.{Overseen}
use Rattle.site_worker.specs.declared.console.Overseen.TheVariants as overseen
use Rattle.admin_console.specs.Steps.{Tells}
use Rattle.admin_console.specs.declared.answer.Answer.TheVariants as answer
use Rattle.admin_console.specs.declared.step.Stepped.{Stepped}
use Rattle.site_run.specs.Tied.{LifeBegins, LifeEnds}
use Rattle.okws_serve.specs.Posts.{is_cut}
use Rattle.okws_serve.specs.Spent.{OverseesSpent}
use Rattle.okws_serve.specs.Surveyed.{AllSurveyed, StepSurveyed}
use Rattle.okws_serve.specs.declared.outfit.Ending.{Ending}

-- What was done at a door: so many connections were served whole, so many were cut, and so many did not come; and so many were awaited when the run was stopped, and did not come.
pub record Tally : Type 0 where
  pub whole : ℕ
  pub cut : ℕ
  pub missed : ℕ
  pub awaited : ℕ

-- The connections of a door.
abbrev pub connections_of : Tally → ℕ
connections_of t = t.whole + t.cut

-- All that was begun at a door.
abbrev pub begun_of : Tally → ℕ
begun_of t = t.whole + t.cut + t.missed + t.awaited

-- Those that were awaited when the run was stopped.
abbrev pub awaited_of : Tally → ℕ
awaited_of t = t.awaited

-- The sum over all doors.
abbrev pub total : (Tally → ℕ) → List Tally → ℕ
total f [] = 0
total f (t ∷ ts) = f t + total f ts

-- A call of the connection failed.
abbrev pub had_fault : Served → Bool
had_fault x = nat_lt 0 x.faults

-- How many calls of these connections failed.
abbrev pub faults_of : List Served → ℕ
faults_of since = sum_by (λ (x : Served). x.faults) since

-- A door finished just those connections since that were served there: those of which a call failed were cut, and the others are whole. It counted each call of theirs that failed, and each connection that did not come.
pub record TalliesAt (t : Tally) (old new : Entrance) : Type 0 where
  pub since : List Served
  pub finished_is : new.finished ≡ since ++ old.finished
  pub finished : length since ≡ connections_of t
  pub cut_is : t.cut ≡ count_by had_fault since
  pub faults : counted old.faults (faults_of since + t.missed) ≤ new.faults

-- The same at each door.
abbrev pub AllTally : List Tally → List Entrance → List Entrance → Type 0
AllTally [] [] [] = Unit {0}
AllTally [] [] (f ∷ fs) = ⊥
AllTally [] (e ∷ es) fs = ⊥
AllTally (t ∷ ts) [] fs = ⊥
AllTally (t ∷ ts) (e ∷ es) [] = ⊥
AllTally (t ∷ ts) (e ∷ es) (f ∷ fs) = TalliesAt t e f × AllTally ts es fs

-- A worker of number w, whose life began at a door of a site, attended it: one connection after the other, as its rounds say; and this life ended in the record, so that the journals there are those by which it answered. Number n launches.
pub record AttendsAt {X : Type 0} (wire : X → ConnWire) (C : Config) (n most : ℕ) (R : Record) (ended : ℕ → ℕ → Bool) (w : ℕ) (old new : Entrance) (a : Attended) : Type 0 where
  pub before : Life
  pub after : Life
  pub drawn : List ℕ
  pub begins : LifeBegins C n w before
  pub seen : ℕ
  pub attends : Attends wire C n most seen old new before after [] drawn a
  pub left : LifeEnds n w after R ended

-- The same at each door, by workers whose numbers rise by one from w.
abbrev pub AllAttend : {X : Type 0} → (X → ConnWire) → Config → ℕ → ℕ → Record → (ℕ → ℕ → Bool) → ℕ → List Entrance → List Entrance → List Attended → Type 0
AllAttend wire C n most R ended w [] [] [] = Unit {0}
AllAttend wire C n most R ended w [] [] (a ∷ as') = ⊥
AllAttend wire C n most R ended w [] (f ∷ fs) as' = ⊥
AllAttend wire C n most R ended w (e ∷ es) [] as' = ⊥
AllAttend wire C n most R ended w (e ∷ es) (f ∷ fs) [] = ⊥
AllAttend wire C n most R ended w (e ∷ es) (f ∷ fs) (a ∷ as') = AttendsAt wire C n most R ended w e f a × AllAttend wire C n most R ended (suc w) es fs as'

-- Of the numbers below the count each worker drew just those that `hand` tells of it.
abbrev pub AllDraw : {X : Type 0} (wire : X → ConnWire) (C : Config) (n most : ℕ) (R : Record) (ended : ℕ → ℕ → Bool) (hand : ℕ → ℕ) (count w : ℕ) (es fs : List Entrance) (as' : List Attended) → AllAttend wire C n most R ended w es fs as' → Type 0
AllDraw wire C n most R ended hand count w [] [] [] h = Unit {0}
AllDraw wire C n most R ended hand count w [] [] (a ∷ as') h = ⊥
AllDraw wire C n most R ended hand count w [] (f ∷ fs) as' h = ⊥
AllDraw wire C n most R ended hand count w (e ∷ es) [] as' h = ⊥
AllDraw wire C n most R ended hand count w (e ∷ es) (f ∷ fs) [] h = ⊥
AllDraw wire C n most R ended hand count w (e ∷ es) (f ∷ fs) (a ∷ as') h = (h.0.drawn ≡ drawn_by hand w count) × AllDraw wire C n most R ended hand count (suc w) es fs as' h.1

-- Memory was refused to one of the workers, before it took a connection.
abbrev pub any_starved : List Attended → Bool
any_starved [] = false
any_starved (a ∷ as') = a.starved || any_starved as'

-- How many connections are begun: as many as were asked for, or, where the run was stopped, as many as were begun by then.
abbrev pub until : ℕ → Option ℕ → ℕ
until most None = most
until most (Some n) = min n most

-- The doors of a run were attended, door w by number w, whose life ended in the record: each number below a count was drawn once, by the worker of a door or, at a stop, by the console's, and the count is above `most` unless memory was refused to a worker; at most `most` connections were begun in all, and none behind those that were begun when the run was stopped; and just so many, unless memory was refused to a worker, where those that were cut or did not come are among them and were counted at their doors, each by itself; and where the run was stopped, those that were awaited then.
pub record ServesDoors {X : Type 0} (wire : X → ConnWire) (C : Config) (n most : ℕ) (R : Record) (ended : ℕ → ℕ → Bool) (old new : List Entrance) (connections : ℕ) (starved : Bool) (stopped : Option ℕ) : Type 0 where
  pub attended : List Attended
  pub attend : AllAttend wire C n most R ended 0 old new attended
  pub hand : ℕ → ℕ
  pub count : ℕ
  pub drew : AllDraw wire C n most R ended hand count 0 old new attended attend
  pub seated : (k : ℕ) → k < count → hand k ≤ length new
  pub past : starved ≡ false → most < count
  pub starved_is : starved ≡ any_starved attended
  pub tallies : List Tally
  pub tallied : AllTally tallies old new
  pub at_most : total begun_of tallies ≤ until most stopped
  pub at_least : starved ≡ false → until most stopped ≤ total begun_of tallies
  pub unstopped : stopped ≡ None → total awaited_of tallies ≡ 0
  pub connections_are : connections ≡ total connections_of tallies

-- How a console went on that was overseen so: where it ended by `stop`, the line of the answer was given, which says how many connections are begun, or a front of it; else nothing.
abbrev pub GoesOut : Overseen → ConnWire → ConnWire → Ending → Type 0
GoesOut overseen.Finished mid new e = (new ≡ mid) × (e.stopped ≡ None) × (e.failed ≡ false)
GoesOut overseen.ConsoleFault mid new e = (new ≡ mid) × (e.stopped ≡ None) × (e.failed ≡ true)
GoesOut overseen.Stop mid new e = (n : ℕ) × (e.stopped ≡ Some n) × (what : Stepped) × Tells mid new (answer.Stopping n) what × (e.failed ≡ is_cut what)

-- A console of a site was overseen from its first line by a worker of number w, whose life began there and ended in the record: its commands were carried out and answered one after the other, to `end`, `stop` or its end, or until a call of it failed. Where a publication was refused since all editions of its template are spent, the record has as many as a template may have. Each number of a status is counted of what a journal of the record was before. Number n launches.
pub record ServesConsole (C : Config) (n : ℕ) (R : Record) (ended : ℕ → ℕ → Bool) (w : ℕ) (old new : ConnWire) (e : Ending) : Type 0 where
  pub lines : ℕ
  pub before : Life
  pub after : Life
  pub mid : ConnWire
  pub how : Overseen
  pub begins : LifeBegins C n w before
  pub oversees : Oversees C old mid 0 lines before after how
  pub goes_out : GoesOut how mid new e
  pub left : LifeEnds n w after R ended
  pub spent : OverseesSpent C R old mid 0 lines before after how oversees
  pub surveyed : AllSurveyed C R oversees.answers × StepSurveyed C R oversees.last
