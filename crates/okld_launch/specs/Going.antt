-- How a launch of service s goes: what worker w enters on the launcher's past J, the newest first, what is answered, and the launcher l in the end. The children told f before it.
use Rattle.std.specs.Prelude.{◌≡◌, ◌≢◌, ◌⊎◌, ◌<◌, ℕ, zero, suc, ◌+◌, true, List, ◌∷◌, Option, None, Some, is_some}
use Rattle.okws_base.specs.declared.journal.Entry.{Entry}
use Rattle.okws_base.specs.declared.limit.TheConstants.{MOST_INCARNATIONS}
use Rattle.okws_plan.specs.declared.configuration.Config.{Config}
use Rattle.okws_plan.specs.declared.event.LauncherEvent.{LauncherEvent}
use Rattle.okws_plan.specs.declared.event.LauncherEvent.TheVariants as event
use Rattle.okws_outer.specs.Families.{Family}
use Rattle.okws_outer.specs.Lives.{Life, Asks}
use Rattle.okws_outer.specs.declared.child.Ended.{Ended}
use Rattle.okws_outer.specs.declared.child.Ended.TheVariants.{Yes}
use Rattle.monitor_model.specs.Launcher.{begun, tries}
use Rattle.launch_journal.specs.Launches.{Allows, given_up}
use Rattle.launch_journal.specs.declared.next.Next.TheVariants as next
use Rattle.launch_crew.specs.Crews.{child_of}
use Rattle.launch_crew.specs.Told.{FailsBy}
use Rattle.okld_launch.specs.Launchers.{LauncherIs, IsOut, up_in}
use Rattle.okld_launch.specs.States.{LaunchIs}
use Rattle.okld_launch.specs.declared.answer.Attempt.{Attempt}
use Rattle.okld_launch.specs.declared.answer.Attempt.TheVariants as attempt
use Rattle.okld_launch.specs.declared.answer.Launched.{Launched}
use Rattle.okld_launch.specs.declared.answer.Launched.TheVariants as launched
use Rattle.okld_launch.specs.declared.answer.Crashed.{Crashed}
use Rattle.okld_launch.specs.declared.answer.Crashed.TheVariants as crashed
use Rattle.okld_launch.specs.declared.answer.Tended.{Tended}
use Rattle.okld_launch.specs.declared.answer.Tended.TheVariants as tended

-- One entry more of worker w.
abbrev pub with_entry : ℕ → LauncherEvent → List (Entry LauncherEvent) → List (Entry LauncherEvent)
with_entry w event J = record { worker = w; event = event } ∷ J

-- The next incarnation of s was begun.
abbrev pub with_begun : ℕ → ℕ → List (Entry LauncherEvent) → List (Entry LauncherEvent)
with_begun w s J = with_entry w (event.Begun s (begun J s + 1)) J

-- It was begun and failed.
abbrev pub with_failed : ℕ → ℕ → List (Entry LauncherEvent) → List (Entry LauncherEvent)
with_failed w s J = with_entry w (event.Failed s (begun J s + 1)) (with_begun w s J)

-- How the launch a ends: its incarnation is up; or it failed, for a fault that was counted, which is entered, and isn't up; or memory was refused, and nothing of the service stands.
abbrev pub Closes : Config → ℕ → LaunchIs → Attempt → LauncherIs → Type 0
Closes C w a (attempt.Up k) l = (k ≡ a.incarnation) × (l.journal.past ≡ a.launcher.journal.past) × (up_in l a.service ≡ k)
Closes C w a attempt.Failed l =
    (l.journal.past ≡ with_entry w (event.Failed a.service a.incarnation) a.launcher.journal.past)
    × FailsBy a.service a.incarnation a.launcher.crew.family l.crew.family × (up_in l a.service ≡ 0)
Closes C w a attempt.NoMemory l = (l.journal.past ≡ a.launcher.journal.past) × IsOut C a.service l

-- An attempt: the next incarnation is begun, and is up; or it failed; or memory was refused, before it was begun or later, and then nothing of the service stands.
abbrev pub Attempts : Config → ℕ → ℕ → List (Entry LauncherEvent) → Family → Attempt → LauncherIs → Type 0
Attempts C w s J f (attempt.Up k) l = (k ≡ begun J s + 1) × (l.journal.past ≡ with_begun w s J) × (up_in l s ≡ k)
Attempts C w s J f attempt.Failed l = (l.journal.past ≡ with_failed w s J) × FailsBy s (begun J s + 1) f l.crew.family × (up_in l s ≡ 0)
Attempts C w s J f attempt.NoMemory l = (l.journal.past ≡ J) ⊎ ((l.journal.past ≡ with_begun w s J) × IsOut C s l)

-- So many attempts failed, one after the other, each of which was allowed.
abbrev pub Fell : Config → ℕ → ℕ → ℕ → List (Entry LauncherEvent) → Family → List (Entry LauncherEvent) → Family → Type 0
Fell C w s zero J f K g = (K ≡ J) × (g ≡ f)
Fell C w s (suc n) J f K g =
    (M : List (Entry LauncherEvent)) × (h : Family) × Fell C w s n J f M h
    × Allows C M s next.Begin × (K ≡ with_failed w s M) × FailsBy s (begun M s + 1) h g

-- What comes after the last attempt that failed: an incarnation is up; the service was given up before, or is now; its last incarnation was begun; or memory was refused, before the next incarnation was begun or later, and then nothing of the service stands.
abbrev pub Ends : Config → ℕ → ℕ → List (Entry LauncherEvent) → Launched → LauncherIs → Type 0
Ends C w s J (launched.Up k) l = Allows C J s next.Begin × (k ≡ begun J s + 1) × (l.journal.past ≡ with_begun w s J) × (up_in l s ≡ k)
Ends C w s J (launched.Dead n) l =
    (Allows C J s (next.Dead n) × (l.journal.past ≡ J))
    ⊎ (Allows C J s next.GiveUp × (n ≡ tries J s) × (l.journal.past ≡ with_entry w (event.Dead s n) J))
Ends C w s J launched.Spent l = Allows C J s next.Spent × (l.journal.past ≡ J)
Ends C w s J launched.NoMemory l = (l.journal.past ≡ J) ⊎ (Allows C J s next.Begin × (l.journal.past ≡ with_begun w s J) × IsOut C s l)

-- A launch: attempts that failed, and its end.
pub record Goes (C : Config) (w s : ℕ) (J : List (Entry LauncherEvent)) (f : Family) (answer : Launched) (l : LauncherIs) : Type 0 where
  pub failed : ℕ
  pub mid : List (Entry LauncherEvent)
  pub told : Family
  pub fell : Fell C w s failed J f mid told
  pub ends : Ends C w s mid answer l

-- What the operator asks for is entered and launched, unless its last incarnation was begun or memory was refused.
abbrev pub GoesAsked : Config → ℕ → ℕ → List (Entry LauncherEvent) → Family → Launched → LauncherIs → Type 0
GoesAsked C w s J f answer l =
    ((answer ≡ launched.NoMemory) × (l.journal.past ≡ J))
    ⊎ (((answer ≡ launched.Spent) × (begun J s ≡ MOST_INCARNATIONS) × (l.journal.past ≡ J)) ⊎ Goes C w s (with_entry w (event.Asked s) J) f answer l)

-- A service that was given up before is given up once more; or memory was refused, and nothing is entered.
abbrev pub GivesUpAgain : ℕ → ℕ → List (Entry LauncherEvent) → Crashed → LauncherIs → Type 0
GivesUpAgain w s J (crashed.Up j) l = ⊥
GivesUpAgain w s J (crashed.Dead n) l = (n ≡ tries J s) × (l.journal.past ≡ with_entry w (event.Dead s n) J)
GivesUpAgain w s J crashed.Spent l = ⊥
GivesUpAgain w s J (crashed.Later j) l = ⊥
GivesUpAgain w s J crashed.NoMemory l = l.journal.past ≡ J

-- A crash of incarnation k of s is entered, and where k is the greatest begun, a launch follows; where s was given up before, it is given up once more.
abbrev pub GoesCrashed : Config → ℕ → ℕ → ℕ → List (Entry LauncherEvent) → Family → Crashed → LauncherIs → Type 0
GoesCrashed C w s k J f (crashed.Up j) l = (k ≡ begun J s) × Goes C w s (with_entry w (event.Crashed s k) J) f (launched.Up j) l
GoesCrashed C w s k J f (crashed.Dead n) l =
    (k ≡ begun J s)
    × (((given_up J s ≡ None) × Goes C w s (with_entry w (event.Crashed s k) J) f (launched.Dead n) l)
    ⊎ ((is_some (given_up J s) ≡ true) × GivesUpAgain w s (with_entry w (event.Crashed s k) J) (crashed.Dead n) l))
GoesCrashed C w s k J f crashed.Spent l = (k ≡ begun J s) × Goes C w s (with_entry w (event.Crashed s k) J) f launched.Spent l
GoesCrashed C w s k J f (crashed.Later j) l = (j ≡ begun J s) × (k < j) × (l.journal.past ≡ with_entry w (event.Crashed s k) J)
GoesCrashed C w s k J f crashed.NoMemory l =
    (l.journal.past ≡ J) ⊎ ((k ≡ begun J s) × Goes C w s (with_entry w (event.Crashed s k) J) f launched.NoMemory l)

-- What is answered as a launch is.
abbrev pub crashed_as : Launched → Crashed
crashed_as (launched.Up k) = crashed.Up k
crashed_as (launched.Dead n) = crashed.Dead n
crashed_as launched.Spent = crashed.Spent
crashed_as launched.NoMemory = crashed.NoMemory

-- What is answered as a launch is, to who tends.
abbrev pub tended_as : Launched → Tended
tended_as (launched.Up k) = tended.Up k
tended_as (launched.Dead n) = tended.Dead n
tended_as launched.Spent = tended.Spent
tended_as launched.NoMemory = tended.NoMemory

-- The child of s was asked whether it has ended.
pub record AsksUp (s : ℕ) (old : LauncherIs) (answer : Ended) (new : LauncherIs) : Type 0 where
  pub before : Life
  pub after : Life
  pub was : child_of old.crew s ≡ Some before
  pub is : child_of new.crew s ≡ Some after
  pub asks : Asks before after answer

-- The child of s, which is up, was asked, and did not say Yes.
pub record IsAlive (s : ℕ) (old new : LauncherIs) : Type 0 where
  pub up : 0 < up_in new s
  pub answer : Ended
  pub asked : AsksUp s old answer new
  pub not_ended : answer ≢ Yes

-- The child of s, which is up and was not given up, said that it has ended.
pub record HasEnded (s : ℕ) (old : LauncherIs) : Type 0 where
  pub up : 0 < up_in old s
  pub living : given_up old.journal.past s ≡ None
  pub mid : LauncherIs
  pub asked : AsksUp s old Yes mid

-- It wasn't up, and is launched; or its child has ended, and its crash is entered before it is launched.
abbrev pub Tends : Config → ℕ → ℕ → LauncherIs → Launched → LauncherIs → Type 0
Tends C w s old answer new =
    ((up_in old s ≡ 0) × Goes C w s old.journal.past old.crew.family answer new)
    ⊎ (HasEnded s old × Goes C w s (with_entry w (event.Crashed s (up_in old s)) old.journal.past) old.crew.family answer new)

-- Service s is tended: it is up and its child lives; or it was given up before; or it is launched, with what it is then answered; or memory was refused.
abbrev pub GoesTended : Config → ℕ → ℕ → LauncherIs → Tended → LauncherIs → Type 0
GoesTended C w s old tended.Alive new = (new.journal.past ≡ old.journal.past) × IsAlive s old new
GoesTended C w s old (tended.Up k) new = Tends C w s old (launched.Up k) new
GoesTended C w s old (tended.Dead n) new =
    (Allows C old.journal.past s (next.Dead n) × (new.journal.past ≡ old.journal.past)) ⊎ Tends C w s old (launched.Dead n) new
GoesTended C w s old tended.Spent new = Tends C w s old launched.Spent new
GoesTended C w s old tended.NoMemory new = (new.journal.past ≡ old.journal.past) ⊎ Tends C w s old launched.NoMemory new

-- A launch, of a service that isn't up.
abbrev pub GoesIf : Config → ℕ → ℕ → LauncherIs → Option Launched → LauncherIs → Type 0
GoesIf C n s l None after = (0 < up_in l s) × (after ≡ l)
GoesIf C n s l (Some answer) after = (up_in l s ≡ 0) × Goes C n s l.journal.past l.crew.family answer after
