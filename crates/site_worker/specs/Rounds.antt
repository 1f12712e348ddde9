-- What a worker does at a door, one connection after the other. Number n launches.
use Rattle.std.specs.Prelude.{◌≡◌, ◌⊎◌, ◌<◌, ◌≤◌, ◌+◌, ◌%◌, ℕ, Bool, true, false, List, [], ◌∷◌, ◌++◌, length}
use Rattle.okws_plan.specs.declared.configuration.Config.{Config}
use Rattle.okws_outer.specs.Conns.{ConnWire}
use Rattle.okws_outer.specs.Doors.{Entrance}
use Rattle.turn_lock.specs.Board.{AllUnder}
use Rattle.http_front.specs.declared.kept.Kept.{Kept}
use Rattle.http_front.specs.Replies.{Replied}
use Rattle.door_worker.specs.Serving.{Serves}
use Rattle.door_worker.specs.declared.serving.Serving.{Serving}
use Rattle.door_worker.specs.declared.serving.Serving.TheVariants as serving
use Rattle.site_worker.specs.Lives.{Life, Sees, Starves}
use Rattle.site_worker.specs.Launching.{Tends}
use Rattle.site_worker.specs.Handling.{Handles}
use Rattle.site_worker.specs.declared.door.Attended.{Attended}

-- After connection number c the service of that number, counted round, is looked after, if there is any.
abbrev pub TendsNext : Config → ℕ → Life → Life → Type 0
TendsNext C c J K =
    ((length C.services ≡ 0) × (K ≡ J)) ⊎ ((0 < length C.services) × Tends C (c % length C.services) J K)

-- The same; then the log is written out, where more may be seen of it.
abbrev pub GoesRound : Config → ℕ → Life → Life → Type 0
GoesRound C c J K = (M : Life) × TendsNext C c J M × Sees M.seen M K

-- Memory was refused before a connection was accepted.
abbrev pub is_starved : Serving → Bool
is_starved (serving.Served a) = false
is_starved (serving.ConnFault a) = false
is_starved serving.NoConn = false
is_starved serving.NoneCame = false
is_starved serving.NoMemory = true

-- No connection came so far.
abbrev pub is_awaited : Serving → Bool
is_awaited (serving.Served a) = false
is_awaited (serving.ConnFault a) = false
is_awaited serving.NoConn = false
is_awaited serving.NoneCame = true
is_awaited serving.NoMemory = false

-- This holds where no connection came.
abbrev pub WhereAwaited : Serving → Type 0 → Type 0
WhereAwaited (serving.Served a) fact = Unit {0}
WhereAwaited (serving.ConnFault a) fact = Unit {0}
WhereAwaited serving.NoConn fact = Unit {0}
WhereAwaited serving.NoneCame fact = fact
WhereAwaited serving.NoMemory fact = Unit {0}

-- How many connections were taken, whole or cut.
abbrev pub taken : Serving → ℕ
taken (serving.Served a) = 1
taken (serving.ConnFault a) = 1
taken serving.NoConn = 0
taken serving.NoneCame = 0
taken serving.NoMemory = 0

-- After the door was served so, a service is looked after and the log written out, unless no connection came so far or memory was refused.
abbrev pub TendsAfter : Config → ℕ → Serving → Life → Life → Type 0
TendsAfter C c (serving.Served a) J K = GoesRound C c J K
TendsAfter C c (serving.ConnFault a) J K = GoesRound C c J K
TendsAfter C c serving.NoConn J K = GoesRound C c J K
TendsAfter C c serving.NoneCame J K = K ≡ J
TendsAfter C c serving.NoMemory J K = K ≡ J

-- One round, of which this is told: the door was served once, and then a service looked after.
pub record Round {C : Type 0} (wire : C → ConnWire) (site : Config) (n number : ℕ) (e f : Entrance) (J K : Life) (what : Serving) : Type 0 where
  pub kept : Kept
  pub reply : Replied
  pub mid : Life
  pub serves : Serves wire (Handles site n) Starves e f J mid kept reply what
  pub tends : TendsAfter site number what mid K
  pub connections : length f.finished ≡ length e.finished + taken what

-- Rounds with these connection numbers, the last one first; for none was memory refused. Where none came for a number, the run was stopped: `seen` is what was seen of the word that shows it.
abbrev pub Rounds : {C : Type 0} → (C → ConnWire) → Config → ℕ → ℕ → List ℕ → Entrance → Entrance → Life → Life → Type 0
Rounds wire site n seen [] e f J K = (f ≡ e) × (K ≡ J)
Rounds wire site n seen (number ∷ numbers) e f J K =
    (g : Entrance) × (M : Life) × Rounds wire site n seen numbers e g J M × (what : Serving) × (is_starved what ≡ false) × Round wire site n number g f M K what × WhereAwaited what (0 < seen)

-- The number that ended it: one from the limit on, or one for which memory was refused before a connection was accepted.
abbrev pub IsLast : Bool → ℕ → ℕ → Type 0
IsLast false limit last = limit ≤ last
IsLast true limit last = last < limit

-- What a worker did at a door: a round with each number below the limit that it drew, in order. This is what its seat has seen of the word that shows that the run is stopped.
pub record Attends {C : Type 0} (wire : C → ConnWire) (site : Config) (n limit seen : ℕ) (e f : Entrance) (J K : Life) (drawn now : List ℕ) (result : Attended) : Type 0 where
  pub numbers : List ℕ
  pub last : ℕ
  pub rounds : Rounds wire site n seen numbers e f J K
  pub under : AllUnder limit numbers
  pub ends : IsLast result.starved limit last
  pub drew : now ≡ last ∷ (numbers ++ drawn)
  pub connections : length f.finished ≡ length e.finished + result.connections
