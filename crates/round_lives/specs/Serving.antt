-- That what a worker does at a door answers the connections there. Number n launches.
use Rattle.std.specs.Prelude.{◌≡◌, ◌≤◌, ℕ, List, [], ◌∷◌, ◌++◌, Some, filter_map, count_by, IsSome}
use Rattle.std.specs.Io.KnownBytes.{Consumes}
use Rattle.okws_outer.specs.Conns.{ConnWire}
use Rattle.okws_outer.specs.Doors.{Entrance}
use Rattle.okws_outer.specs.Streams.{counted}
use Rattle.okws_outer.specs.declared.door.Served.{Served}
use Rattle.okws_plan.specs.declared.configuration.Config.{Config}
use Rattle.http_front.specs.Pulling.{IsReadPromptly}
use Rattle.monitor_model.specs.declared.record.Connection.{Connection}
use Rattle.monitor_model.specs.Connections.{Share, Visit, AllServed, AreVisits}
use Rattle.monitor_model.specs.Tied.{piece_visits}
use Rattle.site_worker.specs.Lives.{Life}
use Rattle.site_worker.specs.Rounds.{Attends}
use Rattle.site_worker.specs.declared.door.Attended.{Attended}
use Rattle.round_lives.specs.Living.{IsOf, LivesOn}
use Rattle.round_lives.specs.Laws.{is_order}

-- The life of a door's worker went on by pieces, and connections had these visits of it, the newest first: all that its pieces are, in order, but for want of memory that no connection had.
pub record LivesFor (C : Config) (w : ℕ) (visits : List Visit) (J K : Life) : Type 0 where
  pub lives : LivesOn C w is_order J K
  pub had : AreVisits visits (piece_visits lives.pieces)

-- A connection of a door is the one that was finished there: where its client's bytes are told, those that were read are the first of them, up to those that are left; none was read once they were settled; and where each connection of its kind tells what was given to it, that is what was written.
pub record IsFinished {X : Type 0} (wire : X → ConnWire) (finished : Served) (c : Connection) : Type 0 where
  pub read : Consumes finished.came finished.left c.read
  pub prompt : IsReadPromptly c.read
  pub written : ((conn : X) → IsSome (wire conn).given) → finished.given ≡ Some c.written

-- The same of each, in order.
abbrev pub AreFinished : {X : Type 0} → (X → ConnWire) → List Served → List Connection → Type 0
AreFinished wire [] [] = Unit {0}
AreFinished wire [] (c ∷ cs) = ⊥
AreFinished wire (x ∷ xs) [] = ⊥
AreFinished wire (x ∷ xs) (c ∷ cs) = IsFinished wire x c × AreFinished wire xs cs

-- From e to f a door finished these connections, the last one first.
pub record Finishes {X : Type 0} (wire : X → ConnWire) (e f : Entrance) (connections : List Connection) : Type 0 where
  pub since : List Served
  pub finished_is : f.finished ≡ since ++ e.finished
  pub are : AreFinished wire since connections

-- Worker w went on from one life to another by what it did at a door for the connections that this finished, from e to f. What was due to each by what it had of the worker was written on it; on each that was cut a front of that, and the door's count took these in.
pub record ServesAll {X : Type 0} (wire : X → ConnWire) (C : Config) (w : ℕ) (e f : Entrance) (J K : Life) : Type 0 where
  pub connections : List Connection
  pub finishes : Finishes wire e f connections
  pub shares : List Share
  pub served : AllServed connections shares
  pub lives : LivesFor C w (filter_map (λ (share : Share). share.visit) shares) J K
  pub cut : counted e.faults (count_by (λ (share : Share). share.is_cut) shares) ≤ f.faults

-- A worker that attended a door lived on by pieces, none of which is an order, and the door's connections were answered by these.
abbrev pub DoorsAreServed : {X : Type 0} → (X → ConnWire) → Type 0
DoorsAreServed wire = (C : Config) (n w most seen : ℕ) (e f : Entrance) (J K : Life) (drawn now : List ℕ) (a : Attended) → IsOf w J → Attends wire C n most seen e f J K drawn now a → ServesAll wire C w e f J K
