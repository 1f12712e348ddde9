-- What a worker's life says of the pieces of its list. Number n launches.
use Rattle.std.specs.Prelude.{◌≡◌, ℕ, Bool, false, List, ◌++◌, Option, Some, None, map, IsTrue, IsFalse}
use Rattle.std.specs.List.{list_any}
use Rattle.okws_plan.specs.declared.configuration.Config.{Config}
use Rattle.monitor_model.specs.declared.record.Own.{Own}
use Rattle.monitor_model.specs.Worker.{Piece}
use Rattle.okws_base.specs.Turns.{Behind}
use Rattle.worker_lives.specs.Ending.{crashes_came, launches_end}
use Rattle.worker_lives.specs.Going.{Sights, GoesOn}
use Rattle.worker_lives.specs.Listing.{are_told, first_item}
use Rattle.worker_lives.specs.Waiting.{LeadsSo}
use Rattle.launch_turns.specs.Deeds.{ended_in, entries, up_in}
use Rattle.okld_launch.specs.declared.answer.Launched.{Launched}
use Rattle.launch_turns.specs.declared.deed.Deed.{Deed}
use Rattle.site_worker.specs.Launching.{launch_starved}
use Rattle.site_worker.specs.Lives.{Life, number_of}

-- What a worker has seen, as its life says it.
abbrev pub sights_of : Life → Sights
sights_of J = record { columns = J.seen; launcher = entries J.launcher.seen; cells = J.cells.cells }

-- From what a worker had seen of the launcher's turns to what it has seen of them then, these pieces of its list, the newest first, are whole: each launch that they begin came up, failed, or ended for want of memory, and each Crashed that they enter had its cause, by what the turns tell.
pub record EndsWell (old new : List Deed) (pieces : List Piece) : Type 0 where
  pub deeds : Behind old new
  pub launches : IsTrue (launches_end (up_in new) None (map first_item pieces))
  pub crashes : IsTrue (crashes_came (ended_in new) pieces)

-- A life is that of worker w, whose seat at the launcher has the same number.
pub record IsOf (w : ℕ) (J : Life) : Type 0 where
  pub number_is : number_of J ≡ w
  pub seat_is : J.launcher.number ≡ w

-- The life of worker w went on by pieces, none of which is forbidden. Each crash is told of by the piece behind it. What the worker entered at the launcher leads on, if it did before.
pub record LivesOn (C : Config) (w : ℕ) (forbidden : Piece → Bool) (J K : Life) : Type 0 where
  pub pieces : List Piece
  pub goes : GoesOn C w pieces (sights_of J) (sights_of K)
  pub same : IsOf w K
  pub told : IsTrue (are_told None pieces)
  pub allowed : IsFalse (list_any forbidden pieces)
  pub ends : EndsWell J.launcher.seen K.launcher.seen pieces
  pub leads : (items : List Own) → LeadsSo w false items (entries J.launcher.seen) → LeadsSo w false (map first_item pieces ++ items) (entries K.launcher.seen)

-- Memory was refused to a launch, if there was one.
abbrev pub starved_if : Option Launched → Bool
starved_if None = false
starved_if (Some answer) = launch_starved answer
