-- That what a worker does at a door and at the console is pieces of its list. Number n launches.
use Rattle.std.specs.Prelude.{ℕ, Bool, List}
use Rattle.okws_plan.specs.declared.configuration.Config.{Config}
use Rattle.okws_outer.specs.Conns.{ConnWire}
use Rattle.okws_outer.specs.Doors.{Entrance}
use Rattle.monitor_model.specs.Pieces.{is_accept_item, is_ordered}
use Rattle.monitor_model.specs.Worker.{Piece}
use Rattle.worker_lives.specs.Listing.{first_item}
use Rattle.site_worker.specs.Commands.{Oversees}
use Rattle.site_worker.specs.Lives.{Life}
use Rattle.site_worker.specs.Rounds.{Attends}
use Rattle.site_worker.specs.declared.console.Overseen.{Overseen}
use Rattle.site_worker.specs.declared.door.Attended.{Attended}
use Rattle.round_lives.specs.Living.{IsOf, LivesOn}

-- The piece carries out an order.
abbrev pub is_order : Piece → Bool
is_order piece = is_ordered (first_item piece)

-- The piece begins with an Accept.
abbrev pub is_accepted : Piece → Bool
is_accepted piece = is_accept_item (first_item piece)

-- A worker that attended a door lived on by pieces, none of which is an order.
abbrev pub DoorsAreLived : {X : Type 0} → (X → ConnWire) → Type 0
DoorsAreLived wire = (C : Config) (n w most seen : ℕ) (e f : Entrance) (J K : Life) (drawn now : List ℕ) (a : Attended) → IsOf w J → Attends wire C n most seen e f J K drawn now a → LivesOn C w is_order J K

-- A worker that oversaw the console lived on by pieces, none of which is an Accept.
abbrev pub ConsolesAreLived : Type 0
ConsolesAreLived = (C : Config) (w : ℕ) (x y : ConnWire) (before after : ℕ) (J K : Life) (how : Overseen) → IsOf w J → Oversees C x y before after J K how → LivesOn C w is_accepted J K
