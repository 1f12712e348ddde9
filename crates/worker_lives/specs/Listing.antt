-- What the pieces of a worker's list say of its items.
use Rattle.std.specs.Prelude.{◌≡◌, ℕ, Bool, true, false, List, [], ◌∷◌, ◌++◌, ◌&&◌, ◌||◌, not, Option, Some, None, filter_map, length, map, IsTrue}
use Rattle.std.specs.List.{list_any}
use Rattle.okws_plan.specs.declared.configuration.Config.{Config}
use Rattle.okws_plan.specs.declared.event.LauncherEvent.{LauncherEvent}
use Rattle.okws_plan.specs.declared.event.OkdEvent.TheVariants as okd
use Rattle.okws_plan.specs.declared.event.PubdEvent.TheVariants as pubd
use Rattle.monitor_model.specs.declared.record.Own.{Own}
use Rattle.monitor_model.specs.declared.record.Own.TheVariants as own
use Rattle.monitor_model.specs.declared.record.Record.{Record}
use Rattle.monitor_model.specs.Causes.{is_crash, is_crashed_of, crashes_are_told}
use Rattle.monitor_model.specs.Connections.{Visit, AreVisits}
use Rattle.monitor_model.specs.Outside.{item_order}
use Rattle.monitor_model.specs.Pieces.{is_accept_item, is_ordered}
use Rattle.monitor_model.specs.Tied.{piece_visits}
use Rattle.monitor_model.specs.Worker.{IsWorker, Outcome, Unowned, IsDown, IsMissed, WantsMemory, Spoke, Piece, Accepted, Published, Launched, Wants}

-- The item that begins a piece.
abbrev pub first_item : Piece → Own
first_item (Accepted path head content outcome) = own.Okd (okd.Accept path)
first_item (Published t content) = own.Pubd (pubd.Publish t content)
first_item (Launched event) = own.Launcher event
first_item Wants = own.NoMemory

-- What the items of a worker's list carried out for an operator, its pieces did.
abbrev pub OrdersAreOfPieces : Type 0
OrdersAreOfPieces = (C : Config) (R : Record) (w : ℕ) (pieces : List Piece) (items : List Own) → length R.proxies ≡ length C.proxies → IsWorker C R w pieces items
    → filter_map item_order items ≡ filter_map (λ (piece : Piece). item_order (first_item piece)) pieces

-- An item that carries out an order, and an Accept, stand in a worker's list only where a piece begins with them.
abbrev pub ItemsAreOfPieces : Type 0
ItemsAreOfPieces = (C : Config) (R : Record) (w : ℕ) (pieces : List Piece) (items : List Own) → length R.proxies ≡ length C.proxies → IsWorker C R w pieces items
    → (list_any is_ordered items ≡ list_any (λ (piece : Piece). is_ordered (first_item piece)) pieces)
    × (list_any is_accept_item items ≡ list_any (λ (piece : Piece). is_accept_item (first_item piece)) pieces)

-- The piece tells of the crash of incarnation k of s, or is want of memory.
abbrev pub tells : ℕ → ℕ → Option Piece → Bool
tells s k None = false
tells s k (Some (Accepted path head content outcome)) = false
tells s k (Some (Published t content)) = false
tells s k (Some (Launched event)) = is_crashed_of s k event
tells s k (Some Wants) = true

-- Where the dialog that became of an Accept is a crash, the piece behind it tells that.
abbrev pub outcome_is_told : Outcome → Option Piece → Bool
outcome_is_told Unowned next = true
outcome_is_told IsDown next = true
outcome_is_told IsMissed next = true
outcome_is_told WantsMemory next = true
outcome_is_told (Spoke s k d) next = not (is_crash d.end) || tells s k next

-- The same of a piece.
abbrev pub piece_is_told : Piece → Option Piece → Bool
piece_is_told (Accepted path head content outcome) next = outcome_is_told outcome next
piece_is_told (Published t content) next = true
piece_is_told (Launched event) next = true
piece_is_told Wants next = true

-- The same of each of the pieces, the newest first; `next` is the piece behind them.
abbrev pub are_told : Option Piece → List Piece → Bool
are_told next [] = true
are_told next (piece ∷ pieces) = piece_is_told piece next && are_told (Some piece) pieces

-- Where each crash is told of by the piece behind it, each dialog of the list that is a crash is followed at once by the Crashed of its incarnation, or by NoMemory.
abbrev pub CrashesAreTold : Type 0
CrashesAreTold = (C : Config) (R : Record) (w : ℕ) (pieces : List Piece) (items : List Own) → length R.proxies ≡ length C.proxies → IsWorker C R w pieces items
    → IsTrue (are_told None pieces) → IsTrue (crashes_are_told R w items)

-- Where each crash of some pieces is told of, and each of those behind them is, each of all is.
abbrev pub TellingsJoin : Type 0
TellingsJoin = (next : Option Piece) (first then : List Piece) → IsTrue (are_told None first) → IsTrue (are_told next then) → IsTrue (are_told next (then ++ first))

-- What connections had of some pieces and of those behind them, they had of all.
abbrev pub VisitsJoin : Type 0
VisitsJoin = (before behind : List Visit) (first then : List Piece) → AreVisits before (piece_visits first) → AreVisits behind (piece_visits then) → AreVisits (behind ++ before) (piece_visits (then ++ first))

-- What was entered at the launcher is no visit.
abbrev pub TurnsAreNoVisits : Type 0
TurnsAreNoVisits = (events : List LauncherEvent) → piece_visits (map Launched events) ≡ []
