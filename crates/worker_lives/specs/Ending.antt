-- That each launch which a worker began came up, failed, or ended for want of memory, and that each crash which it entered had its cause: by the pieces of its list, by which incarnations came up, and by which children have ended.
use Rattle.std.specs.Prelude.{◌≡◌, ◌⊎◌, ℕ, Bool, true, false, List, [], ◌∷◌, ◌==◌, ◌&&◌, ◌||◌, Option, Some, None, length, map, IsTrue, IsFalse}
use Rattle.std.specs.List.{list_any}
use Rattle.okws_plan.specs.declared.configuration.Config.{Config}
use Rattle.okws_plan.specs.declared.event.LauncherEvent.{LauncherEvent}
use Rattle.okws_plan.specs.declared.event.LauncherEvent.TheVariants.{Begun, Failed, Crashed, Dead, Asked}
use Rattle.monitor_model.specs.declared.record.Own.{Own}
use Rattle.monitor_model.specs.declared.record.Own.TheVariants as own
use Rattle.monitor_model.specs.declared.record.Record.{Record}
use Rattle.monitor_model.specs.Causes.{crashes_were, is_crash}
use Rattle.monitor_model.specs.Launches.{is_begun_item, is_failed_of, is_want, item_after_begun}
use Rattle.monitor_model.specs.Outside.{Outside}
use Rattle.monitor_model.specs.Worker.{IsWorker, Outcome, Unowned, IsDown, IsMissed, WantsMemory, Spoke, Piece, Accepted, Published, Launched, Wants}
use Rattle.worker_lives.specs.Listing.{first_item}

-- The item says how the launch of incarnation k of s ended: it failed, or memory was refused.
abbrev pub says_end : ℕ → ℕ → Option Own → Bool
says_end s k (Some (own.Launcher e)) = is_failed_of s k e
says_end s k (Some own.NoMemory) = true
says_end s k _ = false

-- A launch that the event begins came up, by `up`, or the next item says how it ended.
abbrev pub event_ends : (ℕ → ℕ → Bool) → Option Own → LauncherEvent → Bool
event_ends up next (Begun s k) = up s k || says_end s k next
event_ends up next (Failed s k) = true
event_ends up next (Crashed s k) = true
event_ends up next (Dead s n) = true
event_ends up next (Asked s) = true

-- The same of an item.
abbrev pub item_ends : (ℕ → ℕ → Bool) → Option Own → Own → Bool
item_ends up next (own.Launcher e) = event_ends up next e
item_ends up next _ = true

-- The same of each item; `next` is the item behind them.
abbrev pub launches_end : (ℕ → ℕ → Bool) → Option Own → List Own → Bool
launches_end up next [] = true
launches_end up next (item ∷ items) = item_ends up next item && launches_end up (Some item) items

-- What became of an Accept is a dialog with incarnation k of s, and a crash.
abbrev pub is_crash_there : ℕ → ℕ → Outcome → Bool
is_crash_there s k Unowned = false
is_crash_there s k IsDown = false
is_crash_there s k IsMissed = false
is_crash_there s k WantsMemory = false
is_crash_there s k (Spoke t j d) = (t == s) && ((j == k) && is_crash d.end)

-- The newest of these pieces is such a dialog.
abbrev pub ends_crashed : ℕ → ℕ → List Piece → Bool
ends_crashed s k [] = false
ends_crashed s k (Accepted path head content outcome ∷ before) = is_crash_there s k outcome
ends_crashed s k (Published t content ∷ before) = false
ends_crashed s k (Launched event ∷ before) = false
ends_crashed s k (Wants ∷ before) = false

-- A Crashed behind these pieces follows a dialog of its incarnation that is a crash, or its child has ended, by `ended`.
abbrev pub event_came : (ℕ → ℕ → Bool) → List Piece → LauncherEvent → Bool
event_came ended before (Crashed s k) = ended s k || ends_crashed s k before
event_came ended before (Begun s k) = true
event_came ended before (Failed s k) = true
event_came ended before (Dead s n) = true
event_came ended before (Asked s) = true

-- The same of a piece.
abbrev pub piece_came : (ℕ → ℕ → Bool) → List Piece → Piece → Bool
piece_came ended before (Launched event) = event_came ended before event
piece_came ended before (Accepted path head content outcome) = true
piece_came ended before (Published t content) = true
piece_came ended before Wants = true

-- The same of each piece, the newest first.
abbrev pub crashes_came : (ℕ → ℕ → Bool) → List Piece → Bool
crashes_came ended [] = true
crashes_came ended (piece ∷ before) = piece_came ended before piece && crashes_came ended before

-- The item says that incarnation k of s failed.
abbrev pub is_failed_item : ℕ → ℕ → Own → Bool
is_failed_item s k (own.Launcher e) = is_failed_of s k e
is_failed_item s k _ = false

-- What ended by the first items of a worker's pieces ended by its list.
abbrev pub LaunchesEnd : Type 0
LaunchesEnd = (C : Config) (R : Record) (w : ℕ) (up : ℕ → ℕ → Bool) (pieces : List Piece) (items : List Own) → length R.proxies ≡ length C.proxies → IsWorker C R w pieces items
    → IsTrue (launches_end up None (map first_item pieces)) → IsTrue (launches_end up None items)

-- A launch that a list begins, and that did not come up, failed by the list, or NoMemory is the item behind its Begun.
abbrev pub BegunsEnd : Type 0
BegunsEnd = (up : ℕ → ℕ → Bool) (s k : ℕ) (items : List Own) → IsTrue (launches_end up None items) → IsTrue (list_any (is_begun_item s k) items) → IsFalse (up s k)
    → IsTrue (list_any (is_failed_item s k) items) ⊎ IsTrue (is_want (item_after_begun s k None items))

-- Where each Crashed of a worker's pieces had its cause, by children whose end the outside tells, each of its list had it.
abbrev pub CrashesWere : Type 0
CrashesWere = (C : Config) (T : Outside) (R : Record) (w : ℕ) (ended : ℕ → ℕ → Bool) (pieces : List Piece) (items : List Own) → length R.proxies ≡ length C.proxies → IsWorker C R w pieces items
    → ((s k : ℕ) → IsTrue (ended s k) → IsTrue (T.ended s k)) → IsTrue (crashes_came ended pieces) → IsTrue (crashes_were T R w items)
