-- What a worker does for a request. Number n launches.
use Rattle.std.specs.Prelude.{◌≡◌, ◌⊎◌, ◌≤◌, ℕ, false, List, slice_index}
use Rattle.okws_base.specs.Turns.{Behind}
use Rattle.okws_base.specs.declared.journal.Entry.{Entry}
use Rattle.okws_plan.specs.declared.configuration.Config.{Config}
use Rattle.okws_plan.specs.declared.event.OkdEvent.{OkdEvent}
use Rattle.okws_plan.specs.declared.event.OkdEvent.TheVariants as okd
use Rattle.monitor_model.specs.declared.record.CellEvent.{CellEvent}
use Rattle.monitor_model.specs.declared.record.End.TheVariants as end
use Rattle.monitor_model.specs.declared.verdict.Way.{Way}
use Rattle.monitor_model.specs.declared.verdict.Way.TheVariants as way
use Rattle.monitor_model.specs.Cell.{last_booted}
use Rattle.monitor_model.specs.Okd.{accept_verdict}
use Rattle.monitor_model.specs.Seen.{AtOkd}
use Rattle.service_cell.specs.Asking.{Asker}
use Rattle.service_cell.specs.Steps.{crash_end}
use Rattle.service_cell.specs.declared.answer.Spoken.{Spoken}
use Rattle.service_cell.specs.declared.answer.Spoken.TheVariants as spoken
use Rattle.site_cells.specs.Row.{seen_at, OnlyAt}
use Rattle.site_cells.specs.Turns.{EndsInReply, HasTalked}
use Rattle.door_worker.specs.declared.handler.Outcome.{Outcome}
use Rattle.door_worker.specs.declared.handler.Outcome.TheVariants as outcome
use Rattle.door_worker.specs.Asking.{Asked}
use Rattle.http_front.specs.Replies.{Replied}
use Rattle.site_worker.specs.Lives.{Life, Working, Spends, number_of, Rises, Sees, Starves}
use Rattle.site_worker.specs.declared.worker.TheConstants.{TURN_ITEMS}
use Rattle.site_worker.specs.Launching.{Reports}

-- The path was entered at okd as an Accept, whose verdict is this way, on all that the worker had seen there.
pub record Enters (C : Config) (path : List ℕ) (goes : Way) (J K : Life) : Type 0 where
  pub before : List (Entry OkdEvent)
  pub goes_is : goes ≡ accept_verdict C before path
  pub enters : AtOkd (number_of J) (okd.Accept path) J.seen before K.seen
  pub on : Behind J.okd before
  pub rest : Sees K.seen J K

-- The path was entered at okd as an Accept, whose verdict is this way, on all that the worker was shown of okd behind its last turn at the launcher: what came up there by then came up before.
pub record Accepts (C : Config) (path : List ℕ) (goes : Way) (J K : Life) : Type 0 where
  pub before : List (Entry OkdEvent)
  pub goes_is : goes ≡ accept_verdict C before path
  pub enters : AtOkd (number_of J) (okd.Accept path) J.seen before K.seen
  pub above : Behind J.shown before
  pub rest : Sees K.seen J K

-- Who asks the columns.
abbrev pub asker_of : Config → Life → Asker
asker_of C J = record { config = C; worker = number_of J; alone = false }

-- A whole dialog in one turn at the cell of s, where incarnation k was wanted. The board showed no more than the worker has seen there then.
pub record Talks (C : Config) (n : ℕ) (asked : Asked) (s k : ℕ) (answer : Spoken) (J K : Life) : Type 0 where
  pub talked : HasTalked n (asker_of C J) (λ shown. shown ≤ slice_index K.board s) asked.head asked.content k s (seen_at J.cells s) J.seen answer (seen_at K.cells s) K.seen
  pub only : OnlyAt s J.cells K.cells
  pub launcher_is : K.launcher ≡ J.launcher
  pub shown_is : K.shown ≡ J.shown
  pub board : Rises J.board K.board

-- Where a dialog crashed that wanted incarnation k, that was booted among these events.
abbrev pub WasBooted : Spoken → ℕ → List CellEvent → Type 0
WasBooted spoken.Reply k J = Unit {0}
WasBooted (spoken.Crashed why) k J = k ≤ last_booted J
WasBooted (spoken.Missed wanted is) k J = Unit {0}
WasBooted (spoken.Superseded i shown) k J = Unit {0}
WasBooted spoken.NoMemory k J = Unit {0}

-- What becomes of a request to incarnation k of s whose dialog was answered so, and what is done then: the Reply in which the dialog ended is at hand; a crash is told to the launcher; want of memory is noted.
abbrev pub Follows : Config → ℕ → ℕ → Spoken → Outcome → Replied → Life → Life → Type 0
Follows C s k spoken.Reply became reply J K = (became ≡ outcome.Ended end.Reply) × EndsInReply reply (seen_at J.cells s) × (K ≡ J)
Follows C s k (spoken.Crashed why) became reply J K = (became ≡ outcome.Ended (crash_end why)) × Reports C s k J K
Follows C s k (spoken.Missed wanted is) became reply J K = (became ≡ outcome.Missed) × (K ≡ J)
Follows C s k (spoken.Superseded i shown) became reply J K = (became ≡ outcome.Ended (end.Superseded shown)) × (K ≡ J)
Follows C s k spoken.NoMemory became reply J K = (became ≡ outcome.NoMemory) × Starves J K

-- What becomes of a request that okd sent this way.
abbrev pub Goes : Config → ℕ → Asked → Way → Outcome → Replied → Life → Life → Type 0
Goes C n asked way.NotOwned became reply J K = (became ≡ outcome.NotOwned) × (K ≡ J)
Goes C n asked (way.Down s) became reply J K = (became ≡ outcome.Down) × (K ≡ J)
Goes C n asked (way.To s k) became reply J K =
    (answer : Spoken) × (M : Life) × Talks C n asked s k answer J M × Follows C s k answer became reply M K

-- What a worker does for a request, from what it has seen before to what it has seen then: it asks okd and goes that way; or memory was refused before.
abbrev pub Handles : Config → ℕ → Life → Asked → Outcome → Replied → Life → Type 0
Handles C n J asked became reply K =
    ((became ≡ outcome.NoMemory) × Starves J K)
    ⊎ ((goes : Way) × (M : Life) × Accepts C asked.path goes J M × Goes C n asked goes became reply M K)

-- The same of a worker, which spends the spare places of one turn at most.
abbrev pub HandlesBy : Config → ℕ → Working → Asked → Outcome → Replied → Working → Type 0
HandlesBy C n J asked became reply K = Handles C n J.life asked became reply K.life × Spends TURN_ITEMS J K

-- Want of memory was noted by a worker, in one of these.
abbrev pub StarvesBy : Working → Working → Type 0
StarvesBy J K = Starves J.life K.life × Spends TURN_ITEMS J K
