-- Laws by which a worker's steps are pieces of its list, whatever others enter meanwhile.
use Rattle.std.specs.Prelude.{◌≡◌, ℕ, List, [], ◌∷◌, ◌++◌, length, map}
use Rattle.okws_base.specs.Past.{Grows}
use Rattle.okws_base.specs.Turns.{GrowsBy}
use Rattle.okws_base.specs.declared.journal.Entry.{Entry}
use Rattle.okws_plan.specs.declared.configuration.Config.{Config}
use Rattle.okws_plan.specs.declared.event.LauncherEvent.{LauncherEvent}
use Rattle.okws_plan.specs.declared.event.OkdEvent.{OkdEvent}
use Rattle.okws_plan.specs.declared.event.OkdEvent.TheVariants as okd
use Rattle.okws_plan.specs.declared.event.PubdEvent.{PubdEvent}
use Rattle.okws_plan.specs.declared.event.PubdEvent.TheVariants as pubd
use Rattle.monitor_model.specs.declared.record.CellEvent.{CellEvent}
use Rattle.monitor_model.specs.declared.record.CellEvent.TheVariants as cell
use Rattle.monitor_model.specs.declared.record.Dialog.{Dialog}
use Rattle.monitor_model.specs.declared.record.Own.TheVariants as own
use Rattle.monitor_model.specs.declared.record.Record.{Record}
use Rattle.monitor_model.specs.Cell.{dialogs_of}
use Rattle.monitor_model.specs.Merged.{cell_past}
use Rattle.monitor_model.specs.Okd.{accept_verdict}
use Rattle.monitor_model.specs.Seen.{Seen, AtOkd, AtPubd, noted}
use Rattle.monitor_model.specs.Tied.{EndsIn}
use Rattle.monitor_model.specs.Worker.{IsWorker, Lives, Outcome, Piece, Accepted, Published, Launched, Wants}
use Rattle.worker_lives.specs.Going.{Sights, GoesOn, IsBlank, cell_seen, entries_by, seen_by}
use Rattle.worker_lives.specs.Leading.{GoesBy, LivesWith, spoken}

-- Where the dialogs that the pieces tell are those that the record has of worker w at each cell, the worker lived so by the record.
abbrev pub LivesAreFound : Type 0
LivesAreFound = (C : Config) (R : Record) (w : ℕ) (pieces : List Piece) (now : Seen) → length R.proxies ≡ length C.proxies
    → LivesWith (λ s. dialogs_of w (cell_past R s)) C w pieces now → Lives C R w pieces now

-- Of a cell that went on by others' events alone, a worker has the same dialogs. `by` tells the number that an event names, and a dialog names its worker.
abbrev pub OthersLeaveDialogs : Type 0
OthersLeaveDialogs = (by : CellEvent → ℕ) (w : ℕ) (old new : List CellEvent) → ((d : Dialog) → by (cell.Dialog d) ≡ d.worker) → GrowsBy by w old new → dialogs_of w new ≡ dialogs_of w old

-- What goes on by some pieces and then by others goes on by all of them.
abbrev pub GoingsJoin : Type 0
GoingsJoin = (C : Config) (w : ℕ) (first then : List Piece) (I J K : Sights) → GoesOn C w first I J → GoesOn C w then J K → GoesOn C w (then ++ first) I K

-- Where the worker made nothing, and others may have entered, that is no piece.
abbrev pub RestsAreNoPieces : Type 0
RestsAreNoPieces = (C : Config) (w : ℕ) (J K : Sights) → K.columns ≡ J.columns → GrowsBy (λ (e : Entry LauncherEvent). e.worker) w J.launcher K.launcher
    → ((s : ℕ) → dialogs_of w (cell_seen K s) ≡ dialogs_of w (cell_seen J s)) → GoesOn C w [] J K

-- Want of memory that is noted is a piece.
abbrev pub WantsArePieces : Type 0
WantsArePieces = (C : Config) (w : ℕ) (J : Sights) → GoesOn C w (Wants ∷ []) J (record J { columns = noted J.columns own.NoMemory })

-- A publication that is entered is a piece.
abbrev pub PublicationsArePieces : Type 0
PublicationsArePieces = (C : Config) (w t : ℕ) (content : List ℕ) (J : Sights) (before : List (Entry PubdEvent)) (now : Seen)
    → AtPubd w (pubd.Publish t content) J.columns before now → GoesOn C w (Published t content ∷ []) J (record J { columns = now })

-- An Accept and what became of it are a piece, where the one dialog more that the worker has seen of itself is that of the Accept, if it is one.
abbrev pub AcceptsArePieces : Type 0
AcceptsArePieces = (C : Config) (w : ℕ) (path head content : List ℕ) (outcome : Outcome) (J K : Sights) (before : List (Entry OkdEvent)) (mid : Seen)
    → AtOkd w (okd.Accept path) J.columns before mid → GoesBy C w (accept_verdict C before path) head content mid outcome K.columns → K.launcher ≡ J.launcher
    → ((s : ℕ) → dialogs_of w (cell_seen K s) ≡ spoken s outcome ++ dialogs_of w (cell_seen J s)) → GoesOn C w (Accepted path head content outcome ∷ []) J K

-- What a turn at the launcher entered for the worker, the newest first, is a piece an event, where these were noted, too.
abbrev pub TurnsArePieces : Type 0
TurnsArePieces = (C : Config) (w : ℕ) (events : List LauncherEvent) (J : Sights) (before : List (Entry LauncherEvent)) → GrowsBy (λ (e : Entry LauncherEvent). e.worker) w J.launcher before
    → GoesOn C w (map Launched events) J (record J { columns = record J.columns { own = map own.Launcher events ++ J.columns.own }; launcher = entries_by w events ++ before })

-- Who had seen and done nothing at first lived by the pieces since.
abbrev pub GoingsAreLives : Type 0
GoingsAreLives = (C : Config) (w : ℕ) (pieces : List Piece) (J K : Sights) → IsBlank (length C.proxies) J → GoesOn C w pieces J K → LivesWith (λ s. dialogs_of w (cell_seen K s)) C w pieces (seen_by w K)

-- Who lived by these pieces, and from what it had seen at last the record went on by others' entries alone, its list is made of them.
abbrev pub LivesEndInRecords : Type 0
LivesEndInRecords = (C : Config) (R : Record) (w : ℕ) (pieces : List Piece) (J : Sights) → length R.proxies ≡ length C.proxies
    → LivesWith (λ s. dialogs_of w (cell_seen J s)) C w pieces (seen_by w J)
    → EndsIn R w J.columns → Grows w J.launcher R.launcher → ((s : ℕ) → dialogs_of w (cell_past R s) ≡ dialogs_of w (cell_seen J s)) → IsWorker C R w pieces J.columns.own
