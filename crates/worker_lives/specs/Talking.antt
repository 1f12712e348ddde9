-- What a turn at a cell is to the worker that took it: its answer is what became of an Accept.
use Rattle.std.specs.Prelude.{◌≡◌, ◌≤◌, ℕ, List, ◌∷◌, [], ◌++◌, slice_set}
use Rattle.okws_base.specs.declared.journal.Entry.{Entry}
use Rattle.okws_plan.specs.declared.configuration.Config.{Config}
use Rattle.okws_plan.specs.declared.event.OkdEvent.{OkdEvent}
use Rattle.okws_plan.specs.declared.event.OkdEvent.TheVariants as okd
use Rattle.monitor_model.specs.declared.record.CellEvent.{CellEvent}
use Rattle.monitor_model.specs.declared.record.CellEvent.TheVariants as cell
use Rattle.monitor_model.specs.declared.record.Dialog.{Dialog}
use Rattle.monitor_model.specs.declared.record.End.{End}
use Rattle.monitor_model.specs.declared.record.End.TheVariants as end
use Rattle.monitor_model.specs.declared.record.Own.TheVariants as own
use Rattle.monitor_model.specs.declared.verdict.Way.TheVariants as way
use Rattle.monitor_model.specs.Cell.{dialogs_of}
use Rattle.monitor_model.specs.Connections.{OutcomeCarries}
use Rattle.monitor_model.specs.Okd.{accept_verdict}
use Rattle.monitor_model.specs.Seen.{Seen, AtOkd, noted}
use Rattle.monitor_model.specs.Worker.{Outcome, IsMissed, WantsMemory, Spoke, Accepted}
use Rattle.service_cell.specs.Asking.{Asker}
use Rattle.service_cell.specs.Dialogs.{Dialogs}
use Rattle.service_cell.specs.Standing.{Standing}
use Rattle.service_cell.specs.Steps.{crash_end}
use Rattle.service_cell.specs.declared.answer.Spoken.{Spoken}
use Rattle.service_cell.specs.declared.answer.Spoken.TheVariants as spoken
use Rattle.worker_lives.specs.Going.{Sights, GoesOn, cell_seen}
use Rattle.worker_lives.specs.Leading.{Goes, spoken as spoken_at}

-- The outcome is a dialog with incarnation k of s that ended so, and it is the last event of the cell.
abbrev pub SpokeLast : ℕ → ℕ → End → Outcome → List CellEvent → Type 0
SpokeLast s k how outcome new = (d : Dialog) × (outcome ≡ Spoke s k d) × (d.end ≡ how) × (before : List CellEvent) × (new ≡ cell.Dialog d ∷ before)

-- What became of an Accept that was answered To(s, k), by what the cell answered, where these are its events then.
abbrev pub Tells : ℕ → ℕ → Spoken → Outcome → List CellEvent → Type 0
Tells s k spoken.Reply outcome new = SpokeLast s k end.Reply outcome new
Tells s k (spoken.Crashed why) outcome new = SpokeLast s k (crash_end why) outcome new
Tells s k (spoken.Superseded i shown) outcome new = SpokeLast s k (end.Superseded shown) outcome new
Tells s k (spoken.Missed wanted is) outcome new = outcome ≡ IsMissed
Tells s k spoken.NoMemory outcome new = outcome ≡ WantsMemory

-- Where memory was refused before the dialog, the worker notes that.
abbrev pub with_want : Spoken → Seen → Seen
with_want spoken.Reply now = now
with_want (spoken.Crashed why) now = now
with_want (spoken.Superseded i shown) now = now
with_want (spoken.Missed wanted is) now = now
with_want spoken.NoMemory now = noted now own.NoMemory

-- What worker w, which had seen J of the columns and `old` of the cell of s when okd had sent it to incarnation k there, had of the cell, which answered so: it has seen `now` and `new` then. This became of the Accept, and a dialog, if it was one, is one more of the worker's at the cell.
pub record Had (C : Config) (w s k : ℕ) (head content : List ℕ) (J : Seen) (old : List CellEvent) (answer : Spoken) (now : Seen) (new : List CellEvent) (outcome : Outcome) : Type 0 where
  pub tells : Tells s k answer outcome new
  pub goes : Goes C w s k head content J outcome (with_want answer now)
  pub dialogs : dialogs_of w new ≡ spoken_at s outcome ++ dialogs_of w old

-- A whole dialog at a cell, or what came in its place, is what became of an Accept. The board showed no incarnation above `most`; and the worker's dialogs in what it had seen of the cell are all that it had there.
abbrev pub DialogsAreOutcomes : Type 0
DialogsAreOutcomes = (who : Asker) (most : ℕ) (head content : List ℕ) (k s : ℕ) (old : List CellEvent) (before after : Standing) (J now : Seen) (answer : Spoken)
    → before.service ≡ s → dialogs_of who.worker before.past ≡ dialogs_of who.worker old → Dialogs who (λ shown. shown ≤ most) head content k before J answer after now
    → (outcome : Outcome) × Had who.config who.worker s k head content J old answer now after.past outcome

-- An Accept that was answered To(s, k), and what the worker then had of the cell of s, are a piece. It saw nothing of another cell meanwhile.
abbrev pub VisitsArePieces : Type 0
VisitsArePieces = (C : Config) (w : ℕ) (path head content : List ℕ) (s k : ℕ) (before : List (Entry OkdEvent)) (mid now : Seen) (answer : Spoken) (outcome : Outcome) (J K : Sights)
    → AtOkd w (okd.Accept path) J.columns before mid → accept_verdict C before path ≡ way.To s k
    → Had C w s k head content mid (cell_seen J s) answer now (cell_seen K s) outcome
    → K.columns ≡ with_want answer now → K.launcher ≡ J.launcher → K.cells ≡ slice_set J.cells s (cell_seen K s)
    → GoesOn C w (Accepted path head content outcome ∷ []) J K

-- The Request of the dialog that became of an Accept carries the head and the content that were asked with.
abbrev pub OutcomesCarryRequests : Type 0
OutcomesCarryRequests = (C : Config) (w s k : ℕ) (head content : List ℕ) (J : Seen) (outcome : Outcome) (now : Seen) → Goes C w s k head content J outcome now → OutcomeCarries head content outcome
