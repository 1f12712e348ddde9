-- A worker's list, piece by piece, where a piece that spoke tells its dialog itself, so that no record is needed.
use Rattle.std.specs.Prelude.{◌≡◌, ℕ, List, [], ◌∷◌, ◌++◌, ◌==◌, if◌then◌else◌, length}
use Rattle.okws_base.specs.declared.journal.Entry.{Entry}
use Rattle.okws_plan.specs.declared.configuration.Config.{Config}
use Rattle.okws_plan.specs.declared.event.OkdEvent.{OkdEvent}
use Rattle.okws_plan.specs.declared.event.OkdEvent.TheVariants as okd
use Rattle.okws_plan.specs.declared.event.PubdEvent.{PubdEvent}
use Rattle.okws_plan.specs.declared.event.PubdEvent.TheVariants as pubd
use Rattle.okws_plan.specs.declared.event.LauncherEvent.{LauncherEvent}
use Rattle.monitor_model.specs.declared.verdict.Way.{Way}
use Rattle.monitor_model.specs.declared.verdict.Way.TheVariants as way
use Rattle.monitor_model.specs.declared.record.Dialog.{Dialog}
use Rattle.monitor_model.specs.declared.record.Own.TheVariants as own
use Rattle.monitor_model.specs.Course.{IsDialog}
use Rattle.monitor_model.specs.Okd.{accept_verdict}
use Rattle.monitor_model.specs.Seen.{Seen, AtOkd, AtPubd, AtLauncher, noted}
use Rattle.monitor_model.specs.Worker.{Outcome, Unowned, IsDown, IsMissed, WantsMemory, Spoke, Piece, Accepted, Published, Launched, Wants, nothing_seen}

-- What became of an Accept that was answered To(s, k): a Missed of cell s that wanted k was noted, or NoMemory; or a dialog with incarnation k of s followed, which is the one that is told.
abbrev pub Goes : Config → ℕ → ℕ → ℕ → List ℕ → List ℕ → Seen → Outcome → Seen → Type 0
Goes C w s k head content J Unowned now = ⊥
Goes C w s k head content J IsDown now = ⊥
Goes C w s k head content J IsMissed now = (is : ℕ) × (now ≡ noted J (own.Missed s k is))
Goes C w s k head content J WantsMemory now = now ≡ noted J own.NoMemory
Goes C w s k head content J (Spoke t j d) now =
    (t ≡ s) × (j ≡ k) × (since left : List ℕ)
    × IsDialog C (record { worker = w; service = s; incarnation = k }) since left d.due head content (noted J (own.Dialog s)) d.items d.end now

-- The same of an Accept that was answered this way; after NotOwned and Down nothing follows.
abbrev pub GoesBy : Config → ℕ → Way → List ℕ → List ℕ → Seen → Outcome → Seen → Type 0
GoesBy C w way.NotOwned head content J outcome now = (outcome ≡ Unowned) × (now ≡ J)
GoesBy C w (way.Down s) head content J outcome now = (outcome ≡ IsDown) × (now ≡ J)
GoesBy C w (way.To s k) head content J outcome now = Goes C w s k head content J outcome now

-- What one piece of worker w's list is.
abbrev pub LeadsBy : Config → ℕ → Piece → Seen → Seen → Type 0
LeadsBy C w (Accepted path head content outcome) J now =
    (before : List (Entry OkdEvent)) × (mid : Seen) × AtOkd w (okd.Accept path) J before mid × GoesBy C w (accept_verdict C before path) head content mid outcome now
LeadsBy C w (Published t content) J now = (before : List (Entry PubdEvent)) × AtPubd w (pubd.Publish t content) J before now
LeadsBy C w (Launched event) J now = (before : List (Entry LauncherEvent)) × AtLauncher w event J before now
LeadsBy C w Wants J now = now ≡ noted J own.NoMemory

-- The pieces, the newest first, lead from what worker w had seen to what it has seen now.
abbrev pub Leads : Config → ℕ → List Piece → Seen → Seen → Type 0
Leads C w [] J now = now ≡ J
Leads C w (piece ∷ pieces) J now = (mid : Seen) × Leads C w pieces J mid × LeadsBy C w piece mid now

-- The dialog that became of an Accept, if it is one at cell s, with its incarnation.
abbrev pub spoken : ℕ → Outcome → List (ℕ × Dialog)
spoken s Unowned = []
spoken s IsDown = []
spoken s IsMissed = []
spoken s WantsMemory = []
spoken s (Spoke t k d) = if t == s then (k, d) ∷ [] else []

-- The same of a piece.
abbrev pub spoken_by : ℕ → Piece → List (ℕ × Dialog)
spoken_by s (Accepted path head content outcome) = spoken s outcome
spoken_by s (Published t content) = []
spoken_by s (Launched event) = []
spoken_by s Wants = []

-- The dialogs at cell s that the pieces tell, the newest first, each with its incarnation.
abbrev pub spoken_in : ℕ → List Piece → List (ℕ × Dialog)
spoken_in s [] = []
spoken_in s (piece ∷ pieces) = spoken_by s piece ++ spoken_in s pieces

-- A worker lived so: the pieces, the newest first, lead from nothing to what it has seen at last, and the dialogs at each cell that they tell are these.
pub record LivesWith (dialogs : ℕ → List (ℕ × Dialog)) (C : Config) (w : ℕ) (pieces : List Piece) (now : Seen) : Type 0 where
  pub leads : Leads C w pieces (nothing_seen (length C.proxies)) now
  pub dialogs_are : (s : ℕ) → dialogs s ≡ spoken_in s pieces
