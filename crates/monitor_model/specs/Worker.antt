-- A worker's list, piece by piece, against the journals and cells of the record.
use Rattle.std.specs.Prelude.{◌≡◌, ℕ, ◌<◌, Bool, false, List, [], ◌∷◌, ◌==◌, Option, Some, length, reverse, slice_get, slice_index_or, count_by, replicate}
use Rattle.okws_base.specs.Past.{Grows}
use Rattle.okws_base.specs.declared.journal.Entry.{Entry}
use Rattle.okws_plan.specs.declared.configuration.Config.{Config}
use Rattle.okws_plan.specs.declared.event.OkdEvent.{OkdEvent}
use Rattle.okws_plan.specs.declared.event.OkdEvent.TheVariants as okd
use Rattle.okws_plan.specs.declared.event.PubdEvent.{PubdEvent}
use Rattle.okws_plan.specs.declared.event.PubdEvent.TheVariants as pubd
use Rattle.okws_plan.specs.declared.event.LauncherEvent.{LauncherEvent}
use Rattle.monitor_model.specs.declared.verdict.Way.{Way}
use Rattle.monitor_model.specs.declared.verdict.Way.TheVariants as way
use Rattle.monitor_model.specs.declared.record.Own.{Own}
use Rattle.monitor_model.specs.declared.record.Own.TheVariants as own
use Rattle.monitor_model.specs.declared.record.Dialog.{Dialog}
use Rattle.monitor_model.specs.declared.record.Record.{Record}
use Rattle.monitor_model.specs.Okd.{accept_verdict}
use Rattle.monitor_model.specs.Seen.{Seen, AtOkd, AtPubd, AtLauncher, noted, proxy_past}
use Rattle.monitor_model.specs.Course.{IsDialog}
use Rattle.monitor_model.specs.Cell.{dialogs_of}
use Rattle.monitor_model.specs.Merged.{cell_past}

-- What became of a connection after okd's Accept.
pub data Outcome : Type 0 where
  Unowned : Outcome
  IsDown : Outcome
  IsMissed : Outcome
  WantsMemory : Outcome
  Spoke : (s k : ℕ) → (d : Dialog) → Outcome

-- A piece of a worker's list.
pub data Piece : Type 0 where
  Accepted : (path head content : List ℕ) → (outcome : Outcome) → Piece
  Published : (t : ℕ) → (content : List ℕ) → Piece
  Launched : (event : LauncherEvent) → Piece
  Wants : Piece

-- The item is a dialog at cell s.
abbrev pub is_dialog_at : ℕ → Own → Bool
is_dialog_at s (own.Dialog t) = t == s
is_dialog_at s _ = false

-- The worker's next dialog at cell s, with its incarnation: the i-th such of its list is the i-th of the cell that names it.
abbrev pub next_dialog : Record → ℕ → ℕ → List Own → Option (ℕ × Dialog)
next_dialog R w s items = slice_get (reverse (dialogs_of w (cell_past R s))) (count_by (is_dialog_at s) items)

-- The dialog of the piece, if it has one, is this.
abbrev pub WentTo : Config → Record → ℕ → ℕ → ℕ → List ℕ → List ℕ → Seen → Outcome → Seen → Type 0
WentTo C R w s k head content J Unowned now = ⊥
WentTo C R w s k head content J IsDown now = ⊥
WentTo C R w s k head content J IsMissed now = (is : ℕ) × (now ≡ noted J (own.Missed s k is))
WentTo C R w s k head content J WantsMemory now = now ≡ noted J own.NoMemory
WentTo C R w s k head content J (Spoke t j d) now =
    (t ≡ s) × (j ≡ k) × (next_dialog R w s J.own ≡ Some (k, d)) × (since left : List ℕ)
    × IsDialog C (record { worker = w; service = s; incarnation = k }) since left d.due head content (noted J (own.Dialog s)) d.items d.end now

-- After an Accept that is answered To(s, k) follows at once a Missed of cell s that wanted k, NoMemory, or a dialog and then the entries of that dialog; after another answer nothing.
abbrev pub Follows : Config → Record → ℕ → Way → List ℕ → List ℕ → Seen → Outcome → Seen → Type 0
Follows C R w way.NotOwned head content J outcome now = (outcome ≡ Unowned) × (now ≡ J)
Follows C R w (way.Down s) head content J outcome now = (outcome ≡ IsDown) × (now ≡ J)
Follows C R w (way.To s k) head content J outcome now = WentTo C R w s k head content J outcome now

-- What one piece of the list is.
abbrev pub IsPiece : Config → Record → ℕ → Piece → Seen → Seen → Type 0
IsPiece C R w (Accepted path head content outcome) J now =
    (before : List (Entry OkdEvent)) × (mid : Seen) × AtOkd w (okd.Accept path) J before mid × Follows C R w (accept_verdict C before path) head content mid outcome now
IsPiece C R w (Published t content) J now = (before : List (Entry PubdEvent)) × AtPubd w (pubd.Publish t content) J before now
IsPiece C R w (Launched event) J now = (before : List (Entry LauncherEvent)) × AtLauncher w event J before now
IsPiece C R w Wants J now = now ≡ noted J own.NoMemory

-- What a worker has seen at first.
abbrev pub nothing_seen : ℕ → Seen
nothing_seen proxies = record { okd = []; proxies = replicate proxies []; pubd = []; oklogd = []; launcher = []; own = [] }

-- The pieces, the newest first, lead from nothing to what the worker has seen at last.
abbrev pub Lives : Config → Record → ℕ → List Piece → Seen → Type 0
Lives C R w [] now = now ≡ nothing_seen (length R.proxies)
Lives C R w (piece ∷ pieces) now = (mid : Seen) × Lives C R w pieces mid × IsPiece C R w piece mid now

-- What the worker has seen is what the record's journals begin with, but for what others entered later.
pub record IsLeft (R : Record) (w : ℕ) (now : Seen) : Type 0 where
  pub okd : Grows w now.okd R.okd
  pub proxies : (p : ℕ) → p < length R.proxies → Grows w (proxy_past now.proxies p) (proxy_past R.proxies p)
  pub pubd : Grows w now.pubd R.pubd
  pub oklogd : Grows w now.oklogd R.oklogd
  pub launchers : Grows w now.launcher R.launcher

-- A worker's list is made of these pieces, and of nothing else.
pub record IsWorker (C : Config) (R : Record) (w : ℕ) (pieces : List Piece) (items : List Own) : Type 0 where
  pub seen : Seen
  pub lives : Lives C R w pieces seen
  pub items_are : items ≡ seen.own
  pub left : IsLeft R w seen

-- Each worker's list is made of pieces, and so each of its dialogs follows what it had seen.
pub record AreWorkers (C : Config) (R : Record) : Type 0 where
  pub pieces : ℕ → List Piece
  pub workers : (w : ℕ) → w < length R.workers → IsWorker C R w (pieces w) (slice_index_or R.workers w [])
