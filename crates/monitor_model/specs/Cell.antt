-- A cell's journal, the newest first: its incarnation, what it may enter, and what its incarnations heard.
use Rattle.std.specs.Prelude.{◌≡◌, ◌≢◌, ℕ, ◌<◌, Bool, true, false, IsFalse, List, [], ◌∷◌, ◌++◌, ◌==◌, max, map, if◌then◌else◌}
use Rattle.token_core.specs.Token.{token_of}
use Rattle.okws_plan.specs.Configuration.{proxies_of}
use Rattle.okws_plan.specs.declared.configuration.Config.{Config}
use Rattle.frame_codec.specs.Spelling.{server_spelling}
use Rattle.frame_codec.specs.declared.frame.ServerFrame.{ServerFrame}
use Rattle.frame_codec.specs.declared.frame.ServerFrame.TheVariants as frame
use Rattle.monitor_model.specs.declared.record.CellEvent.{CellEvent}
use Rattle.monitor_model.specs.declared.record.CellEvent.TheVariants as cell
use Rattle.monitor_model.specs.declared.record.CellEvent.TheVariants.{Boot, Retired, Missed}
use Rattle.monitor_model.specs.declared.record.Dialog.{Dialog}
use Rattle.monitor_model.specs.declared.record.End.{End}
use Rattle.monitor_model.specs.declared.record.End.TheVariants as end
use Rattle.monitor_model.specs.Course.{heard_text, said_text}

-- Reply and Superseded leave the incarnation; every other end empties the cell.
abbrev pub after_end : End → ℕ → ℕ
after_end end.Reply k = k
after_end (end.Superseded shown) k = k
after_end end.BadFrame k = 0
after_end end.Ended k = 0
after_end end.LinkFault k = 0
after_end end.FrameLimit k = 0
after_end end.Starved k = 0

-- The cell's incarnation: that of the last Boot, or 0 before any Boot and after Retired and each end that empties the cell.
abbrev pub incarnation : List CellEvent → ℕ
incarnation [] = 0
incarnation (Boot k ∷ J) = k
incarnation (Retired ∷ J) = 0
incarnation (Missed worker wanted is ∷ J) = incarnation J
incarnation (cell.Dialog d ∷ J) = after_end d.end (incarnation J)
incarnation (cell.Speaking worker items ∷ J) = incarnation J

-- The greatest incarnation that was booted, 0 for none.
abbrev pub last_booted : List CellEvent → ℕ
last_booted [] = 0
last_booted (Boot k ∷ J) = max k (last_booted J)
last_booted (Retired ∷ J) = last_booted J
last_booted (Missed worker wanted is ∷ J) = last_booted J
last_booted (cell.Dialog d ∷ J) = last_booted J
last_booted (cell.Speaking worker items ∷ J) = last_booted J

-- An incarnation that superseded incarnation k is above it.
abbrev pub IsShownAbove : ℕ → End → Type 0
IsShownAbove k (end.Superseded shown) = k < shown
IsShownAbove k end.Reply = Unit {0}
IsShownAbove k end.BadFrame = Unit {0}
IsShownAbove k end.Ended = Unit {0}
IsShownAbove k end.LinkFault = Unit {0}
IsShownAbove k end.FrameLimit = Unit {0}
IsShownAbove k end.Starved = Unit {0}

-- Dialogs and Retired stand only where the cell has an incarnation, and what superseded a dialog is above that; a Boot only where it has none, and above every Boot before; a Missed carries the incarnation that is, and another that was wanted.
abbrev pub MayStand : List CellEvent → CellEvent → Type 0
MayStand J (Boot k) = (incarnation J ≡ 0) × (last_booted J < k)
MayStand J Retired = incarnation J ≢ 0
MayStand J (Missed worker wanted is) = (is ≡ incarnation J) × (wanted ≢ is)
MayStand J (cell.Dialog d) = (incarnation J ≢ 0) × IsShownAbove (incarnation J) d.end
MayStand J (cell.Speaking worker items) = incarnation J ≢ 0

-- The last event is a dialog that lacks its end.
abbrev pub is_speaking : List CellEvent → Bool
is_speaking [] = false
is_speaking (Boot k ∷ J) = false
is_speaking (Retired ∷ J) = false
is_speaking (Missed worker wanted is ∷ J) = false
is_speaking (cell.Dialog d ∷ J) = false
is_speaking (cell.Speaking worker items ∷ J) = true

-- The cell's law: each event fits those before it, and only the last dialog may lack its end.
abbrev pub CellLaw : List CellEvent → Type 0
CellLaw [] = Unit {0}
CellLaw (e ∷ J) = CellLaw J × IsFalse (is_speaking J) × MayStand J e

-- The Boot frame of incarnation k of s: one token for each proxy where s has a grant, ascending. The tokens are those of the run's seed.
abbrev pub boot_frame : Config → List ℕ → ℕ → ℕ → ServerFrame
boot_frame C seed s k = frame.Boot s k (map (λ (p : ℕ). record { proxy = p; token = token_of seed s k p }) (proxies_of C s))

-- What one event of a cell, on the events J before it, let incarnation k of s hear.
abbrev pub heard_at : Config → List ℕ → ℕ → ℕ → List CellEvent → CellEvent → List ℕ
heard_at C seed s k J (Boot j) = if j == k then server_spelling (boot_frame C seed s k) else []
heard_at C seed s k J Retired = []
heard_at C seed s k J (Missed worker wanted is) = []
heard_at C seed s k J (cell.Dialog d) = if incarnation J == k then heard_text d.items else []
heard_at C seed s k J (cell.Speaking worker items) = if incarnation J == k then heard_text items else []

-- What incarnation k of s heard: the spellings of its Boot and of all that its dialogs heard, in order.
abbrev pub heard : Config → List ℕ → ℕ → ℕ → List CellEvent → List ℕ
heard C seed s k [] = []
heard C seed s k (e ∷ J) = heard C seed s k J ++ heard_at C seed s k J e

-- What incarnation k said in one event of a cell, on the events J before it.
abbrev pub said_at : ℕ → List CellEvent → CellEvent → List ℕ
said_at k J (Boot j) = []
said_at k J Retired = []
said_at k J (Missed worker wanted is) = []
said_at k J (cell.Dialog d) = if incarnation J == k then said_text d.items else []
said_at k J (cell.Speaking worker items) = if incarnation J == k then said_text items else []

-- What incarnation k said in whole frames, in order.
abbrev pub said : ℕ → List CellEvent → List ℕ
said k [] = []
said k (e ∷ J) = said k J ++ said_at k J e

-- The dialogs of worker w at the cell, the newest first, each with its incarnation.
abbrev pub dialogs_of : ℕ → List CellEvent → List (ℕ × Dialog)
dialogs_of w [] = []
dialogs_of w (Boot k ∷ J) = dialogs_of w J
dialogs_of w (Retired ∷ J) = dialogs_of w J
dialogs_of w (Missed worker wanted is ∷ J) = dialogs_of w J
dialogs_of w (cell.Dialog d ∷ J) = if d.worker == w then (incarnation J, d) ∷ dialogs_of w J else dialogs_of w J
dialogs_of w (cell.Speaking worker items ∷ J) = dialogs_of w J
