-- What a run prints of its dialogs.
use Rattle.std.specs.Prelude.{◌≡◌, ℕ, Bool, true, false, List, [], ◌∷◌, ◌++◌, Option, Some, None, Result, Ok, Err, flat_map, reverse, slice_get}
use Rattle.std.specs.declared.alloc.AllocError.{AllocError}
use Rattle.okws_base.specs.declared.crash.Cause.TheVariants as cause
use Rattle.okws_plan.specs.declared.configuration.Config.{Config}
use Rattle.okws_plan.specs.declared.script.Line.{Line}
use Rattle.okws_outer.specs.Printing.{Printer, PrintsOn, PrintsFront}
use Rattle.monitor_model.specs.declared.record.CellEvent.{CellEvent}
use Rattle.monitor_model.specs.declared.record.CellEvent.TheVariants as cell
use Rattle.monitor_model.specs.declared.record.Item.{Item}
use Rattle.monitor_model.specs.declared.record.Item.TheVariants.{Heard, Said}
use Rattle.monitor_model.specs.Answering.{end_response}
use Rattle.monitor_model.specs.Cell.{incarnation}
use Rattle.monitor_model.specs.Script.{Advances, Begun, Does, GoesOn, IsReady}
use Rattle.monitor_model.specs.Stage.{Stage, Opened, Asked, stand, heard_line}
use Rattle.service_cell.specs.Standing.{Open, Standing}
use Rattle.service_cell.specs.declared.answer.Advanced.{Advanced}
use Rattle.service_cell.specs.declared.answer.Advanced.TheVariants as advanced
use Rattle.okws_play.specs.Run.{Run, at_stage}

-- The response of the dialog that ended last, where the last event is a dialog.
abbrev pub last_response : List CellEvent → List ℕ → List ℕ
last_response [] method = []
last_response (cell.Boot k ∷ J) method = []
last_response (cell.Retired ∷ J) method = []
last_response (cell.Missed worker wanted is ∷ J) method = []
last_response (cell.Dialog d ∷ J) method = end_response d.end d.items method
last_response (cell.Speaking worker items ∷ J) method = []

-- What is printed of an item: a frame that was heard.
abbrev pub item_text : Config → ℕ → ℕ → Item → List ℕ
item_text C s k (Heard frame) = heard_line C s k frame
item_text C s k (Said frame) = []

-- What is printed of items, one after the other.
abbrev pub items_text : Config → ℕ → ℕ → List Item → List ℕ
items_text C s k items = flat_map (item_text C s k) items

-- A step ended its dialog, though memory was not refused.
abbrev pub closes : Advanced → Bool
closes advanced.Goes = false
closes advanced.Reply = true
closes (advanced.Superseded k shown) = true
closes (advanced.Crashed cause.BadFrame) = true
closes (advanced.Crashed cause.Ended) = true
closes (advanced.Crashed cause.LinkFault) = true
closes (advanced.Crashed cause.FrameLimit) = true
closes (advanced.Crashed cause.Starved) = false

-- The items of the last step of an open dialog, the newest first.
abbrev pub newest_of : Option Open → List Item
newest_of None = []
newest_of (Some o) = o.newest

-- What is printed of the last step of a cell's open dialog, the oldest item first.
abbrev pub newest_text : Config → Standing → List ℕ
newest_text C c = items_text C c.service (incarnation c.past) (reverse (newest_of c.open_dialog))

-- The cell of s goes on, from one run to another, and what that prints is printed; where memory is refused a front of it is.
abbrev pub RunsAs : ℕ → Run → Printer → Printer → Result (Unit {0}) AllocError → Run → Type 0
RunsAs s run before after (Ok done) now =
    (steps : ℕ) × (text : List ℕ) × GoesOn run.config s steps run.stage text now.stage × (now ≡ at_stage run now.stage) × PrintsOn before after text
RunsAs s run before after (Err e) now = (steps : ℕ) × (text : List ℕ) × (later : Stage) × GoesOn run.config s steps run.stage text later × PrintsFront before after text

-- One step of the open dialog of s; where memory is refused, a front of what the cell prints that goes on is printed.
abbrev pub StepsAs : ℕ → Run → Printer → Printer → Result (Unit {0}) AllocError → Run → Type 0
StepsAs s run before after (Ok done) now =
    (opened : Opened) × (text : List ℕ) × ((stand run.stage s).open_dialog ≡ Some opened) × IsReady (stand run.stage s) × Advances run.config s opened run.stage text now.stage
    × (now ≡ at_stage run now.stage) × PrintsOn before after text
StepsAs s run before after (Err e) now = RunsAs s run before after (Err e) now

-- The dialog of request n begins, which goes to incarnation k of s.
abbrev pub BeginsAs : ℕ → ℕ → ℕ → Run → Printer → Printer → Result (Unit {0}) AllocError → Run → Type 0
BeginsAs n s k run before after (Ok done) now =
    (asked : Asked) × (text : List ℕ) × (slice_get run.stage.requests n ≡ Some asked) × Begun run.config n s k asked run.stage text now.stage
    × (now ≡ at_stage run now.stage) × PrintsOn before after text
BeginsAs n s k run before after (Err e) now =
    (asked : Asked) × (text : List ℕ) × (later : Stage) × (slice_get run.stage.requests n ≡ Some asked) × Begun run.config n s k asked run.stage text later × PrintsFront before after text

-- A line does what it does, and what it prints is printed; where memory is refused a front of it is.
abbrev pub DoesAs : Line → Run → Printer → Printer → Result (Unit {0}) AllocError → Run → Type 0
DoesAs line run before after (Ok done) now = (text : List ℕ) × Does run.config run.seed line run.stage text now.stage × (now ≡ at_stage run now.stage) × PrintsOn before after text
DoesAs line run before after (Err e) now = (text : List ℕ) × (later : Stage) × Does run.config run.seed line run.stage text later × PrintsFront before after text
