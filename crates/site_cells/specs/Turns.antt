-- What one turn at a cell makes of it, and tells the number that took it.
use Rattle.std.specs.Prelude.{◌≡◌, ◌<◌, ℕ, List, ◌∷◌, Option, option_map}
use Rattle.okws_base.specs.Turns.{GrowsBy}
use Rattle.okws_outer.specs.Wire.{Wire}
use Rattle.frame_codec.specs.declared.frame.ServerFrame.{ServerFrame}
use Rattle.frame_codec.specs.declared.frame.ServiceFrame.{ServiceFrame}
use Rattle.frame_codec.specs.declared.frame.ServiceFrame.TheVariants as said
use Rattle.http_front.specs.Replies.{Replied}
use Rattle.monitor_model.specs.declared.record.CellEvent.{CellEvent}
use Rattle.monitor_model.specs.declared.record.CellEvent.TheVariants as cell
use Rattle.monitor_model.specs.declared.record.Dialog.{Dialog}
use Rattle.monitor_model.specs.declared.record.End.TheVariants as end
use Rattle.monitor_model.specs.Cell.{incarnation, last_booted}
use Rattle.monitor_model.specs.Seen.{Seen}
use Rattle.service_cell.specs.Asking.{Asker}
use Rattle.service_cell.specs.Dialogs.{Dialogs}
use Rattle.service_cell.specs.Ending.{EndsIn}
use Rattle.service_cell.specs.Standing.{Standing}
use Rattle.service_cell.specs.Steps.{Boots, retired}
use Rattle.service_cell.specs.declared.answer.Spoken.{Spoken}
use Rattle.service_cell.specs.declared.answer.Spoken.TheVariants as spoken
use Rattle.site_cells.specs.Held.{by_event}
use Rattle.site_cells.specs.declared.answer.Launched.{Launched}

-- The cell of service s as number n finds it when its turn comes: others may have entered since it saw these events. Number k launches.
pub record IsFound (k s n : ℕ) (seen : List CellEvent) (c : Standing) : Type 0 where
  pub service_is : c.service ≡ s
  pub grows : GrowsBy (by_event k) n seen c.past

-- The frame of a Reply with these parts.
abbrev pub reply_frame : Replied → ServiceFrame
reply_frame r = said.Reply r.status r.content_type r.location r.content

-- The last event is a dialog that ended in a Reply.
abbrev pub HasReplied : List CellEvent → Type 0
HasReplied J = (d : Dialog) × (before : List CellEvent) × (J ≡ cell.Dialog d ∷ before) × (d.end ≡ end.Reply)

-- It does, where a dialog is answered so.
abbrev pub RepliedIf : Spoken → List CellEvent → Type 0
RepliedIf spoken.Reply J = HasReplied J
RepliedIf (spoken.Crashed why) J = Unit {0}
RepliedIf (spoken.Missed wanted is) J = Unit {0}
RepliedIf (spoken.Superseded k shown) J = Unit {0}
RepliedIf spoken.NoMemory J = Unit {0}

-- The last event is a dialog that ended in the Reply with these parts.
abbrev pub EndsInReply : Replied → List CellEvent → Type 0
EndsInReply r J = (d : Dialog) × (before : List CellEvent) × (J ≡ cell.Dialog d ∷ before) × EndsIn (reply_frame r) d

-- Where a dialog is answered so, these are the parts of the Reply in which the last event, a dialog, ended.
abbrev pub GivesLast : Spoken → Replied → List CellEvent → Type 0
GivesLast spoken.Reply r J = EndsInReply r J
GivesLast (spoken.Crashed why) r J = Unit {0}
GivesLast (spoken.Missed wanted is) r J = Unit {0}
GivesLast (spoken.Superseded k shown) r J = Unit {0}
GivesLast spoken.NoMemory r J = Unit {0}

-- A whole dialog in one turn at the cell of service s, where the worker had seen these of its events, and J of the columns: then it has seen these, the cell's own to the last one, and `now` of the columns.
pub record HasTalked (k : ℕ) (who : Asker) (shows : ℕ → Type 0) (head content : List ℕ) (wanted s : ℕ) (old : List CellEvent) (J : Seen) (answer : Spoken) (new : List CellEvent) (now : Seen) : Type 0 where
  pub before : Standing
  pub after : Standing
  pub found : IsFound k s who.worker old before
  pub talks : Dialogs who shows head content wanted before J answer after now
  pub seen_is : new ≡ after.past

-- An incarnation was booted at the cell of service s in one turn, or not, by who launches, number k. It had left the cell without one, and finds it so; a link that it had left there comes back.
pub record HasLaunched {L : Type 0} (wire : L → Wire) (k : ℕ) (link : L) (boot : ServerFrame) (number s : ℕ) (old : List CellEvent) (answer : Launched L) (new : List CellEvent) : Type 0 where
  pub before : Standing
  pub after : Standing
  pub found : IsFound k s k old before
  pub empty : incarnation before.past ≡ 0
  pub later : last_booted before.past < number
  pub boots : Boots wire link boot number (retired before) answer.booting after
  pub left : option_map wire answer.left ≡ before.link
  pub seen_is : new ≡ after.past

-- The cell of service s was retired in one turn, by who launches, number k, and its link was taken out. Incarnation `was` was there, 0 for none.
pub record HasRetired {L : Type 0} (wire : L → Wire) (k s : ℕ) (old : List CellEvent) (was : ℕ) (link : Option L) (new : List CellEvent) : Type 0 where
  pub before : Standing
  pub found : IsFound k s k old before
  pub was_is : was ≡ incarnation before.past
  pub taken : option_map wire link ≡ before.link
  pub seen_is : new ≡ (retired before).past
