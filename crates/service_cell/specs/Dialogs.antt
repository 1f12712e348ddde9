-- A whole dialog of a cell: what its worker sees, what the cell enters, and how its link goes.
use Rattle.std.specs.Prelude.{◌≡◌, ◌≢◌, ◌≤◌, ◌<◌, ℕ, ◌-◌, List, [], ◌∷◌, ◌++◌, Option, Some, None, ◌⊎◌, suc}
use Rattle.std.specs.Io.KnownBytes.{IsAtEnd}
use Rattle.okws_base.specs.declared.limit.TheConstants.{MOST_FRAMES}
use Rattle.frame_codec.specs.declared.frame.ServiceFrame.TheVariants as said
use Rattle.frame_codec.specs.declared.frame.ServerFrame.TheVariants as frame
use Rattle.okws_outer.specs.Wire.{Wire}
use Rattle.frame_link.specs.Next.{AreLeft}
use Rattle.monitor_model.specs.declared.verdict.Push.{Push}
use Rattle.monitor_model.specs.declared.record.Item.{Item}
use Rattle.monitor_model.specs.declared.record.Item.TheVariants.{Said}
use Rattle.monitor_model.specs.declared.record.End.{End}
use Rattle.monitor_model.specs.declared.record.End.TheVariants as end
use Rattle.monitor_model.specs.declared.record.CellEvent.TheVariants as cell
use Rattle.monitor_model.specs.declared.record.Own.TheVariants as own
use Rattle.monitor_model.specs.Cell.{incarnation}
use Rattle.monitor_model.specs.Course.{IsAnswered, IsDialog, opening, heard_text, said_count, said_text}
use Rattle.monitor_model.specs.Seen.{Seen, noted}
use Rattle.service_cell.specs.Asking.{Asker, Drains}
use Rattle.service_cell.specs.Standing.{Open, Standing, speaker, going, finished, Passes, Fails, left_of}
use Rattle.service_cell.specs.Steps.{crash_end, IsCurrent}
use Rattle.service_cell.specs.declared.answer.Spoken.{Spoken}
use Rattle.service_cell.specs.declared.answer.Spoken.TheVariants as spoken

-- How a cell's link goes in a dialog with these items that ends so: all that was said was taken, and all that was heard was put.
-- Superseded: before anything, or so. BadFrame: these bytes were taken behind it, and those are left; Ended: none are left.
-- LinkFault: the link failed; some bytes were taken behind it, and a prefix of what was due was put. Starved: some bytes were taken behind it.
abbrev pub GoesOver : Option Wire → Option Wire → List ℕ → List ℕ → List ℕ → List Item → End → Type 0
GoesOver old new since left due items end.Reply = Passes old new (said_text items) (heard_text items)
GoesOver old new since left due items (end.Superseded shown) = ((items ≡ []) × (new ≡ old)) ⊎ Passes old new (said_text items) (heard_text items)
GoesOver old new since left due items end.BadFrame = Passes old new (said_text items ++ since) (heard_text items) × AreLeft (left_of new) left
GoesOver old new since left due items end.Ended = Passes old new (said_text items) (heard_text items) × IsAtEnd (left_of new)
GoesOver old new since left due items end.LinkFault = (taken : List ℕ) × Fails old new (said_text items ++ taken) (heard_text items) due
GoesOver old new since left due items end.FrameLimit = Passes old new (said_text items) (heard_text items)
GoesOver old new since left due items end.Starved = (taken : List ℕ) × Passes old new (said_text items ++ taken) (heard_text items)

-- The cell has one dialog more, with these items, this end, and what was due as its link failed: a whole dialog of the incarnation that was there with this request, from what its worker had seen, J, to what it has seen then.
pub record HasDialog (who : Asker) (head content : List ℕ) (c : Standing) (J : Seen) (items : List Item) (how : End) (d : Standing) (now : Seen) : Type 0 where
  pub since : List ℕ
  pub left : List ℕ
  pub due : List ℕ
  pub follows : IsDialog who.config (speaker c who.worker) since left due head content (noted J (own.Dialog c.service)) items how now
  pub entered : d ≡ finished c who.worker items how due d.link
  pub link : GoesOver c.link d.link since left due items how

-- How the dialog of the incarnation that was there ends: its answer is its end. The board showed no greater incarnation, or one that superseded it.
abbrev pub EndsAs : Asker → (ℕ → Type 0) → List ℕ → List ℕ → Standing → Seen → Spoken → Standing → Seen → Type 0
EndsAs who shows head content c J spoken.Reply d now =
    IsCurrent shows (incarnation c.past) × (status : ℕ) × (content_type location text : List ℕ) × (before : List Item)
    × HasDialog who head content c J (Said (said.Reply status content_type location text) ∷ before) end.Reply d now
EndsAs who shows head content c J (spoken.Crashed why) d now =
    IsCurrent shows (incarnation c.past) × (items : List Item) × HasDialog who head content c J items (crash_end why) d now
EndsAs who shows head content c J (spoken.Superseded k shown) d now =
    (k ≡ incarnation c.past) × (k < shown) × shows shown × (items : List Item) × HasDialog who head content c J items (end.Superseded shown) d now
EndsAs who shows head content c J (spoken.Missed asked is) d now = ⊥
EndsAs who shows head content c J spoken.NoMemory d now = ⊥

-- What `dialog` answers to a request that wants an incarnation, from the cell c and what its worker had seen, J, to the cell and what it has seen then.
-- Reply, Crashed, Superseded: the wanted incarnation was there, and the cell has the dialog that ended so. Missed: another one is there. NoMemory: all is as before.
abbrev pub Dialogs : Asker → (ℕ → Type 0) → List ℕ → List ℕ → ℕ → Standing → Seen → Spoken → Standing → Seen → Type 0
Dialogs who shows head content wanted c J spoken.Reply d now = (wanted ≡ incarnation c.past) × EndsAs who shows head content c J spoken.Reply d now
Dialogs who shows head content wanted c J (spoken.Crashed why) d now = (wanted ≡ incarnation c.past) × EndsAs who shows head content c J (spoken.Crashed why) d now
Dialogs who shows head content wanted c J (spoken.Superseded k shown) d now =
    (wanted ≡ incarnation c.past) × EndsAs who shows head content c J (spoken.Superseded k shown) d now
Dialogs who shows head content wanted c J (spoken.Missed asked is) d now =
    (asked ≡ wanted) × (is ≡ incarnation c.past) × (wanted ≢ is)
    × (d ≡ record c { past = cell.Missed who.worker wanted is ∷ c.past }) × (now ≡ noted J (own.Missed c.service wanted is))
Dialogs who shows head content wanted c J spoken.NoMemory d now = (d ≡ c) × (now ≡ J)

-- The dialog of request n is open at the cell x, and follows so far: from the cell c and what its worker had seen, J, at its beginning.
pub record Talks (who : Asker) (n : ℕ) (head content : List ℕ) (c : Standing) (J : Seen) (x : Standing) (now : Seen) : Type 0 where
  pub items : List Item
  pub newest : List Item
  pub pushes : List Push
  pub mid : Seen
  pub drains : Drains who c.service (incarnation c.past) J pushes mid
  pub answered : IsAnswered who.config (speaker c who.worker) (opening pushes (frame.Request head content)) mid items now
  pub few : said_count items ≤ MOST_FRAMES
  pub is_open : x ≡ going c n who.worker items newest x.link
  pub link : Passes c.link x.link (said_text items) (heard_text items)

-- How many frames more may be said in an open dialog, and one.
abbrev pub may_say : Option Open → ℕ
may_say None = 0
may_say (Some o) = suc MOST_FRAMES - said_count o.items
