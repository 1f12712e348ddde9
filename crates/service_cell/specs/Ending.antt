-- How a dialog that ended stands in memory, and the last one beside its cell's journal.
use Rattle.std.specs.Prelude.{◌≡◌, ◌≤◌, ◌<◌, ℕ, List, [], ◌∷◌, Option, Some, None}
use Rattle.frame_codec.specs.Spelling.{ServiceHasSpelling}
use Rattle.frame_codec.specs.declared.frame.ServiceFrame.{ServiceFrame}
use Rattle.frame_codec.specs.declared.frame.ServiceFrame.TheVariants as said
use Rattle.monitor_model.specs.declared.record.Item.{Item}
use Rattle.monitor_model.specs.declared.record.Item.TheVariants.{Heard, Said}
use Rattle.monitor_model.specs.declared.record.End.{End}
use Rattle.monitor_model.specs.declared.record.End.TheVariants as end
use Rattle.monitor_model.specs.declared.record.CellEvent.{CellEvent}
use Rattle.monitor_model.specs.declared.record.CellEvent.TheVariants as cell
use Rattle.monitor_model.specs.declared.record.Dialog.{Dialog}

-- The frame is a Reply.
abbrev pub IsReply : ServiceFrame → Type 0
IsReply (said.Reply status content_type location content) = Unit {0}
IsReply (said.Open p shown) = ⊥
IsReply (said.Call p n q args) = ⊥
IsReply (said.Get name) = ⊥
IsReply (said.Log text) = ⊥

-- The frame is a Reply, and has a spelling: its fields are those that a service may say.
abbrev pub IsSpelledReply : ServiceFrame → Type 0
IsSpelledReply frame = IsReply frame × ServiceHasSpelling frame

-- The last item is a Reply, and has a spelling.
abbrev pub EndsInReply : List Item → Type 0
EndsInReply [] = ⊥
EndsInReply (Heard frame ∷ items) = ⊥
EndsInReply (Said frame ∷ items) = IsSpelledReply frame

-- A dialog that ended so has no Reply.
abbrev pub HasNoReply : End → Type 0
HasNoReply end.Reply = ⊥
HasNoReply (end.Superseded shown) = Unit {0}
HasNoReply end.BadFrame = Unit {0}
HasNoReply end.Ended = Unit {0}
HasNoReply end.LinkFault = Unit {0}
HasNoReply end.FrameLimit = Unit {0}
HasNoReply end.Starved = Unit {0}

-- The items of a dialog, with its Reply, if it isn't among them yet, as the last.
abbrev pub with_reply : Option ServiceFrame → List Item → List Item
with_reply None items = items
with_reply (Some reply) items = Said reply ∷ items

-- A dialog that ended so has its Reply beside its items, and a place for it; or has none.
abbrev pub FitsEnd : Option ServiceFrame → ℕ → End → Type 0
FitsEnd None room how = HasNoReply how
FitsEnd (Some reply) room how = IsSpelledReply reply × (0 < room) × (how ≡ end.Reply)

-- The dialog ended in this Reply, as it was read.
abbrev pub EndsIn : ServiceFrame → Dialog → Type 0
EndsIn reply d = IsSpelledReply reply × (d.end ≡ end.Reply) × (before : List Item) × (d.items ≡ Said reply ∷ before)

-- The events, with the last dialog, if it isn't among them yet, as the last.
abbrev pub with_last : Option Dialog → List CellEvent → List CellEvent
with_last None J = J
with_last (Some d) J = cell.Dialog d ∷ J

-- How many places it takes.
abbrev pub places : Option Dialog → ℕ
places None = 0
places (Some d) = 1

-- The event is no dialog.
abbrev pub IsOther : CellEvent → Type 0
IsOther (cell.Boot k) = Unit {0}
IsOther cell.Retired = Unit {0}
IsOther (cell.Missed worker wanted is) = Unit {0}
IsOther (cell.Dialog d) = ⊥
IsOther (cell.Speaking worker items) = Unit {0}

-- The last event is no dialog.
abbrev pub EndsOtherwise : List CellEvent → Type 0
EndsOtherwise [] = Unit {0}
EndsOtherwise (e ∷ J) = IsOther e

-- Where the last dialog isn't at hand, the last event is none.
abbrev pub IsAtHand : Option Dialog → List CellEvent → Type 0
IsAtHand None J = EndsOtherwise J
IsAtHand (Some d) J = Unit {0}

-- The last event is this dialog, or none.
abbrev pub IsLast : Option Dialog → List CellEvent → Type 0
IsLast None J = EndsOtherwise J
IsLast (Some d) J = (before : List CellEvent) × (J ≡ cell.Dialog d ∷ before)

-- The last dialog has its place, and is at hand.
pub record FitsLast (last : Option Dialog) (J : List CellEvent) (room : ℕ) : Type 0 where
  pub placed : places last ≤ room
  pub at_hand : IsAtHand last J
